-- The sockets of addresses that are read one after another.
use Rattle.std.proofs.Common.{◌≡◌, ◌≢◌, inl, inr, ℕ, List, [], ◌∷◌, ◌++◌, Option, Some, None, Result, Ok, Err, OnOk, MatchOption, Bor, refl, sym, ◌∙◌, ap, subst, append_assoc}
use Rattle.std.proofs.lemmas.List.{append-nil, append_cancel_left}
use Rattle.control_lines.specs.Parts.{IsWithout, SplitsOnce}
use Rattle.control_lines.proofs.Splitting.{without_inside}
use Rattle.session_places.specs.Addresses.{IsAt, IsBy, SplitsLast, local_word, places_for, unix_sockets, unix_word}
use Rattle.session_places.specs.Lists.{Adds, Lists, list_text}
use Rattle.session_places.specs.declared.places.SessionPlace.{SessionPlace}

-- What the rest lists, the text lists behind these sockets.
abbrev pub Goes : List ℕ → List SessionPlace → List ℕ → Type 0
Goes text places rest = (more : List SessionPlace) → Lists rest more → Lists text (places ++ more)

some_list : (address : List ℕ) (more : List (List ℕ)) → address ∷ more ≢ []
some_list address more e = absurd cc

-- an address and a comma before addresses
text_on : (address : List ℕ) (more : List (List ℕ)) → more ≢ [] → list_text (address ∷ more) ≡ address ++ (44 ∷ list_text more)
text_on address [] some = absurd (some refl)
text_on address (next ∷ more) some = refl

lists_on : (rest address after : List ℕ) (here more : List SessionPlace) → SplitsOnce 44 rest address after → IsAt address here → Lists after more → Lists rest (here ++ more)
lists_on rest address after here more split at lists = record {
  addresses = address ∷ lists.addresses;
  some = some_list address lists.addresses;
  is = split.parts ∙ (ap (λ (t : List ℕ). address ++ (44 ∷ t)) lists.is ∙ sym (text_on address lists.addresses lists.some));
  plain = (split.first, lists.plain);
  each = (here, more, at, lists.each, refl);
}

pub goes_on : (text : List ℕ) (places new : List SessionPlace) (rest address after : List ℕ) → Goes text places rest → SplitsOnce 44 rest address after → Adds address places new → Goes text new after
goes_on text places new rest address after goes split adds more lists =
    let is : new ++ more ≡ places ++ (adds.here ++ more) = ap (λ (p : List SessionPlace). p ++ more) adds.is ∙ append_assoc places adds.here more in
    subst (Lists text) (sym is) (goes (adds.here ++ more) (lists_on rest address after adds.here more split adds.at lists))

pub ends : (text : List ℕ) (places new : List SessionPlace) (rest : List ℕ) → Goes text places rest → IsWithout 44 rest → Adds rest places new → Lists text new
ends text places new rest goes without adds =
    subst (Lists text) (sym adds.is) (goes adds.here (record {
      addresses = rest ∷ [];
      some = some_list rest [];
      is = refl;
      plain = (without, tt);
      each = (adds.here, [], adds.at, refl, sym (append-nil adds.here));
    }))

-- an address that begins with another word, or whose rest has no colon, isn't by the word
pub not_by_word : (word address : List ℕ) → ((rest : List ℕ) → address ≢ word ++ rest) → (host name : List ℕ) → ¬ (IsBy word address host name)
not_by_word word address other host name by = other by.rest by.begins

pub not_by_colon : (word address rest : List ℕ) → address ≡ word ++ rest → IsWithout 58 rest → (host name : List ℕ) → ¬ (IsBy word address host name)
not_by_colon word address rest begins without host name by =
    let same = append_cancel_left word rest by.rest (sym begins ∙ by.begins) in
    without_inside 58 host name (subst (IsWithout 58) (same ∙ by.split.parts) without)

-- what parts the rest parts an address that begins with the word
pub by_split : (word address rest : List ℕ) (r : Option (Bor (List ℕ) × Bor (List ℕ))) → address ≡ word ++ rest → MatchOption r (IsWithout 58 rest) (λ p. SplitsLast 58 rest p.0.now p.1.now) → MatchOption r ((host : List ℕ) (name : List ℕ) → ¬ (IsBy word address host name)) (λ p. IsBy word address p.0.now p.1.now)
by_split word address rest None begins without = not_by_colon word address rest begins without
by_split word address rest (Some p) begins split = record { rest = rest; begins = begins; split = split }

-- a call that has done one thing has done what follows from it
pub on_ok : {A E P Q : Type 0} (r : Result A E) → (P → Q) → OnOk r P → OnOk r Q
on_ok (Ok x) follows p = follows p
on_ok (Err e) follows p = tt

pub adds_unix : (address host name : List ℕ) (old new : List SessionPlace) → IsBy unix_word address host name → new ≡ old ++ places_for address host (unix_sockets name) → Adds address old new
adds_unix address host name old new by is = record {
  here = places_for address host (unix_sockets name);
  at = inr (inl (record { host = host; name = name; by = by; is = refl }));
  is = is;
}

pub adds_none : (address : List ℕ) (places : List SessionPlace) → ((host name : List ℕ) → ¬ (IsBy local_word address host name)) → ((host name : List ℕ) → ¬ (IsBy unix_word address host name)) → Adds address places places
adds_none address places not_local not_unix = record {
  here = [];
  at = inr (inr ((λ host name. (not_local host name, not_unix host name)), refl));
  is = sym (append-nil places);
}
