-- One call after another: what is to be sent, and how the callbacks are asked.
use Rattle.std.proofs.Common.{◌≡◌, ℕ, ◌+◌, ◌<◌, zero, suc, arith, List, [], ◌∷◌, ◌++◌, length, take, slice_index_or, map, Option, refl, sym, ◌∙◌, ap, append_assoc, append-nil}
use Rattle.std.specs.Prelude.{flat_map}
use Rattle.std.proofs.lemmas.Grind.{flat_map-append}
use Rattle.std.proofs.lemmas.List.{take_more}
use Rattle.client_machine.specs.declared.saves.SaveAnswer.{SaveAnswer}
use Rattle.client_engine.specs.Messages.{AreShort, spelled}
use Rattle.protocol_messages.specs.Messages.{IsTooLong}
use Rattle.protocol_messages.specs.declared.message.Message.{Message}
use Rattle.named_joiner.specs.Doing.{Begins, Desk, Does, Follows, bytes_in, bytes_of, desk}
use Rattle.named_joiner.specs.Script.{Callbacks, Entry, Says, AsksSave, AsksReasons}
use Rattle.named_joiner.specs.declared.callbacks.NamedAsk.{NamedAsk}

-- one message more was said
pub said_more : (old mid new : List ℕ) (all : List Message) (i : ℕ) (message : Message) → i < length all → message ≡ slice_index_or all i message → mid ≡ old ++ flat_map spelled (take i all) → new ≡ mid ++ spelled message → new ≡ old ++ flat_map spelled (take (i + 1) all)
said_more old mid new all i message inside is before said =
    let grown : take (i + 1) all ≡ take i all ++ message ∷ [] = take_more all i message inside ∙ ap (λ (m : Message). take i all ++ m ∷ []) (sym is) in
    let one : flat_map spelled (message ∷ []) ≡ spelled message = append-nil (spelled message) in
    let all_said : flat_map spelled (take (i + 1) all) ≡ flat_map spelled (take i all) ++ spelled message = ap (flat_map spelled) grown ∙ (flat_map-append spelled (take i all) (message ∷ []) ∙ ap (λ bs. flat_map spelled (take i all) ++ bs) one) in
    said ∙ (ap (λ bs. bs ++ spelled message) before ∙ (append_assoc old (flat_map spelled (take i all)) (spelled message) ∙ ap (λ bs. old ++ bs) (sym all_said)))

bytes-said : (ms : List Message) → bytes_in (map Says ms) ≡ flat_map spelled ms
bytes-said [] = refl
bytes-said (m ∷ ms) = ap (λ bs. spelled m ++ bs) (bytes-said ms)

module _ {S D : Type 0} (answers : S → NamedAsk → Option SaveAnswer → S → Type 0) (gives : D → Option (List (List ℕ)) → D → Type 0) where
  abbrev FollowsIn : List Entry → Callbacks S D → Callbacks S D → Type 0
  FollowsIn entries old new = Follows answers gives entries old new

  abbrev DoesIn : Desk S D → Desk S D → List Entry → Type 0
  DoesIn old new line = Does answers gives old new line

  abbrev BeginsIn : Callbacks S D → Callbacks S D → List Entry → Type 0
  BeginsIn old new line = Begins answers gives old new line

  pub follows-append : (xs ys : List Entry) (a b c : Callbacks S D) → FollowsIn xs a b → FollowsIn ys b c → FollowsIn (xs ++ ys) a c
  follows-append [] ys a b c one two = rw one at two
  follows-append (Says message ∷ xs) ys a b c one two = follows-append xs ys a b c one two
  follows-append (AsksSave ask answer ∷ xs) ys a b c one two = (one.0, one.1, follows-append xs ys (record a { save = one.0 }) b c one.2 two)
  follows-append (AsksReasons reasons ∷ xs) ys a b c one two = (one.0, one.1, follows-append xs ys (record a { die = one.0 }) b c one.2 two)

  follows-said : (ms : List Message) (a : Callbacks S D) → FollowsIn (map Says ms) a a
  follows-said [] a = refl
  follows-said (m ∷ ms) a = follows-said ms a

  pub does_none : (d : Desk S D) → DoesIn d d []
  does_none d = record { bytes = sym (append-nil d.bytes); follows = refl }

  -- these, and then those
  pub does_more : (a b c : Desk S D) (xs ys : List Entry) → DoesIn a b xs → DoesIn b c ys → DoesIn a c (xs ++ ys)
  does_more a b c xs ys one two = record {
    bytes = two.bytes ∙ (ap (λ bs. bs ++ bytes_in ys) one.bytes ∙ (append_assoc a.bytes (bytes_in xs) (bytes_in ys) ∙ ap (λ bs. a.bytes ++ bs) (sym (flat_map-append bytes_of xs ys))));
    follows = follows-append xs ys a.callbacks b.callbacks c.callbacks one.follows two.follows;
  }

  -- messages were said
  pub does_said : (old new : List ℕ) (callbacks : Callbacks S D) (ms : List Message) → new ≡ old ++ flat_map spelled ms → DoesIn (desk old callbacks) (desk new callbacks) (map Says ms)
  does_said old new callbacks ms said = record { bytes = said ∙ ap (λ bs. old ++ bs) (sym (bytes-said ms)); follows = follows-said ms callbacks }

  -- a callback was asked
  pub does_asked : (bytes : List ℕ) (old new : Callbacks S D) (entry : Entry) → bytes_of entry ≡ [] → FollowsIn (entry ∷ []) old new → DoesIn (desk bytes old) (desk bytes new) (entry ∷ [])
  does_asked bytes old new entry none follows = record { bytes = sym (append-nil bytes) ∙ ap (λ bs. bytes ++ bs) (sym (append-nil (bytes_of entry) ∙ none)); follows = follows }

  -- ---- where memory was wanting

  pub begins_none : (d : Callbacks S D) (line : List Entry) → BeginsIn d d line
  begins_none d line = record { done = []; left = line; parts = refl; follows = refl }

  -- all of these were asked
  pub begins_all : (old new : Callbacks S D) (line : List Entry) → FollowsIn line old new → BeginsIn old new line
  begins_all old new line follows = record { done = line; left = []; parts = append-nil line; follows = follows }

  -- these, and then some of those
  pub begins_more : (a b c : Callbacks S D) (xs ys : List Entry) → FollowsIn xs a b → BeginsIn b c ys → BeginsIn a c (xs ++ ys)
  begins_more a b c xs ys one two = record {
    done = xs ++ two.done;
    left = two.left;
    parts = append_assoc xs two.done two.left ∙ ap (λ (es : List Entry). xs ++ es) two.parts;
    follows = follows-append xs two.done a b c one two.follows;
  }

  -- some of these, and none of those
  pub begins_cut : (a b : Callbacks S D) (xs ys : List Entry) → BeginsIn a b xs → BeginsIn a b (xs ++ ys)
  begins_cut a b xs ys one = record {
    done = one.done;
    left = one.left ++ ys;
    parts = sym (append_assoc one.done one.left ys) ∙ ap (λ (es : List Entry). es ++ ys) one.parts;
    follows = one.follows;
  }
