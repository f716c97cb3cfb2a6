-- The sessions of a book, one after the other.
use Rattle.std.proofs.Common.{◌≡◌, ℕ, ◌+◌, ◌<◌, ◌≤◌, Bool, true, false, cond, List, [], ◌∷◌, ◌++◌, length, take, drop, get_or, refl, sym, ap, ap₂, ◌∙◌, append_assoc}
use Rattle.std.specs.Prelude.{flat_map}
use Rattle.std.specs.Str.{bytes_eq}
use Rattle.std.proofs.lemmas.Grind.{flat_map-append}
use Rattle.std.proofs.lemmas.List.{append-nil, drop_all, take-append-drop}
use lib.Pointwise.{bytes_decides}
use Rattle.checkpoint_records.specs.Books.{entries_of, sessions, stored, with_session}
use Rattle.checkpoint_records.specs.declared.records.Book.{Book}
use Rattle.checkpoint_records.specs.declared.records.Entry.{Entry}
use Rattle.checkpoint_records.specs.declared.records.Named.{Named}
use Rattle.checkpoint_records.proofs.NameLaws.{LacksName, taken_out}
use Rattle.checkpoint_changes.specs.Differences.{gone, placed}
use Rattle.checkpoint_changes.specs.declared.changes.Change.{Change}
use Rattle.checkpoint_changes.proofs.ApplyLaws.{next_item}
use Rattle.checkpoint_changes.proofs.MapLaws.{other_stored}

abbrev named : List ℕ → List Entry → Named
named name entries = record { name = name; entries = entries }

-- ---- what is made of one session after the other

module _ (f : Named → List Change) where
  parted : (name : List ℕ) (entries : List Entry) (others : List Named) (place : ℕ) → f (named name []) ≡ [] → with_session (named name entries) others ≡ take place others ++ named name entries ∷ drop place others
      → flat_map f (stored name entries others) ≡ flat_map f (take place others) ++ (f (named name entries) ++ flat_map f (drop place others))
  parted name [] others place none is =
      ap (flat_map f) (sym (take-append-drop place others)) ∙ flat_map-append f (take place others) (drop place others)
      ∙ ap (λ (l : List Change). flat_map f (take place others) ++ (l ++ flat_map f (drop place others))) (sym none)
  parted name (e ∷ entries) others place none is = ap (flat_map f) is ∙ flat_map-append f (take place others) (named name (e ∷ entries) ∷ drop place others)

  -- those in front of the chosen session, this one, and those behind it
  pub all_walked : (name : List ℕ) (entries items : List Entry) (others rest before behind : List Named) (place : ℕ) (start one two three here : List Change) → items ≡ entries → rest ≡ others → before ≡ take place rest → behind ≡ drop place rest
      → f (named name []) ≡ [] → with_session (named name items) rest ≡ take place rest ++ named name items ∷ drop place rest → one ≡ start ++ flat_map f before → two ≡ one ++ here → here ≡ f (named name items) → three ≡ two ++ flat_map f behind
      → three ≡ start ++ flat_map f (stored name entries others)
  all_walked name entries items others rest before behind place start one two three here is_items is_rest front back none is first second same third =
      let a : List Change = flat_map f before in
      let b : List Change = flat_map f behind in
      let parts : a ++ (here ++ b) ≡ flat_map f (stored name entries others) =
      ap₂ (λ (xs ys : List Named). flat_map f xs ++ (here ++ flat_map f ys)) front back ∙ ap (λ (l : List Change). flat_map f (take place rest) ++ (l ++ flat_map f (drop place rest))) same
      ∙ sym (parted name items rest place none is) ∙ ap₂ (λ (es : List Entry) (os : List Named). flat_map f (stored name es os)) is_items is_rest in
      third ∙ ap (λ (l : List Change). l ++ b) (second ∙ ap (λ (l : List Change). l ++ here) first) ∙ append_assoc (start ++ a) here b ∙ append_assoc start a (here ++ b) ∙ ap (λ (l : List Change). start ++ l) parts

  pub each_walked : (all : List Named) (i : ℕ) (x : Named) (old new here whole : List Change) → i < length all → x ≡ get_or all i x → new ≡ old ++ here → here ≡ f x → old ++ flat_map f (drop i all) ≡ whole → new ++ flat_map f (drop (i + 1) all) ≡ whole
  each_walked all i x old new here whole lt is more same so_far =
      let left : List Change = flat_map f (drop (i + 1) all) in
      ap (λ (l : List Change). l ++ left) (more ∙ ap (λ (l : List Change). old ++ l) same) ∙ append_assoc old (f x) left ∙ ap (λ (l : List Change). old ++ l) (ap (flat_map f) (sym (next_item i all x lt is))) ∙ so_far

  pub end_walked : (all : List Named) (i : ℕ) (delta whole : List Change) → length all ≤ i → delta ++ flat_map f (drop i all) ≡ whole → delta ≡ whole
  end_walked all i delta whole past so_far = sym (append-nil delta) ∙ ap (λ (l : List Named). delta ++ flat_map f l) (sym (drop_all i all past)) ∙ so_far

-- what goes of a session
abbrev pub gone_of : List Named → Named → List Change
gone_of new session = gone session.entries (entries_of session.name new)

pub gone_here : (new : List Named) (x : Named) (name : List ℕ) (items left : List Entry) → name ≡ x.name → items ≡ x.entries → left ≡ entries_of name new → gone items left ≡ gone_of new x
gone_here new x name items left is_name is_items is_left = ap₂ gone is_items (is_left ∙ ap (λ (n : List ℕ). entries_of n new) is_name)

-- what comes into a session
abbrev pub placed_of : List Named → Named → List Change
placed_of old session = placed session.name (entries_of session.name old) session.entries

pub placed_here : (old : List Named) (x : Named) (name : List ℕ) (before items : List Entry) → name ≡ x.name → items ≡ x.entries → before ≡ entries_of name old → placed x.name before items ≡ placed_of old x
placed_here old x name before items is_name is_items is_before = ap₂ (placed x.name) (is_before ∙ ap (λ (n : List ℕ). entries_of n old) is_name) is_items

pub none_placed : (name : List ℕ) (old : List Entry) → placed name old [] ≡ []
none_placed name [] = refl
none_placed name (e ∷ old) = refl

-- ---- the entries under a name

pub among_here : (name : List ℕ) (all : List Named) (i : ℕ) (x : Named) (text : List ℕ) (items : List Entry) → i < length all → x ≡ get_or all i x → text ≡ x.name → items ≡ x.entries → bytes_eq name text ≡ true → entries_of name (drop i all) ≡ entries_of name all
    → items ≡ entries_of name all
among_here name all i x text items lt is is_text is_items same so_far =
    let e : bytes_eq name x.name ≡ true = ap (bytes_eq name) (sym is_text) ∙ same in
    is_items ∙ sym (ap (entries_of name) (next_item i all x lt is) ∙ ap (λ (b : Bool). cond b x.entries (entries_of name (drop (i + 1) all))) e) ∙ so_far

pub among_later : (name : List ℕ) (all : List Named) (i : ℕ) (x : Named) (text : List ℕ) → i < length all → x ≡ get_or all i x → text ≡ x.name → bytes_eq name text ≡ false → entries_of name (drop i all) ≡ entries_of name all
    → entries_of name (drop (i + 1) all) ≡ entries_of name all
among_later name all i x text lt is is_text other so_far =
    let e : bytes_eq name x.name ≡ false = ap (bytes_eq name) (sym is_text) ∙ other in
    sym (ap (entries_of name) (next_item i all x lt is) ∙ ap (λ (b : Bool). cond b x.entries (entries_of name (drop (i + 1) all))) e) ∙ so_far

pub among_none : (name : List ℕ) (all : List Named) (i : ℕ) → length all ≤ i → entries_of name (drop i all) ≡ entries_of name all → [] ≡ entries_of name all
among_none name all i past so_far = ap (entries_of name) (sym (drop_all i all past)) ∙ so_far

pub own_in : (book : Book) (name text : List ℕ) (items : List Entry) → LacksName book.name book.others → text ≡ book.name → items ≡ book.entries → bytes_eq name text ≡ true → items ≡ entries_of name (sessions book)
own_in book name text items apart is_text is_items same =
    let e : name ≡ book.name = (bytes_decides name text).0 same ∙ is_text in
    is_items ∙ sym (taken_out book.name book.entries book.others apart).0 ∙ ap (λ (n : List ℕ). entries_of n (sessions book)) (sym e)

pub other_in : (book : Book) (name text : List ℕ) (items : List Entry) (all : List Named) → text ≡ book.name → all ≡ book.others → bytes_eq name text ≡ false → items ≡ entries_of name all → items ≡ entries_of name (sessions book)
other_in book name text items all is_text is_all other is =
    is ∙ ap (entries_of name) is_all ∙ sym (other_stored name book.name book.entries book.others (ap (bytes_eq name) (sym is_text) ∙ other))
