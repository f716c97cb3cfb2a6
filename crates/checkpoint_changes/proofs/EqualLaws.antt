-- What the tests of equality decide.
use Rattle.std.proofs.Common.{◌≡◌, Bool, true, false, ◌&&◌, inl, inr, List, [], ◌∷◌, refl, sym, ap, ap₂, ◌∙◌}
use Rattle.std.specs.List.{AllByRecursion, IsDistinct}
use Rattle.std.specs.Prelude.{ℕ}
use Rattle.std.specs.Str.{bytes_eq}
use Rattle.std.specs.Cmp.Lexicographic.{pointwise}
use Rattle.std.proofs.lemmas.Bool.{and_parts, cases_Bool, both_ways}
use lib.Pointwise.{pointwise_decides, bytes_decides}
use Rattle.owned_lists.specs.declared.commands.Command.{Command}
use Rattle.ice_values.specs.declared.property.Property.{Property}
use Rattle.xsmp_properties.specs.Tables.{equal_property}
use Rattle.checkpoint_records.specs.Books.{same_command}
use Rattle.checkpoint_records.specs.declared.records.Entry.{Entry}
use Rattle.checkpoint_changes.specs.Plain.{equal_command, equal_entry, equal_pair}

abbrev pub DecidesEqual : {A : Type 0} → (A → A → Bool) → Type 0
DecidesEqual {A} eq = (x y : A) → (eq x y ≡ true → x ≡ y) × (x ≡ y → eq x y ≡ true)

all_true : (a b : Bool) → a ≡ true → b ≡ true → (a && b) ≡ true
all_true a b p q = rw (p, q) refl

text_own : (x : List ℕ) → bytes_eq x x ≡ true
text_own x = (bytes_decides x x).1 refl

texts_own : (xs : List (List ℕ)) → pointwise bytes_eq xs xs ≡ true
texts_own xs = (pointwise_decides bytes_decides xs xs).1 refl

property_of : List ℕ → List ℕ → List (List ℕ) → Property
property_of name kind values = record { name = name; kind = kind; values = values }

property_is : (p q : Property) → equal_property p q ≡ true → p ≡ q
unfolding property_of
property_is p q e =
    let front = and_parts (bytes_eq p.name q.name && bytes_eq p.kind q.kind) (pointwise bytes_eq p.values q.values) e in
    let names = and_parts (bytes_eq p.name q.name) (bytes_eq p.kind q.kind) front.0 in
    let name = (bytes_decides p.name q.name).0 names.0 in
    let kind = (bytes_decides p.kind q.kind).0 names.1 in
    let values = (pointwise_decides bytes_decides p.values q.values).0 front.1 in
    ap₂ (λ (n k : List ℕ). property_of n k p.values) name kind ∙ ap (property_of q.name q.kind) values

property_own : (p : Property) → equal_property p p ≡ true
property_own p = rw (text_own p.name, text_own p.kind, texts_own p.values) refl

property_decides : DecidesEqual equal_property
property_decides p q = (property_is p q, λ e. ap (equal_property p) (sym e) ∙ property_own p)

entry_of : List ℕ → List Property → Entry
entry_of id table = record { id = id; table = table }

entry_is : (e f : Entry) → equal_entry e f ≡ true → e ≡ f
unfolding entry_of
entry_is e f same =
    let parts = and_parts (bytes_eq e.id f.id) (pointwise equal_property e.table f.table) same in
    ap₂ entry_of ((bytes_decides e.id f.id).0 parts.0) ((pointwise_decides property_decides e.table f.table).0 parts.1)

entry_own : (e : Entry) → equal_entry e e ≡ true
entry_own e = rw (text_own e.id, (pointwise_decides property_decides e.table e.table).1 refl) refl

pub entry_decides : DecidesEqual equal_entry
entry_decides e f = (entry_is e f, λ same. ap (equal_entry e) (sym same) ∙ entry_own e)

pair_is : (x y : List ℕ × List ℕ) → equal_pair x y ≡ true → x ≡ y
pair_is x y e =
    let parts = and_parts (bytes_eq x.0 y.0) (bytes_eq x.1 y.1) e in
    ap₂ {C = List ℕ × List ℕ} (λ (a b : List ℕ). (a, b)) ((bytes_decides x.0 y.0).0 parts.0) ((bytes_decides x.1 y.1).0 parts.1)

pair_own : (x : List ℕ × List ℕ) → equal_pair x x ≡ true
pair_own x = rw (text_own x.0, text_own x.1) refl

pair_decides : DecidesEqual equal_pair
pair_decides x y = (pair_is x y, λ e. ap (equal_pair x) (sym e) ∙ pair_own x)

command_of : List (List ℕ) → List ℕ → List (List ℕ × List ℕ) → Command
command_of words directory environment = record { words = words; directory = directory; environment = environment }

command_is : (c d : Command) → equal_command c d ≡ true → c ≡ d
unfolding command_of
command_is c d e =
    let front = and_parts (pointwise bytes_eq c.words d.words && bytes_eq c.directory d.directory) (pointwise equal_pair c.environment d.environment) e in
    let firsts = and_parts (pointwise bytes_eq c.words d.words) (bytes_eq c.directory d.directory) front.0 in
    let words = (pointwise_decides bytes_decides c.words d.words).0 firsts.0 in
    let directory = (bytes_decides c.directory d.directory).0 firsts.1 in
    let environment = (pointwise_decides pair_decides c.environment d.environment).0 front.1 in
    ap₂ (λ (w : List (List ℕ)) (p : List ℕ). command_of w p c.environment) words directory ∙ ap (command_of d.words d.directory) environment

command_own : (c : Command) → equal_command c c ≡ true
command_own c = rw (texts_own c.words, text_own c.directory, (pointwise_decides pair_decides c.environment c.environment).1 refl) refl

pub command_decides : DecidesEqual equal_command
command_decides c d = (command_is c d, λ e. ap (equal_command c) (sym e) ∙ command_own c)

-- a test that decides equality is symmetric
pub not_same : {A : Type 0} (eq : A → A → Bool) → DecidesEqual eq → (x y : A) → eq x y ≡ false → eq y x ≡ false
not_same eq decides x y other = elim (cases_Bool (eq y x)) [
  | inl yes_it ↦ absurd (both_ways (eq x y) other ((decides x y).1 (sym ((decides y x).0 yes_it))))
  | inr it ↦ it
]

-- commands that aren't the same aren't equal
less_and : (a b c : Bool) → a ≡ false → ((a && b) && c) ≡ false
less_and a b c e = rw e refl

pub not_equal : (c d : Command) → same_command c d ≡ false → equal_command c d ≡ false
not_equal c d e = less_and (pointwise bytes_eq c.words d.words) (bytes_eq c.directory d.directory) (pointwise equal_pair c.environment d.environment) e

each_not_equal : (c : Command) (ds : List Command) → AllByRecursion (λ d. same_command c d ≡ false) ds → AllByRecursion (λ d. equal_command c d ≡ false) ds
each_not_equal c [] h = tt
each_not_equal c (d ∷ ds) h = (not_equal c d h.0, each_not_equal c ds h.1)

pub commands_apart : (ds : List Command) → IsDistinct same_command ds → IsDistinct equal_command ds
unfolding IsDistinct
commands_apart [] h = tt
commands_apart (d ∷ ds) h = (each_not_equal d ds h.0, commands_apart ds h.1)
