-- A command that a table gives keeps the rules for pending commands.
use Rattle.std.proofs.Common.{◌≡◌, refl, ℕ, ◌+◌, ◌<◌, ◌≤◌, Bool, true, false, cond, ◌&&◌, List, [], ◌∷◌, ◌++◌, length, sym, ap, subst, ◌∙◌, arith, inl, inr, length-append}
use Rattle.std.specs.Prelude.{Option, Some, None, codes, option_and_then, if◌then◌else◌, ◌⊎◌}
use Rattle.std.specs.Option.{option_map_or}
use Rattle.std.specs.Str.{bytes_eq, is_utf8, chars}
use Rattle.std.specs.Cmp.Lexicographic.{same_text, other_text}
use Rattle.std.proofs.lemmas.Bool.{cases_lt}
use Rattle.owned_lists.specs.declared.commands.Command.{Command}
use Rattle.ice_values.specs.Properties.{array8, array8_list, property}
use Rattle.ice_values.specs.declared.numbers.Endian.TheVariants.{Lsb}
use Rattle.ice_values.specs.declared.property.Property.{Property}
use Rattle.ice_values.proofs.LengthLaws.{length-array8, length-listed}
use Rattle.xsmp_properties.specs.Tables.{is_named, find_property, encoded_len}
use Rattle.xsmp_properties.specs.Readers.{values_of_kind, values_of, is_text, directory_in, directory_of, is_variable, is_environment, in_pairs, environment_in, environment_of, are_words, command_with}
use Rattle.xsmp_properties.proofs.TableLaws.{encoded_len-cons}
use Rattle.checkpoint_records.specs.Rules.{IsTable, in_turn, command_cells, IsCommand}
use Rattle.discard_ledger.specs.Discards.{discard_of}
use Rattle.session_model.proofs.Ruled.{and-right}

-- How many bytes are under a name

abbrev len_of : Option Property → ℕ
len_of None = 0
len_of (Some p) = length (property Lsb p)

abbrev named_len : List ℕ → List Property → ℕ
named_len name items = len_of (find_property name items)

len-cond : (b : Bool) (p : Property) (o : Option Property) → len_of (cond b (Some p) o) ≡ cond b (length (property Lsb p)) (len_of o)
len-cond true p o = refl
len-cond false p o = refl

three-at : (x y z : Bool) (n a b c total : ℕ) → (x ≡ true → y ≡ true → ⊥) → (x ≡ true → z ≡ true → ⊥) → (y ≡ true → z ≡ true → ⊥) → a + b + c ≤ total → cond x n a + cond y n b + cond z n c ≤ n + total
three-at true true z n a b c total p q r k = absurd (p refl refl)
three-at true false true n a b c total p q r k = absurd (q refl refl)
three-at true false false n a b c total p q r k = omega (arith, k)
three-at false true true n a b c total p q r k = absurd (r refl refl)
three-at false true false n a b c total p q r k = omega (arith, k)
three-at false false true n a b c total p q r k = omega (arith, k)
three-at false false false n a b c total p q r k = omega (arith, k)

-- one name only fits a property
one-name : (a b : List ℕ) (p : Property) → bytes_eq a b ≡ false → is_named a p ≡ true → is_named b p ≡ true → ⊥
one-name a b p e f g = other_text a b (sym e) (same_text a p.name (sym f) ∙ sym (same_text b p.name (sym g)))

-- three properties of different names have no more bytes than the table
three : (a b c : List ℕ) (items : List Property) → bytes_eq a b ≡ false → bytes_eq a c ≡ false → bytes_eq b c ≡ false → named_len a items + named_len b items + named_len c items ≤ encoded_len items
three a b c [] ab ac bc = omega arith
three a b c (p ∷ items) ab ac bc =
    let k : named_len a items + named_len b items + named_len c items ≤ encoded_len items = three a b c items ab ac bc in
    let all : cond (is_named a p) (length (property Lsb p)) (named_len a items) + cond (is_named b p) (length (property Lsb p)) (named_len b items) + cond (is_named c p) (length (property Lsb p)) (named_len c items) ≤ length (property Lsb p) + encoded_len items =
    three-at (is_named a p) (is_named b p) (is_named c p) (length (property Lsb p)) (named_len a items) (named_len b items) (named_len c items) (encoded_len items) (one-name a b p ab) (one-name a c p ac) (one-name b c p bc) k in
    omega (arith, all, encoded_len-cons p items, len-cond (is_named a p) p (find_property a items), len-cond (is_named b p) p (find_property b items), len-cond (is_named c p) p (find_property c items))

length-property : (p : Property) → length (property Lsb p) ≡ length (array8 Lsb p.name) + length (array8 Lsb p.kind) + length (array8_list Lsb p.values)
length-property p =
    omega (arith, length-append (array8 Lsb p.name ++ array8 Lsb p.kind) (array8_list Lsb p.values), length-append (array8 Lsb p.name) (array8 Lsb p.kind))

-- The parts of a command

-- a property's values, where it is of a kind, have 8 bytes fewer than the property at least
part-at : (b : Bool) (p : Property) (n : ℕ) (f : List (List ℕ) → ℕ) → f [] ≤ 8 → ((values : List (List ℕ)) → f values ≤ 8 + length (array8_list Lsb values)) → n ≡ length (property Lsb p)
    → option_map_or f (if b then Some p.values else None) 8 ≤ 8 + n
part-at true p n f z k e = omega (arith, k p.values, length-property p, e)
part-at false p n f z k e = omega arith

part : (f : List (List ℕ) → ℕ) (name kind : List ℕ) (items : List Property) → f [] ≤ 8 → ((values : List (List ℕ)) → f values ≤ 8 + length (array8_list Lsb values)) → option_map_or f (values_of name kind items) 8 ≤ 8 + named_len name items
part f name kind items z k = of_found (find_property name items) where
  of_found : (o : Option Property) → option_map_or f (option_and_then (values_of_kind kind) o) 8 ≤ 8 + len_of o
  of_found None = omega arith
  of_found (Some p) = part-at (bytes_eq kind p.kind) p (length (property Lsb p)) f z k refl

map-or : {A : Type 0} (f : List (List ℕ) → A) (g : A → ℕ) (o : Option (List (List ℕ))) (n : ℕ) (d : A) → g d ≡ n → g (option_map_or f o d) ≡ option_map_or (λ values. g (f values)) o n
map-or f g None n d e = e
map-or f g (Some values) n d e = refl

length-no-array : length (array8 Lsb []) ≡ 8
length-no-array = length-array8 Lsb []

length-one-array : (path : List ℕ) → length (array8_list Lsb (path ∷ [])) ≡ 8 + length (array8 Lsb path)
length-one-array path = length-listed (array8 Lsb) Lsb (path ∷ []) ∙ ap (λ (n : ℕ). 8 + n) (length-append (array8 Lsb path) [] ∙ omega arith)

directory-at : (b : Bool) (path : List ℕ) → length (array8 Lsb (if b then path else [])) ≤ 8 + length (array8 Lsb path)
directory-at true path = omega arith
directory-at false path = omega (arith, length-no-array)

directory-bytes : (values : List (List ℕ)) → length (array8 Lsb (directory_in values)) ≤ 8 + length (array8_list Lsb values)
directory-bytes [] = omega (arith, length-no-array)
directory-bytes (path ∷ []) = omega (arith, directory-at (is_text path) path, length-one-array path)
directory-bytes (path ∷ value ∷ values) = omega (arith, length-no-array)

directory-len : (items : List Property) → length (array8 Lsb (directory_of items)) ≤ 8 + named_len (codes "CurrentDirectory") items
directory-len items =
    let e : length (array8 Lsb (directory_of items)) ≡ option_map_or (λ values. length (array8 Lsb (directory_in values))) (values_of (codes "CurrentDirectory") (codes "ARRAY8") items) 8 =
    map-or directory_in (λ text. length (array8 Lsb text)) (values_of (codes "CurrentDirectory") (codes "ARRAY8") items) 8 [] length-no-array in
    omega (arith, e, part (λ values. length (array8 Lsb (directory_in values))) (codes "CurrentDirectory") (codes "ARRAY8") items (omega (arith, length-no-array)) directory-bytes)

turn-pairs : (values : List (List ℕ)) → is_environment values ≡ true → in_turn (in_pairs values) ≡ values
turn-pairs [] e = refl
turn-pairs (name ∷ []) e = absurd (grind arith)
turn-pairs (name ∷ value ∷ values) e = ap (λ (xs : List (List ℕ)). name ∷ value ∷ xs) (turn-pairs values (and-right (is_variable name && is_text value) (is_environment values) e))

turn-at : (b : Bool) (values : List (List ℕ)) → is_environment values ≡ b → length (array8_list Lsb (in_turn (if b then in_pairs values else []))) ≤ 8 + length (array8_list Lsb values)
turn-at true values e = let k : length (array8_list Lsb (in_turn (in_pairs values))) ≡ length (array8_list Lsb values) = ap (λ (xs : List (List ℕ)). length (array8_list Lsb xs)) (turn-pairs values e) in omega (arith, k)
turn-at false values e = omega (arith, length-listed (array8 Lsb) Lsb [])

environment-len : (items : List Property) → length (array8_list Lsb (in_turn (environment_of items))) ≤ 8 + named_len (codes "Environment") items
environment-len items =
    let none : length (array8_list Lsb []) ≡ 8 = length-listed (array8 Lsb) Lsb [] in
    let e : length (array8_list Lsb (in_turn (environment_of items))) ≡ option_map_or (λ values. length (array8_list Lsb (in_turn (environment_in values)))) (values_of (codes "Environment") (codes "LISTofARRAY8") items) 8 =
    map-or environment_in (λ pairs. length (array8_list Lsb (in_turn pairs))) (values_of (codes "Environment") (codes "LISTofARRAY8") items) 8 [] none in
    omega (arith, e, part (λ values. length (array8_list Lsb (in_turn (environment_in values)))) (codes "Environment") (codes "LISTofARRAY8") items (omega (arith, none)) (λ values. turn-at (is_environment values) values refl))

environment-at : (b : Bool) (values : List (List ℕ)) → is_environment values ≡ b → is_environment (in_turn (if b then in_pairs values else [])) ≡ true
environment-at true values e = ap (λ (xs : List (List ℕ)). is_environment xs) (turn-pairs values e) ∙ e
environment-at false values e = refl

environment-is : (o : Option (List (List ℕ))) → is_environment (in_turn (option_map_or environment_in o [])) ≡ true
environment-is None = refl
environment-is (Some values) = environment-at (is_environment values) values refl

empty-text : is_text [] ≡ true
unfolding is_utf8 chars
empty-text = refl

text-at : (b : Bool) (path : List ℕ) → is_text path ≡ b → is_text (if b then path else []) ≡ true
text-at true path e = e
text-at false path e = empty-text

directory-text : (values : List (List ℕ)) → is_text (directory_in values) ≡ true
directory-text [] = empty-text
directory-text (path ∷ []) = text-at (is_text path) path refl
directory-text (path ∷ value ∷ values) = empty-text

directory-is : (o : Option (List (List ℕ))) → is_text (option_map_or directory_in o []) ≡ true
directory-is None = empty-text
directory-is (Some values) = directory-text values

-- The whole

-- what is found is named so
found-name : (name : List ℕ) (items : List Property) (p : Property) → find_property name items ≡ Some p → is_named name p ≡ true
found-name name [] p e = absurd (grind arith)
found-name name (q ∷ items) p e = found-at (is_named name q) q (find_property name items) p refl (found-name name items p) e where
  found-at : (b : Bool) (q : Property) (rest : Option Property) (p : Property) → is_named name q ≡ b → (rest ≡ Some p → is_named name p ≡ true) → cond b (Some q) rest ≡ Some p → is_named name p ≡ true
  found-at true q rest p k f e = let same : q ≡ p = some-same q p e in subst (λ (x : Property). is_named name x ≡ true) same k where
    some-same : (q p : Property) → Some q ≡ Some p → q ≡ p
    some-same q p e = cc
  found-at false q rest p k f e = f e

words-len : (p : Property) → is_named (codes "DiscardCommand") p ≡ true → bytes_eq (codes "LISTofARRAY8") p.kind ≡ true → length (array8_list Lsb p.values) + 40 ≡ length (property Lsb p)
words-len p n k =
    let a : length (array8 Lsb p.name) ≡ 24 = ap (λ (xs : List ℕ). length (array8 Lsb xs)) (sym (same_text (codes "DiscardCommand") p.name (sym n))) ∙ length-array8 Lsb (codes "DiscardCommand") in
    let b : length (array8 Lsb p.kind) ≡ 16 = ap (λ (xs : List ℕ). length (array8 Lsb xs)) (sym (same_text (codes "LISTofARRAY8") p.kind (sym k))) ∙ length-array8 Lsb (codes "LISTofARRAY8") in
    omega (arith, a, b, length-property p)

length-command : (command : Command) → length (command_cells Lsb command) ≡ length (array8_list Lsb command.words) + length (array8 Lsb command.directory) + length (array8_list Lsb (in_turn command.environment))
length-command command =
    omega (arith, length-append (array8_list Lsb command.words ++ array8 Lsb command.directory) (array8_list Lsb (in_turn command.environment)), length-append (array8_list Lsb command.words) (array8 Lsb command.directory))

within-by : (n : ℕ) → (16384 < n) ⊎ (n ≤ 16384) → (16384 < n → ⊥) → n ≤ 16384
within-by n (inl m) k = absurd (k m)
within-by n (inr m) k = m

within : (table : List Property) → IsTable table → encoded_len table ≤ 16384
within table t = within-by (encoded_len table) (cases_lt 16384 (encoded_len table)) (λ m. t.limits (inr m))

-- the command of these values, where they are words
abbrev pub IsMaybeCommand : Option Command → Type 0
IsMaybeCommand None = Unit {0}
IsMaybeCommand (Some command) = IsCommand command

command-size : (table : List Property) (p : Property) → IsTable table → find_property (codes "DiscardCommand") table ≡ Some p → bytes_eq (codes "LISTofARRAY8") p.kind ≡ true
    → length (command_cells Lsb (record { words = p.values; directory = directory_of table; environment = environment_of table })) ≤ 16384
command-size table p t f k =
    let n : named_len (codes "DiscardCommand") table ≡ length (property Lsb p) = ap (λ (o : Option Property). len_of o) f in
    omega (
      arith,
      n,
      length-command (record { words = p.values; directory = directory_of table; environment = environment_of table }),
      words-len p (found-name (codes "DiscardCommand") table p f) k,
      directory-len table,
      environment-len table,
      three (codes "DiscardCommand") (codes "CurrentDirectory") (codes "Environment") table refl refl refl,
      within table t,
    )

command-words : (b : Bool) (table : List Property) (p : Property) → IsTable table → find_property (codes "DiscardCommand") table ≡ Some p → bytes_eq (codes "LISTofARRAY8") p.kind ≡ true → are_words p.values ≡ b
    → IsMaybeCommand (if b then Some (record { words = p.values; directory = directory_of table; environment = environment_of table }) else None)
command-words true table p t f k w = record {
  words = w;
  directory = directory-is (values_of (codes "CurrentDirectory") (codes "ARRAY8") table);
  environment = environment-is (values_of (codes "Environment") (codes "LISTofARRAY8") table);
  size = command-size table p t f k;
}
command-words false table p t f k w = tt

command-kind : (b : Bool) (table : List Property) (p : Property) → IsTable table → find_property (codes "DiscardCommand") table ≡ Some p → bytes_eq (codes "LISTofARRAY8") p.kind ≡ b → IsMaybeCommand (option_and_then (command_with table) (if b then Some p.values else None))
command-kind true table p t f k = command-words (are_words p.values) table p t f k refl
command-kind false table p t f k = tt

command-found : (o : Option Property) (table : List Property) → IsTable table → find_property (codes "DiscardCommand") table ≡ o → IsMaybeCommand (option_and_then (command_with table) (option_and_then (values_of_kind (codes "LISTofARRAY8")) o))
command-found None table t f = tt
command-found (Some p) table t f = command-kind (bytes_eq (codes "LISTofARRAY8") p.kind) table p t f refl

pub discard-command : (table : List Property) → IsTable table → IsMaybeCommand (discard_of table)
discard-command table t = command-found (find_property (codes "DiscardCommand") table) table t refl
