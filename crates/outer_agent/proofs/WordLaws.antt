-- What a manager says of itself is not too long.
use Rattle.std.proofs.Common.{◌≡◌, ℕ, ◌+◌, ◌<◌, ◌≤◌, Bool, true, false, List, [], ◌∷◌, ◌++◌, length, codes, refl, sym, ◌∙◌, ap, arith, append_assoc, length-append, nat_le, if◌then◌else◌}
use Rattle.std.specs.Prelude.{flat_map}
use Rattle.std.specs.Str.{bytes_eq}
use Rattle.std.proofs.lemmas.Bool.{le-leb, leb-true, lt-leb}
use Rattle.std.proofs.lemmas.Grind.{flat_map-append}
use Rattle.ice_values.specs.Properties.{array8, array8_list, property}
use Rattle.ice_values.specs.declared.numbers.Endian.TheVariants.{Lsb}
use Rattle.ice_values.specs.declared.property.Property.{Property}
use Rattle.ice_values.proofs.LengthLaws.{length-listed}
use Rattle.ice_values.proofs.WordLaws.{property_short, spelled, spelled-cons, word_more}
use Rattle.xsmp_messages.specs.Messages.{IsTooLong}
use Rattle.xsmp_messages.specs.declared.message.XsmpMessage.TheVariants.{SetProperties}
use Rattle.outer_agent.specs.Words.{AreFew, command_words, own_properties, program, restart_words, without_id}

-- ---- without the pair of the ID the words are no more

fewer_by : (is_id : Bool) (name value : List ℕ) (words : List (List ℕ)) → spelled Lsb (without_id words) ≤ spelled Lsb words → spelled Lsb (if is_id then without_id words else (name ∷ value ∷ without_id words)) ≤ spelled Lsb (name ∷ value ∷ words)
fewer_by true name value words rest = omega (arith, rest, spelled-cons Lsb name (value ∷ words), spelled-cons Lsb value words)
fewer_by false name value words rest = omega (arith, rest, spelled-cons Lsb name (value ∷ words), spelled-cons Lsb value words, spelled-cons Lsb name (value ∷ without_id words), spelled-cons Lsb value (without_id words))

fewer : (words : List (List ℕ)) → spelled Lsb (without_id words) ≤ spelled Lsb words
fewer [] = omega arith
fewer (name ∷ []) = omega arith
fewer (name ∷ value ∷ words) = fewer_by (bytes_eq name (codes "--outer-id")) name value words (fewer words)

fewer_command : (words : List (List ℕ)) → spelled Lsb (command_words words) ≤ spelled Lsb words
fewer_command [] = omega arith
fewer_command (first ∷ pairs) = omega (arith, fewer pairs, spelled-cons Lsb first pairs, spelled-cons Lsb first (without_id pairs))

pub few_left : (words : List (List ℕ)) → AreFew words → AreFew (command_words words)
few_left words few = omega (arith, few, fewer_command words, length-listed (array8 Lsb) Lsb words, length-listed (array8 Lsb) Lsb (command_words words))

-- ---- one word after another

-- two words behind the others
pub two_behind : (xs ys : List (List ℕ)) (a b : List ℕ) → ((xs ++ ys) ++ a ∷ []) ++ b ∷ [] ≡ (xs ++ ys) ++ (a ∷ b ∷ [])
two_behind xs ys a b = append_assoc (xs ++ ys) (a ∷ []) (b ∷ [])

-- ---- lengths

restart_short : (command : List (List ℕ)) (id : List ℕ) → spelled Lsb (restart_words command id) ≤ spelled Lsb command + length id + 60
restart_short command id =
    let last : List (List ℕ) = codes "--outer-id" ∷ id ∷ [] in
    let one : spelled Lsb (codes "smnest" ∷ command) ≤ 6 + 11 + spelled Lsb command = word_more Lsb (codes "smnest") command in
    let two : spelled Lsb last ≤ 10 + 11 + spelled Lsb (id ∷ []) = word_more Lsb (codes "--outer-id") (id ∷ []) in
    let none : spelled Lsb [] ≡ 0 = refl in
    omega (
      arith,
      ap length (flat_map-append (array8 Lsb) (codes "smnest" ∷ command) last),
      length-append (flat_map (array8 Lsb) (codes "smnest" ∷ command)) (flat_map (array8 Lsb) last),
      one,
      two,
      none,
      word_more Lsb id [],
    )

abbrev restart : List (List ℕ) → List ℕ → Property
restart command id = record { name = codes "RestartCommand"; kind = codes "LISTofARRAY8"; values = restart_words command id }

program_short : length (property Lsb program) ≤ 60
program_short =
    let one : length (property Lsb program) ≤ 7 + 6 + spelled Lsb (codes "smnest" ∷ []) + 30 = property_short Lsb (codes "Program") (codes "ARRAY8") (codes "smnest" ∷ []) in
    let two : spelled Lsb (codes "smnest" ∷ []) ≤ 6 + 11 + spelled Lsb [] = word_more Lsb (codes "smnest") [] in
    let none : spelled Lsb [] ≡ 0 = refl in
    omega (arith, one, two, none)

abbrev encoded : List Property → ℕ
encoded items = length (flat_map (property Lsb) items)

encoded-cons : (p : Property) (items : List Property) → encoded (p ∷ items) ≡ length (property Lsb p) + encoded items
encoded-cons p items = length-append (property Lsb p) (flat_map (property Lsb) items)

-- a list that is too long
long_list : (items : List Property) → IsTooLong Lsb (SetProperties items) → 65528 < encoded items
long_list items long = omega (arith, length-listed (property Lsb) Lsb items, long)

one_short : ¬ (IsTooLong Lsb (SetProperties (program ∷ [])))
one_short = λ long.
    let none : encoded [] ≡ 0 = refl in
    let items : List Property = program ∷ [] in
    absurd (over (encoded items) (length (property Lsb program)) (encoded-cons program [] ∙ ap (λ n. length (property Lsb program) + n) none) program_short (long_list items long))
  where
    over : (all one : ℕ) → all ≡ one + 0 → one ≤ 60 → 65528 < all → ⊥
    over all one is few many = omega arith

two_short : (command : List (List ℕ)) (id : List ℕ) → AreFew command → length id ≤ 512 → ¬ (IsTooLong Lsb (SetProperties (program ∷ restart command id ∷ [])))
two_short command id few short = λ long.
    let items : List Property = program ∷ restart command id ∷ [] in
    let none : encoded [] ≡ 0 = refl in
    let whole : encoded items ≡ length (property Lsb program) + (length (property Lsb (restart command id)) + 0) =
    encoded-cons program (restart command id ∷ []) ∙ ap (λ n. length (property Lsb program) + n) (encoded-cons (restart command id) [] ∙ ap (λ n. length (property Lsb (restart command id)) + n) none) in
    let second : length (property Lsb (restart command id)) ≤ 14 + 12 + spelled Lsb (restart_words command id) + 30 = property_short Lsb (codes "RestartCommand") (codes "LISTofARRAY8") (restart_words command id) in
    let words : spelled Lsb command ≤ 32760 = omega (arith, few, length-listed (array8 Lsb) Lsb command) in
    absurd (over (encoded items) (length (property Lsb program)) (length (property Lsb (restart command id))) (spelled Lsb (restart_words command id)) (spelled Lsb command) (length id) whole program_short second (restart_short command id) words short (long_list items long))
  where
    over : (all one two three words id : ℕ) → all ≡ one + (two + 0) → one ≤ 60 → two ≤ 14 + 12 + three + 30 → three ≤ words + id + 60 → words ≤ 32760 → id ≤ 512 → 65528 < all → ⊥
    over all one two three words id is a b c d e many = omega arith

-- what the manager sets can be said
pub own_short : (command : List (List ℕ)) (id : List ℕ) → AreFew command → ¬ (IsTooLong Lsb (SetProperties (own_properties command id)))
own_short command id few = by (nat_le (length id) 512) refl
  where
    by : (is_word : Bool) → nat_le (length id) 512 ≡ is_word → ¬ (IsTooLong Lsb (SetProperties (if is_word then (program ∷ restart command id ∷ []) else (program ∷ []))))
    by true is = two_short command id few (leb-true (length id) 512 is)
    by false is = one_short

-- what is set under a long ID, and under another
pub own-long : (command : List (List ℕ)) (id : List ℕ) (set : List Property) → 512 < length id → set ≡ program ∷ [] → set ≡ own_properties command id
own-long command id set long is = is ∙ ap (λ (is_word : Bool). if is_word then (program ∷ restart command id ∷ []) else (program ∷ [])) (sym (lt-leb (length id) 512 long))

pub own-word : (command : List (List ℕ)) (id : List ℕ) (set : List Property) → length id ≤ 512 → set ≡ program ∷ restart command id ∷ [] → set ≡ own_properties command id
own-word command id set short is = is ∙ ap (λ (is_word : Bool). if is_word then (program ∷ restart command id ∷ []) else (program ∷ [])) (sym (le-leb (length id) 512 short))

-- whether words are few
pub few_of : (words : List (List ℕ)) (count : ℕ) → count ≡ length (array8_list Lsb words) → count ≤ 32768 → AreFew words
few_of words count is few = omega (arith, is, few)

pub many_of : (words : List (List ℕ)) → 65536 < length (array8_list Lsb words) → AreFew words → ⊥
many_of words many few = omega (arith, many, few)
