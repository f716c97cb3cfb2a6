-- Pending commands, as they are read.
use Rattle.std.proofs.Common.{◌≡◌, ℕ, ◌+◌, ◌<◌, ◌≤◌, Bool, true, false, ◌&&◌, List, [], ◌∷◌, ◌++◌, length, Some, None, refl, sym, ap, ◌∙◌, append_assoc, arith, length-append}
use Rattle.std.specs.List.{list_any}
use Rattle.owned_lists.specs.declared.commands.Command.{Command}
use Rattle.ice_values.specs.Cells.{Cells, zeros}
use Rattle.ice_values.specs.Properties.{array8, IsArray8, array8_list, IsListed}
use Rattle.ice_values.specs.declared.numbers.Endian.TheVariants.{Lsb}
use Rattle.ice_values.proofs.CellLaws.{zeros-append, length-zeros}
use Rattle.xsmp_properties.specs.Readers.{is_text, are_words, is_environment, in_pairs, is_variable}
use Rattle.checkpoint_records.specs.Books.{same_command}
use Rattle.checkpoint_records.specs.Fields.{fields_cells, HaveFieldSpelling, are_of_command}
use Rattle.checkpoint_records.specs.Finding.{Finds, IsStuck}
use Rattle.checkpoint_records.specs.Parts.{ArePending}
use Rattle.checkpoint_records.specs.Rules.{in_turn, command_cells, IsCommand}
use Rattle.checkpoint_records.specs.declared.pending.CommandFields.{CommandFields}
use Rattle.checkpoint_records.proofs.FindLaws.{nothing, found_is, none_found}
use Rattle.checkpoint_records.proofs.DistinctLaws.{all_more, all_front, all_last, distinct_more, distinct_last, distinct_front, distinct_nil}
use Rattle.checkpoint_records.proofs.SpellLaws.{command_short, command_fits}

abbrev pub text_bytes : List ℕ → List ℕ
text_bytes text = zeros (array8 Lsb text)

abbrev pub IsShortText : List ℕ → Type 0
IsShortText text = IsArray8 text × (length (array8 Lsb text) ≤ 65536)

abbrev pub list_bytes : List (List ℕ) → List ℕ
list_bytes list = zeros (array8_list Lsb list)

abbrev pub IsShortList : List (List ℕ) → Type 0
IsShortList list = IsListed IsArray8 list × (length (array8_list Lsb list) ≤ 65536)

abbrev pub fields_bytes : CommandFields → List ℕ
fields_bytes fields = zeros (fields_cells fields)

-- the three fields of a command
pub fields_are : (fields : CommandFields) (rest : List ℕ) → fields_bytes fields ++ rest ≡ list_bytes fields.words ++ (text_bytes fields.directory ++ (list_bytes fields.environment ++ rest))
fields_are fields rest =
    ap (λ (l : List ℕ). l ++ rest) (zeros-append (array8_list Lsb fields.words ++ array8 Lsb fields.directory) (array8_list Lsb fields.environment)
    ∙ ap (λ (l : List ℕ). l ++ list_bytes fields.environment) (zeros-append (array8_list Lsb fields.words) (array8 Lsb fields.directory)))
    ∙ append_assoc (list_bytes fields.words ++ text_bytes fields.directory) (list_bytes fields.environment) rest
    ∙ append_assoc (list_bytes fields.words) (text_bytes fields.directory) (list_bytes fields.environment ++ rest)

module _ (bytes : List ℕ) where
  pub no_words : Finds list_bytes IsShortList bytes None → Finds fields_bytes HaveFieldSpelling bytes None
  no_words none = nothing fields_bytes HaveFieldSpelling bytes (λ fields rest fit is.
      none_found list_bytes IsShortList bytes fields.words _ none fit.words (is ∙ fields_are fields rest))

  module _ (words : List (List ℕ)) (mid : List ℕ) (finds : Finds list_bytes IsShortList bytes (Some (words, mid))) where
    same_words : (fields : CommandFields) (rest : List ℕ) → HaveFieldSpelling fields → bytes ≡ fields_bytes fields ++ rest → (words ≡ fields.words) × (mid ≡ text_bytes fields.directory ++ (list_bytes fields.environment ++ rest))
    same_words fields rest fit is = found_is list_bytes IsShortList bytes words fields.words mid _ finds fit.words (is ∙ fields_are fields rest)

    pub no_directory : Finds text_bytes IsShortText mid None → Finds fields_bytes HaveFieldSpelling bytes None
    no_directory none = nothing fields_bytes HaveFieldSpelling bytes (λ fields rest fit is.
        none_found text_bytes IsShortText mid fields.directory _ none fit.directory (same_words fields rest fit is).1)

    module _ (directory last : List ℕ) (finds_directory : Finds text_bytes IsShortText mid (Some (directory, last))) where
      same_directory : (fields : CommandFields) (rest : List ℕ) → HaveFieldSpelling fields → bytes ≡ fields_bytes fields ++ rest → (directory ≡ fields.directory) × (last ≡ list_bytes fields.environment ++ rest)
      same_directory fields rest fit is = found_is text_bytes IsShortText mid directory fields.directory last _ finds_directory fit.directory (same_words fields rest fit is).1

      pub no_environment : Finds list_bytes IsShortList last None → Finds fields_bytes HaveFieldSpelling bytes None
      no_environment none = nothing fields_bytes HaveFieldSpelling bytes (λ fields rest fit is.
          none_found list_bytes IsShortList last fields.environment rest none fit.environment (same_directory fields rest fit is).1)

      pub fields_found : (environment : List (List ℕ)) (tail : List ℕ) → Finds list_bytes IsShortList last (Some (environment, tail)) → Finds fields_bytes HaveFieldSpelling bytes (Some (record { words = words; directory = directory; environment = environment }, tail))
      fields_found environment tail finds_environment =
          let it : CommandFields = record { words = words; directory = directory; environment = environment } in
          let whole : bytes ≡ fields_bytes it ++ tail =
          finds.some.1 ∙ ap (λ (l : List ℕ). list_bytes words ++ l) (finds_directory.some.1 ∙ ap (λ (l : List ℕ). text_bytes directory ++ l) finds_environment.some.1) ∙ sym (fields_are it tail) in
          record {
            some = (record { words = finds.some.0; directory = finds_directory.some.0; environment = finds_environment.some.0 }, whole);
            only = λ fields rest fit is.
                let a = same_words fields rest fit is in
                let b = same_directory fields rest fit is in
                let d = found_is list_bytes IsShortList last environment fields.environment tail rest finds_environment fit.environment b.1 in
                rw (a.0, b.0, d.0, d.1) refl;
          }

-- ---- a command and its fields

abbrev pub command_bytes : Command → List ℕ
command_bytes command = zeros (command_cells Lsb command)

abbrev fields_of : Command → CommandFields
fields_of command = record { words = command.words; directory = command.directory; environment = in_turn command.environment }

fields_fit : (command : Command) → IsCommand command → HaveFieldSpelling (fields_of command)
fields_fit command i =
    let short = command_short command i in
    let fit = command_fits command i in
    record {
      words = (fit.words, short.for_words);
      directory = (fit.directory, short.for_directory);
      environment = (fit.environment, short.for_environment);
    }

pub pairs-again : (pairs : List (List ℕ × List ℕ)) → in_pairs (in_turn pairs) ≡ pairs
pairs-again [] = refl
pairs-again (pair ∷ pairs) = ap (λ (l : List (List ℕ × List ℕ)). pair ∷ l) (pairs-again pairs)

both_true : (a b : Bool) → (a && b) ≡ true → (a ≡ true) × (b ≡ true)
both_true true b e = (refl, e)
both_true false b e = absurd (let t : false ≡ true = e in cc)

turn-again : (values : List (List ℕ)) → is_environment values ≡ true → in_turn (in_pairs values) ≡ values
turn-again [] e = refl
turn-again (name ∷ []) e = absurd (let t : false ≡ true = e in cc)
turn-again (name ∷ value ∷ values) e =
    ap (λ (l : List (List ℕ)). name ∷ value ∷ l) (turn-again values (both_true (is_variable name && is_text value) (is_environment values) e).1)

module _ (bytes : List ℕ) where
  pub no_fields : Finds fields_bytes HaveFieldSpelling bytes None → Finds command_bytes IsCommand bytes None
  no_fields none = nothing command_bytes IsCommand bytes (λ command rest i is.
      none_found fields_bytes HaveFieldSpelling bytes (fields_of command) rest none (fields_fit command i) is)

  module _ (fields : CommandFields) (tail : List ℕ) (finds : Finds fields_bytes HaveFieldSpelling bytes (Some (fields, tail))) where
    same_fields : (command : Command) (rest : List ℕ) → IsCommand command → bytes ≡ command_bytes command ++ rest → (fields ≡ fields_of command) × (tail ≡ rest)
    same_fields command rest i is = found_is fields_bytes HaveFieldSpelling bytes fields (fields_of command) tail rest finds (fields_fit command i) is

    length-whole : length bytes ≡ length (fields_cells fields) + length tail
    length-whole = ap length finds.some.1 ∙ length-append (fields_bytes fields) tail ∙ ap (λ (n : ℕ). n + length tail) (length-zeros (fields_cells fields))

    pub too_long : 16384 + length tail < length bytes → Finds command_bytes IsCommand bytes None
    too_long long = nothing command_bytes IsCommand bytes (λ command rest i is.
        let same = same_fields command rest i is in
        let len : length (fields_cells fields) ≡ length (command_cells Lsb command) = ap (λ (f : CommandFields). length (fields_cells f)) same.0 in
        omega (arith, long, length-whole, len, i.size))

    pub bad_fields : are_of_command fields ≡ false → Finds command_bytes IsCommand bytes None
    bad_fields bad = nothing command_bytes IsCommand bytes (λ command rest i is.
        let same = same_fields command rest i is in
        let good : are_of_command fields ≡ true = ap are_of_command same.0 ∙ rw (i.words, i.directory, i.environment) refl in
        absurd (let t : true ≡ false = sym good ∙ bad in cc))

    pub command_found : (environment : List (List ℕ × List ℕ)) → length bytes ≤ 16384 + length tail → are_of_command fields ≡ true → environment ≡ in_pairs fields.environment
        → Finds command_bytes IsCommand bytes (Some (record { words = fields.words; directory = fields.directory; environment = environment }, tail))
    command_found environment short good is_environment_of =
        let it : Command = record { words = fields.words; directory = fields.directory; environment = environment } in
        let parts = both_true (are_words fields.words && is_text fields.directory) (is_environment fields.environment) good in
        let front = both_true (are_words fields.words) (is_text fields.directory) parts.0 in
        let turn : in_turn environment ≡ fields.environment = ap in_turn is_environment_of ∙ turn-again fields.environment parts.1 in
        let cells : command_cells Lsb it ≡ fields_cells fields = ap (λ (l : List (List ℕ)). array8_list Lsb fields.words ++ array8 Lsb fields.directory ++ array8_list Lsb l) turn in
        record {
          some = (
            record {
              words = front.0;
              directory = front.1;
              environment = ap is_environment turn ∙ parts.1;
              size = let len = ap length cells in omega (arith, len, short, length-whole);
            },
            finds.some.1 ∙ ap (λ (c : Cells). zeros c ++ tail) (sym cells),
          );
          only = λ command rest i is.
              let same = same_fields command rest i is in
              let pairs : environment ≡ command.environment = is_environment_of ∙ ap (λ (f : CommandFields). in_pairs f.environment) same.0 ∙ pairs-again command.environment in
              let words : fields.words ≡ command.words = ap (λ (f : CommandFields). f.words) same.0 in
              let directory : fields.directory ≡ command.directory = ap (λ (f : CommandFields). f.directory) same.0 in
              rw (words, directory, pairs, same.1) refl;
        }

-- ---- commands one after the other

pub no_pending : (named : List Command) → ArePending named []
no_pending named = record { each = tt; commands_differ = distinct_nil same_command; none_named = tt }

pub pending_more : (named pending : List Command) (command : Command) → ArePending named pending → IsCommand command → list_any (λ other. same_command other command) pending ≡ false → list_any (same_command command) named ≡ false
    → ArePending named (pending ++ command ∷ [])
pending_more named pending command are i new free = record {
  each = all_more IsCommand pending command are.each i;
  commands_differ = distinct_more same_command pending command are.commands_differ new;
  none_named = all_more (λ c. list_any (same_command c) named ≡ false) pending command are.none_named free;
}

pub pending_less : (named pending more : List Command) → ArePending named (pending ++ more) → ArePending named pending
pending_less named pending more are = record {
  each = all_front IsCommand pending more are.each;
  commands_differ = distinct_front same_command pending more are.commands_differ;
  none_named = all_front (λ c. list_any (same_command c) named ≡ false) pending more are.none_named;
}

pub last_command : (named pending : List Command) (command : Command) → ArePending named (pending ++ command ∷ []) → IsCommand command
last_command named pending command are = all_last IsCommand pending command are.each

pub none_next : (named pending : List Command) (bytes : List ℕ) → Finds command_bytes IsCommand bytes None → IsStuck (command_cells Lsb) (ArePending named) pending bytes
none_next named pending bytes finds command after is are = none_found command_bytes IsCommand bytes command after finds (last_command named pending command are) is

module _ (named pending : List Command) (bytes : List ℕ) (command : Command) (rest : List ℕ) (finds : Finds command_bytes IsCommand bytes (Some (command, rest))) where
  pub twice : list_any (λ other. same_command other command) pending ≡ true → IsStuck (command_cells Lsb) (ArePending named) pending bytes
  twice old other after is are =
      let same = found_is command_bytes IsCommand bytes command other rest after finds (last_command named pending other are) is in
      let new : list_any (λ c. same_command c command) pending ≡ false = ap (λ (x : Command). list_any (λ c. same_command c x) pending) same.0 ∙ distinct_last same_command pending other are.commands_differ in
      let t : true ≡ false = sym old ∙ new in
      absurd cc

  pub still_named : list_any (same_command command) named ≡ true → IsStuck (command_cells Lsb) (ArePending named) pending bytes
  still_named old other after is are =
      let same = found_is command_bytes IsCommand bytes command other rest after finds (last_command named pending other are) is in
      let new : list_any (same_command command) named ≡ false = ap (λ (x : Command). list_any (same_command x) named) same.0 ∙ all_last (λ c. list_any (same_command c) named ≡ false) pending other are.none_named in
      let t : true ≡ false = sym old ∙ new in
      absurd cc
