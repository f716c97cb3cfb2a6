-- What stands in the bytes of a command.
use Rattle.std.specs.Prelude.{◌≤◌, Bool, ◌&&◌, ◌++◌, length}
use Rattle.ice_values.specs.Cells.{Cells}
use Rattle.ice_values.specs.Properties.{array8, IsArray8, array8_list, IsListed}
use Rattle.ice_values.specs.declared.numbers.Endian.TheVariants.{Lsb}
use Rattle.xsmp_properties.specs.Readers.{is_text, are_words, is_environment}
use Rattle.checkpoint_records.specs.declared.pending.CommandFields.{CommandFields}

abbrev pub fields_cells : CommandFields → Cells
fields_cells fields = array8_list Lsb fields.words ++ array8 Lsb fields.directory ++ array8_list Lsb fields.environment

-- fields that have a spelling, none of which is too long
pub record HaveFieldSpelling (fields : CommandFields) : Type 0 where
  pub words : IsListed IsArray8 fields.words × (length (array8_list Lsb fields.words) ≤ 65536)
  pub directory : IsArray8 fields.directory × (length (array8 Lsb fields.directory) ≤ 65536)
  pub environment : IsListed IsArray8 fields.environment × (length (array8_list Lsb fields.environment) ≤ 65536)

-- fields as a table gives them
abbrev pub are_of_command : CommandFields → Bool
are_of_command fields = are_words fields.words && is_text fields.directory && is_environment fields.environment
