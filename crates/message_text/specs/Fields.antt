-- The fields of a message's line, and how their values are written.
use Rattle.std.specs.Prelude.{ℕ, Bool, true, false, List, [], ◌∷◌, ◌++◌, codes}
use Rattle.std.specs.List.{flat_map}
use Rattle.std.specs.Fmt.{decimal}
use Rattle.ice_values.specs.Fields.{bool_number, order_number, severity_number, ErrorFields}
use Rattle.ice_values.specs.Saves.{kind_number, style_number, dialog_number}
use Rattle.ice_values.specs.declared.numbers.Endian.{Endian}
use Rattle.ice_values.specs.declared.numbers.Endian.TheVariants.{Lsb, Msb}
use Rattle.ice_values.specs.declared.severity.Severity.{Severity}
use Rattle.ice_values.specs.declared.severity.Severity.TheVariants.{CanContinue, FatalToProtocol, FatalToConnection}
use Rattle.ice_values.specs.declared.property.Property.{Property}
use Rattle.ice_values.specs.declared.version.Version.{Version}
use Rattle.ice_values.specs.declared.saves.SaveKind.{SaveKind}
use Rattle.ice_values.specs.declared.saves.SaveKind.TheVariants.{Global, Local, Both}
use Rattle.ice_values.specs.declared.saves.SaveStyle.{SaveStyle}
use Rattle.ice_values.specs.declared.saves.SaveStyle.TheVariants.{Nothing, Errors, Any}
use Rattle.ice_values.specs.declared.saves.Dialog.{Dialog}
use Rattle.ice_values.specs.declared.saves.Dialog.TheVariants.{Error as ErrorDialog, Normal}
use Rattle.message_text.specs.Words.{bytes_text, choice_text}
use Rattle.message_text.specs.declared.words.Writing.{Writing}

-- a space, the field's key, = and its value
abbrev pub field : List ℕ → List ℕ → List ℕ
field key value = codes " " ++ (key ++ (codes "=" ++ value))

abbrev pub number_field : List ℕ → ℕ → List ℕ
number_field key n = field key (decimal n)

abbrev pub bytes_field : Writing → List ℕ → List ℕ → List ℕ
bytes_field writing key bytes = field key (bytes_text writing bytes)

-- a BOOL
abbrev pub bool_word : Bool → List ℕ
bool_word false = codes "no"
bool_word true = codes "yes"

abbrev pub bool_text : Writing → Bool → List ℕ
bool_text writing value = choice_text writing (bool_number value) (bool_word value)

-- the enumerated values, by the standard's words
abbrev pub order_word : Endian → List ℕ
order_word Lsb = codes "LSBfirst"
order_word Msb = codes "MSBfirst"

abbrev pub order_text : Writing → Endian → List ℕ
order_text writing order = choice_text writing (order_number order) (order_word order)

abbrev pub severity_word : Severity → List ℕ
severity_word CanContinue = codes "CanContinue"
severity_word FatalToProtocol = codes "FatalToProtocol"
severity_word FatalToConnection = codes "FatalToConnection"

abbrev pub severity_text : Writing → Severity → List ℕ
severity_text writing severity = choice_text writing (severity_number severity) (severity_word severity)

abbrev pub kind_word : SaveKind → List ℕ
kind_word Global = codes "Global"
kind_word Local = codes "Local"
kind_word Both = codes "Both"

abbrev pub kind_text : Writing → SaveKind → List ℕ
kind_text writing kind = choice_text writing (kind_number kind) (kind_word kind)

abbrev pub style_word : SaveStyle → List ℕ
style_word Nothing = codes "None"
style_word Errors = codes "Errors"
style_word Any = codes "Any"

abbrev pub style_text : Writing → SaveStyle → List ℕ
style_text writing style = choice_text writing (style_number style) (style_word style)

abbrev pub dialog_word : Dialog → List ℕ
dialog_word ErrorDialog = codes "Error"
dialog_word Normal = codes "Normal"

abbrev pub dialog_text : Writing → Dialog → List ℕ
dialog_text writing dialog = choice_text writing (dialog_number dialog) (dialog_word dialog)

-- major.minor
abbrev pub version_text : Version → List ℕ
version_text v = decimal v.major ++ (codes "." ++ decimal v.minor)

-- The items in brackets, with commas between them.
abbrev pub list_text : {A : Type 0} → (A → List ℕ) → List A → List ℕ
list_text item [] = codes "[]"
list_text item (x ∷ xs) = codes "[" ++ (item x ++ (flat_map (λ y. codes "," ++ item y) xs ++ codes "]"))

-- name:type:[value,value]
abbrev pub property_text : Writing → Property → List ℕ
property_text writing p = bytes_text writing p.name ++ (codes ":" ++ (bytes_text writing p.kind ++ (codes ":" ++ list_text (bytes_text writing) p.values)))

-- what an Error says, of ICE or of XSMP
abbrev pub error_text : Writing → ErrorFields → List ℕ
error_text writing error =
    number_field (codes "class") error.class
    ++ (number_field (codes "minor") error.minor
    ++ (field (codes "severity") (severity_text writing error.severity)
    ++ (number_field (codes "sequence") error.sequence
    ++ bytes_field writing (codes "values") error.values)))
