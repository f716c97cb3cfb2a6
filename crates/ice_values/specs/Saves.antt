-- Enumerated bytes of XSMP (XSMP, chapter 10: SAVE_TYPE, INTERACT_STYLE and DIALOG_TYPE).
use Rattle.std.specs.Prelude.{ℕ, Option, Some, None, ◌==◌, if◌then◌else◌}
use Rattle.ice_values.specs.declared.saves.SaveKind.{SaveKind}
use Rattle.ice_values.specs.declared.saves.SaveKind.TheVariants.{Global, Local, Both}
use Rattle.ice_values.specs.declared.saves.SaveStyle.{SaveStyle}
use Rattle.ice_values.specs.declared.saves.SaveStyle.TheVariants.{Nothing, Errors, Any}
use Rattle.ice_values.specs.declared.saves.Dialog.{Dialog}
use Rattle.ice_values.specs.declared.saves.Dialog.TheVariants.{Error, Normal}

abbrev pub kind_number : SaveKind → ℕ
kind_number Global = 0
kind_number Local = 1
kind_number Both = 2

abbrev pub style_number : SaveStyle → ℕ
style_number Nothing = 0
style_number Errors = 1
style_number Any = 2

abbrev pub dialog_number : Dialog → ℕ
dialog_number Error = 0
dialog_number Normal = 1

abbrev pub kind_meaning : ℕ → Option SaveKind
kind_meaning n = if n == 0 then Some Global else if n == 1 then Some Local else if n == 2 then Some Both else None

abbrev pub style_meaning : ℕ → Option SaveStyle
style_meaning n = if n == 0 then Some Nothing else if n == 1 then Some Errors else if n == 2 then Some Any else None

abbrev pub dialog_meaning : ℕ → Option Dialog
dialog_meaning n = if n == 0 then Some Error else if n == 1 then Some Normal else None
