-- What a program shows its user, and which of its windows is asked to close next.
use Rattle.std.specs.Prelude.{ℕ, Bool, true, false, not, ◌&&◌, ◌||◌, ◌==◌, nat_lt, cond, List, [], ◌∷◌, Option, None, Some}
use Rattle.std.specs.List.{list_any}
use Rattle.program_keeper.specs.declared.windows.Window.{Window}
use Rattle.program_keeper.specs.declared.windows.WindowKind.{WindowKind}
use Rattle.program_keeper.specs.declared.windows.WindowKind.TheVariants.{Main, Aux}

abbrev pub is_main : WindowKind → Bool
is_main Main = true
is_main kind = false

abbrev pub is_aux : WindowKind → Bool
is_aux Aux = true
is_aux kind = false

abbrev pub number_of : Window → ℕ
number_of window = window.number

-- the number is that of the window which another one is transient for
abbrev pub is_below : ℕ → Option ℕ → Bool
is_below number None = false
is_below number (Some below) = below == number

abbrev pub is_over : Window → ℕ → Bool
is_over window number = is_below number window.over

-- a dialog belongs to the window of this number
abbrev pub has_dialog : List Window → ℕ → Bool
has_dialog windows number = list_any (λ window. is_aux window.kind && is_over window number) windows

-- Whether the first of two windows is asked before the second: one without a dialog of its own comes before one that has one, and else
-- the lower number first.
abbrev pub comes_first : List Window → Window → Window → Bool
comes_first windows first second = cond (has_dialog windows second.number) (not (has_dialog windows first.number) || nat_lt first.number second.number) (not (has_dialog windows first.number) && nat_lt first.number second.number)

abbrev pub sooner : List Window → Option Window → Window → Window
sooner windows None window = window
sooner windows (Some best) window = cond (comes_first windows window best) window best

-- the main window that is asked first, of the one that was found and those that are left
abbrev pub next_main : List Window → Option Window → List Window → Option Window
next_main windows found [] = found
next_main windows found (window ∷ left) = next_main windows (cond (is_main window.kind) (Some (sooner windows found window)) found) left

-- it is the main window of this number
abbrev pub is_target : ℕ → Window → Bool
is_target number window = is_main window.kind && window.number == number
