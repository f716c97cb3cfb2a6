-- Windows as they were met, and answers in their order.
use Rattle.std.specs.Prelude.{◌≡◌, true, false, [], ◌∷◌, Some, None}
use Rattle.window_follower.specs.Asked.{Asked, settled}
use Rattle.window_follower.specs.Facts.{is_local, is_withdrawn, learned, nothing_known, process_of, state_of}
use Rattle.window_follower.specs.Kinds.{kind_of}
use Rattle.window_follower.specs.declared.names.WindowType.TheVariants.{Normal as ForNormal, Dialog, Dock, Desktop, Splash, Tooltip}
use Rattle.window_follower.specs.declared.question.Question.TheVariants.{Extension, Watch}
use Rattle.window_follower.specs.declared.facts.WindowState.TheVariants.{Withdrawn, Iconic}
use Rattle.window_follower.specs.declared.facts.Fact.TheVariants.{State, Owner, Stated}
use Rattle.window_follower.specs.declared.facts.WindowFacts.{WindowFacts}
use Rattle.window_follower.specs.declared.kinds.Kind.TheVariants.{Main, Auxiliary, Fixed, Passing}

abbrev pub with_delete : WindowFacts
with_delete = record nothing_known { deletes = true }

-- two that have no answer, and one that has
abbrev pub three_open : Asked
three_open = record { first = 65535; unanswered = Watch 20 4325376 ∷ Extension ∷ Watch 21 4325376 ∷ []; waiting = [] }

pub record Examples : Type 0 where
  -- an editor's window, and one that can't be asked
  pub editor : kind_of false with_delete ≡ Main
  pub no_delete : kind_of false nothing_known ≡ Fixed
  -- a dialog that says so, without belonging to a window and without being modal
  pub plain_dialog : kind_of false (record with_delete { purpose = Some Dialog }) ≡ Auxiliary
  -- a dialog without a type, which belongs to a window
  pub typeless_dialog : kind_of true (record with_delete { transient_for = Some 20 }) ≡ Auxiliary
  -- a normal window that belongs to one that isn't known is a program's own
  pub stranger_s : kind_of false (record with_delete { transient_for = Some 20; purpose = Some ForNormal }) ≡ Main
  pub panel : kind_of false (record with_delete { purpose = Some Dock }) ≡ Fixed
  pub desktop : kind_of false (record nothing_known { purpose = Some Desktop }) ≡ Fixed
  pub splash : kind_of false (record with_delete { purpose = Some Splash }) ≡ Passing
  pub tooltip : kind_of true (record nothing_known { purpose = Some Tooltip }) ≡ Passing
  -- a WM_STATE of no bytes, and one of 3
  pub empty_state : state_of [] ≡ Withdrawn
  pub iconified : state_of (3 ∷ 0 ∷ []) ≡ Iconic
  -- an iconified window is unmapped and stays, one whose WM_STATE goes then leaves
  pub iconified_stays : is_withdrawn (learned (State Iconic) nothing_known).mapped Iconic ≡ false
  pub iconified_leaves : is_withdrawn (learned (State Withdrawn) (learned (State Iconic) nothing_known)).mapped Withdrawn ≡ true
  -- a program in a namespace of processes says 3
  pub namespace : process_of (learned (Owner (Some 77)) (learned (Stated (Some 3)) nothing_known)) ≡ Some 77
  pub other_machine : is_local (97 ∷ []) (Some (98 ∷ [])) ≡ false
  pub no_machine : is_local (97 ∷ []) None ≡ true
  -- numbers go on behind 65,535 at 0
  pub answered : settled 0 three_open ≡ Some (record { question = Extension; next = record three_open { first = 1; unanswered = Watch 21 4325376 ∷ [] } })
  -- the answer of the second is wanting
  pub passed_over : settled 1 three_open ≡ None
  pub unasked : settled 2 three_open ≡ None
