-- A message of XSMP where it lies, as what it brings.
use Rattle.std.proofs.Common.{◌≡◌, ℕ, ◌≤◌, List, length, slice_index, sym, ◌∙◌, ap, subst}
use Rattle.ice_values.specs.declared.numbers.Endian.{Endian}
use Rattle.ice_setup.specs.declared.states.AnySetup.{AnySetup}
use Rattle.xsmp_messages.specs.Reading.{decode_at as xsmp_at}
use Rattle.xsmp_messages.specs.declared.view.XsmpView.{XsmpView}
use Rattle.manager_machine.specs.Heard.{message_of}
use Rattle.manager_machine.proofs.Heard.{view-read, view-spelled}
use Rattle.session_engine.specs.Answers.{IsSpelled, xsmp_outcome}
use Rattle.session_engine.specs.Outcomes.{Speaks}

pub view-outcome : (setup : AnySetup) (sequence : ℕ) (view : XsmpView) (e : Endian) (bytes : List ℕ) → view.endian ≡ e → view.frame.now ≡ bytes → record { setup = setup; answer = Speaks (message_of view) sequence view.frame.now } ≡ xsmp_outcome setup sequence bytes (xsmp_at e bytes)
view-outcome setup sequence view e bytes order same =
    sym (ap (xsmp_outcome setup sequence view.frame.now) (view-read view)) ∙ (λ i. xsmp_outcome setup sequence (same i) (xsmp_at (order i) (same i)))

pub view-is-spelled : (view : XsmpView) (sequence : ℕ) (bytes : List ℕ) → view.frame.now ≡ bytes → length bytes ≤ 65544 → IsSpelled (Speaks (message_of view) sequence view.frame.now)
view-is-spelled view sequence bytes same within =
    (subst (λ (xs : List ℕ). length xs ≤ 65544) (sym same) within, (view.endian, slice_index view.frame.now 0, view-spelled view))
