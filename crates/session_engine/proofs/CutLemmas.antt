-- What cutting does at a connection that is live.
use Rattle.std.proofs.Common.{◌≡◌, ℕ, Bool, true, false, ◌==◌, slice_index, List, [], ◌∷◌, length, drop, Option, Some, None, refl, sym, ap, ◌∙◌, subst, if◌then◌else◌}
use Rattle.std.specs.Prelude.{IfSome}
use Rattle.ice_framing.specs.Frames.{Standing, fed, cut, behind}
use Rattle.ice_framing.specs.Parts.{Whole}
use Rattle.ice_framing.specs.declared.cutting.WholeFrame.{WholeFrame}
use Rattle.ice_framing.proofs.Parts.{parts_at-whole, behind_standing}
use Rattle.ice_setup.specs.declared.states.AnySetup.{AnySetup}
use Rattle.session_engine.specs.Answers.{outcome, oversize_answer, sequence_after, KeepsWhole}
use Rattle.manager_machine.specs.Keeper.{Keeper}
use Rattle.session_engine.specs.Bringing.{CutsSo}
use Rattle.session_engine.specs.Cutting.{Cuts, TakesFirst, Unsets}
use Rattle.session_engine.specs.Shown.{CutsAt, UnsetsAt}
use Rattle.session_engine.specs.Outcomes.{Answer, Closes, Answered}
use Rattle.session_engine.specs.declared.connection.Answered.{Answered as PartAnswered}
use Rattle.session_engine.specs.declared.connection.Connection.{Connection as Kept}

pub cuts_live : (before after : Option Kept) (kept changed : Kept) (left : List ℕ) (answered : Option Answered) → before ≡ Some kept → after ≡ Some changed → Cuts kept left answered changed → CutsAt before left answered after
cuts_live before after kept changed left answered is_kept is_changed cuts = rw (is_kept, is_changed) (changed, refl, cuts)

-- what was cut has another property too, where that follows
pub cuts_so : (c : ℕ) (P Q : Option Answered → Type 0) (part : Option PartAnswered) (old new : Keeper) → ((answered : Option Answered) → P answered → Q answered) → CutsSo c P part old new → CutsSo c Q part old new
cuts_so c P Q None old new follows cuts = (follows None cuts.0, cuts.1)
cuts_so c P Q (Some part) old new follows (answer, cuts, replies) = (answer, follows (Some (record { answer = answer; count = part.count })) cuts, replies)

-- what is asked of the connection that is kept, where one is
pub asked_of : (held : Option Kept) (kept : Kept) (P : Kept → Type 0) → held ≡ Some kept → IfSome held P → P kept
asked_of held kept P is asked = subst (λ (o : Option Kept). IfSome o P) is asked

-- an oversize frame ends its connection
oversize_by : (b : Bool) (answer : Answer) → (KeepsWhole answer → ⊥) → KeepsWhole (if b then Closes None else answer) → ⊥
oversize_by true answer ends keeps = keeps
oversize_by false answer ends keeps = ends keeps

pub oversize_ends : (setup : AnySetup) (sequence : ℕ) (header : List ℕ) → KeepsWhole (oversize_answer setup sequence header) → ⊥
oversize_ends setup sequence header keeps = oversize_by (slice_index header 1 == 0) _ (λ never. never) keeps

pub unsets_live : (before after : Option Kept) (kept changed : Kept) → before ≡ Some kept → after ≡ Some changed → Unsets kept changed → UnsetsAt before after
unsets_live before after kept changed is_kept is_changed unsets = rw (is_kept, is_changed) (changed, refl, unsets)

-- a whole frame was cut, and what is cut behind it is cut from where the splitter stands then
pub takes_whole : (before after : Kept) (left : List ℕ) (frame : WholeFrame) (count : ℕ) → after.setup ≡ (outcome before.setup (sequence_after before.sequence) (Whole frame)).setup → after.sequence ≡ sequence_after before.sequence
    → cut (fed before.splitter left) ≡ behind (frame ∷ []) (cut (fed after.splitter (drop count left)))
    → TakesFirst before left (record { answer = (outcome before.setup (sequence_after before.sequence) (Whole frame)).answer; count = count }) after
takes_whole before after left frame count setup sequence cuts = record {
  part = Whole frame;
  parts = parts_at-whole (fed before.splitter left) (fed after.splitter (drop count left)) frame cuts;
  answer = refl;
  setup = setup;
  sequence = sequence;
  stands = λ keeps. behind_standing (fed before.splitter left) (fed after.splitter (drop count left)) frame cuts;
}

-- the same where the frame lay in front of the piece, and the splitter stayed as it was
pub takes_front : (before after : Kept) (left : List ℕ) (frame : WholeFrame) (count : ℕ) → after.setup ≡ (outcome before.setup (sequence_after before.sequence) (Whole frame)).setup → after.sequence ≡ sequence_after before.sequence → after.splitter ≡ before.splitter → count ≡ length frame.bytes
    → cut (fed before.splitter left) ≡ behind (frame ∷ []) (cut (fed before.splitter (drop (length frame.bytes) left)))
    → TakesFirst before left (record { answer = (outcome before.setup (sequence_after before.sequence) (Whole frame)).answer; count = count }) after
takes_front before after left frame count setup sequence same all cuts =
    takes_whole before after left frame count setup sequence
    (cuts ∙ ap (λ n. behind (frame ∷ []) (cut (fed before.splitter (drop n left)))) (sym all) ∙ ap (λ (at : Standing). behind (frame ∷ []) (cut (fed at (drop count left)))) (sym same))
