use Rattle.std.proofs.Common.{◌≡◌, refl, sym, ap}
use Rattle.ice_framing.specs.Parts.{Whole}
use Rattle.ice_framing.specs.declared.cutting.WholeFrame.{WholeFrame}
use Rattle.manager_machine.specs.Heard.{message_of}
use Rattle.session_engine.specs.Answers.{frame_outcome}
use Rattle.session_engine.specs.Bringing.{as_outcome, as_taken}
use Rattle.session_engine.specs.Outcomes.{Outcome}
use Rattle.session_engine.proofs.Brought.{speaking-hears}
use Rattle.session_engine.proofs.Outcomes.{fits-part}
use Rattle.session_engine.proofs.hearing.bring.Goals as goal

pub hear_view-requires : goal.hear_view-requires
hear_view-requires c =
    let frame : WholeFrame = record { endian = c.args.frame.endian; bytes = c.args.frame.bytes.now } in
    let is : as_taken c.args.setup c.args.sequence c.in-Ok.taken ≡ frame_outcome c.args.setup c.args.sequence frame = c.in-Ok.ensures.outcome in
    speaking-hears c.args.setup (frame_outcome c.args.setup c.args.sequence frame) c.args.conn c.in-Speaks.view c.args.sequence c.args.manager.now.session (rw c.in-Speaks.is at is) (fits-part c.args.setup c.args.sequence (Whole frame)) (rw c.in-Speaks.is at c.in-Ok.ensures.spelled) c.requires.heard

pub returns-in-Brings-clause-brings : goal.returns-in-Brings-clause-brings
returns-in-Brings-clause-brings c =
    let frame : WholeFrame = record { endian = c.args.frame.endian; bytes = c.args.frame.bytes.now } in
    let is : as_outcome c.in-Brings.outcome ≡ frame_outcome c.args.setup c.args.sequence frame = rw c.in-Brings.is at c.in-Ok.ensures.outcome in
    record { setup = ap (λ (o : Outcome). o.setup) is; reply = (sym (ap (λ (o : Outcome). o.answer) is), refl) }

pub returns-in_ok-acts-in-Speaks-clause-brings : goal.returns-in_ok-acts-in-Speaks-clause-brings
returns-in_ok-acts-in-Speaks-clause-brings c =
    let frame : WholeFrame = record { endian = c.args.frame.endian; bytes = c.args.frame.bytes.now } in
    let is : as_taken c.args.setup c.args.sequence c.in-Ok.taken ≡ frame_outcome c.args.setup c.args.sequence frame = c.in-Ok.ensures.outcome in
    let spoken = rw c.in-Speaks.is at is in
    record {
      setup = ap (λ (o : Outcome). o.setup) spoken;
      reply = (message_of c.in-Speaks.view, c.args.sequence, c.in-Speaks.view.frame.now, sym (ap (λ (o : Outcome). o.answer) spoken), c.in_ok-acts-in-Speaks.ensures);
    }
