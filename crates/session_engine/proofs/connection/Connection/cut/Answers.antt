use Rattle.std.proofs.Common.{rules, ◌≡◌, length, refl, subst, sym, ◌∙◌}
use Rattle.ice_framing.specs.Parts.{Whole}
use Rattle.ice_framing.specs.declared.cutting.WholeFrame.{WholeFrame}
use Rattle.session_engine.specs.Answers.{outcome, sequence_after}
use Rattle.session_engine.specs.Bringing.{Brings, Replies}
use Rattle.session_engine.specs.Outcomes.{Outcome}
use Rattle.session_engine.specs.declared.hearing.Reply.{Reply}
use Rattle.session_engine.proofs.CutLemmas.{takes_front}
use Rattle.session_engine.proofs.connection.Connection.cut.Goals as goal

pub returns-clause-cuts : goal.returns-clause-cuts
returns-clause-cuts c =
    let frame : WholeFrame = record { endian = c.in-Some.frame.endian; bytes = c.in-Some.frame.bytes.now } in
    let o : Outcome = outcome c.args.self.now.setup (sequence_after c.args.self.now.sequence) (Whole frame) in
    let brings : Brings c.args.self.now.conn o c.in_ok-brought.brought c.args.manager.now c.bring.new.manager = search rules in
    let sequence : c.note.new.self.sequence ≡ sequence_after c.args.self.now.sequence = search rules in (
      o.answer,
      takes_front c.args.self.now c.note.new.self c.args.left.now frame (length frame.bytes) (c.note.ensures.setup ∙ brings.setup) sequence c.note.ensures.splitter refl c.in-Some.ensures.first,
      subst (λ (reply : Reply). Replies c.args.self.now.conn o.answer reply c.args.manager.now c.bring.new.manager) (sym c.note.ensures.reply) brings.reply,
    )
