use Rattle.std.proofs.Common.{rules, ◌≡◌, ◌∷◌, [], refl, sym, subst, ◌∙◌, ap, take, drop}
use Rattle.ice_framing.specs.Frames.{Standing, fed, cut, behind, IsOversize}
use Rattle.ice_framing.specs.Parts.{Whole, TooMuch}
use Rattle.ice_framing.specs.declared.cutting.WholeFrame.{WholeFrame}
use Rattle.ice_framing.proofs.Parts.{parts_at-oversize, held_all, none_whole, forgotten}
use Rattle.session_engine.specs.Answers.{outcome, oversize_answer, sequence_after}
use Rattle.session_engine.specs.Bringing.{Brings, Replies, as_answer}
use Rattle.session_engine.specs.Outcomes.{Outcome}
use Rattle.session_engine.specs.declared.hearing.Reply.{Reply}
use Rattle.session_engine.proofs.CutLemmas.{oversize_ends, takes_whole}
use Rattle.session_engine.proofs.connection.Connection.put_together.Goals as goal

pub returns-in-Err-clause-cuts : goal.returns-in-Err-clause-cuts
returns-in-Err-clause-cuts c =
    let at = fed c.args.self.now.splitter c.args.left.now in
    let oversize : IsOversize at = search rules in
    let told : as_answer c.answer_header-answer.result ≡ oversize_answer c.args.self.now.setup c.args.sequence (take 8 at.held) = search rules in
    let answer : as_answer c.answer_header-answer.result ≡ oversize_answer c.args.self.now.setup (sequence_after c.args.self.now.sequence) (take 8 at.held) = told ∙ ap (λ n. oversize_answer c.args.self.now.setup n (take 8 at.held)) c.requires.next in (
      oversize_answer c.args.self.now.setup (sequence_after c.args.self.now.sequence) (take 8 at.held),
      record {
        part = TooMuch (take 8 at.held);
        parts = parts_at-oversize at oversize ∙ ap (λ ps. TooMuch (take 8 at.held) ∷ ps) (sym (forgotten c.feed.new.self c.forget.new.self c.args.left.now c.forget.ensures));
        answer = refl;
        setup = refl;
        sequence = c.requires.next;
        stands = λ keeps. absurd (oversize_ends c.args.self.now.setup (sequence_after c.args.self.now.sequence) (take 8 at.held) keeps);
      },
      (sym answer, refl),
    )

pub returns-in-None-clause-cuts : goal.returns-in-None-clause-cuts
returns-in-None-clause-cuts c =
    let held = held_all c.args.self.now.splitter c.feed.new.self c.args.left.now c.in-Ok.count c.in-Ok.ensures.taken (c.in-Ok.ensures.all.1 c.in-None.ensures.none) in (
      record {
        none = none_whole c.args.self.now.splitter c.feed.new.self c.args.left.now held c.in-None.ensures.none c.in-Ok.ensures.within.0;
        setup = refl;
        sequence = refl;
        splitter = held;
      },
      refl,
    )

pub returns-clause-cuts : goal.returns-clause-cuts
returns-clause-cuts c =
    let frame : WholeFrame = record { endian = c.in-Some.frame.endian; bytes = c.in-Some.frame.bytes.now } in
    let o : Outcome = outcome c.args.self.now.setup (sequence_after c.args.self.now.sequence) (Whole frame) in
    let told : Brings c.args.self.now.conn (outcome c.args.self.now.setup c.args.sequence (Whole frame)) c.in_ok-brought.brought c.args.manager.now c.bring-taken.new.manager = search rules in
    let brings : Brings c.args.self.now.conn o c.in_ok-brought.brought c.args.manager.now c.bring-taken.new.manager = subst (λ n. Brings c.args.self.now.conn (outcome c.args.self.now.setup n (Whole frame)) c.in_ok-brought.brought c.args.manager.now c.bring-taken.new.manager) c.requires.next told in
    let cuts : cut (fed c.args.self.now.splitter c.args.left.now) ≡ behind (frame ∷ []) (cut (fed c.take_frame.new.self (drop c.in-Ok.count c.args.left.now))) = search rules in
    let cuts_on = cuts ∙ ap (λ (at : Standing). behind (frame ∷ []) (cut (fed at (drop c.in-Ok.count c.args.left.now)))) (sym c.note.ensures.splitter) in (
      o.answer,
      takes_whole c.args.self.now c.note.new.self c.args.left.now frame c.in-Ok.count (c.note.ensures.setup ∙ brings.setup) (c.note.ensures.sequence ∙ c.requires.next) cuts_on,
      subst (λ (reply : Reply). Replies c.args.self.now.conn o.answer reply c.args.manager.now c.bring-taken.new.manager) (sym c.note.ensures.reply) brings.reply,
    )
