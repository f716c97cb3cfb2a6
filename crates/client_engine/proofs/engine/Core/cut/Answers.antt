use Rattle.std.proofs.Common.{rules, ◌≡◌, ◌∷◌, [], refl, sym, ◌∙◌, ap, take, drop}
use Rattle.std.proofs.lemmas.Bool.{false≢true}
use Rattle.ice_framing.specs.Frames.{fed, cut, behind, IsOversize}
use Rattle.ice_framing.specs.Parts.{Whole, TooMuch}
use Rattle.ice_framing.specs.declared.cutting.WholeFrame.{WholeFrame}
use Rattle.ice_framing.proofs.Parts.{parts_at-whole, parts_at-oversize, behind_standing, held_all, none_whole, forgotten}
use Rattle.client_engine.specs.Cutting.{Holds}
use Rattle.client_engine.specs.Hearing.{frame_heard, oversize_heard, part_heard}
use Rattle.client_engine.specs.Places.{is_listening}
use Rattle.client_engine.specs.declared.hearing.Heard.{Heard}
use Rattle.client_engine.specs.declared.place.Talk.{Talk}
use Rattle.client_engine.proofs.Driven.{oversize_stops}
use Rattle.client_engine.proofs.engine.Core.cut.Goals as goal

pub returns-in-Err-clause-cuts : goal.returns-in-Err-clause-cuts
returns-in-Err-clause-cuts c =
    let at = fed c.args.self.now.splitter c.args.left.now in
    let talk : Talk = c.args.self.now.talk in
    let oversize : IsOversize at = search rules in
    let heard : c.take_oversize-heard.result ≡ oversize_heard talk.counts talk.place = c.take_oversize-heard.ensures ∙ ap (λ (t : Talk). oversize_heard t.counts t.place) c.replace.ensures.value in
    record {
      listens = search rules;
      part = TooMuch (take 8 at.held);
      parts = parts_at-oversize at oversize ∙ ap (λ ps. TooMuch (take 8 at.held) ∷ ps) (sym (forgotten c.feed.new.self c.forget.new.self c.args.left.now c.forget.ensures));
      said = ap (λ (h : Heard). h.said) heard;
      cue = ap (λ (h : Heard). h.cue) heard;
      talk = ap (λ (h : Heard). h.next) heard;
      stands = λ still. absurd (false≢true (sym (oversize_stops talk.counts talk.place) ∙ (ap (λ (h : Heard). is_listening h.next.place) (sym heard) ∙ still)));
    }

pub returns-in-None-clause-cuts : goal.returns-in-None-clause-cuts
returns-in-None-clause-cuts c =
    let held = held_all c.args.self.now.splitter c.feed.new.self c.args.left.now c.in-Ok.count c.in-Ok.ensures.taken (c.in-Ok.ensures.all.1 c.in-None.ensures.none) in
    Holds (record {
      none = none_whole c.args.self.now.splitter c.feed.new.self c.args.left.now held c.in-None.ensures.none c.in-Ok.ensures.within.0;
      talk = refl;
      splitter = held;
    })

pub returns-clause-cuts : goal.returns-clause-cuts
returns-clause-cuts c =
    let frame : WholeFrame = record { endian = c.in-Some.frame.endian; bytes = c.in-Some.frame.bytes.now } in
    let heard : c.in_ok-heard.heard ≡ part_heard c.args.self.now.talk (Whole frame) = c.in_ok-heard.ensures.heard ∙ ap (λ (t : Talk). frame_heard t.counts frame t.place) c.replace-2.ensures.value in
    let cuts : cut (fed c.args.self.now.splitter c.args.left.now) ≡ behind (frame ∷ []) (cut (fed c.take_frame.new.self (drop c.in-Ok.count c.args.left.now))) = search rules in
    record {
      listens = search rules;
      part = Whole frame;
      parts = parts_at-whole (fed c.args.self.now.splitter c.args.left.now) (fed c.take_frame.new.self (drop c.in-Ok.count c.args.left.now)) frame cuts;
      said = ap (λ (h : Heard). h.said) heard;
      cue = ap (λ (h : Heard). h.cue) heard;
      talk = ap (λ (h : Heard). h.next) heard;
      stands = λ still. behind_standing (fed c.args.self.now.splitter c.args.left.now) (fed c.take_frame.new.self (drop c.in-Ok.count c.args.left.now)) frame cuts;
    }
