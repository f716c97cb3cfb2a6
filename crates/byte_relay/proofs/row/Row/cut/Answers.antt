use Rattle.std.proofs.Common.{rules, ◌≡◌, ◌∷◌, [], refl, sym, ◌∙◌, ap, take, drop}
use Rattle.ice_framing.specs.Frames.{fed, cut, behind, IsOversize}
use Rattle.ice_framing.specs.Parts.{Whole, TooMuch}
use Rattle.ice_framing.specs.declared.cutting.WholeFrame.{WholeFrame}
use Rattle.ice_framing.proofs.Parts.{parts_at-whole, parts_at-oversize, behind_standing, held_all, none_whole, forgotten}
use Rattle.byte_relay.proofs.row.Row.cut.Goals as goal

pub returns-in-Err-clause-cuts : goal.returns-in-Err-clause-cuts
returns-in-Err-clause-cuts c =
    let at = fed c.args.self.now.splitter c.args.left.now in
    let oversize : IsOversize at = search rules in
    record {
      part = TooMuch (take 8 at.held);
      parts = parts_at-oversize at oversize ∙ ap (λ ps. TooMuch (take 8 at.held) ∷ ps) (sym (forgotten c.feed.new.self c.forget.new.self c.args.left.now c.forget.ensures));
      brings = refl;
      fresh = refl;
      stands = λ goes. absurd cc;
    }

pub returns-in-None-clause-cuts : goal.returns-in-None-clause-cuts
returns-in-None-clause-cuts c =
    let held = held_all c.args.self.now.splitter c.feed.new.self c.args.left.now c.in-Ok.count c.in-Ok.ensures.taken (c.in-Ok.ensures.all.1 c.in-None.ensures.none) in
    record {
      none = none_whole c.args.self.now.splitter c.feed.new.self c.args.left.now held c.in-None.ensures.none c.in-Ok.ensures.within.0;
      fresh = refl;
      splitter = held;
    }

pub returns-clause-cuts : goal.returns-clause-cuts
returns-clause-cuts c =
    let frame : WholeFrame = record { endian = c.in-Some.frame.endian; bytes = c.in-Some.frame.bytes.now } in
    let cuts : cut (fed c.args.self.now.splitter c.args.left.now) ≡ behind (frame ∷ []) (cut (fed c.take_frame.new.self (drop c.in-Ok.count c.args.left.now))) = search rules in
    record {
      part = Whole frame;
      parts = parts_at-whole (fed c.args.self.now.splitter c.args.left.now) (fed c.take_frame.new.self (drop c.in-Ok.count c.args.left.now)) frame cuts;
      brings = c.in_ok-taken.ensures.taken;
      fresh = refl;
      stands = λ goes. behind_standing (fed c.args.self.now.splitter c.args.left.now) (fed c.take_frame.new.self (drop c.in-Ok.count c.args.left.now)) frame cuts;
    }
