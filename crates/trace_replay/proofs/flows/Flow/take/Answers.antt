use Rattle.std.proofs.Common.{rules, arith, ◌≡◌, length, ap}
use Rattle.ice_framing.specs.Frames.{fed, cut}
use Rattle.trace_replay.proofs.FlowLemmas.{all_headed, goes_on, was_ended}
use Rattle.trace_replay.proofs.flows.Flow.take.Goals as goal

pub returns-in-Some-clause-takes : goal.returns-in-Some-clause-takes
returns-in-Some-clause-takes c = λ stream read.
    let are : c.take.new.frames ≡ (cut (fed c.args.self.remainder c.args.piece.now)).frames = search rules in
    goes_on stream c.args.piece.now c.args.self.remainder c.in-Some.remainder c.args.self.shown c.saturating_add-count.result c.take.new.frames read.0.0 read.0.2 read.1 are (rw c.in-Some.is at c.in_ok-remainder.ensures.stands) (λ fits. omega (arith, c.saturating_add-count.ensures, ap length c.as_slice.ensures))

pub returns-in-None-clause-takes : goal.returns-in-None-clause-takes
returns-in-None-clause-takes c = λ stream read.
    let are : c.take.new.frames ≡ (cut (fed c.args.self.remainder c.args.piece.now)).frames = search rules in
    was_ended stream c.args.piece.now c.args.self.remainder c.args.self.shown c.take.new.frames read.0.0 read.0.2 read.1 are (rw c.in-None.is at c.in_ok-remainder.ensures.stands)

pub returns-in-Some-clause-headed : goal.returns-in-Some-clause-headed
returns-in-Some-clause-headed c =
    let are : c.take.new.frames ≡ (cut (fed c.args.self.remainder c.args.piece.now)).frames = search rules in
    rw are (all_headed (fed c.args.self.remainder c.args.piece.now))

pub returns-in-None-clause-headed : goal.returns-in-None-clause-headed
returns-in-None-clause-headed c =
    let are : c.take.new.frames ≡ (cut (fed c.args.self.remainder c.args.piece.now)).frames = search rules in
    rw are (all_headed (fed c.args.self.remainder c.args.piece.now))
