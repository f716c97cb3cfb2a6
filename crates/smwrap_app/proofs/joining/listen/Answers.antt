use Rattle.std.proofs.Common.{arith, rules}
use Rattle.smwrap_app.proofs.RunLaws.{ended_next, going_on, sent_next, spent, unheard, unsent_next}
use Rattle.smwrap_app.proofs.joining.listen.Goals as goal

pub returns-in-Err : goal.returns-in-Err
returns-in-Err g c = λ cookie previous first begin amid.
    unheard g.S.NamedSaves.answers g.D.NamedDies.gives cookie previous first begin c.in-Err.fault (g.P.Told.outside c.loop.peer) (g.P.Told.outside c.hear_next.new.peer) c.loop.joiner c.hear_next.new.joiner c.loop.counter c.args.turns
    (c.loop.invariant.under cookie previous first begin amid) c.in-Err.ensures.listens c.in-Err.ensures.counts (going_on _ c.loop.invariant.going) c.loop-test.true

pub returns-in-Err-deliver : goal.returns-in-Err-deliver
returns-in-Err-deliver g c = λ cookie previous first begin amid.
    rw c.peer_fault.ensures
    (unsent_next g.S.NamedSaves.answers g.D.NamedDies.gives cookie previous first begin c.in-Err-deliver.failure (g.P.Told.outside c.loop.peer) (g.P.Told.outside c.hear_next.new.peer) (g.P.Told.outside c.deliver.new.peer) c.loop.joiner c.hear_next.new.joiner c.loop.counter c.args.turns c.in-Ok.reply
    (c.loop.invariant.under cookie previous first begin amid) c.in-Ok.ensures.listens c.in-Ok.ensures.counts (rw c.as_slice.ensures at c.in-Err-deliver.ensures) c.loop-test.true)

pub returns-in-Some : goal.returns-in-Some
returns-in-Some g c = λ cookie previous first begin amid.
    ended_next g.S.NamedSaves.answers g.D.NamedDies.gives cookie previous first begin c.in-Some.end c.ended.result (g.P.Told.outside c.loop.peer) (g.P.Told.outside c.hear_next.new.peer) (g.P.Told.outside c.deliver.new.peer) c.loop.joiner c.hear_next.new.joiner c.loop.counter c.args.turns c.in-Ok.reply c.in-Ok-deliver.field-0
    (c.loop.invariant.under cookie previous first begin amid) c.in-Ok.ensures.listens c.in-Ok.ensures.counts (rw c.as_slice.ensures at c.in-Ok-deliver.ensures) c.in-Some.is c.ended.ensures c.loop-test.true

pub loop-preserved : goal.loop-preserved
loop-preserved g c = record {
  under = λ cookie previous first begin amid.
      sent_next g.S.NamedSaves.answers g.D.NamedDies.gives cookie previous first begin (g.P.Told.outside c.loop.peer) (g.P.Told.outside c.hear_next.new.peer) (g.P.Told.outside c.deliver.new.peer) c.loop.joiner c.hear_next.new.joiner c.loop.counter c.in-Ok.reply c.in-Ok-deliver.field-0
      (c.loop.invariant.under cookie previous first begin amid) c.in-Ok.ensures.listens c.in-Ok.ensures.counts (rw c.as_slice.ensures at c.in-Ok-deliver.ensures);
  going = search rules;
  room = search rules;
}

pub returns : goal.returns
returns g c = λ cookie previous first begin amid.
    spent g.S.NamedSaves.answers g.D.NamedDies.gives cookie previous first begin (g.P.Told.outside c.loop.peer) c.loop.joiner c.loop.counter c.args.turns (c.loop.invariant.under cookie previous first begin amid) (going_on _ c.loop.invariant.going) (omega (arith, c.loop-test.false, c.loop.auto.counter-end))
