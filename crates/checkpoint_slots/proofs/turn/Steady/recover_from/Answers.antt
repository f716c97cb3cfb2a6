use Rattle.std.proofs.Common.{subst}
use Rattle.std.specs.Prelude.{Option}
use Rattle.checkpoint_slots.specs.declared.turn.Current.{Current}
use Rattle.checkpoint_slots.specs.Turns.{HasCurrent}
use Rattle.checkpoint_records.proofs.ChoiceLaws.{empty_rules}
use Rattle.checkpoint_slots.proofs.Looking.{settled-by, settled-on, steady-none, steady-some}
use Rattle.checkpoint_slots.proofs.turn.Steady.recover_from.Goals as goal

pub returns-in_ok-empty-in-None-clause-recovers : goal.returns-in_ok-empty-in-None-clause-recovers
returns-in_ok-empty-in-None-clause-recovers g c = λ file settled.
    let sized = settled-by file c.in_ok-size.ensures.uses.first c.in_ok-size.ensures.effects settled in
    steady-none file c.in_ok-empty-in-None.field-0 (subst (λ (x : Option Current). HasCurrent x file) c.in-None.is (c.in_ok-choose.ensures.found file sized)) c.in_ok-empty-in-None.ensures

pub returns-in_ok-empty-in-None-clause-rules : goal.returns-in_ok-empty-in-None-clause-rules
returns-in_ok-empty-in-None-clause-rules g c = empty_rules c.in_ok-empty-in-None.field-0 c.in_ok-empty-in-None.ensures

pub returns-in_ok-book-in-Some-clause-recovers : goal.returns-in_ok-book-in-Some-clause-recovers
returns-in_ok-book-in-Some-clause-recovers g c = λ file settled.
    let sized = settled-by file c.in_ok-size.ensures.uses.first c.in_ok-size.ensures.effects settled in
    let read = settled-on file c.in_ok-choose.ensures.world sized in
    let now : Current = record { slot = c.in-Some.current.slot; generation = c.in-Some.current.generation; end = c.in_ok-book-in-Some.end } in
    steady-some file now c.in_ok-book-in-Some.book (subst (λ (x : Option Current). HasCurrent x file) c.in-Some.is (c.in_ok-choose.ensures.found file sized)) (c.in_ok-book-in-Some.ensures.found file read)
