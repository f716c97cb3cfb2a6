use Rattle.std.proofs.Common.{inr, rules, take}
use Rattle.smwrap_app.proofs.EffectLaws.{some_taken}
use Rattle.smwrap_app.proofs.joining.hear_next.Goals as goal

pub returns-in-Err-NoMemory-clause-listens : goal.returns-in-Err-NoMemory-clause-listens
returns-in-Err-NoMemory-clause-listens g c = inr (record {
  piece = take c.in-Ok.count c.receive.new.into;
  solid = some_taken c.in-Ok.count c.receive.new.into (search rules) c.if-count-eq0.false;
  told = c.in-Ok.ensures.effects;
  breaks = λ run is_run. rw c.in-Err-NoMemory.field-0-is at (c.in-Err-NoMemory.ensures.hears run is_run);
})
