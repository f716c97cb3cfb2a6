use Rattle.std.proofs.Common.{◌∙◌, ℕ, Bool, cond, min, ap, sym}
use Rattle.start_waves.specs.Ranks.{has_command}
use Rattle.start_waves.proofs.LowestLaws.{priority_more}
use Rattle.start_waves.proofs.ranks.priority_of_command.Goals as goal

pub loop-it-preserved : goal.loop-it-preserved
loop-it-preserved c =
    c.lower-lowest.ensures ∙ ap (λ (has : Bool). cond has (min c.loop-it.lowest c.it-item.result.priority) c.loop-it.lowest) c.same_command-has.ensures.value
    ∙ ap (λ (before : ℕ). cond (has_command c.args.command.now c.it-item.result) (min before c.it-item.result.priority) before) c.loop-it.invariant
    ∙ sym (priority_more c.args.command.now c.args.ranks.now c.loop-it.it-index c.it-item.result c.loop-it-test.true c.it-item.is)
