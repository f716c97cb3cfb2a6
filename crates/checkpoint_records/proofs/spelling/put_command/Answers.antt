use Rattle.std.proofs.Common.{◌∙◌, ap}
use Rattle.checkpoint_records.specs.Rules.{in_turn}
use Rattle.std.proofs.lemmas.Result.{on_ok_weaker}
use Rattle.checkpoint_records.proofs.SpellLaws.{command_added}
use Rattle.checkpoint_records.proofs.spelling.put_command.Goals as goal

pub returns : goal.returns
returns c =
    on_ok_weaker c.put-3.result (λ h.
    command_added c.args.command.now c.in_ok-environment.environment c.args.out.now c.put.new.out c.put-2.new.out c.put-3.new.out (c.in_ok-environment.ensures ∙ ap in_turn c.as_slice.ensures) c.in_ok-put.ensures.ok c.in_ok-put-2.ensures.ok h) c.put-3.ensures.ok
