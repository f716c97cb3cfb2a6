use Rattle.std.proofs.Common.{◌∙◌, ap}
use Rattle.discard_ledger.specs.Discards.{with_commands, without_commands}
use Rattle.discard_ledger.proofs.CommandLaws.{in_parts}
use Rattle.discard_ledger.proofs.commands.each_once.Goals as goal

pub returns : goal.returns
returns c =
    let gone = c.args.gone.now in
    let second = without_commands gone c.args.second.now in
    let third = without_commands gone c.args.third.now in
    c.in_ok-add_commands-3.ensures
    ∙ ap (λ list. with_commands list third) c.in_ok-add_commands-2.ensures
    ∙ ap (λ list. with_commands (with_commands list second) third) c.in_ok-add_commands.ensures
    ∙ ap (λ list. with_commands (with_commands (with_commands list (without_commands gone c.args.first.now)) second) third) c.new-list.ensures
    ∙ in_parts gone c.args.first.now c.args.second.now c.args.third.now
