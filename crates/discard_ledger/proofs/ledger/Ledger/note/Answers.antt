use Rattle.std.proofs.Common.{rules, ◌≡◌, ◌∙◌, not}
use Rattle.std.proofs.lemmas.Fn.{filter_same}
use Rattle.owned_lists.specs.declared.commands.Command.{Command}
use Rattle.discard_ledger.specs.Discards.{is_among, without_commands}
use Rattle.discard_ledger.proofs.ledger.Ledger.note.Goals as goal

pub returns-clause-pending : goal.returns-clause-pending
returns-clause-pending c =
    let kept : c.retain.new.self.items ≡ without_commands c.args.tried.now c.into_vec-pending.result.items = filter_same _ (λ (command : Command). not (is_among command c.args.tried.now)) _ (λ x keeps f r. search rules) _ _ c.retain.ensures.filtered in
    c.from_vec.ensures ∙ kept ∙ search rules
