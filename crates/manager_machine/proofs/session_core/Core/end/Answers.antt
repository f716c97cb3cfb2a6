use Rattle.std.proofs.Common.{rules, ◌≡◌, map, ap, ◌∙◌}
use Rattle.xsmp_messages.specs.declared.message.XsmpMessage.TheVariants.{Die}
use Rattle.session_model.specs.Moves.{Closed, End, gave_each, tried_each}
use Rattle.session_state.specs.Session.{Session, moved_all}
use Rattle.manager_machine.proofs.Carrying.{ended-all}
use Rattle.manager_machine.proofs.session_core.Core.end.Goals as goal

pub returns : goal.returns
returns c =
    let end = c.args.end.now in
    let killed : c.kill_each.new.self ≡ moved_all (gave_each Die end.registered) c.args.self.now = search rules in
    let closed : c.close_each.new.self ≡ moved_all (map Closed end.others) c.kill_each.new.self = search rules in
    c.in_ok-start_each.ensures
    ∙ ap (λ (s : Session). moved_all (tried_each End end.commands) s) (closed ∙ ap (λ (s : Session). moved_all (map Closed end.others) s) killed)
    ∙ ended-all end c.args.self.now
