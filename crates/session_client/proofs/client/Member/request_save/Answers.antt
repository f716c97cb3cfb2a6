use Rattle.std.proofs.Common.{rules, ◌≡◌, true}
use Rattle.client_engine.specs.Places.{phase_at}
use Rattle.client_machine.specs.Phases.{is_registered}
use Rattle.session_client.proofs.Acts.{may_wish}
use Rattle.session_client.proofs.client.Member.request_save.Goals as goal

pub returns-clause-place : goal.returns-clause-place
returns-clause-place c =
    let member : is_registered (phase_at c.args.self.now.talk.place) ≡ true = search rules in
    may_wish c.args.wish c.args.self.now.talk.place member
