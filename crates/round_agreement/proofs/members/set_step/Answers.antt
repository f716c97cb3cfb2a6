use Rattle.std.proofs.Common.{rules, ◌≡◌, ◌==◌, Some, None, position}
use Rattle.round_agreement.proofs.CountLaws.{nowhere, set-in-place}
use Rattle.round_agreement.proofs.members.set_step.Goals as goal

pub returns-in-Some : goal.returns-in-Some
returns-in-Some c =
    let at : position (λ other. other == c.args.conn) c.args.conns.now ≡ Some c.in-Some.place = search rules in
    set-in-place c.args.conn c.args.step c.args.members.now c.args.conns.now c.in-Some.place c.requires.conns c.requires.distinct at

pub returns-in_default : goal.returns-in_default
returns-in_default c =
    let none : position (λ other. other == c.args.conn) c.args.conns.now ≡ None = search rules in
    nowhere c.args.conn c.args.step c.args.members.now c.args.conns.now c.requires.conns none
