use Rattle.std.proofs.lemmas.Result.{IfOk-weaker}
use Rattle.session_model.specs.Rules.{round_rule, rule}
use Rattle.session_state.specs.Session.{reading_in}
use Rattle.manager_machine.specs.Settling.{WentOn}
use Rattle.manager_machine.proofs.Turning.{rounds-went}
use Rattle.manager_machine.proofs.session_core.Core.settle_once.Goals as goal

pub returns : goal.returns
returns c =
    let s = c.args.self.now in
    let t = c.hold.new.self in
    IfOk-weaker
    _
    (λ went. WentOn (round_rule (reading_in t) t.round) went t c.go_on.new.self)
    (λ went. WentOn (rule (reading_in s)) went s c.go_on.new.self)
    (λ went w. rounds-went s t c.go_on.new.self c.in_ok-hold.field-0 went c.if-branch.false c.in_ok-hold.ensures w)
    c.go_on.ensures
