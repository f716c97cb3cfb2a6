use Rattle.std.proofs.Common.{sym, ◌∙◌}
use Rattle.session_state.specs.Session.{reading_in}
use Rattle.manager_machine.proofs.Going.{second-went}
use Rattle.manager_machine.proofs.session_core.Core.go_on.Goals as goal

pub returns-in_ok-begin_second-in-SecondPhase : goal.returns-in_ok-begin_second-in-SecondPhase
returns-in_ok-begin_second-in-SecondPhase c =
    let s = c.args.self.now in
    second-went (reading_in s) s.round s c.begin_second.new.self (sym c.progress.ensures ∙ c.in-SecondPhase.is) c.in_ok-begin_second-in-SecondPhase.ensures
