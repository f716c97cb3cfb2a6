use Rattle.std.proofs.Common.{◌≡◌, ◌∙◌, true, ap}
use Rattle.std.specs.Prelude.{is_some}
use Rattle.interact_queue.specs.Queue.{next_holder}
use Rattle.round_agreement.specs.Agreement.{are_distinct}
use Rattle.session_state.specs.Session.{Session}
use Rattle.manager_machine.specs.contracts.session_core.Core.{the_view}
use Rattle.manager_machine.proofs.Holding.{held-by, next-given, others-left}
use Rattle.manager_machine.proofs.session_core.Core.hold.Goals as goal

pub returns : goal.returns
returns c =
    let s = the_view c.self.inside in
    let conn = c.in-Some.conn in
    let queue-old = c.self.inside.queue in
    let queue = c.grant.new.self in
    let once : are_distinct s.turns.waiting ≡ true = ap (λ (t : Session). are_distinct t.turns.waiting) c.self.view_is ∙ c.requires.waiting_once in
    let step = c.in_ok-tell.ensures ∙ held-by conn s queue.waiting queue.holder (others-left conn queue.waiting s.turns.waiting once c.in-Some.ensures.waiting) c.in-Some.ensures.holder in
    rw (← c.self.view_is) (next-given (next_holder (is_some queue-old.holder) queue-old.waiting) conn s c.tell.new.self c.in-Some.ensures.next step)
