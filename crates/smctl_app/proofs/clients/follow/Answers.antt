use Rattle.std.proofs.Common.{rules, ◌≡◌, ◌∙◌, sym, refl, true, false}
use Rattle.smctl_app.specs.Talking.{AreQuestions, is_over}
use Rattle.smctl_app.proofs.TalkLaws.{adds-still, adds-then, both-ask, outside-isnt, seen-more, seen-none, shown-by}
use Rattle.smctl_app.proofs.clients.follow.Goals as goal

pub returns-then-is_cancelled-clause-seen : goal.returns-then-is_cancelled-clause-seen
returns-then-is_cancelled-clause-seen g c =
    let x = c.in-Ok.look.glance in
    let is : c.is_cancelled.result ≡ true = search rules in
    let over : is_over c.loop.logout.has_begun x.is_awaited x.course ≡ true = sym c.look-in-loop.ensures.cancelled ∙ (sym c.is_cancelled.ensures ∙ is) in
    shown-by _ _ _ c.loop.logout.has_begun true x c.loop.invariant.seen c.in-Ok.ensures.seen (sym over)

pub returns-in-Err-show_waiting-clause-seen : goal.returns-in-Err-show_waiting-clause-seen
returns-in-Err-show_waiting-clause-seen g c =
    let x = c.in-Ok.look.glance in
    let isnt : c.is_cancelled.result ≡ false = search rules in
    let none : is_over c.loop.logout.has_begun x.is_awaited x.course ≡ false = sym c.look-in-loop.ensures.cancelled ∙ (sym c.is_cancelled.ensures ∙ isnt) in
    seen-none _ _ _ _ _ (seen-more _ _ _ c.loop.logout.has_begun c.look-in-loop.new.self.has_begun x c.loop.invariant.seen c.in-Ok.ensures.seen none c.look-in-loop.ensures.begun) refl (outside-isnt c.in-Err-show_waiting.fault c.in-Err-show_waiting.ensures)

pub returns-in-Ok-false-clause-seen : goal.returns-in-Ok-false-clause-seen
returns-in-Ok-false-clause-seen g c =
    let x = c.in-Ok.look.glance in
    let isnt : c.is_cancelled.result ≡ false = search rules in
    let none : is_over c.loop.logout.has_begun x.is_awaited x.course ≡ false = sym c.look-in-loop.ensures.cancelled ∙ (sym c.is_cancelled.ensures ∙ isnt) in
    seen-none _ _ _ _ _ (seen-more _ _ _ c.loop.logout.has_begun c.look-in-loop.new.self.has_begun x c.loop.invariant.seen c.in-Ok.ensures.seen none c.look-in-loop.ensures.begun) c.in-Ok-false.ensures.seen refl

pub returns-in-Err-rest-clause-seen : goal.returns-in-Err-rest-clause-seen
returns-in-Err-rest-clause-seen g c =
    let x = c.in-Ok.look.glance in
    let isnt : c.is_cancelled.result ≡ false = search rules in
    let none : is_over c.loop.logout.has_begun x.is_awaited x.course ≡ false = sym c.look-in-loop.ensures.cancelled ∙ (sym c.is_cancelled.ensures ∙ isnt) in
    seen-none _ _ _ _ _ (seen-more _ _ _ c.loop.logout.has_begun c.look-in-loop.new.self.has_begun x c.loop.invariant.seen c.in-Ok.ensures.seen none c.look-in-loop.ensures.begun) c.in-Err-rest.ensures.seen (outside-isnt c.in-Err-rest.fault c.in-Err-rest.ensures.cause)

pub loop-preserved : goal.loop-preserved
loop-preserved g c =
    let x = c.in-Ok.look.glance in
    let isnt : c.is_cancelled.result ≡ false = search rules in
    let none : is_over c.loop.logout.has_begun x.is_awaited x.course ≡ false = sym c.look-in-loop.ensures.cancelled ∙ (sym c.is_cancelled.ensures ∙ isnt) in
    record {
      asked = adds-still _ _ _ AreQuestions (adds-then _ _ _ AreQuestions AreQuestions AreQuestions c.loop.invariant.asked c.in-Ok.ensures.sent both-ask) c.in-Ok-true.ensures.sent;
      seen = adds-still _ _ _ _ (seen-more _ _ _ c.loop.logout.has_begun c.look-in-loop.new.self.has_begun x c.loop.invariant.seen c.in-Ok.ensures.seen none c.look-in-loop.ensures.begun) c.in-Ok-true.ensures.seen;
    }
