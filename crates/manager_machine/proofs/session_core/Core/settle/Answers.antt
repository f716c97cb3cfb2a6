use Rattle.std.proofs.Common.{length, rules, arith, ◌≡◌, ℕ, ◌+◌, ◌*◌, ◌-◌, suc, true, ap, ◌∙◌}
use Rattle.session_state.specs.Session.{settle_in}
use Rattle.manager_machine.proofs.Turning.{in-order-went, settle-went}
use Rattle.manager_machine.proofs.session_core.Core.settle.Goals as goal

pub settle_once-requires : goal.settle_once-requires
settle_once-requires c = c.loop-rule.invariant.in_order 0

pub loop-rule-preserved : goal.loop-rule-preserved
loop-rule-preserved c =
    let s = c.loop-rule.self in
    let t = c.settle_once.new.self in
    let limit = 4 * length c.as_slice.result.now + 4 in
    let left = limit - (c.loop-rule._rule + 1) in
    let went : c.in_ok-settle_once.field-0 ≡ true = search rules in
    let fewer : suc left ≡ limit - c.loop-rule._rule = omega arith in
    record {
      settled = settle-went left s t c.in_ok-settle_once.field-0 went c.in_ok-settle_once.ensures ∙ ap (λ (n : ℕ). settle_in n s) fewer ∙ c.loop-rule.invariant.settled;
      in_order = in-order-went s t c.in_ok-settle_once.field-0 went c.in_ok-settle_once.ensures c.loop-rule.invariant.in_order;
    }
