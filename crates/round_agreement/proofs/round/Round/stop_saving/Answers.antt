use Rattle.std.proofs.Common.{◌≡◌, true, take, drop, ◌++◌, length, ap, sym, ◌∙◌, arith}
use Rattle.std.proofs.lemmas.Grind.{common_steps}
use Rattle.round_agreement.specs.Agreement.{Agreement, are_distinct, conns_of, is_at, is_saving, with_step}
use Rattle.round_agreement.proofs.CountLaws.{some-save, stopped}
use Rattle.round_agreement.proofs.round.Round.stop_saving.Goals as goal

pub overflow_sub-self : goal.overflow_sub-self
overflow_sub-self c =
    let r = c.self.inside in
    let once : are_distinct (conns_of r.members.items) ≡ true = ap (λ cs. are_distinct cs) (sym c.self.invariant.0) ∙ c.self.invariant.1 in
    some-save c.args.conn r.members.items r.saving once (ap (λ (a : Agreement). is_at is_saving c.args.conn a.members) c.self.view_is ∙ c.requires.saving) c.self.invariant.2

pub invariant_of-self : goal.invariant_of-self
invariant_of-self c =
    let r = c.self.inside in
    let new : take r.members.len (c.set_step.new.members ++ drop (length c.set_step.new.members) r.members.items) ≡ with_step c.args.conn c.args.step r.members.items = grind (arith, common_steps) in
    stopped c.args.conn c.args.step r.members.items _ r.conns.items r.saving r.is_second_wanted c.wants_two.result c.self.invariant (ap (λ (a : Agreement). is_at is_saving c.args.conn a.members) c.self.view_is ∙ c.requires.saving) c.requires.stops new c.wants_two.ensures
