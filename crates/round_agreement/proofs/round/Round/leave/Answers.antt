use Rattle.std.proofs.Common.{rules, ◌≡◌, ◌∙◌, not, ◌==◌, ap, sym}
use Rattle.std.specs.Prelude.{filter}
use Rattle.std.proofs.lemmas.Fn.{filter_same}
use Rattle.round_agreement.specs.declared.round.Member.{Member}
use Rattle.round_agreement.specs.Agreement.{are_distinct, conns_of, without_member}
use Rattle.round_agreement.proofs.CountLaws.{once-without}
use Rattle.round_agreement.proofs.MemberLaws.{conns-without}
use Rattle.round_agreement.proofs.round.Round.leave.Goals as goal

pub invariant_of-self : goal.invariant_of-self
invariant_of-self c =
    let conn = c.args.conn in
    let members : c.retain.new.self.items ≡ without_member conn c.self.inside.members.items = filter_same _ (λ (m : Member). not (m.conn == conn)) _ (λ x kept f r. search rules) _ _ c.retain.ensures.filtered in
    let conns : c.retain-2.new.self.items ≡ filter (λ other. not (other == conn)) c.self.inside.conns.items = filter_same _ (λ other. not (other == conn)) _ (λ x kept f r. search rules) _ _ c.retain-2.ensures.filtered in (
      conns ∙ ap (filter (λ other. not (other == conn))) c.self.invariant.0 ∙ conns-without conn c.self.inside.members.items ∙ ap conns_of (sym members),
      ap (λ cs. are_distinct cs) conns ∙ once-without conn c.self.inside.conns.items c.self.invariant.1,
      search rules,
      search rules,
    )

pub returns-clause-members : goal.returns-clause-members
returns-clause-members c = filter_same _ (λ (m : Member). not (m.conn == c.args.conn)) _ (λ x kept f r. search rules) _ _ c.retain.ensures.filtered ∙ search rules
