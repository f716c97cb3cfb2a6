use Rattle.std.proofs.Common.{rules, ◌≡◌, take, drop, ◌++◌, length, arith}
use Rattle.std.proofs.lemmas.Grind.{common_steps}
use Rattle.round_agreement.specs.Agreement.{count_at, is_saving, with_second}
use Rattle.round_agreement.proofs.CountLaws.{in-second}
use Rattle.round_agreement.proofs.round.Round.start_two.Goals as goal

pub invariant_of-self : goal.invariant_of-self
invariant_of-self c =
    let r = c.self.inside in
    let new : take r.members.len (c.set_second.new.members ++ drop (length c.set_second.new.members) r.members.items) ≡ with_second r.members.items = grind (arith, common_steps) in
    let counted : c.count_saving-self-inside.result ≡ count_at is_saving (take r.members.len (c.set_second.new.members ++ drop (length c.set_second.new.members) r.members.items)) = search rules in
    in-second r.members.items _ r.conns.items c.count_saving-self-inside.result c.self.invariant.0 c.self.invariant.1 new counted
