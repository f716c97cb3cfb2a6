use Rattle.std.proofs.Common.{◌≡◌, true, length, arith}
use Rattle.std.proofs.lemmas.Grind.{common_steps}
use Rattle.round_agreement.specs.Agreement.{all_saving, are_distinct}
use Rattle.round_agreement.proofs.CountLaws.{begun}
use Rattle.round_agreement.proofs.round.Round.begin.Goals as goal

pub invariant_of-result : goal.invariant_of-result
invariant_of-result c =
    let conns = c.into_vec-conns.result.items in
    let made : c.loop-conn.members.items ≡ all_saving conns = grind (arith, common_steps) in
    let once : are_distinct conns ≡ true = grind (arith, common_steps) in
    let long : c.len-2.result ≡ length conns = grind (arith, common_steps) in
    begun c.loop-conn.members.items conns c.len-2.result made once long
