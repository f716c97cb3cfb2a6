use Rattle.std.proofs.Common.{◌≡◌, ◌++◌, ◌∷◌, [], ap, ◌∙◌, is_none, arith}
use Rattle.std.proofs.lemmas.Grind.{common_steps}
use Rattle.round_agreement.specs.Agreement.{are_distinct}
use Rattle.session_clients.specs.Clients.{conns_in, no_client}
use Rattle.session_clients.specs.Rows.{row_in}
use Rattle.session_clients.proofs.SpanLaws.{once-joined}
use Rattle.session_clients.proofs.live_rows.LiveRows.join.Goals as goal

pub invariant_of-self-2 : goal.invariant_of-self-2
invariant_of-self-2 c =
    let r = c.self.inside in
    let pushed : c.push.new.self.items ≡ r.items.items ++ no_client c.args.conn ∷ [] = grind (arith, common_steps) in
    let new : c.is_none-is_new.result ≡ is_none (row_in c.args.conn r.items.items) = grind (arith, common_steps) in
    λ is. ap (λ rows. are_distinct (conns_in rows)) pushed ∙ once-joined r.each_once c.is_none-is_new.result c.args.conn r.items.items new c.self.invariant is
