use Rattle.std.proofs.Common.{rules, ◌≡◌, Some, None, position, sym, ap, ◌∙◌}
use Rattle.std.specs.Prelude.{is_some}
use Rattle.std.proofs.lemmas.Bool.{eqb-true}
use Rattle.std.proofs.lemmas.List.Quantifiers.{position-Some}
use Rattle.byte_relay.specs.declared.row.Row.{Row}
use Rattle.byte_relay.proofs.Shown.{has, is_placed, placed, unplaced}
use Rattle.byte_relay.proofs.relay.Relay.live.Goals as goal

pub returns-in-Some-clause-live : goal.returns-in-Some-clause-live
returns-in-Some-clause-live c = λ lines shows.
    let at : position (has c.args.number) c.args.self.now.rows.items ≡ Some c.in-Some.place = search rules in
    is_placed c.args.number c.args.self.now.rows.items lines c.in-Some.place (placed c.args.number c.args.self.now.rows.items lines c.in-Some.place shows at)

pub returns-in-Some-clause-conn : goal.returns-in-Some-clause-conn
returns-in-Some-clause-conn c =
    let at : position (has c.args.number) c.args.self.now.rows.items ≡ Some c.in-Some.place = search rules in
    c.conn.ensures ∙ (ap (λ (row : Row). row.conn) c.index.ensures ∙ eqb-true _ _ (position-Some (has c.args.number) c.args.self.now.rows.items c.in-Some.place c.index.result.now at).1)

pub returns-in-None-clause-live : goal.returns-in-None-clause-live
returns-in-None-clause-live c = λ lines shows.
    let at : position (has c.args.number) c.args.self.now.rows.items ≡ None = search rules in
    sym (ap is_some (unplaced c.args.number c.args.self.now.rows.items lines shows at))
