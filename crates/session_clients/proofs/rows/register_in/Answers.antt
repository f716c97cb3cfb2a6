use Rattle.std.proofs.Common.{rules, ◌≡◌, ◌==◌, ◌∙◌, ◌++◌, ap, map, Some, None}
use Rattle.std.specs.List.{position}
use Rattle.std.proofs.lemmas.Result.{on_ok_weaker}
use Rattle.session_clients.specs.Rows.{client_registered}
use Rattle.session_clients.proofs.FirstRowLaws.{from-first, no-row}
use Rattle.session_clients.proofs.rows.register_in.Goals as goal

pub returns-in-None : goal.returns-in-None
returns-in-None c =
    let none : position (λ k. k.conn == c.args.conn) c.args.rows.now ≡ None = search rules in
    no-row c.args.conn c.args.id c.args.table c.args.rows.now none

pub returns : goal.returns
returns c =
    let at : position (λ k. k.conn == c.args.conn) c.args.rows.now ≡ Some c.in-Some.place = search rules in
    on_ok_weaker c.register_from.result
    (λ h. ap (λ front. front ++ c.register_from.new.rows) c.split_at_mut-rest.ensures.front
    ∙ from-first c.args.conn c.args.id c.args.table c.args.rows.now c.register_from.new.rows c.in-Some.place at
    (h ∙ ap (map (client_registered c.args.conn c.args.id c.args.table)) c.split_at_mut-rest.ensures.back))
    c.register_from.ensures
