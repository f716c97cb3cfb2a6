use Rattle.std.proofs.Common.{rules, ◌≡◌, ℕ, ◌+◌, ◌∷◌, ◌++◌, List, [], Option, Some, None, ap, map, sym, ◌∙◌, drop, slice_index_or, subst}
use Rattle.std.specs.Prelude.{filter_map, option_map}
use Rattle.session_clients.specs.declared.registered_ids.RegisteredId.{RegisteredId}
use Rattle.session_clients.specs.Clients.{id_in}
use Rattle.session_clients.specs.Ids.{Registered, registered_under}
use Rattle.session_clients.proofs.IdLaws.{none-known, one-known}
use Rattle.session_clients.proofs.registered_ids.RegisteredIds.among.Goals as goal
use Rattle.session_clients.proofs.registered_ids.RegisteredIds.among.Goals.{in-Some+in_ok-push, in_default}

pub loop-conn-preserved : goal.loop-conn-preserved
loop-conn-preserved c =
    let i = c.loop-conn.conn-index in
    let cs = c.args.conns.now in
    let conn = slice_index_or cs i 0 in
    let ids = c.loop-conn.ids.items in
    let under : ℕ → Option Registered = λ d. option_map (registered_under d) (id_in d c.args.rows.now) in
    elim c.match-id_in.branch [
      | in-Some+in_ok-push w ↦
          let known : id_in conn c.args.rows.now ≡ Some w.new.result = search rules in
          let one : RegisteredId = record { conn = conn; id = w.new.result } in
          let items : c.match-id_in.ids.items ≡ ids ++ one ∷ [] = ap (λ v. v.items) w.ids-is ∙ w.in_ok-push.ensures.items in
          subst (λ (new : List RegisteredId). map (λ k. registered_under k.conn k.id) new ++ filter_map under (drop (i + 1) cs) ≡ filter_map under cs) (sym items)
          (one-known under cs i c.loop-conn-test.true ids one (ap (option_map (registered_under conn)) known) c.loop-conn.invariant)
      | in_default w ↦
          let none : id_in conn c.args.rows.now ≡ None = search rules in
          subst (λ (new : List RegisteredId). map (λ k. registered_under k.conn k.id) new ++ filter_map under (drop (i + 1) cs) ≡ filter_map under cs) (sym (ap (λ v. v.items) w.ids-is))
          (none-known under cs i c.loop-conn-test.true ids (ap (option_map (registered_under conn)) none) c.loop-conn.invariant)
    ]
