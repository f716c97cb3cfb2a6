use Rattle.std.proofs.Common.{◌≡◌, ap, subst, ◌∙◌, rules}
use Rattle.ice_values.specs.Walks.{walk_left}
use Rattle.xsmp_properties.specs.Tables.{set_all, IsTableFull}
use Rattle.xsmp_properties.proofs.SetLaws.{fits, set_all-anew}
use Rattle.xsmp_properties.proofs.table.PropertyTable.set_view.Goals as goal

pub put_named-requires : goal.put_named-requires
put_named-requires c =
    let table = c.self.inside.shared in
    let list = walk_left c.args.walk in
    let is : set_all table c.put_walk.new.self ≡ set_all table list = ap (set_all table) (c.in_ok-put_walk.ensures ∙ ap (λ l. set_all l list) c.new-named.ensures) ∙ set_all-anew table list in
    let not_full : ¬ (IsTableFull (set_all table list)) = search rules in
    fits (set_all table c.put_walk.new.self) (λ full. not_full (subst IsTableFull is full))

pub invariant_of-self-2 : goal.invariant_of-self-2
invariant_of-self-2 c = λ full.
    let table = c.self.inside.shared in
    let list = walk_left c.args.walk in
    let is : set_all table c.put_walk.new.self ≡ set_all table list = ap (set_all table) (c.in_ok-put_walk.ensures ∙ ap (λ l. set_all l list) c.new-named.ensures) ∙ set_all-anew table list in
    let not_full : ¬ (IsTableFull (set_all table list)) = search rules in
    not_full (subst IsTableFull (c.in_ok-put_named.ensures.ok ∙ is) full)

pub returns-clause-ok : goal.returns-clause-ok
returns-clause-ok c =
    let table = c.self.inside.shared in
    let list = walk_left c.args.walk in
    c.in_ok-put_named.ensures.ok ∙ ap (set_all table) (c.in_ok-put_walk.ensures ∙ ap (λ l. set_all l list) c.new-named.ensures) ∙ set_all-anew table list ∙ ap (λ l. set_all l list) c.self.view_is
