use Rattle.std.proofs.Common.{rules, ◌≡◌, Some, None, position, ◌∙◌, subst, ap, List}
use Rattle.std.specs.Prelude.{OnOk, slice_set}
use Rattle.stream_watch.specs.Visiting.{Line, ShowAll, after_sent}
use Rattle.stream_watch.specs.declared.visitor.Visitor.{Visitor}
use Rattle.stream_watch.proofs.Once.{once_changed}
use Rattle.stream_watch.proofs.Shown.{has, grown_on_ok, unplaced}
use Rattle.stream_watch.proofs.visitors.Visitors.follow.Goals as goal

pub returns-in-Some : goal.returns-in-Some
returns-in-Some c =
    let rows : List Visitor = c.self.inside.rows.items in
    let here : position (has c.args.conn) c.args.self.now ≡ Some c.in-Some.place = search rules in
    let at : position (has c.args.conn) rows ≡ Some c.in-Some.place = ap (λ (xs : List Visitor). position (has c.args.conn) xs) c.self.view_is ∙ here in
    subst (λ (xs : List Visitor). OnOk c.follow.result ((ls : List Line) → ShowAll xs ls → ShowAll (slice_set rows c.in-Some.place c.follow.new.self) (after_sent c.args.conn c.args.now c.args.bytes.now ls))) c.self.view_is
    (grown_on_ok c.args.conn c.args.now c.args.bytes.now rows c.in-Some.place c.index_mut.result.now c.follow.new.self at c.index_mut.ensures.value c.follow.result c.follow.ensures.shows)

pub invariant_of-self : goal.invariant_of-self
invariant_of-self c = λ once. once_changed c.self.inside.rows.items c.in-Some.place c.index_mut.result.now c.follow.new.self c.index_mut.ensures.value c.follow.ensures.same (c.self.invariant once)

pub returns-in-None : goal.returns-in-None
returns-in-None c = λ lines shows.
    let at : position (has c.args.conn) c.args.self.now ≡ None = search rules in
    unplaced c.args.conn c.args.now c.args.bytes.now c.args.self.now lines shows at
