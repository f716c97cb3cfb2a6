use Rattle.std.proofs.Common.{◌≡◌, ◌∙◌, ap, sym, subst, [], ◌++◌, ◌∷◌, List, None, position, is_none, arith}
use Rattle.std.proofs.lemmas.Grind.{common_steps}
use Rattle.stream_watch.specs.Visiting.{AreOnce, numbers}
use Rattle.stream_watch.specs.declared.visitor.Visitor.{Visitor}
use Rattle.stream_watch.proofs.Once.{joined}
use Rattle.stream_watch.proofs.Shown.{has, one_more}
use Rattle.stream_watch.proofs.visitors.Visitors.join.Goals as goal

pub returns : goal.returns
returns c = λ lines shows.
    let items : c.push.new.self.items ≡ c.args.self.now ++ c.new.result ∷ [] = c.in_ok-push.ensures.items ∙ ap (λ (xs : List Visitor). xs ++ c.new.result ∷ []) c.self.view_is in
    rw items (one_more c.args.self.now lines c.new.result (record { number = c.args.conn; since = c.args.now; sent = []; told = None }) shows c.new.ensures)

pub invariant_of-self-2 : goal.invariant_of-self-2
invariant_of-self-2 c =
    let rows : List Visitor = c.self.inside.rows.items in
    let row : Visitor = c.new.result in
    let items : c.push.new.self.items ≡ rows ++ row ∷ [] = c.in_ok-push.ensures.items in
    let is : c.is_none-is_new.result ≡ is_none c.place_of.result = grind (arith, common_steps) in
    let new : c.is_none-is_new.result ≡ is_none (position (has row.conn) rows) = is ∙ ap is_none (c.place_of.ensures ∙ ap (λ (xs : List Visitor). position (has c.args.conn) xs) c.deref.ensures.value) ∙ ap (λ n. is_none (position (has n) rows)) (sym c.new.ensures.number) in
    λ both. subst (λ (xs : List Visitor). AreOnce (numbers xs)) (sym items) (joined c.self.inside.each_once c.is_none-is_new.result rows row new c.self.invariant both)
