use Rattle.std.proofs.Common.{rules, ◌≡◌, ◌==◌, not, ap, ◌∙◌}
use Rattle.std.specs.Prelude.{filter}
use Rattle.std.proofs.lemmas.Fn.{filter_same}
use Rattle.stream_watch.specs.Visiting.{Line}
use Rattle.stream_watch.specs.declared.visitor.Visitor.{Visitor}
use Rattle.stream_watch.proofs.Once.{once_kept}
use Rattle.stream_watch.proofs.Shown.{kept_show, others_agree}
use Rattle.stream_watch.proofs.visitors.Visitors.leave.Goals as goal

pub returns : goal.returns
returns c = λ lines shows.
    let is : c.retain.new.self.items ≡ filter (λ (row : Visitor). not (row.conn == c.args.conn)) c.self.inside.rows.items = filter_same _ (λ (row : Visitor). not (row.conn == c.args.conn)) _ (λ x kept f r. search rules) c.self.inside.rows.items _ c.retain.ensures.filtered in
    rw (is ∙ ap (filter (λ (row : Visitor). not (row.conn == c.args.conn))) c.self.view_is) (kept_show (λ (row : Visitor). not (row.conn == c.args.conn)) (λ (l : Line). not (l.number == c.args.conn)) (others_agree c.args.conn) c.args.self.now lines shows)

pub invariant_of-self : goal.invariant_of-self
invariant_of-self c = λ once.
    let is : c.retain.new.self.items ≡ filter (λ (row : Visitor). not (row.conn == c.args.conn)) c.self.inside.rows.items = filter_same _ (λ (row : Visitor). not (row.conn == c.args.conn)) _ (λ x kept f r. search rules) c.self.inside.rows.items _ c.retain.ensures.filtered in
    rw is (once_kept (λ (row : Visitor). not (row.conn == c.args.conn)) c.self.inside.rows.items (c.self.invariant once))
