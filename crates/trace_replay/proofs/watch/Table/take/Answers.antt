use Rattle.std.proofs.Common.{rules, ◌≡◌, ℕ, Some, nat_eq, if◌then◌else◌, sym, ◌∙◌}
use Rattle.std.specs.Ordering.{nat_cmp}
use Rattle.std.specs.BTreeMap.{get as row_in}
use Rattle.trace_replay.specs.Flows.{IsReadTo}
use Rattle.trace_replay.proofs.WatchLemmas.{kept_read, new_read, put_piece}
use Rattle.trace_replay.proofs.watch.Table.take.Goals as goal
use Rattle.trace_replay.proofs.watch.Table.take.Goals.{in-Some, in-None}

pub returns-clause-brings : goal.returns-clause-brings
returns-clause-brings c = λ streams reads.
    let found : c.remove.result ≡ row_in nat_cmp c.args.self.now.rows c.args.conn = search rules in
    let read : IsReadTo (streams c.args.conn) c.match-remove.row = elim c.match-remove.branch [
      | in-Some w ↦ rw (w.row-is) (kept_read (streams c.args.conn) (row_in nat_cmp c.args.self.now.rows c.args.conn) w.in-Some.row (reads c.args.conn) (sym found ∙ w.in-Some.is))
      | in-None w ↦ rw (w.row-is) (new_read (streams c.args.conn) (row_in nat_cmp c.args.self.now.rows c.args.conn) w.new.result (reads c.args.conn) (sym found ∙ w.in-None.is) w.new.ensures.0 w.new.ensures.1)
    ] in
    let changes : (q : ℕ) → row_in nat_cmp c.insert.new.self q ≡ (if nat_eq q c.args.conn then Some c.in_ok-row.row else row_in nat_cmp c.args.self.now.rows q) = λ q. search rules in
    put_piece streams c.args.conn c.args.piece.now c.args.self.now.rows c.insert.new.self c.match-remove.row c.in_ok-row.row c.in_ok-row.brought (λ q apart. reads q) read (c.in_ok-row.ensures.takes (streams c.args.conn)) changes
