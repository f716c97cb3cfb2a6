use Rattle.std.proofs.Common.{[], ◌∷◌, ◌++◌, refl, sym, arith, subst, append_assoc}
use Rattle.checkpoint_records.specs.Books.{entries_in}
use Rattle.checkpoint_records.specs.Parts.{AreEntries}
use Rattle.checkpoint_records.proofs.EntryLaws.{entries_more, none_next, old_id, stuck_behind}
use Rattle.checkpoint_records.proofs.entries.take_next.Goals as goal

pub returns-then-is_taken-clause-stop : goal.returns-then-is_taken-clause-stop
returns-then-is_taken-clause-stop c = (
  omega arith,
  (
    refl,
    stuck_behind c.args.epoch c.args.sessions.now c.args.before.now c.args.bytes.now
        (old_id c.args.epoch (entries_in c.args.sessions.now ++ c.args.before.now) c.args.bytes.now c.in-Some.entry c.in-Some.rest.now c.as_slice.result.now (rw c.in-Some.is at c.in_ok-entry.ensures) c.as_slice.ensures (sym c.if-is_taken.ensures)),
  ),
)

pub returns-else-is_taken-clause-next : goal.returns-else-is_taken-clause-next
returns-else-is_taken-clause-next c =
    let finds = rw c.in-Some.is at c.in_ok-entry.ensures in
    let all = entries_more c.args.epoch (entries_in c.args.sessions.now ++ c.args.before.now) c.in-Some.entry c.as_slice.result.now c.requires finds.some.0 c.as_slice.ensures (sym c.if-is_taken.ensures) in
    (subst (AreEntries c.args.epoch) (append_assoc (entries_in c.args.sessions.now) c.args.before.now (c.in-Some.entry ∷ [])) all, finds.some.1)

pub returns-in-None-clause-stop : goal.returns-in-None-clause-stop
returns-in-None-clause-stop c = (
  omega arith,
  (
    refl,
    stuck_behind c.args.epoch c.args.sessions.now c.args.before.now c.args.bytes.now
        (none_next c.args.epoch (entries_in c.args.sessions.now ++ c.args.before.now) c.args.bytes.now (rw c.in-None.is at c.in_ok-entry.ensures)),
  ),
)
