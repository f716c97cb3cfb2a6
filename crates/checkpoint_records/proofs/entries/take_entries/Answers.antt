use Rattle.std.proofs.Common.{◌++◌, ◌∷◌, [], List, refl, sym, subst, arith, length-append}
use Rattle.std.proofs.lemmas.List.{append-nil}
use Rattle.checkpoint_records.specs.Books.{entries_in}
use Rattle.checkpoint_records.specs.Parts.{AreEntries, AreEntriesBehind}
use Rattle.checkpoint_records.specs.Spelling.{entry_cells}
use Rattle.checkpoint_records.specs.declared.records.Entry.{Entry}
use Rattle.checkpoint_records.proofs.FrontLaws.{none_yet, one_more}
use Rattle.checkpoint_records.proofs.entries.take_entries.Goals as goal

pub loop-i-init : goal.loop-i-init
loop-i-init c = rw c.new-entries.ensures (
  none_yet entry_cells (AreEntriesBehind c.args.epoch c.args.sessions.now) c.args.bytes.now (subst (AreEntries c.args.epoch) (sym (append-nil (entries_in c.args.sessions.now))) c.requires),
  refl,
)

pub loop-i-preserved : goal.loop-i-preserved
loop-i-preserved c =
    let so_far : List Entry = c.loop-i.entries in
    rw c.in_ok-push-in-Ok.ensures.ok (
      one_more entry_cells (AreEntriesBehind c.args.epoch c.args.sessions.now) c.args.bytes.now so_far c.loop-i.rest.now c.in-Ok.entry c.in-Ok.after.now c.loop-i.invariant.0
          (subst (λ (l : List Entry). AreEntriesBehind c.args.epoch c.args.sessions.now (l ++ c.in-Ok.entry ∷ [])) c.as_slice.ensures c.in-Ok.ensures.next.0) c.in-Ok.ensures.next.1,
      omega (arith, length-append so_far (c.in-Ok.entry ∷ []), c.loop-i.invariant.1),
    )
