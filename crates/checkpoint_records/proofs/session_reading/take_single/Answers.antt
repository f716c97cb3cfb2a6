use Rattle.std.proofs.Common.{List, refl, sym, ◌∙◌, subst}
use Rattle.checkpoint_records.specs.Books.{entries_in}
use Rattle.checkpoint_records.specs.Finding.{AreInFront, EndsEarly, IsStop}
use Rattle.checkpoint_records.specs.Parts.{AreEntries, AreEntriesBehind}
use Rattle.checkpoint_records.specs.Spelling.{entry_cells}
use Rattle.checkpoint_records.specs.declared.records.Named.{Named}
use Rattle.checkpoint_records.proofs.EntryLaws.{no_entries}
use Rattle.checkpoint_records.proofs.StopLaws.{alone, stops_alone}
use Rattle.checkpoint_records.proofs.session_reading.take_single.Goals as goal

pub take_entries-requires : goal.take_entries-requires
take_entries-requires c = subst (λ (all : List Named). AreEntries c.args.head.epoch (entries_in all)) (sym (c.as_slice.ensures ∙ c.new-none.ensures)) (no_entries c.args.head.epoch)

pub returns-in-Err-clause-stop : goal.returns-in-Err-clause-stop
returns-in-Err-clause-stop c =
    stops_alone c.args.head c.requires.format c.args.bytes.now c.in-Err.stop
    (subst (λ (all : List Named). IsStop c.args.bytes.now (EndsEarly entry_cells (AreEntriesBehind c.args.head.epoch all) c.args.bytes.now c.args.head.count) c.in-Err.stop) (c.as_slice.ensures ∙ c.new-none.ensures) c.in-Err.ensures.early)

pub returns-clause-all : goal.returns-clause-all
returns-clause-all c =
    let name = c.in_ok-name.ensures in
    let entries = c.in-Ok.taken.0 in
    alone c.args.head c.requires.format c.args.bytes.now entries c.in_ok-sessions.sessions c.in-Ok.taken.1.now c.requires.stated
    (c.in_ok-sessions.ensures ∙ rw (name, c.new-none.ensures, c.in_ok-entries.ensures) refl)
    (subst (λ (all : List Named). AreInFront entry_cells (AreEntriesBehind c.args.head.epoch all) c.args.bytes.now entries c.in-Ok.taken.1.now) (c.as_slice.ensures ∙ c.new-none.ensures) c.in-Ok.ensures.all.0) c.in-Ok.ensures.all.1
