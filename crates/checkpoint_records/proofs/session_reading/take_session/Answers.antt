use Rattle.std.proofs.Common.{◌≡◌, ◌++◌, ◌∷◌, [], ℕ, List, refl, subst, sym}
use Rattle.std.specs.Prelude.{flat_map}
use Rattle.ice_values.specs.Cells.{zeros}
use Rattle.checkpoint_records.specs.Parts.{AreSessions}
use Rattle.checkpoint_records.specs.Spelling.{part_cells, session_parts}
use Rattle.checkpoint_records.specs.declared.head.Format.TheVariants.{Several}
use Rattle.checkpoint_records.specs.declared.records.Entry.{Entry}
use Rattle.checkpoint_records.specs.declared.records.Named.{Named}
use Rattle.checkpoint_records.proofs.StopLaws.{one_more_session, stops_at_entry, stops_at_session}
use Rattle.checkpoint_records.proofs.session_reading.take_session.Goals as goal

abbrev made : List ℕ → List Entry → Named
made n all = record { name = n; entries = all }

pub returns-in-Err-clause-stop : goal.returns-in-Err-clause-stop
returns-in-Err-clause-stop c = stops_at_session c.args.head c.args.before.now c.requires.format c.requires.before c.requires.due c.args.bytes.now c.in-Err.stop c.in-Err.ensures.stop

pub returns-in-Err-take_entries-clause-stop : goal.returns-in-Err-take_entries-clause-stop
returns-in-Err-take_entries-clause-stop c =
    stops_at_entry c.args.head c.args.before.now c.requires.format c.requires.before c.requires.due c.in-Ok.taken.0 c.in-Ok.ensures.next.0 c.in-Ok.ensures.next.1 c.args.bytes.now c.in-Ok.taken.1.now c.in-Ok.ensures.next.2
    c.in-Err-take_entries.stop c.in-Err-take_entries.ensures.early

pub returns-clause-next : goal.returns-clause-next
returns-clause-next c =
    subst (λ (entries : List Entry). AreSessions c.args.head (c.args.before.now ++ made c.in-Ok.taken.0.name entries ∷ []) × (c.args.bytes.now ≡ zeros (flat_map part_cells (session_parts Several (made c.in-Ok.taken.0.name entries))) ++ c.in-Ok-take_entries.taken.1.now)) (sym c.in_ok-entries.ensures)
    (one_more_session c.args.head c.args.before.now c.requires.format c.requires.before c.requires.due c.in-Ok.taken.0 c.in-Ok.ensures.next.0 c.in-Ok.ensures.next.1 c.args.bytes.now c.in-Ok.taken.1.now c.in-Ok.ensures.next.2
    (made c.in-Ok.taken.0.name c.in-Ok-take_entries.taken.0) c.in-Ok-take_entries.taken.1.now refl c.in-Ok-take_entries.ensures.all.0 c.in-Ok-take_entries.ensures.all.1)
