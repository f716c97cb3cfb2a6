use Rattle.std.proofs.Common.{◌∙◌, ap, sym}
use Rattle.std.specs.Str.{bytes_eq}
use Rattle.checkpoint_records.specs.declared.records.Entry.{Entry}
use Rattle.checkpoint_records.proofs.PlaceLaws.{any_in_each}
use Rattle.checkpoint_changes.specs.Changes.{with_entry}
use Rattle.checkpoint_changes.proofs.FoundLaws.{put_in_place, stands_elsewhere}
use Rattle.checkpoint_changes.proofs.applying.sessions_with.Goals as goal

pub returns-then-has_entry_in : goal.returns-then-has_entry_in
returns-then-has_entry_in c =
    stands_elsewhere c.args.name c.args.entry c.args.sessions c.in_ok-entries.others c.as_slice-2.result.now c.as_slice.result.now c.as_slice-3.result.now c.as_slice.ensures c.as_slice-3.ensures c.in_ok-entries.ensures.others c.as_slice-2.ensures (sym (any_in_each (λ (e : Entry). bytes_eq e.id c.as_slice-3.result.now) c.as_slice-2.result.now) ∙ sym c.if-has_entry_in.ensures)

pub returns : goal.returns
returns c =
    put_in_place c.args.name c.args.entry c.args.sessions c.in_ok-entries.others c.as_slice-2.result.now c.in_ok-stored.field-0 c.in_ok-entries.entries c.in_ok-entries-2.entries c.as_slice.result.now c.as_slice-3.result.now
    c.as_slice.ensures c.as_slice-3.ensures c.in_ok-entries.ensures.entries c.in_ok-entries.ensures.others c.as_slice-2.ensures (sym (any_in_each (λ (e : Entry). bytes_eq e.id c.as_slice-3.result.now) c.as_slice-2.result.now) ∙ sym c.if-has_entry_in.ensures)
    (c.in_ok-entries-2.ensures ∙ c.in_ok-together.ensures ∙ ap (with_entry c.args.entry) c.in_ok-into_list.ensures) c.in_ok-stored.ensures
