use Rattle.std.proofs.Common.{◌∙◌, List, ap}
use Rattle.checkpoint_records.specs.Books.{stored}
use Rattle.checkpoint_records.specs.declared.records.Entry.{Entry}
use Rattle.checkpoint_changes.specs.Changes.{without}
use Rattle.checkpoint_changes.proofs.FoundLaws.{none_found, none_gone, some_gone}
use Rattle.checkpoint_changes.proofs.applying.sessions_without.Goals as goal

pub returns-in-None : goal.returns-in-None
returns-in-None c = none_found c.args.id.now c.args.sessions c.as_slice.result.now c.as_slice.ensures (rw c.in-None.is at c.in_ok-name.ensures)

pub returns-in_ok-stored-in-Some-without : goal.returns-in_ok-stored-in-Some-without
returns-in_ok-stored-in-Some-without c =
    some_gone c.args.id.now c.in-Some.name c.as_slice-2.result.now c.args.sessions c.as_slice.result.now c.in_ok-entries.entries c.in-Some-without.left c.in_ok-entries.others c.in_ok-stored-in-Some-without.field-0
    c.as_slice.ensures (rw c.in-Some.is at c.in_ok-name.ensures) c.as_slice-2.ensures c.in_ok-entries.ensures.entries c.in_ok-entries.ensures.others
    (rw c.in-Some-without.is at c.without.ensures ∙ ap (without c.args.id.now) c.in_ok-into_list.ensures)
    (c.in_ok-stored-in-Some-without.ensures ∙ ap (λ (entries : List Entry). stored c.in-Some.name entries c.in_ok-entries.others) c.in_ok-entries-in-Some-without.ensures)

pub returns-in-None-without : goal.returns-in-None-without
returns-in-None-without c =
    none_gone c.args.id.now c.in-Some.name c.as_slice-2.result.now c.args.sessions c.as_slice.result.now c.in_ok-entries.entries
    c.as_slice.ensures (rw c.in-Some.is at c.in_ok-name.ensures) c.as_slice-2.ensures c.in_ok-entries.ensures.entries (rw c.in-None-without.is at c.without.ensures ∙ ap (without c.args.id.now) c.in_ok-into_list.ensures)
