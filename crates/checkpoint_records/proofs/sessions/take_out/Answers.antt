use Rattle.std.proofs.Common.{List, sym, ap, ◌∙◌}
use Rattle.std.specs.Prelude.{remove}
use Rattle.checkpoint_records.specs.declared.records.Named.{Named}
use Rattle.checkpoint_records.proofs.PlaceLaws.{entries_found, entries_nowhere, others_found, others_nowhere}
use Rattle.checkpoint_records.proofs.sessions.take_out.Goals as goal

pub returns-in-Some-clause-entries : goal.returns-in-Some-clause-entries
returns-in-Some-clause-entries c =
    let place = c.in-Some.place in
    let found = rw c.as_slice.ensures at c.in-Some.ensures in
    sym (entries_found c.args.name.now c.args.sessions place c.remove-session.result found.0 found.1 found.2 (rw c.into_vec-others.ensures at c.remove-session.ensures.value))

pub returns-in-Some-clause-others : goal.returns-in-Some-clause-others
returns-in-Some-clause-others c =
    let place = c.in-Some.place in
    let found = rw c.as_slice.ensures at c.in-Some.ensures in
    c.from_vec.ensures ∙ c.remove-session.ensures.items ∙ ap (λ (all : List Named). remove all place) c.into_vec-others.ensures ∙ sym (others_found c.args.name.now c.args.sessions place found.0 found.1 found.2)

pub returns-in_ok-none-in-None-clause-entries : goal.returns-in_ok-none-in-None-clause-entries
returns-in_ok-none-in-None-clause-entries c = c.in_ok-none-in-None.ensures ∙ c.new.ensures ∙ sym (entries_nowhere c.args.name.now c.args.sessions (rw c.as_slice.ensures at c.in-None.ensures))

pub returns-in_ok-none-in-None-clause-others : goal.returns-in_ok-none-in-None-clause-others
returns-in_ok-none-in-None-clause-others c = sym (others_nowhere c.args.name.now c.args.sessions (rw c.as_slice.ensures at c.in-None.ensures))
