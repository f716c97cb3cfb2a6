use Rattle.std.proofs.Common.{ℕ, List, false, refl, sym, subst}
use Rattle.std.specs.Prelude.{IsTrue}
use Rattle.checkpoint_records.specs.Rules.{IsClientId}
use Rattle.checkpoint_records.proofs.EntryLaws.{no_id, bad_id, no_table, bad_table, entry_found}
use Rattle.checkpoint_records.proofs.entries.take_entry.Goals as goal

pub returns-in-None : goal.returns-in-None
returns-in-None c = no_id c.args.epoch c.args.bytes.now (rw c.in-None.is at c.in_ok-found.ensures)

pub returns-then-not-is_client_id : goal.returns-then-not-is_client_id
returns-then-not-is_client_id c =
    bad_id c.args.epoch c.args.bytes.now c.in-Some.found.0 c.in-Some.found.1.now (rw c.in-Some.is at c.in_ok-found.ensures) (λ i.
    let f : IsTrue false = c.if-not-is_client_id.ensures.1 (subst (λ (id : List ℕ). IsClientId c.args.epoch id) (sym c.as_slice.ensures) i) in absurd cc)

pub returns-in-None-2 : goal.returns-in-None-2
returns-in-None-2 c =
    no_table c.args.epoch c.args.bytes.now c.in-Some.found.0 c.in-Some.found.1.now (rw c.in-Some.is at c.in_ok-found.ensures) (rw c.in-None-2.is at c.in_ok-found-2.ensures)

pub returns-in-Some-3 : goal.returns-in-Some-3
returns-in-Some-3 c =
    entry_found c.args.epoch c.args.bytes.now c.in-Some.found.0 c.in-Some.found.1.now (rw c.in-Some.is at c.in_ok-found.ensures) c.in-Some-2.found.0 c.in-Some-2.found.1.now (rw c.in-Some-2.is at c.in_ok-found-2.ensures)
    c.in-Some-3.table (subst (λ (id : List ℕ). IsClientId c.args.epoch id) c.as_slice.ensures (c.if-not-is_client_id.ensures.0 refl)) (rw c.in-Some-3.is at c.in_ok-table.ensures.some)

pub returns : goal.returns
returns c =
    bad_table c.args.epoch c.args.bytes.now c.in-Some.found.0 c.in-Some.found.1.now (rw c.in-Some.is at c.in_ok-found.ensures) c.in-Some-2.found.0 c.in-Some-2.found.1.now (rw c.in-Some-2.is at c.in_ok-found-2.ensures)
    (rw c.in-None-3.is at c.in_ok-table.ensures.none)
