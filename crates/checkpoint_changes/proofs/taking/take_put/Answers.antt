use Rattle.std.proofs.Common.{false, List, ℕ, refl, sym, subst}
use Rattle.std.specs.Prelude.{IsTrue}
use Rattle.checkpoint_records.specs.Rules.{IsName}
use Rattle.checkpoint_records.specs.declared.head.Format.TheVariants.{Several}
use Rattle.checkpoint_changes.proofs.TakeLaws.{bad_session, named_found, no_entry, no_put, no_session, put_found}
use Rattle.checkpoint_changes.proofs.taking.take_put.Goals as goal

pub returns-in-None : goal.returns-in-None
returns-in-None c = no_put Several c.args.bytes.now (no_session c.args.bytes.now (rw c.in-None.is at c.in_ok-found.ensures))

pub returns-then-not-is_name : goal.returns-then-not-is_name
returns-then-not-is_name c =
    no_put Several c.args.bytes.now (bad_session c.args.bytes.now c.in-Some.found.0 c.in-Some.found.1.now (rw c.in-Some.is at c.in_ok-found.ensures) (λ i.
    let f : IsTrue false = c.if-not-is_name.ensures.1 (subst (λ (name : List ℕ). IsName name) (sym c.as_slice.ensures) i) in absurd cc))

pub returns-in-Some-2 : goal.returns-in-Some-2
returns-in-Some-2 c =
    put_found Several c.args.bytes.now (c.in-Some.found.0, c.in-Some-2.entry) c.in-Some-2.rest.now
    (named_found c.args.bytes.now c.in-Some.found.0 c.in-Some.found.1.now (rw c.in-Some.is at c.in_ok-found.ensures) c.in-Some-2.entry c.in-Some-2.rest.now
    (subst (λ (name : List ℕ). IsName name) c.as_slice.ensures (c.if-not-is_name.ensures.0 refl)) (rw c.in-Some-2.is at c.in_ok-entry.ensures))

pub returns : goal.returns
returns c =
    no_put Several c.args.bytes.now (no_entry c.args.bytes.now c.in-Some.found.0 c.in-Some.found.1.now (rw c.in-Some.is at c.in_ok-found.ensures) (rw c.in-None-2.is at c.in_ok-entry.ensures))
