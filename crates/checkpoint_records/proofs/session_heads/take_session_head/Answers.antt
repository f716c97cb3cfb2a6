use Rattle.std.proofs.Common.{false, refl, sym, subst}
use Rattle.std.specs.Prelude.{IsTrue}
use Rattle.checkpoint_records.specs.Rules.{IsName}
use Rattle.checkpoint_records.proofs.SessionHeadLaws.{no_name, no_count, no_unused, bad_unused, bad_name, bad_count, session_head_found}
use Rattle.checkpoint_records.proofs.session_heads.take_session_head.Goals as goal

pub returns-in-None : goal.returns-in-None
returns-in-None c = no_name c.args.bytes.now (rw c.in-None.is at c.in_ok-found.ensures)

pub returns-in-None-take_number : goal.returns-in-None-take_number
returns-in-None-take_number c = no_count c.args.bytes.now c.in-Some.found.0 c.in-Some.found.1.now (rw c.in-Some.is at c.in_ok-found.ensures) c.in-None-take_number.ensures

pub returns-in-None-take_number-2 : goal.returns-in-None-take_number-2
returns-in-None-take_number-2 c =
    no_unused c.args.bytes.now c.in-Some.found.0 c.in-Some.found.1.now (rw c.in-Some.is at c.in_ok-found.ensures) c.in-Some-take_number.found.0 c.in-Some-take_number.found.1.now c.in-Some-take_number.ensures c.in-None-take_number-2.ensures

pub returns-then-unused-ne0 : goal.returns-then-unused-ne0
returns-then-unused-ne0 c =
    bad_unused c.args.bytes.now c.in-Some.found.0 c.in-Some.found.1.now (rw c.in-Some.is at c.in_ok-found.ensures) c.in-Some-take_number.found.0 c.in-Some-take_number.found.1.now c.in-Some-take_number.ensures
    c.in-Some-take_number-2.found.0 c.in-Some-take_number-2.found.1.now c.in-Some-take_number-2.ensures c.if-unused-ne0.true

pub returns-then-not-is_name : goal.returns-then-not-is_name
returns-then-not-is_name c =
    bad_name c.args.bytes.now c.in-Some.found.0 c.in-Some.found.1.now (rw c.in-Some.is at c.in_ok-found.ensures) c.in-Some-take_number.found.0 c.in-Some-take_number.found.1.now c.in-Some-take_number.ensures
    c.in-Some-take_number-2.found.0 c.in-Some-take_number-2.found.1.now c.in-Some-take_number-2.ensures (λ i.
    let f : IsTrue false = c.if-not-is_name.ensures.1 (subst IsName (sym c.as_slice.ensures) i) in absurd cc)

pub returns-then-not-is_count : goal.returns-then-not-is_count
returns-then-not-is_count c =
    bad_count c.args.bytes.now c.in-Some.found.0 c.in-Some.found.1.now (rw c.in-Some.is at c.in_ok-found.ensures) c.in-Some-take_number.found.0 c.in-Some-take_number.found.1.now c.in-Some-take_number.ensures
    c.in-Some-take_number-2.found.0 c.in-Some-take_number-2.found.1.now c.in-Some-take_number-2.ensures (λ i.
    let f : IsTrue false = c.if-not-is_count.ensures.1 i in absurd cc)

pub returns : goal.returns
returns c =
    session_head_found c.args.bytes.now c.in-Some.found.0 c.in-Some.found.1.now (rw c.in-Some.is at c.in_ok-found.ensures) c.in-Some-take_number.found.0 c.in-Some-take_number.found.1.now c.in-Some-take_number.ensures
    c.in-Some-take_number-2.found.0 c.in-Some-take_number-2.found.1.now c.in-Some-take_number-2.ensures
    c.if-unused-ne0.false (subst IsName c.as_slice.ensures (c.if-not-is_name.ensures.0 refl)) (c.if-not-is_count.ensures.0 refl)
