use Rattle.std.proofs.Common.{List, length, ℕ, sym, subst}
use Rattle.std.specs.Prelude.{HoldsAt}
use Rattle.std.specs.List.{AllWithin}
use Rattle.checkpoint_records.specs.declared.records.Named.{Named as AnySession}
use Rattle.checkpoint_records.proofs.PlaceLaws.{ComesBefore, StandsBehind, placed, placed_last}
use Rattle.checkpoint_records.proofs.sessions.place_among.Goals as goal

pub returns-in-Some-clause-place : goal.returns-in-Some-clause-place
returns-in-Some-clause-place c =
    let all : List AnySession = c.args.sessions.now in
    let place : ℕ = c.in-Some.place in
    λ session name. placed session all place c.in-Some.ensures.0
    (subst (λ (n : List ℕ). HoldsAt (ComesBefore n) all place) (sym name) c.in-Some.ensures.1) (subst (λ (n : List ℕ). AllWithin (StandsBehind n) all 0 place) (sym name) c.in-Some.ensures.2)

pub returns-in-None-clause-place : goal.returns-in-None-clause-place
returns-in-None-clause-place c =
    let all : List AnySession = c.args.sessions.now in
    λ session name. placed_last session all (subst (λ (n : List ℕ). AllWithin (StandsBehind n) all 0 (length all)) (sym name) c.in-None.ensures)
