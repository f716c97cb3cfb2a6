use Rattle.std.proofs.Common.{rules, ◌≡◌, List, [], ◌∷◌, ◌++◌, subst, sym}
use Rattle.display_place.specs.declared.authority.DisplayEntry.{DisplayEntry}
use Rattle.display_place.proofs.EntryLaws.{Goes, goes_on, ends}
use Rattle.display_place.proofs.authority.read_entries.Goals as goal

pub loop-entries-preserved : goal.loop-entries-preserved
loop-entries-preserved c =
    let pushed : c.push.new.self ≡ c.loop-entries.entries ++ c.in-Some.found.0 ∷ [] = search rules in
    let goes = goes_on c.args.bytes.now c.loop-entries.entries c.loop-entries.rest.now c.in-Some.found.1.now c.in-Some.found.0 c.loop-entries.invariant (rw c.in-Some.is at c.in_ok-found.ensures.exact) in
    subst (λ (es : List DisplayEntry). Goes c.args.bytes.now es c.in-Some.found.1.now) (sym pushed) goes

pub returns : goal.returns
returns c = record { holds = ends c.args.bytes.now c.loop-entries.entries c.loop-entries.rest.now c.loop-entries.invariant (rw c.in_default.is at c.in_ok-found.ensures.exact) }
