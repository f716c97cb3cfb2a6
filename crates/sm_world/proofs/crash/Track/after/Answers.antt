use Rattle.std.proofs.Common.{◌≡◌, ◌∙◌, length, sym, true, false}
use Rattle.sm_world.proofs.Tracking.{wrote_elsewhere, wrote_here, torn_elsewhere, torn_here, synced_here, others_shown}
use Rattle.sm_world.specs.Crash.{covers}
use Rattle.sm_world.proofs.crash.Track.after.Goals as goal

pub returns-then-not-in_range : goal.returns-then-not-in_range
returns-then-not-in_range c cell held was =
    let outside : covers c.in-Wrote.at (length c.in-Wrote.bytes) c.args.place ≡ false = rw (← c.len.ensures) (sym c.in_range.ensures ∙ c.if-not-in_range.true) in
    rw c.in-Wrote.is (wrote_elsewhere c.args.fill c.args.place cell held c.args.self c.in-Wrote.at c.in-Wrote.bytes outside was)

pub returns-else-not-in_range : goal.returns-else-not-in_range
returns-else-not-in_range c cell held was =
    let inside : covers c.in-Wrote.at (length c.in-Wrote.bytes) c.args.place ≡ true = rw (← c.len.ensures) (sym c.in_range.ensures ∙ c.if-not-in_range.false) in
    rw c.in-Wrote.is (wrote_here c.args.fill c.args.place cell held c.wrote.result c.in-Wrote.at c.in-Wrote.bytes inside (rw (← c.len-in-Wrote.ensures, ← c.as_slice.ensures) (c.wrote.ensures cell held was)))

pub returns-then-not-in_range-2 : goal.returns-then-not-in_range-2
returns-then-not-in_range-2 c cell held was =
    let outside : covers c.in-Torn.at c.in-Torn.count c.args.place ≡ false = sym c.in_range-in-Torn.ensures ∙ c.if-not-in_range-2.true in
    rw c.in-Torn.is (torn_elsewhere c.args.fill c.args.place cell held c.args.self c.in-Torn.at c.in-Torn.count outside was)

pub returns-else-not-in_range-2 : goal.returns-else-not-in_range-2
returns-else-not-in_range-2 c cell held was =
    let inside : covers c.in-Torn.at c.in-Torn.count c.args.place ≡ true = sym c.in_range-in-Torn.ensures ∙ c.if-not-in_range-2.false in
    rw c.in-Torn.is (torn_here c.args.fill c.args.place cell held c.torn.result c.in-Torn.at c.in-Torn.count inside (c.torn.ensures c.args.fill cell held was))

pub returns-in-Synced : goal.returns-in-Synced
returns-in-Synced c cell held was = rw c.in-Synced.is (synced_here c.args.fill c.args.place cell held c.synced.result (c.synced.ensures cell held was))

pub returns-in_default : goal.returns-in_default
returns-in_default c cell held was = others_shown c.args.fill c.args.place cell held c.args.self c.args.effect.now c.in_default.not-Wrote c.in_default.not-Torn c.in_default.not-Synced was
