use Rattle.std.proofs.Common.{rules, ◌≡◌, ℕ, List, length, refl, sym, ◌∙◌, ap, subst}
use Rattle.sm_world.specs.declared.events.Event.TheVariants.{Piece}
use Rattle.sm_world.proofs.Adding.{never_fallen, fallen_never}
use Rattle.ice_framing.proofs.Fronts.{rest_is}
use Rattle.session_engine.specs.Acts.{has_finish}
use Rattle.session_engine.specs.Machine.{step}
use Rattle.session_engine.proofs.Pieces.{Taking, begins, takes, taking_emptied, cut_short, carried_short, given_up, ends, ended}
use Rattle.session_engine.proofs.Showing.{used_up}
use Rattle.session_engine.proofs.serving.take_piece.Goals as goal

pub loop-left-init : goal.loop-left-init
loop-left-init g c = record {
  taking = λ m shows. begins m c.args.conn c.args.bytes.now _ c.args.engine.now c.args.store shows;
  size = refl;
  coming = refl;
  input = refl;
  first = refl;
  counts = never_fallen _;
}

pub cut-requires : goal.cut-requires
cut-requires g c =
    let taking = c.loop-left.invariant.taking c.requires.shown.0 c.requires.shown.1 in
    (taking.machine, taking.shows)

pub loop-left-preserved : goal.loop-left-preserved
loop-left-preserved g c = record {
  taking = λ m shows.
      let taking = c.loop-left.invariant.taking m shows in
      let P : List ℕ → Type 0 = λ left. Taking (step m (Piece c.args.conn c.args.bytes.now)) c.args.conn left (g.W.Told.outside c.args.world.now).told (g.W.Told.outside c.carry_out.new.world).told c.take_acts.new.self c.args.store c.in-Ok.next c.and-turn.result in
      subst P (sym (rest_is c.loop-left.left.now c.in-Ok-Some.count)) (
      taking_emptied _ c.args.conn _ _ _ c.cut.new.self c.take_acts.new.self c.args.store c.in-Ok.next c.and-turn.result c.take_acts.ensures.rest (
      takes _ c.args.conn _ _ _ _ _ _ c.cut.new.self c.args.store c.loop-left.store c.in-Ok.next c.loop-left.turn c.in-Ok.last c.and-turn.result taking
      (rw c.in-Ok-Some.field-0-is at (c.in-Ok-Some.ensures.takes taking.machine taking.shows))
      (rw c.take_acts.ensures.acts at c.in-Ok.ensures.done) (c.in-Ok.ensures.turn ∙ ap has_finish c.take_acts.ensures.acts) c.and-turn.ensures
      ));
  size = c.in-Ok.ensures.alone.size ∙ c.loop-left.invariant.size;
  coming = c.in-Ok.ensures.alone.coming ∙ c.loop-left.invariant.coming;
  input = c.in-Ok.ensures.alone.input ∙ c.loop-left.invariant.input;
  first = c.in-Ok.ensures.alone.first ∙ c.loop-left.invariant.first;
  counts = fallen_never _ _ _ c.loop-left.invariant.counts c.in-Ok.ensures.alone.counts.counts;
}

pub returns-in-Err-carry_out-clause-carried : goal.returns-in-Err-carry_out-clause-carried
returns-in-Err-carry_out-clause-carried g c = λ m shows.
    let taking = c.loop-left.invariant.taking m shows in
    carried_short _ _ _ c.args.store c.cut.new.self c.take_acts.new.self c.in-Err-carry_out.halt (
    cut_short _ c.args.conn _ _ _ _ _ _ c.cut.new.self c.args.store c.loop-left.store c.loop-left.turn c.in-Err-carry_out.halt taking
    (rw c.in-Ok-Some.field-0-is at (c.in-Ok-Some.ensures.takes taking.machine taking.shows))
    (rw c.take_acts.ensures.acts at c.in-Err-carry_out.ensures.done)
    )

pub returns-clause-carried : goal.returns-clause-carried
returns-clause-carried g c = λ m shows.
    let none : length c.loop-left.left.now ≡ 0 = search rules in
    let taking = c.loop-left.invariant.taking m shows in
    ends _ c.args.conn _ _ _ _ c.loop-left.engine c.args.store c.loop-left.store c.loop-left.turn taking (used_up taking.machine c.args.conn c.loop-left.left.now c.loop-left.engine none taking.shows)

pub returns-clause-turn : goal.returns-clause-turn
returns-clause-turn g c = λ m shows.
    let none : length c.loop-left.left.now ≡ 0 = search rules in
    let taking = c.loop-left.invariant.taking m shows in
    ended _ c.args.conn _ _ _ _ c.loop-left.engine c.args.store c.loop-left.store c.loop-left.turn taking (used_up taking.machine c.args.conn c.loop-left.left.now c.loop-left.engine none taking.shows)

pub returns-in-Err-clause-carried : goal.returns-in-Err-clause-carried
returns-in-Err-clause-carried g c = λ m shows.
    let taking = c.loop-left.invariant.taking m shows in
    given_up _ c.args.conn _ _ _ _ c.cut.new.self c.args.store c.loop-left.store c.loop-left.turn taking
