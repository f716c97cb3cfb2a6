use Rattle.std.proofs.Common.{rules, ◌≡◌, true, Some, ◌∙◌, ap, sym, subst}
use Rattle.std.specs.Ordering.{nat_cmp}
use Rattle.std.specs.BTreeMap.{get as place_of}
use Rattle.slab.specs.Slab.{get, with_value}
use Rattle.session_engine.specs.Places.{kept_in}
use Rattle.session_state.specs.Session.{reading_in}
use Rattle.session_engine.specs.Answers.{speaks_xsmp}
use Rattle.session_engine.specs.Bringing.{CanHear, CutsSo}
use Rattle.session_engine.specs.Cutting.{Cuts}
use Rattle.session_engine.specs.Shown.{CutsAt}
use Rattle.session_engine.proofs.CutLemmas.{asked_of, cuts_live, cuts_so}
use Rattle.session_engine.proofs.Connections.{other}
use Rattle.session_engine.proofs.Seats.{rewritten, kept_is, seated_after, seated_here, held_number}
use Rattle.session_engine.proofs.live.Connections.cut.Goals as goal

pub invariant_of-self-2 : goal.invariant_of-self-2
invariant_of-self-2 c =
    let held : place_of nat_cmp c.args.self.now.places c.args.conn ≡ Some c.in-Some.place.now = search rules in
    let is : get c.args.self.now.seats c.in-Some.place.now ≡ Some c.in-Some-get_mut.connection.now = search rules in
    let change = rewritten c.args.self.now.places c.args.self.now.seats c.args.conn c.in-Some.place.now c.in-Some-get_mut.connection.now c.cut.new.self c.args.self.now.seated held is in
    let number : c.cut.new.self.conn ≡ c.args.conn = c.cut.ensures.conn ∙ held_number c.args.self.now.places c.args.self.now.seats c.args.conn c.in-Some.place.now c.in-Some-get_mut.connection.now c.args.self.now.seated held is in
    record { seated = seated_after c.args.self.now.places c.args.self.now.places c.args.self.now.seats (with_value c.args.self.now.seats c.in-Some.place.now c.cut.new.self) c.args.conn c.in-Some.place.now (Some c.in-Some.place.now) (Some c.cut.new.self) c.args.self.now.seated change (seated_here (with_value c.args.self.now.seats c.in-Some.place.now c.cut.new.self) c.args.conn c.in-Some.place.now c.cut.new.self change.seats_are.changed number) }

pub returns-clause-others : goal.returns-clause-others
returns-clause-others c = λ q apart.
    let held : place_of nat_cmp c.args.self.now.places c.args.conn ≡ Some c.in-Some.place.now = search rules in
    let is : get c.args.self.now.seats c.in-Some.place.now ≡ Some c.in-Some-get_mut.connection.now = search rules in
    let change = rewritten c.args.self.now.places c.args.self.now.seats c.args.conn c.in-Some.place.now c.in-Some-get_mut.connection.now c.cut.new.self c.args.self.now.seated held is in
    rw (other q c.args.conn apart) at (kept_is c.args.self.now.places c.args.self.now.places c.args.self.now.seats (with_value c.args.self.now.seats c.in-Some.place.now c.cut.new.self) c.args.conn c.in-Some.place.now (Some c.in-Some.place.now) (Some c.cut.new.self) change change.seats_are.changed q)

pub cut-requires : goal.cut-requires
cut-requires c = λ speaks.
    let held : place_of nat_cmp c.args.self.now.places c.args.conn ≡ Some c.in-Some.place.now = search rules in
    let is : get c.args.self.now.seats c.in-Some.place.now ≡ Some c.in-Some-get_mut.connection.now = search rules in
    let number = held_number c.args.self.now.places c.args.self.now.seats c.args.conn c.in-Some.place.now c.in-Some-get_mut.connection.now c.args.self.now.seated held is in
    let can : CanHear c.args.conn (reading_in c.args.manager.now.session) = asked_of (kept_in c.args.self.now.seats (place_of nat_cmp c.args.self.now.places c.args.conn)) c.in-Some-get_mut.connection.now (λ kept. speaks_xsmp kept.setup ≡ true → CanHear c.args.conn (reading_in c.args.manager.now.session)) (ap (kept_in c.args.self.now.seats) held ∙ is) c.requires speaks in
    subst (λ n. CanHear n (reading_in c.args.manager.now.session)) (sym number) can

pub returns-clause-cut : goal.returns-clause-cut
returns-clause-cut c =
    let held : place_of nat_cmp c.args.self.now.places c.args.conn ≡ Some c.in-Some.place.now = search rules in
    let is : get c.args.self.now.seats c.in-Some.place.now ≡ Some c.in-Some-get_mut.connection.now = search rules in
    let change = rewritten c.args.self.now.places c.args.self.now.seats c.args.conn c.in-Some.place.now c.in-Some-get_mut.connection.now c.cut.new.self c.args.self.now.seated held is in
    let number = held_number c.args.self.now.places c.args.self.now.seats c.args.conn c.in-Some.place.now c.in-Some-get_mut.connection.now c.args.self.now.seated held is in
    let before = kept_in c.args.self.now.seats (place_of nat_cmp c.args.self.now.places c.args.conn) in
    let after = kept_in (with_value c.args.self.now.seats c.in-Some.place.now c.cut.new.self) (place_of nat_cmp c.args.self.now.places c.args.conn) in
    cuts_so c.args.conn (λ part. Cuts c.in-Some-get_mut.connection.now c.args.left.now part c.cut.new.self) (λ part. CutsAt before c.args.left.now part after) c.in_ok-answered.answered c.args.manager.now c.cut.new.manager
    (λ part cuts. cuts_live before after c.in-Some-get_mut.connection.now c.cut.new.self c.args.left.now part (ap (kept_in c.args.self.now.seats) held ∙ is) (ap (kept_in (with_value c.args.self.now.seats c.in-Some.place.now c.cut.new.self)) held ∙ change.seats_are.changed) cuts)
    (subst (λ n. CutsSo n (λ part. Cuts c.in-Some-get_mut.connection.now c.args.left.now part c.cut.new.self) c.in_ok-answered.answered c.args.manager.now c.cut.new.manager) number c.in_ok-answered.ensures.cuts)
