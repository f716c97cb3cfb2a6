use Rattle.std.proofs.Common.{rules, ◌≡◌, Some, ◌∙◌, ap}
use Rattle.std.specs.Ordering.{nat_cmp}
use Rattle.std.specs.BTreeMap.{get as place_of}
use Rattle.slab.specs.Slab.{get, with_value}
use Rattle.session_engine.specs.Places.{kept_in}
use Rattle.session_engine.proofs.CutLemmas.{unsets_live}
use Rattle.session_engine.proofs.Connections.{other}
use Rattle.session_engine.proofs.Seats.{rewritten, kept_is, seated_after, seated_here, held_number}
use Rattle.session_engine.proofs.live.Connections.unset.Goals as goal

pub invariant_of-self-in-Some-get_mut : goal.invariant_of-self-in-Some-get_mut
invariant_of-self-in-Some-get_mut c =
    let held : place_of nat_cmp c.args.self.now.places c.args.conn ≡ Some c.in-Some.place.now = search rules in
    let is : get c.args.self.now.seats c.in-Some.place.now ≡ Some c.in-Some-get_mut.connection.now = search rules in
    let change = rewritten c.args.self.now.places c.args.self.now.seats c.args.conn c.in-Some.place.now c.in-Some-get_mut.connection.now c.unset.new.self c.args.self.now.seated held is in
    let number : c.unset.new.self.conn ≡ c.args.conn = c.unset.ensures.conn ∙ held_number c.args.self.now.places c.args.self.now.seats c.args.conn c.in-Some.place.now c.in-Some-get_mut.connection.now c.args.self.now.seated held is in
    record { seated = seated_after c.args.self.now.places c.args.self.now.places c.args.self.now.seats (with_value c.args.self.now.seats c.in-Some.place.now c.unset.new.self) c.args.conn c.in-Some.place.now (Some c.in-Some.place.now) (Some c.unset.new.self) c.args.self.now.seated change (seated_here (with_value c.args.self.now.seats c.in-Some.place.now c.unset.new.self) c.args.conn c.in-Some.place.now c.unset.new.self change.seats_are.changed number) }

pub returns-in-Some-get_mut-clause-others : goal.returns-in-Some-get_mut-clause-others
returns-in-Some-get_mut-clause-others c = λ q apart.
    let held : place_of nat_cmp c.args.self.now.places c.args.conn ≡ Some c.in-Some.place.now = search rules in
    let is : get c.args.self.now.seats c.in-Some.place.now ≡ Some c.in-Some-get_mut.connection.now = search rules in
    let change = rewritten c.args.self.now.places c.args.self.now.seats c.args.conn c.in-Some.place.now c.in-Some-get_mut.connection.now c.unset.new.self c.args.self.now.seated held is in
    rw (other q c.args.conn apart) at (kept_is c.args.self.now.places c.args.self.now.places c.args.self.now.seats (with_value c.args.self.now.seats c.in-Some.place.now c.unset.new.self) c.args.conn c.in-Some.place.now (Some c.in-Some.place.now) (Some c.unset.new.self) change change.seats_are.changed q)

pub returns-in-Some-get_mut-clause-at : goal.returns-in-Some-get_mut-clause-at
returns-in-Some-get_mut-clause-at c =
    let held : place_of nat_cmp c.args.self.now.places c.args.conn ≡ Some c.in-Some.place.now = search rules in
    let is : get c.args.self.now.seats c.in-Some.place.now ≡ Some c.in-Some-get_mut.connection.now = search rules in
    let change = rewritten c.args.self.now.places c.args.self.now.seats c.args.conn c.in-Some.place.now c.in-Some-get_mut.connection.now c.unset.new.self c.args.self.now.seated held is in
    unsets_live (kept_in c.args.self.now.seats (place_of nat_cmp c.args.self.now.places c.args.conn)) (kept_in (with_value c.args.self.now.seats c.in-Some.place.now c.unset.new.self) (place_of nat_cmp c.args.self.now.places c.args.conn)) c.in-Some-get_mut.connection.now c.unset.new.self (ap (kept_in c.args.self.now.seats) held ∙ is) (ap (kept_in (with_value c.args.self.now.seats c.in-Some.place.now c.unset.new.self)) held ∙ change.seats_are.changed) c.unset.ensures.unsets
