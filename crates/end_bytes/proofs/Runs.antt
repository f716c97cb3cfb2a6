-- A machine's session is told of events, and nothing else comes to it.
use Rattle.std.proofs.Common.{◌≡◌, refl, sym, ap, ◌∙◌, ℕ, Bool, true, false, List, [], ◌∷◌, ◌++◌}
use Rattle.std.specs.Prelude.{Option, None, Some}
use Rattle.sm_world.specs.declared.events.Event.{Event}
use Rattle.sm_world.specs.declared.events.Event.TheVariants.{End, Gone, Joined, Operator, Piece, Tick}
use Rattle.ice_framing.specs.Parts.{Part, new_parts}
use Rattle.session_model.specs.Moves.{History}
use Rattle.session_model.specs.Phases.{is_bound}
use Rattle.session_model.specs.Readings as of
use Rattle.session_model.specs.Rules.{run, taken}
use Rattle.session_model.specs.declared.events.SessionEvent.{SessionEvent}
use Rattle.session_model.specs.declared.events.SessionEvent.TheVariants.{Joined as HasJoined, Left, Operator as Ordered, Ready, Said, Tick as Ticked}
use Rattle.session_engine.specs.Answers.{outcome, sequence_after}
use Rattle.session_engine.specs.Machine.{Connection, Machine, after_all, answered, asked, connection_of, fed_on, gone_for, join_for, noted, part_for, part_taken, parts_taken, piece_for, start, step}
use Rattle.session_engine.specs.Outcomes.{Answer, Asks, Begins, Closes, Outcome, Speaks, Stays}
use Rattle.end_bytes.specs.Elsewhere.{RunsTo, SessionsRun}

pub run-both : (xs ys : List SessionEvent) (h : History) → run h (xs ++ ys) ≡ run (run h xs) ys
run-both [] ys h = refl
run-both (x ∷ xs) ys h = run-both xs ys (taken x h)

pub ran-none : (h : History) → RunsTo h h
ran-none h = record { events = []; is = refl }

pub ran-one : (event : SessionEvent) (h : History) → RunsTo h (taken event h)
ran-one event h = record { events = event ∷ []; is = refl }

pub ran-both : (h g k : History) → RunsTo h g → RunsTo g k → RunsTo h k
ran-both h g k a b = record { events = a.events ++ b.events; is = b.is ∙ ap (λ (x : History). run x b.events) a.is ∙ sym (run-both a.events b.events h) }

ran-asked : (m : Machine) (c : ℕ) (b : Bool) → RunsTo m.session (asked m c b).next.session
ran-asked m c true = ran-none m.session
ran-asked m c false = ran-one (Left c) m.session

ran-answered : (m : Machine) (c : ℕ) (answer : Answer) → RunsTo m.session (answered m c answer).next.session
ran-answered m c (Stays message) = ran-none m.session
ran-answered m c (Begins message) = ran-one (Ready c) m.session
ran-answered m c (Closes message) = ran-one (Left c) m.session
ran-answered m c (Speaks message sequence frame) = ran-one (Said c message sequence frame) m.session
ran-answered m c Asks = ran-asked m c (is_bound (of.phase_of c m.session))

ran-part : (m : Machine) (c : ℕ) (part : Part) (k : Option Connection) → RunsTo m.session (part_for m c part k).next.session
ran-part m c part None = ran-none m.session
ran-part m c part (Some k) =
    let o : Outcome = outcome k.setup (sequence_after k.taken) part in
    ran-answered (noted m c o.setup) c o.answer

ran-parts : (m : Machine) (c : ℕ) (parts : List Part) → RunsTo m.session (parts_taken m c parts).next.session
ran-parts m c [] = ran-none m.session
ran-parts m c (part ∷ parts) =
    let n : Machine = (part_taken m c part).next in
    ran-both m.session n.session (parts_taken n c parts).next.session (ran-part m c part (connection_of c m.connections)) (ran-parts n c parts)

ran-piece : (m : Machine) (c : ℕ) (bytes : List ℕ) (k : Option Connection) → RunsTo m.session (piece_for m c bytes k).next.session
ran-piece m c bytes None = ran-none m.session
ran-piece m c bytes (Some k) = ran-parts (fed_on m c bytes) c (new_parts k.stream bytes)

ran-join : (m : Machine) (c : ℕ) (k : Option Connection) → RunsTo m.session (join_for m c k).next.session
ran-join m c None = ran-one (HasJoined c) m.session
ran-join m c (Some k) = ran-none m.session

ran-gone : (m : Machine) (c : ℕ) (k : Option Connection) → RunsTo m.session (gone_for m c k).next.session
ran-gone m c None = ran-none m.session
ran-gone m c (Some k) = ran-one (Left c) m.session

pub ran-step : (m : Machine) (event : Event) → RunsTo m.session (step m event).next.session
ran-step m (Joined c) = ran-join m c (connection_of c m.connections)
ran-step m (Piece c bytes) = ran-piece m c bytes (connection_of c m.connections)
ran-step m (Gone c) = ran-gone m c (connection_of c m.connections)
ran-step m (Operator order) = ran-one (Ordered order) m.session
ran-step m (Tick milliseconds) = ran-one (Ticked milliseconds) m.session
ran-step m End = ran-none m.session

ran-all : (m : Machine) (events : List Event) → RunsTo m.session (after_all m events).session
ran-all m [] = ran-none m.session
ran-all m (event ∷ events) =
    let n : Machine = (step m event).next in
    ran-both m.session n.session (after_all n events).session (ran-step m event) (ran-all n events)

pub sessions-run : SessionsRun
sessions-run config book events = ran-all (start config book) events
