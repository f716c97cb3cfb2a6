-- Each part of what is under way to the manager is a step of a schedule, as long as XSMP is spoken.
use Rattle.std.proofs.Common.{◌≡◌, ◌≢◌, inl, inr, refl, sym, ap, ◌∙◌, subst, ℕ, Bool, true, false, cond, List, [], ◌∷◌, ◌++◌, map, take, drop, append-nil, append_assoc, arith}
use Rattle.std.specs.Prelude.{Option, None, Some, is_some}
use Rattle.std.specs.List.{AllByRecursion, flat_map}
use Rattle.std.proofs.lemmas.Bool.{cases_eq}
use Rattle.std.proofs.lemmas.Grind.{flat_map-append}
use Rattle.ice_framing.specs.Frames.{standing_of}
use Rattle.ice_framing.specs.Parts.{Part, new_parts}
use Rattle.ice_setup.specs.Opener.{client_opcode}
use Rattle.ice_setup.specs.declared.states.AnySetup.{AnySetup}
use Rattle.ice_setup.specs.declared.states.AnySetup.TheVariants.{AwaitCookie as AtCookie, AwaitOrder as AtOrder, AwaitProtocol as AtProtocol, AwaitProtocolCookie as AtProtocolCookie, AwaitSetup as AtSetup, Ready as AtReady}
use Rattle.ice_setup.specs.declared.states.AwaitProtocol.{AwaitProtocol}
use Rattle.ice_setup.specs.declared.states.Ready.{Ready}
use Rattle.xsmp_messages.specs.declared.message.XsmpMessage.{XsmpMessage}
use Rattle.protocol_messages.specs.Messages.{spelled_under}
use Rattle.protocol_messages.specs.declared.message.Message.{Message}
use Rattle.protocol_messages.specs.declared.message.Message.TheVariants.{Xsmp}
use Rattle.session_model.specs.declared.events.Act.{Act as SessionAct}
use Rattle.session_model.specs.declared.events.Act.TheVariants.{Shut as ShutsConn, Unset}
use Rattle.session_model.specs.declared.events.SessionEvent.{SessionEvent}
use Rattle.session_model.specs.declared.events.SessionEvent.TheVariants.{Said}
use Rattle.session_model.specs.declared.phase.Phase.{Phase}
use Rattle.session_model.specs.Moves.{History}
use Rattle.session_model.specs.Readings as of
use Rattle.session_model.specs.Rules.{taken}
use Rattle.session_engine.specs.Answers.{outcome, sequence_after, speaks_xsmp, staying, without_xsmp}
use Rattle.session_engine.specs.Machine.{Connection, Machine, Step as Done, act_in, acts_of, acts_since, behind, brought, changed, connection_of, connections_after, connections_through, counted, fed_on, fed_with, noted, part_for, part_taken, parts_taken, piece_for, unset_on, without}
use Rattle.session_engine.specs.Outcomes.{Outcome, Speaks}
use Rattle.session_engine.specs.Shown.{Agrees, is_speaking}
use Rattle.session_engine.proofs.Connections.{connection_of-changed, connection_of-without, other, same}
use Rattle.session_engine.proofs.Following.{agrees-changed, agrees-noted, agrees-said, agrees-told}
use Rattle.message_streams.specs.Streams.{BringsNew, HoldsBytes, part_of}
use Rattle.message_streams.proofs.Cutting.{streams-of}
use Rattle.end_agreement.proofs.Calm.{differ}
use Rattle.end_schedules.specs.Pairs.{AllMay, Pair, after, hear, unless_ended}
use Rattle.end_schedules.specs.Pairs.Step.{Hears}
use Rattle.end_schedules.specs.Schedules.{End, paired}
use Rattle.end_schedules.specs.UnderWay.{sent_to}
use Rattle.stream_clients.proofs.Pieces.{Split, parts-of, split-at}
use Rattle.stream_clients.proofs.Stepping.{after-both, may-both}
use Rattle.end_bytes.specs.Following.{HasSpoken, HearsParts, IsHeard, PartsAreHeard, PiecesAreHeard, StandsAt}
use Rattle.end_bytes.specs.Hearing.{bad_major}
use Rattle.end_bytes.specs.Saying.{said_by, said_on}
use Rattle.end_bytes.proofs.Outcomes.{hears-messages}
use Rattle.end_bytes.proofs.Said.{all-sent}

-- How the connection stands then

pub spoken-unset : (setup : AnySetup) → HasSpoken setup → HasSpoken (without_xsmp setup)
spoken-unset (AtOrder s) h = h
spoken-unset (AtSetup s) h = h
spoken-unset (AtCookie s) h = h
spoken-unset (AtProtocol s) h = h
spoken-unset (AtProtocolCookie s) h = h
spoken-unset (AtReady s) h = tt

stands-unset : (stream : List ℕ) (c d : ℕ) (ks : List Connection) (k : Option Connection) → connection_of c ks ≡ k → StandsAt stream k → StandsAt stream (connection_of c (changed unset_on d ks))
stands-unset stream c d ks None is s = elim (cases_eq c d) [
  | inl e ↦ rw (connection_of-changed unset_on (λ x. refl) d c ks, same c d e, is) tt
  | inr apart ↦ rw (connection_of-changed unset_on (λ x. refl) d c ks, other c d apart, is) tt
]
stands-unset stream c d ks (Some k) is s = elim (cases_eq c d) [
  | inl e ↦ rw (connection_of-changed unset_on (λ x. refl) d c ks, same c d e, is) (s.0, spoken-unset k.setup s.1)
  | inr apart ↦ rw (connection_of-changed unset_on (λ x. refl) d c ks, other c d apart, is) s
]

stands-without : (stream : List ℕ) (c d : ℕ) (ks : List Connection) → StandsAt stream (connection_of c ks) → StandsAt stream (connection_of c (without d ks))
stands-without stream c d ks s = elim (cases_eq c d) [
  | inl e ↦ rw (connection_of-without d c ks, same c d e) tt
  | inr apart ↦ rw (connection_of-without d c ks, other c d apart) s
]

stands-after : (stream : List ℕ) (act : SessionAct) (c : ℕ) (ks : List Connection) → StandsAt stream (connection_of c ks) → StandsAt stream (connection_of c (connections_after act ks))
stands-after stream (Unset d) c ks s = stands-unset stream c d ks (connection_of c ks) refl s
stands-after stream (ShutsConn d) c ks s = stands-without stream c d ks s
stands-after stream act c ks s = s

pub stands-through : (stream : List ℕ) (acts : List SessionAct) (c : ℕ) (ks : List Connection) → StandsAt stream (connection_of c ks) → StandsAt stream (connection_of c (connections_through acts ks))
stands-through stream [] c ks s = s
stands-through stream (act ∷ acts) c ks s = stands-through stream acts c (connections_after act ks) (stands-after stream act c ks s)

pub counted-is : (c : ℕ) (ks : List Connection) (k : Connection) (setup : AnySetup) → connection_of c ks ≡ Some k → connection_of c (changed (counted setup) c ks) ≡ Some (counted setup k)
counted-is c ks k setup is = rw (connection_of-changed (counted setup) (λ x. refl) c c ks, same c c refl, is) refl

pub fed-is : (c : ℕ) (ks : List Connection) (k : Connection) (bytes : List ℕ) → connection_of c ks ≡ Some k → connection_of c (changed (fed_with bytes) c ks) ≡ Some (fed_with bytes k)
fed-is c ks k bytes is = rw (connection_of-changed (fed_with bytes) (λ x. refl) c c ks, same c c refl, is) refl

pub stands-counted : (stream : List ℕ) (c : ℕ) (ks : List Connection) (k : Connection) (setup : AnySetup) → connection_of c ks ≡ Some k → k.stream ≡ stream → HasSpoken setup → StandsAt stream (connection_of c (changed (counted setup) c ks))
stands-counted stream c ks k setup is same_stream spoken = subst (λ (x : Option Connection). StandsAt stream x) (sym (counted-is c ks k setup is)) (same_stream, spoken)

-- One part

-- the connection is gone
hears-gone : (c : ℕ) (stream : List ℕ) (part : Part) (rest : List XsmpMessage) (m : Machine) (e : End) → connection_of c m.connections ≡ None → Agrees m.connections m.session → HearsParts c stream m.session e rest (part_taken m c part)
hears-gone c stream part rest m e none agrees =
    let quiet : is_some (of.phase_of c m.session) ≡ false = agrees.phases c ∙ ap is_speaking none in
    subst (λ (o : Option Connection). HearsParts c stream m.session e rest (part_for m c part o)) (sym none)
    (record {
      steps = [];
      up = e.up;
      more = [];
      may = tt;
      there = refl;
      waits = λ s. absurd (differ s quiet);
      said = refl;
      ended = λ s. refl;
      over = λ s. refl;
      agrees = agrees;
      stands = subst (λ (o : Option Connection). StandsAt stream o) (sym none) tt;
    })

-- XSMP has ended on it
hears-ended : (c : ℕ) (stream : List ℕ) (part : Part) (rest : List XsmpMessage) (m : Machine) (e : End) (k : Connection) (s : AwaitProtocol) (message : Message) → connection_of c m.connections ≡ Some k → k.setup ≡ AtProtocol s → k.stream ≡ stream
    → outcome k.setup (sequence_after k.taken) part ≡ staying (AtProtocol s) (Some message) → Agrees m.connections m.session → HearsParts c stream m.session e rest (part_taken m c part)
hears-ended c stream part rest m e k s message is at same_stream out agrees =
    let quiet : is_some (of.phase_of c m.session) ≡ false = agrees.phases c ∙ ap is_speaking is ∙ ap speaks_xsmp at in
    let done : Done = brought m c part (staying (AtProtocol s) (Some message)) in
    let so : HearsParts c stream m.session e rest done = record {
      steps = [];
      up = e.up;
      more = said_by c done;
      may = tt;
      there = refl;
      waits = λ t. absurd (differ t quiet);
      said = refl;
      ended = λ t. absurd (differ t quiet);
      over = λ t. refl;
      agrees = agrees-noted c (AtProtocol s) m.connections m.session k is (sym (ap speaks_xsmp at)) agrees;
      stands = stands-counted stream c m.connections k (AtProtocol s) is same_stream tt;
    } in
    subst (λ (o : Option Connection). HearsParts c stream m.session e rest (part_for m c part o)) (sym is) (subst (λ (o : Outcome). HearsParts c stream m.session e rest (brought m c part o)) (sym out) so)

unless-some : (p : Option Phase) (xs : List XsmpMessage) → is_some p ≡ true → unless_ended p xs ≡ xs
unless-some None xs s = absurd (differ s refl)
unless-some (Some p) xs s = refl

-- the session is told of the message
hears-said : (c : ℕ) (stream : List ℕ) (part : Part) (x : XsmpMessage) (rest : List XsmpMessage) (m : Machine) (e : End) (k : Connection) (s : Ready) (sequence : ℕ) (frame : List ℕ) → connection_of c m.connections ≡ Some k → k.setup ≡ AtReady s
    → s.opcode ≡ client_opcode → k.stream ≡ stream → outcome k.setup (sequence_after k.taken) part ≡ record { setup = AtReady s; answer = Speaks x sequence frame } → Agrees m.connections m.session → (is_some (of.phase_of c m.session) ≡ true → e.up ≡ x ∷ rest)
    → HearsParts c stream m.session e rest (part_taken m c part)
hears-said c stream part x rest m e k s sequence frame is at opcode same_stream out agrees waits =
    let speaks : is_some (of.phase_of c m.session) ≡ true = agrees.phases c ∙ ap is_speaking is ∙ ap speaks_xsmp at in
    let n : Machine = noted m c (AtReady s) in
    let event : SessionEvent = Said c x sequence frame in
    let next : History = taken event m.session in
    let agrees_noted : Agrees n.connections m.session = agrees-noted c (AtReady s) m.connections m.session k is (sym (ap speaks_xsmp at)) agrees in
    let so : HearsParts c stream m.session e rest (brought m c part (record { setup = AtReady s; answer = Speaks x sequence frame })) = record {
      steps = Hears sequence frame ∷ [];
      up = unless_ended (of.phase_of c next) rest;
      more = [];
      may = (speaks, tt);
      there = ap (λ (up : List XsmpMessage). hear c sequence frame up (paired m.session e)) (waits speaks);
      waits = λ t. unless-some (of.phase_of c next) rest t;
      said = sym (all-sent c n event) ∙ sym (append-nil (map Xsmp (sent_to c next)));
      ended = λ t. refl;
      over = λ t. absurd (differ speaks t);
      agrees = agrees-told event n.connections m.session (agrees-said c x sequence frame n.connections m.session agrees_noted);
      stands = stands-through stream (acts_since m.session next) c n.connections (stands-counted stream c m.connections k (AtReady s) is same_stream opcode);
    } in
    subst (λ (o : Option Connection). HearsParts c stream m.session e rest (part_for m c part o)) (sym is) (subst (λ (o : Outcome). HearsParts c stream m.session e rest (brought m c part o)) (sym out) so)

no-zero : client_opcode ≢ 0
no-zero e = omega (arith, e)

by-setup : (c : ℕ) (stream : List ℕ) (x : XsmpMessage) (rest : List XsmpMessage) (m : Machine) (e : End) (k : Connection) (setup : AnySetup) → connection_of c m.connections ≡ Some k → k.setup ≡ setup → k.stream ≡ stream → HasSpoken setup → Agrees m.connections m.session
    → (is_some (of.phase_of c m.session) ≡ true → e.up ≡ x ∷ rest) → IsHeard x → HearsParts c stream m.session e rest (part_taken m c (part_of client_opcode (Xsmp x)))
by-setup c stream x rest m e k (AtReady s) is at same_stream spoken agrees waits h =
    let part : Part = part_of client_opcode (Xsmp x) in
    let number : ℕ = sequence_after k.taken in
    let own : outcome (AtReady s) number part ≡ record { setup = AtReady s; answer = Speaks x number (spelled_under client_opcode (Xsmp x)) } =
    subst (λ (n : ℕ). outcome (AtReady s) number (part_of n (Xsmp x)) ≡ record { setup = AtReady s; answer = Speaks x number (spelled_under n (Xsmp x)) }) spoken (hears-messages.speaks s number x (subst (λ (n : ℕ). n ≢ 0) (sym spoken) no-zero) h.fits h.no_error) in
    hears-said c stream part x rest m e k s number (spelled_under client_opcode (Xsmp x)) is at spoken same_stream (ap (λ (y : AnySetup). outcome y number part) at ∙ own) agrees waits
by-setup c stream x rest m e k (AtProtocol s) is at same_stream spoken agrees waits h =
    let part : Part = part_of client_opcode (Xsmp x) in
    let number : ℕ = sequence_after k.taken in
    hears-ended c stream part rest m e k s (bad_major s number client_opcode x) is at same_stream (ap (λ (y : AnySetup). outcome y number part) at ∙ hears-messages.refuses s number client_opcode x no-zero h.no_error) agrees
by-setup c stream x rest m e k (AtOrder s) is at same_stream spoken agrees waits h = absurd spoken
by-setup c stream x rest m e k (AtSetup s) is at same_stream spoken agrees waits h = absurd spoken
by-setup c stream x rest m e k (AtCookie s) is at same_stream spoken agrees waits h = absurd spoken
by-setup c stream x rest m e k (AtProtocolCookie s) is at same_stream spoken agrees waits h = absurd spoken

by-connection : (c : ℕ) (stream : List ℕ) (x : XsmpMessage) (rest : List XsmpMessage) (m : Machine) (e : End) (o : Option Connection) → connection_of c m.connections ≡ o → StandsAt stream o → Agrees m.connections m.session
    → (is_some (of.phase_of c m.session) ≡ true → e.up ≡ x ∷ rest) → IsHeard x → HearsParts c stream m.session e rest (part_taken m c (part_of client_opcode (Xsmp x)))
by-connection c stream x rest m e None is s agrees waits h = hears-gone c stream (part_of client_opcode (Xsmp x)) rest m e is agrees
by-connection c stream x rest m e (Some k) is s agrees waits h = by-setup c stream x rest m e k k.setup is refl s.0 s.1 agrees waits h

-- One part, and then others

pub said-behind : (c : ℕ) (first done : Done) → said_by c (behind first.line done) ≡ said_by c first ++ said_by c done
said-behind c first done = ap (flat_map (said_on c)) (flat_map-append act_in first.line done.line) ∙ flat_map-append (said_on c) (acts_of first) (acts_of done)

more-said : (begin middle end first second more later : List Message) (b : Bool) → begin ++ first ≡ middle ++ more → middle ++ second ≡ end ++ later → (b ≡ true → more ≡ []) → (b ≡ false → end ≡ middle)
    → begin ++ (first ++ second) ≡ end ++ cond b later (more ++ second)
more-said begin middle end first second more later true e f none same_end =
    sym (append_assoc begin first second) ∙ ap (λ (xs : List Message). xs ++ second) (e ∙ ap (λ (xs : List Message). middle ++ xs) (none refl) ∙ append-nil middle) ∙ f
more-said begin middle end first second more later false e f none same_end =
    sym (append_assoc begin first second) ∙ ap (λ (xs : List Message). xs ++ second) e ∙ append_assoc middle more second ∙ ap (λ (xs : List Message). xs ++ (more ++ second)) (sym (same_end refl))

none-more : (b : Bool) (later more : List Message) → b ≡ true → later ≡ [] → cond b later more ≡ []
none-more true later more t e = e
none-more false later more t e = absurd (differ t refl)

-- XSMP is spoken still, if it is spoken at last
still-spoken : (c : ℕ) (h g : History) (b : Bool) → is_some (of.phase_of c h) ≡ b → (is_some (of.phase_of c h) ≡ false → g ≡ h) → is_some (of.phase_of c g) ≡ true → b ≡ true
still-spoken c h g true is over t = refl
still-spoken c h g false is over t = absurd (differ t (ap (λ (x : History). is_some (of.phase_of c x)) (over is) ∙ is))

hears-both : (c : ℕ) (stream : List ℕ) (h : History) (e : End) (middle rest : List XsmpMessage) (first done : Done) (f : HearsParts c stream h e middle first) → HearsParts c stream first.next.session (record e { up = f.up }) rest done
    → HearsParts c stream h e rest (behind first.line done)
hears-both c stream h e middle rest first done f g =
    let n : History = first.next.session in
    let last : History = done.next.session in
    let spoken : Bool = is_some (of.phase_of c n) in
    record {
      steps = f.steps ++ g.steps;
      up = g.up;
      more = cond spoken g.more (f.more ++ said_by c done);
      may = may-both c f.steps g.steps (paired h e) f.may (subst (λ (p : Pair). AllMay c g.steps p) (sym f.there) g.may);
      there = after-both c f.steps g.steps (paired h e) ∙ ap (λ (p : Pair). after c g.steps p) f.there ∙ g.there;
      waits = g.waits;
      said = ap (λ (xs : List Message). map Xsmp (sent_to c h) ++ xs) (said-behind c first done)
          ∙ more-said (map Xsmp (sent_to c h)) (map Xsmp (sent_to c n)) (map Xsmp (sent_to c last)) (said_by c first) (said_by c done) f.more g.more spoken f.said g.said f.ended (λ t. ap (λ (x : History). map Xsmp (sent_to c x)) (g.over t));
      ended = λ t. none-more spoken g.more (f.more ++ said_by c done) (still-spoken c n last spoken refl g.over t) (g.ended t);
      over = λ t. g.over (ap (λ (x : History). is_some (of.phase_of c x)) (f.over t) ∙ t) ∙ f.over t;
      agrees = g.agrees;
      stands = g.stands;
    }

pub parts-heard : PartsAreHeard
parts-heard c stream [] rest m e agrees stands waits each =
    record { steps = []; up = e.up; more = []; may = tt; there = refl; waits = waits; said = refl; ended = λ t. refl; over = λ t. refl; agrees = agrees; stands = stands }
parts-heard c stream (x ∷ front) rest m e agrees stands waits each =
    let part : Part = part_of client_opcode (Xsmp x) in
    let f : HearsParts c stream m.session e (front ++ rest) (part_taken m c part) = by-connection c stream x (front ++ rest) m e (connection_of c m.connections) refl stands agrees waits each.0 in
    let n : Machine = (part_taken m c part).next in
    hears-both c stream m.session e (front ++ rest) rest (part_taken m c part) (parts_taken n c (map (λ (y : XsmpMessage). part_of client_opcode (Xsmp y)) front)) f
    (parts-heard c stream front rest n (record e { up = f.up }) f.agrees f.stands f.waits each.1)

-- A piece

heard-front : (front rest : List XsmpMessage) → AllByRecursion IsHeard (front ++ rest) → AllByRecursion IsHeard front
heard-front [] rest a = tt
heard-front (x ∷ front) rest a = (a.0, heard-front front rest a.1)

pub pieces-heard : PiecesAreHeard
pieces-heard c messages m e k later count agrees is spoken within holds each waits =
    let bytes : List ℕ = take count later in
    let stream : List ℕ = k.stream ++ bytes in
    let b : BringsNew client_opcode k.stream bytes (drop count later) (map Xsmp messages) = streams-of client_opcode (map Xsmp messages) k.stream later count within holds in
    let at : Split messages b.front b.back = split-at messages b.front b.back b.all in
    let parts : new_parts k.stream bytes ≡ map (λ (x : XsmpMessage). part_of client_opcode (Xsmp x)) at.front =
    b.parts ∙ ap (λ (ms : List Message). map (part_of client_opcode) ms) at.are_front ∙ parts-of client_opcode at.front in
    let n : Machine = fed_on m c bytes in
    let fed : Agrees n.connections m.session = agrees-changed (fed_with bytes) (λ x. refl) (λ x. refl) c m.connections m.session agrees in
    let stands : StandsAt stream (connection_of c n.connections) = subst (λ (o : Option Connection). StandsAt stream o) (sym (fed-is c m.connections k bytes is)) (refl, spoken) in
    let hears : HearsParts c stream m.session e at.rest (parts_taken n c (map (λ (x : XsmpMessage). part_of client_opcode (Xsmp x)) at.front)) =
    parts-heard c stream at.front at.rest n e fed stands (λ t. waits t ∙ at.all) (heard-front at.front at.rest (subst (λ (ms : List XsmpMessage). AllByRecursion IsHeard ms) at.all each)) in
    record {
      front = at.front;
      rest = at.rest;
      all = at.all;
      hears = subst (λ (o : Option Connection). HearsParts c stream m.session e at.rest (piece_for m c bytes o)) (sym is)
          (subst (λ (ps : List Part). HearsParts c stream m.session e at.rest (parts_taken n c ps)) (sym parts) hears);
      holds = subst (λ (ms : List Message). HoldsBytes client_opcode (standing_of stream) (drop count later) ms) at.are_rest b.holds;
      within = b.within;
    }
