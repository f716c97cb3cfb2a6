-- A frame of the set-up brings what the table says of its message, at either end.
use Rattle.std.proofs.Common.{◌≡◌, inl, inr, refl, sym, ap, ◌∙◌, subst, ℕ, ◌+◌, ◌*◌, Bool, true, false, cond, not, ◌&&◌, List, [], ◌∷◌, ◌++◌, map, drop, length, append-nil}
use Rattle.std.specs.Prelude.{Option, None, Some, if◌then◌else◌, ◌==◌}
use Rattle.std.specs.Option.{option_map}
use Rattle.std.specs.List.{flat_map}
use Rattle.std.proofs.lemmas.Bool.{cases_eq, false≢true}
use Rattle.std.proofs.lemmas.Grind.{flat_map-append}
use Rattle.ice_values.specs.Numbers.{number}
use Rattle.ice_values.specs.declared.numbers.Endian.TheVariants.{Lsb}
use Rattle.ice_framing.specs.Parts.{Part}
use Rattle.ice_messages.specs.Messages.{IsMessage, canon}
use Rattle.ice_messages.specs.declared.message.IceMessage.{IceMessage}
use Rattle.ice_messages.proofs.Dispatch.{canon_spells, decode_again}
use Rattle.ice_setup.specs.Opener.{opened}
use Rattle.ice_setup.specs.Setup.{moved}
use Rattle.ice_setup.specs.declared.states.AnySetup.{AnySetup}
use Rattle.ice_setup.specs.declared.states.AnySetup.TheVariants.{AwaitCookie as AtCookie, AwaitOrder as AtOrder, AwaitProtocol as AtProtocol, AwaitProtocolCookie as AtProtocolCookie, AwaitSetup as AtSetup, Ready as AtReady}
use Rattle.ice_setup.specs.declared.states.Moved.{Moved}
use Rattle.ice_setup.specs.declared.states.Moved.TheVariants.{Ask, Close, Ends, Goes}
use Rattle.protocol_messages.specs.Messages.{spelled_under}
use Rattle.protocol_messages.specs.declared.message.Message.{Message}
use Rattle.protocol_messages.specs.declared.message.Message.TheVariants.{Ice, Xsmp}
use Rattle.session_model.specs.declared.events.Act.{Act as SessionAct}
use Rattle.session_model.specs.declared.events.Act.TheVariants.{Shut as ShutsConn, Unset}
use Rattle.session_model.specs.Moves.{History}
use Rattle.session_model.specs.Rules.{taken}
use Rattle.session_model.specs.declared.events.SessionEvent.TheVariants.{Left, Ready}
use Rattle.session_engine.specs.Acts.{says}
use Rattle.session_engine.specs.Answers.{going, message_outcome, outcome, outcome_of, sequence_after, speaks_xsmp}
use Rattle.session_engine.specs.Machine.{Connection, Does, Machine, Step as Done, act_in, acts_of, acts_since, behind, brought, connection_of, connections_after, connections_through, departs, noted, part_for, parted, told, unset_on, without}
use Rattle.session_engine.specs.Outcomes.{Outcome}
use Rattle.session_engine.specs.declared.acts.Act.{Act}
use Rattle.session_engine.specs.declared.acts.Act.TheVariants.{Shut}
use Rattle.session_engine.proofs.Connections.{connection_of-changed, connection_of-without, other, same}
use Rattle.session_engine.proofs.Showing.{acts_noted}
use Rattle.client_engine.specs.Hearing.{arrived, opening_heard, opening_moved, sequence_after as number_after, unless_fatal}
use Rattle.client_engine.specs.Received.{ice_received, received_of}
use Rattle.client_engine.specs.declared.hearing.Heard.{Heard}
use Rattle.client_engine.specs.declared.place.Arrival.{Arrival}
use Rattle.client_engine.specs.declared.received.Received.{Received}
use Rattle.client_engine.specs.declared.received.Received.TheVariants.{Ice as GotIce}
use Rattle.message_streams.specs.Streams.{HasBytes, frame_of, part_of}
use Rattle.setup_agreement.specs.SetUps.{said_by as answer_list}
use Rattle.end_schedules.specs.UnderWay.{sent_to}
use Rattle.end_bytes.specs.Entering.{ClientsOpen, Closes, GoesTo, HeardAs, IsInTurn, ManagersSetUp}
use Rattle.end_bytes.specs.Saying.{said_by, said_on}
use Rattle.end_bytes.proofs.Outcomes.{hears-messages}
use Rattle.end_bytes.proofs.Parts.{counted-is, stands-counted, stands-through}
use Rattle.end_bytes.proofs.Said.{all-sent}

-- ---- the manager

-- what is said on c itself
own-said : (c : ℕ) (answer : Option IceMessage) → flat_map (said_on c) (says c (option_map Ice answer)) ≡ map Ice (answer_list answer)
own-said c None = refl
own-said c (Some message) = ap (λ (b : Bool). cond b (Ice message ∷ []) [] ++ []) (same c c refl)

own-noted : (c : ℕ) (answer : Option IceMessage) → flat_map (said_on c) (flat_map act_in (map Does (says c (option_map Ice answer)))) ≡ map Ice (answer_list answer)
own-noted c answer = ap (flat_map (said_on c)) (acts_noted (says c (option_map Ice answer))) ∙ own-said c answer

own-closing : (c : ℕ) (answer : Option IceMessage) → flat_map (said_on c) (flat_map act_in (map Does (says c (option_map Ice answer) ++ Shut c ∷ []))) ≡ map Ice (answer_list answer)
own-closing c answer =
    ap (flat_map (said_on c)) (acts_noted (says c (option_map Ice answer) ++ Shut c ∷ [])) ∙ flat_map-append (said_on c) (says c (option_map Ice answer)) (Shut c ∷ []) ∙ append-nil (flat_map (said_on c) (says c (option_map Ice answer))) ∙ own-said c answer

said-first : (c : ℕ) (acts : List Act) (done : Done) → said_by c (behind (map Does acts) done) ≡ flat_map (said_on c) (flat_map act_in (map Does acts)) ++ said_by c done
said-first c acts done = ap (flat_map (said_on c)) (flat_map-append act_in (map Does acts) done.line) ∙ flat_map-append (said_on c) (flat_map act_in (map Does acts)) (acts_of done)

-- one that isn't there doesn't come back
none-after : (act : SessionAct) (c : ℕ) (ks : List Connection) → connection_of c ks ≡ None → connection_of c (connections_after act ks) ≡ None
none-after (Unset d) c ks none = elim (cases_eq c d) [
  | inl e ↦ rw (connection_of-changed unset_on (λ x. refl) d c ks, same c d e, none) refl
  | inr apart ↦ rw (connection_of-changed unset_on (λ x. refl) d c ks, other c d apart) none
]
none-after (ShutsConn d) c ks none = elim (cases_eq c d) [
  | inl e ↦ rw (connection_of-without d c ks, same c d e) refl
  | inr apart ↦ rw (connection_of-without d c ks, other c d apart) none
]
none-after act c ks none = none

pub none-through : (acts : List SessionAct) (c : ℕ) (ks : List Connection) → connection_of c ks ≡ None → connection_of c (connections_through acts ks) ≡ None
none-through [] c ks none = none
none-through (act ∷ acts) c ks none = none-through acts c (connections_after act ks) (none-after act c ks none)

pub left-out : (c : ℕ) (ks : List Connection) → connection_of c (without c ks) ≡ None
left-out c ks = rw (connection_of-without c c ks, same c c refl) refl

heard-closing : (c : ℕ) (part : Part) (m n : Machine) (answer : Option IceMessage) → n.session ≡ m.session → Closes c m.session answer (departs n c (says c (option_map Ice answer) ++ Shut c ∷ []))
heard-closing c part m n answer alike =
    subst (λ (h : History). Closes c h answer (departs n c (says c (option_map Ice answer) ++ Shut c ∷ []))) alike
    (record {
      more = said_by c (told (parted n c) (Left c));
      session = refl;
      said = said-first c (says c (option_map Ice answer) ++ Shut c ∷ []) (told (parted n c) (Left c)) ∙ ap (λ (xs : List Message). xs ++ said_by c (told (parted n c) (Left c))) (own-closing c answer);
      sent = all-sent c (parted n c) (Left c);
      gone = none-through (acts_since n.session (taken (Left c) n.session)) c (without c n.connections) (left-out c n.connections);
    })

heard-going : (b : Bool) (c : ℕ) (part : Part) (m : Machine) (k : Connection) (state : AnySetup) (answer : Option IceMessage) → connection_of c m.connections ≡ Some k → GoesTo b c k m.session state answer (brought m c part (going b state (option_map Ice answer)))
heard-going false c part m k state answer is = record { session = refl; said = own-noted c answer; stands = counted-is c m.connections k state is }
heard-going true c part m k state answer is =
    let n : Machine = noted m c state in
    let next : History = taken (Ready c) m.session in
    let none : map Xsmp (cond (c == c) [] (sent_to c m.session)) ≡ [] = ap (λ (b : Bool). map Xsmp (cond b [] (sent_to c m.session))) (same c c refl) in
    let sent : map Xsmp (sent_to c next) ≡ said_by c (told n (Ready c)) = all-sent c n (Ready c) ∙ ap (λ (xs : List Message). xs ++ said_by c (told n (Ready c))) none in
    record {
      session = refl;
      said = said-first c (says c (option_map Ice answer)) (told n (Ready c)) ∙ ap (λ (xs : List Message). xs ++ said_by c (told n (Ready c))) (own-noted c answer) ∙ ap (λ (xs : List Message). map Ice (answer_list answer) ++ xs) (sym sent);
      stands = λ spoken. stands-through k.stream (acts_since m.session next) c n.connections (stands-counted k.stream c m.connections k state is refl spoken);
    }

begins-now : (b was : Bool) (state : AnySetup) (message : Option Message) → was ≡ false → going (b && not was) state message ≡ going b state message
begins-now true true state message e = absurd (false≢true (sym e))
begins-now false true state message e = refl
begins-now true false state message e = refl
begins-now false false state message e = refl

heard-as : (c : ℕ) (part : Part) (m : Machine) (k : Connection) (it : Moved) → connection_of c m.connections ≡ Some k → speaks_xsmp k.setup ≡ false → HeardAs c k m.session (brought m c part (outcome_of k.setup it)) it
heard-as c part m k (Goes state answer) is silent =
    subst (λ (o : Outcome). GoesTo (speaks_xsmp state) c k m.session state answer (brought m c part o)) (sym (begins-now (speaks_xsmp state) (speaks_xsmp k.setup) state (option_map Ice answer) silent)) (heard-going (speaks_xsmp state) c part m k state answer is)
heard-as c part m k (Ends answer) is silent =
    let d : Closes c m.session answer (departs (noted m c k.setup) c (says c (option_map Ice answer) ++ Shut c ∷ [])) = heard-closing c part m (noted m c k.setup) answer refl in
    record { more = d.more; session = d.session; said = d.said; sent = d.sent; gone = d.gone }
heard-as c part m k Close is silent =
    let d : Closes c m.session None (departs (noted m c k.setup) c (says c None ++ Shut c ∷ [])) = heard-closing c part m (noted m c k.setup) None refl in
    record { more = d.more; session = d.session; said = d.said; sent = d.sent; gone = d.gone }
heard-as c part m k (Ask state) is silent = tt

brings : (setup : AnySetup) (sequence opcode : ℕ) (message : IceMessage) → IsInTurn setup message → IsMessage message → outcome setup sequence (part_of opcode (Ice message)) ≡ message_outcome setup message sequence
brings (AtOrder s) sequence opcode message turn fits = subst (λ (x : IceMessage). outcome (AtOrder s) sequence (part_of opcode (Ice x)) ≡ message_outcome (AtOrder s) x sequence) (sym turn) (hears-messages.begins s sequence opcode)
brings (AtSetup s) sequence opcode message turn fits = hears-messages.follows (AtSetup s) sequence opcode message refl fits
brings (AtCookie s) sequence opcode message turn fits = hears-messages.follows (AtCookie s) sequence opcode message refl fits
brings (AtProtocol s) sequence opcode message turn fits = hears-messages.follows (AtProtocol s) sequence opcode message refl fits
brings (AtProtocolCookie s) sequence opcode message turn fits = hears-messages.follows (AtProtocolCookie s) sequence opcode message refl fits
brings (AtReady s) sequence opcode message turn fits = hears-messages.follows (AtReady s) sequence opcode message refl fits

pub managers-set-up : ManagersSetUp
managers-set-up c m k opcode message is silent turn fits =
    let part : Part = part_of opcode (Ice message) in
    let it : Moved = moved k.setup message (sequence_after k.taken) in
    subst (λ (o : Option Connection). HeardAs c k m.session (part_for m c part o) it) (sym is)
    (subst (λ (o : Outcome). HeardAs c k m.session (brought m c part o) it) (sym (brings k.setup (sequence_after k.taken) opcode message turn fits)) (heard-as c part m k it is silent))

-- ---- the client

whole : (b : Bool) (x y : Received) → b ≡ true → (if b then x else y) ≡ x
whole true x y e = refl
whole false x y e = absurd (false≢true e)

received-ice : (opcode : ℕ) (message : IceMessage) → IsMessage message → HasBytes opcode (Ice message) → received_of None (frame_of opcode (Ice message)) ≡ GotIce message
received-ice opcode message fits h =
    whole _ _ _ (same (8 + 8 * number Lsb 4 (drop 4 (spelled_under opcode (Ice message)))) (length (spelled_under opcode (Ice message))) (sym h.units)) ∙ ap ice_received (decode_again Lsb (canon Lsb message) message (canon_spells Lsb message fits))

pub clients-open : ClientsOpen
clients-open counts opener previous opcode message fits h calm =
    let a : Arrival = arrived counts (spelled_under opcode (Ice message)) in
    let so : Heard = opening_moved a previous (opened opener message (number_after counts.sequence)) in
    ap (λ (r : Received). opening_heard a opener previous r) (received-ice opcode message fits h) ∙ ap (λ (class : Option ℕ). unless_fatal a class so) calm
