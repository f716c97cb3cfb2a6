-- A frame is received as the message that it spells, and the client acts on that.
use Rattle.std.proofs.Common.{◌≡◌, ◌≢◌, refl, sym, ap, ◌∙◌, ℕ, ◌+◌, ◌*◌, Bool, true, false, cond, eqb, List, map, drop, length, arith}
use Rattle.std.specs.Prelude.{Some, if◌then◌else◌}
use Rattle.std.proofs.lemmas.Bool.Decides.{nat_tests}
use Rattle.ice_values.specs.Fields.{ErrorFields}
use Rattle.ice_values.specs.Numbers.{number}
use Rattle.ice_values.specs.declared.numbers.Endian.TheVariants.{Lsb}
use Rattle.ice_values.specs.declared.severity.Severity.{Severity}
use Rattle.ice_values.specs.declared.severity.Severity.TheVariants.{CanContinue}
use Rattle.ice_setup.specs.declared.opener.Joined.{Joined}
use Rattle.xsmp_messages.specs.Messages.{IsMessage, canon}
use Rattle.xsmp_messages.specs.declared.message.XsmpMessage.{XsmpMessage}
use Rattle.xsmp_messages.specs.declared.message.XsmpMessage.TheVariants.{Die, Error, GetPropertiesReply, Interact, RegisterClientReply, SaveComplete, SaveYourself, SaveYourselfPhase2, ShutdownCancelled}
use Rattle.xsmp_messages.proofs.Dispatch.{canon_spells, decode_again}
use Rattle.client_machine.specs.Phases.{ClientState, is_done, is_member, is_registered, is_registering, is_resting, blamed_phase}
use Rattle.client_machine.specs.Taking.{act_taken, blamed_act, registers_again, taken}
use Rattle.client_machine.specs.declared.acts.ClientAct.{ClientAct}
use Rattle.client_machine.specs.declared.acts.ClientAct.TheVariants.{Again, Unexpected}
use Rattle.client_machine.specs.declared.phase.ClientPhase.{ClientPhase}
use Rattle.client_machine.specs.declared.phase.ClientPhase.TheVariants.{Asked, AskedTwo, Dead, Done, Idle, WantsTwo}
use Rattle.client_machine.specs.declared.saves.SaveAsk.{SaveAsk}
use Rattle.client_engine.specs.Hearing.{acted, arrived, speaking_heard}
use Rattle.client_engine.specs.Received.{received_of, xsmp_received}
use Rattle.client_engine.specs.declared.hearing.Heard.{Heard}
use Rattle.client_engine.specs.declared.place.Arrival.{Arrival}
use Rattle.client_engine.specs.declared.received.Received.{Received}
use Rattle.client_engine.specs.declared.received.Received.TheVariants.{Xsmp as GotXsmp}
use Rattle.protocol_messages.specs.Messages.{spelled_under}
use Rattle.protocol_messages.specs.declared.message.Message.TheVariants.{Xsmp}
use Rattle.message_streams.specs.Streams.{HasBytes, frame_of}
use Rattle.end_agreement.proofs.Taken.{client_in}
use Rattle.end_schedules.specs.Pairs.{said_at_once}
use Rattle.stream_clients.specs.Taking.{ClientsTakeMessages, ends, heard_of, place_after}

-- What the frame is

are-equal : (a b : ℕ) → a ≡ b → eqb a b ≡ true
are-equal a b e = grind (arith, nat_tests)

are-not : (a b : ℕ) → a ≢ b → eqb a b ≡ false
are-not a b n = by (eqb a b) refl where
  by : (t : Bool) → eqb a b ≡ t → t ≡ false
  by true e = absurd (n (grind (arith, nat_tests)))
  by false e = refl

chosen : (a b c : Bool) (x y z w : Received) → a ≡ true → b ≡ false → c ≡ true → (if a then (if b then x else if c then y else z) else w) ≡ y
chosen true false true x y z w e f g = refl
chosen a b c x y z w e f g = absurd (grind arith)

received : (opcode : ℕ) (m : XsmpMessage) → opcode ≢ 0 → IsMessage m → HasBytes opcode (Xsmp m) → received_of (Some opcode) (frame_of opcode (Xsmp m)) ≡ GotXsmp m
received opcode m n fits h =
    chosen _ _ _ _ _ _ _ (are-equal (8 + 8 * number Lsb 4 (drop 4 (spelled_under opcode (Xsmp m)))) (length (spelled_under opcode (Xsmp m))) (sym h.units)) (are-not opcode 0 n) (are-equal opcode opcode refl)
    ∙ ap xsmp_received (decode_again Lsb opcode (canon Lsb opcode m) m (canon_spells Lsb opcode m fits))

-- What the client does about the act

act-said : (a : Arrival) (joined : Joined) (s : ClientState) (act : ClientAct) → act ≢ Unexpected → (acted a joined s act).said ≡ map Xsmp (said_at_once act)
act-said a joined s (Again m) n = refl
act-said a joined s Unexpected n = absurd (n refl)
act-said a joined s act n = refl

act-place : (a : Arrival) (joined : Joined) (s : ClientState) (act : ClientAct) → (acted a joined s act).next.place ≡ place_after joined s act
act-place a joined s (Again m) = refl
act-place a joined s act = refl

-- Who takes nothing more is dead.

goes-on : (b : Bool) (x y : ClientAct) → ends x ≡ false → ends y ≡ false → ends (cond b x y) ≡ true → ⊥
goes-on true x y e f k = absurd (grind arith)
goes-on false x y e f k = absurd (grind arith)

blamed-dead : (severity : Severity) (error : ErrorFields) (s : ClientState) → ends (blamed_act severity error s) ≡ true → blamed_phase severity s.phase ≡ Dead
blamed-dead CanContinue error s k = absurd (goes-on (registers_again error s) _ _ refl refl k)
blamed-dead severity error s k = refl

act-dead : (m : XsmpMessage) (ph : ClientPhase) (id : List ℕ) (ask : SaveAsk) → ends (act_taken m (client_in ph id ask)) ≡ true → (taken m (client_in ph id ask)).phase ≡ Dead
act-dead (Error error) ph id ask k = blamed-dead error.severity error (client_in ph id ask) k
act-dead (RegisterClientReply given) ph id ask k = absurd (goes-on (is_registering ph) _ _ refl refl k)
act-dead (SaveYourself kind shutdown style fast) ph id ask k = absurd (goes-on (is_resting ph) _ _ refl refl k)
act-dead Interact Asked id ask k = absurd (grind arith)
act-dead Interact AskedTwo id ask k = absurd (grind arith)
act-dead Interact ph id ask k = absurd (grind arith)
act-dead SaveYourselfPhase2 WantsTwo id ask k = absurd (grind arith)
act-dead SaveYourselfPhase2 ph id ask k = absurd (grind arith)
act-dead SaveComplete ph id ask k = absurd (goes-on (is_done ph) _ _ refl refl k)
act-dead ShutdownCancelled ph id ask k = absurd (goes-on (is_member ph) _ _ refl refl k)
act-dead Die Idle id ask k = refl
act-dead Die Done id ask k = refl
act-dead Die ph id ask k = absurd (grind arith)
act-dead (GetPropertiesReply list) ph id ask k = absurd (goes-on (is_registered ph) _ _ refl refl k)
act-dead m ph id ask k = absurd (grind arith)

pub takes-message : ClientsTakeMessages
takes-message joined counts m s n fits h expected =
    let a : Arrival = arrived counts (spelled_under joined.opcode (Xsmp m)) in
    let heard : heard_of joined counts m s ≡ acted a joined (taken m s) (act_taken m s) = ap (λ (r : Received). speaking_heard a joined s r) (received joined.opcode m n fits h) in
    record {
      said = ap (λ (x : Heard). x.said) heard ∙ act-said a joined (taken m s) (act_taken m s) expected;
      place = ap (λ (x : Heard). x.next.place) heard ∙ act-place a joined (taken m s) (act_taken m s);
      dead = λ k. act-dead m s.phase s.id s.asked k;
    }
