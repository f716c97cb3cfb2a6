-- What both ends keep from ProtocolReply on.
use Rattle.std.proofs.Common.{◌≡◌, inl, inr, sym, ap, ◌∙◌, subst, ℕ, List, [], ◌∷◌, ◌++◌, map}
use Rattle.std.specs.Prelude.{Option, None, Some}
use Rattle.ice_setup.specs.Setup.{manager_opcode, protocol_reply}
use Rattle.ice_setup.specs.declared.opener.Joined.{Joined}
use Rattle.protocol_messages.specs.Messages.{spelled_under}
use Rattle.protocol_messages.specs.declared.message.Message.TheVariants.{Ice, Xsmp}
use Rattle.session_engine.specs.Machine.{Connection, connection_of}
use Rattle.message_streams.specs.Streams.{bytes_of}
use Rattle.end_schedules.specs.Schedules.{paired}
use Rattle.end_schedules.specs.UnderWay.{sent_to}
use Rattle.setup_agreement.proofs.Wiring.{not-empty}
use Rattle.end_bytes.specs.BytePairs.{AllMay, BytePair, ByteStep, after, step}
use Rattle.end_bytes.specs.Talking.{AllSpeak, BothEndsKeepTheirBytes, Enters, EntersOrTalks, IsQuiet, KeepsBytes, TalksOn, entered}
use Rattle.end_bytes.proofs.Enters.{entering-goes-on}
use Rattle.end_bytes.proofs.Quiet.{clean-there, quiet-ends, talking-clean}
use Rattle.end_bytes.proofs.Talking.{talking-goes-on}

abbrev here : Joined
here = record { opcode = manager_opcode }

one-step : (c : ℕ) (previous : List ℕ) (b : BytePair) (s : ByteStep) (steps : List ByteStep) → EntersOrTalks c previous b → AllMay c (s ∷ steps) b → AllSpeak c (s ∷ steps) b → EntersOrTalks c previous (step c s b)
one-step c previous b s steps (inl t) may speaks = entering-goes-on c previous b s t may.0 speaks.0 speaks.1
one-step c previous b s steps (inr t) may speaks =
    let r : TalksOn c here b.machine.session t.0 (step c s b) = talking-goes-on c here b t.0 s t.1 may.0 speaks.0 speaks.1 in
    inr (r.next, r.talks)

each-step : (c : ℕ) (previous : List ℕ) (b : BytePair) (steps : List ByteStep) → EntersOrTalks c previous b → AllMay c steps b → AllSpeak c steps b → EntersOrTalks c previous (after c steps b)
each-step c previous b [] t may speaks = t
each-step c previous b (s ∷ steps) t may speaks = each-step c previous (step c s b) steps (one-step c previous b s steps t may speaks) may.1 speaks.2

pub found-again : (j k : Connection) (o : Option Connection) → o ≡ Some j → o ≡ Some k → k ≡ j
found-again j k o e f = ap (λ (x : Option Connection). or_else j x) (sym f ∙ e) where
  or_else : Connection → Option Connection → Connection
  or_else d None = d
  or_else d (Some x) = x

-- what is under way isn't nothing
never-quiet : (c : ℕ) (previous : List ℕ) (b : BytePair) (k : Connection) → Enters c previous b → IsQuiet b k → ⊥
never-quiet c previous b k t quiet =
    not-empty (spelled_under manager_opcode (Ice (protocol_reply 0))) (bytes_of manager_opcode (map Xsmp (sent_to c b.machine.session))) t.down.each.0.header
    (sym t.down.bytes ∙ ap (λ (xs : List ℕ). xs ++ b.down) quiet.at_client ∙ quiet.down)

pub keeps : (c : ℕ) (previous : List ℕ) (b : BytePair) → EntersOrTalks c previous b → KeepsBytes c b
keeps c previous b (inl t) = record { clean = clean-there c (paired b.machine.session (entered previous)) t.reached; agree = λ k is quiet. absurd (never-quiet c previous b k t quiet) }
keeps c previous b (inr t) = record {
  clean = talking-clean c here b t.0 t.1;
  agree = λ k is quiet. quiet-ends c here b t.0 t.1 (subst (λ (x : Connection). IsQuiet b x) (found-again t.1.connection k (connection_of c b.machine.connections) t.1.there is) quiet);
}

pub keep-bytes : BothEndsKeepTheirBytes
keep-bytes c previous b steps t may speaks = keeps c previous (after c steps b) (each-step c previous b steps (inl t) may speaks)
