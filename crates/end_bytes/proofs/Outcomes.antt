-- What a frame brings is what its message brings.
use Rattle.std.proofs.Common.{◌≡◌, ◌≢◌, refl, sym, ap, ◌∙◌, ℕ, Bool, true, false, eqb, arith}
use Rattle.std.specs.Prelude.{None, Some, if◌then◌else◌}
use Rattle.std.proofs.lemmas.Bool.{false≢true}
use Rattle.ice_values.specs.Fields.{ErrorFields}
use Rattle.ice_values.specs.declared.numbers.Endian.TheVariants.{Lsb}
use Rattle.ice_messages.specs.Messages.{IsMessage as IsIceMessage, canon as ice_canon, minor_of as ice_minor}
use Rattle.ice_messages.specs.declared.message.IceMessage.{IceMessage}
use Rattle.ice_messages.specs.declared.message.IceMessage.TheVariants.{Error}
use Rattle.ice_messages.proofs.Dispatch.{canon_spells as ice_spells, decode_again as ice_again}
use Rattle.ice_setup.specs.declared.states.AnySetup.{AnySetup}
use Rattle.ice_setup.specs.declared.states.AnySetup.TheVariants.{AwaitCookie as AtCookie, AwaitOrder as AtOrder, AwaitProtocol as AtProtocol, AwaitProtocolCookie as AtProtocolCookie, AwaitSetup as AtSetup, Ready as AtReady}
use Rattle.ice_setup.specs.declared.states.AwaitProtocol.{AwaitProtocol}
use Rattle.ice_setup.specs.declared.states.Ready.{Ready}
use Rattle.xsmp_messages.specs.Messages.{IsMessage, canon, minor_of}
use Rattle.xsmp_messages.specs.declared.message.XsmpMessage.{XsmpMessage}
use Rattle.xsmp_messages.proofs.Dispatch.{canon_spells, decode_again}
use Rattle.protocol_messages.specs.Messages.{spelled_under}
use Rattle.protocol_messages.specs.declared.message.Message.TheVariants.{Ice, Xsmp}
use Rattle.session_engine.specs.Answers.{is_ordered, later_outcome, message_outcome, outcome, read_outcome, staying, xsmp_outcome}
use Rattle.session_engine.specs.Outcomes.{Outcome, Speaks}
use Rattle.session_engine.proofs.Connections.{other, same}
use Rattle.message_streams.specs.Streams.{part_of}
use Rattle.end_bytes.specs.Hearing.{IsNoError, ManagersHearMessages, bad_major}

-- the tests of a frame, one after the other

third : (a b c : Bool) (x y z w : Outcome) → a ≡ false → b ≡ false → c ≡ true → (if a then x else if b then y else if c then z else w) ≡ z
third false false true x y z w e f g = refl
third a b c x y z w e f g = absurd (grind arith)

last : (a b : Bool) (x y w : Outcome) → a ≡ false → b ≡ false → (if a then x else if b then y else w) ≡ w
last false false x y w e f = refl
last a b x y w e f = absurd (grind arith)

second : (a : Bool) (x y : Outcome) → a ≡ false → (if a then x else y) ≡ y
second false x y e = refl
second true x y e = absurd (false≢true (sym e))

-- a message of XSMP

speaks : (s : Ready) (sequence : ℕ) (m : XsmpMessage) → s.opcode ≢ 0 → IsMessage m → IsNoError m → outcome (AtReady s) sequence (part_of s.opcode (Xsmp m)) ≡ record { setup = AtReady s; answer = Speaks m sequence (spelled_under s.opcode (Xsmp m)) }
speaks s sequence m n fits no_error =
    third _ _ _ _ _ _ _ (other (minor_of m) 0 no_error) (other s.opcode 0 n) (same s.opcode s.opcode refl)
    ∙ ap (xsmp_outcome (AtReady s) sequence (canon Lsb s.opcode m)) (decode_again Lsb s.opcode (canon Lsb s.opcode m) m (canon_spells Lsb s.opcode m fits))

refuses : (s : AwaitProtocol) (sequence opcode : ℕ) (m : XsmpMessage) → opcode ≢ 0 → IsNoError m → outcome (AtProtocol s) sequence (part_of opcode (Xsmp m)) ≡ staying (AtProtocol s) (Some (bad_major s sequence opcode m))
refuses s sequence opcode m n no_error = last _ _ _ _ _ (other (minor_of m) 0 no_error) (other opcode 0 n)

-- a message of ICE behind the first

silent : (setup : AnySetup) (sequence : ℕ) (error : ErrorFields) → is_ordered setup ≡ true → staying setup None ≡ message_outcome setup (Error error) sequence
silent (AtOrder s) sequence error o = absurd (false≢true o)
silent (AtSetup s) sequence error o = refl
silent (AtCookie s) sequence error o = refl
silent (AtProtocol s) sequence error o = refl
silent (AtProtocolCookie s) sequence error o = refl
silent (AtReady s) sequence error o = refl

read : (setup : AnySetup) (sequence : ℕ) (m : IceMessage) → eqb (ice_minor m) 0 ≡ false → IsIceMessage m → later_outcome setup sequence Lsb (ice_canon Lsb m) ≡ message_outcome setup m sequence
read setup sequence m n fits = second _ _ _ n ∙ ap (read_outcome setup sequence (ice_canon Lsb m)) (ice_again Lsb (ice_canon Lsb m) m (ice_spells Lsb m fits))

later : (setup : AnySetup) (sequence : ℕ) (m : IceMessage) → is_ordered setup ≡ true → IsIceMessage m → later_outcome setup sequence Lsb (ice_canon Lsb m) ≡ message_outcome setup m sequence
later setup sequence (Error error) o fits = silent setup sequence error o
later setup sequence m o fits = read setup sequence m refl fits

follows : (setup : AnySetup) (sequence opcode : ℕ) (m : IceMessage) → is_ordered setup ≡ true → IsIceMessage m → outcome setup sequence (part_of opcode (Ice m)) ≡ message_outcome setup m sequence
follows (AtOrder s) sequence opcode m o fits = absurd (false≢true o)
follows (AtSetup s) sequence opcode m o fits = later (AtSetup s) sequence m o fits
follows (AtCookie s) sequence opcode m o fits = later (AtCookie s) sequence m o fits
follows (AtProtocol s) sequence opcode m o fits = later (AtProtocol s) sequence m o fits
follows (AtProtocolCookie s) sequence opcode m o fits = later (AtProtocolCookie s) sequence m o fits
follows (AtReady s) sequence opcode m o fits = later (AtReady s) sequence m o fits

pub hears-messages : ManagersHearMessages
hears-messages = record {
  speaks = speaks;
  refuses = refuses;
  begins = λ s sequence opcode. refl;
  follows = follows;
}
