-- Whether XSMP is spoken on a connection, before and behind each part of its stream.
use Rattle.std.proofs.Common.{◌≡◌, ℕ, Bool, true, false, not, ◌&&◌, ◌||◌, ◌==◌, List, [], Option, Some, None, Result, Ok, Err, nat_lt, slice_index, drop, refl, sym, ◌∙◌, ap, if◌then◌else◌}
use Rattle.std.specs.Option.{is_some}
use Rattle.std.proofs.lemmas.Bool.{false≢true}
use Rattle.ice_values.specs.Numbers.{number}
use Rattle.ice_values.specs.declared.class.ErrorClass.{ErrorClass}
use Rattle.ice_values.specs.declared.class.ErrorClass.TheVariants.{BadState, MajorOpcodeDuplicate, ProtocolDuplicate, UnknownProtocol, BadMajor, BadMinor as NoMinor, BadLength as NoLength, BadValue as NoValue}
use Rattle.ice_values.specs.declared.numbers.Endian.{Endian}
use Rattle.ice_values.specs.declared.numbers.Endian.TheVariants.{Lsb}
use Rattle.ice_values.specs.declared.refusals.DecodeRefusal.{DecodeRefusal}
use Rattle.ice_values.specs.declared.refusals.DecodeRefusal.TheVariants.{BadMinor, BadLength, BadValue, NoMemory}
use Rattle.ice_messages.specs.Reading.{decode_at}
use Rattle.ice_messages.specs.declared.message.IceMessage.{IceMessage}
use Rattle.ice_messages.specs.declared.message.IceMessage.TheVariants.{ByteOrder, ProtocolSetup, WantToClose}
use Rattle.ice_framing.specs.Parts.{Part, Whole, TooMuch}
use Rattle.ice_framing.specs.declared.cutting.WholeFrame.{WholeFrame}
use Rattle.ice_setup.specs.Errors.{opcode_values, text_values, wrong_byte}
use Rattle.ice_setup.specs.Offers.{is_xsmp}
use Rattle.ice_setup.specs.Setup.{moved, named, refuses_protocol, opcode_of, connected}
use Rattle.ice_setup.specs.declared.errors.Offending.{Offending}
use Rattle.ice_setup.specs.declared.states.AwaitOrder.{AwaitOrder}
use Rattle.ice_setup.specs.declared.states.Ready.{Ready}
use Rattle.ice_setup.specs.declared.states.AnySetup.{AnySetup}
use Rattle.ice_setup.specs.declared.states.AnySetup.TheVariants.{AwaitOrder as AtOrder, AwaitSetup as AtSetup, AwaitCookie as AtCookie, AwaitProtocol as AtProtocol, AwaitProtocolCookie as AtProtocolCookie, Ready as AtReady}
use Rattle.ice_setup.specs.declared.states.Moved.{Moved}
use Rattle.ice_setup.specs.declared.states.Moved.TheVariants.{Goes, Ends, Close, Ask}
use Rattle.xsmp_messages.specs.Reading.{decode_at as xsmp_at}
use Rattle.xsmp_messages.specs.declared.message.XsmpMessage.{XsmpMessage}
use Rattle.session_engine.specs.Answers.{named_in, stated_order, going, speaks_xsmp, refused, outcome_of, message_outcome, first_outcome, read_outcome, xsmp_outcome, later_outcome, frame_outcome, is_opcode, outcome}
use Rattle.session_engine.specs.Outcomes.{Answer, Stays, Begins, Closes, Speaks, Asks, Outcome}
use Rattle.protocol_messages.specs.declared.message.Message.{Message}

-- an answer tells when XSMP begins, and a message of XSMP comes only where it is spoken
abbrev pub FitsAnswer : Bool → Bool → Answer → Type 0
FitsAnswer before after (Stays message) = after ≡ before
FitsAnswer before after (Begins message) = (before ≡ false) × (after ≡ true)
FitsAnswer before after (Closes message) = after ≡ before
FitsAnswer before after (Speaks message sequence frame) = (before ≡ true) × (after ≡ before)
FitsAnswer before after Asks = after ≡ before

abbrev pub Fits : AnySetup → Outcome → Type 0
Fits setup o = FitsAnswer (speaks_xsmp setup) (speaks_xsmp o.setup) o.answer

fits-if : (setup : AnySetup) (b : Bool) (one other : Outcome) → Fits setup one → Fits setup other → Fits setup (if◌then◌else◌ {A = Outcome} b one other)
fits-if setup true one other p q = p
fits-if setup false one other p q = q

fits-refused : (setup : AnySetup) (class : ErrorClass) (offending : Offending) (values : List ℕ) → Fits setup (refused setup class offending values)
fits-refused setup class offending values = fits-if setup (connected setup) _ _ refl refl

-- ---- the set-up

-- where XSMP is spoken it still is
abbrev KeepsXsmp : AnySetup → Moved → Type 0
KeepsXsmp before (Goes setup message) = speaks_xsmp before ≡ true → speaks_xsmp setup ≡ true
KeepsXsmp before (Ends message) = Unit {0}
KeepsXsmp before Close = Unit {0}
KeepsXsmp before (Ask setup) = Unit {0}

keeps-silent : (before : AnySetup) (m : Moved) → speaks_xsmp before ≡ false → KeepsXsmp before m
keeps-silent before (Goes setup message) silent = λ speaks. absurd (false≢true (sym silent ∙ speaks))
keeps-silent before (Ends message) silent = tt
keeps-silent before Close silent = tt
keeps-silent before (Ask setup) silent = tt

keeps-if : (before : AnySetup) (b : Bool) (one other : Moved) → KeepsXsmp before one → KeepsXsmp before other → KeepsXsmp before (if◌then◌else◌ {A = Moved} b one other)
keeps-if before true one other p q = p
keeps-if before false one other p q = q

keeps-ready : (s : Ready) (message : IceMessage) (sequence : ℕ) → KeepsXsmp (AtReady s) (moved (AtReady s) message sequence)
keeps-ready s (ProtocolSetup opcode must protocol vendor release names offered) sequence =
    let offending : Offending = named (ProtocolSetup opcode must protocol vendor release names offered) sequence in
    let unknown : Moved = refuses_protocol (AtReady s) UnknownProtocol (text_values protocol) offending in
    let twice : Moved = refuses_protocol (AtReady s) ProtocolDuplicate (text_values protocol) offending in
    keeps-if (AtReady s) ((opcode == 0) || (opcode == s.opcode)) (refuses_protocol (AtReady s) MajorOpcodeDuplicate (opcode_values opcode) offending) (if◌then◌else◌ {A = Moved} (not (is_xsmp protocol)) unknown twice) (λ e. refl)
    (keeps-if (AtReady s) (not (is_xsmp protocol)) unknown twice (λ e. refl) (λ e. refl))
keeps-ready s WantToClose sequence = tt
keeps-ready s message sequence = λ e. refl

keeps-moved : (setup : AnySetup) (message : IceMessage) (sequence : ℕ) → KeepsXsmp setup (moved setup message sequence)
keeps-moved (AtOrder s) message sequence = keeps-silent (AtOrder s) _ refl
keeps-moved (AtSetup s) message sequence = keeps-silent (AtSetup s) _ refl
keeps-moved (AtCookie s) message sequence = keeps-silent (AtCookie s) _ refl
keeps-moved (AtProtocol s) message sequence = keeps-silent (AtProtocol s) _ refl
keeps-moved (AtProtocolCookie s) message sequence = keeps-silent (AtProtocolCookie s) _ refl
keeps-moved (AtReady s) message sequence = keeps-ready s message sequence

fits-going : (before setup : AnySetup) (was is : Bool) (message : Option Message) → speaks_xsmp before ≡ was → speaks_xsmp setup ≡ is → (speaks_xsmp before ≡ true → speaks_xsmp setup ≡ true) → Fits before (going (is && not was) setup message)
fits-going before setup true true message e f keeps = f ∙ sym e
fits-going before setup true false message e f keeps = absurd (false≢true (sym f ∙ keeps e))
fits-going before setup false true message e f keeps = (e, f)
fits-going before setup false false message e f keeps = f ∙ sym e

fits-moved : (before : AnySetup) (m : Moved) → KeepsXsmp before m → Fits before (outcome_of before m)
fits-moved before (Goes setup message) keeps = fits-going before setup (speaks_xsmp before) (speaks_xsmp setup) _ refl refl keeps
fits-moved before (Ends message) keeps = refl
fits-moved before Close keeps = refl
fits-moved before (Ask setup) keeps = refl

fits-message : (setup : AnySetup) (message : IceMessage) (sequence : ℕ) → Fits setup (message_outcome setup message sequence)
fits-message setup message sequence = fits-moved setup (moved setup message sequence) (keeps-moved setup message sequence)

-- ---- frames

fits-first : (s : AwaitOrder) (sequence : ℕ) (bytes : List ℕ) → Fits (AtOrder s) (first_outcome s sequence bytes)
fits-first s sequence bytes =
    fits-if (AtOrder s) (not (slice_index bytes 0 == 0 && slice_index bytes 1 == 1)) _ _ (fits-refused (AtOrder s) BadState (named_in bytes sequence) [])
    (fits-if (AtOrder s) (not (number Lsb 4 (drop 4 bytes) == 0)) _ _ (fits-refused (AtOrder s) NoLength (named_in bytes sequence) [])
    (fits-if (AtOrder s) (nat_lt 1 (slice_index bytes 2)) _ _ (fits-refused (AtOrder s) NoValue (named_in bytes sequence) (wrong_byte 2 bytes))
    (fits-message (AtOrder s) (ByteOrder (stated_order bytes)) sequence)))

fits-read : (setup : AnySetup) (sequence : ℕ) (bytes : List ℕ) (read : Result IceMessage DecodeRefusal) → Fits setup (read_outcome setup sequence bytes read)
fits-read setup sequence bytes (Ok message) = fits-message setup message sequence
fits-read setup sequence bytes (Err BadMinor) = fits-refused setup NoMinor (named_in bytes sequence) []
fits-read setup sequence bytes (Err BadLength) = fits-refused setup NoLength (named_in bytes sequence) []
fits-read setup sequence bytes (Err (BadValue at len)) = fits-refused setup NoValue (named_in bytes sequence) (wrong_byte at bytes)
fits-read setup sequence bytes (Err NoMemory) = refl

fits-xsmp : (setup : AnySetup) (sequence : ℕ) (bytes : List ℕ) (read : Result XsmpMessage DecodeRefusal) → speaks_xsmp setup ≡ true → Fits setup (xsmp_outcome setup sequence bytes read)
fits-xsmp setup sequence bytes (Ok message) speaks = (speaks, refl)
fits-xsmp setup sequence bytes (Err BadMinor) speaks = refl
fits-xsmp setup sequence bytes (Err BadLength) speaks = refl
fits-xsmp setup sequence bytes (Err (BadValue at len)) speaks = refl
fits-xsmp setup sequence bytes (Err NoMemory) speaks = refl

fits-opcode : (setup : AnySetup) (own : Option ℕ) (opcode : ℕ) (one other : Outcome) → opcode_of setup ≡ own → (speaks_xsmp setup ≡ true → Fits setup one) → Fits setup other → Fits setup (if◌then◌else◌ {A = Outcome} (is_opcode own opcode) one other)
fits-opcode setup None opcode one other e p q = q
fits-opcode setup (Some own) opcode one other e p q = fits-if setup (own == opcode) one other (p (ap is_some e)) q

fits-later : (setup : AnySetup) (sequence : ℕ) (e : Endian) (bytes : List ℕ) → Fits setup (later_outcome setup sequence e bytes)
fits-later setup sequence e bytes =
    fits-if setup (slice_index bytes 1 == 0) _ _ refl
    (fits-if setup (slice_index bytes 0 == 0) _ _ (fits-read setup sequence bytes (decode_at e bytes))
    (fits-opcode setup (opcode_of setup) (slice_index bytes 0) _ _ refl (fits-xsmp setup sequence bytes (xsmp_at e bytes)) (fits-refused setup BadMajor (named_in bytes sequence) (opcode_values (slice_index bytes 0)))))

fits-frame : (setup : AnySetup) (sequence : ℕ) (frame : WholeFrame) → Fits setup (frame_outcome setup sequence frame)
fits-frame (AtOrder s) sequence frame = fits-first s sequence frame.bytes
fits-frame (AtSetup s) sequence frame = fits-later (AtSetup s) sequence frame.endian frame.bytes
fits-frame (AtCookie s) sequence frame = fits-later (AtCookie s) sequence frame.endian frame.bytes
fits-frame (AtProtocol s) sequence frame = fits-later (AtProtocol s) sequence frame.endian frame.bytes
fits-frame (AtProtocolCookie s) sequence frame = fits-later (AtProtocolCookie s) sequence frame.endian frame.bytes
fits-frame (AtReady s) sequence frame = fits-later (AtReady s) sequence frame.endian frame.bytes

closes-if : (was : Bool) (b : Bool) (one other : Answer) → FitsAnswer was was one → FitsAnswer was was other → FitsAnswer was was (if◌then◌else◌ {A = Answer} b one other)
closes-if was true one other p q = p
closes-if was false one other p q = q

pub fits-part : (setup : AnySetup) (sequence : ℕ) (part : Part) → Fits setup (outcome setup sequence part)
fits-part setup sequence (Whole frame) = fits-frame setup sequence frame
fits-part setup sequence (TooMuch header) = closes-if (speaks_xsmp setup) (slice_index header 1 == 0) _ _ refl refl
