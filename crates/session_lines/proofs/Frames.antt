-- What a part of a stream brings, against what is noted of it: a frame that is noted is heard by the session, or refused by an Error.
use Rattle.std.proofs.Common.{◌≡◌, ◌⊎◌, inl, inr, ℕ, Bool, true, false, cond, not, ◌&&◌, ◌||◌, ◌==◌, List, [], ◌∷◌, Option, Some, None, Result, Ok, Err, nat_lt, slice_index, drop, refl, sym, ◌∙◌, ap, subst, arith, if◌then◌else◌}
use Rattle.std.specs.Option.{option_map}
use Rattle.ice_values.specs.Fields.{ErrorFields}
use Rattle.ice_values.specs.Numbers.{number}
use Rattle.ice_values.specs.declared.severity.Severity.TheVariants.{FatalToConnection}
use Rattle.ice_values.specs.declared.class.ErrorClass.{ErrorClass}
use Rattle.ice_values.specs.declared.class.ErrorClass.TheVariants.{BadState, BadMajor, BadMinor as NoMinor, BadLength as NoLength, BadValue as NoValue}
use Rattle.ice_values.specs.declared.numbers.Endian.TheVariants.{Lsb}
use Rattle.ice_values.specs.declared.refusals.DecodeRefusal.{DecodeRefusal}
use Rattle.ice_values.specs.declared.refusals.DecodeRefusal.TheVariants.{BadMinor, BadLength, BadValue, NoMemory}
use Rattle.ice_messages.specs.Reading.{decode_at as ice_at}
use Rattle.ice_messages.specs.declared.message.IceMessage.{IceMessage}
use Rattle.ice_messages.specs.declared.message.IceMessage.TheVariants.{ByteOrder}
use Rattle.ice_framing.specs.Parts.{Part, Whole, TooMuch}
use Rattle.ice_framing.specs.declared.cutting.WholeFrame.{WholeFrame}
use Rattle.ice_setup.specs.Errors.{blame, opcode_values, wrong_byte}
use Rattle.ice_setup.specs.Setup.{moved, opcode_of, connected}
use Rattle.ice_setup.specs.declared.errors.Offending.{Offending}
use Rattle.ice_setup.specs.declared.states.AwaitOrder.{AwaitOrder}
use Rattle.ice_setup.specs.declared.states.AnySetup.{AnySetup}
use Rattle.ice_setup.specs.declared.states.AnySetup.TheVariants.{AwaitOrder as AtOrder, AwaitSetup as AtSetup, AwaitCookie as AtCookie, AwaitProtocol as AtProtocol, AwaitProtocolCookie as AtProtocolCookie, Ready as AtReady}
use Rattle.ice_setup.specs.declared.states.Moved.{Moved}
use Rattle.ice_setup.specs.declared.states.Moved.TheVariants.{Goes, Ends, Close, Ask}
use Rattle.xsmp_messages.specs.Reading.{decode_at}
use Rattle.xsmp_messages.specs.declared.message.XsmpMessage.{XsmpMessage}
use Rattle.session_engine.specs.Answers.{named_in, stated_order, going, speaks_xsmp, refused, outcome_of, first_outcome, read_outcome, xsmp_outcome, later_outcome, frame_outcome, is_opcode, outcome, error_about}
use Rattle.session_engine.specs.Outcomes.{Answer, Stays, Begins, Closes, Speaks, Asks, Outcome}
use Rattle.protocol_messages.specs.declared.message.Message.{Message}
use Rattle.protocol_messages.specs.declared.message.Message.TheVariants.{Ice}
use Rattle.session_notes.specs.Notes.{Heard, Note}
use Rattle.session_notes.proofs.Tests.{or-first, or-second}
use Rattle.session_lines.specs.Lines.{given_in, heard_as, heard_in, is_error}

-- a message that goes back, if any, is not noted, and it is an Error, or nothing was noted of the part
abbrev pub FitsSaid : ℕ → List Note → Option Message → Type 0
FitsSaid c ns None = ns ≡ []
FitsSaid c ns (Some message) = (given_in c message ≡ []) × ((is_error message ≡ true) ⊎ (ns ≡ []))

-- an answer against what was noted of the part
abbrev pub FitsAnswer : ℕ → List Note → Answer → Type 0
FitsAnswer c ns (Stays message) = FitsSaid c ns message
FitsAnswer c ns (Begins message) = FitsSaid c ns message
FitsAnswer c ns (Closes message) = FitsSaid c ns message
FitsAnswer c ns (Speaks message sequence frame) = ns ≡ Heard c message ∷ []
FitsAnswer c ns Asks = ns ≡ []

abbrev Fits : ℕ → List Note → Outcome → Type 0
Fits c ns o = FitsAnswer c ns o.answer

fits-if : (c : ℕ) (ns : List Note) (b : Bool) (one other : Outcome) → (b ≡ true → Fits c ns one) → (b ≡ false → Fits c ns other) → Fits c ns (if◌then◌else◌ {A = Outcome} b one other)
fits-if c ns true one other p q = p refl
fits-if c ns false one other p q = q refl

fits-refused : (c : ℕ) (ns : List Note) (setup : AnySetup) (class : ErrorClass) (offending : Offending) (values : List ℕ) → Fits c ns (refused setup class offending values)
fits-refused c ns setup class offending values = fits-if c ns (connected setup) _ _ (λ e. (refl, inl refl)) (λ e. (refl, inl refl))

-- ---- messages of ICE, of which nothing is noted

silent-said : (c : ℕ) (ns : List Note) (message : Option IceMessage) → ns ≡ [] → FitsSaid c ns (option_map Ice message)
silent-said c ns None e = e
silent-said c ns (Some message) e = (refl, inr e)

silent-going : (c : ℕ) (ns : List Note) (b : Bool) (setup : AnySetup) (message : Option IceMessage) → ns ≡ [] → Fits c ns (going b setup (option_map Ice message))
silent-going c ns true setup message e = silent-said c ns message e
silent-going c ns false setup message e = silent-said c ns message e

silent-moved : (c : ℕ) (ns : List Note) (before : AnySetup) (m : Moved) → ns ≡ [] → Fits c ns (outcome_of before m)
silent-moved c ns before (Goes setup message) e = silent-going c ns (speaks_xsmp setup && not (speaks_xsmp before)) setup message e
silent-moved c ns before (Ends message) e = silent-said c ns message e
silent-moved c ns before Close e = e
silent-moved c ns before (Ask setup) e = e

silent-read : (c : ℕ) (ns : List Note) (setup : AnySetup) (sequence : ℕ) (bytes : List ℕ) (read : Result IceMessage DecodeRefusal) → ns ≡ [] → Fits c ns (read_outcome setup sequence bytes read)
silent-read c ns setup sequence bytes (Ok message) e = silent-moved c ns setup (moved setup message sequence) e
silent-read c ns setup sequence bytes (Err BadMinor) e = fits-refused c ns setup NoMinor (named_in bytes sequence) []
silent-read c ns setup sequence bytes (Err BadLength) e = fits-refused c ns setup NoLength (named_in bytes sequence) []
silent-read c ns setup sequence bytes (Err (BadValue at len)) e = fits-refused c ns setup NoValue (named_in bytes sequence) (wrong_byte at bytes)
silent-read c ns setup sequence bytes (Err NoMemory) e = e

-- ---- frames

-- what is noted of a frame with these tests of its opcodes
abbrev by_opcodes : ℕ → WholeFrame → Bool → List Note
by_opcodes c f b = cond b [] (heard_as c (decode_at f.endian f.bytes))

not-and : (x y : Bool) → not (x && y) ≡ false → x ≡ true
not-and true y e = refl
not-and false y e = absurd (grind arith)

both-false : (x y : Bool) → x ≡ false → y ≡ false → (x || y) ≡ false
both-false x y e f = ap (λ (b : Bool). b || y) e ∙ f

fits-first : (c : ℕ) (s : AwaitOrder) (sequence : ℕ) (f : WholeFrame) → Fits c (heard_in c (Whole f)) (first_outcome s sequence f.bytes)
fits-first c s sequence f =
    fits-if c (heard_in c (Whole f)) (not (slice_index f.bytes 0 == 0 && slice_index f.bytes 1 == 1)) _ _ (λ e. fits-refused c (heard_in c (Whole f)) (AtOrder s) BadState (named_in f.bytes sequence) []) (λ e.
    fits-if c (heard_in c (Whole f)) (not (number Lsb 4 (drop 4 f.bytes) == 0)) _ _ (λ g. fits-refused c (heard_in c (Whole f)) (AtOrder s) NoLength (named_in f.bytes sequence) []) (λ g.
    fits-if c (heard_in c (Whole f)) (nat_lt 1 (slice_index f.bytes 2)) _ _ (λ h. fits-refused c (heard_in c (Whole f)) (AtOrder s) NoValue (named_in f.bytes sequence) (wrong_byte 2 f.bytes)) (λ h.
    silent-moved c (heard_in c (Whole f)) (AtOrder s) (moved (AtOrder s) (ByteOrder (stated_order f.bytes)) sequence)
    (ap (by_opcodes c f) (or-first (slice_index f.bytes 0 == 0) (slice_index f.bytes 1 == 0) (not-and (slice_index f.bytes 0 == 0) (slice_index f.bytes 1 == 1) e))))))

fits-xsmp : (c : ℕ) (setup : AnySetup) (sequence : ℕ) (bytes : List ℕ) (read : Result XsmpMessage DecodeRefusal) → Fits c (heard_as c read) (xsmp_outcome setup sequence bytes read)
fits-xsmp c setup sequence bytes (Ok message) = refl
fits-xsmp c setup sequence bytes (Err BadMinor) = (refl, inl refl)
fits-xsmp c setup sequence bytes (Err BadLength) = (refl, inl refl)
fits-xsmp c setup sequence bytes (Err (BadValue at len)) = (refl, inl refl)
fits-xsmp c setup sequence bytes (Err NoMemory) = refl

fits-later : (c : ℕ) (setup : AnySetup) (sequence : ℕ) (f : WholeFrame) → Fits c (heard_in c (Whole f)) (later_outcome setup sequence f.endian f.bytes)
fits-later c setup sequence f =
    let ns : List Note = heard_in c (Whole f) in
    let read : Result XsmpMessage DecodeRefusal = decode_at f.endian f.bytes in
    fits-if c ns (slice_index f.bytes 1 == 0) _ _ (λ e. ap (by_opcodes c f) (or-second (slice_index f.bytes 0 == 0) (slice_index f.bytes 1 == 0) e)) (λ e.
    fits-if c ns (slice_index f.bytes 0 == 0) _ _ (λ g. silent-read c ns setup sequence f.bytes (ice_at f.endian f.bytes) (ap (by_opcodes c f) (or-first (slice_index f.bytes 0 == 0) (slice_index f.bytes 1 == 0) g))) (λ g.
    fits-if c ns (is_opcode (opcode_of setup) (slice_index f.bytes 0)) _ _
    (λ h. subst (λ (xs : List Note). Fits c xs (xsmp_outcome setup sequence f.bytes read)) (sym (ap (by_opcodes c f) (both-false (slice_index f.bytes 0 == 0) (slice_index f.bytes 1 == 0) g e))) (fits-xsmp c setup sequence f.bytes read))
    (λ h. fits-refused c ns setup BadMajor (named_in f.bytes sequence) (opcode_values (slice_index f.bytes 0)))))

fits-frame : (c : ℕ) (setup : AnySetup) (sequence : ℕ) (f : WholeFrame) → Fits c (heard_in c (Whole f)) (frame_outcome setup sequence f)
fits-frame c (AtOrder s) sequence f = fits-first c s sequence f
fits-frame c (AtSetup s) sequence f = fits-later c (AtSetup s) sequence f
fits-frame c (AtCookie s) sequence f = fits-later c (AtCookie s) sequence f
fits-frame c (AtProtocol s) sequence f = fits-later c (AtProtocol s) sequence f
fits-frame c (AtProtocolCookie s) sequence f = fits-later c (AtProtocolCookie s) sequence f
fits-frame c (AtReady s) sequence f = fits-later c (AtReady s) sequence f

fits-closes : (c : ℕ) (b : Bool) (one other : Answer) → FitsAnswer c [] one → FitsAnswer c [] other → FitsAnswer c [] (if◌then◌else◌ {A = Answer} b one other)
fits-closes c true one other p q = p
fits-closes c false one other p q = q

error-fits : (c : ℕ) (b : Bool) (error : ErrorFields) → FitsSaid c [] (Some (error_about b error))
error-fits c true error = (refl, inr refl)
error-fits c false error = (refl, inr refl)

pub fits-part : (c : ℕ) (setup : AnySetup) (sequence : ℕ) (part : Part) → FitsAnswer c (heard_in c part) (outcome setup sequence part).answer
fits-part c setup sequence (Whole f) = fits-frame c setup sequence f
fits-part c setup sequence (TooMuch header) = fits-closes c (slice_index header 1 == 0) _ _ refl (error-fits c (is_opcode (opcode_of setup) (slice_index header 0)) (blame FatalToConnection NoLength (named_in header sequence) []))
