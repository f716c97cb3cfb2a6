-- Every message is decoded where it is spelled, and every refusal has its cause.
use Rattle.std.proofs.Common.{◌≡◌, ℕ, Bool, false, List, [], ◌∷◌, ◌++◌, Option, Result, Ok, refl, sym, arith, slice_index}
use Rattle.ice_values.specs.Cells.{Cells, byte, free, Begins}
use Rattle.ice_values.specs.Fields.{ErrorFields, proof_data, IsProofData, spelling, bool_number, order_number}
use Rattle.ice_values.specs.Reading.{Exact, proof_data_at, nothing_at, after_at}
use Rattle.ice_values.specs.Frames.{◌>>=◌, body_at, means_at, bool_meaning, order_meaning, error_at}
use Rattle.ice_values.specs.declared.numbers.Endian.{Endian}
use Rattle.ice_values.specs.declared.refusals.DecodeRefusal.{DecodeRefusal}
use Rattle.ice_values.proofs.CellLaws.{IsBytes, Begins-opened, Begins-marked, Begins-cell}
use Rattle.ice_values.proofs.BodyLaws.{whole, bind_length}
use Rattle.ice_values.proofs.HeaderLaws.{Header, own_first, own_second, first_own, second_own}
use Rattle.ice_values.proofs.EnumLaws.{answered_as, answered_meant, formed_meant, means_one, bool_enum, order_enum}
use Rattle.ice_values.proofs.CodecLaws.{Row, plain_row, meant_row}
use Rattle.ice_values.proofs.FieldLaws.{proof_data_exact, nothing_exact}
use Rattle.ice_values.proofs.ErrorLaws.{SpellsError, HasErrorForm, error_answered, error_again, error_formed}
use Rattle.ice_messages.specs.Messages.{minor_of, shape, enumerated, IsOffer, Spells, HasForm}
use Rattle.ice_messages.specs.Reading.{makers_at, offer_at, protocol_at, empty_at, byte_order_at, connection_setup_at, authentication_required_at, authentication_reply_at, authentication_next_phase_at, connection_reply_at, protocol_setup_at, protocol_reply_at, ice_error_at}
use Rattle.ice_messages.specs.declared.message.IceMessage.{IceMessage}
use Rattle.ice_messages.specs.declared.message.IceMessage.TheVariants.{Error, ByteOrder, AuthenticationRequired, AuthenticationReply, AuthenticationNextPhase, ConnectionReply, ProtocolReply}
use Rattle.ice_messages.proofs.Parts.{Makers, makers, IsMakers, Lists, IsLists, offer, IsOfferOf, protocol, IsProtocolOf, nothing_law, makers_exact, offer_law, protocol_law}
use Rattle.ice_messages.proofs.Setups.{form, setup_of, setup_in, setup_out, setup_marked, setup_opened, protocol_of, protocol_in, protocol_out}

-- what is shown of a message whose minor opcode is read so
abbrev pub RowOf : Endian → List ℕ → IceMessage → Result IceMessage DecodeRefusal → Type 0
RowOf e bytes m answer = Row (λ m. Spells e m bytes) (λ m. HasForm e m bytes) enumerated bytes (Header e 0 (minor_of m) bytes) m answer

-- ---- messages without enumerated bytes

module _ {X : Type 0} (cells : X → Cells) (Fits : X → Type 0) (read : List ℕ → Option (X × List ℕ)) (exact : Exact cells Fits read) (e : Endian) (minor : ℕ) (make : X → IceMessage) (bytes : List ℕ) where
  abbrev IsBody : X → Type 0
  IsBody x = Fits x × Begins (spelling e 0 minor (free 2) (cells x)) bytes []

  -- a body that is one value; what else there is stands in the header
  pub valued : (m : IceMessage) → ((x : X) → IsBody x → Spells e (make x) bytes) → (Spells e m bytes → (x : X) × IsBody x × (make x ≡ m)) → (HasForm e m bytes → (x : X) × IsBody x)
      → Row (λ m. Spells e m bytes) (λ m. HasForm e m bytes) enumerated bytes (Header e 0 minor bytes) m (body_at read bytes >>= λ x. Ok (make x))
  valued m to of of_form =
      plain_row (λ m. Spells e m bytes) (λ m. HasForm e m bytes) enumerated bytes e 0 minor (λ x. free 2) cells Fits (body_at read) (whole cells Fits read e 0 minor exact) make m to of of_form

pub empty_row : (e : Endian) (minor : ℕ) (m : IceMessage) (bytes : List ℕ) → (Begins (spelling e 0 minor (free 2) []) bytes [] → Spells e m bytes) → (Spells e m bytes → Begins (spelling e 0 minor (free 2) []) bytes []) → (HasForm e m bytes → Begins (spelling e 0 minor (free 2) []) bytes [])
    → Row (λ m. Spells e m bytes) (λ m. HasForm e m bytes) enumerated bytes (Header e 0 minor bytes) m (empty_at m bytes)
unfolding empty_at
empty_row e minor m bytes to of of_form = valued (λ x. []) (λ x. Unit {0}) nothing_at nothing_exact e minor (λ x. m) bytes m (λ x body. to body.1) (λ s. (tt, (tt, of s), refl)) (λ f. (tt, (tt, of_form f)))

pub order_row : (e : Endian) (bytes : List ℕ) (order : Endian) → RowOf e bytes (ByteOrder order) (byte_order_at bytes)
unfolding byte_order_at
order_row e bytes order =
    meant_row (λ m. Spells e m bytes) (λ m. HasForm e m bytes) enumerated bytes e 0 1 (λ x. free 2) (λ x. []) (λ x. Unit {0}) (body_at nothing_at) (nothing_law e 1)
    ((2, 2) ∷ []) (λ order bytes. slice_index bytes 2 ≡ order_number order) (λ bytes. means_at order_meaning bytes 2) (means_one order_meaning order_number 2 2 order_enum) (λ x order. ByteOrder order) (ByteOrder order)
    (λ x order body at. (tt, own_first e 0 1 [] bytes (order_number order) at body.1)) (λ x body. (ByteOrder order, (tt, body.1), refl))
    (λ s. let own = first_own e 0 1 [] bytes (order_number order) s.1 in (tt, order, (tt, own.1), own.0, refl)) (λ f. (tt, (tt, f.1)))

-- ---- the data of an authentication

pub required_row : (e : Endian) (bytes : List ℕ) (index : ℕ) (proof : List ℕ) → RowOf e bytes (AuthenticationRequired index proof) (authentication_required_at e bytes)
unfolding authentication_required_at
required_row e bytes index proof =
    valued (proof_data e) IsProofData (proof_data_at e) (proof_data_exact e) e 3 (AuthenticationRequired (slice_index bytes 2)) bytes (AuthenticationRequired index proof)
    (λ x body. (body.0, own_first e 0 3 (proof_data e x) bytes (slice_index bytes 2) refl body.1))
    (λ s. let own = first_own e 0 3 (proof_data e proof) bytes index s.1 in (proof, (s.0, own.1), rw own.0 refl)) (λ f. (proof, (f.0, (first_own e 0 3 (proof_data e proof) bytes index f.1).1)))

pub reply_row : (e : Endian) (bytes proof : List ℕ) → RowOf e bytes (AuthenticationReply proof) (authentication_reply_at e bytes)
unfolding authentication_reply_at
reply_row e bytes proof = valued (proof_data e) IsProofData (proof_data_at e) (proof_data_exact e) e 4 (λ x. AuthenticationReply x) bytes (AuthenticationReply proof) (λ x body. body) (λ s. (proof, s, refl)) (λ f. (proof, f))

pub next_row : (e : Endian) (bytes proof : List ℕ) → RowOf e bytes (AuthenticationNextPhase proof) (authentication_next_phase_at e bytes)
unfolding authentication_next_phase_at
next_row e bytes proof = valued (proof_data e) IsProofData (proof_data_at e) (proof_data_exact e) e 5 (λ x. AuthenticationNextPhase x) bytes (AuthenticationNextPhase proof) (λ x body. body) (λ s. (proof, s, refl)) (λ f. (proof, f))

-- ---- a vendor and a release

pub connected_row : (e : Endian) (bytes : List ℕ) (index : ℕ) (x : Makers) → RowOf e bytes (ConnectionReply index x.0 x.1) (connection_reply_at e bytes)
unfolding connection_reply_at
connected_row e bytes index x =
    valued (makers e) IsMakers (makers_at e) (makers_exact e) e 6 (λ y. ConnectionReply (slice_index bytes 2) y.0 y.1) bytes (ConnectionReply index x.0 x.1)
    (λ y body. (body.0, own_first e 0 6 (makers e y) bytes (slice_index bytes 2) refl body.1))
    (λ s. let own = first_own e 0 6 (makers e x) bytes index s.1 in (x, (s.0, own.1), rw own.0 refl)) (λ f. (x, (f.0, (first_own e 0 6 (makers e x) bytes index f.1).1)))

pub answer_row : (e : Endian) (bytes : List ℕ) (index opcode : ℕ) (x : Makers) → RowOf e bytes (ProtocolReply index opcode x.0 x.1) (protocol_reply_at e bytes)
unfolding protocol_reply_at
answer_row e bytes index opcode x =
    let out : Begins (spelling e 0 8 (byte index ++ byte opcode) (makers e x)) bytes [] → (slice_index bytes 3 ≡ opcode) × (slice_index bytes 2 ≡ index) × Begins (spelling e 0 8 (free 2) (makers e x)) bytes [] =
    λ h. let second = second_own e 0 8 (makers e x) bytes index opcode h in let first = first_own e 0 8 (makers e x) bytes index second.1 in (second.0, first.0, first.1) in
    valued (makers e) IsMakers (makers_at e) (makers_exact e) e 8 (λ y. ProtocolReply (slice_index bytes 2) (slice_index bytes 3) y.0 y.1) bytes (ProtocolReply index opcode x.0 x.1)
    (λ y body. (body.0, own_second e 0 8 (makers e y) bytes (slice_index bytes 2) (slice_index bytes 3) refl (own_first e 0 8 (makers e y) bytes (slice_index bytes 2) refl body.1)))
    (λ s. let own = out s.1 in (x, (s.0, own.2), rw (own.0, own.1) refl)) (λ f. (x, (f.0, (out f.1).2)))

-- ---- the two setup messages

offer_fits : (bytes : List ℕ) (i j : ℕ) (x : Lists) → IsBytes bytes → IsLists (slice_index bytes i) (slice_index bytes j) x → IsOffer x.0 x.1
offer_fits bytes i j x fits h = (omega (arith, fits i, h.0.0), h.0.1, omega (arith, fits j, h.1.0), h.1.1)

setup_reads : (e : Endian) (must : Bool) (x : Makers × Lists) (bytes : List ℕ) → HasForm e (setup_of must x) bytes
    → IsOfferOf (slice_index bytes 3) (slice_index bytes 2) x × Begins (spelling e 0 2 (free 2) (free 8 ++ offer e x)) bytes []
setup_reads e must x bytes h =
    let out = setup_out e must x bytes h.1 in
    (((h.0.0, h.0.1), ((sym out.1, h.0.2.1), (sym out.0, h.0.2.3))), out.2)

pub setup_row : (e : Endian) (bytes : List ℕ) (must : Bool) (x : Makers × Lists) → RowOf e bytes (setup_of must x) (connection_setup_at e bytes)
unfolding connection_setup_at
setup_row e bytes must x =
    let names : ℕ = slice_index bytes 3 in
    let offered : ℕ = slice_index bytes 2 in
    let law = offer_law e 2 names offered in
    let means = means_one bool_meaning bool_number 2 8 bool_enum in record {
      says = λ h.
          answered_meant e 0 2 (λ x. free 2) (λ x. free 8 ++ offer e x) (IsOfferOf names offered) (body_at (after_at 8 (offer_at e names offered))) law (λ m. Spells e m bytes) (λ m. HasForm e m bytes) enumerated bytes
          ((8, 2) ∷ []) (λ must bytes. slice_index bytes 8 ≡ bool_number must) (λ bytes. means_at bool_meaning bytes 8) means (λ x must. setup_of must x) h
          (λ y must fits begins at. ((fits.0.0, fits.0.1, offer_fits bytes 3 2 y.1 h.fits fits.1), setup_marked e must y bytes at (setup_in e must y bytes (sym fits.1.1.0) (sym fits.1.0.0) begins)))
          (λ y fits begins. (setup_of false y, ((fits.0.0, fits.0.1, offer_fits bytes 3 2 y.1 h.fits fits.1), setup_in e false y bytes (sym fits.1.1.0) (sym fits.1.0.0) begins), refl));
      again = λ s.
          let opened = setup_opened e must x bytes s.1 in
          let reads = setup_reads e must x bytes (s.0, opened.1) in
          rw (law.again bytes x reads.0 reads.1, means.again bytes must opened.0) refl;
      formed = λ f.
          let reads = setup_reads e must x bytes f in
          formed_meant e 0 2 (λ x. free 2) (λ x. free 8 ++ offer e x) (IsOfferOf names offered) (body_at (after_at 8 (offer_at e names offered))) law bytes
          ((8, 2) ∷ []) (λ must bytes. slice_index bytes 8 ≡ bool_number must) (λ bytes. means_at bool_meaning bytes 8) means (λ x must. setup_of must x) x reads.0 reads.1;
    }

protocol_opened : (e : Endian) (opcode : ℕ) (must : Bool) (x : List ℕ × (Makers × Lists)) (bytes : List ℕ) → Begins (shape byte e (protocol_of opcode must x)) bytes [] → (slice_index bytes 3 ≡ bool_number must) × Begins (form e (protocol_of opcode must x)) bytes []
protocol_opened e opcode must x bytes h =
    (Begins-cell 3 (bool_number must) (shape byte e (protocol_of opcode must x)) bytes [] refl h, Begins-opened 3 (shape byte e (protocol_of opcode must x)) bytes [] h)

protocol_reads : (e : Endian) (opcode : ℕ) (must : Bool) (x : List ℕ × (Makers × Lists)) (bytes : List ℕ) → HasForm e (protocol_of opcode must x) bytes
    → (slice_index bytes 2 ≡ opcode) × IsProtocolOf (slice_index bytes 9) (slice_index bytes 8) x × Begins (spelling e 0 7 (free 2) (free 8 ++ protocol e x)) bytes []
protocol_reads e opcode must x bytes h =
    let out = protocol_out e opcode must x bytes h.1 in
    (out.0, (h.0.0, ((h.0.1, h.0.2), ((sym out.2, h.0.3.1), (sym out.1, h.0.3.3)))), out.3)

pub protocol_row : (e : Endian) (bytes : List ℕ) (opcode : ℕ) (must : Bool) (x : List ℕ × (Makers × Lists)) → RowOf e bytes (protocol_of opcode must x) (protocol_setup_at e bytes)
unfolding protocol_setup_at
protocol_row e bytes opcode must x =
    let names : ℕ = slice_index bytes 9 in
    let offered : ℕ = slice_index bytes 8 in
    let stated : ℕ = slice_index bytes 2 in
    let law = protocol_law e 7 names offered in
    let means = means_one bool_meaning bool_number 2 3 bool_enum in record {
      says = λ h.
          answered_meant e 0 7 (λ x. free 2) (λ x. free 8 ++ protocol e x) (IsProtocolOf names offered) (body_at (after_at 8 (protocol_at e names offered))) law (λ m. Spells e m bytes) (λ m. HasForm e m bytes) enumerated bytes
          ((3, 2) ∷ []) (λ must bytes. slice_index bytes 3 ≡ bool_number must) (λ bytes. means_at bool_meaning bytes 3) means (λ x must. protocol_of stated must x) h
          (λ y must fits begins at. (
            (fits.0, fits.1.0.0, fits.1.0.1, offer_fits bytes 9 8 y.1.1 h.fits fits.1.1),
            Begins-marked 3 (bool_number must) (form e (protocol_of stated must y)) bytes [] at (protocol_in e stated must y bytes refl (sym fits.1.1.1.0) (sym fits.1.1.0.0) begins),
          ))
          (λ y fits begins. (protocol_of stated false y, ((fits.0, fits.1.0.0, fits.1.0.1, offer_fits bytes 9 8 y.1.1 h.fits fits.1.1), protocol_in e stated false y bytes refl (sym fits.1.1.1.0) (sym fits.1.1.0.0) begins), refl));
      again = λ s.
          let opened = protocol_opened e opcode must x bytes s.1 in
          let reads = protocol_reads e opcode must x bytes (s.0, opened.1) in
          rw (law.again bytes x reads.1 reads.2, means.again bytes must opened.0, reads.0) refl;
      formed = λ f.
          let reads = protocol_reads e opcode must x bytes f in
          formed_meant e 0 7 (λ x. free 2) (λ x. free 8 ++ protocol e x) (IsProtocolOf names offered) (body_at (after_at 8 (protocol_at e names offered))) law bytes
          ((3, 2) ∷ []) (λ must bytes. slice_index bytes 3 ≡ bool_number must) (λ bytes. means_at bool_meaning bytes 3) means (λ x must. protocol_of stated must x) x reads.1 reads.2;
    }

-- ---- an Error

pub error_row : (e : Endian) (bytes : List ℕ) (error : ErrorFields) → RowOf e bytes (Error error) (ice_error_at e bytes)
unfolding ice_error_at
error_row e bytes error = record {
  says = λ h.
      answered_as (SpellsError e 0 bytes) (HasErrorForm e 0 bytes) (λ error. (9, 3) ∷ []) (λ m. Spells e m bytes) (λ m. HasForm e m bytes) enumerated bytes (λ error. Error error) (λ error s. s) (λ error f. (f, refl)) (error_at e bytes)
      (error_answered e 0 bytes h);
  again = λ s. rw (error_again e 0 bytes error s) refl;
  formed = λ f is. error_formed e 0 bytes error f (bind_length (error_at e bytes) (λ error. Error error) is);
}
