-- What a frame in the other order is.
use Rattle.std.proofs.Common.{◌≡◌, ℕ, ◌+◌, Bool, true, false, List, [], length, slice_index, Some, None, Result, Ok, Err, refl, sym, ap, ◌∙◌, subst, arith}
use Rattle.std.specs.Prelude.{◌≢◌, ◌↔◌}
use Rattle.std.proofs.lemmas.Bool.{eqb-true, eqb-false, ne_eqb}
use Rattle.ice_values.specs.Cells.{byte, pad_len}
use Rattle.ice_values.specs.Frames.{IsFrame, RefusesAs}
use Rattle.ice_values.specs.Reading.{IsBytes}
use Rattle.ice_values.specs.declared.numbers.Endian.{Endian}
use Rattle.ice_values.specs.declared.refusals.DecodeRefusal.{DecodeRefusal}
use Rattle.ice_values.specs.declared.refusals.DecodeRefusal.TheVariants.{BadMinor, BadLength, BadValue, NoMemory as NoMemoryToDecode}
use Rattle.ice_values.proofs.CellLaws.{Begins-length, length-zeros}
use Rattle.ice_values.proofs.HeaderLaws.{length-spelling}
use Rattle.ice_values.proofs.DecodeLaws.{is_spelled}
use Rattle.ice_values.proofs.OptionLaws.{some_is, none_not_some, some_not_none}
use Rattle.ice_messages.specs.Messages.{Spells as SpellsIce, Refused as RefusedIce, canon as canon_ice, shape as ice_shape, minor_of as ice_minor, layout as ice_layout}
use Rattle.ice_messages.specs.Reading.{decode_at as decode_ice_at}
use Rattle.ice_messages.specs.declared.message.IceMessage.{IceMessage}
use Rattle.ice_messages.proofs.Dispatch.{decode_again as ice_again, decode_caused as ice_caused, canon_spells as ice_canon}
use Rattle.xsmp_messages.specs.Messages.{Spells as SpellsXsmp, Refused as RefusedXsmp, canon as canon_xsmp, shape as xsmp_shape, minor_of as xsmp_minor, layout as xsmp_layout}
use Rattle.xsmp_messages.specs.Reading.{decode_at as decode_xsmp_at}
use Rattle.xsmp_messages.specs.declared.message.XsmpMessage.{XsmpMessage}
use Rattle.xsmp_messages.proofs.Dispatch.{decode_again as xsmp_again, decode_caused as xsmp_caused, canon_spells as xsmp_canon}
use Rattle.byte_relay.specs.Turning.{turned_ice, turned_xsmp}
use Rattle.byte_relay.specs.Respelling.{is_ice, spelled_ice, spelled_xsmp, respelled, IsUnspelledIn, IsUnspelled, ReadsTurned, respell_fault_of}
use Rattle.byte_relay.specs.declared.respelling.RespellFault.TheVariants.{Unspelled}
use Rattle.byte_relay.proofs.Lengths.{ice_own, xsmp_own}
use Rattle.byte_relay.proofs.Turned.{ice_fits, xsmp_fits, ice_length, xsmp_length}

module _ (e to : Endian) (frame : List ℕ) where
  -- ---- by the major opcode

  pub by_ice : slice_index frame 0 ≡ 0 → respelled e to frame ≡ spelled_ice e to (decode_ice_at e frame)
  by_ice major = rw major refl

  pub by_xsmp : slice_index frame 0 ≢ 0 → respelled e to frame ≡ spelled_xsmp e to (slice_index frame 0) (decode_xsmp_at e frame)
  by_xsmp other = rw (ne_eqb (slice_index frame 0) 0 other) refl

  pub ice_respelled : (m : IceMessage) → slice_index frame 0 ≡ 0 → decode_ice_at e frame ≡ Ok m → respelled e to frame ≡ Some (canon_ice to (turned_ice e to m))
  ice_respelled m major is = by_ice major ∙ ap (spelled_ice e to) is

  pub xsmp_respelled : (m : XsmpMessage) → slice_index frame 0 ≢ 0 → decode_xsmp_at e frame ≡ Ok m → respelled e to frame ≡ Some (canon_xsmp to (slice_index frame 0) (turned_xsmp e to m))
  xsmp_respelled m other is = by_xsmp other ∙ ap (spelled_xsmp e to (slice_index frame 0)) is

  -- what is refused has no other spelling, unless memory was wanting
  pub ice_refused : (refusal : DecodeRefusal) → slice_index frame 0 ≡ 0 → RefusesAs refusal (decode_ice_at e frame) → respell_fault_of refusal ≡ Unspelled → respelled e to frame ≡ None
  ice_refused BadMinor major is unspelled = by_ice major ∙ ap (spelled_ice e to) is
  ice_refused BadLength major is unspelled = by_ice major ∙ ap (spelled_ice e to) is
  ice_refused (BadValue at len) major is unspelled = by_ice major ∙ ap (spelled_ice e to) is
  ice_refused NoMemoryToDecode major is unspelled = absurd cc

  pub xsmp_refused : (refusal : DecodeRefusal) → slice_index frame 0 ≢ 0 → RefusesAs refusal (decode_xsmp_at e frame) → respell_fault_of refusal ≡ Unspelled → respelled e to frame ≡ None
  xsmp_refused BadMinor other is unspelled = by_xsmp other ∙ ap (spelled_xsmp e to (slice_index frame 0)) is
  xsmp_refused BadLength other is unspelled = by_xsmp other ∙ ap (spelled_xsmp e to (slice_index frame 0)) is
  xsmp_refused (BadValue at len) other is unspelled = by_xsmp other ∙ ap (spelled_xsmp e to (slice_index frame 0)) is
  xsmp_refused NoMemoryToDecode other is unspelled = absurd cc

  -- ---- what was respelled was a message

  ice_read : (answer : Result IceMessage DecodeRefusal) (bytes : List ℕ) → spelled_ice e to answer ≡ Some bytes → (m : IceMessage) × (answer ≡ Ok m) × (bytes ≡ canon_ice to (turned_ice e to m))
  ice_read (Ok m) bytes is = (m, refl, some_is bytes (canon_ice to (turned_ice e to m)) (sym is))
  ice_read (Err refusal) bytes is = absurd (none_not_some bytes is)

  xsmp_read : (opcode : ℕ) (answer : Result XsmpMessage DecodeRefusal) (bytes : List ℕ) → spelled_xsmp e to opcode answer ≡ Some bytes → (m : XsmpMessage) × (answer ≡ Ok m) × (bytes ≡ canon_xsmp to opcode (turned_xsmp e to m))
  xsmp_read opcode (Ok m) bytes is = (m, refl, some_is bytes (canon_xsmp to opcode (turned_xsmp e to m)) (sym is))
  xsmp_read opcode (Err refusal) bytes is = absurd (none_not_some bytes is)

  ice_unread : (answer : Result IceMessage DecodeRefusal) → ((m : IceMessage) → answer ≡ Ok m → ⊥) → spelled_ice e to answer ≡ None
  ice_unread (Ok m) none = absurd (none m refl)
  ice_unread (Err refusal) none = refl

  xsmp_unread : (opcode : ℕ) (answer : Result XsmpMessage DecodeRefusal) → ((m : XsmpMessage) → answer ≡ Ok m → ⊥) → spelled_xsmp e to opcode answer ≡ None
  xsmp_unread opcode (Ok m) none = absurd (none m refl)
  xsmp_unread opcode (Err refusal) none = refl

  module _ (framed : IsFrame e frame) (fits : IsBytes frame) where
    ice_spells : (m : IceMessage) → slice_index frame 0 ≡ 0 → decode_ice_at e frame ≡ Ok m → SpellsIce e m frame
    ice_spells m major is = is_spelled (λ m. SpellsIce e m frame) (RefusedIce e frame) (decode_ice_at e frame) m (ice_caused e frame (record { frame = framed; fits = fits; major = major })) is

    xsmp_spells : (m : XsmpMessage) → decode_xsmp_at e frame ≡ Ok m → SpellsXsmp e (slice_index frame 0) m frame
    xsmp_spells m is = is_spelled (λ m. SpellsXsmp e (slice_index frame 0) m frame) (RefusedXsmp e frame) (decode_xsmp_at e frame) m (xsmp_caused e frame (record { frame = framed; fits = fits })) is

    ice_long : (m : IceMessage) → SpellsIce e m frame → length (canon_ice to (turned_ice e to m)) ≡ length frame
    ice_long m spells =
        let t : IceMessage = turned_ice e to m in
        let new = length-zeros (ice_shape byte to t) ∙ length-spelling to 0 (ice_minor t) (ice_layout byte to t).0 (ice_layout byte to t).1 (ice_own to t) in
        let old = length-spelling e 0 (ice_minor m) (ice_layout byte e m).0 (ice_layout byte e m).1 (ice_own e m) in
        let whole = Begins-length (ice_shape byte e m) frame [] spells.1 in
        let same = ap (λ (n : ℕ). 8 + n + pad_len n 8) (ice_length e to m) in
        omega (arith, new, old, whole, same)

    xsmp_long : (m : XsmpMessage) → SpellsXsmp e (slice_index frame 0) m frame → length (canon_xsmp to (slice_index frame 0) (turned_xsmp e to m)) ≡ length frame
    xsmp_long m spells =
        let t : XsmpMessage = turned_xsmp e to m in
        let opcode : ℕ = slice_index frame 0 in
        let new = length-zeros (xsmp_shape byte to opcode t) ∙ length-spelling to opcode (xsmp_minor t) (xsmp_layout byte to t).0 (xsmp_layout byte to t).1 (xsmp_own to t) in
        let old = length-spelling e opcode (xsmp_minor m) (xsmp_layout byte e m).0 (xsmp_layout byte e m).1 (xsmp_own e m) in
        let whole = Begins-length (xsmp_shape byte e opcode m) frame [] spells.1 in
        let same = ap (λ (n : ℕ). 8 + n + pad_len n 8) (xsmp_length e to m) in
        omega (arith, new, old, whole, same)

    length_by : (b : Bool) (bytes : List ℕ) → is_ice frame ≡ b → respelled e to frame ≡ Some bytes → length bytes ≡ length frame
    length_by true bytes is some =
        let major = eqb-true (slice_index frame 0) 0 is in
        let read = ice_read (decode_ice_at e frame) bytes (sym (by_ice major) ∙ some) in
        ap length read.2 ∙ ice_long read.0 (ice_spells read.0 major read.1)
    length_by false bytes is some =
        let other = eqb-false (slice_index frame 0) 0 is in
        let read = xsmp_read (slice_index frame 0) (decode_xsmp_at e frame) bytes (sym (by_xsmp other) ∙ some) in
        ap length read.2 ∙ xsmp_long read.0 (xsmp_spells read.0 read.1)

    pub same_length : (bytes : List ℕ) → respelled e to frame ≡ Some bytes → length bytes ≡ length frame
    same_length bytes some = length_by (is_ice frame) bytes refl some

    ice_turned : (bytes : List ℕ) → slice_index frame 0 ≡ 0 → respelled e to frame ≡ Some bytes → (m : IceMessage) → SpellsIce e m frame → decode_ice_at to bytes ≡ Ok (turned_ice e to m)
    ice_turned bytes major some m spells =
        let t : IceMessage = turned_ice e to m in
        let is : bytes ≡ canon_ice to t = some_is bytes (canon_ice to t) (sym some ∙ ice_respelled m major (ice_again e frame m spells)) in
        rw is (ice_again to (canon_ice to t) t (ice_canon to t (ice_fits e to m spells.0)))

    xsmp_turned : (bytes : List ℕ) → slice_index frame 0 ≢ 0 → respelled e to frame ≡ Some bytes → (m : XsmpMessage) → SpellsXsmp e (slice_index frame 0) m frame → decode_xsmp_at to bytes ≡ Ok (turned_xsmp e to m)
    xsmp_turned bytes other some m spells =
        let t : XsmpMessage = turned_xsmp e to m in
        let opcode : ℕ = slice_index frame 0 in
        let is : bytes ≡ canon_xsmp to opcode t = some_is bytes (canon_xsmp to opcode t) (sym some ∙ xsmp_respelled m other (xsmp_again e opcode frame m spells)) in
        rw is (xsmp_again to opcode (canon_xsmp to opcode t) t (xsmp_canon to opcode t (xsmp_fits e to m spells.0)))

    reads_by : (b : Bool) (bytes : List ℕ) → is_ice frame ≡ b → respelled e to frame ≡ Some bytes → ReadsTurned e to frame bytes
    reads_by true bytes is some = rw is (ice_turned bytes (eqb-true (slice_index frame 0) 0 is) some)
    reads_by false bytes is some = rw is (xsmp_turned bytes (eqb-false (slice_index frame 0) 0 is) some)

    pub reads_turned : (bytes : List ℕ) → respelled e to frame ≡ Some bytes → ReadsTurned e to frame bytes
    reads_turned bytes some = reads_by (is_ice frame) bytes refl some

    ice_unspelled : slice_index frame 0 ≡ 0 → (respelled e to frame ≡ None) ↔ IsUnspelledIn true e frame
    ice_unspelled major =
        ((λ none m spells. some_not_none (canon_ice to (turned_ice e to m)) (sym (ice_respelled m major (ice_again e frame m spells)) ∙ none)), (λ none. by_ice major ∙ ice_unread (decode_ice_at e frame) (λ m read. none m (ice_spells m major read))))

    xsmp_unspelled : slice_index frame 0 ≢ 0 → (respelled e to frame ≡ None) ↔ IsUnspelledIn false e frame
    xsmp_unspelled other = (
      (λ none m spells. some_not_none (canon_xsmp to (slice_index frame 0) (turned_xsmp e to m)) (sym (xsmp_respelled m other (xsmp_again e (slice_index frame 0) frame m spells)) ∙ none)),
      (λ none. by_xsmp other ∙ xsmp_unread (slice_index frame 0) (decode_xsmp_at e frame) (λ m read. none m (xsmp_spells m read))),
    )

    unspelled_by : (b : Bool) → is_ice frame ≡ b → (respelled e to frame ≡ None) ↔ IsUnspelled e frame
    unspelled_by true is = subst (λ (b : Bool). (respelled e to frame ≡ None) ↔ IsUnspelledIn b e frame) (sym is) (ice_unspelled (eqb-true (slice_index frame 0) 0 is))
    unspelled_by false is = subst (λ (b : Bool). (respelled e to frame ≡ None) ↔ IsUnspelledIn b e frame) (sym is) (xsmp_unspelled (eqb-false (slice_index frame 0) 0 is))

    pub is_unspelled : (respelled e to frame ≡ None) ↔ IsUnspelled e frame
    is_unspelled = unspelled_by (is_ice frame) refl
