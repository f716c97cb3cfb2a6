-- What a stream holds of the bytes of messages is cut into the frames of the first of them.
use Rattle.std.proofs.Common.{lit≤, ◌≡◌, ◌⊎◌, inl, inr, refl, sym, ap, ◌∙◌, subst, ℕ, ◌+◌, ◌*◌, ◌<◌, ◌≤◌, List, [], ◌∷◌, ◌++◌, length, take, drop, arith, append_assoc}
use Rattle.std.specs.Prelude.{Option, Some, None}
use Rattle.std.proofs.Math.Seq.{drop-append_seam}
use Rattle.std.proofs.lemmas.Bool.{cases_lt}
use Rattle.ice_values.specs.Numbers.{number}
use Rattle.ice_values.specs.declared.numbers.Endian.{Endian}
use Rattle.ice_values.specs.declared.numbers.Endian.TheVariants.{Lsb}
use Rattle.ice_framing.specs.Frames.{IsPartial, IsLater, Standing, behind, cut, endian, endian_in, fed, first_frame, unit_limit, standing_of, units, units_in, wanted, without_first, Cut}
use Rattle.ice_framing.specs.Parts.{Part}
use Rattle.ice_framing.specs.declared.cutting.WholeFrame.{WholeFrame}
use Rattle.ice_framing.proofs.Cuts.{HasFrame, cut-partial, cut-whole, frame_is, standing_is}
use Rattle.ice_framing.proofs.Headers.{endian_in-append, units_in-append, units_in-number, units_in-short}
use Rattle.ice_framing.proofs.Parts.{behind_standing, new_parts-is, parts_at-partial, parts_at-whole}
use Rattle.ice_framing.proofs.Streams.{standing_of-append}
use Rattle.ice_messages.specs.declared.message.IceMessage.TheVariants.{ByteOrder}
use Rattle.protocol_messages.specs.Messages.{spelled_under}
use Rattle.protocol_messages.specs.declared.message.Message.{Message}
use Rattle.protocol_messages.specs.declared.message.Message.TheVariants.{Ice}
use Rattle.message_streams.specs.Streams.{BringsFront, CutsAreOfMessages, HasBytes, HoldsBytes, IsOrdered, PiecesAreOfMessages, StreamsAreOfMessages, bytes_of, frame_of, part_of}
use Rattle.message_streams.proofs.Lists.{IsStart, Splits, front-is, longer, none-held, rejoined, split-of, start-of}

-- The bytes are a frame where a stream's numbers have this order, or as its first.
record Fits (order : Option Endian) (bytes : List ℕ) : Type 0 where
  header : 8 ≤ length bytes
  units_are : 8 + 8 * units_in order bytes ≡ length bytes
  within : units_in order bytes ≤ 8192
  endian_is : endian_in order bytes ≡ Lsb

fits-later : (e : Endian) (bytes : List ℕ) → e ≡ Lsb → IsLater Lsb (record { endian = Lsb; bytes = bytes }) → Fits (Some e) bytes
fits-later e bytes same l =
    let stated : units_in (Some Lsb) bytes ≡ number Lsb 4 (drop 4 bytes) = units_in-number Lsb bytes l.header in
    subst (λ (x : Endian). Fits (Some x) bytes) (sym same)
    (record { header = l.header; units_are = ap (λ (n : ℕ). 8 + 8 * n) stated ∙ sym l.units; within = subst (λ (n : ℕ). n ≤ 8192) (sym stated) (omega (arith, l.units, l.limit)); endian_is = refl })

first-order : (opcode : ℕ) → Fits None (spelled_under opcode (Ice (ByteOrder Lsb)))
first-order opcode = record { header = lit≤ tt; units_are = refl; within = lit≤ tt; endian_is = refl }

fits : (opcode : ℕ) (order : Option Endian) (m : Message) (ms : List Message) → IsOrdered order (m ∷ ms) → HasBytes opcode m → Fits order (spelled_under opcode m)
fits opcode (Some e) m ms o h = fits-later e (spelled_under opcode m) o h
fits opcode None m ms o h = subst (λ (x : Message). Fits None (spelled_under opcode x)) (sym o) (first-order opcode)

-- No frame is whole yet.

holds-still : (opcode : ℕ) (ms : List Message) (at : Standing) (later : List ℕ) → IsPartial at → units at ≤ unit_limit → HoldsBytes opcode at later ms → BringsFront opcode at later ms
holds-still opcode ms at later short within h =
    let still : (cut at).standing ≡ at = ap (λ (c : Cut). c.standing) (cut-partial at short) in
    record {
      front = [];
      back = ms;
      all = refl;
      parts = parts_at-partial at short within;
      holds = subst (λ (x : Standing). HoldsBytes opcode x later ms) (sym still) h;
      within = subst (λ (x : Standing). units x ≤ unit_limit) (sym still) within;
    }

-- Less than a header states nothing.
short-of : (at : Standing) → length at.held < 8 → IsPartial at × (units at ≤ unit_limit)
short-of at l =
    let none : units at ≡ 0 = units_in-short at.order at.held l in
    (subst (λ (n : ℕ). length at.held < 8 + 8 * n) (sym none) (omega (arith, l)), subst (λ (n : ℕ). n ≤ 8192) (sym none) (lit≤ tt))

-- part of a frame
partial-of : (at : Standing) (bytes more : List ℕ) → Fits at.order bytes → bytes ≡ at.held ++ more → length at.held < length bytes → IsPartial at × (units at ≤ unit_limit)
partial-of at bytes more f is l = by-header (cases_lt (length at.held) 8) where
  by-header : (length at.held < 8) ⊎ (8 ≤ length at.held) → IsPartial at × (units at ≤ unit_limit)
  by-header (inl short) = short-of at short
  by-header (inr whole) =
      let same : units_in at.order bytes ≡ units at = ap (λ (xs : List ℕ). units_in at.order xs) is ∙ units_in-append at.order at.held more whole in
      (subst (λ (n : ℕ). length at.held < 8 + 8 * n) same (subst (λ (n : ℕ). length at.held < n) (sym f.units_are) l), subst (λ (n : ℕ). n ≤ 8192) same f.within)

-- The first frame is whole.

record IsFirst (at next : Standing) (frame : WholeFrame) : Type 0 where
  is : cut at ≡ behind (frame ∷ []) (cut next)

first-of : (at : Standing) (bytes more : List ℕ) → Fits at.order bytes → at.held ≡ bytes ++ more → IsFirst at (record { order = Some Lsb; held = more }) (record { endian = Lsb; bytes = bytes })
first-of at bytes more f is =
    let same : units at ≡ units_in at.order bytes = ap (λ (xs : List ℕ). units_in at.order xs) is ∙ units_in-append at.order bytes more f.header in
    let wants : wanted at ≡ length bytes = ap (λ (n : ℕ). 8 + 8 * n) same ∙ f.units_are in
    let ordered : endian at ≡ Lsb = ap (λ (xs : List ℕ). endian_in at.order xs) is ∙ endian_in-append at.order bytes more f.header ∙ f.endian_is in
    let long : length bytes ≤ length at.held = subst (λ (xs : List ℕ). length bytes ≤ length xs) (sym is) (longer bytes more) in
    let there : HasFrame at = record { whole = subst (λ (n : ℕ). n ≤ length at.held) (sym wants) long; within = subst (λ (n : ℕ). n ≤ 8192) (sym same) f.within } in
    let taken : take (wanted at) at.held ≡ bytes = ap (λ (n : ℕ). take n at.held) wants ∙ ap (λ (xs : List ℕ). take (length bytes) xs) is ∙ front-is bytes more in
    let left : drop (wanted at) at.held ≡ more = ap (λ (n : ℕ). drop n at.held) wants ∙ ap (λ (xs : List ℕ). drop (length bytes) xs) is ∙ drop-append_seam bytes more in
    let frame : first_frame at ≡ record { endian = Lsb; bytes = bytes } = frame_is (endian at) Lsb (take (wanted at) at.held) bytes ordered taken in
    let rest : without_first at ≡ record { order = Some Lsb; held = more } = standing_is (Some (endian at)) (Some Lsb) (drop (wanted at) at.held) more (ap (λ (e : Endian). Some e) ordered) left in
    record { is = cut-whole at there ∙ ap (λ (x : WholeFrame). behind (x ∷ []) (cut (without_first at))) frame ∙ ap (λ (x : Standing). behind (record { endian = Lsb; bytes = bytes } ∷ []) (cut x)) rest }

goes-on : (opcode : ℕ) (m : Message) (ms : List Message) (at next : Standing) (later : List ℕ) → IsFirst at next (frame_of opcode m) → BringsFront opcode next later ms → BringsFront opcode at later (m ∷ ms)
goes-on opcode m ms at next later f k =
    let still : (cut next).standing ≡ (cut at).standing = behind_standing at next (frame_of opcode m) f.is in
    record {
      front = m ∷ k.front;
      back = k.back;
      all = ap (λ (xs : List Message). m ∷ xs) k.all;
      parts = parts_at-whole at next (frame_of opcode m) f.is ∙ ap (λ (ps : List Part). part_of opcode m ∷ ps) k.parts;
      holds = subst (λ (x : Standing). HoldsBytes opcode x later k.back) still k.holds;
      within = subst (λ (x : Standing). units x ≤ unit_limit) still k.within;
    }

by-length : (opcode : ℕ) (m : Message) (ms : List Message) (at : Standing) (later : List ℕ) → HoldsBytes opcode at later (m ∷ ms) → (length at.held < length (spelled_under opcode m)) ⊎ (length (spelled_under opcode m) ≤ length at.held)
    → ((next : Standing) → HoldsBytes opcode next later ms → BringsFront opcode next later ms) → BringsFront opcode at later (m ∷ ms)
by-length opcode m ms at later h (inl short) on =
    let f : Fits at.order (spelled_under opcode m) = fits opcode at.order m ms h.order h.each.0 in
    let s : IsStart at.held (spelled_under opcode m) = start-of at.held later (spelled_under opcode m) (bytes_of opcode ms) h.bytes short in
    let p : IsPartial at × (units at ≤ unit_limit) = partial-of at (spelled_under opcode m) s.more f s.is short in
    holds-still opcode (m ∷ ms) at later p.0 p.1 h
by-length opcode m ms at later h (inr whole) on =
    let f : Fits at.order (spelled_under opcode m) = fits opcode at.order m ms h.order h.each.0 in
    let s : Splits at.held later (spelled_under opcode m) (bytes_of opcode ms) = split-of at.held later (spelled_under opcode m) (bytes_of opcode ms) h.bytes whole in
    let next : Standing = record { order = Some Lsb; held = s.more } in
    goes-on opcode m ms at next later (first-of at (spelled_under opcode m) s.more f s.is) (on next (record { order = refl; bytes = s.rest_is; each = h.each.1 }))

pub cuts-of : CutsAreOfMessages
cuts-of opcode [] at later h =
    let none : length at.held ≡ 0 = ap (λ (xs : List ℕ). length xs) (none-held at.held later h.bytes) in
    let p : IsPartial at × (units at ≤ unit_limit) = short-of at (omega (arith, none)) in
    holds-still opcode [] at later p.0 p.1 h
cuts-of opcode (m ∷ ms) at later h =
    by-length opcode m ms at later h (cases_lt (length at.held) (length (spelled_under opcode m))) (λ next k. cuts-of opcode ms next later k)

pub pieces-of : PiecesAreOfMessages
pieces-of opcode ms at later count h = cuts-of opcode ms (fed at (take count later)) (drop count later) (record {
  order = h.order;
  bytes = append_assoc at.held (take count later) (drop count later) ∙ ap (λ (xs : List ℕ). at.held ++ xs) (rejoined count later) ∙ h.bytes;
  each = h.each;
})

pub streams-of : StreamsAreOfMessages
streams-of opcode ms stream later count within h =
    let b : BringsFront opcode (fed (standing_of stream) (take count later)) (drop count later) ms = pieces-of opcode ms (standing_of stream) later count h in
    let there : standing_of (stream ++ take count later) ≡ (cut (fed (standing_of stream) (take count later))).standing = standing_of-append stream (take count later) in
    record {
      front = b.front;
      back = b.back;
      all = b.all;
      parts = new_parts-is stream (take count later) within ∙ b.parts;
      holds = subst (λ (x : Standing). HoldsBytes opcode x (drop count later) b.back) (sym there) b.holds;
      within = subst (λ (x : Standing). units x ≤ unit_limit) (sym there) b.within;
    }
