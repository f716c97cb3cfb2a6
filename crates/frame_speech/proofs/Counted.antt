-- How much is held of a stream, and in which order, by the frames that were cut.
use Rattle.std.proofs.Common.{◌≡◌, ℕ, ◌+◌, ◌-◌, ◌<◌, ◌≤◌, List, [], ◌∷◌, ◌++◌, length, take, get_or, Option, Some, None, refl, sym, ap, ◌∙◌, subst, arith, length-append, append-nil}
use Rattle.std.specs.Prelude.{flat_map}
use Rattle.std.specs.Option.{option_or}
use Rattle.std.proofs.lemmas.List.{take_more, take_all}
use Rattle.std.proofs.lemmas.List.Concat.{flat_map-append}
use Rattle.ice_values.specs.declared.numbers.Endian.{Endian}
use Rattle.ice_framing.specs.Frames.{Standing, fed, cut, order_of, standing_of}
use Rattle.ice_framing.specs.declared.cutting.WholeFrame.{WholeFrame}
use Rattle.ice_framing.proofs.Shapes.{later_order, made_of, joined}
use Rattle.frame_speech.specs.Streams.{bytes_in}

-- what is left of so many bytes behind the frames before the i-th
pub one_less : (count left i : ℕ) (frames : List WholeFrame) (f : WholeFrame) (next : ℕ) → left ≡ count - length (bytes_in (take i frames)) → i < length frames → f ≡ get_or frames i f → next ≡ left - length f.bytes → next ≡ count - length (bytes_in (take (i + 1) frames))
one_less count left i frames f next was there is less =
    let more : bytes_in (take (i + 1) frames) ≡ bytes_in (take i frames) ++ (get_or frames i f).bytes =
    ap bytes_in (take_more frames i f there) ∙ flat_map-append (λ (g : WholeFrame). g.bytes) (take i frames) (get_or frames i f ∷ []) ∙ ap (λ (bytes : List ℕ). bytes_in (take i frames) ++ bytes) (append-nil (get_or frames i f).bytes) in
    let same : length f.bytes ≡ length (get_or frames i f).bytes = ap (λ (g : WholeFrame). length g.bytes) is in
    omega (arith, was, less, same, ap length more, length-append (bytes_in (take i frames)) (get_or frames i f).bytes)

pub all_less : (count left i : ℕ) (frames : List WholeFrame) → left ≡ count - length (bytes_in (take i frames)) → length frames ≤ i → left ≡ count - length (bytes_in frames)
all_less count left i frames was over = was ∙ ap (λ (fs : List WholeFrame). count - length (bytes_in fs)) (take_all i frames over)

-- what is held behind a piece
pub held_then : (at to : Standing) (piece : List ℕ) (held all left : ℕ) (frames : List WholeFrame) → held ≡ length at.held → all ≡ held + length piece → frames ≡ (cut (fed at piece)).frames → to ≡ (cut (fed at piece)).standing → left ≡ all - length (bytes_in frames) → left ≡ length to.held
held_then at to piece held all left frames was sum are is less =
    let both : length (bytes_in (cut (fed at piece)).frames ++ (cut (fed at piece)).standing.held) ≡ length (at.held ++ piece) = ap length (joined (fed at piece)) in
    let cut_so : length (bytes_in frames) ≡ length (bytes_in (cut (fed at piece)).frames) = ap (λ (fs : List WholeFrame). length (bytes_in fs)) are in
    let there : length to.held ≡ length (cut (fed at piece)).standing.held = ap (λ (s : Standing). length s.held) is in
    omega (arith, was, sum, less, both, cut_so, there, length-append (bytes_in (cut (fed at piece)).frames) (cut (fed at piece)).standing.held, length-append at.held piece)

order_by : (order : Option Endian) (held : List ℕ) → (cut (record { order = order; held = held })).standing.order ≡ option_or order (order_of (cut (record { order = order; held = held })).frames)
order_by None held = (made_of held).order
order_by (Some e) held = later_order (record { order = Some e; held = held }) e refl

-- the order in which it stands then
pub order_then : (at to : Standing) (piece : List ℕ) (order now : Option Endian) (frames : List WholeFrame) → order ≡ at.order → frames ≡ (cut (fed at piece)).frames → to ≡ (cut (fed at piece)).standing → now ≡ option_or order (order_of frames) → now ≡ to.order
order_then at to piece order now frames was are is or_is =
    or_is ∙ ap (λ (o : Option Endian). option_or o (order_of frames)) was ∙ ap (λ (fs : List WholeFrame). option_or at.order (order_of fs)) are
    ∙ sym (order_by at.order (at.held ++ piece)) ∙ ap (λ (s : Standing). s.order) (sym is)
