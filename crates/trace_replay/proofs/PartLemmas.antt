-- Showing the parts that were brought.
use Rattle.std.proofs.Common.{◌≡◌, Bool, true, false, ℕ, ◌+◌, ◌<◌, ◌≤◌, ◌^◌, List, [], ◌∷◌, ◌++◌, length, drop, map, refl, sym, ◌∙◌, ap, subst, arith, append_assoc, length-append, codes}
use Rattle.std.proofs.lemmas.List.{append-nil}
use Rattle.ice_framing.specs.Parts.{Part, Whole, TooMuch, parts_of, new_parts}
use Rattle.ice_framing.specs.declared.cutting.WholeFrame.{WholeFrame}
use Rattle.trace_replay.specs.Flows.{Brings, IsEnd}
use Rattle.trace_replay.specs.Parts.{PutsParts, ShowsParts}
use Rattle.trace_replay.specs.Shown.{part_text, shown_line, shown_parts, shown_piece}
use Rattle.trace_replay.specs.declared.flows.Brought.{Brought}
use Rattle.trace_replay.specs.declared.parts.Channel.{Channel}

-- In the middle of the frames: the lines so far and those of the frames that are left are all the lines.
pub record Putting (channel : Channel) (before : ℕ) (frames : List WholeFrame) (i : ℕ) (old now : List ℕ) (sequence : ℕ) : Type 0 where
  pub count : before + length frames < 2 ^ 64 → sequence ≡ before + i
  pub lines : before + length frames < 2 ^ 64 → now ++ shown_parts channel.direction channel.conn (before + i) (map Whole (drop i frames)) ≡ old ++ shown_parts channel.direction channel.conn before (map Whole frames)

-- the lines of parts behind others
pub shown_parts-append : (channel : Channel) (before : ℕ) (parts more : List Part) → shown_parts channel.direction channel.conn before (parts ++ more) ≡ shown_parts channel.direction channel.conn before parts ++ shown_parts channel.direction channel.conn (before + length parts) more
shown_parts-append channel before [] more = ap (λ (n : ℕ). shown_parts channel.direction channel.conn n more) (omega arith)
shown_parts-append channel before (part ∷ parts) more =
    ap (λ (lines : List ℕ). shown_line channel.direction channel.conn (before + 1) (part_text part) ++ lines) (shown_parts-append channel (before + 1) parts more ∙ ap (λ (n : ℕ). shown_parts channel.direction channel.conn (before + 1) parts ++ shown_parts channel.direction channel.conn n more) (omega arith))
    ∙ sym (append_assoc (shown_line channel.direction channel.conn (before + 1) (part_text part)) (shown_parts channel.direction channel.conn (before + 1) parts) (shown_parts channel.direction channel.conn (before + length (part ∷ parts)) more))

-- the lines of the frames were added, and nothing is behind them
pub put_frames : (channel : Channel) (brought : Brought) (old new : List ℕ) (count : ℕ) → brought.ended ≡ false → ShowsParts channel brought.before (map Whole brought.frames) old new count → PutsParts channel brought old new
put_frames channel brought old new count none shows = λ parts are few.
    let end : are.last ≡ [] = subst (λ (ended : Bool). IsEnd ended are.last) none are.end in
    let all : parts ≡ map Whole brought.frames = are.all ∙ (ap (λ (ps : List Part). map Whole brought.frames ++ ps) end ∙ append-nil (map Whole brought.frames)) in
    (shows (omega (arith, few, ap length all))).lines ∙ ap (λ (ps : List Part). old ++ shown_parts channel.direction channel.conn brought.before ps) (sym all)

-- and the line of the header behind them
pub put_header : (channel : Channel) (brought : Brought) (old middle new : List ℕ) (count sequence : ℕ) → brought.ended ≡ true → ShowsParts channel brought.before (map Whole brought.frames) old middle count → (count + 1 < 2 ^ 64 → sequence ≡ count + 1) → new ≡ middle ++ shown_line channel.direction channel.conn sequence (codes "Oversize") → PutsParts channel brought old new
put_header channel brought old middle new count sequence much shows counts line = λ parts are few.
    let end : IsEnd true are.last = subst (λ (ended : Bool). IsEnd ended are.last) much are.end in
    let frames : List Part = map Whole brought.frames in
    let header : List Part = TooMuch end.0 ∷ [] in
    let all : parts ≡ frames ++ header = are.all ∙ ap (λ (ps : List Part). frames ++ ps) end.1 in
    let numbers = length-append frames header in
    let adds = shows (omega (arith, few, ap length all, numbers)) in
    let next : sequence ≡ brought.before + length frames + 1 = counts (omega (arith, adds.count, few, ap length all, numbers)) ∙ ap (λ (n : ℕ). n + 1) adds.count in
    let last : shown_line channel.direction channel.conn sequence (codes "Oversize") ≡ shown_parts channel.direction channel.conn (brought.before + length frames) header = ap (λ (n : ℕ). shown_line channel.direction channel.conn n (codes "Oversize")) next ∙ sym (append-nil (shown_line channel.direction channel.conn (brought.before + length frames + 1) (codes "Oversize"))) in
    line ∙ ap (λ (front : List ℕ). front ++ shown_line channel.direction channel.conn sequence (codes "Oversize")) adds.lines
    ∙ append_assoc old (shown_parts channel.direction channel.conn brought.before frames) (shown_line channel.direction channel.conn sequence (codes "Oversize"))
    ∙ ap (λ (tail : List ℕ). old ++ (shown_parts channel.direction channel.conn brought.before frames ++ tail)) last
    ∙ ap (λ (lines : List ℕ). old ++ lines) (sym (shown_parts-append channel brought.before frames header))
    ∙ ap (λ (ps : List Part). old ++ shown_parts channel.direction channel.conn brought.before ps) (sym all)

same_start : (channel : Channel) (parts : List Part) (one other : ℕ) → (1 ≤ length parts → one ≡ other) → shown_parts channel.direction channel.conn one parts ≡ shown_parts channel.direction channel.conn other parts
same_start channel [] one other same = refl
same_start channel (part ∷ parts) one other same = ap (λ (n : ℕ). shown_parts channel.direction channel.conn n (part ∷ parts)) (same (omega arith))

-- the lines of all that a piece brought were added
pub put_brought : (channel : Channel) (stream piece : List ℕ) (brought : Brought) (old new : List ℕ) → Brings stream piece brought → length (stream ++ piece) < 2 ^ 64 → PutsParts channel brought old new → new ≡ old ++ shown_piece channel.direction channel.conn stream piece
put_brought channel stream piece brought old new brings small puts =
    puts (new_parts stream piece) brings.parts (brings.fits small)
    ∙ ap (λ (lines : List ℕ). old ++ lines) (same_start channel (new_parts stream piece) brought.before (length (parts_of stream)) (brings.before small))
