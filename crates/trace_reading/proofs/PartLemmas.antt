-- The lines of parts, one after the other.
use Rattle.std.proofs.Common.{◌≡◌, ℕ, ◌+◌, ◌≤◌, List, [], ◌∷◌, ◌++◌, length, drop, map, Bool, true, false, Option, codes, refl, sym, ◌∙◌, ap, subst, append_assoc}
use Rattle.std.proofs.lemmas.List.{append-nil, drop_all}
use Rattle.ice_framing.specs.Parts.{Part, Whole, TooMuch}
use Rattle.ice_framing.specs.declared.cutting.WholeFrame.{WholeFrame}
use Rattle.trace_replay.specs.Flows.{AreParts, IsEnd}
use Rattle.message_text.specs.declared.words.Writing.TheVariants.{Words}
use Rattle.trace_replay.specs.Frames.{frame_text}
use Rattle.trace_replay.specs.declared.flows.Brought.{Brought}
use Rattle.trace_replay.specs.declared.parts.Direction.TheVariants.{In, Out}
use Rattle.trace_reading.specs.Lines.{came_told, part_told, part_words, went_told}
use Rattle.trace_reading.specs.Programs.{after_frame, after_part, after_parts}
use Rattle.trace_reading.specs.Tellers.{ToldCame}

pub after_parts-append : (known : Option (List ℕ)) (parts more : List Part) → after_parts known (parts ++ more) ≡ after_parts (after_parts known parts) more
after_parts-append known [] more = refl
after_parts-append known (part ∷ parts) more = after_parts-append (after_part known part) parts more

came_told-append : (clock n : ℕ) (known : Option (List ℕ)) (parts more : List Part) → came_told clock n known (parts ++ more) ≡ came_told clock n known parts ++ came_told clock n (after_parts known parts) more
came_told-append clock n known [] more = refl
came_told-append clock n known (part ∷ parts) more =
    let line : List ℕ = part_told clock In n known (part_words part) in
    ap (λ lines. line ++ lines) (came_told-append clock n (after_part known part) parts more)
    ∙ sym (append_assoc line (came_told clock n (after_part known part) parts) (came_told clock n (after_parts (after_part known part) parts) more))

went_told-append : (clock n : ℕ) (known : Option (List ℕ)) (parts more : List Part) → went_told clock n known (parts ++ more) ≡ went_told clock n known parts ++ went_told clock n known more
went_told-append clock n known [] more = refl
went_told-append clock n known (part ∷ parts) more =
    let line : List ℕ = part_told clock Out n known (part_words part) in
    ap (λ lines. line ++ lines) (went_told-append clock n known parts more)
    ∙ sym (append_assoc line (went_told clock n known parts) (went_told clock n known more))

-- In the middle of the frames: the lines so far and those of the frames that are left are all the lines, and so it is with the program.
pub record Coming (clock n : ℕ) (known : Option (List ℕ)) (frames : List WholeFrame) (i : ℕ) (program : Option (List ℕ)) (old now : List ℕ) : Type 0 where
  pub program_is : after_parts program (map Whole (drop i frames)) ≡ after_parts known (map Whole frames)
  pub lines : now ++ came_told clock n program (map Whole (drop i frames)) ≡ old ++ came_told clock n known (map Whole frames)

abbrev pub Going : ℕ → ℕ → Option (List ℕ) → List WholeFrame → ℕ → List ℕ → List ℕ → Type 0
Going clock n known frames i old now = now ++ went_told clock n known (map Whole (drop i frames)) ≡ old ++ went_told clock n known (map Whole frames)

-- one more frame came
pub coming_more : (clock n : ℕ) (known program after : Option (List ℕ)) (frames : List WholeFrame) (i : ℕ) (frame : WholeFrame) (old now new : List ℕ) → Coming clock n known frames i program old now → drop i frames ≡ frame ∷ drop (i + 1) frames → new ≡ now ++ part_told clock In n program (frame_text Words frame) → after ≡ after_frame program frame → Coming clock n known frames (i + 1) after old new
coming_more clock n known program after frames i frame old now new coming first line is =
    let rest : List Part = map Whole (drop (i + 1) frames) in
    let next : Option (List ℕ) = after_frame program frame in
    let own : List ℕ = part_told clock In n program (frame_text Words frame) in
    record {
      program_is = ap (λ p. after_parts p rest) is ∙ (ap (λ (fs : List WholeFrame). after_parts program (map Whole fs)) (sym first) ∙ coming.program_is);
      lines = ap (λ front. front ++ came_told clock n after rest) line
          ∙ (ap (λ p. (now ++ own) ++ came_told clock n p rest) is
          ∙ (append_assoc now own (came_told clock n next rest)
          ∙ (ap (λ (fs : List WholeFrame). now ++ came_told clock n program (map Whole fs)) (sym first) ∙ coming.lines)));
    }

-- one more was sent
pub going_more : (clock n : ℕ) (known : Option (List ℕ)) (frames : List WholeFrame) (i : ℕ) (frame : WholeFrame) (old now new : List ℕ) → Going clock n known frames i old now → drop i frames ≡ frame ∷ drop (i + 1) frames → new ≡ now ++ part_told clock Out n known (frame_text Words frame) → Going clock n known frames (i + 1) old new
going_more clock n known frames i frame old now new going first line =
    let rest : List Part = map Whole (drop (i + 1) frames) in
    let own : List ℕ = part_told clock Out n known (frame_text Words frame) in
    ap (λ front. front ++ went_told clock n known rest) line
    ∙ (append_assoc now own (went_told clock n known rest)
    ∙ (ap (λ (fs : List WholeFrame). now ++ went_told clock n known (map Whole fs)) (sym first) ∙ going))

-- ---- all frames were told

pub coming_none : (clock n : ℕ) (known : Option (List ℕ)) (frames : List WholeFrame) (old : List ℕ) → Coming clock n known frames 0 known old old
coming_none clock n known frames old = record { program_is = refl; lines = refl }

pub coming_all : (clock n : ℕ) (known program : Option (List ℕ)) (frames : List WholeFrame) (i : ℕ) (old new : List ℕ) → Coming clock n known frames i program old new → length frames ≤ i → ToldCame clock n known (map Whole frames) program old new
coming_all clock n known program frames i old new coming all =
    let none : [] ≡ drop i frames = sym (drop_all i frames all) in
    record {
      program = ap (λ (fs : List WholeFrame). after_parts program (map Whole fs)) none ∙ coming.program_is;
      lines = sym (append-nil new) ∙ (ap (λ (fs : List WholeFrame). new ++ came_told clock n program (map Whole fs)) none ∙ coming.lines);
    }

pub going_all : (clock n : ℕ) (known : Option (List ℕ)) (frames : List WholeFrame) (i : ℕ) (old new : List ℕ) → Going clock n known frames i old new → length frames ≤ i → new ≡ old ++ went_told clock n known (map Whole frames)
going_all clock n known frames i old new going all =
    sym (append-nil new) ∙ (ap (λ (fs : List WholeFrame). new ++ went_told clock n known (map Whole fs)) (sym (drop_all i frames all)) ∙ going)

-- ---- all parts were told

-- no header is behind the frames
no_header : (brought : Brought) (parts : List Part) → brought.ended ≡ false → AreParts brought parts → parts ≡ map Whole brought.frames
no_header brought parts none are =
    let end : are.last ≡ [] = subst (λ (ended : Bool). IsEnd ended are.last) none are.end in
    are.all ∙ (ap (λ (ps : List Part). map Whole brought.frames ++ ps) end ∙ append-nil (map Whole brought.frames))

-- or one is
a_header : (brought : Brought) (parts : List Part) → brought.ended ≡ true → AreParts brought parts → (header : List ℕ) × (parts ≡ map Whole brought.frames ++ TooMuch header ∷ [])
a_header brought parts much are =
    let end : IsEnd true are.last = subst (λ (ended : Bool). IsEnd ended are.last) much are.end in
    (end.0, are.all ∙ ap (λ (ps : List Part). map Whole brought.frames ++ ps) end.1)

pub came_frames : (clock n : ℕ) (known program : Option (List ℕ)) (brought : Brought) (old new : List ℕ) → brought.ended ≡ false → ToldCame clock n known (map Whole brought.frames) program old new → (parts : List Part) → AreParts brought parts → ToldCame clock n known parts program old new
came_frames clock n known program brought old new none told = λ parts are.
    subst (λ (ps : List Part). ToldCame clock n known ps program old new) (sym (no_header brought parts none are)) told

pub came_header : (clock n : ℕ) (known program : Option (List ℕ)) (brought : Brought) (old middle new : List ℕ) → brought.ended ≡ true → ToldCame clock n known (map Whole brought.frames) program old middle → new ≡ middle ++ part_told clock In n program (codes "Oversize") → (parts : List Part) → AreParts brought parts → ToldCame clock n known parts program old new
came_header clock n known program brought old middle new much told line = λ parts are.
    let found = a_header brought parts much are in
    let frames : List Part = map Whole brought.frames in
    let header : List Part = TooMuch found.0 ∷ [] in
    let own : List ℕ = part_told clock In n program (codes "Oversize") in
    let last : own ≡ came_told clock n (after_parts known frames) header =
    sym (append-nil own) ∙ ap (λ (p : Option (List ℕ)). came_told clock n p header) told.program in
    record {
      program = told.program ∙ sym (ap (after_parts known) found.1 ∙ after_parts-append known frames header);
      lines = line ∙ (ap (λ (front : List ℕ). front ++ own) told.lines
          ∙ (append_assoc old (came_told clock n known frames) own
          ∙ (ap (λ (tail : List ℕ). old ++ (came_told clock n known frames ++ tail)) last
          ∙ (ap (λ (ls : List ℕ). old ++ ls) (sym (came_told-append clock n known frames header))
          ∙ ap (λ (ps : List Part). old ++ came_told clock n known ps) (sym found.1)))));
    }

pub went_frames : (clock n : ℕ) (known : Option (List ℕ)) (brought : Brought) (old new : List ℕ) → brought.ended ≡ false → new ≡ old ++ went_told clock n known (map Whole brought.frames) → (parts : List Part) → AreParts brought parts → new ≡ old ++ went_told clock n known parts
went_frames clock n known brought old new none lines = λ parts are.
    lines ∙ ap (λ (ps : List Part). old ++ went_told clock n known ps) (sym (no_header brought parts none are))

pub went_header : (clock n : ℕ) (known : Option (List ℕ)) (brought : Brought) (old middle new : List ℕ) → brought.ended ≡ true → middle ≡ old ++ went_told clock n known (map Whole brought.frames) → new ≡ middle ++ part_told clock Out n known (codes "Oversize") → (parts : List Part) → AreParts brought parts → new ≡ old ++ went_told clock n known parts
went_header clock n known brought old middle new much lines line = λ parts are.
    let found = a_header brought parts much are in
    let frames : List Part = map Whole brought.frames in
    let header : List Part = TooMuch found.0 ∷ [] in
    let own : List ℕ = part_told clock Out n known (codes "Oversize") in
    line ∙ (ap (λ (front : List ℕ). front ++ own) lines
    ∙ (append_assoc old (went_told clock n known frames) own
    ∙ (ap (λ (tail : List ℕ). old ++ (went_told clock n known frames ++ tail)) (sym (append-nil own))
    ∙ (ap (λ (ls : List ℕ). old ++ ls) (sym (went_told-append clock n known frames header))
    ∙ ap (λ (ps : List Part). old ++ went_told clock n known ps) (sym found.1)))))
