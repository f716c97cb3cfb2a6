-- What is handed on of a connection's pieces, said over all that came and all that was handed on so far.
use Rattle.std.specs.Prelude.{◌≡◌, ◌⊎◌, ◌==◌, ◌-◌, if◌then◌else◌, flat_map, not, Bool, true, false, ℕ, List, [], ◌∷◌, ◌++◌, length, take, drop, Option, Some, None, MatchOption}
use Rattle.std.specs.List.{concat}
use Rattle.ice_framing.specs.Frames.{Standing, frames_of, standing_of, IsOversize}
use Rattle.ice_framing.specs.declared.cutting.WholeFrame.{WholeFrame}
use Rattle.frame_speech.specs.Speech.{speech_behind}
use Rattle.client_quirks.specs.Speech.{are_changed, amended_stream}
use Rattle.frame_speech.specs.declared.speech.Speech.{Speech}
use Rattle.frame_speech.specs.declared.speech.Speech.TheVariants.{Silent, Greeted, Speaks, Lost}
use Rattle.client_quirks.specs.declared.amender.Amender.{Amender}

-- The stream goes on and is understood so far. Nothing is held back between two frames; within one, that part of a frame and what came in the same pieces.
pub record IsOpen (stream : List ℕ) (held : List (List ℕ)) (speech : Speech) (cutter : Standing) : Type 0 where
  pub at : cutter ≡ standing_of stream
  pub understood : speech ≡ speech_behind Silent (frames_of stream)
  pub front : List ℕ
  pub parts : concat held ≡ front ++ (standing_of stream).held
  pub prompt : (standing_of stream).held ≡ [] → held ≡ []

-- A header states too much, or something wasn't understood: nothing is held back.
pub record HasEnded (stream : List ℕ) (held : List (List ℕ)) : Type 0 where
  pub cause : IsOversize (standing_of stream) ⊎ (speech_behind Silent (frames_of stream) ≡ Lost)
  pub none : held ≡ []

pub record FollowsBy (came handed held : List (List ℕ)) (speech : Speech) (cutter : Option Standing) : Type 0 where
  -- what was handed on and what is held back are the stream as it is meant
  pub bytes : concat handed ++ concat held ≡ amended_stream (concat came)
  -- Where no frame is changed, they are the pieces as they came.
  pub as_came : are_changed Silent (frames_of (concat came)) ≡ false → handed ++ held ≡ came
  pub stands : MatchOption cutter (HasEnded (concat came) held) (IsOpen (concat came) held speech)

abbrev pub Follows : List (List ℕ) → List (List ℕ) → Amender → Type 0
Follows came handed a = FollowsBy came handed a.held a.speech a.cutter

-- a stream that is lost is cut no more
abbrev pub left_open : Speech → Option Standing → Option Standing
left_open Silent rest = rest
left_open Greeted rest = rest
left_open (Speaks opcode) rest = rest
left_open Lost rest = None

-- it stands within a frame
abbrev pub is_within : Option Standing → Bool
is_within None = false
is_within (Some cutter) = not (length cutter.held == 0)

-- Whatever came and was handed on before, this piece came and these were handed on then.
abbrev pub Takes : Amender → List ℕ → List (List ℕ) → Amender → Type 0
Takes old piece list new = (came handed : List (List ℕ)) → Follows came handed old → Follows (came ++ piece ∷ []) (handed ++ list) new

-- All that came was handed on, as it is meant; and where no frame is changed, as it came.
pub record HandedAll (came handed : List (List ℕ)) : Type 0 where
  pub bytes : concat handed ≡ amended_stream (concat came)
  pub as_came : are_changed Silent (frames_of (concat came)) ≡ false → handed ≡ came

abbrev pub Ends : Amender → List (List ℕ) → Type 0
Ends old list = (came handed : List (List ℕ)) → Follows came handed old → HandedAll came (handed ++ list)

-- ---- one piece

-- pieces that are handed on between frames, and held back within one
abbrev pub between : Bool → List (List ℕ) → List (List ℕ)
between within pieces = if within then [] else pieces

abbrev pub held_within : Bool → List (List ℕ) → List (List ℕ)
held_within within pieces = if within then pieces else []

-- Behind the front, which is without the last bytes of what was held back, so many bytes are spelled anew. What is behind them is held back, where the stream stands within a frame, and else handed on.
abbrev pub Leaves : Bool → List ℕ → List ℕ → List (List ℕ) → List (List ℕ) → Type 0
Leaves true handed left list held = (concat list ≡ handed) × (concat held ≡ left)
Leaves false handed left list held = (concat list ≡ handed ++ left) × (held ≡ [])

abbrev pub Rewrites : ℕ → List ℕ → List ℕ → ℕ → List ℕ → Bool → List (List ℕ) → List (List ℕ) → Type 0
Rewrites before back piece count anew within list held =
    Leaves within (take (length back - before) (back ++ piece) ++ anew) (drop count (drop (length back - before) (back ++ piece))) list held

-- the same of what an amender holds back, and of these frames of it and the piece
abbrev pub RewritesFrames : ℕ → List ℕ → List WholeFrame → List ℕ → Amender → List (List ℕ) → Amender → Type 0
RewritesFrames before piece frames anew old list new =
    Rewrites before (concat old.held) piece (length (flat_map (λ (frame : WholeFrame). frame.bytes) frames)) anew (is_within old.cutter) list new.held
