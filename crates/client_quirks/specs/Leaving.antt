-- Clients that leave too early: what the frames of both parties say of a logout, and which ends are held back.
use Rattle.std.specs.Prelude.{◌≡◌, ℕ, ◌+◌, ◌-◌, ◌==◌, ◌||◌, nat_le, Bool, true, false, if◌then◌else◌, List, [], ◌∷◌, ◌++◌, length, take, drop, flat_map, slice_index}
use Rattle.std.specs.List.{concat}
use Rattle.ice_framing.specs.declared.cutting.WholeFrame.{WholeFrame}
use Rattle.client_quirks.specs.Sides.{new_frames, held_of, Follows}
use Rattle.frame_speech.specs.Speech.{reading, after, is_said}
use Rattle.frame_speech.specs.declared.speech.Speech.{Speech}
use Rattle.client_quirks.specs.declared.side.Side.{Side}
use Rattle.client_quirks.specs.declared.stage.Stage.{Stage}
use Rattle.client_quirks.specs.declared.stage.Stage.TheVariants.{Free, Asked, Answered, Kept, Released}
use Rattle.client_quirks.specs.declared.keeper.Keeper.{Keeper}

-- ---- what the manager says

-- SaveYourself (XSMP, chapter 10: minor opcode 3): byte 9 says whether it is of a shutdown.
abbrev pub asked_by : WholeFrame → Stage → Stage
asked_by f Kept = Kept
asked_by f Released = Released
asked_by f Free = if slice_index f.bytes 9 == 1 then Asked else Free
asked_by f Asked = if slice_index f.bytes 9 == 1 then Asked else Free
asked_by f Answered = if slice_index f.bytes 9 == 1 then Asked else Free

-- Die, ShutdownCancelled or SaveComplete (minor opcodes 9, 10 and 18): the logout is over for it.
abbrev pub is_last : Speech → WholeFrame → Bool
is_last speech f = is_said speech 9 f || is_said speech 10 f || is_said speech 18 f

abbrev pub over : Stage → Stage
over Free = Free
over Asked = Free
over Answered = Free
over Kept = Released
over Released = Released

abbrev pub told : Speech → Stage → WholeFrame → Stage
told speech stage f = if is_said speech 3 f then asked_by f stage else if is_last speech f then over stage else stage

-- ---- what the client says

-- SaveYourselfDone (minor opcode 8): byte 2 says whether it succeeded.
abbrev pub answered_by : WholeFrame → Stage → Stage
answered_by f Asked = if slice_index f.bytes 2 == 1 then Answered else Free
answered_by f Free = Free
answered_by f Answered = Answered
answered_by f Kept = Kept
answered_by f Released = Released

-- It closes: by ConnectionClosed (minor opcode 11), or by the end of its stream.
abbrev pub closing : Stage → Stage
closing Answered = Kept
closing Free = Free
closing Asked = Asked
closing Kept = Kept
closing Released = Released

-- Its end is held back, though it has answered no logout that runs.
abbrev pub holding : Stage → Stage
holding Free = Answered
holding Asked = Answered
holding Answered = Answered
holding Kept = Kept
holding Released = Released

abbrev pub heard : Speech → Stage → WholeFrame → Stage
heard speech stage f = if is_said speech 8 f then answered_by f stage else if is_said speech 11 f then closing stage else stage

-- ---- frames one after another

-- how far a party is understood, and the stage of the logout
pub record Mark : Type 0 where
  pub speech : Speech
  pub stage : Stage

abbrev pub mark : Speech → Stage → Mark
mark speech stage = record { speech = speech; stage = stage }

abbrev pub mark_told : Mark → WholeFrame → Mark
mark_told m f = mark (after m.speech (reading m.speech f)) (told m.speech m.stage f)

abbrev pub mark_heard : Mark → WholeFrame → Mark
mark_heard m f = mark (after m.speech (reading m.speech f)) (heard m.speech m.stage f)

abbrev pub told_behind : Mark → List WholeFrame → Mark
told_behind m [] = m
told_behind m (f ∷ fs) = told_behind (mark_told m f) fs

abbrev pub heard_behind : Mark → List WholeFrame → Mark
heard_behind m [] = m
heard_behind m (f ∷ fs) = heard_behind (mark_heard m f) fs

abbrev pub is_kept : Stage → Bool
is_kept Kept = true
is_kept Free = false
is_kept Asked = false
is_kept Answered = false
is_kept Released = false

-- how many frames stand in front of the one with which the client closes
abbrev pub front_count : Mark → List WholeFrame → ℕ
front_count m [] = 0
front_count m (f ∷ fs) = (if is_kept (mark_heard m f).stage then 0 else 1) + front_count (mark_heard m f) fs

-- ---- what is handed on of a piece

abbrev pub mark_of : Side → Stage → Mark
mark_of side stage = mark side.speech stage

-- behind these bytes that the manager sends
abbrev pub told_by : Keeper → List ℕ → Mark
told_by k bytes = told_behind (mark_of k.sent k.stage) (new_frames k.sent.cutter bytes)

abbrev pub frames_in : Keeper → List ℕ → List WholeFrame
frames_in k piece = new_frames k.came.cutter piece

abbrev pub behind : Keeper → List ℕ → Mark
behind k piece = heard_behind (mark_of k.came k.stage) (frames_in k piece)

-- how many of its bytes stand in front of that with which the client closes
abbrev pub front_in : Keeper → List ℕ → ℕ
front_in k piece = length (flat_map (λ (f : WholeFrame). f.bytes) (take (front_count (mark_of k.came k.stage) (frames_in k piece)) (frames_in k piece))) - held_of k.came.cutter

-- Where the client closes, what stands in front is handed on and the rest held back; and else the piece is handed on as it came.
abbrev pub Passes : Bool → Keeper → List ℕ → List (List ℕ) → Keeper → Type 0
Passes false old piece list new = (list ≡ piece ∷ []) × (new.pieces ≡ old.pieces)
Passes true old piece list new = (concat list ≡ take (front_in old piece) piece) × (concat new.pieces ≡ concat old.pieces ++ drop (front_in old piece) piece)

-- the client is listened to
pub record Listens (old : Keeper) (piece : List ℕ) (list : List (List ℕ)) (new : Keeper) : Type 0 where
  pub stage : new.stage ≡ (behind old piece).stage
  pub speech : new.came.speech ≡ (behind old piece).speech
  pub came : Follows old.came piece new.came
  pub sent : new.sent ≡ old.sent
  pub ended : new.has_ended ≡ old.has_ended
  pub passes : Passes (is_kept (behind old piece).stage) old piece list new

-- Both streams are understood as before, and the end is held back where it was.
pub record StaysAside (old new : Keeper) : Type 0 where
  pub came : new.came ≡ old.came
  pub sent : new.sent ≡ old.sent
  pub ended : new.has_ended ≡ old.has_ended

-- all that comes is held back
pub record HoldsBack (old : Keeper) (piece : List ℕ) (list : List (List ℕ)) (new : Keeper) : Type 0 where
  pub stage : new.stage ≡ Kept
  pub none : list ≡ []
  pub pieces : new.pieces ≡ old.pieces ++ piece ∷ []
  pub stays : StaysAside old new

-- all that was held back is handed on, and all that comes
pub record GivesUp (old : Keeper) (piece : List ℕ) (list : List (List ℕ)) (new : Keeper) : Type 0 where
  pub stage : new.stage ≡ Released
  pub all : list ≡ old.pieces ++ piece ∷ []
  pub none : new.pieces ≡ []
  pub stays : StaysAside old new

-- 16 pieces are held back at most. A client that sends more counts as one that left as it closed.
abbrev pub KeepsBy : Bool → Keeper → List ℕ → List (List ℕ) → Keeper → Type 0
KeepsBy true old piece list new = GivesUp old piece list new
KeepsBy false old piece list new = HoldsBack old piece list new

abbrev pub Keeps : Keeper → List ℕ → List (List ℕ) → Keeper → Type 0
Keeps old piece list new = KeepsBy (nat_le 16 (length old.pieces)) old piece list new

-- all that comes is handed on
pub record HandsOn (old : Keeper) (piece : List ℕ) (list : List (List ℕ)) (new : Keeper) : Type 0 where
  pub stage : new.stage ≡ Released
  pub all : list ≡ piece ∷ []
  pub pieces : new.pieces ≡ old.pieces
  pub stays : StaysAside old new

abbrev pub HearsAt : Stage → Keeper → List ℕ → List (List ℕ) → Keeper → Type 0
HearsAt Kept old piece list new = Keeps old piece list new
HearsAt Released old piece list new = HandsOn old piece list new
HearsAt Free old piece list new = Listens old piece list new
HearsAt Asked old piece list new = Listens old piece list new
HearsAt Answered old piece list new = Listens old piece list new

-- a piece came on the client's connection, and these pieces were handed on
abbrev pub Hears : Keeper → List ℕ → List (List ℕ) → Keeper → Type 0
Hears old piece list new = HearsAt old.stage old piece list new
