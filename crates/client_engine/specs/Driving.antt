-- A client's keeper over a whole stream: what it does about each part that comes.
use Rattle.std.specs.Prelude.{◌≡◌, ℕ, false, List, [], ◌∷◌, ◌++◌, length, map, drop}
use Rattle.ice_framing.specs.Frames.{Standing, fed, cut}
use Rattle.ice_framing.specs.Parts.{Part, parts_at}
use Rattle.client_engine.specs.Hearing.{part_heard, saying}
use Rattle.client_engine.specs.Places.{is_listening}
use Rattle.client_engine.specs.declared.hearing.Cue.{Cue}
use Rattle.client_engine.specs.declared.hearing.Heard.{Heard}
use Rattle.protocol_messages.specs.declared.message.Message.{Message}
use Rattle.client_engine.specs.declared.place.Talk.{Talk}

-- What is done, each thing an E, and what the keeper is then.
pub record Step (K E : Type 0) : Type 0 where
  pub line : List E
  pub next : K

abbrev pub behind : {K E : Type 0} → List E → Step K E → Step K E
behind line step = record { line = line ++ step.line; next = step.next }

-- nothing is done
abbrev pub stays : {K E : Type 0} → K → Step K E
stays keeper = record { line = []; next = keeper }

-- The client says what it says by itself, each message an entry, and then the cue is heeded.
abbrev pub heeding : {K R E : Type 0} → (Message → E) → (K → R → Cue → Step K E) → List Message → K → Cue → R → Step K E
heeding says cued said keeper cue r = behind (map says said) (cued keeper r cue)

-- So a keeper reacts to what a part brings, which has the client stand elsewhere.
abbrev pub reacting : {K R E : Type 0} → (Talk → K → K) → (Message → E) → (K → R → Cue → Step K E) → K → Heard → R → Step K E
reacting stand_at says cued keeper heard r = heeding says cued heard.said (stand_at heard.next keeper) heard.cue r

-- How far a run is: where the stream stands behind the parts that were taken, and what the keeper is.
pub record Run (K : Type 0) : Type 0 where
  pub standing : Standing
  pub keeper : K

-- the stream stands there then
abbrev pub standing_at : {K E : Type 0} → Standing → Step K E → Step (Run K) E
standing_at standing step = record { line = step.line; next = record { standing = standing; keeper = step.next } }

-- what one piece brings and then another
abbrev pub both : {K E : Type 0} → Step K E → Step K E → Step K E
both first second = record { line = first.line ++ second.line; next = second.next }

-- A keeper has a talk, and reacts to what a part brings. An R is what comes to it from without at a part; where no more is
-- said of that, it is `unasked`.
module _ {K R E : Type 0} (unasked : R) (talk_of : K → Talk) (reacts : K → Heard → R → Step K E) where
  abbrev pub reply : List R → R
  reply [] = unasked
  reply (r ∷ rs) = r

  abbrev pub part_taken : K → Part → R → Step K E
  part_taken keeper part r = reacts keeper (part_heard (talk_of keeper) part) r

  -- parts one by one, with what comes to the keeper at each
  abbrev pub parts_taken : K → List Part → List R → Step K E
  parts_taken keeper [] rs = stays keeper
  parts_taken keeper (part ∷ parts) rs = behind (part_taken keeper part (reply rs)).line (parts_taken (part_taken keeper part (reply rs)).next parts (drop 1 rs))

  -- the parts that a piece completes are taken
  abbrev pub piece_taken : Run K → List ℕ → List R → Step (Run K) E
  piece_taken run bytes rs = standing_at (cut (fed run.standing bytes)).standing (parts_taken run.keeper (parts_at (fed run.standing bytes)) rs)

  -- One who takes nothing does nothing, and one who has stopped stays so.
  pub record StaysStopped : Type 0 where
    pub still : (keeper : K) (r : R) → is_listening (talk_of keeper).place ≡ false → reacts keeper (saying [] (talk_of keeper).counts (talk_of keeper).place) r ≡ stays keeper
    pub stops : (keeper : K) (heard : Heard) (r : R) → is_listening heard.next.place ≡ false → is_listening (talk_of (reacts keeper heard r).next).place ≡ false

  -- One who takes nothing does nothing, whatever comes.
  abbrev pub IsStillOnceStopped : Type 0
  IsStillOnceStopped = StaysStopped → (keeper : K) (parts : List Part) (rs : List R) → is_listening (talk_of keeper).place ≡ false → parts_taken keeper parts rs ≡ stays keeper

  -- A piece brings what its two parts bring, one after the other, where the same comes from without at each part of the stream.
  abbrev pub ComesInParts : Type 0
  ComesInParts = StaysStopped → (run : Run K) (xs ys : List ℕ) (rs qs : List R) → length rs ≡ length (parts_at (fed run.standing xs)) → piece_taken run (xs ++ ys) (rs ++ qs) ≡ both (piece_taken run xs rs) (piece_taken (piece_taken run xs rs).next ys qs)
