-- Connections on which nothing is late, no logout runs and nothing is held back.
use Rattle.std.specs.Prelude.{◌≡◌, ℕ, ◌||◌, nat_lt, Bool, true, false, List, [], ◌∷◌, Some}
use Rattle.ice_framing.specs.declared.cutting.WholeFrame.{WholeFrame}
use Rattle.frame_speech.specs.Passing.{from}
use Rattle.frame_speech.specs.declared.speech.Speech.{Speech}
use Rattle.late_answers.specs.Late.{is_calm}
use Rattle.client_quirks.specs.Amending.{Takes}
use Rattle.client_quirks.specs.Answering.{Hears, Tells}
use Rattle.client_quirks.specs.Exchange.{is_about}
use Rattle.client_quirks.specs.Heeding.{may_mean}
use Rattle.client_quirks.specs.Leaving.{mark_of, told_by, Hears as KeeperHears}
use Rattle.client_quirks.specs.Sides.{Follows}
use Rattle.client_quirks.specs.declared.amender.Amender.{Amender}
use Rattle.client_quirks.specs.declared.answerer.Answerer.{Answerer}
use Rattle.client_quirks.specs.declared.keeper.Keeper.{Keeper}
use Rattle.client_quirks.specs.declared.quiet.Quiet.{Quiet}
use Rattle.client_quirks.specs.declared.stage.Stage.TheVariants.{Free}

-- a client's frame that may stir somebody up there: it may be handed on otherwise than it came or change how the client is understood, or is looked at
abbrev pub stirs : Speech → WholeFrame → Bool
stirs speech f = may_mean speech f || is_about true speech f.bytes

abbrev pub StirsNothing : Speech → WholeFrame → Type 0
StirsNothing speech f = stirs speech f ≡ false

-- The client is followed, nothing of it is late, and it owes nothing to a logout. All understand both parties so, and stand between two of their frames.
pub record IsQuiet (quiet : Quiet) (a : Amender) (k : Answerer) (e : Keeper) : Type 0 where
  pub follows : k.follows ≡ true
  pub calm : is_calm k.late ≡ true
  pub unpinged : nat_lt 0 k.late.pings ≡ false
  pub free : e.stage ≡ Free
  pub meant : a.speech ≡ quiet.came.speech
  pub meant_stands : a.cutter ≡ Some (from quiet.came.order [])
  pub came : k.came.speech ≡ quiet.came.speech
  pub came_stands : k.came.cutter ≡ Some (from quiet.came.order [])
  pub heard : e.came.speech ≡ quiet.came.speech
  pub heard_stands : e.came.cutter ≡ Some (from quiet.came.order [])
  pub sent : k.sent.speech ≡ quiet.sent.speech
  pub sent_stands : k.sent.cutter ≡ Some (from quiet.sent.order [])
  pub told : e.sent.speech ≡ quiet.sent.speech
  pub told_stands : e.sent.cutter ≡ Some (from quiet.sent.order [])

-- A client's piece is handed on by all as it came, nothing goes out, and all is as it was.
pub record PassesAll (a : Amender) (k : Answerer) (e : Keeper) (piece : List ℕ) : Type 0 where
  pub takes : Takes a piece (piece ∷ []) a
  pub hears : Hears k piece (piece ∷ []) [] k
  pub keeps : KeeperHears e piece (piece ∷ []) e

-- What the manager sends goes out as it is, it hears nothing, and all is as it was.
pub record GoesOut (k : Answerer) (e : Keeper) (bytes : List ℕ) : Type 0 where
  pub tells : Tells k bytes [] bytes k
  pub told_is : told_by e bytes ≡ mark_of e.sent e.stage
  pub sent : Follows e.sent bytes e.sent
