-- What is handed on of each party's pieces where a client's answers may come late.
use Rattle.std.specs.Prelude.{◌≡◌, ℕ, ◌&&◌, ◌||◌, Bool, true, false, List, [], ◌∷◌}
use Rattle.std.specs.List.{concat}
use Rattle.ice_values.specs.declared.numbers.Endian.{Endian}
use Rattle.ice_framing.specs.declared.cutting.WholeFrame.{WholeFrame}
use Rattle.frame_speech.specs.Speech.{speech_behind}
use Rattle.frame_speech.specs.Settings.{may_turn}
use Rattle.frame_speech.specs.Passing.{may_say}
use Rattle.frame_speech.specs.declared.speech.Speech.{Speech}
use Rattle.late_answers.specs.Late.{closed, passed, waits}
use Rattle.late_answers.specs.declared.late.Late.{Late}
use Rattle.client_quirks.specs.Sides.{new_frames, is_between, Follows}
use Rattle.client_quirks.specs.Exchange.{Exchanged, is_about, is_reply, tongue, word_bytes, heard_all, told_all}
use Rattle.client_quirks.specs.declared.tongue.Tongue.{Tongue}
use Rattle.client_quirks.specs.declared.answerer.Answerer.{Answerer}

-- the order that a stream's first frame states for all
abbrev pub order_by : Endian → List WholeFrame → Endian
order_by order [] = order
order_by order (f ∷ fs) = f.endian

abbrev pub client_of : Answerer → Tongue
client_of a = tongue a.came.speech a.came_order

abbrev pub manager_of : Answerer → Tongue
manager_of a = tongue a.sent.speech a.sent_order

abbrev pub heard_by : Answerer → List ℕ → Exchanged
heard_by a piece = heard_all (manager_of a) a.came.speech a.late (new_frames a.came.cutter piece)

abbrev pub told_by : Answerer → List ℕ → Exchanged
told_by a bytes = told_all (client_of a) a.sent.speech a.late (new_frames a.sent.cutter bytes)

-- ---- a piece of the client's

-- by frames that are cut already
pub record HearsFrames (old : Answerer) (piece : List ℕ) (frames : List WholeFrame) (list : List (List ℕ)) (going : List ℕ) (new : Answerer) : Type 0 where
  pub handed : concat list ≡ (heard_all (manager_of old) old.came.speech old.late frames).handed
  pub as_came : (heard_all (manager_of old) old.came.speech old.late frames).handed ≡ piece → list ≡ piece ∷ []
  pub goes_out : going ≡ (heard_all (manager_of old) old.came.speech old.late frames).going
  pub late : new.late ≡ (heard_all (manager_of old) old.came.speech old.late frames).late
  pub speech : new.came.speech ≡ speech_behind old.came.speech frames
  pub cutter : new.came.cutter ≡ old.came.cutter
  pub order : new.came_order ≡ order_by old.came_order frames
  pub sent : new.sent ≡ old.sent
  pub sent_order : new.sent_order ≡ old.sent_order
  pub follows : new.follows ≡ old.follows

-- Of whole frames each is handed on or taken away, and a word that is said in the client's place stands between two of them. Where that is the piece, it is handed on as it came.
pub record HearsWhole (old : Answerer) (piece : List ℕ) (list : List (List ℕ)) (going : List ℕ) (new : Answerer) : Type 0 where
  pub handed : concat list ≡ (heard_by old piece).handed
  pub as_came : (heard_by old piece).handed ≡ piece → list ≡ piece ∷ []
  pub goes_out : going ≡ (heard_by old piece).going
  pub late : new.late ≡ (heard_by old piece).late
  pub came : Follows old.came piece new.came
  pub sent : new.sent ≡ old.sent
  pub sent_order : new.sent_order ≡ old.sent_order
  pub follows : new.follows ≡ true

-- it is handed on as it came, and nothing goes out
pub record HandsOn (old : Answerer) (piece : List ℕ) (list : List (List ℕ)) (going : List ℕ) (new : Answerer) : Type 0 where
  pub all : list ≡ piece ∷ []
  pub none : going ≡ []
  pub late : new.late ≡ old.late
  pub follows : new.follows ≡ false

-- A piece that isn't whole frames ends it: from then on all is handed on as it comes.
abbrev pub HearsBy : Bool → Answerer → List ℕ → List (List ℕ) → List ℕ → Answerer → Type 0
HearsBy true old piece list going new = HearsWhole old piece list going new
HearsBy false old piece list going new = HandsOn old piece list going new

abbrev pub Hears : Answerer → List ℕ → List (List ℕ) → List ℕ → Answerer → Type 0
Hears old piece list going new = HearsBy (old.follows && is_between old.came.cutter && is_between new.came.cutter) old piece list going new

-- a piece was heard so, and the order that the client's frames state is known
pub record HearsPiece (old : Answerer) (piece : List ℕ) (list : List (List ℕ)) (going : List ℕ) (new : Answerer) : Type 0 where
  pub hears : Hears old piece list going new
  pub order : (old.follows && is_between old.came.cutter && is_between new.came.cutter) ≡ true → new.came_order ≡ order_by old.came_order (new_frames old.came.cutter piece)

-- ---- what the manager sends

-- by frames that are cut already
pub record TellsFrames (old : Answerer) (frames : List WholeFrame) (list : List (List ℕ)) (going : List ℕ) (new : Answerer) : Type 0 where
  pub handed : concat list ≡ (told_all (client_of old) old.sent.speech old.late frames).handed
  pub goes_out : going ≡ (told_all (client_of old) old.sent.speech old.late frames).going
  pub late : new.late ≡ (told_all (client_of old) old.sent.speech old.late frames).late
  pub speech : new.sent.speech ≡ speech_behind old.sent.speech frames
  pub cutter : new.sent.cutter ≡ old.sent.cutter
  pub order : new.sent_order ≡ order_by old.sent_order frames
  pub came : new.came ≡ old.came
  pub came_order : new.came_order ≡ old.came_order
  pub follows : new.follows ≡ old.follows

-- Of whole frames each goes out, behind a Ping or not, or is kept back, and the manager may hear a word in the client's place.
pub record TellsWhole (old : Answerer) (bytes : List ℕ) (list : List (List ℕ)) (going : List ℕ) (new : Answerer) : Type 0 where
  pub handed : concat list ≡ (told_by old bytes).handed
  pub goes_out : going ≡ (told_by old bytes).going
  pub late : new.late ≡ (told_by old bytes).late
  pub sent : Follows old.sent bytes new.sent
  pub came : new.came ≡ old.came
  pub came_order : new.came_order ≡ old.came_order
  pub follows : new.follows ≡ true

-- it goes out as it came, and the manager hears nothing
pub record SendsOn (old : Answerer) (bytes : List ℕ) (list : List (List ℕ)) (going : List ℕ) (new : Answerer) : Type 0 where
  pub none : list ≡ []
  pub all : going ≡ bytes
  pub late : new.late ≡ old.late
  pub follows : new.follows ≡ false

abbrev pub TellsBy : Bool → Answerer → List ℕ → List (List ℕ) → List ℕ → Answerer → Type 0
TellsBy true old bytes list going new = TellsWhole old bytes list going new
TellsBy false old bytes list going new = SendsOn old bytes list going new

abbrev pub Tells : Answerer → List ℕ → List (List ℕ) → List ℕ → Answerer → Type 0
Tells old bytes list going new = TellsBy (old.follows && is_between old.sent.cutter && is_between new.sent.cutter) old bytes list going new

-- these bytes were told so, and the order that the manager's frames state is known
pub record TellsBytes (old : Answerer) (bytes : List ℕ) (list : List (List ℕ)) (going : List ℕ) (new : Answerer) : Type 0 where
  pub tells : Tells old bytes list going new
  pub order : (old.follows && is_between old.sent.cutter && is_between new.sent.cutter) ≡ true → new.sent_order ≡ order_by old.sent_order (new_frames old.sent.cutter bytes)

-- ---- time

-- the word that the manager hears in the client's place as so many milliseconds pass
abbrev pub passes_by : Bool → ℕ → Answerer → List ℕ
passes_by true milliseconds a = word_bytes (client_of a) (passed milliseconds a.late).word
passes_by false milliseconds a = []

-- Time alone may bring something for a client that is followed: it owes an answer for which the manager waits, or may leave as if its logout weren't called off.
abbrev pub waits_by : Answerer → Bool
waits_by a = a.follows && waits a.late

abbrev pub late_by : Bool → ℕ → Answerer → Late
late_by true milliseconds a = (passed milliseconds a.late).late
late_by false milliseconds a = a.late

-- ---- the end of the client's stream

abbrev pub ended_by : Bool → Answerer → Late
ended_by true a = closed a.late
ended_by false a = a.late

-- ---- frames that are passed over

-- a frame of the client's that is looked at or may answer a Ping, or change how its sender is understood
abbrev pub may_answer_late : Bool → Bool → Speech → WholeFrame → Bool
may_answer_late calm pinged speech f = may_turn speech f || (is_about calm speech f.bytes || pinged && is_reply speech f.bytes)

abbrev pub AnswersNothingLate : Bool → Bool → Speech → WholeFrame → Type 0
AnswersNothingLate calm pinged speech f = may_answer_late calm pinged speech f ≡ false

abbrev pub may_order : Bool → Speech → WholeFrame → Bool
may_order calm speech f = may_say speech f || is_about calm speech f.bytes

abbrev pub OrdersNothing : Bool → Speech → WholeFrame → Type 0
OrdersNothing calm speech f = may_order calm speech f ≡ false
