-- The copies that a run makes of the program's state, each with a number of its own, and what the client tells of them.
use Rattle.std.specs.Prelude.{◌≡◌, ◌≢◌, ◌<◌, ◌^◌, ℕ, true, List, [], ◌∷◌, ◌++◌, Some, None}
use Rattle.std.specs.List.{AllByRecursion, flat_map}
use Rattle.sm_world.specs.Outside.{Outside, adds}
use Rattle.sm_world.specs.declared.effects.Effect.{Effect}
use Rattle.sm_world.specs.declared.effects.Effect.TheVariants.{Published}
use Rattle.xsmp_messages.specs.declared.message.XsmpMessage.{XsmpMessage}
use Rattle.xsmp_messages.specs.declared.message.XsmpMessage.TheVariants.{SaveYourselfDone, SetProperties}
use Rattle.client_engine.specs.Answering.{answer_messages}
use Rattle.protocol_messages.specs.declared.message.Message.{Message}
use Rattle.protocol_messages.specs.declared.message.Message.TheVariants.{Xsmp}
use Rattle.ice_cookie.specs.declared.cookies.Cookie.{Cookie}
use Rattle.named_joiner.specs.Script.{Entry, Replies, Says, AsksSave, AsksReasons}
use Rattle.state_saver.specs.Files.{Holds}
use Rattle.state_saver.specs.Plans.{copy_path, own_properties}
use Rattle.state_saver.specs.declared.plan.SavePlan.{SavePlan}
use Rattle.smwrap_app.specs.Running.{wrap_script}

-- one save that succeeded
pub record Copy : Type 0 where
  pub number : ℕ
  -- the client's ID as it saved
  pub id : List ℕ
  -- what the state's file held
  pub bytes : List ℕ

-- it is published at the path of its number
abbrev pub copied : SavePlan → Copy → Effect
copied plan copy = Published (copy_path plan.state copy.number) copy.bytes

-- ---- what is told of saves

-- what a client sets, and that it has saved
abbrev pub tells : Message → List XsmpMessage
tells (Xsmp (SetProperties list)) = SetProperties list ∷ []
tells (Xsmp (SaveYourselfDone true)) = SaveYourselfDone true ∷ []
tells message = []

-- what the client says of that
abbrev pub said_tells : Entry → List XsmpMessage
said_tells (Says message) = tells message
said_tells (AsksSave ask answer) = []
said_tells (AsksReasons reasons) = []

-- and what its callback answers
abbrev pub asked_tells : Entry → List XsmpMessage
asked_tells (Says message) = []
asked_tells (AsksSave ask None) = []
asked_tells (AsksSave ask (Some answer)) = flat_map tells (answer_messages answer)
asked_tells (AsksReasons reasons) = []

-- A client says of saves what its callback answers, in this order, and nothing else.
abbrev pub TellsWhatItAnswers : Type 0
TellsWhatItAnswers = (cookie : Cookie) (previous : List ℕ) (replies : List Replies) (bytes : List ℕ) → flat_map said_tells (wrap_script cookie previous replies bytes) ≡ flat_map asked_tells (wrap_script cookie previous replies bytes)

-- The properties of a copy, which name its number and its path, and then that it is made.
abbrev pub copy_tells : SavePlan → Copy → List XsmpMessage
copy_tells plan copy = SetProperties (own_properties plan copy.number copy.id) ∷ SaveYourselfDone true ∷ []

-- ---- the copies of a run

-- each number is above the one before it, and the first above this one
abbrev pub Rises : ℕ → List Copy → Type 0
Rises last [] = Unit {0}
Rises last (copy ∷ copies) = (last < copy.number) × Rises copy.number copies

-- no two of them have one path
abbrev pub AreApart : SavePlan → List Copy → Type 0
AreApart plan copies = (front between back : List Copy) (one other : Copy) → front ++ (one ∷ (between ++ (other ∷ back))) ≡ copies → copy_path plan.state one.number ≢ copy_path plan.state other.number

-- each has the bytes that the state's file held as it was made, behind the copies before it
abbrev pub HoldEach : SavePlan → Outside → List Copy → Type 0
HoldEach plan outside [] = Unit {0}
HoldEach plan outside (copy ∷ copies) = Holds outside plan.state copy.bytes × HoldEach plan (record outside { told = adds outside.told (copied plan copy ∷ []) }) copies

-- These copies were made of the state, from files that are so, as the callback was asked in this order. Each answer that says so is
-- that of its own copy, so no command that removes a copy names another one.
pub record MakesCopies (plan : SavePlan) (outside : Outside) (line : List Entry) (copies : List Copy) : Type 0 where
  pub told : flat_map asked_tells line ≡ flat_map (copy_tells plan) copies
  pub rising : Rises plan.from copies
  pub small : AllByRecursion (λ (copy : Copy). copy.number < 2 ^ 32) copies
  pub apart : AreApart plan copies
  pub held : HoldEach plan outside copies

-- Copies whose numbers rise have paths of their own.
abbrev pub CopiesAreApart : Type 0
CopiesAreApart = (plan : SavePlan) (last : ℕ) (copies : List Copy) → Rises last copies → AllByRecursion (λ (copy : Copy). copy.number < 2 ^ 32) copies → AreApart plan copies
