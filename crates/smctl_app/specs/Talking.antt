-- What is sent to the manager for a task, and when a logout that is waited for counts as cancelled.
use Rattle.std.specs.Prelude.{◌≡◌, ◌⊎◌, ◌||◌, not, ℕ, Bool, true, false, List, [], ◌∷◌, ◌++◌, codes, Option, Some, None, Result, Ok, Err}
use Rattle.std.specs.List.{AllByRecursion}
use Rattle.program_frame.specs.Printing.{line}
use Rattle.smctl_app.specs.declared.fault.Fault.{Fault}
use Rattle.smctl_app.specs.declared.fault.Fault.TheVariants.{Cancelled}
use Rattle.smctl_app.specs.declared.request.Task.{Task}
use Rattle.smctl_app.specs.declared.request.Task.TheVariants.{Order as Ordered, Table, Plain, Logout}
use Rattle.smctl_app.specs.declared.waiting.Course.{Course}
use Rattle.smctl_app.specs.declared.waiting.Course.TheVariants.{Idle, Saving, Leaving}
use Rattle.smctl_app.specs.declared.waiting.Glance.{Glance}
use Rattle.smctl_app.specs.declared.control.Look.{Look}

-- these stand behind the others, where it is told what there is
abbrev pub more : {A : Type 0} → Option (List A) → List A → Option (List A)
more None items = None
more (Some told) items = Some (told ++ items)

-- Some list was added, and it is such that P holds. Where it is told what there is, it is the list that came there.
pub record Adds {A : Type 0} (old new : Option (List A)) (P : List A → Type 0) : Type 0 where
  pub items : List A
  pub added : new ≡ more old items
  pub holds : P items

-- ---- what is sent

abbrev pub clients_line : List ℕ
clients_line = line (codes "clients")

abbrev pub status_line : List ℕ
status_line = line (codes "status")

abbrev pub shutdown_line : List ℕ
shutdown_line = line (codes "shutdown")

-- a line that only asks
abbrev pub IsQuestion : List ℕ → Type 0
IsQuestion asked = (asked ≡ clients_line) ⊎ (asked ≡ status_line)

abbrev pub AreQuestions : List (List ℕ) → Type 0
AreQuestions lines = AllByRecursion IsQuestion lines

-- what a call that says this line has sent: at a fault it may have sent nothing
abbrev pub of_line : {A E : Type 0} → List ℕ → Result A E → List (List ℕ)
of_line said (Ok x) = said ∷ []
of_line said (Err e) = []

-- This line was sent and nothing else, or at a fault nothing.
abbrev pub SendsOne : {A E : Type 0} → List ℕ → Result A E → List (List ℕ) → Type 0
SendsOne said (Ok x) lines = lines ≡ said ∷ []
SendsOne said (Err e) lines = (lines ≡ []) ⊎ (lines ≡ said ∷ [])

-- A logout was ordered, and behind that it was only asked.
pub record OrdersLogout (lines : List (List ℕ)) : Type 0 where
  pub asked : List (List ℕ)
  pub parts : lines ≡ shutdown_line ∷ asked
  pub only : AreQuestions asked

abbrev pub SendsLogout : {A E : Type 0} → Result A E → List (List ℕ) → Type 0
SendsLogout (Ok x) lines = OrdersLogout lines
SendsLogout (Err e) lines = (lines ≡ []) ⊎ OrdersLogout lines

-- What is sent for a task: its order, the question who is there, or the order of a logout and questions behind it.
abbrev pub SendsFor : {A E : Type 0} → Task → Result A E → List (List ℕ) → Type 0
SendsFor (Ordered said) result lines = SendsOne said result lines
SendsFor Table result lines = SendsOne clients_line result lines
SendsFor Plain result lines = SendsOne clients_line result lines
SendsFor Logout result lines = SendsLogout result lines

-- ---- what is seen of a logout

-- what a look that succeeds has seen
abbrev pub of_look : {E : Type 0} → Result Look E → List Glance
of_look (Ok look) = look.glance ∷ []
of_look (Err e) = []

abbrev pub is_leaving : Course → Bool
is_leaving Idle = false
is_leaving Saving = false
is_leaving Leaving = true

-- Whether a logout that was ordered is over, where it was seen to run before or not, and somebody may have to be waited for or not:
-- one that ran and runs no more, and one that doesn't wait for its begin.
abbrev pub is_over : Bool → Bool → Course → Bool
is_over has_run is_awaited Idle = has_run || not is_awaited
is_over has_run is_awaited Saving = has_run
is_over has_run is_awaited Leaving = false

-- One of these looks shows so, of a logout that was seen to run before them or not.
abbrev pub shows_over : Bool → List Glance → Bool
shows_over has_run [] = false
shows_over has_run (glance ∷ glances) = is_over has_run glance.is_awaited glance.course || shows_over (has_run || is_leaving glance.course) glances

-- Whether the answer is that the logout was cancelled.
abbrev pub is_cancellation : {A : Type 0} → Result A Fault → Bool
is_cancellation (Ok x) = false
is_cancellation (Err Cancelled) = true
is_cancellation (Err fault) = false

-- Where no fault cut it short, that the logout was cancelled is answered exactly where one of the looks shows so.
abbrev pub TellsEnd : {A : Type 0} → Result A Fault → List Glance → Type 0
TellsEnd (Ok x) glances = shows_over false glances ≡ false
TellsEnd (Err Cancelled) glances = shows_over false glances ≡ true
TellsEnd (Err fault) glances = Unit {0}
