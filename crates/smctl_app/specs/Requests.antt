-- What words ask of the manager.
use Rattle.std.specs.Prelude.{◌≡◌, ◌≢◌, ℕ, List, [], ◌∷◌, ◌++◌, Option, Some, None, codes}
use Rattle.std.specs.List.{join_by}
use Rattle.sm_world.specs.declared.events.Order.{Order}
use Rattle.control_lines.specs.Orders.{SaysOrder}
use Rattle.smctl_app.specs.declared.fault.Fault.{Fault}
use Rattle.smctl_app.specs.declared.fault.Fault.TheVariants.{BadWords, NoControl, Unordered, Cancelled, Link, Gone, Unreadable, Console, NoMemory}
use Rattle.smctl_app.specs.declared.request.Task.{Task}
use Rattle.smctl_app.specs.declared.request.Task.TheVariants.{Order as Ordered, Table, Plain, Logout}

-- the words with one space between each two
abbrev pub spaced : List (List ℕ) → List ℕ
spaced words = join_by (λ (word : List ℕ). word) (codes " ") words

-- The words name this control socket, the one behind `--control` at the front, or none, and then these words follow.
abbrev pub Names : List (List ℕ) → Option (List ℕ) → List (List ℕ) → Type 0
Names words (Some path) others = words ≡ codes "--control" ∷ path ∷ others
Names words None others = (others ≡ words) × ((path : List ℕ) (more : List (List ℕ)) → words ≢ codes "--control" ∷ path ∷ more)

-- The words say an order, and this is its line: the words with one space between each two, and a newline (10).
pub record IsOrderLine (words : List (List ℕ)) (line : List ℕ) : Type 0 where
  pub order : Order
  pub says : SaysOrder (spaced words) order
  pub line_is : line ≡ spaced words ++ 10 ∷ []

-- Why there is no line: the words say no order. Want of memory has no cause in them.
abbrev pub IsNoOrder : List (List ℕ) → Fault → Type 0
IsNoOrder words BadWords = (order : Order) → ¬ (SaysOrder (spaced words) order)
IsNoOrder words NoControl = ⊥
IsNoOrder words Unordered = ⊥
IsNoOrder words Cancelled = ⊥
IsNoOrder words Link = ⊥
IsNoOrder words Gone = ⊥
IsNoOrder words Unreadable = ⊥
IsNoOrder words Console = ⊥
IsNoOrder words NoMemory = Unit {0}

-- ---- what is asked besides orders: who is there, as a table or as plain lines, and a logout whose end is waited for

abbrev pub table_words : List (List ℕ)
table_words = codes "clients" ∷ []

abbrev pub plain_words : List (List ℕ)
plain_words = codes "clients" ∷ codes "--plain" ∷ []

abbrev pub logout_words : List (List ℕ)
logout_words = codes "shutdown" ∷ codes "--wait" ∷ []

abbrev pub SaysTask : List (List ℕ) → Task → Type 0
SaysTask words (Ordered line) = IsOrderLine words line
SaysTask words Table = words ≡ table_words
SaysTask words Plain = words ≡ plain_words
SaysTask words Logout = words ≡ logout_words

-- Why there is nothing to do: the words say none of these and no order.
pub record IsNoTask (words : List (List ℕ)) (fault : Fault) : Type 0 where
  pub no_table : words ≢ table_words
  pub no_plain : words ≢ plain_words
  pub no_logout : words ≢ logout_words
  pub no_order : IsNoOrder words fault

-- The words name this socket, or none, and the words behind ask for this.
pub record Asks (words : List (List ℕ)) (control : Option (List ℕ)) (task : Task) : Type 0 where
  pub others : List (List ℕ)
  pub names : Names words control others
  pub says : SaysTask others task

-- Nothing is asked: the words behind the socket that is named, or all words where none is, ask for none of it.
pub record AsksNothing (words : List (List ℕ)) (fault : Fault) : Type 0 where
  pub control : Option (List ℕ)
  pub others : List (List ℕ)
  pub names : Names words control others
  pub none : IsNoTask others fault

-- The words ask something, and name no control socket.
pub record NamesNoSocket (words : List (List ℕ)) : Type 0 where
  pub task : Task
  pub asks : Asks words None task

-- The words ask for a logout whose end is waited for.
pub record AsksLogout (words : List (List ℕ)) : Type 0 where
  pub control : Option (List ℕ)
  pub asks : Asks words control Logout

-- The environment names no control socket.
abbrev pub IsUnnamed : Fault → Type 0
IsUnnamed BadWords = ⊥
IsUnnamed NoControl = Unit {0}
IsUnnamed Unordered = ⊥
IsUnnamed Cancelled = ⊥
IsUnnamed Link = ⊥
IsUnnamed Gone = ⊥
IsUnnamed Unreadable = ⊥
IsUnnamed Console = ⊥
IsUnnamed NoMemory = Unit {0}

-- The manager, the console or memory was wanting.
abbrev pub IsOutside : Fault → Type 0
IsOutside BadWords = ⊥
IsOutside NoControl = ⊥
IsOutside Unordered = ⊥
IsOutside Cancelled = ⊥
IsOutside Link = Unit {0}
IsOutside Gone = Unit {0}
IsOutside Unreadable = Unit {0}
IsOutside Console = Unit {0}
IsOutside NoMemory = Unit {0}

-- The same, or there is no logout whose end could come.
abbrev pub IsOfLogout : Fault → Type 0
IsOfLogout BadWords = ⊥
IsOfLogout NoControl = ⊥
IsOfLogout fault = Unit {0}

-- Why a task that is asked for isn't done.
abbrev pub IsOfTask : Task → Fault → Type 0
IsOfTask (Ordered line) fault = IsOutside fault
IsOfTask Table fault = IsOutside fault
IsOfTask Plain fault = IsOutside fault
IsOfTask Logout fault = IsOfLogout fault

-- Why there is no answer to these words, by what they ask for: they ask for nothing, or for something and name no socket;
-- or they ask for a logout, which wasn't ordered then, or was cancelled. Whether the manager, the console or memory was
-- wanting is no matter of words.
abbrev pub IsRefused : List (List ℕ) → Fault → Type 0
IsRefused words BadWords = AsksNothing words BadWords
IsRefused words NoControl = NamesNoSocket words
IsRefused words Unordered = AsksLogout words
IsRefused words Cancelled = AsksLogout words
IsRefused words Link = Unit {0}
IsRefused words Gone = Unit {0}
IsRefused words Unreadable = Unit {0}
IsRefused words Console = Unit {0}
IsRefused words NoMemory = Unit {0}
