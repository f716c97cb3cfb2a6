-- What was asked of a display, and what is to be asked of it.
use Rattle.std.specs.Prelude.{ℕ, ◌+◌, ◌-◌, ◌%◌, ◌==◌, nat_le, nat_lt, ◌&&◌, Bool, if◌then◌else◌, List, [], ◌∷◌, ◌++◌, length, take, drop, Option, Some, None}
use Rattle.window_follower.specs.Questions.{has_answer}
use Rattle.window_follower.specs.declared.question.Question.{Question}
use Rattle.window_follower.specs.declared.question.Question.TheVariants.{Mark}

-- what is open, in the order of the questions, the number of its first, and what waits to be asked
pub record Asked : Type 0 where
  pub first : ℕ
  pub unanswered : List Question
  pub waiting : List Question

abbrev pub ask : Question → Asked → Asked
ask question asked = record asked { waiting = asked.waiting ++ question ∷ [] }

abbrev pub ask_all : List Question → Asked → Asked
ask_all questions asked = record asked { waiting = asked.waiting ++ questions }

-- how many questions may be sent before a mark has to be
abbrev pub room : Asked → ℕ
room asked = 65534 - length asked.unanswered

-- so many of those that wait are asked
abbrev pub moved : ℕ → Asked → Asked
moved count asked = record asked { unanswered = asked.unanswered ++ take count asked.waiting; waiting = drop count asked.waiting }

-- more waits than there is room for, and no mark stands behind the others already
abbrev pub wants_mark : Asked → Bool
wants_mark asked = nat_lt (room asked) (length asked.waiting) && nat_le (length asked.unanswered) 65534

abbrev pub mark_if : Bool → List Question
mark_if wants = if wants then Mark 0 ∷ [] else []

-- What is sent: what waits, as far as there is room, and a mark behind it where more waits.
abbrev pub sends : Asked → List Question
sends asked = take (room asked) asked.waiting ++ mark_if (wants_mark asked)

abbrev pub after_sending : Asked → Asked
after_sending asked = record asked { unanswered = (asked.unanswered ++ take (room asked) asked.waiting) ++ mark_if (wants_mark asked); waiting = drop (room asked) asked.waiting }

-- a question to which something came, and what is open and waits behind it
pub record Settled : Type 0 where
  pub question : Question
  pub next : Asked

-- numbers have 16 bits
abbrev pub next_number : ℕ → ℕ
next_number number = (number + 1) % 65536

-- The question of a number, where all that are open before it have no answer other than an Error.
abbrev pub settled_in : ℕ → List Question → ℕ → List Question → Option Settled
settled_in sequence waiting first [] = None
settled_in sequence waiting first (question ∷ questions) =
    if first == sequence then Some (record { question = question; next = record { first = next_number first; unanswered = questions; waiting = waiting } })
    else if has_answer question then None
    else settled_in sequence waiting (next_number first) questions

abbrev pub settled : ℕ → Asked → Option Settled
settled sequence asked = settled_in sequence asked.waiting asked.first asked.unanswered
