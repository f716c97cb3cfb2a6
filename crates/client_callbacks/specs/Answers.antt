-- What the callbacks of a client answer.
use Rattle.std.specs.Prelude.{ℕ, false, List, []}
use Rattle.client_machine.specs.declared.saves.SaveAnswer.{SaveAnswer}
use Rattle.client_machine.specs.declared.saves.Step.TheVariants.{Done}

-- What the callbacks say while one part of the stream is taken, as far as they are asked: to a save, to the same save once the client
-- has talked to the user, and as reasons to close.
pub record Replies : Type 0 where
  pub first : SaveAnswer
  pub again : SaveAnswer
  pub reasons : List (List ℕ)

-- where nothing is asked
abbrev pub unasked : Replies
unasked = record { first = record { set = []; step = Done false }; again = record { set = []; step = Done false }; reasons = [] }
