-- A question has the reply of its request.
use Rattle.std.proofs.Common.{refl}
use Rattle.window_follower.specs.Laws.{AnswersFitRequests}
use Rattle.window_follower.specs.declared.question.Question.TheVariants.{Atom, Extension, Version, Watch, Property, Root, Events, Process, Children, Managed, Shown, Close, Show, Ping, Mark}

pub answers : AnswersFitRequests
answers atoms (Atom name) = (refl, refl)
answers atoms Extension = (refl, refl)
answers atoms (Version opcode) = (refl, refl)
answers atoms (Watch window events) = (refl, refl)
answers atoms (Property window property) = (refl, refl)
answers atoms (Root window property) = (refl, refl)
answers atoms (Events window) = (refl, refl)
answers atoms (Process opcode window) = (refl, refl)
answers atoms (Children window depth) = (refl, refl)
answers atoms (Managed window depth) = (refl, refl)
answers atoms (Shown window) = (refl, refl)
answers atoms (Close window) = (refl, refl)
answers atoms (Show root window) = (refl, refl)
answers atoms (Ping window stamp) = (refl, refl)
answers atoms (Mark number) = (refl, refl)
