use Rattle.std.proofs.Common.{◌≡◌, map, take}
use Rattle.window_follower.specs.Questions.{request_of}
use Rattle.window_follower.proofs.requests.requests_of.Given as goal

abbrev pub invariant-loop-question : goal.invariant-loop-question
invariant-loop-question l = l.requests ≡ map (request_of l.atoms) (take l.question-index l.questions)
