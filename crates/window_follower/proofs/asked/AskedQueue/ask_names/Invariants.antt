use Rattle.std.proofs.Common.{◌≡◌, map, take}
use Rattle.window_follower.specs.Asked.{ask_all}
use Rattle.window_follower.specs.declared.question.Question.TheVariants.{Atom}
use Rattle.window_follower.proofs.asked.AskedQueue.ask_names.Given as goal

abbrev pub invariant-loop-name : goal.invariant-loop-name
invariant-loop-name l = l.self ≡ ask_all (map (λ name. Atom name) (take l.name-index l.names)) l.fn.self
