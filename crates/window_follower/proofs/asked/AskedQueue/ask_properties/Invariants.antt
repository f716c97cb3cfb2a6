use Rattle.std.proofs.Common.{◌≡◌, map, take}
use Rattle.window_follower.specs.Asked.{ask_all}
use Rattle.window_follower.specs.declared.question.Question.TheVariants.{Property}
use Rattle.window_follower.proofs.asked.AskedQueue.ask_properties.Given as goal

abbrev pub invariant-loop-property : goal.invariant-loop-property
invariant-loop-property l = l.self ≡ ask_all (map (λ property. Property l.window property) (take l.property-index l.properties)) l.fn.self
