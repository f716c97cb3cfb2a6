use Rattle.std.proofs.Common.{take}
use Rattle.sm_world.specs.Crash.{Cell, cell_from}
use Rattle.sm_world.specs.Choices.{Held, IsTracked, held_from}
use Rattle.sm_world.proofs.crash.Track.through.Given as goal

abbrev pub invariant-loop-effect : goal.invariant-loop-effect
invariant-loop-effect l = (cell : Cell) (held : Held) → IsTracked l.fill cell held l.fn.self → IsTracked l.fill (cell_from cell (take l.effect-index l.effects) l.place) (held_from held (take l.effect-index l.effects) l.place) l.track
