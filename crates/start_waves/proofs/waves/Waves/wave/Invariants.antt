use Rattle.std.proofs.Common.{◌≡◌, ◌++◌, drop, map, filter}
use Rattle.start_waves.specs.Waves.{command_in, has_priority}
use Rattle.start_waves.proofs.waves.Waves.wave.Given as goal

abbrev pub invariant-loop-it : goal.invariant-loop-it
invariant-loop-it l = l.wave ++ map command_in (filter (has_priority l.priority) (drop l.it-index l.self.waiting)) ≡ map command_in (filter (has_priority l.priority) l.self.waiting)
