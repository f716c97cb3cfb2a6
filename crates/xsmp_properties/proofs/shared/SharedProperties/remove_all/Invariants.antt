use Rattle.std.proofs.Common.{◌≡◌, take}
use Rattle.xsmp_properties.specs.Tables.{without_names}
use Rattle.xsmp_properties.proofs.shared.SharedProperties.remove_all.Given as goal

abbrev pub invariant-loop-name : goal.invariant-loop-name
invariant-loop-name l = l.self ≡ without_names (take l.name-index l.names) l.initial.self
