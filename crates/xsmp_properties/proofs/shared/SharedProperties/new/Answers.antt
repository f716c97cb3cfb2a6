use Rattle.std.proofs.Common.{◌∙◌}
use Rattle.xsmp_properties.proofs.ShownLaws.{none_hidden}
use Rattle.xsmp_properties.proofs.shared.SharedProperties.new.Goals as goal

pub returns : goal.returns
returns c = none_hidden 0 _ ∙ c.in_ok-named.ensures.ok
