use Rattle.std.proofs.Common.{◌∙◌}
use Rattle.checkpoint_records.proofs.NameLaws.{default_is}
use Rattle.checkpoint_records.proofs.session_names.default_name.Goals as goal

pub returns : goal.returns
returns c = c.in_ok-name.ensures ∙ default_is
