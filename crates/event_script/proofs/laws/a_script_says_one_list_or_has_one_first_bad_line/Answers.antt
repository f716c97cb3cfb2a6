use Rattle.event_script.proofs.Excluding.{means_once}
use Rattle.event_script.proofs.laws.a_script_says_one_list_or_has_one_first_bad_line.Goals as goal

pub returns : goal.returns
returns c = means_once
