use Rattle.session_lines.proofs.Crashes.{files-forget}
use Rattle.session_lines.proofs.laws.files_forget_discarded_states.Goals as goal

pub returns : goal.returns
returns c = files-forget
