use Rattle.session_lines.proofs.Crashes.{files-keep-up}
use Rattle.session_lines.proofs.laws.files_keep_up_with_new_ids.Goals as goal

pub returns : goal.returns
returns c = files-keep-up
