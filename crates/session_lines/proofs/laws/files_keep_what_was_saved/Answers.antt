use Rattle.session_lines.proofs.Crashes.{files-keep}
use Rattle.session_lines.proofs.laws.files_keep_what_was_saved.Goals as goal

pub returns : goal.returns
returns c = files-keep
