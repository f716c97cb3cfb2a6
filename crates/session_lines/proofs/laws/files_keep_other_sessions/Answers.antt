use Rattle.session_lines.proofs.Crashes.{files-keep-others}
use Rattle.session_lines.proofs.laws.files_keep_other_sessions.Goals as goal

pub returns : goal.returns
returns c = files-keep-others
