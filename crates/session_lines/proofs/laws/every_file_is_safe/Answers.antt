use Rattle.session_lines.proofs.Crashes.{every-file}
use Rattle.session_lines.proofs.laws.every_file_is_safe.Goals as goal

pub returns : goal.returns
returns c = every-file
