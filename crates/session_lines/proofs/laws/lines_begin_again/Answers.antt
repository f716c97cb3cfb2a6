use Rattle.session_lines.proofs.Begun.{lines-begin}
use Rattle.session_lines.proofs.laws.lines_begin_again.Goals as goal

pub returns : goal.returns
returns c = lines-begin
