use Rattle.std.proofs.Common.{rules}
use Rattle.message_text.specs.Properties.{indent}
use Rattle.message_text.proofs.properties.put_indent.Goals as goal

pub returns : goal.returns
unfolding indent
returns c = search rules
