use Rattle.std.proofs.Common.{codes, map, string_bytes}
use Rattle.word_pairs.specs.Words.{option_in}
use Rattle.smd_app.proofs.Wording.{patience_named}
use Rattle.smd_app.proofs.words.patience_of.Goals as goal

pub returns-in-Some : goal.returns-in-Some
returns-in-Some c = patience_named (option_in (map string_bytes c.args.words.now) (codes "--patience")) c.in-Some.word.now c.read_patience.result (rw c.in-Some.is at c.value_of.ensures) c.read_patience.ensures
