use Rattle.adopted_words.proofs.FileLaws.{say_one}
use Rattle.adopted_words.proofs.laws.rules_are_one_list_or_have_one_bad_line.Goals as goal

pub returns : goal.returns
returns c = say_one
