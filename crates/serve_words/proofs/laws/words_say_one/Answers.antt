use Rattle.serve_words.proofs.Saying.{say_one}
use Rattle.serve_words.proofs.laws.words_say_one.Goals as goal

pub returns : goal.returns
returns c = say_one
