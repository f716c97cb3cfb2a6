use Rattle.std.proofs.lemmas.Bool.Decides.{Decides-eqb}
use Rattle.std.proofs.lemmas.Slice.Eq.{slice_eq-Decides}
use Rattle.program_frame.proofs.WordLemmas.{is_one_word}
use Rattle.program_frame.proofs.words.are_one_word.Goals as goal

pub returns-then-words-eq1 : goal.returns-then-words-eq1
returns-then-words-eq1 c =
    is_one_word c.args.words.now c.index-words-0.result c.as_str.result.now c.args.word.now c.eq.result c.if-words-eq1.true c.index-words-0.is c.as_str.ensures.value (slice_eq-Decides Decides-eqb _ _ _ c.eq.ensures)
