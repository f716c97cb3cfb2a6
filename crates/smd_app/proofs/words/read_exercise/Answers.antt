use Rattle.std.proofs.Common.{arith, map, string_bytes, sym, ◌∙◌, rules}
use Rattle.std.proofs.lemmas.List.{length-map}
use Rattle.smd_app.proofs.Wording.{are_exercise, same_rounds}
use Rattle.smd_app.proofs.words.read_exercise.Goals as goal
use Rattle.smd_app.proofs.words.read_exercise.Goals.{else-rounds-ge1-via-then-rounds-ge1+else-rounds-le-ROUND_LIMIT, else-rounds-ge1-via-else-rounds-ge1}

pub returns-then-rounds-le-ROUND_LIMIT : goal.returns-then-rounds-le-ROUND_LIMIT
returns-then-rounds-le-ROUND_LIMIT c =
    are_exercise (map string_bytes c.args.words.now) c.in-Some.pattern c.in-Some-2.rounds (length-map c.args.words.now string_bytes ∙ c.if-words-ne3.false) (sym c.is_word.ensures ∙ c.if-not-is_word.false) (search rules) (search rules) (search rules) (omega arith) (omega arith)

pub returns-else-rounds-ge1 : goal.returns-else-rounds-ge1
returns-else-rounds-ge1 c = λ pattern rounds are.
    let same = same_rounds (map string_bytes c.args.words.now) pattern rounds c.in-Some-2.rounds are (search rules) (search rules) in
    elim c.else-rounds-ge1.branch [
      | else-rounds-ge1-via-then-rounds-ge1+else-rounds-le-ROUND_LIMIT w ↦ omega (arith, same, are.few)
      | else-rounds-ge1-via-else-rounds-ge1 w ↦ omega (arith, same, are.some)
    ]
