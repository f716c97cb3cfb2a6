use Rattle.std.proofs.Common.{◌≡◌, ◌∙◌, length, arith}
use Rattle.smwrap_app.proofs.WordLaws.{program_is}
use Rattle.smwrap_app.proofs.words.is_program.Goals as goal

pub returns-then-words-le-PROGRAM_LIMIT : goal.returns-then-words-le-PROGRAM_LIMIT
returns-then-words-le-PROGRAM_LIMIT c =
    let some : length c.args.words.now ≡ 0 → ⊥ = λ none. grind (arith, none, c.is_empty.ensures, c.if-is_empty.false) in
    c.are_texts.ensures ∙ program_is c.args.words.now some c.if-words-le-PROGRAM_LIMIT.true
