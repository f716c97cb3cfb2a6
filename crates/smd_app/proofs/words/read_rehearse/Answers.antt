use Rattle.std.proofs.Common.{map, string_bytes, sym, ◌∙◌}
use Rattle.std.proofs.lemmas.List.{length-map}
use Rattle.smd_app.proofs.Wording.{rehearse_with}
use Rattle.smd_app.proofs.words.read_rehearse.Goals as goal

pub returns : goal.returns
returns c =
    rehearse_with (map string_bytes c.args.words.now) c.word_at.result.now c.read_patience.result (length-map c.args.words.now string_bytes ∙ c.if-words-ne2.false) (sym c.is_word.ensures ∙ c.if-not-is_word.false) c.word_at.ensures c.read_patience.ensures
