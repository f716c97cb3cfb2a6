use Rattle.std.proofs.Common.{map, string_bytes, sym, ◌∙◌}
use Rattle.std.proofs.lemmas.List.{length-map}
use Rattle.smrelay_app.proofs.Wording.{match_rehearse}
use Rattle.smrelay_app.proofs.words.read_rehearsal.Goals as goal

pub returns : goal.returns
returns c =
    match_rehearse (map string_bytes c.args.words.now) c.word_at.result.now c.order_of.result (length-map c.args.words.now string_bytes ∙ c.if-words-ne2.false) (sym c.is_word.ensures ∙ c.if-not-is_word.false) (sym c.word_at.ensures) c.order_of.ensures
