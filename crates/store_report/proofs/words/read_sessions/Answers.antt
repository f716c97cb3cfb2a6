use Rattle.std.proofs.Common.{map, string_bytes, sym, ◌∙◌}
use Rattle.std.proofs.lemmas.List.{length-map}
use Rattle.store_report.proofs.Asking.{are_sessions}
use Rattle.store_report.proofs.words.read_sessions.Goals as goal

pub returns : goal.returns
returns c =
    are_sessions (map string_bytes c.args.words.now) c.store_of.result.now (length-map c.args.words.now string_bytes ∙ c.if-words-ne3.false) (sym c.is_word.ensures ∙ c.if-not-is_word.false) (sym c.is_word-else-not-is_word.ensures ∙ c.if-not-is_word-2.false) c.store_of.ensures
