use Rattle.std.proofs.lemmas.Str.{IsUtf8-from_is_utf8}
use Rattle.shown_text.proofs.Texts.{is_text}
use Rattle.store_report.proofs.json_text.put_text.Goals as goal

pub unreachable-requires : goal.unreachable-requires
unreachable-requires c = c.in-Err.ensures.cases.0 (IsUtf8-from_is_utf8 _ (is_text _ c.requires))
