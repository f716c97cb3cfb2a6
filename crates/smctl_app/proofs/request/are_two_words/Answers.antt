use Rattle.std.proofs.Common.{rules, ◌∙◌, sym, string_bytes}
use Rattle.std.proofs.lemmas.Bool.Decides.{Decides-eqb}
use Rattle.std.proofs.lemmas.Slice.Eq.{slice_eq-Decides}
use Rattle.smctl_app.proofs.WordLaws.{are_two, not_first}
use Rattle.smctl_app.proofs.request.are_two_words.Goals as goal

pub returns-then-eq : goal.returns-then-eq
returns-then-eq c =
    are_two string_bytes c.args.words.now c.index-words-0.result c.index-words-1.result c.as_str-then-eq.result.now c.args.first.now c.args.second.now c.eq-then-eq.result (search rules) c.index-words-0.is c.index-words-1.is (sym c.as_str.ensures.value ∙ (slice_eq-Decides Decides-eqb _ _ _ c.eq.ensures).0 (search rules)) c.as_str-then-eq.ensures.value (slice_eq-Decides Decides-eqb _ _ _ c.eq-then-eq.ensures)

pub returns-else-eq : goal.returns-else-eq
returns-else-eq c =
    not_first string_bytes c.args.words.now c.index-words-0.result c.as_str.result.now c.args.first.now c.args.second.now c.eq.result c.index-words-0.is c.as_str.ensures.value (slice_eq-Decides Decides-eqb _ _ _ c.eq.ensures) (search rules)
