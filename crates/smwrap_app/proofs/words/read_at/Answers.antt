use Rattle.std.proofs.Common.{map, string_bytes, length, get_or, codes, sym, ◌∙◌, arith, ap, ◌≡◌, ◌<◌, [], List, ℕ}
use Rattle.std.proofs.lemmas.Bool.Decides.{Decides-eqb}
use Rattle.std.proofs.lemmas.List.{length-map, take-map}
use Rattle.std.proofs.lemmas.Slice.Eq.{slice_eq-Decides}
use Rattle.smwrap_app.proofs.WordLaws.{behind_dashes, found_at}
use Rattle.smwrap_app.proofs.words.read_at.Goals as goal

pub returns-then-is_program : goal.returns-then-is_program
returns-then-is_program c =
    let ws : List (List ℕ) = map string_bytes c.args.words.now in
    let inside : c.args.count < length ws = omega (arith, length-map c.args.words.now string_bytes) in
    let dashes : get_or ws c.args.count [] ≡ codes "--" = (slice_eq-Decides Decides-eqb (get_or ws c.args.count []) (codes "--") c.is_word.result c.is_word.ensures).0 c.if-not-is_word.false in
    found_at c.choices_of.result c.args.count ws (map string_bytes c.split_at.result.0.now) _ c.in-Ok-Some.from
    (ap (map string_bytes) c.split_at.ensures.front ∙ sym (take-map string_bytes c.args.count c.args.words.now))
    (behind_dashes c.args.words.now c.split_at.result.1.now c.args.count c.split_at.ensures.back)
    inside dashes
    (rw c.in-Ok-Some.field-0-is at c.in-Ok-Some.ensures)
    (sym c.is_program.ensures ∙ c.if-is_program.true)
    c.choices_of.ensures.none c.choices_of.ensures.some c.choices_of.ensures.from c.choices_of.ensures.program
