use Rattle.std.proofs.Common.{ℕ, List, sym, ◌∙◌, subst}
use Rattle.checkpoint_records.specs.Rules.{IsName}
use Rattle.control_lines.specs.Fields.{IsHex}
use Rattle.control_lines.proofs.Splitting.{without_inside}
use Rattle.std.specs.Fmt.{decimal}
use Rattle.kept_books.proofs.Points.{same_bytes, same_parts}
use Rattle.kept_books.proofs.names.read_file_name.Goals as goal

pub returns-in-None : goal.returns-in-None
returns-in-None c = λ number session says. without_inside 46 (decimal number) says.hex (rw says.parts at c.in-None.ensures)

pub returns-in-None-2 : goal.returns-in-None-2
returns-in-None-2 c = λ number session says.
    let same = same_parts _ _ _ number session c.in-Some.ensures says in
    (rw c.in-None-2.is at c.in_ok-number.ensures) number says.small same.0

pub returns-in-None-3 : goal.returns-in-None-3
returns-in-None-3 c = λ number session says.
    let same = same_parts _ _ _ number session c.in-Some.ensures says in
    (rw c.in-None-3.is at c.in_ok-session.ensures) session (subst (λ (text : List ℕ). IsHex text session) (sym same.1) says.is_hex)

pub returns-else-is_name : goal.returns-else-is_name
returns-else-is_name c = λ number session says.
    let same = same_parts _ _ _ number session c.in-Some.ensures says in
    let is = rw c.in-Some-3.is at c.in_ok-session.ensures in
    let e = same_bytes _ session _ (subst (λ (text : List ℕ). IsHex text session) (sym same.1) says.is_hex) is in
    let named = c.if-is_name.ensures.1 (subst IsName (e ∙ sym c.as_slice.ensures) says.is_name) in
    cc
