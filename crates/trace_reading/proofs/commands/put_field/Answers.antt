use Rattle.std.proofs.Common.{◌≡◌, ◌∷◌, [], ◌++◌, false, codes, sym, ◌∙◌, ap, rules}
use Rattle.std.specs.Str.{bytes_eq}
use Rattle.ice_values.proofs.OptionLaws.{on_ok_by}
use Rattle.message_text.proofs.Joining.{joined}
use Rattle.trace_reading.specs.Commands.{mark_told}
use Rattle.trace_reading.proofs.CommandLemmas.{plain_mark}
use Rattle.trace_reading.proofs.commands.put_field.Goals as goal

pub returns-in-None : goal.returns-in-None
returns-in-None c =
    let field = c.args.field.now in
    let no_place : bytes_eq field (codes "@") ≡ false = search rules in
    let no_pair : bytes_eq field (codes "+") ≡ false = search rules in
    let some : bytes_eq field (codes "-") ≡ false = search rules in
    let plain = plain_mark field no_place no_pair some (rw c.in-None.is at c.in_ok-bytes.ensures) in
    on_ok_by c.put_plain.result _ _
    (λ line. joined c.args.out.now (32 ∷ []) (mark_told field) c.append.new.self c.put_plain.new.out c.in_ok-append.ensures.ok (line ∙ ap (λ ls. c.append.new.self ++ ls) (sym plain)))
    c.put_plain.ensures
