use Rattle.std.proofs.Common.{◌≡◌, Err, slice_index, subst, sym, ◌∙◌}
use Rattle.ice_values.proofs.BodyLaws.{ok_not_err}
use Rattle.ice_values.proofs.CellLaws.{slice_bytes}
use Rattle.ice_values.proofs.DecodeLaws.{has_cause, needs_no_memory}
use Rattle.ice_values.specs.declared.refusals.DecodeRefusal.TheVariants.{NoMemory}
use Rattle.xsmp_messages.specs.Messages.{IsXsmpFrame, Spells, Refused}
use Rattle.xsmp_messages.specs.Reading.{decode_at}
use Rattle.xsmp_messages.proofs.Dispatch.{decode_caused, decode_again}
use Rattle.xsmp_messages.proofs.ViewLaws.{is_not}
use Rattle.xsmp_messages.proofs.viewing.view_xsmp.Goals as goal

pub without_memory-requires : goal.without_memory-requires
without_memory-requires c = λ same.
    let e = c.args.endian in
    let bytes = c.args.frame.now in
    let framed : IsXsmpFrame e bytes = record { frame = c.requires; fits = slice_bytes bytes c.type_inv.frame } in
    let is : decode_at e bytes ≡ Err NoMemory = subst (λ d. decode_at e bytes ≡ Err d) same (is_not (decode_at e bytes) c.in-Err.refusal c.in-Err.ensures) in
    needs_no_memory (λ m. Spells e (slice_index bytes 0) m bytes) (Refused e bytes) (decode_at e bytes) (decode_caused e bytes framed) is

pub returns-in-Err-clause-only : goal.returns-in-Err-clause-only
returns-in-Err-clause-only c = λ opcode message spelled.
    let e = c.args.endian in
    let bytes = c.args.frame.now in
    absurd (ok_not_err message c.in-Err.refusal (sym (decode_again e opcode bytes message spelled) ∙ is_not (decode_at e bytes) c.in-Err.refusal c.in-Err.ensures))

pub returns-in-Err-clause-refused : goal.returns-in-Err-clause-refused
returns-in-Err-clause-refused c =
    let e = c.args.endian in
    let bytes = c.args.frame.now in
    let framed : IsXsmpFrame e bytes = record { frame = c.requires; fits = slice_bytes bytes c.type_inv.frame } in
    subst (Refused e bytes) (sym c.without_memory.ensures)
    (has_cause (λ m. Spells e (slice_index bytes 0) m bytes) (Refused e bytes) (decode_at e bytes) c.in-Err.refusal (decode_caused e bytes framed) (is_not (decode_at e bytes) c.in-Err.refusal c.in-Err.ensures))
