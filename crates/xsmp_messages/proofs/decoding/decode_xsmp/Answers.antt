use Rattle.std.proofs.Common.{List, ℕ, subst, sym, slice_index}
use Rattle.ice_values.specs.Frames.{Gives}
use Rattle.ice_values.proofs.CellLaws.{slice_bytes}
use Rattle.ice_values.proofs.DecodeLaws.{is_found, is_refused}
use Rattle.xsmp_messages.specs.Messages.{IsXsmpFrame, Spells, Refused}
use Rattle.xsmp_messages.specs.Reading.{decode_at}
use Rattle.xsmp_messages.proofs.Dispatch.{decode_caused, decode_again, canon_spells, form_is_choice}
use Rattle.xsmp_messages.proofs.decoding.decode_xsmp.Goals as goal

pub returns-clause-found : goal.returns-clause-found
returns-clause-found c =
    let bytes = c.args.frame.now in
    let framed : IsXsmpFrame c.args.endian bytes = record { frame = c.requires; fits = slice_bytes bytes c.type_inv.frame } in
    is_found (λ m. Spells c.args.endian (slice_index bytes 0) m bytes) (Refused c.args.endian bytes) c.by_minor.result (decode_at c.args.endian bytes) c.by_minor.ensures (decode_caused c.args.endian bytes framed)

pub returns-clause-refused : goal.returns-clause-refused
returns-clause-refused c =
    let bytes = c.args.frame.now in
    let framed : IsXsmpFrame c.args.endian bytes = record { frame = c.requires; fits = slice_bytes bytes c.type_inv.frame } in
    is_refused (λ m. Spells c.args.endian (slice_index bytes 0) m bytes) (Refused c.args.endian bytes) c.by_minor.result (decode_at c.args.endian bytes) tt c.by_minor.ensures (decode_caused c.args.endian bytes framed)

pub returns-clause-only : goal.returns-clause-only
returns-clause-only c = λ opcode message spelled. subst (Gives c.by_minor.result) (decode_again c.args.endian opcode c.args.frame.now message spelled) c.by_minor.ensures

pub returns-clause-again : goal.returns-clause-again
returns-clause-again c = λ opcode message fits is.
    let spelled = subst (λ (b : List ℕ). Spells c.args.endian opcode message b) (sym is) (canon_spells c.args.endian opcode message fits) in
    subst (Gives c.by_minor.result) (decode_again c.args.endian opcode c.args.frame.now message spelled) c.by_minor.ensures

pub returns-clause-form : goal.returns-clause-form
returns-clause-form c = λ opcode message. form_is_choice c.args.endian opcode message c.args.frame.now
