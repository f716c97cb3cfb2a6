use Rattle.std.proofs.Common.{List, ℕ, subst, sym}
use Rattle.ice_values.specs.Frames.{Gives}
use Rattle.ice_values.proofs.CellLaws.{slice_bytes}
use Rattle.ice_values.proofs.DecodeLaws.{is_found, is_refused}
use Rattle.ice_messages.specs.Messages.{IsIceFrame, Spells, Refused}
use Rattle.ice_messages.specs.Reading.{decode_at}
use Rattle.ice_messages.proofs.Dispatch.{decode_caused, decode_again, canon_spells, form_is_choice}
use Rattle.ice_messages.proofs.decoding.decode_ice.Goals as goal

pub returns-clause-found : goal.returns-clause-found
returns-clause-found c =
    let bytes = c.args.frame.now in
    let framed : IsIceFrame c.args.endian bytes = record { frame = c.requires.whole; fits = slice_bytes bytes c.type_inv.frame; major = c.requires.opcode } in
    is_found (λ m. Spells c.args.endian m bytes) (Refused c.args.endian bytes) c.by_minor.result (decode_at c.args.endian bytes) c.by_minor.ensures (decode_caused c.args.endian bytes framed)

pub returns-clause-refused : goal.returns-clause-refused
returns-clause-refused c =
    let bytes = c.args.frame.now in
    let framed : IsIceFrame c.args.endian bytes = record { frame = c.requires.whole; fits = slice_bytes bytes c.type_inv.frame; major = c.requires.opcode } in
    is_refused (λ m. Spells c.args.endian m bytes) (Refused c.args.endian bytes) c.by_minor.result (decode_at c.args.endian bytes) tt c.by_minor.ensures (decode_caused c.args.endian bytes framed)

pub returns-clause-only : goal.returns-clause-only
returns-clause-only c = λ message spelled. subst (Gives c.by_minor.result) (decode_again c.args.endian c.args.frame.now message spelled) c.by_minor.ensures

pub returns-clause-again : goal.returns-clause-again
returns-clause-again c = λ message fits is.
    let spelled = subst (λ (b : List ℕ). Spells c.args.endian message b) (sym is) (canon_spells c.args.endian message fits) in
    subst (Gives c.by_minor.result) (decode_again c.args.endian c.args.frame.now message spelled) c.by_minor.ensures

pub returns-clause-form : goal.returns-clause-form
returns-clause-form c = λ message. form_is_choice c.args.endian message c.args.frame.now
