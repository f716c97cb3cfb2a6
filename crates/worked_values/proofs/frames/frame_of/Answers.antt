use Rattle.std.proofs.Common.{◌++◌, List, ℕ, ap, subst, sym, ◌∙◌}
use Rattle.ice_values.specs.declared.numbers.Endian.TheVariants.{Lsb}
use Rattle.xsmp_messages.specs.Messages.{IsFrame, Spells, canon}
use Rattle.xsmp_messages.proofs.Dispatch.{canon_spells}
use Rattle.worked_values.proofs.frames.frame_of.Goals as goal

pub returns-clause-spells : goal.returns-clause-spells
returns-clause-spells c =
    let m = c.args.message.now in
    subst (λ (bytes : List ℕ). Spells Lsb 1 m bytes)
    (sym (c.in_ok-encode_xsmp.ensures.ok ∙ ap (λ (bytes : List ℕ). bytes ++ canon Lsb 1 m) c.new-frame.ensures))
    (canon_spells Lsb 1 m c.in_ok-encode_xsmp.ensures.fits)

pub returns-clause-frame : goal.returns-clause-frame
returns-clause-frame c =
    let m = c.args.message.now in
    subst (λ (bytes : List ℕ). IsFrame Lsb bytes)
    (sym (c.in_ok-encode_xsmp.ensures.ok ∙ ap (λ (bytes : List ℕ). bytes ++ canon Lsb 1 m) c.new-frame.ensures))
    c.in_ok-encode_xsmp.ensures.frame
