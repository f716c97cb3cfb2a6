use Rattle.std.proofs.Common.{◌∙◌, sym}
use Rattle.checkpoint_records.proofs.NameLaws.{rising_decided}
use Rattle.checkpoint_records.proofs.session_heads.is_behind.Goals as goal

pub returns : goal.returns
returns c =
    let decided = rising_decided c.args.sessions.now c.args.name.now c.requires in (
      λ t. decided.0 (sym c.come_before.ensures ∙ t),
      λ r. c.come_before.ensures ∙ decided.1 r,
    )
