use Rattle.std.proofs.Common.{◌∙◌, ap, Err}
use Rattle.smd_app.proofs.SessionLemmas.{never_long}
use Rattle.smd_app.proofs.serving.cookie_file.Goals as goal

pub unreachable-requires : goal.unreachable-requires
unreachable-requires c =
    c.authority_bytes.ensures.too_long.0 (c.in-Err-TooLong.is ∙ ap Err c.in-Err-TooLong.field-0-is)
    (never_long c.args.identity.now c.args.socket.now c.in_ok-entry_for.field-0 c.in_ok-entry_for-2.field-0 c.new-entries.result c.push.new.self c.push-2.new.self c.requires.host c.requires.socket c.in_ok-entry_for.ensures.size c.in_ok-entry_for.ensures.entry c.in_ok-entry_for-2.ensures.entry c.new-entries.ensures c.in_ok-push.ensures.ok c.in_ok-push-2.ensures.ok)
