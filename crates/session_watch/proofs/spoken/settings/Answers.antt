use Rattle.std.proofs.Common.{rules, ◌≡◌, ◌∙◌, sym, subst, List, ℕ}
use Rattle.xsmp_messages.specs.Views.{WalksOf}
use Rattle.frame_speech.specs.Settings.{set_in}
use Rattle.frame_speech.specs.Speech.{reading_of}
use Rattle.session_watch.proofs.Noting.{settings_whole, no_settings}
use Rattle.session_watch.proofs.spoken.settings.Goals as goal

pub returns-then-is_whole : goal.returns-then-is_whole
returns-then-is_whole c =
    let bytes : c.as_slice.result.now ≡ c.args.frame.now.bytes = search rules in
    settings_whole c.args.speech c.args.frame.now c.settings.result (sym c.is_whole.ensures.is ∙ c.if-is_whole.true)
    (subst (λ (b : List ℕ). WalksOf c.args.frame.now.endian (set_in (reading_of c.args.speech (record { endian = c.args.frame.now.endian; bytes = b }))) c.settings.result) bytes c.settings.ensures)

pub returns-else-is_whole : goal.returns-else-is_whole
returns-else-is_whole c = no_settings c.args.speech c.args.frame.now (sym c.is_whole.ensures.is ∙ c.if-is_whole.false)
