use Rattle.std.proofs.Common.{◌≡◌, ◌∙◌, sym, subst, ap, List, ℕ, Option}
use Rattle.std.specs.Prelude.{OnOk, option_to_list}
use Rattle.frame_speech.specs.Passing.{as_frame}
use Rattle.xsmp_messages.specs.declared.message.XsmpMessage.{XsmpMessage}
use Rattle.session_watch.specs.Story.{spoken}
use Rattle.session_watch.specs.Knowing.{noted_all}
use Rattle.session_watch.proofs.Noting.{unspoken}
use Rattle.session_watch.proofs.spoken.note_message.Goals as goal

pub returns-then-is_whole : goal.returns-then-is_whole
returns-then-is_whole c =
    subst (λ (b : List ℕ). OnOk c.note_spoken.result (c.note_spoken.new.known ≡ noted_all c.args.party (option_to_list (spoken c.args.speech (as_frame c.args.frame.now.endian b))) c.args.known.now)) c.as_slice-bytes.ensures c.note_spoken.ensures

pub returns-else-is_whole : goal.returns-else-is_whole
returns-else-is_whole c =
    ap (λ (o : Option XsmpMessage). noted_all c.args.party (option_to_list o) c.args.known.now) (unspoken c.args.speech c.args.frame.now (sym c.is_whole.ensures.is ∙ c.if-is_whole.false))
