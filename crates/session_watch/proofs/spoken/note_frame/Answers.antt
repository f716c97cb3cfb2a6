use Rattle.std.proofs.Common.{◌∙◌, sym, ap, Option}
use Rattle.std.specs.Prelude.{option_to_list}
use Rattle.xsmp_messages.specs.declared.message.XsmpMessage.{XsmpMessage}
use Rattle.session_watch.specs.Knowing.{noted_all}
use Rattle.session_watch.proofs.Noting.{settings_spoken}
use Rattle.session_watch.proofs.spoken.note_frame.Goals as goal

pub returns-in_ok-note_set-in-Some-clause-speech : goal.returns-in_ok-note_set-in-Some-clause-speech
returns-in_ok-note_set-in-Some-clause-speech c = sym (settings_spoken c.args.speech c.args.frame.now c.in-Some.walk c.in-Some.ensures).0

pub returns-in_ok-note_set-in-Some-clause-known : goal.returns-in_ok-note_set-in-Some-clause-known
returns-in_ok-note_set-in-Some-clause-known c =
    c.in_ok-note_set-in-Some.ensures
    ∙ ap (λ (o : Option XsmpMessage). noted_all c.args.party (option_to_list o) c.args.known.now) (sym (settings_spoken c.args.speech c.args.frame.now c.in-Some.walk c.in-Some.ensures).1)
