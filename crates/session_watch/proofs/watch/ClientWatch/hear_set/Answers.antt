use Rattle.std.proofs.Common.{[], ◌∷◌, ◌∙◌, sym, ap, Option, Some}
use Rattle.std.specs.Prelude.{option_to_list}
use Rattle.std.proofs.lemmas.Result.{on_ok_weaker}
use Rattle.ice_framing.specs.declared.cutting.WholeFrame.{WholeFrame}
use Rattle.xsmp_messages.specs.declared.message.XsmpMessage.{XsmpMessage}
use Rattle.frame_speech.specs.Passing.{as_frame}
use Rattle.session_watch.specs.Knowing.{noted_all}
use Rattle.session_watch.specs.declared.party.Party.TheVariants.{Client}
use Rattle.session_watch.specs.declared.watch.ClientWatch.{ClientWatch}
use Rattle.session_watch.proofs.Following.{heard, heard_lone, lone_set}
use Rattle.session_watch.proofs.Noting.{settings_whole, settings_spoken}
use Rattle.session_watch.proofs.watch.ClientWatch.hear_set.Goals as goal

pub settings-requires : goal.settings-requires
settings-requires c = c.requires.frame.header

pub returns-in-Some : goal.returns-in-Some
returns-in-Some c =
    let old : ClientWatch = c.args.self.now in
    let frame : WholeFrame = as_frame c.args.endian c.args.bytes.now in
    let new : ClientWatch = record old { since = c.args.now; known = c.note_set.new.self } in
    let walks = settings_whole old.said frame (Some c.in-Some.walk) c.requires.whole c.in-Some.ensures in
    on_ok_weaker c.note_set.result
    (λ is start story follows. heard start story old c.args.now c.args.bytes.now (frame ∷ []) new follows
    (heard_lone old c.args.now c.args.endian c.args.bytes.now c.note_set.new.self (lone_set old.said c.args.endian c.args.bytes.now old.came c.in-Some.walk c.requires c.in-Some.ensures)
    (is ∙ ap (λ (o : Option XsmpMessage). noted_all Client (option_to_list o) old.known) (sym (settings_spoken old.said frame c.in-Some.walk walks).1))))
    c.note_set.ensures
