use Rattle.std.proofs.Common.{[], ◌∷◌}
use Rattle.std.proofs.lemmas.Result.{on_ok_weaker}
use Rattle.frame_speech.specs.Passing.{as_frame}
use Rattle.session_watch.specs.declared.watch.ClientWatch.{ClientWatch}
use Rattle.session_watch.proofs.Following.{told, told_lone, lone_said}
use Rattle.session_watch.proofs.watch.ClientWatch.tell_alone.Goals as goal

pub heeds-requires : goal.heeds-requires
heeds-requires c = c.requires.frame.header

pub note_spoken-requires : goal.note_spoken-requires
note_spoken-requires c = record { frame = c.requires.frame; whole = c.requires.whole }

pub returns : goal.returns
returns c =
    let old : ClientWatch = c.args.self.now in
    let new : ClientWatch = record old { known = c.note_spoken.new.known } in
    on_ok_weaker c.note_spoken.result
    (λ is start story follows. told start story old c.args.now c.args.bytes.now (as_frame c.args.endian c.args.bytes.now ∷ []) new follows
    (told_lone old c.args.endian c.args.bytes.now c.note_spoken.new.known (lone_said old.told c.args.endian c.args.bytes.now old.sent c.requires (c.heeds.ensures c.if-heeds.false)) is))
    c.note_spoken.ensures
