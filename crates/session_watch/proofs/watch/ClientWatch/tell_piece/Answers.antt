use Rattle.std.proofs.Common.{rules, ◌≡◌, List, refl, subst}
use Rattle.ice_framing.specs.declared.cutting.WholeFrame.{WholeFrame}
use Rattle.frame_speech.specs.Streams.{Cuts}
use Rattle.frame_speech.specs.Passing.{PassesBy}
use Rattle.session_watch.specs.Story.{IsNoMessage}
use Rattle.session_watch.specs.declared.watch.ClientWatch.{ClientWatch}
use Rattle.session_watch.proofs.Following.{told, told_nothing}
use Rattle.session_watch.proofs.watch.ClientWatch.tell_piece.Goals as goal

pub returns : goal.returns
returns c = λ start story follows.
    let old = c.args.self.now in
    let new : ClientWatch = record { alloc = old.alloc; came = old.came; said = old.said; sent = c.take.new.self; told = c.in_ok-self.field-0; known = c.note_frames.new.known; since = old.since } in
    let same : c.in_ok-frames.frames ≡ c.as_slice-frames.result.now = search rules in
    told start story old c.args.now c.args.bytes.now c.as_slice-frames.result.now new follows
    (record {
      cuts = λ stream at. subst (λ (fs : List WholeFrame). Cuts stream c.args.bytes.now fs c.take.new.self) same (c.in_ok-frames.ensures stream at);
      told = c.in_ok-self.ensures.speech;
      known = c.in_ok-self.ensures.known;
      since = refl;
      came = refl;
      said = refl;
    })

pub returns-then-passes : goal.returns-then-passes
returns-then-passes c = λ start story follows.
    let old = c.args.self.now in
    let passes : PassesBy (IsNoMessage old.told) c.args.bytes.now old.sent = search rules in
    told start story old c.args.now c.args.bytes.now passes.new old follows (told_nothing old c.args.bytes.now passes)
