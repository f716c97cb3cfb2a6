use Rattle.std.proofs.Common.{rules, ◌≡◌, List, refl, subst}
use Rattle.ice_framing.specs.declared.cutting.WholeFrame.{WholeFrame}
use Rattle.frame_speech.specs.Streams.{Cuts}
use Rattle.frame_speech.specs.Passing.{PassesBy}
use Rattle.session_watch.specs.Story.{IsNoMessage}
use Rattle.session_watch.specs.declared.watch.ClientWatch.{ClientWatch}
use Rattle.session_watch.proofs.Following.{heard, heard_nothing}
use Rattle.session_watch.proofs.watch.ClientWatch.hear_piece.Goals as goal

pub returns : goal.returns
returns c = λ start story follows.
    let old = c.args.self.now in
    let new : ClientWatch = record { alloc = old.alloc; came = c.take.new.self; said = c.in_ok-self.field-0; sent = old.sent; told = old.told; known = c.note_frames.new.known; since = c.args.now } in
    let same : c.in_ok-frames.frames ≡ c.as_slice-frames.result.now = search rules in
    heard start story old c.args.now c.args.bytes.now c.as_slice-frames.result.now new follows
    (record {
      cuts = λ stream at. subst (λ (fs : List WholeFrame). Cuts stream c.args.bytes.now fs c.take.new.self) same (c.in_ok-frames.ensures stream at);
      said = c.in_ok-self.ensures.speech;
      known = c.in_ok-self.ensures.known;
      since = refl;
      sent = refl;
      told = refl;
    })

pub returns-then-passes : goal.returns-then-passes
returns-then-passes c = λ start story follows.
    let old = c.args.self.now in
    let passes : PassesBy (IsNoMessage old.said) c.args.bytes.now old.came = search rules in
    let new : ClientWatch = record old { since = c.args.now } in
    heard start story old c.args.now c.args.bytes.now passes.new new follows (heard_nothing old c.args.now c.args.bytes.now new passes refl)
