use Rattle.std.proofs.Common.{rules, ◌≡◌, ◌∙◌, ap, sym, List}
use Rattle.ice_framing.specs.declared.cutting.WholeFrame.{WholeFrame}
use Rattle.frame_speech.specs.Speech.{speech_behind}
use Rattle.client_quirks.specs.Sides.{new_frames, GoesBy}
use Rattle.client_quirks.specs.Heeding.{AsksNothing}
use Rattle.client_quirks.specs.Leaving.{Mark, mark}
use Rattle.client_quirks.proofs.Unheard.{told_by_is, sent_on}
use Rattle.client_quirks.specs.declared.side.Side.{Side}
use Rattle.frame_speech.specs.declared.speech.Speech.{Speech}
use Rattle.client_quirks.proofs.Following.{told_speech, side_grown}
use Rattle.client_quirks.proofs.keeper.Keeper.tell.Goals as goal

pub returns-clause-sent : goal.returns-clause-sent
returns-clause-sent c = λ stream side.
    let old = c.args.self.now.sent in
    let frames : c.as_slice.result.now ≡ new_frames old.cutter c.args.bytes.now = search rules in
    let new : Side = record { cutter = c.take.new.self.cutter; speech = c.in_ok-walked.walked.speech } in
    let speech : new.speech ≡ speech_behind old.speech (new_frames old.cutter c.args.bytes.now) =
    c.in_ok-walked.ensures.speech ∙ told_speech (mark c.take.new.self.speech c.args.self.now.stage) c.as_slice.result.now
    ∙ ap (λ (s : Speech). speech_behind s c.as_slice.result.now) c.take.ensures.speech
    ∙ ap (λ (fs : List WholeFrame). speech_behind old.speech fs) frames in
    side_grown stream c.args.bytes.now old new c.in_ok-frames.ensures.rest speech side

pub returns-then-passes-clause-stage : goal.returns-then-passes-clause-stage
returns-then-passes-clause-stage c =
    let old = c.args.self.now in
    let goes : GoesBy (AsksNothing old.sent.speech old.stage) old.sent.cutter c.args.bytes.now = search rules in
    sym (ap (λ (m : Mark). m.stage) (told_by_is old c.args.bytes.now goes))

pub returns-then-passes-clause-speech : goal.returns-then-passes-clause-speech
returns-then-passes-clause-speech c =
    let old = c.args.self.now in
    let goes : GoesBy (AsksNothing old.sent.speech old.stage) old.sent.cutter c.args.bytes.now = search rules in
    sym (ap (λ (m : Mark). m.speech) (told_by_is old c.args.bytes.now goes))

pub returns-then-passes-clause-sent : goal.returns-then-passes-clause-sent
returns-then-passes-clause-sent c =
    let old = c.args.self.now in
    let goes : GoesBy (AsksNothing old.sent.speech old.stage) old.sent.cutter c.args.bytes.now = search rules in
    sent_on old c.args.bytes.now goes
