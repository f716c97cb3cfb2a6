-- Pieces that change nothing of what is known of a logout.
use Rattle.std.proofs.Common.{◌≡◌, ℕ, List, [], ◌∷◌, Bool, false, refl, sym, ap, ◌∙◌, subst}
use Rattle.client_quirks.specs.Sides.{Follows, GoesBy, new_frames}
use Rattle.client_quirks.specs.Leaving.{Mark, mark_of, told_by, frames_in, is_kept, Passes, Listens, HearsAt, Hears}
use Rattle.client_quirks.specs.Heeding.{AnswersNothing, AsksNothing, HasNothing}
use Rattle.client_quirks.proofs.Following.{heard_speech, told_speech, side_grown}
use Rattle.client_quirks.proofs.Unheeded.{heard_nothing, told_nothing}
use Rattle.client_quirks.specs.declared.keeper.Keeper.{Keeper}
use Rattle.client_quirks.specs.declared.stage.Stage.{Stage}
use Rattle.client_quirks.specs.declared.stage.Stage.TheVariants.{Released}

pub has_nothing : (k : Keeper) (piece : List ℕ) → GoesBy (AnswersNothing k.came.speech k.stage) k.came.cutter piece → HasNothing k piece
has_nothing k piece goes = record { cuts = goes.cuts; behind_is = heard_nothing k.came.speech k.stage (frames_in k piece) goes.frames }

listens : (k : Keeper) (piece : List ℕ) → HasNothing k piece → is_kept k.stage ≡ false → Listens k piece (piece ∷ []) k
listens k piece nothing free =
    let speech = sym (ap (λ (m : Mark). m.speech) nothing.behind_is) in
    record {
      stage = sym (ap (λ (m : Mark). m.stage) nothing.behind_is);
      speech = speech;
      came = λ stream side. side_grown stream piece k.came k.came nothing.cuts (speech ∙ heard_speech (mark_of k.came k.stage) (frames_in k piece)) side;
      sent = refl;
      ended = refl;
      passes = subst (λ (b : Bool). Passes b k piece (piece ∷ []) k) (sym (ap (λ (m : Mark). is_kept m.stage) nothing.behind_is ∙ free)) (refl, refl);
    }

-- while the client isn't kept
pub hears_at : (k : Keeper) (piece : List ℕ) (t : Stage) → k.stage ≡ t → is_kept t ≡ false → (Listens k piece (piece ∷ []) k → HearsAt t k piece (piece ∷ []) k) → HasNothing k piece → Hears k piece (piece ∷ []) k
hears_at k piece t is free at nothing = subst (λ (u : Stage). HearsAt u k piece (piece ∷ []) k) (sym is) (at (listens k piece nothing (ap is_kept is ∙ free)))

pub hears_released : (k : Keeper) (piece : List ℕ) → k.stage ≡ Released → Hears k piece (piece ∷ []) k
hears_released k piece is =
    let hands : HearsAt Released k piece (piece ∷ []) k = record { stage = is; all = refl; pieces = refl; stays = record { came = refl; sent = refl; ended = refl } } in
    subst (λ (u : Stage). HearsAt u k piece (piece ∷ []) k) (sym is) hands

pub told_by_is : (k : Keeper) (bytes : List ℕ) → GoesBy (AsksNothing k.sent.speech k.stage) k.sent.cutter bytes → told_by k bytes ≡ mark_of k.sent k.stage
told_by_is k bytes goes = told_nothing k.sent.speech k.stage (new_frames k.sent.cutter bytes) goes.frames

pub sent_on : (k : Keeper) (bytes : List ℕ) → GoesBy (AsksNothing k.sent.speech k.stage) k.sent.cutter bytes → Follows k.sent bytes k.sent
sent_on k bytes goes = λ stream side.
    side_grown stream bytes k.sent k.sent goes.cuts (sym (ap (λ (m : Mark). m.speech) (told_by_is k bytes goes)) ∙ told_speech (mark_of k.sent k.stage) (new_frames k.sent.cutter bytes)) side
