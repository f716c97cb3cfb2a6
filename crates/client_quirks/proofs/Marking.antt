-- Going over the frames of either party.
use Rattle.std.proofs.Common.{◌≡◌, ℕ, ◌+◌, ◌<◌, ◌≤◌, List, length, drop, get_or, sym, ap, ◌∙◌, arith}
use Rattle.std.specs.Prelude.{if◌then◌else◌}
use Rattle.std.proofs.lemmas.List.{at_drop_all}
use Rattle.ice_framing.specs.declared.cutting.WholeFrame.{WholeFrame}
use Rattle.frame_speech.proofs.Speeches.{on}
use Rattle.client_quirks.specs.Leaving.{Mark, mark, mark_heard, mark_told, heard_behind, told_behind, front_count, is_kept}
use Rattle.frame_speech.specs.declared.speech.Speech.{Speech}
use Rattle.client_quirks.specs.declared.stage.Stage.{Stage}

pub record Hearing (first : Mark) (frames : List WholeFrame) (speech : Speech) (stage : Stage) (count i : ℕ) : Type 0 where
  pub leads : heard_behind (mark speech stage) (drop i frames) ≡ heard_behind first frames
  pub counts : count + front_count (mark speech stage) (drop i frames) ≡ front_count first frames
  pub within : count ≤ i

pub heard_one : (first : Mark) (frames : List WholeFrame) (speech : Speech) (stage : Stage) (count i : ℕ) (f : WholeFrame) (next : Speech) (to : Stage) (more : ℕ) → Hearing first frames speech stage count i → i < length frames → f ≡ get_or frames i f → next ≡ (mark_heard (mark speech stage) f).speech → to ≡ (mark_heard (mark speech stage) f).stage → more ≡ (if is_kept to then 0 else 1) → more ≤ 1
    → Hearing first frames next to (more + count) (i + 1)
heard_one first frames speech stage count i f next to more hearing there is goes comes adds one =
    let m : mark next to ≡ mark_heard (mark speech stage) f = ap (λ (s : Speech). mark s to) goes ∙ ap (λ (t : Stage). mark (mark_heard (mark speech stage) f).speech t) comes in
    let added : more ≡ (if is_kept (mark_heard (mark speech stage) f).stage then 0 else 1) = adds ∙ ap (λ (t : Stage). if is_kept t then 0 else 1) comes in
    let step : more + front_count (mark next to) (drop (i + 1) frames) ≡ front_count (mark speech stage) (drop i frames) =
    ap (λ (k : Mark). more + front_count k (drop (i + 1) frames)) m ∙ ap (λ (n : ℕ). n + front_count (mark_heard (mark speech stage) f) (drop (i + 1) frames)) added ∙ on (front_count (mark speech stage)) frames i f there is in
    record {
      leads = ap (λ (k : Mark). heard_behind k (drop (i + 1) frames)) m ∙ on (heard_behind (mark speech stage)) frames i f there is ∙ hearing.leads;
      counts = omega (arith, step, hearing.counts);
      within = omega (arith, hearing.within, one);
    }

pub heard_all : (first : Mark) (frames : List WholeFrame) (speech : Speech) (stage : Stage) (count i : ℕ) → Hearing first frames speech stage count i → length frames ≤ i → (mark speech stage ≡ heard_behind first frames) × (count ≡ front_count first frames)
heard_all first frames speech stage count i hearing over =
    let none : front_count (mark speech stage) (drop i frames) ≡ 0 = at_drop_all (front_count (mark speech stage)) frames i over in
    (sym (at_drop_all (heard_behind (mark speech stage)) frames i over) ∙ hearing.leads, omega (arith, none, hearing.counts))

pub record Telling (first : Mark) (frames : List WholeFrame) (speech : Speech) (stage : Stage) (i : ℕ) : Type 0 where
  pub leads : told_behind (mark speech stage) (drop i frames) ≡ told_behind first frames

pub told_one : (first : Mark) (frames : List WholeFrame) (speech : Speech) (stage : Stage) (i : ℕ) (f : WholeFrame) (next : Speech) (to : Stage) → Telling first frames speech stage i → i < length frames → f ≡ get_or frames i f → next ≡ (mark_told (mark speech stage) f).speech → to ≡ (mark_told (mark speech stage) f).stage
    → Telling first frames next to (i + 1)
told_one first frames speech stage i f next to telling there is goes comes =
    let m : mark next to ≡ mark_told (mark speech stage) f = ap (λ (s : Speech). mark s to) goes ∙ ap (λ (t : Stage). mark (mark_told (mark speech stage) f).speech t) comes in
    record { leads = ap (λ (k : Mark). told_behind k (drop (i + 1) frames)) m ∙ on (told_behind (mark speech stage)) frames i f there is ∙ telling.leads }

pub told_all : (first : Mark) (frames : List WholeFrame) (speech : Speech) (stage : Stage) (i : ℕ) → Telling first frames speech stage i → length frames ≤ i → mark speech stage ≡ told_behind first frames
told_all first frames speech stage i telling over = sym (at_drop_all (told_behind (mark speech stage)) frames i over) ∙ telling.leads
