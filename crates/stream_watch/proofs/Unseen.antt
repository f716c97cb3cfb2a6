-- Bytes that are passed over, in which nobody is let in or told to die.
use Rattle.std.proofs.Common.{◌≡◌, ℕ, List, [], ◌∷◌, ◌++◌, Bool, true, false, refl, sym, ap, ◌∙◌}
use Rattle.std.specs.Prelude.{◌||◌}
use Rattle.std.specs.List.{list_any, AllByRecursion}
use Rattle.std.proofs.lemmas.Bool.{false≢true}
use Rattle.std.proofs.lemmas.List.Folds.{list_any-append}
use Rattle.ice_framing.specs.Frames.{frames_of}
use Rattle.ice_framing.specs.declared.cutting.WholeFrame.{WholeFrame}
use Rattle.frame_speech.specs.Passing.{IsPassed, PassesBy}
use Rattle.stream_watch.specs.Watching.{Follows, is_connection_reply, is_die, IsNoTurn}
use Rattle.stream_watch.specs.declared.watch.Watch.{Watch}

neither : (a b : Bool) → (a || b) ≡ false → (a ≡ false) × (b ≡ false)
neither true b is = absurd (false≢true (sym is))
neither false b is = (refl, is)

or-nil : (a : Bool) → (a || false) ≡ a
or-nil true = refl
or-nil false = refl

unseen : (test : WholeFrame → Bool) → ((f : WholeFrame) → IsNoTurn f → test f ≡ false) → (fs : List WholeFrame) → AllByRecursion (IsPassed IsNoTurn) fs → list_any test fs ≡ false
unseen test misses [] all = refl
unseen test misses (f ∷ fs) all = ap (λ (b : Bool). b || list_any test fs) (misses f all.0.1) ∙ unseen test misses fs all.1

seen_still : (test : WholeFrame → Bool) (sent bytes : List ℕ) (new : List WholeFrame) → frames_of (sent ++ bytes) ≡ frames_of sent ++ new → list_any test new ≡ false → list_any test (frames_of sent) ≡ list_any test (frames_of (sent ++ bytes))
seen_still test sent bytes new are none =
    sym (ap (list_any test) are ∙ list_any-append test (frames_of sent) new ∙ ap (λ (b : Bool). list_any test (frames_of sent) || b) none ∙ or-nil (list_any test (frames_of sent)))

pub follows_still : (sent bytes : List ℕ) (watch : Watch) → PassesBy IsNoTurn bytes watch.sent → Follows sent watch → Follows (sent ++ bytes) watch
follows_still sent bytes watch passes follows =
    let cuts = passes.cuts sent follows.stands in
    let unlet : list_any is_connection_reply passes.new ≡ false = unseen is_connection_reply (λ f none. (neither (is_connection_reply f) (is_die f) none).0) passes.new passes.frames in
    let untold : list_any is_die passes.new ≡ false = unseen is_die (λ f none. (neither (is_connection_reply f) (is_die f) none).1) passes.new passes.frames in
    record {
      stands = cuts.stands;
      let_in = follows.let_in ∙ seen_still is_connection_reply sent bytes passes.new cuts.frames unlet;
      told_to_die = follows.told_to_die ∙ seen_still is_die sent bytes passes.new cuts.frames untold;
    }
