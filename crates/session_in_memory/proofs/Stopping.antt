-- What follows the end of a run is without effect.
use Rattle.std.proofs.Common.{◌≡◌, Bool, true, false, List, [], ◌∷◌, ◌++◌, map, refl, sym, ◌∙◌, ap, if◌then◌else◌}
use Rattle.std.proofs.lemmas.Bool.{false≢true}
use Rattle.sm_world.specs.declared.events.Event.{Event}
use Rattle.session_engine.specs.Acts.{deeds_in, has_finish}
use Rattle.session_engine.specs.Machine.{Machine, Came, Did, acts_of, step, script_from, run_from}
use Rattle.session_engine.specs.declared.acts.Act.{Act}
use Rattle.session_engine.proofs.Running.{has_finish-append}
use Rattle.heard_events.proofs.Bringing.{same_rest}

later_finish : (b : Bool) (rest : List Act) → (if b then true else has_finish (if b then [] else rest)) ≡ true → b ≡ false → has_finish rest ≡ true
later_finish true rest e unfinished = absurd (false≢true (sym unfinished))
later_finish false rest e unfinished = e

-- After Finish nothing follows.
pub script_stops : (m : Machine) (xs ys : List Event) → has_finish (script_from m xs) ≡ true → script_from m (xs ++ ys) ≡ script_from m xs
script_stops m [] ys e = absurd (false≢true e)
script_stops m (x ∷ xs) ys e =
    let next = (step m x).next in
    let acts = acts_of (step m x) in
    same_rest (has_finish acts) acts (script_from next (xs ++ ys)) (script_from next xs)
    (λ unfinished. script_stops next xs ys (later_finish (has_finish acts) (script_from next xs) (sym (has_finish-append acts (if has_finish acts then [] else script_from next xs)) ∙ e) unfinished))

pub run_stops : (m : Machine) (xs ys : List Event) → has_finish (script_from m xs) ≡ true → run_from m (xs ++ ys) ≡ run_from m xs
run_stops m [] ys e = absurd (false≢true e)
run_stops m (x ∷ xs) ys e =
    let next = (step m x).next in
    let acts = acts_of (step m x) in
    ap (λ is. Came x ∷ is) (same_rest (has_finish acts) (map Did (deeds_in acts)) (run_from next (xs ++ ys)) (run_from next xs)
    (λ unfinished. run_stops next xs ys (later_finish (has_finish acts) (script_from next xs) (sym (has_finish-append acts (if has_finish acts then [] else script_from next xs)) ∙ e) unfinished)))
