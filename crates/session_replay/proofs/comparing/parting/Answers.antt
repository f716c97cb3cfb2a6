use Rattle.std.proofs.Common.{◌≡◌, ◌+◌, List, [], ◌∷◌, ◌++◌, take, drop, sym, ◌∙◌, ap, subst, arith, rules}
use Rattle.std.proofs.lemmas.List.{drop_more, take_all, take_more, take-append-drop}
use Rattle.sm_world.specs.declared.effects.Effect.{Effect}
use Rattle.control_lines.specs.Lines.{lines_of}
use Rattle.session_engine.specs.Doing.{items}
use Rattle.session_in_memory.specs.Lines.{run_lines}
use Rattle.session_replay.specs.Comparing.{GoesOn}
use Rattle.session_replay.proofs.ComparingLemmas.{all_found, more_found, one_further, stops}
use Rattle.session_replay.proofs.comparing.parting.Goals as goal

pub returns-in-None : goal.returns-in-None
returns-in-None c =
    let front : List Effect = take c.loop-effect.effect-index c.args.effects.now in
    let rest : List Effect = drop (c.loop-effect.effect-index + 1) c.args.effects.now in
    let left : drop c.loop-effect.effect-index c.args.effects.now ≡ c.effect-item.result ∷ rest = drop_more c.args.effects.now c.loop-effect.effect-index c.effect-item.result c.loop-effect-test.true ∙ ap (λ effect. effect ∷ rest) (sym c.effect-item.is) in
    let whole : front ++ c.effect-item.result ∷ rest ≡ c.args.effects.now = ap (λ effects. front ++ effects) (sym left) ∙ take-append-drop c.loop-effect.effect-index c.args.effects.now in
    stops c.args.effects.now front c.effect-item.result rest (lines_of c.args.text.now) (lines_of c.loop-effect.left.now) c.count_lines.result whole c.loop-effect.invariant (rw c.in-None.is at c.in_ok-rest.ensures) c.count_lines.ensures

pub loop-effect-preserved : goal.loop-effect-preserved
loop-effect-preserved c =
    let front : List Effect = take c.loop-effect.effect-index c.args.effects.now in
    let grown : front ++ c.effect-item.result ∷ [] ≡ take (c.loop-effect.effect-index + 1) c.args.effects.now = sym (take_more c.args.effects.now c.loop-effect.effect-index c.effect-item.result c.loop-effect-test.true ∙ ap (λ effect. front ++ effect ∷ []) (sym c.effect-item.is)) in
    one_further (take (c.loop-effect.effect-index + 1) c.args.effects.now) front c.effect-item.result (lines_of c.args.text.now) (lines_of c.loop-effect.left.now) (lines_of c.in-Some.rest.now) grown c.loop-effect.invariant (rw c.in-Some.is at c.in_ok-rest.ensures)
