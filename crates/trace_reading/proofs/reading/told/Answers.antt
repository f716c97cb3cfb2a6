use Rattle.std.proofs.Common.{◌≡◌, ◌+◌, List, ◌∷◌, ◌++◌, drop, sym, ◌∙◌, ap, rules}
use Rattle.std.proofs.lemmas.List.{drop_more}
use Rattle.trace_replay.specs.declared.lines.TraceLine.{TraceLine}
use Rattle.trace_reading.specs.Lines.{opening_told}
use Rattle.trace_reading.proofs.TellingLemmas.{tells_all, tells_none, tells_on}
use Rattle.trace_reading.proofs.reading.told.Goals as goal

pub loop-said-init : goal.loop-said-init
loop-said-init c =
    tells_none c.args.opening.now c.args.lines.now c.new-teller.result c.put_opening.new.out c.new-teller.ensures (c.in_ok-put_opening.ensures ∙ ap (λ front. front ++ opening_told c.args.opening.now) c.new-text.ensures)

pub loop-said-preserved : goal.loop-said-preserved
loop-said-preserved c =
    let rest : List TraceLine = drop (c.loop-said.said-index + 1) c.args.lines.now in
    let left : drop c.loop-said.said-index c.args.lines.now ≡ c.said-item.result ∷ rest = drop_more c.args.lines.now c.loop-said.said-index c.said-item.result c.loop-said-test.true ∙ ap (λ said. said ∷ rest) (sym c.said-item.is) in
    tells_on c.args.opening.now c.args.lines.now c.loop-said.said-index (c.loop-said.said-index + 1) c.said-item.result c.loop-said.teller c.tell.new.self c.loop-said.text c.tell.new.out c.loop-said.invariant left c.in_ok-tell.ensures

pub returns : goal.returns
returns c = tells_all c.args.opening.now c.args.lines.now c.loop-said.said-index c.loop-said.teller c.loop-said.text c.loop-said.invariant (search rules)
