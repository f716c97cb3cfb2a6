use Rattle.std.proofs.Common.{rules, arith, ◌≡◌, ◌∷◌, ◌<◌, ◌≤◌, ◌+◌, ap, codes, drop, length, map, string_bytes}
use Rattle.std.proofs.lemmas.List.{length-map}
use Rattle.serve_words.specs.Items.{Item}
use Rattle.serve_words.specs.Words.{chosen_of}
use Rattle.serve_words.specs.Reading.{BeginWith, StandsAt, item_of}
use Rattle.serve_words.proofs.Steps.{finishes, misses, refuses, takes}
use Rattle.serve_words.proofs.words.read_serve.Goals as goal

pub returns-in-None : goal.returns-in-None
returns-in-None c =
    let ws = map string_bytes c.args.words.now in
    let few : c.loop-at.at < length ws = omega (arith, c.loop-at-test.true, length-map c.args.words.now string_bytes) in
    let none : (item : Item) → ¬ (BeginWith (drop c.loop-at.at ws) item) = search rules in
    misses ws c.loop-at.at (chosen_of c.loop-at.serve) few none c.loop-at.invariant

pub returns-then-not-branch : goal.returns-then-not-branch
returns-then-not-branch c =
    let ws = map string_bytes c.args.words.now in
    let stands : StandsAt ws c.loop-at.at (item_of c.in-Some.item) = search rules in
    refuses ws c.loop-at.at (chosen_of c.loop-at.serve) (chosen_of c.take.new.self) (item_of c.in-Some.item) c.in_ok-take.field-0 stands c.if-not-branch.true c.in_ok-take.ensures c.loop-at.invariant

pub loop-at-preserved : goal.loop-at-preserved
loop-at-preserved c =
    let ws = map string_bytes c.args.words.now in
    let stands : StandsAt ws c.loop-at.at (item_of c.in-Some.item) = search rules in
    takes ws c.loop-at.at (c.loop-at.at + c.count.result) (chosen_of c.loop-at.serve) (chosen_of c.take.new.self) (item_of c.in-Some.item) c.in_ok-take.field-0 stands (ap (λ n. c.loop-at.at + n) c.count.ensures) c.if-not-branch.false c.in_ok-take.ensures c.loop-at.invariant

pub returns : goal.returns
returns c =
    let ws = map string_bytes c.args.words.now in
    let all : length ws ≤ c.loop-at.at = omega (arith, c.loop-at-test.false, length-map c.args.words.now string_bytes) in
    let begins : ws ≡ codes "serve" ∷ drop 1 ws = search rules in
    finishes ws c.loop-at.at (chosen_of c.loop-at.serve) all begins c.loop-at.invariant
