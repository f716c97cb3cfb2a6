use Rattle.std.proofs.Common.{◌+◌, ℕ, List, length, ap, ◌∙◌, arith}
use Rattle.checkpoint_slots.specs.Causes.{Never}
use Rattle.checkpoint_slots.proofs.Leading.{chosen-of, rules-of}
use Rattle.checkpoint_slots.proofs.Looking.{bad-length, found-or-damaged, no-damage, settled-on}
use Rattle.checkpoint_slots.proofs.recovery.read_chosen.Goals as goal

pub returns-then-count-ne0-clause-found : goal.returns-then-count-ne0-clause-found
returns-then-count-ne0-clause-found g c = λ file settled. rw c.start.ensures (bad-length file c.args.slot c.in_ok-count.count (c.in_ok-count.ensures.number file settled) c.then-count-ne0.either)

pub returns-in-Err-clause-found : goal.returns-in-Err-clause-found
returns-in-Err-clause-found g c = no-damage {A = ℕ} {B = ℕ} _ _ (λ file x. Never) (λ file x. Never) _ c.in-Err.fault (λ file settled. settled-on file c.in_ok-count.ensures.world settled) c.in-Err.ensures.found

pub whole_book-requires-clause-size : goal.whole_book-requires-clause-size
whole_book-requires-clause-size g c = let size = ap length c.deref.ensures.value ∙ c.in-Ok.ensures.size in omega (arith, size)

pub whole_book-requires-clause-book : goal.whole_book-requires-clause-book
whole_book-requires-clause-book g c = let size = ap length c.deref.ensures.value ∙ c.in-Ok.ensures.size in let most = c.if-count-gt-BOOK_BYTES.false in omega (arith, size, most)

pub returns-clause-found : goal.returns-clause-found
returns-clause-found g c =
    let at : ℕ = c.start-at.result + 16 in
    let n : ℕ = c.in_ok-count.count in
    let bytes : List ℕ = c.deref.result.now in
    found-or-damaged _ c.args.slot at n bytes c.whole_book.result c.whole_book.ensures.ok c.whole_book.ensures.err (ap (λ (k : ℕ). k + 16) c.start-at.ensures) c.if-count-ne0.false c.if-count-gt-BOOK_BYTES.false c.in_ok-count.ensures.number
    (λ file settled. c.deref.ensures.value ∙ c.in-Ok.ensures.found file (settled-on file c.in_ok-count.ensures.world settled))

pub returns-clause-rules : goal.returns-clause-rules
returns-clause-rules g c = rules-of (c.start-at.result + 16) c.in_ok-count.count c.deref.result.now c.whole_book.result c.whole_book.ensures.ok

pub returns-clause-named : goal.returns-clause-named
returns-clause-named g c = chosen-of (c.start-at.result + 16) c.in_ok-count.count c.deref.result.now c.whole_book.result c.whole_book.ensures.ok
