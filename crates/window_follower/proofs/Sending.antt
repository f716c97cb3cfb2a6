-- What waits is asked one after the other.
use Rattle.std.proofs.Common.{◌≡◌, ℕ, ◌+◌, ◌-◌, ◌≤◌, min, List, ◌++◌, length, take, drop, sym, ap, ap₂, ◌∙◌, append_assoc, length-append, arith, subst, Bool, true, false, nat_lt, nat_le, ◌&&◌, refl, [], ◌∷◌, ◌⊎◌, inl, inr}
use Rattle.std.proofs.lemmas.Bool.{leb-true, le-leb, ltb-false, false≢true}
use Rattle.std.proofs.lemmas.Grind.{common_steps}
use Rattle.std.proofs.Math.Seq.{take-add}
use Rattle.std.proofs.lemmas.List.{drop_all, drop-drop, take_min, drop_min}
use Rattle.window_follower.specs.Asked.{Asked, moved, room, wants_mark, mark_if}
use Rattle.window_follower.specs.Laws.{AMarkIsAskedFor, FewAreOpen}
use Rattle.window_follower.specs.declared.question.Question.{Question}
use Rattle.window_follower.specs.declared.question.Question.TheVariants.{Mark}

pub sent_more : (n : ℕ) (xs ws : List Question) → (xs ++ take n ws) ++ take 1 (drop n ws) ≡ xs ++ take (n + 1) ws
sent_more n xs ws = append_assoc xs (take n ws) (take 1 (drop n ws)) ∙ ap (λ ys. xs ++ ys) (sym (take-add n 1 ws))

pub moved_more : (n : ℕ) (old : Asked) → moved 1 (moved n old) ≡ moved (n + 1) old
moved_more n old = ap₂ (λ (u w : List Question). record old { unanswered = u; waiting = w }) (sent_more n old.unanswered old.waiting) (drop-drop 1 n old.waiting)

-- no more are asked than wait
pub moved_all : (n : ℕ) (old : Asked) → moved (min n (length old.waiting)) old ≡ moved n old
moved_all n old = ap₂ (λ (u w : List Question). record old { unanswered = old.unanswered ++ u; waiting = w }) (take_min n old.waiting) (drop_min n old.waiting)

-- one step
pub step_sent : (n : ℕ) (old at : Asked) (before so more : List Question) → so ≡ before ++ take n old.waiting → at ≡ moved n old → more ≡ so ++ take 1 at.waiting → more ≡ before ++ take (n + 1) old.waiting
step_sent n old at before so more is stands adds =
    adds ∙ (ap (λ (q : Asked). so ++ take 1 q.waiting) stands ∙ (ap (λ (xs : List Question). xs ++ take 1 (drop n old.waiting)) is ∙ sent_more n before old.waiting))

pub step_moved : (n : ℕ) (old at after : Asked) → at ≡ moved n old → after ≡ moved 1 at → after ≡ moved (n + 1) old
step_moved n old at after stands moves = moves ∙ (ap (moved 1) stands ∙ moved_more n old)

second_true : (x y : Bool) → (x && y) ≡ true → y ≡ true
second_true true y e = e
second_true false y e = absurd (false≢true e)

few_sums : (limit u t m : ℕ) → t ≤ limit - u → m ≤ 1 → u ≤ limit → u + t + m ≤ limit + 1
few_sums limit u t m a b c = omega arith

few_unmarked : (limit u t : ℕ) → t ≤ limit - u → u ≤ limit + 1 → u + t + 0 ≤ limit + 1
few_unmarked limit u t a b = omega arith

taken : (n : ℕ) (ws : List Question) → length (take n ws) ≤ n
taken n ws = grind (arith, common_steps)

-- no more are open than may be
pub few : FewAreOpen
few asked are = by (wants_mark asked) refl
  where
    sent : List Question
    sent = take (room asked) asked.waiting

    sums : (marks : List Question) → length ((asked.unanswered ++ sent) ++ marks) ≡ length asked.unanswered + length sent + length marks
    sums marks = length-append (asked.unanswered ++ sent) marks ∙ ap (λ (n : ℕ). n + length marks) (length-append asked.unanswered sent)

    by : (b : Bool) → wants_mark asked ≡ b → length ((asked.unanswered ++ sent) ++ mark_if b) ≤ 65535
    by true is = subst (λ (n : ℕ). n ≤ 65535) (sym (sums (mark_if true))) (few_sums 65534 (length asked.unanswered) (length sent) 1 (taken (room asked) asked.waiting) (omega arith) (leb-true (length asked.unanswered) 65534 (second_true (nat_lt (room asked) (length asked.waiting)) (nat_le (length asked.unanswered) 65534) is)))
    by false is = subst (λ (n : ℕ). n ≤ 65535) (sym (sums (mark_if false))) (few_unmarked 65534 (length asked.unanswered) (length sent) (taken (room asked) asked.waiting) are)

-- where more waits than there was room for, a mark is last
pub mark : AMarkIsAskedFor
mark asked few_open = by (nat_lt (room asked) (length asked.waiting)) refl
  where
    by : (b : Bool) → nat_lt (room asked) (length asked.waiting) ≡ b → (drop (room asked) asked.waiting ≡ []) ⊎ (((asked.unanswered ++ take (room asked) asked.waiting) ++ mark_if (wants_mark asked)) ≡ ((asked.unanswered ++ take (room asked) asked.waiting) ++ Mark 0 ∷ []))
    by true is =
        let wants : wants_mark asked ≡ true = ap (λ (b : Bool). b && nat_le (length asked.unanswered) 65534) is ∙ le-leb (length asked.unanswered) 65534 few_open in
        inr (ap (λ (b : Bool). (asked.unanswered ++ take (room asked) asked.waiting) ++ mark_if b) wants)
    by false is = inl (drop_all (room asked) asked.waiting (ltb-false (room asked) (length asked.waiting) is))
