-- A round that is agreed, and that hadn't begun before, began since then.
use Rattle.std.proofs.Common.{◌≡◌, refl, ℕ, ◌-◌, ◌^◌, ◌<◌, ◌≤◌, Bool, true, false, cond, List, [], ◌∷◌, ◌++◌, sym, ap, subst, ◌∙◌, arith}
use Rattle.std.specs.Prelude.{Option, None, Some}
use Rattle.std.proofs.lemmas.List.{append_assoc}
use Rattle.sm_world.specs.Calls.{one_more}
use Rattle.session_model.specs.declared.marks.Marks.{Marks}
use Rattle.session_model.specs.Moves.{Agreed, Began, Cancelled, History, Move, Opened, Over, onto, ◌▷◌}
use Rattle.session_model.specs.Readings as of
use Rattle.session_model.specs.Waits.{is_global}
use Rattle.session_model.proofs.Level.{onto-append}
use Rattle.session_model.proofs.MoveKinds.{every-append}
use Rattle.agreement_marks.specs.Agreements.{AgreedRoundsBeganSince, HasAgreed, TurnNone, is_turn}

-- Moves, the latest first

-- the history after these moves, the latest first
abbrev pub past : History → List Move → History
past h [] = h
past h (m ∷ back) = m ▷ past h back

-- the same moves, the oldest first
abbrev pub in_order : List Move → List Move
in_order [] = []
in_order (m ∷ back) = in_order back ++ m ∷ []

pub past-is : (h : History) (back : List Move) → onto h (in_order back) ≡ past h back
past-is h [] = refl
past-is h (m ∷ back) = onto-append h (in_order back) (m ∷ []) ∙ ap (λ (g : History). m ▷ g) (past-is h back)

first-last : (m : Move) (back : List Move) → in_order (back ++ m ∷ []) ≡ m ∷ in_order back
first-last m [] = refl
first-last m (x ∷ back) = ap (λ (ys : List Move). ys ++ x ∷ []) (first-last m back)

-- each list is such a one
pub backwards : (moves : List Move) → (back : List Move) × (in_order back ≡ moves)
backwards [] = ([], refl)
backwards (m ∷ moves) =
    let b : (back : List Move) × (in_order back ≡ moves) = backwards moves in
    (b.0 ++ m ∷ [], first-last m b.0 ∙ ap (λ (xs : List Move). m ∷ xs) b.1)

-- No round is agreed that hasn't begun

abbrev largest : ℕ
largest = 2 ^ 64 - 1

record Grows (marks : Marks) : Type 0 where
  pub agreed : marks.agreed ≤ marks.begun
  pub begun : marks.begun ≤ largest

least : (n : ℕ) → n ≤ n
least n = omega arith

more-begun : (n : ℕ) → n ≤ largest → n ≤ one_more n
more-begun n k = omega (arith, k)

less-begun : (n : ℕ) → one_more n ≤ largest
less-begun n = omega arith

grows-began : (b : Bool) (marks : Marks) → Grows marks → Grows (cond b (record marks { begun = one_more marks.begun }) marks)
grows-began true marks g = record { agreed = omega (arith, g.agreed, more-begun marks.begun g.begun); begun = less-begun marks.begun }
grows-began false marks g = g

grows-over : (b : Bool) (marks : Marks) → Grows marks → Grows (cond b (record marks { ended = marks.begun }) marks)
grows-over true marks g = record { agreed = g.agreed; begun = g.begun }
grows-over false marks g = g

grows-agreed : (b : Bool) (marks : Marks) → Grows marks → Grows (cond b (record marks { ended = marks.begun; agreed = marks.begun }) marks)
grows-agreed true marks g = record { agreed = least marks.begun; begun = g.begun }
grows-agreed false marks g = g

grows : (h : History) → Grows (of.marks h)
grows (Opened opening) = record { agreed = omega arith; begun = omega arith }
grows (Began conns wanted ▷ h) = grows-began (is_global wanted) (of.marks h) (grows h)
grows (Over ▷ h) = grows-over (of.is_global_round (of.wanted h)) (of.marks h) (grows h)
grows (Cancelled ▷ h) = grows-over (of.is_global_round (of.wanted h)) (of.marks h) (grows h)
grows (Agreed ▷ h) = grows-agreed (of.is_global_round (of.wanted h)) (of.marks h) (grows h)
grows (m ▷ h) = grows h

-- Where a round of all clients runs and more have begun than before, it began since then

record Born (moves : List Move) (r : of.Begun) : Type 0 where
  pub front : List Move
  pub between : List Move
  pub parts : front ++ Began r.members r.wanted ∷ between ≡ moves
  pub one_round : TurnNone between

abbrev was : of.Begun → Option of.Begun → of.Begun
was r None = r
was r (Some s) = s

-- the round that began last
born-last : (moves : List Move) (s r : of.Begun) → Some s ≡ Some r → Born (moves ++ Began s.members s.wanted ∷ []) r
born-last moves s r e = record {
  front = moves;
  between = [];
  parts = ap (λ (x : of.Begun). moves ++ Began x.members x.wanted ∷ []) (sym (ap (λ (o : Option of.Begun). was r o) e));
  one_round = tt;
}

none-runs : (r : of.Begun) → None ≡ Some r → ⊥
none-runs r e = grind arith

born-on : (m : Move) (moves : List Move) (r : of.Begun) → is_turn m ≡ false → Born moves r → Born (moves ++ m ∷ []) r
born-on m moves r k b = record {
  front = b.front;
  between = b.between ++ m ∷ [];
  parts = sym (append_assoc b.front (Began r.members r.wanted ∷ b.between) (m ∷ [])) ∙ ap (λ (xs : List Move). xs ++ m ∷ []) b.parts;
  one_round = every-append (λ x. is_turn x ≡ false) b.between (m ∷ []) b.one_round (k, tt);
}

born : (h : History) (back : List Move) (r : of.Begun) → of.running (past h back) ≡ Some r → is_global r.wanted ≡ true → (of.marks h).begun < (of.marks (past h back)).begun → Born (in_order back) r
born h [] r e g k = absurd (omega (arith, k))
born h (Began conns wanted ∷ back) r e g k = born-last (in_order back) (record { members = conns; wanted = wanted }) r e
born h (Over ∷ back) r e g k = absurd (none-runs r e)
born h (Cancelled ∷ back) r e g k = absurd (none-runs r e)
born h (Agreed ∷ back) r e g k = absurd (none-runs r e)
born h (m ∷ back) r e g k = born-on m (in_order back) r refl (born h back r e g k)

-- The law

agreed-on : (m : Move) (moves : List Move) → HasAgreed moves → HasAgreed (moves ++ m ∷ [])
agreed-on m moves a = record {
  front = a.front;
  conns = a.conns;
  wanted = a.wanted;
  between = a.between;
  rest = a.rest ++ m ∷ [];
  parts = sym (append_assoc (a.front ++ Began a.conns a.wanted ∷ a.between) (Agreed ∷ a.rest) (m ∷ [])) ∙ ap (λ (xs : List Move). xs ++ m ∷ []) a.parts;
  global = a.global;
  one_round = a.one_round;
}

agreed-now : (moves : List Move) (r : of.Begun) → is_global r.wanted ≡ true → Born moves r → HasAgreed (moves ++ Agreed ∷ [])
agreed-now moves r g b = record {
  front = b.front;
  conns = r.members;
  wanted = r.wanted;
  between = b.between;
  rest = [];
  parts = ap (λ (xs : List Move). xs ++ Agreed ∷ []) b.parts;
  global = g;
  one_round = b.one_round;
}

module _ (h : History) (back : List Move) (further : (of.marks h).begun < (of.marks (past h back)).agreed → HasAgreed (in_order back)) where
  agreed-global : (b : Bool) (r : of.Begun) → of.running (past h back) ≡ Some r → is_global r.wanted ≡ b
      → (of.marks h).begun < (cond b (record (of.marks (past h back)) { ended = (of.marks (past h back)).begun; agreed = (of.marks (past h back)).begun }) (of.marks (past h back))).agreed
      → HasAgreed (in_order back ++ Agreed ∷ [])
  agreed-global true r e g k = agreed-now (in_order back) r g (born h back r e g k)
  agreed-global false r e g k = agreed-on Agreed (in_order back) (further k)

  agreed-at : (o : Option of.Begun) → of.running (past h back) ≡ o
      → (of.marks h).begun < (of.marks_after Agreed (of.wanted_of o) (of.marks (past h back))).agreed
      → HasAgreed (in_order back ++ Agreed ∷ [])
  agreed-at None e k = agreed-on Agreed (in_order back) (further k)
  agreed-at (Some r) e k = agreed-global (is_global r.wanted) r e refl k

began-keeps : (b : Bool) (marks : Marks) → (cond b (record marks { begun = one_more marks.begun }) marks).agreed ≡ marks.agreed
began-keeps true marks = refl
began-keeps false marks = refl

over-keeps : (b : Bool) (marks : Marks) → (cond b (record marks { ended = marks.begun }) marks).agreed ≡ marks.agreed
over-keeps true marks = refl
over-keeps false marks = refl

since : (h : History) (back : List Move) → (of.marks h).begun < (of.marks (past h back)).agreed → HasAgreed (in_order back)
since h [] k = absurd (omega (arith, k, (grows h).agreed))
since h (Began conns wanted ∷ back) k =
    agreed-on (Began conns wanted) (in_order back) (since h back (subst (λ (n : ℕ). (of.marks h).begun < n) (began-keeps (is_global wanted) (of.marks (past h back))) k))
since h (Over ∷ back) k =
    agreed-on Over (in_order back) (since h back (subst (λ (n : ℕ). (of.marks h).begun < n) (over-keeps (of.is_global_round (of.wanted (past h back))) (of.marks (past h back))) k))
since h (Cancelled ∷ back) k =
    agreed-on Cancelled (in_order back) (since h back (subst (λ (n : ℕ). (of.marks h).begun < n) (over-keeps (of.is_global_round (of.wanted (past h back))) (of.marks (past h back))) k))
since h (Agreed ∷ back) k = agreed-at h back (λ q. since h back q) (of.running (past h back)) refl k
since h (m ∷ back) k = agreed-on m (in_order back) (since h back k)

pub began-since : AgreedRoundsBeganSince
began-since h moves k =
    let b : (back : List Move) × (in_order back ≡ moves) = backwards moves in
    subst (λ (xs : List Move). HasAgreed xs) b.1
    (since h b.0
    (subst (λ (g : History). (of.marks h).begun < (of.marks g).agreed) (past-is h b.0)
    (subst (λ (xs : List Move). (of.marks h).begun < (of.marks (onto h xs)).agreed) (sym b.1) k)))
