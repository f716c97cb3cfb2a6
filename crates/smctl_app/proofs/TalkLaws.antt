-- What calls one after another send and see.
use Rattle.std.specs.Prelude.{◌||◌}
use Rattle.std.proofs.Common.{◌≡◌, ◌⊎◌, inl, inr, ℕ, Bool, true, false, List, [], ◌∷◌, ◌++◌, Option, Some, None, Result, Ok, Err, refl, sym, ◌∙◌, ap, subst, append_assoc}
use Rattle.std.proofs.lemmas.Bool.{false≢true}
use Rattle.std.proofs.lemmas.List.{append-nil}
use Rattle.smctl_app.specs.Requests.{IsOutside, IsOfLogout}
use Rattle.smctl_app.specs.Talking.{Adds, AreQuestions, clients_line, is_cancellation, is_leaving, is_over, more, OrdersLogout, SendsLogout, SendsOne, shows_over, shutdown_line, status_line, TellsEnd}
use Rattle.smctl_app.specs.declared.fault.Fault.{Fault}
use Rattle.smctl_app.specs.declared.fault.Fault.TheVariants.{BadWords, NoControl, Unordered, Cancelled, Link, Gone, Unreadable, Console, NoMemory}
use Rattle.smctl_app.specs.declared.waiting.Glance.{Glance}

pub more-none : {A : Type 0} (old : Option (List A)) → more old [] ≡ old
more-none None = refl
more-none (Some told) = ap Some (append-nil told)

more-more : {A : Type 0} (old : Option (List A)) (xs ys : List A) → more (more old xs) ys ≡ more old (xs ++ ys)
more-more None xs ys = refl
more-more (Some told) xs ys = ap Some (append_assoc told xs ys)

-- Nothing was added.
pub adds-nothing : {A : Type 0} (old new : Option (List A)) (P : List A → Type 0) → new ≡ old → P [] → Adds old new P
adds-nothing old new P same none = record { items = []; added = same ∙ sym (more-none old); holds = none }

-- One was added behind the other.
pub adds-then : {A : Type 0} (old mid new : Option (List A)) (P Q R : List A → Type 0) → Adds old mid P → Adds mid new Q → ((xs ys : List A) → P xs → Q ys → R (xs ++ ys)) → Adds old new R
adds-then old mid new P Q R first second both = record {
  items = first.items ++ second.items;
  added = second.added ∙ (ap (λ it. more it second.items) first.added ∙ more-more old first.items second.items);
  holds = both first.items second.items first.holds second.holds;
}

pub adds-still : {A : Type 0} (old mid new : Option (List A)) (P : List A → Type 0) → Adds old mid P → new ≡ mid → Adds old new P
adds-still old mid new P first same = record { items = first.items; added = same ∙ first.added; holds = first.holds }

pub adds-so : {A : Type 0} (old new : Option (List A)) (P Q : List A → Type 0) → Adds old new P → ((xs : List A) → P xs → Q xs) → Adds old new Q
adds-so old new P Q first so = record { items = first.items; added = first.added; holds = so first.items first.holds }

-- A line that was said, whatever came of it,
one-of : {A E : Type 0} (said : List ℕ) (result : Result A E) → SendsOne said result (said ∷ [])
one-of said (Ok x) = refl
one-of said (Err e) = inr refl

pub sends-one : {A E : Type 0} (said : List ℕ) (old mid new : Option (List (List ℕ))) (result : Result A E) → mid ≡ more old (said ∷ []) → new ≡ mid → Adds old new (SendsOne said result)
sends-one said old mid new result first same = record { items = said ∷ []; added = same ∙ first; holds = one-of said result }

-- and one that wasn't.
pub sends-none : (said : List ℕ) (old new : Option (List (List ℕ))) → new ≡ more old [] → Adds old new (λ lines. (lines ≡ []) ⊎ (lines ≡ said ∷ []))
sends-none said old new none = record { items = []; added = none; holds = inl refl }

pub both-ask : (xs ys : List (List ℕ)) → AreQuestions xs → AreQuestions ys → AreQuestions (xs ++ ys)
both-ask [] ys one two = two
both-ask (x ∷ xs) ys one two = (one.0, both-ask xs ys one.1 two)

pub status-asks : AreQuestions (status_line ∷ [])
status-asks = (inr refl, tt)

-- The question who is there was sent,
pub clients-asked : (lines : List (List ℕ)) → lines ≡ clients_line ∷ [] → AreQuestions lines
clients-asked lines is = subst AreQuestions (sym is) (inl refl, tt)

-- or nothing was.
pub clients-perhaps : (lines : List (List ℕ)) → (lines ≡ []) ⊎ (lines ≡ clients_line ∷ []) → AreQuestions lines
clients-perhaps lines (inl none) = subst AreQuestions (sym none) tt
clients-perhaps lines (inr one) = clients-asked lines one

-- ---- logouts

pub outside-isnt : (fault : Fault) → IsOutside fault → is_cancellation {A = Unit {0}} (Err fault) ≡ false
outside-isnt BadWords is = absurd is
outside-isnt NoControl is = absurd is
outside-isnt Unordered is = absurd is
outside-isnt Cancelled is = absurd is
outside-isnt Link is = refl
outside-isnt Gone is = refl
outside-isnt Unreadable is = refl
outside-isnt Console is = refl
outside-isnt NoMemory is = refl

pub outside-of : (fault : Fault) → IsOutside fault → IsOfLogout fault
outside-of BadWords is = is
outside-of NoControl is = is
outside-of Unordered is = tt
outside-of Cancelled is = tt
outside-of Link is = tt
outside-of Gone is = tt
outside-of Unreadable is = tt
outside-of Console is = tt
outside-of NoMemory is = tt

pub tells : {A : Type 0} (result : Result A Fault) (glances : List Glance) → shows_over false glances ≡ is_cancellation result → TellsEnd result glances
tells (Ok x) glances is = is
tells (Err BadWords) glances is = tt
tells (Err NoControl) glances is = tt
tells (Err Unordered) glances is = tt
tells (Err Cancelled) glances is = is
tells (Err Link) glances is = tt
tells (Err Gone) glances is = tt
tells (Err Unreadable) glances is = tt
tells (Err Console) glances is = tt
tells (Err NoMemory) glances is = tt

pub tells-nothing : (fault : Fault) (glances : List Glance) → is_cancellation {A = Unit {0}} (Err fault) ≡ false → TellsEnd {A = Unit {0}} (Err fault) glances
tells-nothing BadWords glances is = tt
tells-nothing NoControl glances is = tt
tells-nothing Unordered glances is = tt
tells-nothing Cancelled glances is = absurd (false≢true (sym is))
tells-nothing Link glances is = tt
tells-nothing Gone glances is = tt
tells-nothing Unreadable glances is = tt
tells-nothing Console glances is = tt
tells-nothing NoMemory glances is = tt

-- An order, and what is asked behind it.
logout-of : {A E : Type 0} (result : Result A E) (lines : List (List ℕ)) → OrdersLogout lines → SendsLogout result lines
logout-of (Ok x) lines orders = orders
logout-of (Err e) lines orders = inr orders

pub waits-on : {A B E : Type 0} (value : A) (result : Result B E) (old mid new : Option (List (List ℕ))) → Adds old mid (SendsOne {E = E} shutdown_line (Ok value)) → Adds mid new AreQuestions → Adds old new (SendsLogout result)
waits-on value result old mid new first second = record {
  items = shutdown_line ∷ second.items;
  added = second.added ∙ (ap (λ it. more it second.items) (first.added ∙ ap (more old) first.holds) ∙ more-more old (shutdown_line ∷ []) second.items);
  holds = logout-of result (shutdown_line ∷ second.items) (record { asked = second.items; parts = refl; only = second.holds });
}

-- Nothing is asked behind an order that was refused.
refused-of : (lines : List (List ℕ)) → (lines ≡ []) ⊎ (lines ≡ shutdown_line ∷ []) → (lines ≡ []) ⊎ OrdersLogout lines
refused-of lines (inl none) = inl none
refused-of lines (inr one) = inr (record { asked = []; parts = one; only = tt })

pub isnt-ordered : (old new : Option (List (List ℕ))) → Adds old new (λ lines. (lines ≡ []) ⊎ (lines ≡ shutdown_line ∷ [])) → Adds old new (λ lines. (lines ≡ []) ⊎ OrdersLogout lines)
isnt-ordered old new first = record { items = first.items; added = first.added; holds = refused-of first.items first.holds }

-- ---- looks

-- whether a logout was seen to run, behind these looks
abbrev pub has_run : Bool → List Glance → Bool
has_run begun [] = begun
has_run begun (glance ∷ glances) = has_run (begun || is_leaving glance.course) glances

run-more : (begun : Bool) (xs : List Glance) (x : Glance) → has_run begun (xs ++ x ∷ []) ≡ (has_run begun xs || is_leaving x.course)
run-more begun [] x = refl
run-more begun (y ∷ xs) x = run-more (begun || is_leaving y.course) xs x

or-false : (b : Bool) → (b || false) ≡ (false || b)
or-false true = refl
or-false false = refl

or-assoc : (a b c : Bool) → (a || (b || c)) ≡ ((a || b) || c)
or-assoc true b c = refl
or-assoc false b c = refl

over-more : (begun : Bool) (xs : List Glance) (x : Glance) → shows_over begun (xs ++ x ∷ []) ≡ (shows_over begun xs || is_over (has_run begun xs) x.is_awaited x.course)
over-more begun [] x = or-false (is_over begun x.is_awaited x.course)
over-more begun (y ∷ xs) x =
    ap (λ (b : Bool). is_over begun y.is_awaited y.course || b) (over-more (begun || is_leaving y.course) xs x)
    ∙ or-assoc (is_over begun y.is_awaited y.course) (shows_over (begun || is_leaving y.course) xs) (is_over (has_run (begun || is_leaving y.course) xs) x.is_awaited x.course)

-- The looks so far have shown no end, and this is whether the logout was seen to run.
pub record SeenSo (begun : Bool) (glances : List Glance) : Type 0 where
  pub ran : begun ≡ has_run false glances
  pub none : shows_over false glances ≡ false

pub unseen : (old new : Option (List Glance)) (begun : Bool) → begun ≡ false → new ≡ old → Adds old new (SeenSo begun)
unseen old new begun is same = adds-nothing old new (SeenSo begun) same (record { ran = is; none = refl })

or-by : (a b c : Bool) → a ≡ false → b ≡ c → (a || b) ≡ c
or-by a b c none is = ap (λ (t : Bool). t || b) none ∙ is

-- One look more, and whether it shows an end.
pub shown-by : (old mid new : Option (List Glance)) (begun shows : Bool) (x : Glance) → Adds old mid (SeenSo begun) → new ≡ more mid (x ∷ []) → shows ≡ is_over begun x.is_awaited x.course → Adds old new (λ glances. shows_over false glances ≡ shows)
shown-by old mid new begun shows x seen added is = record {
  items = seen.items ++ x ∷ [];
  added = added ∙ (ap (λ it. more it (x ∷ [])) seen.added ∙ more-more old seen.items (x ∷ []));
  holds = over-more false seen.items x ∙ or-by (shows_over false seen.items) (is_over (has_run false seen.items) x.is_awaited x.course) shows seen.holds.none (ap (λ (b : Bool). is_over b x.is_awaited x.course) (sym seen.holds.ran) ∙ sym is);
}

pub seen-more : (old mid new : Option (List Glance)) (begun later : Bool) (x : Glance) → Adds old mid (SeenSo begun) → new ≡ more mid (x ∷ []) → is_over begun x.is_awaited x.course ≡ false → later ≡ (begun || is_leaving x.course) → Adds old new (SeenSo later)
seen-more old mid new begun later x seen added none is =
    record {
      items = seen.items ++ x ∷ [];
      added = added ∙ (ap (λ it. more it (x ∷ [])) seen.added ∙ more-more old seen.items (x ∷ []));
      holds = record {
        ran = is ∙ (ap (λ (b : Bool). b || is_leaving x.course) seen.holds.ran ∙ sym (run-more false seen.items x));
        none = over-more false seen.items x ∙ or-by (shows_over false seen.items) (is_over (has_run false seen.items) x.is_awaited x.course) false seen.holds.none (ap (λ (b : Bool). is_over b x.is_awaited x.course) (sym seen.holds.ran) ∙ none);
      };
    }

-- No look showed an end, and the answer isn't that it was cancelled.
pub seen-none : (old mid new : Option (List Glance)) (begun cancelled : Bool) → Adds old mid (SeenSo begun) → new ≡ mid → cancelled ≡ false → Adds old new (λ glances. shows_over false glances ≡ cancelled)
seen-none old mid new begun cancelled seen same is = record { items = seen.items; added = same ∙ seen.added; holds = seen.holds.none ∙ sym is }
