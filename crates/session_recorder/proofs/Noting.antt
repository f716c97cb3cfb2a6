-- What is kept of a session, after one more effect.
use Rattle.std.specs.Prelude.{◌≡◌, ℕ, Bool, true, false, ◌||◌, List, [], ◌∷◌, ◌++◌, length, take, drop, Option, Some, None, is_some, Result, Ok, Err, OnOk, OnErr}
use Rattle.std.proofs.Common.{refl, ap, sym, ◌∙◌, subst, inl, inr}
use Rattle.std.proofs.lemmas.Bool.{false≢true}
use Rattle.std.proofs.lemmas.List.{append_assoc, append-nil, take-append-drop}
use Rattle.std.proofs.lemmas.List.Folds.{list_any-append}
use Rattle.sm_world.specs.Disk.{IsFailedWrite, IsFailedSync}
use Rattle.sm_world.specs.Outside.{adds, on_ok, Added}
use Rattle.sm_world.specs.declared.effects.Effect.{Effect}
use Rattle.sm_world.specs.declared.effects.Effect.TheVariants.{Wrote, Torn, Synced, SyncFailed, Published}
use Rattle.sm_world.specs.declared.failures.Failed.{Failed}
use Rattle.sm_world.specs.declared.failures.Failure.{Failure}
use Rattle.control_lines.specs.Traces.{effect_text, whole_line}
use Rattle.session_recorder.specs.Recorded.{appended, is_announced, IsLineOf, is_printed, record_text, IsCut, IsNew, Keeps, KeepsTold}
use Rattle.session_recorder.specs.declared.progress.Progress.{Progress}
use Rattle.session_recorder.specs.declared.progress.Progress.TheVariants.{Waiting, Recording, Lost, Starved}
use Rattle.session_recorder.proofs.Behind.{record-stays, record-grows}

announced-by : (a b : Bool) → (a ≡ false) → (a || (b || false)) ≡ b
announced-by a true none = ap (λ (c : Bool). c || true) none
announced-by a false none = ap (λ (c : Bool). c || false) none

announced-still : (a b : Bool) → (a ≡ true) → (a || b) ≡ true
announced-still a b done = ap (λ (c : Bool). c || b) done

-- whether one more effect announces
announced-one : (xs : List Effect) (x : Effect) → is_announced xs ≡ false → is_announced (xs ++ x ∷ []) ≡ is_printed x
announced-one xs x none = list_any-append is_printed xs (x ∷ []) ∙ announced-by (is_announced xs) (is_printed x) none

pub announced-then : (xs : List Effect) (x : Effect) → is_announced xs ≡ true → is_announced (xs ++ x ∷ []) ≡ true
announced-then xs x done = list_any-append is_printed xs (x ∷ []) ∙ announced-still (is_announced xs) (is_announced (x ∷ [])) done

-- Before the announcement nothing is kept.
pub waits : (opening : List ℕ) (x : Effect) → is_printed x ≡ false → (xs : List Effect) (kept : List ℕ) → Keeps opening Waiting xs kept → Keeps opening Waiting (xs ++ x ∷ []) kept
waits opening x plain xs kept holds = (announced-one xs x holds.0 ∙ plain, holds.1 ∙ sym (record-stays opening xs x holds.0))

-- With it the record begins.
pub begins : (opening : List ℕ) (x : Effect) → is_printed x ≡ true → (xs : List Effect) (kept : List ℕ) → Keeps opening Waiting xs kept → Keeps opening Recording (xs ++ x ∷ []) kept
begins opening x printed xs kept holds = (announced-one xs x holds.0 ∙ printed, holds.1 ∙ sym (record-stays opening xs x holds.0))

-- A line more is kept.
pub goes-on : (opening : List ℕ) (x : Effect) (xs : List Effect) (kept : List ℕ) → Keeps opening Recording xs kept → Keeps opening Recording (xs ++ x ∷ []) (kept ++ whole_line (effect_text x))
goes-on opening x xs kept holds = (announced-then xs x holds.0, ap (λ (t : List ℕ). t ++ whole_line (effect_text x)) holds.1 ∙ sym (record-grows opening xs x holds.0))

-- A line was cut.
pub is-cut : (opening : List ℕ) (x : Effect) (n : ℕ) (xs : List Effect) (kept : List ℕ) → Keeps opening Recording xs kept → Keeps opening Lost (xs ++ x ∷ []) (kept ++ take n (whole_line (effect_text x)))
is-cut opening x n xs kept holds = (
  drop n (whole_line (effect_text x)),
  record-grows opening xs x holds.0
      ∙ ap (λ (t : List ℕ). t ++ whole_line (effect_text x)) (sym holds.1)
      ∙ ap (λ (t : List ℕ). kept ++ t) (sym (take-append-drop n (whole_line (effect_text x))))
      ∙ sym (append_assoc kept (take n (whole_line (effect_text x))) (drop n (whole_line (effect_text x)))),
)

-- There was no line to be kept.
pub is-missed : (opening : List ℕ) (x : Effect) (xs : List Effect) (kept : List ℕ) → Keeps opening Recording xs kept → Keeps opening Starved (xs ++ x ∷ []) kept
is-missed opening x xs kept holds = (whole_line (effect_text x), record-grows opening xs x holds.0 ∙ ap (λ (t : List ℕ). t ++ whole_line (effect_text x)) (sym holds.1))

still-front : (announced : Bool) (opening : List ℕ) (x : Effect) (xs : List Effect) (kept left : List ℕ) → is_announced xs ≡ announced → record_text opening xs ≡ kept ++ left → Keeps opening Lost (xs ++ x ∷ []) kept
still-front true opening x xs kept left done front = (
  left ++ whole_line (effect_text x),
  record-grows opening xs x done ∙ ap (λ (t : List ℕ). t ++ whole_line (effect_text x)) front ∙ append_assoc kept left (whole_line (effect_text x)),
)
still-front false opening x xs kept left none front = (left, record-stays opening xs x none ∙ front)

-- What was a front stays one.
pub is-lost : (opening : List ℕ) (x : Effect) (xs : List Effect) (kept : List ℕ) → Keeps opening Lost xs kept → Keeps opening Lost (xs ++ x ∷ []) kept
is-lost opening x xs kept holds = still-front (is_announced xs) opening x xs kept holds.0 refl holds.1

abbrev value_or : {A : Type 0} → A → Option A → A
value_or {A} other None = other
value_or {A} other (Some value) = value

some-injective : {A : Type 0} (a b : A) → Some a ≡ Some b → a ≡ b
some-injective {A} a b same = ap (value_or a) same

none≢some : {A : Type 0} {value : A} {B : Type 0} → None ≡ Some value → B
none≢some {A} {value} same = absurd (false≢true (ap is_some same))

-- A step from what is kept of some effects to what is kept of one more, where this much more is kept.
abbrev pub Step : List ℕ → Progress → Progress → Effect → List ℕ → Type 0
Step opening before after x more = (xs : List Effect) (kept : List ℕ) → Keeps opening before xs kept → Keeps opening after (xs ++ x ∷ []) (kept ++ more)

pub told-more : (opening : List ℕ) (before after : Progress) (x : Effect) (more : List ℕ) → Step opening before after x more → (told : Option (List Effect)) (old new : Option (List ℕ)) → new ≡ appended old more → KeepsTold opening before told old → KeepsTold opening after (adds told (x ∷ [])) new
told-more opening before after x more step None old new is holds effects kept told told_kept = none≢some told
told-more opening before after x more step (Some xs) None new is holds effects kept told told_kept = none≢some (sym is ∙ told_kept)
told-more opening before after x more step (Some xs) (Some held) new is holds effects kept told told_kept =
    subst (λ (es : List Effect). Keeps opening after es kept) (some-injective (xs ++ x ∷ []) effects told)
    (subst (λ (k : List ℕ). Keeps opening after (xs ++ x ∷ []) k) (some-injective (held ++ more) kept (sym is ∙ told_kept))
    (step xs held (holds xs held refl refl)))

pub told-same : (opening : List ℕ) (before after : Progress) (x : Effect) → ((xs : List Effect) (kept : List ℕ) → Keeps opening before xs kept → Keeps opening after (xs ++ x ∷ []) kept) → (told : Option (List Effect)) (old new : Option (List ℕ)) → new ≡ old → KeepsTold opening before told old → KeepsTold opening after (adds told (x ∷ [])) new
told-same opening before after x step None old new is holds effects kept told told_kept = none≢some told
told-same opening before after x step (Some xs) old new is holds effects kept told told_kept =
    subst (λ (es : List Effect). Keeps opening after es kept) (some-injective (xs ++ x ∷ []) effects told) (step xs kept (holds xs kept refl (sym is ∙ told_kept)))

silent-line : (opening : List ℕ) (x : Effect) → effect_text x ≡ None → (xs : List Effect) (kept : List ℕ) → Keeps opening Recording xs kept → Keeps opening Recording (xs ++ x ∷ []) kept
silent-line opening x silent xs kept holds = subst (λ (k : List ℕ). Keeps opening Recording (xs ++ x ∷ []) k) (ap (λ (line : Option (List ℕ)). kept ++ whole_line line) silent ∙ append-nil kept) (goes-on opening x xs kept holds)

-- What has no line changes nothing that is kept.
keeps-silent : (opening : List ℕ) (progress : Progress) (x : Effect) → effect_text x ≡ None → is_printed x ≡ false → (xs : List Effect) (kept : List ℕ) → Keeps opening progress xs kept → Keeps opening progress (xs ++ x ∷ []) kept
keeps-silent opening Waiting x silent plain = waits opening x plain
keeps-silent opening Recording x silent plain = silent-line opening x silent
keeps-silent opening Lost x silent plain = is-lost opening x
keeps-silent opening Starved x silent plain = is-lost opening x

-- A call of the disk leaves what is kept as it is.
pub told-silent : (opening : List ℕ) (progress : Progress) (x : Effect) → effect_text x ≡ None → is_printed x ≡ false → (told : Option (List Effect)) (kept : Option (List ℕ)) → KeepsTold opening progress told kept → KeepsTold opening progress (adds told (x ∷ [])) kept
told-silent opening progress x silent plain told kept = told-same opening progress progress x (keeps-silent opening progress x silent plain) told kept kept refl

adds-none : (told : Option (List Effect)) → adds told [] ≡ told
adds-none None = refl
adds-none (Some xs) = ap Some (append-nil xs)

told-none : (opening : List ℕ) (progress : Progress) (told : Option (List Effect)) (kept : Option (List ℕ)) → KeepsTold opening progress told kept → KeepsTold opening progress (adds told []) kept
told-none opening progress told kept holds = subst (λ (t : Option (List Effect)). KeepsTold opening progress t kept) (sym (adds-none told)) holds

told-is : (opening : List ℕ) (progress : Progress) (told new : Option (List Effect)) (kept : Option (List ℕ)) → new ≡ told → KeepsTold opening progress told kept → KeepsTold opening progress new kept
told-is opening progress told new kept is holds = subst (λ (t : Option (List Effect)). KeepsTold opening progress t kept) (sym is) holds

pub told-published : {A : Type 0} (opening : List ℕ) (progress : Progress) (result : Result A Failure) (path bytes : List ℕ) (told new : Option (List Effect)) (kept : Option (List ℕ)) → new ≡ adds told (on_ok result (Published path bytes ∷ [])) → KeepsTold opening progress told kept → KeepsTold opening progress new kept
told-published opening progress (Ok x) path bytes told new kept is holds = told-is opening progress (adds told (Published path bytes ∷ [])) new kept is (told-silent opening progress (Published path bytes) refl refl told kept holds)
told-published opening progress (Err e) path bytes told new kept is holds = told-is opening progress (adds told []) new kept is (told-none opening progress told kept holds)

failed-write : (opening : List ℕ) (progress : Progress) (at n : ℕ) (effects : List Effect) → IsFailedWrite at n effects → (told : Option (List Effect)) (kept : Option (List ℕ)) → KeepsTold opening progress told kept → KeepsTold opening progress (adds told effects) kept
failed-write opening progress at n effects (inl none) told kept holds = subst (λ (es : List Effect). KeepsTold opening progress (adds told es) kept) (sym none) (told-none opening progress told kept holds)
failed-write opening progress at n effects (inr torn) told kept holds = subst (λ (es : List Effect). KeepsTold opening progress (adds told es) kept) (sym torn.1) (told-silent opening progress (Torn at n) refl refl told kept holds)

pub told-written : {A : Type 0} (opening : List ℕ) (progress : Progress) (result : Result A Failed) (at : ℕ) (bytes : List ℕ) (told new : Option (List Effect)) (kept : Option (List ℕ)) → OnOk result (new ≡ adds told (Wrote at bytes ∷ [])) → OnErr result (Added told new (IsFailedWrite at (length bytes))) → KeepsTold opening progress told kept → KeepsTold opening progress new kept
told-written opening progress (Ok x) at bytes told new kept ok err holds = told-is opening progress (adds told (Wrote at bytes ∷ [])) new kept ok (told-silent opening progress (Wrote at bytes) refl refl told kept holds)
told-written opening progress (Err e) at bytes told new kept ok err holds = told-is opening progress (adds told err.effects) new kept err.added (failed-write opening progress at (length bytes) err.effects err.holds told kept holds)

failed-sync : (opening : List ℕ) (progress : Progress) (effects : List Effect) → IsFailedSync effects → (told : Option (List Effect)) (kept : Option (List ℕ)) → KeepsTold opening progress told kept → KeepsTold opening progress (adds told effects) kept
failed-sync opening progress effects (inl none) told kept holds = subst (λ (es : List Effect). KeepsTold opening progress (adds told es) kept) (sym none) (told-none opening progress told kept holds)
failed-sync opening progress effects (inr failed) told kept holds = subst (λ (es : List Effect). KeepsTold opening progress (adds told es) kept) (sym failed) (told-silent opening progress SyncFailed refl refl told kept holds)

pub told-synced : {A : Type 0} (opening : List ℕ) (progress : Progress) (result : Result A Failed) (told new : Option (List Effect)) (kept : Option (List ℕ)) → OnOk result (new ≡ adds told (Synced ∷ [])) → OnErr result (Added told new IsFailedSync) → KeepsTold opening progress told kept → KeepsTold opening progress new kept
told-synced opening progress (Ok x) told new kept ok err holds = told-is opening progress (adds told (Synced ∷ [])) new kept ok (told-silent opening progress Synced refl refl told kept holds)
told-synced opening progress (Err e) told new kept ok err holds = told-is opening progress (adds told err.effects) new kept err.added (failed-sync opening progress err.effects err.holds told kept holds)

new-empty : {A : Type 0} (told : Option (List A)) → IsNew told → (items : List A) → told ≡ Some items → items ≡ []
new-empty {A} None new items is = none≢some is
new-empty {A} (Some held) new items is = sym (some-injective held items is) ∙ new

new-whole : (opening : List ℕ) (told : Option (List Effect)) (old new : Option (List ℕ)) → IsNew told → IsNew old → new ≡ appended old opening → (effects : List Effect) (kept : List ℕ) → told ≡ Some effects → new ≡ Some kept → (effects ≡ []) × (kept ≡ opening)
new-whole opening told None new fresh empty is effects kept told_is kept_is = none≢some (sym is ∙ kept_is)
new-whole opening told (Some held) new fresh empty is effects kept told_is kept_is = (new-empty told fresh effects told_is, sym (some-injective (held ++ opening) kept (sym is ∙ kept_is)) ∙ ap (λ (h : List ℕ). h ++ opening) empty)

-- A record begins with its opening,
pub begun : (opening : List ℕ) (told : Option (List Effect)) (old new : Option (List ℕ)) → IsNew told → IsNew old → new ≡ appended old opening → KeepsTold opening Waiting told new
begun opening told old new fresh empty is effects kept told_is kept_is =
    let both = new-whole opening told old new fresh empty is effects kept told_is kept_is in
    subst (λ (es : List Effect). Keeps opening Waiting es kept) (sym both.0) (refl, both.1 ∙ sym (append-nil opening))

-- or with a front of it.
pub begun-cut : (opening : List ℕ) (told : Option (List Effect)) (old new : Option (List ℕ)) → IsNew told → IsNew old → IsCut old new opening → KeepsTold opening Lost told new
begun-cut opening told old new fresh empty cut effects kept told_is kept_is =
    let both = new-whole (take cut.0 opening) told old new fresh empty cut.1 effects kept told_is kept_is in
    subst (λ (es : List Effect). Keeps opening Lost es kept) (sym both.0)
    (drop cut.0 opening, append-nil opening ∙ sym (take-append-drop cut.0 opening) ∙ ap (λ (k : List ℕ). k ++ drop cut.0 opening) (sym both.1))

step-over : (opening : List ℕ) (before after p q : Progress) (x : Effect) (more : List ℕ) → p ≡ before → q ≡ after → Step opening before after x more → Step opening p q x more
step-over opening before after p q x more from to step xs kept holds = subst (λ (r : Progress). Keeps opening r (xs ++ x ∷ []) (kept ++ more)) (sym to) (step xs kept (subst (λ (r : Progress). Keeps opening r xs kept) from holds))

abbrev StaysBy : List ℕ → Progress → Progress → Effect → Type 0
StaysBy opening before after x = (xs : List Effect) (kept : List ℕ) → Keeps opening before xs kept → Keeps opening after (xs ++ x ∷ []) kept

stay-over : (opening : List ℕ) (before after p q : Progress) (x : Effect) → p ≡ before → q ≡ after → StaysBy opening before after x → StaysBy opening p q x
stay-over opening before after p q x from to step xs kept holds = subst (λ (r : Progress). Keeps opening r (xs ++ x ∷ []) kept) (sym to) (step xs kept (subst (λ (r : Progress). Keeps opening r xs kept) from holds))

pub waits-told : (opening : List ℕ) (p : Progress) (x : Effect) → p ≡ Waiting → is_printed x ≡ false → (told : Option (List Effect)) (kept : Option (List ℕ)) → KeepsTold opening p told kept → KeepsTold opening p (adds told (x ∷ [])) kept
waits-told opening p x is plain told kept = told-same opening p p x (stay-over opening Waiting Waiting p p x is is (waits opening x plain)) told kept kept refl

pub begins-told : (opening : List ℕ) (p q : Progress) (x : Effect) → p ≡ Waiting → q ≡ Recording → is_printed x ≡ true → (told : Option (List Effect)) (kept : Option (List ℕ)) → KeepsTold opening p told kept → KeepsTold opening q (adds told (x ∷ [])) kept
begins-told opening p q x from to printed told kept = told-same opening p q x (stay-over opening Waiting Recording p q x from to (begins opening x printed)) told kept kept refl

pub lost-told : (opening : List ℕ) (p : Progress) (x : Effect) → p ≡ Lost → (told : Option (List Effect)) (kept : Option (List ℕ)) → KeepsTold opening p told kept → KeepsTold opening p (adds told (x ∷ [])) kept
lost-told opening p x is told kept = told-same opening p p x (stay-over opening Lost Lost p p x is is (is-lost opening x)) told kept kept refl

pub starved-told : (opening : List ℕ) (p : Progress) (x : Effect) → p ≡ Starved → (told : Option (List Effect)) (kept : Option (List ℕ)) → KeepsTold opening p told kept → KeepsTold opening p (adds told (x ∷ [])) kept
starved-told opening p x is told kept = told-same opening p p x (stay-over opening Starved Starved p p x is is (is-lost opening x)) told kept kept refl

pub goes-on-told : (opening : List ℕ) (p : Progress) (x : Effect) (line : List ℕ) → p ≡ Recording → IsLineOf x line → (told : Option (List Effect)) (old new : Option (List ℕ)) → new ≡ appended old line → KeepsTold opening p told old → KeepsTold opening p (adds told (x ∷ [])) new
goes-on-told opening p x line is line_is told old new appends = told-more opening p p x (whole_line (effect_text x)) (step-over opening Recording Recording p p x (whole_line (effect_text x)) is is (goes-on opening x)) told old new (appends ∙ ap (appended old) line_is)

pub cut-told : (opening : List ℕ) (p q : Progress) (x : Effect) (line : List ℕ) → p ≡ Recording → q ≡ Lost → IsLineOf x line → (told : Option (List Effect)) (old new : Option (List ℕ)) → IsCut old new line → KeepsTold opening p told old → KeepsTold opening q (adds told (x ∷ [])) new
cut-told opening p q x line from to line_is told old new cut = told-more opening p q x (take cut.0 (whole_line (effect_text x))) (step-over opening Recording Lost p q x (take cut.0 (whole_line (effect_text x))) from to (is-cut opening x cut.0)) told old new (cut.1 ∙ ap (λ (l : List ℕ). appended old (take cut.0 l)) line_is)

pub missed-told : (opening : List ℕ) (p q : Progress) (x : Effect) → p ≡ Recording → q ≡ Starved → (told : Option (List Effect)) (old new : Option (List ℕ)) → new ≡ old → KeepsTold opening p told old → KeepsTold opening q (adds told (x ∷ [])) new
missed-told opening p q x from to told old new is = told-same opening p q x (stay-over opening Recording Starved p q x from to (is-missed opening x)) told old new is
