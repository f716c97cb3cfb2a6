-- What each call of a turn keeps, by the effects of its put.
use Rattle.std.proofs.Common.{◌≡◌, ◌+◌, ◌<◌, Bool, true, false, ◌&&◌, refl, ◌≤◌, ◌^◌, ◌⊎◌, ◌++◌, ◌∷◌, [], ℕ, List, length, nat_eq, take, slice_index, ap, sym, subst, ◌∙◌, inl, inr, arith}
use Rattle.std.specs.Prelude.{Option, Some, Ok, Err, ◌≢◌}
use Rattle.std.specs.List.{AllByRecursion}
use Rattle.std.specs.Str.{bytes_eq}
use Rattle.std.proofs.lemmas.Grind.{same_number_lists}
use Rattle.std.proofs.lemmas.List.{get_or-take, length-take-le}
use Rattle.sm_world.specs.Crash.{Image}
use Rattle.sm_world.specs.Outside.{Added}
use Rattle.sm_world.specs.declared.effects.Effect.{Effect}
use Rattle.sm_world.specs.declared.effects.Effect.TheVariants.{Synced, Wrote}
use Rattle.checkpoint_records.specs.declared.records.Book.{Book}
use Rattle.checkpoint_slots.specs.declared.fault.StoreFault.{StoreFault}
use Rattle.checkpoint_slots.specs.declared.layout.Slot.{Slot}
use Rattle.checkpoint_slots.specs.declared.layout.Slot.TheVariants.{First, Second}
use Rattle.checkpoint_slots.specs.declared.turn.Current.{Current}
use Rattle.checkpoint_slots.specs.Layout.{gate_at, slot_of, start_of}
use Rattle.checkpoint_slots.specs.Recovery.{Recovers, slot_bytes}
use Rattle.checkpoint_slots.specs.Turns.{ClosedFile, ClosedStands, Closes, EveryImage, FilledFile, Fills, IsNext, IsOfStore, IsPut, Lifts, SteadyFile, SteadyStands, Swap, done, following, next_generation, nothing, opened_in, target, tore, unsynced, wrote}
use Rattle.checkpoint_slots.proofs.Puts.{put-front}
use Rattle.checkpoint_slots.proofs.Images.{agree-before, done-bytes, every-after, file_before, image-before, old-or-new}
use Rattle.checkpoint_slots.proofs.Files.{close-file, fill-file, slot-byte, slot-length}
use Rattle.checkpoint_slots.proofs.Bodies.{body-length}
use Rattle.checkpoint_slots.proofs.Lifted.{lift-file}

pub put-store : (at : ℕ) (bytes : List ℕ) {added : List Effect} → IsPut at bytes added → AllByRecursion IsOfStore added
put-store at bytes nothing = tt
put-store at bytes (tore two) = (tt, tt)
put-store at bytes wrote = (tt, tt)
put-store at bytes unsynced = (tt, (tt, tt))
put-store at bytes done = (tt, (tt, tt))

pub gate-within : (slot : Slot) → gate_at slot < 16777280
gate-within First = omega arith
gate-within Second = omega arith

-- after a put that is done, its byte stands there
pub done-byte : (first : List ℕ) (effects : List Effect) (at x : ℕ) (file : List ℕ) → at < length first → Image first (effects ++ Wrote at (x ∷ []) ∷ Synced ∷ []) file → slice_index file at ≡ x
done-byte first effects at x file within image =
    let zero-more : at + 0 ≡ at = omega arith in
    subst (λ (i : ℕ). slice_index file i ≡ x) zero-more (done-bytes first effects at (x ∷ []) file image 0 (omega arith) (subst (λ (i : ℕ). i < length first) (sym zero-more) within))

module _ (current : Option Current) (first : List ℕ) (effects : List Effect) (book : Book) where
  at : ℕ
  at = gate_at (target current)

  -- Closing

  module _ (stands : SteadyStands current book first effects) (added : List Effect) (put : IsPut (gate_at (target current)) (0 ∷ []) added) (file : List ℕ) (image : Image first (effects ++ added) file) where
    close-sized : length file ≡ 16777280
    close-sized = image.size ∙ stands.size

    close-at : gate_at (target current) < length first
    close-at = subst (λ (n : ℕ). gate_at (target current) < n) (sym stands.size) (gate-within (target current))

    closed-now : slice_index file (gate_at (target current)) ≡ 0 → ClosedFile current book file
    closed-now zero =
        let before : List ℕ = file_before (SteadyFile current book) first effects stands (gate_at (target current)) (0 ∷ []) added put file image in
        close-file current book before file (agree-before (SteadyFile current book) first effects stands (gate_at (target current)) (0 ∷ []) added put file image) close-sized zero
        (stands.images before (image-before (SteadyFile current book) first effects stands (gate_at (target current)) (0 ∷ []) added put file image))

    close-recovers : Recovers file (Ok book)
    close-recovers = elim (old-or-new (SteadyFile current book) first effects stands (gate_at (target current)) 0 added put file image close-at) [
      | inl old ↦ (stands.images file old).recovers
      | inr zero ↦ (closed-now zero).steady.recovers
    ]

  close-swap : (added : List Effect) → IsPut (gate_at (target current)) (0 ∷ []) added → (next : Book) → SteadyStands current book first effects → Swap first effects added book next
  close-swap added put next stands n within file image = inl (close-recovers stands (take n added) (put-front (gate_at (target current)) (0 ∷ []) put n) file image)

  close-stands : SteadyStands current book first effects → ClosedStands current book first (effects ++ Wrote (gate_at (target current)) (0 ∷ []) ∷ Synced ∷ [])
  close-stands stands =
      every-after (SteadyFile current book) first effects stands (gate_at (target current)) (0 ∷ []) (Wrote (gate_at (target current)) (0 ∷ []) ∷ Synced ∷ []) done (ClosedFile current book)
      (λ file image. closed-now stands (Wrote (gate_at (target current)) (0 ∷ []) ∷ Synced ∷ []) done file image (done-byte first effects (gate_at (target current)) 0 file (subst (λ (n : ℕ). gate_at (target current) < n) (sym stands.size) (gate-within (target current))) image))

  -- Filling

  module _ (next : Book) (is : IsNext current next) (stands : ClosedStands current book first effects) (short : length (slot_bytes (next_generation current) next) ≤ 8388608) where
    abbrev body : List ℕ
    body = slot_bytes (next_generation current) next

    abbrev start : ℕ
    start = start_of (target current)

    module _ (added : List Effect) (put : IsPut (start_of (target current)) (slot_bytes (next_generation current) next) added) (file : List ℕ) (image : Image first (effects ++ added) file) where
      closed-still : ClosedFile current book file
      closed-still =
          let before : List ℕ = file_before (ClosedFile current book) first effects stands start body added put file image in
          fill-file current book (length body) before file short (agree-before (ClosedFile current book) first effects stands start body added put file image) (image.size ∙ stands.size)
          (stands.images before (image-before (ClosedFile current book) first effects stands start body added put file image))

    fill-swap : (added : List Effect) → IsPut (start_of (target current)) (slot_bytes (next_generation current) next) added → Swap first effects added book next
    fill-swap added put n within file image = inl (closed-still (take n added) (put-front start body put n) file image).steady.recovers

    start-within : (slot : Slot) → start_of slot + 8388608 ≤ 16777280
    start-within First = omega arith
    start-within Second = omega arith

    filled-now : (file : List ℕ) → Image first (effects ++ Wrote (start_of (target current)) (slot_bytes (next_generation current) next) ∷ Synced ∷ []) file → FilledFile current book next file
    filled-now file image =
        let sized : length file ≡ 16777280 = image.size ∙ stands.size in
        let room = start-within (target current) in
        let slot : List ℕ = slot_of file (target current) in
        let long : length slot ≡ 8388608 = omega (arith, slot-length file (target current), sized, room) in
        let taken : length (take (length body) slot) ≡ length body = length-take-le (length body) slot (omega (arith, long, short)) in
        record {
          closed = closed-still (Wrote start body ∷ Synced ∷ []) done file image;
          begins = same_number_lists (take (length body) slot) body taken (λ k within.
              let inside : k < length body = omega (arith, within, taken) in
              let there : start + k < length first = omega (arith, inside, short, room, stands.size) in
              get_or-take (length body) slot k 0 inside ∙ slot-byte file (target current) k (omega (arith, inside, short)) ∙ done-bytes first effects start body file image k inside there);
        }

    fill-stands : EveryImage (FilledFile current book next) first (effects ++ Wrote (start_of (target current)) (slot_bytes (next_generation current) next) ∷ Synced ∷ [])
    fill-stands = every-after (ClosedFile current book) first effects stands start body (Wrote start body ∷ Synced ∷ []) done (FilledFile current book next) filled-now

  -- Opening

  module _ (next : Book) (is : IsNext current next) (stands : EveryImage (FilledFile current book next) first effects) where
    abbrev opened : Option Current
    opened = Some (following current (length (slot_bytes (next_generation current) next)))

    module _ (added : List Effect) (put : IsPut (gate_at (target current)) (165 ∷ []) added) (file : List ℕ) (image : Image first (effects ++ added) file) where
      lifted-now : slice_index file (gate_at (target current)) ≡ 165 → SteadyFile opened next file
      lifted-now gate =
          let before : List ℕ = file_before (FilledFile current book next) first effects stands (gate_at (target current)) (165 ∷ []) added put file image in
          lift-file next before file (image.size ∙ stands.size) current book is (agree-before (FilledFile current book next) first effects stands (gate_at (target current)) (165 ∷ []) added put file image) gate
          (stands.images before (image-before (FilledFile current book next) first effects stands (gate_at (target current)) (165 ∷ []) added put file image))

      lift-at : gate_at (target current) < length first
      lift-at = subst (λ (n : ℕ). gate_at (target current) < n) (sym stands.size) (gate-within (target current))

      lift-recovers : Recovers file (Ok book) ⊎ Recovers file (Ok next)
      lift-recovers = elim (old-or-new (FilledFile current book next) first effects stands (gate_at (target current)) 165 added put file image lift-at) [
        | inl old ↦ inl (stands.images file old).closed.steady.recovers
        | inr gate ↦ inr (lifted-now gate).recovers
      ]

    lift-swap : (added : List Effect) → IsPut (gate_at (target current)) (165 ∷ []) added → Swap first effects added book next
    lift-swap added put n within file image = lift-recovers (take n added) (put-front (gate_at (target current)) (165 ∷ []) put n) file image

    lift-stands : SteadyStands opened next first (effects ++ Wrote (gate_at (target current)) (165 ∷ []) ∷ Synced ∷ [])
    lift-stands =
        every-after (FilledFile current book next) first effects stands (gate_at (target current)) (165 ∷ []) (Wrote (gate_at (target current)) (165 ∷ []) ∷ Synced ∷ []) done (SteadyFile opened next)
        (λ file image. lifted-now (Wrote (gate_at (target current)) (165 ∷ []) ∷ Synced ∷ []) done file image (done-byte first effects (gate_at (target current)) 165 file (subst (λ (n : ℕ). gate_at (target current) < n) (sym stands.size) (gate-within (target current))) image))

-- How often a gate is opened

never_both : (b : Bool) → (b && false) ≡ false
never_both true = refl
never_both false = refl

-- more than one byte is not the one byte of an open gate
pub no-gate : (bytes : List ℕ) → 2 ≤ length bytes → bytes_eq bytes (165 ∷ []) ≡ false
no-gate [] two = absurd (omega (arith, two))
no-gate (x ∷ []) two = absurd (omega (arith, two))
no-gate (x ∷ y ∷ more) two = never_both (nat_eq x 165)

pub opens-none : (at : ℕ) (bytes : List ℕ) → bytes_eq bytes (165 ∷ []) ≡ false → opened_in (Wrote at bytes ∷ Synced ∷ []) ≡ 0
opens-none at bytes other = rw other refl

-- The calls, by what their put answered

abbrev pub IsDone : ℕ → List ℕ → List Effect → Type 0
IsDone at bytes added = added ≡ Wrote at bytes ∷ Synced ∷ []

abbrev pub IsNotDone : ℕ → List ℕ → List Effect → Type 0
IsNotDone at bytes added = IsPut at bytes added × (added ≢ Wrote at bytes ∷ Synced ∷ [])

pub is-put : (at : ℕ) (bytes : List ℕ) {added : List Effect} → IsDone at bytes added → IsPut at bytes added
is-put at bytes p = subst (λ (es : List Effect). IsPut at bytes es) (sym p) done

pub closes : (current : Option Current) (added : List Effect) → IsDone (gate_at (target current)) (0 ∷ []) added → Closes current (Ok current) added
closes current added p = record {
  puts = p;
  store = put-store (gate_at (target current)) (0 ∷ []) (is-put (gate_at (target current)) (0 ∷ []) p);
  swap = λ first effects book next stands. close-swap current first effects book added (is-put (gate_at (target current)) (0 ∷ []) p) next stands;
  turn = λ first effects book stands. subst (λ (es : List Effect). ClosedStands current book first (effects ++ es)) (sym p) (close-stands current first effects book stands);
  opens = ap opened_in p;
}

pub closes-not : (current : Option Current) (fault : StoreFault) (added : List Effect) → IsNotDone (gate_at (target current)) (0 ∷ []) added → Closes current (Err fault) added
closes-not current fault added put = record {
  puts = put;
  store = put-store (gate_at (target current)) (0 ∷ []) put.0;
  swap = λ first effects book next stands. close-swap current first effects book added put.0 next stands;
  turn = λ first effects book stands. tt;
  opens = tt;
}

module _ (current : Option Current) (body : List ℕ) (short : length body ≤ 8388608) where
  abbrev IsBody : Book → Type 0
  IsBody next = body ≡ slot_bytes (next_generation current) next

  short-body : (next : Book) → IsBody next → length (slot_bytes (next_generation current) next) ≤ 8388608
  short-body next e = subst (λ (bytes : List ℕ). length bytes ≤ 8388608) e short

  fills-swap : (added : List Effect) → IsPut (start_of (target current)) body added → (first : List ℕ) (effects : List Effect) (book next : Book) → ClosedStands current book first effects → IsNext current next → IsBody next → Swap first effects added book next
  fills-swap added put first effects book next stands is e =
      fill-swap current first effects book next is stands (short-body next e) added (subst (λ (bytes : List ℕ). IsPut (start_of (target current)) bytes added) e put)

  pub fills : (next_is : Current) (added : List Effect) → (next_generation current < 2 ^ 64 → next_is ≡ following current (length body)) → IsDone (start_of (target current)) body added → Fills current body (Ok (current, next_is)) added
  fills following_is added f p = record {
    puts = p;
    store = put-store (start_of (target current)) body (is-put (start_of (target current)) body p);
    swap = fills-swap added (is-put (start_of (target current)) body p);
    turn = λ first effects book next stands is e. record {
      is = is;
      follows = f is.generation ∙ ap (λ (bytes : List ℕ). following current (length bytes)) e;
      every = subst (λ (es : List Effect). EveryImage (FilledFile current book next) first (effects ++ es)) (sym (p ∙ ap (λ (bytes : List ℕ). Wrote (start_of (target current)) bytes ∷ Synced ∷ []) e)) (fill-stands current first effects book next is stands (short-body next e));
    };
    opens = λ next e. ap opened_in p ∙ opens-none (start_of (target current)) body (no-gate body (omega (arith, ap length e, body-length (next_generation current) next)));
  }

  pub fills-not : (fault : StoreFault) (added : List Effect) → IsNotDone (start_of (target current)) body added → Fills current body (Err fault) added
  fills-not fault added put = record {
    puts = put;
    store = put-store (start_of (target current)) body put.0;
    swap = fills-swap added put.0;
    turn = λ first effects book next stands is e. tt;
    opens = λ next e. tt;
  }

pub lifts : (filled : Option Current × Current) (added : List Effect) → IsDone (gate_at (target filled.0)) (165 ∷ []) added → Lifts filled (Ok (Some filled.1)) added
lifts filled added p = record {
  puts = p;
  store = put-store (gate_at (target filled.0)) (165 ∷ []) (is-put (gate_at (target filled.0)) (165 ∷ []) p);
  swap = λ first effects book next stands. lift-swap filled.0 first effects book next stands.is stands.every added (is-put (gate_at (target filled.0)) (165 ∷ []) p);
  turn = λ first effects book next stands.
      subst (λ (c : Current). SteadyStands (Some c) next first (effects ++ added)) (sym stands.follows)
      (subst (λ (es : List Effect). SteadyStands (Some (following filled.0 (length (slot_bytes (next_generation filled.0) next)))) next first (effects ++ es)) (sym p) (lift-stands filled.0 first effects book next stands.is stands.every));
  opens = ap opened_in p;
}

pub lifts-not : (filled : Option Current × Current) (fault : StoreFault) (added : List Effect) → IsNotDone (gate_at (target filled.0)) (165 ∷ []) added → Lifts filled (Err fault) added
lifts-not filled fault added put = record {
  puts = put;
  store = put-store (gate_at (target filled.0)) (165 ∷ []) put.0;
  swap = λ first effects book next stands. lift-swap filled.0 first effects book next stands.is stands.every added put.0;
  turn = λ first effects book next stands. tt;
  opens = tt;
}

-- what is known of the effects that were added goes on to what it implies
pub added-by : {old new : Option (List Effect)} {P Q : List Effect → Type 0} → ((added : List Effect) → P added → Q added) → Added old new P → Added old new Q
added-by f a = record { effects = a.effects; added = a.added; holds = f a.effects a.holds }

pub done-at : {at there : ℕ} (bytes : List ℕ) {added : List Effect} → at ≡ there → IsDone at bytes added → IsDone there bytes added
done-at bytes {added = added} e p = subst (λ (place : ℕ). IsDone place bytes added) e p

pub put-at : {at there : ℕ} (bytes : List ℕ) {added : List Effect} → at ≡ there → IsNotDone at bytes added → IsNotDone there bytes added
put-at bytes {added = added} e p = subst (λ (place : ℕ). IsNotDone place bytes added) e p
