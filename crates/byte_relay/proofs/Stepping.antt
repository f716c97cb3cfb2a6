-- What is done about each event.
use Rattle.std.proofs.Common.{◌≡◌, ℕ, true, false, List, [], ◌∷◌, ◌++◌, map, Option, Some, None, Result, Ok, Err, refl, sym, ap, ◌∙◌, subst, if◌then◌else◌, slice_index_or, slice_set}
use Rattle.std.specs.Prelude.{OnOk}
use Rattle.std.proofs.lemmas.List.{append-nil}
use Rattle.sm_world.specs.Outside.{Outside}
use Rattle.sm_world.specs.declared.effects.Effect.{Effect}
use Rattle.sm_world.specs.declared.effects.Effect.TheVariants.{Sent, Shut}
use Rattle.ice_values.specs.declared.numbers.Endian.{Endian}
use Rattle.ice_framing.specs.Parts.{new_parts}
use Rattle.byte_relay.specs.Relaying.{Line, Step, partner, stream_of, is_live, is_refused, parted, fed_on, stays, greetings, joined, is_fresh, Passed, passed, passing, piece_for, shuts, gone}
use Rattle.byte_relay.specs.Rows.{Shows, ShowAll, Grows, parted_rows, passed_on}
use Rattle.byte_relay.specs.declared.passing.Pair.{Pair}
use Rattle.byte_relay.specs.Serving.{Does}
use Rattle.byte_relay.specs.declared.fault.RelayFault.{RelayFault}
use Rattle.byte_relay.specs.declared.fault.RelayFault.TheVariants.{NoMemory}
use Rattle.byte_relay.specs.declared.row.Row.{Row}
use Rattle.byte_relay.proofs.Doing.{does_more, does_cut, does_as, gives_up}
use Rattle.byte_relay.proofs.Shown.{FoundAt, grown_shows, parted_shows, passed_is}

-- by what the step is
pub by_step : (t s : Step) → t ≡ s → (old new : Outside) (rows : List Row) (r : Result (Unit {0}) RelayFault) → Does old new s.line r → OnOk r (ShowAll rows s.next) → Does old new t.line r × OnOk r (ShowAll rows t.next)
by_step t s is old new rows r does shows = subst (λ (u : Step). Does old new u.line r × OnOk r (ShowAll rows u.next)) (sym is) (does, shows)

pub at_ok : {P : Type 0} (r : Result (Unit {0}) RelayFault) → P → OnOk r P
at_ok (Ok x) p = p
at_ok (Err fault) p = tt

module _ (to : Endian) (c : ℕ) (ls : List Line) where
  -- ---- a new connection

  pub joins_live : is_live c ls ≡ true → joined to c ls ≡ stays ls
  joins_live live = rw live refl

  pub joins_refused : is_live c ls ≡ false → is_refused c ls ≡ true → joined to c ls ≡ record { line = Shut c ∷ []; next = ls }
  joins_refused live refused = rw (live, refused) refl

  abbrev pub with_new : List Line
  with_new = ls ++ record { number = c; stream = [] } ∷ []

  pub joins_pair : is_live c ls ≡ false → is_refused c ls ≡ false → is_live (partner c) ls ≡ true → joined to c ls ≡ record { line = greetings to c; next = with_new }
  joins_pair live refused other = rw (live, refused, other) refl

  pub joins_alone : is_live c ls ≡ false → is_refused c ls ≡ false → is_live (partner c) ls ≡ false → joined to c ls ≡ record { line = []; next = with_new }
  joins_alone live refused other = rw (live, refused, other) refl

  -- want of memory before anything was done
  pub joins_none : (old : Outside) → Does {A = Unit {0}} old old (joined to c ls).line (Err NoMemory)
  joins_none old = gives_up {A = Unit {0}} old (joined to c ls).line

  -- ---- the end of a connection

  pub ends_none : is_live c ls ≡ false → gone c ls ≡ stays ls
  ends_none live = rw live refl

  pub ends_pair : is_live c ls ≡ true → is_live (partner c) ls ≡ true → gone c ls ≡ record { line = Shut (partner c) ∷ []; next = parted c ls }
  ends_pair live other = rw (live, other) refl

  pub ends_alone : is_live c ls ≡ true → is_live (partner c) ls ≡ false → gone c ls ≡ record { line = []; next = parted c ls }
  ends_alone live other = rw (live, other) refl

  -- ---- a piece

  module _ (bytes : List ℕ) where
    pub piece_none : stream_of c ls ≡ None → piece_for to c bytes (stream_of c ls) ls ≡ stays ls
    piece_none is = rw is refl

    pub piece_alone : (stream : List ℕ) → stream_of c ls ≡ Some stream → is_live (partner c) ls ≡ false → piece_for to c bytes (stream_of c ls) ls ≡ record { line = Shut c ∷ []; next = parted c ls }
    piece_alone stream is other = ap (λ (s : Option (List ℕ)). piece_for to c bytes s ls) is ∙ rw other refl

    pub piece_open : (stream : List ℕ) (p : Passed) → stream_of c ls ≡ Some stream → is_live (partner c) ls ≡ true → p ≡ passed to (is_fresh stream) (new_parts stream bytes) → piece_for to c bytes (stream_of c ls) ls ≡ passing to c bytes p ls
    piece_open stream p is other same = ap (λ (s : Option (List ℕ)). piece_for to c bytes s ls) is ∙ (rw other refl ∙ ap (λ (q : Passed). passing to c bytes q ls) (sym same))

    -- what is passed on, where the pair goes on, is broken, or isn't told of
    pub goes_on : (p : Passed) → false ≡ p.broken → passing to c bytes p ls ≡ record { line = map (Sent (partner c)) p.messages; next = fed_on c bytes ls }
    goes_on p goes = rw (sym goes) (ap (λ (l : List Effect). record { line = l; next = fed_on c bytes ls }) (append-nil (map (Sent (partner c)) p.messages)))

    pub breaks_off : (p : Passed) → true ≡ p.broken → passing to c bytes p ls ≡ record { line = map (Sent (partner c)) p.messages ++ shuts c; next = parted c ls }
    breaks_off p breaks = rw (sym breaks) refl

    pub cut_passing : {A : Type 0} (old new : Outside) (p : Passed) (fault : RelayFault) → Does {A = A} old new (map (Sent (partner c)) p.messages) (Err fault) → Does {A = Unit {0}} old new (passing to c bytes p ls).line (Err fault)
    cut_passing {A = A} old new p fault does = does_cut {A = A} {B = Unit {0}} old new (map (Sent (partner c)) p.messages) (if p.broken then shuts c else []) fault does

-- ---- a piece on a connection whose pair is open

module _ (to : Endian) (c : ℕ) (bytes : List ℕ) (rows : List Row) (ls : List Line) (place : ℕ) (shows : ShowAll rows ls) (at : FoundAt c rows ls place) (row : Row) (is_row : row ≡ slice_index_or rows place row) (other : is_live (partner c) ls ≡ true) where
  abbrev p : Passed
  p = passed_on to row bytes

  here : Shows row (record { number = c; stream = at.stream })
  here = subst (λ (r : Row). Shows r (record { number = c; stream = at.stream })) (sym is_row) (at.shows row)

  step_is : piece_for to c bytes (stream_of c ls) ls ≡ passing to c bytes p ls
  step_is = piece_open to c ls bytes at.stream p at.is other (passed_is row c at.stream bytes here to)

  pub piece_goes_on : (old new : Outside) (after : Row) (x : Pair) → Does old new (map (Sent (partner c)) p.messages) (Ok x) → false ≡ p.broken → Grows row bytes after → after.conn ≡ row.conn
      → Does {A = Unit {0}} old new (piece_for to c bytes (stream_of c ls) ls).line (Ok tt) × ShowAll (slice_set rows place after) (piece_for to c bytes (stream_of c ls) ls).next
  piece_goes_on old new after x does goes grows same =
      by_step (piece_for to c bytes (stream_of c ls) ls) (record { line = map (Sent (partner c)) p.messages; next = fed_on c bytes ls }) (step_is ∙ goes_on to c ls bytes p goes) old new (slice_set rows place after) (Ok (tt {0}))
      (does_as {A = Pair} {B = Unit {0}} old new (map (Sent (partner c)) p.messages) (map (Sent (partner c)) p.messages) x (tt {0}) refl does)
      (at.grows bytes after (grown_shows row c at.stream bytes here after same grows))

  pub piece_breaks_off : (old mid new : Outside) (after : Row) (left : List Row) (x : Pair) (r : Result (Unit {0}) RelayFault) → Does old mid (map (Sent (partner c)) p.messages) (Ok x) → true ≡ p.broken → Does mid new (shuts c) r → after.conn ≡ row.conn
      → left ≡ parted_rows c (slice_set rows place after) → Does old new (piece_for to c bytes (stream_of c ls) ls).line r × OnOk r (ShowAll left (piece_for to c bytes (stream_of c ls) ls).next)
  piece_breaks_off old mid new after left x r first breaks second same is =
      by_step (piece_for to c bytes (stream_of c ls) ls) (record { line = map (Sent (partner c)) p.messages ++ shuts c; next = parted c ls }) (step_is ∙ breaks_off to c ls bytes p breaks) old new left r
      (does_more old mid new (map (Sent (partner c)) p.messages) (shuts c) x r first second)
      (at_ok r (subst (λ (rs : List Row). ShowAll rs (parted c ls)) (sym (is ∙ at.gone after (same ∙ here.number))) (parted_shows c rows ls shows)))

  pub piece_fails : (old new : Outside) (left : List Row) (fault : RelayFault) → Does {A = Pair} old new (map (Sent (partner c)) p.messages) (Err fault) → Does {A = Unit {0}} old new (piece_for to c bytes (stream_of c ls) ls).line (Err fault) × OnOk {T = Unit {0}} {E = RelayFault} (Err fault) (ShowAll left (piece_for to c bytes (stream_of c ls) ls).next)
  piece_fails old new left fault does = by_step (piece_for to c bytes (stream_of c ls) ls) (passing to c bytes p ls) step_is old new left (Err fault) (cut_passing to c ls bytes {A = Pair} old new p fault does) tt
