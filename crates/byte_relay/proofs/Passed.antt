-- What a piece brings to the other side, part by part.
use Rattle.std.proofs.Common.{◌≡◌, ℕ, ◌-◌, Bool, true, false, List, [], ◌∷◌, ◌++◌, length, map, take, drop, Ok, Err, refl, sym, ap, ap₂, ◌∙◌, arith, append_assoc, length-drop}
use Rattle.std.specs.Prelude.{◌&&◌}
use Rattle.std.proofs.lemmas.List.{append-nil, take_all}
use Rattle.sm_world.specs.Outside.{Outside}
use Rattle.sm_world.specs.declared.effects.Effect.{Effect}
use Rattle.sm_world.specs.declared.effects.Effect.TheVariants.{Sent}
use Rattle.ice_values.specs.declared.numbers.Endian.{Endian}
use Rattle.ice_framing.specs.Frames.{Standing, fed, cut}
use Rattle.ice_framing.specs.Parts.{Part, parts_at}
use Rattle.ice_framing.proofs.Parts.{parts_at-partial}
use Rattle.byte_relay.specs.Relaying.{Brings, Passed, passed_by, passed, are_none}
use Rattle.byte_relay.specs.Rows.{brought, done_about, is_breaking, TakesFirst, HoldsAll, Grows, passed_on}
use Rattle.byte_relay.specs.Serving.{Does}
use Rattle.byte_relay.specs.declared.fault.RelayFault.{RelayFault}
use Rattle.byte_relay.specs.declared.fault.RelayFault.TheVariants.{NoMemory}
use Rattle.byte_relay.specs.declared.passing.Pair.{Pair}
use Rattle.byte_relay.specs.declared.respeller.Taken.{Taken}
use Rattle.byte_relay.specs.declared.respeller.Taken.TheVariants.{Begins as HasBegun, Passes as IsPassed, Breaks as HasBroken}
use Rattle.byte_relay.specs.declared.row.Row.{Row}
use Rattle.byte_relay.specs.declared.row.Cut.{Cut}
use Rattle.byte_relay.proofs.Doing.{does_more, does_cut, does_as, fails_as, does_nothing, does_then_none}
use Rattle.byte_relay.proofs.Framed.{settled}

-- what is passed on is sent to the other side
abbrev pub sent_of : ℕ → Passed → List Effect
sent_of other p = map (Sent other) p.messages

-- what one part adds, unless it breaks the pair
sent_by : (other : ℕ) (taken : Taken) (bytes : List ℕ) (later : Passed) → is_breaking taken ≡ false → sent_of other (passed_by (brought taken bytes) later) ≡ done_about other taken bytes ++ sent_of other later
sent_by other HasBegun bytes later goes = refl
sent_by other IsPassed bytes later goes = refl
sent_by other HasBroken bytes later goes = absurd cc

broken_by : (taken : Taken) (bytes : List ℕ) (later : Passed) → is_breaking taken ≡ false → (passed_by (brought taken bytes) later).broken ≡ later.broken
broken_by HasBegun bytes later goes = refl
broken_by IsPassed bytes later goes = refl
broken_by HasBroken bytes later goes = absurd cc

last_sent : (other : ℕ) (taken : Taken) (bytes : List ℕ) (later : Passed) → is_breaking taken ≡ true → sent_of other (passed_by (brought taken bytes) later) ≡ done_about other taken bytes
last_sent other HasBegun bytes later breaks = absurd cc
last_sent other IsPassed bytes later breaks = absurd cc
last_sent other HasBroken bytes later breaks = refl

last_broken : (taken : Taken) (bytes : List ℕ) (later : Passed) → is_breaking taken ≡ true → (passed_by (brought taken bytes) later).broken ≡ true
last_broken HasBegun bytes later breaks = absurd cc
last_broken IsPassed bytes later breaks = absurd cc
last_broken HasBroken bytes later breaks = refl

-- how far a piece was taken: what is still to be cut brings what is still to be sent
pub record Middle (to : Endian) (other : ℕ) (start : Row) (piece : List ℕ) (old now : Outside) (row : Row) (left : List ℕ) : Type 0 where
  pub sent : List Effect
  pub done : Does {A = Unit {0}} old now sent (Ok tt)
  pub all : sent_of other (passed_on to start piece) ≡ sent ++ sent_of other (passed_on to row left)
  pub broken : (passed_on to start piece).broken ≡ (passed_on to row left).broken
  pub stands : (cut (fed row.splitter left)).standing ≡ (cut (fed start.splitter piece)).standing
  pub fresh : (row.fresh && are_none (parts_at (fed row.splitter left))) ≡ (start.fresh && are_none (parts_at (fed start.splitter piece)))

pub begins : (to : Endian) (other : ℕ) (start : Row) (piece : List ℕ) (old : Outside) → Middle to other start piece old old start piece
begins to other start piece old = record { sent = []; done = does_nothing old tt; all = refl; broken = refl; stands = refl; fresh = refl }

-- one part brings what stands in front
front_is : (to : Endian) (row : Row) (left : List ℕ) (taken : Cut) (bytes : List ℕ) (after : Row) (t : TakesFirst to row left taken bytes after) → passed_on to row left ≡ passed_by (brought taken.taken bytes) (passed_on to after (drop taken.count left))
front_is to row left taken bytes after t =
    ap (passed to row.fresh) t.parts
    ∙ ap₂ (λ (b : Brings) (fresh : Bool). passed_by b (passed to fresh (parts_at (fed after.splitter (drop taken.count left))))) t.brings (sym t.fresh)

both_false : (b : Bool) → (b && false) ≡ false
both_false true = refl
both_false false = refl

some_parts : (fresh : Bool) (part : Part) (parts : List Part) → (fresh && are_none (part ∷ parts)) ≡ false
some_parts true part parts = refl
some_parts false part parts = refl

module _ (to : Endian) (other : ℕ) (start : Row) (piece : List ℕ) (old now next : Outside) (row : Row) (left : List ℕ) (taken : Cut) (bytes : List ℕ) (after : Row)
    (m : Middle to other start piece old now row left) (t : TakesFirst to row left taken bytes after) where
  abbrev rest : Passed
  rest = passed_on to after (drop taken.count left)

  front : passed_on to row left ≡ passed_by (brought taken.taken bytes) rest
  front = front_is to row left taken bytes after t

  -- a part that doesn't break the pair
  pub further : (x : Pair) → is_breaking taken.taken ≡ false → Does now next (done_about other taken.taken bytes) (Ok x) → Middle to other start piece old next after (drop taken.count left)
  further x goes does = record {
    sent = m.sent ++ done_about other taken.taken bytes;
    done = does_more old now next m.sent (done_about other taken.taken bytes) tt (Ok tt) m.done (does_as now next (done_about other taken.taken bytes) (done_about other taken.taken bytes) x tt refl does);
    all = m.all ∙ (ap (λ (p : Passed). m.sent ++ sent_of other p) front ∙ (ap (λ (l : List Effect). m.sent ++ l) (sent_by other taken.taken bytes rest goes) ∙ sym (append_assoc m.sent (done_about other taken.taken bytes) (sent_of other rest))));
    broken = m.broken ∙ (ap (λ (p : Passed). p.broken) front ∙ broken_by taken.taken bytes rest goes);
    stands = t.stands goes ∙ m.stands;
    fresh = ap (λ (b : Bool). b && are_none (parts_at (fed after.splitter (drop taken.count left)))) t.fresh
        ∙ (sym (ap (λ (ps : List Part). row.fresh && are_none ps) t.parts ∙ some_parts row.fresh t.part (parts_at (fed after.splitter (drop taken.count left)))) ∙ m.fresh);
  }

  -- one that does
  pub stops : (x y : Pair) → is_breaking taken.taken ≡ true → Does now next (done_about other taken.taken bytes) (Ok x) → Does old next (sent_of other (passed_on to start piece)) (Ok y)
  stops x y breaks does =
      does_as old next (m.sent ++ done_about other taken.taken bytes) (sent_of other (passed_on to start piece)) x y
      (sym (m.all ∙ (ap (λ (p : Passed). m.sent ++ sent_of other p) front ∙ ap (λ (l : List Effect). m.sent ++ l) (last_sent other taken.taken bytes rest breaks))))
      (does_more old now next m.sent (done_about other taken.taken bytes) tt (Ok x) m.done does)

  pub stopped : is_breaking taken.taken ≡ true → (passed_on to start piece).broken ≡ true
  stopped breaks = m.broken ∙ (ap (λ (p : Passed). p.broken) front ∙ last_broken taken.taken bytes rest breaks)

  first_of : (kind : Taken) → brought kind bytes ≡ brought taken.taken bytes → (later : List Effect) × (done_about other kind bytes ++ later ≡ sent_of other (passed_by (brought kind bytes) rest))
  first_of HasBegun is = (sent_of other rest, refl)
  first_of IsPassed is = (sent_of other rest, refl)
  first_of HasBroken is = ([], refl)

  -- a part that isn't handed on
  pub cut_off : (fault : RelayFault) → Does {A = Pair} now next (done_about other taken.taken bytes) (Err fault) → Does {A = Pair} old next (sent_of other (passed_on to start piece)) (Err fault)
  cut_off fault does =
      let more = first_of taken.taken refl in
      let all : m.sent ++ (done_about other taken.taken bytes ++ more.0) ≡ sent_of other (passed_on to start piece) =
      ap (λ (l : List Effect). m.sent ++ l) more.1 ∙ sym (m.all ∙ ap (λ (p : Passed). m.sent ++ sent_of other p) front) in
      fails_as {A = Pair} old next (m.sent ++ (done_about other taken.taken bytes ++ more.0)) (sent_of other (passed_on to start piece)) fault all
      (does_more old now next m.sent (done_about other taken.taken bytes ++ more.0) tt (Err fault) m.done (does_cut now next (done_about other taken.taken bytes) more.0 fault does))

module _ (to : Endian) (other : ℕ) (start : Row) (piece : List ℕ) (old now : Outside) (row : Row) (left : List ℕ) (m : Middle to other start piece old now row left) where
  -- where no part is whole all was sent
  none_sent : parts_at (fed row.splitter left) ≡ [] → m.sent ≡ sent_of other (passed_on to start piece)
  none_sent none = sym (m.all ∙ (ap (λ (ps : List Part). m.sent ++ sent_of other (passed to row.fresh ps)) none ∙ append-nil m.sent))

  pub all_sent : (x : Pair) → parts_at (fed row.splitter left) ≡ [] → Does old now (sent_of other (passed_on to start piece)) (Ok x)
  all_sent x none = does_as old now m.sent (sent_of other (passed_on to start piece)) tt x (none_sent none) m.done

  pub unbroken : parts_at (fed row.splitter left) ≡ [] → false ≡ (passed_on to start piece).broken
  unbroken none = sym (m.broken ∙ ap (λ (ps : List Part). (passed to row.fresh ps).broken) none)

  true_both : (b : Bool) → (b && true) ≡ b
  true_both true = refl
  true_both false = refl

  -- and the row shows all that came
  pub grown : (after : Row) → parts_at (fed row.splitter left) ≡ [] → after.splitter ≡ (cut (fed row.splitter left)).standing → after.fresh ≡ row.fresh → Grows start piece after
  grown after none stands fresh = record {
    splitter = stands ∙ m.stands;
    fresh = fresh ∙ (sym (ap (λ (ps : List Part). row.fresh && are_none ps) none ∙ true_both row.fresh) ∙ m.fresh);
  }

  -- memory was wanting before the next part
  pub given_up : Does {A = Pair} old now (sent_of other (passed_on to start piece)) (Err NoMemory)
  given_up = fails_as {A = Pair} old now (m.sent ++ sent_of other (passed_on to row left)) (sent_of other (passed_on to start piece)) NoMemory (sym m.all) (does_then_none {B = Pair} old now m.sent (sent_of other (passed_on to row left)) tt m.done)

-- ---- behind the last byte of a piece

nothing_left : (row : Row) (left : List ℕ) → length left ≡ 0 → fed row.splitter left ≡ row.splitter
nothing_left row [] none = ap (λ (held : List ℕ). record { order = row.splitter.order; held = held }) (append-nil row.splitter.held)
nothing_left row (b ∷ left) none = absurd (omega (arith, none))

pub no_part_left : (row : Row) (left : List ℕ) → length left ≡ 0 → parts_at (fed row.splitter left) ≡ []
no_part_left row left none = ap parts_at (nothing_left row left none) ∙ parts_at-partial row.splitter row.partial row.within

pub stands_there : (row : Row) (left : List ℕ) → length left ≡ 0 → row.splitter ≡ (cut (fed row.splitter left)).standing
stands_there row left none = sym (ap (λ (at : Standing). (cut at).standing) (nothing_left row left none) ∙ settled row.splitter row.partial row.within)

pub stands_held : (row after : Row) (left : List ℕ) → HoldsAll row left after → after.splitter ≡ (cut (fed row.splitter left)).standing
stands_held row after left holds = sym (settled after.splitter after.partial after.within) ∙ ap (λ (at : Standing). (cut at).standing) holds.splitter
