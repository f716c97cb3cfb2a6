-- Where reading sessions stops, and how it goes on.
use Rattle.std.proofs.Common.{◌≡◌, ℕ, ◌+◌, ◌-◌, ◌<◌, ◌≤◌, List, [], ◌∷◌, ◌++◌, length, map, refl, sym, ap, ap₂, ◌∙◌, subst, append_assoc, arith, length-append}
use Rattle.std.specs.Prelude.{flat_map}
use Rattle.std.specs.List.{AllByRecursion}
use Rattle.std.proofs.lemmas.Grind.{flat_map-append}
use Rattle.std.proofs.lemmas.List.{append-nil, map-append}
use Rattle.ice_values.specs.Cells.{Cells, zeros}
use Rattle.checkpoint_records.specs.Books.{default_name, entries_in, names_of, stored}
use Rattle.checkpoint_records.specs.Finding.{AreInFront, EndsEarly, IsStop, IsStuck}
use Rattle.checkpoint_records.specs.Following.{Due, AreParts, due_behind, left_due}
use Rattle.checkpoint_records.specs.Parts.{IsHead, IsSessionHead, AreEntries, AreEntriesBehind, AreSessions, MayBegin, MayHold, count_limit}
use Rattle.checkpoint_records.specs.Rules.{AreRising, IsName, IsStored}
use Rattle.checkpoint_records.specs.Spelling.{Part, Begins, Holds, count_in, entry_cells, part_cells, session_head_cells, session_parts}
use Rattle.checkpoint_records.specs.Stopping.{StopsBehind}
use Rattle.checkpoint_records.specs.declared.head.Format.{Format}
use Rattle.checkpoint_records.specs.declared.head.Format.TheVariants.{Single, Several}
use Rattle.checkpoint_records.specs.declared.head.Head.{Head}
use Rattle.checkpoint_records.specs.declared.session_heads.SessionHead.{SessionHead}
use Rattle.checkpoint_records.specs.declared.stops.Stop.{Stop}
use Rattle.checkpoint_records.specs.declared.stops.Stop.TheVariants.{Broken, NoMemory}
use Rattle.checkpoint_records.specs.declared.records.Entry.{Entry}
use Rattle.checkpoint_records.specs.declared.records.Named.{Named}
use Rattle.checkpoint_records.proofs.BookLaws.{parts_bytes, parts_more}
use Rattle.checkpoint_records.proofs.DistinctLaws.{all_more}
use Rattle.checkpoint_records.proofs.EntryLaws.{no_entries}
use Rattle.checkpoint_records.proofs.NameLaws.{default_fits}
use Rattle.checkpoint_records.proofs.OrderLaws.{cons-zeros}
use Rattle.checkpoint_records.proofs.PartLaws.{due_of}
use Rattle.checkpoint_records.proofs.SpellLaws.{held_cells}
use Rattle.checkpoint_records.proofs.StandLaws.{Stand, all_parts, begins, holds, several_stand, single_entries, single_parts, single_stands, stuck_at_entry, stuck_at_head}

-- ---- entries behind those of other sessions

pub entries_append : (before more : List Named) → entries_in (before ++ more) ≡ entries_in before ++ entries_in more
entries_append before more = flat_map-append (λ (session : Named). session.entries) before more

-- some entries stop at the next: all that is there, what is left, and how many are lacking
stuck_on : (epoch : ℕ) (before : List Named) (items : List Entry) (rest : List ℕ) → IsStuck entry_cells (AreEntriesBehind epoch before) items rest
    → (entry : Entry) (after : List ℕ) → rest ≡ zeros (entry_cells entry) ++ after → AreEntries epoch ((entries_in before ++ items) ++ entry ∷ []) → ⊥
stuck_on epoch before items rest stuck entry after is are = stuck entry after is (subst (AreEntries epoch) (append_assoc (entries_in before) items (entry ∷ [])) are)

abbrev session_head : List ℕ → ℕ → SessionHead
session_head name count = record { name = name; count = count }

-- ---- the next session

module _ (head : Head) (before : List Named) (format : head.format ≡ Several) (are : AreSessions head before) (fewer : length before < head.count) where
  abbrev front : List Part
  front = all_parts Several before

  stand : Stand head front (names_of before) (length (entries_in before)) (entries_in before) (due_of (head.count - length before) 0 head.pending)
  stand = several_stand head before format are

  -- no head of a session stands there
  pub stops_at_session : (bytes : List ℕ) (stop : Stop)
      → IsStop bytes (λ left. (left ≡ length bytes) × ((begun : SessionHead) (after : List ℕ) → bytes ≡ zeros (session_head_cells begun) ++ after → IsSessionHead begun → ¬ (MayBegin before begun))) stop
      → IsStop bytes (StopsBehind head front bytes) stop
  stops_at_session bytes (Broken left) e =
      let d : Due = due_of (head.count - length before) 0 head.pending in
      let stuck : IsStuck part_cells (AreParts head) front bytes =
      stuck_at_head head front (names_of before) (length (entries_in before)) (entries_in before) d stand bytes refl (omega (arith, fewer)) (λ begun after is fits rising few. e.1.1 begun after is fits (record { rising = rising; few = few })) in
      let none : front ≡ front ++ [] = sym (append-nil front) in (
        e.0,
        record {
          parts = [];
          rest = bytes;
          follow = subst (AreParts head) none stand.follow;
          is = refl;
          stuck = subst (λ (l : List Part). IsStuck part_cells (AreParts head) l bytes) none stuck;
          lacking = λ done. (let n : head.count - length before ≡ 0 = ap (λ (x : Due). x.sessions) (sym stand.due_is ∙ ap (left_due (due_behind head)) none ∙ done) in omega (arith, n, fewer));
          left_is = e.1.0;
        },
      )
  stops_at_session bytes NoMemory e = tt

  module _ (begun : SessionHead) (fits : IsSessionHead begun) (may : MayBegin before begun) (bytes mid : List ℕ) (starts : bytes ≡ zeros (session_head_cells begun) ++ mid) where
    begun_stand : Stand head (front ++ Begins begun ∷ []) (names_of before ++ begun.name ∷ []) (length (entries_in before) + begun.count) (entries_in before) (due_of (head.count - length before - 1) begun.count head.pending)
    begun_stand = begins head front (names_of before) (length (entries_in before)) (entries_in before) (due_of (head.count - length before) 0 head.pending) stand begun refl (omega (arith, fewer)) fits may.rising may.few

    length-mid : length mid ≤ length bytes
    length-mid = omega (arith, ap length starts, length-append (zeros (session_head_cells begun)) mid)

    session-bytes : (items : List Entry) (rest : List ℕ) → mid ≡ zeros (flat_map entry_cells items) ++ rest → bytes ≡ parts_bytes (Begins begun ∷ map Holds items) ++ rest
    session-bytes items rest is =
        starts ∙ ap (λ (l : List ℕ). zeros (session_head_cells begun) ++ l) (is ∙ ap (λ (c : Cells). zeros c ++ rest) (sym (held_cells items))) ∙ sym (cons-zeros part_cells (Begins begun) (map Holds items) rest)

    -- an entry of it is damaged
    pub stops_at_entry : (stop : Stop) → IsStop mid (EndsEarly entry_cells (AreEntriesBehind head.epoch before) mid begun.count) stop → IsStop bytes (StopsBehind head front bytes) stop
    stops_at_entry (Broken left) e =
        let items = e.1.items in
        let left_over : ℕ = begun.count - length items in
        let d : Due = due_of (head.count - length before - 1) left_over head.pending in
        let held = holds head (front ++ Begins begun ∷ []) (names_of before ++ begun.name ∷ []) (length (entries_in before) + begun.count) (entries_in before) (due_of (head.count - length before - 1) begun.count head.pending) begun_stand items (omega (arith, e.1.fewer)) e.1.front.keep in
        let some : 1 ≤ left_over = omega (arith, e.1.fewer) in
        let stuck = stuck_at_entry head ((front ++ Begins begun ∷ []) ++ map Holds items) (names_of before ++ begun.name ∷ []) (length (entries_in before) + begun.count) (entries_in before ++ items) d held e.1.rest some (stuck_on head.epoch before items e.1.rest e.1.stuck) in
        let all : (front ++ Begins begun ∷ []) ++ map Holds items ≡ front ++ (Begins begun ∷ map Holds items) = append_assoc front (Begins begun ∷ []) (map Holds items) in (
          omega (arith, e.0, length-mid),
          record {
            parts = Begins begun ∷ map Holds items;
            rest = e.1.rest;
            follow = subst (AreParts head) all held.follow;
            is = session-bytes items e.1.rest e.1.front.is;
            stuck = subst (λ (l : List Part). IsStuck part_cells (AreParts head) l e.1.rest) all stuck;
            lacking = λ done. (let n : left_over ≡ 0 = ap (λ (x : Due). x.entries) (sym held.due_is ∙ ap (left_due (due_behind head)) all ∙ done) in omega (arith, n, some));
            left_is = e.1.left_is;
          },
        )
    stops_at_entry NoMemory e = tt

    -- all its entries are there
    pub one_more_session : (session : Named) (rest : List ℕ) → session.name ≡ begun.name → AreInFront entry_cells (AreEntriesBehind head.epoch before) mid session.entries rest → length session.entries ≡ begun.count
        → AreSessions head (before ++ session ∷ []) × (bytes ≡ zeros (flat_map part_cells (session_parts Several session)) ++ rest)
    one_more_session session rest name in_front count =
        let more : entries_in (before ++ session ∷ []) ≡ entries_in before ++ session.entries = entries_append before (session ∷ []) ∙ ap (λ (l : List Entry). entries_in before ++ l) (append-nil session.entries) in
        let names : names_of (before ++ session ∷ []) ≡ names_of before ++ begun.name ∷ [] = map-append (λ (s : Named). s.name) before (session ∷ []) ∙ ap (λ (n : List ℕ). names_of before ++ n ∷ []) name in
        let same : ◌≡◌ {A = SessionHead} begun (record { name = session.name; count = length session.entries }) = ap₂ (λ (n : List ℕ) (k : ℕ). session_head n k) (sym name) (sym count) in (
          record {
            stored = all_more IsStored before session are.stored (record { called = subst IsName (sym name) fits.called; some = omega (arith, count, fits.some) });
            rising = subst AreRising (sym names) may.rising;
            few_entries = omega (arith, ap length more, length-append (entries_in before) session.entries, count, may.few);
            entries = subst (AreEntries head.epoch) (sym more) in_front.keep;
            held = subst (λ (f : Format). MayHold f (before ++ session ∷ [])) (sym format) tt;
            few = subst (λ (f : Format). count_in f (before ++ session ∷ []) ≤ head.count) (sym format) (omega (arith, length-append before (session ∷ []), fewer));
          },
          session-bytes session.entries rest in_front.is ∙ ap (λ (b : SessionHead). parts_bytes (Begins b ∷ map Holds session.entries) ++ rest) same,
        )

-- ---- all sessions of the second format

pub no_sessions : (head : Head) → head.format ≡ Several → AreSessions head []
no_sessions head format = record {
  stored = tt;
  rising = tt;
  few_entries = omega arith;
  entries = no_entries head.epoch;
  held = subst (λ (f : Format). MayHold f []) (sym format) tt;
  few = subst (λ (f : Format). count_in f [] ≤ head.count) (sym format) (omega arith);
}

-- what has been read is a front of what stops
pub stops_further : (head : Head) (parts : List Part) (bytes mid : List ℕ) (stop : Stop) → bytes ≡ parts_bytes parts ++ mid → IsStop mid (StopsBehind head parts mid) stop → IsStop bytes (StopsBehind head [] bytes) stop
stops_further head parts bytes mid (Broken left) is e = (
  omega (arith, e.0, ap length is, length-append (parts_bytes parts) mid),
  record {
    parts = parts ++ e.1.parts;
    rest = e.1.rest;
    follow = e.1.follow;
    is = is ∙ ap (λ (l : List ℕ). parts_bytes parts ++ l) e.1.is ∙ sym (append_assoc (parts_bytes parts) (parts_bytes e.1.parts) e.1.rest) ∙ ap (λ (l : List ℕ). l ++ e.1.rest) (sym (parts_more parts e.1.parts));
    stuck = e.1.stuck;
    lacking = e.1.lacking;
    left_is = e.1.left_is;
  },
)
stops_further head parts bytes mid NoMemory is e = tt

pub sessions_further : (before : List Named) (session : Named) (bytes mid rest : List ℕ) → bytes ≡ parts_bytes (all_parts Several before) ++ mid → mid ≡ zeros (flat_map part_cells (session_parts Several session)) ++ rest
    → bytes ≡ parts_bytes (all_parts Several (before ++ session ∷ [])) ++ rest
sessions_further before session bytes mid rest is more =
    let one : all_parts Several (session ∷ []) ≡ session_parts Several session = append-nil (session_parts Several session) in
    let all : all_parts Several (before ++ session ∷ []) ≡ all_parts Several before ++ session_parts Several session = flat_map-append (session_parts Several) before (session ∷ []) ∙ ap (λ (l : List Part). all_parts Several before ++ l) one in
    is ∙ ap (λ (l : List ℕ). parts_bytes (all_parts Several before) ++ l) more ∙ sym (append_assoc (parts_bytes (all_parts Several before)) (parts_bytes (session_parts Several session)) rest)
    ∙ ap (λ (l : List ℕ). l ++ rest) (sym (parts_more (all_parts Several before) (session_parts Several session)) ∙ ap parts_bytes (sym all))

-- ---- the one session of the first format

module _ (head : Head) (format : head.format ≡ Single) (bytes : List ℕ) where
  pub stops_alone : (stop : Stop) → IsStop bytes (EndsEarly entry_cells (AreEntriesBehind head.epoch []) bytes head.count) stop → IsStop bytes (StopsBehind head [] bytes) stop
  stops_alone (Broken left) e =
      let items = e.1.items in
      let left_over : ℕ = head.count - length items in
      let some : 1 ≤ left_over = omega (arith, e.1.fewer) in
      let held = single_stands head items format (omega (arith, e.1.fewer)) e.1.front.keep in
      let stuck = stuck_at_entry head (map Holds items) [] 0 items (due_of 0 left_over head.pending) held e.1.rest some (stuck_on head.epoch [] items e.1.rest e.1.stuck) in (
        e.0,
        record {
          parts = map Holds items;
          rest = e.1.rest;
          follow = held.follow;
          is = e.1.front.is ∙ ap (λ (c : Cells). zeros c ++ e.1.rest) (sym (held_cells items));
          stuck = stuck;
          lacking = λ done. (let n : left_over ≡ 0 = ap (λ (x : Due). x.entries) (sym held.due_is ∙ done) in omega (arith, n, some));
          left_is = e.1.left_is;
        },
      )
  stops_alone NoMemory e = tt

  stored-alone : (entries : List Entry) → AllByRecursion IsStored (stored default_name entries [])
  stored-alone [] = tt
  stored-alone (e ∷ entries) = (record { called = default_fits; some = omega arith }, tt)

  rising-alone : (entries : List Entry) → AreRising (names_of (stored default_name entries []))
  rising-alone [] = tt
  rising-alone (e ∷ entries) = (tt, tt)

  pub alone : (entries : List Entry) (all : List Named) (rest : List ℕ) → IsHead head → all ≡ stored default_name entries [] → AreInFront entry_cells (AreEntriesBehind head.epoch []) bytes entries rest → length entries ≡ head.count
      → AreSessions head all × (count_in Single all ≡ head.count) × (bytes ≡ zeros (flat_map part_cells (all_parts Single all)) ++ rest)
  alone entries all rest is_head is in_front count =
      let same : entries_in all ≡ entries = ap entries_in is ∙ single_entries entries in
      let whole : count_in Single all ≡ head.count = ap length same ∙ count in
      let limit : head.count ≤ 128 = subst (λ (f : Format). head.count ≤ count_limit f) format is_head.count in
      let parts : all_parts Single all ≡ map Holds entries = ap (all_parts Single) is ∙ single_parts entries in (
        record {
          stored = subst (AllByRecursion IsStored) (sym is) (stored-alone entries);
          rising = subst (λ (l : List Named). AreRising (names_of l)) (sym is) (rising-alone entries);
          few_entries = omega (arith, ap length same, count, limit);
          entries = subst (AreEntries head.epoch) (sym same) in_front.keep;
          held = subst (λ (f : Format). MayHold f all) (sym format) (is ∙ ap (λ (l : List Entry). stored default_name l []) (sym same));
          few = subst (λ (f : Format). count_in f all ≤ head.count) (sym format) (omega (arith, whole));
        },
        whole,
        in_front.is ∙ ap (λ (c : Cells). zeros c ++ rest) (sym (held_cells entries)) ∙ ap (λ (l : List Part). zeros (flat_map part_cells l) ++ rest) (sym parts),
      )
