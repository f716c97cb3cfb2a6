-- Where a book's bytes end, and where they are damaged.
use Rattle.std.proofs.Common.{◌≡◌, ℕ, ◌+◌, ◌-◌, ◌<◌, ◌≤◌, inl, inr, List, [], ◌∷◌, ◌++◌, length, map, None, Result, Ok, Err, refl, sym, ap, ap₂, ◌∙◌, subst, append_assoc, arith, length-append}
use Rattle.std.specs.Prelude.{flat_map}
use Rattle.std.proofs.lemmas.Grind.{flat_map-append}
use Rattle.std.proofs.lemmas.List.{append-nil}
use Rattle.owned_lists.specs.declared.commands.Command.{Command}
use Rattle.ice_values.specs.Cells.{zeros}
use Rattle.ice_values.specs.declared.numbers.Endian.TheVariants.{Lsb}
use Rattle.ice_values.proofs.CellLaws.{zeros-append}
use Rattle.checkpoint_records.specs.Books.{chosen_from, default_name, discards, entries_in, entries_of, others_than, sessions, stored}
use Rattle.checkpoint_records.specs.Damage.{BeginsBook, IsDamaged, StandFor}
use Rattle.checkpoint_records.specs.Finding.{Finds, AreInFront, IsStuck, EndsEarly, IsStop}
use Rattle.checkpoint_records.specs.Following.{Due, AreInOrder, left_due, due_behind, nothing_due, entries_among, commands_among, AreParts}
use Rattle.checkpoint_records.specs.Parts.{IsHead, ArePending, AreSessions, MayHold, count_limit}
use Rattle.checkpoint_records.specs.Rules.{command_cells}
use Rattle.checkpoint_records.specs.Spelling.{Part, Begins, Holds, Pends, Allows, bytes_in, count_in, head_cells, head_of, part_cells, parts_in, parts_of, Spells}
use Rattle.checkpoint_records.specs.Stopping.{StopsBehind}
use Rattle.checkpoint_records.specs.declared.head.Format.{Format}
use Rattle.checkpoint_records.specs.declared.head.Format.TheVariants.{Single, Several}
use Rattle.checkpoint_records.specs.declared.head.Head.{Head}
use Rattle.checkpoint_records.specs.declared.stops.Stop.{Stop}
use Rattle.checkpoint_records.specs.declared.stops.Stop.TheVariants.{Broken, NoMemory}
use Rattle.checkpoint_records.specs.declared.records.Entry.{Entry}
use Rattle.checkpoint_records.specs.declared.records.Named.{Named}
use Rattle.checkpoint_records.specs.declared.records.Book.{Book}
use Rattle.checkpoint_records.proofs.ChoiceLaws.{chosen_keeps, ordered}
use Rattle.checkpoint_records.proofs.FindLaws.{none_found}
use Rattle.checkpoint_records.proofs.NameLaws.{chosen_stays, default_fits, itself, put_back}
use Rattle.checkpoint_records.proofs.OnceLaws.{head_bytes, head_once}
use Rattle.checkpoint_records.proofs.OrderLaws.{front_of}
use Rattle.checkpoint_records.proofs.PartLaws.{due_of, none_comes, order_behind, parts_less, parts_once}
use Rattle.checkpoint_records.proofs.SpellLaws.{pended_cells}
use Rattle.checkpoint_records.proofs.StandLaws.{StandPending, all_parts, all_stand, pends, single_entries, stuck_at_command, stuck_at_end}

abbrev heading : Format → ℕ → ℕ → ℕ → Head
heading format epoch count pending = record { format = format; epoch = epoch; count = count; pending = pending }

-- ---- bytes of parts

abbrev pub parts_bytes : List Part → List ℕ
parts_bytes parts = zeros (flat_map part_cells parts)

abbrev pub pending_bytes : List Command → List ℕ
pending_bytes pending = zeros (flat_map (command_cells Lsb) pending)

pub parts_more : (xs ys : List Part) → parts_bytes (xs ++ ys) ≡ parts_bytes xs ++ parts_bytes ys
parts_more xs ys = ap zeros (flat_map-append part_cells xs ys) ∙ zeros-append (flat_map part_cells xs) (flat_map part_cells ys)

-- a head, parts, and what follows
pub whole_bytes : (head : Head) (parts : List Part) (rest : List ℕ) → zeros (head_cells head ++ flat_map part_cells parts) ++ rest ≡ head_bytes head ++ (parts_bytes parts ++ rest)
whole_bytes head parts rest = ap (λ (l : List ℕ). l ++ rest) (zeros-append (head_cells head) (flat_map part_cells parts)) ∙ append_assoc (head_bytes head) (parts_bytes parts) rest

-- ---- a book and its parts

abbrev Holding : Format → Book → Type 0
Holding format book = AreSessions (head_of format book) (sessions book)

pub allowed : (format : Format) (book : Book) → book.name ≡ default_name → Allows format book → MayHold format (sessions book)
allowed Single book name alone =
    let is : sessions book ≡ stored default_name book.entries [] = ap₂ (λ (n : List ℕ) (others : List Named). stored n book.entries others) name alone in
    is ∙ ap (λ (l : List Entry). stored default_name l []) (sym (single_entries book.entries)) ∙ ap (λ (all : List Named). stored default_name (entries_in all) []) (sym is)
allowed Several book name alone = tt

pub holding : (format : Format) (bytes : List ℕ) (book : Book) → Spells format bytes book → Holding format book
holding format bytes book s =
    let k = ordered book s.rules in
    record {
      stored = k.stored;
      rising = k.rising;
      few_entries = k.few_entries;
      entries = k.entries;
      held = allowed format book s.chosen s.allowed;
      few = omega arith;
    }

stated-count : (format : Format) (bytes : List ℕ) (book : Book) → Spells format bytes book → count_in format (sessions book) ≤ count_limit format
stated-count Single bytes book s = (ordered book s.rules).few_entries
stated-count Several bytes book s = s.rules.few_sessions

-- all parts of a book stand behind its head, and nothing is yet to come
pub spelled_follow : (format : Format) (bytes : List ℕ) (book : Book) → Spells format bytes book → StandPending (head_of format book) (parts_of format book) (entries_in (sessions book)) book.pending nothing_due
spelled_follow format bytes book s =
    let k = ordered book s.rules in
    let h = all_stand (head_of format book) (sessions book) (holding format bytes book s) refl in
    let n = length book.pending in
    let left : n - n ≡ 0 = omega arith in
    subst (λ (m : ℕ). StandPending (head_of format book) (parts_of format book) (entries_in (sessions book)) book.pending (due_of 0 0 m)) left
    (pends (head_of format book) (all_parts format (sessions book)) h.0 h.1 (entries_in (sessions book)) (due_of 0 0 n) h.2 n refl book.pending (omega arith) k.pending_are)

-- a whole book is a front of its bytes
pub spelled_begins : (format : Format) (bytes : List ℕ) (book : Book) → Spells format bytes book → BeginsBook bytes (head_of format book) (parts_of format book) []
spelled_begins format bytes book s = record {
  stated = record { epoch = s.epoch; count = stated-count format bytes book s; pending = s.rules.few_pending };
  follow = (spelled_follow format bytes book s).follow;
  is = s.is ∙ sym (append-nil (bytes_in format book));
}

-- where there is no head there is no front
pub no_head : (bytes : List ℕ) → Finds head_bytes IsHead bytes None → IsDamaged bytes 0
no_head bytes none = record {
  no_book = λ format book s. front (head_of format book) (parts_of format book) [] (spelled_begins format bytes book s);
  place = inl refl;
  longest = λ n f. absurd (front f.0 f.1 f.2 f.3);
}
  where
    front : (head : Head) (parts : List Part) (rest : List ℕ) → BeginsBook bytes head parts rest → ⊥
    front head parts rest b = none_found head_bytes IsHead bytes head (parts_bytes parts ++ rest) none b.stated (b.is ∙ whole_bytes head parts rest)

-- ---- behind a head

module _ (bytes : List ℕ) (head : Head) (after : List ℕ) (is_head : IsHead head) (starts : bytes ≡ head_bytes head ++ after) where
  pub length_after : length after ≤ length bytes
  length_after = omega (arith, ap length starts, length-append (head_bytes head) after)

  -- each front of the bytes has this head
  same_front : (other : Head) (parts : List Part) (rest : List ℕ) → BeginsBook bytes other parts rest → AreParts head parts × (after ≡ parts_bytes parts ++ rest) × (head ≡ other)
  same_front other parts rest b =
      let h = head_once head other after (parts_bytes parts ++ rest) is_head b.stated (sym starts ∙ b.is ∙ whole_bytes other parts rest) in
      (subst (λ (x : Head). AreParts x parts) (sym h.0) b.follow, h.1, h.0)

  -- Some parts are there, and none may follow. They are damaged there, unless that is the end of all.
  pub damaged_behind : (parts : List Part) (rest : List ℕ) → AreParts head parts → after ≡ parts_bytes parts ++ rest → IsStuck part_cells (AreParts head) parts rest
      → (left_due (due_behind head) parts ≡ nothing_due → rest ≡ [] → ⊥) → IsDamaged bytes (length bytes - length rest)
  damaged_behind parts rest are is stuck more = record {
    no_book = λ format book s.
        let b = spelled_begins format bytes book s in
        let f = same_front (head_of format book) (parts_of format book) [] b in
        let whole : left_due (due_behind head) (parts_of format book) ≡ nothing_due = ap (λ (h : Head). left_due (due_behind h) (parts_of format book)) f.2 ∙ (spelled_follow format bytes book s).due_is in
        let k = front_of part_cells (AreParts head) (parts_less head) (parts_once head) parts (parts_of format book) rest [] are f.0 stuck (sym is ∙ f.1) in
        ends (parts_of format book) k.0 whole k.1 k.2;
    place = inr (
      head,
      parts,
      rest,
      record { stated = is_head; follow = are; is = starts ∙ ap (λ (l : List ℕ). head_bytes head ++ l) is ∙ sym (whole_bytes head parts rest) },
      omega (arith, shorter_rest),
    );
    longest = λ n f. no_longer n f.0 f.1 f.2 f.3 f.4;
  }
    where
      shorter_rest : length rest ≤ length bytes
      shorter_rest = omega (arith, length_after, ap length is, length-append (parts_bytes parts) rest)

      ends : (all left : List Part) → left_due (due_behind head) all ≡ nothing_due → parts ≡ all ++ left → [] ≡ parts_bytes left ++ rest → ⊥
      ends all left whole split behind =
          let none : left ≡ [] = none_comes left (subst (λ (d : Due). AreInOrder d left) whole (order_behind (due_behind head) all left (subst (AreInOrder (due_behind head)) split are.in_order))) in
          let same : parts ≡ all = split ∙ ap (λ (l : List Part). all ++ l) none ∙ append-nil all in
          more (ap (left_due (due_behind head)) same ∙ whole) (sym (behind ∙ ap (λ (l : List Part). parts_bytes l ++ rest) none))

      no_longer : (n : ℕ) (other : Head) (others : List Part) (tail : List ℕ) → BeginsBook bytes other others tail → length bytes ≡ n + length tail → n ≤ length bytes - length rest
      no_longer n other others tail b len =
          let f = same_front other others tail b in
          let k = front_of part_cells (AreParts head) (parts_less head) (parts_once head) parts others rest tail are f.0 stuck (sym is ∙ f.1) in
          omega (arith, len, shorter_rest, ap length k.2, length-append (parts_bytes k.0) rest)

  -- where reading stops
  pub stops_in_parts : (stop : Stop) → IsStop after (StopsBehind head [] after) stop → IsStop bytes (λ left. IsDamaged bytes (length bytes - left)) stop
  stops_in_parts (Broken left) e = (
    omega (arith, e.0, length_after),
    subst (λ (k : ℕ). IsDamaged bytes (length bytes - k)) (sym e.1.left_is) (damaged_behind e.1.parts e.1.rest e.1.follow e.1.is e.1.stuck (λ whole none. e.1.lacking whole)),
  )
  stops_in_parts NoMemory e = tt

  module _ (all : List Named) (are : AreSessions head all) (whole : count_in head.format all ≡ head.count) (mid : List ℕ) (is : after ≡ parts_bytes (all_parts head.format all) ++ mid) where
    length_mid : length mid ≤ length after
    length_mid = omega (arith, ap length is, length-append (parts_bytes (all_parts head.format all)) mid)

    all_follow : (pending : List Command) → length pending ≤ head.pending → ArePending (discards (entries_in all)) pending
        → StandPending head (parts_in head.format all pending) (entries_in all) pending (due_of 0 0 (head.pending - length pending))
    all_follow pending few are_pending =
        let h = all_stand head all are whole in
        pends head (all_parts head.format all) h.0 h.1 (entries_in all) (due_of 0 0 head.pending) h.2 head.pending refl pending few are_pending

    these_bytes : (pending : List Command) (last : List ℕ) → mid ≡ pending_bytes pending ++ last → after ≡ parts_bytes (parts_in head.format all pending) ++ last
    these_bytes pending last e =
        let cells : parts_bytes (map Pends pending) ≡ pending_bytes pending = ap zeros (pended_cells pending) in
        is ∙ ap (λ (l : List ℕ). parts_bytes (all_parts head.format all) ++ l) (e ∙ ap (λ (l : List ℕ). l ++ last) (sym cells)) ∙ sym (append_assoc (parts_bytes (all_parts head.format all)) (parts_bytes (map Pends pending)) last)
        ∙ ap (λ (l : List ℕ). l ++ last) (sym (parts_more (all_parts head.format all) (map Pends pending)))

    -- the next pending command is damaged
    pub stops_in_pending : (stop : Stop) → IsStop mid (EndsEarly (command_cells Lsb) (ArePending (discards (entries_in all))) mid head.pending) stop → IsStop bytes (λ left. IsDamaged bytes (length bytes - left)) stop
    stops_in_pending (Broken left) e =
        let f = all_follow e.1.items (omega (arith, e.1.fewer)) e.1.front.keep in
        let parts = parts_in head.format all e.1.items in (
          omega (arith, e.0, length_mid, length_after),
          subst (λ (k : ℕ). IsDamaged bytes (length bytes - k)) (sym e.1.left_is)
              (damaged_behind parts e.1.rest f.follow (these_bytes e.1.items e.1.rest e.1.front.is) (stuck_at_command head parts (entries_in all) e.1.items (head.pending - length e.1.items) e.1.rest f e.1.stuck)
              (λ done none. let n : head.pending - length e.1.items ≡ 0 = ap (λ (d : Due). d.pending) (sym f.due_is ∙ done) in omega (arith, n, e.1.fewer))),
        )
    stops_in_pending NoMemory e = tt

    -- bytes are left behind the last part
    pub stops_behind : (pending : List Command) (last : List ℕ) → AreInFront (command_cells Lsb) (ArePending (discards (entries_in all))) mid pending last → length pending ≡ head.pending → 0 < length last
        → (length last ≤ length bytes) × IsDamaged bytes (length bytes - length last)
    stops_behind pending last front every left =
        let f = all_follow pending (omega (arith, every)) front.keep in
        let n : head.pending - length pending ≡ 0 = omega (arith, every) in (
          omega (arith, length_mid, length_after, ap length front.is, length-append (pending_bytes pending) last),
          damaged_behind (parts_in head.format all pending) last f.follow (these_bytes pending last front.is) (stuck_at_end head (parts_in head.format all pending) last (f.due_is ∙ ap (λ (m : ℕ). due_of 0 0 m) n))
              (λ done none. omega (arith, left, ap length none)),
        )

    -- nothing is left
    pub is_whole : (pending : List Command) (last : List ℕ) → AreInFront (command_cells Lsb) (ArePending (discards (entries_in all))) mid pending last → length pending ≡ head.pending → length last ≤ 0
        → Spells head.format bytes (chosen_from default_name all pending head.epoch)
    is_whole pending last front every none =
        let back : stored default_name (entries_of default_name all) (others_than default_name all) ≡ all = put_back default_name all are.stored are.rising in
        record {
          rules = chosen_keeps default_name all pending head.epoch default_fits (record {
            stored = are.stored;
            rising = are.rising;
            few = few_sessions head.format refl;
            few_entries = are.few_entries;
            few_pending = omega (arith, every, is_head.pending);
            entries = are.entries;
            pending_are = front.keep;
          });
          epoch = is_head.epoch;
          chosen = refl;
          allowed = may_be head.format refl;
          is = starts ∙ ap (λ (l : List ℕ). head_bytes head ++ l) (these_bytes pending last front.is) ∙ sym (whole_bytes head (parts_in head.format all pending) last)
              ∙ ap (λ (l : List ℕ). zeros (head_cells head ++ flat_map part_cells (parts_in head.format all pending)) ++ l) (empty last none)
              ∙ append-nil (zeros (head_cells head ++ flat_map part_cells (parts_in head.format all pending)))
              ∙ ap₂ (λ (h : Head) (l : List Named). zeros (head_cells h ++ flat_map part_cells (parts_in head.format l pending))) same_head (sym back);
        }
      where
        empty : (l : List ℕ) → length l ≤ 0 → l ≡ []
        empty [] le = refl
        empty (x ∷ l) le = absurd (omega arith)

        same_head : head ≡ head_of head.format (chosen_from default_name all pending head.epoch)
        same_head =
            let back : stored default_name (entries_of default_name all) (others_than default_name all) ≡ all = put_back default_name all are.stored are.rising in
            ap₂ (λ (n m : ℕ). heading head.format head.epoch n m) (sym whole ∙ ap (λ (l : List Named). count_in head.format l) (sym back)) (sym every)

        one : (entries : List Entry) → length (stored default_name entries []) ≤ 1
        one [] = omega arith
        one (e ∷ entries) = omega arith

        few : (f : Format) → MayHold f all → count_in f all ≤ count_limit f → length all ≤ 8
        few Single held le = omega (arith, ap length held, one (entries_in all))
        few Several held le = le

        few_sessions : (f : Format) → head.format ≡ f → length all ≤ 8
        few_sessions f e = few f (subst (λ (g : Format). MayHold g all) e are.held) (subst (λ (g : Format). count_in g all ≤ count_limit g) e (omega (arith, whole, is_head.count)))

        alone : (entries : List Entry) → others_than default_name (stored default_name entries []) ≡ []
        alone [] = refl
        alone (e ∷ entries) = (let t = itself default_name in rw t refl)

        may_be : (f : Format) → head.format ≡ f → Allows f (chosen_from default_name all pending head.epoch)
        may_be Single e = let held : all ≡ stored default_name (entries_in all) [] = subst (λ (g : Format). MayHold g all) e are.held in ap (others_than default_name) held ∙ alone (entries_in all)
        may_be Several e = tt

-- ---- what bytes stand for

same_whole : (head : Head) (xs ys : List Part) → AreParts head xs → AreParts head ys → left_due (due_behind head) xs ≡ nothing_due → left_due (due_behind head) ys ≡ nothing_due → parts_bytes xs ++ [] ≡ parts_bytes ys ++ [] → xs ≡ ys
same_whole head xs ys are_xs are_ys done_xs done_ys is =
    let k = front_of part_cells (AreParts head) (parts_less head) (parts_once head) xs ys [] [] are_xs are_ys (stuck_at_end head xs [] done_xs) is in
    let none : k.0 ≡ [] = none_comes k.0 (subst (λ (d : Due). AreInOrder d k.0) done_ys (order_behind (due_behind head) ys k.0 (subst (AreInOrder (due_behind head)) k.1 are_xs.in_order))) in
    k.1 ∙ ap (λ (l : List Part). ys ++ l) none ∙ append-nil ys

abbrev named : List ℕ → List Entry → Named
named name entries = record { name = name; entries = entries }

-- the sessions that parts are of, and the entries in front of the first
abbrev regrouped : List Part → List Entry × List Named
regrouped [] = ([], [])
regrouped (Begins begun ∷ parts) = ([], record { name = begun.name; entries = (regrouped parts).0 } ∷ (regrouped parts).1)
regrouped (Holds entry ∷ parts) = (entry ∷ (regrouped parts).0, (regrouped parts).1)
regrouped (Pends command ∷ parts) = ([], [])

regrouped-held : (entries : List Entry) (parts : List Part) → regrouped (map Holds entries ++ parts) ≡ (entries ++ (regrouped parts).0, (regrouped parts).1)
regrouped-held [] parts = refl
regrouped-held (e ∷ entries) parts = ap (λ (x : List Entry × List Named). (e ∷ x.0, x.1)) (regrouped-held entries parts)

regrouped-all : (all : List Named) (pending : List Command) → regrouped (parts_in Several all pending) ≡ ([], all)
regrouped-all [] [] = refl
regrouped-all [] (c ∷ pending) = refl
regrouped-all (s ∷ all) pending =
    let held = regrouped-held s.entries (parts_in Several all pending) in
    let rest = regrouped-all all pending in
    let split : (map Holds s.entries ++ all_parts Several all) ++ map Pends pending ≡ map Holds s.entries ++ parts_in Several all pending = append_assoc (map Holds s.entries) (all_parts Several all) (map Pends pending) in
    let x : regrouped ((map Holds s.entries ++ all_parts Several all) ++ map Pends pending) ≡ (s.entries, all) =
    ap regrouped split ∙ held ∙ ap₂ (λ (es : List Entry) (ss : List Named). (s.entries ++ es, ss)) (ap (λ (y : List Entry × List Named). y.0) rest) (ap (λ (y : List Entry × List Named). y.1) rest) ∙ ap (λ (es : List Entry). (es, all)) (append-nil s.entries) in
    ap (λ (y : List Entry × List Named). ([], named s.name y.0 ∷ y.1)) x

-- the same parts are of the same sessions
same_sessions : (format : Format) (all others : List Named) (pending commands : List Command) → MayHold format all → MayHold format others → entries_in all ≡ entries_in others
    → parts_in format all pending ≡ parts_in format others commands → all ≡ others
same_sessions Single all others pending commands held other_held same is = held ∙ ap (λ (l : List Entry). stored default_name l []) same ∙ sym other_held
same_sessions Several all others pending commands held other_held same is =
    sym (ap (λ (y : List Entry × List Named). y.1) (regrouped-all all pending)) ∙ ap (λ (l : List Part). (regrouped l).1) is ∙ ap (λ (y : List Entry × List Named). y.1) (regrouped-all others commands)

pub one_book : (bytes : List ℕ) (f g : Format) (first second : Book) → Spells f bytes first → Spells g bytes second → (f ≡ g) × (first ≡ second)
one_book bytes f g first second s t =
    let xs = parts_of f first in
    let ys = parts_of g second in
    let b = spelled_begins f bytes first s in
    let d = spelled_begins g bytes second t in
    let h = head_once (head_of f first) (head_of g second) (parts_bytes xs ++ []) (parts_bytes ys ++ []) b.stated d.stated (sym (whole_bytes (head_of f first) xs []) ∙ sym b.is ∙ d.is ∙ whole_bytes (head_of g second) ys []) in
    let format : f ≡ g = ap (λ (x : Head). x.format) h.0 in
    let epoch : first.epoch ≡ second.epoch = ap (λ (x : Head). x.epoch) h.0 in
    let these = spelled_follow f bytes first s in
    let those : StandPending (head_of f first) ys (entries_in (sessions second)) second.pending nothing_due =
    subst (λ (x : Head). StandPending x ys (entries_in (sessions second)) second.pending nothing_due) (sym h.0) (spelled_follow g bytes second t) in
    let parts = same_whole (head_of f first) xs ys these.follow those.follow these.due_is those.due_is h.1 in
    let entries : entries_in (sessions first) ≡ entries_in (sessions second) = sym these.entries_are ∙ ap entries_among parts ∙ those.entries_are in
    let pending : first.pending ≡ second.pending = sym these.commands_are ∙ ap commands_among parts ∙ those.commands_are in
    let other : MayHold f (sessions second) = subst (λ (x : Format). MayHold x (sessions second)) (sym format) (allowed g second t.chosen t.allowed) in
    let alike : xs ≡ parts_in f (sessions second) second.pending = parts ∙ ap (λ (x : Format). parts_in x (sessions second) second.pending) (sym format) in
    let all : sessions first ≡ sessions second = same_sessions f (sessions first) (sessions second) first.pending second.pending (allowed f first s.chosen s.allowed) other entries alike in (
      format,
      sym (chosen_stays first s.rules) ∙ ap (λ (n : List ℕ). chosen_from n (sessions first) first.pending first.epoch) (s.chosen ∙ sym t.chosen)
          ∙ ap₂ (λ (l : List Named) (ps : List Command). chosen_from second.name l ps first.epoch) all pending ∙ ap (λ (n : ℕ). chosen_from second.name (sessions second) second.pending n) epoch ∙ chosen_stays second t.rules,
    )

no_further : (bytes : List ℕ) (a b : ℕ) → IsDamaged bytes a → IsDamaged bytes b → a ≤ b
no_further bytes a b d e = elim d.place [
  | inl start ↦ omega (arith, start)
  | inr front ↦ e.longest a front
]

pub stands_for_one : (bytes : List ℕ) (first second : Result Book ℕ) → StandFor bytes first → StandFor bytes second → first ≡ second
stands_for_one bytes (Ok first) (Ok second) s t = ap (λ (b : Book). Ok b) (one_book bytes s.0 t.0 first second s.1 t.1).1
stands_for_one bytes (Ok first) (Err at) s d = absurd (d.no_book s.0 first s.1)
stands_for_one bytes (Err at) (Ok second) d s = absurd (d.no_book s.0 second s.1)
stands_for_one bytes (Err a) (Err b) d e =
    let up = no_further bytes a b d e in
    let down = no_further bytes b a e d in
    ap (λ (n : ℕ). Err n) (omega (arith, up, down))

-- ---- where there is no head

pub stops_at_head : (bytes : List ℕ) → Finds head_bytes IsHead bytes None → (length bytes ≤ length bytes) × IsDamaged bytes (length bytes - length bytes)
stops_at_head bytes none =
    let start : 0 ≡ length bytes - length bytes = omega arith in
    (omega arith, subst (λ (n : ℕ). IsDamaged bytes n) start (no_head bytes none))
