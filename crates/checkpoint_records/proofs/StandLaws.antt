-- The parts of sessions, as far as they are read: what has been stated, what is there, and what is yet to come.
use Rattle.std.proofs.Common.{◌≡◌, ℕ, ◌+◌, ◌-◌, ◌≤◌, List, [], ◌∷◌, ◌++◌, length, map, refl, sym, ap, ap₂, ◌∙◌, subst, append_assoc, arith, length-append}
use Rattle.std.specs.Prelude.{flat_map, sum_by}
use Rattle.std.specs.List.{AllByRecursion}
use Rattle.std.proofs.lemmas.List.{append-nil}
use Rattle.owned_lists.specs.declared.commands.Command.{Command}
use Rattle.ice_values.specs.Cells.{zeros}
use Rattle.ice_values.specs.declared.numbers.Endian.TheVariants.{Lsb}
use Rattle.checkpoint_records.specs.Books.{default_name, discards, entries_in, names_of, stored}
use Rattle.checkpoint_records.specs.Finding.{IsStuck}
use Rattle.checkpoint_records.specs.Following.{Due, MayCome, due_after, AreInOrder, left_due, due_behind, nothing_due, heads_among, entries_among, commands_among, AreParts}
use Rattle.checkpoint_records.specs.Parts.{IsSessionHead, AreEntries, ArePending, AreSessions}
use Rattle.checkpoint_records.specs.Rules.{AreRising, IsStored, command_cells}
use Rattle.checkpoint_records.specs.Spelling.{Part, Begins, Holds, Pends, part_cells, entry_cells, session_head_cells, head_of_session, session_parts, count_in}
use Rattle.checkpoint_records.specs.declared.head.Format.{Format}
use Rattle.checkpoint_records.specs.declared.head.Format.TheVariants.{Single, Several}
use Rattle.checkpoint_records.specs.declared.head.Head.{Head}
use Rattle.checkpoint_records.specs.declared.session_heads.SessionHead.{SessionHead}
use Rattle.checkpoint_records.specs.declared.records.Entry.{Entry}
use Rattle.checkpoint_records.specs.declared.records.Named.{Named}
use Rattle.checkpoint_records.proofs.DistinctLaws.{all_append}
use Rattle.checkpoint_records.proofs.EntryLaws.{entries_less, no_entries}
use Rattle.checkpoint_records.proofs.NameLaws.{rising_front}
use Rattle.checkpoint_records.proofs.PartLaws.{due_append, due_of, entries_append, heads_append, commands_append, held_commands, held_due, held_entries, held_heads, held_order, none_comes, last_begun, entries_then, pending_then, may_come, names_among, names_append, order_append, pended_commands, pended_due, pended_entries, pended_heads, pended_order, stated_among, stated_append}
use Rattle.checkpoint_records.proofs.PendingLaws.{no_pending}

-- These parts stand behind the head, none of them a pending command. Their heads of sessions have these names and state so many entries,
-- these entries are there, and this is yet to come.
pub record Stand (head : Head) (parts : List Part) (names : List (List ℕ)) (stated : ℕ) (entries : List Entry) (due : Due) : Type 0 where
  pub follow : AreParts head parts
  pub names_are : names_among parts ≡ names
  pub stated_is : stated_among parts ≡ stated
  pub entries_are : entries_among parts ≡ entries
  pub none_pending : commands_among parts ≡ []
  pub due_is : left_due (due_behind head) parts ≡ due

pub nothing_stands : (head : Head) → Stand head [] [] 0 [] (due_behind head)
nothing_stands head = record {
  follow = record { in_order = tt; heads = tt; rising = tt; few = omega arith; entries = no_entries head.epoch; pending = no_pending [] };
  names_are = refl;
  stated_is = refl;
  entries_are = refl;
  none_pending = refl;
  due_is = refl;
}

-- These parts stand behind the head, with these entries and these pending commands, and this is yet to come.
pub record StandPending (head : Head) (parts : List Part) (entries : List Entry) (commands : List Command) (due : Due) : Type 0 where
  pub follow : AreParts head parts
  pub entries_are : entries_among parts ≡ entries
  pub commands_are : commands_among parts ≡ commands
  pub due_is : left_due (due_behind head) parts ≡ due

module _ (head : Head) (parts : List Part) (names : List (List ℕ)) (stated : ℕ) (entries : List Entry) (due : Due) (stand : Stand head parts names stated entries due) where
  none_more : (more : List Part) → commands_among more ≡ [] → commands_among (parts ++ more) ≡ []
  none_more more e = commands_append parts more ∙ ap₂ (λ (xs ys : List Command). xs ++ ys) stand.none_pending e

  due_more : (more : List Part) (then_due : Due) → left_due due more ≡ then_due → left_due (due_behind head) (parts ++ more) ≡ then_due
  due_more more then_due e = due_append (due_behind head) parts more ∙ ap (λ (d : Due). left_due d more) stand.due_is ∙ e

  order_more : (more : List Part) → AreInOrder due more → AreInOrder (due_behind head) (parts ++ more)
  order_more more o = order_append (due_behind head) parts more stand.follow.in_order (subst (λ (d : Due). AreInOrder d more) (sym stand.due_is) o)

  -- the next session begins
  pub begins : (begun : SessionHead) → due.entries ≡ 0 → 1 ≤ due.sessions → IsSessionHead begun → AreRising (names ++ begun.name ∷ []) → stated + begun.count ≤ 128
      → Stand head (parts ++ Begins begun ∷ []) (names ++ begun.name ∷ []) (stated + begun.count) entries (due_after due (Begins begun))
  begins begun none some is rising few =
      let more : List Part = Begins begun ∷ [] in
      let names_are : names_among (parts ++ more) ≡ names ++ begun.name ∷ [] = names_append parts more ∙ ap (λ (l : List (List ℕ)). l ++ begun.name ∷ []) stand.names_are in
      let one : stated_among more ≡ begun.count = omega arith in
      let stated_is : stated_among (parts ++ more) ≡ stated + begun.count = stated_append parts more ∙ omega (arith, stand.stated_is, one) in
      let entries_are : entries_among (parts ++ more) ≡ entries = entries_append parts more ∙ append-nil (entries_among parts) ∙ stand.entries_are in
      let none_pending = none_more more refl in
      record {
        follow = record {
          in_order = order_more more ((none, some), tt);
          heads = subst (AllByRecursion IsSessionHead) (sym (heads_append parts more)) (all_append IsSessionHead (heads_among parts) (begun ∷ []) stand.follow.heads (is, tt));
          rising = subst AreRising (sym names_are) rising;
          few = omega (arith, stated_is, few);
          entries = subst (AreEntries head.epoch) (sym entries_are ∙ refl) (subst (AreEntries head.epoch) stand.entries_are stand.follow.entries);
          pending = subst (λ (l : List Command). ArePending (discards (entries_among (parts ++ more))) l) (sym none_pending) (no_pending (discards (entries_among (parts ++ more))));
        };
        names_are = names_are;
        stated_is = stated_is;
        entries_are = entries_are;
        none_pending = none_pending;
        due_is = due_more more (due_after due (Begins begun)) refl;
      }

  -- it has these entries
  pub holds : (items : List Entry) → length items ≤ due.entries → AreEntries head.epoch (entries ++ items)
      → Stand head (parts ++ map Holds items) names stated (entries ++ items) (due_of due.sessions (due.entries - length items) due.pending)
  holds items few are =
      let more : List Part = map Holds items in
      let none_heads : heads_among (parts ++ more) ≡ heads_among parts = heads_append parts more ∙ ap (λ (l : List SessionHead). heads_among parts ++ l) (held_heads items) ∙ append-nil (heads_among parts) in
      let names_are : names_among (parts ++ more) ≡ names = ap (λ (l : List SessionHead). map (λ (begun : SessionHead). begun.name) l) none_heads ∙ stand.names_are in
      let stated_is : stated_among (parts ++ more) ≡ stated = ap (λ (l : List SessionHead). sum_by (λ (begun : SessionHead). begun.count) l) none_heads ∙ stand.stated_is in
      let entries_are : entries_among (parts ++ more) ≡ entries ++ items = entries_append parts more ∙ ap₂ (λ (xs ys : List Entry). xs ++ ys) stand.entries_are (held_entries items) in
      let none_pending = none_more more (held_commands items) in
      record {
        follow = record {
          in_order = order_more more (held_order due items few);
          heads = subst (AllByRecursion IsSessionHead) (sym none_heads) stand.follow.heads;
          rising = subst AreRising (sym (ap (λ (l : List SessionHead). map (λ (begun : SessionHead). begun.name) l) none_heads)) stand.follow.rising;
          few = omega (arith, stated_is, stand.stated_is, stand.follow.few);
          entries = subst (AreEntries head.epoch) (sym entries_are) are;
          pending = subst (λ (l : List Command). ArePending (discards (entries_among (parts ++ more))) l) (sym none_pending) (no_pending (discards (entries_among (parts ++ more))));
        };
        names_are = names_are;
        stated_is = stated_is;
        entries_are = entries_are;
        none_pending = none_pending;
        due_is = due_more more (due_of due.sessions (due.entries - length items) due.pending) (held_due due items);
      }

  -- commands are pending behind all of them
  pub pends : (n : ℕ) → due ≡ due_of 0 0 n → (items : List Command) → length items ≤ n → ArePending (discards entries) items
      → StandPending head (parts ++ map Pends items) entries items (due_of 0 0 (n - length items))
  pends n due_is items few are =
      let more : List Part = map Pends items in
      let none_heads : heads_among (parts ++ more) ≡ heads_among parts = heads_append parts more ∙ ap (λ (l : List SessionHead). heads_among parts ++ l) (pended_heads items) ∙ append-nil (heads_among parts) in
      let entries_are : entries_among (parts ++ more) ≡ entries_among parts = entries_append parts more ∙ ap (λ (l : List Entry). entries_among parts ++ l) (pended_entries items) ∙ append-nil (entries_among parts) in
      let commands_are : commands_among (parts ++ more) ≡ items = commands_append parts more ∙ ap₂ (λ (xs ys : List Command). xs ++ ys) stand.none_pending (pended_commands items) in
      record {
        follow = record {
          in_order = order_more more (subst (λ (d : Due). AreInOrder d more) (sym due_is) (pended_order n items few));
          heads = subst (AllByRecursion IsSessionHead) (sym none_heads) stand.follow.heads;
          rising = subst AreRising (sym (ap (λ (l : List SessionHead). map (λ (begun : SessionHead). begun.name) l) none_heads)) stand.follow.rising;
          few = subst (λ (l : List SessionHead). sum_by (λ (begun : SessionHead). begun.count) l ≤ 128) (sym none_heads) stand.follow.few;
          entries = subst (AreEntries head.epoch) (sym entries_are) stand.follow.entries;
          pending = subst (λ (l : List Command). ArePending (discards (entries_among (parts ++ more))) l) (sym commands_are)
              (subst (λ (l : List Entry). ArePending (discards l) items) (sym (entries_are ∙ stand.entries_are)) are);
        };
        entries_are = entries_are ∙ stand.entries_are;
        commands_are = commands_are;
        due_is = due_more more (due_of 0 0 (n - length items)) (ap (λ (d : Due). left_due d more) due_is ∙ pended_due n items);
      }

  -- ---- where nothing may follow

  comes : (part : Part) → AreParts head (parts ++ part ∷ []) → MayCome due part
  comes part follow = subst (λ (d : Due). MayCome d part) stand.due_is (may_come head parts part follow)

  -- the next head of a session
  pub stuck_at_head : (rest : List ℕ) → due.entries ≡ 0 → 1 ≤ due.sessions
      → ((begun : SessionHead) (after : List ℕ) → rest ≡ zeros (session_head_cells begun) ++ after → IsSessionHead begun → AreRising (names ++ begun.name ∷ []) → stated + begun.count ≤ 128 → ⊥)
      → IsStuck part_cells (AreParts head) parts rest
  stuck_at_head rest none some never (Begins begun) after is follow =
      let last = last_begun head parts begun follow in
      never begun after is last.0 (subst (λ (l : List (List ℕ)). AreRising (l ++ begun.name ∷ [])) stand.names_are last.1) (omega (arith, last.2, stand.stated_is))
  stuck_at_head rest none some never (Holds entry) after is follow = let c = comes (Holds entry) follow in omega (arith, none, c)
  stuck_at_head rest none some never (Pends command) after is follow = let c = comes (Pends command) follow in omega (arith, some, c.1)

  -- the next entry
  pub stuck_at_entry : (rest : List ℕ) → 1 ≤ due.entries → ((entry : Entry) (after : List ℕ) → rest ≡ zeros (entry_cells entry) ++ after → AreEntries head.epoch (entries ++ entry ∷ []) → ⊥)
      → IsStuck part_cells (AreParts head) parts rest
  stuck_at_entry rest some never (Begins begun) after is follow = let c = comes (Begins begun) follow in omega (arith, some, c.0)
  stuck_at_entry rest some never (Holds entry) after is follow = never entry after is (subst (λ (l : List Entry). AreEntries head.epoch (l ++ entry ∷ [])) stand.entries_are (entries_then head parts entry follow))
  stuck_at_entry rest some never (Pends command) after is follow = let c = comes (Pends command) follow in omega (arith, some, c.0)

-- nothing follows where nothing is due
pub stuck_at_end : (head : Head) (parts : List Part) (rest : List ℕ) → left_due (due_behind head) parts ≡ nothing_due → IsStuck part_cells (AreParts head) parts rest
stuck_at_end head parts rest done part after is follow =
    let none : part ∷ [] ≡ [] = none_comes (part ∷ []) (subst (λ (d : Due). MayCome d part) done (may_come head parts part follow), tt) in
    omega (arith, ap length none)

-- the next pending command
pub stuck_at_command : (head : Head) (parts : List Part) (entries : List Entry) (commands : List Command) (n : ℕ) (rest : List ℕ) → StandPending head parts entries commands (due_of 0 0 n)
    → IsStuck (command_cells Lsb) (ArePending (discards entries)) commands rest → IsStuck part_cells (AreParts head) parts rest
stuck_at_command head parts entries commands n rest stand stuck (Begins begun) after is follow =
    let c : MayCome (due_of 0 0 n) (Begins begun) = subst (λ (d : Due). MayCome d (Begins begun)) stand.due_is (may_come head parts (Begins begun) follow) in omega (arith, c.1)
stuck_at_command head parts entries commands n rest stand stuck (Holds entry) after is follow =
    let c : MayCome (due_of 0 0 n) (Holds entry) = subst (λ (d : Due). MayCome d (Holds entry)) stand.due_is (may_come head parts (Holds entry) follow) in omega (arith, c)
stuck_at_command head parts entries commands n rest stand stuck (Pends command) after is follow =
    stuck command after is (subst (λ (l : List Command). ArePending (discards entries) (l ++ command ∷ [])) stand.commands_are
    (subst (λ (l : List Entry). ArePending (discards l) (commands_among parts ++ command ∷ [])) stand.entries_are (pending_then head parts command follow)))

-- ---- whole sessions

abbrev pub all_parts : Format → List Named → List Part
all_parts format all = flat_map (session_parts format) all

-- one more session stands behind others
pub session_stands : (head : Head) (parts : List Part) (names : List (List ℕ)) (stated n p : ℕ) (entries : List Entry) (s : Named) → Stand head parts names stated entries (due_of n 0 p) → 1 ≤ n
    → IsStored s → AreRising (names ++ s.name ∷ []) → stated + length s.entries ≤ 128 → AreEntries head.epoch (entries ++ s.entries)
    → Stand head (parts ++ session_parts Several s) (names ++ s.name ∷ []) (stated + length s.entries) (entries ++ s.entries) (due_of (n - 1) 0 p)
session_stands head parts names stated n p entries s stand some is rising few are =
    let count : length s.entries ≤ 128 = omega (arith, few) in
    let begun : SessionHead = head_of_session s in
    let first = begins head parts names stated entries (due_of n 0 p) stand begun refl some (record { called = is.called; some = is.some; few = count }) rising few in
    let second = holds head (parts ++ Begins begun ∷ []) (names ++ s.name ∷ []) (stated + length s.entries) entries (due_of (n - 1) (length s.entries) p) first s.entries (omega arith) are in
    let none : length s.entries - length s.entries ≡ 0 = omega arith in
    subst (λ (k : ℕ). Stand head (parts ++ session_parts Several s) (names ++ s.name ∷ []) (stated + length s.entries) (entries ++ s.entries) (due_of (n - 1) k p)) none
    (subst (λ (l : List Part). Stand head l (names ++ s.name ∷ []) (stated + length s.entries) (entries ++ s.entries) (due_of (n - 1) (length s.entries - length s.entries) p)) (append_assoc parts (Begins begun ∷ []) (map Holds s.entries)) second)

-- sessions stand behind others
sessions_stand : (head : Head) (parts : List Part) (names : List (List ℕ)) (stated n p : ℕ) (entries : List Entry) (all : List Named) → Stand head parts names stated entries (due_of n 0 p) → length all ≤ n
    → AllByRecursion IsStored all → AreRising (names ++ names_of all) → stated + length (entries_in all) ≤ 128 → AreEntries head.epoch (entries ++ entries_in all)
    → Stand head (parts ++ all_parts Several all) (names ++ names_of all) (stated + length (entries_in all)) (entries ++ entries_in all) (due_of (n - length all) 0 p)
sessions_stand head parts names stated n p entries [] stand le is rising few are =
    let more : stated ≡ stated + 0 = omega arith in
    let left : n ≡ n - 0 = omega arith in
    subst (λ (l : List Part). Stand head l (names ++ []) (stated + 0) (entries ++ []) (due_of (n - 0) 0 p)) (sym (append-nil parts))
    (subst (λ (l : List (List ℕ)). Stand head parts l (stated + 0) (entries ++ []) (due_of (n - 0) 0 p)) (sym (append-nil names))
    (subst (λ (l : List Entry). Stand head parts names (stated + 0) l (due_of (n - 0) 0 p)) (sym (append-nil entries))
    (subst (λ (k : ℕ). Stand head parts names k entries (due_of (n - 0) 0 p)) more (subst (λ (k : ℕ). Stand head parts names stated entries (due_of k 0 p)) left stand))))
sessions_stand head parts names stated n p entries (s ∷ all) stand le is rising few are =
    let len = length-append s.entries (entries_in all) in
    let rising_on : AreRising ((names ++ s.name ∷ []) ++ names_of all) = subst AreRising (sym (append_assoc names (s.name ∷ []) (names_of all))) rising in
    let are_on : AreEntries head.epoch ((entries ++ s.entries) ++ entries_in all) = subst (AreEntries head.epoch) (sym (append_assoc entries s.entries (entries_in all))) are in
    let one = session_stands head parts names stated n p entries s stand (omega (arith, le)) is.0 (rising_front (names ++ s.name ∷ []) (names_of all) rising_on) (omega (arith, few, len)) (entries_less head.epoch (entries ++ s.entries) (entries_in all) are_on) in
    let rest = sessions_stand head (parts ++ session_parts Several s) (names ++ s.name ∷ []) (stated + length s.entries) (n - 1) p (entries ++ s.entries) all one (omega (arith, le)) is.1 rising_on (omega (arith, few, len)) are_on in
    let total : (stated + length s.entries) + length (entries_in all) ≡ stated + length (s.entries ++ entries_in all) = omega (arith, len) in
    let left : (n - 1) - length all ≡ n - length (s ∷ all) = omega arith in
    subst (λ (k : ℕ). Stand head (parts ++ all_parts Several (s ∷ all)) (names ++ names_of (s ∷ all)) (stated + length (entries_in (s ∷ all))) (entries ++ entries_in (s ∷ all)) (due_of k 0 p)) left
    (subst (λ (k : ℕ). Stand head (parts ++ all_parts Several (s ∷ all)) (names ++ names_of (s ∷ all)) k (entries ++ entries_in (s ∷ all)) (due_of ((n - 1) - length all) 0 p)) total
    (subst (λ (l : List Entry). Stand head (parts ++ all_parts Several (s ∷ all)) (names ++ names_of (s ∷ all)) ((stated + length s.entries) + length (entries_in all)) l (due_of ((n - 1) - length all) 0 p)) (append_assoc entries s.entries (entries_in all))
    (subst (λ (l : List (List ℕ)). Stand head (parts ++ all_parts Several (s ∷ all)) l ((stated + length s.entries) + length (entries_in all)) ((entries ++ s.entries) ++ entries_in all) (due_of ((n - 1) - length all) 0 p)) (append_assoc names (s.name ∷ []) (names_of all))
    (subst (λ (l : List Part). Stand head l ((names ++ s.name ∷ []) ++ names_of all) ((stated + length s.entries) + length (entries_in all)) ((entries ++ s.entries) ++ entries_in all) (due_of ((n - 1) - length all) 0 p)) (append_assoc parts (session_parts Several s) (all_parts Several all)) rest))))

due-several : (head : Head) → head.format ≡ Several → due_behind head ≡ due_of head.count 0 head.pending
due-several head is = rw is refl

due-single : (head : Head) → head.format ≡ Single → due_behind head ≡ due_of 0 head.count head.pending
due-single head is = rw is refl

-- the sessions of the second format
pub several_stand : (head : Head) (all : List Named) → head.format ≡ Several → AreSessions head all
    → Stand head (all_parts Several all) (names_of all) (length (entries_in all)) (entries_in all) (due_of (head.count - length all) 0 head.pending)
several_stand head all format are =
    let none : Stand head [] [] 0 [] (due_of head.count 0 head.pending) = subst (λ (d : Due). Stand head [] [] 0 [] d) (due-several head format) (nothing_stands head) in
    let few : length all ≤ head.count = subst (λ (f : Format). count_in f all ≤ head.count) format are.few in
    let stated : 0 + length (entries_in all) ≡ length (entries_in all) = omega arith in
    subst (λ (k : ℕ). Stand head (all_parts Several all) (names_of all) k (entries_in all) (due_of (head.count - length all) 0 head.pending)) stated
    (sessions_stand head [] [] 0 head.count head.pending [] all none few are.stored are.rising (omega (arith, are.few_entries)) are.entries)

-- the entries of the first
pub single_stands : (head : Head) (entries : List Entry) → head.format ≡ Single → length entries ≤ head.count → AreEntries head.epoch entries
    → Stand head (map Holds entries) [] 0 entries (due_of 0 (head.count - length entries) head.pending)
single_stands head entries format few are =
    let none : Stand head [] [] 0 [] (due_of 0 head.count head.pending) = subst (λ (d : Due). Stand head [] [] 0 [] d) (due-single head format) (nothing_stands head) in
    holds head [] [] 0 [] (due_of 0 head.count head.pending) none entries few are

-- one session is its entries, in the first format
pub single_parts : (entries : List Entry) → all_parts Single (stored default_name entries []) ≡ map Holds entries
single_parts [] = refl
single_parts (e ∷ entries) = append-nil (map Holds (e ∷ entries))

pub single_entries : (entries : List Entry) → entries_in (stored default_name entries []) ≡ entries
single_entries [] = refl
single_entries (e ∷ entries) = append-nil (e ∷ entries)

-- all sessions that a head states
pub all_stand : (head : Head) (all : List Named) → AreSessions head all → count_in head.format all ≡ head.count
    → (names : List (List ℕ)) × (stated : ℕ) × Stand head (all_parts head.format all) names stated (entries_in all) (due_of 0 0 head.pending)
all_stand head all are whole = by head.format refl
  where
    by : (f : Format) → head.format ≡ f → (names : List (List ℕ)) × (stated : ℕ) × Stand head (all_parts f all) names stated (entries_in all) (due_of 0 0 head.pending)
    by Single is =
        let held : all ≡ stored default_name (entries_in all) [] = rw is at are.held in
        let count : length (entries_in all) ≡ head.count = subst (λ (f : Format). count_in f all ≡ head.count) is whole in
        let parts : map Holds (entries_in all) ≡ all_parts Single all = sym (single_parts (entries_in all)) ∙ ap (λ (l : List Named). all_parts Single l) (sym held) in
        let left : head.count - length (entries_in all) ≡ 0 = omega (arith, count) in
        let one = single_stands head (entries_in all) is (omega (arith, count)) are.entries in
        ([], 0, subst (λ (l : List Part). Stand head l [] 0 (entries_in all) (due_of 0 0 head.pending)) parts (subst (λ (k : ℕ). Stand head (map Holds (entries_in all)) [] 0 (entries_in all) (due_of 0 k head.pending)) left one))
    by Several is =
        let count : length all ≡ head.count = subst (λ (f : Format). count_in f all ≡ head.count) is whole in
        let left : head.count - length all ≡ 0 = omega (arith, count) in
        (names_of all, length (entries_in all), subst (λ (k : ℕ). Stand head (all_parts Several all) (names_of all) (length (entries_in all)) (entries_in all) (due_of k 0 head.pending)) left (several_stand head all is are))
