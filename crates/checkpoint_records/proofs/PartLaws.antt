-- Parts of a book, one behind the other.
use Rattle.std.proofs.Common.{◌≡◌, ℕ, ◌+◌, ◌-◌, ◌≤◌, false, List, [], ◌∷◌, ◌++◌, length, map, refl, sym, ap, ◌∙◌, subst, arith}
use Rattle.std.specs.Prelude.{sum_by}
use Rattle.std.specs.List.{AllByRecursion, list_any}
use Rattle.std.specs.Prelude.{codes}
use Rattle.std.proofs.lemmas.Grind.{flat_map-append}
use Rattle.std.proofs.lemmas.List.Folds.{list_any-append}
use Rattle.std.proofs.lemmas.List.Elements.{filter_map-append}
use Rattle.xsmp_properties.specs.Readers.{command_of}
use Rattle.std.proofs.lemmas.List.{append-nil, map-append}
use Rattle.std.proofs.lemmas.List.Sums.{sum_by-append}
use Rattle.owned_lists.specs.declared.commands.Command.{Command}
use Rattle.checkpoint_records.specs.Books.{discards, same_command}
use Rattle.checkpoint_records.specs.Following.{Due, MayCome, due_after, AreInOrder, left_due, due_behind, nothing_due, head_in, entry_in, command_in, heads_among, entries_among, commands_among, AreParts}
use Rattle.checkpoint_records.specs.Parts.{IsSessionHead, AreEntries, ArePending, HasEntrySpelling, HasCommandSpelling}
use Rattle.checkpoint_records.specs.Rules.{AreRising, IsCommand}
use Rattle.checkpoint_records.specs.Spelling.{Part, Begins, Holds, Pends, part_cells}
use Rattle.checkpoint_records.specs.declared.head.Head.{Head}
use Rattle.checkpoint_records.specs.declared.session_heads.SessionHead.{SessionHead}
use Rattle.checkpoint_records.specs.declared.records.Entry.{Entry}
use Rattle.checkpoint_records.proofs.DistinctLaws.{all_front, all_last, all_turned, any_false, distinct_front}
use Rattle.checkpoint_records.proofs.EntryLaws.{entries_less, last_entry}
use Rattle.checkpoint_records.proofs.NameLaws.{rising_front}
use Rattle.checkpoint_records.proofs.OnceLaws.{session_head_once, entry_once, command_once}
use Rattle.checkpoint_records.proofs.OrderLaws.{AreOnceBehind}
use Rattle.checkpoint_records.proofs.PendingLaws.{last_command}
use Rattle.checkpoint_records.proofs.SpellLaws.{entry_fits, command_fits}

-- ---- their order

pub order_front : (due : Due) (xs ys : List Part) → AreInOrder due (xs ++ ys) → AreInOrder due xs
order_front due [] ys o = tt
order_front due (x ∷ xs) ys o = (o.0, order_front (due_after due x) xs ys o.1)

pub order_behind : (due : Due) (xs ys : List Part) → AreInOrder due (xs ++ ys) → AreInOrder (left_due due xs) ys
order_behind due [] ys o = o
order_behind due (x ∷ xs) ys o = order_behind (due_after due x) xs ys o.1

pub order_append : (due : Due) (xs ys : List Part) → AreInOrder due xs → AreInOrder (left_due due xs) ys → AreInOrder due (xs ++ ys)
order_append due [] ys o p = p
order_append due (x ∷ xs) ys o p = (o.0, order_append (due_after due x) xs ys o.1 p)

pub due_append : (due : Due) (xs ys : List Part) → left_due due (xs ++ ys) ≡ left_due (left_due due xs) ys
due_append due [] ys = refl
due_append due (x ∷ xs) ys = due_append (due_after due x) xs ys

-- where nothing is due nothing comes
pub none_comes : (parts : List Part) → AreInOrder nothing_due parts → parts ≡ []
none_comes [] o = refl
none_comes (Begins head ∷ parts) o = (let some : 1 ≤ 0 = o.0.1 in absurd (omega (arith, some)))
none_comes (Holds entry ∷ parts) o = (let some : 1 ≤ 0 = o.0 in absurd (omega (arith, some)))
none_comes (Pends command ∷ parts) o = (let some : 1 ≤ 0 = o.0.2 in absurd (omega (arith, some)))

-- ---- what they hold

pub heads_append : (xs ys : List Part) → heads_among (xs ++ ys) ≡ heads_among xs ++ heads_among ys
heads_append xs ys = flat_map-append head_in xs ys

pub entries_append : (xs ys : List Part) → entries_among (xs ++ ys) ≡ entries_among xs ++ entries_among ys
entries_append xs ys = flat_map-append entry_in xs ys

pub commands_append : (xs ys : List Part) → commands_among (xs ++ ys) ≡ commands_among xs ++ commands_among ys
commands_append xs ys = flat_map-append command_in xs ys

abbrev pub names_among : List Part → List (List ℕ)
names_among parts = map (λ (begun : SessionHead). begun.name) (heads_among parts)

abbrev pub stated_among : List Part → ℕ
stated_among parts = sum_by (λ (begun : SessionHead). begun.count) (heads_among parts)

pub names_append : (xs ys : List Part) → names_among (xs ++ ys) ≡ names_among xs ++ names_among ys
names_append xs ys = ap (λ (heads : List SessionHead). map (λ (begun : SessionHead). begun.name) heads) (heads_append xs ys) ∙ map-append (λ (begun : SessionHead). begun.name) (heads_among xs) (heads_among ys)

pub stated_append : (xs ys : List Part) → stated_among (xs ++ ys) ≡ stated_among xs + stated_among ys
stated_append xs ys = ap (λ (heads : List SessionHead). sum_by (λ (begun : SessionHead). begun.count) heads) (heads_append xs ys) ∙ sum_by-append (λ (begun : SessionHead). begun.count) (heads_among xs) (heads_among ys)

-- entries in a row
pub held_heads : (entries : List Entry) → heads_among (map Holds entries) ≡ []
held_heads [] = refl
held_heads (e ∷ entries) = held_heads entries

pub held_entries : (entries : List Entry) → entries_among (map Holds entries) ≡ entries
held_entries [] = refl
held_entries (e ∷ entries) = ap (λ (l : List Entry). e ∷ l) (held_entries entries)

pub held_commands : (entries : List Entry) → commands_among (map Holds entries) ≡ []
held_commands [] = refl
held_commands (e ∷ entries) = held_commands entries

pub held_order : (due : Due) (entries : List Entry) → length entries ≤ due.entries → AreInOrder due (map Holds entries)
held_order due [] le = tt
held_order due (e ∷ entries) le = (omega (arith, le), held_order (record { sessions = due.sessions; entries = due.entries - 1; pending = due.pending }) entries (omega (arith, le)))

-- so many sessions, entries and pending commands
abbrev pub due_of : ℕ → ℕ → ℕ → Due
due_of s e p = record { sessions = s; entries = e; pending = p }

pub held_due : (due : Due) (entries : List Entry) → left_due due (map Holds entries) ≡ due_of due.sessions (due.entries - length entries) due.pending
held_due due [] = let n : due.entries ≡ due.entries - 0 = omega arith in ap (λ (k : ℕ). due_of due.sessions k due.pending) n
held_due due (e ∷ entries) =
    let n : (due.entries - 1) - length entries ≡ due.entries - length (e ∷ entries) = omega arith in
    held_due (due_of due.sessions (due.entries - 1) due.pending) entries ∙ ap (λ (k : ℕ). due_of due.sessions k due.pending) n

-- pending commands in a row
pub pended_heads : (commands : List Command) → heads_among (map Pends commands) ≡ []
pended_heads [] = refl
pended_heads (c ∷ commands) = pended_heads commands

pub pended_entries : (commands : List Command) → entries_among (map Pends commands) ≡ []
pended_entries [] = refl
pended_entries (c ∷ commands) = pended_entries commands

pub pended_commands : (commands : List Command) → commands_among (map Pends commands) ≡ commands
pended_commands [] = refl
pended_commands (c ∷ commands) = ap (λ (l : List Command). c ∷ l) (pended_commands commands)

pub pended_order : (n : ℕ) (commands : List Command) → length commands ≤ n → AreInOrder (due_of 0 0 n) (map Pends commands)
pended_order n [] le = tt
pended_order n (c ∷ commands) le = ((refl, refl, omega (arith, le)), pended_order (n - 1) commands (omega (arith, le)))

pub pended_due : (n : ℕ) (commands : List Command) → left_due (due_of 0 0 n) (map Pends commands) ≡ due_of 0 0 (n - length commands)
pended_due n [] = let k : n ≡ n - 0 = omega arith in ap (λ (m : ℕ). due_of 0 0 m) k
pended_due n (c ∷ commands) = let k : (n - 1) - length commands ≡ n - length (c ∷ commands) = omega arith in pended_due (n - 1) commands ∙ ap (λ (m : ℕ). due_of 0 0 m) k

-- ---- the first of parts that may follow

discards-append : (xs ys : List Entry) → discards (xs ++ ys) ≡ discards xs ++ discards ys
discards-append xs ys = filter_map-append (λ (entry : Entry). command_of (codes "DiscardCommand") entry.table) xs ys

named-less : (xs ys : List Entry) (command : Command) → list_any (same_command command) (discards (xs ++ ys)) ≡ false → list_any (same_command command) (discards xs) ≡ false
named-less xs ys command e =
    (any_false (list_any (same_command command) (discards xs)) (list_any (same_command command) (discards ys)) (sym (list_any-append (same_command command) (discards xs) (discards ys)) ∙ ap (list_any (same_command command)) (sym (discards-append xs ys)) ∙ e)).0

pending-front : (xs ys : List Entry) (commands more : List Command) → ArePending (discards (xs ++ ys)) (commands ++ more) → ArePending (discards xs) commands
pending-front xs ys commands more are = record {
  each = all_front IsCommand commands more are.each;
  commands_differ = distinct_front same_command commands more are.commands_differ;
  none_named = all_turned (λ c. list_any (same_command c) (discards (xs ++ ys)) ≡ false) (λ c. list_any (same_command c) (discards xs) ≡ false) commands (λ c e. named-less xs ys c e)
      (all_front (λ c. list_any (same_command c) (discards (xs ++ ys)) ≡ false) commands more are.none_named);
}

pub parts_less : (head : Head) (xs more : List Part) → AreParts head (xs ++ more) → AreParts head xs
parts_less head xs more are = record {
  in_order = order_front (due_behind head) xs more are.in_order;
  heads = all_front IsSessionHead (heads_among xs) (heads_among more) (subst (AllByRecursion IsSessionHead) (heads_append xs more) are.heads);
  rising = rising_front (names_among xs) (names_among more) (subst AreRising (names_append xs more) are.rising);
  few = omega (arith, are.few, stated_append xs more);
  entries = entries_less head.epoch (entries_among xs) (entries_among more) (subst (AreEntries head.epoch) (entries_append xs more) are.entries);
  pending = pending-front (entries_among xs) (entries_among more) (commands_among xs) (commands_among more)
      (subst (λ (l : List Command). ArePending (discards (entries_among xs ++ entries_among more)) l) (commands_append xs more) (subst (λ (l : List Entry). ArePending (discards l) (commands_among (xs ++ more))) (entries_append xs more) are.pending));
}

-- ---- the last of parts that may follow

module _ (head : Head) (front : List Part) where
  abbrev pub due_then : Due
  due_then = left_due (due_behind head) front

  pub may_come : (part : Part) → AreParts head (front ++ part ∷ []) → MayCome due_then part
  may_come part are = (order_behind (due_behind head) front (part ∷ []) are.in_order).0

  pub last_begun : (begun : SessionHead) → AreParts head (front ++ Begins begun ∷ []) → IsSessionHead begun × AreRising (names_among front ++ begun.name ∷ []) × (stated_among front + begun.count ≤ 128)
  last_begun begun are = (
    all_last IsSessionHead (heads_among front) begun (subst (AllByRecursion IsSessionHead) (heads_append front (Begins begun ∷ [])) are.heads),
    subst AreRising (names_append front (Begins begun ∷ [])) are.rising,
    (let one : stated_among (Begins begun ∷ []) ≡ begun.count = omega arith in omega (arith, are.few, stated_append front (Begins begun ∷ []), one)),
  )

  pub entries_then : (entry : Entry) → AreParts head (front ++ Holds entry ∷ []) → AreEntries head.epoch (entries_among front ++ entry ∷ [])
  entries_then entry are = subst (AreEntries head.epoch) (entries_append front (Holds entry ∷ [])) are.entries

  pub pending_then : (command : Command) → AreParts head (front ++ Pends command ∷ []) → ArePending (discards (entries_among front)) (commands_among front ++ command ∷ [])
  pending_then command are =
      let same : entries_among (front ++ Pends command ∷ []) ≡ entries_among front = entries_append front (Pends command ∷ []) ∙ append-nil (entries_among front) in
      subst (λ (l : List Command). ArePending (discards (entries_among front)) l) (commands_append front (Pends command ∷ [])) (subst (λ (l : List Entry). ArePending (discards l) (commands_among (front ++ Pends command ∷ []))) same are.pending)

pub parts_once : (head : Head) → AreOnceBehind part_cells (AreParts head)
parts_once head front (Begins x) (Begins y) xs ys are_x are_y is =
    let e = session_head_once x y xs ys (last_begun head front x are_x).0 (last_begun head front y are_y).0 is in (ap (λ (b : SessionHead). Begins b) e.0, e.1)
parts_once head front (Begins x) (Holds y) xs ys are_x are_y is =
    let a = may_come head front (Begins x) are_x in let b = may_come head front (Holds y) are_y in absurd (omega (arith, a.0, b))
parts_once head front (Begins x) (Pends y) xs ys are_x are_y is =
    let a = may_come head front (Begins x) are_x in let b = may_come head front (Pends y) are_y in absurd (omega (arith, a.1, b.1))
parts_once head front (Holds x) (Begins y) xs ys are_x are_y is =
    let a = may_come head front (Holds x) are_x in let b = may_come head front (Begins y) are_y in absurd (omega (arith, a, b.0))
parts_once head front (Holds x) (Holds y) xs ys are_x are_y is =
    let fits : (entry : Entry) → AreParts head (front ++ Holds entry ∷ []) → HasEntrySpelling entry = λ entry are. entry_fits head.epoch entry (last_entry head.epoch (entries_among front) entry (entries_then head front entry are)).0 in
    let e = entry_once x y xs ys (fits x are_x) (fits y are_y) is in (ap (λ (b : Entry). Holds b) e.0, e.1)
parts_once head front (Holds x) (Pends y) xs ys are_x are_y is =
    let a = may_come head front (Holds x) are_x in let b = may_come head front (Pends y) are_y in absurd (omega (arith, a, b.0))
parts_once head front (Pends x) (Begins y) xs ys are_x are_y is =
    let a = may_come head front (Pends x) are_x in let b = may_come head front (Begins y) are_y in absurd (omega (arith, a.1, b.1))
parts_once head front (Pends x) (Holds y) xs ys are_x are_y is =
    let a = may_come head front (Pends x) are_x in let b = may_come head front (Holds y) are_y in absurd (omega (arith, a.0, b))
parts_once head front (Pends x) (Pends y) xs ys are_x are_y is =
    let fits : (command : Command) → AreParts head (front ++ Pends command ∷ []) → HasCommandSpelling command = λ command are. command_fits command (last_command (discards (entries_among front)) (commands_among front) command (pending_then head front command are)) in
    let e = command_once x y xs ys (fits x are_x) (fits y are_y) is in (ap (λ (b : Command). Pends b) e.0, e.1)
