-- Where what stays keeps its order, the changes are those that are missing.
use Rattle.std.proofs.Common.{◌≡◌, ℕ, suc, ◌+◌, ◌⊎◌, inl, inr, Bool, true, false, cond, not, ◌&&◌, ◌||◌, List, [], ◌∷◌, ◌++◌, length, map, refl, sym, ap, ap₂, ◌∙◌, subst, get_or, drop}
use Rattle.std.specs.Prelude.{filter, flat_map}
use Rattle.std.specs.List.{AllByRecursion, IsDistinct, list_any}
use Rattle.std.specs.Str.{bytes_eq}
use Rattle.std.specs.Cmp.Lexicographic.{pointwise}
use Rattle.std.proofs.lemmas.Grind.{flat_map-append}
use lib.Pointwise.{bytes_decides}
use Rattle.owned_lists.specs.declared.commands.Command.{Command}
use Rattle.xsmp_properties.specs.Tables.{equal_property}
use Rattle.checkpoint_records.specs.Rules.{ids_of}
use Rattle.checkpoint_records.specs.declared.records.Entry.{Entry}
use Rattle.checkpoint_records.proofs.DistinctLaws.{any_false, any_map, none_same, same_none}
use Rattle.checkpoint_changes.specs.Differences.{changed_entry, gone, placed, pending_changes}
use Rattle.checkpoint_changes.specs.Plain.{KeepsOrder, equal_command, equal_entry, missing_from, pended_in, put_in, removed_in, unpended_in}
use Rattle.checkpoint_changes.specs.declared.changes.Change.{Change}
use Rattle.checkpoint_changes.specs.declared.changes.Change.TheVariants.{Pend, Put, Remove, Unpend}
use Rattle.checkpoint_changes.proofs.EqualLaws.{DecidesEqual, command_decides, entry_decides, not_same}

-- ---- filters

chosen : {X : Type 0} (b : Bool) (x y : X) → b ≡ true → cond b x y ≡ x
chosen b x y e = rw e refl

passed : {X : Type 0} (b : Bool) (x y : X) → b ≡ false → cond b x y ≡ y
passed b x y e = rw e refl

pub filter_same : {K : Type 0} (p q : K → Bool) (ks : List K) → AllByRecursion (λ k. p k ≡ q k) ks → filter p ks ≡ filter q ks
filter_same p q [] h = refl
filter_same p q (k ∷ ks) h = (let rest = filter_same p q ks h.1 in rw (h.0, rest) refl)

module _ {K : Type 0} (eq : K → K → Bool) (decides : DecidesEqual eq) where
  each_drops : (y : K) (keys ks : List K) → AllByRecursion (λ k. eq y k ≡ false) ks → AllByRecursion (λ k. not (eq k y || list_any (eq k) keys) ≡ not (list_any (eq k) keys)) ks
  each_drops y keys [] h = tt
  each_drops y keys (k ∷ ks) h = (ap (λ (b : Bool). not (b || list_any (eq k) keys)) (not_same eq decides y k h.0), each_drops y keys ks h.1)

  -- an item that is none of these takes none of them away
  drops_one : (y : K) (keys ks : List K) → AllByRecursion (λ k. eq y k ≡ false) ks → missing_from eq (y ∷ keys) ks ≡ missing_from eq keys ks
  drops_one y keys ks h = filter_same (λ k. not (list_any (eq k) (y ∷ keys))) (λ k. not (list_any (eq k) keys)) ks (each_drops y keys ks h)

  same_back : (x y : K) → eq x y ≡ true → eq y x ≡ true
  same_back x y e = (decides y x).1 (sym ((decides x y).0 e))

-- ---- what stays, in order

-- an old item goes, and is none of the new ones, or it is the next of them
abbrev pub Stays : {A : Type 0} → (A → A → Bool) → List A → List A → Type 0
Stays same [] new = Unit {0}
Stays same (x ∷ old) [] = Stays same old []
Stays same (x ∷ old) (y ∷ new) = ((same x y ≡ true) × Stays same old new) ⊎ ((list_any (same x) (y ∷ new) ≡ false) × Stays same old (y ∷ new))

none_stay : {A : Type 0} (same : A → A → Bool) (old : List A) → Stays same old []
none_stay same [] = tt
none_stay same (x ∷ old) = none_stay same old

module _ {A K : Type 0} (key : A → K) (eq : K → K → Bool) (decides : DecidesEqual eq) where
  shrinks : (test : K → Bool) (x y : K) (keys ks : List K) → y ≡ x → AllByRecursion (λ k. eq x k ≡ false) ks → AllByRecursion (λ k. test k ≡ list_any (eq k) (y ∷ keys)) ks → AllByRecursion (λ k. test k ≡ list_any (eq k) keys) ks
  shrinks test x y keys [] is apart agree = tt
  shrinks test x y keys (k ∷ ks) is apart agree =
      (agree.0 ∙ ap (λ (b : Bool). b || list_any (eq k) keys) (ap (eq k) is ∙ not_same eq decides x k apart.0), shrinks test x y keys ks is apart.1 agree.1)

  own_test : (test : K → Bool) (ks : List K) → AllByRecursion (λ k. test k ≡ test k) ks
  own_test test [] = tt
  own_test test (k ∷ ks) = (refl, own_test test ks)

  orders : (test : K → Bool) (old new : List A) (added : List K) → IsDistinct eq (map key old) → AllByRecursion (λ k. test k ≡ list_any (eq k) (map key new)) (map key old) → map key new ≡ filter test (map key old) ++ added
      → Stays (λ x y. eq (key x) (key y)) old new
  unfolding IsDistinct
  orders test [] new added d agree is = tt
  orders test (x ∷ old) [] added d agree is = none_stay (λ x y. eq (key x) (key y)) old
  orders test (x ∷ old) (y ∷ new) added d agree is = by (test (key x)) refl is (orders test old new added d.1) (orders test old (y ∷ new) added d.1 agree.1)
    where
      by : (b : Bool) → test (key x) ≡ b → key y ∷ map key new ≡ cond b (key x ∷ filter test (map key old)) (filter test (map key old)) ++ added
          → (AllByRecursion (λ k. test k ≡ list_any (eq k) (map key new)) (map key old) → map key new ≡ filter test (map key old) ++ added → Stays (λ x y. eq (key x) (key y)) old new)
          → (key y ∷ map key new ≡ filter test (map key old) ++ added → Stays (λ x y. eq (key x) (key y)) old (y ∷ new))
          → ((eq (key x) (key y) ≡ true) × Stays (λ x y. eq (key x) (key y)) old new) ⊎ ((list_any (λ z. eq (key x) (key z)) (y ∷ new) ≡ false) × Stays (λ x y. eq (key x) (key y)) old (y ∷ new))
      by true in_it parts stay go =
          let first : key y ≡ key x = ap (λ (l : List K). get_or l 0 (key x)) parts in
          inl ((decides (key x) (key y)).1 (sym first), stay (shrinks test (key x) (key y) (map key new) (map key old) first d.0 agree.1) (ap (drop 1) parts))
      by false in_it parts stay go = inr (any_map (eq (key x)) key (y ∷ new) ∙ sym agree.0 ∙ in_it, go parts)

  pub kept_order : (old new : List A) → IsDistinct eq (map key old) → KeepsOrder eq (map key old) (map key new) → Stays (λ x y. eq (key x) (key y)) old new
  kept_order old new d k = orders (λ x. list_any (eq x) (map key new)) old new k.0 d (own_test (λ x. list_any (eq x) (map key new)) (map key old)) k.1

-- ---- entries

abbrev by_id : Entry → Entry → Bool
by_id e f = bytes_eq e.id f.id

abbrev id_of : Entry → List ℕ
id_of e = e.id

pub entries_stay : (old new : List Entry) → IsDistinct bytes_eq (ids_of old) → KeepsOrder bytes_eq (ids_of old) (ids_of new) → Stays by_id old new
entries_stay old new d k = kept_order id_of bytes_eq bytes_decides old new d k

-- what no removal brings
pub gone_bring : {X : Type 0} (brings : Change → List X) → ((id : List ℕ) → brings (Remove id) ≡ []) → (old new : List Entry) → flat_map brings (gone old new) ≡ []
gone_bring brings none [] new = refl
gone_bring brings none (e ∷ old) [] = (let rest = gone_bring brings none old [] in rw (none e.id, rest) refl)
gone_bring {X} brings none (e ∷ old) (f ∷ new) = by (bytes_eq e.id f.id) (gone_bring brings none old new) (gone_bring brings none old (f ∷ new))
  where
    by : (b : Bool) → flat_map brings (gone old new) ≡ [] → flat_map brings (gone old (f ∷ new)) ≡ [] → flat_map brings (cond b (gone old new) (Remove e.id ∷ gone old (f ∷ new))) ≡ []
    by true one two = one
    by false one two = rw (none e.id, two) refl

-- what no entry that is put brings
module _ {X : Type 0} (brings : Change → List X) (none : (name : List ℕ) (entry : Entry) → brings (Put name entry) ≡ []) where
  puts_bring : (name : List ℕ) (new : List Entry) → flat_map brings (map (λ entry. Put name entry) new) ≡ []
  puts_bring name [] = refl
  puts_bring name (f ∷ new) = (let rest = puts_bring name new in rw (none name f, rest) refl)

  changed_brings : (name : List ℕ) (e f : Entry) → flat_map brings (changed_entry name e f) ≡ []
  changed_brings name e f = by (equal_entry e f)
    where
      by : (b : Bool) → flat_map brings (cond b [] (Put name f ∷ [])) ≡ []
      by true = refl
      by false = rw (none name f) refl

  pub placed_bring : (name : List ℕ) (old new : List Entry) → flat_map brings (placed name old new) ≡ []
  placed_bring name [] new = puts_bring name new
  placed_bring name (e ∷ old) [] = refl
  placed_bring name (e ∷ old) (f ∷ new) = by (bytes_eq e.id f.id) (placed_bring name old new) (placed_bring name old (f ∷ new))
    where
      by : (b : Bool) → flat_map brings (placed name old new) ≡ [] → flat_map brings (placed name old (f ∷ new)) ≡ [] → flat_map brings (cond b (changed_entry name e f ++ placed name old new) (placed name old (f ∷ new))) ≡ []
      by true one two = flat_map-append brings (changed_entry name e f) (placed name old new) ∙ ap₂ (λ (a b : List X). a ++ b) (changed_brings name e f) one
      by false one two = two

pub gone_plain : (old new : List Entry) → IsDistinct bytes_eq (ids_of old) → Stays by_id old new → flat_map removed_in (gone old new) ≡ missing_from bytes_eq (ids_of new) (ids_of old)
unfolding IsDistinct
gone_plain [] new d s = refl
gone_plain (e ∷ old) [] d s = ap (λ (l : List (List ℕ)). e.id ∷ l) (gone_plain old [] d.1 s)
gone_plain (e ∷ old) (f ∷ new) d (inl s) =
    let id : e.id ≡ f.id = (bytes_decides e.id f.id).0 s.0 in
    let others : AllByRecursion (λ y. bytes_eq f.id y ≡ false) (ids_of old) = subst (λ (i : List ℕ). AllByRecursion (λ y. bytes_eq i y ≡ false) (ids_of old)) id d.0 in
    let rest = gone_plain old new d.1 s.1 ∙ sym (drops_one bytes_eq bytes_decides f.id (ids_of new) (ids_of old) others) in
    ap (flat_map removed_in) (chosen (bytes_eq e.id f.id) (gone old new) (Remove e.id ∷ gone old (f ∷ new)) s.0) ∙ rest
    ∙ sym (passed (not (bytes_eq e.id f.id || list_any (bytes_eq e.id) (ids_of new))) (e.id ∷ missing_from bytes_eq (ids_of (f ∷ new)) (ids_of old)) (missing_from bytes_eq (ids_of (f ∷ new)) (ids_of old))
    (ap (λ (b : Bool). not (b || list_any (bytes_eq e.id) (ids_of new))) s.0))
gone_plain (e ∷ old) (f ∷ new) d (inr s) =
    let none : list_any (bytes_eq e.id) (ids_of (f ∷ new)) ≡ false = sym (any_map (bytes_eq e.id) id_of (f ∷ new)) ∙ s.0 in
    let parts = any_false (bytes_eq e.id f.id) (list_any (bytes_eq e.id) (ids_of new)) none in
    rw (parts.0, parts.1) (ap (λ (l : List (List ℕ)). e.id ∷ l) (gone_plain old (f ∷ new) d.1 s.1))

-- entries of other IDs aren't equal
unequal : (e f : Entry) → bytes_eq e.id f.id ≡ false → equal_entry e f ≡ false
unequal e f other = ap (λ (b : Bool). b && pointwise equal_property e.table f.table) other

each_unequal : (e f : Entry) (xs : List Entry) → e.id ≡ f.id → AllByRecursion (λ y. bytes_eq e.id y ≡ false) (ids_of xs) → AllByRecursion (λ x. equal_entry f x ≡ false) xs
each_unequal e f [] id h = tt
each_unequal e f (x ∷ xs) id h = (unequal f x (ap (λ (i : List ℕ). bytes_eq i x.id) (sym id) ∙ h.0), each_unequal e f xs id h.1)

all_unequal : (e : Entry) (xs : List Entry) → AllByRecursion (λ x. by_id e x ≡ false) xs → AllByRecursion (λ x. equal_entry e x ≡ false) xs
all_unequal e [] h = tt
all_unequal e (x ∷ xs) h = (unequal e x h.0, all_unequal e xs h.1)

-- entries with the name of their session
abbrev pub named_all : List ℕ → List Entry → List (List ℕ × Entry)
named_all name entries = map (λ entry. (name, entry)) entries

all_put : (name : List ℕ) (new : List Entry) → flat_map put_in (map (λ entry. Put name entry) new) ≡ named_all name (missing_from equal_entry [] new)
all_put name [] = refl
all_put name (f ∷ new) = ap (λ (l : List (List ℕ × Entry)). (name, f) ∷ l) (all_put name new)

pub placed_plain : (name : List ℕ) (old new : List Entry) → IsDistinct bytes_eq (ids_of old) → IsDistinct bytes_eq (ids_of new) → Stays by_id old new → flat_map put_in (placed name old new) ≡ named_all name (missing_from equal_entry old new)
unfolding IsDistinct
placed_plain name [] new d_old d_new s = all_put name new
placed_plain name (e ∷ old) [] d_old d_new s = refl
placed_plain name (e ∷ old) (f ∷ new) d_old d_new (inl s) =
    let id : e.id ≡ f.id = (bytes_decides e.id f.id).0 s.0 in
    let apart : list_any (equal_entry f) old ≡ false = same_none equal_entry f old (each_unequal e f old id d_old.0) in
    let rest : flat_map put_in (placed name old new) ≡ named_all name (missing_from equal_entry (e ∷ old) new) =
    placed_plain name old new d_old.1 d_new.1 s.1 ∙ ap (named_all name) (sym (drops_one equal_entry entry_decides e old new (each_unequal f e new (sym id) d_new.0))) in
    ap (flat_map put_in) (chosen (bytes_eq e.id f.id) (changed_entry name e f ++ placed name old new) (placed name old (f ∷ new)) s.0) ∙ by (equal_entry e f) refl rest
    ∙ sym (ap (λ (b : Bool). named_all name (cond (not (equal_entry f e || b)) (f ∷ missing_from equal_entry (e ∷ old) new) (missing_from equal_entry (e ∷ old) new))) apart)
  where
    by : (b : Bool) → equal_entry e f ≡ b → flat_map put_in (placed name old new) ≡ named_all name (missing_from equal_entry (e ∷ old) new)
        → flat_map put_in (cond b [] (Put name f ∷ []) ++ placed name old new) ≡ named_all name (cond (not (equal_entry f e || false)) (f ∷ missing_from equal_entry (e ∷ old) new) (missing_from equal_entry (e ∷ old) new))
    by true equal rest = rest ∙ sym (ap (λ (t : Bool). named_all name (cond (not (t || false)) (f ∷ missing_from equal_entry (e ∷ old) new) (missing_from equal_entry (e ∷ old) new))) (same_back equal_entry entry_decides e f equal))
    by false other rest =
        ap (λ (l : List (List ℕ × Entry)). (name, f) ∷ l) rest ∙ sym (ap (λ (t : Bool). named_all name (cond (not (t || false)) (f ∷ missing_from equal_entry (e ∷ old) new) (missing_from equal_entry (e ∷ old) new))) (not_same equal_entry entry_decides e f other))
placed_plain name (e ∷ old) (f ∷ new) d_old d_new (inr s) =
    let parts = any_false (bytes_eq e.id f.id) (list_any (by_id e) new) s.0 in
    let rest : flat_map put_in (placed name old (f ∷ new)) ≡ named_all name (missing_from equal_entry (e ∷ old) (f ∷ new)) =
    placed_plain name old (f ∷ new) d_old.1 d_new s.1 ∙ ap (named_all name) (sym (drops_one equal_entry entry_decides e old (f ∷ new) (all_unequal e (f ∷ new) (none_same by_id e (f ∷ new) s.0)))) in
    rw parts.0 rest

-- ---- pending commands

module _ {X : Type 0} (brings : Change → List X) (no_pend : (command : Command) → brings (Pend command) ≡ []) (no_unpend : (place : ℕ) → brings (Unpend place) ≡ []) where
  pends_bring : (new : List Command) → flat_map brings (map (λ command. Pend command) new) ≡ []
  pends_bring [] = refl
  pends_bring (d ∷ new) = (let rest = pends_bring new in rw (no_pend d, rest) refl)

  pub pending_brings : (n : ℕ) (old new : List Command) → flat_map brings (pending_changes n old new) ≡ []
  pending_brings n [] new = pends_bring new
  pending_brings n (c ∷ old) [] = (let rest = pending_brings n old [] in rw (no_unpend n, rest) refl)
  pending_brings n (c ∷ old) (d ∷ new) = by (equal_command c d) (pending_brings (n + 1) old new) (pending_brings n old (d ∷ new))
    where
      by : (b : Bool) → flat_map brings (pending_changes (n + 1) old new) ≡ [] → flat_map brings (pending_changes n old (d ∷ new)) ≡ [] → flat_map brings (cond b (pending_changes (n + 1) old new) (Unpend n ∷ pending_changes n old (d ∷ new))) ≡ []
      by true one two = one
      by false one two = rw (no_unpend n, two) refl

no_unpended : (new : List Command) → flat_map unpended_in (map (λ command. Pend command) new) ≡ []
no_unpended [] = refl
no_unpended (d ∷ new) = no_unpended new

all_pended : (new : List Command) → flat_map pended_in (map (λ command. Pend command) new) ≡ missing_from equal_command [] new
all_pended [] = refl
all_pended (d ∷ new) = ap (λ (l : List Command). d ∷ l) (all_pended new)

alike : (c d : Command) (xs : List Command) → c ≡ d → AllByRecursion (λ x. equal_command c x ≡ false) xs → AllByRecursion (λ x. equal_command d x ≡ false) xs
alike c d xs same h = subst (λ (z : Command). AllByRecursion (λ x. equal_command z x ≡ false) xs) same h

pub unpended_plain : (n : ℕ) (old new : List Command) → IsDistinct equal_command old → Stays equal_command old new → length (flat_map unpended_in (pending_changes n old new)) ≡ length (missing_from equal_command new old)
unfolding IsDistinct
unpended_plain n [] new d s = ap (λ (l : List ℕ). length l) (no_unpended new)
unpended_plain n (c ∷ old) [] d s = ap suc (unpended_plain n old [] d.1 s)
unpended_plain n (c ∷ old) (y ∷ new) d (inl s) =
    let same : c ≡ y = (command_decides c y).0 s.0 in
    let rest = unpended_plain (n + 1) old new d.1 s.1 ∙ ap (λ (l : List Command). length l) (sym (drops_one equal_command command_decides y new old (alike c y old same d.0))) in
    rw s.0 rest
unpended_plain n (c ∷ old) (y ∷ new) d (inr s) =
    let parts = any_false (equal_command c y) (list_any (equal_command c) new) s.0 in
    let rest = unpended_plain n old (y ∷ new) d.1 s.1 in
    rw (parts.0, parts.1) (ap suc rest)

pub pended_plain : (n : ℕ) (old new : List Command) → IsDistinct equal_command new → Stays equal_command old new → flat_map pended_in (pending_changes n old new) ≡ missing_from equal_command old new
unfolding IsDistinct
pended_plain n [] new d s = all_pended new
pended_plain n (c ∷ old) [] d s = pended_plain n old [] d s
pended_plain n (c ∷ old) (y ∷ new) d (inl s) =
    let same : c ≡ y = (command_decides c y).0 s.0 in
    let rest = pended_plain (n + 1) old new d.1 s.1 ∙ sym (drops_one equal_command command_decides c old new (alike y c new (sym same) d.0)) in
    rw (s.0, same_back equal_command command_decides c y s.0) rest
pended_plain n (c ∷ old) (y ∷ new) d (inr s) =
    let parts = any_false (equal_command c y) (list_any (equal_command c) new) s.0 in
    let rest : flat_map pended_in (pending_changes n old (y ∷ new)) ≡ missing_from equal_command (c ∷ old) (y ∷ new) =
    pended_plain n old (y ∷ new) d s.1 ∙ sym (drops_one equal_command command_decides c old (y ∷ new) (none_same equal_command c (y ∷ new) s.0)) in
    rw parts.0 rest

map_self : (l : List Command) → map (λ (c : Command). c) l ≡ l
map_self [] = refl
map_self (c ∷ l) = ap (λ (r : List Command). c ∷ r) (map_self l)

pub pending_stay : (old new : List Command) → IsDistinct equal_command old → KeepsOrder equal_command old new → Stays equal_command old new
pending_stay old new d k =
    let a = map_self old in
    let b = map_self new in
    kept_order (λ (c : Command). c) equal_command command_decides old new (subst (IsDistinct equal_command) (sym a) d) (k.0, rw (a, b) k.1)
