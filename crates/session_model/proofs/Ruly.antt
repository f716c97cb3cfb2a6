-- What holds at every move of a run over a book that keeps the rules.
use Rattle.std.proofs.Common.{◌≡◌, refl, ℕ, ◌+◌, ◌<◌, ◌≤◌, Bool, true, false, cond, not, ◌&&◌, ◌||◌, List, [], ◌∷◌, ◌++◌, length, eqb, sym, ap, subst, ◌∙◌, arith, inl, inr, length-append}
use Rattle.std.specs.Prelude.{Option, Some, None, is_some, find, filter_map, nat_lt, ◌⊎◌, if◌then◌else◌}
use Rattle.std.specs.List.{AllByRecursion, IsDistinct, cons_option}
use Rattle.std.specs.Str.{bytes_eq}
use Rattle.std.specs.Cmp.Lexicographic.{same_text}
use Rattle.std.proofs.lemmas.Bool.Decides.{nat_tests}
use Rattle.std.proofs.lemmas.List.{map-append}
use Rattle.owned_lists.specs.declared.commands.Command.{Command}
use Rattle.ice_values.specs.declared.property.Property.{Property}
use Rattle.xsmp_messages.specs.declared.message.XsmpMessage.{XsmpMessage}
use Rattle.xsmp_messages.specs.declared.message.XsmpMessage.TheVariants.{RegisterClientReply, SetProperties, DeleteProperties, InteractRequest, InteractDone}
use Rattle.checkpoint_records.specs.declared.records.Book.{Book}
use Rattle.checkpoint_records.specs.declared.records.Entry.{Entry}
use Rattle.checkpoint_records.specs.declared.records.Named.{Named}
use Rattle.checkpoint_records.specs.Books.{all_entries, entries_in, same_command}
use Rattle.checkpoint_records.specs.Rules.{client_id, ids_of, IsCommand, KeepsRules}
use Rattle.interact_queue.specs.Queue.{is_in, without}
use Rattle.discard_ledger.specs.Discards.{discard_of, is_stray}
use Rattle.session_model.specs.declared.phase.Phase.{Phase}
use Rattle.session_model.specs.declared.phase.Phase.TheVariants.{Unregistered}
use Rattle.session_model.specs.declared.events.SessionEvent.{SessionEvent}
use Rattle.session_model.specs.declared.events.SessionEvent.TheVariants.{Joined, Ready, Said, Left, Operator, Tick}
use Rattle.ice_values.specs.declared.saves.Dialog.{Dialog}
use Rattle.session_model.specs.Phases.{may_interact, phase_said, phase_given, ready_phase}
use Rattle.session_model.specs.Tables.{is_same, stopped, stopped_said, strays_with, table_said, has_id, is_of, is_recorded}
use Rattle.session_model.specs.Moves.{Move, Outside, Gave, Unset, Closed, Began, Over, Agreed, Cancelled, Committed, History, ◌▷◌}
use Rattle.session_model.specs.Readings as of
use Rattle.session_model.proofs.Lists.{Once, once-without, in-without, in-append}
use Rattle.session_model.proofs.Sound.{or-true, or-either}
use Rattle.session_model.proofs.Tidy.{Tidy}
use Rattle.session_model.proofs.Commands.{IsMaybeCommand, discard-command}
use Rattle.session_model.proofs.Pending.{AreBeside, all-append}
use Rattle.session_model.proofs.Names.{AreOwn, IsFree, IsNew, IsBefore, IsNumbered, Numbered, have-ids, own-step, own-case, gone-had, numbered-step, before-own}
use Rattle.session_model.proofs.Known.{distinct-conns}
use Rattle.session_model.proofs.Room.{within, has-append, held_ids, known_with, known-in, in-known, known-distinct, recorded-has, room-kept}

-- What a move asks

abbrev pub Lawful : ℕ → Move → History → Type 0
Lawful epoch (Gave c (RegisterClientReply id)) h =
    (of.phase_of c h ≡ Some Unregistered) × IsFree id h
    × (of.asks_anew c h ≡ true → (id ≡ client_id epoch (of.given h + 1)) × (of.given h + 1 < 4294967296) × (length (known_with (all_entries (of.book h)) (held_ids h)) < 128))
    × (of.asks_anew c h ≡ false → is_recorded id (of.book h) ≡ true)
Lawful epoch (Committed written) h =
    KeepsRules written × ((q : List ℕ) → has_id q (ids_of written.entries) ≡ true → (has_id q (ids_of (of.book h).entries) || has_id q (held_ids h)) ≡ true) × (written.name ≡ (of.book h).name) × (written.others ≡ (of.book h).others)
Lawful epoch (Began conns wanted) h = Once conns
Lawful epoch (Outside (Ready c)) h = is_in c (of.live h) ≡ true
Lawful epoch m h = Unit {0}

-- What is held is known

-- who is recorded in the chosen session, or held
abbrev pub IsKnown : List ℕ → History → Type 0
IsKnown q h = (has_id q (ids_of (of.book h).entries) || has_id q (held_ids h)) ≡ true

-- an ID that is made of connections is held by one of them
pub held-by : (f : ℕ → Option (List ℕ)) (q : List ℕ) (cs : List ℕ) → has_id q (filter_map f cs) ≡ true → (c : ℕ) × (f c ≡ Some q)
held-by f q [] e = absurd (grind arith)
held-by f q (c ∷ cs) e = held-at c (f c) refl e (held-by f q cs) where
  held-at : (c : ℕ) (o : Option (List ℕ)) → f c ≡ o → has_id q (cons_option o (filter_map f cs)) ≡ true → (has_id q (filter_map f cs) ≡ true → (d : ℕ) × (f d ≡ Some q)) → (d : ℕ) × (f d ≡ Some q)
  held-at c None k e g = g e
  held-at c (Some id) k e g = or-either (bytes_eq q id) (has_id q (filter_map f cs)) (λ s. (c, k ∙ ap (λ (x : List ℕ). Some x) (sym (same_text q id (sym s))))) g e

pub own_text : (q : List ℕ) → bytes_eq q q ≡ true
own_text [] = refl
own_text (x ∷ xs) = own-cons x xs (own_text xs) where
  own-cons : (x : ℕ) (xs : List ℕ) → bytes_eq xs xs ≡ true → bytes_eq (x ∷ xs) (x ∷ xs) ≡ true
  own-cons x xs e = grind (arith, nat_tests, e)

-- who has an ID and is there holds it
holds : (f : ℕ → Option (List ℕ)) (q : List ℕ) (c : ℕ) (cs : List ℕ) → is_in c cs ≡ true → f c ≡ Some q → has_id q (filter_map f cs) ≡ true
holds f q c [] i e = absurd (grind arith)
holds f q c (d ∷ cs) i e = holds-at (eqb d c) (f d) refl refl i (λ j. holds f q c cs j e) where
  holds-at : (b : Bool) (o : Option (List ℕ)) → eqb d c ≡ b → f d ≡ o → (b || is_in c cs) ≡ true → (is_in c cs ≡ true → has_id q (filter_map f cs) ≡ true) → has_id q (cons_option o (filter_map f cs)) ≡ true
  holds-at true None s k j g = let same : d ≡ c = grind (arith, nat_tests) in absurd (no-such (f d) (ap (λ (x : ℕ). f x) same ∙ e) k) where
    no-such : (o : Option (List ℕ)) → o ≡ Some q → o ≡ None → ⊥
    no-such o e k = grind arith
  holds-at true (Some id) s k j g = let same : d ≡ c = grind (arith, nat_tests) in
      let own : q ≡ id = some-own id (sym k ∙ ap (λ (x : ℕ). f x) same ∙ e) in
      ap (λ (b : Bool). b || has_id q (filter_map f cs)) (ap (λ (x : List ℕ). bytes_eq q x) (sym own) ∙ own_text q) where
        some-own : (id : List ℕ) → Some id ≡ Some q → q ≡ id
        some-own id e = cc
  holds-at false None s k j g = g j
  holds-at false (Some id) s k j g = ap (λ (b : Bool). bytes_eq q id || b) (g j) ∙ or-true (bytes_eq q id)

-- whoever has an ID holds it
pub held-in : (c : ℕ) (q : List ℕ) (h : History) → of.id_of c h ≡ Some q → has_id q (held_ids h) ≡ true
held-in c q h e = holds (λ x. of.id_of x h) q c (of.registered h) (sym (have-ids h c) ∙ ap (λ (o : Option (List ℕ)). is_some o) e) e

-- All of it

pub record Ruly (epoch : ℕ) (h : History) : Type 0 where
  pub own : AreOwn h
  pub numbered : Numbered epoch h
  pub once_members : Once (of.members h)
  pub beside : AreBeside epoch (of.book h).name (of.book h).others
  -- who is recorded or held is none of those of the other sessions
  pub apart : (q : List ℕ) → IsKnown q h → has_id q (ids_of (entries_in (of.book h).others)) ≡ false
  pub ids_differ : IsDistinct bytes_eq (ids_of (all_entries (of.book h)))
  pub room : length (known_with (all_entries (of.book h)) (held_ids h)) ≤ 128
  pub commands : AllByRecursion IsCommand (of.book h).pending
  pub commands_differ : IsDistinct same_command (of.book h).pending
  pub strays : AllByRecursion IsCommand (of.strays h)
  pub few_strays : length (of.strays h) ≤ 128
  pub there : (c : ℕ) → is_some (of.phase_of c h) ≡ true → is_in c (of.live h) ≡ true

-- IDs

lawful-new : (epoch : ℕ) (m : Move) (h : History) → Lawful epoch m h → IsNew m h
lawful-new epoch (Gave c m) h l = lawful-given c m h l where
  lawful-given : (c : ℕ) (m : XsmpMessage) (h : History) → Lawful epoch (Gave c m) h → IsNew (Gave c m) h
  lawful-given c (RegisterClientReply id) h l = l.1
  lawful-given c m h l = tt
lawful-new epoch m h l = tt

find-before : (epoch n : ℕ) (id : List ℕ) (entries : List Entry) → AllByRecursion (λ (entry : Entry). IsBefore epoch n entry.id) entries → is_some (find (is_of id) entries) ≡ true → IsBefore epoch n id
find-before epoch n id [] a e = absurd (grind arith)
find-before epoch n id (entry ∷ entries) a e = find-at (is_of id entry) refl e (find-before epoch n id entries a.1) where
  find-at : (b : Bool) → is_of id entry ≡ b → is_some (cond b (Some entry) (find (is_of id) entries)) ≡ true → (is_some (find (is_of id) entries) ≡ true → IsBefore epoch n id) → IsBefore epoch n id
  find-at true s e g = subst (λ (x : List ℕ). IsBefore epoch n x) (sym (same_text id entry.id (sym s))) a.0
  find-at false s e g = g e

reply-before : (b : Bool) (epoch n : ℕ) (id : List ℕ) → (b ≡ false → IsBefore epoch n id) → (b ≡ true → (id ≡ client_id epoch (n + 1)) × (n + 1 < 4294967296)) → IsBefore epoch (cond b (n + 1) n) id
reply-before false epoch n id f g = f refl
reply-before true epoch n id f g = subst (λ (x : List ℕ). IsBefore epoch (n + 1) x) (sym (g refl).0) (before-own epoch (n + 1) (g refl).1)

all-by-has : (P : List ℕ → Type 0) (entries : List Entry) → ((q : List ℕ) → has_id q (ids_of entries) ≡ true → P q) → AllByRecursion (λ (entry : Entry). P entry.id) entries
all-by-has P [] k = tt
all-by-has P (entry ∷ entries) k =
    (k entry.id (ap (λ (b : Bool). b || has_id entry.id (ids_of entries)) (own_text entry.id)), all-by-has P entries (λ q e. k q (ap (λ (b : Bool). bytes_eq q entry.id || b) e ∙ or-true (bytes_eq q entry.id))))

known-before : (epoch : ℕ) (q : List ℕ) (h : History) → Numbered epoch h → IsKnown q h → IsBefore epoch (of.given h) q
known-before epoch q h n e =
    or-either (has_id q (ids_of (of.book h).entries)) (has_id q (held_ids h)) (λ s. find-before epoch (of.given h) q (of.book h).entries n.entries (recorded-has q (of.book h).entries ∙ s))
    (λ s. let c : (c : ℕ) × (of.id_of c h ≡ Some q) = held-by (λ x. of.id_of x h) q (of.registered h) s in n.held c.0 q c.1) e

lawful-given-numbered : (epoch c : ℕ) (m : XsmpMessage) (h : History) → Lawful epoch (Gave c m) h → Numbered epoch h → IsNumbered epoch (Gave c m) h
lawful-given-numbered epoch c (RegisterClientReply id) h l n =
    reply-before (of.asks_anew c h) epoch (of.given h) id (λ e. find-before epoch (of.given h) id (of.book h).entries n.entries (l.3 e)) (λ e. ((l.2 e).0, (l.2 e).1))
lawful-given-numbered epoch c m h l n = tt

lawful-numbered : (epoch : ℕ) (m : Move) (h : History) → Lawful epoch m h → Numbered epoch h → IsNumbered epoch m h
lawful-numbered epoch (Gave c m) h l n = lawful-given-numbered epoch c m h l n
lawful-numbered epoch (Committed written) h l n = all-by-has (IsBefore epoch (of.given h)) written.entries (λ q e. known-before epoch q h n (l.1 q e))
lawful-numbered epoch m h l n = tt

-- Members

once-began : (event : SessionEvent) (h : History) → Once (of.members h) → Once (of.members (Outside event ▷ h))
once-began (Left d) h o = once-without d (of.members h) o
once-began event h o = o

members-step : (epoch : ℕ) (m : Move) (h : History) → Lawful epoch m h → Once (of.members h) → Once (of.members (m ▷ h))
members-step epoch (Outside event) h l o = once-began event h o
members-step epoch (Closed d) h l o = once-without d (of.members h) o
members-step epoch (Began conns wanted) h l o = l
members-step epoch Over h l o = tt
members-step epoch Agreed h l o = tt
members-step epoch Cancelled h l o = tt
members-step epoch m h l o = o

-- Who is live

cond-none : (b : Bool) → is_some {T = Phase} (cond b None None) ≡ true → false ≡ true
cond-none true e = e
cond-none false e = e

none-said : (allowed : Dialog → Bool) (m : XsmpMessage) → is_some (phase_said allowed m None) ≡ true → false ≡ true
none-said allowed (InteractRequest dialog) e = cond-none (allowed dialog) e
none-said allowed (InteractDone false) e = e
none-said allowed m e = e

some-said : (allowed : Dialog → Bool) (m : XsmpMessage) (p : Option Phase) → is_some (phase_said allowed m p) ≡ true → is_some p ≡ true
some-said allowed m (Some p) e = refl
some-said allowed m None e = none-said allowed m e

some-given : (m : XsmpMessage) (p : Option Phase) → is_some (phase_given m p) ≡ true → is_some p ≡ true
some-given m (Some p) e = refl
some-given (RegisterClientReply id) None e = e
some-given m None e = e

some-at : (b : Bool) (p q : Option Phase) → (is_some q ≡ true → is_some p ≡ true) → is_some (cond b q p) ≡ true → is_some p ≡ true
some-at true p q k e = k e
some-at false p q k e = e

abbrev AreThere : History → Type 0
AreThere h = (c : ℕ) → is_some (of.phase_of c h) ≡ true → is_in c (of.live h) ≡ true

stays : (b i : Bool) (p : Option Phase) → (is_some p ≡ true → i ≡ true) → is_some (cond b None p) ≡ true → (not b && i) ≡ true
stays true i p k e = absurd (grind arith)
stays false i p k e = k e

there-left : (d : ℕ) (h : History) → AreThere h → (c : ℕ) → is_some (cond (eqb d c) None (of.phase_of c h)) ≡ true → is_in c (without d (of.live h)) ≡ true
there-left d h t c e = in-without c d (of.live h) ∙ stays (eqb d c) (is_in c (of.live h)) (of.phase_of c h) (t c) e

ready-case : (b i : Bool) (p : Option Phase) → (b ≡ true → i ≡ true) → (is_some p ≡ true → i ≡ true) → is_some (cond b (ready_phase p) p) ≡ true → i ≡ true
ready-case true i p l k e = l refl
ready-case false i p l k e = k e

there-heard : (epoch : ℕ) (event : SessionEvent) (h : History) → Lawful epoch (Outside event) h → AreThere h → AreThere (Outside event ▷ h)
there-heard epoch (Joined d) h l t c e = in-append c (of.live h) (d ∷ []) ∙ ap (λ (b : Bool). b || is_in c (d ∷ [])) (t c e)
there-heard epoch (Ready d) h l t c e =
    ready-case (eqb d c) (is_in c (of.live h)) (of.phase_of c h) (λ k. let same : d ≡ c = grind (arith, nat_tests) in subst (λ (x : ℕ). is_in x (of.live h) ≡ true) same l) (t c) e
there-heard epoch (Said d m sequence frame) h l t c e =
    t c (some-at (eqb d c) (of.phase_of c h) (phase_said (λ dialog. may_interact (of.wanted h) dialog) m (of.phase_of c h)) (some-said (λ dialog. may_interact (of.wanted h) dialog) m (of.phase_of c h)) e)
there-heard epoch (Left d) h l t c e = there-left d h t c e
there-heard epoch (Operator order) h l t c e = t c e
there-heard epoch (Tick milliseconds) h l t c e = t c e

there-step : (epoch : ℕ) (m : Move) (h : History) → Lawful epoch m h → AreThere h → AreThere (m ▷ h)
there-step epoch (Outside event) h l t c e = there-heard epoch event h l t c e
there-step epoch (Gave d m) h l t c e = t c (some-at (eqb d c) (of.phase_of c h) (phase_given m (of.phase_of c h)) (some-given m (of.phase_of c h)) e)
there-step epoch (Unset d) h l t c e = t c (some-at (eqb d c) (of.phase_of c h) None (λ x. absurd (grind arith)) e)
there-step epoch (Closed d) h l t c e = there-left d h t c e
there-step epoch m h l t c e = t c e

-- Strays

maybe-stopped : (o now : Option Command) → IsMaybeCommand o → IsMaybeCommand (stopped o now)
maybe-stopped None now m = tt
maybe-stopped (Some command) now m = maybe-at (is_same command now) command m where
  maybe-at : (b : Bool) (command : Command) → IsCommand command → IsMaybeCommand (cond b None (Some command))
  maybe-at true command m = tt
  maybe-at false command m = m

maybe-said : (c : ℕ) (m : XsmpMessage) (phase : ℕ → Option Phase) (table : ℕ → List Property) → IsMaybeCommand (discard_of (table c)) → IsMaybeCommand (stopped_said c m phase table)
maybe-said c (SetProperties list) phase table m = maybe-stopped (discard_of (table c)) (discard_of (table_said c (SetProperties list) phase (table c))) m
maybe-said c (DeleteProperties names) phase table m = maybe-stopped (discard_of (table c)) (discard_of (table_said c (DeleteProperties names) phase (table c))) m
maybe-said c m phase table k = tt

maybe-heard : (epoch : ℕ) (event : SessionEvent) (h : History) → Tidy epoch h → IsMaybeCommand (of.stopped_by (Outside event) (λ c. of.phase_of c h) (λ c. of.table_of c h))
maybe-heard epoch (Said c m sequence frame) h t = maybe-said c m (λ x. of.phase_of x h) (λ x. of.table_of x h) (discard-command (of.table_of c h) (t.tables c))
maybe-heard epoch (Left c) h t = discard-command (of.table_of c h) (t.tables c)
maybe-heard epoch event h t = tt

maybe-by : (epoch : ℕ) (m : Move) (h : History) → Tidy epoch h → IsMaybeCommand (of.stopped_by m (λ c. of.phase_of c h) (λ c. of.table_of c h))
maybe-by epoch (Outside event) h t = maybe-heard epoch event h t
maybe-by epoch (Closed c) h t = discard-command (of.table_of c h) (t.tables c)
maybe-by epoch m h t = tt

-- the strays keep the rules for pending commands, and there are 128 at most
abbrev AreFew : List Command → Type 0
AreFew strays = AllByRecursion IsCommand strays × (length strays ≤ 128)

few-at : (b : Bool) (strays : List Command) (command : Command) → (b ≡ true → length strays < 128) → IsCommand command → AreFew strays → AreFew (if b then strays ++ command ∷ [] else strays)
few-at true strays command l m f = (all-append IsCommand strays (command ∷ []) f.0 (m, tt), omega (arith, l refl, length-append strays (command ∷ [])))
few-at false strays command l m f = f

below : (x y : ℕ) (b : Bool) → (nat_lt x y && b) ≡ true → x < y
below x y b e = below-at (nat_lt x y) refl e where
  below-at : (a : Bool) → nat_lt x y ≡ a → (a && b) ≡ true → x < y
  below-at true s e = grind (arith, nat_tests)
  below-at false s e = absurd (grind arith)

few-with : (book : Book) (o : Option Command) (strays : List Command) → IsMaybeCommand o → AreFew strays → AreFew (strays_with book o strays)
few-with book None strays m f = f
few-with book (Some command) strays m f =
    few-at (nat_lt (length strays) 128 && is_stray book book.pending strays command) strays command (below (length strays) 128 (is_stray book book.pending strays command)) m f

few-step : (epoch : ℕ) (m : Move) (h : History) → Tidy epoch h → AreFew (of.strays h) → AreFew (of.strays (m ▷ h))
few-step epoch (Committed written) h t f = (tt, omega arith)
few-step epoch m h t f = few-with (of.book h) (of.stopped_by m (λ c. of.phase_of c h) (λ c. of.table_of c h)) (of.strays h) (maybe-by epoch m h t) f

-- IDs of all sessions

has-parts : (q : List ℕ) (entries others : List Entry) → has_id q (ids_of (entries ++ others)) ≡ (has_id q (ids_of entries) || has_id q (ids_of others))
has-parts q entries others = ap (λ (ids : List (List ℕ)). has_id q ids) (map-append (λ (entry : Entry). entry.id) entries others) ∙ has-append q (ids_of entries) (ids_of others)

chosen-has : (q : List ℕ) (entries others : List Entry) → has_id q (ids_of entries) ≡ true → has_id q (ids_of (entries ++ others)) ≡ true
chosen-has q entries others e = has-parts q entries others ∙ ap (λ (b : Bool). b || has_id q (ids_of others)) e

others-have : (q : List ℕ) (entries others : List Entry) → has_id q (ids_of others) ≡ true → has_id q (ids_of (entries ++ others)) ≡ true
others-have q entries others e = has-parts q entries others ∙ ap (λ (b : Bool). has_id q (ids_of entries) || b) e ∙ or-true (has_id q (ids_of entries))

-- who is known of the chosen session, or stands in another one, is known
pub all-known : (written : Book) (h : History) → ((q : List ℕ) → has_id q (ids_of written.entries) ≡ true → IsKnown q h) → written.others ≡ (of.book h).others
    → (q : List ℕ) → has_id q (ids_of (all_entries written)) ≡ true → (has_id q (ids_of (all_entries (of.book h))) || has_id q (held_ids h)) ≡ true
all-known written h known same q e =
    or-either (has_id q (ids_of written.entries)) (has_id q (ids_of (entries_in written.others)))
    (λ s. or-either (has_id q (ids_of (of.book h).entries)) (has_id q (held_ids h)) (λ t. ap (λ (b : Bool). b || has_id q (held_ids h)) (chosen-has q (of.book h).entries (entries_in (of.book h).others) t))
    (λ t. ap (λ (b : Bool). has_id q (ids_of (all_entries (of.book h))) || b) t ∙ or-true (has_id q (ids_of (all_entries (of.book h))))) (known q s))
    (λ s. ap (λ (b : Bool). b || has_id q (held_ids h)) (others-have q (of.book h).entries (entries_in (of.book h).others) (ap (λ (os : List Named). has_id q (ids_of (entries_in os))) (sym same) ∙ s)))
    (sym (has-parts q written.entries (entries_in written.others)) ∙ e)

-- Room for IDs

room-less : (entries : List Entry) (held less : List (List ℕ)) → IsDistinct bytes_eq (ids_of entries) → IsDistinct bytes_eq less → ((q : List ℕ) → has_id q less ≡ true → (has_id q (ids_of entries) || has_id q held) ≡ true)
    → length (known_with entries less) ≤ length (known_with entries held)
room-less entries held less d e k =
    within (known_with entries less) (known_with entries held) (known-distinct entries less d e)
    (λ q i. known-in q entries held (or-either (has_id q (ids_of entries)) (has_id q less) (λ s. ap (λ (b : Bool). b || has_id q held) s) (k q) (in-known q entries less i)))

-- one more at most
room-more : (entries : List Entry) (held more : List (List ℕ)) (id : List ℕ) → IsDistinct bytes_eq (ids_of entries) → IsDistinct bytes_eq more → ((q : List ℕ) → has_id q more ≡ true → (q ≡ id) ⊎ (has_id q held ≡ true))
    → length (known_with entries more) ≤ length (known_with entries held) + 1
room-more entries held more id d e k =
    let w : length (known_with entries more) ≤ length (id ∷ known_with entries held) =
    within (known_with entries more) (id ∷ known_with entries held) (known-distinct entries more d e)
    (λ q i. or-either (has_id q (ids_of entries)) (has_id q more)
    (λ s. ap (λ (b : Bool). bytes_eq q id || b) (known-in q entries held (ap (λ (b : Bool). b || has_id q held) s)) ∙ or-true (bytes_eq q id))
    (λ s. one-of q (k q s)) (in-known q entries more i)) in
    omega (arith, w) where
      one-of : (q : List ℕ) → (q ≡ id) ⊎ (has_id q held ≡ true) → (bytes_eq q id || has_id q (known_with entries held)) ≡ true
      one-of q (inl s) = ap (λ (b : Bool). b || has_id q (known_with entries held)) (ap (λ (x : List ℕ). bytes_eq q x) (sym s) ∙ own_text q)
      one-of q (inr s) = ap (λ (b : Bool). bytes_eq q id || b) (known-in q entries held (ap (λ (b : Bool). has_id q (ids_of entries) || b) s ∙ or-true (has_id q (ids_of entries)))) ∙ or-true (bytes_eq q id)

pub held-distinct : (h : History) → AreOwn h → Once (of.registered h) → IsDistinct bytes_eq (held_ids h)
held-distinct h o n = distinct-conns h (λ c. of.id_of c h) (of.registered h) (λ c id e. e) o n

-- after c left
room-left : (m : Move) (d : ℕ) (h : History) → ((c : ℕ) → of.id_of c (m ▷ h) ≡ cond (eqb d c) None (of.id_of c h)) → (all_entries (of.book (m ▷ h))) ≡ (all_entries (of.book h)) → IsDistinct bytes_eq (ids_of (all_entries (of.book h))) → IsDistinct bytes_eq (held_ids (m ▷ h))
    → length (known_with (all_entries (of.book h)) (held_ids (m ▷ h))) ≤ length (known_with (all_entries (of.book h)) (held_ids h))
room-left m d h f b i e =
    room-less (all_entries (of.book h)) (held_ids h) (held_ids (m ▷ h)) i e
    (λ q s. let c : (c : ℕ) × (of.id_of c (m ▷ h) ≡ Some q) = held-by (λ x. of.id_of x (m ▷ h)) q (of.registered (m ▷ h)) s in
    ap (λ (b : Bool). has_id q (ids_of (all_entries (of.book h))) || b) (held-in c.0 q h (gone-had (eqb d c.0) q (of.id_of c.0 h) (sym (f c.0) ∙ c.1))) ∙ or-true (has_id q (ids_of (all_entries (of.book h)))))

given-case : (d : ℕ) (id q : List ℕ) (h : History) → has_id q (held_ids (Gave d (RegisterClientReply id) ▷ h)) ≡ true → (q ≡ id) ⊎ (has_id q (held_ids h) ≡ true)
given-case d id q h s =
    let c : (c : ℕ) × (cond (eqb d c) (Some id) (of.id_of c h) ≡ Some q) = held-by (λ x. of.id_of x (Gave d (RegisterClientReply id) ▷ h)) q (of.registered (Gave d (RegisterClientReply id) ▷ h)) s in
    of-case c.0 (own-case (eqb d c.0) id q (of.id_of c.0 h) c.1) where
      of-case : (c : ℕ) → ((eqb d c ≡ true) × (id ≡ q)) ⊎ (of.id_of c h ≡ Some q) → (q ≡ id) ⊎ (has_id q (held_ids h) ≡ true)
      of-case c (inl x) = inl (sym x.1)
      of-case c (inr x) = inr (held-in c q h x)

room-reply : (b : Bool) (d : ℕ) (id : List ℕ) (h : History) → (b ≡ false → is_recorded id (of.book h) ≡ true) → (b ≡ true → length (known_with (all_entries (of.book h)) (held_ids h)) < 128) → IsDistinct bytes_eq (ids_of (all_entries (of.book h)))
    → IsDistinct bytes_eq (held_ids (Gave d (RegisterClientReply id) ▷ h)) → length (known_with (all_entries (of.book h)) (held_ids h)) ≤ 128 → length (known_with (all_entries (of.book h)) (held_ids (Gave d (RegisterClientReply id) ▷ h))) ≤ 128
room-reply false d id h r l i e k =
    let w : length (known_with (all_entries (of.book h)) (held_ids (Gave d (RegisterClientReply id) ▷ h))) ≤ length (known_with (all_entries (of.book h)) (held_ids h)) =
    room-less (all_entries (of.book h)) (held_ids h) (held_ids (Gave d (RegisterClientReply id) ▷ h)) i e (λ q s. known-case q (given-case d id q h s)) in
    omega (arith, w, k) where
      known-case : (q : List ℕ) → (q ≡ id) ⊎ (has_id q (held_ids h) ≡ true) → (has_id q (ids_of (all_entries (of.book h))) || has_id q (held_ids h)) ≡ true
      known-case q (inl s) = ap (λ (b : Bool). b || has_id q (held_ids h)) (ap (λ (x : List ℕ). has_id x (ids_of (all_entries (of.book h)))) s ∙ chosen-has id (of.book h).entries (entries_in (of.book h).others) (sym (recorded-has id (of.book h).entries) ∙ r refl))
      known-case q (inr s) = ap (λ (b : Bool). has_id q (ids_of (all_entries (of.book h))) || b) s ∙ or-true (has_id q (ids_of (all_entries (of.book h))))
room-reply true d id h r l i e k =
    omega (arith, room-more (all_entries (of.book h)) (held_ids h) (held_ids (Gave d (RegisterClientReply id) ▷ h)) id i e (λ q s. given-case d id q h s), l refl)

room-given : (epoch d : ℕ) (m : XsmpMessage) (h : History) → Lawful epoch (Gave d m) h → IsDistinct bytes_eq (held_ids (Gave d m ▷ h)) → Ruly epoch h → length (known_with (all_entries (of.book h)) (held_ids (Gave d m ▷ h))) ≤ 128
room-given epoch d (RegisterClientReply id) h l e r = room-reply (of.asks_anew d h) d id h l.3 (λ n. (l.2 n).2) r.ids_differ e r.room
room-given epoch d m h l e r = r.room

room-heard : (epoch : ℕ) (event : SessionEvent) (h : History) → IsDistinct bytes_eq (held_ids (Outside event ▷ h)) → Ruly epoch h → length (known_with (all_entries (of.book h)) (held_ids (Outside event ▷ h))) ≤ 128
room-heard epoch (Left d) h e r = omega (arith, room-left (Outside (Left d)) d h (λ c. refl) refl r.ids_differ e, r.room)
room-heard epoch event h e r = r.room

room-step : (epoch : ℕ) (m : Move) (h : History) → Lawful epoch m h → IsDistinct bytes_eq (held_ids (m ▷ h)) → Ruly epoch h → length (known_with (all_entries (of.book (m ▷ h))) (held_ids (m ▷ h))) ≤ 128
room-step epoch (Outside event) h l e r = room-heard epoch event h e r
room-step epoch (Gave d m) h l e r = room-given epoch d m h l e r
room-step epoch (Closed d) h l e r = omega (arith, room-left (Closed d) d h (λ c. refl) refl r.ids_differ e, r.room)
room-step epoch (Committed written) h l e r = omega (arith, room-kept (all_entries (of.book h)) (all_entries written) (held_ids h) (l.0).ids_differ e (all-known written h l.1 l.3), r.room)
room-step epoch m h l e r = r.room

-- Nobody who is known stands in another session

-- the next new ID is none of theirs
next-absent : (epoch n : ℕ) (entries : List Entry) → 0 < n → n < 4294967296 → AllByRecursion (λ (entry : Entry). IsBefore epoch 0 entry.id) entries → has_id (client_id epoch n) (ids_of entries) ≡ false
next-absent epoch n [] some fits a = refl
next-absent epoch n (entry ∷ entries) some fits a = absent-at (bytes_eq (client_id epoch n) entry.id) refl (next-absent epoch n entries some fits a.1) where
  absent-at : (b : Bool) → bytes_eq (client_id epoch n) entry.id ≡ b → has_id (client_id epoch n) (ids_of entries) ≡ false → (b || has_id (client_id epoch n) (ids_of entries)) ≡ false
  absent-at true s k = absurd (a.0 n some fits (sym (same_text (client_id epoch n) entry.id (sym s))))
  absent-at false s k = k

abbrev AreApart : History → Type 0
AreApart h = (q : List ℕ) → IsKnown q h → has_id q (ids_of (entries_in (of.book h).others)) ≡ false

apart-less : (m : Move) (d : ℕ) (h : History) → ((c : ℕ) → of.id_of c (m ▷ h) ≡ cond (eqb d c) None (of.id_of c h)) → (q : List ℕ) → (has_id q (ids_of (of.book h).entries) || has_id q (held_ids (m ▷ h))) ≡ true → IsKnown q h
apart-less m d h f q e =
    or-either (has_id q (ids_of (of.book h).entries)) (has_id q (held_ids (m ▷ h))) (λ s. ap (λ (b : Bool). b || has_id q (held_ids h)) s)
    (λ s. let c : (c : ℕ) × (of.id_of c (m ▷ h) ≡ Some q) = held-by (λ x. of.id_of x (m ▷ h)) q (of.registered (m ▷ h)) s in
    ap (λ (b : Bool). has_id q (ids_of (of.book h).entries) || b) (held-in c.0 q h (gone-had (eqb d c.0) q (of.id_of c.0 h) (sym (f c.0) ∙ c.1))) ∙ or-true (has_id q (ids_of (of.book h).entries))) e

apart-reply : (b : Bool) (epoch d : ℕ) (id : List ℕ) (h : History) → (b ≡ false → is_recorded id (of.book h) ≡ true) → (b ≡ true → (id ≡ client_id epoch (of.given h + 1)) × (of.given h + 1 < 4294967296)) → Ruly epoch h → AreApart (Gave d (RegisterClientReply id) ▷ h)
apart-reply b epoch d id h again anew r q e =
    or-either (has_id q (ids_of (of.book h).entries)) (has_id q (held_ids (Gave d (RegisterClientReply id) ▷ h))) (λ s. r.apart q (ap (λ (x : Bool). x || has_id q (held_ids h)) s)) (λ s. of-case (given-case d id q h s)) e where
      own-apart : (b : Bool) → (b ≡ false → is_recorded id (of.book h) ≡ true) → (b ≡ true → (id ≡ client_id epoch (of.given h + 1)) × (of.given h + 1 < 4294967296)) → has_id id (ids_of (entries_in (of.book h).others)) ≡ false
      own-apart false again anew = r.apart id (ap (λ (x : Bool). x || has_id id (held_ids h)) (sym (recorded-has id (of.book h).entries) ∙ again refl))
      own-apart true again anew =
          ap (λ (x : List ℕ). has_id x (ids_of (entries_in (of.book h).others))) (anew refl).0 ∙ next-absent epoch (of.given h + 1) (entries_in (of.book h).others) (omega arith) (anew refl).1 r.beside.earlier

      of-case : (q ≡ id) ⊎ (has_id q (held_ids h) ≡ true) → has_id q (ids_of (entries_in (of.book h).others)) ≡ false
      of-case (inl s) = ap (λ (x : List ℕ). has_id x (ids_of (entries_in (of.book h).others))) s ∙ own-apart b again anew
      of-case (inr s) = r.apart q (ap (λ (x : Bool). has_id q (ids_of (of.book h).entries) || x) s ∙ or-true (has_id q (ids_of (of.book h).entries)))

apart-given : (epoch d : ℕ) (m : XsmpMessage) (h : History) → Lawful epoch (Gave d m) h → Ruly epoch h → AreApart (Gave d m ▷ h)
apart-given epoch d (RegisterClientReply id) h l r = apart-reply (of.asks_anew d h) epoch d id h l.3 (λ n. ((l.2 n).0, (l.2 n).1)) r
apart-given epoch d m h l r = r.apart

apart-heard : (epoch : ℕ) (event : SessionEvent) (h : History) → Ruly epoch h → AreApart (Outside event ▷ h)
apart-heard epoch (Left d) h r q e = r.apart q (apart-less (Outside (Left d)) d h (λ c. refl) q e)
apart-heard epoch event h r q e = r.apart q e

apart-written : (epoch : ℕ) (written : Book) (h : History) → Lawful epoch (Committed written) h → Ruly epoch h → AreApart (Committed written ▷ h)
apart-written epoch written h l r q e =
    ap (λ (os : List Named). has_id q (ids_of (entries_in os))) l.3
    ∙ r.apart q (or-either (has_id q (ids_of written.entries)) (has_id q (held_ids h)) (l.1 q) (λ s. ap (λ (b : Bool). has_id q (ids_of (of.book h).entries) || b) s ∙ or-true (has_id q (ids_of (of.book h).entries))) e)

apart-step : (epoch : ℕ) (m : Move) (h : History) → Lawful epoch m h → Ruly epoch h → AreApart (m ▷ h)
apart-step epoch (Outside event) h l r = apart-heard epoch event h r
apart-step epoch (Gave d m) h l r = apart-given epoch d m h l r
apart-step epoch (Closed d) h l r = λ q e. r.apart q (apart-less (Closed d) d h (λ c. refl) q e)
apart-step epoch (Committed written) h l r = apart-written epoch written h l r
apart-step epoch m h l r = r.apart

beside-step : (epoch : ℕ) (m : Move) (h : History) → Lawful epoch m h → Ruly epoch h → AreBeside epoch (of.book (m ▷ h)).name (of.book (m ▷ h)).others
beside-step epoch (Committed written) h l r = subst (λ (name : List ℕ). AreBeside epoch name written.others) (sym l.2) (subst (λ (others : List Named). AreBeside epoch (of.book h).name others) (sym l.3) r.beside)
beside-step epoch m h l r = r.beside

-- The book

differ-step : (epoch : ℕ) (m : Move) (h : History) → Lawful epoch m h → Ruly epoch h → IsDistinct bytes_eq (ids_of (all_entries (of.book (m ▷ h))))
differ-step epoch (Committed written) h l r = (l.0).ids_differ
differ-step epoch m h l r = r.ids_differ

commands-step : (epoch : ℕ) (m : Move) (h : History) → Lawful epoch m h → Ruly epoch h → AllByRecursion IsCommand (of.book (m ▷ h)).pending
commands-step epoch (Committed written) h l r = (l.0).commands
commands-step epoch m h l r = r.commands

same-step : (epoch : ℕ) (m : Move) (h : History) → Lawful epoch m h → Ruly epoch h → IsDistinct same_command (of.book (m ▷ h)).pending
same-step epoch (Committed written) h l r = (l.0).commands_differ
same-step epoch m h l r = r.commands_differ

pub ruly-step : (epoch : ℕ) (m : Move) (h : History) → Lawful epoch m h → Tidy epoch h → Once (of.registered (m ▷ h)) → Ruly epoch h → Ruly epoch (m ▷ h)
ruly-step epoch m h l t o r =
    let own : AreOwn (m ▷ h) = own-step m h (lawful-new epoch m h l) r.own in
    let few : AreFew (of.strays (m ▷ h)) = few-step epoch m h t (r.strays, r.few_strays) in
    record {
      own = own;
      numbered = numbered-step epoch m h (lawful-numbered epoch m h l r.numbered) r.numbered;
      once_members = members-step epoch m h l r.once_members;
      beside = beside-step epoch m h l r;
      apart = apart-step epoch m h l r;
      ids_differ = differ-step epoch m h l r;
      room = room-step epoch m h l (held-distinct (m ▷ h) own o) r;
      commands = commands-step epoch m h l r;
      commands_differ = same-step epoch m h l r;
      strays = few.0;
      few_strays = few.1;
      there = there-step epoch m h l r.there;
    }
