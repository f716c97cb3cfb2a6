-- The rows say what a history says, part by part, after each move.
use Rattle.std.proofs.Common.{◌≡◌, refl, ℕ, Bool, true, false, cond, not, ◌||◌, List, [], ◌∷◌, ◌++◌, map, find, sym, ap, subst, ◌∙◌, arith}
use Rattle.std.specs.Prelude.{Option, Some, None, is_some, option_map, ◌==◌}
use Rattle.std.proofs.lemmas.Bool.Decides.{nat_tests}
use Rattle.ice_values.specs.declared.saves.Dialog.{Dialog}
use Rattle.ice_values.specs.declared.property.Property.{Property}
use Rattle.xsmp_messages.specs.declared.message.XsmpMessage.{XsmpMessage}
use Rattle.xsmp_messages.specs.declared.message.XsmpMessage.TheVariants.{DeleteProperties, Error, InteractDone, InteractRequest, RegisterClientReply, SaveYourselfDone, SetProperties, ShutdownCancelled}
use Rattle.interact_queue.specs.Queue.{is_in, without}
use Rattle.session_model.specs.declared.phase.Phase.{Phase}
use Rattle.session_model.specs.declared.phase.Phase.TheVariants.{Unregistered}
use Rattle.session_model.specs.declared.events.SessionEvent.{SessionEvent}
use Rattle.session_model.specs.declared.events.SessionEvent.TheVariants.{Joined, Left, Ready, Said}
use Rattle.session_model.specs.Phases.{is_bound, is_saving, may_interact, phase_given, phase_said}
use Rattle.session_model.specs.Tables.{first_table, set_table, table_said}
use Rattle.xsmp_properties.specs.Tables.{without_names}
use Rattle.session_model.specs.Moves.{Closed, Gave, History, Move, Outside, Unset, departing, ◌▷◌}
use Rattle.session_model.specs.Readings as of
use Rattle.session_model.proofs.Replied.{cond-same}
use Rattle.session_clients.specs.declared.client.Client.{Client}
use Rattle.session_clients.specs.Clients.{client_after, conns_in, id_in, no_client, part_in, phase_in, quiet_in, rows_after, saved_in, table_in, without_row}
use Rattle.session_clients.specs.Rows.{part_of}
use Rattle.session_state.proofs.Suits.{Suits}

-- The row of a connection

abbrev pub row_of : ℕ → List Client → Option Client
row_of c rows = find (λ k. k.conn == c) rows

found-at : {A : Type 0} (b : Bool) (none x : A) (part : Client → A) (k : Client) (o : Option Client) → x ≡ part_of none part o → cond b (part k) x ≡ part_of none part (cond b (Some k) o)
found-at true none x part k o e = refl
found-at false none x part k o e = e

pub part-found : {A : Type 0} (none : A) (part : Client → A) (c : ℕ) (rows : List Client) → part_in none part c rows ≡ part_of none part (row_of c rows)
part-found none part c [] = refl
part-found none part c (k ∷ rows) = found-at (k.conn == c) none (part_in none part c rows) part k (row_of c rows) (part-found none part c rows)

-- the row, where there is one, is of this connection
abbrev IsOf : ℕ → Option Client → Type 0
IsOf c None = Unit {0}
IsOf c (Some k) = k.conn ≡ c

of-at : (b : Bool) (c : ℕ) (k : Client) (o : Option Client) → (k.conn == c) ≡ b → IsOf c o → IsOf c (cond b (Some k) o)
of-at true c k o e i = grind (arith, nat_tests)
of-at false c k o e i = i

row-is_of : (c : ℕ) (rows : List Client) → IsOf c (row_of c rows)
row-is_of c [] = tt
row-is_of c (k ∷ rows) = of-at (k.conn == c) c k (row_of c rows) refl (row-is_of c rows)

some-at : (b : Bool) (k : Client) (o : Option Client) (i : Bool) → is_some o ≡ i → is_some (cond b (Some k) o) ≡ (b || i)
some-at true k o i e = refl
some-at false k o i e = e

-- there is a row of each live connection
row-there : (c : ℕ) (rows : List Client) → is_some (row_of c rows) ≡ is_in c (conns_in rows)
row-there c [] = refl
row-there c (k ∷ rows) = some-at (k.conn == c) k (row_of c rows) (is_in c (conns_in rows)) (row-there c rows)

-- A step of all rows

stepped-at : (b : Bool) (f : Client → Client) (k : Client) (o p : Option Client) → o ≡ option_map f p → cond b (Some (f k)) o ≡ option_map f (cond b (Some k) p)
stepped-at true f k o p e = refl
stepped-at false f k o p e = e

row-stepped : (m : Move) (first : List ℕ → List Property) (allowed : Dialog → Bool) (c : ℕ) (rows : List Client) → row_of c (map (client_after m first allowed) rows) ≡ option_map (client_after m first allowed) (row_of c rows)
row-stepped m first allowed c [] = refl
row-stepped m first allowed c (k ∷ rows) =
    stepped-at (k.conn == c) (client_after m first allowed) k (row_of c (map (client_after m first allowed) rows)) (row_of c rows) (row-stepped m first allowed c rows)

conns-stepped : (m : Move) (first : List ℕ → List Property) (allowed : Dialog → Bool) (rows : List Client) → conns_in (map (client_after m first allowed) rows) ≡ conns_in rows
conns-stepped m first allowed [] = refl
conns-stepped m first allowed (k ∷ rows) = ap (λ (cs : List ℕ). k.conn ∷ cs) (conns-stepped m first allowed rows)

-- A row of one that joined says nothing

joined-at : {A : Type 0} (b : Bool) (x y z : A) → y ≡ z → cond b x y ≡ cond b x z
joined-at true x y z e = refl
joined-at false x y z e = e

part-joined : {A : Type 0} (none : A) (part : Client → A) (c d : ℕ) (rows : List Client) → part (no_client d) ≡ none → part_in none part c (rows ++ no_client d ∷ []) ≡ part_in none part c rows
part-joined none part c d [] e = ap (λ x. cond (d == c) x none) e ∙ cond-same (d == c) none
part-joined none part c d (k ∷ rows) e = joined-at (k.conn == c) (part k) (part_in none part c (rows ++ no_client d ∷ [])) (part_in none part c rows) (part-joined none part c d rows e)

conns-joined : (d : ℕ) (rows : List Client) → conns_in (rows ++ no_client d ∷ []) ≡ conns_in rows ++ d ∷ []
conns-joined d [] = refl
conns-joined d (k ∷ rows) = ap (λ (cs : List ℕ). k.conn ∷ cs) (conns-joined d rows)

-- The rows of those that left are gone

-- g: it is of the one that left; b: it is of c; l: c is the one that left
without-at : {A : Type 0} (g b l : Bool) (none x y : A) (part : Client → A) (c : ℕ) (k : Client) (rows : List Client) → (k.conn == c) ≡ b → (g ≡ true → b ≡ l) → (b ≡ true → l ≡ g) → part_in none part c rows ≡ cond l none y
    → part_in none part c (cond (not g) (k ∷ rows) rows) ≡ cond l none (cond b (part k) y)
without-at true true true none x y part c k rows e s t i = i
without-at true true false none x y part c k rows e s t i = absurd (grind (arith, s refl))
without-at true false true none x y part c k rows e s t i = absurd (grind (arith, s refl))
without-at true false false none x y part c k rows e s t i = i
without-at false true true none x y part c k rows e s t i = absurd (grind (arith, t refl))
without-at false true false none x y part c k rows e s t i = ap (λ (b : Bool). cond b (part k) (part_in none part c rows)) e
without-at false false l none x y part c k rows e s t i = ap (λ (b : Bool). cond b (part k) (part_in none part c rows)) e ∙ i

part-without : {A : Type 0} (none : A) (part : Client → A) (c d : ℕ) (rows : List Client) → part_in none part c (without_row d rows) ≡ cond (d == c) none (part_in none part c rows)
part-without none part c d [] = sym (cond-same (d == c) none)
part-without none part c d (k ∷ rows) =
    without-at (k.conn == d) (k.conn == c) (d == c) none none (part_in none part c rows) part c k (without_row d rows) refl (λ e. grind (arith, nat_tests)) (λ e. grind (arith, nat_tests)) (part-without none part c d rows)

kept-at : (b : Bool) (k : Client) (rows : List Client) (cs : List ℕ) → conns_in rows ≡ cs → conns_in (cond b (k ∷ rows) rows) ≡ cond b (k.conn ∷ cs) cs
kept-at true k rows cs e = ap (λ (xs : List ℕ). k.conn ∷ xs) e
kept-at false k rows cs e = e

conns-without : (d : ℕ) (rows : List Client) → conns_in (without_row d rows) ≡ without d (conns_in rows)
conns-without d [] = refl
conns-without d (k ∷ rows) = kept-at (not (k.conn == d)) k (without_row d rows) (without d (conns_in rows)) (conns-without d rows)

-- A step reads nothing of others

own-table-said : (c : ℕ) (m : XsmpMessage) (p q : ℕ → Option Phase) (table : List Property) → p c ≡ q c → table_said c m p table ≡ table_said c m q table
own-table-said c (SetProperties list) p q table e = ap (λ (x : Option Phase). cond (is_bound x) (set_table list table) table) e
own-table-said c (DeleteProperties names) p q table e = ap (λ (x : Option Phase). cond (is_bound x) (without_names names table) table) e
own-table-said c m p q table e = refl

own-table-heard : (c : ℕ) (event : SessionEvent) (p q : ℕ → Option Phase) (table : List Property) → p c ≡ q c → of.table_heard c event p table ≡ of.table_heard c event q table
own-table-heard c (Said d m sequence frame) p q table e = ap (λ (x : List Property). cond (d == c) x table) (own-table-said c m p q table e)
own-table-heard c event p q table e = refl

own-table : (c : ℕ) (m : Move) (first : List ℕ → List Property) (p q : ℕ → Option Phase) (table : List Property) → p c ≡ q c → of.table_after c m first p table ≡ of.table_after c m first q table
own-table c (Outside event) first p q table e = own-table-heard c event p q table e
own-table c (Gave d (RegisterClientReply id)) first p q table e = refl
own-table c m first p q table e = refl

own-saved-said : (c : ℕ) (m : XsmpMessage) (p q : ℕ → Option Phase) (t u : ℕ → List Property) (saved : Option (List Property)) → p c ≡ q c → t c ≡ u c → of.saved_said c m p t saved ≡ of.saved_said c m q u saved
own-saved-said c (SaveYourselfDone true) p q t u saved e f = λ i. cond (is_saving (e i)) (Some (f i)) saved
own-saved-said c (SaveYourselfDone false) p q t u saved e f = refl
own-saved-said c m p q t u saved e f = refl

own-saved : (c : ℕ) (m : Move) (p q : ℕ → Option Phase) (t u : ℕ → List Property) (saved : Option (List Property)) → p c ≡ q c → t c ≡ u c → of.saved_after c m p t saved ≡ of.saved_after c m q u saved
own-saved c (Outside (Said d m sequence frame)) p q t u saved e f = ap (λ (x : Option (List Property)). cond (d == c) x saved) (own-saved-said c m p q t u saved e f)
own-saved c (Gave d m) p q t u saved e f = refl
own-saved c m p q t u saved e f = refl

-- A connection that isn't live is left as it is

absent-said : (allowed : Dialog → Bool) (m : XsmpMessage) → phase_said allowed m None ≡ None
absent-said allowed (InteractRequest dialog) = cond-same (allowed dialog) None
absent-said allowed (InteractDone false) = refl
absent-said allowed (InteractDone true) = refl
absent-said allowed m = refl

absent-given : (m : XsmpMessage) → phase_given m None ≡ None
absent-given (RegisterClientReply id) = refl
absent-given m = refl

-- one that isn't live is another
other-live : (c d : ℕ) (h : History) → is_in d (of.live h) ≡ true → is_in c (of.live h) ≡ false → (d == c) ≡ false
other-live c d h i j = differ-at (d == c) refl where
  differ-at : (b : Bool) → (d == c) ≡ b → (d == c) ≡ false
  differ-at true e = let k : d ≡ c = grind (arith, nat_tests) in let l : is_in c (of.live h) ≡ true = subst (λ (x : ℕ). is_in x (of.live h) ≡ true) k i in absurd (grind arith)
  differ-at false e = e

other-phase : (c d : ℕ) (h : History) → of.phase_of d h ≡ Some Unregistered → of.phase_of c h ≡ None → (d == c) ≡ false
other-phase c d h i j = differ-at (d == c) refl where
  differ-at : (b : Bool) → (d == c) ≡ b → (d == c) ≡ false
  differ-at true e = let k : d ≡ c = grind (arith, nat_tests) in let l : of.phase_of c h ≡ Some Unregistered = subst (λ (x : ℕ). of.phase_of x h ≡ Some Unregistered) k i in absurd (grind arith)
  differ-at false e = e

absent-phase : (c : ℕ) (m : Move) (h : History) (allowed : Dialog → Bool) → Suits m h → is_in c (of.live h) ≡ false → of.phase_after c m allowed None ≡ None
absent-phase c (Outside (Ready d)) h allowed s n = ap (λ (b : Bool). cond b (Some Unregistered) None) (other-live c d h s n)
absent-phase c (Outside (Said d m sequence frame)) h allowed s n = ap (λ (x : Option Phase). cond (d == c) x None) (absent-said allowed m) ∙ cond-same (d == c) None
absent-phase c (Outside (Left d)) h allowed s n = cond-same (d == c) None
absent-phase c (Outside event) h allowed s n = refl
absent-phase c (Gave d m) h allowed s n = ap (λ (x : Option Phase). cond (d == c) x None) (absent-given m) ∙ cond-same (d == c) None
absent-phase c (Closed d) h allowed s n = cond-same (d == c) None
absent-phase c (Unset d) h allowed s n = cond-same (d == c) None
absent-phase c m h allowed s n = refl

absent-gone : {A : Type 0} (c : ℕ) (gone : Option ℕ) (x : A) → of.unless_left c gone x x ≡ x
absent-gone c None x = refl
absent-gone c (Some d) x = cond-same (d == c) x

absent-id : (c : ℕ) (m : Move) (h : History) → Suits m h → of.phase_of c h ≡ None → of.id_after c m None ≡ None
absent-id c (Gave d (RegisterClientReply id)) h s n = ap (λ (b : Bool). cond b (Some id) None) (other-phase c d h s n)
absent-id c (Gave d m) h s n = refl
absent-id c m h s n = absent-gone c (departing m) None

absent-table-said : (c : ℕ) (m : XsmpMessage) (phase : ℕ → Option Phase) → phase c ≡ None → table_said c m phase [] ≡ []
absent-table-said c (SetProperties list) phase n = ap (λ (x : Option Phase). cond (is_bound x) (set_table list []) []) n
absent-table-said c (DeleteProperties names) phase n = ap (λ (x : Option Phase). cond (is_bound x) (without_names names []) []) n
absent-table-said c m phase n = refl

absent-table : (c : ℕ) (m : Move) (h : History) (first : List ℕ → List Property) → Suits m h → of.phase_of c h ≡ None → of.table_after c m first (λ d. of.phase_of d h) [] ≡ []
absent-table c (Gave d (RegisterClientReply id)) h first s n = ap (λ (b : Bool). cond b (first id) []) (other-phase c d h s n)
absent-table c (Outside (Said d m sequence frame)) h first s n = ap (λ (x : List Property). cond (d == c) x []) (absent-table-said c m (λ x. of.phase_of x h) n) ∙ cond-same (d == c) []
absent-table c (Outside (Left d)) h first s n = cond-same (d == c) []
absent-table c (Closed d) h first s n = cond-same (d == c) []
absent-table c m h first s n = refl

absent-saved-said : (c : ℕ) (m : XsmpMessage) (phase : ℕ → Option Phase) (table : ℕ → List Property) → phase c ≡ None → of.saved_said c m phase table None ≡ None
absent-saved-said c (SaveYourselfDone true) phase table n = ap (λ (x : Option Phase). cond (is_saving x) (Some (table c)) None) n
absent-saved-said c (SaveYourselfDone false) phase table n = refl
absent-saved-said c m phase table n = refl

absent-saved-given : (m : XsmpMessage) → of.saved_given m None ≡ None
absent-saved-given ShutdownCancelled = refl
absent-saved-given m = refl

absent-saved : (c : ℕ) (m : Move) (h : History) → of.phase_of c h ≡ None → of.saved_after c m (λ d. of.phase_of d h) (λ d. of.table_of d h) None ≡ None
absent-saved c (Outside (Said d m sequence frame)) h n = ap (λ (x : Option (List Property)). cond (d == c) x None) (absent-saved-said c m (λ x. of.phase_of x h) (λ x. of.table_of x h) n) ∙ cond-same (d == c) None
absent-saved c (Gave d m) h n = ap (λ (x : Option (List Property)). cond (d == c) x None) (absent-saved-given m) ∙ cond-same (d == c) None
absent-saved c m h n = absent-gone c (departing m) None

absent-quiet-said : (m : XsmpMessage) → of.quiet_said m 0 ≡ 0
absent-quiet-said (Error error) = refl
absent-quiet-said m = refl

absent-quiet : (c : ℕ) (m : Move) → of.quiet_after c m None 0 ≡ 0
absent-quiet c (Outside (Said d m sequence frame)) = ap (λ (x : ℕ). cond (d == c) x 0) (absent-quiet-said m) ∙ cond-same (d == c) 0
absent-quiet c (Outside (Left d)) = cond-same (d == c) 0
absent-quiet c (Outside event) = refl
absent-quiet c (Gave d m) = cond-same (d == c) 0
absent-quiet c (Unset d) = cond-same (d == c) 0
absent-quiet c (Closed d) = cond-same (d == c) 0
absent-quiet c m = refl

-- All parts of the rows

pub record Told (rows : List Client) (h : History) : Type 0 where
  pub phases_are : (c : ℕ) → phase_in c rows ≡ of.phase_of c h
  pub ids_are : (c : ℕ) → id_in c rows ≡ of.id_of c h
  pub tables_are : (c : ℕ) → table_in c rows ≡ of.table_of c h
  pub snapshots_are : (c : ℕ) → saved_in c rows ≡ of.saved_of c h
  pub quiets_are : (c : ℕ) → quiet_in c rows ≡ of.quiet c h
  pub live_is : conns_in rows ≡ of.live h

told-joined : (d : ℕ) (rows : List Client) (h : History) → Told rows h → Told (rows ++ no_client d ∷ []) (Outside (Joined d) ▷ h)
told-joined d rows h t = record {
  phases_are = λ c. part-joined None (λ k. k.phase) c d rows refl ∙ t.phases_are c;
  ids_are = λ c. part-joined None (λ k. k.id) c d rows refl ∙ t.ids_are c;
  tables_are = λ c. part-joined [] (λ k. k.table) c d rows refl ∙ t.tables_are c;
  snapshots_are = λ c. part-joined None (λ k. k.saved) c d rows refl ∙ t.snapshots_are c;
  quiets_are = λ c. part-joined 0 (λ k. k.quiet) c d rows refl ∙ t.quiets_are c;
  live_is = conns-joined d rows ∙ ap (λ (cs : List ℕ). cs ++ d ∷ []) t.live_is;
}

told-left : (d : ℕ) (rows : List Client) (h : History) → Told rows h → Told (without_row d rows) (Outside (Left d) ▷ h)
told-left d rows h t = record {
  phases_are = λ c. part-without None (λ k. k.phase) c d rows ∙ ap (λ (x : Option Phase). cond (d == c) None x) (t.phases_are c);
  ids_are = λ c. part-without None (λ k. k.id) c d rows ∙ ap (λ (x : Option (List ℕ)). cond (d == c) None x) (t.ids_are c);
  tables_are = λ c. part-without [] (λ k. k.table) c d rows ∙ ap (λ (x : List Property). cond (d == c) [] x) (t.tables_are c);
  snapshots_are = λ c. part-without None (λ k. k.saved) c d rows ∙ ap (λ (x : Option (List Property)). cond (d == c) None x) (t.snapshots_are c);
  quiets_are = λ c. part-without 0 (λ k. k.quiet) c d rows ∙ ap (λ (x : ℕ). cond (d == c) 0 x) (t.quiets_are c);
  live_is = conns-without d rows ∙ ap (λ (cs : List ℕ). without d cs) t.live_is;
}

-- the same moves as one that left
told-closed : (d : ℕ) (rows : List Client) (h : History) → Told rows h → Told (without_row d rows) (Closed d ▷ h)
told-closed d rows h t = let l : Told (without_row d rows) (Outside (Left d) ▷ h) = told-left d rows h t in record {
  phases_are = λ c. l.phases_are c;
  ids_are = λ c. l.ids_are c;
  tables_are = λ c. l.tables_are c;
  snapshots_are = λ c. l.snapshots_are c;
  quiets_are = λ c. l.quiets_are c;
  live_is = l.live_is;
}

-- no row, so no connection
gone : (o : Option Client) → is_some o ≡ false → o ≡ None
gone None e = refl
gone (Some k) e = absurd (grind arith)

phase-told : (m : Move) (first : List ℕ → List Property) (allowed : Dialog → Bool) (c : ℕ) (o : Option Client) (p : Option Phase) → IsOf c o → part_of None (λ k. k.phase) o ≡ p → (is_some o ≡ false → of.phase_after c m allowed None ≡ None)
    → part_of None (λ k. k.phase) (option_map (client_after m first allowed) o) ≡ of.phase_after c m allowed p
phase-told m first allowed c None p i e n = sym (n refl) ∙ ap (λ (x : Option Phase). of.phase_after c m allowed x) e
phase-told m first allowed c (Some k) p i e n = λ j. of.phase_after (i j) m allowed (e j)

id-told : (m : Move) (first : List ℕ → List Property) (allowed : Dialog → Bool) (c : ℕ) (o : Option Client) (id : Option (List ℕ)) → IsOf c o → part_of None (λ k. k.id) o ≡ id → (is_some o ≡ false → of.id_after c m None ≡ None)
    → part_of None (λ k. k.id) (option_map (client_after m first allowed) o) ≡ of.id_after c m id
id-told m first allowed c None id i e n = sym (n refl) ∙ ap (λ (x : Option (List ℕ)). of.id_after c m x) e
id-told m first allowed c (Some k) id i e n = λ j. of.id_after (i j) m (e j)

table-told : (m : Move) (first : List ℕ → List Property) (allowed : Dialog → Bool) (c : ℕ) (o : Option Client) (h : History) → IsOf c o → part_of None (λ k. k.phase) o ≡ of.phase_of c h → part_of [] (λ k. k.table) o ≡ of.table_of c h
    → (is_some o ≡ false → of.table_after c m first (λ d. of.phase_of d h) [] ≡ []) → part_of [] (λ k. k.table) (option_map (client_after m first allowed) o) ≡ of.table_after c m first (λ d. of.phase_of d h) (of.table_of c h)
table-told m first allowed c None h i e f n = sym (n refl) ∙ ap (λ (x : List Property). of.table_after c m first (λ d. of.phase_of d h) x) f
table-told m first allowed c (Some k) h i e f n =
    let step : of.table_after k.conn m first (λ d. k.phase) k.table ≡ of.table_after c m first (λ d. of.phase_of c h) (of.table_of c h) = λ j. of.table_after (i j) m first (λ d. e j) (f j) in
    step ∙ own-table c m first (λ d. of.phase_of c h) (λ d. of.phase_of d h) (of.table_of c h) refl

saved-told : (m : Move) (first : List ℕ → List Property) (allowed : Dialog → Bool) (c : ℕ) (o : Option Client) (h : History) → IsOf c o → part_of None (λ k. k.phase) o ≡ of.phase_of c h → part_of [] (λ k. k.table) o ≡ of.table_of c h
    → part_of None (λ k. k.saved) o ≡ of.saved_of c h → (is_some o ≡ false → of.saved_after c m (λ d. of.phase_of d h) (λ d. of.table_of d h) None ≡ None)
    → part_of None (λ k. k.saved) (option_map (client_after m first allowed) o) ≡ of.saved_after c m (λ d. of.phase_of d h) (λ d. of.table_of d h) (of.saved_of c h)
saved-told m first allowed c None h i e f g n = sym (n refl) ∙ ap (λ (x : Option (List Property)). of.saved_after c m (λ d. of.phase_of d h) (λ d. of.table_of d h) x) g
saved-told m first allowed c (Some k) h i e f g n =
    let step : of.saved_after k.conn m (λ d. k.phase) (λ d. k.table) k.saved ≡ of.saved_after c m (λ d. of.phase_of c h) (λ d. of.table_of c h) (of.saved_of c h) = λ j. of.saved_after (i j) m (λ d. e j) (λ d. f j) (g j) in
    step ∙ own-saved c m (λ d. of.phase_of c h) (λ d. of.phase_of d h) (λ d. of.table_of c h) (λ d. of.table_of d h) (of.saved_of c h) refl refl

quiet-told : (m : Move) (first : List ℕ → List Property) (allowed : Dialog → Bool) (c : ℕ) (o : Option Client) (p : Option Phase) (n : ℕ) → IsOf c o → part_of None (λ k. k.phase) o ≡ p → part_of 0 (λ k. k.quiet) o ≡ n
    → part_of 0 (λ k. k.quiet) (option_map (client_after m first allowed) o) ≡ of.quiet_after c m p n
quiet-told m first allowed c None p n i e f = sym (absent-quiet c m) ∙ λ j. of.quiet_after c m (e j) (f j)
quiet-told m first allowed c (Some k) p n i e f = λ j. of.quiet_after (i j) m (e j) (f j)

-- where there is no row nobody is live, and there is no phase
not-live : (c : ℕ) (rows : List Client) (h : History) → Told rows h → is_some (row_of c rows) ≡ false → is_in c (of.live h) ≡ false
not-live c rows h t n = sym (ap (λ (cs : List ℕ). is_in c cs) t.live_is) ∙ sym (row-there c rows) ∙ n

no-phase : (c : ℕ) (rows : List Client) (h : History) → Told rows h → is_some (row_of c rows) ≡ false → of.phase_of c h ≡ None
no-phase c rows h t n = sym (t.phases_are c) ∙ part-found None (λ k. k.phase) c rows ∙ ap (λ (o : Option Client). part_of None (λ k. k.phase) o) (gone (row_of c rows) n)

abbrev firsts : History → List ℕ → List Property
firsts h id = first_table (of.book h) id

abbrev allowing : History → Dialog → Bool
allowing h dialog = may_interact (of.wanted h) dialog

told-stepped : (m : Move) (rows : List Client) (h : History) → Suits m h → Told rows h → (c : ℕ)
    → (phase_in c (map (client_after m (λ id. firsts h id) (λ dialog. allowing h dialog)) rows) ≡ of.phase_after c m (λ dialog. allowing h dialog) (of.phase_of c h))
    × (id_in c (map (client_after m (λ id. firsts h id) (λ dialog. allowing h dialog)) rows) ≡ of.id_after c m (of.id_of c h))
    × (table_in c (map (client_after m (λ id. firsts h id) (λ dialog. allowing h dialog)) rows) ≡ of.table_after c m (λ id. firsts h id) (λ d. of.phase_of d h) (of.table_of c h))
    × (saved_in c (map (client_after m (λ id. firsts h id) (λ dialog. allowing h dialog)) rows) ≡ of.saved_after c m (λ d. of.phase_of d h) (λ d. of.table_of d h) (of.saved_of c h))
    × (quiet_in c (map (client_after m (λ id. firsts h id) (λ dialog. allowing h dialog)) rows) ≡ of.quiet_after c m (of.phase_of c h) (of.quiet c h))
told-stepped m rows h s t c =
    let first : List ℕ → List Property = λ id. firsts h id in
    let allowed : Dialog → Bool = λ dialog. allowing h dialog in
    let now : List Client = map (client_after m first allowed) rows in
    let r : row_of c now ≡ option_map (client_after m first allowed) (row_of c rows) = row-stepped m first allowed c rows in
    let i : IsOf c (row_of c rows) = row-is_of c rows in
    let p : part_of None (λ k. k.phase) (row_of c rows) ≡ of.phase_of c h = sym (part-found None (λ k. k.phase) c rows) ∙ t.phases_are c in
    let u : part_of [] (λ k. k.table) (row_of c rows) ≡ of.table_of c h = sym (part-found [] (λ k. k.table) c rows) ∙ t.tables_are c in (
      part-found None (λ k. k.phase) c now ∙ ap (λ (o : Option Client). part_of None (λ k. k.phase) o) r
          ∙ phase-told m first allowed c (row_of c rows) (of.phase_of c h) i p (λ n. absent-phase c m h allowed s (not-live c rows h t n)),
      part-found None (λ k. k.id) c now ∙ ap (λ (o : Option Client). part_of None (λ k. k.id) o) r
          ∙ id-told m first allowed c (row_of c rows) (of.id_of c h) i (sym (part-found None (λ k. k.id) c rows) ∙ t.ids_are c) (λ n. absent-id c m h s (no-phase c rows h t n)),
      part-found [] (λ k. k.table) c now ∙ ap (λ (o : Option Client). part_of [] (λ k. k.table) o) r
          ∙ table-told m first allowed c (row_of c rows) h i p u (λ n. absent-table c m h first s (no-phase c rows h t n)),
      part-found None (λ k. k.saved) c now ∙ ap (λ (o : Option Client). part_of None (λ k. k.saved) o) r
          ∙ saved-told m first allowed c (row_of c rows) h i p u (sym (part-found None (λ k. k.saved) c rows) ∙ t.snapshots_are c) (λ n. absent-saved c m h (no-phase c rows h t n)),
      part-found 0 (λ k. k.quiet) c now ∙ ap (λ (o : Option Client). part_of 0 (λ k. k.quiet) o) r
          ∙ quiet-told m first allowed c (row_of c rows) (of.phase_of c h) (of.quiet c h) i p (sym (part-found 0 (λ k. k.quiet) c rows) ∙ t.quiets_are c),
    )

-- the live connections stay as they are
abbrev KeepsLive : Move → History → Type 0
KeepsLive m h = of.live_after m (of.live h) ≡ of.live h

told-kept : (m : Move) (rows : List Client) (h : History) → Suits m h → KeepsLive m h → Told rows h → Told (map (client_after m (λ id. firsts h id) (λ dialog. allowing h dialog)) rows) (m ▷ h)
told-kept m rows h s l t = record {
  phases_are = λ c. (told-stepped m rows h s t c).0;
  ids_are = λ c. (told-stepped m rows h s t c).1;
  tables_are = λ c. (told-stepped m rows h s t c).2;
  snapshots_are = λ c. (told-stepped m rows h s t c).3;
  quiets_are = λ c. (told-stepped m rows h s t c).4;
  live_is = conns-stepped m (λ id. firsts h id) (λ dialog. allowing h dialog) rows ∙ t.live_is ∙ sym l;
}

pub told-step : (m : Move) (rows : List Client) (h : History) → Suits m h → Told rows h → Told (rows_after m (λ id. first_table (of.book h) id) (λ dialog. may_interact (of.wanted h) dialog) rows) (m ▷ h)
told-step (Outside (Joined d)) rows h s t = told-joined d rows h t
told-step (Outside (Left d)) rows h s t = told-left d rows h t
told-step (Closed d) rows h s t = told-closed d rows h t
told-step m rows h s t = told-kept m rows h s refl t
