-- Nobody has another's ID, and no new ID was given before.
use Rattle.std.proofs.Common.{◌≡◌, refl, ℕ, ◌+◌, ◌<◌, ◌≤◌, Bool, true, false, cond, not, ◌&&◌, ◌||◌, List, [], ◌∷◌, eqb, sym, ap, subst, ◌∙◌, arith, inl, inr}
use Rattle.std.specs.Prelude.{Option, Some, None, is_some, ◌⊎◌}
use Rattle.std.specs.List.{AllByRecursion}
use Rattle.std.proofs.lemmas.Bool.Decides.{nat_tests}
use Rattle.xsmp_messages.specs.declared.message.XsmpMessage.{XsmpMessage}
use Rattle.xsmp_messages.specs.declared.message.XsmpMessage.TheVariants.{RegisterClient, RegisterClientReply}
use Rattle.checkpoint_records.specs.declared.records.Entry.{Entry}
use Rattle.checkpoint_records.specs.Rules.{client_id, IsClientId}
use Rattle.round_agreement.specs.Agreement.{is_nil}
use Rattle.interact_queue.specs.Queue.{is_in, without}
use Rattle.session_model.specs.declared.events.SessionEvent.{SessionEvent}
use Rattle.session_model.specs.declared.events.SessionEvent.TheVariants.{Left, Said}
use Rattle.session_model.specs.Moves.{Move, Outside, Gave, Closed, Committed, History, Opened, ◌▷◌}
use Rattle.session_model.specs.Waits.{is_only}
use Rattle.session_model.specs.Readings as of
use Rattle.session_model.proofs.Lists.{in-without, in-append}
use Rattle.session_model.proofs.Ids.{same-epoch, same-place}

-- Who has an ID is registered, at every move

abbrev pub HaveIds : History → Type 0
HaveIds h = (c : ℕ) → is_some (of.id_of c h) ≡ is_in c (of.registered h)

some-given : (b i : Bool) (id : List ℕ) (o : Option (List ℕ)) → is_some o ≡ i → is_some (cond b (Some id) o) ≡ (i || (b || false))
some-given true true id o e = refl
some-given true false id o e = refl
some-given false true id o e = e
some-given false false id o e = e

some-gone : (b i : Bool) (o : Option (List ℕ)) → is_some o ≡ i → is_some (cond b None o) ≡ (not b && i)
some-gone true i o e = refl
some-gone false i o e = e

ids-given : (d : ℕ) (m : XsmpMessage) (h : History) → HaveIds h → HaveIds (Gave d m ▷ h)
ids-given d (RegisterClientReply id) h k c = some-given (eqb d c) (is_in c (of.registered h)) id (of.id_of c h) (k c) ∙ sym (in-append c (of.registered h) (d ∷ []))
ids-given d m h k c = k c

ids-gone : (d : ℕ) (h : History) → HaveIds h → (c : ℕ) → is_some (cond (eqb d c) None (of.id_of c h)) ≡ is_in c (without d (of.registered h))
ids-gone d h k c = some-gone (eqb d c) (is_in c (of.registered h)) (of.id_of c h) (k c) ∙ sym (in-without c d (of.registered h))

ids-heard : (event : SessionEvent) (h : History) → HaveIds h → HaveIds (Outside event ▷ h)
ids-heard (Left d) h k c = ids-gone d h k c
ids-heard event h k c = k c

ids-step : (m : Move) (h : History) → HaveIds h → HaveIds (m ▷ h)
ids-step (Outside event) h k c = ids-heard event h k c
ids-step (Gave d m) h k c = ids-given d m h k c
ids-step (Closed d) h k c = ids-gone d h k c
ids-step m h k c = k c

pub have-ids : (h : History) → HaveIds h
have-ids (Opened opening) c = refl
have-ids (m ▷ h) c = ids-step m h (have-ids h) c

-- Who asks for a new ID

-- an empty previous-ID asks for one, and every other asks for itself
pub asks-heard : (c : ℕ) (previous : List ℕ) (sequence : ℕ) (frame : List ℕ) (h : History) → of.asks_anew c (Outside (Said c (RegisterClient previous) sequence frame) ▷ h) ≡ is_nil previous
asks-heard c previous sequence frame h = asks-at (is_nil previous) where
  own-conn : (c : ℕ) → eqb c c ≡ true
  own-conn c = grind (arith, nat_tests)

  asks-at : (b : Bool) → is_only c (cond b (Some c) None) ≡ b
  asks-at true = own-conn c
  asks-at false = refl

-- An ID that nobody has

abbrev pub IsFree : List ℕ → History → Type 0
IsFree id h = (c : ℕ) → of.id_of c h ≡ Some id → ⊥

-- no two clients have the same ID
abbrev pub AreOwn : History → Type 0
AreOwn h = (c d : ℕ) (id : List ℕ) → of.id_of c h ≡ Some id → of.id_of d h ≡ Some id → c ≡ d

some-same : (x y : List ℕ) → Some x ≡ Some y → x ≡ y
some-same x y e = cc

-- c has the ID after it was given to e: it is e, or it had it before
pub own-case : (b : Bool) (given id : List ℕ) (o : Option (List ℕ)) → cond b (Some given) o ≡ Some id → ((b ≡ true) × (given ≡ id)) ⊎ (o ≡ Some id)
own-case true given id o e = inl (refl, some-same given id e)
own-case false given id o e = inr e

own-two : (e c d : ℕ) (given id : List ℕ) (h : History) → IsFree given h → AreOwn h → ((eqb e c ≡ true) × (given ≡ id)) ⊎ (of.id_of c h ≡ Some id) → ((eqb e d ≡ true) × (given ≡ id)) ⊎ (of.id_of d h ≡ Some id) → c ≡ d
own-two e c d given id h f o (inl x) (inl y) = let a : eqb e c ≡ true = x.0 in let b : eqb e d ≡ true = y.0 in grind (arith, nat_tests)
own-two e c d given id h f o (inl x) (inr y) = absurd (f d (y ∙ sym (ap (λ (i : List ℕ). Some i) x.1)))
own-two e c d given id h f o (inr x) (inl y) = absurd (f c (x ∙ sym (ap (λ (i : List ℕ). Some i) y.1)))
own-two e c d given id h f o (inr x) (inr y) = o c d id x y

pub gone-had : (b : Bool) (id : List ℕ) (o : Option (List ℕ)) → cond b None o ≡ Some id → o ≡ Some id
gone-had true id o e = absurd (grind arith)
gone-had false id o e = e

-- what giving an ID asks
abbrev pub IsNew : Move → History → Type 0
IsNew (Gave c (RegisterClientReply id)) h = IsFree id h
IsNew m h = Unit {0}

own-given : (e : ℕ) (m : XsmpMessage) (h : History) → IsNew (Gave e m) h → AreOwn h → AreOwn (Gave e m ▷ h)
own-given e (RegisterClientReply given) h f o c d id x y = own-two e c d given id h f o (own-case (eqb e c) given id (of.id_of c h) x) (own-case (eqb e d) given id (of.id_of d h) y)
own-given e m h f o c d id x y = o c d id x y

own-heard : (event : SessionEvent) (h : History) → AreOwn h → AreOwn (Outside event ▷ h)
own-heard (Left e) h o c d id x y = o c d id (gone-had (eqb e c) id (of.id_of c h) x) (gone-had (eqb e d) id (of.id_of d h) y)
own-heard event h o c d id x y = o c d id x y

pub own-step : (m : Move) (h : History) → IsNew m h → AreOwn h → AreOwn (m ▷ h)
own-step (Outside event) h f o c d id x y = own-heard event h o c d id x y
own-step (Gave e m) h f o c d id x y = own-given e m h f o c d id x y
own-step (Closed e) h f o c d id x y = o c d id (gone-had (eqb e c) id (of.id_of c h) x) (gone-had (eqb e d) id (of.id_of d h) y)
own-step m h f o c d id x y = o c d id x y

-- IDs that were given before

-- no ID of this run with a number above n
abbrev pub IsBefore : ℕ → ℕ → List ℕ → Type 0
IsBefore epoch n id = (k : ℕ) → n < k → k < 4294967296 → id ≡ client_id epoch k → ⊥

before-more : (epoch n m : ℕ) (id : List ℕ) → n ≤ m → IsBefore epoch n id → IsBefore epoch m id
before-more epoch n m id l b k lt fits e = b k (omega arith) fits e

pub before-own : (epoch n : ℕ) → n < 4294967296 → IsBefore epoch n (client_id epoch n)
before-own epoch n l k lt fits e = let s : n ≡ k = same-place epoch epoch n k (omega arith) (omega arith) e in omega arith

-- an ID of an earlier run is none of this one
pub before-earlier : (epoch : ℕ) (id : List ℕ) → epoch + 1 < 4294967296 → IsClientId epoch id → IsBefore (epoch + 1) 0 id
before-earlier epoch id l i k lt fits e =
    let s : i.epoch ≡ epoch + 1 = same-epoch i.epoch (epoch + 1) i.number k (omega (arith, i.last)) (omega arith) (sym i.is ∙ e) in
    omega (arith, s, i.last)

pub record Numbered (epoch : ℕ) (h : History) : Type 0 where
  pub held : (c : ℕ) (id : List ℕ) → of.id_of c h ≡ Some id → IsBefore epoch (of.given h) id
  pub entries : AllByRecursion (λ (entry : Entry). IsBefore epoch (of.given h) entry.id) (of.book h).entries

-- an ID that is given is the next new one or was known before, and the entries of a book that is written have known IDs
abbrev pub IsNumbered : ℕ → Move → History → Type 0
IsNumbered epoch (Gave c (RegisterClientReply id)) h = IsBefore epoch (of.given (Gave c (RegisterClientReply id) ▷ h)) id
IsNumbered epoch (Committed written) h = AllByRecursion (λ (entry : Entry). IsBefore epoch (of.given h) entry.id) written.entries
IsNumbered epoch m h = Unit {0}

given-more : (b : Bool) (n : ℕ) → n ≤ cond b (n + 1) n
given-more true n = omega arith
given-more false n = omega arith

held-case : (epoch n : ℕ) (given id : List ℕ) → IsBefore epoch n given → (b : Bool) (o : Option (List ℕ)) → (o ≡ Some id → IsBefore epoch n id) → cond b (Some given) o ≡ Some id → IsBefore epoch n id
held-case epoch n given id p true o f e = subst (λ (x : List ℕ). IsBefore epoch n x) (some-same given id e) p
held-case epoch n given id p false o f e = f e

all-before : (epoch n m : ℕ) (entries : List Entry) → n ≤ m → AllByRecursion (λ (entry : Entry). IsBefore epoch n entry.id) entries → AllByRecursion (λ (entry : Entry). IsBefore epoch m entry.id) entries
all-before epoch n m [] l a = tt
all-before epoch n m (entry ∷ entries) l a = (before-more epoch n m entry.id l a.0, all-before epoch n m entries l a.1)

numbered-given : (epoch d : ℕ) (m : XsmpMessage) (h : History) → IsNumbered epoch (Gave d m) h → Numbered epoch h → Numbered epoch (Gave d m ▷ h)
numbered-given epoch d (RegisterClientReply given) h p n = record {
  held = λ c id e. held-case epoch (of.given (Gave d (RegisterClientReply given) ▷ h)) given id p (eqb d c) (of.id_of c h)
      (λ x. before-more epoch (of.given h) (of.given (Gave d (RegisterClientReply given) ▷ h)) id (given-more (of.asks_anew d h) (of.given h)) (n.held c id x)) e;
  entries = all-before epoch (of.given h) (of.given (Gave d (RegisterClientReply given) ▷ h)) (of.book h).entries (given-more (of.asks_anew d h) (of.given h)) n.entries;
}
numbered-given epoch d m h p n = record { held = n.held; entries = n.entries }

numbered-heard : (epoch : ℕ) (event : SessionEvent) (h : History) → Numbered epoch h → Numbered epoch (Outside event ▷ h)
numbered-heard epoch (Left d) h n = record { held = λ c id e. n.held c id (gone-had (eqb d c) id (of.id_of c h) e); entries = n.entries }
numbered-heard epoch event h n = record { held = n.held; entries = n.entries }

pub numbered-step : (epoch : ℕ) (m : Move) (h : History) → IsNumbered epoch m h → Numbered epoch h → Numbered epoch (m ▷ h)
numbered-step epoch (Outside event) h p n = numbered-heard epoch event h n
numbered-step epoch (Gave d m) h p n = numbered-given epoch d m h p n
numbered-step epoch (Closed d) h p n = record { held = λ c id e. n.held c id (gone-had (eqb d c) id (of.id_of c h) e); entries = n.entries }
numbered-step epoch (Committed written) h p n = record { held = n.held; entries = p }
numbered-step epoch m h p n = record { held = n.held; entries = n.entries }
