-- The changes that make one book of another.
use Rattle.std.proofs.Common.{◌≡◌, ℕ, ◌+◌, Bool, true, false, cond, List, [], ◌∷◌, ◌++◌, length, map, Option, Some, None, refl, sym, ap, ap₂, ◌∙◌, append_assoc, arith, length-append}
use Rattle.std.specs.Prelude.{option_and_then}
use Rattle.std.specs.List.{AllByRecursion}
use Rattle.std.specs.Str.{bytes_eq}
use Rattle.std.proofs.lemmas.List.{append-nil}
use Rattle.owned_lists.specs.declared.commands.Command.{Command}
use Rattle.ice_values.proofs.OptionLaws.{some_is, none_not_some}
use Rattle.checkpoint_records.specs.Rules.{ids_of}
use Rattle.checkpoint_records.specs.declared.records.Book.{Book}
use Rattle.checkpoint_records.specs.declared.records.Entry.{Entry}
use Rattle.checkpoint_records.proofs.DistinctLaws.{all_more}
use Rattle.checkpoint_changes.specs.Changes.{applied, apply, with_entry, without, without_at}
use Rattle.checkpoint_changes.specs.Differences.{pending_changes}
use Rattle.checkpoint_changes.specs.Plain.{equal_command}
use Rattle.checkpoint_changes.specs.declared.changes.Change.{Change}
use Rattle.checkpoint_changes.specs.declared.changes.Change.TheVariants.{Pend, Unpend}
use Rattle.checkpoint_changes.proofs.EqualLaws.{command_decides}

-- ---- one delta behind another

pub apply_more : (d e : List Change) (book mid : Book) → apply book d ≡ Some mid → apply book (d ++ e) ≡ apply mid e
apply_more [] e book mid is = ap (λ (b : Book). apply b e) (some_is book mid is)
apply_more (change ∷ d) e book mid is = by (applied book change) (λ b. apply_more d e b mid) is
  where
    by : (o : Option Book) → ((b : Book) → apply b d ≡ Some mid → apply b (d ++ e) ≡ apply mid e) → option_and_then (λ b. apply b d) o ≡ Some mid → option_and_then (λ b. apply b (d ++ e)) o ≡ apply mid e
    by None more is = absurd (none_not_some mid is)
    by (Some b) more is = more b is

-- ---- entries

-- no entry has this ID
abbrev pub Lacks : List ℕ → List Entry → Type 0
Lacks id entries = AllByRecursion (λ (e : Entry). bytes_eq e.id id ≡ false) entries

-- none of these entries has an ID of the kept ones
abbrev pub Apart : List Entry → List Entry → Type 0
Apart kept entries = AllByRecursion (λ (x : Entry). Lacks x.id kept) entries

pub without_behind : (id : List ℕ) (kept : List Entry) (e : Entry) (old : List Entry) → Lacks id kept → bytes_eq e.id id ≡ true → without id (kept ++ e ∷ old) ≡ Some (kept ++ old)
without_behind id [] e old lacks same = rw same refl
without_behind id (k ∷ kept) e old lacks same = (let rest = without_behind id kept e old lacks.1 same in rw (lacks.0, rest) refl)

pub put_behind : (f : Entry) (kept : List Entry) (e : Entry) (old : List Entry) → Lacks f.id kept → bytes_eq e.id f.id ≡ true → with_entry f (kept ++ e ∷ old) ≡ kept ++ f ∷ old
put_behind f [] e old lacks same = rw same refl
put_behind f (k ∷ kept) e old lacks same = (let rest = put_behind f kept e old lacks.1 same in rw (lacks.0, rest) refl)

pub put_last : (f : Entry) (kept : List Entry) → Lacks f.id kept → with_entry f kept ≡ kept ++ f ∷ []
put_last f [] lacks = refl
put_last f (k ∷ kept) lacks = (let rest = put_last f kept lacks.1 in rw (lacks.0, rest) refl)

pub apart_more : (kept : List Entry) (f : Entry) (xs : List Entry) → Apart kept xs → AllByRecursion (λ y. bytes_eq f.id y ≡ false) (ids_of xs) → Apart (kept ++ f ∷ []) xs
apart_more kept f [] a d = tt
apart_more kept f (x ∷ xs) a d = (all_more (λ (e : Entry). bytes_eq e.id x.id ≡ false) kept f a.0 d.0, apart_more kept f xs a.1 d.1)

-- ---- pending commands

without_at_behind : (kept : List Command) (c : Command) (old : List Command) → without_at (length kept) (kept ++ c ∷ old) ≡ Some (kept ++ old)
without_at_behind [] c old = refl
without_at_behind (k ∷ kept) c old = (let rest = without_at_behind kept c old in rw rest refl)

with_pending : Book → List Command → Book
with_pending book pending = record book { pending = pending }

pends_all : (new kept : List Command) (book : Book) → book.pending ≡ kept → apply book (map (λ command. Pend command) new) ≡ Some (record book { pending = kept ++ new })
unfolding with_pending
pends_all [] kept book is = ap (λ (l : List Command). Some (with_pending book l)) (is ∙ sym (append-nil kept))
pends_all (d ∷ new) kept book is =
    pends_all new (kept ++ d ∷ []) (with_pending book (book.pending ++ d ∷ [])) (ap (λ (l : List Command). l ++ d ∷ []) is) ∙ ap (λ (l : List Command). Some (with_pending book l)) (append_assoc kept (d ∷ []) new)

pub pending_lead : (n : ℕ) (old new kept : List Command) (book : Book) → n ≡ length kept → book.pending ≡ kept ++ old → apply book (pending_changes n old new) ≡ Some (record book { pending = kept ++ new })
unfolding with_pending
pending_lead n [] new kept book len is = pends_all new kept book (is ∙ append-nil kept)
pending_lead n (c ∷ old) [] kept book len is =
    let gone : without_at n book.pending ≡ Some (kept ++ old) = ap₂ (λ (k : ℕ) (l : List Command). without_at k l) len is ∙ without_at_behind kept c old in
    rw gone (pending_lead n old [] kept (with_pending book (kept ++ old)) len refl)
pending_lead n (c ∷ old) (d ∷ new) kept book len is =
    by (equal_command c d) refl (pending_lead (n + 1) old new (kept ++ d ∷ []) book) (pending_lead n old (d ∷ new) kept)
  where
    by : (b : Bool) → equal_command c d ≡ b
        → (n + 1 ≡ length (kept ++ d ∷ []) → book.pending ≡ (kept ++ d ∷ []) ++ old → apply book (pending_changes (n + 1) old new) ≡ Some (with_pending book ((kept ++ d ∷ []) ++ new)))
        → ((next : Book) → n ≡ length kept → next.pending ≡ kept ++ old → apply next (pending_changes n old (d ∷ new)) ≡ Some (with_pending next (kept ++ d ∷ new)))
        → apply book (cond b (pending_changes (n + 1) old new) (Unpend n ∷ pending_changes n old (d ∷ new))) ≡ Some (with_pending book (kept ++ d ∷ new))
    by true same stays goes =
        stays (omega (arith, len, length-append kept (d ∷ []))) (is ∙ ap (λ (x : Command). kept ++ x ∷ old) ((command_decides c d).0 same) ∙ sym (append_assoc kept (d ∷ []) old))
        ∙ ap (λ (l : List Command). Some (with_pending book l)) (append_assoc kept (d ∷ []) new)
    by false other stays goes =
        let gone : without_at n book.pending ≡ Some (kept ++ old) = ap₂ (λ (k : ℕ) (l : List Command). without_at k l) len is ∙ without_at_behind kept c old in
        rw gone (goes (with_pending book (kept ++ old)) len refl)
