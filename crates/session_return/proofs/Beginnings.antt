-- A session that begins anew.
use Rattle.std.proofs.Common.{◌≡◌, ◌≢◌, ℕ, ◌≤◌, Bool, true, false, cond, List, [], ◌∷◌, ◌++◌, length, refl, sym, ◌∙◌, subst, ap, arith, length-append}
use Rattle.std.specs.List.{AllByRecursion, IsDistinct, list_any}
use Rattle.std.specs.Str.{bytes_eq}
use Rattle.std.proofs.lemmas.List.{map-append}
use Rattle.owned_lists.specs.declared.commands.Command.{Command}
use Rattle.checkpoint_records.specs.Books.{choose, default_name, discards, entries_in, entries_of, others_than, same_command, sessions, stored}
use Rattle.checkpoint_records.specs.Rules.{IsEntry, KeepsRules, ids_of}
use Rattle.checkpoint_records.specs.declared.records.Book.{Book}
use Rattle.checkpoint_records.specs.declared.records.Entry.{Entry}
use Rattle.checkpoint_records.specs.declared.records.Named.{Named}
use Rattle.checkpoint_records.proofs.ChoiceLaws.{Alike, KeepInOrder, alike_pending, chosen_keeps, in_front, ordered, others_apart, others_rising, others_stored}
use Rattle.checkpoint_records.proofs.DistinctLaws.{all_behind, all_turned, any_false, distinct_split}
use Rattle.checkpoint_records.proofs.NameLaws.{default_fits, put_back}
use Rattle.checkpoint_changes.proofs.MapLaws.{none_of, other_than}
use Rattle.session_return.specs.Returns.{begun_anew}
use Rattle.session_return.proofs.Kept.{differ}
use Rattle.session_return.proofs.Placed.{any_of_both}

fewer_others : (name : List ℕ) (all : List Named) → length (others_than name all) ≤ length all
fewer_others name [] = omega arith
fewer_others name (x ∷ all) = by (bytes_eq name x.name) (fewer_others name all)
  where
    by : (b : Bool) → length (others_than name all) ≤ length all → length (cond b all (x ∷ others_than name all)) ≤ length (x ∷ all)
    by true rest = omega arith
    by false rest = omega (arith, rest)

-- the other sessions keep the rules without this one
others_keep : (name : List ℕ) (all : List Named) (pending : List Command) (epoch : ℕ) → KeepInOrder all pending epoch → KeepInOrder (others_than name all) pending epoch
others_keep name all pending epoch k =
    let own : List Entry = entries_of name all in
    let others : List Entry = entries_in (others_than name all) in
    let back : stored name own (others_than name all) ≡ all = put_back name all k.stored k.rising in
    let alike : Alike (entries_in all) (own ++ others) = subst (λ (l : List Named). Alike (entries_in l) (own ++ others)) back (in_front name own (others_than name all)) in
    let entries = alike.entries epoch k.entries in
    let are = alike_pending (entries_in all) (own ++ others) pending alike k.pending_are in
    record {
      stored = others_stored name all k.stored;
      rising = others_rising name all k.rising;
      few = omega (arith, fewer_others name all, k.few);
      few_entries = omega (arith, alike.long, length-append own others, k.few_entries);
      few_pending = k.few_pending;
      entries = record {
        each = all_behind (IsEntry epoch) own others entries.each;
        ids_differ = (distinct_split bytes_eq (ids_of own) (ids_of others) (subst (IsDistinct bytes_eq) (map-append (λ (e : Entry). e.id) own others) entries.ids_differ)).1;
      };
      pending_are = record {
        each = are.each;
        commands_differ = are.commands_differ;
        none_named = all_turned (λ (c : Command). list_any (same_command c) (discards (own ++ others)) ≡ false) (λ (c : Command). list_any (same_command c) (discards others) ≡ false) pending
            (λ c e. (any_false (list_any (same_command c) (discards own)) (list_any (same_command c) (discards others)) (sym (any_of_both (same_command c) own others) ∙ e)).1) are.none_named;
      };
    }

pub anew_keeps : (name : List ℕ) (present : Book) → KeepsRules present → KeepsRules (begun_anew name present)
anew_keeps name present p =
    chosen_keeps default_name (others_than name (sessions present)) present.pending present.epoch default_fits (others_keep name (sessions present) present.pending present.epoch (ordered present p))

-- the sessions over which it begins
anew_are : (name : List ℕ) (present : Book) → KeepsRules present → sessions (begun_anew name present) ≡ others_than name (sessions present)
anew_are name present p =
    let k = others_keep name (sessions present) present.pending present.epoch (ordered present p) in
    put_back default_name (others_than name (sessions present)) k.stored k.rising

pub anew_empty : (name : List ℕ) (present : Book) → KeepsRules present → (choose name (begun_anew name present)).entries ≡ []
anew_empty name present p =
    ap (entries_of name) (anew_are name present p) ∙ none_of name (others_than name (sessions present)) (others_apart name (sessions present) (ordered present p).rising)

pub anew_others : (name : List ℕ) (present : Book) → KeepsRules present → (other : List ℕ) → other ≢ name → (choose other (begun_anew name present)).entries ≡ (choose other present).entries
anew_others name present p other apart = ap (entries_of other) (anew_are name present p) ∙ other_than other name (sessions present) (differ other name apart)
