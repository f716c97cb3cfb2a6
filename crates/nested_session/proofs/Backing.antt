-- Where the end of a save is awaited and a later round was agreed, the save is on the disk.
use Rattle.std.proofs.Common.{◌≡◌, ◌⊎◌, inl, inr, sym, ap, subst, ◌∙◌, ℕ, ◌<◌, List, [], ◌∷◌, ◌++◌, map, append_assoc, Option}
use Rattle.std.proofs.lemmas.List.{append-nil}
use Rattle.sm_world.specs.Effects.{heard}
use Rattle.sm_world.specs.declared.effects.Effect.{Effect}
use Rattle.sm_world.specs.declared.effects.Effect.TheVariants.{Sent}
use Rattle.sm_world.specs.declared.events.Event.{Event}
use Rattle.sm_world.specs.declared.events.Order.TheVariants.{Checkpoint}
use Rattle.checkpoint_records.specs.declared.records.Book.{Book}
use Rattle.checkpoint_slots.specs.declared.turn.Current.{Current}
use Rattle.agreement_marks.specs.Agreements.{WritesBooks}
use Rattle.agreement_marks.proofs.Since.{began-since}
use Rattle.agreement_marks.proofs.Written.{saved}
use Rattle.session_engine.specs.Machine.{Machine, after_all, start}
use Rattle.session_engine.specs.declared.config.Config.{Config}
use Rattle.session_model.specs.Moves.{History, onto}
use Rattle.session_model.specs.Readings as of
use Rattle.nested_session.specs.Nests.{AwaitedSavesAreBacked, IsBacked, SuccessIsBacked, session_of, success}
use Rattle.nested_session.specs.Woven.{Inner, Outer, Put, Woven, all_inner}
use Rattle.nested_session.proofs.Growing.{GoesOnto, after_all-append, books_written, goes_onto}
use Rattle.nested_session.proofs.Images.{leave_the_same}
use Rattle.nested_session.proofs.Weaving.{heard_append, inner_append, last_or_before}

-- what was heard, and behind it the order and what came later
heard_since : (early late : List (Woven Effect)) → heard (all_inner (early ++ Put Checkpoint ∷ late)) ≡ heard (all_inner early) ++ heard (all_inner (Put Checkpoint ∷ late))
heard_since early late = ap (λ (xs : List Effect). heard xs) (inner_append early (Put Checkpoint ∷ late)) ∙ heard_append (all_inner early) (all_inner (Put Checkpoint ∷ late))

session_since : (config : Config) (opening : Book) (early late : List (Woven Effect)) → GoesOnto (session_of config opening early) (session_of config opening (early ++ Put Checkpoint ∷ late))
session_since config opening early late =
    let later : List Event = heard (all_inner (Put Checkpoint ∷ late)) in
    subst (λ (m : Machine). GoesOnto (session_of config opening early) m.session)
    (sym (ap (λ (xs : List Event). after_all (start config opening) xs) (heard_since early late) ∙ after_all-append (start config opening) (heard (all_inner early)) later))
    (goes_onto (after_all (start config opening) (heard (all_inner early))) later)

pub backed_since : AwaitedSavesAreBacked
backed_since config opening current begun all since apart is_current more =
    let goes : GoesOnto (session_of config opening since.save.early) (session_of config opening all) =
    subst (λ (xs : List (Woven Effect)). GoesOnto (session_of config opening since.save.early) (session_of config opening xs)) since.save.parts (session_since config opening since.save.early since.save.late) in
    let written : WritesBooks (onto (session_of config opening since.save.early) goes.moves) = subst (λ (h : History). WritesBooks h) (sym goes.is) (books_written config opening (heard (all_inner all))) in
    let above : (of.marks (session_of config opening since.save.early)).begun < (of.marks (onto (session_of config opening since.save.early) goes.moves)).agreed =
    subst (λ (h : History). (of.marks (session_of config opening since.save.early)).begun < (of.marks h).agreed) (sym goes.is) (subst (λ (n : ℕ). n < (of.marks (session_of config opening all)).agreed) since.begun_then more) in
    record {
      save = since.save;
      moves = goes.moves;
      since = goes.is;
      saved = saved (session_of config opening since.save.early) goes.moves written (began-since (session_of config opening since.save.early) goes.moves above);
      files = λ first before stands file image. is_current first before stands file ((leave_the_same first before all apart file).0 image);
    }

-- Successes that were told, as more is woven

module _ (config : Config) (opening : Book) (current : Option Current) where
  abbrev Backed : List (Woven Effect) → Type 0
  Backed all = SuccessIsBacked config opening current all

  pub backed_none : Backed []
  backed_none front rest e = absurd (never front rest e) where
    never : (front rest : List (Woven Effect)) → front ++ Outer (Sent 0 success) ∷ rest ≡ [] → ⊥
    never [] rest e = cc
    never (f ∷ front) rest e = cc

  pub backed_by : (all : List (Woven Effect)) (it : Woven Effect) → (Outer (Sent 0 success) ≡ it → IsBacked config opening current all) → Backed all → Backed (all ++ it ∷ [])
  backed_by all it now backed front rest e = at (last_or_before front (Outer (Sent 0 success)) rest all it e) where
    at : ((front ≡ all) × (Outer (Sent 0 success) ≡ it)) ⊎ ((behind : List (Woven Effect)) × (front ++ Outer (Sent 0 success) ∷ behind ≡ all)) → IsBacked config opening current front
    at (inl (same, is)) = subst (λ (xs : List (Woven Effect)). IsBacked config opening current xs) (sym same) (now is)
    at (inr (behind, is)) = backed front behind is

  inner_is_other : (xs : List ℕ) (effect : Effect) → Outer (Sent 0 xs) ≡ Inner effect → ⊥
  inner_is_other xs effect e = cc

  pub backed_inner : (all : List (Woven Effect)) (es : List Effect) → Backed all → Backed (all ++ map Inner es)
  backed_inner all [] backed = subst (λ (xs : List (Woven Effect)). Backed xs) (sym (append-nil all)) backed
  backed_inner all (e ∷ es) backed =
      subst (λ (xs : List (Woven Effect)). Backed xs) (append_assoc all (Inner e ∷ []) (map Inner es))
      (backed_inner (all ++ Inner e ∷ []) es (backed_by all (Inner e) (λ is. absurd (inner_is_other success e is)) backed))
