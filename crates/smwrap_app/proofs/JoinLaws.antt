-- A client whose callback is a saver over files: what its run says of the files and of their copies.
use Rattle.std.proofs.Common.{◌≡◌, inl, inr, ℕ, List, [], ◌∷◌, Option, Some, Err, refl, sym, ◌∙◌, ap, subst}
use Rattle.ice_cookie.specs.declared.cookies.Cookie.{Cookie}
use Rattle.sm_world.specs.Outside.{Outside}
use Rattle.sm_world.proofs.Adding.{adds-none, never_fallen}
use Rattle.client_machine.specs.declared.saves.SaveAnswer.{SaveAnswer}
use Rattle.named_joiner.specs.Doing.{Follows as Asks}
use Rattle.named_joiner.specs.Script.{Callbacks, Entry, Says, AsksSave, AsksReasons}
use Rattle.named_joiner.specs.declared.callbacks.NamedAsk.{NamedAsk}
use Rattle.state_saver.specs.Saving.{AnswersSo, Shelf, shelf}
use Rattle.state_saver.specs.declared.plan.SavePlan.{SavePlan}
use Rattle.smwrap_app.specs.Faults.{Ending}
use Rattle.smwrap_app.specs.Starting.{MayJoin}
use Rattle.smwrap_app.specs.Statuses.{NoReasons, SavesBy, keeping, plan_by}
use Rattle.smwrap_app.specs.Turning.{Finishes}
use Rattle.smwrap_app.specs.Words.{Chosen}
use Rattle.smwrap_app.specs.declared.fault.Fault.TheVariants.{NoMemory}
use Rattle.smwrap_app.proofs.CopyLaws.{Makes, made_by, makes_copies}

-- ---- callbacks, as files and numbers

module _ {S D : Type 0} (answers : S → NamedAsk → Option SaveAnswer → S → Type 0) (gives : D → Option (List (List ℕ)) → D → Type 0) (shelf_of : S → Shelf) (plan_of : S → SavePlan)
    (sound : (f : S) (ask : NamedAsk) (answer : Option SaveAnswer) (g : S) → answers f ask answer g → (plan_of g ≡ plan_of f) × AnswersSo answer (plan_of f) ask (shelf_of f) (shelf_of g))
    (silent : (d : D) (reasons : Option (List (List ℕ))) (e : D) → gives d reasons e → reasons ≡ Some []) where
  abbrev image : Callbacks S D → Callbacks Shelf (Unit {0})
  image c = record { save = shelf_of c.save; die = tt }

  as_shelves : (line : List Entry) (old new : Callbacks S D) (plan : SavePlan) → plan_of old.save ≡ plan → Asks answers gives line old new → Asks (SavesBy plan) NoReasons line (image old) (image new)
  as_shelves [] old new plan is asks = ap image asks
  as_shelves (Says message ∷ more) old new plan is asks = as_shelves more old new plan is asks
  as_shelves (AsksSave ask answer ∷ more) old new plan is asks =
      let step = sound old.save ask answer asks.0 asks.1 in
      (shelf_of asks.0, subst (λ (p : SavePlan). AnswersSo answer p ask (shelf_of old.save) (shelf_of asks.0)) is step.1, as_shelves more (record old { save = asks.0 }) new plan (step.0 ∙ is) asks.2)
  as_shelves (AsksReasons reasons ∷ more) old new plan is asks = (tt, silent old.die reasons asks.0 asks.1, as_shelves more (record old { die = asks.0 }) new plan is asks.2)

  -- The run of a client with such callbacks, as it is said of the files.
  pub joined_by : (chosen : Chosen) (cookie : Cookie) (turns : ℕ) (peer_old peer_new files_old files_new : Outside) (begin after : Callbacks S D) (ending : Ending) → Finishes answers gives cookie chosen.id turns peer_old begin peer_new after ending → plan_of begin.save ≡ plan_by chosen → shelf_of begin.save ≡ shelf chosen.from files_old → (shelf_of after.save).outside ≡ files_new
      → MayJoin chosen cookie turns peer_old peer_new files_old files_new ending
  joined_by chosen cookie turns peer_old peer_new files_old files_new begin after ending finishes plan began ended =
      let run = finishes.joins.holds in
      let last : ℕ = (shelf_of after.save).number in
      let to : shelf_of after.save ≡ shelf last files_new = ap (shelf last) ended in
      let asks : Asks (SavesBy (plan_by chosen)) NoReasons run.done (keeping chosen.from files_old) (keeping last files_new) =
      subst (λ (s : Shelf). Asks (SavesBy (plan_by chosen)) NoReasons run.done (record { save = s; die = tt }) (keeping last files_new)) began
      (subst (λ (s : Shelf). Asks (SavesBy (plan_by chosen)) NoReasons run.done (image begin) (record { save = s; die = tt })) to (as_shelves run.done begin after (plan_by chosen) plan run.follows)) in
      let makes : Makes (plan_by chosen) run.done (shelf chosen.from files_old) (shelf last files_new) = made_by (plan_by chosen) run.done (keeping chosen.from files_old) (keeping last files_new) asks in
      record {
        copies = makes.copies;
        told = makes.told;
        run = record {
          effects = finishes.joins.effects;
          added = finishes.joins.added;
          holds = inl (record {
            last = last;
            joins = record {
              replies = run.replies;
              pieces = run.pieces;
              solid = run.solid;
              received_are = run.received_are;
              in_turns = run.in_turns;
              prompt = run.prompt;
              unsent = run.unsent;
              sent_are = run.sent_are;
              done = run.done;
              undone = run.undone;
              parts = run.parts;
              waiting = run.waiting;
              front = run.front;
              follows = asks;
              whole = run.whole;
              end = run.end;
              cause = run.cause;
            };
            makes = makes_copies (plan_by chosen) run.done (shelf chosen.from files_old) (shelf last files_new) makes refl;
          });
        };
        peer_counts = finishes.counts;
        file_counts = makes.counts;
      }

-- the client never joined, for want of memory
pub starved_before : (chosen : Chosen) (cookie : Cookie) (turns : ℕ) (peer files : Outside) → MayJoin chosen cookie turns peer peer files files (Err NoMemory)
starved_before chosen cookie turns peer files = record {
  copies = [];
  told = sym (adds-none files.told);
  run = record { effects = []; added = sym (adds-none peer.told); holds = inr (record { none = refl; silent = refl; cause = inr refl }) };
  peer_counts = never_fallen peer.faults;
  file_counts = never_fallen files.faults;
}

-- ---- what such a client leaves of its files

-- The same, where the run is known first, and then what its callbacks show.
pub joined_with : {S D : Type 0} (answers : S → NamedAsk → Option SaveAnswer → S → Type 0) (gives : D → Option (List (List ℕ)) → D → Type 0) (chosen : Chosen) (cookie : Cookie) (turns : ℕ) (peer_old peer_new : Outside) (begin after : Callbacks S D) (ending : Ending) → Finishes answers gives cookie chosen.id turns peer_old begin peer_new after ending → (shelf_of : S → Shelf) (plan_of : S → SavePlan)
    → ((f : S) (ask : NamedAsk) (answer : Option SaveAnswer) (g : S) → answers f ask answer g → (plan_of g ≡ plan_of f) × AnswersSo answer (plan_of f) ask (shelf_of f) (shelf_of g)) → ((d : D) (reasons : Option (List (List ℕ))) (e : D) → gives d reasons e → reasons ≡ Some [])
    → (files_old files_new : Outside) → plan_of begin.save ≡ plan_by chosen → shelf_of begin.save ≡ shelf chosen.from files_old → (shelf_of after.save).outside ≡ files_new → MayJoin chosen cookie turns peer_old peer_new files_old files_new ending
joined_with answers gives chosen cookie turns peer_old peer_new begin after ending finishes shelf_of plan_of sound silent files_old files_new plan began ended =
    joined_by answers gives shelf_of plan_of sound silent chosen cookie turns peer_old peer_new files_old files_new begin after ending finishes plan began ended

same_name : {S D : Type 0} (answers : S → NamedAsk → Option SaveAnswer → S → Type 0) (gives : D → Option (List (List ℕ)) → D → Type 0) (name_of : S → ℕ) → ((f : S) (ask : NamedAsk) (answer : Option SaveAnswer) (g : S) → answers f ask answer g → name_of g ≡ name_of f) → (line : List Entry) (old new : Callbacks S D) → Asks answers gives line old new → name_of new.save ≡ name_of old.save
same_name {S} {D} answers gives name_of keeps [] old new asks = ap (λ (c : Callbacks S D). name_of c.save) asks
same_name {S} {D} answers gives name_of keeps (Says message ∷ more) old new asks = same_name answers gives name_of keeps more old new asks
same_name {S} {D} answers gives name_of keeps (AsksSave ask answer ∷ more) old new asks = same_name answers gives name_of keeps more (record old { save = asks.0 }) new asks.2 ∙ keeps old.save ask answer asks.0 asks.1
same_name {S} {D} answers gives name_of keeps (AsksReasons reasons ∷ more) old new asks = same_name answers gives name_of keeps more (record old { die = asks.0 }) new asks.2

-- the callback holds the files that it held
pub named_with : {S D : Type 0} (answers : S → NamedAsk → Option SaveAnswer → S → Type 0) (gives : D → Option (List (List ℕ)) → D → Type 0) (cookie : Cookie) (previous : List ℕ) (turns : ℕ) (peer_old peer_new : Outside) (begin after : Callbacks S D) (ending : Ending) → Finishes answers gives cookie previous turns peer_old begin peer_new after ending → (name_of : S → ℕ) → ((f : S) (ask : NamedAsk) (answer : Option SaveAnswer) (g : S) → answers f ask answer g → name_of g ≡ name_of f) → name_of after.save ≡ name_of begin.save
named_with answers gives cookie previous turns peer_old peer_new begin after ending finishes name_of keeps = same_name answers gives name_of keeps finishes.joins.holds.done begin after finishes.joins.holds.follows
