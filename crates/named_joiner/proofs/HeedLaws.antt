-- What a client with callbacks does about a cue.
use Rattle.std.proofs.Common.{◌≡◌, ℕ, Bool, List, [], ◌∷◌, ◌++◌, map, Option, None, Some, Result, Ok, Err, refl, sym, ◌∙◌, ap, subst, append-nil}
use Rattle.std.specs.Prelude.{flat_map, OnOk}
use Rattle.owned_lists.specs.declared.failures.NoMemory.{NoMemory}
use Rattle.client_machine.specs.Phases.{is_owing}
use Rattle.client_machine.specs.Saves.{at_stage}
use Rattle.client_machine.specs.declared.saves.SaveAnswer.{SaveAnswer}
use Rattle.client_machine.specs.declared.saves.SaveAsk.{SaveAsk}
use Rattle.client_machine.specs.declared.saves.Stage.{Stage}
use Rattle.client_engine.specs.Answering.{after_answer, after_owed, answer_messages, changed, closes, owed_messages, stage_again}
use Rattle.client_engine.specs.Driving.{Step, behind}
use Rattle.client_engine.specs.Messages.{spelled}
use Rattle.client_engine.specs.Places.{phase_at}
use Rattle.client_engine.specs.declared.hearing.Cue.{Cue}
use Rattle.client_engine.specs.declared.hearing.Cue.TheVariants.{Die}
use Rattle.protocol_messages.specs.declared.message.Message.{Message}
use Rattle.named_joiner.specs.Doing.{Answers, Begins, Breaks, Desk, Does, Follows, Takes, Tries, desk, keeper_of}
use Rattle.named_joiner.specs.Script.{Callbacks, Entry, Keeper, Replies, Says, AsksSave, AsksReasons, answer_line, answered, answered_again, cancelled, closed, cued, died, named, next_stage, on_client, saved, unasked}
use Rattle.named_joiner.specs.declared.callbacks.NamedAsk.{NamedAsk}
use Rattle.named_joiner.specs.declared.ends.Ending.TheVariants.{Ended}
use Rattle.named_joiner.specs.declared.ends.NamedEnd.TheVariants.{Died}
use Rattle.named_joiner.specs.declared.progress.Progress.{Progress}
use Rattle.named_joiner.proofs.DoingLaws.{begins_all, begins_cut, begins_more, begins_none, does_asked, does_more, does_none, does_said}

unfoldable pub replies_of : Option SaveAnswer → Option SaveAnswer → Replies
replies_of first again = record { first = first; again = again; reasons = None }

unfoldable pub because : Option (List (List ℕ)) → Replies
because reasons = record { first = None; again = None; reasons = reasons }

-- what becomes of a client that owed an answer
pub owed_talk : (result : Result (Unit {0}) NoMemory) (before after : Progress) → OnOk result (after.core.talk ≡ changed (after_owed (is_owing (phase_at before.core.talk.place))) before.core.talk) → after.ending ≡ before.ending → OnOk result (keeper_of after ≡ on_client (after_owed (is_owing (phase_at before.core.talk.place))) (keeper_of before))
owed_talk (Ok x) before after talk ending = rw (talk, ending) refl
owed_talk (Err e) before after talk ending = tt

module _ {S D : Type 0} (answers : S → NamedAsk → Option SaveAnswer → S → Type 0) (gives : D → Option (List (List ℕ)) → D → Type 0) where
  abbrev FollowsIn : List Entry → Callbacks S D → Callbacks S D → Type 0
  FollowsIn entries old new = Follows answers gives entries old new

  abbrev TakesIn : {A : Type 0} → Desk S D → Desk S D → (A → Step Keeper Entry) → Keeper → Type 0
  TakesIn old new step after = Takes answers gives old new step after

  abbrev BreaksIn : {A : Type 0} → Callbacks S D → Callbacks S D → (A → Step Keeper Entry) → Type 0
  BreaksIn old new step = Breaks answers gives old new step

  abbrev FirstIn : Desk S D → Desk S D → Keeper → SaveAsk → Keeper → Type 0
  FirstIn old new keeper ask after = TakesIn old new (λ (answer : SaveAnswer). answered keeper ask (Some answer)) after

  -- ---- steps

  -- memory was wanting before anything was done
  pub breaks_none : {A : Type 0} (d : Callbacks S D) (step : A → Step Keeper Entry) (said : A) → BreaksIn d d step
  breaks_none d step said = record { said = said; begins = begins_none answers gives d (step said).line }

  -- nothing is done
  pub takes_silent : {A : Type 0} (d : Desk S D) (step : A → Step Keeper Entry) (said : A) (after : Keeper) → (step said).line ≡ [] → after ≡ (step said).next → TakesIn d d step after
  takes_silent d step said after silent stands = record { said = said; does = rw silent (does_none answers gives d); next = stands }

  -- the same step, for what all callbacks say
  pub takes_as : {A : Type 0} (old new : Desk S D) (step : A → Step Keeper Entry) (whole : Replies → Step Keeper Entry) (reply : A → Replies) (after : Keeper) → ((a : A) → whole (reply a) ≡ step a) → TakesIn old new step after → TakesIn old new whole after
  takes_as old new step whole reply after same takes = record {
    said = reply takes.said;
    does = subst (λ (s : Step Keeper Entry). Does answers gives old new s.line) (sym (same takes.said)) takes.does;
    next = takes.next ∙ ap (λ (s : Step Keeper Entry). s.next) (sym (same takes.said));
  }

  pub breaks_as : {A : Type 0} (old new : Callbacks S D) (step : A → Step Keeper Entry) (whole : Replies → Step Keeper Entry) (reply : A → Replies) → ((a : A) → whole (reply a) ≡ step a) → BreaksIn old new step → BreaksIn old new whole
  breaks_as old new step whole reply same breaks = record {
    said = reply breaks.said;
    begins = subst (λ (s : Step Keeper Entry). Begins answers gives old new s.line) (sym (same breaks.said)) breaks.begins;
  }

  -- ---- saves

  answered_takes : (old new : List ℕ) (before after : Callbacks S D) (keeper last : Keeper) (ask : SaveAsk) (answer : SaveAnswer) → FollowsIn (AsksSave (named keeper ask) (Some answer) ∷ []) before after → new ≡ old ++ flat_map spelled (answer_messages answer) → last ≡ on_client (after_answer answer) keeper → FirstIn (desk old before) (desk new after) keeper ask last
  answered_takes old new before after keeper last ask answer follows said stands = record {
    said = answer;
    does =
        does_more answers gives (desk old before) (desk old after) (desk new after) (AsksSave (named keeper ask) (Some answer) ∷ []) (map Says (answer_messages answer))
        (does_asked answers gives old before after (AsksSave (named keeper ask) (Some answer)) refl follows)
        (does_said answers gives old new after (answer_messages answer) said);
    next = stands;
  }

  answered_some : (before after : Callbacks S D) (keeper : Keeper) (ask : SaveAsk) (answer : SaveAnswer) → FollowsIn (AsksSave (named keeper ask) (Some answer) ∷ []) before after → BreaksIn before after (answered keeper ask)
  answered_some before after keeper ask answer follows = record {
    said = Some answer;
    begins = begins_more answers gives before after after (AsksSave (named keeper ask) (Some answer) ∷ []) (map Says (answer_messages answer)) follows (begins_none answers gives after (map Says (answer_messages answer)));
  }

  asked_so : (before after : Callbacks S D) (keeper : Keeper) (ask : SaveAsk) (asked : NamedAsk) (given : Option SaveAnswer) (answer : Option SaveAnswer) → asked ≡ named keeper ask → FollowsIn (AsksSave asked given ∷ []) before after → given ≡ answer → FollowsIn (AsksSave (named keeper ask) answer ∷ []) before after
  asked_so before after keeper ask asked given answer is follows same =
      subst (λ (n : NamedAsk). FollowsIn (AsksSave n answer ∷ []) before after) is (subst (λ (a : Option SaveAnswer). FollowsIn (AsksSave asked a ∷ []) before after) same follows)

  -- the callback wanted for memory
  pub answered_none : (before after : Callbacks S D) (keeper : Keeper) (ask : SaveAsk) (asked : NamedAsk) (given : Option SaveAnswer) → asked ≡ named keeper ask → FollowsIn (AsksSave asked given ∷ []) before after → given ≡ None → BreaksIn before after (answered keeper ask)
  answered_none before after keeper ask asked given is follows none = record {
    said = None;
    begins = begins_all answers gives before after (AsksSave (named keeper ask) None ∷ []) (asked_so before after keeper ask asked given None is follows none);
  }

  -- the callback answered, and then memory was wanting
  pub answered_half : (before after : Callbacks S D) (keeper : Keeper) (ask : SaveAsk) (asked : NamedAsk) (given : Option SaveAnswer) (answer : SaveAnswer) → asked ≡ named keeper ask → FollowsIn (AsksSave asked given ∷ []) before after → given ≡ Some answer → BreaksIn before after (answered keeper ask)
  answered_half before after keeper ask asked given answer is follows some = answered_some before after keeper ask answer (asked_so before after keeper ask asked given (Some answer) is follows some)

  -- the callback answered, and then the answer was said, or memory was wanting
  pub answers_by : (result : Result (Unit {0}) NoMemory) (old new : List ℕ) (before after : Callbacks S D) (keeper last : Keeper) (ask : SaveAsk) (asked : NamedAsk) (given : Option SaveAnswer) (answer : SaveAnswer) (said : List Message) → asked ≡ named keeper ask → FollowsIn (AsksSave asked given ∷ []) before after → given ≡ Some answer → said ≡ answer_messages answer → OnOk result (new ≡ old ++ flat_map spelled said) → last ≡ on_client (after_answer answer) keeper → Answers answers gives result (desk old before) (desk new after) keeper ask last
  answers_by (Ok x) old new before after keeper last ask asked given answer said is follows some are sent stands =
      answered_takes old new before after keeper last ask answer (asked_so before after keeper ask asked given (Some answer) is follows some) (sent ∙ ap (λ (ms : List Message). old ++ flat_map spelled ms) are) stands
  answers_by (Err e) old new before after keeper last ask asked given answer said is follows some are sent stands =
      answered_half before after keeper ask asked given answer is follows some

  pub saved_failed : (old new : Callbacks S D) (keeper : Keeper) (ask : SaveAsk) → BreaksIn old new (answered keeper ask) → BreaksIn old new (saved keeper ask)
  unfolding replies_of
  saved_failed old new keeper ask first =
      let one : Step Keeper Entry = answered keeper ask first.said in
      record {
        said = replies_of first.said None;
        begins = begins_cut answers gives old new one.line (answered_again one.next ask None (next_stage first.said ask.stage)).line first.begins;
      }

  pub saved_once : (old new : Desk S D) (keeper last : Keeper) (ask : SaveAsk) → None ≡ stage_again ask.stage → FirstIn old new keeper ask last → TakesIn old new (saved keeper ask) last
  unfolding replies_of
  saved_once old new keeper last ask once first = record {
    said = replies_of (Some first.said) None;
    does = rw (sym once) (does_more answers gives old new new (answer_line (named keeper ask) first.said) [] first.does (does_none answers gives new));
    next = rw (sym once) first.next;
  }

  saved_twice : (old mid new : Desk S D) (keeper talked last : Keeper) (ask : SaveAsk) (stage : Stage) → Some stage ≡ stage_again ask.stage → FirstIn old mid keeper ask talked → FirstIn mid new talked (at_stage stage ask) last → TakesIn old new (saved keeper ask) last
  unfolding replies_of
  saved_twice old mid new keeper talked last ask stage twice first second =
      let there : Keeper = on_client (after_answer first.said) keeper in
      let step : Keeper → Step Keeper Entry = λ k. answered k (at_stage stage ask) (Some second.said) in
      record {
        said = replies_of (Some first.said) (Some second.said);
        does = rw (sym twice) (does_more answers gives old mid new (answer_line (named keeper ask) first.said) (step there).line first.does (subst (λ (k : Keeper). Does answers gives mid new (step k).line) first.next second.does));
        next = rw (sym twice) (subst (λ (k : Keeper). last ≡ (step k).next) first.next second.next);
      }

  -- the second answer wanted for memory
  saved_half : (old mid : Desk S D) (new : Callbacks S D) (keeper talked : Keeper) (ask : SaveAsk) (stage : Stage) → Some stage ≡ stage_again ask.stage → FirstIn old mid keeper ask talked → BreaksIn mid.callbacks new (answered talked (at_stage stage ask)) → BreaksIn old.callbacks new (saved keeper ask)
  unfolding replies_of
  saved_half old mid new keeper talked ask stage twice first second =
      let there : Keeper = on_client (after_answer first.said) keeper in
      let step : Keeper → Step Keeper Entry = λ k. answered k (at_stage stage ask) second.said in
      record {
        said = replies_of (Some first.said) second.said;
        begins = rw (sym twice) (begins_more answers gives old.callbacks mid.callbacks new (answer_line (named keeper ask) first.said) (step there).line first.does.follows (subst (λ (k : Keeper). Begins answers gives mid.callbacks new (step k).line) first.next second.begins));
      }

  -- the client is asked again
  pub saved_again : (result : Result (Unit {0}) NoMemory) (old mid new : Desk S D) (keeper talked last : Keeper) (ask : SaveAsk) (stage : Stage) → Some stage ≡ stage_again ask.stage → FirstIn old mid keeper ask talked → Answers answers gives result mid new talked (at_stage stage ask) last → Tries answers gives result old new (saved keeper ask) last
  saved_again (Ok x) old mid new keeper talked last ask stage twice first second = saved_twice old mid new keeper talked last ask stage twice first second
  saved_again (Err e) old mid new keeper talked last ask stage twice first second = saved_half old mid new.callbacks keeper talked ask stage twice first second

  -- ---- other cues

  died_takes : (old new : List ℕ) (before after : Callbacks S D) (keeper next : Keeper) (reasons : List (List ℕ)) → FollowsIn (AsksReasons (Some reasons) ∷ []) before after → new ≡ old ++ spelled (closes reasons) → next ≡ closed (Ended Died) keeper → TakesIn (desk old before) (desk new after) (died keeper) next
  died_takes old new before after keeper next reasons follows said stands = record {
    said = Some reasons;
    does =
        does_more answers gives (desk old before) (desk old after) (desk new after) (AsksReasons (Some reasons) ∷ []) (Says (closes reasons) ∷ [])
        (does_asked answers gives old before after (AsksReasons (Some reasons)) refl follows)
        (does_said answers gives old new after (closes reasons ∷ []) (said ∙ ap (λ bs. old ++ bs) (sym (append-nil (spelled (closes reasons))))));
    next = stands;
  }

  given_so : (before after : Callbacks S D) (given reasons : Option (List (List ℕ))) → FollowsIn (AsksReasons given ∷ []) before after → given ≡ reasons → FollowsIn (AsksReasons reasons ∷ []) before after
  given_so before after given reasons follows same = subst (λ (r : Option (List (List ℕ))). FollowsIn (AsksReasons r ∷ []) before after) same follows

  pub died_none : (before after : Callbacks S D) (keeper : Keeper) (given : Option (List (List ℕ))) → FollowsIn (AsksReasons given ∷ []) before after → given ≡ None → BreaksIn before after (died keeper)
  died_none before after keeper given follows none = record { said = None; begins = begins_all answers gives before after (AsksReasons None ∷ []) (given_so before after given None follows none) }

  -- reasons were given, and then they were said, or memory was wanting
  pub died_by : (result : Result (Unit {0}) NoMemory) (old new : List ℕ) (before after : Callbacks S D) (keeper next : Keeper) (given : Option (List (List ℕ))) (reasons : List (List ℕ)) (message : Message) → FollowsIn (AsksReasons given ∷ []) before after → given ≡ Some reasons → message ≡ closes reasons → OnOk result (new ≡ old ++ spelled message) → next ≡ closed (Ended Died) keeper → Tries answers gives result (desk old before) (desk new after) (died keeper) next
  died_by (Ok x) old new before after keeper next given reasons message follows some is said stands =
      died_takes old new before after keeper next reasons (given_so before after given (Some reasons) follows some) (said ∙ ap (λ (m : Message). old ++ spelled m) is) stands
  died_by (Err e) old new before after keeper next given reasons message follows some is said stands =
      record { said = Some reasons; begins = begins_more answers gives before after after (AsksReasons (Some reasons) ∷ []) (Says (closes reasons) ∷ []) (given_so before after given (Some reasons) follows some) (begins_none answers gives after (Says (closes reasons) ∷ [])) }

  -- what a client owes was said, or memory was wanting
  pub cancelled_by : (result : Result (Unit {0}) NoMemory) (old new : List ℕ) (callbacks : Callbacks S D) (keeper next : Keeper) (owing : Bool) → OnOk result (new ≡ old ++ flat_map spelled (owed_messages owing)) → OnOk result (next ≡ on_client (after_owed owing) keeper) → Tries answers gives result (desk old callbacks) (desk new callbacks) (λ (r : Replies). cancelled keeper owing) next
  cancelled_by (Ok x) old new callbacks keeper next owing said stands = record { said = unasked; does = does_said answers gives old new callbacks (owed_messages owing) said; next = stands }
  cancelled_by (Err e) old new callbacks keeper next owing said stands = breaks_none callbacks (λ (r : Replies). cancelled keeper owing) unasked

  pub because_by : (result : Result (Unit {0}) NoMemory) (old new : Desk S D) (keeper next : Keeper) → Tries answers gives result old new (died keeper) next → Tries answers gives result old new (λ r. cued keeper r Die) next
  unfolding because
  because_by (Ok x) old new keeper next tries = takes_as old new (died keeper) (λ r. cued keeper r Die) because next (λ reasons. refl) tries
  because_by (Err e) old new keeper next tries = breaks_as old.callbacks new.callbacks (died keeper) (λ r. cued keeper r Die) because (λ reasons. refl) tries

  -- ---- a part

  -- memory was wanting for a message, so the cue wasn't heeded
  pub served_failed : (callbacks : Callbacks S D) (keeper : Keeper) (said : List Message) (cue : Cue) → BreaksIn callbacks callbacks (λ r. behind (map Says said) (cued keeper r cue))
  served_failed callbacks keeper said cue = breaks_none callbacks (λ r. behind (map Says said) (cued keeper r cue)) unasked

  -- all was said, and then the cue was heeded
  served : (old mid : List ℕ) (new : Desk S D) (callbacks : Callbacks S D) (keeper after : Keeper) (said : List Message) (cue : Cue) → mid ≡ old ++ flat_map spelled said → TakesIn (desk mid callbacks) new (λ r. cued keeper r cue) after → TakesIn (desk old callbacks) new (λ r. behind (map Says said) (cued keeper r cue)) after
  served old mid new callbacks keeper after said cue sent takes = record {
    said = takes.said;
    does = does_more answers gives (desk old callbacks) (desk mid callbacks) new (map Says said) (cued keeper takes.said cue).line (does_said answers gives old mid callbacks said sent) takes.does;
    next = takes.next;
  }

  served_half : (old mid : List ℕ) (callbacks new : Callbacks S D) (keeper : Keeper) (said : List Message) (cue : Cue) → mid ≡ old ++ flat_map spelled said → BreaksIn callbacks new (λ r. cued keeper r cue) → BreaksIn callbacks new (λ r. behind (map Says said) (cued keeper r cue))
  served_half old mid callbacks new keeper said cue sent breaks = record {
    said = breaks.said;
    begins = begins_more answers gives callbacks callbacks new (map Says said) (cued keeper breaks.said cue).line (does_said answers gives old mid callbacks said sent).follows breaks.begins;
  }

  pub served_by : (result : Result (Unit {0}) NoMemory) (old mid : List ℕ) (new : Desk S D) (callbacks : Callbacks S D) (keeper after : Keeper) (said sent : List Message) (cue : Cue) → sent ≡ said → mid ≡ old ++ flat_map spelled sent → Tries answers gives result (desk mid callbacks) new (λ r. cued keeper r cue) after → Tries answers gives result (desk old callbacks) new (λ r. behind (map Says said) (cued keeper r cue)) after
  served_by (Ok x) old mid new callbacks keeper after said sent cue are is tries = served old mid new callbacks keeper after said cue (is ∙ ap (λ (ms : List Message). old ++ flat_map spelled ms) are) tries
  served_by (Err e) old mid new callbacks keeper after said sent cue are is tries = served_half old mid callbacks new.callbacks keeper said cue (is ∙ ap (λ (ms : List Message). old ++ flat_map spelled ms) are) tries
