-- What a client with callbacks does about a cue.
use Rattle.std.proofs.Common.{◌≡◌, ℕ, ◌-◌, Bool, true, false, List, [], ◌∷◌, ◌++◌, map, Option, None, Some, refl, sym, ◌∙◌, ap, subst, codes}
use Rattle.std.specs.Prelude.{◌==◌}
use Rattle.std.proofs.lemmas.Bool.Decides.{nat_tests}
use Rattle.std.proofs.Common.{arith}
use Rattle.sm_world.specs.Outside.{Outside}
use Rattle.sm_world.specs.declared.failures.Failure.{Failure}
use Rattle.sm_world.specs.declared.failures.Failure.TheVariants.{NoMemory}
use Rattle.client_machine.specs.Saves.{at_stage}
use Rattle.client_machine.specs.declared.saves.SaveAnswer.{SaveAnswer}
use Rattle.client_machine.specs.declared.saves.SaveAsk.{SaveAsk}
use Rattle.client_machine.specs.declared.saves.Stage.{Stage}
use Rattle.client_engine.specs.Answering.{after_answer, after_owed, answer_messages, closes, owed_messages, stage_again}
use Rattle.client_engine.specs.Driving.{Step, behind}
use Rattle.client_engine.specs.declared.hearing.Cue.{Cue}
use Rattle.protocol_messages.specs.declared.message.Message.{Message}
use Rattle.client_callbacks.specs.Answers.{Replies, unasked}
use Rattle.client_callbacks.specs.Doing.{Callbacks, Desk, desk, CarriesOut, Follows, Sends, Takes}
use Rattle.client_callbacks.specs.Script.{Entry, Keeper, Says, AsksSave, AsksReasons, TellsCancelled, Notes, answer_line, answered, answered_again, cancelled, closed, completed, cued, died, on_client, saved}
use Rattle.client_callbacks.specs.declared.ends.Ending.TheVariants.{Closed, Died}
use Rattle.client_callbacks.proofs.DoingLaws.{carries_asked, carries_cut, carries_more, carries_never, carries_none, carries_noted, carries_sent}

unfoldable pub replies_of : SaveAnswer → SaveAnswer → Replies
replies_of first again = record { first = first; again = again; reasons = [] }

unfoldable pub because : List (List ℕ) → Replies
because reasons = record { first = unasked.first; again = unasked.again; reasons = reasons }

module _ {S D C : Type 0} (answers : S → SaveAsk → SaveAnswer → S → Type 0) (gives : D → List (List ℕ) → D → Type 0) (hears : C → C → Type 0) where
  abbrev FollowsIn : List Entry → Callbacks S D C → Callbacks S D C → Type 0
  FollowsIn entries old new = Follows answers gives hears entries old new

  abbrev CarriesIn : Desk S D C → Desk S D C → List Entry → Option Failure → Type 0
  CarriesIn old new all failure = CarriesOut answers gives hears old new all failure

  abbrev TakesIn : {A : Type 0} → Desk S D C → Desk S D C → (A → Step Keeper Entry) → Keeper → Option Failure → Type 0
  TakesIn old new step after failure = Takes answers gives hears old new step after failure

  -- ---- steps

  -- memory was wanting before anything was done
  pub takes_never : {A : Type 0} (d : Desk S D C) (step : A → Step Keeper Entry) (said : A) (after : Keeper) → TakesIn d d step after (Some NoMemory)
  takes_never d step said after = record { said = said; does = carries_never answers gives hears d (step said).line; next = λ e. absurd cc }

  -- a line couldn't be noted, so nothing was done
  pub takes_unnoted : {A : Type 0} (outside : Outside) (old new : List (List ℕ)) (callbacks : Callbacks S D C) (step : A → Step Keeper Entry) (said : A) (after : Keeper) → new ≡ old → TakesIn (desk outside old callbacks) (desk outside new callbacks) step after (Some NoMemory)
  takes_unnoted outside old new callbacks step said after same = rw same (takes_never (desk outside old callbacks) step said after)

  -- nothing is done
  pub takes_silent : {A : Type 0} (d : Desk S D C) (step : A → Step Keeper Entry) (said : A) (after : Keeper) → (step said).line ≡ [] → after ≡ (step said).next → TakesIn d d step after None
  takes_silent d step said after silent stands = record { said = said; does = rw silent (carries_none answers gives hears d); next = λ e. stands }

  -- a line is noted
  pub takes_noted : {A : Type 0} (outside : Outside) (old new : List (List ℕ)) (callbacks : Callbacks S D C) (line : List ℕ) (step : A → Step Keeper Entry) (said : A) (after : Keeper) → new ≡ old ++ line ∷ [] → (step said).line ≡ Notes line ∷ [] → after ≡ (step said).next → TakesIn (desk outside old callbacks) (desk outside new callbacks) step after None
  takes_noted outside old new callbacks line step said after noted is_line stands = record { said = said; does = rw is_line (carries_noted answers gives hears outside old new callbacks line noted); next = λ e. stands }

  -- the same step, for what all callbacks say
  pub takes_as : {A : Type 0} (old new : Desk S D C) (step : A → Step Keeper Entry) (whole : Replies → Step Keeper Entry) (reply : A → Replies) (after : Keeper) (failure : Option Failure) → ((a : A) → whole (reply a) ≡ step a) → TakesIn old new step after failure → TakesIn old new whole after failure
  takes_as old new step whole reply after failure same takes = record {
    said = reply takes.said;
    does = subst (λ (s : Step Keeper Entry). CarriesIn old new s.line failure) (sym (same takes.said)) takes.does;
    next = λ e. takes.next e ∙ ap (λ (s : Step Keeper Entry). s.next) (sym (same takes.said));
  }

  -- ---- saves

  pub answered_takes : (old new : Outside) (lines : List (List ℕ)) (before after : Callbacks S D C) (keeper last : Keeper) (ask : SaveAsk) (answer : SaveAnswer) (failure : Option Failure) → FollowsIn (AsksSave ask answer ∷ []) before after → Sends old new (answer_messages answer) failure → (failure ≡ None → last ≡ on_client (after_answer answer) keeper) → TakesIn (desk old lines before) (desk new lines after) (answered keeper ask) last failure
  answered_takes old new lines before after keeper last ask answer failure follows sends stands = record {
    said = answer;
    does =
        carries_more answers gives hears (desk old lines before) (desk old lines after) (desk new lines after) (AsksSave ask answer ∷ []) (map Says (answer_messages answer)) failure
        (carries_asked answers gives hears old lines before after (AsksSave ask answer) refl refl follows)
        (carries_sent answers gives hears old new lines after (answer_messages answer) failure sends);
    next = stands;
  }

  pub saved_failed : (old new : Desk S D C) (keeper last : Keeper) (ask : SaveAsk) (failure : Failure) → TakesIn old new (answered keeper ask) last (Some failure) → TakesIn old new (saved keeper ask) last (Some failure)
  unfolding replies_of
  saved_failed old new keeper last ask failure first = record {
    said = replies_of first.said first.said;
    does = carries_cut answers gives hears old new (answer_line ask first.said) (answered_again (on_client (after_answer first.said) keeper) ask first.said (stage_again ask.stage)).line failure first.does;
    next = λ e. absurd cc;
  }

  pub saved_once : (old new : Desk S D C) (keeper last : Keeper) (ask : SaveAsk) → None ≡ stage_again ask.stage → TakesIn old new (answered keeper ask) last None → TakesIn old new (saved keeper ask) last None
  unfolding replies_of
  saved_once old new keeper last ask once first = record {
    said = replies_of first.said first.said;
    does = rw (sym once) (carries_more answers gives hears old new new (answer_line ask first.said) [] None first.does (carries_none answers gives hears new));
    next = λ e. rw (sym once) (first.next e);
  }

  pub saved_twice : (old mid new : Desk S D C) (keeper talked last : Keeper) (ask : SaveAsk) (stage : Stage) (failure : Option Failure) → Some stage ≡ stage_again ask.stage → TakesIn old mid (answered keeper ask) talked None → TakesIn mid new (answered talked (at_stage stage ask)) last failure → TakesIn old new (saved keeper ask) last failure
  unfolding replies_of
  saved_twice old mid new keeper talked last ask stage failure twice first second = record {
    said = replies_of first.said second.said;
    does = rw (sym twice) (carries_more answers gives hears old mid new (answer_line ask first.said) (answer_line (at_stage stage ask) second.said) failure first.does second.does);
    next = λ e. rw (sym twice) (subst (λ (k : Keeper). last ≡ on_client (after_answer second.said) k) (first.next refl) (second.next e));
  }

  -- ---- other cues

  pub cancelled_takes : (first last : Outside) (old new : List (List ℕ)) (before after : Callbacks S D C) (keeper next : Keeper) (owing : Bool) (failure : Option Failure) → new ≡ old ++ codes "cancelled" ∷ [] → FollowsIn (TellsCancelled ∷ []) before after → Sends first last (owed_messages owing) failure → (failure ≡ None → next ≡ on_client (after_owed owing) keeper) → TakesIn (desk first old before) (desk last new after) (λ (none : Unit {0}). cancelled keeper owing) next failure
  cancelled_takes first last old new before after keeper next owing failure noted follows sends stands = record {
    said = tt;
    does =
        carries_more answers gives hears (desk first old before) (desk first new before) (desk last new after) (Notes (codes "cancelled") ∷ []) (TellsCancelled ∷ map Says (owed_messages owing)) failure
        (carries_noted answers gives hears first old new before (codes "cancelled") noted)
        (carries_more answers gives hears (desk first new before) (desk first new after) (desk last new after) (TellsCancelled ∷ []) (map Says (owed_messages owing)) failure
        (carries_asked answers gives hears first new before after TellsCancelled refl refl follows)
        (carries_sent answers gives hears first last new after (owed_messages owing) failure sends));
    next = stands;
  }

  pub died_takes : (first last : Outside) (old new : List (List ℕ)) (before after : Callbacks S D C) (keeper next : Keeper) (reasons : List (List ℕ)) (failure : Option Failure) → new ≡ old ++ codes "died" ∷ [] → FollowsIn (AsksReasons reasons ∷ []) before after → Sends first last (closes reasons ∷ []) failure → (failure ≡ None → next ≡ closed Died keeper) → TakesIn (desk first old before) (desk last new after) (died keeper) next failure
  died_takes first last old new before after keeper next reasons failure noted follows sends stands = record {
    said = reasons;
    does =
        carries_more answers gives hears (desk first old before) (desk first new before) (desk last new after) (Notes (codes "died") ∷ []) (AsksReasons reasons ∷ Says (closes reasons) ∷ []) failure
        (carries_noted answers gives hears first old new before (codes "died") noted)
        (carries_more answers gives hears (desk first new before) (desk first new after) (desk last new after) (AsksReasons reasons ∷ []) (Says (closes reasons) ∷ []) failure
        (carries_asked answers gives hears first new before after (AsksReasons reasons) refl refl follows)
        (carries_sent answers gives hears first last new after (closes reasons ∷ []) failure sends));
    next = stands;
  }

  -- the last save is complete
  pub completed_last : (first last : Outside) (old new : List (List ℕ)) (callbacks : Callbacks S D C) (keeper next : Keeper) (test : Bool) (failure : Option Failure) → test ≡ true → new ≡ old ++ codes "saved" ∷ [] → Sends first last (closes [] ∷ []) failure → (failure ≡ None → next ≡ closed Closed keeper) → TakesIn (desk first old callbacks) (desk last new callbacks) (λ (none : Unit {0}). completed keeper test) next failure
  completed_last first last old new callbacks keeper next test failure is_last noted sends stands = rw is_last (record {
    said = tt;
    does =
        carries_more answers gives hears (desk first old callbacks) (desk first new callbacks) (desk last new callbacks) (Notes (codes "saved") ∷ []) (Says (closes []) ∷ []) failure
        (carries_noted answers gives hears first old new callbacks (codes "saved") noted)
        (carries_sent answers gives hears first last new callbacks (closes [] ∷ []) failure sends);
    next = stands;
  })

  -- another save is complete
  pub completed_one : (outside : Outside) (old new : List (List ℕ)) (callbacks : Callbacks S D C) (keeper next : Keeper) (test : Bool) → test ≡ false → new ≡ old ++ codes "saved" ∷ [] → next ≡ record keeper { saves = keeper.saves - 1 } → TakesIn (desk outside old callbacks) (desk outside new callbacks) (λ (none : Unit {0}). completed keeper test) next None
  completed_one outside old new callbacks keeper next test not_last noted less = rw not_last (record {
    said = tt;
    does = carries_noted answers gives hears outside old new callbacks (codes "saved") noted;
    next = λ e. less;
  })

  -- ---- a part

  -- a message wasn't said, so the cue wasn't heeded
  pub served_failed : (old new : Outside) (lines : List (List ℕ)) (callbacks : Callbacks S D C) (keeper after : Keeper) (said : List Message) (cue : Cue) (failure : Failure) → Sends old new said (Some failure) → TakesIn (desk old lines callbacks) (desk new lines callbacks) (λ r. behind (map Says said) (cued keeper r cue)) after (Some failure)
  served_failed old new lines callbacks keeper after said cue failure sends = record {
    said = unasked;
    does = carries_cut answers gives hears (desk old lines callbacks) (desk new lines callbacks) (map Says said) (cued keeper unasked cue).line failure (carries_sent answers gives hears old new lines callbacks said (Some failure) sends);
    next = λ e. absurd cc;
  }

  -- all was said, and then the cue was heeded
  pub served : (old mid : Outside) (new : Desk S D C) (lines : List (List ℕ)) (callbacks : Callbacks S D C) (keeper after : Keeper) (said : List Message) (cue : Cue) (failure : Option Failure) → Sends old mid said None → TakesIn (desk mid lines callbacks) new (λ r. cued keeper r cue) after failure → TakesIn (desk old lines callbacks) new (λ r. behind (map Says said) (cued keeper r cue)) after failure
  served old mid new lines callbacks keeper after said cue failure sends takes = record {
    said = takes.said;
    does = carries_more answers gives hears (desk old lines callbacks) (desk mid lines callbacks) new (map Says said) (cued keeper takes.said cue).line failure (carries_sent answers gives hears old mid lines callbacks said None sends) takes.does;
    next = takes.next;
  }

pub one : (n : ℕ) → n ≡ 1 → (n == 1) ≡ true
one n is_one = rw is_one refl

pub not_one : (n : ℕ) → (n ≡ 1 → ⊥) → (n == 1) ≡ false
not_one n apart = grind (arith, nat_tests)
