-- One receive after another.
use Rattle.std.proofs.Common.{◌≡◌, ℕ, ◌+◌, ◌<◌, ◌≤◌, ◌⊎◌, inl, inr, arith, Bool, true, false, List, [], ◌∷◌, ◌++◌, length, take, drop, Option, None, Some, Result, Err, refl, sym, ◌∙◌, ap, subst, append_assoc, append-nil, length-append}
use Rattle.std.proofs.lemmas.List.{length-drop, length-take, map-append}
use Rattle.sm_world.specs.declared.failures.Failure.{Failure}
use Rattle.sm_world.specs.declared.failures.Failure.TheVariants.{Failed, NoMemory}
use Rattle.sm_world.specs.declared.effects.Effect.TheVariants.{Heard}
use Rattle.sm_world.specs.Outside.{Outside, adds, NotFallen}
use Rattle.client_peer.specs.Peers.{received}
use Rattle.ice_cookie.specs.declared.cookies.Cookie.{Cookie}
use Rattle.ice_messages.specs.declared.message.IceMessage.TheVariants.{ByteOrder}
use Rattle.ice_values.specs.declared.numbers.Endian.TheVariants.{Lsb}
use Rattle.client_machine.specs.declared.saves.SaveAnswer.{SaveAnswer}
use Rattle.client_machine.specs.declared.saves.SaveAsk.{SaveAsk}
use Rattle.client_engine.specs.Driving.{Run, Step}
use Rattle.client_engine.specs.Places.{is_listening, phase_at}
use Rattle.protocol_messages.specs.declared.message.Message.TheVariants.{Ice}
use Rattle.client_callbacks.specs.Answers.{Replies}
use Rattle.client_callbacks.specs.Doing.{Callbacks, CarriesOut, Sends, Desk, desk, Does, IsCaused, IsRun, IsUnsent, TakesPiece, TakesTurn, bytes_in, heard_in, keeper_of}
use Rattle.client_callbacks.specs.Script.{Came, Entry, Hears, Keeper, is_over, over, run_after, Says, script, script_from, start, turn}
use Rattle.client_callbacks.specs.Running.{FollowsRun, IsAnswer, Joins, answer_of, failure_of, fault_of}
use Rattle.client_callbacks.specs.declared.ends.ClientEnd.{ClientEnd}
use Rattle.client_callbacks.specs.declared.ends.Ending.{Ending}
use Rattle.client_callbacks.specs.declared.ends.Ending.TheVariants.{Died, Closed, StreamEnded, Refused, Malformed}
use Rattle.client_callbacks.specs.declared.ends.JoinFault.{JoinFault}
use Rattle.client_callbacks.specs.declared.ends.JoinFault.TheVariants.{Spent}
use Rattle.client_callbacks.specs.declared.progress.Progress.{Progress}
use Rattle.client_callbacks.proofs.DoingLaws.{carries_none, carries_sent, does_as, does_more, does_never, sends_does}
use Rattle.client_callbacks.proofs.Quiet.{heard-append, quiet-front, quiet-turn}

pub some_taken : (n : ℕ) (xs : List ℕ) → n ≤ length xs → (n ≡ 0 → ⊥) → length (take n xs) ≡ 0 → ⊥
some_taken n xs within some none = some (omega (arith, length-take n xs, within, none))

pub none_taken : (n : ℕ) (xs : List ℕ) → n ≡ 0 → take n xs ≡ []
none_taken n xs none = rw none refl

-- ---- the script of receives one after another

going_on : (ending : Option Ending) → ending ≡ None → is_over ending ≡ false
going_on None none = refl
going_on (Some end) none = absurd cc

script_over : (run : Run Keeper) (cames : List Came) → is_over run.keeper.ending ≡ true → script_from run cames ≡ []
script_over run [] over = refl
script_over run (came ∷ more) over = rw over refl

over_after : (run : Run Keeper) (cames : List Came) → is_over run.keeper.ending ≡ true → run_after run cames ≡ run
over_after run [] over = refl
over_after run (came ∷ more) over = rw over refl

-- The first receives leave the run there, and the others go on from it.
parts_append : (run : Run Keeper) (xs ys : List Came) → (script_from run (xs ++ ys) ≡ script_from run xs ++ script_from (run_after run xs) ys) × (run_after run (xs ++ ys) ≡ run_after (run_after run xs) ys)
parts_append run [] ys = (refl, refl)
parts_append run (x ∷ xs) ys = by (parts_append (turn run x.bytes x.replies).next xs ys) (is_over run.keeper.ending) refl
  where
    by : (script_from (turn run x.bytes x.replies).next (xs ++ ys) ≡ script_from (turn run x.bytes x.replies).next xs ++ script_from (run_after (turn run x.bytes x.replies).next xs) ys) × (run_after (turn run x.bytes x.replies).next (xs ++ ys) ≡ run_after (run_after (turn run x.bytes x.replies).next xs) ys) → (b : Bool) → is_over run.keeper.ending ≡ b → (script_from run ((x ∷ xs) ++ ys) ≡ script_from run (x ∷ xs) ++ script_from (run_after run (x ∷ xs)) ys) × (run_after run ((x ∷ xs) ++ ys) ≡ run_after (run_after run (x ∷ xs)) ys)
    by later true over = (rw over (sym (script_over run ys over)), rw over (sym (over_after run ys over)))
    by later false going = (
      rw going (ap (λ (es : List Entry). Hears x.bytes ∷ es) (ap (λ (es : List Entry). (turn run x.bytes x.replies).line ++ es) later.0 ∙ sym (append_assoc (turn run x.bytes x.replies).line (script_from (turn run x.bytes x.replies).next xs) (script_from (run_after (turn run x.bytes x.replies).next xs) ys)))),
      rw going later.1,
    )

script_append : (run : Run Keeper) (xs ys : List Came) → script_from run (xs ++ ys) ≡ script_from run xs ++ script_from (run_after run xs) ys
script_append run xs ys = (parts_append run xs ys).0

run_append : (run : Run Keeper) (xs ys : List Came) → run_after run (xs ++ ys) ≡ run_after (run_after run xs) ys
run_append run xs ys = (parts_append run xs ys).1

-- room that a call wrote to is as long as it was
pub room_kept : (len : ℕ) (new items : List ℕ) → length new ≡ 4096 → length items ≡ 4096 → len ≡ 4096 → length (take len (new ++ drop (length new) items)) ≡ 4096
room_kept len new items is_new is_old is_len = omega (arith, length-take len (new ++ drop (length new) items), length-append new (drop (length new) items), length-drop (length new) items, is_new, is_old, is_len)

pub faulted : (fault : JoinFault) (failure : Failure) → fault ≡ fault_of failure → ◌≡◌ {A = Result ClientEnd JoinFault} (Err fault) (Err (fault_of failure))
faulted fault failure same = ap (λ (f : JoinFault). let r : Result ClientEnd JoinFault = Err f in r) same

-- ---- the answer

whole : (ending : Ending) → failure_of (answer_of ending) ≡ None
whole Died = refl
whole Closed = refl
whole (StreamEnded phase) = refl
whole (Refused class) = refl
whole (Malformed at) = refl

ended_so : (ending : Ending) (place : Option Ending) (heard turns : ℕ) (left : List Entry) → place ≡ Some ending → IsAnswer (answer_of ending) place heard turns left
ended_so Died place heard turns left over = (Died, over, refl)
ended_so Closed place heard turns left over = (Closed, over, refl)
ended_so (StreamEnded phase) place heard turns left over = (StreamEnded phase, over, refl)
ended_so (Refused class) place heard turns left over = (Refused class, over, refl)
ended_so (Malformed at) place heard turns left over = (Malformed at, over, refl)

cut_failure : (failure : Failure) → Some failure ≡ failure_of (Err (fault_of failure))
cut_failure Failed = refl
cut_failure NoMemory = refl

cut_answer : (failure : Failure) (place : Option Ending) (heard turns : ℕ) (left : List Entry) → (Some failure ≡ Some Failed → IsUnsent left ⊎ ((left ≡ []) × (heard < turns) × (is_over place ≡ false))) → IsAnswer (Err (fault_of failure)) place heard turns left
cut_answer Failed place heard turns left why = why refl
cut_answer NoMemory place heard turns left why = tt

-- A message wasn't sent, or nothing came in a turn.
why : (run : Run Keeper) (xs ys : List Came) (heard turns : ℕ) (left : List Entry) → length xs ≡ heard → heard < turns → is_over (run_after run xs).keeper.ending ≡ false → IsUnsent left ⊎ ((left ≡ []) × (ys ≡ [])) → IsUnsent left ⊎ ((left ≡ []) × (length (xs ++ ys) < turns) × (is_over (run_after run (xs ++ ys)).keeper.ending ≡ false))
why run xs ys heard turns left many few going (inl unsent) = inl unsent
why run xs ys heard turns left many few going (inr silent) =
    let same : xs ++ ys ≡ xs = ap (λ (cs : List Came). xs ++ cs) silent.1 ∙ append-nil xs in
    inr (silent.0, rw same (omega (arith, many, few)), rw same going)

heard_more : (es fs : List Entry) (xs ys : List Came) → heard_in es ≡ bytes_in xs → heard_in fs ≡ bytes_in ys → heard_in (es ++ fs) ≡ bytes_in (xs ++ ys)
heard_more es fs xs ys one two = heard-append es fs ∙ (rw (one, two) (sym (map-append (λ (came : Came). came.bytes) xs ys)))

module _ {S D C : Type 0} (answers : S → SaveAsk → SaveAnswer → S → Type 0) (gives : D → List (List ℕ) → D → Type 0) (hears : C → C → Type 0) where
  abbrev TurnIn : Desk S D C → Desk S D C → Run Keeper → Progress → Option Failure → Type 0
  TurnIn old new run after failure = TakesTurn answers gives hears old new run after failure

  -- ---- a receive

  -- nothing was received
  pub unheard : (old new : Outside) (lines : List (List ℕ)) (callbacks : Callbacks S D C) (run : Run Keeper) (after : Progress) (failure : Failure) → new.told ≡ adds old.told [] → NotFallen old.faults new.faults → IsCaused old.faults new.faults (Some failure) → TurnIn (desk old lines callbacks) (desk new lines callbacks) run after (Some failure)
  unheard old new lines callbacks run after failure told counts cause = record {
    cames = [];
    few = omega arith;
    does = record { done = []; left = []; parts = refl; none_left = λ e. refl; told = told; lines = sym (append-nil lines); follows = refl; counts = counts; cause = cause };
    heard = refl;
    unsent = λ e. inr (refl, refl);
    one = λ e. absurd cc;
    next = λ e. absurd cc;
  }

  -- these bytes were received
  hears_does : (old new : Outside) (lines : List (List ℕ)) (callbacks : Callbacks S D C) (bytes : List ℕ) → new.told ≡ adds old.told (Heard (received bytes) ∷ []) → NotFallen old.faults new.faults → Does answers gives hears (desk old lines callbacks) (desk new lines callbacks) (Hears bytes ∷ []) None
  hears_does old new lines callbacks bytes told counts = record { done = Hears bytes ∷ []; left = []; parts = refl; none_left = λ e. refl; told = told; lines = sym (append-nil lines); follows = refl; counts = counts; cause = tt }

  -- what one receive brings
  turn_by : (old middle : Outside) (new : Desk S D C) (lines : List (List ℕ)) (callbacks : Callbacks S D C) (run : Run Keeper) (bytes : List ℕ) (replies : List Replies) (after : Progress) (failure : Option Failure) → is_over run.keeper.ending ≡ false → middle.told ≡ adds old.told (Heard (received bytes) ∷ []) → NotFallen old.faults middle.faults → CarriesOut answers gives hears (desk middle lines callbacks) new (turn run bytes replies).line failure → (failure ≡ None → IsRun (turn run bytes replies).next after) → TurnIn (desk old lines callbacks) new run after failure
  unfolding does_as does_more
  turn_by old middle new lines callbacks run bytes replies after failure going told counts carries next =
      let came : Came = record { bytes = bytes; replies = replies } in
      let t : Step (Run Keeper) Entry = turn run bytes replies in
      let same : Hears bytes ∷ t.line ≡ script_from run (came ∷ []) = rw going (ap (λ (l : List Entry). Hears bytes ∷ l) (sym (append-nil t.line))) in
      record {
        cames = came ∷ [];
        few = omega arith;
        does = does_as answers gives hears (desk old lines callbacks) new (Hears bytes ∷ t.line) (script_from run (came ∷ [])) failure same (does_more answers gives hears (desk old lines callbacks) (desk middle lines callbacks) new (Hears bytes ∷ []) t.line failure (hears_does old middle lines callbacks bytes told counts) carries.does);
        heard = ap (λ (bs : List (List ℕ)). bytes ∷ bs) (quiet-front carries.does.done carries.does.left t.line carries.does.parts (quiet-turn run bytes replies));
        unsent = λ e. inl (carries.unsent e);
        one = λ e. refl;
        next = λ e. rw going (next e);
      }

  -- the stream's end
  pub turn_ended : (old new : Outside) (lines : List (List ℕ)) (callbacks : Callbacks S D C) (run : Run Keeper) (bytes : List ℕ) (before after : Progress) → bytes ≡ [] → IsRun run before → before.ending ≡ None → new.told ≡ adds old.told (Heard (received bytes) ∷ []) → NotFallen old.faults new.faults → keeper_of after ≡ over (StreamEnded (phase_at before.core.talk.place)) (keeper_of before) → after.core.splitter ≡ before.core.splitter → TurnIn (desk old lines callbacks) (desk new lines callbacks) run after None
  turn_ended old new lines callbacks run bytes before after none is_run going told counts stands same =
      let still : is_over run.keeper.ending ≡ false = ap (λ (k : Keeper). is_over k.ending) (sym is_run.keeper) ∙ going_on before.ending going in
      turn_by old new (desk new lines callbacks) lines callbacks run [] [] after None still (rw none at told) counts (carries_none answers gives hears (desk new lines callbacks))
      (λ e. record {
        keeper = stands ∙ ap (λ (k : Keeper). over (StreamEnded (phase_at k.talk.place)) k) is_run.keeper;
        feeds = λ listens. same ∙ is_run.feeds (ap (λ (k : Keeper). is_listening k.talk.place) (sym stands) ∙ listens);
      })

  -- a piece
  pub turn_taken : (old middle : Outside) (new : Desk S D C) (lines : List (List ℕ)) (callbacks : Callbacks S D C) (run : Run Keeper) (bytes : List ℕ) (before after : Progress) (failure : Option Failure) → (length bytes ≡ 0 → ⊥) → IsRun run before → before.ending ≡ None → middle.told ≡ adds old.told (Heard (received bytes) ∷ []) → NotFallen old.faults middle.faults → TakesPiece answers gives hears (desk middle lines callbacks) new run bytes after failure → TurnIn (desk old lines callbacks) new run after failure
  turn_taken old middle new lines callbacks run [] before after failure some is_run going told counts takes = absurd (some refl)
  turn_taken old middle new lines callbacks run (b ∷ bytes) before after failure some is_run going told counts takes =
      turn_by old middle new lines callbacks run (b ∷ bytes) takes.replies after failure (ap (λ (k : Keeper). is_over k.ending) (sym is_run.keeper) ∙ going_on before.ending going) told counts takes.does takes.next

  -- ---- a run

  -- In the middle of a run: what was received, and that the script for it was followed.
  pub record Under (old now : Desk S D C) (run : Run Keeper) (heard : ℕ) (progress : Progress) : Type 0 where
    pub cames : List Came
    pub many : length cames ≡ heard
    pub does : Does answers gives hears old now (script_from run cames) None
    pub bytes : heard_in (script_from run cames) ≡ bytes_in cames
    pub runs : IsRun (run_after run cames) progress
    pub going : progress.ending ≡ None

  pub under_begun : (d : Desk S D C) (run : Run Keeper) (progress : Progress) → IsRun run progress → progress.ending ≡ None → Under d d run 0 progress
  under_begun d run progress is_run going = record { cames = []; many = refl; does = (carries_none answers gives hears d).does; bytes = refl; runs = is_run; going = going }

  -- what one more turn brought
  turned : (old now later : Desk S D C) (run : Run Keeper) (xs ys : List Came) (failure : Option Failure) → Does answers gives hears old now (script_from run xs) None → Does answers gives hears now later (script_from (run_after run xs) ys) failure → Does answers gives hears old later (script_from run (xs ++ ys)) failure
  turned old now later run xs ys failure one two =
      does_as answers gives hears old later (script_from run xs ++ script_from (run_after run xs) ys) (script_from run (xs ++ ys)) failure (sym (script_append run xs ys))
      (does_more answers gives hears old now later (script_from run xs) (script_from (run_after run xs) ys) failure one two)

  pub under_more : (old now later : Desk S D C) (run : Run Keeper) (heard next : ℕ) (before after : Progress) → next ≡ heard + 1 → (under : Under old now run heard before) → TurnIn now later (run_after run under.cames) after None → after.ending ≡ None → Under old later run next after
  under_more old now later run heard next before after is_next under takes going =
      let all : takes.does.done ≡ script_from (run_after run under.cames) takes.cames = sym (append-nil takes.does.done) ∙ (ap (λ (es : List Entry). takes.does.done ++ es) (sym (takes.does.none_left refl)) ∙ takes.does.parts) in
      record {
        cames = under.cames ++ takes.cames;
        many = omega (arith, length-append under.cames takes.cames, under.many, takes.one refl, is_next);
        does = turned old now later run under.cames takes.cames None under.does takes.does;
        bytes = ap heard_in (script_append run under.cames takes.cames) ∙ heard_more (script_from run under.cames) (script_from (run_after run under.cames) takes.cames) under.cames takes.cames under.bytes (ap heard_in (sym all) ∙ takes.heard);
        runs = subst (λ (r : Run Keeper). IsRun r after) (sym (run_append run under.cames takes.cames)) (takes.next refl);
        going = going;
      }

  -- a run that ended so, where this is what failed
  follows_by : (old new : Desk S D C) (run : Run Keeper) (turns : ℕ) (cames : List Came) (failure : Option Failure) (answer : Result ClientEnd JoinFault) → failure ≡ failure_of answer → (does : Does answers gives hears old new (script_from run cames) failure) → heard_in does.done ≡ bytes_in cames → IsAnswer answer (run_after run cames).keeper.ending (length cames) turns does.left → length cames ≤ turns → FollowsRun answers gives hears run turns old new answer
  follows_by old new run turns cames failure answer same =
      let P : Option Failure → Type 0 = λ f. (does : Does answers gives hears old new (script_from run cames) f) → heard_in does.done ≡ bytes_in cames → IsAnswer answer (run_after run cames).keeper.ending (length cames) turns does.left → length cames ≤ turns → FollowsRun answers gives hears run turns old new answer in
      subst P (sym same) (λ does heard is few. record { cames = cames; does = does; heard = heard; answer = is; in_turns = few })

  -- the client is at its end
  pub follows_ended : (old now later : Desk S D C) (run : Run Keeper) (heard turns : ℕ) (before after : Progress) (ending : Ending) (answer : Result ClientEnd JoinFault) → heard < turns → (under : Under old now run heard before) → TurnIn now later (run_after run under.cames) after None → after.ending ≡ Some ending → answer ≡ answer_of ending → FollowsRun answers gives hears run turns old later answer
  unfolding turned does_as does_more
  follows_ended old now later run heard turns before after ending answer few under takes over is_answer =
      let cames : List Came = under.cames ++ takes.cames in
      let stands : (run_after run cames).keeper.ending ≡ Some ending = ap (λ (r : Run Keeper). r.keeper.ending) (run_append run under.cames takes.cames) ∙ (ap (λ (k : Keeper). k.ending) (sym (takes.next refl).keeper) ∙ over) in
      let does : Does answers gives hears old later (script_from run cames) None = turned old now later run under.cames takes.cames None under.does takes.does in
      rw is_answer (follows_by old later run turns cames None (answer_of ending) (sym (whole ending)) does (heard_more (script_from run under.cames) takes.does.done under.cames takes.cames under.bytes takes.heard) (ended_so ending (run_after run cames).keeper.ending (length cames) turns does.left stands) (omega (arith, length-append under.cames takes.cames, under.many, takes.one refl, few)))

  pub follows_failed : (old now later : Desk S D C) (run : Run Keeper) (heard turns : ℕ) (before after : Progress) (failure : Failure) (answer : Result ClientEnd JoinFault) → heard < turns → (under : Under old now run heard before) → TurnIn now later (run_after run under.cames) after (Some failure) → answer ≡ Err (fault_of failure) → FollowsRun answers gives hears run turns old later answer
  unfolding turned does_as does_more
  follows_failed old now later run heard turns before after failure answer few under takes is_fault =
      let cames : List Came = under.cames ++ takes.cames in
      let does : Does answers gives hears old later (script_from run cames) (Some failure) = turned old now later run under.cames takes.cames (Some failure) under.does takes.does in
      let still : is_over (run_after run under.cames).keeper.ending ≡ false = ap (λ (k : Keeper). is_over k.ending) (sym under.runs.keeper) ∙ going_on before.ending under.going in
      rw is_fault (follows_by old later run turns cames (Some failure) (Err (fault_of failure)) (cut_failure failure) does (heard_more (script_from run under.cames) takes.does.done under.cames takes.cames under.bytes takes.heard)
      (cut_answer failure (run_after run cames).keeper.ending (length cames) turns does.left (λ e. why run under.cames takes.cames heard turns takes.does.left under.many few still (takes.unsent e)))
      (omega (arith, length-append under.cames takes.cames, under.many, takes.few, few)))

  pub follows_spent : (old now : Desk S D C) (run : Run Keeper) (heard turns : ℕ) (progress : Progress) → heard ≡ turns → Under old now run heard progress → FollowsRun answers gives hears run turns old now (Err Spent)
  follows_spent old now run heard turns progress all under =
      let done : under.does.done ≡ script_from run under.cames = sym (append-nil under.does.done) ∙ (ap (λ (es : List Entry). under.does.done ++ es) (sym (under.does.none_left refl)) ∙ under.does.parts) in
      record {
        cames = under.cames;
        does = under.does;
        heard = ap heard_in done ∙ under.bytes;
        answer = (under.many ∙ all, ap (λ (k : Keeper). is_over k.ending) (sym under.runs.keeper) ∙ going_on progress.ending under.going);
        in_turns = omega (arith, under.many, all);
      }

  -- ---- the whole run

  -- nothing was said, for want of memory
  pub joins_never : (d : Desk S D C) (cookie : Cookie) (previous : List ℕ) (saves turns : ℕ) → Joins answers gives hears cookie previous saves turns d d (Err (fault_of NoMemory))
  unfolding does_never
  joins_never d cookie previous saves turns = record { cames = []; does = does_never answers gives hears d (script cookie previous saves []); heard = refl; answer = tt; in_turns = omega arith }

  -- the first message couldn't be sent
  pub not_begun : (old new : Outside) (lines : List (List ℕ)) (callbacks : Callbacks S D C) (cookie : Cookie) (previous : List ℕ) (saves turns : ℕ) (failure : Failure) (answer : Result ClientEnd JoinFault) → Sends old new (Ice (ByteOrder Lsb) ∷ []) (Some failure) → answer ≡ Err (fault_of failure) → Joins answers gives hears cookie previous saves turns (desk old lines callbacks) (desk new lines callbacks) answer
  not_begun old new lines callbacks cookie previous saves turns failure answer sends is_fault =
      let first : List Entry = Says (Ice (ByteOrder Lsb)) ∷ [] in
      let carries : CarriesOut answers gives hears (desk old lines callbacks) (desk new lines callbacks) first (Some failure) = carries_sent answers gives hears old new lines callbacks (Ice (ByteOrder Lsb) ∷ []) (Some failure) sends in
      rw is_fault (by (Some failure) (cut_failure failure) carries.does (quiet-front carries.does.done carries.does.left first carries.does.parts refl) (cut_answer failure None 0 turns carries.does.left (λ e. inl (carries.unsent e))))
    where
      by : (f : Option Failure) → f ≡ failure_of (Err (fault_of failure)) → (does : Does answers gives hears (desk old lines callbacks) (desk new lines callbacks) (Says (Ice (ByteOrder Lsb)) ∷ []) f) → heard_in does.done ≡ [] → IsAnswer (Err (fault_of failure)) None 0 turns does.left → Joins answers gives hears cookie previous saves turns (desk old lines callbacks) (desk new lines callbacks) (Err (fault_of failure))
      by f same =
          let P : Option Failure → Type 0 = λ f. (does : Does answers gives hears (desk old lines callbacks) (desk new lines callbacks) (Says (Ice (ByteOrder Lsb)) ∷ []) f) → heard_in does.done ≡ [] → IsAnswer (Err (fault_of failure)) None 0 turns does.left → Joins answers gives hears cookie previous saves turns (desk old lines callbacks) (desk new lines callbacks) (Err (fault_of failure)) in
          subst P (sym same) (λ does heard is. record { cames = []; does = does; heard = heard; answer = is; in_turns = omega arith })

  -- the first message was sent, and then the run was followed
  pub joined : (old mid : Outside) (new : Desk S D C) (lines : List (List ℕ)) (callbacks : Callbacks S D C) (cookie : Cookie) (previous : List ℕ) (saves turns : ℕ) (answer : Result ClientEnd JoinFault) → Sends old mid (Ice (ByteOrder Lsb) ∷ []) None → FollowsRun answers gives hears (start cookie previous saves) turns (desk mid lines callbacks) new answer → Joins answers gives hears cookie previous saves turns (desk old lines callbacks) new answer
  unfolding does_more
  joined old mid new lines callbacks cookie previous saves turns answer sends follows = record {
    cames = follows.cames;
    does = does_more answers gives hears (desk old lines callbacks) (desk mid lines callbacks) new (Says (Ice (ByteOrder Lsb)) ∷ []) (script_from (start cookie previous saves) follows.cames) (failure_of answer) (sends_does answers gives hears old mid lines callbacks (Ice (ByteOrder Lsb) ∷ []) None sends) follows.does;
    heard = follows.heard;
    answer = follows.answer;
    in_turns = follows.in_turns;
  }
