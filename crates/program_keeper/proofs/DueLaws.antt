-- Whatever comes to a keeper, it does only what is due.
use Rattle.std.proofs.Common.{◌≡◌, ℕ, Bool, true, false, not, ◌||◌, cond, List, [], ◌∷◌, ◌++◌, map, Option, None, Some, Result, Ok, Err, refl, subst}
use Rattle.std.specs.List.{AllByRecursion}
use Rattle.std.proofs.lemmas.Bool.{and_parts}
use Rattle.ice_values.specs.declared.saves.SaveKind.{SaveKind}
use Rattle.ice_values.specs.declared.saves.SaveStyle.{SaveStyle}
use Rattle.client_machine.specs.Phases.{is_owing}
use Rattle.client_machine.specs.Saves.{step_request}
use Rattle.client_machine.specs.declared.requests.AskRefusal.{AskRefusal}
use Rattle.client_machine.specs.declared.requests.Request.TheVariants.{Close as AskClose}
use Rattle.client_machine.specs.declared.saves.SaveAsk.{SaveAsk}
use Rattle.client_machine.specs.declared.saves.Stage.{Stage}
use Rattle.client_machine.specs.declared.saves.Stage.TheVariants.{First, Second, Talking, TalkingTwo}
use Rattle.client_machine.specs.declared.saves.Step.{Step as SaveStep}
use Rattle.client_machine.specs.declared.saves.Step.TheVariants.{Done, Talked}
use Rattle.client_engine.specs.Answering.{answer_messages, answered_at, owed_messages}
use Rattle.client_engine.specs.declared.hearing.Cue.TheVariants.{Nothing, Registered, Save, Cancelled, Complete, Die, Properties, Refused, Malformed}
use Rattle.protocol_messages.specs.declared.message.Message.{Message}
use Rattle.program_keeper.specs.Due.{ActsAreDue, Came, IsDue, MayAsk, Moves, TalksEndRightly, happened, noted}
use Rattle.program_keeper.specs.Due.Came.{Cued, Shown, HasEnded, HasFailed, Passed}
use Rattle.program_keeper.specs.Programs.{agreed, has_main, is_closed, is_ended_at_once, is_gone, is_joined, is_leaving, is_open, is_over, is_restart, talked}
use Rattle.program_keeper.specs.Script.{Keeper, answering, closing, finishing, first_step, is_idle, is_talking, knows, leaving, moving, owing, passing, phase_of, ping_of, pinging, pings, restarting, says_step, sends, sent, settled, talking}
use Rattle.program_keeper.specs.Talking.{MayMove, turn_taken}
use Rattle.program_keeper.specs.declared.acts.KeeperAct.{KeeperAct}
use Rattle.program_keeper.specs.declared.acts.KeeperAct.TheVariants.{Term, Start, Drop}
use Rattle.program_keeper.specs.declared.program.Life.{Life}
use Rattle.program_keeper.specs.declared.program.Life.TheVariants.{Here, Starting, Gone}
use Rattle.program_keeper.specs.declared.talk.Move.{Move}
use Rattle.program_keeper.specs.declared.talk.Move.TheVariants.{Agree, Refuse, Close as ToClose, Show as ToShow, Wait}
use Rattle.program_keeper.proofs.TalkLaws.{may_turn}

-- ---- what is said and shown is always due

-- an act by which nothing is closed, ended or started but as it is due
module _ (P : KeeperAct → Type 0) where
  abbrev Every : List KeeperAct → Type 0
  Every acts = AllByRecursion P acts

  every_more : (xs ys : List KeeperAct) → Every xs → Every ys → Every (xs ++ ys)
  every_more [] ys first rest = rest
  every_more (x ∷ xs) ys first rest = (first.0, every_more xs ys first.1 rest)

-- what comes to a keeper, and what it is
module _ (came : Came) (keeper : Keeper) where
  abbrev Due : List KeeperAct → Type 0
  Due acts = AllByRecursion (IsDue came keeper) acts

  due_more : (xs ys : List KeeperAct) → Due xs → Due ys → Due (xs ++ ys)
  due_more xs ys first rest = every_more (IsDue came keeper) xs ys first rest

  due_said : (messages : List Message) → Due (map sends messages)
  due_said [] = tt
  due_said (message ∷ messages) = (tt, due_said messages)

  due_sent : (result : Result Message AskRefusal) → Due (sent result)
  due_sent (Ok message) = (tt, tt)
  due_sent (Err refusal) = tt

  due_step : (step : SaveStep) (at : Keeper) → Due (says_step step at).line
  due_step step at = due_sent (answered_at (step_request step) at.talk.place)

  due_finishing : (cancel : Bool) (at : Keeper) → Due (finishing cancel at).line
  due_finishing cancel at = due_more (says_step (Talked cancel) at).line (says_step (Done true) (says_step (Talked cancel) at).next).line (due_step (Talked cancel) at) (due_step (Done true) (says_step (Talked cancel) at).next)

  due_closing : (joined : Bool) (at : Keeper) → is_joined at.program.stay ≡ joined → Due (closing at).line
  due_closing true at is = rw is (due_sent (answered_at (AskClose []) at.talk.place))
  due_closing false at is = rw is (tt, tt)

  due_leaving : (at : Keeper) → Due (leaving at).line
  due_leaving at = due_more (closing at).line (Drop ∷ []) (due_closing (is_joined at.program.stay) at refl) (tt, tt)

  -- a move is due where the window that it closes may be asked
  due_moving : (move : Move) (at : Keeper) → ((number : ℕ) → move ≡ ToClose number → MayAsk (noted came keeper) number) → Due (moving move at).line
  due_moving Agree at may = due_finishing false (knows (agreed at.program) at)
  due_moving Refuse at may = due_finishing true at
  due_moving (ToClose number) at may = (may number refl, tt)
  due_moving (ToShow number) at may = (tt, tt)
  due_moving Wait at may = tt

  -- a window that the talk closes is a main one
  abbrev talk_move : Move
  talk_move = (turn_taken (noted came keeper).program.windows (noted came keeper).program.talk).move

  due_close : is_talking (noted came keeper) ≡ true → (move : Move) (number : ℕ) → MayMove (noted came keeper).program.talk (noted came keeper).program.windows move → move ≡ ToClose number → MayAsk (noted came keeper) number
  due_close token move number may is = record { token = token; main = (subst (λ (m : Move). MayMove (noted came keeper).program.talk (noted came keeper).program.windows m) is may).main }

  due_talking : (life : Life) → is_talking (noted came keeper) ≡ true → Due (talking life (noted came keeper)).line
  due_talking Here token = due_moving talk_move (knows (talked (noted came keeper).program) (noted came keeper)) (λ number is. due_close token talk_move number (may_turn (noted came keeper).program.windows (noted came keeper).program.talk) is)
  due_talking Starting token = tt
  due_talking Gone token = due_moving Agree (noted came keeper) (λ number is. cc)

  due_settled_by : (talks leaves : Bool) → is_talking (noted came keeper) ≡ talks → is_leaving (noted came keeper).program (is_idle (noted came keeper)) ≡ leaves → Due (settled (noted came keeper)).line
  due_settled_by true leaves talks_so leaves_so = rw talks_so (due_talking (noted came keeper).program.life talks_so)
  due_settled_by false true talks_so leaves_so = rw (talks_so, leaves_so) (due_leaving (noted came keeper))
  due_settled_by false false talks_so leaves_so = rw (talks_so, leaves_so) tt

  -- what is done as it goes on is due
  due_settled : Due (settled (noted came keeper)).line
  due_settled = due_settled_by (is_talking (noted came keeper)) (is_leaving (noted came keeper).program (is_idle (noted came keeper))) refl refl

-- ---- what is done before it goes on

due_answering : (ask : SaveAsk) (keeper at : Keeper) (step : SaveStep) → AllByRecursion (IsDue (Cued (Save ask)) keeper) (answering step at).line
due_answering ask keeper at step = due_said (Cued (Save ask)) keeper (answer_messages (record { set = at.set; step = step }))

due_restart : (keeper : Keeper) (again : Bool) → is_restart keeper.program ≡ again → AllByRecursion (IsDue (Cued Cancelled) keeper) (cond again (Start ∷ []) [])
due_restart keeper true is = (record { closed = (and_parts (is_closed keeper.program.outcome) (is_gone keeper.program.life || not (has_main keeper.program.windows)) is).0; bare = (and_parts (is_closed keeper.program.outcome) (is_gone keeper.program.life || not (has_main keeper.program.windows)) is).1 }, tt)
due_restart keeper false is = tt

due_end : (keeper : Keeper) (at_once : Bool) → is_ended_at_once keeper.program ≡ at_once → AllByRecursion (IsDue (Cued Die) keeper) (cond at_once (Term ∷ []) [])
due_end keeper true is = ((and_parts (is_open keeper.program.outcome) (not (is_gone keeper.program.life)) is).0, tt)
due_end keeper false is = tt

due_over : (elapsed : ℕ) (answered : Bool) (keeper : Keeper) (over : Bool) → is_over elapsed keeper.program.stay ≡ over → AllByRecursion (IsDue (Passed elapsed answered) keeper) (cond over (Term ∷ []) [])
due_over elapsed answered keeper true is = (is, tt)
due_over elapsed answered keeper false is = tt

due_pings : (elapsed : ℕ) (answered : Bool) (keeper : Keeper) (due : Option ℕ) → AllByRecursion (IsDue (Passed elapsed answered) keeper) (pings due)
due_pings elapsed answered keeper None = tt
due_pings elapsed answered keeper (Some number) = (tt, tt)

due_cancelled : (keeper : Keeper) → AllByRecursion (IsDue (Cued Cancelled) keeper) (happened (Cued Cancelled) keeper).line
due_cancelled keeper =
    let due : List KeeperAct → Type 0 = λ acts. AllByRecursion (IsDue (Cued Cancelled) keeper) acts in
    due_more (Cued Cancelled) keeper ((owing keeper).line ++ (restarting (owing keeper).next).line) (settled (noted (Cued Cancelled) keeper)).line
    (due_more (Cued Cancelled) keeper (owing keeper).line (restarting (owing keeper).next).line
    (due_said (Cued Cancelled) keeper (owed_messages (is_owing (phase_of keeper)))) (due_restart keeper (is_restart keeper.program) refl)) (due_settled (Cued Cancelled) keeper)

due_save : (stage : Stage) (kind : SaveKind) (shutdown : Bool) (style : SaveStyle) (fast : Bool) (keeper : Keeper)
    → (let ask : SaveAsk = record { stage = stage; kind = kind; shutdown = shutdown; style = style; fast = fast } in AllByRecursion (IsDue (Cued (Save ask)) keeper) (happened (Cued (Save ask)) keeper).line)
due_save First kind shutdown style fast keeper =
    let ask : SaveAsk = record { stage = First; kind = kind; shutdown = shutdown; style = style; fast = fast } in due_answering ask keeper keeper (first_step ask)
due_save Second kind shutdown style fast keeper =
    let ask : SaveAsk = record { stage = Second; kind = kind; shutdown = shutdown; style = style; fast = fast } in due_answering ask keeper keeper (Done true)
due_save Talking kind shutdown style fast keeper =
    let ask : SaveAsk = record { stage = Talking; kind = kind; shutdown = shutdown; style = style; fast = fast } in due_settled (Cued (Save ask)) keeper
due_save TalkingTwo kind shutdown style fast keeper =
    let ask : SaveAsk = record { stage = TalkingTwo; kind = kind; shutdown = shutdown; style = style; fast = fast } in due_settled (Cued (Save ask)) keeper

pub acts_are_due : ActsAreDue
acts_are_due (Cued Nothing) keeper = tt
acts_are_due (Cued (Registered id)) keeper = due_settled (Cued (Registered id)) keeper
acts_are_due (Cued (Save ask)) keeper = due_save ask.stage ask.kind ask.shutdown ask.style ask.fast keeper
acts_are_due (Cued Cancelled) keeper = due_cancelled keeper
acts_are_due (Cued Complete) keeper = due_settled (Cued Complete) keeper
acts_are_due (Cued Die) keeper = due_more (Cued Die) keeper (cond (is_ended_at_once keeper.program) (Term ∷ []) []) (settled (noted (Cued Die) keeper)).line (due_end keeper (is_ended_at_once keeper.program) refl) (due_settled (Cued Die) keeper)
acts_are_due (Cued (Properties list)) keeper = tt
acts_are_due (Cued (Refused class)) keeper = (tt, tt)
acts_are_due (Cued (Malformed at)) keeper = (tt, tt)
acts_are_due (Shown windows) keeper = due_settled (Shown windows) keeper
acts_are_due HasEnded keeper = due_settled HasEnded keeper
acts_are_due HasFailed keeper = due_settled HasFailed keeper
acts_are_due (Passed elapsed answered) keeper =
    due_more (Passed elapsed answered) keeper ((pinging elapsed keeper).line ++ (passing elapsed answered (pinging elapsed keeper).next).line) (settled (noted (Passed elapsed answered) keeper)).line
    (due_more (Passed elapsed answered) keeper (pinging elapsed keeper).line (passing elapsed answered (pinging elapsed keeper).next).line (due_pings elapsed answered keeper (ping_of elapsed keeper)) (due_over elapsed answered keeper (is_over elapsed keeper.program.stay) refl))
    (due_settled (Passed elapsed answered) keeper)

-- ---- the talk

pub talks_end_rightly : TalksEndRightly
talks_end_rightly keeper token = by_life keeper.program.life refl
  where
    by_life : (life : Life) → keeper.program.life ≡ life → Moves keeper
    by_life Here is = record {
      move = (turn_taken keeper.program.windows keeper.program.talk).move;
      behind = knows (talked keeper.program) keeper;
      may = rw is (may_turn keeper.program.windows keeper.program.talk);
      made = rw (token, is) refl;
    }
    by_life Starting is = record { move = Wait; behind = keeper; may = rw is refl; made = rw (token, is) refl }
    by_life Gone is = record { move = Agree; behind = keeper; may = rw is refl; made = rw (token, is) refl }
