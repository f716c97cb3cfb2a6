-- A program is started once at most for each logout.
use Rattle.std.proofs.Common.{◌≡◌, ◌⊎◌, inl, inr, Bool, true, false, cond, refl, sym, ◌∙◌, ap}
use Rattle.std.proofs.lemmas.Bool.{false≢true}
use Rattle.std.specs.Prelude.{is_some}
use Rattle.client_machine.specs.declared.saves.SaveAsk.{SaveAsk}
use Rattle.client_machine.specs.declared.saves.Stage.{Stage}
use Rattle.client_machine.specs.declared.saves.Stage.TheVariants.{First, Second, Talking, TalkingTwo}
use Rattle.client_engine.specs.declared.hearing.Cue.TheVariants.{Nothing, Registered, Save, Cancelled, Complete, Die, Properties, Refused, Malformed}
use Rattle.ice_values.specs.declared.saves.SaveKind.{SaveKind}
use Rattle.ice_values.specs.declared.saves.SaveStyle.{SaveStyle}
use Rattle.program_keeper.specs.Due.{Came, StartsAreEarned, happened, noted}
use Rattle.program_keeper.specs.Due.Came.{Cued, Shown, HasEnded, HasFailed, Passed}
use Rattle.program_keeper.specs.Programs.{is_closed, is_joined, is_leaving, talked}
use Rattle.program_keeper.specs.Script.{Keeper, closing, is_idle, is_talking, knows, leaving, moving, settled, talking}
use Rattle.program_keeper.specs.Talking.{turn_taken}
use Rattle.program_keeper.specs.declared.program.Life.{Life}
use Rattle.program_keeper.specs.declared.program.Life.TheVariants.{Here, Starting, Gone}
use Rattle.program_keeper.specs.declared.program.Outcome.TheVariants.{Open, Agreed, Closed}
use Rattle.program_keeper.specs.declared.program.Program.{Program}
use Rattle.program_keeper.specs.declared.talk.Move.{Move}
use Rattle.program_keeper.specs.declared.talk.Move.TheVariants.{Agree, Refuse, Close, Show, Wait}

-- ---- without the token

closed_so : (joined : Bool) (keeper : Keeper) → is_joined keeper.program.stay ≡ joined → (closing keeper).next.program ≡ keeper.program
closed_so true keeper is = rw is refl
closed_so false keeper is = rw is refl

left_so : (keeper : Keeper) → (leaving keeper).next.program.outcome ≡ keeper.program.outcome
left_so keeper = ap (λ (p : Program). p.outcome) (closed_so (is_joined keeper.program.stay) keeper refl)

quiet_by : (leaves : Bool) (keeper : Keeper) → is_talking keeper ≡ false → is_leaving keeper.program (is_idle keeper) ≡ leaves → (settled keeper).next.program.outcome ≡ keeper.program.outcome
quiet_by true keeper silent is = rw (silent, is) (left_so keeper)
quiet_by false keeper silent is = rw (silent, is) refl

quiet : (keeper : Keeper) → is_talking keeper ≡ false → (settled keeper).next.program.outcome ≡ keeper.program.outcome
quiet keeper silent = quiet_by (is_leaving keeper.program (is_idle keeper)) keeper silent refl

-- ---- with the token

-- it was closed before, or a window was asked in the talk that has ended
abbrev Earned : Keeper → Keeper → Type 0
Earned before after = is_closed after.program.outcome ≡ true → (is_closed before.program.outcome ≡ true) ⊎ (is_some after.program.talk.asked ≡ true)

earned_agreed : (asked : Bool) → is_closed (cond asked Closed Agreed) ≡ true → asked ≡ true
earned_agreed true is = refl
earned_agreed false is = absurd (false≢true is)

earned_moving : (move : Move) (keeper : Keeper) → Earned keeper (moving move keeper).next
earned_moving Agree keeper is = inr (earned_agreed (is_some keeper.program.talk.asked) is)
earned_moving Refuse keeper is = inl is
earned_moving (Close number) keeper is = inl is
earned_moving (Show number) keeper is = inl is
earned_moving Wait keeper is = inl is

earned_talking : (life : Life) (keeper : Keeper) → Earned keeper (talking life keeper).next
earned_talking Here keeper is = earned_moving (turn_taken keeper.program.windows keeper.program.talk).move (knows (talked keeper.program) keeper) is
earned_talking Starting keeper is = inl is
earned_talking Gone keeper is = earned_moving Agree keeper is

abbrev Grants : Keeper → Type 0
Grants keeper = is_closed (settled keeper).next.program.outcome ≡ true → (is_closed keeper.program.outcome ≡ true) ⊎ (is_talking keeper ≡ true) × (is_some (settled keeper).next.program.talk.asked ≡ true)

granted_by : (talks : Bool) (keeper : Keeper) → is_talking keeper ≡ talks → Grants keeper
granted_by true keeper token = rw token (λ is. by_talk (earned_talking keeper.program.life keeper is))
  where
    by_talk : (is_closed keeper.program.outcome ≡ true) ⊎ (is_some (talking keeper.program.life keeper).next.program.talk.asked ≡ true)
        → (is_closed keeper.program.outcome ≡ true) ⊎ (true ≡ true) × (is_some (talking keeper.program.life keeper).next.program.talk.asked ≡ true)
    by_talk (inl before) = inl before
    by_talk (inr asked) = inr (refl, asked)
granted_by false keeper silent = λ is. inl (ap is_closed (sym (quiet keeper silent)) ∙ is)

granted : (keeper : Keeper) → Grants keeper
granted keeper = granted_by (is_talking keeper) keeper refl

-- ---- whatever comes

abbrev Outcomes : Came → Keeper → Type 0
Outcomes came keeper = is_closed (happened came keeper).next.program.outcome ≡ true → (is_closed keeper.program.outcome ≡ true) ⊎ (is_talking (noted came keeper) ≡ true) × (is_some (happened came keeper).next.program.talk.asked ≡ true)

-- nothing is known of a closed one
forgotten : (A : Type 0) → (is_closed Open ≡ true) ⊎ A → (P : Type 0) → P ⊎ A
forgotten A (inl is) P = absurd (false≢true is)
forgotten A (inr here) P = inr here

earned_save : (stage : Stage) (kind : SaveKind) (shutdown : Bool) (style : SaveStyle) (fast : Bool) (keeper : Keeper) → (let ask : SaveAsk = record { stage = stage; kind = kind; shutdown = shutdown; style = style; fast = fast } in Outcomes (Cued (Save ask)) keeper)
earned_save First kind shutdown style fast keeper is = absurd (false≢true is)
earned_save Second kind shutdown style fast keeper is = inl is
earned_save Talking kind shutdown style fast keeper is =
    let ask : SaveAsk = record { stage = Talking; kind = kind; shutdown = shutdown; style = style; fast = fast } in granted (noted (Cued (Save ask)) keeper) is
earned_save TalkingTwo kind shutdown style fast keeper is =
    let ask : SaveAsk = record { stage = TalkingTwo; kind = kind; shutdown = shutdown; style = style; fast = fast } in granted (noted (Cued (Save ask)) keeper) is

earned : (came : Came) (keeper : Keeper) → Outcomes came keeper
earned (Cued Nothing) keeper is = inl is
earned (Cued (Registered id)) keeper is = granted keeper is
earned (Cued (Save ask)) keeper is = earned_save ask.stage ask.kind ask.shutdown ask.style ask.fast keeper is
earned (Cued Cancelled) keeper is = forgotten _ (granted (noted (Cued Cancelled) keeper) is) (is_closed keeper.program.outcome ≡ true)
earned (Cued Complete) keeper is = forgotten _ (granted (noted (Cued Complete) keeper) is) (is_closed keeper.program.outcome ≡ true)
earned (Cued Die) keeper is = granted (noted (Cued Die) keeper) is
earned (Cued (Properties list)) keeper is = inl is
earned (Cued (Refused class)) keeper is = inl is
earned (Cued (Malformed at)) keeper is = inl is
earned (Shown windows) keeper is = granted (noted (Shown windows) keeper) is
earned HasEnded keeper is = granted (noted HasEnded keeper) is
earned HasFailed keeper is = granted (noted HasFailed keeper) is
earned (Passed elapsed answered) keeper is = granted (noted (Passed elapsed answered) keeper) is

pub starts_are_earned : StartsAreEarned
starts_are_earned = record {
  begun = λ ask keeper. refl;
  spent = λ keeper silent. quiet (noted (Cued Cancelled) keeper) silent;
  earned = earned;
}
