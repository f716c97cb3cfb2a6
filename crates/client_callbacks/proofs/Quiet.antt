-- Nothing is received as parts are taken.
use Rattle.std.proofs.Common.{◌≡◌, ℕ, Bool, true, false, List, [], ◌∷◌, ◌++◌, map, drop, Option, None, Some, refl, sym, ◌∙◌, ap}
use Rattle.std.proofs.lemmas.Grind.{flat_map-append}
use Rattle.ice_framing.specs.Frames.{fed}
use Rattle.ice_framing.specs.Parts.{Part, parts_at}
use Rattle.client_machine.specs.Saves.{at_stage}
use Rattle.client_machine.specs.declared.saves.SaveAnswer.{SaveAnswer}
use Rattle.client_machine.specs.declared.saves.SaveAsk.{SaveAsk}
use Rattle.client_machine.specs.declared.saves.Stage.{Stage}
use Rattle.client_engine.specs.Answering.{after_answer, answer_messages, owed_messages, stage_again}
use Rattle.client_engine.specs.Driving.{Run, Step, part_taken, parts_taken, reply}
use Rattle.client_engine.specs.Hearing.{part_heard}
use Rattle.client_engine.specs.declared.hearing.Cue.{Cue}
use Rattle.client_engine.specs.declared.hearing.Cue.TheVariants.{Nothing, Registered, Save, Cancelled, Complete, Die, Properties, Refused, Malformed}
use Rattle.client_engine.specs.declared.hearing.Heard.{Heard}
use Rattle.protocol_messages.specs.declared.message.Message.{Message}
use Rattle.client_callbacks.specs.Answers.{Replies, unasked}
use Rattle.client_callbacks.specs.Doing.{heard_in, heard_of}
use Rattle.client_callbacks.specs.Script.{Entry, Says, Keeper, answer_line, answered_again, completed, cued, on_client, owes, reacts, talk_of, turn}

pub heard-append : (xs ys : List Entry) → heard_in (xs ++ ys) ≡ heard_in xs ++ heard_in ys
heard-append xs ys = flat_map-append heard_of xs ys

pub no_front : {A : Type 0} (xs ys : List A) → xs ++ ys ≡ [] → xs ≡ []
no_front [] ys none = refl
no_front (x ∷ xs) ys none = absurd cc

-- nor is it in the first of such entries
pub quiet-front : (done left all : List Entry) → done ++ left ≡ all → heard_in all ≡ [] → heard_in done ≡ []
quiet-front done left all parts quiet = no_front (heard_in done) (heard_in left) (sym (heard-append done left) ∙ (ap heard_in parts ∙ quiet))

quiet-both : (xs ys : List Entry) → heard_in xs ≡ [] → heard_in ys ≡ [] → heard_in (xs ++ ys) ≡ []
quiet-both xs ys one two = heard-append xs ys ∙ (rw (one, two) refl)

quiet-said : (ms : List Message) → heard_in (map Says ms) ≡ []
quiet-said [] = refl
quiet-said (m ∷ ms) = quiet-said ms

abbrev IsQuiet : Step Keeper Entry → Type 0
IsQuiet step = heard_in step.line ≡ []

quiet-answer : (ask : SaveAsk) (answer : SaveAnswer) → heard_in (answer_line ask answer) ≡ []
quiet-answer ask answer = quiet-said (answer_messages answer)

quiet-again : (keeper : Keeper) (ask : SaveAsk) (answer : SaveAnswer) (stage : Option Stage) → IsQuiet (answered_again keeper ask answer stage)
quiet-again keeper ask answer None = refl
quiet-again keeper ask answer (Some stage) = quiet-answer (at_stage stage ask) answer

quiet-completed : (keeper : Keeper) (test : Bool) → IsQuiet (completed keeper test)
quiet-completed keeper true = refl
quiet-completed keeper false = refl

quiet-cued : (keeper : Keeper) (r : Replies) (cue : Cue) → IsQuiet (cued keeper r cue)
quiet-cued keeper r Nothing = refl
quiet-cued keeper r (Registered id) = refl
quiet-cued keeper r (Save ask) =
    let again : Step Keeper Entry = answered_again (on_client (after_answer r.first) keeper) ask r.again (stage_again ask.stage) in
    quiet-both (answer_line ask r.first) again.line (quiet-answer ask r.first) (quiet-again (on_client (after_answer r.first) keeper) ask r.again (stage_again ask.stage))
quiet-cued keeper r Cancelled = quiet-said (owed_messages (owes keeper))
quiet-cued keeper r Complete = quiet-completed keeper _
quiet-cued keeper r Die = refl
quiet-cued keeper r (Properties list) = refl
quiet-cued keeper r (Refused class) = refl
quiet-cued keeper r (Malformed at) = refl

quiet-reacts : (keeper : Keeper) (heard : Heard) (r : Replies) → IsQuiet (reacts keeper heard r)
quiet-reacts keeper heard r = quiet-both (map Says heard.said) (cued (record keeper { talk = heard.next }) r heard.cue).line (quiet-said heard.said) (quiet-cued (record keeper { talk = heard.next }) r heard.cue)

quiet-parts : (keeper : Keeper) (parts : List Part) (rs : List Replies) → IsQuiet (parts_taken unasked talk_of reacts keeper parts rs)
quiet-parts keeper [] rs = refl
quiet-parts keeper (part ∷ parts) rs =
    let r : Replies = reply unasked talk_of reacts rs in
    let step : Step Keeper Entry = part_taken unasked talk_of reacts keeper part r in
    quiet-both step.line (parts_taken unasked talk_of reacts step.next parts (drop 1 rs)).line (quiet-reacts keeper (part_heard keeper.talk part) r) (quiet-parts step.next parts (drop 1 rs))

pub quiet-turn : (run : Run Keeper) (bytes : List ℕ) (rs : List Replies) → heard_in (turn run bytes rs).line ≡ []
quiet-turn run [] rs = refl
quiet-turn run (b ∷ bytes) rs = quiet-parts run.keeper (parts_at (fed run.standing (b ∷ bytes))) rs
