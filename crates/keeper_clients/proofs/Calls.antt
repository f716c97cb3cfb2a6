-- A call that gives something wanted for no memory, and so it is free.
use Rattle.std.proofs.Common.{◌≡◌, ◌≢◌, ◌⊎◌, inl, inr, ℕ, false, List, [], ◌∷◌, ◌++◌, map, drop, Option, None, Some, option_map, refl, ◌∙◌, ap}
use Rattle.std.specs.List.{AllByRecursion}
use Rattle.ice_framing.specs.Frames.{fed}
use Rattle.ice_framing.specs.Parts.{Part, parts_at}
use Rattle.checkpoint_records.proofs.DistinctLaws.{all_append}
use Rattle.client_machine.specs.Phases.{is_owing}
use Rattle.client_machine.specs.declared.saves.SaveAnswer.{SaveAnswer}
use Rattle.client_machine.specs.declared.saves.SaveAsk.{SaveAsk}
use Rattle.client_machine.specs.declared.saves.Stage.{Stage}
use Rattle.client_engine.specs.Answering.{after_answer, answer_messages, owed_messages, stage_again}
use Rattle.client_engine.specs.Driving.{Step, behind, parts_taken, reply}
use Rattle.client_engine.specs.Hearing.{part_heard}
use Rattle.client_engine.specs.Messages.{spelled}
use Rattle.client_engine.specs.Places.{is_listening, phase_at}
use Rattle.client_engine.specs.declared.hearing.Cue.{Cue}
use Rattle.client_engine.specs.declared.hearing.Cue.TheVariants.{Cancelled, Complete, Die, Malformed, Nothing, Properties, Refused, Registered, Save}
use Rattle.client_engine.specs.declared.hearing.Heard.{Heard}
use Rattle.client_engine.proofs.Driven.{deaf_parts}
use Rattle.protocol_messages.specs.declared.message.Message.{Message}
use Rattle.named_joiner.specs.Doing.{Follows, bytes_of}
use Rattle.named_joiner.specs.Script.{AsksReasons, AsksSave, Callbacks, Entry, Keeper, Replies, Says, answer_line, answered, answered_again, cued, died, named, next_stage, on_client, piece_heard, reacts, stand_at, talk_of, unasked}
use Rattle.named_joiner.specs.declared.callbacks.NamedAsk.{NamedAsk}
use Rattle.named_joiner.specs.declared.ends.Ending.{Ending}
use Rattle.named_joiner.specs.declared.ends.Ending.TheVariants.{Ended, Starved}
use Rattle.named_joiner.specs.declared.ends.NamedEnd.{NamedEnd}
use Rattle.named_joiner.proofs.PieceLaws.{stays_stopped}
use Rattle.keeper_clients.specs.Freedom.{HearsFreely}
use Rattle.keeper_clients.specs.Named.{AnswersLawfully, CallsAreFree, IsAnswered}
use Rattle.keeper_clients.proofs.Named.{hears-free}

-- ---- nothing was wanting

abbrev IsThere : Entry → Type 0
IsThere (AsksSave asked None) = ⊥
IsThere (AsksReasons None) = ⊥
IsThere entry = Unit {0}

abbrev AreThere : List Entry → Type 0
AreThere line = AllByRecursion IsThere line

-- where something was, it stopped
abbrev Wants : Step Keeper Entry → Type 0
Wants s = AreThere s.line ⊎ ((s.next.ending ≡ Some Starved) × (is_listening s.next.talk.place ≡ false))

said-there : (messages : List Message) → AreThere (map Says messages)
said-there [] = tt
said-there (m ∷ ms) = (tt, said-there ms)

again-wants : (keeper : Keeper) (ask : SaveAsk) (answer : Option SaveAnswer) (stage : Option Stage) → Wants (answered_again keeper ask answer stage)
again-wants keeper ask answer None = inl tt
again-wants keeper ask None (Some stage) = inr (refl, refl)
again-wants keeper ask (Some answer) (Some stage) = inl (tt, said-there (answer_messages answer))

-- with what was there in front
front-wants : (line : List Entry) (s : Step Keeper Entry) → AreThere line → Wants s → Wants (behind line s)
front-wants line s there (inl all) = inl (all_append IsThere line s.line there all)
front-wants line s there (inr stops) = inr stops

save-wants : (keeper : Keeper) (ask : SaveAsk) (first again : Option SaveAnswer) → Wants (behind (answered keeper ask first).line (answered_again (answered keeper ask first).next ask again (next_stage first ask.stage)))
save-wants keeper ask None again = inr (refl, refl)
save-wants keeper ask (Some answer) again =
    front-wants (answer_line (named keeper ask) answer) (answered_again (on_client (after_answer answer) keeper) ask again (stage_again ask.stage)) (tt, said-there (answer_messages answer)) (again-wants (on_client (after_answer answer) keeper) ask again (stage_again ask.stage))

die-wants : (keeper : Keeper) (reasons : Option (List (List ℕ))) → Wants (died keeper reasons)
die-wants keeper None = inr (refl, refl)
die-wants keeper (Some reasons) = inl (tt, (tt, tt))

cue-wants : (keeper : Keeper) (r : Replies) (cue : Cue) → Wants (cued keeper r cue)
cue-wants keeper r Nothing = inl tt
cue-wants keeper r (Registered id) = inl tt
cue-wants keeper r (Save ask) = save-wants keeper ask r.first r.again
cue-wants keeper r Cancelled = inl (said-there (owed_messages (is_owing (phase_at keeper.talk.place))))
cue-wants keeper r Complete = inl tt
cue-wants keeper r Die = die-wants keeper r.reasons
cue-wants keeper r (Properties list) = inl tt
cue-wants keeper r (Refused class) = inl tt
cue-wants keeper r (Malformed at) = inl tt

part-wants : (keeper : Keeper) (heard : Heard) (r : Replies) → Wants (reacts keeper heard r)
part-wants keeper heard r = front-wants (map Says heard.said) (cued (stand_at heard.next keeper) r heard.cue) (said-there heard.said) (cue-wants (stand_at heard.next keeper) r heard.cue)

-- one who isn't spent for want of memory had all answers
parts-there : (keeper : Keeper) (parts : List Part) (rs : List Replies) → (parts_taken unasked talk_of reacts keeper parts rs).next.ending ≢ Some Starved → AreThere (parts_taken unasked talk_of reacts keeper parts rs).line
parts-there keeper [] rs fed_well = tt
parts-there keeper (part ∷ parts) rs fed_well = by (part-wants keeper (part_heard keeper.talk part) r) (parts-there s.next parts (drop 1 rs) fed_well) where
  r : Replies
  r = reply unasked talk_of reacts rs

  s : Step Keeper Entry
  s = reacts keeper (part_heard keeper.talk part) r

  by : Wants s → AreThere (parts_taken unasked talk_of reacts s.next parts (drop 1 rs)).line → AreThere (s.line ++ (parts_taken unasked talk_of reacts s.next parts (drop 1 rs)).line)
  by (inl all) rest = all_append IsThere s.line (parts_taken unasked talk_of reacts s.next parts (drop 1 rs)).line all rest
  by (inr stops) rest =
      let still : parts_taken unasked talk_of reacts s.next parts (drop 1 rs) ≡ record { line = []; next = s.next } = deaf_parts unasked talk_of reacts stays_stopped s.next parts (drop 1 rs) stops.1 in
      absurd (fed_well (ap (λ (x : Step Keeper Entry). x.next.ending) still ∙ stops.0))

-- ---- and the answers are lawful

module _ {S D : Type 0} (answers : S → NamedAsk → Option SaveAnswer → S → Type 0) (gives : D → Option (List (List ℕ)) → D → Type 0) where
  answered-line : AnswersLawfully answers gives → (line : List Entry) (old new : Callbacks S D) → Follows answers gives line old new → AreThere line → AllByRecursion IsAnswered line
  answered-line lawful [] old new f there = tt
  answered-line lawful (Says message ∷ line) old new f there = (tt, answered-line lawful line old new f there.1)
  answered-line lawful (AsksSave asked None ∷ line) old new f there = absurd there.0
  answered-line lawful (AsksSave asked (Some answer) ∷ line) old new f there = (lawful old.save asked answer f.0 f.1, answered-line lawful line (record old { save = f.0 }) new f.2 there.1)
  answered-line lawful (AsksReasons None ∷ line) old new f there = absurd there.0
  answered-line lawful (AsksReasons (Some reasons) ∷ line) old new f there = (tt, answered-line lawful line (record old { die = f.0 }) new f.2 there.1)

  not-starved : (end : Option NamedEnd) (ending : Option Ending) → option_map Ended end ≡ ending → ending ≢ Some Starved
  not-starved None ending is starved = (let bad : ◌≡◌ {A = Option Ending} None (Some Starved) = is ∙ starved in absurd cc)
  not-starved (Some end) ending is starved = (let bad : ◌≡◌ {A = Option Ending} (Some (Ended end)) (Some Starved) = is ∙ starved in absurd cc)

  pub calls-free : CallsAreFree answers gives
  calls-free reply old new run free piece lawful meets replied =
      let line : List Entry = (piece_heard run piece replied.replies).line in
      let there : AreThere line = parts-there run.keeper (parts_at (fed run.standing piece)) replied.replies (not-starved reply.end (piece_heard run piece replied.replies).next.keeper.ending replied.end) in
      let h : HearsFreely unasked talk_of reacts bytes_of spelled run free piece replied.replies = hears-free run free piece replied.replies meets (answered-line lawful line old.callbacks new.callbacks replied.follows there) in
      record { wishes = h.wishes; bytes = replied.bytes ∙ h.line; after = (piece_heard run piece replied.replies).next; is = replied.next; meets = h.meets }
