-- A manager as a client of an outer one is a free client.
use Rattle.std.proofs.Common.{◌≡◌, ℕ, Bool, true, false, cond, List, [], ◌∷◌, Option, None, Some, unwrap_or, refl, sym, ◌∙◌, ap, subst, append-nil}
use Rattle.std.proofs.lemmas.Bool.{false≢true}
use Rattle.std.specs.List.{AllByRecursion, flat_map}
use Rattle.client_machine.specs.Asking.{after_asked, requested}
use Rattle.client_machine.specs.Phases.{is_owing, phase_said}
use Rattle.client_machine.specs.declared.requests.Request.{Request}
use Rattle.client_machine.specs.declared.requests.Request.TheVariants.{Done as AskDone, Set}
use Rattle.client_machine.specs.declared.saves.SaveAsk.{SaveAsk}
use Rattle.client_machine.specs.declared.saves.Stage.{Stage}
use Rattle.client_machine.specs.declared.saves.Stage.TheVariants.{First, Second, Talking, TalkingTwo}
use Rattle.ice_values.specs.declared.property.Property.{Property}
use Rattle.client_engine.specs.Answering.{answered_at, changed, closes, may_ask_at, stopped}
use Rattle.client_engine.specs.Driving.{Run, Step}
use Rattle.client_engine.specs.Messages.{spelled}
use Rattle.client_engine.specs.Places.{id_at, on_client, phase_at}
use Rattle.client_engine.specs.Speaking.{HasPlace, MayAnswer}
use Rattle.client_engine.specs.declared.hearing.Cue.{Cue}
use Rattle.client_engine.specs.declared.hearing.Cue.TheVariants.{Cancelled, Complete, Die, Malformed, Nothing, Properties, Refused, Registered, Save}
use Rattle.client_engine.specs.declared.place.Place.{Place}
use Rattle.client_engine.specs.declared.place.Place.TheVariants.{Opening, Speaking, Stopped}
use Rattle.client_engine.specs.declared.place.Talk.{Talk}
use Rattle.client_engine.proofs.Acting.{named_closes}
use Rattle.protocol_messages.specs.declared.message.Message.{Message}
use Rattle.protocol_messages.specs.declared.message.Message.TheVariants.{Xsmp}
use Rattle.outer_agent.specs.Script.{Keeper, bytes_asked, cancelled, closing_with, cued, died, in_run, saved, sends, stand_at, talk_of, told}
use Rattle.outer_agent.specs.Words.{own_properties}
use Rattle.outer_agent.specs.declared.acts.AgentAct.{AgentAct}
use Rattle.stream_clients.specs.Clients.{Client, Wish, does}
use Rattle.stream_clients.specs.Clients.Wish.{Asks, Closes}
use Rattle.stream_clients.specs.Clients.{cued as free_cued}
use Rattle.keeper_clients.specs.Agents.{AreFree, IsAnyAct, SpeaksFreely, sent_by}
use Rattle.keeper_clients.specs.Freedom.{AreAlike, Meets}
use Rattle.keeper_clients.proofs.Folding.{Freely, Heeds, is-free}
use Rattle.keeper_clients.proofs.Wishing.{does-asked, does-close, does-die, does-refused, may-owe, may-set, set-stays, speaks}

abbrev Alike : Step Keeper AgentAct → Step Client Message → Type 0
Alike done free = AreAlike talk_of sent_by spelled done free

abbrev Free : Step Keeper AgentAct → (List Wish → Step Client Message) → Type 0
Free done free = Freely talk_of sent_by spelled done free

-- ---- cues

-- nothing is said
quiet : (keeper : Keeper) (client : Client) → keeper.talk ≡ client.talk → Free (record { line = []; next = keeper }) (λ wishes. does wishes client)
quiet keeper client same = record { wishes = []; alike = record { line = refl; talk = same } }

abbrev own : Keeper → List Property
own keeper = own_properties keeper.words (unwrap_or (id_at keeper.talk.place) [])

-- it sets what it says of itself
save-free : (keeper : Keeper) (client : Client) (ask : SaveAsk) (stage : Stage) → keeper.talk ≡ client.talk → MayAnswer ask client.talk.place → Free (saved keeper stage) (λ wishes. does wishes client)
save-free keeper client ask First same may = record {
  wishes = Asks (Set (own keeper)) ∷ [];
  alike = subst (λ (s : Step Client Message). Alike (saved keeper First) s) (sym (does-asked (Set (own keeper)) [] client (may-set ask (own keeper) client.talk.place may) refl))
      (record { line = refl; talk = same ∙ sym (set-stays (own keeper) client.talk) });
}
save-free keeper client ask Second same may = quiet keeper client same
save-free keeper client ask Talking same may = quiet keeper client same
save-free keeper client ask TalkingTwo same may = quiet keeper client same

cancel-free : (keeper : Keeper) (client : Client) (owing : Bool) → is_owing (phase_at client.talk.place) ≡ owing → keeper.talk ≡ client.talk → Free (cancelled keeper owing) (λ wishes. does wishes client)
cancel-free keeper client false is same = quiet keeper client same
cancel-free keeper client true is same = record {
  wishes = Asks (AskDone false) ∷ [];
  alike = subst (λ (s : Step Client Message). Alike (cancelled keeper true) s) (sym (does-asked (AskDone false) [] client (may-owe client.talk.place is) refl))
      (record { line = refl; talk = ap (λ (t : Talk). changed (after_asked (AskDone false)) t) same });
}

die-free : (keeper : Keeper) (client : Client) → keeper.talk ≡ client.talk → Free (died keeper) (λ wishes. free_cued client wishes Die)
die-free keeper client same = record {
  wishes = Closes [] ∷ [];
  alike = subst (λ (s : Step Client Message). Alike (died keeper) s) (sym (does-die [] client)) (record { line = refl; talk = ap stopped same });
}

cue-free : (keeper : Keeper) (client : Client) (cue : Cue) (r : Unit {0}) → keeper.talk ≡ client.talk → HasPlace cue client.talk.place → AllByRecursion IsAnyAct (cued keeper r cue).line → Free (cued keeper r cue) (λ wishes. free_cued client wishes cue)
cue-free keeper client Nothing r same placed each = quiet keeper client same
cue-free keeper client (Registered id) r same placed each = quiet keeper client same
cue-free keeper client (Save ask) r same placed each = save-free keeper client ask ask.stage same placed
cue-free keeper client Cancelled r same placed each = cancel-free keeper client (is_owing (phase_at keeper.talk.place)) (ap (λ (t : Talk). is_owing (phase_at t.place)) (sym same)) same
cue-free keeper client Complete r same placed each = quiet keeper client same
cue-free keeper client Die r same placed each = die-free keeper client same
cue-free keeper client (Properties list) r same placed each = quiet keeper client same
cue-free keeper client (Refused class) r same placed each = record { wishes = []; alike = record { line = refl; talk = same } }
cue-free keeper client (Malformed at) r same placed each = record { wishes = []; alike = record { line = refl; talk = same } }

heeds : Heeds tt talk_of stand_at sends cued sent_by spelled IsAnyAct
heeds = record { talk_is = λ talk keeper. refl; says_is = λ message. refl; nothing = λ keeper r. refl; cues = cue-free }

-- ---- what it is told

asked-bytes : (request : Request) (place : Place) (b : Bool) → may_ask_at request place ≡ b → bytes_asked (answered_at request place) ≡ cond b (spelled (Xsmp (requested request))) []
asked-bytes request (Opening opener previous) true is = absurd (false≢true is)
asked-bytes request (Opening opener previous) false is = refl
asked-bytes request (Speaking joined c) true is = rw is refl
asked-bytes request (Speaking joined c) false is = rw is refl
asked-bytes request Stopped true is = absurd (false≢true is)
asked-bytes request Stopped false is = refl

kept-place : (request : Request) (place : Place) → may_ask_at request place ≡ false → on_client (after_asked request) place ≡ place
kept-place request (Opening opener previous) is = refl
kept-place request (Speaking joined c) is = ap (λ (b : Bool). Speaking joined (cond b (record c { phase = phase_said request c.phase }) c)) is
kept-place request Stopped is = refl

kept-talk : (request : Request) (talk : Talk) → may_ask_at request talk.place ≡ false → changed (after_asked request) talk ≡ talk
kept-talk request talk is = ap (λ (p : Place). let t : Talk = record { place = p; counts = talk.counts } in t) (kept-place request talk.place is)

abbrev Says : Run Client → Step (Run Keeper) ℕ → Step Client Message → Type 0
Says free done by = (done.line ≡ flat_map spelled by.line) × Meets talk_of done.next (record free { keeper = by.next })

told-free : (run : Run Keeper) (free : Run Client) (success : Bool) (b : Bool) → may_ask_at (AskDone success) free.keeper.talk.place ≡ b → Meets talk_of run free → SpeaksFreely free (told run success)
told-free run free success b is meets = record { wishes = Asks (AskDone success) ∷ []; line = (by b is).0; meets = (by b is).1 } where
  line-is : (b : Bool) → may_ask_at (AskDone success) free.keeper.talk.place ≡ b → bytes_asked (answered_at (AskDone success) run.keeper.talk.place) ≡ cond b (spelled (Xsmp (requested (AskDone success)))) []
  line-is b is = asked-bytes (AskDone success) run.keeper.talk.place b (ap (λ (t : Talk). may_ask_at (AskDone success) t.place) meets.talk ∙ is)

  by : (b : Bool) → may_ask_at (AskDone success) free.keeper.talk.place ≡ b → Says free (told run success) (does (Asks (AskDone success) ∷ []) free.keeper)
  by true is = subst (λ (s : Step Client Message). Says free (told run success) s) (sym (does-asked (AskDone success) [] free.keeper is refl))
      (line-is true is ∙ sym (append-nil (spelled (Xsmp (requested (AskDone success))))), record { standing = meets.standing; talk = ap (λ (t : Talk). changed (after_asked (AskDone success)) t) meets.talk })
  by false is = subst (λ (s : Step Client Message). Says free (told run success) s) (sym (does-refused (AskDone success) free.keeper is))
      (line-is false is, record { standing = meets.standing; talk = ap (λ (t : Talk). changed (after_asked (AskDone success)) t) meets.talk ∙ kept-talk (AskDone success) free.keeper.talk is })

closed-free : (run : Run Keeper) (free : Run Client) (id : Option (List ℕ)) → id_at free.keeper.talk.place ≡ id → Meets talk_of run free → SpeaksFreely free (in_run run (closing_with run.keeper id))
closed-free run free None is meets = record { wishes = []; line = refl; meets = meets }
closed-free run free (Some id) is meets =
    let done : Step (Run Keeper) ℕ = in_run run (closing_with run.keeper (Some id)) in
    let so : Says free done (does (Closes [] ∷ []) free.keeper) =
    subst (λ (s : Step Client Message). Says free done s) (sym (does-close [] free.keeper (speaks free.keeper.talk.place (named_closes free.keeper.talk.place id is))))
    (sym (append-nil (spelled (closes []))), record { standing = meets.standing; talk = ap stopped meets.talk }) in
    record { wishes = Closes [] ∷ []; line = so.0; meets = so.1 }

pub agents-free : AreFree
agents-free = record {
  begins = λ cookie previous words. record { standing = refl; talk = refl };
  hears = is-free tt talk_of stand_at sends cued sent_by spelled IsAnyAct heeds;
  ends = λ run free success meets. told-free run free success (may_ask_at (AskDone success) free.keeper.talk.place) refl meets;
  closes = λ run free meets. closed-free run free (id_at run.keeper.talk.place) (ap (λ (t : Talk). id_at t.place) (sym meets.talk)) meets;
}
