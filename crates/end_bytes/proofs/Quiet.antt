-- Where both ends talk and nothing is under way, they agree.
use Rattle.std.proofs.Common.{◌≡◌, refl, sym, ap, ◌∙◌, subst, ℕ, true, List, [], ◌∷◌, ◌++◌, map, drop}
use Rattle.std.specs.Prelude.{is_some}
use Rattle.std.specs.List.{AllByRecursion}
use Rattle.interact_queue.specs.Queue.{is_in}
use Rattle.ice_framing.specs.Frames.{Standing, standing_of}
use Rattle.ice_setup.specs.Opener.{client_opcode}
use Rattle.ice_setup.specs.Setup.{manager_opcode}
use Rattle.ice_setup.specs.declared.opener.Joined.{Joined}
use Rattle.xsmp_messages.specs.declared.message.XsmpMessage.{XsmpMessage}
use Rattle.client_machine.specs.Phases.{ClientState, phase_given}
use Rattle.client_machine.specs.Taking.{taken}
use Rattle.client_machine.specs.declared.phase.ClientPhase.TheVariants.{Dead}
use Rattle.client_engine.specs.Places.{is_listening}
use Rattle.client_engine.specs.declared.place.Place.{Place}
use Rattle.client_engine.specs.declared.place.Place.TheVariants.{Opening, Speaking, Stopped}
use Rattle.protocol_messages.specs.Messages.{spelled_under}
use Rattle.protocol_messages.specs.declared.message.Message.TheVariants.{Xsmp}
use Rattle.session_model.specs.Readings as of
use Rattle.session_engine.proofs.Following.{numbers-in}
use Rattle.message_streams.specs.Streams.{HasBytes, HoldsBytes, bytes_of}
use Rattle.end_agreement.specs.Laws.{taken_all}
use Rattle.end_agreement.specs.Sides.{Agrees}
use Rattle.end_agreement.proofs.Calm.{dead-stays}
use Rattle.end_schedules.specs.Laws.{AgreesOnceTaken, HearsNoBadState, heard_all}
use Rattle.end_schedules.specs.Pairs.{Pair, down_of}
use Rattle.end_schedules.specs.Schedules.{End, paired}
use Rattle.end_schedules.specs.UnderWay.{sent_to, side_of}
use Rattle.end_schedules.proofs.Folds.{both-agree, no-bad-state}
use Rattle.stream_clients.specs.Following.{StandsAs}
use Rattle.setup_agreement.proofs.Wiring.{not-empty}
use Rattle.end_bytes.specs.BytePairs.{BytePair}
use Rattle.end_bytes.specs.Talking.{AgreesAt, IsReached, QuietEndsAgree, TalkingIsClean, Talks, WaitsBelow}

no-messages : (opcode : ℕ) (xs : List XsmpMessage) → AllByRecursion (HasBytes opcode) (map Xsmp xs) → bytes_of opcode (map Xsmp xs) ≡ [] → xs ≡ []
no-messages opcode [] a e = refl
no-messages opcode (x ∷ xs) a e = absurd (not-empty (spelled_under opcode (Xsmp x)) (bytes_of opcode (map Xsmp xs)) a.0.header e)

none-waits : (opcode : ℕ) (at : Standing) (later : List ℕ) (xs : List XsmpMessage) → HoldsBytes opcode at later (map Xsmp xs) → at.held ≡ [] → later ≡ [] → xs ≡ []
none-waits opcode at later xs h held none = no-messages opcode xs h.each (sym h.bytes ∙ ap (λ (ys : List ℕ). ys ++ later) held ∙ none)

-- who is dead stays so
dead-all : (ms : List XsmpMessage) (s : ClientState) → s.phase ≡ Dead → (taken_all ms s).phase ≡ Dead
dead-all [] s d = d
dead-all (m ∷ ms) s d = dead-all ms (taken m s) (ap (phase_given m) d ∙ dead-stays m)

is-live : (c : ℕ) (joined : Joined) (b : BytePair) (e : End) → Talks c joined b e → is_in c (of.live b.machine.session) ≡ true
is-live c joined b e t = ap (is_in c) (sym t.same.numbers) ∙ numbers-in c b.machine.connections ∙ ap is_some t.there

-- what a schedule says of the ends, where nothing waits for the manager
agree-there : (c : ℕ) (p : Pair) → IsReached c p → is_in c (of.live p.history) ≡ true → p.up ≡ [] → Agrees (side_of c p.history) (taken_all (down_of c p) p.state)
agree-there c p r live none =
    let a : AgreesOnceTaken c p = subst (λ (x : Pair). is_in c (of.live x.history) ≡ true → AgreesOnceTaken c x) (sym r.is) (both-agree r.began r.events c r.previous r.asked r.steps r.takes r.may) live in
    subst (λ (up : List XsmpMessage). Agrees (side_of c (heard_all c (λ n. n) (λ n. []) 0 up p.history)) (taken_all (drop p.took (sent_to c (heard_all c (λ n. n) (λ n. []) 0 up p.history))) p.state)) none (a (λ n. n) (λ n. []))

by-place : (c : ℕ) (joined : Joined) (b : BytePair) (e : End) (place : Place) → b.client.keeper.talk.place ≡ place → StandsAs joined place e.state → Agrees (side_of c b.machine.session) (taken_all (down_of c (paired b.machine.session e)) e.state)
    → (is_listening place ≡ true → down_of c (paired b.machine.session e) ≡ []) → AgreesAt (side_of c b.machine.session) place
by-place c joined b e (Opening opener previous) is s a none = absurd s
by-place c joined b e Stopped is s a none = sym a.phase ∙ dead-all (down_of c (paired b.machine.session e)) e.state s
by-place c joined b e (Speaking it t) is s a none =
    subst (λ (x : ClientState). Agrees (side_of c b.machine.session) x) (sym s.1) (subst (λ (ms : List XsmpMessage). Agrees (side_of c b.machine.session) (taken_all ms e.state)) (none refl) a)

pub quiet-ends : QuietEndsAgree
quiet-ends c joined b e t quiet =
    let p : Pair = paired b.machine.session e in
    let none : e.up ≡ [] = none-waits client_opcode (standing_of t.connection.stream) b.up e.up t.up quiet.at_manager quiet.up in
    let a : Agrees (side_of c b.machine.session) (taken_all (down_of c p) e.state) = agree-there c p t.reached (is-live c joined b e t) none in
    by-place c joined b e b.client.keeper.talk.place refl t.stands a (λ l. let w : WaitsBelow c b e = t.down l in none-waits manager_opcode b.client.standing b.down (down_of c p) w.holds quiet.at_client quiet.down)

pub clean-there : (c : ℕ) (p : Pair) → IsReached c p → HearsNoBadState c p
clean-there c p r = subst (λ (x : Pair). HearsNoBadState c x) (sym r.is) (no-bad-state r.began r.events c r.previous r.asked r.steps r.takes r.may)

pub talking-clean : TalkingIsClean
talking-clean c joined b e t = clean-there c (paired b.machine.session e) t.reached
