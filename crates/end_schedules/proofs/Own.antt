-- The direct answer to a client's own message is one of those of which both ends still meet.
use Rattle.std.proofs.Common.{◌≡◌, refl, sym, ap, ◌∙◌, subst, ℕ, ◌+◌, ◌≤◌, Bool, true, false, cond, not, ◌&&◌, ◌||◌, List, [], ◌∷◌, ◌++◌, length, drop, eqb, arith, length-append}
use Rattle.std.specs.Prelude.{Option, Some, None, is_some}
use Rattle.std.specs.List.{list_any}
use Rattle.std.proofs.lemmas.Bool.Decides.{nat_tests}
use Rattle.owned_lists.specs.declared.commands.Command.{Command}
use Rattle.ice_values.specs.declared.saves.Dialog.{Dialog}
use Rattle.ice_values.specs.declared.saves.SaveStyle.{SaveStyle}
use Rattle.ice_values.specs.Fields.{ErrorFields}
use Rattle.xsmp_properties.specs.Tables.{set_all}
use Rattle.checkpoint_records.specs.Rules.{client_id}
use Rattle.checkpoint_records.specs.declared.records.Entry.{Entry}
use Rattle.restart_plan.specs.Restarts.{respawn}
use Rattle.round_agreement.specs.declared.wanted.Wanted.{Wanted}
use Rattle.interact_queue.specs.Queue.{is_in}
use Rattle.xsmp_messages.specs.declared.message.XsmpMessage.{XsmpMessage}
use Rattle.xsmp_messages.specs.declared.message.XsmpMessage.TheVariants.{ConnectionClosed, DeleteProperties, Error, GetProperties, GetPropertiesReply, InteractDone, InteractRequest, RegisterClient, RegisterClientReply, SaveYourselfDone, SaveYourselfPhase2Request, SaveYourselfRequest, SetProperties, ShutdownCancelled}
use Rattle.session_model.specs.declared.events.SessionEvent.TheVariants.{Said}
use Rattle.session_model.specs.declared.phase.Phase.{Phase}
use Rattle.session_model.specs.declared.phase.Phase.TheVariants.{Done, Dying, Idle, Interacting, InteractingTwo, Owing, Saving, SavingTwo, Unregistered}
use Rattle.session_model.specs.Errors.{bad_id, full_table, lone_shutdown, no_room}
use Rattle.session_model.specs.declared.events.Arrival.{Arrival}
use Rattle.session_model.specs.Moves.{Blamed, Cancelled, Closed, Gave, History, Move, Outside, Tried, Unset, gave_each, onto, ◌▷◌}
use Rattle.session_model.specs.Phases.{allows, asked_phase, cancelled_phase, is_bound, is_dying, is_first_saving, is_interacting, is_member, is_owing, is_saving, is_shutdown, may_interact, phase_given, phase_said, saved_phase, second_phase, talked_phase}
use Rattle.session_model.specs.Reading.{Reading, reading, wanted_in}
use Rattle.session_model.specs.Readings as of
use Rattle.session_model.specs.Replies.{answered, called_off, entry_respawn, has_no_room, id_respawn, may_rejoin, or_bad_state, register, respawn_moves, respawned, said, unless_dying, want_cancel}
use Rattle.session_model.specs.Tables.{entry_of, is_full}
use Rattle.session_model.proofs.Level.{once-cancelled, phase-each}
use Rattle.session_model.proofs.Lists.{Once}
use Rattle.session_model.proofs.Replied.{cond-same}
use Rattle.session_model.proofs.Ruled.{conns-rows, differ}
use Rattle.client_machine.specs.Phases.{ClientState}
use Rattle.end_agreement.specs.Sides.{Side, at_phase, is_at_work}
use Rattle.end_agreement.specs.Meeting.{EachAnswer, EachCancel, EachEntry, EachNeutral, Meets, has_place, is_deaf, is_neutral, place}
use Rattle.end_agreement.proofs.Calm.{joined, tail-nil}
use Rattle.end_agreement.proofs.Walks.{Said as Spoken, goes-on}
use Rattle.end_schedules.specs.Laws.{IsOfRound, answered_to, is_bad_state}
use Rattle.end_schedules.specs.UnderWay.{Save, save_given, save_of, sent_to, side_of, side_with}
use Rattle.end_schedules.proofs.Runs.{Stood}
use Rattle.end_schedules.proofs.Standing.{At, Stands, clean-append, drop-behind, or-no}

-- The client's phase then, and what it was sent meanwhile
record Effect (c : ℕ) (h g : History) (q : Option Phase) (a : List XsmpMessage) : Type 0 where
  phase : of.phase_of c g ≡ q
  save : save_of c g ≡ save_of c h
  sent : sent_to c g ≡ sent_to c h ++ a
  clean : list_any is_bad_state a ≡ false

-- one of the answers of which this holds
record Brings (c : ℕ) (h g : History) (K : Spoken) : Type 0 where
  q : Option Phase
  a : List XsmpMessage
  effect : Effect c h g q a
  holds : K (at_phase q (side_of c h)) a

pub own-conn : (c : ℕ) → eqb c c ≡ true
own-conn c = grind (arith, nat_tests)

effect-at : (c : ℕ) (h g : History) (p q : Option Phase) (a : List XsmpMessage) → p ≡ q → Effect c h g p a → Effect c h g q a
effect-at c h g p q a e k = record { phase = k.phase ∙ e; save = k.save; sent = k.sent; clean = k.clean }

heard-said : (c : ℕ) (m : XsmpMessage) (sequence : ℕ) (frame : List ℕ) (h : History) → Effect c h (Outside (Said c m sequence frame) ▷ h) (phase_said (λ dialog. may_interact (of.wanted h) dialog) m (of.phase_of c h)) []
heard-said c m sequence frame h = record {
  phase = ap (λ (b : Bool). cond b (phase_said (λ dialog. may_interact (of.wanted h) dialog) m (of.phase_of c h)) (of.phase_of c h)) (own-conn c);
  save = refl;
  sent = sym (tail-nil (sent_to c h));
  clean = refl;
}

then-gave : (c : ℕ) (x : XsmpMessage) (h g : History) (q : Option Phase) (a : List XsmpMessage) → ((v : Save) → save_given x v ≡ v) → is_bad_state x ≡ false → Effect c h g q a → Effect c h (Gave c x ▷ g) (phase_given x q) (a ++ x ∷ [])
then-gave c x h g q a k n e = record {
  phase = ap (λ (b : Bool). cond b (phase_given x (of.phase_of c g)) (of.phase_of c g)) (own-conn c) ∙ ap (λ (p : Option Phase). phase_given x p) e.phase;
  save = ap (λ (b : Bool). cond b (save_given x (save_of c g)) (save_of c g)) (own-conn c) ∙ k (save_of c g) ∙ e.save;
  sent = ap (λ (b : Bool). cond b (sent_to c g ++ x ∷ []) (sent_to c g)) (own-conn c) ∙ ap (λ (xs : List XsmpMessage). xs ++ x ∷ []) e.sent ∙ joined (sent_to c h) a (x ∷ []);
  clean = clean-append a (x ∷ []) e.clean (or-no (is_bad_state x) n);
}

then-blamed : (c : ℕ) (error : ErrorFields) (h g : History) (q : Option Phase) (a : List XsmpMessage) → is_bad_state (Error error) ≡ false → Effect c h g q a → Effect c h (Blamed c error ▷ g) q (a ++ Error error ∷ [])
then-blamed c error h g q a n e = record {
  phase = e.phase;
  save = e.save;
  sent = ap (λ (b : Bool). cond b (sent_to c g ++ Error error ∷ []) (sent_to c g)) (own-conn c) ∙ ap (λ (xs : List XsmpMessage). xs ++ Error error ∷ []) e.sent ∙ joined (sent_to c h) a (Error error ∷ []);
  clean = clean-append a (Error error ∷ []) e.clean (or-no (is_bad_state (Error error)) n);
}

then-unset : (c : ℕ) (h g : History) (q : Option Phase) (a : List XsmpMessage) → Effect c h g q a → Effect c h (Unset c ▷ g) None a
then-unset c h g q a e = record { phase = ap (λ (b : Bool). cond b None (of.phase_of c g)) (own-conn c); save = e.save; sent = e.sent; clean = e.clean }

then-closed : (c : ℕ) (h g : History) (q : Option Phase) (a : List XsmpMessage) → Effect c h g q a → Effect c h (Closed c ▷ g) None a
then-closed c h g q a e = record { phase = ap (λ (b : Bool). cond b None (of.phase_of c g)) (own-conn c); save = e.save; sent = e.sent; clean = e.clean }

-- What is started, as a client departs, is told to nobody.

abbrev AllTried : List Move → Type 0
AllTried [] = Unit {0}
AllTried (Tried cause command ∷ moves) = AllTried moves
AllTried (m ∷ moves) = ⊥

tried-cond : (b : Bool) (xs ys : List Move) → AllTried xs → AllTried ys → AllTried (cond b xs ys)
tried-cond true xs ys p q = p
tried-cond false xs ys p q = q

tried-respawn : (id : List ℕ) (command : Option Command) → AllTried (respawn_moves id command)
tried-respawn id None = tt
tried-respawn id (Some command) = tt

tried-entry : (r : Reading) (id : List ℕ) (entry : Option Entry) → AllTried (entry_respawn r id entry)
tried-entry r id None = tt
tried-entry r id (Some entry) = tried-respawn id (respawn entry (r.run.respawns id))

tried-id : (r : Reading) (id : Option (List ℕ)) → AllTried (id_respawn r id)
tried-id r None = tt
tried-id r (Some id) = tried-entry r id (entry_of id r.store.book)

tried-respawned : (r : Reading) (c : ℕ) → AllTried (respawned r c)
tried-respawned r c = tried-cond (is_dying (r.clients.phase c)) [] (id_respawn r (r.clients.id c)) tt (tried-id r (r.clients.id c))

then-tried : (c : ℕ) (moves : List Move) (h g : History) (q : Option Phase) (a : List XsmpMessage) → AllTried moves → Effect c h g q a → Effect c h (onto g moves) q a
then-tried c [] h g q a t e = e
then-tried c (Tried cause command ∷ moves) h g q a t e = then-tried c moves h (Tried cause command ▷ g) q a t (record { phase = e.phase; save = e.save; sent = e.sent; clean = e.clean })
then-tried c (m ∷ moves) h g q a t e = absurd t

-- Each member is told that its save is cancelled, and so is this client once.

save-each : (c : ℕ) (conns : List ℕ) (g : History) → save_of c (onto g (gave_each ShutdownCancelled conns)) ≡ save_of c g
save-each c [] g = refl
save-each c (d ∷ conns) g = save-each c conns (Gave d ShutdownCancelled ▷ g) ∙ cond-same (eqb d c) (save_of c g)

sent-at : (b i : Bool) (xs : List XsmpMessage) (m : XsmpMessage) → (b ≡ true → i ≡ false) → cond i (cond b (xs ++ m ∷ []) xs ++ m ∷ []) (cond b (xs ++ m ∷ []) xs) ≡ cond (b || i) (xs ++ m ∷ []) xs
sent-at true true xs m k = absurd (differ refl (k refl))
sent-at true false xs m k = refl
sent-at false i xs m k = refl

apart : (c d : ℕ) (conns : List ℕ) → is_in d conns ≡ false → eqb d c ≡ true → is_in c conns ≡ false
apart c d conns n e = let k : d ≡ c = grind (arith, nat_tests) in subst (λ (x : ℕ). is_in x conns ≡ false) k n

sent-each : (c : ℕ) (conns : List ℕ) (g : History) → Once conns → sent_to c (onto g (gave_each ShutdownCancelled conns)) ≡ cond (is_in c conns) (sent_to c g ++ ShutdownCancelled ∷ []) (sent_to c g)
sent-each c [] g o = refl
sent-each c (d ∷ conns) g o = sent-each c conns (Gave d ShutdownCancelled ▷ g) o.1 ∙ sent-at (eqb d c) (is_in c conns) (sent_to c g) ShutdownCancelled (apart c d conns o.0)

then-off : (c : ℕ) (conns : List ℕ) (h g : History) (q : Option Phase) (a : List XsmpMessage) → Once conns → is_in c conns ≡ true → Effect c h g q a
    → Effect c h (onto (Cancelled ▷ g) (gave_each ShutdownCancelled conns)) (cancelled_phase q) (a ++ ShutdownCancelled ∷ [])
then-off c conns h g q a o i e = record {
  phase = phase-each ShutdownCancelled once-cancelled conns (Cancelled ▷ g) c ∙ ap (λ (b : Bool). cond b (cancelled_phase (of.phase_of c g)) (of.phase_of c g)) i ∙ ap (λ (p : Option Phase). cancelled_phase p) e.phase;
  save = save-each c conns (Cancelled ▷ g) ∙ e.save;
  sent = sent-each c conns (Cancelled ▷ g) o ∙ ap (λ (b : Bool). cond b (sent_to c g ++ ShutdownCancelled ∷ []) (sent_to c g)) i ∙ ap (λ (xs : List XsmpMessage). xs ++ ShutdownCancelled ∷ []) e.sent ∙ joined (sent_to c h) a (ShutdownCancelled ∷ []);
  clean = clean-append a (ShutdownCancelled ∷ []) e.clean refl;
}

-- The round of one that is at work

record Runs (c : ℕ) (h : History) : Type 0 where
  r : of.Begun
  running : of.running h ≡ Some r
  round : IsOfRound (save_of c h) r.wanted
  member : is_in c (of.members h) ≡ true

work-member : (p : Option Phase) → is_at_work p ≡ true → is_member p ≡ true
work-member None e = e
work-member (Some Done) e = refl
work-member (Some p) e = e

runs-at : (o : Option of.Begun) (c : ℕ) (h : History) → of.running h ≡ o → Stood h → is_at_work (of.phase_of c h) ≡ true → Runs c h
runs-at None c h e s w =
    absurd (differ (s.good.level c ∙ work-member (of.phase_of c h) w) (ap (λ (cs : List ℕ). is_in c cs) (s.good.sound.idle_is_empty (ap (λ (o : Option of.Begun). is_some o) e))))
runs-at (Some r) c h e s w = record {
  r = r;
  running = e;
  round = s.steady.says c r.wanted (ap (λ (o : Option of.Begun). of.wanted_of o) e) w;
  member = s.good.level c ∙ work-member (of.phase_of c h) w;
}

runs : (c : ℕ) (h : History) → Stood h → is_at_work (of.phase_of c h) ≡ true → Runs c h
runs c h s w = runs-at (of.running h) c h refl s w

wanted-now : (h : History) (r : of.Begun) → of.running h ≡ Some r → wanted_in (of.round h) ≡ Some r.wanted
wanted-now h r e = ap (λ (o : Option of.Begun). wanted_in (of.course o (of.rows (λ c. of.phase_of c h) (λ c. of.saved_of c h) (of.members h)))) e

off-now : (h : History) (r : of.Begun) → of.running h ≡ Some r → called_off (of.round h) ≡ Cancelled ∷ gave_each ShutdownCancelled (of.members h)
off-now h r e =
    ap (λ (o : Option of.Begun). called_off (of.course o (of.rows (λ c. of.phase_of c h) (λ c. of.saved_of c h) (of.members h)))) e
    ∙ ap (λ (cs : List ℕ). Cancelled ∷ gave_each ShutdownCancelled cs) (conns-rows (λ c. of.phase_of c h) (λ c. of.saved_of c h) (of.members h))

-- Answers

or-good : (b : Bool) (c : ℕ) (x : Arrival) (moves : List Move) (h g : History) (K : Spoken) → b ≡ true → Brings c h (onto g moves) K → Brings c h (onto g (or_bad_state b x moves)) K
or-good true c x moves h g K e k = k
or-good false c x moves h g K e k = absurd (grind arith)

brings-enter : (b : Bool) (c : ℕ) (error : ErrorFields) (id : List ℕ) (h g : History) (K : Spoken) → Effect c h g (Some Unregistered) [] → is_bad_state (Error error) ≡ false → K (at_phase None (side_of c h)) (Error error ∷ [])
    → K (at_phase (Some Idle) (side_of c h)) (RegisterClientReply id ∷ []) → Brings c h (onto g (cond b (Blamed c error ∷ Unset c ∷ []) (Gave c (RegisterClientReply id) ∷ []))) K
brings-enter true c error id h g K e n k l = record { q = None; a = Error error ∷ []; effect = then-unset c h (Blamed c error ▷ g) (Some Unregistered) (Error error ∷ []) (then-blamed c error h g (Some Unregistered) [] n e); holds = k }
brings-enter false c error id h g K e n k l = record { q = Some Idle; a = RegisterClientReply id ∷ []; effect = then-gave c (RegisterClientReply id) h g (Some Unregistered) [] (λ v. refl) refl e; holds = l }

brings-rejoin : (b : Bool) (c : ℕ) (error : ErrorFields) (id : List ℕ) (h g : History) (K : Spoken) → Effect c h g (Some Unregistered) [] → is_bad_state (Error error) ≡ false → K (at_phase (Some Unregistered) (side_of c h)) (Error error ∷ [])
    → K (at_phase (Some Idle) (side_of c h)) (RegisterClientReply id ∷ []) → Brings c h (onto g (cond b (Gave c (RegisterClientReply id) ∷ []) (Blamed c error ∷ []))) K
brings-rejoin true c error id h g K e n k l = record { q = Some Idle; a = RegisterClientReply id ∷ []; effect = then-gave c (RegisterClientReply id) h g (Some Unregistered) [] (λ v. refl) refl e; holds = l }
brings-rejoin false c error id h g K e n k l = record { q = Some Unregistered; a = Error error ∷ []; effect = then-blamed c error h g (Some Unregistered) [] n e; holds = k }

brings-register : (previous : List ℕ) (c sequence : ℕ) (frame : List ℕ) (h : History) (K : Spoken) → Effect c h (Outside (Said c (RegisterClient previous) sequence frame) ▷ h) (Some Unregistered) []
    → EachEntry (Some Unregistered) previous (at_phase (Some Unregistered) (side_of c h)) K
    → Brings c h (onto (Outside (Said c (RegisterClient previous) sequence frame) ▷ h) (register (reading h) (record { conn = c; message = RegisterClient previous; sequence = sequence; frame = frame }) previous)) K
brings-register [] c sequence frame h K e k =
    let x : Arrival = record { conn = c; message = RegisterClient []; sequence = sequence; frame = frame } in
    brings-enter (has_no_room (reading h)) c (no_room x) (client_id (of.book h).epoch (of.given h + 1)) h (Outside (Said c (RegisterClient []) sequence frame) ▷ h) K e refl (k.1 (no_room x) refl) (k.0 (client_id (of.book h).epoch (of.given h + 1)))
brings-register (b ∷ id) c sequence frame h K e k =
    let x : Arrival = record { conn = c; message = RegisterClient (b ∷ id); sequence = sequence; frame = frame } in
    brings-rejoin (may_rejoin (reading h) (b ∷ id)) c (bad_id x) (b ∷ id) h (Outside (Said c (RegisterClient (b ∷ id)) sequence frame) ▷ h) K e refl (k.1 (bad_id x) refl) (k.0 (b ∷ id))

brings-neutral : (b : Bool) (c : ℕ) (error : ErrorFields) (h g : History) (p : Option Phase) (K : Spoken) → Effect c h g p [] → is_bad_state (Error error) ≡ false → is_neutral (Error error) ≡ true
    → EachNeutral (at_phase p (side_of c h)) K → Brings c h (onto g (cond b (Blamed c error ∷ []) [])) K
brings-neutral true c error h g p K e n t k = record { q = p; a = Error error ∷ []; effect = then-blamed c error h g p [] n e; holds = k.1 (Error error) t }
brings-neutral false c error h g p K e n t k = record { q = p; a = []; effect = e; holds = k.0 }

-- with a dialog

same-style : (c : ℕ) (h : History) (d : Dialog) → Stood h → is_at_work (of.phase_of c h) ≡ true → allows (save_of c h).style d ≡ may_interact (wanted_in (of.round h)) d
same-style c h d s w =
    let r : Runs c h = runs c h s w in
    ap (λ (st : SaveStyle). allows st d) r.round.style ∙ sym (ap (λ (o : Option Wanted). may_interact o d) (wanted-now h r.r r.running))

same-allowed : (c : ℕ) (h : History) (d : Dialog) → Stood h → is_at_work (of.phase_of c h) ≡ true → may_interact (of.wanted h) d ≡ allows (save_of c h).style d
same-allowed c h d s w =
    let r : Runs c h = runs c h s w in
    ap (λ (o : Option of.Begun). may_interact (of.wanted_of o) d) r.running ∙ sym (ap (λ (st : SaveStyle). allows st d) r.round.style)

saving-work : (p : Option Phase) → is_saving p ≡ true → is_at_work p ≡ true
saving-work None e = e
saving-work (Some Saving) e = refl
saving-work (Some SavingTwo) e = refl
saving-work (Some p) e = absurd (grind arith)

dialog-place : (p : Option Phase) (a b : Bool) → (is_saving p ≡ true → a ≡ b) → (is_owing p || is_saving p && a) ≡ true → (is_owing p || is_saving p && b) ≡ true
dialog-place None a b w e = e
dialog-place (Some Saving) a b w e = sym (w refl) ∙ e
dialog-place (Some SavingTwo) a b w e = sym (w refl) ∙ e
dialog-place (Some p) a b w e = e

dialog-same : (p : Option Phase) (a b : Bool) → (is_saving p ≡ true → a ≡ b) → cond a (asked_phase p) p ≡ cond b (asked_phase p) p
dialog-same (Some Saving) a b w = ap (λ (x : Bool). cond x (asked_phase (Some Saving)) (Some Saving)) (w refl)
dialog-same (Some SavingTwo) a b w = ap (λ (x : Bool). cond x (asked_phase (Some SavingTwo)) (Some SavingTwo)) (w refl)
dialog-same None a b w = cond-same a None ∙ sym (cond-same b None)
dialog-same (Some p) a b w = cond-same a (Some p) ∙ sym (cond-same b (Some p))

brings-dialog : (d : Dialog) (c sequence : ℕ) (frame : List ℕ) (h : History) (p : Option Phase) (K : Spoken) → of.phase_of c h ≡ p → Stood h → (is_owing p || is_saving p && allows (save_of c h).style d) ≡ true
    → K (at_phase (cond (allows (save_of c h).style d) (asked_phase p) p) (side_of c h)) []
    → Brings c h (onto (Outside (Said c (InteractRequest d) sequence frame) ▷ h) (answered (reading h) (record { conn = c; message = InteractRequest d; sequence = sequence; frame = frame }) (InteractRequest d) p)) K
brings-dialog d c sequence frame h p K e s f k =
    let work : is_saving p ≡ true → is_at_work (of.phase_of c h) ≡ true = λ w. saving-work (of.phase_of c h) (ap (λ (q : Option Phase). is_saving q) e ∙ w) in
    or-good (is_owing p || is_saving p && may_interact (wanted_in (of.round h)) d) c _ [] h (Outside (Said c (InteractRequest d) sequence frame) ▷ h) K
    (dialog-place p (allows (save_of c h).style d) (may_interact (wanted_in (of.round h)) d) (λ w. same-style c h d s (work w)) f)
    (record {
      q = cond (allows (save_of c h).style d) (asked_phase p) p;
      a = [];
      effect = effect-at c h (Outside (Said c (InteractRequest d) sequence frame) ▷ h) (cond (may_interact (of.wanted h) d) (asked_phase (of.phase_of c h)) (of.phase_of c h)) (cond (allows (save_of c h).style d) (asked_phase p) p) []
          (ap (λ (q : Option Phase). cond (may_interact (of.wanted h) d) (asked_phase q) q) e ∙ dialog-same p (may_interact (of.wanted h) d) (allows (save_of c h).style d) (λ w. same-allowed c h d s (work w)))
          (heard-said c (InteractRequest d) sequence frame h);
      holds = k;
    })

-- with a cancellation

brings-off : (b : Bool) (c sequence : ℕ) (frame : List ℕ) (h : History) (p : Option Phase) (K : Spoken) → b ≡ true → of.phase_of c h ≡ p → Stood h → Runs c h → K (at_phase (cancelled_phase p) (side_of c h)) (ShutdownCancelled ∷ [])
    → Brings c h (onto (Outside (Said c (InteractDone true) sequence frame) ▷ h) (want_cancel (reading h) (record { conn = c; message = InteractDone true; sequence = sequence; frame = frame }) b)) K
brings-off true c sequence frame h p K f e s r k =
    let g : History = Outside (Said c (InteractDone true) sequence frame) ▷ h in
    subst (λ (ms : List Move). Brings c h (onto g ms) K) (sym (off-now h r.r r.running))
    (record {
      q = cancelled_phase p;
      a = ShutdownCancelled ∷ [];
      effect = then-off c (of.members h) h g p [] s.steady.once_members r.member (effect-at c h g (of.phase_of c h) p [] e (heard-said c (InteractDone true) sequence frame h));
      holds = k;
    })
brings-off false c sequence frame h p K f e s r k = absurd (grind arith)

or-right : (b : Bool) → (b || false) ≡ true → b ≡ true
or-right true e = refl
or-right false e = e

is-off : (c : ℕ) (h : History) (r : Runs c h) → (save_of c h).shutdown ≡ true → is_shutdown (wanted_in (of.round h)) ≡ true
is-off c h r e = ap (λ (o : Option Wanted). is_shutdown o) (wanted-now h r.r r.running) ∙ sym r.round.shutdown ∙ e

brings-cancel : (c sequence : ℕ) (frame : List ℕ) (h : History) (p : Option Phase) (K : Spoken) → of.phase_of c h ≡ p → is_at_work p ≡ true → Stood h → ((save_of c h).shutdown || false) ≡ true
    → K (at_phase (cancelled_phase p) (side_of c h)) (ShutdownCancelled ∷ [])
    → Brings c h (onto (Outside (Said c (InteractDone true) sequence frame) ▷ h) (want_cancel (reading h) (record { conn = c; message = InteractDone true; sequence = sequence; frame = frame }) (is_shutdown (wanted_in (of.round h))))) K
brings-cancel c sequence frame h p K e w s f k =
    let r : Runs c h = runs c h s (ap (λ (q : Option Phase). is_at_work q) e ∙ w) in
    brings-off (is_shutdown (wanted_in (of.round h))) c sequence frame h p K (is-off c h r (or-right (save_of c h).shutdown f)) e s r k

brings-talked : (c sequence : ℕ) (frame : List ℕ) (h : History) (p : Option Phase) (K : Spoken) → of.phase_of c h ≡ p → Stood h → (is_owing p || is_interacting p && ((save_of c h).shutdown || false)) ≡ true
    → EachCancel (is_interacting p) (at_phase p (side_of c h)) K
    → Brings c h (onto (Outside (Said c (InteractDone true) sequence frame) ▷ h) (answered (reading h) (record { conn = c; message = InteractDone true; sequence = sequence; frame = frame }) (InteractDone true) p)) K
brings-talked c sequence frame h (Some Owing) K e s f k =
    record { q = Some Owing; a = []; effect = effect-at c h _ (of.phase_of c h) (Some Owing) [] e (heard-said c (InteractDone true) sequence frame h); holds = k }
brings-talked c sequence frame h (Some Interacting) K e s f k = brings-cancel c sequence frame h (Some Interacting) K e refl s f k
brings-talked c sequence frame h (Some InteractingTwo) K e s f k = brings-cancel c sequence frame h (Some InteractingTwo) K e refl s f k
brings-talked c sequence frame h None K e s f k = absurd (grind arith)
brings-talked c sequence frame h (Some p) K e s f k = absurd (grind arith)

-- nothing is answered, and the phase is this function of the one before
brings-quiet : (b : Bool) (c : ℕ) (m : XsmpMessage) (sequence : ℕ) (frame : List ℕ) (h : History) (p : Option Phase) (f : Option Phase → Option Phase) (K : Spoken) → of.phase_of c h ≡ p → b ≡ true
    → phase_said (λ dialog. may_interact (of.wanted h) dialog) m (of.phase_of c h) ≡ f (of.phase_of c h) → K (at_phase (f p) (side_of c h)) []
    → Brings c h (onto (Outside (Said c m sequence frame) ▷ h) (or_bad_state b (record { conn = c; message = m; sequence = sequence; frame = frame }) [])) K
brings-quiet b c m sequence frame h p f K e t i k =
    or-good b c _ [] h (Outside (Said c m sequence frame) ▷ h) K t
    (record { q = f p; a = []; effect = effect-at c h (Outside (Said c m sequence frame) ▷ h) _ (f p) [] (i ∙ ap f e) (heard-said c m sequence frame h); holds = k })

talked-place : (p : Option Phase) (b : Bool) → (is_owing p || is_interacting p && (b || true)) ≡ true → (is_owing p || is_interacting p) ≡ true
talked-place None b e = e
talked-place (Some Owing) b e = refl
talked-place (Some Interacting) b e = refl
talked-place (Some InteractingTwo) b e = refl
talked-place (Some p) b e = e

abbrev is_close : XsmpMessage → Bool
is_close (ConnectionClosed reasons) = true
is_close m = false

brings-answered : (m : XsmpMessage) (c sequence : ℕ) (frame : List ℕ) (h : History) (p : Option Phase) (K : Spoken) → is_close m ≡ false → of.phase_of c h ≡ p → Stood h → is_deaf p ≡ false → place m (at_phase p (side_of c h)) ≡ true → EachAnswer m (at_phase p (side_of c h)) K
    → Brings c h (onto (Outside (Said c m sequence frame) ▷ h) (answered (reading h) (record { conn = c; message = m; sequence = sequence; frame = frame }) m p)) K
brings-answered (RegisterClient previous) c sequence frame h (Some Unregistered) K t e s n f k =
    brings-register previous c sequence frame h K (effect-at c h _ (of.phase_of c h) (Some Unregistered) [] e (heard-said c (RegisterClient previous) sequence frame h)) k
brings-answered (RegisterClient previous) c sequence frame h p K t e s n f k = absurd (grind arith)
brings-answered (SetProperties list) c sequence frame h p K t e s n f k =
    let x : Arrival = record { conn = c; message = SetProperties list; sequence = sequence; frame = frame } in
    or-good (is_bound p) c x _ h (Outside (Said c (SetProperties list) sequence frame) ▷ h) K f
    (brings-neutral (is_full (set_all (of.table_of c h) list)) c (full_table x) h (Outside (Said c (SetProperties list) sequence frame) ▷ h) p K (effect-at c h _ (of.phase_of c h) p [] e (heard-said c (SetProperties list) sequence frame h)) refl refl k)
brings-answered (DeleteProperties names) c sequence frame h p K t e s n f k = brings-quiet (is_bound p) c (DeleteProperties names) sequence frame h p (λ q. q) K e f refl k.0
brings-answered GetProperties c sequence frame h p K t e s n f k =
    or-good (is_bound p) c (record { conn = c; message = GetProperties; sequence = sequence; frame = frame }) _ h (Outside (Said c GetProperties sequence frame) ▷ h) K f
    (record {
      q = p;
      a = GetPropertiesReply (of.table_of c h) ∷ [];
      effect = then-gave c (GetPropertiesReply (of.table_of c h)) h (Outside (Said c GetProperties sequence frame) ▷ h) p [] (λ v. refl) refl (effect-at c h _ (of.phase_of c h) p [] e (heard-said c GetProperties sequence frame h));
      holds = k.1 (GetPropertiesReply (of.table_of c h)) refl;
    })
brings-answered (SaveYourselfRequest kind shutdown style fast global) c sequence frame h p K t e s n f k =
    let x : Arrival = record { conn = c; message = SaveYourselfRequest kind shutdown style fast global; sequence = sequence; frame = frame } in
    or-good (is_bound p) c x _ h (Outside (Said c (SaveYourselfRequest kind shutdown style fast global) sequence frame) ▷ h) K f
    (brings-neutral (shutdown && not global) c (lone_shutdown x) h (Outside (Said c (SaveYourselfRequest kind shutdown style fast global) sequence frame) ▷ h) p K
    (effect-at c h _ (of.phase_of c h) p [] e (heard-said c (SaveYourselfRequest kind shutdown style fast global) sequence frame h)) refl refl k)
brings-answered (InteractRequest d) c sequence frame h p K t e s n f k = brings-dialog d c sequence frame h p K e s f k
brings-answered (InteractDone true) c sequence frame h p K t e s n f k = brings-talked c sequence frame h p K e s f k
brings-answered (InteractDone false) c sequence frame h p K t e s n f k =
    brings-quiet (is_owing p || is_interacting p) c (InteractDone false) sequence frame h p talked_phase K e (talked-place p (save_of c h).shutdown f) refl k
brings-answered (SaveYourselfDone success) c sequence frame h p K t e s n f k = brings-quiet (is_owing p || is_saving p) c (SaveYourselfDone success) sequence frame h p saved_phase K e f refl k
brings-answered SaveYourselfPhase2Request c sequence frame h p K t e s n f k = brings-quiet (is_owing p || is_first_saving p) c SaveYourselfPhase2Request sequence frame h p second_phase K e f refl k
brings-answered (ConnectionClosed reasons) c sequence frame h p K t e s n f k = absurd (grind arith)
brings-answered m c sequence frame h p K t e s n f k = absurd (grind arith)

-- One that was told to die is heard no more.

said-dying : (allowed : Dialog → Bool) (m : XsmpMessage) → phase_said allowed m (Some Dying) ≡ Some Dying
said-dying allowed (InteractRequest d) = cond-same (allowed d) (Some Dying)
said-dying allowed (InteractDone true) = refl
said-dying allowed (InteractDone false) = refl
said-dying allowed m = refl

each-dying : (m : XsmpMessage) (side : Side) (K : Spoken) → is_close m ≡ false → EachAnswer m (at_phase (Some Dying) side) K → K (at_phase (Some Dying) side) []
each-dying (RegisterClient previous) side K t k = k
each-dying (ConnectionClosed reasons) side K t k = absurd (grind arith)
each-dying (SetProperties list) side K t k = k.0
each-dying (DeleteProperties names) side K t k = k.0
each-dying GetProperties side K t k = k.0
each-dying (SaveYourselfRequest kind shutdown style fast global) side K t k = k.0
each-dying (InteractRequest d) side K t k = subst (λ (q : Option Phase). K (at_phase q side) []) (cond-same (allows side.style d) (Some Dying)) k
each-dying (InteractDone true) side K t k = k
each-dying (InteractDone false) side K t k = k
each-dying m side K t k = k

alive-place : (m : XsmpMessage) (side : Side) (p : Option Phase) → is_deaf p ≡ false → has_place m (at_phase p side) ≡ true → place m (at_phase p side) ≡ true
alive-place m side p n f = second (is_deaf p) (place m (at_phase p side)) n f where
  second : (a b : Bool) → a ≡ false → (a || b) ≡ true → b ≡ true
  second true b n e = absurd (grind arith)
  second false b n e = e

brings-unless : (m : XsmpMessage) (c sequence : ℕ) (frame : List ℕ) (h : History) (p : Option Phase) (K : Spoken) → is_close m ≡ false → of.phase_of c h ≡ p → is_some p ≡ true → Stood h → has_place m (at_phase p (side_of c h)) ≡ true
    → EachAnswer m (at_phase p (side_of c h)) K → Brings c h (onto (Outside (Said c m sequence frame) ▷ h) (unless_dying (reading h) (record { conn = c; message = m; sequence = sequence; frame = frame }) p)) K
brings-unless m c sequence frame h (Some Dying) K t e i s f k = record {
  q = Some Dying;
  a = [];
  effect = effect-at c h (Outside (Said c m sequence frame) ▷ h) _ (Some Dying) [] (ap (λ (q : Option Phase). phase_said (λ dialog. may_interact (of.wanted h) dialog) m q) e ∙ said-dying (λ dialog. may_interact (of.wanted h) dialog) m) (heard-said c m sequence frame h);
  holds = each-dying m (side_of c h) K t k;
}
brings-unless m c sequence frame h None K t e i s f k = absurd (grind arith)
brings-unless m c sequence frame h (Some p) K t e i s f k = brings-answered m c sequence frame h (Some p) K t e s refl (alive-place m (side_of c h) (Some p) refl f) k

brings-said : (m : XsmpMessage) (c sequence : ℕ) (frame : List ℕ) (h : History) (K : Spoken) → is_some (of.phase_of c h) ≡ true → Stood h → has_place m (side_of c h) ≡ true → EachAnswer m (side_of c h) K
    → Brings c h (onto (Outside (Said c m sequence frame) ▷ h) (said (reading h) (record { conn = c; message = m; sequence = sequence; frame = frame }) m)) K
brings-said (ConnectionClosed reasons) c sequence frame h K i s f k =
    let g : History = Outside (Said c (ConnectionClosed reasons) sequence frame) ▷ h in
    record {
      q = None;
      a = [];
      effect = then-tried c (respawned (reading h) c) h (Closed c ▷ g) None [] (tried-respawned (reading h) c) (then-closed c h g (of.phase_of c h) [] (heard-said c (ConnectionClosed reasons) sequence frame h));
      holds = k;
    }
brings-said (Error error) c sequence frame h K i s f k = record { q = of.phase_of c h; a = []; effect = heard-said c (Error error) sequence frame h; holds = k }
brings-said m c sequence frame h K i s f k = brings-unless m c sequence frame h (of.phase_of c h) K refl refl i s f k

-- Both ends meet as before

meets-then : (c : ℕ) (h g : History) (q : Option Phase) (a : List XsmpMessage) (s : ClientState) (up : List XsmpMessage) (n : ℕ) → Effect c h g q a → n ≤ length (sent_to c h) → list_any is_bad_state (sent_to c h) ≡ false
    → Meets (at_phase q (side_of c h)) s up (drop n (sent_to c h) ++ a) → At c g s up n
meets-then c h g q a s up n e l f k =
    let there : Stands (side_with q (save_of c h)) s up n (sent_to c h ++ a) = record {
      few = omega (arith, length-append (sent_to c h) a, l);
      meets = subst (λ (xs : List XsmpMessage). Meets (at_phase q (side_of c h)) s up xs) (sym (drop-behind n (sent_to c h) a l)) k;
      clean = clean-append (sent_to c h) a f e.clean;
    } in
    subst (λ (p : Option Phase). Stands (side_with p (save_of c g)) s up n (sent_to c g)) (sym e.phase)
    (subst (λ (v : Save). Stands (side_with q v) s up n (sent_to c g)) (sym e.save) (subst (λ (xs : List XsmpMessage). Stands (side_with q (save_of c h)) s up n xs) (sym e.sent) there))

pub at-heard : (m : XsmpMessage) (c sequence : ℕ) (frame : List ℕ) (h : History) (s : ClientState) (up : List XsmpMessage) (n : ℕ) → is_some (of.phase_of c h) ≡ true → Stood h → At c h s (m ∷ up) n
    → At c (answered_to (Said c m sequence frame) h) s up n
at-heard m c sequence frame h s up n i w k =
    let K : Spoken = λ x a. Meets x s up (drop n (sent_to c h) ++ a) in
    let f : (has_place m (side_of c h) ≡ true) × EachAnswer m (side_of c h) K = goes-on (of.phase_of c h) _ _ i k.meets in
    let b : Brings c h (answered_to (Said c m sequence frame) h) K = brings-said m c sequence frame h K i w f.0 f.1 in
    meets-then c h (answered_to (Said c m sequence frame) h) b.q b.a s up n b.effect k.few k.clean b.holds
