-- Until the client has heard that XSMP began, and as it hears that.
use Rattle.std.proofs.Common.{lit<, ◌≡◌, ◌≢◌, inl, inr, refl, sym, ap, ◌∙◌, subst, ℕ, ◌+◌, ◌≤◌, ◌<◌, Bool, true, false, cond, List, [], ◌∷◌, ◌++◌, map, take, drop, length, append-nil, arith}
use Rattle.std.specs.Prelude.{Option, ◌||◌}
use Rattle.std.specs.List.{AllByRecursion}
use Rattle.sm_world.specs.declared.events.Event.{Event}
use Rattle.ice_framing.specs.Frames.{Standing, cut, fed, standing_of, unit_limit, units}
use Rattle.ice_framing.specs.Parts.{Part}
use Rattle.ice_setup.specs.Opener.{client_opcode}
use Rattle.ice_setup.specs.Setup.{manager_opcode, protocol_reply}
use Rattle.ice_setup.specs.declared.opener.AnyOpener.TheVariants.{OpenProtocol as AtProtocol}
use Rattle.ice_setup.specs.declared.opener.Joined.{Joined}
use Rattle.ice_setup.specs.declared.opener.OpenProtocol.{OpenProtocol}
use Rattle.xsmp_messages.specs.declared.message.XsmpMessage.{XsmpMessage}
use Rattle.xsmp_messages.specs.declared.message.XsmpMessage.TheVariants.{RegisterClient}
use Rattle.client_engine.specs.Driving.{Step as Did, behind, parts_taken, reacting, reply, standing_at, stays}
use Rattle.client_engine.specs.Hearing.{arrived, frame_heard, part_heard, registering}
use Rattle.client_engine.specs.Places.{is_listening}
use Rattle.client_engine.specs.declared.hearing.Heard.{Heard}
use Rattle.client_engine.specs.declared.place.Place.{Place}
use Rattle.client_engine.specs.declared.place.Place.TheVariants.{Opening, Speaking}
use Rattle.protocol_messages.specs.Messages.{spelled_under}
use Rattle.protocol_messages.specs.declared.message.Message.{Message}
use Rattle.protocol_messages.specs.declared.message.Message.TheVariants.{Ice, Xsmp}
use Rattle.session_model.specs.Moves.{History}
use Rattle.session_engine.specs.Machine.{Connection, Step as Done, connection_of, step as event_step}
use Rattle.message_streams.specs.Streams.{BringsFront, HasBytes, HoldsBytes, bytes_of, frame_of, part_of}
use Rattle.message_streams.proofs.Cutting.{pieces-of}
use Rattle.end_agreement.proofs.Calm.{differ}
use Rattle.end_schedules.specs.Pairs.{Pair, after, down_of}
use Rattle.end_schedules.specs.Pairs.Step.{Happens as HappensThere}
use Rattle.end_schedules.specs.Schedules.{End, paired}
use Rattle.end_schedules.specs.UnderWay.{sent_to}
use Rattle.stream_clients.specs.Clients.{Client, Wish, cued, does, is_speaking as is_talking, may_wish, reacts, stand_at, talk_of}
use Rattle.stream_clients.specs.Clients.Wish.{Asks, Closes}
use Rattle.stream_clients.specs.Following.{Follows, FollowsParts, IsSpelled}
use Rattle.stream_clients.proofs.Pieces.{Split, parts-of, split-at}
use Rattle.stream_clients.proofs.Stepping.{follows-both, parts-steps, wishes-steps}
use Rattle.end_bytes.specs.BytePairs.{BytePair, client_did, step}
use Rattle.end_bytes.specs.BytePairs.ByteStep.{Breaks, Comes, Happens, Takes, Wishes}
use Rattle.end_bytes.specs.Elsewhere.{HappensBeside, StaysAs, is_from}
use Rattle.end_bytes.specs.Saying.{said_by}
use Rattle.end_bytes.specs.Talking.{AreSayable, EnteringGoesOn, Enters, EntersOrTalks, IsReached, IsSayable, SpeaksOn, entered}
use Rattle.end_bytes.proofs.Beside.{others-beside}
use Rattle.end_bytes.proofs.Opens.{clients-open}
use Rattle.end_bytes.proofs.Talking.{Moves, StandsStill, all-both, all-right, beside-still, broken, expected-there, have-bytes, holds-more, moved-by, reached-on, taken-few, taken-waits}

abbrev here : Joined
here = record { opcode = manager_opcode }

abbrev reply_part : Part
reply_part = part_of manager_opcode (Ice (protocol_reply 0))

-- As ProtocolReply comes

joins-first : (previous : List ℕ) (keeper : Client) (o : OpenProtocol) (r : List Wish) → keeper.talk.place ≡ Opening (AtProtocol o) previous → HasBytes manager_opcode (Ice (protocol_reply 0))
    → reacts keeper (part_heard keeper.talk reply_part) r
    ≡ behind (Xsmp (RegisterClient previous) ∷ []) (does r (record keeper { talk = record { place = Speaking here (registering previous); counts = (arrived keeper.talk.counts (spelled_under manager_opcode (Ice (protocol_reply 0)))).counts } }))
joins-first previous keeper o r place h =
    let frame : _ = frame_of manager_opcode (Ice (protocol_reply 0)) in
    let heard : Heard = frame_heard keeper.talk.counts frame keeper.talk.place in
    ap (λ (b : Bool). cond b (reacting stand_at (λ (m : Message). m) cued keeper heard r) (stays keeper)) (ap is_listening place)
    ∙ ap (λ (x : Heard). reacting stand_at (λ (m : Message). m) cued keeper x r)
    (ap (λ (x : Place). frame_heard keeper.talk.counts frame x) place ∙ clients-open keeper.talk.counts (AtProtocol o) previous manager_opcode (protocol_reply 0) (lit< tt, lit< tt) h refl)

-- it says RegisterClient, and what follows is a list of steps of the schedule
record Joins (c : ℕ) (previous : List ℕ) (h : History) (front : List XsmpMessage) (did : Did Client Message) : Type 0 where
  line : List Message
  is : did.line ≡ Xsmp (RegisterClient previous) ∷ line
  follows : FollowsParts c here (paired h (entered previous)) front (record { line = line; next = did.next })

one-left : manager_opcode ≢ 0
one-left e = omega (arith, e)

drop-none : (xs : List XsmpMessage) → drop 0 xs ≡ xs
drop-none [] = refl
drop-none (x ∷ xs) = refl

joins-parts : (c : ℕ) (previous : List ℕ) (h : History) (keeper : Client) (o : OpenProtocol) (wishes : List (List Wish)) (front rest : List XsmpMessage) → keeper.talk.place ≡ Opening (AtProtocol o) previous → HasBytes manager_opcode (Ice (protocol_reply 0)) → sent_to c h ≡ front ++ rest
    → AllByRecursion (IsSpelled manager_opcode) front → IsReached c (paired h (entered previous))
    → Joins c previous h front (parts_taken [] talk_of reacts keeper (reply_part ∷ map (λ (m : XsmpMessage). part_of manager_opcode (Xsmp m)) front) wishes)
joins-parts c previous h keeper o wishes front rest place bytes all each reached =
    let r : List Wish = reply [] talk_of reacts wishes in
    let parts : List Part = map (λ (m : XsmpMessage). part_of manager_opcode (Xsmp m)) front in
    let start : Client = record keeper { talk = record { place = Speaking here (registering previous); counts = (arrived keeper.talk.counts (spelled_under manager_opcode (Ice (protocol_reply 0)))).counts } } in
    let p : Pair = paired h (entered previous) in
    let middle : Did Client Message = does r start in
    let f : Follows c here p 0 middle = wishes-steps c here p start r (refl, refl, refl) in
    let q : Pair = after c f.steps p in
    let none : q.took ≡ 0 = omega (arith, f.took) in
    let waits : down_of c q ≡ front ++ rest = ap (λ (k : ℕ). drop k (sent_to c q.history)) none ∙ drop-none (sent_to c q.history) ∙ ap (sent_to c) f.history ∙ all in
    let others : Did Client Message = parts_taken [] talk_of reacts middle.next parts (drop 1 wishes) in
    let g : FollowsParts c here q front others = parts-steps c here front rest q middle.next (drop 1 wishes) one-left f.stands waits each (expected-there c q (reached-on c p q f.steps reached f.may refl)) in
    subst (λ (x : Did Client Message). Joins c previous h front (behind x.line (parts_taken [] talk_of reacts x.next parts (drop 1 wishes)))) (sym (joins-first previous keeper o r place bytes))
    (record {
      line = middle.line ++ others.line;
      is = refl;
      follows = record { taken = 0 + g.taken; follows = follows-both c here p 0 g.taken middle others f g.follows; all = λ l. omega (arith, g.all l) };
    })

-- Each piece that comes to the client

abbrev first_of : Message → List Message → Message
first_of d [] = d
first_of d (m ∷ ms) = m

abbrev rest_of : List Message → List Message
rest_of [] = []
rest_of (m ∷ ms) = ms

spelled-front : (front rest : List XsmpMessage) → AllByRecursion (IsSayable manager_opcode) (map Xsmp (front ++ rest)) → AllByRecursion (IsSpelled manager_opcode) front
spelled-front [] rest a = tt
spelled-front (m ∷ front) rest a = (record { fits = a.0.fits; bytes = a.0.bytes }, spelled-front front rest a.1)

sayable-rest : (front rest : List XsmpMessage) → AllByRecursion (IsSayable manager_opcode) (map Xsmp (front ++ rest)) → AllByRecursion (IsSayable manager_opcode) (map Xsmp rest)
sayable-rest [] rest a = a
sayable-rest (m ∷ front) rest a = sayable-rest front rest a.1

-- so it did, and took these parts
abbrev took_parts : Client → List Part → List (List Wish) → Did Client Message
took_parts keeper parts wishes = parts_taken [] talk_of reacts keeper parts wishes

abbrev after_parts : BytePair → Standing → List ℕ → List Part → List (List Wish) → BytePair
after_parts b at down parts wishes = client_did (standing_at at (took_parts b.client.keeper parts wishes)) (record b { down = down })

none-whole : (c : ℕ) (previous : List ℕ) (b : BytePair) (at : Standing) (down : List ℕ) (wishes : List (List Wish)) → Enters c previous b → HoldsBytes manager_opcode at down (Ice (protocol_reply 0) ∷ map Xsmp (sent_to c b.machine.session)) → Enters c previous (after_parts b at down [] wishes)
none-whole c previous b at down wishes t holds = record {
  same = t.same;
  connection = t.connection;
  there = t.there;
  spoken = t.spoken;
  within = t.within;
  up = subst (λ (xs : List ℕ). HoldsBytes client_opcode (standing_of t.connection.stream) xs []) (sym (append-nil b.up)) t.up;
  opener = t.opener;
  place = t.place;
  alive = t.alive;
  down = holds;
  sayable = t.sayable;
  reached = t.reached;
}

one-whole : (c : ℕ) (previous : List ℕ) (b : BytePair) (at : Standing) (down : List ℕ) (front rest : List XsmpMessage) (wishes : List (List Wish)) → Enters c previous b → sent_to c b.machine.session ≡ front ++ rest → HoldsBytes manager_opcode at down (map Xsmp rest)
    → AreSayable (after_parts b at down (reply_part ∷ map (λ (m : XsmpMessage). part_of manager_opcode (Xsmp m)) front) wishes) → EntersOrTalks c previous (after_parts b at down (reply_part ∷ map (λ (m : XsmpMessage). part_of manager_opcode (Xsmp m)) front) wishes)
one-whole c previous b at down front rest wishes t all holds sayable =
    let h : History = b.machine.session in
    let did : Did Client Message = took_parts b.client.keeper (reply_part ∷ map (λ (m : XsmpMessage). part_of manager_opcode (Xsmp m)) front) wishes in
    let sent : AllByRecursion (IsSayable manager_opcode) (map Xsmp (front ++ rest)) = subst (λ (ms : List XsmpMessage). AllByRecursion (IsSayable manager_opcode) (map Xsmp ms)) all t.sayable in
    let j : Joins c previous h front did = joins-parts c previous h b.client.keeper t.opener wishes front rest t.place t.down.each.0 all (spelled-front front rest sent) t.reached in
    let f : FollowsParts c here (paired h (entered previous)) front (record { line = j.line; next = did.next }) = j.follows in
    let mv : Moves c here h (entered previous) f.taken j.line did.next.talk.place = moved-by c here h (entered previous) f.taken (record { line = j.line; next = did.next }) ((λ z. omega (arith, z)), tt) f.follows in
    let line : AllByRecursion (IsSayable client_opcode) did.line = all-right (IsSayable client_opcode) b.said_up did.line sayable.up in
    let waiting : map Xsmp mv.next.up ≡ did.line = mv.up ∙ sym j.is in
    inr (
      mv.next,
      record {
        opcode = refl;
        same = t.same;
        connection = t.connection;
        there = t.there;
        spoken = t.spoken;
        within = t.within;
        up = subst (λ (ms : List Message). HoldsBytes client_opcode (standing_of t.connection.stream) (b.up ++ bytes_of client_opcode did.line) ms) (sym waiting) (holds-more client_opcode (standing_of t.connection.stream) b.up [] did.line t.up (have-bytes client_opcode did.line line));
        heard = subst (λ (ms : List Message). AllByRecursion (IsSayable client_opcode) ms) (sym waiting) line;
        no_error = mv.no_error;
        stands = mv.stands;
        down = λ l.
            let left : drop mv.next.took (sent_to c h) ≡ rest = ap (λ (k : ℕ). drop k (sent_to c h)) mv.took ∙ taken-waits c h 0 f.taken front rest (drop-none (sent_to c h) ∙ all) (f.all l) in
            record {
              few = subst (λ (k : ℕ). k ≤ length (sent_to c h)) (sym mv.took) (taken-few c h 0 f.taken front rest (drop-none (sent_to c h) ∙ all) (f.all l) (omega arith));
              holds = subst (λ (ms : List XsmpMessage). HoldsBytes manager_opcode at down (map Xsmp ms)) (sym left) holds;
              sayable = subst (λ (ms : List XsmpMessage). AllByRecursion (IsSayable manager_opcode) (map Xsmp ms)) (sym left) (sayable-rest front rest sent);
            };
        reached = reached-on c (paired h (entered previous)) (paired h mv.next) mv.steps t.reached mv.may mv.is;
      },
    )

by-front : (c : ℕ) (previous : List ℕ) (b : BytePair) (at : Standing) (down : List ℕ) (front back : List Message) (wishes : List (List Wish)) → Enters c previous b → Ice (protocol_reply 0) ∷ map Xsmp (sent_to c b.machine.session) ≡ front ++ back → HoldsBytes manager_opcode at down back
    → AreSayable (after_parts b at down (map (part_of manager_opcode) front) wishes) → EntersOrTalks c previous (after_parts b at down (map (part_of manager_opcode) front) wishes)
by-front c previous b at down [] back wishes t all holds sayable = inl (none-whole c previous b at down wishes t (subst (λ (ms : List Message). HoldsBytes manager_opcode at down ms) (sym all) holds))
by-front c previous b at down (f ∷ front) back wishes t all holds sayable =
    let k : Split (sent_to c b.machine.session) front back = split-at (sent_to c b.machine.session) front back (ap rest_of all) in
    let first : f ≡ Ice (protocol_reply 0) = sym (ap (first_of f) all) in
    let parts : map (part_of manager_opcode) (f ∷ front) ≡ reply_part ∷ map (λ (m : XsmpMessage). part_of manager_opcode (Xsmp m)) k.front =
    ap (λ (x : Message). part_of manager_opcode x ∷ map (part_of manager_opcode) front) first ∙ ap (λ (ms : List Message). reply_part ∷ map (part_of manager_opcode) ms) k.are_front ∙ ap (λ (ps : List Part). reply_part ∷ ps) (parts-of manager_opcode k.front) in
    subst (λ (ps : List Part). EntersOrTalks c previous (after_parts b at down ps wishes)) (sym parts)
    (one-whole c previous b at down k.front k.rest wishes t k.all (subst (λ (ms : List Message). HoldsBytes manager_opcode at down ms) k.are_rest holds) (subst (λ (ps : List Part). AreSayable (after_parts b at down ps wishes)) parts sayable))

enters-takes : (c : ℕ) (previous : List ℕ) (b : BytePair) (count : ℕ) (wishes : List (List Wish)) → Enters c previous b → AreSayable (step c (Takes count wishes) b) → EntersOrTalks c previous (step c (Takes count wishes) b)
enters-takes c previous b count wishes t sayable =
    let messages : List Message = Ice (protocol_reply 0) ∷ map Xsmp (sent_to c b.machine.session) in
    let at : Standing = fed b.client.standing (take count b.down) in
    let g : BringsFront manager_opcode at (drop count b.down) messages = pieces-of manager_opcode messages b.client.standing b.down count t.down in
    subst (λ (ps : List Part). EntersOrTalks c previous (after_parts b (cut at).standing (drop count b.down) ps wishes)) (sym g.parts)
    (by-front c previous b (cut at).standing (drop count b.down) g.front g.back wishes t g.all g.holds (subst (λ (ps : List Part). AreSayable (after_parts b (cut at).standing (drop count b.down) ps wishes)) g.parts sayable))

-- The other steps

enters-happens : (c : ℕ) (previous : List ℕ) (b : BytePair) (event : Event) → Enters c previous b → is_from c event ≡ false → SpeaksOn c (step c (Happens event) b) → AreSayable (step c (Happens event) b) → Enters c previous (step c (Happens event) b)
enters-happens c previous b event t apart speaks sayable =
    let done : Done = event_step b.machine event in
    let e : End = entered previous in
    let o : HappensBeside c (connection_of c b.machine.connections) b.machine.session done = others-beside c b.machine event apart t.same in
    let s : StandsStill t.connection.stream (connection_of c done.next.connections) =
    beside-still t.connection (connection_of c done.next.connections) (sym (o.agrees.phases c) ∙ speaks) (subst (λ (x : Option Connection). StaysAs x (connection_of c done.next.connections)) t.there o.stays) t.spoken in
    let said : AllByRecursion (IsSayable manager_opcode) (said_by c done) = all-right (IsSayable manager_opcode) b.said_down (said_by c done) sayable.down in
    record {
      same = o.agrees;
      connection = s.k;
      there = s.is;
      spoken = s.spoken;
      within = subst (λ (xs : List ℕ). units (standing_of xs) ≤ unit_limit) (sym s.stream_is) t.within;
      up = subst (λ (xs : List ℕ). HoldsBytes client_opcode (standing_of xs) b.up []) (sym s.stream_is) t.up;
      opener = t.opener;
      place = t.place;
      alive = t.alive;
      down = subst (λ (ms : List Message). HoldsBytes manager_opcode b.client.standing (b.down ++ bytes_of manager_opcode (said_by c done)) (Ice (protocol_reply 0) ∷ ms)) (sym o.said)
          (holds-more manager_opcode b.client.standing b.down (Ice (protocol_reply 0) ∷ map Xsmp (sent_to c b.machine.session)) (said_by c done) t.down (have-bytes manager_opcode (said_by c done) said));
      sayable = subst (λ (ms : List Message). AllByRecursion (IsSayable manager_opcode) ms) (sym o.said) (all-both (IsSayable manager_opcode) (map Xsmp (sent_to c b.machine.session)) (said_by c done) t.sayable said);
      reached = reached-on c (paired b.machine.session e) (paired done.next.session e) (map HappensThere o.events) t.reached (o.may e) (o.there e);
    }

pub none-up : (held later : List ℕ) → held ++ later ≡ [] → later ≡ []
none-up [] later e = e
none-up (x ∷ held) later e = absurd cc

pub nothing-comes : (count : ℕ) (up : List ℕ) → up ≡ [] → 0 < count → count ≤ length up → ⊥
nothing-comes count up none more few = let long : length up ≡ 0 = ap (λ (xs : List ℕ). length xs) none in omega (arith, more, few, long)

no-wish : (wish : Wish) (client : Client) (o : OpenProtocol) (previous : List ℕ) → client.talk.place ≡ Opening (AtProtocol o) previous → client.dying ≡ false → may_wish wish client ≡ true → ⊥
no-wish (Asks request) client o previous place alive may = differ may (ap (λ (x : Place). may_wish (Asks request) (record client { talk = record client.talk { place = x } })) place)
no-wish (Closes reasons) client o previous place alive may = differ may (ap (λ (x : Place). is_talking x || client.dying) place ∙ alive)

pub entering-goes-on : EnteringGoesOn
entering-goes-on c previous b (Comes count) t may speaks sayable = absurd (nothing-comes count b.up (none-up (standing_of t.connection.stream).held b.up t.up.bytes) may.0 may.1)
entering-goes-on c previous b (Takes count wishes) t may speaks sayable = enters-takes c previous b count wishes t sayable
entering-goes-on c previous b (Wishes wish) t may speaks sayable = absurd (no-wish wish b.client.keeper t.opener previous t.place t.alive may)
entering-goes-on c previous b (Happens event) t may speaks sayable = inl (enters-happens c previous b event t may speaks sayable)
entering-goes-on c previous b Breaks t may speaks sayable = absurd (broken c b.machine (connection_of c b.machine.connections) refl t.same speaks)
