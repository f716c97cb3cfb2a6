-- What the client does about the frames of a set-up.
use Rattle.std.proofs.Common.{◌≡◌, refl, sym, ap, ◌∙◌, subst, ℕ, ◌+◌, Bool, false, cond, List, [], ◌∷◌, ◌++◌, map, drop, append-nil, append_assoc}
use Rattle.std.specs.Prelude.{Option, None, Some, ◌||◌}
use Rattle.std.specs.List.{AllByRecursion}
use Rattle.std.proofs.lemmas.List.{map-append}
use Rattle.ice_cookie.specs.declared.cookies.Cookie.{Cookie}
use Rattle.ice_framing.specs.Parts.{Part}
use Rattle.ice_messages.specs.declared.message.IceMessage.{IceMessage}
use Rattle.ice_setup.specs.Opener.{opened}
use Rattle.ice_setup.specs.Setup.{manager_opcode}
use Rattle.ice_setup.specs.declared.opener.AnyOpener.{AnyOpener}
use Rattle.ice_setup.specs.declared.opener.OpenMoved.{OpenMoved}
use Rattle.ice_setup.specs.declared.states.AnySetup.{AnySetup}
use Rattle.client_engine.specs.Driving.{Step as Did, behind, parts_taken, reacting, reply, stays}
use Rattle.client_engine.specs.Hearing.{arrived, frame_heard, opening_moved, part_heard, sequence_after}
use Rattle.client_engine.specs.Messages.{answer_of}
use Rattle.client_engine.specs.Places.{is_listening}
use Rattle.client_engine.specs.declared.hearing.Heard.{Heard}
use Rattle.client_engine.specs.declared.place.Arrival.{Arrival}
use Rattle.client_engine.specs.declared.place.Place.{Place}
use Rattle.client_engine.specs.declared.place.Place.TheVariants.{Opening}
use Rattle.protocol_messages.specs.Messages.{spelled_under}
use Rattle.protocol_messages.specs.declared.message.Message.{Message}
use Rattle.protocol_messages.specs.declared.message.Message.TheVariants.{Ice}
use Rattle.session_engine.specs.Answers.{speaks_xsmp}
use Rattle.message_streams.specs.Streams.{frame_of, part_of}
use Rattle.setup_agreement.specs.SetUps.{SetUp, client_takes, said_by as answer_list, step as way_step, takes}
use Rattle.setup_agreement.specs.SetUps.Way.{Takes}
use Rattle.stream_clients.specs.Clients.{Client, Wish, cued, does, is_speaking as is_talking, may_wish, reacts, stand_at, talk_of, wished}
use Rattle.stream_clients.specs.Clients.Wish.{Asks, Closes}
use Rattle.end_bytes.specs.SettingUp.{IsLedTo}
use Rattle.end_bytes.specs.Talking.{IsSayable}
use Rattle.end_bytes.proofs.HearsSetUp.{led-enters, led-on, next-waits}
use Rattle.end_bytes.proofs.Opens.{clients-open}
use Rattle.end_bytes.proofs.Tables.{OpenerGoes, opener-goes}

-- One that is opening does nothing by itself.

pub no-wish : (wish : Wish) (client : Client) (o : AnyOpener) (previous : List ℕ) → client.talk.place ≡ Opening o previous → client.dying ≡ false → may_wish wish client ≡ false
no-wish (Asks request) client o previous place alive = ap (λ (x : Place). may_wish (Asks request) (record client { talk = record client.talk { place = x } })) place
no-wish (Closes reasons) client o previous place alive = ap (λ (x : Place). is_talking x || client.dying) place ∙ alive

pub not-wished : (wish : Wish) (client : Client) (o : AnyOpener) (previous : List ℕ) → client.talk.place ≡ Opening o previous → client.dying ≡ false → wished wish client ≡ stays client
not-wished wish client o previous place alive = rw (no-wish wish client o previous place alive) refl

does-nothing : (wishes : List Wish) (client : Client) (o : AnyOpener) (previous : List ℕ) → client.talk.place ≡ Opening o previous → client.dying ≡ false → does wishes client ≡ stays client
does-nothing [] client o previous place alive = refl
does-nothing (wish ∷ wishes) client o previous place alive =
    ap (λ (d : Did Client Message). behind d.line (does wishes d.next)) (not-wished wish client o previous place alive) ∙ does-nothing wishes client o previous place alive

same-said : (answer : Option IceMessage) → map (λ (m : Message). m) (answer_of answer) ≡ map Ice (answer_list answer)
same-said None = refl
same-said (Some message) = refl

-- Where the client stands, while the manager's set-up hasn't come to XSMP

pub record OpensIn (k : Cookie) (previous : List ℕ) (setup : AnySetup) (keeper : Client) (p : SetUp) : Type 0 where
  pub led : IsLedTo k p
  pub setup_is : p.manager ≡ Some setup
  pub silent : speaks_xsmp setup ≡ false
  pub opener : AnyOpener
  pub opens : p.client ≡ Some opener
  pub place : keeper.talk.place ≡ Opening opener previous
  pub alive : keeper.dying ≡ false

pub record SaysUp (p q : SetUp) : Type 0 where
  pub down : q.said_down ≡ p.said_down
  pub heard : q.heard ≡ p.heard
  pub more : List IceMessage
  pub up : q.said_up ≡ p.said_up ++ more

pub record Took (k : Cookie) (previous : List ℕ) (setup : AnySetup) (rest : List IceMessage) (p : SetUp) (did : Did Client Message) : Type 0 where
  pub ends : SetUp
  pub says : SaysUp p ends
  pub opens : OpensIn k previous setup did.next ends
  pub waits : drop ends.took ends.said_down ≡ rest
  pub said : did.line ≡ map Ice says.more

abbrev pub Said : IceMessage → Type 0
Said x = IsSayable manager_opcode (Ice x)

-- One message

reacted : (keeper : Client) (previous : List ℕ) (opener : AnyOpener) (x : IceMessage) (r : List Wish) (g : OpenerGoes opener x) → keeper.talk.place ≡ Opening opener previous → keeper.dying ≡ false → Said x
    → reacts keeper (part_heard keeper.talk (part_of manager_opcode (Ice x))) r ≡ record { line = map Ice (answer_list g.answer); next = stand_at (record { place = Opening g.state previous; counts = (arrived keeper.talk.counts (spelled_under manager_opcode (Ice x))).counts }) keeper }
reacted keeper previous opener x r g place alive sayable =
    let frame : _ = frame_of manager_opcode (Ice x) in
    let a : Arrival = arrived keeper.talk.counts (spelled_under manager_opcode (Ice x)) in
    let next : Client = stand_at (record { place = Opening g.state previous; counts = a.counts }) keeper in
    let heard : Heard = frame_heard keeper.talk.counts frame keeper.talk.place in
    ap (λ (b : Bool). cond b (reacting stand_at (λ (m : Message). m) cued keeper heard r) (stays keeper)) (ap is_listening place)
    ∙ ap (λ (h : Heard). reacting stand_at (λ (m : Message). m) cued keeper h r)
    (ap (λ (y : Place). frame_heard keeper.talk.counts frame y) place ∙ clients-open keeper.talk.counts opener previous manager_opcode x sayable.fits sayable.bytes g.calm ∙ ap (λ (it : OpenMoved). opening_moved a previous it) (g.is (sequence_after keeper.talk.counts.sequence)) ∙ g.opening a previous (answer_of g.answer))
    ∙ ap (λ (d : Did Client Message). behind (map (λ (m : Message). m) (answer_of g.answer)) d) (does-nothing r next g.state previous refl alive)
    ∙ ap (λ (xs : List Message). record { line = xs; next = next }) (append-nil (map (λ (m : Message). m) (answer_of g.answer)) ∙ same-said g.answer)

abbrev takes_to : SetUp → AnyOpener → Option IceMessage → SetUp
takes_to p state answer = record p { client = Some state; said_up = p.said_up ++ answer_list answer; took = p.took + 1 }

stepped : (p : SetUp) (opener : AnyOpener) (x : IceMessage) (ws : List IceMessage) → p.client ≡ Some opener → drop p.took p.said_down ≡ x ∷ ws → way_step Takes p ≡ takes (opened opener x (p.took + 1)) p
stepped p opener x ws e d = ap (λ (xs : List IceMessage). client_takes p.client xs p) d ∙ ap (λ (o : Option AnyOpener). client_takes o (x ∷ ws) p) e

abbrev up-both : (p q r : SetUp) → SaysUp p q → SaysUp q r → SaysUp p r
up-both p q r a b = record {
  down = b.down ∙ a.down;
  heard = b.heard ∙ a.heard;
  more = a.more ++ b.more;
  up = b.up ∙ ap (λ (xs : List IceMessage). xs ++ b.more) a.up ∙ append_assoc p.said_up a.more b.more;
}

both-took : (k : Cookie) (previous : List ℕ) (setup : AnySetup) (middle rest : List IceMessage) (p : SetUp) (first done : Did Client Message) (f : Took k previous setup middle p first) → Took k previous setup rest f.ends done → Took k previous setup rest p (behind first.line done)
both-took k previous setup middle rest p first done f g = record {
  ends = g.ends;
  says = up-both p f.ends g.ends f.says g.says;
  opens = g.opens;
  waits = g.waits;
  said = ap (λ (xs : List Message). xs ++ done.line) f.said ∙ ap (λ (xs : List Message). map Ice f.says.more ++ xs) g.said ∙ sym (map-append Ice f.says.more g.says.more);
}

one-took : (k : Cookie) (previous : List ℕ) (setup : AnySetup) (keeper : Client) (p : SetUp) (x : IceMessage) (ws : List IceMessage) (r : List Wish) → OpensIn k previous setup keeper p → drop p.took p.said_down ≡ x ∷ ws → Said x
    → Took k previous setup ws p (reacts keeper (part_heard keeper.talk (part_of manager_opcode (Ice x))) r)
one-took k previous setup keeper p x ws r a d sayable =
    let g : OpenerGoes a.opener x = opener-goes k p setup a.opener x ws (led-enters k p a.led) a.setup_is a.silent a.opens d in
    let q : SetUp = takes_to p g.state g.answer in
    let is : way_step Takes p ≡ q = stepped p a.opener x ws a.opens d ∙ ap (λ (it : OpenMoved). takes it p) (g.is (p.took + 1)) in
    subst (λ (did : Did Client Message). Took k previous setup ws p did) (sym (reacted keeper previous a.opener x r g a.place a.alive sayable))
    (record {
      ends = q;
      says = record { down = refl; heard = refl; more = answer_list g.answer; up = refl };
      opens = record { led = subst (λ (y : SetUp). IsLedTo k y) is (led-on k Takes p a.led); setup_is = a.setup_is; silent = a.silent; opener = g.state; opens = refl; place = refl; alive = a.alive };
      waits = next-waits p.took p.said_down ws x d;
      said = refl;
    })

-- All messages of a piece

abbrev pub told_parts : List IceMessage → List Part
told_parts front = map (λ (x : IceMessage). part_of manager_opcode (Ice x)) front

pub all-took : (k : Cookie) (previous : List ℕ) (setup : AnySetup) (front rest : List IceMessage) (keeper : Client) (p : SetUp) (wishes : List (List Wish)) → OpensIn k previous setup keeper p → drop p.took p.said_down ≡ front ++ rest → AllByRecursion Said front
    → Took k previous setup rest p (parts_taken [] talk_of reacts keeper (told_parts front) wishes)
all-took k previous setup [] rest keeper p wishes a d said = record { ends = p; says = record { down = refl; heard = refl; more = []; up = sym (append-nil p.said_up) }; opens = a; waits = d; said = refl }
all-took k previous setup (x ∷ front) rest keeper p wishes a d said =
    let first : Did Client Message = reacts keeper (part_heard keeper.talk (part_of manager_opcode (Ice x))) (reply [] talk_of reacts wishes) in
    let f : Took k previous setup (front ++ rest) p first = one-took k previous setup keeper p x (front ++ rest) (reply [] talk_of reacts wishes) a d said.0 in
    both-took k previous setup (front ++ rest) rest p first (parts_taken [] talk_of reacts first.next (told_parts front) (drop 1 wishes)) f (all-took k previous setup front rest first.next f.ends (drop 1 wishes) f.opens f.waits said.1)
