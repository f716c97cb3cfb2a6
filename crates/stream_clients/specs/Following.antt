-- What such a client does is a schedule of `end_schedules`: its own steps, and no others.
use Rattle.std.specs.Prelude.{List, [], drop, false, length, map, take, true, ℕ, ◌++◌, ◌+◌, ◌≡◌, ◌≢◌}
use Rattle.std.specs.List.{AllByRecursion}
use Rattle.ice_setup.specs.declared.opener.Joined.{Joined}
use Rattle.xsmp_messages.specs.Messages.{IsMessage}
use Rattle.xsmp_messages.specs.declared.message.XsmpMessage.{XsmpMessage}
use Rattle.client_machine.specs.Phases.{ClientState, is_dead}
use Rattle.client_machine.specs.declared.phase.ClientPhase.TheVariants.{Dead}
use Rattle.client_engine.specs.Driving.{Run, Step as Done, parts_taken, piece_taken}
use Rattle.client_engine.specs.Places.{is_listening}
use Rattle.client_engine.specs.declared.place.Place.{Place}
use Rattle.client_engine.specs.declared.place.Place.TheVariants.{Opening, Speaking, Stopped}
use Rattle.protocol_messages.specs.declared.message.Message.{Message}
use Rattle.protocol_messages.specs.declared.message.Message.TheVariants.{Xsmp}
use Rattle.message_streams.specs.Streams.{HasBytes, HoldsBytes, part_of}
use Rattle.end_schedules.specs.Laws.{ExpectsWhatWaits}
use Rattle.end_schedules.specs.Pairs.{AllMay, Pair, Step, after, down_of}
use Rattle.stream_clients.specs.Clients.{Client, Wish, does, reacts, talk_of}

-- how a client of a schedule stands that has joined so
abbrev pub StandsAs : Joined → Place → ClientState → Type 0
StandsAs joined (Opening opener previous) s = ⊥
StandsAs joined (Speaking it t) s = (it ≡ joined) × (t ≡ s) × (is_dead s.phase ≡ false)
StandsAs joined Stopped s = s.phase ≡ Dead

-- Steps that it may make lead there: it took so many messages and said these, and nothing else came to the manager.
pub record Follows (c : ℕ) (joined : Joined) (p : Pair) (taken : ℕ) (done : Done Client Message) : Type 0 where
  pub steps : List Step
  pub may : AllMay c steps p
  pub history : (after c steps p).history ≡ p.history
  pub took : (after c steps p).took ≡ p.took + taken
  pub up : map Xsmp (after c steps p).up ≡ map Xsmp p.up ++ done.line
  pub stands : StandsAs joined done.next.talk.place (after c steps p).state

-- what it wishes, in any number
abbrev pub WishesAreSteps : Type 0
WishesAreSteps = (c : ℕ) (joined : Joined) (p : Pair) (client : Client) (wishes : List Wish) → StandsAs joined client.talk.place p.state → Follows c joined p 0 (does wishes client)

-- a message has a spelling under this opcode
pub record IsSpelled (opcode : ℕ) (m : XsmpMessage) : Type 0 where
  pub fits : IsMessage m
  pub bytes : HasBytes opcode (Xsmp m)

-- The frames of the first messages that wait for it, with whatever it wishes behind each. It takes all of them, or has stopped.
pub record FollowsParts (c : ℕ) (joined : Joined) (p : Pair) (front : List XsmpMessage) (done : Done Client Message) : Type 0 where
  pub taken : ℕ
  pub follows : Follows c joined p taken done
  pub all : is_listening done.next.talk.place ≡ true → taken ≡ length front

-- where the manager sends it nothing out of its place, whatever it does itself
abbrev pub PartsAreSteps : Type 0
PartsAreSteps =
    (c : ℕ) (joined : Joined) (front rest : List XsmpMessage) (p : Pair) (client : Client) (wishes : List (List Wish)) → joined.opcode ≢ 0 → StandsAs joined client.talk.place p.state → down_of c p ≡ front ++ rest
    → AllByRecursion (IsSpelled joined.opcode) front → ((steps : List Step) → AllMay c steps p → ExpectsWhatWaits c (after c steps p))
    → FollowsParts c joined p front (parts_taken [] talk_of reacts client (map (λ m. part_of joined.opcode (Xsmp m)) front) wishes)

-- So many bytes more of what is under way to it, in one piece: the frames of the first messages that wait come whole, and the others
-- are held or under way still.
pub record FollowsPiece (c : ℕ) (joined : Joined) (p : Pair) (later : List ℕ) (done : Done (Run Client) Message) : Type 0 where
  pub front : List XsmpMessage
  pub rest : List XsmpMessage
  pub all : down_of c p ≡ front ++ rest
  pub follows : FollowsParts c joined p front (record { line = done.line; next = done.next.keeper })
  pub holds : HoldsBytes joined.opcode done.next.standing later (map Xsmp rest)

abbrev pub PiecesAreSteps : Type 0
PiecesAreSteps =
    (c : ℕ) (joined : Joined) (p : Pair) (run : Run Client) (later : List ℕ) (count : ℕ) (wishes : List (List Wish)) → joined.opcode ≢ 0 → StandsAs joined run.keeper.talk.place p.state
    → HoldsBytes joined.opcode run.standing later (map Xsmp (down_of c p)) → AllByRecursion IsMessage (down_of c p) → ((steps : List Step) → AllMay c steps p → ExpectsWhatWaits c (after c steps p))
    → FollowsPiece c joined p (drop count later) (piece_taken [] talk_of reacts run (take count later) wishes)
