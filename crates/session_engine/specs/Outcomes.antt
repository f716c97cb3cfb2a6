-- What a part of a client's stream brings, as the machine says it.
use Rattle.std.specs.Prelude.{ℕ, List, Option}
use Rattle.ice_setup.specs.declared.states.AnySetup.{AnySetup}
use Rattle.protocol_messages.specs.declared.message.Message.{Message}
use Rattle.xsmp_messages.specs.declared.message.XsmpMessage.{XsmpMessage}

pub data Answer : Type 0 where
  -- the message, if any, goes back, and the connection stays
  Stays : Option Message → Answer
  -- the message, if any, goes back, and XSMP has begun on the connection
  Begins : Option Message → Answer
  -- the message, if any, goes back, and the connection is closed
  Closes : Option Message → Answer
  -- A message of XSMP came, with its number among all messages of the connection and its whole frame. The session answers it.
  Speaks : XsmpMessage → ℕ → List ℕ → Answer
  -- the client wants to close, which the session decides
  Asks : Answer

-- how far the connection's set-up has come then, and the answer
pub record Outcome : Type 0 where
  pub setup : AnySetup
  pub answer : Answer

-- A part of the stream is whole: how it is answered, and how many bytes of the piece completed it.
pub record Answered : Type 0 where
  pub answer : Answer
  pub count : ℕ
