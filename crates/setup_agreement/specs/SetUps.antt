-- A manager and a client that set up a connection, each by its table, with what is under way each way.
use Rattle.std.specs.Prelude.{List, None, Option, Some, [], drop, ℕ, ◌++◌, ◌+◌, ◌∷◌}
use Rattle.ice_cookie.specs.declared.cookies.Cookie.{Cookie}
use Rattle.ice_values.specs.declared.numbers.Endian.TheVariants.{Lsb}
use Rattle.ice_messages.specs.declared.message.IceMessage.{IceMessage}
use Rattle.ice_messages.specs.declared.message.IceMessage.TheVariants.{ByteOrder}
use Rattle.ice_setup.specs.Opener.{opened}
use Rattle.ice_setup.specs.Setup.{moved}
use Rattle.ice_setup.specs.declared.opener.AnyOpener.{AnyOpener}
use Rattle.ice_setup.specs.declared.opener.AnyOpener.TheVariants.{OpenOrder}
use Rattle.ice_setup.specs.declared.opener.OpenMoved.{OpenMoved}
use Rattle.ice_setup.specs.declared.opener.OpenMoved.TheVariants.{Ends as Stops, Goes as GoesOn}
use Rattle.ice_setup.specs.declared.states.AnySetup.{AnySetup}
use Rattle.ice_setup.specs.declared.states.AnySetup.TheVariants.{AwaitOrder}
use Rattle.ice_setup.specs.declared.states.Moved.{Moved}
use Rattle.ice_setup.specs.declared.states.Moved.TheVariants.{Ask, Close, Ends, Goes}

-- Where the manager stands, none once it has closed; where the client stands, none once it has ended; what each has said, the oldest
-- first; and how many messages each has taken of what the other said.
pub record SetUp : Type 0 where
  pub manager : Option AnySetup
  pub client : Option AnyOpener
  pub said_up : List IceMessage
  pub said_down : List IceMessage
  pub heard : ℕ
  pub took : ℕ

pub data Way : Type 0 where
  -- the manager takes the first message that waits for it
  Comes : Way
  -- the client takes the first that waits for it
  Takes : Way

-- The connection is there: each has said the order of its numbers. The manager has the one cookie, and the client the other.
abbrev pub begun : Cookie → Cookie → SetUp
begun cookie shown = record {
  manager = Some (AwaitOrder (record { cookie = cookie }));
  client = Some (OpenOrder (record { cookie = shown }));
  said_up = ByteOrder Lsb ∷ [];
  said_down = ByteOrder Lsb ∷ [];
  heard = 0;
  took = 0;
}

abbrev pub said_by : Option IceMessage → List IceMessage
said_by None = []
said_by (Some message) = message ∷ []

-- The manager takes a message.

abbrev pub setup_after : Moved → Option AnySetup
setup_after (Goes state answer) = Some state
setup_after (Ends answer) = None
setup_after Close = None
setup_after (Ask state) = Some state

abbrev pub answer_in : Moved → List IceMessage
answer_in (Goes state answer) = said_by answer
answer_in (Ends answer) = said_by answer
answer_in Close = []
answer_in (Ask state) = []

abbrev pub hears : Moved → SetUp → SetUp
hears it p = record p { manager = setup_after it; said_down = p.said_down ++ answer_in it; heard = p.heard + 1 }

-- where it stands and something waits
abbrev pub manager_takes : Option AnySetup → List IceMessage → SetUp → SetUp
manager_takes (Some state) (message ∷ waiting) p = hears (moved state message (p.heard + 1)) p
manager_takes state waiting p = p

-- The client takes a message.

abbrev pub opener_after : OpenMoved → Option AnyOpener
opener_after (GoesOn state answer) = Some state
opener_after (Stops answer) = None

abbrev pub reply_in : OpenMoved → List IceMessage
reply_in (GoesOn state answer) = said_by answer
reply_in (Stops answer) = said_by answer

abbrev pub takes : OpenMoved → SetUp → SetUp
takes it p = record p { client = opener_after it; said_up = p.said_up ++ reply_in it; took = p.took + 1 }

abbrev pub client_takes : Option AnyOpener → List IceMessage → SetUp → SetUp
client_takes (Some state) (message ∷ waiting) p = takes (opened state message (p.took + 1)) p
client_takes state waiting p = p

abbrev pub step : Way → SetUp → SetUp
step Comes p = manager_takes p.manager (drop p.heard p.said_up) p
step Takes p = client_takes p.client (drop p.took p.said_down) p

abbrev pub after : List Way → SetUp → SetUp
after [] p = p
after (way ∷ ways) p = after ways (step way p)
