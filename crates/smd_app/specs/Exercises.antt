-- The events of an exercise: eight clients log in, save in some rounds, and leave.
use Rattle.std.specs.Prelude.{ℕ, zero, suc, ◌+◌, ◌-◌, ◌/◌, ◌%◌, ◌^◌, ◌==◌, Bool, List, [], ◌∷◌, ◌++◌, if◌then◌else◌}
use Rattle.sm_world.specs.declared.events.Event.{Event}
use Rattle.sm_world.specs.declared.events.Event.TheVariants.{Joined, Piece, Operator}
use Rattle.sm_world.specs.declared.events.Order.TheVariants.{Checkpoint, Shutdown}

-- What a client sends

-- its byte order: LSB first
abbrev pub byte_order : List ℕ
byte_order = 0 ∷ 1 ∷ 0 ∷ 0 ∷ 0 ∷ 0 ∷ 0 ∷ 0 ∷ []

-- ConnectionSetup, with one version and the method of the cookie
abbrev pub connection_setup : List ℕ
connection_setup = 0 ∷ 2 ∷ 1 ∷ 1 ∷ 6 ∷ 0 ∷ 0 ∷ 0 ∷ 0 ∷ 0 ∷ 0 ∷ 0 ∷ 0 ∷ 0 ∷ 0 ∷ 0 ∷ 3 ∷ 0 ∷ 77 ∷ 73 ∷ 84 ∷ 0 ∷ 0 ∷ 0 ∷ 3 ∷ 0 ∷ 49 ∷ 46 ∷ 48 ∷ 0 ∷ 0 ∷ 0 ∷ 18 ∷ 0 ∷ 77 ∷ 73 ∷ 84 ∷ 45 ∷ 77 ∷ 65 ∷ 71 ∷ 73 ∷ 67 ∷ 45 ∷ 67 ∷ 79 ∷ 79 ∷ 75 ∷ 73 ∷ 69 ∷ 45 ∷ 49 ∷ 1 ∷ 0 ∷ 0 ∷ 0 ∷ []

-- AuthenticationReply, with the cookie of each rehearsal
abbrev pub authentication : List ℕ
authentication = 0 ∷ 4 ∷ 0 ∷ 0 ∷ 3 ∷ 0 ∷ 0 ∷ 0 ∷ 16 ∷ 0 ∷ 0 ∷ 0 ∷ 0 ∷ 0 ∷ 0 ∷ 0 ∷ 0 ∷ 1 ∷ 2 ∷ 3 ∷ 4 ∷ 5 ∷ 6 ∷ 7 ∷ 8 ∷ 9 ∷ 10 ∷ 11 ∷ 12 ∷ 13 ∷ 14 ∷ 15 ∷ []

-- ProtocolSetup for XSMP, with opcode 1 and the method of the cookie
abbrev pub protocol_setup : List ℕ
protocol_setup = 0 ∷ 7 ∷ 1 ∷ 0 ∷ 7 ∷ 0 ∷ 0 ∷ 0 ∷ 1 ∷ 1 ∷ 0 ∷ 0 ∷ 0 ∷ 0 ∷ 0 ∷ 0 ∷ 4 ∷ 0 ∷ 88 ∷ 83 ∷ 77 ∷ 80 ∷ 0 ∷ 0 ∷ 3 ∷ 0 ∷ 77 ∷ 73 ∷ 84 ∷ 0 ∷ 0 ∷ 0 ∷ 3 ∷ 0 ∷ 49 ∷ 46 ∷ 48 ∷ 0 ∷ 0 ∷ 0 ∷ 18 ∷ 0 ∷ 77 ∷ 73 ∷ 84 ∷ 45 ∷ 77 ∷ 65 ∷ 71 ∷ 73 ∷ 67 ∷ 45 ∷ 67 ∷ 79 ∷ 79 ∷ 75 ∷ 73 ∷ 69 ∷ 45 ∷ 49 ∷ 1 ∷ 0 ∷ 0 ∷ 0 ∷ []

-- RegisterClient, without a previous ID
abbrev pub registration : List ℕ
registration = 1 ∷ 1 ∷ 0 ∷ 0 ∷ 1 ∷ 0 ∷ 0 ∷ 0 ∷ 0 ∷ 0 ∷ 0 ∷ 0 ∷ 0 ∷ 0 ∷ 0 ∷ 0 ∷ []

-- SetProperties with the RestartCommand `c`
abbrev pub restart_command : List ℕ
restart_command = 1 ∷ 12 ∷ 0 ∷ 0 ∷ 8 ∷ 0 ∷ 0 ∷ 0 ∷ 1 ∷ 0 ∷ 0 ∷ 0 ∷ 0 ∷ 0 ∷ 0 ∷ 0 ∷ 14 ∷ 0 ∷ 0 ∷ 0 ∷ 82 ∷ 101 ∷ 115 ∷ 116 ∷ 97 ∷ 114 ∷ 116 ∷ 67 ∷ 111 ∷ 109 ∷ 109 ∷ 97 ∷ 110 ∷ 100 ∷ 0 ∷ 0 ∷ 0 ∷ 0 ∷ 0 ∷ 0 ∷ 12 ∷ 0 ∷ 0 ∷ 0 ∷ 76 ∷ 73 ∷ 83 ∷ 84 ∷ 111 ∷ 102 ∷ 65 ∷ 82 ∷ 82 ∷ 65 ∷ 89 ∷ 56 ∷ 1 ∷ 0 ∷ 0 ∷ 0 ∷ 0 ∷ 0 ∷ 0 ∷ 0 ∷ 1 ∷ 0 ∷ 0 ∷ 0 ∷ 99 ∷ 0 ∷ 0 ∷ 0 ∷ []

-- SaveYourselfDone, with success
abbrev pub save_done : List ℕ
save_done = 1 ∷ 8 ∷ 1 ∷ 0 ∷ 0 ∷ 0 ∷ 0 ∷ 0 ∷ []

-- SaveYourselfPhase2Request
abbrev pub phase_two : List ℕ
phase_two = 1 ∷ 16 ∷ 0 ∷ 0 ∷ 0 ∷ 0 ∷ 0 ∷ 0 ∷ []

-- ConnectionClosed, without reasons
abbrev pub connection_closed : List ℕ
connection_closed = 1 ∷ 11 ∷ 0 ∷ 0 ∷ 1 ∷ 0 ∷ 0 ∷ 0 ∷ 0 ∷ 0 ∷ 0 ∷ 0 ∷ 0 ∷ 0 ∷ 0 ∷ 0 ∷ []

-- What comes

-- what 1 to n bring, one after the other
abbrev pub each : (ℕ → List Event) → ℕ → List Event
each brings zero = []
each brings (suc n) = each brings n ++ brings (suc n)

-- a client logs in, says how it is started again, and has saved for the first time
abbrev pub login_events : ℕ → List Event
login_events c =
    Joined c ∷ Piece c byte_order ∷ Piece c connection_setup ∷ Piece c authentication ∷ Piece c protocol_setup ∷ Piece c authentication ∷ Piece c registration ∷ Piece c restart_command ∷ Piece c save_done ∷ []

-- a client sends these bytes
abbrev pub sends : List ℕ → ℕ → List Event
sends bytes c = Piece c bytes ∷ []

-- Client c wants to save in the second phase where bit c - 1 of this number is 1.
abbrev pub wants_two : ℕ → ℕ → Bool
wants_two bits c = (bits / 2 ^ (c - 1)) % 2 == 1

-- a client's first answer, and its second where it has one
abbrev pub first_answer : ℕ → ℕ → List Event
first_answer bits c = if wants_two bits c then sends phase_two c else sends save_done c

abbrev pub second_answer : ℕ → ℕ → List Event
second_answer bits c = if wants_two bits c then sends save_done c else []

-- round t: a checkpoint, in which the lowest eight bits of pattern and t together say who wants the second phase
abbrev pub round_events : ℕ → ℕ → List Event
round_events pattern t = Operator Checkpoint ∷ (each (first_answer ((pattern + t) % 256)) 8 ++ each (second_answer ((pattern + t) % 256)) 8)

-- the logout
abbrev pub ending_events : List Event
ending_events = Operator Shutdown ∷ (each (sends save_done) 8 ++ each (sends connection_closed) 8)

-- clients 1 to 8 log in, then come the rounds, and then the logout
abbrev pub exercise_events : ℕ → ℕ → List Event
exercise_events pattern rounds = each login_events 8 ++ (each (round_events pattern) rounds ++ ending_events)
