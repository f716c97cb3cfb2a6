-- A round: everybody in it was asked to save, and it goes on until all of them have. A member says
-- whether it saved, or first that it wants to save in a second phase, when the others are done.
use Rattle.std.specs.Prelude.{ℕ, ◌==◌, Bool, true, false, not, ◌&&◌, ◌||◌, if◌then◌else◌, List, [], ◌∷◌, length, map, filter}
use Rattle.std.specs.List.{list_any, list_all}
use Rattle.round_agreement.specs.declared.round.Member.{Member}
use Rattle.round_agreement.specs.declared.round.Step.{Step}
use Rattle.round_agreement.specs.declared.round.Step.TheVariants.{Saving, WantsTwo, SavingTwo, Done}
use Rattle.round_agreement.specs.declared.wanted.Wanted.{Wanted}

-- the members that haven't left, in their order, whether the round began without any, and what it was begun for
pub record Agreement : Type 0 where
  pub members : List Member
  pub began_empty : Bool
  pub wanted : Wanted

-- Steps of a member

-- it saves, in the first phase or in the second
abbrev pub is_saving : Step → Bool
is_saving Saving = true
is_saving WantsTwo = false
is_saving SavingTwo = true
is_saving (Done success) = false

abbrev pub is_first_saving : Step → Bool
is_first_saving Saving = true
is_first_saving WantsTwo = false
is_first_saving SavingTwo = false
is_first_saving (Done success) = false

abbrev pub wants_two : Step → Bool
wants_two Saving = false
wants_two WantsTwo = true
wants_two SavingTwo = false
wants_two (Done success) = false

abbrev pub is_done : Step → Bool
is_done Saving = false
is_done WantsTwo = false
is_done SavingTwo = false
is_done (Done success) = true

-- it is done, and its save was a success
abbrev pub is_saved : Step → Bool
is_saved Saving = false
is_saved WantsTwo = false
is_saved SavingTwo = false
is_saved (Done success) = success

-- it still owes a SaveYourselfDone
abbrev pub owes : Step → Bool
owes step = not (is_done step)

-- The members of a round

-- this connection is a member, and at such a step
abbrev pub is_at : (Step → Bool) → ℕ → List Member → Bool
is_at test conn members = list_any (λ m. (m.conn == conn) && test m.step) members

-- how many members are at such a step
abbrev pub count_at : (Step → Bool) → List Member → ℕ
count_at test members = length (filter (λ m. test m.step) members)

abbrev pub is_nil : {A : Type 0} → List A → Bool
is_nil [] = true
is_nil (x ∷ xs) = false

abbrev pub conns_of : List Member → List ℕ
conns_of members = map (λ m. m.conn) members

-- no connection stands twice
abbrev pub are_distinct : List ℕ → Bool
are_distinct [] = true
are_distinct (conn ∷ conns) = not (list_any (λ other. other == conn) conns) && are_distinct conns

-- everybody saves in the first phase
abbrev pub all_saving : List ℕ → List Member
all_saving conns = map (λ conn. record { conn = conn; step = Saving }) conns

abbrev pub moved : ℕ → Step → Member → Member
moved conn step m = record { conn = m.conn; step = if m.conn == conn then step else m.step }

-- this member comes to a step, and the others stay where they are
abbrev pub with_step : ℕ → Step → List Member → List Member
with_step conn step members = map (moved conn step) members

abbrev pub without_member : ℕ → List Member → List Member
without_member conn members = filter (λ m. not (m.conn == conn)) members

abbrev pub second_step : Step → Step
second_step Saving = Saving
second_step WantsTwo = SavingTwo
second_step SavingTwo = SavingTwo
second_step (Done success) = Done success

abbrev pub second_saving : Member → Member
second_saving m = record { conn = m.conn; step = second_step m.step }

-- those that want phase two save in it
abbrev pub with_second : List Member → List Member
with_second members = map second_saving members

-- those that still owe a SaveYourselfDone, in order
abbrev pub owing : List Member → List ℕ
owing members = conns_of (filter (λ m. owes m.step) members)

-- How a round goes on

-- phase two can begin: everybody is done or wants phase two, and somebody wants it
abbrev pub two_ready : List Member → Bool
two_ready members = list_all (λ m. is_done m.step || wants_two m.step) members && list_any (λ m. wants_two m.step) members

abbrev pub all_done : List Member → Bool
all_done members = list_all (λ m. is_done m.step) members

-- everybody is done; where all have left, that counts only for a round that began without members
abbrev pub agreed : Agreement → Bool
agreed r = all_done r.members && (r.began_empty || not (is_nil r.members))

-- the round began with members, and all have left it
abbrev pub deserted : Agreement → Bool
deserted r = not r.began_empty && is_nil r.members
