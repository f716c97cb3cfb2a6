-- What a keeper knows of its program, and what becomes of that.
use Rattle.std.specs.Prelude.{ℕ, Bool, true, false, not, ◌&&◌, ◌||◌, nat_le, cond, is_some, List, [], ◌∷◌}
use Rattle.std.specs.List.{list_any}
use Rattle.program_keeper.specs.Windows.{is_main}
use Rattle.program_keeper.specs.Talking.{disturbed, more_time, passed, start, turn_taken}
use Rattle.program_keeper.specs.declared.program.Life.{Life}
use Rattle.program_keeper.specs.declared.program.Life.TheVariants.{Here, Starting, Gone}
use Rattle.program_keeper.specs.declared.program.Outcome.{Outcome}
use Rattle.program_keeper.specs.declared.program.Outcome.TheVariants.{Open, Agreed, Closed}
use Rattle.program_keeper.specs.declared.program.Program.{Program}
use Rattle.program_keeper.specs.declared.program.Stay.{Stay}
use Rattle.program_keeper.specs.declared.program.Stay.TheVariants.{Joined, Ending, Ended, Left}
use Rattle.program_keeper.specs.declared.windows.Window.{Window}

-- it is there, and nothing was asked of it yet
abbrev pub fresh : List Window → Program
fresh windows = record { windows = windows; life = Here; alone = 0; talk = start; outcome = Open; stay = Joined }

abbrev pub is_gone : Life → Bool
is_gone Gone = true
is_gone life = false

abbrev pub is_starting : Life → Bool
is_starting Starting = true
is_starting life = false

abbrev pub is_joined : Stay → Bool
is_joined Joined = true
is_joined stay = false

abbrev pub is_open : Outcome → Bool
is_open Open = true
is_open outcome = false

abbrev pub is_closed : Outcome → Bool
is_closed Closed = true
is_closed outcome = false

abbrev pub has_main : List Window → Bool
has_main windows = list_any (λ window. is_main window.kind) windows

abbrev pub has_none : List Window → Bool
has_none [] = true
has_none (window ∷ windows) = false

-- ---- what comes to it

-- a window of a program that was started came
abbrev pub life_shown : Life → Life
life_shown Here = Here
life_shown Starting = Here
life_shown Gone = Gone

-- its windows have changed, and are these
abbrev pub noted_windows : List Window → Program → Program
noted_windows windows program = record program { windows = windows; life = cond (has_none windows) program.life (life_shown program.life); alone = cond (has_none windows) program.alone 0; talk = disturbed program.talk }

-- It has ended. In the session, as it was started again, that was what had been there before.
abbrev pub noted_end : Program → Program
noted_end program = record program { life = cond (is_joined program.stay && is_starting program.life) program.life Gone }

-- it couldn't be started
abbrev pub noted_failure : Program → Program
noted_failure program = record program { life = cond (is_starting program.life) Gone program.life }

-- how long it has had no window, so many milliseconds later
abbrev pub alone_later : ℕ → Program → ℕ
alone_later elapsed program = cond (is_starting program.life || has_none program.windows) (more_time program.alone elapsed) 0

-- One that was started and shows nothing for 30 seconds counts as gone; so does one that owes no answer and has no window for 5.
abbrev pub life_later : Bool → ℕ → Life → Life
life_later idle alone Here = cond (idle && nat_le 5000 alone) Gone Here
life_later idle alone Starting = cond (nat_le 30000 alone) Gone Starting
life_later idle alone Gone = Gone

-- its time to end is over
abbrev pub is_over : ℕ → Stay → Bool
is_over elapsed (Ending waited) = nat_le 5000 (more_time waited elapsed)
is_over elapsed stay = false

abbrev pub stay_later : ℕ → Stay → Stay
stay_later elapsed (Ending waited) = cond (nat_le 5000 (more_time waited elapsed)) Ended (Ending (more_time waited elapsed))
stay_later elapsed stay = stay

-- so many milliseconds went by
abbrev pub noted_time : Bool → ℕ → Bool → Program → Program
noted_time idle elapsed answered program = record program { life = life_later idle (alone_later elapsed program) program.life; alone = alone_later elapsed program; talk = passed program.windows elapsed answered program.talk; stay = stay_later elapsed program.stay }

-- ---- what is made of it

-- a new save: nothing is known of this logout yet
abbrev pub opened : Program → Program
opened program = record program { outcome = Open }

-- it has the token
abbrev pub begun : Program → Program
begun program = record program { talk = start }

-- the talk goes on
abbrev pub talked : Program → Program
talked program = record program { talk = (turn_taken program.windows program.talk).next }

-- it agrees to the logout
abbrev pub agreed : Program → Program
agreed program = record program { outcome = cond (is_some program.talk.asked) Closed Agreed }

-- It was asked to close in this logout, and has no main window: it is started again where the logout is cancelled.
abbrev pub is_restart : Program → Bool
is_restart program = is_closed program.outcome && (is_gone program.life || not (has_main program.windows))

abbrev pub cancelled : Program → Program
cancelled program = record program { life = cond (is_restart program) Starting program.life; alone = cond (is_restart program) 0 program.alone; outcome = Open }

-- one that didn't close its windows by itself is ended at once as it is told to die
abbrev pub is_ended_at_once : Program → Bool
is_ended_at_once program = is_open program.outcome && not (is_gone program.life)

abbrev pub died : Program → Program
died program = record program { stay = cond (is_open program.outcome) Ended (Ending 0) }

abbrev pub left : Program → Program
left program = record program { stay = Left }

-- one that has gone may leave the session where it owes no answer, or was told to die
abbrev pub may_leave : Bool → Stay → Bool
may_leave idle Joined = idle
may_leave idle (Ending waited) = true
may_leave idle Ended = true
may_leave idle Left = false

abbrev pub is_leaving : Program → Bool → Bool
is_leaving program idle = is_gone program.life && may_leave idle program.stay
