-- What a follower of windows is told, what it gives, and what it knows.
use Rattle.std.specs.Prelude.{◌≡◌, ℕ, Bool, true, false, List, [], ◌∷◌, ◌++◌, map, Option, Some, None, Result, Ok, Err}
use Rattle.display_messages.specs.declared.request.Request.{Request}
use Rattle.window_follower.specs.Asked.{sends, after_sending}
use Rattle.window_follower.specs.Names.{every_name}
use Rattle.window_follower.specs.Questions.{request_of}
use Rattle.window_follower.specs.Following.{asking}
use Rattle.window_follower.specs.Taking.{Brought}
use Rattle.window_follower.specs.declared.question.Question.{Question}
use Rattle.window_follower.specs.declared.question.Question.TheVariants.{Atom, Extension, Close, Show, Ping, Mark}
use Rattle.window_follower.specs.declared.mode.Mode.TheVariants.{Unknown}
use Rattle.window_follower.specs.declared.following.Following.{Following}
use Rattle.window_follower.specs.declared.wishes.Wish.{Wish}
use Rattle.window_follower.specs.declared.wishes.Wish.TheVariants.{Close as WantsClose, Show as WantsShow, Ping as WantsPing, Mark as WantsMark}
use Rattle.window_follower.specs.declared.follower.Took.{Took}

-- what is asked first: the atoms of all names, and X-Resource
abbrev pub first_questions : List Question
first_questions = map (λ name. Atom name) every_name ++ Extension ∷ []

-- the requests that are sent now
abbrev pub requests_from : Following → List Request
requests_from s = map (request_of s.atoms) (sends s.asked)

abbrev pub after_requests : Following → Following
after_requests s = record s { asked = after_sending s.asked }

-- Nothing is known at the beginning, and all is asked for.
pub record Begins (root : ℕ) (s : Following) : Type 0 where
  pub root_is : s.root ≡ root
  pub atoms : s.atoms ≡ []
  pub resource : s.resource ≡ None
  pub mode : s.mode ≡ Unknown
  pub windows : s.windows ≡ []
  pub asked : s.asked ≡ record { first = 1; unanswered = []; waiting = first_questions }

-- some requests are sent from here
abbrev pub Sends : Following → List Request → Following → Type 0
Sends s requests next = (requests ≡ requests_from s) × (next ≡ after_requests s)

-- What a part brings is told, and what is to be asked because of it is sent.
abbrev pub Takes : Option Brought → Took → Following → Type 0
Takes None took next = ⊥
Takes (Some brought) took next = (took.news ≡ brought.news) × Sends brought.next took.requests next

-- a wish is a question
abbrev pub wished : ℕ → Wish → Question
wished root (WantsClose window) = Close window
wished root (WantsShow window) = Show root window
wished root (WantsPing window stamp) = Ping window stamp
wished root (WantsMark number) = Mark number

abbrev pub wishing : Wish → Following → Following
wishing wish s = asking (wished s.root wish) s

abbrev pub gave_none : {A E : Type 0} → Result A E → Bool
gave_none (Ok a) = false
gave_none (Err e) = true
