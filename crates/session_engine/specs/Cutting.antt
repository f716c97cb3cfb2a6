-- What cutting the rest of a piece does to what is kept of its connection.
use Rattle.std.specs.Prelude.{◌≡◌, ℕ, List, [], ◌∷◌, drop, Option, Some, None}
use Rattle.ice_cookie.specs.declared.cookies.Cookie.{Cookie}
use Rattle.ice_framing.specs.Frames.{beginning, fed, cut}
use Rattle.ice_framing.specs.Parts.{Part, parts_at}
use Rattle.ice_setup.specs.declared.states.AnySetup.TheVariants.{AwaitOrder as AtOrder}
use Rattle.session_engine.specs.Answers.{outcome, sequence_after, without_xsmp, KeepsWhole}
use Rattle.session_engine.specs.declared.connection.Connection.{Connection as Kept}
use Rattle.session_engine.specs.Outcomes.{Answered}

pub record IsNew (cookie : Cookie) (kept : Kept) : Type 0 where
  pub setup : kept.setup ≡ AtOrder (record { cookie = cookie })
  pub sequence : kept.sequence ≡ 0
  pub splitter : kept.splitter ≡ beginning

-- The first part that the bytes make whole is taken and answered, and the rest of the bytes is left.
pub record TakesFirst (before : Kept) (left : List ℕ) (answered : Answered) (after : Kept) : Type 0 where
  pub part : Part
  pub parts : parts_at (fed before.splitter left) ≡ part ∷ parts_at (fed after.splitter (drop answered.count left))
  pub answer : answered.answer ≡ (outcome before.setup (sequence_after before.sequence) part).answer
  pub setup : after.setup ≡ (outcome before.setup (sequence_after before.sequence) part).setup
  pub sequence : after.sequence ≡ sequence_after before.sequence
  -- what is cut behind the part is what would have been cut
  pub stands : KeepsWhole answered.answer → (cut (fed after.splitter (drop answered.count left))).standing ≡ (cut (fed before.splitter left)).standing

-- No part is whole: all bytes are held.
pub record HoldsAll (before : Kept) (left : List ℕ) (after : Kept) : Type 0 where
  pub none : parts_at (fed before.splitter left) ≡ []
  pub setup : after.setup ≡ before.setup
  pub sequence : after.sequence ≡ before.sequence
  pub splitter : after.splitter ≡ fed before.splitter left

abbrev pub Cuts : Kept → List ℕ → Option Answered → Kept → Type 0
Cuts before left None after = HoldsAll before left after
Cuts before left (Some answered) after = TakesFirst before left answered after

-- XSMP has ended on the connection, and nothing else has changed.
pub record Unsets (before after : Kept) : Type 0 where
  pub setup : after.setup ≡ without_xsmp before.setup
  pub sequence : after.sequence ≡ before.sequence
  pub splitter : after.splitter ≡ before.splitter
