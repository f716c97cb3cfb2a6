-- What is kept in the middle of a trace that is told, against the scene.
use Rattle.std.specs.Prelude.{◌≡◌, ◌≢◌, ℕ, List, ◌++◌, Option}
use Rattle.std.specs.Ordering.{nat_cmp}
use Rattle.std.specs.BTreeMap.{get as row_in}
use Rattle.ice_framing.specs.Parts.{Part}
use Rattle.trace_replay.specs.Flows.{AreParts}
use Rattle.trace_replay.specs.Watches.{LineBrings, Shows}
use Rattle.trace_replay.specs.declared.flows.Brought.{Brought}
use Rattle.trace_replay.specs.declared.lines.TraceLine.{TraceLine}
use Rattle.trace_reading.specs.Lines.{came_told, went_told}
use Rattle.trace_reading.specs.Programs.{after_parts}
use Rattle.trace_reading.specs.Told.{Scene, clock_behind, known_on, line_told, scene_behind}
use Rattle.trace_reading.specs.declared.telling.Teller.{Teller}
use Rattle.trace_reading.specs.declared.telling.Notes.{Notes}

-- the clock, and each program that is known
pub record Notices (scene : Scene) (notes : Notes) : Type 0 where
  pub clock : notes.clock ≡ scene.clock
  pub programs : (q : ℕ) → row_in nat_cmp notes.programs q ≡ known_on scene q

pub record Stands (scene : Scene) (teller : Teller) : Type 0 where
  pub shows : Shows scene.streams teller.watch
  pub notices : Notices scene teller.notes

-- What a line says was told.
pub record Tells (scene : Scene) (said : TraceLine) (after : Notes) (old new : List ℕ) : Type 0 where
  pub notices : Notices (scene_behind scene said) after
  pub lines : new ≡ old ++ line_told scene said

-- the same of all scenes that are kept, where the line brought this
abbrev pub TellsLine : TraceLine → Brought → Notes → Notes → List ℕ → List ℕ → Type 0
TellsLine said brought before after old new = (scene : Scene) → Notices scene before → LineBrings scene.streams said brought → Tells scene said after old new

-- Parts that came were told, and this program is known behind them.
pub record ToldCame (clock n : ℕ) (known : Option (List ℕ)) (parts : List Part) (after : Option (List ℕ)) (old new : List ℕ) : Type 0 where
  pub program : after ≡ after_parts known parts
  pub lines : new ≡ old ++ came_told clock n known parts

-- the same of all parts that were brought
abbrev pub BroughtCame : ℕ → ℕ → Option (List ℕ) → Brought → Option (List ℕ) → List ℕ → List ℕ → Type 0
BroughtCame clock n known brought after old new = (parts : List Part) → AreParts brought parts → ToldCame clock n known parts after old new

-- All parts that were brought were told as sent.
abbrev pub BroughtWent : ℕ → ℕ → Option (List ℕ) → Brought → List ℕ → List ℕ → Type 0
BroughtWent clock n known brought old new = (parts : List Part) → AreParts brought parts → new ≡ old ++ went_told clock n known parts

-- A piece that came was told.
pub record CameTold (n : ℕ) (parts : List Part) (before after : Notes) (old new : List ℕ) : Type 0 where
  pub clock : after.clock ≡ before.clock
  pub here : row_in nat_cmp after.programs n ≡ after_parts (row_in nat_cmp before.programs n) parts
  pub elsewhere : (q : ℕ) → q ≢ n → row_in nat_cmp after.programs q ≡ row_in nat_cmp before.programs q
  pub lines : new ≡ old ++ came_told before.clock n (row_in nat_cmp before.programs n) parts

abbrev pub TellsCame : ℕ → Brought → Notes → Notes → List ℕ → List ℕ → Type 0
TellsCame n brought before after old new = (parts : List Part) → AreParts brought parts → CameTold n parts before after old new

-- What a line says was told, and all that is kept goes on.
pub record GoesOn (scene : Scene) (said : TraceLine) (after : Teller) (old new : List ℕ) : Type 0 where
  pub stands : Stands (scene_behind scene said) after
  pub lines : new ≡ old ++ line_told scene said

abbrev pub GoesOnWith : TraceLine → Teller → Teller → List ℕ → List ℕ → Type 0
GoesOnWith said before after old new = (scene : Scene) → Stands scene before → GoesOn scene said after old new
