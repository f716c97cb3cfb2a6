-- What some effects do of a list of acts.
use Rattle.std.specs.Prelude.{◌≡◌, Bool, true, List, [], ◌∷◌, ◌++◌, map}
use Rattle.std.specs.List.{flat_map}
use Rattle.sm_world.specs.Effects.{Sends, Shuts, Starts, Prints, heard, deeds, published}
use Rattle.sm_world.specs.declared.effects.Effect.{Effect}
use Rattle.sm_world.specs.declared.effects.Effect.TheVariants.{Heard, Sent, Shut, Started, Wrote, Torn, Synced, SyncFailed, Published, Printed}
use Rattle.session_engine.specs.Acts.{deeds_in}
use Rattle.session_engine.specs.Machine.{Item, Came, Did}
use Rattle.session_engine.specs.declared.acts.Act.{Act}

abbrev pub item_of : Effect → List Item
item_of (Heard event) = Came event ∷ []
item_of (Sent conn bytes) = Did (Sends conn bytes) ∷ []
item_of (Shut conn) = Did (Shuts conn) ∷ []
item_of (Started command succeeded) = Did (Starts command) ∷ []
item_of (Wrote at bytes) = []
item_of (Torn at length) = []
item_of Synced = []
item_of SyncFailed = []
item_of (Published path bytes) = []
item_of (Printed text) = Did (Prints text) ∷ []

-- what a list of effects shows, in its order
abbrev pub items : List Effect → List Item
items effects = flat_map item_of effects

-- Effects that do all but the acts that are left, and hear and publish nothing.
pub record Going (all left : List Act) (effects : List Effect) : Type 0 where
  pub deaf : heard effects ≡ []
  pub quiet : published effects ≡ []
  pub done : List Act
  pub parts : done ++ left ≡ all
  pub so_far : deeds effects ≡ deeds_in done
  pub in_order : items effects ≡ map Did (deeds effects)

-- Effects that do the acts in order, and all of them where `whole` holds.
pub record CarriesOut (acts : List Act) (whole : Bool) (effects : List Effect) : Type 0 where
  pub left : List Act
  pub going : Going acts left effects
  pub none_left : whole ≡ true → left ≡ []
