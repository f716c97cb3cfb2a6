-- What a window counts as.
use Rattle.std.specs.Prelude.{ℕ, Bool, if◌then◌else◌, Option, Some, None}
use Rattle.window_follower.specs.declared.names.WindowType.{WindowType}
use Rattle.window_follower.specs.declared.names.WindowType.TheVariants.{Normal, Dialog, Dock, Desktop}
use Rattle.window_follower.specs.declared.facts.WindowFacts.{WindowFacts}
use Rattle.window_follower.specs.declared.kinds.Kind.{Kind}
use Rattle.window_follower.specs.declared.kinds.Kind.TheVariants.{Main, Auxiliary, Fixed, Passing}

abbrev pub purpose_by : Option WindowType → Option ℕ → WindowType
purpose_by (Some purpose) window = purpose
purpose_by None (Some window) = Dialog
purpose_by None None = Normal

-- What a window states that it is for. Without that it is a dialog where it is transient for any window.
abbrev pub purpose_of : WindowFacts → WindowType
purpose_of facts = purpose_by facts.purpose facts.transient_for

-- A dialog is never asked to close, and a window that belongs to another one is like a dialog. A panel and a window that doesn't know the question can't be asked.
abbrev pub class_of : Bool → Bool → WindowType → Kind
class_of belongs deletes Normal = if belongs then Auxiliary else if deletes then Main else Fixed
class_of belongs deletes Dialog = Auxiliary
class_of belongs deletes Dock = Fixed
class_of belongs deletes Desktop = Fixed
class_of belongs deletes purpose = Passing

abbrev pub kind_of : Bool → WindowFacts → Kind
kind_of belongs facts = class_of belongs facts.deletes (purpose_of facts)
