-- What the operator can ask for, and the line of each order.
use Rattle.std.specs.Prelude.{◌≡◌, ◌≢◌, ℕ, ◌<◌, ◌≤◌, ◌^◌, List, ◌++◌, length, codes}
use Rattle.std.specs.List.{AllByRecursion}
use Rattle.std.specs.Fmt.{decimal}
use Rattle.sm_world.specs.declared.events.Order.{Order}
use Rattle.sm_world.specs.declared.events.Order.TheVariants.{Checkpoint, Shutdown, Cancel, Status, DropConn, Forget}

-- from ! (33) to ~ (126)
abbrev pub IsGraphic : ℕ → Type 0
IsGraphic b = (33 ≤ b) × (b ≤ 126)

-- an ID as the operator can write it: one or more bytes from ! to ~
pub record IsId (id : List ℕ) : Type 0 where
  pub some : 1 ≤ length id
  pub graphic : AllByRecursion IsGraphic id

abbrev pub order_text : Order → List ℕ
order_text Checkpoint = codes "checkpoint"
order_text Shutdown = codes "shutdown"
order_text Cancel = codes "cancel"
order_text Status = codes "status"
order_text (DropConn n) = codes "drop " ++ decimal n
order_text (Forget id) = codes "forget " ++ id

-- an order that can be written: a connection's number is below 2^32, and an ID is one
abbrev pub IsOrder : Order → Type 0
IsOrder Checkpoint = Unit {0}
IsOrder Shutdown = Unit {0}
IsOrder Cancel = Unit {0}
IsOrder Status = Unit {0}
IsOrder (DropConn n) = n < 2 ^ 32
IsOrder (Forget id) = IsId id

-- The line, without its newline, says this order.
abbrev pub SaysOrder : List ℕ → Order → Type 0
SaysOrder line order = (line ≡ order_text order) × IsOrder order

-- the line says none of the four orders of one word
pub record IsNoWord (line : List ℕ) : Type 0 where
  pub no_checkpoint : line ≢ order_text Checkpoint
  pub no_shutdown : line ≢ order_text Shutdown
  pub no_cancel : line ≢ order_text Cancel
  pub no_status : line ≢ order_text Status
