-- Messages by what they change.
use Rattle.std.specs.Prelude.{Bool, List, None, Option, [], codes, cond, false, true, ℕ, ◌++◌, ◌∷◌}
use Rattle.std.specs.List.{list_any}
use Rattle.std.specs.Str.{bytes_eq}
use Rattle.owned_lists.specs.declared.commands.Command.{Command}
use Rattle.xsmp_properties.specs.Tables.{is_named}
use Rattle.xsmp_messages.specs.declared.message.XsmpMessage.{XsmpMessage}
use Rattle.xsmp_messages.specs.declared.message.XsmpMessage.TheVariants.{DeleteProperties, Die, Interact, RegisterClientReply, SaveComplete, SaveYourself, SaveYourselfPhase2, SetProperties, ShutdownCancelled}
use Rattle.session_model.specs.declared.events.Act.TheVariants.{Say}
use Rattle.session_model.specs.Moves.{Gave}
use Rattle.session_clients.specs.Clients.{held_by}
use Rattle.session_state.specs.Session.{Session}

-- a message that changes nothing but the row of its receiver
abbrev pub is_of_rows : XsmpMessage → Bool
is_of_rows (RegisterClientReply id) = false
is_of_rows Interact = false
is_of_rows SaveYourselfPhase2 = false
is_of_rows ShutdownCancelled = false
is_of_rows Die = false
is_of_rows m = true

-- a message that is sent to all members of a round
abbrev pub is_for_members : XsmpMessage → Bool
is_for_members (SaveYourself kind shutdown style fast) = true
is_for_members SaveComplete = true
is_for_members m = false

-- a message that ends a save: its receiver neither has the token nor waits for it any more
abbrev pub ends_save : XsmpMessage → Bool
ends_save ShutdownCancelled = true
ends_save Die = true
ends_save m = false

-- a message is sent, and nothing changes but its receiver's row
abbrev pub told : ℕ → XsmpMessage → Session → Session
told c m s = record s { clients = held_by (Gave c m) s.clients; acts = s.acts ++ Say c m ∷ [] }

abbrev pub told_each : XsmpMessage → List ℕ → Session → Session
told_each m [] s = s
told_each m (c ∷ conns) s = told_each m conns (told c m s)

-- a message by which its sender sets its DiscardCommand, or deletes it
abbrev pub names_discard : XsmpMessage → Bool
names_discard (SetProperties list) = list_any (is_named (codes "DiscardCommand")) list
names_discard (DeleteProperties names) = list_any (bytes_eq (codes "DiscardCommand")) names
names_discard m = false

-- the DiscardCommand of its sender, where the message may change that, and none elsewhere
abbrev pub where_told : XsmpMessage → Option Command → Option Command
where_told m command = cond (names_discard m) command None
