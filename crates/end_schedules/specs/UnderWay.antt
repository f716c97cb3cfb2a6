-- What a history says of one client: what the manager knows of it, and all that it was sent since XSMP began on its connection.
use Rattle.std.specs.Prelude.{Bool, List, Option, [], cond, false, ℕ, ◌++◌, ◌==◌, ◌∷◌}
use Rattle.ice_values.specs.declared.saves.SaveStyle.{SaveStyle}
use Rattle.ice_values.specs.declared.saves.SaveStyle.TheVariants.{Nothing}
use Rattle.xsmp_messages.specs.declared.message.XsmpMessage.{XsmpMessage}
use Rattle.xsmp_messages.specs.declared.message.XsmpMessage.TheVariants.{Error, SaveYourself}
use Rattle.session_model.specs.declared.events.SessionEvent.TheVariants.{Ready}
use Rattle.session_model.specs.declared.phase.Phase.{Phase}
use Rattle.session_model.specs.Moves.{Blamed, Gave, History, Move, Opened, Outside, ◌▷◌}
use Rattle.session_model.specs.Readings as of
use Rattle.end_agreement.specs.Sides.{Side}

-- of a save that a client was asked for, whether it is a shutdown and which dialogs it allows
pub record Save : Type 0 where
  pub shutdown : Bool
  pub style : SaveStyle

abbrev pub save_given : XsmpMessage → Save → Save
save_given (SaveYourself kind shutdown style fast) save = record { shutdown = shutdown; style = style }
save_given m save = save

abbrev pub save_after : ℕ → Move → Save → Save
save_after c (Gave d m) save = cond (d == c) (save_given m save) save
save_after c m save = save

-- the last save that c was asked for
abbrev pub save_of : ℕ → History → Save
save_of c (Opened opening) = record { shutdown = false; style = Nothing }
save_of c (m ▷ h) = save_after c m (save_of c h)

abbrev pub sent_after : ℕ → Move → List XsmpMessage → List XsmpMessage
sent_after c (Outside (Ready d)) sent = cond (d == c) [] sent
sent_after c (Gave d m) sent = cond (d == c) (sent ++ m ∷ []) sent
sent_after c (Blamed d error) sent = cond (d == c) (sent ++ Error error ∷ []) sent
sent_after c m sent = sent

-- all that c was sent since XSMP began on its connection, the oldest first
abbrev pub sent_to : ℕ → History → List XsmpMessage
sent_to c (Opened opening) = []
sent_to c (m ▷ h) = sent_after c m (sent_to c h)

abbrev pub side_with : Option Phase → Save → Side
side_with phase save = record { phase = phase; shutdown = save.shutdown; style = save.style }

-- what the manager knows of c
abbrev pub side_of : ℕ → History → Side
side_of c h = side_with (of.phase_of c h) (save_of c h)
