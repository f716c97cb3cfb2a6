-- A message that gives no ID makes no use of a first table, and no message that is given makes use of the dialogs.
use Rattle.std.proofs.Common.{◌≡◌, ℕ, Bool, false, List, refl, sym}
use Rattle.std.proofs.lemmas.Bool.{false≢true}
use Rattle.ice_values.specs.declared.saves.Dialog.{Dialog}
use Rattle.ice_values.specs.declared.property.Property.{Property}
use Rattle.xsmp_messages.specs.declared.message.XsmpMessage.{XsmpMessage}
use Rattle.xsmp_messages.specs.declared.message.XsmpMessage.TheVariants.{RegisterClientReply}
use Rattle.session_model.specs.Moves.{Gave}
use Rattle.session_clients.specs.Clients.{Held, held_after, held_by, is_reply}

pub given_by : (c : ℕ) (m : XsmpMessage) (first : List ℕ → List Property) (allowed : Dialog → Bool) (held : Held) → is_reply m ≡ false → held_after (Gave c m) first allowed held ≡ held_by (Gave c m) held
given_by c (RegisterClientReply id) first allowed held is = absurd (false≢true (sym is))
given_by c m first allowed held is = refl
