-- What one connection says or is sent leaves the rows of the others as they are.
use Rattle.std.proofs.Common.{◌≡◌, ℕ, ◌==◌, Bool, false, refl, arith, List}
use Rattle.std.proofs.lemmas.Grind.{common_steps}
use Rattle.ice_values.specs.declared.saves.Dialog.{Dialog}
use Rattle.ice_values.specs.declared.property.Property.{Property}
use Rattle.xsmp_messages.specs.declared.message.XsmpMessage.{XsmpMessage}
use Rattle.xsmp_messages.specs.declared.message.XsmpMessage.TheVariants.{RegisterClientReply}
use Rattle.session_model.specs.declared.events.SessionEvent.TheVariants.{Ready}
use Rattle.session_model.specs.Moves.{Gave, Outside, Unset}
use Rattle.session_clients.specs.declared.client.Client.{Client}
use Rattle.session_clients.specs.Rows.{client_by, client_heard, client_setting}
use Rattle.session_clients.proofs.SpanLaws.{IsFor}

module _ (c : ℕ) where
  turned : (k : Client) → (k.conn == c) ≡ false → (c == k.conn) ≡ false
  turned k e = grind (arith, common_steps)

  pub for-ready : IsFor c (client_by (Outside (Ready c)))
  for-ready k e = rw (turned k e) refl

  pub for-unset : IsFor c (client_by (Unset c))
  for-unset k e = rw (turned k e) refl

  pub for-given : (m : XsmpMessage) → IsFor c (client_by (Gave c m))
  for-given (RegisterClientReply id) k e = rw (turned k e) refl
  for-given m k e = rw (turned k e) refl

  pub for-heard : (m : XsmpMessage) (allowed : Dialog → Bool) → IsFor c (client_heard c m allowed)
  for-heard m allowed k e = rw (turned k e) refl

  pub for-setting : (list : List Property) → IsFor c (client_setting c list)
  for-setting list k e = rw (turned k e) refl
