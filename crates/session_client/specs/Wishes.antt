-- What a client may ask for in a SaveYourselfRequest.
use Rattle.std.specs.Prelude.{Bool, false, true}
use Rattle.xsmp_messages.specs.declared.message.XsmpMessage.{XsmpMessage}
use Rattle.xsmp_messages.specs.declared.message.XsmpMessage.TheVariants.{SaveYourselfRequest}
use Rattle.client_engine.specs.declared.place.Place.{Place}
use Rattle.client_machine.specs.declared.requests.Request.TheVariants.{Save}
use Rattle.protocol_messages.specs.declared.message.Message.TheVariants.{Xsmp}
use Rattle.round_agreement.specs.declared.wanted.Wanted.{Wanted}
use Rattle.session_client.specs.Turns.{MaySay}
use Rattle.session_client.specs.declared.wishes.SaveWish.{SaveWish}
use Rattle.session_client.specs.declared.wishes.Scope.{Scope}
use Rattle.session_client.specs.declared.wishes.Scope.TheVariants.{Own, All, Shutdown}

abbrev pub is_global : Scope → Bool
is_global Own = false
is_global All = true
is_global Shutdown = true

abbrev pub is_shutdown : Scope → Bool
is_shutdown Own = false
is_shutdown All = false
is_shutdown Shutdown = true

-- A save of one client ends no session.
abbrev pub wished : SaveWish → XsmpMessage
wished wish = SaveYourselfRequest wish.kind (is_shutdown wish.scope) wish.style wish.fast (is_global wish.scope)

-- Some request that is said so has its place.
pub record MayWish (wish : SaveWish) (place : Place) : Type 0 where
  pub wanted : Wanted
  pub says : MaySay (Save wanted) place (Xsmp (wished wish))
