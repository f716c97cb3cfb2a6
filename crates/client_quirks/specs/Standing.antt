-- Who speaks in a client's place once it has left.
use Rattle.std.specs.Prelude.{◌≡◌, ◌&&◌, Bool, true, false, Option, Some, None}
use Rattle.std.specs.List.{concat}
use Rattle.late_answers.specs.Leavers.{parting_of}
use Rattle.client_quirks.specs.Answering.{client_of}
use Rattle.client_quirks.specs.Exchange.{is_speaking}
use Rattle.client_quirks.specs.declared.answerer.Answerer.{Answerer}
use Rattle.client_quirks.specs.Stood.{line_bytes}
use Rattle.client_quirks.specs.declared.answerer.HandedOver.{HandedOver}

-- both parties are followed, and speak XSMP
abbrev pub is_understood : Answerer → Bool
is_understood a = a.follows && is_speaking a.came.speech && is_speaking a.sent.speech

-- The client closed behind a logout that was called off, and its end is to be held back.
abbrev pub has_left : Answerer → Bool
has_left a = is_understood a && a.late.gone

-- It goes on from where the client was, and as the client spoke. At once the manager hears what the client owes, and that it asks for a save.
pub record StandsFor (a : Answerer) (h : HandedOver) : Type 0 where
  pub sent : h.stand_in.sent ≡ a.sent
  pub client : h.stand_in.client ≡ client_of a
  pub leaver : h.stand_in.leaver ≡ (parting_of a.late).leaver
  pub handed : concat h.pieces ≡ line_bytes (client_of a) (parting_of a.late).line

-- Where they aren't understood, there is nobody, and all is as before.
abbrev pub GivesOverBy : Bool → Answerer → Option HandedOver → Answerer → Type 0
GivesOverBy true old (Some h) new = StandsFor old h × (new.follows ≡ false) × (new.came ≡ old.came) × (new.late ≡ old.late)
GivesOverBy true old None new = true ≡ false
GivesOverBy false old given new = (given ≡ None) × (new ≡ old)

abbrev pub GivesOver : Answerer → Option HandedOver → Answerer → Type 0
GivesOver old given new = GivesOverBy (is_understood old) old given new
