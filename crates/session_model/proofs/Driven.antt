-- What each rule keeps, and the end of the run, holds once an event is taken, where it held once the event was answered.
use Rattle.std.proofs.Common.{ℕ, zero, suc, Bool, true, false, cond, List, [], ◌∷◌, ◌+◌, ◌*◌, ◌&&◌, length}
use Rattle.round_agreement.specs.Agreement.{is_nil}
use Rattle.session_model.specs.declared.events.SessionEvent.{SessionEvent}
use Rattle.session_model.specs.Moves.{Finished, History, Move, Outside, onto, ◌▷◌}
use Rattle.session_model.specs.Readings as of
use Rattle.session_model.specs.Reading.{reading}
use Rattle.session_model.specs.Replies.{reply}
use Rattle.session_model.specs.Rules.{go_on, rule, settle, settled, taken}

module _ (P : History → Type 0) (keeps : (h : History) → P h → P (onto h (rule (reading h)))) (ends : (h : History) → P h → P (Finished ▷ h)) where
  goes-on : (n : ℕ) (h : History) (moves : List Move) → P (onto h moves) → ((g : History) → P g → P (settle n g)) → P (go_on (λ g. settle n g) h moves)
  goes-on n h [] p further = p
  goes-on n h (m ∷ moves) p further = further (onto h (m ∷ moves)) p

  settles : (n : ℕ) (h : History) → P h → P (settle n h)
  settles zero h p = p
  settles (suc n) h p = goes-on n h (rule (reading h)) (keeps h p) (λ g q. settles n g q)

  ends-at : (b : Bool) (h : History) → P h → P (cond b (Finished ▷ h) h)
  ends-at true h p = ends h p
  ends-at false h p = p

  pub taken-keeps : (event : SessionEvent) (h : History) → P (onto (Outside event ▷ h) (reply (reading h) event)) → P (taken event h)
  taken-keeps event h p =
      let replied : History = onto (Outside event ▷ h) (reply (reading h) event) in
      let rested : History = settled replied in
      ends-at (of.is_ending rested && is_nil (of.live rested)) rested (settles (4 * length (of.waits replied) + 4) replied p)
