-- What is kept stands in the book, from move to move.
use Rattle.std.proofs.Common.{◌≡◌, refl, ℕ, Bool, true, false, List, sym, ap, ◌∙◌, arith}
use Rattle.std.specs.Prelude.{Option, Some, None, is_some}
use Rattle.xsmp_messages.specs.declared.message.XsmpMessage.{XsmpMessage}
use Rattle.xsmp_messages.specs.declared.message.XsmpMessage.TheVariants.{Die, RegisterClientReply, SaveComplete, SaveYourself}
use Rattle.session_model.specs.declared.phase.Phase.{Phase}
use Rattle.session_model.specs.declared.phase.Phase.TheVariants.{Unregistered}
use Rattle.session_model.specs.declared.events.SessionEvent.{SessionEvent}
use Rattle.session_model.specs.declared.events.SessionEvent.TheVariants.{Left, Operator, Said}
use Rattle.session_model.specs.Phases.{begun_phase, is_first_saving, is_registered}
use Rattle.session_model.specs.Moves.{Move, Outside, Gave, Blamed, Closed, Committed, Tried, History, reason_of, ◌▷◌}
use Rattle.session_model.specs.Readings as of
use Rattle.session_model.proofs.Names.{have-ids}
use Rattle.session_model.proofs.Sound.{Sound}
use Rattle.session_notes.specs.Keeping.{id_in, is_newcomer}
use Rattle.session_notes.specs.Laws.{IsOpenable}
use Rattle.session_notes.specs.Notes.{Note, Given, Gone, Heard, Ordered, Started, Wrote}
use Rattle.session_notes.proofs.Seen.{noted_of}
use Rattle.session_notes.proofs.Kept.{opened_of}
use Rattle.session_notes.proofs.Fresh.{next-fresh}
use Rattle.session_notes.proofs.Keeps.{Keeps}
use Rattle.session_notes.proofs.Standing.{Asks, NobodyHas, Standing, standing-step}
use Rattle.session_notes.proofs.Suits.{Suits}

-- who is registered has an ID
some-id : (c : ℕ) (h : History) (n : List Note) → Sound h → Keeps h n → is_some (id_in c n) ≡ is_registered (of.phase_of c h)
some-id c h n so k = ap (λ (o : Option (List ℕ)). is_some o) (k.id c) ∙ have-ids h c ∙ so.registered_are c

none-is : (o : Option (List ℕ)) → is_some o ≡ false → o ≡ None
none-is None e = grind arith
none-is (Some id) e = absurd (grind arith)

begun-registered : (p : Option Phase) → is_first_saving (begun_phase p) ≡ true → is_registered p ≡ true
begun-registered None e = absurd (grind arith)
begun-registered (Some Unregistered) e = absurd (grind arith)
begun-registered (Some p) e = grind arith

asks-given : (c : ℕ) (m : XsmpMessage) (h : History) → Suits (Gave c m) h → Sound h → Keeps h (noted_of h) → IsOpenable (opened_of h) → Asks (opened_of h) (Given c m) (noted_of h)
asks-given c (RegisterClientReply id) h s so k o = (none-is (id_in c (noted_of h)) (some-id c h (noted_of h) so k ∙ ap (λ (p : Option Phase). is_registered p) s.0), free_at (is_newcomer c (noted_of h)) refl) where
  free_at : (b : Bool) → is_newcomer c (noted_of h) ≡ b → NobodyHas id (noted_of h)
  free_at true w d i = (next-fresh c id h (noted_of h) s.1 k.epoch k.book k.id (k.aged o) w).free d i
  free_at false w d i = s.1.free w d (sym (k.id d) ∙ i)
asks-given c (SaveYourself kind shutdown style fast) h s so k o = some-id c h (noted_of h) so k ∙ begun-registered (of.phase_of c h) s.0
asks-given c SaveComplete h s so k o = s o
asks-given c Die h s so k o = s.1 o
asks-given c m h s so k o = tt

standing-event : (event : SessionEvent) (h : History) → Standing (opened_of h) (noted_of h) → Standing (opened_of h) (noted_of (Outside event ▷ h))
standing-event (Said c m sequence frame) h t = standing-step (opened_of h) (Heard c m) (noted_of h) tt t
standing-event (Left c) h t = standing-step (opened_of h) (Gone c) (noted_of h) tt t
standing-event (Operator order) h t = standing-step (opened_of h) (Ordered order) (noted_of h) tt t
standing-event event h t = t

pub standing-move : (m : Move) (h : History) → Suits m h → Sound h → Keeps h (noted_of h) → IsOpenable (opened_of h) → Standing (opened_of h) (noted_of h) → Standing (opened_of h) (noted_of (m ▷ h))
standing-move (Outside event) h s so k o t = standing-event event h t
standing-move (Gave c m) h s so k o t = standing-step (opened_of h) (Given c m) (noted_of h) (asks-given c m h s so k o) t
standing-move (Blamed c error) h s so k o t = absurd s
standing-move (Closed c) h s so k o t = standing-step (opened_of h) (Gone c) (noted_of h) tt t
standing-move (Tried cause command) h s so k o t = standing-step (opened_of h) (Started (reason_of cause) command) (noted_of h) tt t
standing-move (Committed written) h s so k o t = standing-step (opened_of h) (Wrote written) (noted_of h) (s.fates o) t
standing-move m h s so k o t = t
