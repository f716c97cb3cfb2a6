-- What notes say of a connection. Each reading is told for one note more. For a connection that is gone none of them holds.
use Rattle.std.specs.Prelude.{Bool, List, [], cond, false, not, ℕ, ◌&&◌, ◌++◌, ◌==◌, ◌||◌, ◌∷◌}
use Rattle.xsmp_messages.specs.declared.message.XsmpMessage.TheVariants.{Interact, InteractDone, InteractRequest, SaveComplete, SaveYourself, SaveYourselfDone, SaveYourselfPhase2Request, ShutdownCancelled}
use Rattle.interact_queue.specs.Queue.{is_in, without}
use Rattle.session_notes.specs.Notes.{Given, Gone, Heard, Note}

-- It has the token: it was given Interact, and since then it neither said InteractDone nor was told that the shutdown is
-- cancelled.
abbrev pub has_token : ℕ → List Note → Bool
has_token c [] = false
has_token c (Given d Interact ∷ notes) = d == c || has_token c notes
has_token c (Given d ShutdownCancelled ∷ notes) = not (d == c) && has_token c notes
has_token c (Heard d (InteractDone cancel) ∷ notes) = not (d == c) && has_token c notes
has_token c (Gone d ∷ notes) = not (d == c) && has_token c notes
has_token c (note ∷ notes) = has_token c notes

-- it was asked to save, and wasn't told since that this is cancelled
abbrev pub was_asked : ℕ → List Note → Bool
was_asked c [] = false
was_asked c (Given d (SaveYourself kind shutdown style fast) ∷ notes) = d == c || was_asked c notes
was_asked c (Given d ShutdownCancelled ∷ notes) = not (d == c) && was_asked c notes
was_asked c (Gone d ∷ notes) = not (d == c) && was_asked c notes
was_asked c (note ∷ notes) = was_asked c notes

-- it was asked to save, and was told since neither that all have saved nor that this is cancelled
abbrev pub is_to_save : ℕ → List Note → Bool
is_to_save c [] = false
is_to_save c (Given d (SaveYourself kind shutdown style fast) ∷ notes) = d == c || is_to_save c notes
is_to_save c (Given d SaveComplete ∷ notes) = not (d == c) && is_to_save c notes
is_to_save c (Given d ShutdownCancelled ∷ notes) = not (d == c) && is_to_save c notes
is_to_save c (Gone d ∷ notes) = not (d == c) && is_to_save c notes
is_to_save c (note ∷ notes) = is_to_save c notes

-- It has answered its last SaveYourself: it has saved, or wants to save in the second phase.
abbrev pub has_answered : ℕ → List Note → Bool
has_answered c [] = false
has_answered c (Given d (SaveYourself kind shutdown style fast) ∷ notes) = not (d == c) && has_answered c notes
has_answered c (Heard d (SaveYourselfDone success) ∷ notes) = d == c || has_answered c notes
has_answered c (Heard d SaveYourselfPhase2Request ∷ notes) = d == c || has_answered c notes
has_answered c (Gone d ∷ notes) = not (d == c) && has_answered c notes
has_answered c (note ∷ notes) = has_answered c notes

-- The connections whose request for the token is open, in the order of the requests. A request opens where its connection was asked
-- to save. It closes as the connection gets the token, is told that the shutdown is cancelled, or is gone.
abbrev pub requests : List Note → List ℕ
requests [] = []
requests (Heard c (InteractRequest dialog) ∷ notes) = cond (was_asked c notes && not (is_in c (requests notes))) (requests notes ++ c ∷ []) (requests notes)
requests (Given c Interact ∷ notes) = without c (requests notes)
requests (Given c ShutdownCancelled ∷ notes) = without c (requests notes)
requests (Gone c ∷ notes) = without c (requests notes)
requests (note ∷ notes) = requests notes
