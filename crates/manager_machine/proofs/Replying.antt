-- Answers by what they rest on.
use Rattle.std.proofs.Common.{◌≡◌, ℕ, Bool, true, false, cond, ◌||◌, List, [], ◌∷◌, sym, ap, ◌∙◌, ◌<◌, ◌≤◌, arith}
use Rattle.std.proofs.lemmas.Bool.Decides.{nat_tests}
use Rattle.std.specs.Prelude.{Option, min, nat_le}
use Rattle.ice_values.specs.Fields.{ErrorFields}
use Rattle.xsmp_messages.specs.declared.message.XsmpMessage.{XsmpMessage}
use Rattle.session_model.specs.declared.phase.Phase.{Phase}
use Rattle.session_model.specs.declared.events.Arrival.{Arrival}
use Rattle.session_model.specs.Moves.{Blamed, Move, Unset}
use Rattle.session_model.specs.Reading.{Reading, wanted_in}
use Rattle.session_model.specs.Replies.{answered, has_no_room, has_place, known_ids, placed, or_bad_state, refused, want_cancel}

-- Errors

pub blamed-then : (b : Bool) (c : ℕ) (error good : ErrorFields) (moves : List Move) → b ≡ true → error ≡ good → Blamed c error ∷ [] ≡ cond b (Blamed c good ∷ []) moves
blamed-then b c error good moves t e = ap (λ (x : ErrorFields). Blamed c x ∷ []) e ∙ sym (ap (λ (d : Bool). cond d (Blamed c good ∷ []) moves) t)

pub blamed-else : (b : Bool) (c : ℕ) (error good : ErrorFields) (moves : List Move) → b ≡ false → error ≡ good → Blamed c error ∷ [] ≡ cond b moves (Blamed c good ∷ [])
blamed-else b c error good moves f e = ap (λ (x : ErrorFields). Blamed c x ∷ []) e ∙ sym (ap (λ (d : Bool). cond d moves (Blamed c good ∷ [])) f)

pub turned-away : (b : Bool) (c : ℕ) (error good : ErrorFields) (moves : List Move) → b ≡ true → error ≡ good → Blamed c error ∷ Unset c ∷ [] ≡ cond b (Blamed c good ∷ Unset c ∷ []) moves
turned-away b c error good moves t e = ap (λ (x : ErrorFields). Blamed c x ∷ Unset c ∷ []) e ∙ sym (ap (λ (d : Bool). cond d (Blamed c good ∷ Unset c ∷ []) moves) t)

-- Room

at_least : (n : ℕ) → 128 ≤ n → nat_le 128 n ≡ true
at_least n k = grind (arith, nat_tests)

below : (n : ℕ) → n < 128 → nat_le 128 n ≡ false
below n k = grind (arith, nat_tests)

pub full-by_ids : (r : Reading) (n : ℕ) → n ≡ min (known_ids r) 18446744073709551615 → 128 ≤ n → nat_le 128 n ≡ has_no_room r
full-by_ids r n e t = at_least n t ∙ sym (ap (λ (b : Bool). b || nat_le 4294967295 r.run.given) (at_least (known_ids r) (omega (arith, e, t))))

pub full-by_number : (r : Reading) (n g : ℕ) → n ≡ min (known_ids r) 18446744073709551615 → g ≡ r.run.given → n < 128 → nat_le 4294967295 g ≡ has_no_room r
full-by_number r n g e k f = ap (λ (m : ℕ). nat_le 4294967295 m) k ∙ sym (ap (λ (b : Bool). b || nat_le 4294967295 r.run.given) (below (known_ids r) (omega (arith, e, f))))

-- Messages

pub in-place : (r : Reading) (x : Arrival) (m : XsmpMessage) (phase : Option Phase) → has_place (wanted_in r.rounds.running) m phase ≡ true → placed r x m phase ≡ answered r x m phase
in-place r x m phase t = sym (ap (λ (b : Bool). or_bad_state b x (placed r x m phase)) t)

pub out_of-place : (r : Reading) (x : Arrival) (m : XsmpMessage) (phase : Option Phase) → has_place (wanted_in r.rounds.running) m phase ≡ false → refused x ≡ answered r x m phase
out_of-place r x m phase f = sym (ap (λ (b : Bool). or_bad_state b x (placed r x m phase)) f)

-- neither owes an answer nor may cancel
pub no-cancel : (r : Reading) (x : Arrival) (b d : Bool) → b ≡ false → d ≡ false → refused x ≡ cond b [] (want_cancel r x d)
no-cancel r x b d e f = sym (ap (λ (o : Bool). cond o [] (want_cancel r x d)) e ∙ ap (λ (o : Bool). want_cancel r x o) f)
