-- A line that begins as one that was sent says nothing else; and no line is shorter than the bytes that it says.
use Rattle.std.proofs.Common.{◌≡◌, Bool, true, false, ℕ, ◌+◌, ◌*◌, ◌<◌, ◌≤◌, ◌^◌, List, ◌∷◌, ◌++◌, length, Option, Some, get_or, sym, ◌∙◌, ap, subst, arith, codes, length-append}
use Rattle.std.specs.Fmt.{decimal}
use Rattle.hex.proofs.HexLemmas.{decode_of-ok}
use Rattle.sm_world.specs.declared.events.Event.{Event}
use Rattle.sm_world.specs.declared.events.Event.TheVariants.{Joined, Piece, Gone, Operator, Tick, End as AtEnd}
use Rattle.control_lines.specs.Fields.{SaysBytes}
use Rattle.control_lines.specs.Script.{Says, Gives}
use Rattle.trace_replay.specs.Grammar.{BeginsCommand, SaysLine}
use Rattle.trace_replay.specs.declared.lines.TraceLine.{TraceLine}
use Rattle.trace_replay.specs.declared.lines.TraceLine.TheVariants.{Heard, End, Sent, Shut, Started, Printed}

same_fields : (xs ys : List ℕ) → codes "sent " ++ xs ≡ codes "sent " ++ ys → xs ≡ ys
same_fields xs ys e = cc

-- the first two bytes
abbrev first_two : List ℕ → ℕ
first_two xs = get_or xs 0 0 * 256 + get_or xs 1 0

same_first : (xs ys : List ℕ) → xs ≡ ys → first_two xs ≡ first_two ys
same_first xs ys e = ap first_two e

sent_no_event : (line fields : List ℕ) → line ≡ codes "sent " ++ fields → (event : Event) → Says line event → ⊥
sent_no_event line fields begins (Joined n) says = omega (arith, same_first _ _ (sym begins ∙ says.0))
sent_no_event line fields begins (Piece n bytes) says = omega (arith, same_first _ _ (sym begins ∙ says.1))
sent_no_event line fields begins (Gone n) says = omega (arith, same_first _ _ (sym begins ∙ says.0))
sent_no_event line fields begins (Operator order) says = omega (arith, same_first _ _ (sym begins ∙ says.1))
sent_no_event line fields begins (Tick n) says = omega (arith, same_first _ _ (sym begins ∙ says.0))
sent_no_event line fields begins AtEnd says = says

pub only_sent : (line fields : List ℕ) → line ≡ codes "sent " ++ fields → ((n : ℕ) (bytes : List ℕ) → SaysBytes fields n bytes → ⊥) → (meaning : TraceLine) → SaysLine line meaning → ⊥
only_sent line fields begins none (Heard event) says = sent_no_event line fields begins event says
only_sent line fields begins none End says = omega (arith, same_first _ _ (sym begins ∙ says))
only_sent line fields begins none (Sent n bytes) (others, begins', says) =
    let P : List ℕ → Type 0 = λ f. SaysBytes f n bytes in none n bytes (subst P (same_fields others fields (sym begins' ∙ begins)) says)
only_sent line fields begins none (Shut n) says = omega (arith, same_first _ _ (sym begins ∙ says.0))
only_sent line fields begins none (Started true text) says = omega (arith, same_first _ _ (sym begins ∙ says.0))
only_sent line fields begins none (Started false text) says = omega (arith, same_first _ _ (sym begins ∙ says.0))
only_sent line fields begins none (Printed text) says = omega (arith, same_first _ _ (sym begins ∙ says))

-- A line that begins as none that only a trace has, and says no event, says nothing.
pub no_line : (line : List ℕ) → ((given : Option Event) → Gives line given → ⊥) → (line ≡ codes "end" → ⊥) → ((fields : List ℕ) → line ≡ codes "sent " ++ fields → ⊥) → ((field : List ℕ) → line ≡ codes "shut " ++ field → ⊥) → ((text : List ℕ) → line ≡ codes "printed " ++ text → ⊥) → ((succeeded : Bool) (text : List ℕ) → BeginsCommand line succeeded text → ⊥) → (meaning : TraceLine) → SaysLine line meaning → ⊥
no_line line none no_end no_sent no_shut no_printed no_command (Heard event) says = none (Some event) says
no_line line none no_end no_sent no_shut no_printed no_command End says = no_end says
no_line line none no_end no_sent no_shut no_printed no_command (Sent n bytes) says = no_sent says.0 says.1
no_line line none no_end no_sent no_shut no_printed no_command (Shut n) says = no_shut (decimal n) says.0
no_line line none no_end no_sent no_shut no_printed no_command (Started succeeded text) says = no_command succeeded text says.0
no_line line none no_end no_sent no_shut no_printed no_command (Printed text) says = no_printed text says

-- no line is shorter than the bytes that it says
pub bytes_within : (word fields : List ℕ) (n : ℕ) (bytes : List ℕ) → SaysBytes fields n bytes → length bytes ≤ length (word ++ fields)
bytes_within word fields n bytes says =
    let twice = (decode_of-ok says.text bytes says.hex.spells).2 in
    omega (arith, twice, ap length says.fields_are, length-append (decimal n) (32 ∷ says.text), length-append word fields)
