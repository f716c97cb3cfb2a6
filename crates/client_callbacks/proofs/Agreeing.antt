-- Two scripts for the same receives differ only where the callbacks say otherwise.
use Rattle.std.proofs.Common.{◌≡◌, ℕ, Bool, true, false, List, [], ◌∷◌, ◌++◌, map, drop, Option, None, Some, refl, sym, ◌∙◌, ap, subst}
use Rattle.std.specs.Prelude.{if◌then◌else◌}
use Rattle.ice_framing.specs.Frames.{cut, fed}
use Rattle.ice_framing.specs.Parts.{Part, parts_at}
use Rattle.client_machine.specs.Saves.{at_stage}
use Rattle.client_machine.specs.declared.saves.SaveAnswer.{SaveAnswer}
use Rattle.client_machine.specs.declared.saves.SaveAsk.{SaveAsk}
use Rattle.client_machine.specs.declared.saves.Stage.{Stage}
use Rattle.client_engine.specs.Answering.{after_answer, answer_messages, closes, stage_again}
use Rattle.client_engine.specs.Driving.{Run, Step, part_taken, parts_taken, reply, stays}
use Rattle.client_engine.specs.Hearing.{part_heard}
use Rattle.client_engine.specs.declared.hearing.Cue.{Cue}
use Rattle.client_engine.specs.declared.hearing.Cue.TheVariants.{Nothing, Registered, Save, Cancelled, Complete, Die, Properties, Refused, Malformed}
use Rattle.client_engine.specs.declared.hearing.Heard.{Heard}
use Rattle.client_callbacks.specs.Answers.{Replies, unasked}
use Rattle.client_callbacks.specs.Doing.{bytes_in}
use Rattle.client_callbacks.specs.Script.{Came, Entry, Hears, Says, AsksSave, AsksReasons, TellsCancelled, Notes, Keeper, answer_line, answered_again, cued, died, is_over, on_client, reacts, run_after, saved, script_from, talk_of, turn}

-- the same entry, but for what a callback says in it
abbrev pub Alike : Entry → Entry → Type 0
Alike (AsksSave ask answer) other = (b : SaveAnswer) × (other ≡ AsksSave ask b)
Alike (AsksReasons reasons) other = (b : List (List ℕ)) × (other ≡ AsksReasons b)
Alike (Hears bytes) other = other ≡ Hears bytes
Alike (Says message) other = other ≡ Says message
Alike TellsCancelled other = other ≡ TellsCancelled
Alike (Notes line) other = other ≡ Notes line

-- The first entries are alike, and the next ones where the first are the same.
abbrev pub Agree : List Entry → List Entry → Type 0
Agree [] ys = ys ≡ []
Agree (x ∷ xs) ys = (y : Entry) × (rest : List Entry) × (ys ≡ y ∷ rest) × Alike x y × (x ≡ y → Agree xs rest)

alike_refl : (x : Entry) → Alike x x
alike_refl (AsksSave ask answer) = (answer, refl)
alike_refl (AsksReasons reasons) = (reasons, refl)
alike_refl (Hears bytes) = refl
alike_refl (Says message) = refl
alike_refl TellsCancelled = refl
alike_refl (Notes line) = refl

alike_sym : (x y : Entry) → Alike x y → Alike y x
alike_sym (AsksSave ask answer) y alike = rw alike.1 (answer, refl)
alike_sym (AsksReasons reasons) y alike = rw alike.1 (reasons, refl)
alike_sym (Hears bytes) y alike = rw alike refl
alike_sym (Says message) y alike = rw alike refl
alike_sym TellsCancelled y alike = rw alike refl
alike_sym (Notes line) y alike = rw alike refl

pub agree_refl : (xs : List Entry) → Agree xs xs
agree_refl [] = refl
agree_refl (x ∷ xs) = (x, xs, refl, alike_refl x, λ same. agree_refl xs)

pub agree_is : (xs ys : List Entry) → xs ≡ ys → Agree xs ys
agree_is xs ys same = subst (λ (es : List Entry). Agree xs es) same (agree_refl xs)

agree_one : (x y : Entry) (xs ys : List Entry) → Alike x y → (x ≡ y → Agree xs ys) → Agree (x ∷ xs) (y ∷ ys)
agree_one x y xs ys alike goes = (y, ys, refl, alike, goes)

pub agree_sym : (xs ys : List Entry) → Agree xs ys → Agree ys xs
agree_sym [] ys agree = rw agree refl
agree_sym (x ∷ xs) ys agree = rw agree.2 (agree_one agree.0 x agree.1 xs (alike_sym x agree.0 agree.3) (λ same. agree_sym xs agree.1 (agree.4 (sym same))))

pub agree_append : (xs ys more others : List Entry) → Agree xs ys → (xs ≡ ys → Agree more others) → Agree (xs ++ more) (ys ++ others)
agree_append [] ys more others agree goes = rw agree (goes (sym agree))
agree_append (x ∷ xs) ys more others agree goes =
    let next : xs ≡ agree.1 → x ≡ agree.0 → Agree more others = λ s t. goes (ap (λ (es : List Entry). x ∷ es) s ∙ (ap (λ (e : Entry). e ∷ agree.1) t ∙ sym agree.2)) in
    rw agree.2 (agree_one x agree.0 (xs ++ more) (agree.1 ++ others) agree.3 (λ same. agree_append xs agree.1 more others (agree.4 same) (λ s. next s same)))

head_is : (x y : Entry) (xs ys : List Entry) → x ∷ xs ≡ y ∷ ys → x ≡ y
head_is x y xs ys same = cc

tail_is : (x y : Entry) (xs ys : List Entry) → x ∷ xs ≡ y ∷ ys → xs ≡ ys
tail_is x y xs ys same = cc

-- Scripts that agree and go on to the same whole are the same.
pub agree_front : (xs ys more others : List Entry) → Agree xs ys → xs ++ more ≡ ys ++ others → (xs ≡ ys) × (more ≡ others)
agree_front [] ys more others agree same = (sym agree, same ∙ ap (λ (es : List Entry). es ++ others) agree)
agree_front (x ∷ xs) ys more others agree same =
    let whole : x ∷ (xs ++ more) ≡ agree.0 ∷ (agree.1 ++ others) = same ∙ ap (λ (es : List Entry). es ++ others) agree.2 in
    let first : x ≡ agree.0 = head_is x agree.0 (xs ++ more) (agree.1 ++ others) whole in
    let rest = agree_front xs agree.1 more others (agree.4 first) (tail_is x agree.0 (xs ++ more) (agree.1 ++ others) whole) in
    (ap (λ (e : Entry). e ∷ xs) first ∙ (ap (λ (es : List Entry). agree.0 ∷ es) rest.0 ∙ sym agree.2), rest.1)

-- Behind the same beginning scripts that agree still do.
pub agree_drop : (front xs ys : List Entry) → Agree (front ++ xs) (front ++ ys) → Agree xs ys
agree_drop [] xs ys agree = agree
agree_drop (e ∷ front) xs ys agree =
    let first : e ≡ agree.0 = head_is e agree.0 (front ++ ys) agree.1 agree.2 in
    let rest : front ++ ys ≡ agree.1 = tail_is e agree.0 (front ++ ys) agree.1 agree.2 in
    agree_drop front xs ys (subst (λ (es : List Entry). Agree (front ++ xs) es) (sym rest) (agree.4 first))

-- ---- steps

-- Two steps agree, and lead to the same where they are the same.
record StepsAgree {K : Type 0} (one other : Step K Entry) : Type 0 where
  pub lines : Agree one.line other.line
  pub next : one.line ≡ other.line → one.next ≡ other.next

steps_same : (step : Step Keeper Entry) → StepsAgree step step
steps_same step = record { lines = agree_refl step.line; next = λ same. refl }

said_of : (ask : SaveAsk) (a b : SaveAnswer) (xs ys : List Entry) → AsksSave ask a ∷ xs ≡ AsksSave ask b ∷ ys → a ≡ b
said_of ask a b xs ys same = cc

asked_of : (ask : SaveAsk) (a b : SaveAnswer) → AsksSave ask a ≡ AsksSave ask b → a ≡ b
asked_of ask a b same = cc

answer_agrees : (ask : SaveAsk) (a b : SaveAnswer) → Agree (answer_line ask a) (answer_line ask b)
answer_agrees ask a b = agree_one (AsksSave ask a) (AsksSave ask b) (map Says (answer_messages a)) (map Says (answer_messages b)) (b, refl) (λ same. agree_is (map Says (answer_messages a)) (map Says (answer_messages b)) (ap (λ (x : SaveAnswer). map Says (answer_messages x)) (asked_of ask a b same)))

answer_is : (ask : SaveAsk) (a b : SaveAnswer) → answer_line ask a ≡ answer_line ask b → a ≡ b
answer_is ask a b same = said_of ask a b (map Says (answer_messages a)) (map Says (answer_messages b)) same

again_agrees : (keeper : Keeper) (ask : SaveAsk) (a b : SaveAnswer) (stage : Option Stage) → StepsAgree (answered_again keeper ask a stage) (answered_again keeper ask b stage)
again_agrees keeper ask a b None = record { lines = refl; next = λ same. refl }
again_agrees keeper ask a b (Some stage) = record {
  lines = answer_agrees (at_stage stage ask) a b;
  next = λ same. ap (λ (x : SaveAnswer). on_client (after_answer x) keeper) (answer_is (at_stage stage ask) a b same);
}

save_agrees : (keeper : Keeper) (r q : Replies) (ask : SaveAsk) → StepsAgree (saved keeper ask r) (saved keeper ask q)
save_agrees keeper r q ask =
    let stage : Option Stage = stage_again ask.stage in
    let one : Keeper = on_client (after_answer r.first) keeper in
    let other : Keeper = on_client (after_answer q.first) keeper in
    let again : (k : Keeper) → Step Keeper Entry = λ k. answered_again k ask q.again stage in
    let first : Agree (answer_line ask r.first) (answer_line ask q.first) = answer_agrees ask r.first q.first in
    let rest : answer_line ask r.first ≡ answer_line ask q.first → StepsAgree (answered_again one ask r.again stage) (again other) = λ same.
    subst (λ (k : Keeper). StepsAgree (answered_again one ask r.again stage) (again k)) (ap (λ (x : SaveAnswer). on_client (after_answer x) keeper) (answer_is ask r.first q.first same)) (again_agrees one ask r.again q.again stage) in
    record {
      lines = agree_append (answer_line ask r.first) (answer_line ask q.first) (answered_again one ask r.again stage).line (again other).line first (λ same. (rest same).lines);
      next = λ same.
          let parts = agree_front (answer_line ask r.first) (answer_line ask q.first) (answered_again one ask r.again stage).line (again other).line first same in
          (rest parts.0).next parts.1;
    }

reasons_of : (x y : List (List ℕ)) → AsksReasons x ≡ AsksReasons y → x ≡ y
reasons_of x y same = cc

die_agrees : (keeper : Keeper) (x y : List (List ℕ)) → Agree (died keeper x).line (died keeper y).line
die_agrees keeper x y = (_, _, refl, refl, λ same. agree_one (AsksReasons x) (AsksReasons y) (Says (closes x) ∷ []) (Says (closes y) ∷ []) (y, refl) (λ is. agree_is (Says (closes x) ∷ []) (Says (closes y) ∷ []) (ap (λ (rs : List (List ℕ)). Says (closes rs) ∷ []) (reasons_of x y is))))

cued_agrees : (keeper : Keeper) (r q : Replies) (cue : Cue) → StepsAgree (cued keeper r cue) (cued keeper q cue)
cued_agrees keeper r q Nothing = steps_same (cued keeper r Nothing)
cued_agrees keeper r q (Registered id) = steps_same (cued keeper r (Registered id))
cued_agrees keeper r q (Save ask) = save_agrees keeper r q ask
cued_agrees keeper r q Cancelled = steps_same (cued keeper r Cancelled)
cued_agrees keeper r q Complete = steps_same (cued keeper r Complete)
cued_agrees keeper r q Die = record { lines = die_agrees keeper r.reasons q.reasons; next = λ same. refl }
cued_agrees keeper r q (Properties list) = steps_same (cued keeper r (Properties list))
cued_agrees keeper r q (Refused class) = steps_same (cued keeper r (Refused class))
cued_agrees keeper r q (Malformed at) = steps_same (cued keeper r (Malformed at))

reacts_agree : (keeper : Keeper) (heard : Heard) (r q : Replies) → StepsAgree (reacts keeper heard r) (reacts keeper heard q)
reacts_agree keeper heard r q =
    let now : Keeper = record keeper { talk = heard.next } in
    let cue : StepsAgree (cued now r heard.cue) (cued now q heard.cue) = cued_agrees now r q heard.cue in
    let said : List Entry = map Says heard.said in
    record {
      lines = agree_append said said (cued now r heard.cue).line (cued now q heard.cue).line (agree_refl said) (λ same. cue.lines);
      next = λ same. cue.next (agree_front said said (cued now r heard.cue).line (cued now q heard.cue).line (agree_refl said) same).1;
    }

abbrev all_in : Keeper → List Part → List Replies → Step Keeper Entry
all_in keeper parts rs = parts_taken unasked talk_of reacts keeper parts rs

abbrev one_in : Keeper → Part → Replies → Step Keeper Entry
one_in keeper part r = part_taken unasked talk_of reacts keeper part r

abbrev first_of : List Replies → Replies
first_of rs = reply unasked talk_of reacts rs

parts_agree : (keeper : Keeper) (parts : List Part) (rs qs : List Replies) → StepsAgree (all_in keeper parts rs) (all_in keeper parts qs)
parts_agree keeper [] rs qs = steps_same (stays keeper)
parts_agree keeper (part ∷ parts) rs qs =
    let one : Step Keeper Entry = one_in keeper part (first_of rs) in
    let other : Step Keeper Entry = one_in keeper part (first_of qs) in
    let first : StepsAgree one other = reacts_agree keeper (part_heard keeper.talk part) (first_of rs) (first_of qs) in
    let more : Step Keeper Entry = all_in one.next parts (drop 1 rs) in
    let others : Step Keeper Entry = all_in other.next parts (drop 1 qs) in
    let rest : one.line ≡ other.line → StepsAgree more others = λ same. subst (λ (n : Keeper). StepsAgree more (all_in n parts (drop 1 qs))) (first.next same) (parts_agree one.next parts (drop 1 rs) (drop 1 qs)) in
    record {
      lines = agree_append one.line other.line more.line others.line first.lines (λ same. (rest same).lines);
      next = λ same.
          let parts = agree_front one.line other.line more.line others.line first.lines same in
          (rest parts.0).next parts.1;
    }

-- ---- turns

abbrev TurnsAgree : Step (Run Keeper) Entry → Step (Run Keeper) Entry → Type 0
TurnsAgree one other = StepsAgree one other

turns_agree : (run : Run Keeper) (bytes : List ℕ) (rs qs : List Replies) → TurnsAgree (turn run bytes rs) (turn run bytes qs)
turns_agree run [] rs qs = record { lines = refl; next = λ same. refl }
turns_agree run (b ∷ bytes) rs qs =
    let at = fed run.standing (b ∷ bytes) in
    let steps : StepsAgree (all_in run.keeper (parts_at at) rs) (all_in run.keeper (parts_at at) qs) = parts_agree run.keeper (parts_at at) rs qs in
    record { lines = steps.lines; next = λ same. ap (λ (k : Keeper). let r : Run Keeper = record { standing = (cut at).standing; keeper = k } in r) (steps.next same) }

first_bytes : (x y : List ℕ) (xs ys : List (List ℕ)) → x ∷ xs ≡ y ∷ ys → x ≡ y
first_bytes x y xs ys same = cc

later_bytes : (x y : List ℕ) (xs ys : List (List ℕ)) → x ∷ xs ≡ y ∷ ys → xs ≡ ys
later_bytes x y xs ys same = cc

-- The scripts for these receives agree, and lead to the same end where they are the same.
abbrev ScriptsAgree : Run Keeper → Run Keeper → List Came → List Came → Type 0
ScriptsAgree one other xs ys = Agree (script_from one xs) (script_from other ys) × (script_from one xs ≡ script_from other ys → run_after one xs ≡ run_after other ys)

one_more : (over : Bool) (run : Run Keeper) (bytes others : List ℕ) (one other : Step (Run Keeper) Entry) (xs ys : List Came) → bytes ≡ others → TurnsAgree one other → (one.next ≡ other.next → ScriptsAgree one.next other.next xs ys) → (Agree (if over then [] else Hears bytes ∷ (one.line ++ script_from one.next xs)) (if over then [] else Hears others ∷ (other.line ++ script_from other.next ys))) × ((if over then [] else Hears bytes ∷ (one.line ++ script_from one.next xs)) ≡ (if over then [] else Hears others ∷ (other.line ++ script_from other.next ys)) → (if over then run else run_after one.next xs) ≡ (if over then run else run_after other.next ys))
one_more true run bytes others one other xs ys same turns rest = (refl, λ is. refl)
one_more false run bytes others one other xs ys same turns rest =
    let more : List Entry = script_from one.next xs in
    let later : List Entry = script_from other.next ys in (
      agree_one (Hears bytes) (Hears others) (one.line ++ more) (other.line ++ later) (ap Hears (sym same)) (λ is. agree_append one.line other.line more later turns.lines (λ l. (rest (turns.next l)).0)),
      λ is.
          let parts = agree_front one.line other.line more later turns.lines (tail_is (Hears bytes) (Hears others) (one.line ++ more) (other.line ++ later) is) in
          (rest (turns.next parts.0)).1 parts.1,
    )

pub scripts_agree : (run : Run Keeper) (xs ys : List Came) → bytes_in xs ≡ bytes_in ys → ScriptsAgree run run xs ys
scripts_agree run [] [] same = (refl, λ is. refl)
scripts_agree run [] (y ∷ ys) same = absurd cc
scripts_agree run (x ∷ xs) [] same = absurd cc
scripts_agree run (x ∷ xs) (y ∷ ys) same =
    let bytes : x.bytes ≡ y.bytes = first_bytes x.bytes y.bytes (bytes_in xs) (bytes_in ys) same in
    let one : Step (Run Keeper) Entry = turn run x.bytes x.replies in
    let other : Step (Run Keeper) Entry = turn run y.bytes y.replies in
    let turns : TurnsAgree one other = subst (λ (b : List ℕ). TurnsAgree one (turn run b y.replies)) bytes (turns_agree run x.bytes x.replies y.replies) in
    let rest : one.next ≡ other.next → ScriptsAgree one.next other.next xs ys = λ again. subst (λ (n : Run Keeper). ScriptsAgree one.next n xs ys) again (scripts_agree one.next xs ys (later_bytes x.bytes y.bytes (bytes_in xs) (bytes_in ys) same)) in
    one_more (is_over run.keeper.ending) run x.bytes y.bytes one other xs ys bytes turns rest
