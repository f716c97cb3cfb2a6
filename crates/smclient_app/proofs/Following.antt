-- A client whose callbacks are closures, as one by its words.
use Rattle.std.proofs.Common.{◌≡◌, inl, inr, ℕ, ℤ, pos, Bool, false, List, [], ◌∷◌, Result, Ok, Err, sym, ◌∙◌, ap, subst}
use Rattle.sm_world.specs.Outside.{Outside}
use Rattle.client_callbacks.specs.Doing.{Callbacks, Follows, desk}
use Rattle.client_callbacks.specs.Running.{Joins}
use Rattle.client_callbacks.specs.Script.{Entry, Hears, Says, AsksSave, AsksReasons, TellsCancelled, Notes}
use Rattle.client_callbacks.specs.declared.ends.ClientEnd.{ClientEnd}
use Rattle.client_callbacks.specs.declared.ends.JoinFault.{JoinFault}
use Rattle.client_callbacks.specs.declared.ends.JoinFault.TheVariants.{LinkFault, Refused, Malformed, Spent, NoMemory}
use Rattle.client_callbacks.specs.declared.joiner.Join.{Join}
use Rattle.client_machine.specs.declared.saves.SaveAnswer.{SaveAnswer}
use Rattle.client_machine.specs.declared.saves.SaveAsk.{SaveAsk}
use Rattle.client_words.specs.declared.choices.Choices.{Choices}
use Rattle.smclient_app.specs.Joining.{AnswersIn, JoinsBy, Listens, Memory, NoReasons, Ran, remembers}
use Rattle.smclient_app.specs.Rules.{Answers, MayAnswer, Remembers}

one≢zero : (n : ℤ) → n ≡ pos 1 → n ≡ pos 0 → ⊥
one≢zero n one zero = let bad : pos 1 ≡ pos 0 = sym one ∙ zero in cc

was_missing : (choices : Choices) (talked : Bool) (missing : ℤ) (ask : SaveAsk) (answer : SaveAnswer) (after : Bool) (missed : ℤ) → Remembers choices talked missing ask answer after missed → missing ≡ pos 1 → missed ≡ pos 1
was_missing choices talked missing ask answer after missed (is, inl kept) one = kept.1 ∙ one
was_missing choices talked missing ask answer after missed (is, inr gave) one = gave.1

may_answer : (choices : Choices) (talked : Bool) (missing : ℤ) (ask : SaveAsk) (answer : SaveAnswer) (after : Bool) (missed : ℤ) → Remembers choices talked missing ask answer after missed → MayAnswer choices talked ask answer after
may_answer choices talked missing ask answer after missed (is, inl kept) = (inl kept.0, is)
may_answer choices talked missing ask answer after missed (is, inr gave) = (inr gave.0, is)

-- Answers by the words are such whatever the end.
answers_in : (result : Result ClientEnd JoinFault) (choices : Choices) (talked : Bool) (ask : SaveAsk) (answer : SaveAnswer) (after : Bool) → Answers choices talked ask answer after → AnswersIn result choices talked ask answer after
answers_in (Ok x) choices talked ask answer after h = h
answers_in (Err LinkFault) choices talked ask answer after h = h
answers_in (Err (Refused class)) choices talked ask answer after h = h
answers_in (Err (Malformed at)) choices talked ask answer after h = h
answers_in (Err Spent) choices talked ask answer after h = h
answers_in (Err NoMemory) choices talked ask answer after h = (inl h.0, h.1)

module _ {S D C : Type 0} (answers : S → SaveAsk → SaveAnswer → S → Type 0) (gives : D → List (List ℕ) → D → Type 0) (hears : C → C → Type 0) (choices_of : S → Choices) (talked_of : S → Bool) (missing_of : S → ℤ) (sound : (f : S) (ask : SaveAsk) (answer : SaveAnswer) (g : S) → answers f ask answer g → (choices_of g ≡ choices_of f) × Remembers (choices_of f) (talked_of f) (missing_of f) ask answer (talked_of g) (missing_of g)) (silent : (d : D) (reasons : List (List ℕ)) (e : D) → gives d reasons e → reasons ≡ []) where
  abbrev image : Callbacks S D C → Memory
  image c = remembers (talked_of c.save)

  stays_missing : (entries : List Entry) (old new : Callbacks S D C) → missing_of old.save ≡ pos 1 → Follows answers gives hears entries old new → missing_of new.save ≡ pos 1
  stays_missing [] old new one follows = ap (λ (c : Callbacks S D C). missing_of c.save) follows ∙ one
  stays_missing (Hears bytes ∷ more) old new one follows = stays_missing more old new one follows
  stays_missing (Says message ∷ more) old new one follows = stays_missing more old new one follows
  stays_missing (AsksSave ask answer ∷ more) old new one follows =
      stays_missing more (record old { save = follows.0 }) new (was_missing (choices_of old.save) (talked_of old.save) (missing_of old.save) ask answer (talked_of follows.0) (missing_of follows.0) (sound old.save ask answer follows.0 follows.1).1 one) follows.2
  stays_missing (AsksReasons reasons ∷ more) old new one follows = stays_missing more (record old { die = follows.0 }) new one follows.2
  stays_missing (TellsCancelled ∷ more) old new one follows = stays_missing more (record old { cancelled = follows.0 }) new one follows.2
  stays_missing (Notes line ∷ more) old new one follows = stays_missing more old new one follows

  -- all answers are those of the words, or give up
  loose : (entries : List Entry) (old new : Callbacks S D C) (choices : Choices) → choices_of old.save ≡ choices → Follows answers gives hears entries old new → Follows (MayAnswer choices) NoReasons Listens entries (image old) (image new)
  loose [] old new choices is follows = ap image follows
  loose (Hears bytes ∷ more) old new choices is follows = loose more old new choices is follows
  loose (Says message ∷ more) old new choices is follows = loose more old new choices is follows
  loose (AsksSave ask answer ∷ more) old new choices is follows =
      let step = sound old.save ask answer follows.0 follows.1 in
      let P : Choices → Type 0 = λ c. MayAnswer c (talked_of old.save) ask answer (talked_of follows.0) in
      (talked_of follows.0, subst P is (may_answer (choices_of old.save) (talked_of old.save) (missing_of old.save) ask answer (talked_of follows.0) (missing_of follows.0) step.1), loose more (record old { save = follows.0 }) new choices (step.0 ∙ is) follows.2)
  loose (AsksReasons reasons ∷ more) old new choices is follows = (tt, silent old.die reasons follows.0 follows.1, loose more (record old { die = follows.0 }) new choices is follows.2)
  loose (TellsCancelled ∷ more) old new choices is follows = (tt, tt, loose more (record old { cancelled = follows.0 }) new choices is follows.2)
  loose (Notes line ∷ more) old new choices is follows = loose more old new choices is follows

  strict_step : (entries : List Entry) (old mid new : Callbacks S D C) (ask : SaveAsk) (answer : SaveAnswer) → Remembers (choices_of old.save) (talked_of old.save) (missing_of old.save) ask answer (talked_of mid.save) (missing_of mid.save) → Follows answers gives hears entries mid new → missing_of new.save ≡ pos 0 → Answers (choices_of old.save) (talked_of old.save) ask answer (talked_of mid.save)
  strict_step entries old mid new ask answer (is, inl kept) follows none = (kept.0, is)
  strict_step entries old mid new ask answer (is, inr gave) follows none = absurd (one≢zero (missing_of new.save) (stays_missing entries mid new gave.1 follows) none)

  -- and none gives up where memory wasn't wanting at the end
  strict : (result : Result ClientEnd JoinFault) (entries : List Entry) (old new : Callbacks S D C) (choices : Choices) → choices_of old.save ≡ choices → Follows answers gives hears entries old new → missing_of new.save ≡ pos 0 → Follows (AnswersIn result choices) NoReasons Listens entries (image old) (image new)
  strict result [] old new choices is follows none = ap image follows
  strict result (Hears bytes ∷ more) old new choices is follows none = strict result more old new choices is follows none
  strict result (Says message ∷ more) old new choices is follows none = strict result more old new choices is follows none
  strict result (AsksSave ask answer ∷ more) old new choices is follows none =
      let step = sound old.save ask answer follows.0 follows.1 in
      let mid = record old { save = follows.0 } in
      let P : Choices → Type 0 = λ c. Answers c (talked_of old.save) ask answer (talked_of follows.0) in
      (talked_of follows.0, answers_in result choices (talked_of old.save) ask answer (talked_of follows.0) (subst P is (strict_step more old mid new ask answer step.1 follows.2 none)), strict result more mid new choices (step.0 ∙ is) follows.2 none)
  strict result (AsksReasons reasons ∷ more) old new choices is follows none = (tt, silent old.die reasons follows.0 follows.1, strict result more (record old { die = follows.0 }) new choices is follows.2 none)
  strict result (TellsCancelled ∷ more) old new choices is follows none = (tt, tt, strict result more (record old { cancelled = follows.0 }) new choices is follows.2 none)
  strict result (Notes line ∷ more) old new choices is follows none = strict result more old new choices is follows none

  module _ (old new : Outside) (join : Join) (lines : List (List ℕ)) (turns : ℕ) (callbacks : Callbacks S D C) (save : S) (result : Result ClientEnd JoinFault) (ran : Ran answers gives hears old new join lines turns callbacks save result) (choices : Choices) (is : choices_of callbacks.save ≡ choices) (begins : talked_of callbacks.save ≡ false) where
    abbrev last : Callbacks S D C
    last = record { save = save; die = ran.die; cancelled = ran.cancelled }

    -- Memory wasn't wanting, and the client's answers are those of the words.
    joined_strictly : missing_of save ≡ pos 0 → JoinsBy choices old new join lines turns result
    joined_strictly none =
        let does = ran.joins.does in
        let P : Bool → Type 0 = λ talked. Follows (AnswersIn result choices) NoReasons Listens does.done (remembers talked) (image last) in
        record {
          last = talked_of save;
          joins = record {
            cames = ran.joins.cames;
            does = record {
              done = does.done;
              left = does.left;
              parts = does.parts;
              none_left = does.none_left;
              told = does.told;
              lines = does.lines;
              follows = subst P begins (strict result does.done callbacks last choices is does.follows none);
              counts = does.counts;
              cause = does.cause;
            };
            heard = ran.joins.heard;
            answer = ran.joins.answer;
            in_turns = ran.joins.in_turns;
          };
        }

    -- Memory was wanting, whatever the client's own end.
    joined_loosely : JoinsBy choices old new join lines turns (Err NoMemory)
    joined_loosely =
        let does = ran.joins.does in
        let P : Bool → Type 0 = λ talked. Follows (MayAnswer choices) NoReasons Listens does.done (remembers talked) (image last) in
        record {
          last = talked_of save;
          joins = record {
            cames = ran.joins.cames;
            does = record {
              done = does.done;
              left = does.left;
              parts = does.parts;
              none_left = λ e. cc;
              told = does.told;
              lines = does.lines;
              follows = subst P begins (loose does.done callbacks last choices is does.follows);
              counts = does.counts;
              cause = tt;
            };
            heard = ran.joins.heard;
            answer = tt;
            in_turns = ran.joins.in_turns;
          };
        }

-- The same, with what is known of the run first.
pub strictly : {S D C : Type 0} (answers : S → SaveAsk → SaveAnswer → S → Type 0) (gives : D → List (List ℕ) → D → Type 0) (hears : C → C → Type 0) (old new : Outside) (join : Join) (lines : List (List ℕ)) (turns : ℕ) (callbacks : Callbacks S D C) (save : S) (result : Result ClientEnd JoinFault) → Ran answers gives hears old new join lines turns callbacks save result → (choices_of : S → Choices) (talked_of : S → Bool) (missing_of : S → ℤ) → ((f : S) (ask : SaveAsk) (answer : SaveAnswer) (g : S) → answers f ask answer g → (choices_of g ≡ choices_of f) × Remembers (choices_of f) (talked_of f) (missing_of f) ask answer (talked_of g) (missing_of g)) → ((d : D) (reasons : List (List ℕ)) (e : D) → gives d reasons e → reasons ≡ []) → (choices : Choices) → choices_of callbacks.save ≡ choices → talked_of callbacks.save ≡ false → missing_of save ≡ pos 0 → JoinsBy choices old new join lines turns result
strictly answers gives hears old new join lines turns callbacks save result ran choices_of talked_of missing_of sound silent choices is begins none =
    joined_strictly answers gives hears choices_of talked_of missing_of sound silent old new join lines turns callbacks save result ran choices is begins none

pub loosely : {S D C : Type 0} (answers : S → SaveAsk → SaveAnswer → S → Type 0) (gives : D → List (List ℕ) → D → Type 0) (hears : C → C → Type 0) (old new : Outside) (join : Join) (lines : List (List ℕ)) (turns : ℕ) (callbacks : Callbacks S D C) (save : S) (result : Result ClientEnd JoinFault) → Ran answers gives hears old new join lines turns callbacks save result → (choices_of : S → Choices) (talked_of : S → Bool) (missing_of : S → ℤ) → ((f : S) (ask : SaveAsk) (answer : SaveAnswer) (g : S) → answers f ask answer g → (choices_of g ≡ choices_of f) × Remembers (choices_of f) (talked_of f) (missing_of f) ask answer (talked_of g) (missing_of g)) → ((d : D) (reasons : List (List ℕ)) (e : D) → gives d reasons e → reasons ≡ []) → (choices : Choices) → choices_of callbacks.save ≡ choices → talked_of callbacks.save ≡ false → JoinsBy choices old new join lines turns (Err NoMemory)
loosely answers gives hears old new join lines turns callbacks save result ran choices_of talked_of missing_of sound silent choices is begins =
    joined_loosely answers gives hears choices_of talked_of missing_of sound silent old new join lines turns callbacks save result ran choices is begins

-- A run over a joiner, and the callbacks that come back of it.
pub came_back : {S D C : Type 0} (answers : S → SaveAsk → SaveAnswer → S → Type 0) (gives : D → List (List ℕ) → D → Type 0) (hears : C → C → Type 0) (old new : Outside) (join : Join) (lines : List (List ℕ)) (turns : ℕ) (callbacks begun ended : Callbacks S D C) (parts : S × D × C) (result : Result ClientEnd JoinFault) → begun ≡ callbacks → Joins answers gives hears join.cookie join.previous join.saves turns (desk old join.lines begun) (desk new lines ended) result → parts ≡ (ended.save, ended.die, ended.cancelled) → Ran answers gives hears old new join lines turns callbacks parts.0 result
came_back {S} {D} {C} answers gives hears old new join lines turns callbacks begun ended parts result is joins back =
    let P : Callbacks S D C → Type 0 = λ c. Joins answers gives hears join.cookie join.previous join.saves turns (desk old join.lines c) (desk new lines ended) result in
    let Q : S → Type 0 = λ save. Ran answers gives hears old new join lines turns callbacks save result in
    subst Q (sym (ap (λ (p : S × D × C). p.0) back)) (record { die = ended.die; cancelled = ended.cancelled; joins = subst P is joins })
