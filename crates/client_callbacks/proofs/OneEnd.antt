-- A run has one end at most, but for want of memory.
use Rattle.std.proofs.Common.{◌≡◌, ◌≢◌, ◌⊎◌, inl, inr, ℕ, ◌<◌, arith, false, List, [], ◌∷◌, ◌++◌, length, Option, None, Some, Result, Ok, Err, refl, sym, ◌∙◌, ap, subst, append_assoc, append-nil}
use Rattle.std.proofs.lemmas.List.{length-map}
use Rattle.std.proofs.lemmas.Grind.{flat_map-append}
use Rattle.std.specs.List.{flat_map}
use Rattle.sm_world.specs.Outside.{adds}
use Rattle.sm_world.specs.declared.effects.Effect.{Effect}
use Rattle.sm_world.specs.declared.effects.Effect.TheVariants.{Heard}
use Rattle.sm_world.specs.declared.events.Event.TheVariants.{Gone, Piece}
use Rattle.ice_cookie.specs.declared.cookies.Cookie.{Cookie}
use Rattle.client_machine.specs.declared.saves.SaveAnswer.{SaveAnswer}
use Rattle.client_machine.specs.declared.saves.SaveAsk.{SaveAsk}
use Rattle.client_engine.specs.Driving.{Run}
use Rattle.protocol_messages.specs.declared.message.Message.{Message}
use Rattle.client_callbacks.specs.Doing.{Callbacks, Follows, IsUnsent, bytes_in, effect_of, effects_in, heard_in}
use Rattle.client_callbacks.specs.Laws.{HasOneEnd, SayOne}
use Rattle.client_callbacks.specs.Running.{IsAnswer, answer_of, failure_of}
use Rattle.client_callbacks.specs.Script.{Came, Entry, Hears, Says, AsksSave, AsksReasons, TellsCancelled, Notes, Keeper, is_over, run_after, script, script_from, start}
use Rattle.client_callbacks.specs.declared.ends.ClientEnd.{ClientEnd}
use Rattle.client_callbacks.specs.declared.ends.Ending.{Ending}
use Rattle.client_callbacks.specs.declared.ends.JoinFault.{JoinFault}
use Rattle.client_callbacks.specs.declared.ends.JoinFault.TheVariants.{LinkFault, Refused, Malformed, Spent, NoMemory}
use Rattle.client_callbacks.proofs.Agreeing.{Agree, Alike, agree_drop, agree_sym, scripts_agree}

-- ---- what was done

-- all was done, or a message wasn't sent
abbrev Stopped : List Entry → Type 0
Stopped left = IsUnsent left ⊎ (left ≡ [])

-- what was received, by the effects
heard_by : Effect → List (List ℕ)
heard_by (Heard (Piece n bytes)) = bytes ∷ []
heard_by (Heard (Gone n)) = [] ∷ []
heard_by effect = []

heard_back : (es : List Entry) → flat_map heard_by (effects_in es) ≡ heard_in es
unfolding heard_by
heard_back [] = refl
heard_back (Hears [] ∷ es) = ap (λ (bs : List (List ℕ)). [] ∷ bs) (heard_back es)
heard_back (Hears (b ∷ bytes) ∷ es) = ap (λ (bs : List (List ℕ)). (b ∷ bytes) ∷ bs) (heard_back es)
heard_back (Says message ∷ es) = heard_back es
heard_back (AsksSave ask answer ∷ es) = heard_back es
heard_back (AsksReasons reasons ∷ es) = heard_back es
heard_back (TellsCancelled ∷ es) = heard_back es
heard_back (Notes line ∷ es) = heard_back es

same_heard : (es fs : List Entry) → effects_in es ≡ effects_in fs → heard_in es ≡ heard_in fs
same_heard es fs same = sym (heard_back es) ∙ (ap (λ (effects : List Effect). flat_map heard_by effects) same ∙ heard_back fs)

same_tail : {A : Type 0} (front xs ys : List A) → front ++ xs ≡ front ++ ys → xs ≡ ys
same_tail [] xs ys same = same
same_tail (a ∷ front) xs ys same = same_tail front xs ys cc

no_tail : (front more : List Entry) → effects_in front ≡ effects_in (front ++ more) → effects_in more ≡ []
no_tail front more same = sym (same_tail (effects_in front) [] (effects_in more) (append-nil (effects_in front) ∙ (same ∙ flat_map-append effect_of front more)))

-- One who did no more than the other, with the same effects, did the same.
stopped_alike : (done left more other : List Entry) → Agree (done ++ left) ((done ++ more) ++ other) → effects_in done ≡ effects_in (done ++ more) → Stopped left → (more ≡ []) × Agree left other
stopped_alike done left [] other agree same stops = (refl, agree_drop done left other (subst (λ (es : List Entry). Agree (done ++ left) (es ++ other)) (append-nil done) agree))
stopped_alike done left (e ∷ more) other agree same (inl unsent) =
    let behind : Agree left (e ∷ (more ++ other)) = agree_drop done left (e ∷ (more ++ other)) (subst (λ (es : List Entry). Agree (done ++ left) es) (append_assoc done (e ∷ more) other) agree) in
    let first : Agree (Says unsent.0 ∷ unsent.1) (e ∷ (more ++ other)) = subst (λ (es : List Entry). Agree es (e ∷ (more ++ other))) unsent.2 behind in
    let is : e ∷ (more ++ other) ≡ Says unsent.0 ∷ first.1 = first.2 ∙ ap (λ (x : Entry). x ∷ first.1) first.3 in
    absurd (no_message e more unsent.0 (more ++ other) first.1 is (no_tail done (e ∷ more) same))
  where
    no_message : (e : Entry) (more : List Entry) (message : Message) (xs ys : List Entry) → e ∷ xs ≡ Says message ∷ ys → effects_in (e ∷ more) ≡ [] → ⊥
    no_message (Says m) more message xs ys is none = cc
    no_message (Hears bytes) more message xs ys is none = cc
    no_message (AsksSave ask answer) more message xs ys is none = cc
    no_message (AsksReasons reasons) more message xs ys is none = cc
    no_message TellsCancelled more message xs ys is none = cc
    no_message (Notes line) more message xs ys is none = cc
stopped_alike done left (e ∷ more) other agree same (inr none) =
    let behind : Agree left (e ∷ (more ++ other)) = agree_drop done left (e ∷ (more ++ other)) (subst (λ (es : List Entry). Agree (done ++ left) es) (append_assoc done (e ∷ more) other) agree) in
    let empty : e ∷ (more ++ other) ≡ [] = subst (λ (es : List Entry). Agree es (e ∷ (more ++ other))) none behind in
    absurd cc

-- what both left, where one left a message or nothing
both_left : (one other : List Entry) → Agree one other → Stopped one → Stopped other → ((one ≡ []) × (other ≡ [])) ⊎ (IsUnsent one × IsUnsent other)
both_left one other agree (inl first) (inl second) = inr (first, second)
both_left one other agree (inl first) (inr none) =
    let empty : Agree (Says first.0 ∷ first.1) [] = subst (λ (es : List Entry). Agree (Says first.0 ∷ first.1) es) none (subst (λ (es : List Entry). Agree es other) first.2 agree) in
    absurd (nothing empty.0 empty.1 empty.2)
  where
    nothing : (e : Entry) (es : List Entry) → [] ≡ e ∷ es → ⊥
    nothing e es is = cc
both_left one other agree (inr none) second =
    let empty : other ≡ [] = subst (λ (es : List Entry). Agree es other) none agree in
    inl (none, empty)

-- Of two that agree one did no more than the other.
abbrev Longer : List Entry → List Entry → Type 0
Longer xs ys = ((more : List Entry) × (ys ≡ xs ++ more)) ⊎ ((more : List Entry) × (xs ≡ ys ++ more))

longer_by : (x y : Entry) (xs ys : List Entry) → x ≡ y → Longer xs ys → Longer (x ∷ xs) (y ∷ ys)
longer_by x y xs ys same (inl longer) = inl (longer.0, ap (λ (e : Entry). e ∷ ys) (sym same) ∙ ap (λ (es : List Entry). x ∷ es) longer.1)
longer_by x y xs ys same (inr longer) = inr (longer.0, ap (λ (e : Entry). e ∷ xs) same ∙ ap (λ (es : List Entry). y ∷ es) longer.1)

-- Both did the same, and left nothing, or a message.
abbrev DidTheSame : List Entry → List Entry → List Entry → List Entry → Type 0
DidTheSame done left other others = (done ≡ other) × (((left ≡ []) × (others ≡ [])) ⊎ (IsUnsent left × IsUnsent others))

did_same : (done left other others : List Entry) → Agree (done ++ left) (other ++ others) → effects_in done ≡ effects_in other → Stopped left → Stopped others → Longer done other → DidTheSame done left other others
did_same done left other others agree same one two (inl longer) =
    let parts = stopped_alike done left longer.0 others (subst (λ (es : List Entry). Agree (done ++ left) (es ++ others)) longer.1 agree) (same ∙ ap effects_in longer.1) one in
    (sym (longer.1 ∙ (ap (λ (es : List Entry). done ++ es) parts.0 ∙ append-nil done)), both_left left others parts.1 one two)
did_same done left other others agree same one two (inr longer) =
    let parts = stopped_alike other others longer.0 left (subst (λ (es : List Entry). Agree (other ++ others) (es ++ left)) longer.1 (agree_sym (done ++ left) (other ++ others) agree)) (sym same ∙ ap effects_in longer.1) two in
    (longer.1 ∙ (ap (λ (es : List Entry). other ++ es) parts.0 ∙ append-nil other), swapped (both_left others left parts.1 two one))
  where
    swapped : ((others ≡ []) × (left ≡ [])) ⊎ (IsUnsent others × IsUnsent left) → ((left ≡ []) × (others ≡ [])) ⊎ (IsUnsent left × IsUnsent others)
    swapped (inl both) = inl (both.1, both.0)
    swapped (inr both) = inr (both.1, both.0)

-- ---- ends

-- how a run ended that didn't want for memory
data End (answer : Result ClientEnd JoinFault) (place : Option Ending) (heard turns : ℕ) (left : List Entry) : Type 0 where
  Ended : (ending : Ending) → place ≡ Some ending → answer ≡ answer_of ending → left ≡ [] → End answer place heard turns left
  IsSpent : answer ≡ Err Spent → heard ≡ turns → is_over place ≡ false → left ≡ [] → End answer place heard turns left
  Unsent : answer ≡ Err LinkFault → IsUnsent left → End answer place heard turns left
  Unheard : answer ≡ Err LinkFault → heard < turns → is_over place ≡ false → left ≡ [] → End answer place heard turns left

end_of : (answer : Result ClientEnd JoinFault) (place : Option Ending) (heard turns : ℕ) (left : List Entry) → answer ≢ Err NoMemory → (failure_of answer ≡ None → left ≡ []) → IsAnswer answer place heard turns left → End answer place heard turns left
end_of (Ok end) place heard turns left some none is = Ended is.0 is.1 is.2 (none refl)
end_of (Err LinkFault) place heard turns left some none (inl unsent) = Unsent refl unsent
end_of (Err LinkFault) place heard turns left some none (inr silent) = Unheard refl silent.1 silent.2 silent.0
end_of (Err (Refused class)) place heard turns left some none is = Ended is.0 is.1 is.2 (none refl)
end_of (Err (Malformed at)) place heard turns left some none is = Ended is.0 is.1 is.2 (none refl)
end_of (Err Spent) place heard turns left some none is = IsSpent refl is.0 is.1 (none refl)
end_of (Err NoMemory) place heard turns left some none is = absurd (some refl)

stops : (answer : Result ClientEnd JoinFault) (place : Option Ending) (heard turns : ℕ) (left : List Entry) → End answer place heard turns left → Stopped left
stops answer place heard turns left (Ended ending over is none) = inr none
stops answer place heard turns left (IsSpent is all going none) = inr none
stops answer place heard turns left (Unsent is unsent) = inl unsent
stops answer place heard turns left (Unheard is some going none) = inr none

not_unsent : (left : List Entry) → left ≡ [] → IsUnsent left → ⊥
not_unsent left none unsent = nothing unsent.0 unsent.1 (sym none ∙ unsent.2)
  where
    nothing : (message : Message) (more : List Entry) → [] ≡ Says message ∷ more → ⊥
    nothing message more is = cc

unsent_end : (answer : Result ClientEnd JoinFault) (place : Option Ending) (heard turns : ℕ) (left : List Entry) → End answer place heard turns left → IsUnsent left → answer ≡ Err LinkFault
unsent_end answer place heard turns left (Ended ending over is none) unsent = absurd (not_unsent left none unsent)
unsent_end answer place heard turns left (IsSpent is all going none) unsent = absurd (not_unsent left none unsent)
unsent_end answer place heard turns left (Unsent is some) unsent = is
unsent_end answer place heard turns left (Unheard is some going none) unsent = absurd (not_unsent left none unsent)

not_over : (place : Option Ending) (ending : Ending) → place ≡ Some ending → is_over place ≡ false → ⊥
not_over place ending over going = cc (ap is_over over, going)

same_ending : (place : Option Ending) (one other : Ending) → place ≡ Some one → place ≡ Some other → one ≡ other
same_ending place one other first second = by (sym first ∙ second)
  where
    by : Some one ≡ Some other → one ≡ other
    by same = cc

-- the same place, and as many receives
ends_same : (one other : Result ClientEnd JoinFault) (place : Option Ending) (heard turns : ℕ) (left others : List Entry) → left ≡ [] → others ≡ [] → End one place heard turns left → End other place heard turns others → one ≡ other
ends_same one other place heard turns left others none nothing (Ended ending over is empty) (Ended last ends so done) = is ∙ (ap answer_of (same_ending place ending last over ends) ∙ sym so)
ends_same one other place heard turns left others none nothing (Ended ending over is empty) (IsSpent so all going done) = absurd (not_over place ending over going)
ends_same one other place heard turns left others none nothing (Ended ending over is empty) (Unsent so unsent) = absurd (not_unsent others nothing unsent)
ends_same one other place heard turns left others none nothing (Ended ending over is empty) (Unheard so some going done) = absurd (not_over place ending over going)
ends_same one other place heard turns left others none nothing (IsSpent is all going empty) (Ended last ends so done) = absurd (not_over place last ends going)
ends_same one other place heard turns left others none nothing (IsSpent is all going empty) (IsSpent so every still done) = is ∙ sym so
ends_same one other place heard turns left others none nothing (IsSpent is all going empty) (Unsent so unsent) = absurd (not_unsent others nothing unsent)
ends_same one other place heard turns left others none nothing (IsSpent is all going empty) (Unheard so some still done) = absurd (omega (arith, all, some))
ends_same one other place heard turns left others none nothing (Unsent is unsent) end = absurd (not_unsent left none unsent)
ends_same one other place heard turns left others none nothing (Unheard is some going empty) (Ended last ends so done) = absurd (not_over place last ends going)
ends_same one other place heard turns left others none nothing (Unheard is some going empty) (IsSpent so all still done) = absurd (omega (arith, all, some))
ends_same one other place heard turns left others none nothing (Unheard is some going empty) (Unsent so unsent) = absurd (not_unsent others nothing unsent)
ends_same one other place heard turns left others none nothing (Unheard is some going empty) (Unheard so few still done) = is ∙ sym so

behind : (first : Entry) (es fs : List Entry) → first ∷ es ≡ first ∷ fs → es ≡ fs
behind first es fs is = cc

-- two ends of one run
ends_one : (cookie : Cookie) (previous : List ℕ) (saves turns : ℕ) (xs ys : List Came) (done left other others : List Entry) (one two : Result ClientEnd JoinFault) → done ++ left ≡ script cookie previous saves xs → other ++ others ≡ script cookie previous saves ys → heard_in done ≡ bytes_in xs → heard_in other ≡ bytes_in ys → End one (run_after (start cookie previous saves) xs).keeper.ending (length xs) turns left → End two (run_after (start cookie previous saves) ys).keeper.ending (length ys) turns others → DidTheSame done left other others → one ≡ two
ends_one cookie previous saves turns xs ys done left other others one two parts whole hears_one hears_two first second (same, inr unsent) = unsent_end one (run_after (start cookie previous saves) xs).keeper.ending (length xs) turns left first unsent.0 ∙ sym (unsent_end two (run_after (start cookie previous saves) ys).keeper.ending (length ys) turns others second unsent.1)
ends_one cookie previous saves turns xs ys done left other others one two parts whole hears_one hears_two first second (same, inl none) =
    let begin : Run Keeper = start cookie previous saves in
    let bytes : bytes_in xs ≡ bytes_in ys = sym hears_one ∙ (ap heard_in same ∙ hears_two) in
    let scripts : script cookie previous saves xs ≡ script cookie previous saves ys = sym parts ∙ (ap (λ (es : List Entry). es ++ left) same ∙ (ap (λ (es : List Entry). other ++ es) (none.0 ∙ sym none.1) ∙ whole)) in
    let after : run_after begin xs ≡ run_after begin ys = (scripts_agree begin xs ys bytes).1 (behind _ (script_from begin xs) (script_from begin ys) scripts) in
    let many : length xs ≡ length ys = omega (arith, length-map xs (λ (came : Came). came.bytes), length-map ys (λ (came : Came). came.bytes), ap length bytes) in
    let again : End two (run_after begin xs).keeper.ending (length xs) turns others = subst (λ (n : ℕ). End two (run_after begin xs).keeper.ending n turns others) (sym many) (subst (λ (run : Run Keeper). End two run.keeper.ending (length ys) turns others) (sym after) second) in
    ends_same one two (run_after begin xs).keeper.ending (length xs) turns left others none.0 none.1 first again

module _ {S D C : Type 0} (answers : S → SaveAsk → SaveAnswer → S → Type 0) (gives : D → List (List ℕ) → D → Type 0) (hears : C → C → Type 0) (say_one : SayOne answers gives hears) where
  abbrev FollowsIn : List Entry → Callbacks S D C → Callbacks S D C → Type 0
  FollowsIn entries old new = Follows answers gives hears entries old new

  -- one entry, and then the others
  first_follows : (x : Entry) (xs : List Entry) (old new : Callbacks S D C) → FollowsIn (x ∷ xs) old new → (next : Callbacks S D C) × FollowsIn (x ∷ []) old next × FollowsIn xs next new
  first_follows (Hears bytes) xs old new follows = (old, refl, follows)
  first_follows (Says message) xs old new follows = (old, refl, follows)
  first_follows (AsksSave ask answer) xs old new follows = (record old { save = follows.0 }, (follows.0, follows.1, refl), follows.2)
  first_follows (AsksReasons reasons) xs old new follows = (record old { die = follows.0 }, (follows.0, follows.1, refl), follows.2)
  first_follows TellsCancelled xs old new follows = (record old { cancelled = follows.0 }, (follows.0, follows.1, refl), follows.2)
  first_follows (Notes line) xs old new follows = (old, refl, follows)

  -- Entries that are alike, from one state, are the same.
  alike_follow : (x y : Entry) (old f g : Callbacks S D C) → Alike x y → FollowsIn (x ∷ []) old f → FollowsIn (y ∷ []) old g → (x ≡ y) × (f ≡ g)
  alike_follow (Hears bytes) y old f g alike one other = (sym alike, one ∙ sym (rw alike at other))
  alike_follow (Says message) y old f g alike one other = (sym alike, one ∙ sym (rw alike at other))
  alike_follow (Notes line) y old f g alike one other = (sym alike, one ∙ sym (rw alike at other))
  alike_follow TellsCancelled y old f g alike one other =
      let two : FollowsIn (TellsCancelled ∷ []) old g = subst (λ (e : Entry). FollowsIn (e ∷ []) old g) alike other in
      (sym alike, one.2 ∙ (ap (λ (c : C). let n : Callbacks S D C = record old { cancelled = c } in n) (say_one.told old.cancelled one.0 two.0 one.1 two.1) ∙ sym two.2))
  alike_follow (AsksSave ask answer) y old f g alike one other =
      let two : FollowsIn (AsksSave ask alike.0 ∷ []) old g = subst (λ (e : Entry). FollowsIn (e ∷ []) old g) alike.1 other in
      let says = say_one.answer old.save ask answer alike.0 one.0 two.0 one.1 two.1 in
      (ap (AsksSave ask) says.0 ∙ sym alike.1, one.2 ∙ (ap (λ (s : S). let n : Callbacks S D C = record old { save = s } in n) says.1 ∙ sym two.2))
  alike_follow (AsksReasons reasons) y old f g alike one other =
      let two : FollowsIn (AsksReasons alike.0 ∷ []) old g = subst (λ (e : Entry). FollowsIn (e ∷ []) old g) alike.1 other in
      let says = say_one.reasons old.die reasons alike.0 one.0 two.0 one.1 two.1 in
      (ap AsksReasons says.0 ∙ sym alike.1, one.2 ∙ (ap (λ (d : D). let n : Callbacks S D C = record old { die = d } in n) says.1 ∙ sym two.2))

  one_longer : (xs ys left others : List Entry) (old f g : Callbacks S D C) → Agree (xs ++ left) (ys ++ others) → FollowsIn xs old f → FollowsIn ys old g → Longer xs ys
  one_longer [] ys left others old f g agree one other = inl (ys, refl)
  one_longer (x ∷ xs) [] left others old f g agree one other = inr (x ∷ xs, refl)
  one_longer (x ∷ xs) (y ∷ ys) left others old f g agree one other =
      let first = first_follows x xs old f one in
      let second = first_follows y ys old g other in
      let alike : Alike x y = subst (λ (e : Entry). Alike x e) (sym (head_of y agree.0 (ys ++ others) agree.1 agree.2)) agree.3 in
      let same = alike_follow x y old first.0 second.0 alike first.1 second.1 in
      let rest : Agree (xs ++ left) (ys ++ others) = subst (λ (es : List Entry). Agree (xs ++ left) es) (sym (tail_of y agree.0 (ys ++ others) agree.1 agree.2)) (agree.4 (same.0 ∙ head_of y agree.0 (ys ++ others) agree.1 agree.2)) in
      longer_by x y xs ys same.0 (one_longer xs ys left others first.0 f g rest first.2 (subst (λ (c : Callbacks S D C). FollowsIn ys c g) (sym same.1) second.2))
    where
      head_of : (y e : Entry) (ys es : List Entry) → y ∷ ys ≡ e ∷ es → y ≡ e
      head_of y e ys es same = cc

      tail_of : (y e : Entry) (ys es : List Entry) → y ∷ ys ≡ e ∷ es → ys ≡ es
      tail_of y e ys es same = cc

pub one_end : {S D C : Type 0} (answers : S → SaveAsk → SaveAnswer → S → Type 0) (gives : D → List (List ℕ) → D → Type 0) (hears : C → C → Type 0) → HasOneEnd answers gives hears
one_end answers gives hears say_one cookie previous saves turns old new before one other told first second some more =
    let end_one = end_of one (run_after (start cookie previous saves) first.cames).keeper.ending (length first.cames) turns first.does.left some first.does.none_left first.answer in
    let end_two = end_of other (run_after (start cookie previous saves) second.cames).keeper.ending (length second.cames) turns second.does.left more second.does.none_left second.answer in
    let same : effects_in first.does.done ≡ effects_in second.does.done = told_once before (effects_in first.does.done) (effects_in second.does.done) (ap (λ t. adds t (effects_in first.does.done)) (sym told) ∙ (sym first.does.told ∙ (second.does.told ∙ ap (λ t. adds t (effects_in second.does.done)) told))) in
    let bytes : bytes_in first.cames ≡ bytes_in second.cames = sym first.heard ∙ (same_heard first.does.done second.does.done same ∙ second.heard) in
    let begins : Agree (script cookie previous saves first.cames) (script cookie previous saves second.cames) = (_, _, refl, refl, λ is. (scripts_agree (start cookie previous saves) first.cames second.cames bytes).0) in
    let agree : Agree (first.does.done ++ first.does.left) (second.does.done ++ second.does.left) = subst (λ (es : List Entry). Agree es (second.does.done ++ second.does.left)) (sym first.does.parts) (subst (λ (es : List Entry). Agree (script cookie previous saves first.cames) es) (sym second.does.parts) begins) in
    let longer = one_longer answers gives hears say_one first.does.done second.does.done first.does.left second.does.left old.callbacks new.callbacks new.callbacks agree first.does.follows second.does.follows in
    ends_one cookie previous saves turns first.cames second.cames first.does.done first.does.left second.does.done second.does.left one other first.does.parts second.does.parts first.heard second.heard end_one end_two
    (did_same first.does.done first.does.left second.does.done second.does.left agree same (stops one _ _ turns _ end_one) (stops other _ _ turns _ end_two) longer)
  where
    told_once : (before xs ys : List Effect) → ◌≡◌ {A = Option (List Effect)} (Some (before ++ xs)) (Some (before ++ ys)) → xs ≡ ys
    told_once before xs ys same = same_tail before xs ys cc
