-- One call after another: what is sent, what is done, and the cause of a failure.
use Rattle.std.proofs.Common.{◌≡◌, ◌≢◌, inl, inr, arith, ℕ, zero, suc, ◌+◌, ◌<◌, ◌≤◌, List, [], ◌∷◌, ◌++◌, length, take, drop, slice_index_or, map, Option, None, Some, Result, Ok, Err, refl, sym, ◌∙◌, ap, subst, append_assoc}
use Rattle.std.proofs.lemmas.List.{append-nil, map-append, take-append-drop, take_all, take_more}
use Rattle.std.proofs.lemmas.Grind.{flat_map-append}
use Rattle.sm_world.specs.Outside.{Outside, UsesLinks, adds, on_ok, NotFallen}
use Rattle.sm_world.specs.declared.effects.Effect.TheVariants.{Sent}
use Rattle.sm_world.specs.declared.failures.Failure.{Failure}
use Rattle.sm_world.specs.declared.failures.Failure.TheVariants.{Failed, NoMemory}
use Rattle.sm_world.specs.declared.failures.Faults.{Faults}
use Rattle.sm_world.proofs.Adding.{adds-adds, adds-none, never_fallen, fallen_never}
use Rattle.client_machine.specs.declared.saves.SaveAnswer.{SaveAnswer}
use Rattle.client_machine.specs.declared.saves.SaveAsk.{SaveAsk}
use Rattle.client_engine.specs.Messages.{AreShort, spelled}
use Rattle.protocol_messages.specs.Messages.{IsTooLong}
use Rattle.client_callbacks.proofs.Quiet.{no_front}
use Rattle.client_callbacks.specs.Doing.{Callbacks, CarriesOut, Desk, desk, Does, Follows, IsCaused, IsUnsent, Sends, effect_of, effects_in, failure_in, line_of, lines_in, sent}
use Rattle.client_callbacks.specs.Script.{Entry, Hears, Says, AsksSave, AsksReasons, TellsCancelled, Notes}
use Rattle.protocol_messages.specs.declared.message.Message.{Message}

pub cause_later : (first second third : Faults) (failure : Option Failure) → NotFallen first second → IsCaused second third failure → IsCaused first third failure
cause_later first second third None one cause = tt
cause_later first second third (Some Failed) one (inl rose) = inl (omega (arith, one.links))
cause_later first second third (Some Failed) one (inr full) = inr full
cause_later first second third (Some NoMemory) one cause = tt

-- ---- messages

pub sends_none : (old : Outside) → Sends old old [] None
sends_none old = record { done = []; left = []; parts = refl; none_left = λ e. refl; some_left = λ e. absurd cc; told = sym (adds-none old.told); counts = never_fallen old.faults; cause = tt }

-- nothing was sent, for want of memory
pub sends_never : (old : Outside) (all : List Message) → Sends old old all (Some NoMemory)
sends_never old all = record { done = []; left = all; parts = refl; none_left = λ e. absurd cc; some_left = λ e. absurd cc; told = sym (adds-none old.told); counts = never_fallen old.faults; cause = tt }

pub sends_one : {A : Type 0} (old new : Outside) (message : Message) (result : Result A Failure) → new.told ≡ adds old.told (on_ok result (sent message ∷ [])) → NotFallen old.faults new.faults → IsCaused old.faults new.faults (failure_in result) → Sends old new (message ∷ []) (failure_in result)
sends_one old new message (Ok x) told counts cause = record { done = message ∷ []; left = []; parts = refl; none_left = λ e. refl; some_left = λ e. absurd cc; told = told; counts = counts; cause = cause }
sends_one old new message (Err failure) told counts cause = record { done = []; left = message ∷ []; parts = refl; none_left = λ e. absurd cc; some_left = λ e none. absurd cc; told = told; counts = counts; cause = cause }

-- all of these, and then some of those
pub sends_more : (a b c : Outside) (xs ys : List Message) (failure : Option Failure) → Sends a b xs None → Sends b c ys failure → Sends a c (xs ++ ys) failure
sends_more a b c xs ys failure one two = record {
  done = xs ++ two.done;
  left = two.left;
  parts = append_assoc xs two.done two.left ∙ ap (λ (ms : List Message). xs ++ ms) two.parts;
  none_left = two.none_left;
  some_left = two.some_left;
  told = two.told ∙ (ap (λ t. adds t (map sent two.done)) (one.told ∙ ap (λ ms. adds a.told (map sent ms)) all_done) ∙ (adds-adds a.told (map sent xs) (map sent two.done) ∙ ap (adds a.told) (sym (map-append sent xs two.done))));
  counts = fallen_never a.faults b.faults c.faults one.counts two.counts;
  cause = cause_later a.faults b.faults c.faults failure one.counts two.cause;
}
  where
    all_done : one.done ≡ xs
    all_done = sym (append-nil one.done) ∙ (ap (λ (ms : List Message). one.done ++ ms) (sym (one.none_left refl)) ∙ one.parts)

-- some of these, and none of those
pub sends_cut : (a b : Outside) (xs ys : List Message) (failure : Failure) → Sends a b xs (Some failure) → Sends a b (xs ++ ys) (Some failure)
sends_cut a b xs ys failure one = record {
  done = one.done;
  left = one.left ++ ys;
  parts = sym (append_assoc one.done one.left ys) ∙ ap (λ (ms : List Message). ms ++ ys) one.parts;
  none_left = λ e. absurd cc;
  some_left = λ e none. one.some_left e (no_front one.left ys none);
  told = one.told;
  counts = one.counts;
  cause = one.cause;
}

effects-said : (ms : List Message) → effects_in (map Says ms) ≡ map sent ms
effects-said [] = refl
effects-said (m ∷ ms) = ap (λ es. sent m ∷ es) (effects-said ms)

unsent-said : (ms : List Message) → ms ≢ [] → IsUnsent (map Says ms)
unsent-said [] some = absurd (some refl)
unsent-said (m ∷ ms) some = (m, map Says ms, refl)

unsent-more : (xs ys : List Entry) → IsUnsent xs → IsUnsent (xs ++ ys)
unsent-more xs ys unsent = (unsent.0, unsent.1 ++ ys, ap (λ (es : List Entry). es ++ ys) unsent.2)

lines-said : (ms : List Message) → lines_in (map Says ms) ≡ []
lines-said [] = refl
lines-said (m ∷ ms) = lines-said ms

-- what a call of the links does to the counts
pub links_counts : {A : Type 0} (old new : Outside) (result : Result A Failure) → UsesLinks old new result → NotFallen old.faults new.faults
links_counts old new result uses = record { disk = omega (arith, uses.disk); links = uses.links; spawner = omega (arith, uses.spawner); console = omega (arith, uses.console) }

pub links_cause : {A : Type 0} (old new : Outside) (failure : Failure) → UsesLinks {A = A} old new (Err failure) → IsCaused old.faults new.faults (Some failure)
links_cause old new Failed uses = uses.cause refl
links_cause old new NoMemory uses = tt

-- a message that the links took, or didn't
pub links_sends : (old new : Outside) (message : Message) (bytes : List ℕ) (result : Result (Unit {0}) Failure) → bytes ≡ spelled message → new.told ≡ adds old.told (on_ok result (Sent 0 bytes ∷ [])) → UsesLinks old new result → Sends old new (message ∷ []) (failure_in result)
links_sends old new message bytes (Ok x) is told uses = sends_one old new message (Ok x) (rw is at told) (links_counts old new (Ok x) uses) tt
links_sends old new message bytes (Err failure) is told uses = sends_one {A = Unit {0}} old new message (Err failure) told (links_counts old new (Err failure) uses) (links_cause {A = Unit {0}} old new failure uses)

-- ---- messages one after the other

said_grown : (all : List Message) (i : ℕ) (message : Message) → i < length all → message ≡ slice_index_or all i message → take (i + 1) all ≡ take i all ++ message ∷ []
said_grown all i message inside is = take_more all i message inside ∙ ap (λ (m : Message). take i all ++ m ∷ []) (sym is)

pub said_more : (old mid new : Outside) (all : List Message) (i : ℕ) (message : Message) → i < length all → message ≡ slice_index_or all i message → Sends old mid (take i all) None → Sends mid new (message ∷ []) None → Sends old new (take (i + 1) all) None
said_more old mid new all i message inside is one two = rw (said_grown all i message inside is) (sends_more old mid new (take i all) (message ∷ []) None one two)

pub said_failed : (old mid new : Outside) (all : List Message) (i : ℕ) (message : Message) (failure : Failure) → i < length all → message ≡ slice_index_or all i message → Sends old mid (take i all) None → Sends mid new (message ∷ []) (Some failure) → Sends old new all (Some failure)
said_failed old mid new all i message failure inside is one two =
    let whole : (take i all ++ message ∷ []) ++ drop (i + 1) all ≡ all = ap (λ (ms : List Message). ms ++ drop (i + 1) all) (sym (said_grown all i message inside is)) ∙ take-append-drop (i + 1) all in
    subst (λ (ms : List Message). Sends old new ms (Some failure)) whole (sends_cut old new (take i all ++ message ∷ []) (drop (i + 1) all) failure (sends_more old mid new (take i all) (message ∷ []) (Some failure) one two))

pub said_all : (old new : Outside) (all : List Message) (i : ℕ) → length all ≤ i → Sends old new (take i all) None → Sends old new all None
said_all old new all i over sends = subst (λ (ms : List Message). Sends old new ms None) (take_all i all over) sends

-- ---- callbacks

module _ {S D C : Type 0} (answers : S → SaveAsk → SaveAnswer → S → Type 0) (gives : D → List (List ℕ) → D → Type 0) (hears : C → C → Type 0) where
  abbrev FollowsIn : List Entry → Callbacks S D C → Callbacks S D C → Type 0
  FollowsIn entries old new = Follows answers gives hears entries old new

  abbrev DoesIn : Desk S D C → Desk S D C → List Entry → Option Failure → Type 0
  DoesIn old new all failure = Does answers gives hears old new all failure

  abbrev CarriesIn : Desk S D C → Desk S D C → List Entry → Option Failure → Type 0
  CarriesIn old new all failure = CarriesOut answers gives hears old new all failure

  pub follows-append : (xs ys : List Entry) (a b c : Callbacks S D C) → FollowsIn xs a b → FollowsIn ys b c → FollowsIn (xs ++ ys) a c
  follows-append [] ys a b c one two = rw one at two
  follows-append (Hears bytes ∷ xs) ys a b c one two = follows-append xs ys a b c one two
  follows-append (Says message ∷ xs) ys a b c one two = follows-append xs ys a b c one two
  follows-append (AsksSave ask answer ∷ xs) ys a b c one two = (one.0, one.1, follows-append xs ys (record a { save = one.0 }) b c one.2 two)
  follows-append (AsksReasons reasons ∷ xs) ys a b c one two = (one.0, one.1, follows-append xs ys (record a { die = one.0 }) b c one.2 two)
  follows-append (TellsCancelled ∷ xs) ys a b c one two = (one.0, one.1, follows-append xs ys (record a { cancelled = one.0 }) b c one.2 two)
  follows-append (Notes line ∷ xs) ys a b c one two = follows-append xs ys a b c one two

  follows-said : (ms : List Message) (a : Callbacks S D C) → FollowsIn (map Says ms) a a
  follows-said [] a = refl
  follows-said (m ∷ ms) a = follows-said ms a

  pub does_none : (d : Desk S D C) → DoesIn d d [] None
  does_none d = record { done = []; left = []; parts = refl; none_left = λ e. refl; told = sym (adds-none d.told); lines = sym (append-nil d.lines); follows = refl; counts = never_fallen d.faults; cause = tt }

  -- nothing was done, for want of memory
  unfoldable pub does_never : (d : Desk S D C) (all : List Entry) → DoesIn d d all (Some NoMemory)
  does_never d all = record { done = []; left = all; parts = refl; none_left = λ e. absurd cc; told = sym (adds-none d.told); lines = sym (append-nil d.lines); follows = refl; counts = never_fallen d.faults; cause = tt }

  -- all of these, and then some of those
  unfoldable pub does_more : (a b c : Desk S D C) (xs ys : List Entry) (failure : Option Failure) → DoesIn a b xs None → DoesIn b c ys failure → DoesIn a c (xs ++ ys) failure
  does_more a b c xs ys failure one two = record {
    done = xs ++ two.done;
    left = two.left;
    parts = append_assoc xs two.done two.left ∙ ap (λ (es : List Entry). xs ++ es) two.parts;
    none_left = two.none_left;
    told = two.told ∙ (ap (λ t. adds t (effects_in two.done)) (one.told ∙ ap (λ es. adds a.told (effects_in es)) all_done) ∙ (adds-adds a.told (effects_in xs) (effects_in two.done) ∙ ap (adds a.told) (sym (flat_map-append effect_of xs two.done))));
    lines = two.lines ∙ (ap (λ ls. ls ++ lines_in two.done) (one.lines ∙ ap (λ es. a.lines ++ lines_in es) all_done) ∙ (append_assoc a.lines (lines_in xs) (lines_in two.done) ∙ ap (λ ls. a.lines ++ ls) (sym (flat_map-append line_of xs two.done))));
    follows = follows-append xs two.done a.callbacks b.callbacks c.callbacks (rw all_done at one.follows) two.follows;
    counts = fallen_never a.faults b.faults c.faults one.counts two.counts;
    cause = cause_later a.faults b.faults c.faults failure one.counts two.cause;
  }
    where
      all_done : one.done ≡ xs
      all_done = sym (append-nil one.done) ∙ (ap (λ (es : List Entry). one.done ++ es) (sym (one.none_left refl)) ∙ one.parts)

  -- some of these, and none of those
  pub does_cut : (a b : Desk S D C) (xs ys : List Entry) (failure : Failure) → DoesIn a b xs (Some failure) → DoesIn a b (xs ++ ys) (Some failure)
  does_cut a b xs ys failure one = record {
    done = one.done;
    left = one.left ++ ys;
    parts = sym (append_assoc one.done one.left ys) ∙ ap (λ (es : List Entry). es ++ ys) one.parts;
    none_left = λ e. absurd cc;
    told = one.told;
    lines = one.lines;
    follows = one.follows;
    counts = one.counts;
    cause = one.cause;
  }

  -- what is sent, as what is done
  pub sends_does : (old new : Outside) (lines : List (List ℕ)) (callbacks : Callbacks S D C) (messages : List Message) (failure : Option Failure) → Sends old new messages failure → DoesIn (desk old lines callbacks) (desk new lines callbacks) (map Says messages) failure
  sends_does old new lines callbacks messages failure sends = record {
    done = map Says sends.done;
    left = map Says sends.left;
    parts = sym (map-append Says sends.done sends.left) ∙ ap (map Says) sends.parts;
    none_left = λ e. ap (map Says) (sends.none_left e);
    told = sends.told ∙ ap (adds old.told) (sym (effects-said sends.done));
    lines = sym (append-nil lines) ∙ ap (λ ls. lines ++ ls) (sym (lines-said sends.done));
    follows = follows-said sends.done callbacks;
    counts = sends.counts;
    cause = sends.cause;
  }

  -- a callback was called
  pub asks_does : (outside : Outside) (lines : List (List ℕ)) (old new : Callbacks S D C) (entry : Entry) → effect_of entry ≡ [] → line_of entry ≡ [] → FollowsIn (entry ∷ []) old new → DoesIn (desk outside lines old) (desk outside lines new) (entry ∷ []) None
  asks_does outside lines old new entry no_effect no_line follows = record {
    done = entry ∷ [];
    left = [];
    parts = refl;
    none_left = λ e. refl;
    told = sym (adds-none outside.told) ∙ ap (adds outside.told) (sym (append-nil (effect_of entry) ∙ no_effect));
    lines = sym (append-nil lines) ∙ ap (λ ls. lines ++ ls) (sym (append-nil (line_of entry) ∙ no_line));
    follows = follows;
    counts = never_fallen outside.faults;
    cause = tt;
  }

  -- a line was noted
  pub notes_does : (outside : Outside) (old new : List (List ℕ)) (callbacks : Callbacks S D C) (line : List ℕ) → new ≡ old ++ line ∷ [] → DoesIn (desk outside old callbacks) (desk outside new callbacks) (Notes line ∷ []) None
  notes_does outside old new callbacks line noted = record {
    done = Notes line ∷ [];
    left = [];
    parts = refl;
    none_left = λ e. refl;
    told = sym (adds-none outside.told);
    lines = noted;
    follows = refl;
    counts = never_fallen outside.faults;
    cause = tt;
  }

  -- the same entries, told otherwise
  unfoldable pub does_as : (a b : Desk S D C) (xs ys : List Entry) (failure : Option Failure) → xs ≡ ys → DoesIn a b xs failure → DoesIn a b ys failure
  does_as a b xs ys failure same does = record {
    done = does.done;
    left = does.left;
    parts = does.parts ∙ same;
    none_left = does.none_left;
    told = does.told;
    lines = does.lines;
    follows = does.follows;
    counts = does.counts;
    cause = does.cause;
  }

  pub carries_none : (d : Desk S D C) → CarriesIn d d [] None
  carries_none d = record { does = does_none d; unsent = λ e. absurd cc }

  pub carries_never : (d : Desk S D C) (all : List Entry) → CarriesIn d d all (Some NoMemory)
  unfolding does_never
  carries_never d all = record { does = does_never d all; unsent = λ e. absurd cc }

  pub carries_more : (a b c : Desk S D C) (xs ys : List Entry) (failure : Option Failure) → CarriesIn a b xs None → CarriesIn b c ys failure → CarriesIn a c (xs ++ ys) failure
  unfolding does_more
  carries_more a b c xs ys failure one two = record { does = does_more a b c xs ys failure one.does two.does; unsent = two.unsent }

  pub carries_cut : (a b : Desk S D C) (xs ys : List Entry) (failure : Failure) → CarriesIn a b xs (Some failure) → CarriesIn a b (xs ++ ys) (Some failure)
  unfolding does_cut
  carries_cut a b xs ys failure one = record { does = does_cut a b xs ys failure one.does; unsent = λ e. unsent-more one.does.left ys (one.unsent e) }

  pub carries_sent : (old new : Outside) (lines : List (List ℕ)) (callbacks : Callbacks S D C) (messages : List Message) (failure : Option Failure) → Sends old new messages failure → CarriesIn (desk old lines callbacks) (desk new lines callbacks) (map Says messages) failure
  unfolding sends_does
  carries_sent old new lines callbacks messages failure sends = record { does = sends_does old new lines callbacks messages failure sends; unsent = λ e. unsent-said sends.left (sends.some_left e) }

  pub carries_asked : (outside : Outside) (lines : List (List ℕ)) (old new : Callbacks S D C) (entry : Entry) → effect_of entry ≡ [] → line_of entry ≡ [] → FollowsIn (entry ∷ []) old new → CarriesIn (desk outside lines old) (desk outside lines new) (entry ∷ []) None
  carries_asked outside lines old new entry no_effect no_line follows = record { does = asks_does outside lines old new entry no_effect no_line follows; unsent = λ e. absurd cc }

  pub carries_noted : (outside : Outside) (old new : List (List ℕ)) (callbacks : Callbacks S D C) (line : List ℕ) → new ≡ old ++ line ∷ [] → CarriesIn (desk outside old callbacks) (desk outside new callbacks) (Notes line ∷ []) None
  carries_noted outside old new callbacks line noted = record { does = notes_does outside old new callbacks line noted; unsent = λ e. absurd cc }
