-- How a connection is followed when a piece more has come.
use Rattle.std.proofs.Common.{◌≡◌, ℕ, ◌-◌, ◌⊎◌, inl, inr, List, [], ◌∷◌, ◌++◌, length, take, drop, Bool, true, false, Option, Some, None, refl, sym, ap, ◌∙◌, subst, arith, append_assoc, append-nil, length-append}
use Rattle.std.specs.Prelude.{flat_map, MatchOption, ◌==◌, not, if◌then◌else◌, Result, Ok, Err, IfOk, OnOk}
use Rattle.std.specs.List.{concat}
use Rattle.std.proofs.lemmas.Bool.{false≢true}
use Rattle.std.proofs.lemmas.Bool.Decides.{nat_tests}
use Rattle.std.proofs.lemmas.List.{take_at, drop_at}
use Rattle.ice_framing.specs.Frames.{Standing, beginning, fed, cut, frames_of, standing_of, IsOversize}
use Rattle.ice_framing.specs.declared.cutting.WholeFrame.{WholeFrame}
use Rattle.ice_framing.proofs.Cuts.{cut-oversize, oversize-fed}
use Rattle.ice_framing.proofs.Streams.{frames_of-nil, standing_of-nil, standing_of-oversize}
use Rattle.client_quirks.proofs.Joining.{concat-push}
use Rattle.client_quirks.proofs.Grown.{Grown, grown, speech_grown, stays_lost, lost_unchanged, Owes, owes_released, owes_more, owes_unchanged, owes_changed}
use Rattle.frame_speech.specs.Speech.{speech_behind}
use Rattle.frame_speech.specs.Passing.{Passes}
use Rattle.client_quirks.proofs.Unheeded.{passed_changed, passed_speech}
use Rattle.client_quirks.specs.Heeding.{MeansNothing}
use Rattle.client_quirks.specs.Speech.{handed_on, are_changed}
use Rattle.client_quirks.specs.Amending.{FollowsBy, IsOpen, HasEnded, left_open, is_within, Rewrites, Leaves}
use Rattle.frame_speech.specs.declared.speech.Speech.{Speech}
use Rattle.frame_speech.specs.declared.speech.Speech.TheVariants.{Silent, Greeted, Speaks, Lost}

abbrev pub Stands : List ℕ → List (List ℕ) → Speech → Option Standing → Type 0
Stands stream held speech cutter = MatchOption cutter (HasEnded stream held) (IsOpen stream held speech)

-- before the first byte
pub began : (cutter : Standing) (held : List (List ℕ)) → cutter ≡ beginning → held ≡ [] → FollowsBy [] [] held Silent (Some cutter)
began cutter held is none = record {
  bytes = ap concat none ∙ sym (ap (λ (fs : List WholeFrame). handed_on Silent fs ++ (standing_of []).held) frames_of-nil ∙ ap (λ (s : Standing). s.held) standing_of-nil);
  as_came = λ unchanged. none;
  stands = record {
    at = is ∙ sym standing_of-nil;
    understood = sym (ap (speech_behind Silent) frames_of-nil);
    front = [];
    parts = ap concat none ∙ sym (ap (λ (s : Standing). s.held) standing_of-nil);
    prompt = λ nothing. none;
  };
}

no_bytes : (bytes : List ℕ) → length bytes ≡ 0 → bytes ≡ []
no_bytes [] none = refl
no_bytes (b ∷ bytes) none = absurd (omega arith)

empty_by : (bytes : List ℕ) → not (length bytes == 0) ≡ false → bytes ≡ []
empty_by bytes is = no_bytes bytes (grind (arith, nat_tests))

held_then : (stream piece : List ℕ) (frames : List WholeFrame) (at : Standing) → Grown stream piece frames at → (standing_of (stream ++ piece)).held ≡ at.held
held_then stream piece frames at more = ap (λ (s : Standing). s.held) more.stands

open_by : (stream piece : List ℕ) (frames : List WholeFrame) (at : Standing) (next : Speech) (cutter : Standing) (held : List (List ℕ)) (b : Bool) → is_within (Some cutter) ≡ b → Grown stream piece frames at → next ≡ speech_behind (speech_behind Silent (frames_of stream)) frames → cutter ≡ at
    → (b ≡ true → (front : List ℕ) × (concat held ≡ front ++ at.held)) → (b ≡ false → held ≡ []) → IsOpen (stream ++ piece) held next cutter
open_by stream piece frames at next cutter held true within more is ends some none = record {
  at = ends ∙ sym more.stands;
  understood = is ∙ sym (speech_grown stream piece frames at more);
  front = (some refl).0;
  parts = (some refl).1 ∙ ap (λ (bytes : List ℕ). (some refl).0 ++ bytes) (sym (held_then stream piece frames at more));
  prompt = λ nothing.
      let empty : cutter.held ≡ [] = ap (λ (s : Standing). s.held) ends ∙ sym (held_then stream piece frames at more) ∙ nothing in
      absurd (false≢true (sym (ap (λ (bytes : List ℕ). not (length bytes == 0)) empty) ∙ within));
}
open_by stream piece frames at next cutter held false within more is ends some none =
    let empty : at.held ≡ [] = ap (λ (s : Standing). s.held) (sym ends) ∙ empty_by cutter.held within in
    record {
      at = ends ∙ sym more.stands;
      understood = is ∙ sym (speech_grown stream piece frames at more);
      front = [];
      parts = ap concat (none refl) ∙ sym (held_then stream piece frames at more ∙ empty);
      prompt = λ nothing. none refl;
    }

by_rest : (stream piece : List ℕ) (frames : List WholeFrame) (at : Standing) (next : Speech) (rest : Option Standing) (held : List (List ℕ)) → Grown stream piece frames at → next ≡ speech_behind (speech_behind Silent (frames_of stream)) frames → MatchOption rest (IsOversize at) (λ (c : Standing). c ≡ at)
    → (is_within rest ≡ true → (front : List ℕ) × (concat held ≡ front ++ at.held)) → (is_within rest ≡ false → held ≡ []) → Stands (stream ++ piece) held next rest
by_rest stream piece frames at next None held more is ends some none = record { cause = inl (subst (λ (s : Standing). IsOversize s) (sym more.stands) ends); none = none refl }
by_rest stream piece frames at next (Some cutter) held more is ends some none = open_by stream piece frames at next cutter held (is_within (Some cutter)) refl more is ends some none

pub stands_on : (stream piece : List ℕ) (frames : List WholeFrame) (at : Standing) (next : Speech) (rest : Option Standing) (held : List (List ℕ)) → Grown stream piece frames at → next ≡ speech_behind (speech_behind Silent (frames_of stream)) frames → MatchOption rest (IsOversize at) (λ (c : Standing). c ≡ at)
    → (is_within (left_open next rest) ≡ true → (front : List ℕ) × (concat held ≡ front ++ at.held)) → (is_within (left_open next rest) ≡ false → held ≡ []) → Stands (stream ++ piece) held next (left_open next rest)
stands_on stream piece frames at Silent rest held more is ends some none = by_rest stream piece frames at Silent rest held more is ends some none
stands_on stream piece frames at Greeted rest held more is ends some none = by_rest stream piece frames at Greeted rest held more is ends some none
stands_on stream piece frames at (Speaks opcode) rest held more is ends some none = by_rest stream piece frames at (Speaks opcode) rest held more is ends some none
stands_on stream piece frames at Lost rest held more is ends some none = record { cause = inr (speech_grown stream piece frames at more ∙ sym is); none = none refl }

followed : (came handed held : List (List ℕ)) (piece : List ℕ) (speech : Speech) (cutter : Option Standing) → Owes (came ++ piece ∷ []) handed held → Stands (concat came ++ piece) held speech cutter → FollowsBy (came ++ piece ∷ []) handed held speech cutter
followed came handed held piece speech cutter owes stands = record {
  bytes = owes.bytes;
  as_came = owes.as_came;
  stands = subst (λ (stream : List ℕ). Stands stream held speech cutter) (sym (concat-push came piece)) stands;
}

-- ---- a stream that isn't followed any more

passed_over : (came handed held : List (List ℕ)) (piece : List ℕ) (speech : Speech) → FollowsBy came handed held speech None → are_changed (speech_behind Silent (frames_of (concat came))) (cut (fed (standing_of (concat came)) piece)).frames ≡ false → HasEnded (concat came ++ piece) [] → FollowsBy (came ++ piece ∷ []) (handed ++ piece ∷ []) held speech None
passed_over came handed held piece speech follows none ended =
    let more = grown (concat came) piece (standing_of (concat came)) refl in
    let owes : Owes came handed held = record { bytes = follows.bytes; as_came = follows.as_came } in
    let bare : Owes came handed [] = subst (λ (h : List (List ℕ)). Owes came handed h) follows.stands.none owes in
    let now : Owes (came ++ piece ∷ []) (handed ++ piece ∷ []) [] = owes_released (came ++ piece ∷ []) handed (piece ∷ []) (owes_unchanged came handed [] piece (cut (fed (standing_of (concat came)) piece)).frames (cut (fed (standing_of (concat came)) piece)).standing bare more none) in
    subst (λ (h : List (List ℕ)). FollowsBy (came ++ piece ∷ []) (handed ++ piece ∷ []) h speech None) (sym follows.stands.none) (followed came (handed ++ piece ∷ []) [] piece speech None now ended)

passed_by : (came handed held : List (List ℕ)) (piece : List ℕ) (speech : Speech) → FollowsBy came handed held speech None → IsOversize (standing_of (concat came)) ⊎ (speech_behind Silent (frames_of (concat came)) ≡ Lost) → FollowsBy (came ++ piece ∷ []) (handed ++ piece ∷ []) held speech None
passed_by came handed held piece speech follows (inl much) =
    let none : (cut (fed (standing_of (concat came)) piece)).frames ≡ [] = ap (λ c. c.frames) (cut-oversize (fed (standing_of (concat came)) piece) (oversize-fed (standing_of (concat came)) piece much)) in
    passed_over came handed held piece speech follows (ap (are_changed (speech_behind Silent (frames_of (concat came)))) none)
    (record { cause = inl (subst (λ (s : Standing). IsOversize s) (sym (standing_of-oversize (concat came) piece much)) (oversize-fed (standing_of (concat came)) piece much)); none = refl })
passed_by came handed held piece speech follows (inr lost) =
    let more = grown (concat came) piece (standing_of (concat came)) refl in
    let fs = (cut (fed (standing_of (concat came)) piece)).frames in
    passed_over came handed held piece speech follows (ap (λ (s : Speech). are_changed s fs) lost ∙ lost_unchanged fs)
    (record { cause = inr (speech_grown (concat came) piece fs (cut (fed (standing_of (concat came)) piece)).standing more ∙ ap (λ (s : Speech). speech_behind s fs) lost ∙ stays_lost fs); none = refl })

pub passed : (came handed held : List (List ℕ)) (piece : List ℕ) (speech : Speech) → FollowsBy came handed held speech None → FollowsBy (came ++ piece ∷ []) (handed ++ piece ∷ []) held speech None
passed came handed held piece speech follows = passed_by came handed held piece speech follows follows.stands.cause

-- ---- a piece that is passed over

pub let_by : (came handed held : List (List ℕ)) (piece : List ℕ) (speech : Speech) (cutter : Standing) → FollowsBy came handed held speech (Some cutter) → Passes (MeansNothing speech) cutter piece → FollowsBy (came ++ piece ∷ []) (handed ++ piece ∷ []) held speech (Some cutter)
let_by came handed held piece speech cutter follows passes =
    let at = (cut (fed cutter piece)).standing in
    let frames = (cut (fed cutter piece)).frames in
    let more = grown (concat came) piece cutter follows.stands.at in
    let nothing_held : held ≡ [] = follows.stands.prompt (ap (λ (s : Standing). s.held) (sym follows.stands.at) ∙ passes.none_held) in
    let none : are_changed (speech_behind Silent (frames_of (concat came))) frames ≡ false = ap (λ (s : Speech). are_changed s frames) (sym follows.stands.understood) ∙ passed_changed speech frames passes.frames in
    let owes : Owes came handed held = record { bytes = follows.bytes; as_came = follows.as_came } in
    let bare : Owes came handed [] = subst (λ (h : List (List ℕ)). Owes came handed h) nothing_held owes in
    let now : Owes (came ++ piece ∷ []) (handed ++ piece ∷ []) [] = owes_released (came ++ piece ∷ []) handed (piece ∷ []) (owes_unchanged came handed [] piece frames at bare more none) in
    let empty : (standing_of (concat came ++ piece)).held ≡ [] = ap (λ (s : Standing). s.held) (more.stands ∙ passes.stands) ∙ passes.none_held in
    let stands : IsOpen (concat came ++ piece) [] speech cutter = record {
      at = sym passes.stands ∙ sym more.stands;
      understood = sym (speech_grown (concat came) piece frames at more ∙ ap (λ (s : Speech). speech_behind s frames) (sym follows.stands.understood) ∙ passed_speech speech frames passes.frames);
      front = [];
      parts = sym empty;
      prompt = λ nothing. refl;
    } in
    subst (λ (h : List (List ℕ)). FollowsBy (came ++ piece ∷ []) (handed ++ piece ∷ []) h speech (Some cutter)) (sym nothing_held) (followed came (handed ++ piece ∷ []) [] piece speech (Some cutter) now stands)

-- ---- a stream that is

-- what is known once a piece was cut
pub record Cuts (came handed held : List (List ℕ)) (speech next : Speech) (cutter : Standing) (rest : Option Standing) (piece : List ℕ) (frames : List WholeFrame) : Type 0 where
  pub follows : FollowsBy came handed held speech (Some cutter)
  pub frames_are : frames ≡ (cut (fed cutter piece)).frames
  pub goes : MatchOption rest (IsOversize (cut (fed cutter piece)).standing) (λ (c : Standing). c ≡ (cut (fed cutter piece)).standing)
  pub understood : next ≡ speech_behind speech frames

more_of : (came handed held : List (List ℕ)) (speech next : Speech) (cutter : Standing) (rest : Option Standing) (piece : List ℕ) (frames : List WholeFrame) → Cuts came handed held speech next cutter rest piece frames → Grown (concat came) piece frames (cut (fed cutter piece)).standing
more_of came handed held speech next cutter rest piece frames cuts =
    subst (λ (fs : List WholeFrame). Grown (concat came) piece fs (cut (fed cutter piece)).standing) (sym cuts.frames_are) (grown (concat came) piece cutter cuts.follows.stands.at)

next_of : (came handed held : List (List ℕ)) (speech next : Speech) (cutter : Standing) (rest : Option Standing) (piece : List ℕ) (frames : List WholeFrame) → Cuts came handed held speech next cutter rest piece frames → next ≡ speech_behind (speech_behind Silent (frames_of (concat came))) frames
next_of came handed held speech next cutter rest piece frames cuts = cuts.understood ∙ ap (λ (s : Speech). speech_behind s frames) cuts.follows.stands.understood

kept_by : (came handed held list after : List (List ℕ)) (speech next : Speech) (cutter : Standing) (rest : Option Standing) (piece : List ℕ) (frames : List WholeFrame) (b : Bool) → is_within (left_open next rest) ≡ b → Cuts came handed held speech next cutter rest piece frames → are_changed speech frames ≡ false
    → list ≡ (if b then [] else held ++ piece ∷ []) → after ≡ (if b then held ++ piece ∷ [] else []) → FollowsBy (came ++ piece ∷ []) (handed ++ list) after next (left_open next rest)
kept_by came handed held list after speech next cutter rest piece frames true within cuts none gives holds =
    let at = (cut (fed cutter piece)).standing in
    let more = more_of came handed held speech next cutter rest piece frames cuts in
    let owes : Owes came handed held = record { bytes = cuts.follows.bytes; as_came = cuts.follows.as_came } in
    let unchanged : are_changed (speech_behind Silent (frames_of (concat came))) frames ≡ false = ap (λ (s : Speech). are_changed s frames) (sym cuts.follows.stands.understood) ∙ none in
    let now = owes_more (came ++ piece ∷ []) handed (held ++ piece ∷ []) (owes_unchanged came handed held piece frames at owes more unchanged) in
    let front = cuts.follows.stands.front ++ flat_map (λ (frame : WholeFrame). frame.bytes) frames in
    let parts : concat (held ++ piece ∷ []) ≡ front ++ at.held =
    concat-push held piece ∙ ap (λ (bytes : List ℕ). bytes ++ piece) cuts.follows.stands.parts
    ∙ append_assoc cuts.follows.stands.front (standing_of (concat came)).held piece
    ∙ ap (λ (bytes : List ℕ). cuts.follows.stands.front ++ bytes) (sym more.joined_is)
    ∙ sym (append_assoc cuts.follows.stands.front (flat_map (λ (frame : WholeFrame). frame.bytes) frames) at.held) in
    let stands = stands_on (concat came) piece frames at next rest (held ++ piece ∷ []) more (next_of came handed held speech next cutter rest piece frames cuts) cuts.goes (λ yes_. (front, parts)) (λ no_. absurd (false≢true (sym no_ ∙ within))) in
    subst (λ (l : List (List ℕ)). FollowsBy (came ++ piece ∷ []) (handed ++ l) after next (left_open next rest)) (sym gives)
    (subst (λ (h : List (List ℕ)). FollowsBy (came ++ piece ∷ []) (handed ++ []) h next (left_open next rest)) (sym holds) (followed came (handed ++ []) (held ++ piece ∷ []) piece next (left_open next rest) now stands))
kept_by came handed held list after speech next cutter rest piece frames false within cuts none gives holds =
    let at = (cut (fed cutter piece)).standing in
    let more = more_of came handed held speech next cutter rest piece frames cuts in
    let owes : Owes came handed held = record { bytes = cuts.follows.bytes; as_came = cuts.follows.as_came } in
    let unchanged : are_changed (speech_behind Silent (frames_of (concat came))) frames ≡ false = ap (λ (s : Speech). are_changed s frames) (sym cuts.follows.stands.understood) ∙ none in
    let now = owes_released (came ++ piece ∷ []) handed (held ++ piece ∷ []) (owes_unchanged came handed held piece frames at owes more unchanged) in
    let stands = stands_on (concat came) piece frames at next rest [] more (next_of came handed held speech next cutter rest piece frames cuts) cuts.goes (λ yes_. absurd (false≢true (sym within ∙ yes_))) (λ no_. refl) in
    subst (λ (l : List (List ℕ)). FollowsBy (came ++ piece ∷ []) (handed ++ l) after next (left_open next rest)) (sym gives)
    (subst (λ (h : List (List ℕ)). FollowsBy (came ++ piece ∷ []) (handed ++ (held ++ piece ∷ [])) h next (left_open next rest)) (sym holds) (followed came (handed ++ (held ++ piece ∷ [])) [] piece next (left_open next rest) now stands))

pub kept : (came handed held list after : List (List ℕ)) (speech next : Speech) (cutter : Standing) (rest : Option Standing) (piece : List ℕ) (frames : List WholeFrame) → Cuts came handed held speech next cutter rest piece frames → are_changed speech frames ≡ false
    → list ≡ (if is_within (left_open next rest) then [] else held ++ piece ∷ []) → after ≡ (if is_within (left_open next rest) then held ++ piece ∷ [] else []) → FollowsBy (came ++ piece ∷ []) (handed ++ list) after next (left_open next rest)
kept came handed held list after speech next cutter rest piece frames cuts none gives holds = kept_by came handed held list after speech next cutter rest piece frames (is_within (left_open next rest)) refl cuts none gives holds

-- ---- frames that are spelled anew

-- the front, and what is left, are what they are meant to be
pub record Halves (front at piece middle rest : List ℕ) (before : ℕ) (back : List ℕ) : Type 0 where
  pub head : take (length back - before) (back ++ piece) ≡ front
  pub tail : drop (length middle) (drop (length back - before) (back ++ piece)) ≡ rest

halved : (front at piece middle rest back : List ℕ) (before : ℕ) → back ≡ front ++ at → before ≡ length at → middle ++ rest ≡ at ++ piece → Halves front at piece middle rest before back
halved front at piece middle rest back before parts count joins =
    let is : length front ≡ length back - before = omega (arith, ap length parts ∙ length-append front at, count) in
    let all : back ++ piece ≡ front ++ (at ++ piece) = ap (λ (bytes : List ℕ). bytes ++ piece) parts ∙ append_assoc front at piece in
    record {
      head = ap (take (length back - before)) all ∙ take_at front (at ++ piece) (length back - before) is;
      tail =
          ap (drop (length middle)) (ap (drop (length back - before)) all ∙ drop_at front (at ++ piece) (length back - before) is ∙ sym joins)
          ∙ drop_at middle rest (length middle) refl;
    }

rewritten_by : (came handed held list after : List (List ℕ)) (speech next : Speech) (cutter : Standing) (rest : Option Standing) (piece : List ℕ) (frames : List WholeFrame) (anew : List ℕ) (before : ℕ) (b : Bool) → is_within (left_open next rest) ≡ b → Cuts came handed held speech next cutter rest piece frames → are_changed speech frames ≡ true
    → anew ≡ handed_on speech frames → before ≡ length cutter.held → Rewrites before (concat held) piece (length (flat_map (λ (frame : WholeFrame). frame.bytes) frames)) anew b list after
    → FollowsBy (came ++ piece ∷ []) (handed ++ list) after next (left_open next rest)
rewritten_by came handed held list after speech next cutter rest piece frames anew before b within cuts some is count rewrites =
    let at = (cut (fed cutter piece)).standing in
    let more = more_of came handed held speech next cutter rest piece frames cuts in
    let owes : Owes came handed held = record { bytes = cuts.follows.bytes; as_came = cuts.follows.as_came } in
    let changed : are_changed (speech_behind Silent (frames_of (concat came))) frames ≡ true = ap (λ (s : Speech). are_changed s frames) (sym cuts.follows.stands.understood) ∙ some in
    let anew_is : anew ≡ handed_on (speech_behind Silent (frames_of (concat came))) frames = is ∙ ap (λ (s : Speech). handed_on s frames) cuts.follows.stands.understood in
    let front = cuts.follows.stands.front in
    let halves = halved front (standing_of (concat came)).held piece (flat_map (λ (frame : WholeFrame). frame.bytes) frames) at.held (concat held) before cuts.follows.stands.parts (count ∙ ap (λ (s : Standing). length s.held) cuts.follows.stands.at) more.joined_is in
    let to = next_of came handed held speech next cutter rest piece frames cuts in
    go front halves.head halves.tail cuts.follows.stands.parts owes more changed anew_is to b within rewrites
  where
    at_ : Standing
    at_ = (cut (fed cutter piece)).standing

    handed_part : List ℕ
    handed_part = take (length (concat held) - before) (concat held ++ piece)

    left_part : List ℕ
    left_part = drop (length (flat_map (λ (frame : WholeFrame). frame.bytes) frames)) (drop (length (concat held) - before) (concat held ++ piece))

    go : (front : List ℕ) → handed_part ≡ front → left_part ≡ at_.held → concat held ≡ front ++ (standing_of (concat came)).held → Owes came handed held → Grown (concat came) piece frames at_ → are_changed (speech_behind Silent (frames_of (concat came))) frames ≡ true → anew ≡ handed_on (speech_behind Silent (frames_of (concat came))) frames → next ≡ speech_behind (speech_behind Silent (frames_of (concat came))) frames
        → (b : Bool) → is_within (left_open next rest) ≡ b → Leaves b (handed_part ++ anew) left_part list after → FollowsBy (came ++ piece ∷ []) (handed ++ list) after next (left_open next rest)
    go front head tail parts owes more changed anew_is to true within leaves =
        let new : concat list ++ concat after ≡ (front ++ anew) ++ at_.held =
        ap (λ (bytes : List ℕ). bytes ++ concat after) leaves.0 ∙ ap (λ (bytes : List ℕ). (bytes ++ anew) ++ concat after) head
        ∙ ap (λ (bytes : List ℕ). (front ++ anew) ++ bytes) (leaves.1 ∙ tail) in
        let now = owes_changed came handed held list after piece front anew frames at_ owes more changed parts anew_is new in
        let stands = stands_on (concat came) piece frames at_ next rest after more to cuts.goes (λ yes_. ([], leaves.1 ∙ tail)) (λ no_. absurd (false≢true (sym no_ ∙ within))) in
        followed came (handed ++ list) after piece next (left_open next rest) now stands
    go front head tail parts owes more changed anew_is to false within leaves =
        let new : concat list ++ concat after ≡ (front ++ anew) ++ at_.held =
        ap (λ (pieces : List (List ℕ)). concat list ++ concat pieces) leaves.1 ∙ append-nil (concat list) ∙ leaves.0
        ∙ ap (λ (bytes : List ℕ). (bytes ++ anew) ++ left_part) head ∙ ap (λ (bytes : List ℕ). (front ++ anew) ++ bytes) tail in
        let now = owes_changed came handed held list after piece front anew frames at_ owes more changed parts anew_is new in
        let stands = stands_on (concat came) piece frames at_ next rest after more to cuts.goes (λ yes_. absurd (false≢true (sym within ∙ yes_))) (λ no_. leaves.1) in
        followed came (handed ++ list) after piece next (left_open next rest) now stands

-- ---- as the calls say it

-- where the stream stands then, and how it is kept
pub record Left (next : Speech) (rest open_ : Option Standing) (speech : Speech) (cutter : Option Standing) : Type 0 where
  pub opens : open_ ≡ left_open next rest
  pub cutter_is : cutter ≡ open_
  pub speech_is : speech ≡ next

settled : (came handed after : List (List ℕ)) (next speech : Speech) (rest open_ cutter : Option Standing) → Left next rest open_ speech cutter → FollowsBy came handed after next (left_open next rest) → FollowsBy came handed after speech cutter
settled came handed after next speech rest open_ cutter left follows =
    subst (λ (s : Speech). FollowsBy came handed after s cutter) (sym left.speech_is)
    (subst (λ (c : Option Standing). FollowsBy came handed after next c) (sym (left.cutter_is ∙ left.opens)) follows)

pub take_kept : (came handed held list after : List (List ℕ)) (speech next new : Speech) (cutter : Standing) (rest open_ now : Option Standing) (piece : List ℕ) (frames : List WholeFrame) → Left next rest open_ new now → Cuts came handed held speech next cutter rest piece frames → are_changed speech frames ≡ false
    → list ≡ (if is_within open_ then [] else held ++ piece ∷ []) → after ≡ (if is_within open_ then held ++ piece ∷ [] else []) → FollowsBy (came ++ piece ∷ []) (handed ++ list) after new now
take_kept came handed held list after speech next new cutter rest open_ now piece frames left cuts none gives holds =
    settled (came ++ piece ∷ []) (handed ++ list) after next new rest open_ now left
    (kept came handed held list after speech next cutter rest piece frames cuts none
    (gives ∙ ap (λ (o : Option Standing). if is_within o then [] else held ++ piece ∷ []) left.opens)
    (holds ∙ ap (λ (o : Option Standing). if is_within o then held ++ piece ∷ [] else []) left.opens))

pub take_rewritten : (came handed held list after : List (List ℕ)) (speech next new : Speech) (cutter : Standing) (rest open_ now : Option Standing) (piece : List ℕ) (frames : List WholeFrame) (anew : List ℕ) (before : ℕ) → Left next rest open_ new now → Cuts came handed held speech next cutter rest piece frames → are_changed speech frames ≡ true
    → anew ≡ handed_on speech frames → before ≡ length cutter.held → Rewrites before (concat held) piece (length (flat_map (λ (frame : WholeFrame). frame.bytes) frames)) anew (is_within open_) list after
    → FollowsBy (came ++ piece ∷ []) (handed ++ list) after new now
take_rewritten came handed held list after speech next new cutter rest open_ now piece frames anew before left cuts some is count rewrites =
    settled (came ++ piece ∷ []) (handed ++ list) after next new rest open_ now left
    (rewritten_by came handed held list after speech next cutter rest piece frames anew before (is_within (left_open next rest)) refl cuts some is count
    (subst (λ (o : Option Standing). Rewrites before (concat held) piece (length (flat_map (λ (frame : WholeFrame). frame.bytes) frames)) anew (is_within o) list after) left.opens rewrites))

-- what holds of an answer
pub with_answer : {A E : Type 0} (result : Result A E) (P Q : A → Type 0) → IfOk result P → ((x : A) → P x → Q x) → IfOk result Q
with_answer (Ok x) P Q holds give = give x holds
with_answer (Err e) P Q holds give = holds

pub with_both : {A E : Type 0} (result : Result A E) (P Q : A → Type 0) (R : Type 0) → IfOk result P → OnOk result R → ((x : A) → P x → R → Q x) → IfOk result Q
with_both (Ok x) P Q R holds also give = give x holds also
with_both (Err e) P Q R holds also give = holds
