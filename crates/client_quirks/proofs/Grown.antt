-- What a piece more does to what is handed on of a stream.
use Rattle.std.proofs.Common.{◌≡◌, ℕ, List, [], ◌∷◌, ◌++◌, Bool, true, false, ◌||◌, refl, sym, ap, ◌∙◌, subst, append_assoc, append-nil}
use Rattle.std.specs.Prelude.{flat_map}
use Rattle.std.specs.List.{concat}
use Rattle.std.proofs.Math.Bool.{or_assoc}
use Rattle.std.proofs.lemmas.Bool.{false≢true}
use Rattle.std.proofs.lemmas.List.{append_cancel_right}
use Rattle.std.proofs.lemmas.List.Folds.{concat-append}
use Rattle.ice_framing.specs.Frames.{Standing, fed, cut, frames_of, standing_of}
use Rattle.ice_framing.specs.declared.cutting.WholeFrame.{WholeFrame}
use Rattle.ice_framing.proofs.Shapes.{joined}
use Rattle.ice_framing.proofs.Streams.{frames_of-append, standing_of-append}
use Rattle.client_quirks.proofs.Joining.{concat-push}
use Rattle.frame_speech.proofs.Speeches.{speech_behind-append}
use Rattle.frame_speech.specs.Speech.{is_whole, reading, after, speech_behind}
use Rattle.client_quirks.specs.Speech.{is_changed, spelled_anew, handed_on, are_changed, amended_stream}
use Rattle.frame_speech.specs.declared.speech.Speech.{Speech}
use Rattle.frame_speech.specs.declared.speech.Speech.TheVariants.{Silent, Lost}
use Rattle.frame_speech.specs.declared.reading.Reading.{Reading}
use Rattle.frame_speech.specs.declared.reading.Reading.TheVariants.{Nothing, Greets, Opens, Sets, Unread}

-- ---- frames behind frames

pub handed_on-append : (s : Speech) (xs ys : List WholeFrame) → handed_on s (xs ++ ys) ≡ handed_on s xs ++ handed_on (speech_behind s xs) ys
handed_on-append s [] ys = refl
handed_on-append s (f ∷ xs) ys =
    ap (λ (bytes : List ℕ). spelled_anew f (reading s f) ++ bytes) (handed_on-append (after s (reading s f)) xs ys)
    ∙ sym (append_assoc (spelled_anew f (reading s f)) (handed_on (after s (reading s f)) xs) (handed_on (speech_behind (after s (reading s f)) xs) ys))

pub are_changed-append : (s : Speech) (xs ys : List WholeFrame) → are_changed s (xs ++ ys) ≡ (are_changed s xs || are_changed (speech_behind s xs) ys)
are_changed-append s [] ys = refl
are_changed-append s (f ∷ xs) ys =
    ap (λ (b : Bool). is_changed f (reading s f) || b) (are_changed-append (after s (reading s f)) xs ys)
    ∙ sym (or_assoc (is_changed f (reading s f)) (are_changed (after s (reading s f)) xs) (are_changed (speech_behind (after s (reading s f)) xs) ys))

pub neither : (a b : Bool) → (a || b) ≡ false → (a ≡ false) × (b ≡ false)
neither true b is = absurd (false≢true (sym is))
neither false b is = (refl, is)

-- ---- a frame that isn't changed

as_it_is : (f : WholeFrame) (r : Reading) → is_changed f r ≡ false → spelled_anew f r ≡ f.bytes
as_it_is f (Sets properties) is = rw is refl
as_it_is f Nothing is = refl
as_it_is f Greets is = refl
as_it_is f (Opens opcode) is = refl
as_it_is f Unread is = refl

pub as_they_are : (s : Speech) (fs : List WholeFrame) → are_changed s fs ≡ false → handed_on s fs ≡ flat_map (λ (frame : WholeFrame). frame.bytes) fs
as_they_are s [] is = refl
as_they_are s (f ∷ fs) is =
    let both = neither (is_changed f (reading s f)) (are_changed (after s (reading s f)) fs) is in
    ap (λ (bytes : List ℕ). bytes ++ handed_on (after s (reading s f)) fs) (as_it_is f (reading s f) both.0)
    ∙ ap (λ (bytes : List ℕ). f.bytes ++ bytes) (as_they_are (after s (reading s f)) fs both.1)

-- ---- a stream that is lost

lost_by : (f : WholeFrame) (b : Bool) → is_whole f ≡ b → (after Lost (reading Lost f) ≡ Lost) × (is_changed f (reading Lost f) ≡ false)
lost_by f true is = rw is (refl, refl)
lost_by f false is = rw is (refl, refl)

pub stays_lost : (fs : List WholeFrame) → speech_behind Lost fs ≡ Lost
stays_lost [] = refl
stays_lost (f ∷ fs) = ap (λ (s : Speech). speech_behind s fs) (lost_by f (is_whole f) refl).0 ∙ stays_lost fs

pub lost_unchanged : (fs : List WholeFrame) → are_changed Lost fs ≡ false
lost_unchanged [] = refl
lost_unchanged (f ∷ fs) =
    ap (λ (b : Bool). b || are_changed (after Lost (reading Lost f)) fs) (lost_by f (is_whole f) refl).1
    ∙ ap (λ (s : Speech). are_changed s fs) (lost_by f (is_whole f) refl).0 ∙ lost_unchanged fs

-- ---- a piece more

pub record Grown (stream piece : List ℕ) (frames : List WholeFrame) (at : Standing) : Type 0 where
  pub frames_are : frames_of (stream ++ piece) ≡ frames_of stream ++ frames
  pub stands : standing_of (stream ++ piece) ≡ at
  pub joined_is : flat_map (λ (frame : WholeFrame). frame.bytes) frames ++ at.held ≡ (standing_of stream).held ++ piece

pub grown : (stream piece : List ℕ) (from : Standing) → from ≡ standing_of stream → Grown stream piece (cut (fed from piece)).frames (cut (fed from piece)).standing
grown stream piece from is = record {
  frames_are = frames_of-append stream piece ∙ ap (λ (s : Standing). frames_of stream ++ (cut (fed s piece)).frames) (sym is);
  stands = standing_of-append stream piece ∙ ap (λ (s : Standing). (cut (fed s piece)).standing) (sym is);
  joined_is = joined (fed from piece) ∙ ap (λ (s : Standing). s.held ++ piece) is;
}

pub speech_grown : (stream piece : List ℕ) (frames : List WholeFrame) (at : Standing) → Grown stream piece frames at → speech_behind Silent (frames_of (stream ++ piece)) ≡ speech_behind (speech_behind Silent (frames_of stream)) frames
speech_grown stream piece frames at more = ap (speech_behind Silent) more.frames_are ∙ speech_behind-append Silent (frames_of stream) frames

pub changed_grown : (stream piece : List ℕ) (frames : List WholeFrame) (at : Standing) → Grown stream piece frames at
    → are_changed Silent (frames_of (stream ++ piece)) ≡ (are_changed Silent (frames_of stream) || are_changed (speech_behind Silent (frames_of stream)) frames)
changed_grown stream piece frames at more = ap (are_changed Silent) more.frames_are ∙ are_changed-append Silent (frames_of stream) frames

-- the stream as it is meant, with what is handed on of the new frames
pub amended_grown : (stream piece : List ℕ) (frames : List WholeFrame) (at : Standing) → Grown stream piece frames at
    → amended_stream (stream ++ piece) ≡ handed_on Silent (frames_of stream) ++ (handed_on (speech_behind Silent (frames_of stream)) frames ++ at.held)
amended_grown stream piece frames at more =
    ap (λ (fs : List WholeFrame). handed_on Silent fs ++ (standing_of (stream ++ piece)).held) more.frames_are
    ∙ ap (λ (s : Standing). handed_on Silent (frames_of stream ++ frames) ++ s.held) more.stands
    ∙ ap (λ (bytes : List ℕ). bytes ++ at.held) (handed_on-append Silent (frames_of stream) frames)
    ∙ append_assoc (handed_on Silent (frames_of stream)) (handed_on (speech_behind Silent (frames_of stream)) frames) at.held

-- where no new frame is changed, the piece comes behind it
pub unchanged_grown : (stream piece : List ℕ) (frames : List WholeFrame) (at : Standing) → Grown stream piece frames at → are_changed (speech_behind Silent (frames_of stream)) frames ≡ false
    → amended_stream (stream ++ piece) ≡ amended_stream stream ++ piece
unchanged_grown stream piece frames at more none =
    amended_grown stream piece frames at more
    ∙ ap (λ (bytes : List ℕ). handed_on Silent (frames_of stream) ++ (bytes ++ at.held)) (as_they_are (speech_behind Silent (frames_of stream)) frames none)
    ∙ ap (λ (bytes : List ℕ). handed_on Silent (frames_of stream) ++ bytes) more.joined_is
    ∙ sym (append_assoc (handed_on Silent (frames_of stream)) (standing_of stream).held piece)

-- ---- what is owed

pub record Owes (came handed held : List (List ℕ)) : Type 0 where
  pub bytes : concat handed ++ concat held ≡ amended_stream (concat came)
  pub as_came : are_changed Silent (frames_of (concat came)) ≡ false → handed ++ held ≡ came

pub owes_released : (came handed held : List (List ℕ)) → Owes came handed held → Owes came (handed ++ held) []
owes_released came handed held owes = record {
  bytes = append-nil (concat (handed ++ held)) ∙ concat-append handed held ∙ owes.bytes;
  as_came = λ none. append-nil (handed ++ held) ∙ owes.as_came none;
}

pub owes_more : (came handed held : List (List ℕ)) → Owes came handed held → Owes came (handed ++ []) held
owes_more came handed held owes = subst (λ (all : List (List ℕ)). Owes came all held) (sym (append-nil handed)) owes

-- a piece more is owed
pub owes_unchanged : (came handed held : List (List ℕ)) (piece : List ℕ) (frames : List WholeFrame) (at : Standing) → Owes came handed held → Grown (concat came) piece frames at → are_changed (speech_behind Silent (frames_of (concat came))) frames ≡ false
    → Owes (came ++ piece ∷ []) handed (held ++ piece ∷ [])
owes_unchanged came handed held piece frames at owes more none =
    let stream = concat-push came piece in
    record {
      bytes =
          ap (λ (bytes : List ℕ). concat handed ++ bytes) (concat-push held piece) ∙ sym (append_assoc (concat handed) (concat held) piece)
          ∙ ap (λ (bytes : List ℕ). bytes ++ piece) owes.bytes ∙ sym (unchanged_grown (concat came) piece frames at more none) ∙ ap amended_stream (sym stream);
      as_came = λ unchanged.
          let before = neither (are_changed Silent (frames_of (concat came))) (are_changed (speech_behind Silent (frames_of (concat came))) frames) (sym (changed_grown (concat came) piece frames at more) ∙ ap (λ (s : List ℕ). are_changed Silent (frames_of s)) (sym stream) ∙ unchanged) in
          sym (append_assoc handed held (piece ∷ [])) ∙ ap (λ (all : List (List ℕ)). all ++ piece ∷ []) (owes.as_came before.0);
    }

-- the new frames are handed on as they are meant
pub owes_changed : (came handed held list after : List (List ℕ)) (piece front anew : List ℕ) (frames : List WholeFrame) (at : Standing) → Owes came handed held → Grown (concat came) piece frames at → are_changed (speech_behind Silent (frames_of (concat came))) frames ≡ true
    → concat held ≡ front ++ (standing_of (concat came)).held → anew ≡ handed_on (speech_behind Silent (frames_of (concat came))) frames → concat list ++ concat after ≡ (front ++ anew) ++ at.held
    → Owes (came ++ piece ∷ []) (handed ++ list) after
owes_changed came handed held list after piece front anew frames at owes more some parts is new =
    let stream = concat-push came piece in
    let first : concat handed ++ front ≡ handed_on Silent (frames_of (concat came)) =
    append_cancel_right (concat handed ++ front) (handed_on Silent (frames_of (concat came))) (standing_of (concat came)).held
    (append_assoc (concat handed) front (standing_of (concat came)).held ∙ ap (λ (bytes : List ℕ). concat handed ++ bytes) (sym parts) ∙ owes.bytes) in
    record {
      bytes =
          ap (λ (bytes : List ℕ). bytes ++ concat after) (concat-append handed list) ∙ append_assoc (concat handed) (concat list) (concat after)
          ∙ ap (λ (bytes : List ℕ). concat handed ++ bytes) (new ∙ append_assoc front anew at.held)
          ∙ sym (append_assoc (concat handed) front (anew ++ at.held))
          ∙ ap (λ (bytes : List ℕ). bytes ++ (anew ++ at.held)) first
          ∙ ap (λ (bytes : List ℕ). handed_on Silent (frames_of (concat came)) ++ (bytes ++ at.held)) is
          ∙ sym (amended_grown (concat came) piece frames at more) ∙ ap amended_stream (sym stream);
      as_came = λ unchanged.
          let before = neither (are_changed Silent (frames_of (concat came))) (are_changed (speech_behind Silent (frames_of (concat came))) frames) (sym (changed_grown (concat came) piece frames at more) ∙ ap (λ (s : List ℕ). are_changed Silent (frames_of s)) (sym stream) ∙ unchanged) in
          absurd (false≢true (sym before.1 ∙ some));
    }
