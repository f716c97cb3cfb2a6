-- The line of a client, from its parts.
use Rattle.std.proofs.Common.{◌≡◌, ℕ, ◌-◌, List, ◌++◌, Bool, Option, ap, ◌∙◌, append_assoc}
use Rattle.std.specs.Prelude.{Result, Ok, Err, OnOk}
use Rattle.session_watch.specs.Story.{Passage}
use Rattle.session_watch.specs.Knowing.{stage_of, is_logout, silent_since, asked_of, answered_of, id_of, program_of}
use Rattle.session_watch.specs.Lines.{state_text, talk_text, names_text, stage_shown, client_line}
use Rattle.session_watch.specs.declared.asking.Asked.{Asked}
use Rattle.session_watch.specs.declared.asking.Answered.{Answered}
use Rattle.session_watch.specs.declared.stage.Stage.{Stage}

pub on_ok : {T E : Type 0} (r : Result T E) (P Q : Type 0) → (P → Q) → OnOk r P → OnOk r Q
on_ok (Ok x) P Q f p = f p
on_ok (Err e) P Q f p = p

-- what is read of a connection
pub record Reads (excused : Bool) (now start : ℕ) (story : List Passage) (stage : Stage) (logout : Bool) (silent : ℕ) (asked : Option Asked) (answered : Option Answered) (id program : Option (List ℕ)) : Type 0 where
  pub stage_is : stage ≡ stage_shown excused (stage_of story)
  pub logout_is : logout ≡ is_logout story
  pub silent_is : silent ≡ now - silent_since start story
  pub asked_is : asked ≡ asked_of story
  pub answered_is : answered ≡ answered_of story
  pub id_is : id ≡ id_of story
  pub program_is : program ≡ program_of story

parts : (out first second third front middle back : List ℕ) → first ≡ out ++ front → second ≡ first ++ middle → third ≡ second ++ back → third ≡ out ++ ((front ++ middle) ++ back)
parts out first second third front middle back a b d =
    d ∙ ap (λ (xs : List ℕ). xs ++ back) (b ∙ ap (λ (xs : List ℕ). xs ++ middle) a ∙ append_assoc out front middle) ∙ append_assoc out (front ++ middle) back

pub put_line : (out first second third : List ℕ) (excused : Bool) (conn now start : ℕ) (story : List Passage) (stage : Stage) (logout : Bool) (silent : ℕ) (asked : Option Asked) (answered : Option Answered) (id program : Option (List ℕ)) → first ≡ out ++ state_text conn stage logout silent → second ≡ first ++ talk_text asked answered → third ≡ second ++ names_text id program → Reads excused now start story stage logout silent asked answered id program
    → third ≡ out ++ client_line excused conn now start story
put_line out first second third excused conn now start story stage logout silent asked answered id program a b d reads =
    parts out first second third (state_text conn stage logout silent) (talk_text asked answered) (names_text id program) a b d
    ∙ ap (λ (s : Stage). out ++ ((state_text conn s logout silent ++ talk_text asked answered) ++ names_text id program)) reads.stage_is
    ∙ ap (λ (l : Bool). out ++ ((state_text conn (stage_shown excused (stage_of story)) l silent ++ talk_text asked answered) ++ names_text id program)) reads.logout_is
    ∙ ap (λ (n : ℕ). out ++ ((state_text conn (stage_shown excused (stage_of story)) (is_logout story) n ++ talk_text asked answered) ++ names_text id program)) reads.silent_is
    ∙ ap (λ (x : Option Asked). out ++ ((state_text conn (stage_shown excused (stage_of story)) (is_logout story) (now - silent_since start story) ++ talk_text x answered) ++ names_text id program)) reads.asked_is
    ∙ ap (λ (x : Option Answered). out ++ ((state_text conn (stage_shown excused (stage_of story)) (is_logout story) (now - silent_since start story) ++ talk_text (asked_of story) x) ++ names_text id program)) reads.answered_is
    ∙ ap (λ (x : Option (List ℕ)). out ++ ((state_text conn (stage_shown excused (stage_of story)) (is_logout story) (now - silent_since start story) ++ talk_text (asked_of story) (answered_of story)) ++ names_text x program)) reads.id_is
    ∙ ap (λ (x : Option (List ℕ)). out ++ ((state_text conn (stage_shown excused (stage_of story)) (is_logout story) (now - silent_since start story) ++ talk_text (asked_of story) (answered_of story)) ++ names_text (id_of story) x)) reads.program_is
