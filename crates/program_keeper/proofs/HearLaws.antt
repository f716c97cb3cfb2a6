-- What a piece brings, what else comes to a keeper, and pieces one after another.
use Rattle.std.proofs.Common.{◌≡◌, ℕ, Bool, true, false, List, [], ◌∷◌, ◌++◌, length, drop, None, refl, sym, ◌∙◌, ap, subst, arith}
use Rattle.std.proofs.lemmas.Bool.{false≢true}
use Rattle.ice_framing.specs.Frames.{cut, fed}
use Rattle.ice_framing.specs.Parts.{Part, parts_at}
use Rattle.client_engine.specs.Driving.{Run, Step, behind, both, part_taken, parts_taken, piece_taken, standing_at}
use Rattle.client_engine.specs.Keeping.{TakesPiece}
use Rattle.client_engine.specs.Places.{is_listening}
use Rattle.client_engine.proofs.Driven.{in_parts}
use Rattle.program_keeper.specs.Doing.{Carries}
use Rattle.program_keeper.specs.Laws.{PiecesMakeNoDifference}
use Rattle.program_keeper.specs.Script.{Keeper, in_run, piece_heard, reacts, talk_of}
use Rattle.program_keeper.specs.Standing.{Gives, IsRun, Stand}
use Rattle.program_keeper.specs.declared.acts.KeeperAct.{KeeperAct}
use Rattle.program_keeper.proofs.HeedLaws.{stays_stopped}

abbrev all_taken : Keeper → List Part → List (Unit {0}) → Step Keeper KeeperAct
all_taken keeper parts rs = parts_taken tt talk_of reacts keeper parts rs

-- nothing comes to a keeper from without
silent : (keeper : Keeper) (parts : List Part) (rs : List (Unit {0})) → all_taken keeper parts rs ≡ all_taken keeper parts []
silent keeper [] rs = refl
silent keeper (part ∷ parts) rs = ap (behind (part_taken tt talk_of reacts keeper part tt).line) (silent (part_taken tt talk_of reacts keeper part tt).next parts (drop 1 rs))

pub silent_piece : (run : Run Keeper) (bytes : List ℕ) (rs : List (Unit {0})) → piece_taken tt talk_of reacts run bytes rs ≡ piece_heard run bytes
silent_piece run bytes rs = ap (standing_at (cut (fed run.standing bytes)).standing) (silent run.keeper (parts_at (fed run.standing bytes)) rs)

-- ---- pieces one after another

-- one for each part
abbrev blanks : List Part → List (Unit {0})
blanks [] = []
blanks (part ∷ parts) = tt ∷ blanks parts

length-blanks : (parts : List Part) → length (blanks parts) ≡ length parts
length-blanks [] = refl
length-blanks (part ∷ parts) = omega (arith, length-blanks parts)

pub no_difference : PiecesMakeNoDifference
no_difference run xs ys =
    let rs : List (Unit {0}) = blanks (parts_at (fed run.standing xs)) in
    let pieces : Run Keeper → List ℕ → List (Unit {0}) → Step (Run Keeper) KeeperAct = λ at bytes more. piece_taken tt talk_of reacts at bytes more in
    sym (silent_piece run (xs ++ ys) (rs ++ []))
    ∙ (in_parts tt talk_of reacts stays_stopped run xs ys rs [] (length-blanks (parts_at (fed run.standing xs)))
    ∙ ap (λ (first : Step (Run Keeper) KeeperAct). both first (piece_heard first.next ys)) (silent_piece run xs rs))

-- ---- what a call gives

-- all acts of a piece
pub heard : (none acts : List KeeperAct) (run : Run Keeper) (piece : List ℕ) (after : Stand) → none ≡ [] → TakesPiece Carries tt talk_of reacts none acts run piece after.keeper after.splitter None → Gives acts (piece_heard run piece) after
heard none acts run piece after are takes =
    let same : piece_taken tt talk_of reacts run piece takes.replies ≡ piece_heard run piece = silent_piece run piece takes.replies in
    record {
      line = takes.does ∙ (ap (λ (more : List KeeperAct). more ++ (piece_taken tt talk_of reacts run piece takes.replies).line) are ∙ ap (λ (s : Step (Run Keeper) KeeperAct). s.line) same);
      next = subst (λ (s : Step (Run Keeper) KeeperAct). IsRun s.next after) same (takes.next refl);
    }

-- one whose client changes by what it says holds the stream as before
pub said : (step : Keeper → Step Keeper KeeperAct) (acts : List KeeperAct) (run : Run Keeper) (old new : Stand) → ((keeper : Keeper) → is_listening keeper.talk.place ≡ false → is_listening (step keeper).next.talk.place ≡ false) → IsRun run old → acts ≡ (step old.keeper).line → new.keeper ≡ (step old.keeper).next → new.splitter ≡ old.splitter
    → Gives acts (in_run step run) new
said step acts run old new stops is_run gave stands same = record {
  line = gave ∙ ap (λ (k : Keeper). (step k).line) is_run.keeper;
  next = record {
    keeper = stands ∙ ap (λ (k : Keeper). (step k).next) is_run.keeper;
    feeds = λ listens. same ∙ holds (is_listening old.keeper.talk.place) refl listens;
  };
}
  where
    holds : (b : Bool) → is_listening old.keeper.talk.place ≡ b → is_listening new.keeper.talk.place ≡ true → old.splitter ≡ run.standing
    holds true listens still = is_run.feeds listens
    holds false deaf still = absurd (false≢true (sym (stops old.keeper deaf) ∙ (ap (λ (k : Keeper). is_listening k.talk.place) (sym stands) ∙ still)))
