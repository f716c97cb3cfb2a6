-- All that comes to an agent, one thing after the other.
use Rattle.std.proofs.Common.{◌≡◌, ℕ, List, [], ◌∷◌, ◌++◌, refl, sym, ◌∙◌, ap}
use Rattle.std.proofs.lemmas.Grind.{flat_map-append}
use Rattle.std.specs.List.{AllByRecursion, flat_map}
use Rattle.client_engine.specs.Driving.{Run, Step}
use Rattle.client_engine.specs.Messages.{spelled}
use Rattle.protocol_messages.specs.declared.message.Message.{Message}
use Rattle.outer_agent.specs.Ends.{Came, Life, after}
use Rattle.outer_agent.specs.Ends.Came.{Piece, SaveEnded, SessionEnded}
use Rattle.outer_agent.specs.Script.{closed, piece_heard, reacts, talk_of, told}
use Rattle.outer_agent.specs.declared.acts.AgentAct.{AgentAct}
use Rattle.stream_clients.specs.Clients.{Client}
use Rattle.keeper_clients.specs.Agents.{FreeStep, IsAnyAct, LivesAreFree, LivesFreely, SpeaksFreely, free_step, free_steps, heard_by, piece_of, said_at, said_over, sent_by}
use Rattle.keeper_clients.specs.Agents.FreeStep.{Hears, Wishes}
use Rattle.keeper_clients.specs.Freedom.{HearsFreely, Meets}
use Rattle.keeper_clients.proofs.Agents.{agents-free}

-- nothing is asked of an act
any : (acts : List AgentAct) → AllByRecursion IsAnyAct acts
any [] = tt
any (act ∷ acts) = (tt, any acts)

-- one thing that comes
record One (life : Life) (free : Run Client) (came : Came) : Type 0 where
  step : FreeStep
  piece : heard_by step ≡ piece_of came
  says : said_at life.run came ≡ flat_map spelled (free_step free step).line
  meets : Meets talk_of (after life came).run (free_step free step).next

one : (life : Life) (free : Run Client) (came : Came) → Meets talk_of life.run free → One life free came
one life free (Piece bytes) meets =
    let h : HearsFreely tt talk_of reacts sent_by spelled life.run free bytes [] = agents-free.hears life.run free bytes [] meets (any (piece_heard life.run bytes).line) in
    record { step = Hears bytes h.wishes; piece = refl; says = h.line; meets = h.meets }
one life free (SaveEnded success) meets =
    let s : SpeaksFreely free (told life.run success) = agents-free.ends life.run free success meets in
    record { step = Wishes s.wishes; piece = refl; says = s.line; meets = s.meets }
one life free SessionEnded meets =
    let s : SpeaksFreely free (closed life.run) = agents-free.closes life.run free meets in
    record { step = Wishes s.wishes; piece = refl; says = s.line; meets = s.meets }

pub lives-free : LivesAreFree
lives-free life free [] meets = record { steps = []; pieces = refl; says = refl; meets = meets }
lives-free life free (came ∷ more) meets =
    let o : One life free came = one life free came meets in
    let first : Step (Run Client) Message = free_step free o.step in
    let rest : LivesFreely (after life came) first.next more = lives-free (after life came) first.next more o.meets in
    record {
      steps = o.step ∷ rest.steps;
      pieces = ap (λ (ps : List (List ℕ)). ps ++ flat_map heard_by rest.steps) o.piece ∙ ap (λ (ps : List (List ℕ)). piece_of came ++ ps) rest.pieces;
      says = ap (λ (bs : List ℕ). bs ++ said_over (after life came) more) o.says ∙ ap (λ (bs : List ℕ). flat_map spelled first.line ++ bs) rest.says ∙ sym (flat_map-append spelled first.line (free_steps first.next rest.steps).line);
      meets = rest.meets;
    }
