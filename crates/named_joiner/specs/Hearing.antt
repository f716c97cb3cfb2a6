-- What a piece of the manager's stream brings a client with callbacks.
use Rattle.std.specs.Prelude.{◌≡◌, ℕ, Bool, true, is_some, List, Option, Result, Ok, Err, option_map}
use Rattle.client_machine.specs.declared.saves.SaveAnswer.{SaveAnswer}
use Rattle.client_engine.specs.Driving.{Run}
use Rattle.named_joiner.specs.Doing.{BreaksPiece, Follows, bytes_in}
use Rattle.named_joiner.specs.Script.{Keeper, Replies, piece_heard}
use Rattle.named_joiner.specs.Standing.{IsRun, Joining}
use Rattle.named_joiner.specs.declared.callbacks.NamedAsk.{NamedAsk}
use Rattle.named_joiner.specs.declared.ends.Ending.TheVariants.{Ended}
use Rattle.named_joiner.specs.declared.ends.HearFault.{HearFault}
use Rattle.named_joiner.specs.declared.ends.HearFault.TheVariants.{NoMemory, Stopped}
use Rattle.named_joiner.specs.declared.ends.NamedReply.{NamedReply}

-- The client is spent where a call gave its end, or answered otherwise.
abbrev pub gave_end : Result NamedReply HearFault → Bool
gave_end (Ok reply) = is_some reply.end
gave_end (Err fault) = true

module _ {S D : Type 0} (answers : S → NamedAsk → Option SaveAnswer → S → Type 0) (gives : D → Option (List (List ℕ)) → D → Type 0) where
  -- For what the callbacks said, the bytes are those of all that the script says of the piece, and the end is the script's.
  pub record Replied (reply : NamedReply) (old new : Joining S D) (run : Run Keeper) (piece : List ℕ) : Type 0 where
    pub replies : List Replies
    pub follows : Follows answers gives (piece_heard run piece replies).line old.callbacks new.callbacks
    pub bytes : reply.bytes ≡ bytes_in (piece_heard run piece replies).line
    pub end : option_map Ended reply.end ≡ (piece_heard run piece replies).next.keeper.ending
    pub next : IsRun (piece_heard run piece replies).next new.stand

  -- Where memory was wanting the callbacks were asked as the first entries of the script say.
  abbrev pub Hears : Result NamedReply HearFault → Joining S D → Joining S D → Run Keeper → List ℕ → Type 0
  Hears (Ok reply) old new run piece = Replied reply old new run piece
  Hears (Err NoMemory) old new run piece = BreaksPiece answers gives old.callbacks new.callbacks run piece
  Hears (Err Stopped) old new run piece = new ≡ old
