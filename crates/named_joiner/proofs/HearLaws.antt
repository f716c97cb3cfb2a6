-- What a piece brings, as it is told.
use Rattle.std.proofs.Common.{◌≡◌, ℕ, List, [], ◌++◌, Option, Result, Ok, Err, ◌∙◌, sym, ap, subst}
use Rattle.client_machine.specs.declared.saves.SaveAnswer.{SaveAnswer}
use Rattle.client_engine.specs.Driving.{Run}
use Rattle.named_joiner.specs.Doing.{Replies as Tells, TakesPiece, bytes_in, desk, stand_of}
use Rattle.named_joiner.specs.Hearing.{Hears}
use Rattle.named_joiner.specs.Script.{Callbacks, Keeper, piece_heard}
use Rattle.named_joiner.specs.Standing.{IsRun, Joining, Stand}
use Rattle.named_joiner.specs.declared.callbacks.NamedAsk.{NamedAsk}
use Rattle.named_joiner.specs.declared.ends.HearFault.{HearFault}
use Rattle.named_joiner.specs.declared.ends.HearFault.TheVariants.{NoMemory, Stopped}
use Rattle.named_joiner.specs.declared.ends.NamedReply.{NamedReply}
use Rattle.named_joiner.specs.declared.progress.Progress.{Progress}
use Rattle.named_joiner.proofs.DoingLaws.{begins_all}

module _ {S D : Type 0} (answers : S → NamedAsk → Option SaveAnswer → S → Type 0) (gives : D → Option (List (List ℕ)) → D → Type 0) where
  -- the piece was taken, and what it brought is told
  pub heard : (result : Result NamedReply HearFault) (bytes : List ℕ) (after : Progress) (old : Joining S D) (callbacks : Callbacks S D) (stand : Stand) (run : Run Keeper) (piece : List ℕ) → bytes ≡ [] → TakesPiece answers gives (desk bytes old.callbacks) (desk after.bytes callbacks) run piece after → Tells after result → stand ≡ stand_of after → Hears answers gives result old (record { stand = stand; callbacks = callbacks }) run piece
  heard (Ok reply) bytes after old callbacks stand run piece none takes tells stands = record {
    replies = takes.replies;
    follows = takes.does.follows;
    bytes = tells.0 ∙ (takes.does.bytes ∙ ap (λ (bs : List ℕ). bs ++ bytes_in (piece_heard run piece takes.replies).line) none);
    end = tells.1 ∙ ap (λ (k : Keeper). k.ending) takes.next.keeper;
    next = subst (λ (s : Stand). IsRun (piece_heard run piece takes.replies).next s) (sym stands) takes.next;
  }
  heard (Err NoMemory) bytes after old callbacks stand run piece none takes tells stands = record {
    replies = takes.replies;
    begins = begins_all answers gives old.callbacks callbacks (piece_heard run piece takes.replies).line takes.does.follows;
  }
  heard (Err Stopped) bytes after old callbacks stand run piece none takes tells stands = absurd tells
