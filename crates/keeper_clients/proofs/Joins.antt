-- What a run sends that nothing cuts short is what a free client says.
use Rattle.std.proofs.Common.{◌≡◌, ℕ, List, [], ◌∷◌, ◌++◌, map, refl, sym, ◌∙◌, ap, subst, append-nil}
use Rattle.std.specs.List.{AllByRecursion, flat_map}
use Rattle.ice_messages.specs.declared.message.IceMessage.TheVariants.{ByteOrder}
use Rattle.ice_values.specs.declared.numbers.Endian.TheVariants.{Lsb}
use Rattle.sm_world.specs.declared.effects.Effect.{Effect}
use Rattle.sm_world.specs.declared.effects.Effect.TheVariants.{Heard}
use Rattle.client_peer.specs.Peers.{received}
use Rattle.client_machine.specs.declared.saves.SaveAnswer.{SaveAnswer}
use Rattle.client_machine.specs.declared.saves.SaveAsk.{SaveAsk}
use Rattle.protocol_messages.specs.declared.message.Message.TheVariants.{Ice}
use Rattle.client_callbacks.specs.Doing.{Callbacks, Follows, bytes_in, effects_in, heard_in, sent}
use Rattle.client_callbacks.specs.Script.{AsksReasons, AsksSave, Entry, Hears, Notes, Says, TellsCancelled, run_after, script, script_from, start, talk_of}
use Rattle.keeper_clients.specs.Freedom.{RunsFreely, freely_begun}
use Rattle.keeper_clients.specs.Joiners.{AnswersLawfully, IsAnswered, JoinsAreFree, a_piece, received_of, sending, sent_by, sent_of}
use Rattle.keeper_clients.proofs.Joiners.{runs-free}

sent-in : (line : List Entry) → flat_map sent_of (effects_in line) ≡ flat_map sent_by line
sent-in [] = refl
sent-in (Hears bytes ∷ line) = sent-in line
sent-in (Says message ∷ line) = ap (λ (es : List Effect). sent message ∷ es) (sent-in line)
sent-in (AsksSave ask answer ∷ line) = sent-in line
sent-in (AsksReasons reasons ∷ line) = sent-in line
sent-in (TellsCancelled ∷ line) = sent-in line
sent-in (Notes words ∷ line) = sent-in line

received-in : (line : List Entry) → flat_map received_of (effects_in line) ≡ map (λ (bytes : List ℕ). Heard (received bytes)) (heard_in line)
received-in [] = refl
received-in (Hears bytes ∷ line) = ap (λ (es : List Effect). Heard (received bytes) ∷ es) (received-in line)
received-in (Says message ∷ line) = received-in line
received-in (AsksSave ask answer ∷ line) = received-in line
received-in (AsksReasons reasons ∷ line) = received-in line
received-in (TellsCancelled ∷ line) = received-in line
received-in (Notes words ∷ line) = received-in line

module _ {S D C : Type 0} (answers : S → SaveAsk → SaveAnswer → S → Type 0) (gives : D → List (List ℕ) → D → Type 0) (hears : C → C → Type 0) where
  answered-line : AnswersLawfully answers gives hears → (line : List Entry) (old new : Callbacks S D C) → Follows answers gives hears line old new → AllByRecursion IsAnswered line
  answered-line lawful [] old new f = tt
  answered-line lawful (Hears bytes ∷ line) old new f = (tt, answered-line lawful line old new f)
  answered-line lawful (Says message ∷ line) old new f = (tt, answered-line lawful line old new f)
  answered-line lawful (AsksSave ask answer ∷ line) old new f = (lawful old.save ask answer f.0 f.1, answered-line lawful line (record old { save = f.0 }) new f.2)
  answered-line lawful (AsksReasons reasons ∷ line) old new f = (tt, answered-line lawful line (record old { die = f.0 }) new f.2)
  answered-line lawful (TellsCancelled ∷ line) old new f = (tt, answered-line lawful line (record old { cancelled = f.0 }) new f.2)
  answered-line lawful (Notes words ∷ line) old new f = (tt, answered-line lawful line old new f)

  pub joins-free : JoinsAreFree answers gives hears
  joins-free cookie previous saves turns old new result lawful whole joins =
      let done : List Entry = joins.does.done in
      let all : done ≡ script cookie previous saves joins.cames = sym (append-nil done) ∙ ap (λ (es : List Entry). done ++ es) (sym (joins.does.none_left whole)) ∙ joins.does.parts in
      let each : AllByRecursion IsAnswered (script cookie previous saves joins.cames) = subst (λ (es : List Entry). AllByRecursion IsAnswered es) all (answered-line lawful done old.callbacks new.callbacks joins.does.follows) in
      let r : RunsFreely talk_of sent_by sending (freely_begun cookie previous) (flat_map a_piece (heard_in (script_from (start cookie previous saves) joins.cames))) (script_from (start cookie previous saves) joins.cames) (run_after (start cookie previous saves) joins.cames) =
      runs-free (start cookie previous saves) (freely_begun cookie previous) joins.cames (record { standing = refl; talk = refl }) each.1 in
      record {
        effects = effects_in done;
        told = joins.does.told;
        pieces = bytes_in joins.cames;
        heard = received-in done ∙ ap (λ (ps : List (List ℕ)). map (λ (bytes : List ℕ). Heard (received bytes)) ps) joins.heard;
        cames = r.cames;
        come = r.come ∙ ap (λ (hs : List (List ℕ)). flat_map a_piece hs) (ap heard_in (sym all) ∙ joins.heard);
        says = sent-in done ∙ ap (λ (es : List Entry). flat_map sent_by es) all ∙ ap (λ (es : List Effect). sent (Ice (ByteOrder Lsb)) ∷ es) r.says;
      }
