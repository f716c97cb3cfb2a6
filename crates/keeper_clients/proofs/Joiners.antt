-- A client with callbacks is a free client.
use Rattle.std.proofs.Common.{◌≡◌, ℕ, Bool, true, false, List, [], ◌∷◌, ◌++◌, map, Option, None, Some, refl, sym, ◌∙◌, ap, subst, append-nil, eqb, if◌then◌else◌}
use Rattle.std.specs.List.{AllByRecursion, flat_map}
use Rattle.sm_world.specs.declared.effects.Effect.{Effect}
use Rattle.checkpoint_records.proofs.DistinctLaws.{all_behind, all_front}
use Rattle.client_machine.specs.Phases.{is_owing}
use Rattle.client_machine.specs.Saves.{at_stage}
use Rattle.client_machine.specs.declared.requests.Request.TheVariants.{Close, Done as AskDone}
use Rattle.client_machine.specs.declared.saves.SaveAnswer.{SaveAnswer}
use Rattle.client_machine.specs.declared.saves.SaveAsk.{SaveAsk}
use Rattle.client_machine.specs.declared.saves.Stage.{Stage}
use Rattle.client_engine.specs.Answering.{after_answer, answer_messages, changed, may_ask_at, stage_again, stopped}
use Rattle.client_engine.specs.Driving.{Run, Step, behind}
use Rattle.client_engine.specs.Places.{phase_at}
use Rattle.client_engine.specs.Speaking.{HasPlace, MayAnswer}
use Rattle.client_engine.specs.declared.hearing.Cue.{Cue}
use Rattle.client_engine.specs.declared.hearing.Cue.TheVariants.{Cancelled, Complete, Die, Malformed, Nothing, Properties, Refused, Registered, Save}
use Rattle.client_engine.specs.declared.place.Talk.{Talk}
use Rattle.client_engine.proofs.Acting.{asked_again}
use Rattle.protocol_messages.specs.declared.message.Message.{Message}
use Rattle.client_callbacks.specs.Answers.{Replies, unasked}
use Rattle.client_callbacks.specs.Doing.{heard_in, sent}
use Rattle.client_callbacks.specs.Script.{Came, Entry, Hears, Keeper, Says, answer_line, answered, answered_again, cancelled, completed, cued, died, ended, is_over, on_client, owes, reacts, run_after, saved, script_from, stand_at, talk_of, turn}
use Rattle.client_callbacks.proofs.Quiet.{heard-append, quiet-turn}
use Rattle.stream_clients.specs.Clients.{Client, Wish, does}
use Rattle.stream_clients.specs.Clients.Wish.{Asks, Closes}
use Rattle.stream_clients.specs.Clients.{cued as free_cued, stand_at as free_stand_at}
use Rattle.keeper_clients.specs.Freedom.{AreAlike, HearsFreely, IsFree, Meets, RunsFreely, freely_heard, freely_run}
use Rattle.keeper_clients.specs.Joiners.{AreFree, IsAnswered, RunIsFree, a_piece, sending, sent_by}
use Rattle.keeper_clients.proofs.Folding.{Freely, Heeds, behind-alike, flat-both, is-free}
use Rattle.keeper_clients.proofs.Wishing.{answering, does-answer, does-asked, does-close, does-die, may-owe, owed-stays, speaks}

abbrev Alike : Step Keeper Entry → Step Client Message → Type 0
Alike done free = AreAlike talk_of sent_by sending done free

abbrev Free : Step Keeper Entry → (List Wish → Step Client Message) → Type 0
Free done free = Freely talk_of sent_by sending done free

-- nothing is said
quiet : (keeper : Keeper) (client : Client) → keeper.talk ≡ client.talk → Free (record { line = []; next = keeper }) (λ wishes. does wishes client)
quiet keeper client same = record { wishes = []; alike = record { line = refl; talk = same } }

all-said : (messages : List Message) → flat_map sent_by (map Says messages) ≡ flat_map sending messages
all-said [] = refl
all-said (m ∷ ms) = ap (λ (es : List Effect). sent m ∷ es) (all-said ms)

-- ---- a save

-- the client answers as it is asked again, if it is
again-free : (keeper : Keeper) (client : Client) (ask : SaveAsk) (answer : SaveAnswer) (stage : Option Stage) → keeper.talk ≡ client.talk → ((next : Stage) → stage ≡ Some next → MayAnswer (at_stage next ask) client.talk.place)
    → AllByRecursion IsAnswered (answered_again keeper ask answer stage).line → Free (answered_again keeper ask answer stage) (λ wishes. does wishes client)
again-free keeper client ask answer None same may each = quiet keeper client same
again-free keeper client ask answer (Some stage) same may each = record {
  wishes = answering answer [];
  alike = subst (λ (s : Step Client Message). Alike (answered keeper (at_stage stage ask) answer) s) (sym (does-answer (at_stage stage ask) answer [] client (may stage refl) each.0))
      (record { line = all-said (answer_messages answer) ∙ ap (λ (ms : List Message). flat_map sending ms) (sym (append-nil (answer_messages answer))); talk = ap (changed (after_answer answer)) same });
}

save-free : (keeper : Keeper) (client : Client) (ask : SaveAsk) (r : Replies) → keeper.talk ≡ client.talk → MayAnswer ask client.talk.place → AllByRecursion IsAnswered (saved keeper ask r).line → Free (saved keeper ask r) (λ wishes. does wishes client)
save-free keeper client ask r same may each =
    let talk : Talk = changed (after_answer r.first) client.talk in
    let next : Keeper = on_client (after_answer r.first) keeper in
    let there : Client = free_stand_at talk client in
    let line : List Entry = answer_line ask r.first in
    let more : Step Keeper Entry = answered_again next ask r.again (stage_again ask.stage) in
    let f : Free more (λ wishes. does wishes there) = again-free next there ask r.again (stage_again ask.stage) (ap (changed (after_answer r.first)) same) (λ stage is. asked_again ask r.first client.talk.place stage may each.0 is) (all_behind IsAnswered line more.line each) in
    record {
      wishes = answering r.first f.wishes;
      alike = subst (λ (s : Step Client Message). Alike (behind line more) s) (sym (does-answer ask r.first f.wishes client may each.0))
          (behind-alike talk_of sent_by sending line (answer_messages r.first) more (does f.wishes there) (all-said (answer_messages r.first)) f.alike);
    }

-- ---- other cues

cancel-free : (keeper : Keeper) (client : Client) (owing : Bool) → is_owing (phase_at client.talk.place) ≡ owing → keeper.talk ≡ client.talk → Free (cancelled keeper owing) (λ wishes. does wishes client)
cancel-free keeper client false is same = record { wishes = []; alike = record { line = refl; talk = owed-stays keeper.talk ∙ same } }
cancel-free keeper client true is same = record {
  wishes = Asks (AskDone false) ∷ [];
  alike = subst (λ (s : Step Client Message). Alike (cancelled keeper true) s) (sym (does-asked (AskDone false) [] client (may-owe client.talk.place is) refl))
      (record { line = refl; talk = ap (λ (t : Talk). (cancelled (stand_at t keeper) true).next.talk) same });
}

-- the last save that it waits for has it close
complete-free : (keeper : Keeper) (client : Client) (last : Bool) → keeper.talk ≡ client.talk → may_ask_at (Close []) client.talk.place ≡ true → Free (completed keeper last) (λ wishes. does wishes client)
complete-free keeper client false same may = record { wishes = []; alike = record { line = refl; talk = same } }
complete-free keeper client true same may = record {
  wishes = Closes [] ∷ [];
  alike = subst (λ (s : Step Client Message). Alike (completed keeper true) s) (sym (does-close [] client (speaks client.talk.place may))) (record { line = refl; talk = ap stopped same });
}

die-free : (keeper : Keeper) (client : Client) (reasons : List (List ℕ)) → keeper.talk ≡ client.talk → Free (died keeper reasons) (λ wishes. free_cued client wishes Die)
die-free keeper client reasons same = record {
  wishes = Closes reasons ∷ [];
  alike = subst (λ (s : Step Client Message). Alike (died keeper reasons) s) (sym (does-die reasons client)) (record { line = refl; talk = ap stopped same });
}

cue-free : (keeper : Keeper) (client : Client) (cue : Cue) (r : Replies) → keeper.talk ≡ client.talk → HasPlace cue client.talk.place → AllByRecursion IsAnswered (cued keeper r cue).line → Free (cued keeper r cue) (λ wishes. free_cued client wishes cue)
cue-free keeper client Nothing r same placed each = quiet keeper client same
cue-free keeper client (Registered id) r same placed each = record { wishes = []; alike = record { line = refl; talk = same } }
cue-free keeper client (Save ask) r same placed each = save-free keeper client ask r same placed each
cue-free keeper client Cancelled r same placed each = cancel-free keeper client (owes keeper) (ap (λ (t : Talk). is_owing (phase_at t.place)) (sym same)) same
cue-free keeper client Complete r same placed each = complete-free keeper client (eqb keeper.saves 1) same placed
cue-free keeper client Die r same placed each = die-free keeper client r.reasons same
cue-free keeper client (Properties list) r same placed each = quiet keeper client same
cue-free keeper client (Refused class) r same placed each = record { wishes = []; alike = record { line = refl; talk = same } }
cue-free keeper client (Malformed at) r same placed each = record { wishes = []; alike = record { line = refl; talk = same } }

heeds : Heeds unasked talk_of stand_at Says cued sent_by sending IsAnswered
heeds = record { talk_is = λ talk keeper. refl; says_is = λ message. refl; nothing = λ keeper r. refl; cues = cue-free }

hears-free : IsFree unasked talk_of reacts sent_by sending IsAnswered
hears-free = is-free unasked talk_of stand_at Says cued sent_by sending IsAnswered heeds

-- ---- a whole run

abbrev Runs : Run Client → List (List ℕ) → List Entry → Run Keeper → Type 0
Runs free pieces line after = RunsFreely talk_of sent_by sending free pieces line after

abbrev pieces_in : List Entry → List (List ℕ)
pieces_in line = flat_map a_piece (heard_in line)

none-free : (run : Run Keeper) (free : Run Client) → Meets talk_of run free → Runs free [] [] run
none-free run free meets = record { cames = []; come = refl; says = refl; meets = meets }

-- nothing more is received at the end
ended-line : (run : Run Keeper) (more : List Came) → script_from (ended run).next more ≡ []
ended-line run [] = refl
ended-line run (came ∷ more) = refl

ended-run : (run : Run Keeper) (more : List Came) → run_after (ended run).next more ≡ (ended run).next
ended-run run [] = refl
ended-run run (came ∷ more) = refl

abbrev On : List Came → Type 0
On more = (run : Run Keeper) (free : Run Client) → Meets talk_of run free → AllByRecursion IsAnswered (script_from run more) → Runs free (pieces_in (script_from run more)) (script_from run more) (run_after run more)

turn-free : (run : Run Keeper) (free : Run Client) (bytes : List ℕ) (replies : List Replies) (more : List Came) → Meets talk_of run free → On more
    → AllByRecursion IsAnswered ((turn run bytes replies).line ++ script_from (turn run bytes replies).next more) → Runs free (pieces_in (Hears bytes ∷ ((turn run bytes replies).line ++ script_from (turn run bytes replies).next more))) (Hears bytes ∷ ((turn run bytes replies).line ++ script_from (turn run bytes replies).next more)) (run_after (turn run bytes replies).next more)
turn-free run free [] replies more meets on each =
    let none : Runs free [] (Hears [] ∷ []) (ended run).next = record { cames = []; come = refl; says = refl; meets = record { standing = meets.standing; talk = meets.talk } } in
    subst (λ (x : Run Keeper). Runs free (pieces_in (Hears [] ∷ script_from (ended run).next more)) (Hears [] ∷ script_from (ended run).next more) x) (sym (ended-run run more))
    (subst (λ (es : List Entry). Runs free (pieces_in (Hears [] ∷ es)) (Hears [] ∷ es) (ended run).next) (sym (ended-line run more)) none)
turn-free run free (b ∷ bytes) replies more meets on each =
    let done : Step (Run Keeper) Entry = turn run (b ∷ bytes) replies in
    let rest : List Entry = script_from done.next more in
    let h : HearsFreely unasked talk_of reacts sent_by sending run free (b ∷ bytes) replies = hears-free run free (b ∷ bytes) replies meets (all_front IsAnswered done.line rest each) in
    let by : Step (Run Client) Message = freely_heard free (b ∷ bytes) h.wishes in
    let r : Runs by.next (pieces_in rest) rest (run_after done.next more) = on done.next by.next h.meets (all_behind IsAnswered done.line rest each) in
    let heard : heard_in (done.line ++ rest) ≡ heard_in rest = heard-append done.line rest ∙ ap (λ (hs : List (List ℕ)). hs ++ heard_in rest) (quiet-turn run (b ∷ bytes) replies) in
    record {
      cames = record { bytes = b ∷ bytes; wishes = h.wishes } ∷ r.cames;
      come = ap (λ (ps : List (List ℕ)). (b ∷ bytes) ∷ ps) (r.come ∙ ap (λ (hs : List (List ℕ)). flat_map a_piece hs) (sym heard));
      says = flat-both sent_by sending done.line rest by.line (freely_run by.next r.cames).line h.line r.says;
      meets = r.meets;
    }

came-free : (run : Run Keeper) (free : Run Client) (came : Came) (more : List Came) (b : Bool) → Meets talk_of run free → On more
    → AllByRecursion IsAnswered (if b then [] else Hears came.bytes ∷ ((turn run came.bytes came.replies).line ++ script_from (turn run came.bytes came.replies).next more))
    → Runs free (pieces_in (if b then [] else Hears came.bytes ∷ ((turn run came.bytes came.replies).line ++ script_from (turn run came.bytes came.replies).next more))) (if b then [] else Hears came.bytes ∷ ((turn run came.bytes came.replies).line ++ script_from (turn run came.bytes came.replies).next more)) (if b then run else run_after (turn run came.bytes came.replies).next more)
came-free run free came more true meets on each = none-free run free meets
came-free run free came more false meets on each = turn-free run free came.bytes came.replies more meets on each.1

pub runs-free : RunIsFree
runs-free run free [] meets each = none-free run free meets
runs-free run free (came ∷ more) meets each = came-free run free came more (is_over run.keeper.ending) meets (λ next by m e. runs-free next by more m e) each

pub joiners-free : AreFree
joiners-free = record { begins = λ cookie previous saves. record { standing = refl; talk = refl }; hears = hears-free; runs = runs-free }
