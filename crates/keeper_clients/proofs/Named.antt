-- A client with named callbacks is a free client.
use Rattle.std.proofs.Common.{◌≡◌, ℕ, Bool, true, false, List, [], ◌∷◌, ◌++◌, map, Option, None, Some, refl, sym, ◌∙◌, ap, subst, append-nil, if◌then◌else◌}
use Rattle.std.specs.List.{AllByRecursion, flat_map}
use Rattle.checkpoint_records.proofs.DistinctLaws.{all_behind, all_front}
use Rattle.client_machine.specs.Phases.{is_owing}
use Rattle.client_machine.specs.Saves.{at_stage}
use Rattle.client_machine.specs.declared.requests.Request.TheVariants.{Done as AskDone}
use Rattle.client_machine.specs.declared.saves.SaveAnswer.{SaveAnswer}
use Rattle.client_machine.specs.declared.saves.SaveAsk.{SaveAsk}
use Rattle.client_machine.specs.declared.saves.Stage.{Stage}
use Rattle.client_engine.specs.Answering.{after_answer, answer_messages, changed, stage_again, stopped}
use Rattle.client_engine.specs.Driving.{Run, Step, behind}
use Rattle.client_engine.specs.Messages.{spelled}
use Rattle.client_engine.specs.Places.{phase_at}
use Rattle.client_engine.specs.Speaking.{HasPlace, MayAnswer}
use Rattle.client_engine.specs.declared.hearing.Cue.{Cue}
use Rattle.client_engine.specs.declared.hearing.Cue.TheVariants.{Cancelled, Complete, Die, Malformed, Nothing, Properties, Refused, Registered, Save}
use Rattle.client_engine.specs.declared.place.Talk.{Talk}
use Rattle.client_engine.proofs.Acting.{asked_again}
use Rattle.protocol_messages.specs.declared.message.Message.{Message}
use Rattle.named_joiner.specs.Doing.{bytes_of}
use Rattle.named_joiner.specs.Script.{Came, Entry, Keeper, Replies, Says, answer_line, answered, answered_again, cancelled, cued, died, is_over, named, next_stage, on_client, piece_heard, reacts, run_after, script_from, stand_at, talk_of, unasked}
use Rattle.stream_clients.specs.Clients.{Client, Wish, does}
use Rattle.stream_clients.specs.Clients.Wish.{Asks, Closes}
use Rattle.stream_clients.specs.Clients.{cued as free_cued, stand_at as free_stand_at}
use Rattle.keeper_clients.specs.Freedom.{AreAlike, HearsFreely, IsFree, Meets, RunsFreely, freely_heard, freely_run}
use Rattle.keeper_clients.specs.Named.{AreFree, IsAnswered, RunIsFree, heard_until}
use Rattle.keeper_clients.proofs.Folding.{Freely, Heeds, behind-alike, flat-both, is-free}
use Rattle.keeper_clients.proofs.Wishing.{answering, does-answer, does-asked, does-die, may-owe, owed-stays}

abbrev Alike : Step Keeper Entry → Step Client Message → Type 0
Alike done free = AreAlike talk_of bytes_of spelled done free

abbrev Free : Step Keeper Entry → (List Wish → Step Client Message) → Type 0
Free done free = Freely talk_of bytes_of spelled done free

-- nothing is said
quiet : (keeper : Keeper) (client : Client) → keeper.talk ≡ client.talk → Alike (record { line = []; next = keeper }) (does [] client)
quiet keeper client same = record { line = refl; talk = same }

all-said : (messages : List Message) → flat_map bytes_of (map Says messages) ≡ flat_map spelled messages
all-said [] = refl
all-said (m ∷ ms) = ap (λ (bs : List ℕ). spelled m ++ bs) (all-said ms)

-- ---- a save

-- the client answers as it is asked again, if it is
again-free : (keeper : Keeper) (client : Client) (ask : SaveAsk) (answer : Option SaveAnswer) (stage : Option Stage) → keeper.talk ≡ client.talk → ((next : Stage) → stage ≡ Some next → MayAnswer (at_stage next ask) client.talk.place)
    → AllByRecursion IsAnswered (answered_again keeper ask answer stage).line → Free (answered_again keeper ask answer stage) (λ wishes. does wishes client)
again-free keeper client ask answer None same may each = record { wishes = []; alike = quiet keeper client same }
again-free keeper client ask None (Some stage) same may each = absurd each.0
again-free keeper client ask (Some answer) (Some stage) same may each = record {
  wishes = answering answer [];
  alike = subst (λ (s : Step Client Message). Alike (answered keeper (at_stage stage ask) (Some answer)) s) (sym (does-answer (at_stage stage ask) answer [] client (may stage refl) each.0))
      (record { line = all-said (answer_messages answer) ∙ ap (λ (ms : List Message). flat_map spelled ms) (sym (append-nil (answer_messages answer))); talk = ap (changed (after_answer answer)) same });
}

save-free : (keeper : Keeper) (client : Client) (ask : SaveAsk) (first again : Option SaveAnswer) → keeper.talk ≡ client.talk → MayAnswer ask client.talk.place
    → AllByRecursion IsAnswered (behind (answered keeper ask first).line (answered_again (answered keeper ask first).next ask again (next_stage first ask.stage))).line
    → Free (behind (answered keeper ask first).line (answered_again (answered keeper ask first).next ask again (next_stage first ask.stage))) (λ wishes. does wishes client)
save-free keeper client ask None again same may each = absurd each.0
save-free keeper client ask (Some answer) again same may each =
    let talk : Talk = changed (after_answer answer) client.talk in
    let next : Keeper = on_client (after_answer answer) keeper in
    let there : Client = free_stand_at talk client in
    let line : List Entry = answer_line (named keeper ask) answer in
    let more : Step Keeper Entry = answered_again next ask again (stage_again ask.stage) in
    let f : Free more (λ wishes. does wishes there) = again-free next there ask again (stage_again ask.stage) (ap (changed (after_answer answer)) same) (λ stage is. asked_again ask answer client.talk.place stage may each.0 is) (all_behind IsAnswered line more.line each) in
    record {
      wishes = answering answer f.wishes;
      alike = subst (λ (s : Step Client Message). Alike (behind line more) s) (sym (does-answer ask answer f.wishes client may each.0))
          (behind-alike talk_of bytes_of spelled line (answer_messages answer) more (does f.wishes there) (all-said (answer_messages answer)) f.alike);
    }

-- ---- other cues

cancel-free : (keeper : Keeper) (client : Client) (owing : Bool) → is_owing (phase_at client.talk.place) ≡ owing → keeper.talk ≡ client.talk → Free (cancelled keeper owing) (λ wishes. does wishes client)
cancel-free keeper client false is same = record { wishes = []; alike = record { line = refl; talk = owed-stays keeper.talk ∙ same } }
cancel-free keeper client true is same = record {
  wishes = Asks (AskDone false) ∷ [];
  alike = subst (λ (s : Step Client Message). Alike (cancelled keeper true) s) (sym (does-asked (AskDone false) [] client (may-owe client.talk.place is) refl))
      (record { line = refl; talk = ap (λ (t : Talk). (cancelled (stand_at t keeper) true).next.talk) same });
}

die-free : (keeper : Keeper) (client : Client) (reasons : Option (List (List ℕ))) → keeper.talk ≡ client.talk → AllByRecursion IsAnswered (died keeper reasons).line → Free (died keeper reasons) (λ wishes. free_cued client wishes Die)
die-free keeper client None same each = absurd each.0
die-free keeper client (Some reasons) same each = record {
  wishes = Closes reasons ∷ [];
  alike = subst (λ (s : Step Client Message). Alike (died keeper (Some reasons)) s) (sym (does-die reasons client)) (record { line = refl; talk = ap stopped same });
}

cue-free : (keeper : Keeper) (client : Client) (cue : Cue) (r : Replies) → keeper.talk ≡ client.talk → HasPlace cue client.talk.place → AllByRecursion IsAnswered (cued keeper r cue).line → Free (cued keeper r cue) (λ wishes. free_cued client wishes cue)
cue-free keeper client Nothing r same placed each = record { wishes = []; alike = quiet keeper client same }
cue-free keeper client (Registered id) r same placed each = record { wishes = []; alike = quiet keeper client same }
cue-free keeper client (Save ask) r same placed each = save-free keeper client ask r.first r.again same placed each
cue-free keeper client Cancelled r same placed each =
    cancel-free keeper client (is_owing (phase_at keeper.talk.place)) (ap (λ (t : Talk). is_owing (phase_at t.place)) (sym same)) same
cue-free keeper client Complete r same placed each = record { wishes = []; alike = quiet keeper client same }
cue-free keeper client Die r same placed each = die-free keeper client r.reasons same each
cue-free keeper client (Properties list) r same placed each = record { wishes = []; alike = quiet keeper client same }
cue-free keeper client (Refused class) r same placed each = record { wishes = []; alike = record { line = refl; talk = same } }
cue-free keeper client (Malformed at) r same placed each = record { wishes = []; alike = record { line = refl; talk = same } }

heeds : Heeds unasked talk_of stand_at Says cued bytes_of spelled IsAnswered
heeds = record { talk_is = λ talk keeper. refl; says_is = λ message. refl; nothing = λ keeper r. refl; cues = cue-free }

pub hears-free : IsFree unasked talk_of reacts bytes_of spelled IsAnswered
hears-free = is-free unasked talk_of stand_at Says cued bytes_of spelled IsAnswered heeds

-- ---- a whole run

abbrev Runs : Run Client → List (List ℕ) → List Entry → Run Keeper → Type 0
Runs free pieces line after = RunsFreely talk_of bytes_of spelled free pieces line after

abbrev On : List Came → Type 0
On more = (run : Run Keeper) (free : Run Client) → Meets talk_of run free → AllByRecursion IsAnswered (script_from run more) → Runs free (heard_until run more) (script_from run more) (run_after run more)

came-free : (run : Run Keeper) (free : Run Client) (came : Came) (more : List Came) (b : Bool) → Meets talk_of run free → On more
    → AllByRecursion IsAnswered (if b then [] else ((piece_heard run came.bytes came.replies).line ++ script_from (piece_heard run came.bytes came.replies).next more))
    → Runs free (if b then [] else (came.bytes ∷ heard_until (piece_heard run came.bytes came.replies).next more)) (if b then [] else ((piece_heard run came.bytes came.replies).line ++ script_from (piece_heard run came.bytes came.replies).next more)) (if b then run else run_after (piece_heard run came.bytes came.replies).next more)
came-free run free came more true meets on each = record { cames = []; come = refl; says = refl; meets = meets }
came-free run free came more false meets on each =
    let done : Step (Run Keeper) Entry = piece_heard run came.bytes came.replies in
    let rest : List Entry = script_from done.next more in
    let h : HearsFreely unasked talk_of reacts bytes_of spelled run free came.bytes came.replies = hears-free run free came.bytes came.replies meets (all_front IsAnswered done.line rest each) in
    let by : Step (Run Client) Message = freely_heard free came.bytes h.wishes in
    let r : Runs by.next (heard_until done.next more) rest (run_after done.next more) = on done.next by.next h.meets (all_behind IsAnswered done.line rest each) in
    record {
      cames = record { bytes = came.bytes; wishes = h.wishes } ∷ r.cames;
      come = ap (λ (ps : List (List ℕ)). came.bytes ∷ ps) r.come;
      says = flat-both bytes_of spelled done.line rest by.line (freely_run by.next r.cames).line h.line r.says;
      meets = r.meets;
    }

runs-free : RunIsFree
runs-free run free [] meets each = record { cames = []; come = refl; says = refl; meets = meets }
runs-free run free (came ∷ more) meets each = came-free run free came more (is_over run.keeper.ending) meets (λ next by m e. runs-free next by more m e) each

pub named-free : AreFree
named-free = record { begins = λ cookie previous. record { standing = refl; talk = refl }; hears = hears-free; runs = runs-free }
