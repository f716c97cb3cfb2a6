-- A call against which nothing stands comes to its client's end.
use Rattle.std.proofs.Common.{◌≡◌, ◌⊎◌, inl, inr, ℕ, arith, false, List, [], ◌∷◌, ◌++◌, length, map, Option, None, Some, Result, Ok, Err, refl, sym, ◌∙◌, ap, subst, append-nil}
use Rattle.std.specs.Prelude.{IsOk}
use Rattle.std.proofs.lemmas.Grind.{flat_map-append}
use Rattle.sm_world.specs.Effects.{event_of, heard}
use Rattle.sm_world.specs.Outside.{Outside}
use Rattle.sm_world.specs.declared.effects.Effect.{Effect}
use Rattle.sm_world.specs.declared.effects.Effect.TheVariants.{Printed}
use Rattle.sm_world.specs.declared.events.Event.{Event}
use Rattle.sm_world.specs.declared.failures.Failure.{Failure}
use Rattle.sm_world.specs.declared.failures.Failure.TheVariants.{Failed, NoMemory as DeviceMemory}
use Rattle.ice_cookie.specs.declared.authority.AuthorityEntry.{AuthorityEntry}
use Rattle.ice_cookie.specs.declared.cookies.Cookie.{Cookie}
use Rattle.ice_cookie.proofs.AuthorityLaws.{stands_for_one}
use Rattle.client_callbacks.specs.Doing.{Follows, IsCaused, bytes_in, effects_in, heard_in, lines_in}
use Rattle.client_callbacks.specs.Running.{IsAnswer, answer_of as client_answer, failure_of}
use Rattle.client_callbacks.specs.Script.{Entry, Hears, Says, AsksSave, AsksReasons, TellsCancelled, Notes, run_after, script, start}
use Rattle.client_callbacks.specs.declared.ends.ClientEnd.{ClientEnd}
use Rattle.client_callbacks.specs.declared.ends.ClientEnd.TheVariants.{Died, Closed, StreamEnded as HasEnded}
use Rattle.client_callbacks.specs.declared.ends.Ending.{Ending as ClientEnding}
use Rattle.client_callbacks.specs.declared.ends.JoinFault.{JoinFault}
use Rattle.client_callbacks.specs.declared.ends.JoinFault.TheVariants.{LinkFault, Refused as IsRefused, Malformed as IsMalformed, Spent as IsSpent, NoMemory as IsMissing}
use Rattle.client_peer.specs.Peers.{Fetches, file_at, received}
use Rattle.client_words.specs.Reading.{AreBad, AreChosen}
use Rattle.client_words.specs.declared.choices.Choices.{Choices}
use Rattle.program_frame.specs.Printing.{Tries, line}
use Rattle.program_frame.specs.Programs.{line_by, status_by}
use Rattle.smclient_app.specs.Completeness.{CallsComplete, ComesToItsEnd, IsEndStatus, LetsIn, NoneRose}
use Rattle.smclient_app.specs.Entries.{HasCookie, HasNone, first_entry}
use Rattle.smclient_app.specs.Faults.{Ending, after_printing, end_of, fault_line, fault_status}
use Rattle.smclient_app.specs.Joining.{AnswersIn, Listens, NoReasons, remembers}
use Rattle.smclient_app.specs.Rules.{Answers as AnswersBy}
use Rattle.smclient_app.specs.Statuses.{FileIs, IsEarly, Joined, Runs, RunsBy}
use Rattle.smclient_app.specs.declared.fault.Fault.{Fault}
use Rattle.smclient_app.specs.declared.fault.Fault.TheVariants.{BadWords, Refused, StreamEnded, NoEntry, Link, Console, Spent, NoMemory, Malformed}

-- ---- the words and the file

not_bad : (words : List (List ℕ)) (choices : Choices) → AreChosen words choices → AreBad words → ⊥
not_bad words choices chosen (inl refused) = refused chosen.read
not_bad words choices chosen (inr (inl long)) = omega (arith, long, chosen.short_id, ap length chosen.ask.id)
not_bad words choices chosen (inr (inr long)) = omega (arith, long, chosen.short_program, ap length chosen.ask.program)

some_is : {A : Type 0} (x y : A) → ◌≡◌ {A = Option A} (Some x) (Some y) → x ≡ y
some_is x y same = cc

ok_is : {A E : Type 0} (x y : A) → ◌≡◌ {A = Result A E} (Ok x) (Ok y) → x ≡ y
ok_is x y same = cc

-- Bytes have one cookie for a socket.
one_cookie : (socket bytes : List ℕ) (one other : Cookie) → HasCookie socket bytes one → HasCookie socket bytes other → one ≡ other
one_cookie socket bytes one other first second =
    let entries : first.entries ≡ second.entries = ok_is first.entries second.entries (stands_for_one bytes (Ok first.entries) (Ok second.entries) first.spelled second.spelled) in
    let entry : first.entry ≡ second.entry = some_is first.entry second.entry (sym first.first ∙ (ap (first_entry socket) entries ∙ second.first)) in
    ap (λ (proof : List ℕ). let c : Cookie = record { 0 = proof } in c) (sym first.is ∙ (ap (λ (e : AuthorityEntry). e.proof) entry ∙ second.is))

-- and none where there are none
has_none : (socket bytes : List ℕ) (cookie : Cookie) → HasCookie socket bytes cookie → HasNone socket bytes → ⊥
has_none socket bytes cookie has (inl short) = let bad = stands_for_one bytes (Ok has.entries) (Err short.0) has.spelled short.1 in cc
has_none socket bytes cookie has (inr none) =
    let entries : has.entries ≡ none.0 = ok_is has.entries none.0 (stands_for_one bytes (Ok has.entries) (Ok none.0) has.spelled none.1) in
    let bad : ◌≡◌ {A = Option AuthorityEntry} (Some has.entry) None = sym has.first ∙ (ap (first_entry socket) entries ∙ none.2) in
    cc

-- The words name one socket and one file.
one_socket : (words : List (List ℕ)) (one other : Choices) → AreChosen words one → AreChosen words other → (one.socket.now ≡ other.socket.now) × (one.authority.now ≡ other.authority.now)
one_socket words one other first second = (some_is one.socket.now other.socket.now (sym first.ask.socket ∙ second.ask.socket), some_is one.authority.now other.authority.now (sym first.ask.authority ∙ second.ask.authority))

-- What is said of the file that these choices name is said of the one that lets the client in.
the_file : (words : List (List ℕ)) (files : Option (List (List ℕ × List ℕ))) (cookie : Cookie) (choices : Choices) (Holds : List ℕ → Type 0) (lets : LetsIn words files cookie) → AreChosen words choices → FileIs files choices.authority.now Holds → Holds lets.bytes
the_file words files cookie choices Holds lets chosen file =
    let fetched : Fetches {E = Failure} (Some lets.told) choices.authority.now (Ok file.bytes) = rw lets.files_are at file.fetched in
    let same : file.bytes ≡ lets.bytes = some_is file.bytes lets.bytes (sym fetched ∙ (ap (λ (path : List ℕ). file_at path lets.told) (one_socket words choices lets.choices chosen lets.chosen).1 ∙ lets.found)) in
    subst Holds same file.holds

has_here : (words : List (List ℕ)) (files : Option (List (List ℕ × List ℕ))) (cookie : Cookie) (choices : Choices) (lets : LetsIn words files cookie) → AreChosen words choices → HasCookie choices.socket.now lets.bytes cookie
has_here words files cookie choices lets chosen = subst (λ (socket : List ℕ). HasCookie socket lets.bytes cookie) (one_socket words lets.choices choices lets.chosen chosen).0 lets.has

-- ---- effects

heard_effects : (es : List Entry) → heard (effects_in es) ≡ map received (heard_in es)
heard_effects [] = refl
heard_effects (Hears bytes ∷ es) = ap (λ (events : List Event). received bytes ∷ events) (heard_effects es)
heard_effects (Says message ∷ es) = heard_effects es
heard_effects (AsksSave ask answer ∷ es) = heard_effects es
heard_effects (AsksReasons reasons ∷ es) = heard_effects es
heard_effects (TellsCancelled ∷ es) = heard_effects es
heard_effects (Notes line ∷ es) = heard_effects es

heard_printed : (texts : List (List ℕ)) → heard (map Printed texts) ≡ []
heard_printed [] = refl
heard_printed (text ∷ texts) = heard_printed texts

no_line : (effects : List Effect) → Tries None effects → effects ≡ []
no_line effects tries = tries.printed ∙ ap (map Printed) tries.tried

-- ---- the client's end

-- A client that joined, and whose lines were printed, came to its end so.
module _ (words : List (List ℕ)) (cookie : Cookie) (old new : Outside) (turns status : ℕ) (effects first last : List Effect) (ending : Ending) (choices : Choices) (chosen : AreChosen words choices) (number : status ≡ status_by fault_status ending) (parts : effects ≡ first ++ last) (tried : Tries (line_by fault_line ending) last) where
  -- all was done, and the ending has no line
  came : (joined : Joined choices old new turns ending first) → joined.cookie ≡ cookie → IsOk joined.printed → failure_of joined.answer ≡ None → line_by fault_line ending ≡ None → Follows (AnswersBy choices) NoReasons Listens joined.joins.does.done (remembers false) (remembers joined.last) → IsEndStatus status (run_after (start joined.cookie choices.id.now choices.saves) joined.joins.cames).keeper.ending (length joined.joins.cames) turns → ComesToItsEnd words cookie turns status effects
  came joined same printed whole silent follows ends =
      let does = joined.joins.does in
      let all : List Entry = script joined.cookie choices.id.now choices.saves joined.joins.cames in
      let done : does.done ≡ all = sym (append-nil does.done) ∙ (ap (λ (es : List Entry). does.done ++ es) (sym (does.none_left whole)) ∙ does.parts) in
      let said : joined.first ≡ effects_in all = some_is joined.first (effects_in does.done) does.told ∙ ap effects_in done in
      let noted : joined.lines ≡ lines_in all = does.lines ∙ ap lines_in done in
      let prints = joined.prints in
      let texts : prints.done ≡ joined.lines = sym (append-nil prints.done) ∙ (ap (λ (ls : List (List ℕ)). prints.done ++ ls) (sym (prints.all printed)) ∙ prints.parts) in
      let lines : joined.after ≡ map Printed (map line (lines_in all)) = prints.printed ∙ ap (λ (ls : List (List ℕ)). map Printed (map line ls)) (texts ∙ noted) in
      let nothing : last ≡ [] = no_line last (rw silent at tried) in
      let both : joined.first ++ joined.after ≡ effects_in all ++ map Printed (map line (lines_in all)) = rw (said, lines) refl in
      let is : effects ≡ effects_in all ++ map Printed (map line (lines_in all)) = parts ∙ (ap (λ (es : List Effect). first ++ es) nothing ∙ (append-nil first ∙ (joined.parts ∙ both))) in
      let heards : heard effects ≡ map received (bytes_in joined.joins.cames) =
      ap heard is ∙ (flat_map-append event_of (effects_in all) (map Printed (map line (lines_in all))) ∙ (ap (λ (events : List Event). heard (effects_in all) ++ events) (heard_printed (map line (lines_in all))) ∙ (append-nil (heard (effects_in all)) ∙ (heard_effects all ∙ ap (map received) (ap heard_in (sym done) ∙ joined.joins.heard)))))
      in
      subst (λ (c : Cookie). ComesToItsEnd words c turns status effects) same (record {
        choices = choices;
        chosen = chosen;
        cames = joined.joins.cames;
        heard_are = heards;
        last = joined.last;
        answered = subst (λ (es : List Entry). Follows (AnswersBy choices) NoReasons Listens es (remembers false) (remembers joined.last)) done follows;
        done = is;
        in_turns = joined.joins.in_turns;
        ends = ends;
      })

  abbrev place_of : Joined choices old new turns ending first → Option ClientEnding
  place_of joined = (run_after (start joined.cookie choices.id.now choices.saves) joined.joins.cames).keeper.ending

  printed_end : (joined : Joined choices old new turns ending first) (x : Unit {0}) (answer : Result ClientEnd JoinFault) → joined.printed ≡ Ok x → joined.answer ≡ answer → ending ≡ end_of answer
  printed_end joined x answer printed is = joined.ends ∙ (ap (λ p. after_printing p (end_of joined.answer)) printed ∙ ap end_of is)

  -- The client came to an end of its script.
  came_to : (joined : Joined choices old new turns ending first) (x : Unit {0}) (answer : Result ClientEnd JoinFault) → joined.cookie ≡ cookie → joined.printed ≡ Ok x → joined.answer ≡ answer → failure_of answer ≡ None → line_by fault_line (end_of answer) ≡ None → Follows (AnswersBy choices) NoReasons Listens joined.joins.does.done (remembers false) (remembers joined.last) → (end : ClientEnding) × (place_of joined ≡ Some end) × (answer ≡ client_answer end) → ComesToItsEnd words cookie turns status effects
  came_to joined x answer same printed is whole silent follows over =
      let ends : ending ≡ end_of answer = printed_end joined x answer printed is in
      came joined same (rw printed refl) (ap failure_of is ∙ whole) (ap (line_by fault_line) ends ∙ silent) follows (inl (over.0, over.1, number ∙ ap (status_by fault_status) (ends ∙ ap end_of over.2)))

  answered_by : (joined : Joined choices old new turns ending first) (answer : Result ClientEnd JoinFault) → joined.answer ≡ answer → Follows (AnswersIn answer choices) NoReasons Listens joined.joins.does.done (remembers false) (remembers joined.last)
  answered_by joined answer is = subst (λ (a : Result ClientEnd JoinFault). Follows (AnswersIn a choices) NoReasons Listens joined.joins.does.done (remembers false) (remembers joined.last)) is joined.joins.does.follows

  is_end : (joined : Joined choices old new turns ending first) (answer : Result ClientEnd JoinFault) → joined.answer ≡ answer → IsAnswer answer (place_of joined) (length joined.joins.cames) turns joined.joins.does.left
  is_end joined answer is = subst (λ (a : Result ClientEnd JoinFault). IsAnswer a (place_of joined) (length joined.joins.cames) turns joined.joins.does.left) is joined.joins.answer

  silent_end : (end : ClientEnd) → line_by fault_line (end_of (Ok end)) ≡ None
  silent_end Died = refl
  silent_end Closed = refl
  silent_end (HasEnded phase) = refl

  ended : (joined : Joined choices old new turns ending first) → joined.cookie ≡ cookie → NoneRose old.faults new.faults → (printed : Result (Unit {0}) Failure) → joined.printed ≡ printed → (answer : Result ClientEnd JoinFault) → joined.answer ≡ answer → ComesToItsEnd words cookie turns status effects ⊎ (status ≡ 10)
  ended joined same none (Err Failed) printed answer is = absurd (none.console (joined.cause printed))
  ended joined same none (Err DeviceMemory) printed answer is = inr (number ∙ ap (status_by fault_status) (joined.ends ∙ ap (λ p. after_printing p (end_of joined.answer)) printed))
  ended joined same none (Ok x) printed (Ok end) is = inl (came_to joined x (Ok end) same printed is refl (silent_end end) (answered_by joined (Ok end) is) (is_end joined (Ok end) is))
  ended joined same none (Ok x) printed (Err LinkFault) is = absurd (none.links (subst (λ (a : Result ClientEnd JoinFault). IsCaused old.faults new.faults (failure_of a)) is joined.joins.does.cause))
  ended joined same none (Ok x) printed (Err (IsRefused class)) is = inl (came_to joined x (Err (IsRefused class)) same printed is refl refl (answered_by joined (Err (IsRefused class)) is) (is_end joined (Err (IsRefused class)) is))
  ended joined same none (Ok x) printed (Err (IsMalformed at)) is = inl (came_to joined x (Err (IsMalformed at)) same printed is refl refl (answered_by joined (Err (IsMalformed at)) is) (is_end joined (Err (IsMalformed at)) is))
  ended joined same none (Ok x) printed (Err IsSpent) is =
      let ends : ending ≡ Err Spent = printed_end joined x (Err IsSpent) printed is in
      let spent = is_end joined (Err IsSpent) is in
      inl (came joined same (rw printed refl) (ap failure_of is) (ap (line_by fault_line) ends) (answered_by joined (Err IsSpent) is) (inr (spent.1, spent.0, number ∙ ap (status_by fault_status) ends)))
  ended joined same none (Ok x) printed (Err IsMissing) is = inr (number ∙ ap (status_by fault_status) (printed_end joined x (Err IsMissing) printed is))

  -- A call that stopped before the client said anything stopped for want of memory.
  stopped : (lets : LetsIn words old.files cookie) → NoneRose old.faults new.faults → (fault : Fault) → ending ≡ Err fault → IsEarly choices old new fault → status ≡ 10
  stopped lets none BadWords is early = absurd early
  stopped lets none Refused is early = absurd early
  stopped lets none StreamEnded is early = absurd early
  stopped lets none NoEntry is early = absurd (has_none choices.socket.now lets.bytes cookie (has_here words old.files cookie choices lets chosen) (the_file words old.files cookie choices (HasNone choices.socket.now) lets chosen early))
  stopped lets none Link is early = absurd (none.links early)
  stopped lets none Console is early = absurd early
  stopped lets none Spent is early = absurd early
  stopped lets none NoMemory is early = number ∙ ap (status_by fault_status) is
  stopped lets none Malformed is early = absurd early

  by_run : (lets : LetsIn words old.files cookie) → NoneRose old.faults new.faults → RunsBy choices old new turns ending first → ComesToItsEnd words cookie turns status effects ⊎ (status ≡ 10)
  by_run lets none (inl joined) =
      let same : joined.cookie ≡ cookie = one_cookie choices.socket.now lets.bytes joined.cookie cookie (the_file words old.files cookie choices (λ bytes. HasCookie choices.socket.now bytes joined.cookie) lets chosen joined.file) (has_here words old.files cookie choices lets chosen) in
      ended joined same none joined.printed refl joined.answer refl
  by_run lets none (inr early) = inr (stopped lets none early.0 early.1 early.2)

ran : {A B C : Type 0} → A ⊎ (B × C) → A ⊎ B
ran (inl a) = inl a
ran (inr b) = inr b.0

-- what a run of good words did
good_words : (words : List (List ℕ)) (old new : Outside) (turns : ℕ) (ending : Ending) (effects : List Effect) → (AreBad words → ⊥) → Runs words old new turns ending effects → ((choices : Choices) × AreChosen words choices × RunsBy choices old new turns ending effects) ⊎ (ending ≡ Err NoMemory)
good_words words old new turns (Err BadWords) effects good runs = absurd (good runs.0)
good_words words old new turns (Ok x) effects good runs = ran runs
good_words words old new turns (Err Refused) effects good runs = ran runs
good_words words old new turns (Err StreamEnded) effects good runs = ran runs
good_words words old new turns (Err NoEntry) effects good runs = ran runs
good_words words old new turns (Err Link) effects good runs = ran runs
good_words words old new turns (Err Console) effects good runs = ran runs
good_words words old new turns (Err Spent) effects good runs = ran runs
good_words words old new turns (Err NoMemory) effects good runs = ran runs
good_words words old new turns (Err Malformed) effects good runs = ran runs

pub complete : CallsComplete
complete words cookie old new turns status effects lets none answers =
    by (good_words words old new turns answers.ending answers.first (not_bad words lets.choices lets.chosen) answers.ran)
  where
    by : ((choices : Choices) × AreChosen words choices × RunsBy choices old new turns answers.ending answers.first) ⊎ (answers.ending ≡ Err NoMemory) → ComesToItsEnd words cookie turns status effects ⊎ (status ≡ 10)
    by (inl ran) = by_run words cookie old new turns status effects answers.first answers.last answers.ending ran.0 ran.1 answers.number answers.parts answers.tried lets none ran.2
    by (inr memory) = inr (answers.number ∙ ap (status_by fault_status) memory)
