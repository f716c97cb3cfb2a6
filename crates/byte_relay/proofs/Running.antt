-- The run of a relay, one event after another.
use Rattle.std.proofs.Common.{◌≡◌, ℕ, suc, ◌<◌, ◌≤◌, Bool, true, false, List, [], ◌∷◌, ◌++◌, map, length, Option, Some, None, Result, Ok, Err, refl, sym, ap, ap₂, ◌∙◌, subst, arith, append_assoc, if◌then◌else◌}
use Rattle.std.specs.Prelude.{◌||◌, IsErrOf, is_ok}
use Rattle.std.proofs.lemmas.List.{append-nil}
use Rattle.std.proofs.lemmas.Grind.{flat_map-append}
use Rattle.sm_world.specs.Effects.{heard, event_of}
use Rattle.sm_world.specs.Outside.{Outside, Added, TakesNext, adds}
use Rattle.sm_world.specs.declared.effects.Effect.{Effect}
use Rattle.sm_world.specs.declared.effects.Effect.TheVariants.{Heard, Sent, Shut}
use Rattle.sm_world.specs.declared.events.Event.{Event}
use Rattle.sm_world.specs.declared.events.Event.TheVariants.{Joined, Piece, Gone, Operator, Tick, End}
use Rattle.sm_world.proofs.Adding.{adds-adds, adds-none}
use Rattle.ice_values.specs.declared.numbers.Endian.{Endian}
use Rattle.byte_relay.specs.Relaying.{Line, Step, partner, stream_of, is_live, is_refused, parted, stays, greetings, joined, joining, shuts, Passed, passed, passing, is_fresh, piece_for, gone, step, is_end, run_from, run, has_end}
use Rattle.ice_framing.specs.Parts.{new_parts}
use Rattle.byte_relay.specs.Rows.{ShowAll}
use Rattle.byte_relay.specs.Serving.{Does, IsOfLinks, Relays, is_whole}
use Rattle.byte_relay.specs.declared.fault.RelayFault.{RelayFault}
use Rattle.byte_relay.specs.declared.fault.RelayFault.TheVariants.{LinkFault, Spent, NoMemory}
use Rattle.byte_relay.specs.declared.row.Row.{Row}
use Rattle.heard_events.specs.Brought.{IsPrefix, BroughtSoFar}
use Rattle.heard_events.proofs.Bringing.{brought_none, brought_more, brought_is, length-more}

-- ---- what is done about an event isn't heard

heard_of : (es ds : List Effect) → heard (es ++ ds) ≡ heard es ++ heard ds
heard_of es ds = flat_map-append event_of es ds

deaf_if : (b : Bool) (s t : Step) → heard s.line ≡ [] → heard t.line ≡ [] → heard (if b then s else t).line ≡ []
deaf_if true s t deaf other = deaf
deaf_if false s t deaf other = other

deaf_line : (b : Bool) (es ds : List Effect) → heard es ≡ [] → heard ds ≡ [] → heard (if b then es else ds) ≡ []
deaf_line true es ds deaf other = deaf
deaf_line false es ds deaf other = other

deaf_sent : (other : ℕ) (messages : List (List ℕ)) → heard (map (Sent other) messages) ≡ []
deaf_sent other [] = refl
deaf_sent other (message ∷ messages) = deaf_sent other messages

deaf_joined : (to : Endian) (c : ℕ) (ls : List Line) → heard (joined to c ls).line ≡ []
deaf_joined to c ls =
    deaf_if (is_live c ls) (stays ls) (if is_refused c ls then record { line = Shut c ∷ []; next = ls } else joining to c ls) refl
    (deaf_if (is_refused c ls) (record { line = Shut c ∷ []; next = ls }) (joining to c ls) refl (deaf_line (is_live (partner c) ls) (greetings to c) [] refl refl))

deaf_passing : (to : Endian) (c : ℕ) (bytes : List ℕ) (p : Passed) (ls : List Line) → heard (passing to c bytes p ls).line ≡ []
deaf_passing to c bytes p ls =
    heard_of (map (Sent (partner c)) p.messages) (if p.broken then shuts c else []) ∙ ap₂ (λ (xs ys : List Event). xs ++ ys) (deaf_sent (partner c) p.messages) (deaf_line p.broken (shuts c) [] refl refl)

deaf_piece : (to : Endian) (c : ℕ) (bytes : List ℕ) (stream : Option (List ℕ)) (ls : List Line) → heard (piece_for to c bytes stream ls).line ≡ []
deaf_piece to c bytes None ls = refl
deaf_piece to c bytes (Some stream) ls =
    deaf_if (is_live (partner c) ls) (passing to c bytes (passed to (is_fresh stream) (new_parts stream bytes)) ls) (record { line = Shut c ∷ []; next = parted c ls }) (deaf_passing to c bytes (passed to (is_fresh stream) (new_parts stream bytes)) ls) refl

deaf_gone : (c : ℕ) (ls : List Line) → heard (gone c ls).line ≡ []
deaf_gone c ls =
    deaf_if (is_live c ls) (record { line = if is_live (partner c) ls then Shut (partner c) ∷ [] else []; next = parted c ls }) (stays ls) (deaf_line (is_live (partner c) ls) (Shut (partner c) ∷ []) [] refl refl) refl

deaf : (to : Endian) (ls : List Line) (event : Event) → heard (step to ls event).line ≡ []
deaf to ls (Joined c) = deaf_joined to c ls
deaf to ls (Piece c bytes) = deaf_piece to c bytes (stream_of c ls) ls
deaf to ls (Gone c) = deaf_gone c ls
deaf to ls (Operator order) = refl
deaf to ls (Tick milliseconds) = refl
deaf to ls End = refl

no_front : (es ds : List Event) → es ++ ds ≡ [] → es ≡ []
no_front [] ds is = refl
no_front (e ∷ es) ds is = absurd cc

-- neither is part of it
deaf_front : (to : Endian) (ls : List Line) (event : Event) (done : List Effect) → IsPrefix done (step to ls event).line → heard done ≡ []
deaf_front to ls event done front = no_front (heard done) (heard front.0) (sym (heard_of done front.0) ∙ (ap heard front.1 ∙ deaf to ls event))

-- ---- one event more

-- the live connections behind some events
abbrev pub after_all : Endian → List Line → List Event → List Line
after_all to ls [] = ls
after_all to ls (event ∷ events) = after_all to (step to ls event).next events

after_more : (to : Endian) (ls : List Line) (events : List Event) (event : Event) → after_all to ls (events ++ event ∷ []) ≡ (step to (after_all to ls events) event).next
after_more to ls [] event = refl
after_more to ls (e ∷ events) event = after_more to (step to ls e).next events event

pub neither : (a b : Bool) → (a || b) ≡ false → (a ≡ false) × (b ≡ false)
neither true b is = absurd cc
neither false b is = (refl, is)

nothing_more : (b : Bool) → (if b then [] else []) ≡ (λ (es : List Effect). es) []
nothing_more true = refl
nothing_more false = refl

run_more : (to : Endian) (ls : List Line) (events : List Event) (event : Event) → has_end events ≡ false → run_from to ls (events ++ event ∷ []) ≡ run_from to ls events ++ Heard event ∷ (step to (after_all to ls events) event).line
run_more to ls [] event unended = ap (λ (es : List Effect). Heard event ∷ ((step to ls event).line ++ es)) (nothing_more (is_end event)) ∙ ap (λ (es : List Effect). Heard event ∷ es) (append-nil (step to ls event).line)
run_more to ls (e ∷ events) event unended =
    let both = neither (is_end e) (has_end events) unended in
    let s : Step = step to ls e in
    rw both.0 (
    ap (λ (es : List Effect). Heard e ∷ (s.line ++ es)) (run_more to s.next events event both.1)
    ∙ ap (λ (es : List Effect). Heard e ∷ es) (sym (append_assoc s.line (run_from to s.next events) (Heard event ∷ (step to (after_all to s.next events) event).line)))
    )

alone : (b : Bool) → (b || false) ≡ b
alone true = refl
alone false = refl

end_more : (events : List Event) (event : Event) → has_end events ≡ false → has_end (events ++ event ∷ []) ≡ is_end event
end_more [] event unended = alone (is_end event)
end_more (e ∷ events) event unended = let both = neither (is_end e) (has_end events) unended in rw both.0 (end_more events event both.1)

-- nothing is done about the last
end_does : (to : Endian) (ls : List Line) (event : Event) → is_end event ≡ true → (step to ls event).line ≡ []
end_does to ls (Joined c) ends = absurd cc
end_does to ls (Piece c bytes) ends = absurd cc
end_does to ls (Gone c) ends = absurd cc
end_does to ls (Operator order) ends = absurd cc
end_does to ls (Tick milliseconds) ends = absurd cc
end_does to ls End ends = refl

cut_whole : (fault : RelayFault) → IsOfLinks fault → is_whole (Err fault) ≡ true → ⊥
cut_whole LinkFault of_links whole = absurd cc
cut_whole Spent of_links whole = of_links
cut_whole NoMemory of_links whole = absurd cc

-- ---- the loop

-- so many events were heard, and all that they bring was done
pub record InLoop (to : Endian) (old now : Outside) (n : ℕ) (rows : List Row) : Type 0 where
  pub effects : List Effect
  pub added : now.told ≡ adds old.told effects
  pub on_run : effects ≡ run to (heard effects)
  pub unended : has_end (heard effects) ≡ false
  pub count : length (heard effects) ≡ n
  pub shows : ShowAll rows (after_all to [] (heard effects))
  pub brought : BroughtSoFar old.coming now.coming (heard effects)

pub loop_begins : (to : Endian) (old : Outside) (rows : List Row) → rows ≡ [] → InLoop to old old 0 rows
loop_begins to old rows none = record {
  effects = [];
  added = sym (adds-none old.told);
  on_run = refl;
  unended = refl;
  count = refl;
  shows = rw none tt;
  brought = brought_none old.coming;
}

module _ (to : Endian) (old now : Outside) (n turns : ℕ) (rows : List Row) (l : InLoop to old now n rows) where
  -- the run ends without another event
  stops_here : (told : Option (List Effect)) → told ≡ now.told → (answer : Result (Unit {0}) RelayFault) → false ≡ is_ok answer → n ≤ turns → (IsErrOf answer Spent → n ≡ turns) → Added old.told told (Relays to turns old.coming answer)
  stops_here told same answer bad within spent = record {
    effects = l.effects;
    added = same ∙ l.added;
    holds = record {
      on_run = ([], append-nil l.effects ∙ l.on_run);
      all_done = λ whole. l.on_run;
      ended = l.unended ∙ bad;
      brought = brought_is old.coming now.coming (heard l.effects) l.brought;
      in_turns = omega (arith, l.count, within);
      spent = λ is. l.count ∙ spent is;
    };
  }

  pub loop_over : n ≤ turns → turns ≤ n → Added old.told now.told (Relays to turns old.coming (Err Spent))
  loop_over within all = stops_here now.told refl (Err Spent) refl within (λ is. omega (arith, within, all))

  links_only : (fault : RelayFault) → IsOfLinks fault → IsErrOf {T = Unit {0}} (Err fault) Spent → ⊥
  links_only LinkFault of_links is = absurd cc
  links_only Spent of_links is = of_links
  links_only NoMemory of_links is = absurd cc

  pub loop_silent : (next : Outside) (fault : RelayFault) → next.told ≡ adds now.told [] → IsOfLinks fault → n < turns → Added old.told next.told (Relays to turns old.coming (Err fault))
  loop_silent next fault told of_links below = stops_here next.told (told ∙ adds-none now.told) (Err fault) refl (omega (arith, below)) (λ is. absurd (links_only fault of_links is))

  module _ (next : Outside) (event : Event) (told : next.told ≡ adds now.told (Heard event ∷ [])) (takes : TakesNext {E = RelayFault} now.coming next.coming (Ok event)) where
    abbrev lines : List Line
    lines = after_all to [] (heard l.effects)

    abbrev all : List Effect → List Effect
    all done = l.effects ++ Heard event ∷ done

    heard_all : (done : List Effect) → heard done ≡ [] → heard (all done) ≡ heard l.effects ++ event ∷ []
    heard_all done quiet = heard_of l.effects (Heard event ∷ done) ∙ ap (λ (es : List Event). heard l.effects ++ event ∷ es) quiet

    added_all : (last : Option (List Effect)) (done : List Effect) → last ≡ adds next.told done → last ≡ adds old.told (all done)
    added_all last done is =
        is
        ∙ (ap (λ (t : Option (List Effect)). adds t done) (told ∙ (ap (λ (t : Option (List Effect)). adds t (Heard event ∷ [])) l.added ∙ adds-adds old.told l.effects (Heard event ∷ [])))
        ∙ (adds-adds old.told (l.effects ++ Heard event ∷ []) done ∙ ap (adds old.told) (append_assoc l.effects (Heard event ∷ []) done)))

    run_all : (done : List Effect) → heard done ≡ [] → run to (heard (all done)) ≡ all (step to lines event).line
    run_all done quiet = ap (run to) (heard_all done quiet) ∙ (run_more to [] (heard l.effects) event l.unended ∙ ap (λ (es : List Effect). es ++ Heard event ∷ (step to lines event).line) (sym l.on_run))

    brought_all : (done : List Effect) → heard done ≡ [] → BroughtSoFar old.coming next.coming (heard (all done))
    brought_all done quiet = subst (BroughtSoFar old.coming next.coming) (sym (heard_all done quiet)) (brought_more RelayFault old.coming now.coming next.coming (heard l.effects) event l.brought takes)

    count_all : (done : List Effect) → heard done ≡ [] → length (heard (all done)) ≡ suc n
    count_all done quiet = ap length (heard_all done quiet) ∙ (length-more (heard l.effects) event ∙ ap suc l.count)

    end_all : (done : List Effect) → heard done ≡ [] → has_end (heard (all done)) ≡ is_end event
    end_all done quiet = ap has_end (heard_all done quiet) ∙ end_more (heard l.effects) event l.unended

    -- all that the event brings is done
    pub loop_goes_on : (last : Outside) (m : ℕ) (left : List Row) → m ≡ suc n → false ≡ is_end event → last.coming ≡ next.coming → Does {A = Unit {0}} next last (step to lines event).line (Ok tt) → ShowAll left (step to lines event).next → InLoop to old last m left
    loop_goes_on last m left more goes same does shows =
        let quiet : heard does.added.effects ≡ [] = ap heard does.added.holds ∙ deaf to lines event in
        record {
          effects = all does.added.effects;
          added = added_all last.told does.added.effects does.added.added;
          on_run = ap all does.added.holds ∙ sym (run_all does.added.effects quiet);
          unended = end_all does.added.effects quiet ∙ sym goes;
          count = count_all does.added.effects quiet ∙ sym more;
          shows = subst (λ (es : List Event). ShowAll left (after_all to [] es)) (sym (heard_all does.added.effects quiet)) (subst (ShowAll left) (sym (after_more to [] (heard l.effects) event)) shows);
          brought = rw same (brought_all does.added.effects quiet);
        }

    -- a fault cuts it short
    pub loop_cut_short : (last : Outside) (fault : RelayFault) → false ≡ is_end event → n < turns → IsOfLinks fault → Does {A = Unit {0}} next last (step to lines event).line (Err fault) → Added old.told last.told (Relays to turns old.coming (Err fault))
    loop_cut_short last fault goes below of_links does =
        let done = does.added.effects in
        let quiet : heard done ≡ [] = deaf_front to lines event done does.added.holds in
        record {
          effects = all done;
          added = added_all last.told done does.added.added;
          holds = record {
            on_run = (does.added.holds.0, append_assoc l.effects (Heard event ∷ done) does.added.holds.0 ∙ (ap all does.added.holds.1 ∙ sym (run_all done quiet)));
            all_done = λ whole. absurd (cut_whole fault of_links whole);
            ended = end_all done quiet ∙ sym goes;
            brought = brought_is old.coming next.coming (heard (all done)) (brought_all done quiet);
            in_turns = omega (arith, count_all done quiet, below);
            spent = λ is. absurd (links_only fault of_links is);
          };
        }

    -- the event is the last
    pub loop_ends : true ≡ is_end event → n < turns → Added old.told next.told (Relays to turns old.coming (Ok tt))
    loop_ends ends below =
        let whole : all [] ≡ run to (heard (all [])) = sym (run_all [] refl ∙ ap all (end_does to lines event (sym ends))) in
        record {
          effects = all [];
          added = added_all next.told [] (sym (adds-none next.told));
          holds = record {
            on_run = ([], append-nil (all []) ∙ whole);
            all_done = λ ok. whole;
            ended = end_all [] refl ∙ sym ends;
            brought = brought_is old.coming next.coming (heard (all [])) (brought_all [] refl);
            in_turns = omega (arith, count_all [] refl, below);
            spent = λ is. absurd cc;
          };
        }
