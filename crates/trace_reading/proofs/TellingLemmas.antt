-- A trace that is told line by line.
use Rattle.std.proofs.Common.{◌≡◌, ◌≢◌, inl, inr, ℕ, ◌+◌, ◌-◌, ◌^◌, Bool, List, [], ◌∷◌, ◌++◌, length, ◌≤◌, drop, Option, None, nat_eq, false, min, codes, if◌then◌else◌, refl, sym, ◌∙◌, ap, subst, arith, eq-eqb, append_assoc}
use Rattle.std.specs.Ordering.{nat_cmp}
use Rattle.std.specs.BTreeMap.{BTreeMap, get as row_in}
use Rattle.std.proofs.lemmas.List.{append-nil, drop_all}
use Rattle.std.proofs.lemmas.Bool.{cases_eq}
use Rattle.std.proofs.lemmas.Bool.Decides.{nat_tests}
use Rattle.control_lines.specs.Orders.{order_text}
use Rattle.ice_framing.specs.Frames.{cut}
use Rattle.ice_framing.specs.Parts.{Part, parts_of, new_parts}
use Rattle.sm_world.specs.declared.events.Event.TheVariants.{Joined, Piece, Operator, Tick}
use Rattle.sm_world.specs.declared.events.Order.{Order}
use Rattle.trace_replay.specs.Flows.{AreParts}
use Rattle.trace_replay.specs.Shown.{replaced, silence}
use Rattle.trace_replay.specs.Watches.{BringsLine, Shows}
use Rattle.trace_replay.specs.declared.flows.Brought.{Brought}
use Rattle.trace_replay.specs.declared.lines.TraceLine.{TraceLine}
use Rattle.trace_replay.specs.declared.lines.TraceLine.TheVariants.{Heard, End, Sent, Shut, Started}
use Rattle.trace_replay.specs.declared.opening.Opening.{Opening}
use Rattle.trace_replay.specs.declared.watch.Watch.{Watch}
use Rattle.trace_replay.proofs.FlowLemmas.{more_parts}
use Rattle.trace_reading.specs.Lines.{came_told, deed_told, line_at, opening_told, started_told, went_told}
use Rattle.trace_reading.specs.Programs.{after_parts}
use Rattle.trace_reading.specs.Told.{Scene, first_scene, known_on, line_told, scene_behind, told, told_from}
use Rattle.trace_reading.specs.Tellers.{CameTold, GoesOn, GoesOnWith, Notices, Stands, Tells, TellsCame, TellsLine, ToldCame}
use Rattle.trace_reading.specs.declared.telling.Notes.{Notes}
use Rattle.trace_reading.specs.declared.telling.Teller.{Teller}
use Rattle.trace_reading.proofs.PartLemmas.{after_parts-append}

-- ---- what is known of a stream

known-here : (streams : ℕ → List ℕ) (n : ℕ) (stream : List ℕ) → after_parts None (parts_of (replaced streams n stream n)) ≡ after_parts None (parts_of stream)
known-here streams n stream = rw (eq-eqb n n refl) refl

known-elsewhere : (streams : ℕ → List ℕ) (n : ℕ) (stream : List ℕ) (q : ℕ) → q ≢ n → after_parts None (parts_of (replaced streams n stream q)) ≡ after_parts None (parts_of (streams q))
known-elsewhere streams n stream q apart = let elsewhere : nat_eq q n ≡ false = grind (arith, nat_tests) in rw elsewhere refl

-- a piece may say a program
known-more : (stream piece : List ℕ) → after_parts None (parts_of (stream ++ piece)) ≡ after_parts (after_parts None (parts_of stream)) (new_parts stream piece)
known-more stream piece = ap (after_parts None) (more_parts stream piece) ∙ after_parts-append None (parts_of stream) (new_parts stream piece)

-- ---- one line

-- what a piece made known is kept
pub keeps : (n clock : ℕ) (parts : List Part) (before after : BTreeMap ℕ (List ℕ)) (known program : Option (List ℕ)) (old new : List ℕ) → known ≡ row_in nat_cmp before n → ((q : ℕ) → row_in nat_cmp after q ≡ (if nat_eq q n then program else row_in nat_cmp before q)) → ToldCame clock n known parts program old new → CameTold n parts (record { programs = before; clock = clock }) (record { programs = after; clock = clock }) old new
keeps n clock parts before after known program old new is changes told = record {
  clock = refl;
  here = (rw (eq-eqb n n refl) at (changes n)) ∙ (told.program ∙ ap (λ (k : Option (List ℕ)). after_parts k parts) is);
  elsewhere = λ q apart. let elsewhere : nat_eq q n ≡ false = grind (arith, nat_tests) in (rw elsewhere at (changes q));
  lines = told.lines ∙ ap (λ (k : Option (List ℕ)). old ++ came_told clock n k parts) is;
}

pub came : (n : ℕ) (bytes : List ℕ) (brought : Brought) (before after : Notes) (old new : List ℕ) → TellsCame n brought before after old new → TellsLine (Heard (Piece n bytes)) brought before after old new
came n bytes brought before after old new tells = λ scene notices brings.
    let stream : List ℕ = scene.streams.came n in
    let told : CameTold n (new_parts stream bytes) before after old new = tells (new_parts stream bytes) brings.parts in
    record {
      notices = record {
        clock = told.clock ∙ notices.clock;
        programs = λ q. elim (cases_eq q n) [
          | inl here ↦ subst (λ (c : ℕ). row_in nat_cmp after.programs c ≡ known_on (scene_behind scene (Heard (Piece n bytes))) c) (sym here)
              (told.here ∙ (ap (λ (k : Option (List ℕ)). after_parts k (new_parts stream bytes)) (notices.programs n) ∙ sym (known-here scene.streams.came n (stream ++ bytes) ∙ known-more stream bytes)))
          | inr apart ↦ told.elsewhere q apart ∙ (notices.programs q ∙ sym (known-elsewhere scene.streams.came n (stream ++ bytes) q apart))
        ];
      };
      lines = told.lines ∙ (ap (λ (c : ℕ). old ++ came_told c n (row_in nat_cmp before.programs n) (new_parts stream bytes)) notices.clock ∙ ap (λ (k : Option (List ℕ)). old ++ came_told scene.clock n k (new_parts stream bytes)) (notices.programs n));
    }

none-known : after_parts None (parts_of []) ≡ None
unfolding cut
none-known = refl

pub joins : (n clock : ℕ) (brought : Brought) (before after : BTreeMap ℕ (List ℕ)) (old new : List ℕ) → ((q : ℕ) → row_in nat_cmp after q ≡ (if nat_eq q n then None else row_in nat_cmp before q)) → new ≡ old ++ deed_told clock [] n None (codes " joins") → TellsLine (Heard (Joined n)) brought (record { programs = before; clock = clock }) (record { programs = after; clock = clock }) old new
joins n clock brought before after old new changes line = λ scene notices brings. record {
  notices = record {
    clock = notices.clock;
    programs = λ q. elim (cases_eq q n) [
      | inl here ↦ subst (λ (c : ℕ). row_in nat_cmp after c ≡ known_on (scene_behind scene (Heard (Joined n))) c) (sym here)
          ((rw (eq-eqb n n refl) at (changes n)) ∙ sym (known-here scene.streams.came n [] ∙ none-known))
      | inr apart ↦ let elsewhere : nat_eq q n ≡ false = grind (arith, nat_tests) in (rw elsewhere at (changes q)) ∙ (notices.programs q ∙ sym (known-elsewhere scene.streams.came n [] q apart))
    ];
  };
  lines = line ∙ ap (λ (c : ℕ). old ++ deed_told c [] n None (codes " joins")) notices.clock;
}

-- a line that tells of a connection by what is known
deed_at : (scene : Scene) (notes : Notes) (front : List ℕ) (n : ℕ) (back old new : List ℕ) → Notices scene notes → new ≡ old ++ deed_told notes.clock front n (row_in nat_cmp notes.programs n) back → new ≡ old ++ deed_told scene.clock front n (known_on scene n) back
deed_at scene notes front n back old new notices line = line ∙ (ap (λ (c : ℕ). old ++ deed_told c front n (row_in nat_cmp notes.programs n) back) notices.clock ∙ ap (λ (k : Option (List ℕ)). old ++ deed_told scene.clock front n k back) (notices.programs n))

pub shuts : (n : ℕ) (notes : Notes) (brought : Brought) (old new : List ℕ) → new ≡ old ++ deed_told notes.clock (codes "smd shuts ") n (row_in nat_cmp notes.programs n) [] → TellsLine (Shut n) brought notes notes old new
shuts n notes brought old new line = λ scene notices brings. record { notices = record { clock = notices.clock; programs = notices.programs }; lines = deed_at scene notes (codes "smd shuts ") n [] old new notices line }

pub orders : (order : Order) (notes : Notes) (brought : Brought) (old new : List ℕ) → new ≡ old ++ line_at notes.clock (codes "the operator says " ++ order_text order) → TellsLine (Heard (Operator order)) brought notes notes old new
orders order notes brought old new line = λ scene notices brings. record { notices = record { clock = notices.clock; programs = notices.programs }; lines = line ∙ ap (λ (c : ℕ). old ++ line_at c (codes "the operator says " ++ order_text order)) notices.clock }

pub ends : (notes : Notes) (brought : Brought) (old new : List ℕ) → new ≡ old ++ line_at notes.clock (codes "the end") → TellsLine End brought notes notes old new
ends notes brought old new line = λ scene notices brings. record { notices = record { clock = notices.clock; programs = notices.programs }; lines = line ∙ ap (λ (c : ℕ). old ++ line_at c (codes "the end")) notices.clock }

pub starts : (succeeded : Bool) (text : List ℕ) (notes : Notes) (brought : Brought) (old new : List ℕ) → new ≡ old ++ started_told notes.clock succeeded text → TellsLine (Started succeeded text) brought notes notes old new
starts succeeded text notes brought old new line = λ scene notices brings. record { notices = record { clock = notices.clock; programs = notices.programs }; lines = line ∙ ap (λ (c : ℕ). old ++ started_told c succeeded text) notices.clock }

pub sends : (n : ℕ) (bytes : List ℕ) (notes : Notes) (brought : Brought) (old new : List ℕ) → ((parts : List Part) → AreParts brought parts → new ≡ old ++ went_told notes.clock n (row_in nat_cmp notes.programs n) parts) → TellsLine (Sent n bytes) brought notes notes old new
sends n bytes notes brought old new line = λ scene notices brings.
    let parts : List Part = new_parts (scene.streams.went n) bytes in
    record {
      notices = record { clock = notices.clock; programs = notices.programs };
      lines = line parts brings.parts ∙ (ap (λ (c : ℕ). old ++ went_told c n (row_in nat_cmp notes.programs n) parts) notices.clock ∙ ap (λ (k : Option (List ℕ)). old ++ went_told scene.clock n k parts) (notices.programs n));
    }

pub ticks : (milliseconds clock : ℕ) (brought : Brought) (before : Notes) (old : List ℕ) → clock ≡ min (before.clock + milliseconds) (2 ^ 64 - 1) → TellsLine (Heard (Tick milliseconds)) brought before (record { programs = before.programs; clock = clock }) old old
ticks milliseconds clock brought before old is = λ scene notices brings. record {
  notices = record { clock = is ∙ ap (λ (c : ℕ). min (c + milliseconds) (2 ^ 64 - 1)) notices.clock; programs = notices.programs };
  lines = sym (append-nil old);
}

-- ---- all lines

-- before the first line
pub stands_first : (watch : Watch) (programs : BTreeMap ℕ (List ℕ)) → Shows silence watch → ((q : ℕ) → row_in nat_cmp programs q ≡ None) → Stands first_scene (record { watch = watch; notes = record { programs = programs; clock = 0 } })
stands_first watch programs shows none = record { shows = shows; notices = record { clock = refl; programs = λ q. none q ∙ sym none-known } }

-- a line was taken and told
pub goes_on : (said : TraceLine) (before : Teller) (watch : Watch) (notes : Notes) (brought : Brought) (old new : List ℕ) → BringsLine said before.watch watch brought → TellsLine said brought before.notes notes old new → GoesOnWith said before (record { watch = watch; notes = notes }) old new
goes_on said before watch notes brought old new brings tells = λ scene stands.
    let line = brings scene.streams stands.shows in
    let told = tells scene stands.notices line.brings in
    record { stands = record { shows = line.shows; notices = told.notices }; lines = told.lines }

-- In the middle of the lines: the text so far and what is told of the lines that are left are the whole text.
pub record Telling (opening : Opening) (lines : List TraceLine) (i : ℕ) (teller : Teller) (text : List ℕ) : Type 0 where
  pub scene : Scene
  pub stands : Stands scene teller
  pub text_is : text ++ told_from scene (drop i lines) ≡ told opening lines

pub tells_none : (opening : Opening) (lines : List TraceLine) (teller : Teller) (text : List ℕ) → Stands first_scene teller → text ≡ opening_told opening → Telling opening lines 0 teller text
tells_none opening lines teller text stands is = record { scene = first_scene; stands = stands; text_is = ap (λ (front : List ℕ). front ++ told_from first_scene lines) is }

pub tells_on : (opening : Opening) (lines : List TraceLine) (i j : ℕ) (said : TraceLine) (before after : Teller) (text more : List ℕ) → Telling opening lines i before text → drop i lines ≡ said ∷ drop j lines → GoesOnWith said before after text more → Telling opening lines j after more
tells_on opening lines i j said before after text more telling first goes =
    let scene : Scene = telling.scene in
    let on = goes scene telling.stands in
    let rest : List ℕ = told_from (scene_behind scene said) (drop j lines) in
    record {
      scene = scene_behind scene said;
      stands = on.stands;
      text_is = ap (λ (front : List ℕ). front ++ rest) on.lines ∙ (append_assoc text (line_told scene said) rest ∙ (ap (λ (ls : List TraceLine). text ++ told_from scene ls) (sym first) ∙ telling.text_is));
    }

pub tells_all : (opening : Opening) (lines : List TraceLine) (i : ℕ) (teller : Teller) (text : List ℕ) → Telling opening lines i teller text → length lines ≤ i → text ≡ told opening lines
tells_all opening lines i teller text telling all =
    sym (ap (λ (ls : List TraceLine). text ++ told_from telling.scene ls) (drop_all i lines all) ∙ append-nil text) ∙ telling.text_is
