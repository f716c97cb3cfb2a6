-- The run over a trace's events, and how many lines are left.
use Rattle.std.proofs.Common.{◌≡◌, ℕ, ◌≤◌, List, [], ◌∷◌, ◌++◌, length, drop, Option, None, Some, refl, sym, ◌∙◌, ap, subst, arith, length-append}
use Rattle.std.specs.Prelude.{unwrap_or}
use Rattle.std.proofs.lemmas.List.{length-drop}
use Rattle.sm_world.specs.Outside.{Outside}
use Rattle.sm_world.specs.declared.effects.Effect.{Effect}
use Rattle.sm_world.specs.declared.events.Event.{Event}
use Rattle.checkpoint_records.specs.Books.{choose, default_name, empty_book}
use Rattle.checkpoint_records.specs.Rules.{IsName, KeepsRules}
use Rattle.checkpoint_records.specs.declared.records.Book.{Book}
use Rattle.checkpoint_records.proofs.ChoiceLaws.{empty_keeps}
use Rattle.checkpoint_records.proofs.NameLaws.{default_fits}
use Rattle.session_engine.specs.Carries.{run}
use Rattle.session_engine.specs.Doing.{items}
use Rattle.session_engine.specs.declared.config.Config.{Config}
use Rattle.session_in_memory.specs.Lines.{run_lines}
use Rattle.trace_replay.specs.Openings.{BeginWith, SaysBook, SaysSession, behind_opening, size_of}
use Rattle.trace_replay.specs.declared.opening.Opening.{Opening}
use Rattle.trace_replay.proofs.OpeningLemmas.{behind_is}
use Rattle.session_replay.specs.Comparing.{PartWith}
use Rattle.session_replay.specs.Running.{HasRun, or_else}

-- a book that a trace can open with keeps the rules
pub opened_keeps : (lines : List (List ℕ)) (book : Option Book) → BeginWith SaysBook lines book → KeepsRules (or_else empty_book book)
opened_keeps lines None begins = empty_keeps
opened_keeps [] (Some book) begins = absurd begins
opened_keeps (line ∷ lines) (Some book) (field, is, means) = means.spells.1.rules

-- and has that session chosen which is called where no name is said
pub opened_chosen : (lines : List (List ℕ)) (book : Option Book) → BeginWith SaysBook lines book → (or_else empty_book book).name ≡ default_name
opened_chosen lines None begins = refl
opened_chosen [] (Some book) begins = absurd begins
opened_chosen (line ∷ lines) (Some book) (field, is, means) = means.spells.1.chosen

-- its session has a name
pub opened_named : (lines : List (List ℕ)) (session : Option (List ℕ)) → BeginWith SaysSession lines session → IsName (unwrap_or session default_name)
opened_named lines None begins = default_fits
opened_named [] (Some name) begins = absurd begins
opened_named (line ∷ lines) (Some name) (field, is, means) = means.1

-- no more lines are left than there are
pub few_left : (opening : Opening) (lines behind made : List (List ℕ)) (n : ℕ) → behind ≡ behind_opening opening lines → PartWith made behind n → n ≤ length lines
few_left opening lines behind made n is (left, part, number) =
    omega (arith, number, ap length part.goes_on.parts, length-append part.goes_on.front left, ap length is, ap length (behind_is opening lines), length-drop (size_of opening) lines)

some_is : (one other : List Effect) → ◌≡◌ {A = Option (List Effect)} (Some one) (Some other) → one ≡ other
some_is one other e = cc

-- the lines of what the world tells are those of the machine
pub lines_are : (config named : Config) (book opened : Book) (events : List Event) (effects : List Effect) (outside : Outside) → Some effects ≡ outside.told → HasRun config (choose config.session book) events outside → config ≡ named → book ≡ opened → run_lines (items effects) ≡ run_lines (run named (choose named.session opened) events)
lines_are config named book opened events effects outside told has is is' =
    ap run_lines (ap items (some_is effects has.effects (told ∙ has.told)) ∙ (has.in_order ∙ (ap (λ (c : Config). run c (choose c.session book) events) is ∙ ap (λ (b : Book). run named (choose named.session b) events) is')))
