-- What is done in a run fits: messages and Errors into a frame, and books into the store.
use Rattle.std.proofs.Common.{◌≡◌, ◌<◌, ◌≤◌, length, List, [], ◌∷◌, ◌++◌, arith, subst, sym}
use Rattle.checkpoint_records.specs.Rules.{KeepsRules}
use Rattle.session_model.specs.declared.events.Act.{Act}
use Rattle.session_model.specs.declared.events.SessionEvent.{SessionEvent}
use Rattle.session_model.specs.Moves.{Blamed, Committed, Gave, History, Move, Opened, Opening, acts_of, all_acts, ◌▷◌}
use Rattle.session_model.specs.Reading.{reading}
use Rattle.session_model.specs.Rules.{Takes, opened, taken}
use Rattle.session_model.specs.Laws.{EachMove, IsShort, IsWritten}
use Rattle.session_model.proofs.Pending.{all-append}
use Rattle.session_model.proofs.TidyRun.{messages-fit}
use Rattle.session_model.proofs.WholeReply.{books-keep}
use Rattle.session_state.specs.Stands.{IsMade}
use Rattle.session_state.proofs.Made.{made-opened, made-taken}
use Rattle.manager_machine.specs.Keeper.{AreFit, IsFit}

move-fit : (m : Move) → IsShort m → IsWritten m → AreFit (acts_of m)
move-fit (Gave c message) a b = (a, tt)
move-fit (Blamed c error) a b = (a, tt)
move-fit (Committed book) a b = (b, tt)
move-fit m a b = grind arith

each-fit : (h : History) → EachMove IsShort h → EachMove IsWritten h → AreFit (all_acts h)
each-fit (Opened opening) a b = tt
each-fit (m ▷ h) a b = all-append IsFit (all_acts h) (acts_of m) (each-fit h a.1 b.1) (move-fit m a.0 b.0)

pub fit-made : (h : History) → IsMade h → AreFit (all_acts h)
fit-made h m =
    each-fit h (subst (λ (g : History). EachMove IsShort g) (sym m.is) (messages-fit m.opening m.events m.rules))
    (subst (λ (g : History). EachMove IsWritten g) (sym m.is) (books-keep m.opening m.events m.rules m.few m.below m.takes))

fit-end : (xs ys : List Act) → AreFit (xs ++ ys) → AreFit ys
fit-end [] ys a = a
fit-end (x ∷ xs) ys a = fit-end xs ys a.1

-- what is done about one event
pub fit-taken : (event : SessionEvent) (acts : List Act) (h : History) → IsMade h → Takes event (reading h) → all_acts (taken event h) ≡ all_acts h ++ acts → AreFit acts
fit-taken event acts h m t e = fit-end (all_acts h) acts (subst (λ (xs : List Act). AreFit xs) e (fit-made (taken event h) (made-taken event h m t)))

-- what is done at the start
pub fit-opened : (opening : Opening) (acts : List Act) → KeepsRules opening.book → length opening.book.others ≤ 7 → opening.book.epoch < 4294967295 → acts ≡ all_acts (opened opening) → AreFit acts
fit-opened opening acts k f l e = subst (λ (xs : List Act). AreFit xs) (sym e) (fit-made (opened opening) (made-opened opening k f l))
