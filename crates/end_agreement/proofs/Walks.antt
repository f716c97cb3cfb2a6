-- Over what the manager may answer, and over what waits for it.
use Rattle.std.proofs.Common.{◌≡◌, refl, Bool, true, false, List, [], ◌∷◌, ℕ, arith}
use Rattle.std.specs.Prelude.{Option, Some, None, is_some}
use Rattle.xsmp_messages.specs.declared.message.XsmpMessage.{XsmpMessage}
use Rattle.xsmp_messages.specs.declared.message.XsmpMessage.TheVariants.{ConnectionClosed, DeleteProperties, GetProperties, InteractDone, RegisterClient, SaveYourselfRequest, SetProperties}
use Rattle.session_model.specs.declared.phase.Phase.{Phase}
use Rattle.session_model.specs.declared.phase.Phase.TheVariants.{Unregistered}
use Rattle.session_model.specs.Phases.{allows, is_interacting, phase_said}
use Rattle.end_agreement.specs.Sides.{Side, at_phase}
use Rattle.end_agreement.specs.Meeting.{EachAnswer, EachCancel, EachEntry, EachNeutral, EachRefusal, Goes}

-- what is said of a side and of answers
abbrev pub Said : Type 1
Said = Side → List XsmpMessage → Type 0

-- What holds of each answer goes on to what follows from it.

refusal-more : (previous : List ℕ) (side : Side) (K L : Said) → ((x : Side) (a : List XsmpMessage) → K x a → L x a) → EachRefusal previous side K → EachRefusal previous side L
refusal-more [] side K L f e = λ error fatal. f _ _ (e error fatal)
refusal-more (b ∷ id) side K L f e = λ error refused. f _ _ (e error refused)

entry-more : (p : Option Phase) (previous : List ℕ) (side : Side) (K L : Said) → ((x : Side) (a : List XsmpMessage) → K x a → L x a) → EachEntry p previous side K → EachEntry p previous side L
entry-more None previous side K L f e = f _ _ e
entry-more (Some Unregistered) previous side K L f e = (λ id. f _ _ (e.0 id), refusal-more previous side K L f e.1)
entry-more (Some p) previous side K L f e = f _ _ e

neutral-more : (side : Side) (K L : Said) → ((x : Side) (a : List XsmpMessage) → K x a → L x a) → EachNeutral side K → EachNeutral side L
neutral-more side K L f e = (f _ _ e.0, λ m neutral. f _ _ (e.1 m neutral))

cancel-more : (b : Bool) (side : Side) (K L : Said) → ((x : Side) (a : List XsmpMessage) → K x a → L x a) → EachCancel b side K → EachCancel b side L
cancel-more true side K L f e = f _ _ e
cancel-more false side K L f e = f _ _ e

pub each-more : (m : XsmpMessage) (side : Side) (K L : Said) → ((x : Side) (a : List XsmpMessage) → K x a → L x a) → EachAnswer m side K → EachAnswer m side L
each-more (RegisterClient previous) side K L f e = entry-more side.phase previous side K L f e
each-more (ConnectionClosed reasons) side K L f e = f _ _ e
each-more (SetProperties list) side K L f e = neutral-more side K L f e
each-more (DeleteProperties names) side K L f e = neutral-more side K L f e
each-more GetProperties side K L f e = neutral-more side K L f e
each-more (SaveYourselfRequest kind shutdown style fast global) side K L f e = neutral-more side K L f e
each-more (InteractDone true) side K L f e = cancel-more (is_interacting side.phase) side K L f e
each-more m side K L f e = f (at_phase (phase_said (λ dialog. allows side.style dialog) m side.phase) side) [] e

-- What follows from any answer follows.

entry-some : (p : Option Phase) (previous : List ℕ) (side : Side) (P : Type 0) → EachEntry p previous side (λ x a. P) → P
entry-some None previous side P e = e
entry-some (Some Unregistered) previous side P e = e.0 []
entry-some (Some p) previous side P e = e

cancel-some : (b : Bool) (side : Side) (P : Type 0) → EachCancel b side (λ x a. P) → P
cancel-some true side P e = e
cancel-some false side P e = e

pub each-some : (m : XsmpMessage) (side : Side) (P : Type 0) → EachAnswer m side (λ x a. P) → P
each-some (RegisterClient previous) side P e = entry-some side.phase previous side P e
each-some (ConnectionClosed reasons) side P e = e
each-some (SetProperties list) side P e = e.0
each-some (DeleteProperties names) side P e = e.0
each-some GetProperties side P e = e.0
each-some (SaveYourselfRequest kind shutdown style fast global) side P e = e.0
each-some (InteractDone true) side P e = cancel-some (is_interacting side.phase) side P e
each-some m side P e = e

-- By whether the connection is heard

pub goes-both : (p : Option Phase) (gone on left done : Type 0) → (p ≡ None → gone → left) → (on → done) → Goes p gone on → Goes p left done
goes-both None gone on left done f g e = f refl e
goes-both (Some p) gone on left done f g e = g e

pub goes-make : (p : Option Phase) (gone on : Type 0) → (p ≡ None → gone) → on → Goes p gone on
goes-make None gone on f e = f refl
goes-make (Some p) gone on f e = e

pub goes-on : (p : Option Phase) (gone on : Type 0) → is_some p ≡ true → Goes p gone on → on
goes-on None gone on e f = absurd (grind arith)
goes-on (Some p) gone on e f = f

pub goes-some : (p : Option Phase) (gone on P : Type 0) → (gone → P) → (on → P) → Goes p gone on → P
goes-some None gone on P f g e = f e
goes-some (Some p) gone on P f g e = g e
