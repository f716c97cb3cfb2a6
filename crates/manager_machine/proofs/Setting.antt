-- A SetProperties that is heard where it lies.
use Rattle.std.proofs.Common.{◌≡◌, ℕ, true, false, List, refl, ap, sym, slice_index, arith}
use Rattle.std.specs.Prelude.{None, Option, Some, ◌==◌}
use Rattle.std.proofs.lemmas.Bool.{false≢true}
use Rattle.std.proofs.lemmas.Bool.Decides.{nat_tests}
use Rattle.ice_values.specs.Walks.{walk_left}
use Rattle.ice_values.specs.declared.numbers.Endian.{Endian}
use Rattle.ice_values.specs.declared.property.Property.{Property}
use Rattle.ice_values.specs.declared.walk.PropertyWalk.{PropertyWalk}
use Rattle.ice_values.proofs.OptionLaws.{none_not_some, some_is}
use Rattle.xsmp_messages.specs.Messages.{minor_of}
use Rattle.xsmp_messages.specs.Views.{WalksMessage, WalksOf, properties_in}
use Rattle.xsmp_messages.specs.declared.message.XsmpMessage.{XsmpMessage}
use Rattle.xsmp_messages.specs.declared.message.XsmpMessage.TheVariants.{SetProperties}
use Rattle.xsmp_messages.specs.declared.view.XsmpView.{XsmpView}
use Rattle.xsmp_messages.proofs.ViewLaws.{minor_read}
use Rattle.session_model.specs.declared.events.SessionEvent.TheVariants.{Said}
use Rattle.manager_machine.specs.Heard.{heard_on, message_of}
use Rattle.manager_machine.specs.Settings.{WalksSet, set_in}
use Rattle.manager_machine.proofs.Heard.{view-read}

-- What a view walks over

is-twelve : (n m : ℕ) → n ≡ m → n ≡ 12 → (m == 12) ≡ true
is-twelve n m e at = grind (arith, nat_tests)

isn't-twelve : (n m : ℕ) → n ≡ m → (n ≡ 12 → ⊥) → (m == 12) ≡ false
isn't-twelve n m e at = grind (arith, nat_tests)

walks-here : (e : Endian) (m : XsmpMessage) (walk : Option PropertyWalk) → (minor_of m == 12) ≡ true → WalksOf e (properties_in m) walk → WalksSet m walk
walks-here e (SetProperties list) (Some walk) at walks = ap (λ (l : List Property). Some l) (sym walks.1)
walks-here e (SetProperties list) None at walks = absurd walks
walks-here e m walk at walks = absurd (false≢true at)

none-here : (m : XsmpMessage) → (minor_of m == 12) ≡ false → WalksSet m None
none-here (SetProperties list) at = absurd (false≢true (sym at))
none-here m at = refl

view-minor : (view : XsmpView) → slice_index view.frame.now 1 ≡ minor_of (message_of view)
view-minor view = minor_read view.endian view.frame.now (message_of view) view.framed (view-read view)

pub walks-view : (view : XsmpView) (walk : Option PropertyWalk) → slice_index view.frame.now 1 ≡ 12 → WalksMessage view.endian view.frame.now walk → WalksSet (message_of view) walk
walks-view view walk at walks =
    walks-here view.endian (message_of view) walk (is-twelve (slice_index view.frame.now 1) (minor_of (message_of view)) (view-minor view) at) (walks (message_of view) (view-read view))

pub none-view : (view : XsmpView) → (slice_index view.frame.now 1 ≡ 12 → ⊥) → WalksSet (message_of view) None
none-view view at = none-here (message_of view) (isn't-twelve (slice_index view.frame.now 1) (minor_of (message_of view)) (view-minor view) at)

-- The event

set-is : (m : XsmpMessage) (list : List Property) → set_in m ≡ Some list → m ≡ SetProperties list
set-is (SetProperties other) list is = ap (λ (l : List Property). SetProperties l) (some_is other list is)
set-is m list is = absurd (none_not_some list is)

pub setting-heard : (c : ℕ) (view : XsmpView) (walk : PropertyWalk) (sequence : ℕ) (bytes : List ℕ) → WalksSet (message_of view) (Some walk) → bytes ≡ view.frame.now → heard_on c view sequence ≡ Said c (SetProperties (walk_left walk)) sequence bytes
setting-heard c view walk sequence bytes walks same = λ i. Said c (set-is (message_of view) (walk_left walk) walks i) sequence (sym same i)
