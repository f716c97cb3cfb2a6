-- A message that is heard where it lies: it is one that is read from its frame, and spelled there.
use Rattle.std.proofs.Common.{◌≡◌, ℕ, List, Result, Ok, Err, refl, ap, sym, slice_index, arith}
use Rattle.std.specs.Prelude.{IsOk}
use Rattle.ice_values.specs.declared.refusals.DecodeRefusal.{DecodeRefusal}
use Rattle.ice_values.proofs.DecodeLaws.{is_spelled}
use Rattle.xsmp_messages.specs.Messages.{Refused, Spells}
use Rattle.xsmp_messages.specs.Reading.{decode_at}
use Rattle.xsmp_messages.specs.Views.{IsRead}
use Rattle.xsmp_messages.specs.declared.message.XsmpMessage.{XsmpMessage}
use Rattle.xsmp_messages.specs.declared.view.XsmpView.{XsmpView}
use Rattle.xsmp_messages.proofs.Dispatch.{decode_caused}
use Rattle.session_model.specs.Reading.{Reading}
use Rattle.session_model.specs.Rules.{Takes}
use Rattle.session_model.specs.declared.events.SessionEvent.TheVariants.{Said}
use Rattle.manager_machine.specs.Heard.{Hears, heard_on, message_of, read_as}

pub message-is : (view : XsmpView) (m : XsmpMessage) → IsRead view.endian view.frame.now m → m ≡ message_of view
message-is view m is = sym (ap read_as is)

ok-read : (r : Result XsmpMessage DecodeRefusal) → IsOk r → r ≡ Ok (read_as r)
ok-read (Ok m) e = refl
ok-read (Err refusal) e = absurd (grind arith)

pub view-read : (view : XsmpView) → IsRead view.endian view.frame.now (message_of view)
view-read view = ok-read (decode_at view.endian view.frame.now) view.spelled

pub view-spelled : (view : XsmpView) → Spells view.endian (slice_index view.frame.now 0) (message_of view) view.frame.now
view-spelled view =
    is_spelled (λ m. Spells view.endian (slice_index view.frame.now 0) m view.frame.now) (Refused view.endian view.frame.now) (decode_at view.endian view.frame.now) (message_of view) (decode_caused view.endian view.frame.now view.framed) (view-read view)

pub takes-heard : (c : ℕ) (view : XsmpView) (sequence : ℕ) (r : Reading) → Hears c view r → Takes (heard_on c view sequence) r
takes-heard c view sequence r hears = (hears.0, hears.1, hears.2, (view.endian, slice_index view.frame.now 0, view-spelled view))

-- the event is that of the message that was read, and of the view's bytes
pub heard-is : (c : ℕ) (view : XsmpView) (m : XsmpMessage) (sequence : ℕ) (bytes : List ℕ) → IsRead view.endian view.frame.now m → bytes ≡ view.frame.now → heard_on c view sequence ≡ Said c m sequence bytes
heard-is c view m sequence bytes is same = λ i. Said c (sym (message-is view m is) i) sequence (sym same i)
