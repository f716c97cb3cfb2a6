-- Each message of a set-up has a spelling, and its bytes are a frame.
use Rattle.std.proofs.Common.{lit≤, lit<, ◌≡◌, refl, sym, ap, ◌∙◌, subst, ℕ, zero, suc, ◌<◌, ◌≤◌, ◌+◌, List, [], ◌∷◌, length, take, drop, map}
use Rattle.std.specs.List.{AllByRecursion}
use Rattle.ice_cookie.specs.declared.cookies.Cookie.{Cookie}
use Rattle.ice_values.specs.Cells.{Cells, byte, free, pad_len}
use Rattle.ice_values.specs.Fields.{proof_data}
use Rattle.ice_values.specs.Frames.{IsFrame}
use Rattle.ice_values.specs.declared.class.ErrorClass.TheVariants.{NoVersion}
use Rattle.ice_values.specs.declared.numbers.Endian.TheVariants.{Lsb}
use Rattle.ice_values.specs.declared.severity.Severity.TheVariants.{FatalToConnection}
use Rattle.ice_values.proofs.CellLaws.{length-zeros}
use Rattle.ice_values.proofs.HeaderLaws.{length-spelling}
use Rattle.ice_values.proofs.LengthLaws.{length-proof_data}
use Rattle.ice_messages.specs.Messages.{IsMessage, canon, layout, shape}
use Rattle.ice_messages.specs.declared.message.IceMessage.{IceMessage}
use Rattle.ice_messages.specs.declared.message.IceMessage.TheVariants.{AuthenticationReply, ByteOrder, Error}
use Rattle.ice_messages.proofs.Dispatch.{canon_is_frame}
use Rattle.ice_setup.specs.Errors.{blame}
use Rattle.ice_setup.specs.Opener.{client_opcode, connection_setup, protocol_setup, shows_cookie}
use Rattle.ice_setup.specs.Setup.{asks_cookie, connection_reply, named, protocol_reply, rejection}
use Rattle.protocol_messages.specs.declared.message.Message.TheVariants.{Ice}
use Rattle.message_streams.specs.Streams.{HasBytes}
use Rattle.setup_agreement.specs.Laws.{client_says, manager_says}

pub record IsSaid (m : IceMessage) : Type 0 where
  pub fits : IsMessage m
  pub bytes : HasBytes client_opcode (Ice m)

said : (m : IceMessage) → IsMessage m → length (layout byte Lsb m).1 ≤ 65536 → length (canon Lsb m) ≤ 65544 → IsSaid m
said m fits short limit =
    let f : IsFrame Lsb (canon Lsb m) = canon_is_frame Lsb m fits short in
    record { fits = fits; bytes = record { order = refl; header = f.header; units = f.units; limit = limit } }

order-said : IsSaid (ByteOrder Lsb)
order-said = said (ByteOrder Lsb) tt (lit≤ tt) (lit≤ tt)

setup-said : IsSaid connection_setup
setup-said = said connection_setup (lit< tt, lit< tt, (lit< tt, (lit< tt, tt), lit< tt, ((lit< tt, lit< tt), tt))) (lit≤ tt) (lit≤ tt)

protocol-said : IsSaid protocol_setup
protocol-said = said protocol_setup (lit< tt, lit< tt, lit< tt, (lit< tt, (lit< tt, tt), lit< tt, ((lit< tt, lit< tt), tt))) (lit≤ tt) (lit≤ tt)

asks-said : IsSaid (asks_cookie 0)
asks-said = said (asks_cookie 0) (lit< tt) (lit≤ tt) (lit≤ tt)

reply-said : IsSaid (connection_reply 0)
reply-said = said (connection_reply 0) (lit< tt, lit< tt) (lit≤ tt) (lit≤ tt)

begins-said : IsSaid (protocol_reply 0)
begins-said = said (protocol_reply 0) (lit< tt, lit< tt) (lit≤ tt) (lit≤ tt)

cookie-said : (k : Cookie) → length k.0 ≡ 16 → IsSaid (shows_cookie k)
cookie-said k sixteen =
    let body : Cells = proof_data Lsb k.0 in
    let long : length body ≡ 24 = length-proof_data Lsb k.0 ∙ ap (λ (n : ℕ). 8 + n) sixteen in
    let all : length (canon Lsb (AuthenticationReply k.0)) ≡ 8 + length body + pad_len (length body) 8 = length-zeros (shape byte Lsb (AuthenticationReply k.0)) ∙ length-spelling Lsb 0 4 (free 2) body refl in
    let whole : 8 + length body + pad_len (length body) 8 ≡ 32 = ap (λ (n : ℕ). 8 + n + pad_len n 8) long in
    said (AuthenticationReply k.0) (subst (λ (n : ℕ). n < 65536) (sym sixteen) (lit< tt)) (subst (λ (n : ℕ). n ≤ 65536) (sym long) (lit≤ tt)) (subst (λ (n : ℕ). n ≤ 65544) (sym (all ∙ whole)) (lit≤ tt))

rejection-said : (shown : Cookie) → IsSaid (rejection (named (shows_cookie shown) 3))
rejection-said shown = said (rejection (named (shows_cookie shown) 3)) (lit< tt, lit< tt, refl) (lit≤ tt) (lit≤ tt)

abbrev pub AreSaid : List IceMessage → Type 0
AreSaid messages = AllByRecursion IsSaid messages

pub client-said : (k : Cookie) → length k.0 ≡ 16 → AreSaid (client_says k)
client-said k sixteen = (order-said, (setup-said, (cookie-said k sixteen, (protocol-said, (cookie-said k sixteen, tt)))))

pub manager-said : AreSaid manager_says
manager-said = (order-said, (asks-said, (reply-said, (asks-said, (begins-said, tt)))))

pub refused-said : (shown : Cookie) → length shown.0 ≡ 16 → AreSaid (ByteOrder Lsb ∷ connection_setup ∷ shows_cookie shown ∷ [])
refused-said shown sixteen = (order-said, (setup-said, (cookie-said shown sixteen, tt)))

pub refuses-said : (shown : Cookie) → AreSaid (ByteOrder Lsb ∷ asks_cookie 0 ∷ rejection (named (shows_cookie shown) 3) ∷ [])
refuses-said shown = (order-said, (asks-said, (rejection-said shown, tt)))

pub offered-said : (setup : IceMessage) → IsMessage setup → HasBytes client_opcode (Ice setup) → AreSaid (ByteOrder Lsb ∷ setup ∷ [])
offered-said setup fits bytes = (order-said, (record { fits = fits; bytes = bytes }, tt))

no-version-said : IsSaid (Error (blame FatalToConnection NoVersion (record { minor = 2; sequence = 2 }) []))
no-version-said = said (Error (blame FatalToConnection NoVersion (record { minor = 2; sequence = 2 }) [])) (lit< tt, lit< tt, refl) (lit≤ tt) (lit≤ tt)

pub versions-said : AreSaid (ByteOrder Lsb ∷ Error (blame FatalToConnection NoVersion (record { minor = 2; sequence = 2 }) []) ∷ [])
versions-said = (order-said, (no-version-said, tt))

pub take-said : (n : ℕ) (ms : List IceMessage) → AreSaid ms → AreSaid (take n ms)
take-said zero [] a = tt
take-said zero (m ∷ ms) a = tt
take-said (suc n) [] a = tt
take-said (suc n) (m ∷ ms) a = (a.0, take-said n ms a.1)

pub drop-said : (n : ℕ) (ms : List IceMessage) → AreSaid ms → AreSaid (drop n ms)
drop-said zero [] a = tt
drop-said zero (m ∷ ms) a = a
drop-said (suc n) [] a = tt
drop-said (suc n) (m ∷ ms) a = drop-said n ms a.1

pub have-bytes : (ms : List IceMessage) → AreSaid ms → AllByRecursion (HasBytes client_opcode) (map Ice ms)
have-bytes [] a = tt
have-bytes (m ∷ ms) a = (a.0.bytes, have-bytes ms a.1)
