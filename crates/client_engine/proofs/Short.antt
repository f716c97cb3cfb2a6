-- What a client says is not too long.
use Rattle.std.proofs.Common.{◌≡◌, ℕ, zero, suc, ◌*◌, ◌<◌, ◌≤◌, inl, inr, List, [], ◌∷◌, ◌++◌, length, slice_index_or, arith, length-append}
use Rattle.std.specs.Prelude.{flat_map}
use Rattle.std.specs.List.{AllByRecursion}
use Rattle.ice_values.specs.Properties.{array8, property}
use Rattle.ice_values.specs.Fields.{ErrorFields}
use Rattle.ice_values.specs.declared.numbers.Endian.TheVariants.{Lsb}
use Rattle.ice_values.specs.declared.property.Property.{Property}
use Rattle.ice_values.proofs.LengthLaws.{length-array8, length-listed, length-error_body}
use Rattle.ice_messages.specs.Messages.{IsTooLong as IsLongIce}
use Rattle.ice_messages.specs.declared.message.IceMessage.TheVariants.{Error as IceError, ByteOrder}
use Rattle.ice_setup.specs.declared.errors.Offending.{Offending}
use Rattle.xsmp_messages.specs.Messages.{IsTooLong as IsLongXsmp}
use Rattle.xsmp_messages.specs.declared.message.XsmpMessage.TheVariants.{Error as XsmpError, RegisterClient, ConnectionClosed, SetProperties}
use Rattle.xsmp_properties.specs.Tables.{IsTableFull}
use Rattle.client_machine.specs.Asking.{requested}
use Rattle.client_machine.specs.Saves.{step_request}
use Rattle.client_machine.specs.declared.saves.Step.{Step}
use Rattle.client_machine.specs.declared.saves.Step.TheVariants.{Done, PhaseTwo, Interact, Talked}
use Rattle.client_engine.specs.Answering.{AreFew}
use Rattle.client_engine.specs.Hearing.{out_of_place}
use Rattle.client_engine.specs.Messages.{AreShort}
use Rattle.protocol_messages.specs.Messages.{IsTooLong}
use Rattle.protocol_messages.specs.declared.message.Message.{Message}

pub short-order : ¬ (IsLongIce Lsb (ByteOrder Lsb))
short-order = λ long. elim long [ inl long_part ↦ long_part | inr long ↦ omega (arith, long) ]

pub short-stray : (offending : Offending) → ¬ (IsLongIce Lsb (IceError (out_of_place offending)))
short-stray offending = λ long.
    let error : ErrorFields = out_of_place offending in
    elim long [ inl long_part ↦ long_part | inr long ↦ omega (arith, length-error_body Lsb error) ]

pub short-refusal : (offending : Offending) → ¬ (IsLongXsmp Lsb (XsmpError (out_of_place offending)))
short-refusal offending = λ long.
    let error : ErrorFields = out_of_place offending in
    omega (arith, length-error_body Lsb error, long)

pub short-previous : (previous : List ℕ) → length previous ≤ 512 → ¬ (IsLongXsmp Lsb (RegisterClient previous))
short-previous previous few = λ long. omega (arith, few, length-array8 Lsb previous, long)

length-reasons : (reasons : List (List ℕ)) → AllByRecursion (λ reason. length reason ≤ 1024) reasons → length (flat_map (array8 Lsb) reasons) ≤ 1040 * length reasons
length-reasons [] short = omega arith
length-reasons (reason ∷ reasons) short = omega (arith, short.0, length-array8 Lsb reason, length-append (array8 Lsb reason) (flat_map (array8 Lsb) reasons), length-reasons reasons short.1)

pub short-reasons : (reasons : List (List ℕ)) → AreFew reasons → ¬ (IsLongXsmp Lsb (ConnectionClosed reasons))
short-reasons reasons few = λ long. omega (arith, few.count, length-reasons reasons few.short, length-listed (array8 Lsb) Lsb reasons, long)

pub short-set : (properties : List Property) → ¬ (IsTableFull properties) → ¬ (IsLongXsmp Lsb (SetProperties properties))
short-set properties room = λ long. room (inr (omega (arith, length-listed (property Lsb) Lsb properties, long)))

pub short-step : (step : Step) → ¬ (IsLongXsmp Lsb (requested (step_request step)))
short-step (Done success) = λ long. omega (arith, long)
short-step PhaseTwo = λ long. omega (arith, long)
short-step (Interact dialog) = λ long. omega (arith, long)
short-step (Talked cancel) = λ long. omega (arith, long)

pub short_more : (messages : List Message) (message : Message) → AreShort messages → ¬ (IsTooLong message) → AreShort (messages ++ message ∷ [])
short_more [] message short one = (one, tt)
short_more (m ∷ messages) message short one = (short.0, short_more messages message short.1 one)

pub short_at : (all : List Message) (i : ℕ) (message : Message) → i < length all → message ≡ slice_index_or all i message → AreShort all → ¬ (IsTooLong message)
short_at [] i message inside is short = absurd (omega (arith, inside))
short_at (m ∷ all) zero message inside is short = rw is short.0
short_at (m ∷ all) (suc i) message inside is short = short_at all i message (omega (arith, inside)) is short.1
