use Rattle.std.proofs.Common.{◌≡◌, ◌∙◌, slice_index, arith}
use Rattle.ice_values.specs.Properties.{array8_list_at, property_list_at}
use Rattle.ice_values.specs.Reading.{nothing_at}
use Rattle.xsmp_messages.specs.Reading.{decode_at}
use Rattle.xsmp_messages.specs.declared.message.XsmpMessage.TheVariants.{Interact, Die, ShutdownCancelled, ConnectionClosed, SetProperties, DeleteProperties, GetProperties, GetPropertiesReply, SaveYourselfPhase2Request, SaveYourselfPhase2, SaveComplete}
use Rattle.xsmp_messages.proofs.ViewLaws.{valued_read}
use Rattle.xsmp_messages.proofs.checks.check_minor.Goals as goal

pub returns-in-6 : goal.returns-in-6
unfolding decode_at
returns-in-6 c =
    let at : slice_index c.args.frame.now 1 ≡ 6 = omega (arith, c.in-6.is) in
    rw at (c.check_empty.ensures ∙ valued_read nothing_at (λ end. Interact) c.args.frame.now)

pub returns-in-9 : goal.returns-in-9
unfolding decode_at
returns-in-9 c =
    let at : slice_index c.args.frame.now 1 ≡ 9 = omega (arith, c.in-9.is) in
    rw at (c.check_empty-in-9.ensures ∙ valued_read nothing_at (λ end. Die) c.args.frame.now)

pub returns-in-10 : goal.returns-in-10
unfolding decode_at
returns-in-10 c =
    let at : slice_index c.args.frame.now 1 ≡ 10 = omega (arith, c.in-10.is) in
    rw at (c.check_empty-in-10.ensures ∙ valued_read nothing_at (λ end. ShutdownCancelled) c.args.frame.now)

pub returns-in-11 : goal.returns-in-11
unfolding decode_at
returns-in-11 c =
    let at : slice_index c.args.frame.now 1 ≡ 11 = omega (arith, c.in-11.is) in
    rw at (c.check_texts.ensures ∙ valued_read (array8_list_at c.args.endian) ConnectionClosed c.args.frame.now)

pub returns-in-12 : goal.returns-in-12
unfolding decode_at
returns-in-12 c =
    let at : slice_index c.args.frame.now 1 ≡ 12 = omega (arith, c.in-12.is) in
    rw at (c.check_properties.ensures ∙ valued_read (property_list_at c.args.endian) SetProperties c.args.frame.now)

pub returns-in-13 : goal.returns-in-13
unfolding decode_at
returns-in-13 c =
    let at : slice_index c.args.frame.now 1 ≡ 13 = omega (arith, c.in-13.is) in
    rw at (c.check_texts-in-13.ensures ∙ valued_read (array8_list_at c.args.endian) DeleteProperties c.args.frame.now)

pub returns-in-14 : goal.returns-in-14
unfolding decode_at
returns-in-14 c =
    let at : slice_index c.args.frame.now 1 ≡ 14 = omega (arith, c.in-14.is) in
    rw at (c.check_empty-in-14.ensures ∙ valued_read nothing_at (λ end. GetProperties) c.args.frame.now)

pub returns-in-15 : goal.returns-in-15
unfolding decode_at
returns-in-15 c =
    let at : slice_index c.args.frame.now 1 ≡ 15 = omega (arith, c.in-15.is) in
    rw at (c.check_properties-in-15.ensures ∙ valued_read (property_list_at c.args.endian) GetPropertiesReply c.args.frame.now)

pub returns-in-16 : goal.returns-in-16
unfolding decode_at
returns-in-16 c =
    let at : slice_index c.args.frame.now 1 ≡ 16 = omega (arith, c.in-16.is) in
    rw at (c.check_empty-in-16.ensures ∙ valued_read nothing_at (λ end. SaveYourselfPhase2Request) c.args.frame.now)

pub returns-in-17 : goal.returns-in-17
unfolding decode_at
returns-in-17 c =
    let at : slice_index c.args.frame.now 1 ≡ 17 = omega (arith, c.in-17.is) in
    rw at (c.check_empty-in-17.ensures ∙ valued_read nothing_at (λ end. SaveYourselfPhase2) c.args.frame.now)

pub returns-in-18 : goal.returns-in-18
unfolding decode_at
returns-in-18 c =
    let at : slice_index c.args.frame.now 1 ≡ 18 = omega (arith, c.in-18.is) in
    rw at (c.check_empty-in-18.ensures ∙ valued_read nothing_at (λ end. SaveComplete) c.args.frame.now)
