use Rattle.std.proofs.Common.{◌∙◌, ap, [], Some}
use Rattle.ice_values.specs.declared.numbers.Endian.{Endian}
use Rattle.frame_speech.specs.Passing.{from}
use Rattle.client_quirks.proofs.side.Side.stands_in.Goals as goal

pub returns-in-Some : goal.returns-in-Some
returns-in-Some c = λ same. c.in-Some.ensures ∙ ap (λ (e : Endian). Some (from e [])) (c.is_same.ensures same)
