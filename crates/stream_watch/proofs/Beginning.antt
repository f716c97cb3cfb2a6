-- What is known of a stream before its first byte.
use Rattle.std.proofs.Common.{◌≡◌, [], Bool, false, sym, ap}
use Rattle.std.specs.List.{list_any}
use Rattle.ice_framing.specs.Frames.{frames_of}
use Rattle.ice_framing.specs.declared.cutting.WholeFrame.{WholeFrame}
use Rattle.ice_framing.proofs.Streams.{frames_of-nil}

pub none_yet : (test : WholeFrame → Bool) → false ≡ list_any test (frames_of [])
none_yet test = sym (ap (list_any test) frames_of-nil)
