-- What is seen of a connection by following the frames that the manager sends on it.
use Rattle.std.specs.Prelude.{◌≡◌, ℕ, Bool, false, not, ◌&&◌, ◌||◌, ◌==◌, List, slice_index}
use Rattle.std.specs.List.{list_any}
use Rattle.ice_framing.specs.Frames.{frames_of}
use Rattle.ice_framing.specs.declared.cutting.WholeFrame.{WholeFrame}
use Rattle.frame_speech.specs.Streams.{IsAt}
use Rattle.stream_watch.specs.declared.watch.Watch.{Watch}

-- ConnectionReply of ICE (ICE, chapter 7: major opcode 0, minor opcode 6)
abbrev pub is_connection_reply : WholeFrame → Bool
is_connection_reply frame = slice_index frame.bytes 0 == 0 && slice_index frame.bytes 1 == 6

-- Die of XSMP (XSMP, chapter 10: minor opcode 9). Whatever isn't ICE's own is XSMP's: the manager speaks nothing else.
abbrev pub is_die : WholeFrame → Bool
is_die frame = not (slice_index frame.bytes 0 == 0) && slice_index frame.bytes 1 == 9

-- neither of these
abbrev pub IsNoTurn : WholeFrame → Type 0
IsNoTurn frame = (is_connection_reply frame || is_die frame) ≡ false

-- ConnectionReply was sent
abbrev pub is_let_in : List ℕ → Bool
is_let_in sent = list_any is_connection_reply (frames_of sent)

-- Die was sent
abbrev pub is_told_to_die : List ℕ → Bool
is_told_to_die sent = list_any is_die (frames_of sent)

-- what is known of a connection on which all this was sent
pub record Follows (sent : List ℕ) (watch : Watch) : Type 0 where
  pub stands : IsAt sent watch.sent
  pub let_in : watch.let_in ≡ is_let_in sent
  pub told_to_die : watch.told_to_die ≡ is_told_to_die sent
