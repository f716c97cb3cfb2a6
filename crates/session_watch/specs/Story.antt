-- What passed on a client's connection in both directions, and the messages of XSMP that it brought, in the order in which they passed. Times are in milliseconds.
use Rattle.std.specs.Prelude.{◌≡◌, ℕ, Bool, true, false, ◌==◌, ◌&&◌, if◌then◌else◌, List, [], ◌∷◌, ◌++◌, length, drop, map, flat_map, slice_index, Option, None, option_to_list}
use Rattle.std.specs.Result.{result_ok}
use Rattle.ice_values.specs.declared.numbers.Endian.{Endian}
use Rattle.ice_framing.specs.Frames.{frames_of}
use Rattle.ice_framing.specs.declared.cutting.WholeFrame.{WholeFrame}
use Rattle.xsmp_messages.specs.Reading.{decode_at}
use Rattle.xsmp_messages.specs.declared.message.XsmpMessage.{XsmpMessage}
use Rattle.frame_speech.specs.Passing.{IsAlone, as_frame}
use Rattle.frame_speech.specs.Speech.{is_whole, reading, after, speech_behind}
use Rattle.frame_speech.specs.declared.stream.CutStream.{CutStream}
use Rattle.frame_speech.specs.declared.speech.Speech.{Speech}
use Rattle.frame_speech.specs.declared.speech.Speech.TheVariants.{Silent, Greeted, Speaks, Lost}
use Rattle.session_watch.specs.declared.party.Party.{Party}
use Rattle.session_watch.specs.declared.party.Party.TheVariants.{Client, Manager}

-- one party sent these bytes, at this time
pub record Passage : Type 0 where
  pub by : Party
  pub at : ℕ
  pub bytes : List ℕ

-- what this party sent, where it is that one's
abbrev pub sent_by : Party → Party → List ℕ → List ℕ
sent_by Client Client bytes = bytes
sent_by Client Manager bytes = []
sent_by Manager Client bytes = []
sent_by Manager Manager bytes = bytes

abbrev pub part_of : Party → Passage → List ℕ
part_of party p = sent_by party p.by p.bytes

-- all that a party sent
abbrev pub stream_of : Party → List Passage → List ℕ
stream_of party story = flat_map (part_of party) story

-- ---- the messages of a stream

-- the message that a frame is, where its sender speaks XSMP and it can be read
abbrev pub spoken : Speech → WholeFrame → Option XsmpMessage
spoken Silent f = None
spoken Greeted f = None
spoken (Speaks opcode) f = if is_whole f && slice_index f.bytes 0 == opcode then result_ok (decode_at f.endian f.bytes) else None
spoken Lost f = None

-- a frame that may be one, or say something of its sender
abbrev pub may_speak : Speech → WholeFrame → Bool
may_speak Silent f = true
may_speak Greeted f = true
may_speak (Speaks opcode) f = slice_index f.bytes 0 == opcode
may_speak Lost f = false

abbrev pub IsNoMessage : Speech → WholeFrame → Type 0
IsNoMessage speech f = may_speak speech f ≡ false

-- These bytes are one whole frame, which comes between two frames and doesn't change how its sender is understood.
pub record IsLone (speech : Speech) (e : Endian) (bytes : List ℕ) (cut : CutStream) : Type 0 where
  pub alone : IsAlone e bytes cut
  pub stays : after speech (reading speech (as_frame e bytes)) ≡ speech

abbrev pub messages_in : Speech → List WholeFrame → List XsmpMessage
messages_in speech [] = []
messages_in speech (f ∷ fs) = option_to_list (spoken speech f) ++ messages_in (after speech (reading speech f)) fs

-- the frames that more bytes bring behind a stream, and their messages
abbrev pub new_frames : List ℕ → List ℕ → List WholeFrame
new_frames stream bytes = drop (length (frames_of stream)) (frames_of (stream ++ bytes))

abbrev pub brought : List ℕ → List ℕ → List XsmpMessage
brought stream bytes = messages_in (speech_behind Silent (frames_of stream)) (new_frames stream bytes)

-- ---- the messages of both parties

pub record Said : Type 0 where
  pub by : Party
  pub message : XsmpMessage

abbrev pub say : Party → XsmpMessage → Said
say party m = record { by = party; message = m }

-- what a passage brings behind what the client and the manager had sent
abbrev pub brought_by : Party → List ℕ → List ℕ → List ℕ → List Said
brought_by Client came sent bytes = map (say Client) (brought came bytes)
brought_by Manager came sent bytes = map (say Manager) (brought sent bytes)

abbrev pub said_from : List ℕ → List ℕ → List Passage → List Said
said_from came sent [] = []
said_from came sent (p ∷ ps) = brought_by p.by came sent p.bytes ++ said_from (came ++ part_of Client p) (sent ++ part_of Manager p) ps

-- the messages of the whole story, each where it was whole
abbrev pub messages : List Passage → List Said
messages story = said_from [] [] story
