-- Stories, one passage on.
use Rattle.std.proofs.Common.{◌≡◌, ℕ, List, [], ◌∷◌, ◌++◌, length, drop, refl, sym, ap, ap₂, ◌∙◌, append_assoc, append-nil}
use Rattle.std.proofs.lemmas.List.Concat.{flat_map-append}
use Rattle.std.proofs.Math.Seq.{drop-append_seam}
use Rattle.ice_framing.specs.Frames.{frames_of}
use Rattle.ice_framing.specs.declared.cutting.WholeFrame.{WholeFrame}
use Rattle.frame_speech.specs.Speech.{speech_behind}
use Rattle.frame_speech.specs.declared.speech.Speech.TheVariants.{Silent}
use Rattle.session_watch.specs.Story.{Passage, part_of, stream_of, messages_in, brought, brought_by, Said, said_from, messages}
use Rattle.session_watch.specs.Knowing.{heard_at, silent_since}
use Rattle.session_watch.specs.declared.party.Party.{Party}
use Rattle.session_watch.specs.declared.party.Party.TheVariants.{Client, Manager}

pub stream_grown : (party : Party) (story : List Passage) (p : Passage) → stream_of party (story ++ p ∷ []) ≡ stream_of party story ++ part_of party p
stream_grown party story p = flat_map-append (part_of party) story (p ∷ []) ∙ ap (λ (bytes : List ℕ). stream_of party story ++ bytes) (append-nil (part_of party p))

said_grown : (came sent : List ℕ) (story : List Passage) (p : Passage) → said_from came sent (story ++ p ∷ []) ≡ said_from came sent story ++ brought_by p.by (came ++ stream_of Client story) (sent ++ stream_of Manager story) p.bytes
said_grown came sent [] p =
    append-nil (brought_by p.by came sent p.bytes)
    ∙ ap₂ (λ (c s : List ℕ). brought_by p.by c s p.bytes) (sym (append-nil came)) (sym (append-nil sent))
said_grown came sent (q ∷ qs) p =
    ap (λ (said : List Said). brought_by q.by came sent q.bytes ++ said) (said_grown (came ++ part_of Client q) (sent ++ part_of Manager q) qs p)
    ∙ sym (append_assoc (brought_by q.by came sent q.bytes) (said_from (came ++ part_of Client q) (sent ++ part_of Manager q) qs) (brought_by p.by ((came ++ part_of Client q) ++ stream_of Client qs) ((sent ++ part_of Manager q) ++ stream_of Manager qs) p.bytes))
    ∙ ap₂ (λ (c s : List ℕ). said_from came sent (q ∷ qs) ++ brought_by p.by c s p.bytes) (append_assoc came (part_of Client q) (stream_of Client qs)) (append_assoc sent (part_of Manager q) (stream_of Manager qs))

pub messages_grown : (story : List Passage) (p : Passage) → messages (story ++ p ∷ []) ≡ messages story ++ brought_by p.by (stream_of Client story) (stream_of Manager story) p.bytes
messages_grown story p = said_grown [] [] story p

pub brought_is : (stream bytes : List ℕ) (frames : List WholeFrame) → frames_of (stream ++ bytes) ≡ frames_of stream ++ frames → brought stream bytes ≡ messages_in (speech_behind Silent (frames_of stream)) frames
brought_is stream bytes frames are =
    ap (messages_in (speech_behind Silent (frames_of stream))) (ap (drop (length (frames_of stream))) are ∙ drop-append_seam (frames_of stream) frames)

pub silent_grown : (start : ℕ) (story : List Passage) (p : Passage) → silent_since start (story ++ p ∷ []) ≡ heard_at p.by p.at (silent_since start story)
silent_grown start [] p = refl
silent_grown start (q ∷ qs) p = silent_grown (heard_at q.by q.at start) qs p
