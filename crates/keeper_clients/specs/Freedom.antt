-- A keeper is a free client: for whatever comes to it there are wishes, with which a client of which nothing more is known says the same
-- and stands at the same place.
use Rattle.std.specs.Prelude.{◌≡◌, ℕ, false, List, [], ◌∷◌, map, take}
use Rattle.std.specs.List.{AllByRecursion, flat_map}
use Rattle.ice_cookie.specs.declared.cookies.Cookie.{Cookie}
use Rattle.ice_framing.specs.Frames.{beginning, fed}
use Rattle.ice_framing.specs.Parts.{Part, parts_at}
use Rattle.client_engine.specs.Cutting.{opening}
use Rattle.client_engine.specs.Driving.{Run, Step, behind, parts_taken, piece_taken, stays}
use Rattle.client_engine.specs.declared.hearing.Heard.{Heard}
use Rattle.client_engine.specs.declared.place.Talk.{Talk}
use Rattle.protocol_messages.specs.declared.message.Message.{Message}
use Rattle.stream_clients.specs.Clients.{Client, Wish}
use Rattle.stream_clients.specs.Clients.{reacts as free_reacts, talk_of as free_talk}

-- what a free client does about parts, with what it wishes behind each
abbrev pub freely_taken : Client → List Part → List (List Wish) → Step Client Message
freely_taken client parts wishes = parts_taken [] free_talk free_reacts client parts wishes

-- and about a piece
abbrev pub freely_heard : Run Client → List ℕ → List (List Wish) → Step (Run Client) Message
freely_heard run bytes wishes = piece_taken [] free_talk free_reacts run bytes wishes

-- the streams of both stand at the same place, and so does what they talk
pub record Meets {K : Type 0} (talk_of : K → Talk) (run : Run K) (free : Run Client) : Type 0 where
  pub standing : run.standing ≡ free.standing
  pub talk : talk_of run.keeper ≡ free.keeper.talk

-- What is said is a line of X's: those of a keeper's entries, and those of a free client's messages.

-- both said the same, and stand at the same place of their talk
pub record AreAlike {K E X : Type 0} (talk_of : K → Talk) (said_in : E → List X) (said : Message → List X) (done : Step K E) (free : Step Client Message) : Type 0 where
  pub line : flat_map said_in done.line ≡ flat_map said free.line
  pub talk : talk_of done.next ≡ free.next.talk

module _ {K R E X : Type 0} (unasked : R) (talk_of : K → Talk) (reacts : K → Heard → R → Step K E) (said_in : E → List X) (said : Message → List X) where
  -- There are wishes with which both are alike behind each part of a piece, and so behind the piece.
  pub record HearsFreely (run : Run K) (free : Run Client) (bytes : List ℕ) (replies : List R) : Type 0 where
    pub wishes : List (List Wish)
    pub each : (n : ℕ) → AreAlike talk_of said_in said (parts_taken unasked talk_of reacts run.keeper (take n (parts_at (fed run.standing bytes))) replies) (freely_taken free.keeper (take n (parts_at (fed free.standing bytes))) wishes)
    pub line : flat_map said_in (piece_taken unasked talk_of reacts run bytes replies).line ≡ flat_map said (freely_heard free bytes wishes).line
    pub meets : Meets talk_of (piece_taken unasked talk_of reacts run bytes replies).next (freely_heard free bytes wishes).next

  -- For whatever comes, where each entry is as it must be. So it is of the next piece too, for both meet behind this one.
  abbrev pub IsFree : (E → Type 0) → Type 0
  IsFree fits = (run : Run K) (free : Run Client) (bytes : List ℕ) (replies : List R) → Meets talk_of run free → AllByRecursion fits (piece_taken unasked talk_of reacts run bytes replies).line → HearsFreely run free bytes replies

-- ---- pieces one after the other

-- a piece that comes to a free client, and what it wishes behind each part
pub record FreeCame : Type 0 where
  pub bytes : List ℕ
  pub wishes : List (List Wish)

abbrev pub freely_run : Run Client → List FreeCame → Step (Run Client) Message
freely_run run [] = stays run
freely_run run (came ∷ more) = behind (freely_heard run came.bytes came.wishes).line (freely_run (freely_heard run came.bytes came.wishes).next more)

-- one that has said ByteOrder, and waits for the manager's
abbrev pub freely_begun : Cookie → List ℕ → Run Client
freely_begun cookie previous = record { standing = beginning; keeper = record { talk = opening cookie previous; dying = false } }

-- A free client to which these pieces come says the same as this line, and then stands where this run does.
pub record RunsFreely {K E X : Type 0} (talk_of : K → Talk) (said_in : E → List X) (said : Message → List X) (free : Run Client) (pieces : List (List ℕ)) (line : List E) (after : Run K) : Type 0 where
  pub cames : List FreeCame
  pub come : map (λ (came : FreeCame). came.bytes) cames ≡ pieces
  pub says : flat_map said_in line ≡ flat_map said (freely_run free cames).line
  pub meets : Meets talk_of after (freely_run free cames).next
