-- What the tables keep of the streams.
use Rattle.std.proofs.Common.{◌≡◌, ◌≢◌, inl, inr, ℕ, ◌<◌, ◌^◌, List, [], ◌++◌, length, Option, Some, None, Result, Ok, Err, OnOk, nat_eq, false, if◌then◌else◌, refl, sym, ◌∙◌, arith, eq-eqb}
use Rattle.std.specs.Ordering.{nat_cmp}
use Rattle.std.specs.BTreeMap.{BTreeMap, get as row_in}
use Rattle.std.proofs.lemmas.Bool.{cases_eq}
use Rattle.std.proofs.lemmas.Bool.Decides.{nat_tests}
use Rattle.sm_world.specs.declared.events.Event.TheVariants.{Piece}
use Rattle.ice_framing.specs.Frames.{beginning, cut}
use Rattle.ice_framing.specs.Parts.{parts_of}
use Rattle.ice_framing.proofs.Streams.{standing_of-nil}
use Rattle.trace_replay.specs.Flows.{IsReadTo, TakesPiece}
use Rattle.trace_replay.specs.Shown.{replaced}
use Rattle.trace_replay.specs.Parts.{PutsParts}
use Rattle.trace_replay.specs.Watches.{BringsLine, BringsPiece, BroughtPiece, FollowsLine, IsRead, PutsLine}
use Rattle.trace_replay.specs.declared.flows.Brought.{Brought}
use Rattle.trace_replay.specs.declared.flows.Flow.{Flow}
use Rattle.trace_replay.specs.declared.flows.Progress.{Progress}
use Rattle.trace_replay.specs.declared.flows.Progress.TheVariants.{Going}
use Rattle.trace_replay.specs.declared.lines.TraceLine.{TraceLine}
use Rattle.trace_replay.specs.declared.lines.TraceLine.TheVariants.{Heard, Sent}
use Rattle.trace_replay.specs.declared.parts.Direction.TheVariants.{In, Out}
use Rattle.trace_replay.specs.declared.watch.Table.{Table}
use Rattle.trace_replay.specs.declared.watch.Watch.{Watch}
use Rattle.trace_replay.proofs.PartLemmas.{put_brought}

-- a row that was kept
pub kept_read : (stream : List ℕ) (found : Option Progress) (row : Progress) → IsRead stream found → found ≡ Some row → IsReadTo stream row
kept_read stream found row read is = rw is at read

no_parts : length (parts_of []) ≡ 0
unfolding cut
no_parts = refl

-- a new one
pub new_read : (stream : List ℕ) (found : Option Progress) (flow : Flow) → IsRead stream found → found ≡ None → flow.remainder ≡ beginning → flow.shown ≡ 0 → IsReadTo stream (Going flow)
new_read stream found flow read is splitter shown =
    let empty : stream ≡ [] = rw is at read in
    rw (empty) ((rw (standing_of-nil) (splitter, omega arith, omega arith)), (λ small. shown ∙ sym no_parts))

-- A piece was taken, and how far its stream was read is kept.
pub put_piece : (streams : ℕ → List ℕ) (n : ℕ) (piece : List ℕ) (before after : BTreeMap ℕ Progress) (row taken : Progress) (brought : Brought) → ((q : ℕ) → q ≢ n → IsRead (streams q) (row_in nat_cmp before q)) → IsReadTo (streams n) row → TakesPiece (streams n) piece row taken brought → ((q : ℕ) → row_in nat_cmp after q ≡ (if nat_eq q n then Some taken else row_in nat_cmp before q)) → BroughtPiece streams n piece (record { rows = after }) brought
put_piece streams n piece before after row taken brought reads read takes changes =
    let took = takes read in
    record {
      reads = λ q. elim (cases_eq q n) [
        | inl here ↦ rw (changes q, eq-eqb q n here) took.read
        | inr apart ↦ let elsewhere : nat_eq q n ≡ false = grind (arith, nat_tests) in rw (changes q, elsewhere) (reads q apart)
      ];
      brings = took.brings;
    }

-- a piece came
pub came : (n : ℕ) (bytes : List ℕ) (before : Watch) (table : Table) (brought : Brought) → BringsPiece n bytes before.came table brought → BringsLine (Heard (Piece n bytes)) before (record { came = table; went = before.went }) brought
came n bytes before table brought brings = λ streams shows.
    let put = brings streams.came shows.came in record { shows = record { came = put.reads; went = shows.went }; brings = put.brings }

-- a piece was sent
pub went : (n : ℕ) (bytes : List ℕ) (before : Watch) (table : Table) (brought : Brought) → BringsPiece n bytes before.went table brought → BringsLine (Sent n bytes) before (record { came = before.came; went = table }) brought
went n bytes before table brought brings = λ streams shows.
    let put = brings streams.went shows.went in record { shows = record { came = shows.came; went = put.reads }; brings = put.brings }

-- ---- what is shown

replaced-here : (streams : ℕ → List ℕ) (n : ℕ) (stream : List ℕ) → replaced streams n stream n ≡ stream
replaced-here streams n stream = rw (eq-eqb n n refl) refl

pub put_came : (n : ℕ) (bytes : List ℕ) (brought : Brought) (old new : List ℕ) → PutsParts (record { direction = In; conn = n }) brought old new → PutsLine (Heard (Piece n bytes)) brought old new
put_came n bytes brought old new puts = λ streams brings countable.
    put_brought (record { direction = In; conn = n }) (streams.came n) bytes brought old new brings (rw (replaced-here streams.came n (streams.came n ++ bytes)) at (countable.came n)) puts

pub put_went : (n : ℕ) (bytes : List ℕ) (brought : Brought) (old new : List ℕ) → PutsParts (record { direction = Out; conn = n }) brought old new → PutsLine (Sent n bytes) brought old new
put_went n bytes brought old new puts = λ streams brings countable.
    put_brought (record { direction = Out; conn = n }) (streams.went n) bytes brought old new brings (rw (replaced-here streams.went n (streams.went n ++ bytes)) at (countable.went n)) puts

-- a line was taken, and what it brought was shown
pub follows : (said : TraceLine) (before after : Watch) (brought : Brought) (old new : List ℕ) → BringsLine said before after brought → PutsLine said brought old new → FollowsLine said before after old new
follows said before after brought old new brings puts = λ streams shows countable.
    let line = brings streams shows in record { shows = line.shows; lines = puts streams line.brings countable }
