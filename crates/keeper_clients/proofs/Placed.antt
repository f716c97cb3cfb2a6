-- What a part of the stream leaves to a client's keeper has its place.
use Rattle.std.proofs.Common.{ℕ, List, Option, None, Some, refl}
use Rattle.ice_framing.specs.Parts.{Part, TooMuch, Whole}
use Rattle.ice_framing.specs.declared.cutting.WholeFrame.{WholeFrame}
use Rattle.ice_setup.specs.Opener.{opened}
use Rattle.ice_setup.specs.declared.opener.AnyOpener.{AnyOpener}
use Rattle.ice_setup.specs.declared.opener.AnyOpener.TheVariants.{Joined as AtJoined}
use Rattle.ice_setup.specs.declared.opener.Joined.{Joined}
use Rattle.ice_setup.specs.declared.opener.OpenMoved.{OpenMoved}
use Rattle.ice_setup.specs.declared.opener.OpenMoved.TheVariants.{Ends, Goes}
use Rattle.client_machine.specs.Phases.{ClientState}
use Rattle.client_machine.specs.Taking.{act_taken, taken}
use Rattle.client_machine.specs.declared.acts.ClientAct.{ClientAct}
use Rattle.client_machine.specs.declared.acts.ClientAct.TheVariants.{Complete, Die, Save}
use Rattle.client_engine.specs.Hearing.{acted, arrived, fatal_class, frame_heard, joined_moved, opening_heard, opening_moved, oversize_heard, part_heard, speaking_heard, unless_fatal}
use Rattle.client_engine.specs.Received.{received_of}
use Rattle.client_engine.specs.Speaking.{HasPlace, MayAct}
use Rattle.client_engine.specs.declared.hearing.Heard.{Heard}
use Rattle.client_engine.specs.declared.place.Arrival.{Arrival}
use Rattle.client_engine.specs.declared.place.Counts.{Counts}
use Rattle.client_engine.specs.declared.place.Place.{Place}
use Rattle.client_engine.specs.declared.place.Place.TheVariants.{Opening, Speaking, Stopped}
use Rattle.client_engine.specs.declared.place.Talk.{Talk}
use Rattle.client_engine.specs.declared.received.Received.{Received}
use Rattle.client_engine.specs.declared.received.Received.TheVariants.{Ice as GotIce, Stray, Unspelled, Xsmp as GotXsmp}
use Rattle.client_engine.proofs.Acting.{may_act}

abbrev pub IsPlaced : Heard → Type 0
IsPlaced heard = HasPlace heard.cue heard.next.place

placed-act : (a : Arrival) (joined : Joined) (c : ClientState) (act : ClientAct) → MayAct c act → IsPlaced (acted a joined c act)
placed-act a joined c (Save ask) may = may
placed-act a joined c Complete may = may
placed-act a joined c Die may = refl
placed-act a joined c act may = tt

placed-fatal : (a : Arrival) (class : Option ℕ) (heard : Heard) → IsPlaced heard → IsPlaced (unless_fatal a class heard)
placed-fatal a None heard placed = placed
placed-fatal a (Some class) heard placed = tt

placed-goes : (a : Arrival) (previous : List ℕ) (moved : OpenMoved) → IsPlaced (opening_moved a previous moved)
placed-goes a previous (Goes (AtJoined joined) answer) = tt
placed-goes a previous (Goes opener answer) = tt
placed-goes a previous (Ends answer) = tt

placed-stays : (a : Arrival) (joined : Joined) (c : ClientState) (moved : OpenMoved) → IsPlaced (joined_moved a joined c moved)
placed-stays a joined c (Goes opener answer) = tt
placed-stays a joined c (Ends answer) = tt

placed-opening : (a : Arrival) (opener : AnyOpener) (previous : List ℕ) (received : Received) → IsPlaced (opening_heard a opener previous received)
placed-opening a opener previous (GotIce message) = placed-fatal a (fatal_class message) (opening_moved a previous (opened opener message a.offending.sequence)) (placed-goes a previous (opened opener message a.offending.sequence))
placed-opening a opener previous (GotXsmp message) = tt
placed-opening a opener previous Stray = tt
placed-opening a opener previous Unspelled = tt

placed-speaking : (a : Arrival) (joined : Joined) (c : ClientState) (received : Received) → IsPlaced (speaking_heard a joined c received)
placed-speaking a joined c (GotIce message) =
    placed-fatal a (fatal_class message) (joined_moved a joined c (opened (AtJoined joined) message a.offending.sequence)) (placed-stays a joined c (opened (AtJoined joined) message a.offending.sequence))
placed-speaking a joined c (GotXsmp message) = placed-act a joined (taken message c) (act_taken message c) (may_act message c)
placed-speaking a joined c Stray = tt
placed-speaking a joined c Unspelled = tt

placed-frame : (counts : Counts) (frame : WholeFrame) (place : Place) → IsPlaced (frame_heard counts frame place)
placed-frame counts frame (Opening opener previous) = placed-opening (arrived counts frame.bytes) opener previous (received_of None frame)
placed-frame counts frame (Speaking joined c) = placed-speaking (arrived counts frame.bytes) joined c (received_of (Some joined.opcode) frame)
placed-frame counts frame Stopped = tt

placed-header : (counts : Counts) (place : Place) → IsPlaced (oversize_heard counts place)
placed-header counts (Opening opener previous) = tt
placed-header counts (Speaking joined c) = tt
placed-header counts Stopped = tt

pub placed-part : (talk : Talk) (part : Part) → IsPlaced (part_heard talk part)
placed-part talk (Whole frame) = placed-frame talk.counts frame talk.place
placed-part talk (TooMuch header) = placed-header talk.counts talk.place
