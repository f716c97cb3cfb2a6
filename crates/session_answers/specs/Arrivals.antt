-- A message of a client where it lies, as the session's definitions name it.
use Rattle.session_model.specs.declared.events.Arrival.{Arrival}
use Rattle.session_answers.specs.declared.arrivals.ArrivalView.{ArrivalView}

-- what arrived
abbrev pub arrival_of : ArrivalView → Arrival
arrival_of view = record { conn = view.conn; message = view.message.now; sequence = view.sequence; frame = view.frame.now }
