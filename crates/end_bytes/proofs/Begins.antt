-- Both talk once the client has joined.
use Rattle.std.proofs.Common.{◌≡◌, refl, sym, ap, ◌∙◌, subst, List, [], ◌∷◌, map, drop, arith}
use Rattle.std.specs.List.{AllByRecursion}
use Rattle.ice_setup.specs.Setup.{manager_opcode}
use Rattle.ice_setup.specs.declared.opener.Joined.{Joined}
use Rattle.xsmp_messages.specs.declared.message.XsmpMessage.{XsmpMessage}
use Rattle.client_machine.specs.Saves.{first_ask}
use Rattle.client_engine.specs.Hearing.{registering}
use Rattle.client_engine.specs.declared.place.Place.{Place}
use Rattle.protocol_messages.specs.declared.message.Message.TheVariants.{Xsmp}
use Rattle.session_model.specs.Moves.{History}
use Rattle.session_model.specs.Reading.{reading}
use Rattle.session_model.specs.Rules as session
use Rattle.session_model.specs.declared.events.SessionEvent.TheVariants.{Ready}
use Rattle.message_streams.specs.Streams.{HoldsBytes}
use Rattle.end_schedules.specs.Pairs.{begun, down_of}
use Rattle.end_schedules.specs.Schedules.{End, end_of, paired}
use Rattle.end_schedules.specs.UnderWay.{sent_to}
use Rattle.stream_clients.specs.Following.{StandsAs}
use Rattle.end_bytes.specs.Talking.{IsSayable, TalkingBegins}

drop-none : (xs : List XsmpMessage) → drop 0 xs ≡ xs
drop-none [] = refl
drop-none (x ∷ xs) = refl

pub talking-begins : TalkingBegins
talking-begins c previous h b g =
    let joined : Joined = record { opcode = manager_opcode } in
    let e : End = end_of (begun c previous first_ask h) in
    let waits : down_of c (paired b.machine.session e) ≡ sent_to c b.machine.session = drop-none (sent_to c b.machine.session) in
    record {
      opcode = refl;
      same = g.same;
      connection = g.connection;
      there = g.there;
      spoken = g.spoken;
      within = g.within;
      up = g.up;
      heard = (g.heard, tt);
      no_error = ((λ z. omega (arith, z)), tt);
      stands = subst (λ (x : Place). StandsAs joined x (registering previous)) (sym g.place) (refl, refl, refl);
      down = λ l. record {
        few = omega arith;
        holds = subst (λ (ms : List XsmpMessage). HoldsBytes manager_opcode b.client.standing b.down (map Xsmp ms)) (sym waits) g.down;
        sayable = subst (λ (ms : List XsmpMessage). AllByRecursion (IsSayable manager_opcode) (map Xsmp ms)) (sym waits) g.sayable;
      };
      reached = record {
        began = g.of_run.began;
        events = g.of_run.events;
        previous = previous;
        asked = first_ask;
        steps = [];
        takes = subst (λ (x : History). session.Takes (Ready c) (reading x)) g.of_run.is g.takes;
        may = tt;
        is = ap (λ (x : History). paired x e) g.told ∙ ap (λ (x : History). begun c previous first_ask x) g.of_run.is;
      };
    }
