-- A piece of what is under way to a client brings the frames of the first messages that wait for it.
use Rattle.std.proofs.Common.{◌≡◌, refl, sym, ap, ◌∙◌, subst, ℕ, List, [], ◌∷◌, ◌++◌, map, take, drop}
use Rattle.std.specs.List.{AllByRecursion}
use Rattle.ice_framing.specs.Frames.{cut, fed}
use Rattle.ice_framing.specs.Parts.{Part, parts_at}
use Rattle.xsmp_messages.specs.Messages.{IsMessage}
use Rattle.xsmp_messages.specs.declared.message.XsmpMessage.{XsmpMessage}
use Rattle.client_engine.specs.Driving.{parts_taken}
use Rattle.protocol_messages.specs.declared.message.Message.{Message}
use Rattle.protocol_messages.specs.declared.message.Message.TheVariants.{Xsmp}
use Rattle.message_streams.specs.Streams.{BringsFront, HasBytes, HoldsBytes, part_of}
use Rattle.message_streams.proofs.Cutting.{pieces-of}
use Rattle.end_schedules.specs.Pairs.{down_of}
use Rattle.stream_clients.specs.Clients.{reacts, talk_of}
use Rattle.stream_clients.specs.Following.{FollowsParts, IsSpelled, PiecesAreSteps}
use Rattle.stream_clients.proofs.Stepping.{parts-steps}

abbrev first_or : Message → List Message → Message
first_or d [] = d
first_or d (m ∷ ms) = m

abbrev others : List Message → List Message
others [] = []
others (m ∷ ms) = ms

-- the messages of XSMP that are in front, and those behind
pub record Split (xs : List XsmpMessage) (ys zs : List Message) : Type 0 where
  pub front : List XsmpMessage
  pub rest : List XsmpMessage
  pub all : xs ≡ front ++ rest
  pub are_front : ys ≡ map Xsmp front
  pub are_rest : zs ≡ map Xsmp rest

pub split-at : (xs : List XsmpMessage) (ys zs : List Message) → map Xsmp xs ≡ ys ++ zs → Split xs ys zs
split-at xs [] zs e = record { front = []; rest = xs; all = refl; are_front = refl; are_rest = sym e }
split-at [] (y ∷ ys) zs e = absurd cc
split-at (x ∷ xs) (y ∷ ys) zs e =
    let k : Split xs ys zs = split-at xs ys zs (ap others e) in
    record {
      front = x ∷ k.front;
      rest = k.rest;
      all = ap (λ (ms : List XsmpMessage). x ∷ ms) k.all;
      are_front = ap (λ (m : Message). m ∷ ys) (sym (ap (first_or y) e)) ∙ ap (λ (ms : List Message). Xsmp x ∷ ms) k.are_front;
      are_rest = k.are_rest;
    }

pub parts-of : (opcode : ℕ) (ms : List XsmpMessage) → map (part_of opcode) (map Xsmp ms) ≡ map (λ (m : XsmpMessage). part_of opcode (Xsmp m)) ms
parts-of opcode [] = refl
parts-of opcode (m ∷ ms) = ap (λ (ps : List Part). part_of opcode (Xsmp m) ∷ ps) (parts-of opcode ms)

spelled-front : (opcode : ℕ) (front rest : List XsmpMessage) → AllByRecursion IsMessage (front ++ rest) → AllByRecursion (HasBytes opcode) (map Xsmp (front ++ rest)) → AllByRecursion (IsSpelled opcode) front
spelled-front opcode [] rest a b = tt
spelled-front opcode (m ∷ front) rest a b = (record { fits = a.0; bytes = b.0 }, spelled-front opcode front rest a.1 b.1)

pub pieces-steps : PiecesAreSteps
pieces-steps c joined p run later count wishes n s h fits e =
    let b : BringsFront joined.opcode (fed run.standing (take count later)) (drop count later) (map Xsmp (down_of c p)) = pieces-of joined.opcode (map Xsmp (down_of c p)) run.standing later count h in
    let k : Split (down_of c p) b.front b.back = split-at (down_of c p) b.front b.back b.all in
    let parts : parts_at (fed run.standing (take count later)) ≡ map (λ (m : XsmpMessage). part_of joined.opcode (Xsmp m)) k.front =
    b.parts ∙ ap (λ (ms : List Message). map (part_of joined.opcode) ms) k.are_front ∙ parts-of joined.opcode k.front in
    let each : AllByRecursion (IsSpelled joined.opcode) k.front =
    spelled-front joined.opcode k.front k.rest (subst (λ (ms : List XsmpMessage). AllByRecursion IsMessage ms) k.all fits) (subst (λ (ms : List XsmpMessage). AllByRecursion (HasBytes joined.opcode) (map Xsmp ms)) k.all h.each) in
    record {
      front = k.front;
      rest = k.rest;
      all = k.all;
      follows = subst (λ (ps : List Part). FollowsParts c joined p k.front (parts_taken [] talk_of reacts run.keeper ps wishes)) (sym parts) (parts-steps c joined k.front k.rest p run.keeper wishes n s k.all each e);
      holds = subst (λ (ms : List Message). HoldsBytes joined.opcode (cut (fed run.standing (take count later))).standing (drop count later) ms) k.are_rest b.holds;
    }
