-- By bytes as by messages: what an end reads of a piece are the first of the messages that wait for it.
use Rattle.std.proofs.Common.{Bool, ◌≡◌, refl, sym, ap, ◌∙◌, subst, ℕ, ◌+◌, ◌≤◌, List, [], ◌∷◌, ◌++◌, length, take, drop, map, true, false, append-nil, append_assoc, length-drop, arith}
use Rattle.std.specs.Prelude.{Option, Some, None, is_some}
use Rattle.std.specs.List.{AllByRecursion}
use Rattle.std.proofs.Math.Seq.{drop-append_seam}
use Rattle.std.proofs.lemmas.Grind.{flat_map-append}
use Rattle.std.proofs.lemmas.List.{drop-append-le, drop-drop, map-append}
use Rattle.ice_cookie.specs.Cookies.{shows}
use Rattle.ice_cookie.specs.declared.cookies.Cookie.{Cookie}
use Rattle.ice_values.specs.declared.numbers.Endian.{Endian}
use Rattle.ice_values.specs.declared.numbers.Endian.TheVariants.{Lsb}
use Rattle.ice_values.specs.declared.version.Version.{Version}
use Rattle.ice_framing.specs.Frames.{Standing, cut, fed}
use Rattle.ice_framing.specs.Parts.{Part}
use Rattle.ice_messages.specs.Messages.{IsMessage, canon}
use Rattle.ice_messages.specs.declared.message.IceMessage.{IceMessage}
use Rattle.ice_messages.specs.declared.message.IceMessage.TheVariants.{ConnectionSetup}
use Rattle.ice_messages.proofs.Dispatch.{canon_spells, decode_again}
use Rattle.ice_setup.specs.Offers.{first_version}
use Rattle.ice_setup.specs.Opener.{client_opcode, opened}
use Rattle.ice_setup.specs.Setup.{moved}
use Rattle.ice_setup.specs.declared.opener.AnyOpener.{AnyOpener}
use Rattle.ice_setup.specs.declared.states.AnySetup.{AnySetup}
use Rattle.protocol_messages.specs.Messages.{spelled_under}
use Rattle.protocol_messages.specs.declared.message.Message.{Message}
use Rattle.protocol_messages.specs.declared.message.Message.TheVariants.{Ice}
use Rattle.message_streams.specs.Streams.{BringsFront, HasBytes, HoldsBytes, IsOrdered, bytes_of, part_of}
use Rattle.message_streams.proofs.Cutting.{pieces-of}
use Rattle.setup_agreement.specs.Laws.{IsQuiet, client_says, manager_says}
use Rattle.setup_agreement.specs.SetUps.{SetUp, Way, answer_in, begun, client_takes, manager_takes, reply_in, step}
use Rattle.setup_agreement.specs.SetUps.Way.{Comes, Takes}
use Rattle.setup_agreement.specs.Wires.{IsStill, OtherCookiesAreKeptOutByBytes, OtherVersionsAreKeptOutByBytes, began_with, Piece, RightCookiesAreLetInByBytes, Wires, after_pieces, began, client_read, client_reads, hears_parts, ice_bytes, manager_read, manager_reads, message_in, piece, read_as, said_since, takes_parts}
use Rattle.setup_agreement.specs.Wires.Piece.{Comes as BytesCome, Takes as TakesBytes}
use Rattle.setup_agreement.proofs.Entering.{Enters, enters-few, enters-start, enters-step, lets-in}
use Rattle.setup_agreement.proofs.Refusing.{IsOffer, Leaves, offer-ends, offer-few, offer-hears, offer-start, offer-step, offer-takes, keeps-out, leaves-few, leaves-hears, leaves-start, leaves-step, leaves-takes}
use Rattle.setup_agreement.proofs.Rows.{IsWithin}
use Rattle.setup_agreement.proofs.Spelling.{AreSaid, client-said, drop-said, have-bytes, manager-said, offered-said, refused-said, refuses-said, take-said, versions-said}

-- What is said more

pub ordered-more : (order : Option Endian) (ms more : List Message) → IsOrdered order ms → IsOrdered order (ms ++ more)
ordered-more (Some e) ms more o = o
ordered-more None [] more o = absurd o
ordered-more None (m ∷ ms) more o = o

bytes-more : (ms more : List IceMessage) → ice_bytes (ms ++ more) ≡ ice_bytes ms ++ ice_bytes more
bytes-more ms more = ap (λ (xs : List Message). bytes_of client_opcode xs) (map-append Ice ms more) ∙ flat_map-append (spelled_under client_opcode) (map Ice ms) (map Ice more)

holds-more : (at : Standing) (later : List ℕ) (ms more : List IceMessage) → HoldsBytes client_opcode at later (map Ice ms) → AreSaid (ms ++ more) → HoldsBytes client_opcode at (later ++ ice_bytes more) (map Ice (ms ++ more))
holds-more at later ms more h a = record {
  order = subst (λ (xs : List Message). IsOrdered at.order xs) (sym (map-append Ice ms more)) (ordered-more at.order (map Ice ms) (map Ice more) h.order);
  bytes = sym (append_assoc at.held later (ice_bytes more)) ∙ ap (λ (xs : List ℕ). xs ++ ice_bytes more) h.bytes ∙ sym (bytes-more ms more);
  each = have-bytes (ms ++ more) a;
}

-- of a stream of which so many messages were taken, and none more since
grown : (at : Standing) (later : List ℕ) (n now : ℕ) (before after more : List IceMessage) → now ≡ n → after ≡ before ++ more → n ≤ length before → AreSaid after → HoldsBytes client_opcode at later (map Ice (drop n before))
    → HoldsBytes client_opcode at (later ++ said_since before after) (map Ice (drop now after))
grown at later n now before after more same is few a h =
    let waits : drop now after ≡ drop n before ++ more = ap (λ (k : ℕ). drop k after) same ∙ ap (λ (xs : List IceMessage). drop n xs) is ∙ drop-append-le n before more few in
    let new : said_since before after ≡ ice_bytes more = ap (λ (xs : List IceMessage). ice_bytes (drop (length before) xs)) is ∙ ap (λ (xs : List IceMessage). ice_bytes xs) (drop-append_seam before more) in
    let all : AreSaid (drop n before ++ more) = subst (λ (xs : List IceMessage). AreSaid xs) waits (drop-said now after a) in
    subst (λ (bytes : List ℕ). HoldsBytes client_opcode at (later ++ bytes) (map Ice (drop now after))) (sym new)
    (subst (λ (xs : List IceMessage). HoldsBytes client_opcode at (later ++ ice_bytes more) (map Ice xs)) (sym waits) (holds-more at later (drop n before) more h all))

-- What is read

read : (m : IceMessage) → IsMessage m → message_in (part_of client_opcode (Ice m)) ≡ Some m
read m fits = ap read_as (decode_again Lsb (canon Lsb m) m (canon_spells Lsb m fits))

abbrev first_of : Message → List Message → Message
first_of d [] = d
first_of d (m ∷ ms) = m

abbrev rest_of : List Message → List Message
rest_of [] = []
rest_of (m ∷ ms) = ms

next-waits : (n : ℕ) (all ws : List IceMessage) (m : IceMessage) → drop n all ≡ m ∷ ws → drop (n + 1) all ≡ ws
next-waits n all ws m e = sym (drop-drop 1 n all) ∙ ap (λ (xs : List IceMessage). drop 1 xs) e

-- What is kept of the messages: it stays through each step, no end takes what wasn't said, all that is said has a spelling, and an end for
-- which something waits is there.
pub record Keeping (I : SetUp → Type 0) : Type 0 where
  pub goes : (way : Way) (p : SetUp) → I p → I (step way p)
  pub within : (p : SetUp) → I p → IsWithin p
  pub up : (p : SetUp) → I p → AreSaid p.said_up
  pub down : (p : SetUp) → I p → AreSaid p.said_down
  pub hears : (p : SetUp) (m : IceMessage) (ws : List IceMessage) → I p → drop p.heard p.said_up ≡ m ∷ ws → is_some p.manager ≡ true
  pub takes : (p : SetUp) (m : IceMessage) (ws : List IceMessage) → I p → drop p.took p.said_down ≡ m ∷ ws → is_some p.client ≡ true

-- One message

record HeardOne (p q : SetUp) : Type 0 where
  heard : q.heard ≡ p.heard + 1
  up : q.said_up ≡ p.said_up
  took : q.took ≡ p.took
  more : List IceMessage
  down : q.said_down ≡ p.said_down ++ more

one-heard : (o : Option AnySetup) (m : IceMessage) (ws : List IceMessage) (p : SetUp) → is_some o ≡ true → HeardOne p (manager_takes o (m ∷ ws) p)
one-heard None m ws p e = absurd (grind arith)
one-heard (Some s) m ws p e = record { heard = refl; up = refl; took = refl; more = answer_in (moved s m (p.heard + 1)); down = refl }

heard-so : (o : Option AnySetup) (m : IceMessage) (ws : List IceMessage) (p : SetUp) → is_some o ≡ true → manager_reads o (Some m) p ≡ manager_takes o (m ∷ ws) p
heard-so None m ws p e = absurd (grind arith)
heard-so (Some s) m ws p e = refl

record TookOne (p q : SetUp) : Type 0 where
  took : q.took ≡ p.took + 1
  down : q.said_down ≡ p.said_down
  heard : q.heard ≡ p.heard
  more : List IceMessage
  up : q.said_up ≡ p.said_up ++ more

one-took : (o : Option AnyOpener) (m : IceMessage) (ws : List IceMessage) (p : SetUp) → is_some o ≡ true → TookOne p (client_takes o (m ∷ ws) p)
one-took None m ws p e = absurd (grind arith)
one-took (Some s) m ws p e = record { took = refl; down = refl; heard = refl; more = reply_in (opened s m (p.took + 1)); up = refl }

took-so : (o : Option AnyOpener) (m : IceMessage) (ws : List IceMessage) (p : SetUp) → is_some o ≡ true → client_reads o (Some m) p ≡ client_takes o (m ∷ ws) p
took-so None m ws p e = absurd (grind arith)
took-so (Some s) m ws p e = refl

-- All messages of a piece

module _ (I : SetUp → Type 0) where
  -- the manager took those in front of these, and has said more
  record Heard (back : List Message) (p q : SetUp) : Type 0 where
    kept : I q
    waits : map Ice (drop q.heard q.said_up) ≡ back
    up : q.said_up ≡ p.said_up
    took : q.took ≡ p.took
    more : List IceMessage
    down : q.said_down ≡ p.said_down ++ more

  heard-more : (back : List Message) (p q r : SetUp) → HeardOne p q → Heard back q r → Heard back p r
  heard-more back p q r h c = record {
    kept = c.kept;
    waits = c.waits;
    up = c.up ∙ h.up;
    took = c.took ∙ h.took;
    more = h.more ++ c.more;
    down = c.down ∙ ap (λ (xs : List IceMessage). xs ++ c.more) h.down ∙ append_assoc p.said_down h.more c.more;
  }

  first-heard : Keeping I → (f : Message) (front back : List Message) (p : SetUp) (waiting : List IceMessage) → drop p.heard p.said_up ≡ waiting → I p → AreSaid waiting → map Ice waiting ≡ f ∷ front ++ back
      → ((q : SetUp) → I q → AreSaid (drop q.heard q.said_up) → map Ice (drop q.heard q.said_up) ≡ front ++ back → Heard back q (hears_parts (map (part_of client_opcode) front) q))
      → Heard back p (hears_parts (map (part_of client_opcode) (f ∷ front)) p)
  first-heard laws f front back p [] d e a is on = absurd cc
  first-heard laws f front back p (m ∷ ws) d e a is on =
      let there : is_some p.manager ≡ true = laws.hears p m ws e d in
      let q : SetUp = manager_takes p.manager (m ∷ ws) p in
      let stepped : step Comes p ≡ q = ap (λ (xs : List IceMessage). manager_takes p.manager xs p) d in
      let h : HeardOne p q = one-heard p.manager m ws p there in
      let same : f ≡ Ice m = sym (ap (first_of f) is) in
      let so : manager_reads p.manager (message_in (part_of client_opcode f)) p ≡ q =
      ap (λ (x : Message). manager_reads p.manager (message_in (part_of client_opcode x)) p) same ∙ ap (λ (o : Option IceMessage). manager_reads p.manager o p) (read m a.0.fits) ∙ heard-so p.manager m ws p there in
      let left : drop q.heard q.said_up ≡ ws = ap (λ (n : ℕ). drop n q.said_up) h.heard ∙ ap (λ (xs : List IceMessage). drop (p.heard + 1) xs) h.up ∙ next-waits p.heard p.said_up ws m d in
      let c : Heard back q (hears_parts (map (part_of client_opcode) front) q) =
      on q (subst (λ (x : SetUp). I x) stepped (laws.goes Comes p e)) (subst (λ (xs : List IceMessage). AreSaid xs) (sym left) a.1) (ap (λ (xs : List IceMessage). map Ice xs) left ∙ ap rest_of is) in
      subst (λ (x : SetUp). Heard back p (hears_parts (map (part_of client_opcode) front) x)) (sym so) (heard-more back p q (hears_parts (map (part_of client_opcode) front) q) h c)

  all-heard : Keeping I → (front back : List Message) (p : SetUp) → I p → AreSaid (drop p.heard p.said_up) → map Ice (drop p.heard p.said_up) ≡ front ++ back → Heard back p (hears_parts (map (part_of client_opcode) front) p)
  all-heard laws [] back p e a is = record { kept = e; waits = is; up = refl; took = refl; more = []; down = sym (append-nil p.said_down) }
  all-heard laws (f ∷ front) back p e a is = first-heard laws f front back p (drop p.heard p.said_up) refl e a is (λ q d b i. all-heard laws front back q d b i)

  -- the client took those in front of these, and has said more
  record Took (back : List Message) (p q : SetUp) : Type 0 where
    kept : I q
    waits : map Ice (drop q.took q.said_down) ≡ back
    down : q.said_down ≡ p.said_down
    heard : q.heard ≡ p.heard
    more : List IceMessage
    up : q.said_up ≡ p.said_up ++ more

  took-more : (back : List Message) (p q r : SetUp) → TookOne p q → Took back q r → Took back p r
  took-more back p q r h c = record {
    kept = c.kept;
    waits = c.waits;
    down = c.down ∙ h.down;
    heard = c.heard ∙ h.heard;
    more = h.more ++ c.more;
    up = c.up ∙ ap (λ (xs : List IceMessage). xs ++ c.more) h.up ∙ append_assoc p.said_up h.more c.more;
  }

  first-took : Keeping I → (f : Message) (front back : List Message) (p : SetUp) (waiting : List IceMessage) → drop p.took p.said_down ≡ waiting → I p → AreSaid waiting → map Ice waiting ≡ f ∷ front ++ back
      → ((q : SetUp) → I q → AreSaid (drop q.took q.said_down) → map Ice (drop q.took q.said_down) ≡ front ++ back → Took back q (takes_parts (map (part_of client_opcode) front) q))
      → Took back p (takes_parts (map (part_of client_opcode) (f ∷ front)) p)
  first-took laws f front back p [] d e a is on = absurd cc
  first-took laws f front back p (m ∷ ws) d e a is on =
      let there : is_some p.client ≡ true = laws.takes p m ws e d in
      let q : SetUp = client_takes p.client (m ∷ ws) p in
      let stepped : step Takes p ≡ q = ap (λ (xs : List IceMessage). client_takes p.client xs p) d in
      let h : TookOne p q = one-took p.client m ws p there in
      let same : f ≡ Ice m = sym (ap (first_of f) is) in
      let so : client_reads p.client (message_in (part_of client_opcode f)) p ≡ q =
      ap (λ (x : Message). client_reads p.client (message_in (part_of client_opcode x)) p) same ∙ ap (λ (o : Option IceMessage). client_reads p.client o p) (read m a.0.fits) ∙ took-so p.client m ws p there in
      let left : drop q.took q.said_down ≡ ws = ap (λ (n : ℕ). drop n q.said_down) h.took ∙ ap (λ (xs : List IceMessage). drop (p.took + 1) xs) h.down ∙ next-waits p.took p.said_down ws m d in
      let c : Took back q (takes_parts (map (part_of client_opcode) front) q) =
      on q (subst (λ (x : SetUp). I x) stepped (laws.goes Takes p e)) (subst (λ (xs : List IceMessage). AreSaid xs) (sym left) a.1) (ap (λ (xs : List IceMessage). map Ice xs) left ∙ ap rest_of is) in
      subst (λ (x : SetUp). Took back p (takes_parts (map (part_of client_opcode) front) x)) (sym so) (took-more back p q (takes_parts (map (part_of client_opcode) front) q) h c)

  all-took : Keeping I → (front back : List Message) (p : SetUp) → I p → AreSaid (drop p.took p.said_down) → map Ice (drop p.took p.said_down) ≡ front ++ back → Took back p (takes_parts (map (part_of client_opcode) front) p)
  all-took laws [] back p e a is = record { kept = e; waits = is; down = refl; heard = refl; more = []; up = sym (append-nil p.said_up) }
  all-took laws (f ∷ front) back p e a is = first-took laws f front back p (drop p.took p.said_down) refl e a is (λ q d b i. all-took laws front back q d b i)

  -- Each piece

  pub record Wired (w : Wires) : Type 0 where
    pub kept : I w.ends
    pub up : HoldsBytes client_opcode w.at_manager w.up (map Ice (drop w.ends.heard w.ends.said_up))
    pub down : HoldsBytes client_opcode w.at_client w.down (map Ice (drop w.ends.took w.ends.said_down))

  heard-wires : Keeping I → (count : ℕ) (w : Wires) (back : List Message) (q : SetUp) → Wired w → HoldsBytes client_opcode (cut (fed w.at_manager (take count w.up))).standing (drop count w.up) back → Heard back w.ends q → Wired (manager_read q count w)
  heard-wires laws count w back q h holds c = record {
    kept = c.kept;
    up = subst (λ (xs : List Message). HoldsBytes client_opcode (cut (fed w.at_manager (take count w.up))).standing (drop count w.up) xs) (sym c.waits) holds;
    down = grown w.at_client w.down w.ends.took q.took w.ends.said_down q.said_down c.more c.took c.down (laws.within w.ends h.kept).1 (laws.down q c.kept) h.down;
  }

  took-wires : Keeping I → (count : ℕ) (w : Wires) (back : List Message) (q : SetUp) → Wired w → HoldsBytes client_opcode (cut (fed w.at_client (take count w.down))).standing (drop count w.down) back → Took back w.ends q → Wired (client_read q count w)
  took-wires laws count w back q h holds c = record {
    kept = c.kept;
    up = grown w.at_manager w.up w.ends.heard q.heard w.ends.said_up q.said_up c.more c.heard c.up (laws.within w.ends h.kept).0 (laws.up q c.kept) h.up;
    down = subst (λ (xs : List Message). HoldsBytes client_opcode (cut (fed w.at_client (take count w.down))).standing (drop count w.down) xs) (sym c.waits) holds;
  }

  wired-piece : Keeping I → (x : Piece) (w : Wires) → Wired w → Wired (piece x w)
  wired-piece laws (BytesCome count) w h =
      let b : BringsFront client_opcode (fed w.at_manager (take count w.up)) (drop count w.up) (map Ice (drop w.ends.heard w.ends.said_up)) = pieces-of client_opcode (map Ice (drop w.ends.heard w.ends.said_up)) w.at_manager w.up count h.up in
      let q : SetUp = hears_parts (map (part_of client_opcode) b.front) w.ends in
      let c : Heard b.back w.ends q = all-heard laws b.front b.back w.ends h.kept (drop-said w.ends.heard w.ends.said_up (laws.up w.ends h.kept)) b.all in
      subst (λ (parts : List Part). Wired (manager_read (hears_parts parts w.ends) count w)) (sym b.parts) (heard-wires laws count w b.back q h b.holds c)
  wired-piece laws (TakesBytes count) w h =
      let b : BringsFront client_opcode (fed w.at_client (take count w.down)) (drop count w.down) (map Ice (drop w.ends.took w.ends.said_down)) = pieces-of client_opcode (map Ice (drop w.ends.took w.ends.said_down)) w.at_client w.down count h.down in
      let q : SetUp = takes_parts (map (part_of client_opcode) b.front) w.ends in
      let c : Took b.back w.ends q = all-took laws b.front b.back w.ends h.kept (drop-said w.ends.took w.ends.said_down (laws.down w.ends h.kept)) b.all in
      subst (λ (parts : List Part). Wired (client_read (takes_parts parts w.ends) count w)) (sym b.parts) (took-wires laws count w b.back q h b.holds c)

  wired-after : Keeping I → (pieces : List Piece) (w : Wires) → Wired w → Wired (after_pieces pieces w)
  wired-after laws [] w h = h
  wired-after laws (x ∷ pieces) w h = wired-after laws pieces (piece x w) (wired-piece laws x w h)

-- Where nothing is under way all is taken.

pub not-empty : (xs ys : List ℕ) → 8 ≤ length xs → xs ++ ys ≡ [] → ⊥
not-empty [] ys l e = absurd (omega (arith, l))
not-empty (x ∷ xs) ys l e = absurd cc

none-waits : (ms : List IceMessage) → AllByRecursion (HasBytes client_opcode) (map Ice ms) → ice_bytes ms ≡ [] → ms ≡ []
none-waits [] a e = refl
none-waits (m ∷ ms) a e = absurd (not-empty (spelled_under client_opcode (Ice m)) (ice_bytes ms) a.0.header e)

pub all-taken : (n : ℕ) (all : List IceMessage) → n ≤ length all → drop n all ≡ [] → n ≡ length all
all-taken n all few e = let none : length (drop n all) ≡ 0 = ap (λ (xs : List IceMessage). length xs) e in omega (arith, few, none, length-drop n all)

quiet-at : (at : Standing) (later : List ℕ) (n : ℕ) (all : List IceMessage) → HoldsBytes client_opcode at later (map Ice (drop n all)) → later ≡ [] → at.held ≡ [] → n ≤ length all → n ≡ length all
quiet-at at later n all h none held few =
    let empty : ice_bytes (drop n all) ≡ [] = sym h.bytes ∙ ap (λ (xs : List ℕ). xs ++ later) held ∙ none in
    all-taken n all few (none-waits (drop n all) h.each empty)

wired-quiet : (I : SetUp → Type 0) (w : Wires) → Keeping I → Wired I w → IsStill w → IsQuiet w.ends
wired-quiet I w laws h still = (
  quiet-at w.at_manager w.up w.ends.heard w.ends.said_up h.up still.up still.at_manager (laws.within w.ends h.kept).0,
  quiet-at w.at_client w.down w.ends.took w.ends.said_down h.down still.down still.at_client (laws.within w.ends h.kept).1,
)

-- From the first byte on

wired-begun : (I : SetUp → Type 0) (cookie shown : Cookie) → I (begun cookie shown) → Keeping I → Wired I (began (begun cookie shown))
wired-begun I cookie shown i laws = record {
  kept = i;
  up = record { order = refl; bytes = refl; each = have-bytes (begun cookie shown).said_up (laws.up (begun cookie shown) i) };
  down = record { order = refl; bytes = refl; each = have-bytes (begun cookie shown).said_down (laws.down (begun cookie shown) i) };
}

-- The right cookie

enters-keep : (k : Cookie) → length k.0 ≡ 16 → Keeping (Enters k)
enters-keep k sixteen = record {
  goes = enters-step k;
  within = enters-few k;
  up = λ p e. subst (λ (xs : List IceMessage). AreSaid xs) (sym (lets-in k p e).up) (take-said (length p.said_up) (client_says k) (client-said k sixteen));
  down = λ p e. subst (λ (xs : List IceMessage). AreSaid xs) (sym (lets-in k p e).down) (take-said (length p.said_down) manager_says manager-said);
  hears = λ p m ws e d. (lets-in k p e).stay.0;
  takes = λ p m ws e d. (lets-in k p e).stay.1;
}

pub right-cookies-by-bytes : RightCookiesAreLetInByBytes
right-cookies-by-bytes k pieces sixteen =
    let laws : Keeping (Enters k) = enters-keep k sixteen in
    let w : Wires = after_pieces pieces (began (begun k k)) in
    let h : Wired (Enters k) w = wired-after (Enters k) laws pieces (began (begun k k)) (wired-begun (Enters k) k k (enters-start k) laws) in
    record { lets_in = lets-in k w.ends h.kept; done = wired-quiet (Enters k) w laws h }

-- Another cookie

leaves-keep : (cookie shown : Cookie) → shows cookie shown.0 ≡ false → length shown.0 ≡ 16 → Keeping (Leaves cookie shown)
leaves-keep cookie shown n sixteen = record {
  goes = λ way p e. leaves-step cookie shown way p n e;
  within = leaves-few cookie shown;
  up = λ p e. subst (λ (xs : List IceMessage). AreSaid xs) (sym (keeps-out cookie shown p e).up) (take-said (length p.said_up) _ (refused-said shown sixteen));
  down = λ p e. subst (λ (xs : List IceMessage). AreSaid xs) (sym (keeps-out cookie shown p e).down) (take-said (length p.said_down) _ (refuses-said shown));
  hears = leaves-hears cookie shown;
  takes = leaves-takes cookie shown;
}

pub other-cookies-by-bytes : OtherCookiesAreKeptOutByBytes
other-cookies-by-bytes cookie shown pieces n sixteen =
    let laws : Keeping (Leaves cookie shown) = leaves-keep cookie shown n sixteen in
    let w : Wires = after_pieces pieces (began (begun cookie shown)) in
    let h : Wired (Leaves cookie shown) w = wired-after (Leaves cookie shown) laws pieces (began (begun cookie shown)) (wired-begun (Leaves cookie shown) cookie shown (leaves-start cookie shown) laws) in
    record { kept_out = keeps-out cookie shown w.ends h.kept; done = wired-quiet (Leaves cookie shown) w laws h }

-- Another version

offer-keep : (cookie shown : Cookie) (must : Bool) (vendor release : List ℕ) (names : List (List ℕ)) (offered : List Version) → first_version offered ≡ None → IsMessage (ConnectionSetup must vendor release names offered)
    → HasBytes client_opcode (Ice (ConnectionSetup must vendor release names offered)) → Keeping (IsOffer cookie shown must vendor release names offered)
offer-keep cookie shown must vendor release names offered n fits bytes = record {
  goes = λ way p e. offer-step cookie shown must vendor release names offered way p n e;
  within = offer-few cookie shown must vendor release names offered;
  up = λ p e.
      subst (λ (xs : List IceMessage). AreSaid xs) (sym (offer-ends cookie shown must vendor release names offered p e).up)
      (take-said (length p.said_up) _ (offered-said (ConnectionSetup must vendor release names offered) fits bytes));
  down = λ p e. subst (λ (xs : List IceMessage). AreSaid xs) (sym (offer-ends cookie shown must vendor release names offered p e).down) (take-said (length p.said_down) _ versions-said);
  hears = offer-hears cookie shown must vendor release names offered;
  takes = offer-takes cookie shown must vendor release names offered;
}

pub other-versions-by-bytes : OtherVersionsAreKeptOutByBytes
other-versions-by-bytes cookie shown must vendor release names offered pieces n fits bytes =
    let setup : IceMessage = ConnectionSetup must vendor release names offered in
    let I : SetUp → Type 0 = IsOffer cookie shown must vendor release names offered in
    let laws : Keeping I = offer-keep cookie shown must vendor release names offered n fits bytes in
    let begin : Wired I (began_with cookie shown setup) = record {
      kept = offer-start cookie shown must vendor release names offered;
      up = record { order = refl; bytes = refl; each = (bytes, tt) };
      down = record { order = refl; bytes = refl; each = tt };
    } in
    let w : Wires = after_pieces pieces (began_with cookie shown setup) in
    let h : Wired I w = wired-after I laws pieces (began_with cookie shown setup) begin in
    record { kept_out = offer-ends cookie shown must vendor release names offered w.ends h.kept; done = wired-quiet I w laws h }
