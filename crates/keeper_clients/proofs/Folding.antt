-- A keeper is a free client where it is one at each cue.
use Rattle.std.proofs.Common.{◌≡◌, ℕ, zero, suc, Bool, true, false, cond, List, [], ◌∷◌, ◌++◌, map, take, drop, length, refl, sym, ◌∙◌, ap, subst}
use Rattle.std.proofs.Math.Seq.{take-length, take-nil}
use Rattle.std.proofs.lemmas.Grind.{flat_map-append}
use Rattle.std.specs.List.{AllByRecursion, flat_map}
use Rattle.ice_framing.specs.Frames.{Standing, cut, fed}
use Rattle.ice_framing.specs.Parts.{Part, parts_at}
use Rattle.checkpoint_records.proofs.DistinctLaws.{all_behind, all_front}
use Rattle.client_engine.specs.Driving.{Step, behind, part_taken, parts_taken, reacting, reply, stays}
use Rattle.client_engine.specs.Hearing.{part_heard, saying}
use Rattle.client_engine.specs.Places.{is_listening}
use Rattle.client_engine.specs.Speaking.{HasPlace}
use Rattle.client_engine.specs.declared.hearing.Cue.{Cue}
use Rattle.client_engine.specs.declared.hearing.Cue.TheVariants.{Nothing}
use Rattle.client_engine.specs.declared.hearing.Heard.{Heard}
use Rattle.client_engine.specs.declared.place.Talk.{Talk}
use Rattle.client_engine.proofs.Driven.{deaf_part}
use Rattle.protocol_messages.specs.declared.message.Message.{Message}
use Rattle.stream_clients.specs.Clients.{Client, Wish}
use Rattle.stream_clients.specs.Clients.{cued as free_cued, reacts as free_reacts, stand_at as free_stand_at}
use Rattle.keeper_clients.specs.Freedom.{AreAlike, IsFree, freely_taken}
use Rattle.keeper_clients.proofs.Placed.{IsPlaced, placed-part}

-- one wish list does it
pub record Freely {K E X : Type 0} (talk_of : K → Talk) (said_in : E → List X) (said : Message → List X) (done : Step K E) (free : List Wish → Step Client Message) : Type 0 where
  pub wishes : List Wish
  pub alike : AreAlike talk_of said_in said done (free wishes)

pub flat-both : {A B X : Type 0} (f : A → List X) (g : B → List X) (xs more : List A) (ys others : List B) → flat_map f xs ≡ flat_map g ys → flat_map f more ≡ flat_map g others → flat_map f (xs ++ more) ≡ flat_map g (ys ++ others)
flat-both f g xs more ys others e d = flat_map-append f xs more ∙ ap (λ zs. zs ++ flat_map f more) e ∙ ap (λ zs. flat_map g ys ++ zs) d ∙ sym (flat_map-append g ys others)

-- so much more was done in front
pub behind-alike : {K E X : Type 0} (talk_of : K → Talk) (said_in : E → List X) (said : Message → List X) (line : List E) (messages : List Message) (done : Step K E) (free : Step Client Message) → flat_map said_in line ≡ flat_map said messages → AreAlike talk_of said_in said done free → AreAlike talk_of said_in said (behind line done) (behind messages free)
behind-alike talk_of said_in said line messages done free same alike = record { line = flat-both said_in said line done.line messages free.line same alike.line; talk = alike.talk }

module _ {K R E X : Type 0} (unasked : R) (talk_of : K → Talk) (stand_at : Talk → K → K) (says : Message → E) (cued : K → R → Cue → Step K E) (said_in : E → List X) (said : Message → List X) (fits : E → Type 0) where
  abbrev reacts : K → Heard → R → Step K E
  reacts keeper heard r = reacting stand_at says cued keeper heard r

  -- what a keeper must be like
  pub record Heeds : Type 0 where
    pub talk_is : (talk : Talk) (keeper : K) → talk_of (stand_at talk keeper) ≡ talk
    pub says_is : (message : Message) → said_in (says message) ≡ said message
    pub nothing : (keeper : K) (r : R) → cued keeper r Nothing ≡ stays keeper
    pub cues : (keeper : K) (client : Client) (cue : Cue) (r : R) → talk_of keeper ≡ client.talk → HasPlace cue client.talk.place → AllByRecursion fits (cued keeper r cue).line → Freely talk_of said_in said (cued keeper r cue) (λ wishes. free_cued client wishes cue)

  says-so : Heeds → (messages : List Message) → flat_map said_in (map says messages) ≡ flat_map said (map (λ (m : Message). m) messages)
  says-so h [] = refl
  says-so h (m ∷ ms) = flat-both said_in said (says m ∷ []) (map says ms) (m ∷ []) (map (λ (x : Message). x) ms) (ap (λ (xs : List X). xs ++ []) (h.says_is m)) (says-so h ms)

  -- what a part brings, where the client listens or not
  heard-freely : Heeds → (keeper : K) (client : Client) (heard : Heard) (r : R) (listens : Bool) → is_listening client.talk.place ≡ listens → IsPlaced heard
      → (is_listening client.talk.place ≡ false → heard ≡ saying [] client.talk.counts client.talk.place) → AllByRecursion fits (reacts keeper heard r).line → Freely talk_of said_in said (reacts keeper heard r) (λ wishes. free_reacts client heard wishes)
  heard-freely h keeper client heard r true is placed deaf each =
      let next : K = stand_at heard.next keeper in
      let there : Client = free_stand_at heard.next client in
      let f : Freely talk_of said_in said (cued next r heard.cue) (λ wishes. free_cued there wishes heard.cue) =
      h.cues next there heard.cue r (h.talk_is heard.next keeper) placed (all_behind fits (map says heard.said) (cued next r heard.cue).line each) in
      let free : Step Client Message = behind (map (λ (m : Message). m) heard.said) (free_cued there f.wishes heard.cue) in
      let so : free_reacts client heard f.wishes ≡ free = ap (λ (b : Bool). cond b free (stays client)) is in
      record {
        wishes = f.wishes;
        alike = subst (λ (s : Step Client Message). AreAlike talk_of said_in said (reacts keeper heard r) s) (sym so) (record {
          line = flat-both said_in said (map says heard.said) (cued next r heard.cue).line (map (λ (m : Message). m) heard.said) (free_cued there f.wishes heard.cue).line (says-so h heard.said) f.alike.line;
          talk = f.alike.talk;
        });
      }
  heard-freely h keeper client heard r false is placed deaf each =
      let silent : Heard = saying [] client.talk.counts client.talk.place in
      let still : reacts keeper heard r ≡ stays (stand_at client.talk keeper) = ap (λ (x : Heard). reacts keeper x r) (deaf is) ∙ ap (λ (s : Step K E). behind [] s) (h.nothing (stand_at client.talk keeper) r) in
      let so : free_reacts client heard [] ≡ stays client = ap (λ (b : Bool). cond b (behind (map (λ (m : Message). m) heard.said) (free_cued (free_stand_at heard.next client) [] heard.cue)) (stays client)) is in
      record {
        wishes = [];
        alike = subst (λ (s : Step Client Message). AreAlike talk_of said_in said (reacts keeper heard r) s) (sym so)
            (subst (λ (s : Step K E). AreAlike talk_of said_in said s (stays client)) (sym still) (record { line = refl; talk = h.talk_is client.talk keeper }));
      }

  part-freely : Heeds → (keeper : K) (client : Client) (part : Part) (r : R) → talk_of keeper ≡ client.talk → AllByRecursion fits (part_taken unasked talk_of reacts keeper part r).line
      → Freely talk_of said_in said (part_taken unasked talk_of reacts keeper part r) (λ wishes. free_reacts client (part_heard client.talk part) wishes)
  part-freely h keeper client part r same each =
      subst (λ (t : Talk). Freely talk_of said_in said (reacts keeper (part_heard (talk_of keeper) part) r) (λ wishes. free_reacts client (part_heard t part) wishes)) same
      (heard-freely h keeper client (part_heard (talk_of keeper) part) r (is_listening client.talk.place) refl (placed-part (talk_of keeper) part) (λ deaf. ap (λ (t : Talk). part_heard t part) same ∙ deaf_part client.talk part deaf) each)

  -- all parts of a piece
  record All (keeper : K) (client : Client) (parts : List Part) (rs : List R) : Type 0 where
    wishes : List (List Wish)
    each : (n : ℕ) → AreAlike talk_of said_in said (parts_taken unasked talk_of reacts keeper (take n parts) rs) (freely_taken client (take n parts) wishes)

  none-freely : (keeper : K) (client : Client) (rs : List R) (ws : List (List Wish)) → talk_of keeper ≡ client.talk → AreAlike talk_of said_in said (parts_taken unasked talk_of reacts keeper [] rs) (freely_taken client [] ws)
  none-freely keeper client rs ws same = record { line = refl; talk = same }

  one-more : (keeper : K) (client : Client) (part : Part) (parts : List Part) (rs : List R) (w : List Wish) (ws : List (List Wish)) → talk_of keeper ≡ client.talk
      → AreAlike talk_of said_in said (part_taken unasked talk_of reacts keeper part (reply unasked talk_of reacts rs)) (free_reacts client (part_heard client.talk part) w)
      → ((n : ℕ) → AreAlike talk_of said_in said (parts_taken unasked talk_of reacts (part_taken unasked talk_of reacts keeper part (reply unasked talk_of reacts rs)).next (take n parts) (drop 1 rs)) (freely_taken (free_reacts client (part_heard client.talk part) w).next (take n parts) ws))
      → (n : ℕ) → AreAlike talk_of said_in said (parts_taken unasked talk_of reacts keeper (take n (part ∷ parts)) rs) (freely_taken client (take n (part ∷ parts)) (w ∷ ws))
  one-more keeper client part parts rs w ws same first rest zero = none-freely keeper client rs (w ∷ ws) same
  one-more keeper client part parts rs w ws same first rest (suc n) =
      let s : Step K E = part_taken unasked talk_of reacts keeper part (reply unasked talk_of reacts rs) in
      let f : Step Client Message = free_reacts client (part_heard client.talk part) w in
      record {
        line = flat-both said_in said s.line (parts_taken unasked talk_of reacts s.next (take n parts) (drop 1 rs)).line f.line (freely_taken f.next (take n parts) ws).line first.line (rest n).line;
        talk = (rest n).talk;
      }

  parts-freely : Heeds → (parts : List Part) (keeper : K) (client : Client) (rs : List R) → talk_of keeper ≡ client.talk → AllByRecursion fits (parts_taken unasked talk_of reacts keeper parts rs).line → All keeper client parts rs
  parts-freely h [] keeper client rs same each = record {
    wishes = [];
    each = λ n. subst (λ (ps : List Part). AreAlike talk_of said_in said (parts_taken unasked talk_of reacts keeper ps rs) (freely_taken client ps [])) (sym (take-nil n)) (none-freely keeper client rs [] same);
  }
  parts-freely h (part ∷ parts) keeper client rs same each =
      let r : R = reply unasked talk_of reacts rs in
      let s : Step K E = part_taken unasked talk_of reacts keeper part r in
      let more : List E = (parts_taken unasked talk_of reacts s.next parts (drop 1 rs)).line in
      let f : Freely talk_of said_in said s (λ wishes. free_reacts client (part_heard client.talk part) wishes) = part-freely h keeper client part r same (all_front fits s.line more each) in
      let next : Client = (free_reacts client (part_heard client.talk part) f.wishes).next in
      let rest : All s.next next parts (drop 1 rs) = parts-freely h parts s.next next (drop 1 rs) f.alike.talk (all_behind fits s.line more each) in
      record { wishes = f.wishes ∷ rest.wishes; each = one-more keeper client part parts rs f.wishes rest.wishes same f.alike rest.each }

  pub is-free : Heeds → IsFree unasked talk_of reacts said_in said fits
  is-free h run free bytes rs meets each =
      let parts : List Part = parts_at (fed run.standing bytes) in
      let a : All run.keeper free.keeper parts rs = parts-freely h parts run.keeper free.keeper rs meets.talk each in
      let whole : AreAlike talk_of said_in said (parts_taken unasked talk_of reacts run.keeper parts rs) (freely_taken free.keeper parts a.wishes) =
      subst (λ (ps : List Part). AreAlike talk_of said_in said (parts_taken unasked talk_of reacts run.keeper ps rs) (freely_taken free.keeper ps a.wishes)) (take-length parts) (a.each (length parts)) in
      let same : AreAlike talk_of said_in said (parts_taken unasked talk_of reacts run.keeper parts rs) (freely_taken free.keeper (parts_at (fed free.standing bytes)) a.wishes) =
      subst (λ (at : Standing). AreAlike talk_of said_in said (parts_taken unasked talk_of reacts run.keeper parts rs) (freely_taken free.keeper (parts_at (fed at bytes)) a.wishes)) meets.standing whole in
      record {
        wishes = a.wishes;
        each = λ n. subst (λ (at : Standing). AreAlike talk_of said_in said (parts_taken unasked talk_of reacts run.keeper (take n parts) rs) (freely_taken free.keeper (take n (parts_at (fed at bytes))) a.wishes)) meets.standing (a.each n);
        line = same.line;
        meets = record { standing = ap (λ (at : Standing). (cut (fed at bytes)).standing) meets.standing; talk = same.talk };
      }
