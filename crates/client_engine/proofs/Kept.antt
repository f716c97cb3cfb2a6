-- Parts one after another, for any keeper that may fail.
use Rattle.std.proofs.Common.{◌≡◌, ℕ, ◌≤◌, arith, Bool, true, false, List, [], ◌∷◌, ◌++◌, length, drop, Option, None, Some, refl, sym, ◌∙◌, ap, subst}
use Rattle.std.proofs.lemmas.Bool.{false≢true}
use Rattle.ice_framing.specs.Frames.{Standing, IsPartial, cut, fed, unit_limit, units}
use Rattle.ice_framing.specs.Parts.{Part, parts_at}
use Rattle.ice_framing.proofs.Cuts.{fed-nil}
use Rattle.client_engine.specs.Cutting.{Deaf, Holds, TakesFirst, TakesNothing}
use Rattle.client_engine.specs.Driving.{Run, StaysStopped, Step, heeding, parts_taken, piece_taken, reacting, stays}
use Rattle.client_engine.specs.Hearing.{part_heard}
use Rattle.client_engine.specs.Keeping.{Composes, IsRun, Takes, TakesPiece}
use Rattle.client_engine.specs.Places.{is_listening}
use Rattle.client_engine.specs.declared.engine.Core.{Core}
use Rattle.client_engine.specs.declared.engine.Taken.{Taken}
use Rattle.client_engine.specs.declared.hearing.Cue.{Cue}
use Rattle.client_engine.specs.declared.hearing.Heard.{Heard}
use Rattle.protocol_messages.specs.declared.message.Message.{Message}
use Rattle.client_engine.specs.declared.place.Talk.{Talk}
use Rattle.client_engine.proofs.Driven.{Middle, begins, deaf_parts, ends, further, held_stands, holds, nothing_left}

pub none_left : (bytes : List ℕ) → length bytes ≡ 0 → bytes ≡ []
none_left [] none = refl
none_left (b ∷ bytes) none = absurd (omega arith)

module _ {K R E D F : Type 0} (unasked : R) (talk_of : K → Talk) (stand_at : Talk → K → K) (says : Message → E) (cued : K → R → Cue → Step K E) (carries : D → D → List E → Option F → Type 0) where
  abbrev reacts : K → Heard → R → Step K E
  reacts keeper heard r = reacting stand_at says cued keeper heard r

  abbrev pub AreStopped : Type 0
  AreStopped = StaysStopped unasked talk_of (reacting stand_at says cued)

  abbrev all_in : K → List Part → List R → Step K E
  all_in keeper parts rs = parts_taken unasked talk_of (reacting stand_at says cued) keeper parts rs

  abbrev MiddleIn : K → K → Standing → Standing → List ℕ → List ℕ → List R → List E → Type 0
  MiddleIn first now begin at piece left rs line = Middle unasked talk_of (reacting stand_at says cued) first now begin at piece left rs line

  abbrev pub PieceIn : D → D → Run K → List ℕ → K → Standing → Option F → Type 0
  PieceIn old new run bytes after splitter fault = TakesPiece carries unasked talk_of (reacting stand_at says cued) old new run bytes after splitter fault

  -- how far a run is, as its keeper holds the stream
  abbrev pub own_run : K → Standing → Run K
  own_run keeper splitter = record { standing = splitter; keeper = keeper }

  -- what is done about a part that was taken
  abbrev pub part_step : K → Core → Taken → R → Step K E
  part_step keeper core taken r = heeding says cued taken.said (stand_at core.talk keeper) taken.cue r

  step_is : (keeper : K) (before after : Core) (left : List ℕ) (taken : Taken) (first : TakesFirst before left taken after) → talk_of keeper ≡ before.talk → (r : R) → part_step keeper after taken r ≡ reacts keeper (part_heard (talk_of keeper) first.part) r
  step_is keeper before after left taken first same r = rw (same, first.said, first.cue, first.talk) refl

  -- a part was served, by a keeper whose client stood elsewhere by then
  pub served : (desk now later : D) (keeper moved after : K) (core : Core) (taken : Taken) (fault : Option F) → moved ≡ stand_at core.talk keeper → desk ≡ now → Takes carries desk later (heeding says cued taken.said moved taken.cue) after fault → Takes carries now later (part_step keeper core taken) after fault
  served desk now later keeper moved after core taken fault moves same takes =
      subst (λ (d : D). Takes carries d later (part_step keeper core taken) after fault) same
      (subst (λ (k : K). Takes carries desk later (heeding says cued taken.said k taken.cue) after fault) moves takes)

  -- in the middle of a piece
  pub record Amid (old now : D) (first : K) (begin : Standing) (piece left : List ℕ) (keeper : K) (at : Standing) : Type 0 where
    pub replies : List R
    pub line : List E
    pub middle : MiddleIn first keeper begin at piece left replies line
    pub does : carries old now line None

  pub amid_begun : Composes carries → (d : D) (keeper : K) (at : Standing) (piece : List ℕ) → Amid d d keeper at piece piece keeper at
  amid_begun composes d keeper at piece = record { replies = []; line = []; middle = begins unasked talk_of (reacting stand_at says cued) keeper at piece; does = composes.none d }

  -- one more part was taken
  pub amid_more : Composes carries → AreStopped → (old now later : D) (first keeper after : K) (begin : Standing) (before core : Core) (splitter : Standing) (piece left : List ℕ) (taken : Taken) → Amid old now first begin piece left keeper before.splitter → talk_of keeper ≡ before.talk → TakesFirst before left taken core
      → Takes carries now later (part_step keeper core taken) after None → splitter ≡ core.splitter → Amid old later first begin piece (drop taken.count left) after splitter
  amid_more composes stops old now later first keeper after begin before core splitter piece left taken amid talk cuts takes same =
      let step : Step K E = reacts keeper (part_heard (talk_of keeper) cuts.part) takes.said in
      let is : part_step keeper core taken takes.said ≡ step = step_is keeper before core left taken cuts talk takes.said in
      let next : step.next ≡ after = ap (λ (s : Step K E). s.next) (sym is) ∙ sym (takes.next refl) in
      let heard : (part_heard (talk_of keeper) cuts.part).next ≡ core.talk = ap (λ (t : Talk). (part_heard t cuts.part).next) talk ∙ sym cuts.talk in
      let more : MiddleIn first step.next begin core.splitter piece (drop taken.count left) (amid.replies ++ takes.said ∷ []) (amid.line ++ step.line) =
      further unasked talk_of (reacting stand_at says cued) stops first keeper begin before.splitter core.splitter piece left (drop taken.count left) amid.replies amid.line cuts.part takes.said amid.middle cuts.parts (λ still. cuts.stands (ap (λ (t : Talk). is_listening t.place) (sym heard) ∙ still)) (ap (λ (t : Talk). is_listening t.place) talk ∙ cuts.listens) in
      record {
        replies = amid.replies ++ takes.said ∷ [];
        line = amid.line ++ step.line;
        middle = subst (λ (at : Standing). MiddleIn first after begin at piece (drop taken.count left) (amid.replies ++ takes.said ∷ []) (amid.line ++ step.line)) (sym same)
            (subst (λ (k : K). MiddleIn first k begin core.splitter piece (drop taken.count left) (amid.replies ++ takes.said ∷ []) (amid.line ++ step.line)) next more);
        does = composes.more old now later amid.line step.line None amid.does (subst (λ (s : Step K E). carries now later s.line None) is takes.does);
      }

  -- what is left has no part that is taken
  piece_ended : (old now : D) (first keeper : K) (begin at splitter : Standing) (piece left : List ℕ) (amid : Amid old now first begin piece left keeper at) → all_in keeper (parts_at (fed at left)) [] ≡ stays keeper
      → (is_listening (talk_of keeper).place ≡ true → splitter ≡ (cut (fed begin piece)).standing) → PieceIn old now (own_run first begin) piece keeper splitter None
  piece_ended old now first keeper begin at splitter piece left amid silent feeds =
      let whole : piece_taken unasked talk_of (reacting stand_at says cued) (own_run first begin) piece amid.replies ≡ record { line = amid.line; next = record { standing = (cut (fed begin piece)).standing; keeper = keeper } } =
      ends unasked talk_of (reacting stand_at says cued) first keeper begin at piece left amid.replies amid.line amid.middle silent in
      record {
        replies = amid.replies;
        does = subst (λ (s : Step (Run K) E). carries old now s.line None) (sym whole) amid.does;
        next = λ e. subst (λ (s : Step (Run K) E). IsRun talk_of s.next keeper splitter) (sym whole) (record { keeper = refl; feeds = feeds });
      }

  -- the piece is at its end
  pub amid_done : (old now : D) (first keeper : K) (begin at : Standing) (piece left : List ℕ) → Amid old now first begin piece left keeper at → left ≡ [] → IsPartial at → units at ≤ unit_limit → PieceIn old now (own_run first begin) piece keeper at None
  amid_done old now first keeper begin at piece left amid none partial within =
      let nothing : parts_at (fed at left) ≡ [] = ap (λ (l : List ℕ). parts_at (fed at l)) none ∙ nothing_left at partial within in
      let there : (cut (fed at left)).standing ≡ at = ap (λ (l : List ℕ). (cut (fed at l)).standing) none ∙ (ap (λ (s : Standing). (cut s).standing) (fed-nil at) ∙ held_stands at partial) in
      piece_ended old now first keeper begin at at piece left amid (holds unasked talk_of (reacting stand_at says cued) keeper (fed at left) nothing) (λ listens. sym there ∙ amid.middle.stands listens)

  -- no further part is taken
  pub amid_held : AreStopped → (old now : D) (first keeper : K) (begin : Standing) (before core : Core) (piece left : List ℕ) → Amid old now first begin piece left keeper before.splitter → talk_of keeper ≡ before.talk → TakesNothing before left core → IsPartial core.splitter → PieceIn old now (own_run first begin) piece keeper core.splitter None
  amid_held stops old now first keeper begin before core piece left amid talk (Holds held) partial =
      let at : Standing = before.splitter in
      let there : (cut (fed at left)).standing ≡ core.splitter = ap (λ (s : Standing). (cut s).standing) (sym held.splitter) ∙ held_stands core.splitter partial in
      piece_ended old now first keeper begin at core.splitter piece left amid (holds unasked talk_of (reacting stand_at says cued) keeper (fed at left) held.none) (λ listens. sym there ∙ amid.middle.stands listens)
  amid_held stops old now first keeper begin before core piece left amid talk (Deaf deaf) partial =
      let silent : is_listening (talk_of keeper).place ≡ false = ap (λ (t : Talk). is_listening t.place) talk ∙ deaf.deaf in
      piece_ended old now first keeper begin before.splitter core.splitter piece left amid (deaf_parts unasked talk_of (reacting stand_at says cued) stops keeper (parts_at (fed before.splitter left)) [] silent) (λ listens. absurd (false≢true (sym silent ∙ listens)))

  -- where nothing is taken the client stands where it stood
  talk_kept : (before core : Core) (left : List ℕ) → TakesNothing before left core → core.talk ≡ before.talk
  talk_kept before core left (Holds held) = held.talk
  talk_kept before core left (Deaf deaf) = deaf.talk

  pub amid_ended : AreStopped → (old desk now : D) (first keeper moved : K) (begin : Standing) (before core : Core) (piece left : List ℕ) → Amid old now first begin piece left keeper before.splitter → talk_of keeper ≡ before.talk → stand_at (talk_of keeper) keeper ≡ keeper → moved ≡ stand_at core.talk keeper → desk ≡ now
      → TakesNothing before left core → IsPartial core.splitter → PieceIn old desk (own_run first begin) piece moved core.splitter None
  amid_ended stops old desk now first keeper moved begin before core piece left amid talk there moves same nothing partial =
      let stays_there : moved ≡ keeper = moves ∙ (ap (λ (t : Talk). stand_at t keeper) (talk_kept before core left nothing ∙ sym talk) ∙ there) in
      subst (λ (d : D). PieceIn old d (own_run first begin) piece moved core.splitter None) (sym same)
      (subst (λ (k : K). PieceIn old now (own_run first begin) piece k core.splitter None) (sym stays_there) (amid_held stops old now first keeper begin before core piece left amid talk nothing partial))

  -- ---- faults

  -- before the next part
  pub amid_never : Composes carries → (old now : D) (first keeper after : K) (begin at splitter : Standing) (piece left : List ℕ) (fault : F) → Amid old now first begin piece left keeper at → ((d : D) (line : List E) → carries d d line (Some fault)) → PieceIn old now (own_run first begin) piece after splitter (Some fault)
  amid_never composes old now first keeper after begin at splitter piece left fault amid never =
      let rest : Step K E = all_in keeper (parts_at (fed at left)) [] in
      let line : (all_in first (parts_at (fed begin piece)) (amid.replies ++ [])).line ≡ amid.line ++ rest.line = ap (λ (s : Step K E). s.line) (amid.middle.goes_on []) in
      record {
        replies = amid.replies ++ [];
        does = subst (λ (es : List E). carries old now es (Some fault)) (sym line) (composes.more old now now amid.line rest.line (Some fault) amid.does (never now rest.line));
        next = λ e. absurd cc;
      }

  -- as the next part was taken
  pub amid_failed : Composes carries → (old now later : D) (first keeper after : K) (begin : Standing) (before core : Core) (splitter : Standing) (piece left : List ℕ) (taken : Taken) (fault : F) → Amid old now first begin piece left keeper before.splitter → talk_of keeper ≡ before.talk → TakesFirst before left taken core
      → Takes carries now later (part_step keeper core taken) after (Some fault) → PieceIn old later (own_run first begin) piece after splitter (Some fault)
  amid_failed composes old now later first keeper after begin before core splitter piece left taken fault amid talk cuts takes =
      let step : Step K E = reacts keeper (part_heard (talk_of keeper) cuts.part) takes.said in
      let is : part_step keeper core taken takes.said ≡ step = step_is keeper before core left taken cuts talk takes.said in
      let rest : Step K E = all_in step.next (parts_at (fed core.splitter (drop taken.count left))) [] in
      let line : (all_in first (parts_at (fed begin piece)) (amid.replies ++ takes.said ∷ [])).line ≡ amid.line ++ (step.line ++ rest.line) =
      ap (λ (s : Step K E). s.line) (amid.middle.goes_on (takes.said ∷ [])) ∙ ap (λ (ps : List Part). amid.line ++ (all_in keeper ps (takes.said ∷ [])).line) cuts.parts in
      record {
        replies = amid.replies ++ takes.said ∷ [];
        does = subst (λ (es : List E). carries old later es (Some fault)) (sym line)
            (composes.more old now later amid.line (step.line ++ rest.line) (Some fault) amid.does
            (composes.cut now later step.line rest.line fault (subst (λ (s : Step K E). carries now later s.line (Some fault)) is takes.does)));
        next = λ e. absurd cc;
      }

  -- ---- the run that the keeper follows

  -- what the keeper's own run brings, the run brings
  pub for_run : AreStopped → (old new : D) (run : Run K) (first after : K) (begin splitter : Standing) (piece : List ℕ) (fault : Option F) → IsRun talk_of run first begin → PieceIn old new (own_run first begin) piece after splitter fault → PieceIn old new run piece after splitter fault
  for_run stops old new run first after begin splitter piece fault is_run takes = by (is_listening (talk_of first).place) refl
    where
      by : (b : Bool) → is_listening (talk_of first).place ≡ b → PieceIn old new run piece after splitter fault
      by true listens =
          let same : own_run first begin ≡ run = rw (is_run.keeper, is_run.feeds listens) refl in
          subst (λ (r : Run K). PieceIn old new r piece after splitter fault) same takes
      by false deaf =
          let own : all_in first (parts_at (fed begin piece)) takes.replies ≡ stays first = deaf_parts unasked talk_of (reacting stand_at says cued) stops first (parts_at (fed begin piece)) takes.replies deaf in
          let silent : all_in run.keeper (parts_at (fed run.standing piece)) takes.replies ≡ stays run.keeper = deaf_parts unasked talk_of (reacting stand_at says cued) stops run.keeper (parts_at (fed run.standing piece)) takes.replies (ap (λ (k : K). is_listening (talk_of k).place) (sym is_run.keeper) ∙ deaf) in
          record {
            replies = takes.replies;
            does = subst (λ (es : List E). carries old new es fault) (ap (λ (s : Step K E). s.line) own ∙ ap (λ (s : Step K E). s.line) (sym silent)) takes.does;
            next = λ e.
                let stands : after ≡ first = (takes.next e).keeper ∙ ap (λ (s : Step K E). s.next) own in
                record {
                  keeper = stands ∙ (is_run.keeper ∙ ap (λ (s : Step K E). s.next) (sym silent));
                  feeds = λ listens. absurd (false≢true (sym deaf ∙ (ap (λ (k : K). is_listening (talk_of k).place) (sym stands) ∙ listens)));
                };
          }
