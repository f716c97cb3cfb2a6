-- One receive after another: how far a run is, and how it ends.
use Rattle.std.proofs.Common.{◌≡◌, ◌≢◌, ◌⊎◌, inl, inr, ℕ, ◌+◌, ◌<◌, ◌≤◌, false, List, [], ◌∷◌, ◌++◌, length, map, Option, None, Some, Ok, Err, option_map, refl, sym, ◌∙◌, ap, subst, arith, append-nil, append_assoc, length-append}
use Rattle.std.proofs.lemmas.Grind.{flat_map-append}
use Rattle.std.proofs.lemmas.List.{map-append}
use Rattle.ice_cookie.specs.declared.cookies.Cookie.{Cookie}
use Rattle.ice_framing.specs.Frames.{cut}
use Rattle.ice_framing.specs.Parts.{parts_of}
use Rattle.ice_messages.specs.declared.message.IceMessage.TheVariants.{ByteOrder}
use Rattle.ice_values.specs.declared.numbers.Endian.TheVariants.{Lsb}
use Rattle.sm_world.specs.Effects.{heard}
use Rattle.sm_world.specs.Outside.{NotFallen, Outside, adds}
use Rattle.sm_world.specs.declared.effects.Effect.{Effect}
use Rattle.sm_world.specs.declared.effects.Effect.TheVariants.{Heard}
use Rattle.sm_world.specs.declared.events.Event.{Event}
use Rattle.sm_world.specs.declared.failures.Failure.{Failure}
use Rattle.sm_world.specs.declared.failures.Failure.TheVariants.{Failed, NoMemory as DeviceMemory}
use Rattle.sm_world.proofs.Adding.{adds-adds, adds-none, fallen_never}
use Rattle.client_engine.specs.Driving.{Run, Step, both}
use Rattle.client_engine.specs.Messages.{spelled}
use Rattle.protocol_messages.specs.declared.message.Message.TheVariants.{Ice}
use Rattle.client_machine.specs.declared.saves.SaveAnswer.{SaveAnswer}
use Rattle.client_peer.specs.Peers.{received}
use Rattle.named_joiner.specs.Doing.{Follows, bytes_in}
use Rattle.named_joiner.specs.Doing.{bytes_of as entry_bytes}
use Rattle.named_joiner.specs.Script.{Callbacks, Entry, Keeper, Replies, Says, is_over, piece_heard}
use Rattle.named_joiner.specs.Standing.{IsRun, Joining, keeper_at, start_stand}
use Rattle.named_joiner.specs.declared.callbacks.NamedAsk.{NamedAsk}
use Rattle.named_joiner.specs.declared.ends.Ending.{Ending as Spending}
use Rattle.named_joiner.specs.declared.ends.Ending.TheVariants.{Ended}
use Rattle.named_joiner.specs.declared.ends.NamedEnd.{NamedEnd}
use Rattle.named_joiner.specs.declared.ends.NamedEnd.TheVariants.{Died, Refused as IsRefused, Malformed as IsMalformed}
use Rattle.named_joiner.specs.declared.ends.NamedReply.{NamedReply}
use Rattle.named_joiner.proofs.DoingLaws.{follows-append}
use Rattle.sm_world.proofs.Counting.{rose_since}
use Rattle.smwrap_app.specs.Faults.{Ending, end_of, peer_fault}
use Rattle.smwrap_app.specs.Running.{IsCaused, IsEnd, IsPrompt, IsWhole, all_heard, last_receive, sent, stream, wrap_end, wrap_script}
use Rattle.smwrap_app.specs.Turning.{Amid, BreaksAt, Delivers, Finishes, HearsPiece, Listens, delivery}
use Rattle.smwrap_app.specs.declared.fault.Fault.{Fault}
use Rattle.smwrap_app.specs.declared.fault.Fault.TheVariants.{BadWords, Refused, StreamEnded, NoEntry, Link, Spent, NoMemory, Malformed, Disk}
use Rattle.smwrap_app.proofs.EffectLaws.{all_append, heard_append, heard_delivery, not_heard, only_one, sent_append, sent_delivery, sent_more, stream_append, stream_delivery, stream_more}
use Rattle.smwrap_app.proofs.ScriptLaws.{goes_on, place_in}

pub going_on : (ending : Option Spending) → is_over ending ≡ false → ending ≡ None
going_on None going = refl
going_on (Some end) going = absurd cc

-- ---- what was sent before each receive

module _ (cookie : Cookie) (previous : List ℕ) where
  abbrev bytes_for : List Replies → List ℕ → List ℕ
  bytes_for rs xs = bytes_in (wrap_script cookie previous rs xs)

  -- one receive more
  prompt_heard : (rs qs : List Replies) (es : List Effect) (event : Event) → ((zs ts : List ℕ) → zs ++ ts ≡ stream es → all_heard cookie previous qs zs ≡ all_heard cookie previous rs zs) → IsPrompt cookie previous rs es → sent es ≡ bytes_for rs (stream es) → IsPrompt cookie previous qs (es ++ (Heard event ∷ []))
  prompt_heard rs qs es event same prompt all = λ before after other are. by before after other (place_in before after es (Heard event ∷ []) (Heard other) are)
    where
      as_before : (zs ts : List ℕ) → zs ++ ts ≡ stream es → bytes_for rs zs ≡ bytes_for qs zs
      as_before zs ts are = ap (λ (s : Step (Run Keeper) Entry). bytes_in (Says (Ice (ByteOrder Lsb)) ∷ s.line)) (sym (same zs ts are))

      by : (before after : List Effect) (other : Event) → ((more : List Effect) × (before ++ (Heard other ∷ more) ≡ es)) ⊎ ((mid : List Effect) × (before ≡ es ++ mid) × (mid ++ (Heard other ∷ after) ≡ Heard event ∷ [])) → sent before ≡ bytes_for qs (stream before)
      by before after other (inl here) = prompt before here.0 other here.1 ∙ as_before (stream before) (stream (Heard other ∷ here.0)) (sym (stream_append before (Heard other ∷ here.0)) ∙ ap stream here.1)
      by before after other (inr there) =
          let is : before ≡ es = there.1 ∙ (ap (λ ds. es ++ ds) (only_one there.0 after (Heard other) (Heard event) there.2) ∙ append-nil es) in
          ap sent is ∙ (all ∙ (as_before (stream es) [] (append-nil (stream es)) ∙ ap (λ ds. bytes_for qs (stream ds)) (sym is)))

  -- and what is sent behind it
  prompt_sent : (rs : List Replies) (es ds : List Effect) → heard ds ≡ [] → IsPrompt cookie previous rs es → IsPrompt cookie previous rs (es ++ ds)
  prompt_sent rs es ds none prompt = λ before after other are. by before after other (place_in before after es ds (Heard other) are)
    where
      by : (before after : List Effect) (other : Event) → ((more : List Effect) × (before ++ (Heard other ∷ more) ≡ es)) ⊎ ((mid : List Effect) × (before ≡ es ++ mid) × (mid ++ (Heard other ∷ after) ≡ ds)) → sent before ≡ bytes_for rs (stream before)
      by before after other (inl here) = prompt before here.0 other here.1
      by before after other (inr there) = absurd (not_heard there.0 after ds other there.2 none)

  prompt_none : (rs : List Replies) (ds : List Effect) → heard ds ≡ [] → IsPrompt cookie previous rs ds
  prompt_none rs ds none = λ before after other are. absurd (not_heard before after ds other are none)

-- ---- a run

module _ {S D : Type 0} (answers : S → NamedAsk → Option SaveAnswer → S → Type 0) (gives : D → Option (List (List ℕ)) → D → Type 0) (cookie : Cookie) (previous : List ℕ) (first : Outside) (begin : Callbacks S D) where
  abbrev AmidIn : Outside → Joining S D → ℕ → List ℕ → Type 0
  AmidIn now joining count unsent = Amid answers gives cookie previous first begin now joining count unsent

  abbrev EndsIn : ℕ → Outside → Callbacks S D → Ending → Type 0
  EndsIn turns now after result = Finishes answers gives cookie previous turns first begin now after result

  abbrev script_for : List Replies → List ℕ → List Entry
  script_for rs xs = wrap_script cookie previous rs xs

  -- the script of a stream that goes on
  script_grown : (rs qs : List Replies) (es : List Effect) (xs piece : List ℕ) (step : Step (Run Keeper) Entry) → stream es ≡ xs ++ piece → all_heard cookie previous rs (xs ++ piece) ≡ both (all_heard cookie previous qs xs) step → script_for rs (stream es) ≡ script_for qs xs ++ step.line
  script_grown rs qs es xs piece step grown whole = ap (λ (s : Step (Run Keeper) Entry). Says (Ice (ByteOrder Lsb)) ∷ s.line) (ap (all_heard cookie previous rs) grown ∙ whole)

  -- ByteOrder was sent
  pub amid_begun : (now : Outside) (joining : Joining S D) (bytes : List ℕ) (x : Unit {0}) → Delivers bytes first now (Ok x) → bytes ≡ spelled (Ice (ByteOrder Lsb)) → joining.stand ≡ start_stand cookie previous → joining.callbacks ≡ begin → AmidIn now joining 0 []
  unfolding cut
  amid_begun now joining bytes x delivers is stands callbacks =
      let none : [] ≡ stream (delivery bytes) = sym (stream_delivery bytes) in
      record {
        effects = delivery bytes;
        told = delivers.told;
        counts = delivers.counts;
        replies = [];
        enough = ap (λ (xs : List ℕ). length (parts_of xs)) none;
        pieces = [];
        solid = tt;
        received_are = heard_delivery bytes;
        counted = refl;
        prompt = prompt_none cookie previous [] (delivery bytes) (heard_delivery bytes);
        sent_are = append-nil (sent (delivery bytes)) ∙ (sent_delivery bytes ∙ (is ∙ (sym (append-nil (spelled (Ice (ByteOrder Lsb)))) ∙ ap (λ (xs : List ℕ). bytes_in (script_for [] xs)) none)));
        follows = subst (λ (xs : List ℕ). Follows answers gives (script_for [] xs) begin joining.callbacks) none callbacks;
        runs = subst (λ (xs : List ℕ). IsRun (all_heard cookie previous [] xs).next joining.stand) none (record { keeper = ap keeper_at stands; feeds = λ listens. ap (λ s. s.splitter) stands });
      }

  -- a piece was heard
  pub amid_heard : (mid now : Outside) (before after : Joining S D) (count : ℕ) (reply : NamedReply) → AmidIn mid before count [] → HearsPiece answers gives mid.told now.told before after reply → NotFallen mid.faults now.faults → AmidIn now after (count + 1) reply.bytes
  amid_heard mid now before after count reply amid hears counts =
      let es : List Effect = amid.effects in
      let xs : List ℕ = stream es in
      let run : Run Keeper = (all_heard cookie previous amid.replies xs).next in
      let piece : List ℕ = hears.piece in
      let replied = hears.heard run amid.runs in
      let step : Step (Run Keeper) Entry = piece_heard run piece replied.replies in
      let on = goes_on cookie previous xs piece amid.replies replied.replies amid.enough in
      let grown : stream (es ++ (Heard (received piece) ∷ [])) ≡ xs ++ piece = stream_more es piece in
      let all : sent es ≡ bytes_in (script_for amid.replies xs) = sym (append-nil (sent es)) ∙ amid.sent_are in
      record {
        effects = es ++ (Heard (received piece) ∷ []);
        told = hears.told ∙ (ap (λ t. adds t (Heard (received piece) ∷ [])) amid.told ∙ adds-adds first.told es (Heard (received piece) ∷ []));
        counts = fallen_never first.faults mid.faults now.faults amid.counts counts;
        replies = on.replies;
        enough = on.enough ∙ ap (λ (ys : List ℕ). length (parts_of ys)) (sym grown);
        pieces = amid.pieces ++ (piece ∷ []);
        solid = all_append (λ (p : List ℕ). 1 ≤ length p) amid.pieces (piece ∷ []) amid.solid (hears.solid, tt);
        received_are = heard_append es (Heard (received piece) ∷ []) ∙ (ap (λ (evs : List Event). evs ++ (received piece ∷ [])) amid.received_are ∙ sym (map-append received amid.pieces (piece ∷ [])));
        counted = omega (arith, length-append amid.pieces (piece ∷ []), amid.counted);
        prompt = prompt_heard cookie previous amid.replies on.replies es (received piece) on.front amid.prompt all;
        sent_are = ap (λ bs. bs ++ reply.bytes) (sent_more es (received piece) ∙ all) ∙ (ap (λ bs. bytes_in (script_for amid.replies xs) ++ bs) replied.bytes ∙ (sym (flat_map-append entry_bytes (script_for amid.replies xs) step.line) ∙ ap bytes_in (sym (script_grown on.replies amid.replies (es ++ (Heard (received piece) ∷ [])) xs piece step grown on.whole))));
        follows = subst (λ (line : List Entry). Follows answers gives line begin after.callbacks) (sym (script_grown on.replies amid.replies (es ++ (Heard (received piece) ∷ [])) xs piece step grown on.whole)) (follows-append answers gives (script_for amid.replies xs) step.line begin before.callbacks after.callbacks amid.follows replied.follows);
        runs = subst (λ (s : Step (Run Keeper) Entry). IsRun s.next after.stand) (sym (ap (all_heard cookie previous on.replies) grown ∙ on.whole)) replied.next;
      }

  -- what is to be sent was sent
  pub amid_sent : (mid now : Outside) (joining : Joining S D) (count : ℕ) (bytes : List ℕ) (x : Unit {0}) → AmidIn mid joining count bytes → Delivers bytes mid now (Ok x) → AmidIn now joining count []
  amid_sent mid now joining count bytes x amid delivers =
      let es : List Effect = amid.effects in
      let ds : List Effect = delivery bytes in
      let same : stream es ≡ stream (es ++ ds) = sym (stream_append es ds ∙ (ap (λ bs. stream es ++ bs) (stream_delivery bytes) ∙ append-nil (stream es))) in
      record {
        effects = es ++ ds;
        told = delivers.told ∙ (ap (λ t. adds t ds) amid.told ∙ adds-adds first.told es ds);
        counts = fallen_never first.faults mid.faults now.faults amid.counts delivers.counts;
        replies = amid.replies;
        enough = amid.enough ∙ ap (λ (xs : List ℕ). length (parts_of xs)) same;
        pieces = amid.pieces;
        solid = amid.solid;
        received_are = heard_append es ds ∙ (ap (λ (evs : List Event). heard es ++ evs) (heard_delivery bytes) ∙ (append-nil (heard es) ∙ amid.received_are));
        counted = amid.counted;
        prompt = prompt_sent cookie previous amid.replies es ds (heard_delivery bytes) amid.prompt;
        sent_are = append-nil (sent (es ++ ds)) ∙ (sent_append es ds ∙ (ap (λ bs. sent es ++ bs) (sent_delivery bytes) ∙ (amid.sent_are ∙ ap (λ (xs : List ℕ). bytes_in (script_for amid.replies xs)) same)));
        follows = subst (λ (xs : List ℕ). Follows answers gives (script_for amid.replies xs) begin joining.callbacks) same amid.follows;
        runs = subst (λ (xs : List ℕ). IsRun (all_heard cookie previous amid.replies xs).next joining.stand) same amid.runs;
      }

  -- a call did nothing that is told
  pub amid_still : (mid now : Outside) (joining : Joining S D) (count : ℕ) (unsent : List ℕ) → AmidIn mid joining count unsent → now.told ≡ adds mid.told [] → NotFallen mid.faults now.faults → AmidIn now joining count unsent
  amid_still mid now joining count unsent amid told counts = record {
    effects = amid.effects;
    told = told ∙ (adds-none mid.told ∙ amid.told);
    counts = fallen_never first.faults mid.faults now.faults amid.counts counts;
    replies = amid.replies;
    enough = amid.enough;
    pieces = amid.pieces;
    solid = amid.solid;
    received_are = amid.received_are;
    counted = amid.counted;
    prompt = amid.prompt;
    sent_are = amid.sent_are;
    follows = amid.follows;
    runs = amid.runs;
  }

  -- ---- how it ends

  -- it comes to its end so
  pub finish : (now : Outside) (joining : Joining S D) (count : ℕ) (unsent : List ℕ) (turns : ℕ) (result : Ending) → AmidIn now joining count unsent → last_receive result ≡ [] → count ≤ turns → IsWhole result unsent [] → IsEnd result joining.stand.ending count turns unsent → IsCaused result first now → EndsIn turns now joining.callbacks result
  finish now joining count unsent turns result amid last within whole end cause =
      let xs : List ℕ = stream amid.effects in
      let at : joining.stand.ending ≡ wrap_end cookie previous amid.replies xs = ap (λ (k : Keeper). k.ending) amid.runs.keeper in
      record {
        joins = record {
          effects = amid.effects;
          added = amid.told;
          holds = record {
            replies = amid.replies;
            pieces = amid.pieces;
            solid = amid.solid;
            received_are = amid.received_are ∙ ap (map received) (sym (ap (λ (ps : List (List ℕ)). amid.pieces ++ ps) last ∙ append-nil amid.pieces));
            in_turns = omega (arith, amid.counted, within);
            prompt = amid.prompt;
            unsent = unsent;
            sent_are = amid.sent_are;
            done = script_for amid.replies xs;
            undone = [];
            parts = append-nil (script_for amid.replies xs);
            waiting = unsent;
            front = amid.sent_are;
            follows = amid.follows;
            whole = whole;
            end = subst (λ (n : ℕ). IsEnd result (wrap_end cookie previous amid.replies xs) n turns unsent) (sym amid.counted) (subst (λ (e : Option Spending). IsEnd result e count turns unsent) at end);
            cause = cause;
          };
        };
        counts = amid.counts;
      }

  -- the stream ended
  pub finish_gone : (mid now : Outside) (joining : Joining S D) (count turns : ℕ) → AmidIn mid joining count [] → now.told ≡ adds mid.told (Heard (received []) ∷ []) → NotFallen mid.faults now.faults → joining.stand.ending ≡ None → count < turns → EndsIn turns now joining.callbacks (Err StreamEnded)
  finish_gone mid now joining count turns amid told counts going within =
      let es : List Effect = amid.effects in
      let rs : List Replies = amid.replies in
      let ds : List Effect = Heard (received []) ∷ [] in
      let same : stream es ≡ stream (es ++ ds) = sym (stream_more es [] ∙ append-nil (stream es)) in
      let all : sent es ≡ bytes_in (script_for rs (stream es)) = sym (append-nil (sent es)) ∙ amid.sent_are in
      let at : joining.stand.ending ≡ wrap_end cookie previous rs (stream es) = ap (λ (k : Keeper). k.ending) amid.runs.keeper in
      let sent_are : sent (es ++ ds) ++ [] ≡ bytes_in (script_for rs (stream (es ++ ds))) = append-nil (sent (es ++ ds)) ∙ (sent_more es (received []) ∙ (all ∙ ap (λ (xs : List ℕ). bytes_in (script_for rs xs)) same)) in
      record {
        joins = record {
          effects = es ++ ds;
          added = told ∙ (ap (λ t. adds t ds) amid.told ∙ adds-adds first.told es ds);
          holds = record {
            replies = rs;
            pieces = amid.pieces;
            solid = amid.solid;
            received_are = heard_append es ds ∙ (ap (λ (evs : List Event). evs ++ (received [] ∷ [])) amid.received_are ∙ sym (map-append received amid.pieces ([] ∷ [])));
            in_turns = omega (arith, amid.counted, within);
            prompt = prompt_heard cookie previous rs rs es (received []) (λ zs ts are. refl) amid.prompt all;
            unsent = [];
            sent_are = sent_are;
            done = script_for rs (stream (es ++ ds));
            undone = [];
            parts = append-nil (script_for rs (stream (es ++ ds)));
            waiting = [];
            front = sent_are;
            follows = subst (λ (xs : List ℕ). Follows answers gives (script_for rs xs) begin joining.callbacks) same amid.follows;
            whole = (refl, refl);
            end = (ap (wrap_end cookie previous rs) (sym same) ∙ (sym at ∙ going), omega (arith, amid.counted, within));
            cause = tt;
          };
        };
        counts = fallen_never first.faults mid.faults now.faults amid.counts counts;
      }

  -- memory was wanting as a piece was heard
  pub finish_broken : (mid now : Outside) (before after : Joining S D) (count turns : ℕ) → AmidIn mid before count [] → BreaksAt answers gives mid.told now.told before after → NotFallen mid.faults now.faults → count < turns → EndsIn turns now after.callbacks (Err NoMemory)
  finish_broken mid now before after count turns amid breaks counts within =
      let es : List Effect = amid.effects in
      let xs : List ℕ = stream es in
      let run : Run Keeper = (all_heard cookie previous amid.replies xs).next in
      let piece : List ℕ = breaks.piece in
      let broken = breaks.breaks run amid.runs in
      let begins = broken.begins in
      let step : Step (Run Keeper) Entry = piece_heard run piece broken.replies in
      let on = goes_on cookie previous xs piece amid.replies broken.replies amid.enough in
      let ds : List Effect = Heard (received piece) ∷ [] in
      let all : sent es ≡ bytes_in (script_for amid.replies xs) = sym (append-nil (sent es)) ∙ amid.sent_are in
      let script : script_for on.replies (stream (es ++ ds)) ≡ script_for amid.replies xs ++ step.line = script_grown on.replies amid.replies (es ++ ds) xs piece step (stream_more es piece) on.whole in
      record {
        joins = record {
          effects = es ++ ds;
          added = breaks.told ∙ (ap (λ t. adds t ds) amid.told ∙ adds-adds first.told es ds);
          holds = record {
            replies = on.replies;
            pieces = amid.pieces ++ (piece ∷ []);
            solid = all_append (λ (p : List ℕ). 1 ≤ length p) amid.pieces (piece ∷ []) amid.solid (breaks.solid, tt);
            received_are = heard_append es ds ∙ (ap (λ (evs : List Event). evs ++ (received piece ∷ [])) amid.received_are ∙ (sym (map-append received amid.pieces (piece ∷ [])) ∙ ap (map received) (sym (append-nil (amid.pieces ++ (piece ∷ []))))));
            in_turns = omega (arith, length-append amid.pieces (piece ∷ []), amid.counted, within);
            prompt = prompt_heard cookie previous amid.replies on.replies es (received piece) on.front amid.prompt all;
            unsent = bytes_in step.line;
            sent_are = ap (λ bs. bs ++ bytes_in step.line) (sent_more es (received piece) ∙ all) ∙ (sym (flat_map-append entry_bytes (script_for amid.replies xs) step.line) ∙ ap bytes_in (sym script));
            done = script_for amid.replies xs ++ begins.done;
            undone = begins.left;
            parts = append_assoc (script_for amid.replies xs) begins.done begins.left ∙ (ap (λ (line : List Entry). script_for amid.replies xs ++ line) begins.parts ∙ sym script);
            waiting = bytes_in begins.done;
            front = ap (λ bs. bs ++ bytes_in begins.done) (sent_more es (received piece) ∙ all) ∙ sym (flat_map-append entry_bytes (script_for amid.replies xs) begins.done);
            follows = follows-append answers gives (script_for amid.replies xs) begins.done begin before.callbacks after.callbacks amid.follows begins.follows;
            whole = tt;
            end = tt;
            cause = tt;
          };
        };
        counts = fallen_never first.faults mid.faults now.faults amid.counts counts;
      }

  -- nothing was sent
  abbrev empty_script : List Entry
  empty_script = script_for [] []

  pub unbegun : (now : Outside) (turns : ℕ) (result : Ending) → now.told ≡ adds first.told [] → NotFallen first.faults now.faults → last_receive result ≡ [] → IsWhole result (bytes_in empty_script) [] → IsEnd result None 0 turns (bytes_in empty_script) → IsCaused result first now → EndsIn turns now begin result
  unfolding cut
  unbegun now turns result told counts last whole end cause = record {
    joins = record {
      effects = [];
      added = told;
      holds = record {
        replies = [];
        pieces = [];
        solid = tt;
        received_are = ap (map received) (sym last);
        in_turns = omega arith;
        prompt = prompt_none cookie previous [] [] refl;
        unsent = bytes_in empty_script;
        sent_are = refl;
        done = empty_script;
        undone = [];
        parts = append-nil empty_script;
        waiting = bytes_in empty_script;
        front = refl;
        follows = refl;
        whole = whole;
        end = end;
        cause = cause;
      };
    };
    counts = counts;
  }

  -- memory was wanting before anything was sent
  pub never_begun : (now : Outside) (turns : ℕ) → now.told ≡ adds first.told [] → NotFallen first.faults now.faults → EndsIn turns now begin (Err NoMemory)
  never_begun now turns told counts = unbegun now turns (Err NoMemory) told counts refl tt tt tt

  -- ByteOrder wasn't sent
  pub undelivered_first : (failure : Failure) (now : Outside) (bytes : List ℕ) (turns : ℕ) → Delivers bytes first now (Err failure) → bytes ≡ spelled (Ice (ByteOrder Lsb)) → EndsIn turns now begin (Err (peer_fault failure))
  unfolding cut
  undelivered_first Failed now bytes turns delivers is =
      let some : bytes_in empty_script ≢ [] = λ none. delivers.some refl (is ∙ (sym (append-nil (spelled (Ice (ByteOrder Lsb)))) ∙ none)) in
      unbegun now turns (Err Link) delivers.told delivers.counts refl refl (inl some) (delivers.cause refl)
  undelivered_first DeviceMemory now bytes turns delivers is = never_begun now turns delivers.told delivers.counts

  -- a receive brought no reply
  pub unheard : (fault : Fault) (mid now : Outside) (before after : Joining S D) (count turns : ℕ) → AmidIn mid before count [] → Listens answers gives (Err fault) mid now before after → NotFallen mid.faults now.faults → before.stand.ending ≡ None → count < turns → EndsIn turns now after.callbacks (Err fault)
  unheard StreamEnded mid now before after count turns amid listens counts going within =
      subst (λ (j : Joining S D). EndsIn turns now j.callbacks (Err StreamEnded)) (sym listens.1) (finish_gone mid now before count turns amid listens.0 counts going within)
  unheard Link mid now before after count turns amid listens counts going within =
      subst (λ (j : Joining S D). EndsIn turns now j.callbacks (Err Link)) (sym listens.1) (finish now before count [] turns (Err Link) (amid_still mid now before count [] amid listens.0 counts) refl (omega (arith, within)) refl (inr (going, within)) (rose_since first.faults.links mid.faults.links now.faults.links amid.counts.links listens.2))
  unheard NoMemory mid now before after count turns amid (inl (told, same)) counts going within =
      subst (λ (j : Joining S D). EndsIn turns now j.callbacks (Err NoMemory)) (sym same) (finish now before count [] turns (Err NoMemory) (amid_still mid now before count [] amid told counts) refl (omega (arith, within)) tt tt tt)
  unheard NoMemory mid now before after count turns amid (inr breaks) counts going within = finish_broken mid now before after count turns amid breaks counts within
  unheard BadWords mid now before after count turns amid listens counts going within = absurd listens
  unheard Refused mid now before after count turns amid listens counts going within = absurd listens
  unheard NoEntry mid now before after count turns amid listens counts going within = absurd listens
  unheard Spent mid now before after count turns amid listens counts going within = absurd listens
  unheard Malformed mid now before after count turns amid listens counts going within = absurd listens
  unheard Disk mid now before after count turns amid listens counts going within = absurd listens

  -- a reply wasn't sent
  pub undelivered : (failure : Failure) (mid now : Outside) (after : Joining S D) (count turns : ℕ) (bytes : List ℕ) → AmidIn mid after count bytes → Delivers bytes mid now (Err failure) → count ≤ turns → EndsIn turns now after.callbacks (Err (peer_fault failure))
  undelivered Failed mid now after count turns bytes amid delivers within =
      finish now after count bytes turns (Err Link) (amid_still mid now after count bytes amid delivers.told delivers.counts) refl within refl (inl (delivers.some refl)) (rose_since first.faults.links mid.faults.links now.faults.links amid.counts.links (delivers.cause refl))
  undelivered DeviceMemory mid now after count turns bytes amid delivers within =
      finish now after count bytes turns (Err NoMemory) (amid_still mid now after count bytes amid delivers.told delivers.counts) refl within tt tt tt

  -- the client came to its end
  pub came_to_end : (end : NamedEnd) (result : Ending) (now : Outside) (after : Joining S D) (count turns : ℕ) → AmidIn now after count [] → result ≡ end_of end → after.stand.ending ≡ Some (Ended end) → count ≤ turns → EndsIn turns now after.callbacks result
  came_to_end Died result now after count turns amid is end within = subst (λ (r : Ending). EndsIn turns now after.callbacks r) (sym is) (finish now after count [] turns (Ok tt) amid refl within (refl, refl) end tt)
  came_to_end (IsRefused class) result now after count turns amid is end within = subst (λ (r : Ending). EndsIn turns now after.callbacks r) (sym is) (finish now after count [] turns (Err Refused) amid refl within (refl, refl) (class, end) tt)
  came_to_end (IsMalformed at) result now after count turns amid is end within = subst (λ (r : Ending). EndsIn turns now after.callbacks r) (sym is) (finish now after count [] turns (Err Malformed) amid refl within (refl, refl) (at, end) tt)

  -- ---- a receive that brought a reply

  -- which was sent
  pub sent_next : (mid later now : Outside) (before after : Joining S D) (count : ℕ) (reply : NamedReply) (x : Unit {0}) → AmidIn mid before count [] → HearsPiece answers gives mid.told later.told before after reply → NotFallen mid.faults later.faults → Delivers reply.bytes later now (Ok x) → AmidIn now after (count + 1) []
  sent_next mid later now before after count reply x amid hears counts delivers = amid_sent later now after (count + 1) reply.bytes x (amid_heard mid later before after count reply amid hears counts) delivers

  -- which wasn't
  pub unsent_next : (failure : Failure) (mid later now : Outside) (before after : Joining S D) (count turns : ℕ) (reply : NamedReply) → AmidIn mid before count [] → HearsPiece answers gives mid.told later.told before after reply → NotFallen mid.faults later.faults → Delivers reply.bytes later now (Err failure) → count < turns → EndsIn turns now after.callbacks (Err (peer_fault failure))
  unsent_next failure mid later now before after count turns reply amid hears counts delivers within = undelivered failure later now after (count + 1) turns reply.bytes (amid_heard mid later before after count reply amid hears counts) delivers (omega (arith, within))

  -- a reply tells the end to which the client came
  end_of_reply : (mid later : Outside) (before after : Joining S D) (count : ℕ) (reply : NamedReply) (end : NamedEnd) → AmidIn mid before count [] → HearsPiece answers gives mid.told later.told before after reply → reply.end ≡ Some end → after.stand.ending ≡ Some (Ended end)
  end_of_reply mid later before after count reply end amid hears is =
      let replied = hears.heard (all_heard cookie previous amid.replies (stream amid.effects)).next amid.runs in
      ap (λ (k : Keeper). k.ending) replied.next.keeper ∙ (sym replied.end ∙ ap (option_map Ended) is)

  -- which is the last
  pub ended_next : (end : NamedEnd) (result : Ending) (mid later now : Outside) (before after : Joining S D) (count turns : ℕ) (reply : NamedReply) (x : Unit {0}) → AmidIn mid before count [] → HearsPiece answers gives mid.told later.told before after reply → NotFallen mid.faults later.faults → Delivers reply.bytes later now (Ok x) → reply.end ≡ Some end → result ≡ end_of end → count < turns → EndsIn turns now after.callbacks result
  ended_next end result mid later now before after count turns reply x amid hears counts delivers is ends within =
      came_to_end end result now after (count + 1) turns (sent_next mid later now before after count reply x amid hears counts delivers) ends (end_of_reply mid later before after count reply end amid hears is) (omega (arith, within))

  -- so many receives gave bytes as were granted
  pub spent : (now : Outside) (joining : Joining S D) (count turns : ℕ) → AmidIn now joining count [] → joining.stand.ending ≡ None → count ≡ turns → EndsIn turns now joining.callbacks (Err Spent)
  spent now joining count turns amid going all = finish now joining count [] turns (Err Spent) amid refl (omega (arith, all)) (refl, refl) (going, all) tt
