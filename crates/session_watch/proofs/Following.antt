-- What is kept of a connection as more passes on it.
use Rattle.std.proofs.Common.{◌≡◌, ℕ, List, [], ◌∷◌, ◌++◌, map, Some, refl, sym, ap, ◌∙◌, subst, append-nil}
use Rattle.std.specs.Prelude.{option_to_list}
use Rattle.ice_values.specs.declared.numbers.Endian.{Endian}
use Rattle.ice_framing.specs.Frames.{frames_of}
use Rattle.ice_framing.specs.declared.cutting.WholeFrame.{WholeFrame}
use Rattle.ice_framing.proofs.Streams.{frames_of-nil}
use Rattle.xsmp_messages.specs.declared.message.XsmpMessage.{XsmpMessage}
use Rattle.frame_speech.proofs.Speeches.{speech_behind-append}
use Rattle.frame_speech.specs.Speech.{reading_of, speech_behind}
use Rattle.frame_speech.specs.Streams.{IsAt, Cuts}
use Rattle.xsmp_messages.specs.Views.{WalksOf}
use Rattle.ice_values.specs.declared.walk.PropertyWalk.{PropertyWalk}
use Rattle.frame_speech.proofs.Alone.{stays}
use Rattle.frame_speech.proofs.Walked.{says_not, turns_by_walk}
use Rattle.frame_speech.specs.Settings.{set_in}
use Rattle.frame_speech.specs.Passing.{IsAlone, PassesBy, SaysNothing, as_frame}
use Rattle.frame_speech.specs.declared.speech.Speech.{Speech}
use Rattle.frame_speech.specs.declared.speech.Speech.TheVariants.{Silent}
use Rattle.frame_speech.specs.declared.stream.CutStream.{CutStream}
use Rattle.session_watch.specs.Story.{Passage, Said, say, spoken, IsLone, IsNoMessage, part_of, stream_of, messages_in, brought, messages}
use Rattle.session_watch.specs.Knowing.{Follows, known_by, noted_all}
use Rattle.session_watch.specs.declared.known.Known.{Known}
use Rattle.session_watch.specs.declared.party.Party.{Party}
use Rattle.session_watch.specs.declared.party.Party.TheVariants.{Client, Manager}
use Rattle.session_watch.specs.declared.watch.ClientWatch.{ClientWatch}
use Rattle.session_watch.proofs.Noting.{known_more, passed_messages}
use Rattle.session_watch.proofs.Stories.{stream_grown, messages_grown, brought_is, silent_grown}

-- how far a party is understood by what it sent
abbrev pub Understood : List ℕ → Speech → Type 0
Understood stream speech = speech ≡ speech_behind Silent (frames_of stream)

pub begins : Understood [] Silent
begins = sym (ap (speech_behind Silent) frames_of-nil)

-- it sent more
speech_on : (stream bytes : List ℕ) (frames : List WholeFrame) (old new : Speech) → frames_of (stream ++ bytes) ≡ frames_of stream ++ frames → Understood stream old → new ≡ speech_behind old frames → Understood (stream ++ bytes) new
speech_on stream bytes frames old new are was is =
    is ∙ ap (λ (s : Speech). speech_behind s frames) was ∙ sym (speech_behind-append Silent (frames_of stream) frames) ∙ sym (ap (speech_behind Silent) are)

known_on : (party : Party) (said : List Said) (stream bytes : List ℕ) (frames : List WholeFrame) (speech : Speech) (old new : Known) → frames_of (stream ++ bytes) ≡ frames_of stream ++ frames → Understood stream speech → old ≡ known_by said → new ≡ noted_all party (messages_in speech frames) old → new ≡ known_by (said ++ map (say party) (brought stream bytes))
known_on party said stream bytes frames speech old new are understood was is =
    is ∙ ap (noted_all party (messages_in speech frames)) was
    ∙ ap (λ (s : Speech). noted_all party (messages_in s frames) (known_by said)) understood
    ∙ ap (λ (ms : List XsmpMessage). noted_all party ms (known_by said)) (sym (brought_is stream bytes frames are))
    ∙ known_more party (brought stream bytes) said

-- nothing of it comes
same_stream : (party : Party) (story : List Passage) (p : Passage) → part_of party p ≡ [] → stream_of party (story ++ p ∷ []) ≡ stream_of party story
same_stream party story p none = stream_grown party story p ∙ ap (λ (bytes : List ℕ). stream_of party story ++ bytes) none ∙ append-nil (stream_of party story)

-- the client sent more
pub record Heard (old : ClientWatch) (at : ℕ) (bytes : List ℕ) (frames : List WholeFrame) (new : ClientWatch) : Type 0 where
  pub cuts : (stream : List ℕ) → IsAt stream old.came → Cuts stream bytes frames new.came
  pub said : new.said ≡ speech_behind old.said frames
  pub known : new.known ≡ noted_all Client (messages_in old.said frames) old.known
  pub since : new.since ≡ at
  pub sent : new.sent ≡ old.sent
  pub told : new.told ≡ old.told

pub heard : (start : ℕ) (story : List Passage) (old : ClientWatch) (at : ℕ) (bytes : List ℕ) (frames : List WholeFrame) (new : ClientWatch) → Follows start story old → Heard old at bytes frames new → Follows start (story ++ record { by = Client; at = at; bytes = bytes } ∷ []) new
heard start story old at bytes frames new follows more =
    let p : Passage = record { by = Client; at = at; bytes = bytes } in
    let cuts = more.cuts (stream_of Client story) follows.came in
    let came = stream_grown Client story p in
    let sent = same_stream Manager story p refl in
    record {
      came = subst (λ (s : List ℕ). IsAt s new.came) (sym came) cuts.stands;
      said = subst (λ (s : List ℕ). Understood s new.said) (sym came) (speech_on (stream_of Client story) bytes frames old.said new.said cuts.frames follows.said more.said);
      sent = subst (λ (s : List ℕ). IsAt s new.sent) (sym sent) (subst (λ (c : CutStream). IsAt (stream_of Manager story) c) (sym more.sent) follows.sent);
      told = subst (λ (s : List ℕ). Understood s new.told) (sym sent) (more.told ∙ follows.told);
      known = known_on Client (messages story) (stream_of Client story) bytes frames old.said old.known new.known cuts.frames follows.said follows.known more.known ∙ sym (ap known_by (messages_grown story p));
      since = more.since ∙ sym (silent_grown start story p);
    }

-- it sent nothing that is a message
pub heard_nothing : (old : ClientWatch) (at : ℕ) (bytes : List ℕ) (new : ClientWatch) → (passes : PassesBy (IsNoMessage old.said) bytes old.came) → new ≡ record old { since = at } → Heard old at bytes passes.new new
heard_nothing old at bytes new passes is =
    let none = passed_messages old.said passes.new passes.frames in
    subst (λ (w : ClientWatch). Heard old at bytes passes.new w) (sym is) (record {
      cuts = passes.cuts;
      said = sym none.1;
      known = sym (ap (λ (ms : List XsmpMessage). noted_all Client ms old.known) none.0);
      since = refl;
      sent = refl;
      told = refl;
    })

-- one frame that sets properties, or says nothing of its sender, doesn't change how it is understood
pub lone_set : (s : Speech) (e : Endian) (bytes : List ℕ) (stream : CutStream) (walk : PropertyWalk) → IsAlone e bytes stream → WalksOf e (set_in (reading_of s (as_frame e bytes))) (Some walk) → IsLone s e bytes stream
lone_set s e bytes stream walk alone walks = record { alone = alone; stays = stays s (as_frame e bytes) alone.whole (turns_by_walk s (as_frame e bytes) walk walks) }

pub lone_said : (s : Speech) (e : Endian) (bytes : List ℕ) (stream : CutStream) → IsAlone e bytes stream → SaysNothing s (as_frame e bytes) → IsLone s e bytes stream
lone_said s e bytes stream alone says = record { alone = alone; stays = stays s (as_frame e bytes) alone.whole (says_not s (as_frame e bytes) says) }

pub heard_lone : (old : ClientWatch) (at : ℕ) (e : Endian) (bytes : List ℕ) (known : Known) → IsLone old.said e bytes old.came → known ≡ noted_all Client (option_to_list (spoken old.said (as_frame e bytes))) old.known
    → Heard old at bytes (as_frame e bytes ∷ []) (record old { since = at; known = known })
heard_lone old at e bytes known lone is = record {
  cuts = lone.alone.cuts;
  said = sym lone.stays;
  known = is ∙ ap (λ (ms : List XsmpMessage). noted_all Client ms old.known) (sym (append-nil (option_to_list (spoken old.said (as_frame e bytes)))));
  since = refl;
  sent = refl;
  told = refl;
}

-- the manager sent more
pub record Told (old : ClientWatch) (bytes : List ℕ) (frames : List WholeFrame) (new : ClientWatch) : Type 0 where
  pub cuts : (stream : List ℕ) → IsAt stream old.sent → Cuts stream bytes frames new.sent
  pub told : new.told ≡ speech_behind old.told frames
  pub known : new.known ≡ noted_all Manager (messages_in old.told frames) old.known
  pub since : new.since ≡ old.since
  pub came : new.came ≡ old.came
  pub said : new.said ≡ old.said

pub told : (start : ℕ) (story : List Passage) (old : ClientWatch) (at : ℕ) (bytes : List ℕ) (frames : List WholeFrame) (new : ClientWatch) → Follows start story old → Told old bytes frames new → Follows start (story ++ record { by = Manager; at = at; bytes = bytes } ∷ []) new
told start story old at bytes frames new follows more =
    let p : Passage = record { by = Manager; at = at; bytes = bytes } in
    let cuts = more.cuts (stream_of Manager story) follows.sent in
    let sent = stream_grown Manager story p in
    let came = same_stream Client story p refl in
    record {
      came = subst (λ (s : List ℕ). IsAt s new.came) (sym came) (subst (λ (c : CutStream). IsAt (stream_of Client story) c) (sym more.came) follows.came);
      said = subst (λ (s : List ℕ). Understood s new.said) (sym came) (more.said ∙ follows.said);
      sent = subst (λ (s : List ℕ). IsAt s new.sent) (sym sent) cuts.stands;
      told = subst (λ (s : List ℕ). Understood s new.told) (sym sent) (speech_on (stream_of Manager story) bytes frames old.told new.told cuts.frames follows.told more.told);
      known = known_on Manager (messages story) (stream_of Manager story) bytes frames old.told old.known new.known cuts.frames follows.told follows.known more.known ∙ sym (ap known_by (messages_grown story p));
      since = more.since ∙ follows.since ∙ sym (silent_grown start story p);
    }

-- it sent nothing that is a message
pub told_nothing : (old : ClientWatch) (bytes : List ℕ) → (passes : PassesBy (IsNoMessage old.told) bytes old.sent) → Told old bytes passes.new old
told_nothing old bytes passes =
    let none = passed_messages old.told passes.new passes.frames in
    record {
      cuts = passes.cuts;
      told = sym none.1;
      known = sym (ap (λ (ms : List XsmpMessage). noted_all Manager ms old.known) none.0);
      since = refl;
      came = refl;
      said = refl;
    }

-- it sent one frame, which doesn't change how it is understood
pub told_lone : (old : ClientWatch) (e : Endian) (bytes : List ℕ) (known : Known) → IsLone old.told e bytes old.sent → known ≡ noted_all Manager (option_to_list (spoken old.told (as_frame e bytes))) old.known
    → Told old bytes (as_frame e bytes ∷ []) (record old { known = known })
told_lone old e bytes known lone is = record {
  cuts = lone.alone.cuts;
  told = sym lone.stays;
  known = is ∙ ap (λ (ms : List XsmpMessage). noted_all Manager ms old.known) (sym (append-nil (option_to_list (spoken old.told (as_frame e bytes)))));
  since = refl;
  came = refl;
  said = refl;
}
