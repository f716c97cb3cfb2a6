-- What a session inside another adds to a world, seen from where the call began.
use Rattle.std.proofs.Common.{◌≡◌, inl, inr, ℕ, List, [], ◌++◌, Option, Result, Ok, Err, IfErr, refl, sym, ◌∙◌, ap, subst, arith}
use Rattle.sm_world.specs.Outside.{Outside, Added, UsesLinks, adds}
use Rattle.sm_world.specs.declared.effects.Effect.{Effect}
use Rattle.sm_world.specs.declared.events.Event.{Event}
use Rattle.sm_world.specs.declared.failures.Failure.{Failure}
use Rattle.sm_world.specs.declared.failures.Failure.TheVariants.{Failed, NoMemory as DeviceMemory}
use Rattle.sm_world.proofs.Adding.{adds-adds, adds-none}
use Rattle.client_engine.specs.Driving.{Run}
use Rattle.ice_cookie.specs.declared.cookies.Cookie.{Cookie}
use Rattle.checkpoint_records.specs.Books.{choose}
use Rattle.checkpoint_records.specs.declared.records.Book.{Book}
use Rattle.checkpoint_slots.specs.Causes.{IsSettled}
use Rattle.checkpoint_slots.specs.Recovery.{Recovers}
use Rattle.nested_session.specs.Nests.{Nests}
use Rattle.nested_session.specs.Promise.{NestKeepsItsWord}
use Rattle.nested_session.specs.Serving.{Nesting, Weaves, run_of}
use Rattle.outer_agent.specs.Script.{Keeper, start}
use Rattle.outer_agent.specs.Standing.{Stand, start_stand}
use Rattle.sm_world.proofs.Counting.{rose_since}
use Rattle.session_engine.specs.Carries.{Opens}
use Rattle.session_engine.specs.Causes.{HasCause}
use Rattle.session_engine.specs.declared.config.Config.{Config}
use Rattle.session_engine.specs.declared.fault.ServeFault.{ServeFault}
use Rattle.smclient_app.specs.Entries.{HasCookie}
use Rattle.smclient_app.specs.Statuses.{FileIs}
use Rattle.smd_app.proofs.SessionLemmas.{Behind, caused_since, kept_since, same_added, still_settled, unopened_since}
use Rattle.smd_app.specs.FaultLines.{link_fault}
use Rattle.smd_app.specs.Sessions.{IsOfDisk, IsOfEdge, SetsUp, announcing, config_of, handing_out}
use Rattle.smd_app.specs.declared.fault.Fault.{Fault as SessionFault}
use Rattle.smd_app.specs.declared.fault.Fault.TheVariants.{NoMemory}
use Rattle.smd_app.specs.declared.identity.Identity.{Identity}
use Rattle.smnest_app.specs.FaultLines.{served}
use Rattle.smnest_app.specs.Rehearsals.{greeting}
use Rattle.smnest_app.specs.Sessions.{IsCutShort, IsLeftOut, IsOfLinks, Opened, OpensOr, RunsSession, setting_up}
use Rattle.smnest_app.specs.Words.{NestPlaces}
use Rattle.smnest_app.specs.declared.fault.Fault.{Fault}
use Rattle.smnest_app.specs.declared.fault.Fault.TheVariants.{Session}

-- ---- causes, from where the call began

of_disk_since : (old one new : Outside) (fault : SessionFault) → SetsUp old one → IsOfDisk one new fault → IsOfDisk old new fault
of_disk_since old one new fault set (inl failed) = inl (failed.0, rose_since old.faults.disk one.faults.disk new.faults.disk set.counts.disk failed.1)
of_disk_since old one new fault set (inr memory) = inr memory

of_links_since : (old one new : Outside) (fault : SessionFault) → SetsUp old one → IsOfLinks one new fault → IsOfLinks old new fault
of_links_since old one new fault set (inl failed) = inl (failed.0, rose_since old.faults.links one.faults.links new.faults.links set.counts.links failed.1)
of_links_since old one new fault set (inr memory) = inr memory

of_edge_since : (old one new : Outside) (fault : SessionFault) → SetsUp old one → IsOfEdge one new fault → IsOfEdge old new fault
of_edge_since old one new fault set (inl failed) = inl (failed.0, rose_since old.faults.links one.faults.links new.faults.links set.counts.links failed.1)
of_edge_since old one new fault set (inr (inl failed)) = inr (inl (failed.0, rose_since old.faults.console one.faults.console new.faults.console set.counts.console failed.1))
of_edge_since old one new fault set (inr (inr memory)) = inr (inr memory)

short_since : (identity : Identity) (places : NestPlaces) (old one new : Outside) (fault : SessionFault) (effects : List Effect) → SetsUp old one → IsCutShort identity places one new fault effects → IsCutShort identity places old new fault effects
short_since identity places old one new fault effects set (inl cut) = inl (of_disk_since old one new fault set cut.0, cut.1)
short_since identity places old one new fault effects set (inr (inl cut)) = inr (inl (of_edge_since old one new fault set cut.0, cut.1))
short_since identity places old one new fault effects set (inr (inr cut)) = inr (inr (of_links_since old one new fault set cut.0, cut.1))

-- a call on the links or for the outer manager failed
pub links_failed : (old new : Outside) (failure : Failure) → UsesLinks {A = Unit {0}} old new (Err failure) → IsOfLinks old new (link_fault failure)
links_failed old new Failed uses = inl (refl, uses.cause refl)
links_failed old new DeviceMemory uses = inr refl

-- ---- the set-up

-- The session's own cookie was handed out, and it was said where the session is, but there is no outer manager.
pub cut_third : (identity : Identity) (places : NestPlaces) (old one two new : Outside) (fault : SessionFault) → one.told ≡ adds old.told (handing_out identity places.own) → SetsUp old one → two.told ≡ adds one.told (announcing identity places.own) → SetsUp one two → new.told ≡ two.told → IsOfLinks two new fault → Added old.told new.told (IsCutShort identity places old new fault)
cut_third identity places old one two new fault handed set said then_set same cause = record {
  effects = setting_up identity places;
  added = same ∙ said ∙ ap (λ told. adds told (announcing identity places.own)) handed ∙ adds-adds old.told (handing_out identity places.own) (announcing identity places.own);
  holds = inr (inr (of_links_since old one new fault set (of_links_since one two new fault then_set cause), refl));
}

-- ---- calls that stop before the session

pub left_out : (words : List (List ℕ)) (identity : Identity) (places : NestPlaces) (turns : ℕ) (old new : Outside) (fault : Fault) → new.told ≡ old.told → IsLeftOut places old new fault → Added old.told new.told (RunsSession words identity places turns old new (Err fault))
left_out words identity places turns old new fault same cause = record {
  effects = [];
  added = same ∙ sym (adds-none old.told);
  holds = inl (record { fault = fault; is = refl; cause = cause; none = refl });
}

pub cut_behind : (words : List (List ℕ)) (identity : Identity) (places : NestPlaces) (turns : ℕ) (cookie : Cookie) (old one new : Outside) (fault : SessionFault) → FileIs old.files places.authority (λ bytes. HasCookie places.outer bytes cookie) → one.told ≡ old.told → SetsUp old one → Added one.told new.told (IsCutShort identity places one new fault)
    → Added old.told new.told (RunsSession words identity places turns old new (Err (Session fault)))
cut_behind words identity places turns cookie old one new fault file same set cut = record {
  effects = cut.effects;
  added = cut.added ∙ ap (λ told. adds told cut.effects) same;
  holds = inr (record { cookie = cookie; file = file; ran = inl (short_since identity places old one new fault cut.effects set cut.holds) });
}

-- There was no memory for the agent.
pub unprepared : (words : List (List ℕ)) (identity : Identity) (places : NestPlaces) (turns : ℕ) (cookie : Cookie) (old one new : Outside) → FileIs old.files places.authority (λ bytes. HasCookie places.outer bytes cookie) → one.told ≡ old.told → new.told ≡ adds (adds one.told (handing_out identity places.own)) (announcing identity places.own)
    → Added old.told new.told (RunsSession words identity places turns old new (Err (Session NoMemory)))
unprepared words identity places turns cookie old one new file same set = record {
  effects = setting_up identity places;
  added = set ∙ adds-adds one.told (handing_out identity places.own) (announcing identity places.own) ∙ ap (λ told. adds told (setting_up identity places)) same;
  holds = inr (record { cookie = cookie; file = file; ran = inl (inr (inr (inr refl, refl))) });
}

-- ---- the session

module _ (identity : Identity) (places : NestPlaces) (turns : ℕ) (agent : Run Keeper) where
  abbrev config : Config
  config = config_of identity places.own

  opened_since : (old mid new : Outside) (answer : Result (Unit {0}) ServeFault) → Behind identity places.own old mid → (opens : Opens config.session mid new (Weaves config turns agent greeting mid answer)) → Opened config turns agent old new answer opens.adds.effects
  opened_since old mid new answer behind opens =
      let woven = opens.adds.holds in
      record {
        book = opens.book;
        current = opens.current;
        recovered = λ file settled. opens.recovered file (still_settled identity places.own old mid behind file settled);
        called = opens.called;
        size = opens.size;
        below = opens.below;
        few = opens.few;
        rules = opens.rules;
        weaves = record {
          all = woven.all;
          are = woven.are;
          nests = subst (λ (coming : Option (List Event)). Nests config opens.book opens.current coming turns agent greeting answer woven.all) behind.coming woven.nests;
        };
      }

  -- a session's own effects
  own : (old mid new : Outside) (answer : Result (Unit {0}) ServeFault) → Behind identity places.own old mid → Nesting config turns agent greeting mid new answer → Added mid.told new.told (OpensOr config turns agent old new answer)
  own old mid new (Ok x) behind opens = record {
    effects = opens.adds.effects;
    added = opens.adds.added;
    holds = opened_since old mid new (Ok x) behind opens;
  }
  own old mid new (Err fault) behind (inl rests) = record {
    effects = [];
    added = rests.told ∙ sym (adds-none mid.told);
    holds = inl (record { none = refl; kept = kept_since identity places.own old mid new behind rests.kept; cause = unopened_since identity places.own config.session old mid new.size fault behind rests.cause });
  }
  own old mid new (Err fault) behind (inr opens) = record {
    effects = opens.adds.effects;
    added = opens.adds.added;
    holds = inr (opened_since old mid new (Err fault) behind opens);
  }

-- The session began with the agent that was made for it, and with what that says at once.
pub begun_so : (P : Run Keeper → List ℕ → Type 0) (words : List (List ℕ)) (id : List ℕ) (cookie : Cookie) (stand : Stand) (first : List ℕ) → stand ≡ start_stand cookie id words → first ≡ greeting → P (run_of stand) first → P (start cookie id words) greeting
begun_so P words id cookie stand first is_agent is_first holds = subst (λ (said : List ℕ). P (start cookie id words) said) is_first (subst (λ (at : Stand). P (run_of at) first) is_agent holds)

stands_behind : (identity : Identity) (places : NestPlaces) (old one mid : Outside) → one.told ≡ old.told → SetsUp old one → mid.told ≡ adds (adds one.told (handing_out identity places.own)) (announcing identity places.own) → SetsUp one mid → Behind identity places.own old mid
stands_behind identity places old one mid same first said second = record {
  told = said ∙ ap (λ told. adds (adds told (handing_out identity places.own)) (announcing identity places.own)) same;
  first = second.first ∙ first.first;
  coming = second.coming ∙ first.coming;
  size = λ bytes told. second.size bytes (first.first ∙ told) ∙ first.size bytes told;
  counts = record {
    disk = omega (arith, first.counts.disk, second.counts.disk);
    links = omega (arith, first.counts.links, second.counts.links);
    spawner = omega (arith, first.counts.spawner, second.counts.spawner);
    console = omega (arith, first.counts.console, second.counts.console);
  };
}

-- What the headline says of a run of the session.
abbrev pub Promised : Config → Outside → Outside → Result (Unit {0}) ServeFault → Run Keeper → List ℕ → Type 0
Promised config mid new answer agent first = (file : List ℕ) (stored : Book) → IsSettled mid file → Recovers file (Ok stored) → Added mid.told new.told (NestKeepsItsWord config (choose config.session stored) file agent first answer)

pub served_behind : (words : List (List ℕ)) (identity : Identity) (places : NestPlaces) (turns : ℕ) (cookie : Cookie) (old one mid new : Outside) (answer : Result (Unit {0}) ServeFault) → FileIs old.files places.authority (λ bytes. HasCookie places.outer bytes cookie) → one.told ≡ old.told → SetsUp old one
    → mid.told ≡ adds (adds one.told (handing_out identity places.own)) (announcing identity places.own) → SetsUp one mid → Nesting (config_of identity places.own) turns (start cookie places.id words) greeting mid new answer → Promised (config_of identity places.own) mid new answer (start cookie places.id words) greeting
    → IfErr answer (HasCause mid.faults new.faults)
    → Added old.told new.told (RunsSession words identity places turns old new (served answer))
served_behind words identity places turns cookie old one mid new answer file same first said second nesting headline cause =
    let behind : Behind identity places.own old mid = stands_behind identity places old one mid same first said second in
    let added = own identity places turns (start cookie places.id words) old mid new answer behind nesting in
    record {
      effects = setting_up identity places ++ added.effects;
      added = added.added ∙ (ap (λ told. adds told added.effects) (behind.told ∙ adds-adds old.told (handing_out identity places.own) (announcing identity places.own))
          ∙ adds-adds old.told (setting_up identity places) added.effects);
      holds = inr (record {
        cookie = cookie;
        file = file;
        ran = inr (record {
          answer = answer;
          own = added.effects;
          ends = refl;
          parts = refl;
          session = record {
            serves = added.holds;
            headline = λ file stored settled recovers.
                let there = still_settled identity places.own old mid behind file settled in
                let word = headline file stored there recovers in
                subst (NestKeepsItsWord (config_of identity places.own) (choose places.own.session stored) file (start cookie places.id words) greeting answer) (same_added mid.told new.told there.effects word.effects added.effects there.told word.added added.added) word.holds;
            cause = caused_since old.faults mid.faults new.faults answer behind.counts cause;
          };
        });
      });
    }
