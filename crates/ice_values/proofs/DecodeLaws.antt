-- What decoding answers, for the messages of any protocol.
use Rattle.std.proofs.Common.{◌≡◌, ℕ, List, Result, Ok, Err, IfOk, IfErr, refl, subst}
use Rattle.ice_values.specs.Frames.{Gives}
use Rattle.ice_values.specs.declared.refusals.DecodeRefusal.{DecodeRefusal}
use Rattle.ice_values.specs.declared.refusals.DecodeRefusal.TheVariants.{BadMinor, BadLength, BadValue, NoMemory}
use Rattle.ice_values.proofs.EnumLaws.{Answered}

-- what is answered is spelled, or has its cause
abbrev pub Caused : {M : Type 0} → (M → Type 0) → (DecodeRefusal → Type 0) → Result M DecodeRefusal → Type 0
Caused Spelled Refused (Ok m) = Spelled m
Caused Spelled Refused (Err BadMinor) = Refused BadMinor
Caused Spelled Refused (Err BadLength) = Refused BadLength
Caused Spelled Refused (Err (BadValue at len)) = Refused (BadValue at len)
Caused Spelled Refused (Err NoMemory) = ⊥

module _ {M : Type 0} (Spelled : M → Type 0) (Refused : DecodeRefusal → Type 0) where
  -- of the reading of a minor opcode that some message has
  pub caused : (Formed : M → Type 0) (places : M → List (ℕ × ℕ)) (bytes : List ℕ) (answer : Result M DecodeRefusal) → (answer ≡ Err BadLength → Refused BadLength)
      → ((at len : ℕ) → Answered Spelled Formed places bytes (Err (BadValue at len)) → Refused (BadValue at len)) → Answered Spelled Formed places bytes answer → Caused Spelled Refused answer
  caused Formed places bytes (Ok m) long wrong says = says
  caused Formed places bytes (Err BadMinor) long wrong says = absurd says
  caused Formed places bytes (Err BadLength) long wrong says = long refl
  caused Formed places bytes (Err (BadValue at len)) long wrong says = wrong at len says
  caused Formed places bytes (Err NoMemory) long wrong says = absurd says

  -- what the answer says, whatever call is made
  pub is_spelled : (answer : Result M DecodeRefusal) (m : M) → Caused Spelled Refused answer → answer ≡ Ok m → Spelled m
  is_spelled answer m h is = subst (Caused Spelled Refused) is h

  pub has_cause : (answer : Result M DecodeRefusal) (d : DecodeRefusal) → Caused Spelled Refused answer → answer ≡ Err d → Refused d
  has_cause answer BadMinor h is = subst (Caused Spelled Refused) is h
  has_cause answer BadLength h is = subst (Caused Spelled Refused) is h
  has_cause answer (BadValue at len) h is = subst (Caused Spelled Refused) is h
  has_cause answer NoMemory h is = absurd (subst (Caused Spelled Refused) is h)

  pub needs_no_memory : (answer : Result M DecodeRefusal) → Caused Spelled Refused answer → answer ≡ Err NoMemory → ⊥
  needs_no_memory answer h is = subst (Caused Spelled Refused) is h

  -- the clauses of a call that gives this answer
  pub is_found : (result answer : Result M DecodeRefusal) → Gives result answer → Caused Spelled Refused answer → IfOk result Spelled
  is_found (Ok m) answer given h = subst (Caused Spelled Refused) given h
  is_found (Err d) answer given h = tt

  pub is_refused : (result answer : Result M DecodeRefusal) → Refused NoMemory → Gives result answer → Caused Spelled Refused answer → IfErr result Refused
  is_refused (Ok m) answer none given h = tt
  is_refused (Err BadMinor) answer none given h = subst (Caused Spelled Refused) given h
  is_refused (Err BadLength) answer none given h = subst (Caused Spelled Refused) given h
  is_refused (Err (BadValue at len)) answer none given h = subst (Caused Spelled Refused) given h
  is_refused (Err NoMemory) answer none given h = none
