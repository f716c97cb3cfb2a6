-- What is left alone by calls one after another.
use Rattle.std.proofs.Common.{◌≡◌, refl, inl, inr, ℕ, ◌≤◌, Result, Ok, Err, IfErr, ◌∙◌, arith}
use Rattle.sm_world.specs.Outside.{NotFallen, Outside, Rose}
use Rattle.sm_world.specs.declared.failures.Faults.{Faults}
use Rattle.sm_world.proofs.Adding.{fallen_never}
use Rattle.session_engine.specs.Causes.{HasCause}
use Rattle.session_engine.specs.declared.fault.ServeFault.{ServeFault}
use Rattle.session_engine.specs.declared.fault.ServeFault.TheVariants.{ConsoleFault, Damaged, DiskFault, LinkFault, NoMemory, Spent, TooManySessions, Worn, WrongSize}
use Rattle.nested_session.specs.Standing.{Quiet}

rose_later : (a b c : ℕ) → a ≤ b → Rose b c → Rose a c
rose_later a b c k (inl more) = inl (omega (arith, k, more))
rose_later a b c k (inr most) = inr most

pub cause_later : (old between new : Faults) (fault : ServeFault) → NotFallen old between → HasCause between new fault → HasCause old new fault
cause_later old between new (Damaged at) kept cause = tt
cause_later old between new (WrongSize size) kept cause = tt
cause_later old between new TooManySessions kept cause = tt
cause_later old between new DiskFault kept cause = rose_later old.disk between.disk new.disk kept.disk cause
cause_later old between new LinkFault kept cause = rose_later old.links between.links new.links kept.links cause
cause_later old between new ConsoleFault kept cause = rose_later old.console between.console new.console kept.console cause
cause_later old between new Worn kept cause = tt
cause_later old between new Spent kept cause = tt
cause_later old between new NoMemory kept cause = tt

if_later : {A : Type 0} (old between new : Faults) (result : Result A ServeFault) → NotFallen old between → IfErr result (HasCause between new) → IfErr result (HasCause old new)
if_later old between new (Ok x) kept cause = tt
if_later old between new (Err fault) kept cause = cause_later old between new fault kept cause

-- a call behind what kept all of it
pub quiet_then : {A : Type 0} (old between new : Outside) (result : Result A ServeFault) → between.coming ≡ old.coming → between.input ≡ old.input → between.first ≡ old.first → between.size ≡ old.size → NotFallen old.faults between.faults → Quiet between new result → Quiet old new result
quiet_then old between new result coming input first size counts quiet = record {
  coming = quiet.coming ∙ coming;
  input = quiet.input ∙ input;
  first = quiet.first ∙ first;
  size = quiet.size ∙ size;
  counts = fallen_never old.faults between.faults new.faults counts quiet.counts;
  cause = if_later old.faults between.faults new.faults result counts quiet.cause;
}

-- two calls, of which the first was done
pub quiet_both : {A B : Type 0} (old between new : Outside) (first : Result A ServeFault) (second : Result B ServeFault) → Quiet old between first → Quiet between new second → Quiet old new second
quiet_both old between new first second one two = quiet_then old between new second one.coming one.input one.first one.size one.counts two

-- another answer, with no fault
pub quiet_ok : {A B : Type 0} (old new : Outside) (result : Result A ServeFault) (x : B) → Quiet old new result → Quiet old new (Ok x)
quiet_ok old new result x quiet = record { coming = quiet.coming; input = quiet.input; first = quiet.first; size = quiet.size; counts = quiet.counts; cause = tt }

-- no call
pub quiet_none : (old : Outside) → Quiet {A = Unit {0}} old old (Ok tt)
quiet_none old = record {
  coming = refl;
  input = refl;
  first = refl;
  size = refl;
  counts = record { disk = omega arith; links = omega arith; spawner = omega arith; console = omega arith };
  cause = tt;
}
