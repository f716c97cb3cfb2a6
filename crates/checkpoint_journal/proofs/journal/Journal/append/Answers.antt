use Rattle.std.proofs.Common.{◌≡◌, ◌-◌, ◌^◌, ℕ, length, ap, sym, refl, ◌∙◌, arith}
use Rattle.std.specs.Prelude.{Option}
use Rattle.checkpoint_slots.specs.Turns.{advanced, end_in, next_generation}
use Rattle.checkpoint_slots.specs.declared.turn.Current.{Current}
use Rattle.checkpoint_slots.specs.declared.fault.StoreFault.TheVariants.{NoMemory, Worn}
use Rattle.checkpoint_slots.proofs.Turning.{added-by}
use Rattle.checkpoint_journal.specs.Journal.{behind, size_of}
use Rattle.checkpoint_journal.proofs.Appended.{appends-done, appends-not, appends-refused}
use Rattle.checkpoint_journal.proofs.Growing.{behind-size}
use Rattle.checkpoint_journal.proofs.journal.Journal.append.Goals as goal

pub returns-then-worn-clause-effects : goal.returns-then-worn-clause-effects
returns-then-worn-clause-effects g c =
    let worn : next_generation c.args.self ≡ 2 ^ 64 = ap next_generation (sym c.self.view_is) ∙ c.if-worn.ensures.is.0 refl in
    appends-refused c.args.self c.args.delta.now Worn _ worn

pub returns-in-Err-clause-effects : goal.returns-in-Err-clause-effects
returns-in-Err-clause-effects g c = appends-refused c.args.self c.args.delta.now NoMemory _ tt

pub returns-in-Ok-put_behind-clause-effects : goal.returns-in-Ok-put_behind-clause-effects
returns-in-Ok-put_behind-clause-effects g c =
    let gate = ap end_in (sym c.self.view_is) ∙ sym c.in-Some.ensures in
    let tail : c.as_slice.result.now ≡ behind c.args.delta.now = c.as_slice.ensures ∙ c.in-Ok.ensures in
    let size = c.len.ensures ∙ ap length c.in-Ok.ensures ∙ behind-size c.args.delta.now in
    let m : c.len.result - 8 ≡ size_of c.args.delta.now = omega (arith, size) in
    let moved : c.advance.result ≡ advanced c.args.self (size_of c.args.delta.now) = c.advance.ensures ∙ ap (λ (n : ℕ). advanced c.self.inside.steady n) m ∙ ap (λ (s : Option Current). advanced s (size_of c.args.delta.now)) c.self.view_is in
    added-by (λ added puts. appends-done c.args.self c.advance.result c.in-Some.gate c.args.delta.now c.as_slice.result.now added c.requires.fits gate tail moved puts) c.in-Ok-put_behind.ensures.effects

pub returns-clause-effects : goal.returns-clause-effects
returns-clause-effects g c =
    let gate = ap end_in (sym c.self.view_is) ∙ sym c.in-Some.ensures in
    let tail : c.as_slice.result.now ≡ behind c.args.delta.now = c.as_slice.ensures ∙ c.in-Ok.ensures in
    added-by (λ added puts. appends-not c.args.self c.in-Some.gate c.args.delta.now c.as_slice.result.now added c.requires.fits gate tail puts) c.in-Err-put_behind.ensures.effects
