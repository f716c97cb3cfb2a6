use Rattle.std.proofs.Common.{rules, ◌≡◌, refl}
use Rattle.client_quirks.specs.Heeding.{HasNothing}
use Rattle.client_quirks.proofs.Unheard.{hears_at, hears_released}
use Rattle.client_quirks.specs.declared.stage.Stage.TheVariants.{Free, Asked, Answered}
use Rattle.client_quirks.proofs.keeper.Keeper.lets_pass.Goals as goal

pub returns-in-Released : goal.returns-in-Released
returns-in-Released c = λ lets. hears_released c.args.self.now c.args.piece.now (search rules)

pub returns-in-Free : goal.returns-in-Free
returns-in-Free c = λ lets.
    let is : c.args.self.now.stage ≡ Free = search rules in
    let nothing : HasNothing c.args.self.now c.args.piece.now = search rules in
    hears_at c.args.self.now c.args.piece.now Free is refl (λ hears. hears) nothing

pub returns-in-Asked : goal.returns-in-Asked
returns-in-Asked c = λ lets.
    let is : c.args.self.now.stage ≡ Asked = search rules in
    let nothing : HasNothing c.args.self.now c.args.piece.now = search rules in
    hears_at c.args.self.now c.args.piece.now Asked is refl (λ hears. hears) nothing

pub returns-in-Answered : goal.returns-in-Answered
returns-in-Answered c = λ lets.
    let is : c.args.self.now.stage ≡ Answered = search rules in
    let nothing : HasNothing c.args.self.now c.args.piece.now = search rules in
    hears_at c.args.self.now c.args.piece.now Answered is refl (λ hears. hears) nothing
