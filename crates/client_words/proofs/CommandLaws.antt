-- The command of `smclient` as it is built.
use Rattle.std.proofs.Common.{◌≡◌, ◌∙◌, Result, Ok, Err, IfOk, refl, ap, codes}
use Rattle.clap.specs.Simple.{App, with_rule}
use Rattle.clap.specs.Walk.{Rule}
use Rattle.client_words.specs.Words.{bare, client_app, needed, optional, defaulted, numbered, switch}

pub ok_is : {X E : Type 0} (f : X → App) (result : Result X E) (a b : App) → IfOk result (λ x. f x ≡ a) → a ≡ b → IfOk result (λ x. f x ≡ b)
ok_is f (Ok x) a b is e = is ∙ e
ok_is f (Err x) a b is e = is

with_one : (a b c : App) (r s : Rule) → c ≡ with_rule a r → a ≡ b → r ≡ s → c ≡ with_rule b s
with_one a b c r s is ab rs = is ∙ (ap (λ app. with_rule app r) ab ∙ ap (λ rule. with_rule b rule) rs)

pub built_up : (a b c d e f g : App) (r s t u v w x : Rule)
    → a ≡ bare (codes "smclient")
    → b ≡ with_rule a r → r ≡ needed (codes "socket")
    → c ≡ with_rule b s → s ≡ needed (codes "authority")
    → d ≡ with_rule c t → t ≡ optional (codes "id")
    → e ≡ with_rule d u → u ≡ defaulted (codes "program") (codes "smclient")
    → f ≡ with_rule e v → v ≡ numbered (codes "saves")
    → g ≡ with_rule f w → w ≡ switch (codes "interact") → x ≡ switch (codes "phase-two")
    → with_rule g x ≡ client_app
unfolding client_app
built_up a b c d e f g r s t u v w x is_a is_b is_r is_c is_s is_d is_t is_e is_u is_f is_v is_g is_w is_x =
    let b2 = with_one _ _ _ _ _ is_b is_a is_r in
    let c2 = with_one _ _ _ _ _ is_c b2 is_s in
    let d2 = with_one _ _ _ _ _ is_d c2 is_t in
    let e2 = with_one _ _ _ _ _ is_e d2 is_u in
    let f2 = with_one _ _ _ _ _ is_f e2 is_v in
    let g2 = with_one _ _ _ _ _ is_g f2 is_w in
    with_one _ _ _ _ _ refl g2 is_x
