-- What effects one after another say: what was heard, and what was sent.
use Rattle.std.proofs.Common.{◌≡◌, ℕ, zero, suc, ◌≤◌, List, [], ◌∷◌, ◌++◌, length, take, refl, sym, ◌∙◌, ap, arith, append-nil, length-append}
use Rattle.std.specs.List.{AllByRecursion, flat_map}
use Rattle.std.proofs.lemmas.Grind.{flat_map-append}
use Rattle.std.proofs.lemmas.List.{length-take}
use Rattle.sm_world.specs.Effects.{event_of, heard}
use Rattle.sm_world.specs.declared.effects.Effect.{Effect}
use Rattle.sm_world.specs.declared.effects.Effect.TheVariants.{Heard}
use Rattle.sm_world.specs.declared.events.Event.{Event}
use Rattle.client_peer.specs.Peers.{received}
use Rattle.smwrap_app.specs.Running.{bytes_of, sent, sent_of, stream}
use Rattle.smwrap_app.specs.Turning.{delivery}

pub heard_append : (es ds : List Effect) → heard (es ++ ds) ≡ heard es ++ heard ds
heard_append es ds = flat_map-append event_of es ds

pub sent_append : (es ds : List Effect) → sent (es ++ ds) ≡ sent es ++ sent ds
sent_append es ds = flat_map-append sent_of es ds

pub stream_append : (es ds : List Effect) → stream (es ++ ds) ≡ stream es ++ stream ds
stream_append es ds = ap (flat_map bytes_of) (heard_append es ds) ∙ flat_map-append bytes_of (heard es) (heard ds)

pub heard_delivery : (bytes : List ℕ) → heard (delivery bytes) ≡ []
heard_delivery [] = refl
heard_delivery (b ∷ bytes) = refl

pub sent_delivery : (bytes : List ℕ) → sent (delivery bytes) ≡ bytes
sent_delivery [] = refl
sent_delivery (b ∷ bytes) = append-nil (b ∷ bytes)

pub stream_delivery : (bytes : List ℕ) → stream (delivery bytes) ≡ []
stream_delivery bytes = ap (flat_map bytes_of) (heard_delivery bytes)

received_bytes : (piece : List ℕ) → bytes_of (received piece) ≡ piece
received_bytes [] = refl
received_bytes (b ∷ piece) = refl

pub stream_more : (es : List Effect) (piece : List ℕ) → stream (es ++ (Heard (received piece) ∷ [])) ≡ stream es ++ piece
stream_more es piece = stream_append es (Heard (received piece) ∷ []) ∙ ap (λ bs. stream es ++ bs) (append-nil (bytes_of (received piece)) ∙ received_bytes piece)

pub sent_more : (es : List Effect) (event : Event) → sent (es ++ (Heard event ∷ [])) ≡ sent es
sent_more es event = sent_append es (Heard event ∷ []) ∙ append-nil (sent es)

-- where nothing was heard there is no receive
pub not_heard : (mid after ds : List Effect) (event : Event) → mid ++ (Heard event ∷ after) ≡ ds → heard ds ≡ [] → ⊥
not_heard mid after ds event are none =
    let some : heard mid ++ (event ∷ heard after) ≡ [] = sym (heard_append mid (Heard event ∷ after)) ∙ (ap heard are ∙ none) in
    omega (arith, ap length some, length-append (heard mid) (event ∷ heard after))

no_length : {A : Type 0} (xs : List A) → length xs ≡ 0 → xs ≡ []
no_length [] none = refl
no_length (x ∷ xs) none = absurd (omega (arith, none))

pub only_one : {A : Type 0} (mid after : List A) (a b : A) → mid ++ (a ∷ after) ≡ b ∷ [] → mid ≡ []
only_one mid after a b are = no_length mid (omega (arith, ap length are, length-append mid (a ∷ after)))

pub all_append : {A : Type 0} (P : A → Type 0) (xs ys : List A) → AllByRecursion P xs → AllByRecursion P ys → AllByRecursion P (xs ++ ys)
all_append P [] ys one two = two
all_append P (x ∷ xs) ys one two = (one.0, all_append P xs ys one.1 two)

-- what a receive gave that isn't the stream's end
pub some_taken : (n : ℕ) (xs : List ℕ) → n ≤ length xs → (n ≡ 0 → ⊥) → 1 ≤ length (take n xs)
some_taken zero xs within some = absurd (some refl)
some_taken (suc n) xs within some = omega (arith, length-take (suc n) xs, within)
