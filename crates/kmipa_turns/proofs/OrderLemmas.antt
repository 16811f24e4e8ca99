-- The places that a turn gives.
use Rattle.std.proofs.Common.{◌≡◌, ◌≢◌, ℕ, ℤ, pos, Bool, false, List, [], ◌∷◌, refl, sym, ap, ◌∙◌, subst}
use Rattle.std.specs.Prelude.{◌↔◌, IsTrue}
use Rattle.kmipa_batch.specs.Orders.{AreTakingOrder}
use Rattle.kmipa_bundle.specs.Shapes.{request_as, response_as}
use Rattle.kmipa_places.specs.Calls.{ReadOf}
use Rattle.kmipa_check.specs.Places.{place_numbers}
use Rattle.kmipa_check.specs.declared.fault.WitnessKind.TheVariants.{OrderForm}
use Rattle.kmipa_turns.specs.Faults.{PlacesFault, disordered}
use Rattle.kmipa_turns.specs.Steps.{WantsOrder}

one_list : (xs ys : List ℕ) → place_numbers xs ≡ place_numbers ys → xs ≡ ys
one_list [] [] e = refl
one_list [] (y ∷ ys) e = absurd cc
one_list (x ∷ xs) [] e = absurd cc
one_list (x ∷ xs) (y ∷ ys) e =
    let head : pos x ≡ pos y = cc in
    let same : x ≡ y = cc in
    let tail : place_numbers xs ≡ place_numbers ys = cc in
    ap (λ (z : ℕ). z ∷ xs) same ∙ ap (λ (zs : List ℕ). y ∷ zs) (one_list xs ys tail)

-- places that were tested, and are no order of the answered ones
pub no_order : (x : ReadOf) (numbers : List ℤ) (places : List ℕ) (reported : Bool) → numbers ≢ [] → WantsOrder x → numbers ≡ place_numbers places
    → IsTrue reported ↔ AreTakingOrder (request_as x) (response_as x) places → reported ≡ false → PlacesFault x numbers OrderForm
no_order x numbers places reported some wants is tests not = disordered some wants (λ others same taken. by others (one_list others places (sym same ∙ is)) taken) refl
  where
    by : (others : List ℕ) → others ≡ places → AreTakingOrder (request_as x) (response_as x) others → ⊥
    by others e taken =
        let P : List ℕ → Type 0 = λ ps. AreTakingOrder (request_as x) (response_as x) ps in
        let yes = tests.1 (subst P e taken) in
        cc
