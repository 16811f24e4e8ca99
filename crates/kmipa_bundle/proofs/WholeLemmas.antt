-- Each item of a call that was read, and that has an answer, has its place.
use Rattle.std.proofs.Common.{◌≡◌, ◌<◌, ◌∙◌, sym, ap, ℕ, zero, suc, ℤ, Bool, List, [], ◌∷◌, length, Some, arith}
use Rattle.std.proofs.lemmas.List.{length-map}
use Rattle.kmipa_ttlv.specs.Tree.{Tree}
use Rattle.kmipa_msgs.specs.Headers.{batch}
use Rattle.kmipa_msgs.specs.Requests.{is_without_order}
use Rattle.kmipa_places.specs.Calls.{ArePlaces}
use Rattle.kmipa_places.specs.Outcomes.{outcome_at}
use Rattle.kmipa_places.specs.Places.{PlaceOf}
use Rattle.kmipa_bundle.specs.Shapes.{answer_as, some_ask}
use Rattle.kmipa_bundle.specs.Whole.{ReadCallsAreWhole}
use Rattle.kmipa_bundle.proofs.OrderLemmas.{replicate_long}

has_place : (unordered : Bool) (asides : List ℤ) (n : ℕ) (ts us : List Tree) (ps : List PlaceOf) → ArePlaces unordered asides n ts us ps → (place : ℕ) → place < length ts → place < length us → place < length ps
has_place unordered asides n [] us ps a place h g = absurd (omega (arith, h))
has_place unordered asides n (t ∷ ts) [] ps a place h g = absurd (omega (arith, g))
has_place unordered asides n (t ∷ ts) (u ∷ us) [] a place h g = absurd a
has_place unordered asides n (t ∷ ts) (u ∷ us) (p ∷ ps) a zero h g = omega arith
has_place unordered asides n (t ∷ ts) (u ∷ us) (p ∷ ps) a (suc place) h g =
    let r = has_place unordered asides (suc n) ts us ps a.1 place (omega (arith, h)) (omega (arith, g)) in omega (arith, r)

pub read_whole : ReadCallsAreWhole
read_whole t u asides c r place there =
    let asks : place < length (batch t) = (let h = there.0 in let l = replicate_long c.asks some_ask in let e = r.asks in omega (arith, h, l, e)) in
    let many : length (batch u) ≡ length c.outcomes = sym (length-map (batch u) outcome_at) ∙ ap length r.outcomes ∙ length-map c.outcomes Some in
    let answers : place < length (batch u) = (let h = there.1 in let l = length-map c.outcomes answer_as in omega (arith, h, l, many)) in
    has_place (is_without_order t) asides 1 (batch t) (batch u) c.places r.places place asks answers
