use Rattle.std.proofs.Common.{◌≡◌, ℕ, Bool, List, Some, length, slice_get, slice_index_or, subst}
use Rattle.std.proofs.lemmas.Option.{slice_get-get_or}
use Rattle.kmipa_batch.specs.Standing.{Sees}
use Rattle.kmipa_batch.proofs.ShapeLemmas.{clash}
use Rattle.kmipa_batch.proofs.StandingLemmas.{reported_equal, equal_reported, seen_none, seen_more, seen_stops, seen_all, seen_many}
use Rattle.kmipa_batch.proofs.order.stand_once.Goals as goal

pub loop-position-init : goal.loop-position-init
loop-position-init c = seen_none c.args.places.now c.args.count c.in_ok-seen.seen.items (c.in_ok-seen.ensures.items_if_clones_equal (λ y e. e))

pub returns-then-not-see : goal.returns-then-not-see
returns-then-not-see c =
    let places : List ℕ = c.args.places.now in
    let position : ℕ = c.loop-position.position in
    let place : ℕ = slice_index_or places position 0 in
    let there : slice_get places position ≡ Some place = slice_get-get_or places position 0 c.loop-position-test.true in
    let P : Bool → Type 0 = λ b. Sees c.loop-position.seen.items place b c.see.new.seen.items in (
      λ h. absurd (clash h),
      λ o. absurd (seen_stops places c.args.count position c.loop-position.seen.items c.loop-position.invariant place there c.see.new.seen.items (subst P c.if-not-see.true c.see.ensures) o),
    )

pub loop-position-preserved : goal.loop-position-preserved
loop-position-preserved c =
    let places : List ℕ = c.args.places.now in
    let position : ℕ = c.loop-position.position in
    let place : ℕ = slice_index_or places position 0 in
    let there : slice_get places position ≡ Some place = slice_get-get_or places position 0 c.loop-position-test.true in
    let P : Bool → Type 0 = λ b. Sees c.loop-position.seen.items place b c.see.new.seen.items in
    seen_more places c.args.count position c.loop-position.seen.items c.loop-position.invariant place there c.see.new.seen.items (subst P c.if-not-see.false c.see.ensures)

pub returns : goal.returns
returns c =
    let places : List ℕ = c.args.places.now in
    let position : ℕ = c.loop-position.position in (
      λ h. seen_all places c.args.count position c.loop-position.seen.items c.loop-position.invariant c.loop-position-test.false (reported_equal (length places) c.args.count h),
      λ o. equal_reported (length places) c.args.count (seen_many places c.args.count position c.loop-position.seen.items c.loop-position.invariant c.loop-position-test.false o),
    )
