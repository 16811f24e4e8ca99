use Rattle.std.proofs.Common.{◌≡◌, ◌==◌, ℕ, true, length, arith}
use Rattle.std.proofs.lemmas.Bool.Decides.{nat_tests}
use Rattle.kmipa_check.specs.Steps.{order_of, step_of}
use Rattle.kmipa_explain.specs.Items.{places_taken}
use Rattle.kmipa_explain.proofs.KeptLemmas.{none_all}
use Rattle.kmipa_explain.proofs.standing.position_of.Goals as goal

pub returns : goal.returns
returns c =
    let places = places_taken (order_of (step_of c.args.step.now)) (length (step_of c.args.step.now).request.items) in
    let passes : (c.args.place == c.args.place) ≡ true = grind (arith, nat_tests) in
    let fails = none_all (λ (x : ℕ). x == c.args.place) places c.places.position (omega (arith, c.places-test.false, c.count_of-count.ensures)) c.places.invariant c.requires.0 c.args.place c.requires.1 in
    absurd cc
