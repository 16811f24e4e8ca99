-- The calls behind a turn, one at a time.
use Rattle.std.proofs.Common.{◌≡◌, ◌≤◌, ℕ, ◌+◌, ℤ, Bool, List, [], ◌++◌, map, length, slice_get, Some, ap, ◌∙◌, arith}
use Rattle.std.proofs.lemmas.List.{length-map}
use Rattle.kmipa_check.specs.Steps.{StepOf, step_of}
use Rattle.kmipa_check.specs.declared.step.Step.{Step}
use Rattle.kmipa_explain.specs.Calls.{number_of}
use Rattle.kmipa_explain.specs.Kept.{kept, one_if}
use Rattle.kmipa_explain.proofs.KeptLemmas.{KeptUpTo, kept_none, kept_more, kept_all}

-- the numbers that were found up to a place, of those behind a turn
abbrev pub Found : (StepOf → StepOf → Bool) → List StepOf → ℕ → ℕ → List ℤ → Type 0
Found test order turn place numbers = (c : StepOf) → slice_get order turn ≡ Some c → KeptUpTo (λ (d : StepOf). test d c) number_of order (turn + 1) place numbers

pub found_none : (test : StepOf → StepOf → Bool) (order : List StepOf) (turn : ℕ) (numbers : List ℤ) → numbers ≡ [] → Found test order turn (turn + 1) numbers
found_none test order turn numbers none = λ c at. kept_none (λ (d : StepOf). test d c) number_of order (turn + 1) numbers none

pub found_more : (test : StepOf → StepOf → Bool) (order : List StepOf) (turn place : ℕ) (s d : StepOf) (numbers more : List ℤ) (b : Bool)
    → slice_get order turn ≡ Some s → slice_get order place ≡ Some d → b ≡ test d s → more ≡ numbers ++ one_if d.number b
    → Found test order turn place numbers → Found test order turn (place + 1) more
found_more test order turn place s d numbers more b here there is grown found = λ c at.
    let its : s ≡ c = cc in
    kept_more (λ (x : StepOf). test x c) number_of order (turn + 1) place d numbers more b there (is ∙ ap (test d) its) grown (found c at)

pub found_all : (test : StepOf → StepOf → Bool) (steps : List Step) (turn place : ℕ) (numbers : List ℤ) (c : StepOf) → length steps ≤ place
    → Found test (map step_of steps) turn place numbers → slice_get (map step_of steps) turn ≡ Some c → numbers ≡ kept (λ (d : StepOf). test d c) number_of (map step_of steps) (turn + 1)
found_all test steps turn place numbers c end found at =
    kept_all (λ (d : StepOf). test d c) number_of (map step_of steps) (turn + 1) place numbers (omega (arith, end, length-map steps step_of)) (found c at)
