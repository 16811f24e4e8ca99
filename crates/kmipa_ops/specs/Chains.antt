-- Items one after the other, at one moment.
use Rattle.std.specs.Prelude.{◌≡◌, ◌↔◌, ℕ, ℤ, List, [], ◌∷◌, Option}
use Rattle.kmipa_object.specs.Inventory.{Thing}
use Rattle.kmipa_msgs.specs.Messages.{RulesOf, AskOf, AnswerOf}
use Rattle.kmipa_ops.specs.Does.{Does}
use Rattle.kmipa_ops.specs.Completes.{CompletesAnswer, DoesSome}

-- along a list of pairs of ask and answer, each step is that of one item
abbrev pub Chain : RulesOf → ℤ → List Thing → Option (List ℕ) → List (AskOf × AnswerOf) → List Thing → Option (List ℕ) → Type 0
Chain rules t V before [] V' after = (V' ≡ V) × (after ≡ before)
Chain rules t V before (pair ∷ pairs) V' after =
    (M : List Thing) × (between : Option (List ℕ)) × Does rules V before t pair.0 pair.1 M between × Chain rules t M between pairs V' after

-- the same, where each answer may be completed
abbrev pub ChainSome : RulesOf → ℤ → List Thing → Option (List ℕ) → List (AskOf × AnswerOf) → List Thing → Option (List ℕ) → Type 0
ChainSome rules t V before [] V' after = (V' ≡ V) × (after ≡ before)
ChainSome rules t V before (pair ∷ pairs) V' after =
    (M : List Thing) × (between : Option (List ℕ)) × DoesSome rules V before t pair.0 pair.1 M between × ChainSome rules t M between pairs V' after

-- each answer is completed, and each ask stays
abbrev pub CompletesEach : List (AskOf × AnswerOf) → List (AskOf × AnswerOf) → Type 0
CompletesEach [] [] = Unit {0}
CompletesEach [] (full ∷ fulls) = ⊥
CompletesEach (pair ∷ pairs) [] = ⊥
CompletesEach (pair ∷ pairs) (full ∷ fulls) = (full.0 ≡ pair.0) × CompletesAnswer pair.0 pair.1 full.1 × CompletesEach pairs fulls

-- a chain of answers that may be completed is a chain of some completed answers
abbrev pub ChainsComplete : Type 0
ChainsComplete =
    (rules : RulesOf) (t : ℤ) (V : List Thing) (before : Option (List ℕ)) (pairs : List (AskOf × AnswerOf)) (V' : List Thing) (after : Option (List ℕ))
    → ChainSome rules t V before pairs V' after ↔ ((fulls : List (AskOf × AnswerOf)) × CompletesEach pairs fulls × Chain rules t V before fulls V' after)
