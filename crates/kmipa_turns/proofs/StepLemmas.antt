-- Steps of one call.
use Rattle.std.proofs.Common.{◌≡◌, ℕ, ℤ, List, Option, Some}
use Rattle.kmipa_turns.specs.Steps.{StepOf, TakenOf}

abbrev pub made : ℤ → List ℕ → ℕ → Option ℕ → Option ℤ → TakenOf → ℕ → StepOf
made n who b e z taken x = record { number = n; client = who; begin = b; end = e; stamp = z; taken = taken; excepted = x }

pub same_step : (n m : ℤ) (who : List ℕ) (b : ℕ) (e : Option ℕ) (y z : ℤ) (taken : TakenOf) (x w : ℕ) → n ≡ m → y ≡ z → x ≡ w → made n who b e (Some y) taken x ≡ made m who b e (Some z) taken w
same_step n m who b e y z taken x w f g h = λ j. made (f j) who b e (Some (g j)) taken (h j)
