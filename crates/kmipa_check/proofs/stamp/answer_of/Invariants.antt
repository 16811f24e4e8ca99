use Rattle.std.proofs.Common.{◌<◌, ℕ, List, map}
use Rattle.kmipa_record.specs.Witnesses.{turn_of}
use Rattle.kmipa_check.specs.Stamps.{AnswersAt}
use Rattle.kmipa_check.proofs.stamp.answer_of.Given as goal

abbrev pub invariant-turns : goal.invariant-turns
invariant-turns l = (place : ℕ) → place < l.turn-index → (bytes : List ℕ) → ¬ (AnswersAt (map turn_of l.turns) l.fn.call bytes place)
