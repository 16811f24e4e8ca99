-- Which calls can be judged: each answer to what was asked for shows what is to be judged.
use Rattle.std.specs.Prelude.{◌≡◌, true, List, [], ◌∷◌}
use Rattle.kmipa_msgs.specs.Messages.{AskOf, RequestOf, AnswerOf, ResponseOf}
use Rattle.kmipa_ops.specs.Explains.{is_readable}
use Rattle.kmipa_batch.specs.Calls.{pairs_of, RefusesMessage}

abbrev pub AreReadable : List (AskOf × AnswerOf) → Type 0
AreReadable [] = Unit {0}
AreReadable (pair ∷ pairs) = (is_readable pair.0 pair.1 ≡ true) × AreReadable pairs

-- the items of a call are readable, unless its message is refused as a whole
abbrev pub IsReadableCall : RequestOf → ResponseOf → Type 0
IsReadableCall request response = (RefusesMessage response → ⊥) → AreReadable (pairs_of request response)
