-- WHAT A PLACE OF A CALL DOES THAT ISN'T JUDGED, or a whole call (profile).
use Rattle.std.specs.Prelude.{◌≡◌, ℕ, ℤ, Option}
use Rattle.kmipa_ops.specs.Objects.{Echoes}
use Rattle.kmipa_passed.specs.Leaving.{AsideOf as LeftOf, HeldOf, leaves}
use Rattle.kmipa_passed.specs.Passed.{AskOf, ask_of, AnswerOf, answer_of}
use Rattle.kmipa_aside.specs.Worlds.{WorldOf, with_left}
use Rattle.kmipa_aside.specs.declared.passed.Passed.{Passed}

-- The operation that is asked for, and the one that the answer names: none where it names none, where its Operation can't be read, or where
-- Poll is asked for. And what both say as far as that goes.
pub record PassedOf : Type 0 where
  pub asks : ℕ
  pub names : Option ℕ
  pub ask : AskOf
  pub answer : AnswerOf

abbrev pub passed_of : Passed → PassedOf
passed_of p = record { asks = p.asks; names = p.names; ask = ask_of p.ask; answer = answer_of p.answer }

-- its Operation is that of the request, where the answer names one; all else is possible, and leaves what its sort of operation does
pub record DoesPassed (t : ℤ) (p : PassedOf) (w : WorldOf) (before : HeldOf) (w' : WorldOf) (after : HeldOf) : Type 0 where
  pub operation : Echoes p.names p.asks
  pub world : w' ≡ with_left t (leaves p.ask p.answer before).aside w
  pub placeholder : after ≡ (leaves p.ask p.answer before).held

-- a call that can't be read leaves this; the ID Placeholder ends with each call
pub record DoesUnread (t : ℤ) (left : LeftOf) (w : WorldOf) (before : HeldOf) (w' : WorldOf) (after : HeldOf) : Type 0 where
  pub world : w' ≡ with_left t left w
  pub placeholder : after ≡ before
