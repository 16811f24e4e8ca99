use Rattle.std.proofs.Common.{map}
use Rattle.kmipa_unjudged.specs.Told.{named_of}
use Rattle.kmipa_judge.proofs.judging.tell_along.Goals as goal

pub returns : goal.returns
returns c = λ recorded.
    (c.in_ok-unjudged.unjudged.passed.items, map named_of c.in_ok-unjudged.unjudged.aside.items, c.in_ok-unjudged.ensures recorded, c.in_ok-tell_unjudged.ensures)
