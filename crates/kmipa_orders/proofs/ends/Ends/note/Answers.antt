use Rattle.kmipa_orders.proofs.ends.Ends.note.Goals as goal

pub returns : goal.returns
returns g c = λ all places flagged long. c.keep.ensures places (c.in_ok-set.ensures all places flagged long)
