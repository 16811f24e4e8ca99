use Rattle.std.proofs.Common.{◌∙◌, sym}
use Rattle.kmipa_store.specs.States.{state_of_copies}
use Rattle.kmipa_store.proofs.AsideLemmas.{taken_in_at, taken_in_none}
use Rattle.kmipa_store.proofs.copies.CopiesLedger.take_in.Goals as goal

pub returns-in-Some-clause-meaning : goal.returns-in-Some-clause-meaning
returns-in-Some-clause-meaning c = taken_in_at (state_of_copies c.args.self.now) c.args.id.now c.in-Some.place c.say.new.self (sym c.in-Some.is ∙ c.find.ensures.place) c.say.ensures

pub returns-in_default-clause-meaning : goal.returns-in_default-clause-meaning
returns-in_default-clause-meaning c = taken_in_none (state_of_copies c.args.self.now) c.args.id.now (sym c.in_default.is ∙ c.find.ensures.place)
