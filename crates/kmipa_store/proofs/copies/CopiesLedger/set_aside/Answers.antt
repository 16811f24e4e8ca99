use Rattle.std.proofs.Common.{◌∙◌, sym}
use Rattle.kmipa_store.specs.States.{state_of_copies}
use Rattle.kmipa_store.proofs.AsideLemmas.{set_aside_at, set_aside_new}
use Rattle.kmipa_store.proofs.copies.CopiesLedger.set_aside.Goals as goal

pub returns-in-Some-clause-meaning : goal.returns-in-Some-clause-meaning
returns-in-Some-clause-meaning c = set_aside_at (state_of_copies c.args.self.now) c.args.id.now c.in-Some.place c.say.new.self (sym c.in-Some.is ∙ c.find.ensures.place) c.say.ensures

pub returns-in-None-clause-meaning : goal.returns-in-None-clause-meaning
returns-in-None-clause-meaning c = set_aside_new (state_of_copies c.args.self.now) c.args.id.now c.push.new.self c.push.result (sym c.in-None.is ∙ c.find.ensures.place) c.push.ensures
