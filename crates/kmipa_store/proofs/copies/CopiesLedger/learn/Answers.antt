use Rattle.std.proofs.Common.{Ok, slice_get, subst}
use Rattle.kmipa_store.specs.Secrets.{Judges}
use Rattle.kmipa_store.specs.States.{state_of_copies}
use Rattle.kmipa_store.specs.declared.secrets.Lesson.{Lesson}
use Rattle.kmipa_store.proofs.LearnLemmas.{learns_known}
use Rattle.kmipa_store.proofs.copies.CopiesLedger.learn.Goals as goal

pub returns-in-Ok-Old-clause-meaning : goal.returns-in-Ok-Old-clause-meaning
returns-in-Ok-Old-clause-meaning c =
    let P : Lesson → Type 0 = λ x. Judges (slice_get c.args.self.now.secrets c.args.secret.number) c.args.bytes.now (Ok x) in
    learns_known (state_of_copies c.args.self.now) c.args.secret.number c.args.bytes.now (subst P c.in-Ok-Old.field-0-is c.in-Ok-Old.ensures)
