use Rattle.std.proofs.Common.{◌≡◌, IfOk, subst}
use Rattle.kmipa_msgs.specs.Messages.{AskedOf, asked_of}
use Rattle.kmipa_msgs.specs.declared.request.Asked.{Asked}
use Rattle.kmipa_parts.proofs.SubjectLemmas.{written_named}
use Rattle.kmipa_parts.proofs.copies.written.Goals as goal

pub returns : goal.returns
returns c =
    let P : AskedOf → Type 0 = λ a. IfOk c.naming.result (λ (copy : Asked). asked_of copy ≡ a) in
    subst P (written_named c.args.id.now (asked_of c.args.asked.now)) c.naming.ensures
