use Rattle.kmipa_ttlv.specs.ViewTree.{view_trees}
use Rattle.kmipa_record.proofs.EntryLemmas.{set_said, fault_unsaid}
use Rattle.kmipa_record.proofs.entry.listed_in.Goals as goal

pub returns-in-Ok : goal.returns-in-Ok
returns-in-Ok c = (c.are_listed.ensures.0 c.if-not-are_listed.false, set_said (view_trees c.args.children) c.in-Ok.set c.in-Ok.ensures)

pub returns-in-WrongType : goal.returns-in-WrongType
returns-in-WrongType c = λ a listed said. fault_unsaid (view_trees c.args.children) c.in-Err.fault c.in-WrongType.is c.in-Err.ensures a said
