use Rattle.kmipa_json.specs.Told.{members_of}
use Rattle.kmipa_judge.proofs.FormLemmas.{bare_told}
use Rattle.kmipa_judge.proofs.opening.fault_object.Goals as goal

pub returns : goal.returns
returns c = (
  members_of c.tell_fault_told.new.told,
  bare_told c.args.fault.now c.bare-fault.result c.in_ok-status.status (members_of c.args.told) (members_of c.tell_fault_told.new.told) c.bare-fault.ensures c.in_ok-status.ensures,
  c.in_ok-text.ensures,
)
