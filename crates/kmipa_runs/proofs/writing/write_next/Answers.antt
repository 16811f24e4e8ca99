use Rattle.kmipa_runs.proofs.InputLemmas.{fault_of_bytes}
use Rattle.kmipa_runs.proofs.writing.write_next.Goals as goal

pub returns-clause-fault : goal.returns-clause-fault
returns-clause-fault c =
    fault_of_bytes c.in-Err.fault.kind c.args.at c.saturating_add.result c.in-Err.fault.offset c.args.bytes.now c.requires c.ranges.at.fits c.saturating_add.ensures c.in-Err.ensures.flaw
