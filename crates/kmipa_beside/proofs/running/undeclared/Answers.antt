use Rattle.std.proofs.Common.{refl}
use Rattle.std.specs.Io.{appended_bytes}
use Rattle.kmipa_runs.proofs.YesLemmas.{fault_printed}
use Rattle.kmipa_beside.proofs.StatusLemmas.{never_done}
use Rattle.kmipa_beside.proofs.running.undeclared.Goals as goal

pub returns-clause-told : goal.returns-clause-told
returns-clause-told g c =
    let fault = c.first_fault-fault.result in
    let said = c.append.result in
    let lines = appended_bytes c.args.out.now.items c.append.new.out.items in
    let told = fault_printed c.fault_lines.result fault said lines c.fault_lines.ensures c.append.ensures.prints in
    record { fault = fault; fails = c.first_fault-fault.ensures; prints = told; unaccepted = λ done. never_done fault said lines told done }
