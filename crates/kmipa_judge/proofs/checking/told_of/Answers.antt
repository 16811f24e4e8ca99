use Rattle.std.proofs.Common.{subst}
use Rattle.kmipa_ttlv.specs.Input.{came_of}
use Rattle.kmipa_judge.specs.Checks.{AreHeldAs, AreReadAs}
use Rattle.kmipa_judge.specs.declared.form.JudgeForm.{JudgeForm}
use Rattle.kmipa_telling.proofs.JudgingLemmas.{err_told, ok_told}
use Rattle.kmipa_judge.proofs.CheckLemmas.{none_known, unread_told}
use Rattle.kmipa_judge.proofs.checking.told_of.Goals as goal

pub told_by-requires-clause-held : goal.told_by-requires-clause-held
told_by-requires-clause-held g c =
    let run = c.read_three.new in
    let P : JudgeForm → Type 0 = λ f. AreHeldAs f run.held run.transcript run.declaration run.witness in
    subst P c.held_as-plain.ensures c.in_ok-read.ensures.held

pub told_by-requires-clause-read : goal.told_by-requires-clause-read
told_by-requires-clause-read g c =
    let run = c.read_three.new in
    ok_told c.in_ok-read.read c.in-Ok.records (AreReadAs run.transcript run.declaration run.witness) c.in-Ok.is c.in_ok-read.ensures.found

pub returns-in-Err-clause-told : goal.returns-in-Err-clause-told
returns-in-Err-clause-told g c =
    let run = c.read_three.new in
    unread_told c.fault_said.result c.args.form c.held_as-plain.result run.transcript run.declaration run.witness c.in-Err.fault c.bare.result c.held_as-plain.ensures c.bare.ensures
    (err_told c.in_ok-read.read c.in-Err.fault _ c.in-Err.is c.in_ok-read.ensures.fault) c.fault_said.ensures.told

pub returns-in-Err-clause-known : goal.returns-in-Err-clause-known
returns-in-Err-clause-known g c =
    let run = c.read_three.new in
    none_known c.fault_said.result c.held_as-plain.result run.transcript run.declaration run.witness c.bare.result (came_of run.transcript) c.fault_said.ensures.told
