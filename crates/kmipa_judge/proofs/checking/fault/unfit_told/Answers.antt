use Rattle.std.proofs.Common.{◌≡◌, Result, Err, subst, sym}
use Rattle.kmipa_record.specs.Declarations.{declaration_of}
use Rattle.kmipa_record.specs.Transcripts.{transcript_of}
use Rattle.kmipa_record.specs.Witnesses.{witness_of}
use Rattle.kmipa_check.specs.Grants.{GrantsOf}
use Rattle.kmipa_check.specs.Verdicts.{Checks}
use Rattle.kmipa_check.specs.declared.fault.CheckFault.{CheckFault}
use Rattle.kmipa_check.specs.declared.fault.CheckFault.TheVariants as check
use Rattle.kmipa_check.specs.declared.verdict.Verdict.{Verdict}
use Rattle.kmipa_telling.specs.FaultsTold.{IsCheckFaultOf, IsCheckToldOf}
use Rattle.kmipa_judge.proofs.CheckLemmas.{unfit_so}
use Rattle.kmipa_judge.proofs.checking.fault.unfit_told.Goals as goal

pub check_fault_told-requires-clause-told : goal.check_fault_told-requires-clause-told
check_fault_told-requires-clause-told c =
    let marks = transcript_of c.args.read.now.records.transcript in
    let declared = declaration_of c.args.read.now.records.declaration in
    let turns = witness_of c.args.read.now.witness in
    let fault : CheckFault = check.Witness c.in-Err-Witness.same in
    let is : c.check.result ≡ Err fault = cc in
    let R : Result Verdict CheckFault → Type 0 = λ r. Checks marks declared turns r in
    let P : GrantsOf → Type 0 = λ g. IsCheckFaultOf g marks turns fault in
    subst P (sym c.of.ensures) (subst R is (c.check.ensures c.requires.recorded))

pub returns-in-Err-Witness : goal.returns-in-Err-Witness
returns-in-Err-Witness c =
    let marks = transcript_of c.args.read.now.records.transcript in
    let declared = declaration_of c.args.read.now.records.declaration in
    let turns = witness_of c.args.read.now.witness in
    let P : GrantsOf → Type 0 = λ g. IsCheckToldOf g marks turns (check.Witness c.in-Err-Witness.same) c.check_fault_told.result in
    unfit_so marks declared turns c.in-Err-Witness.same c.args.fault c.check_fault_told.result (c.is_same.ensures c.if-is_same.true) (subst P c.of.ensures c.check_fault_told.ensures)
