use Rattle.std.proofs.Common.{subst, sym}
use Rattle.kmipa_record.specs.Declarations.{declaration_of}
use Rattle.kmipa_record.specs.Transcripts.{transcript_of}
use Rattle.kmipa_record.specs.Witnesses.{witness_of}
use Rattle.kmipa_check.specs.Grants.{GrantsOf}
use Rattle.kmipa_telling.specs.FaultsTold.{IsCheckFaultOf, IsCheckToldOf}
use Rattle.kmipa_telling.proofs.ExplainingLemmas.{fault_audited, fault_of, memory_audited}
use Rattle.kmipa_telling.proofs.explained.explain_records.Goals as goal

pub check_fault_told-requires-clause-told : goal.check_fault_told-requires-clause-told
check_fault_told-requires-clause-told c =
    let records = c.args.records in
    let P : GrantsOf → Type 0 = λ g. IsCheckFaultOf g (transcript_of records.transcript) (witness_of records.witness) c.in-Err.fault in
    subst P (sym c.of.ensures) (fault_of (transcript_of records.transcript) (declaration_of records.declaration) (witness_of records.witness) c.in-Err.fault (c.in-Err.ensures c.requires.recorded))

pub returns-in-Err-clause-audits : goal.returns-in-Err-clause-audits
returns-in-Err-clause-audits c = λ t d w ft fd fw r.
    let records = c.args.records in
    let P : GrantsOf → Type 0 = λ g. IsCheckToldOf g (transcript_of records.transcript) (witness_of records.witness) c.in-Err.fault c.check_fault_told.result in
    fault_audited records t d w r ft fd fw c.in-Err.fault c.check_fault_told.result (c.in-Err.ensures c.requires.recorded) (subst P c.of.ensures c.check_fault_told.ensures)

pub returns-in-Err-explanation_of-clause-audits : goal.returns-in-Err-explanation_of-clause-audits
returns-in-Err-explanation_of-clause-audits c = λ t d w ft fd fw r.
    memory_audited c.args.records t d w r ft fd fw c.in-Err-explanation_of.fault c.bare.result c.in-Err-explanation_of.ensures.memory c.bare.ensures
