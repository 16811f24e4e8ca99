use Rattle.std.proofs.Common.{Bool, subst, sym}
use Rattle.kmipa_record.specs.Declarations.{declaration_of}
use Rattle.kmipa_record.specs.Transcripts.{transcript_of}
use Rattle.kmipa_record.specs.Witnesses.{witness_of}
use Rattle.kmipa_check.specs.Grants.{GrantsOf}
use Rattle.kmipa_telling.specs.FaultsTold.{IsCheckFaultOf, IsCheckToldOf}
use Rattle.kmipa_telling.proofs.ExplainingLemmas.{fault_of}
use Rattle.kmipa_judge.specs.Checks.{IsFaultInSight}
use Rattle.kmipa_judge.proofs.CheckLemmas.{bare_sighted, sighted_so}
use Rattle.kmipa_judge.proofs.checking.fault.fault_in_sight.Goals as goal

pub check_fault_told-requires-clause-told : goal.check_fault_told-requires-clause-told
check_fault_told-requires-clause-told c =
    let marks = transcript_of c.args.read.now.records.transcript in
    let declared = declaration_of c.args.read.now.records.declaration in
    let turns = witness_of c.args.read.now.witness in
    let P : GrantsOf → Type 0 = λ g. IsCheckFaultOf g marks turns c.args.fault in
    subst P (sym c.of.ensures) (fault_of marks declared turns c.args.fault c.requires.told)

pub returns-then-explained : goal.returns-then-explained
returns-then-explained c =
    let marks = transcript_of c.args.read.now.records.transcript in
    let declared = declaration_of c.args.read.now.records.declaration in
    let turns = witness_of c.args.read.now.witness in
    let P : GrantsOf → Type 0 = λ g. IsCheckToldOf g marks turns c.args.fault c.check_fault_told.result in
    let Q : Bool → Type 0 = λ e. IsFaultInSight e marks declared turns c.args.fault c.check_fault_told.result in
    subst Q (sym c.if-explained.true) (sighted_so marks declared turns c.args.fault c.check_fault_told.result (subst P c.of.ensures c.check_fault_told.ensures))

pub returns-else-explained : goal.returns-else-explained
returns-else-explained c =
    let marks = transcript_of c.args.read.now.records.transcript in
    let declared = declaration_of c.args.read.now.records.declaration in
    let turns = witness_of c.args.read.now.witness in
    let Q : Bool → Type 0 = λ e. IsFaultInSight e marks declared turns c.args.fault c.bare.result in
    subst Q (sym c.if-explained.false) (bare_sighted marks declared turns c.args.fault c.bare.result c.bare.ensures)
