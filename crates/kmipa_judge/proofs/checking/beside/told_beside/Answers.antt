use Rattle.std.proofs.Common.{Bool, string_bytes, subst, sym}
use Rattle.std.specs.Prelude.{IfOk}
use Rattle.kmipa_ttlv.specs.Input.{came_of}
use Rattle.kmipa_record.specs.Declarations.{declaration_of}
use Rattle.kmipa_record.specs.Transcripts.{transcript_of}
use Rattle.kmipa_record.specs.Witnesses.{witness_of}
use Rattle.kmipa_runs.proofs.KnowingLemmas.{knows}
use Rattle.kmipa_judge.specs.Checks.{IsFaultBeside, AreHeldAs, PrintsFaultAs}
use Rattle.kmipa_judge.specs.declared.form.JudgeForm.{JudgeForm}
use Rattle.kmipa_judge.proofs.CheckLemmas.{beside_told, fault_told_beside, none_known}
use Rattle.kmipa_judge.proofs.checking.beside.told_beside.Goals as goal

pub check-requires : goal.check-requires
check-requires g c = c.requires.read.declared

pub verdict_told-requires-clause-recorded : goal.verdict_told-requires-clause-recorded
verdict_told-requires-clause-recorded g c = c.requires.read.transcript.recorded

pub verdict_told-requires-clause-declared : goal.verdict_told-requires-clause-declared
verdict_told-requires-clause-declared g c = c.requires.read.declared

pub fault_beside-told-requires-clause-recorded : goal.fault_beside-told-requires-clause-recorded
fault_beside-told-requires-clause-recorded g c = c.requires.read.transcript.recorded

pub fault_beside-told-requires-clause-declared : goal.fault_beside-told-requires-clause-declared
fault_beside-told-requires-clause-declared g c = c.requires.read.declared

pub fault_said-requires : goal.fault_said-requires
fault_said-requires g c =
    let files = c.args.files.now in
    let P : JudgeForm → Type 0 = λ f. AreHeldAs f files.held.now files.transcript.now files.declaration.now files.witness.now in
    subst P (sym c.held_as.ensures) c.requires.held

pub returns-in_ok-verdict_told-in-Ok-clause-told : goal.returns-in_ok-verdict_told-in-Ok-clause-told
returns-in_ok-verdict_told-in-Ok-clause-told g c =
    let t = c.args.files.now.transcript.now in
    let d = c.args.files.now.declaration.now in
    let w = c.args.files.now.witness.now in
    beside_told c.args.form t d w c.args.read c.requires.read c.requires.aside c.in-Ok.verdict _ _ (c.in-Ok.ensures c.requires.read.transcript.recorded) c.in_ok-verdict_told-in-Ok.ensures

pub returns-in_ok-verdict_told-in-Ok-clause-known : goal.returns-in_ok-verdict_told-in-Ok-clause-known
returns-in_ok-verdict_told-in-Ok-clause-known g c = knows (came_of c.args.files.now.transcript.now) _ c.args.read.records.transcript.head c.requires.read.known

pub returns-in-Err-clause-told : goal.returns-in-Err-clause-told
returns-in-Err-clause-told g c =
    let t = c.args.files.now.transcript.now in
    let d = c.args.files.now.declaration.now in
    let w = c.args.files.now.witness.now in
    let read = c.args.read in
    let told = c.fault_beside-told.result in
    let P : Bool → Type 0 = λ e. IsFaultBeside e (transcript_of read.records.transcript) (declaration_of read.records.declaration) (witness_of read.witness) c.in-Err.fault told in
    let Q : JudgeForm → Type 0 = λ f. IfOk c.fault_said.result (λ x. PrintsFaultAs f t d w told x.lines.status (string_bytes x.lines.text)) in
    fault_told_beside c.args.form t d w read c.requires.read c.requires.aside c.fault_said.result c.in-Err.fault told (c.in-Err.ensures c.requires.read.transcript.recorded)
    (subst P c.is_explained.ensures c.fault_beside-told.ensures) (subst Q c.held_as.ensures c.fault_said.ensures.told)

pub returns-in-Err-clause-known : goal.returns-in-Err-clause-known
returns-in-Err-clause-known g c =
    let t = c.args.files.now.transcript.now in
    let d = c.args.files.now.declaration.now in
    let w = c.args.files.now.witness.now in
    none_known c.fault_said.result c.held_as.result t d w c.fault_beside-told.result (came_of t) c.fault_said.ensures.told
