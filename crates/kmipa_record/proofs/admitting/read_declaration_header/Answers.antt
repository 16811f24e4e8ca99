use Rattle.std.proofs.Common.{ap, length, sym, subst, ◌∙◌, ◌++◌, ℕ, arith, []}
use Rattle.std.proofs.lemmas.Result.{err_from_is_err_and}
use Rattle.kmipa_ttlv.specs.Input.{came_of, taken_of, is_failed}
use Rattle.kmipa_record.specs.Declarations.{DeclarationFaultWithin, IsDeclarationUpToWithin}
use Rattle.kmipa_record.specs.Files.{Tells}
use Rattle.kmipa_record.specs.Reaches.{ReachesSettings}
use Rattle.kmipa_record.specs.declared.fault.RecordKind.TheVariants.{Header}
use Rattle.kmipa_record.proofs.DeclarationLemmas.{header_fails, header_read, header_unreached}
use Rattle.kmipa_record.proofs.NextLemmas.{none_before}
use Rattle.kmipa_record.proofs.admitting.read_declaration_header.Goals as goal

pub returns-in_err-header-clause-fault : goal.returns-in_err-header-clause-fault
returns-in_err-header-clause-fault g c = λ file is.
    let p = err_from_is_err_and c.from_residual.result c.from_residual.ensures.1 in
    let split = is.1 ∙ none_before (came_of c.args.input.now) (came_of c.read_header.new.input) is.0 c.requires in
    rw (p.1, p.2) (header_fails c.args.reach file (taken_of c.args.input.now) (is_failed c.read_header.new.input) c.in_err-header.field-0.0 (ap length c.requires)
    (c.in_err-header.ensures.fault file is.0 split is.2))

pub returns-then-not-reaches_settings-clause-fault : goal.returns-then-not-reaches_settings-clause-fault
returns-then-not-reaches_settings-clause-fault g c = λ file is.
    let header = c.in_ok-header.header in
    let split = is.1 ∙ none_before (came_of c.args.input.now) (came_of c.read_header.new.input) is.0 c.requires in
    let x = c.in_ok-header.ensures.ok file is.0 split in
    let far : ¬ (ReachesSettings c.args.reach header.settings) = λ near. absurd (let yes = c.reaches_settings.ensures.1 near in let no = c.if-not-reaches_settings.true in cc) in
    subst (λ (o : ℕ). Tells (DeclarationFaultWithin c.args.reach) (IsDeclarationUpToWithin c.args.reach) file (is_failed c.read_header.new.input) (record { offset = o; kind = Header })) (sym c.taken-offset.ensures)
    (header_unreached c.args.reach file is.0 x.0 header (taken_of c.args.input.now) (taken_of c.read_header.new.input) (is_failed c.read_header.new.input) (ap length c.requires) x.1 x.2.0 x.2.1 far)

pub returns-clause-read : goal.returns-clause-read
returns-clause-read g c = λ after.
    let came = came_of c.read_header.new.input in
    let header = c.in_ok-header.header in
    let x = c.in_ok-header.ensures.ok (came ++ after) after (none_before (came_of c.args.input.now) came after c.requires) in
    header_read c.args.reach (came ++ after) after x.0 header (taken_of c.args.input.now) (taken_of c.read_header.new.input) (ap length c.requires) x.1 x.2.0 x.2.1
    (c.reaches_settings.ensures.0 c.if-not-reaches_settings.false)
