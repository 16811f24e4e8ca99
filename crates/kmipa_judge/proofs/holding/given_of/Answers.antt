use Rattle.std.specs.contracts.io.impls.RefSliceU8Read.TheImpl.{ghosts}
use Rattle.std.proofs.Common.{◌∙◌, Some, ap, sym}
use Rattle.kmipa_ttlv.specs.Input.{came_of, is_ended}
use Rattle.kmipa_record.specs.Declarations.{declaration_of, AreDeclared, IsDeclarationWithin, DeclarationFaultWithin, IsDeclarationUpToWithin}
use Rattle.kmipa_record.specs.declared.reach.Reach.TheVariants.{Aside}
use Rattle.kmipa_judge.proofs.HeldLemmas.{read_and, read_known}
use Rattle.kmipa_judge.specs.Reading.{IsGiven}
use Rattle.kmipa_judge.proofs.holding.given_of.Goals as goal

pub returns-clause-reads : goal.returns-clause-reads
returns-clause-reads c =
    let read = c.read_declaration_within-read in
    read_known read.result ghosts.remaining c.args.bytes.now c.new-input.result read.new.input IsGiven (DeclarationFaultWithin Aside) (IsDeclarationUpToWithin Aside) c.ended.result
    c.new-input.ensures.none_came c.new-input.ensures.goes_on (ap (λ r. Some r.now) c.new-input.ensures.reader) read.ensures.over
    (sym c.failed.ensures ∙ c.if-failed.false) c.ended.ensures (read_and read.result (λ b d. IsDeclarationWithin Aside b (declaration_of d)) (λ b d. AreDeclared (declaration_of d)) (came_of read.new.input) (is_ended read.new.input) read.ensures.found read.ensures.declared) read.ensures.fault
