use Rattle.std.proofs.Common.{sym, subst, ◌∙◌}
use Rattle.std.proofs.lemmas.Result.{err_from_is_err_and}
use Rattle.kmipa_ttlv.specs.Input.{came_of}
use Rattle.kmipa_record.specs.Declarations.{AreDeclared, IsDeclarationWithin}
use Rattle.kmipa_record.proofs.RecordsLemmas.{keeps_none, keeps_all}
use Rattle.kmipa_record.proofs.declaration.read_declaration_within.Goals as goal

pub read_declaration_into-requires-clause-none : goal.read_declaration_into-requires-clause-none
read_declaration_into-requires-clause-none g c = keeps_none c.new-records.result c.new-records.ensures.kept c.new-records.ensures.none

pub returns-clause-found : goal.returns-clause-found
returns-clause-found g c =
    let taken = c.in_ok-settings.ensures.found.0 in
    let all = keeps_all c.read_declaration_into.new.taker taken.declared c.in_ok-settings.settings taken.held taken.named in
    (subst (IsDeclarationWithin c.args.reach (came_of c.read_declaration_into.new.input)) (sym (c.into_declaration.ensures ∙ all)) taken.found, c.in_ok-settings.ensures.found.1)

pub returns-clause-declared : goal.returns-clause-declared
returns-clause-declared g c =
    let taken = c.in_ok-settings.ensures.found.0 in
    let all = keeps_all c.read_declaration_into.new.taker taken.declared c.in_ok-settings.settings taken.held taken.named in
    subst AreDeclared (sym (c.into_declaration.ensures ∙ all)) taken.may

pub returns-in_err-settings-clause-fault : goal.returns-in_err-settings-clause-fault
returns-in_err-settings-clause-fault g c = λ file is.
    let p = err_from_is_err_and c.from_residual.result c.from_residual.ensures.1 in
    rw (p.1, p.2) (c.in_err-settings.ensures.fault file is)
