use Rattle.std.proofs.Common.{IfSome, Option, subst}
use Rattle.kmipa_store.specs.States.{state_of_journal}
use Rattle.kmipa_store.specs.declared.journal.Journal.{Journal}
use Rattle.kmipa_record.specs.Declarations.{declaration_of}
use Rattle.kmipa_check.specs.Opening.{StandsAsOpened}
use Rattle.kmipa_check.proofs.KeptLemmas.{kept_known, kept_sound}
use Rattle.kmipa_check.proofs.kept.kept_or_opened.Goals as goal

pub returns-in-Some-clause-known : goal.returns-in-Some-clause-known
returns-in-Some-clause-known c =
    let declared = declaration_of c.args.declaration.now in
    let P : Option Journal → Type 0 = λ o. IfSome o (λ l. StandsAsOpened (state_of_journal l).now declared.entries) in
    kept_known declared c.requires.declared (state_of_journal c.in-Some.ledger).now (subst P c.in-Some.is c.requires.stands)

pub returns-in-Some-clause-sound : goal.returns-in-Some-clause-sound
returns-in-Some-clause-sound c =
    let declared = declaration_of c.args.declaration.now in
    let P : Option Journal → Type 0 = λ o. IfSome o (λ l. StandsAsOpened (state_of_journal l).now declared.entries) in
    kept_sound declared c.requires.declared (state_of_journal c.in-Some.ledger).now (subst P c.in-Some.is c.requires.stands)
