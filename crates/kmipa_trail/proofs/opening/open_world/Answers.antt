use Rattle.std.proofs.Common.{[], sym, subst}
use Rattle.kmipa_store.specs.Ledger.{LedgerState}
use Rattle.kmipa_store.specs.Choices.{IsSound}
use Rattle.kmipa_store.specs.States.{state_of_journal}
use Rattle.kmipa_store.proofs.SoundLemmas.{sound_aside}
use Rattle.kmipa_record.specs.Declarations.{declaration_of}
use Rattle.kmipa_check.specs.Described.{aside_declared}
use Rattle.kmipa_trail.specs.Leading.{AreKnown}
use Rattle.kmipa_trail.proofs.OpeningLemmas.{world_known}
use Rattle.kmipa_trail.proofs.opening.open_world.Goals as goal

pub returns-in-Ok-set_declared_aside-clause-known : goal.returns-in-Ok-set_declared_aside-clause-known
returns-in-Ok-set_declared_aside-clause-known c =
    let declared = declaration_of c.args.declaration.now in
    let P : LedgerState → Type 0 = λ s. AreKnown declared [] s.now in
    subst P (sym (c.in-Ok-set_declared_aside.ensures c.in-Ok.ensures.aside)) (world_known declared (state_of_journal c.in-Ok.ledger).now c.in-Ok.ensures.opened)

pub returns-in-Ok-set_declared_aside-clause-sound : goal.returns-in-Ok-set_declared_aside-clause-sound
returns-in-Ok-set_declared_aside-clause-sound c =
    let declared = declaration_of c.args.declaration.now in
    let P : LedgerState → Type 0 = λ s. IsSound s.now in
    subst P (sym (c.in-Ok-set_declared_aside.ensures c.in-Ok.ensures.aside)) (sound_aside (state_of_journal c.in-Ok.ledger).now (aside_declared declared) c.in-Ok.ensures.sound)
