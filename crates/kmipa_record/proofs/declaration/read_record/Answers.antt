use Rattle.std.proofs.Common.{◌++◌, ℕ, sym, subst, refl, arith, []}
use Rattle.std.proofs.lemmas.Result.{err_from_is_err_and}
use Rattle.std.specs.Io.{appended_bytes}
use Rattle.kmipa_ttlv.specs.Input.{came_of, taken_of, is_failed}
use Rattle.kmipa_record.specs.Declarations.{DeclarationFaultWithin, IsDeclarationUpToWithin}
use Rattle.kmipa_record.specs.Files.{Tells}
use Rattle.kmipa_record.specs.Taking.{record_of}
use Rattle.kmipa_record.specs.declared.fault.RecordKind.TheVariants.{Entry}
use Rattle.kmipa_record.proofs.DeclarationLemmas.{read_fails, no_record_reported, refused_reported, read_since, read_none, read_more}
use Rattle.kmipa_record.proofs.PlaceLemmas.{whole_taken, refused_record_place}
use Rattle.kmipa_record.proofs.declaration.read_record.Goals as goal

pub returns-in_err-next-clause-fault : goal.returns-in_err-next-clause-fault
returns-in_err-next-clause-fault g c = λ file is.
    let p = err_from_is_err_and c.from_residual.result c.from_residual.ensures.1 in
    let has = c.requires.read in
    let header = c.args.header.now in
    let old = came_of c.args.input.now in
    let new = came_of c.read_next.new.input in
    rw (p.1, p.2) (read_fails c.args.reach header file has.declared (appended_bytes old new ++ is.0) (taken_of c.args.input.now) (is_failed c.read_next.new.input) c.in_err-next.field-0.0
    (read_since c.args.reach header old new has.declared c.read_next.ensures.grows has.read file is.0 is.1) (c.in_err-next.ensures.fault (appended_bytes old new ++ is.0) is.0 refl is.2))

pub hand_over-requires-clause-may : goal.hand_over-requires-clause-may
hand_over-requires-clause-may g c = (c.requires.read.read []).header.may

pub hand_over-requires-clause-reached : goal.hand_over-requires-clause-reached
hand_over-requires-clause-reached g c = (c.requires.read.read []).header.reached

pub hand_over-requires-clause-fit : goal.hand_over-requires-clause-fit
hand_over-requires-clause-fit g c =
    let x = rw c.in-Record.is at (c.in_ok-next.ensures.ok _ [] refl) in
    x.2.fit

pub returns-in-End-clause-read : goal.returns-in-End-clause-read
returns-in-End-clause-read g c =
    read_none c.args.reach c.args.header.now g.T.TakesRecords.holds (came_of c.args.input.now) (came_of c.read_next.new.input) c.args.taker.now c.requires.read c.read_next.ensures.grows
    (λ left after e. let x = rw c.in-End.is at (c.in_ok-next.ensures.ok left after e) in (x.0, x.1))

pub returns-in-End-clause-end : goal.returns-in-End-clause-end
returns-in-End-clause-end g c = λ _. (rw c.in-End.is at (c.in_ok-next.ensures.ok _ [] refl)).2

pub returns-in-Other-clause-fault : goal.returns-in-Other-clause-fault
returns-in-Other-clause-fault g c = λ file is.
    let has = c.requires.read in
    let header = c.args.header.now in
    let old = came_of c.args.input.now in
    let new = came_of c.read_next.new.input in
    let x = rw c.in-Other.is at (c.in_ok-next.ensures.ok (appended_bytes old new ++ is.0) is.0 refl) in
    subst (λ (o : ℕ). Tells (DeclarationFaultWithin c.args.reach) (IsDeclarationUpToWithin c.args.reach) file (is_failed c.read_next.new.input) (record { offset = o; kind = Entry })) (sym c.taken-offset.ensures)
    (no_record_reported c.args.reach header file has.declared x.0 (appended_bytes old new ++ is.0) is.0 (taken_of c.args.input.now) (taken_of c.read_next.new.input) (is_failed c.read_next.new.input)
    (read_since c.args.reach header old new has.declared c.read_next.ensures.grows has.read file is.0 is.1) x.1 x.2)

pub returns-in-Ok-clause-read : goal.returns-in-Ok-clause-read
returns-in-Ok-clause-read g c =
    let has = c.requires.read in
    let put = c.in-Ok.ensures has.declared has.held in
    read_more c.args.reach c.args.header.now g.T.TakesRecords.holds (came_of c.args.input.now) (came_of c.read_next.new.input) c.args.taker.now (record_of c.in-Record.next_record) has c.read_next.ensures.grows
    (λ left after e. rw c.in-Record.is at (c.in_ok-next.ensures.ok left after e)) c.hand_over.new.taker put.0 put.1 put.2

pub returns-in-Ok-clause-nearer : goal.returns-in-Ok-clause-nearer
returns-in-Ok-clause-nearer g c = λ _.
    let x = rw c.in-Record.is at (c.in_ok-next.ensures.ok _ [] refl) in
    omega (arith, x.1.taken, x.1.spelled.all)

pub returns-in-Err-clause-fault : goal.returns-in-Err-clause-fault
returns-in-Err-clause-fault g c = λ file is.
    let has = c.requires.read in
    let header = c.args.header.now in
    let old = came_of c.args.input.now in
    let new = came_of c.read_next.new.input in
    let x = rw c.in-Record.is at (c.in_ok-next.ensures.ok (appended_bytes old new ++ is.0) is.0 refl) in
    subst (λ (o : ℕ). Tells (DeclarationFaultWithin c.args.reach) (IsDeclarationUpToWithin c.args.reach) file (is_failed c.read_next.new.input) (record { offset = o; kind = c.in-Err.kind })) (sym c.taken-offset.ensures)
    (refused_reported c.args.reach header file has.declared (record_of c.in-Record.next_record) x.0 (appended_bytes old new ++ is.0) is.0 (taken_of c.args.input.now) (taken_of c.read_next.new.input)
    (is_failed c.read_next.new.input) c.in-Err.kind (read_since c.args.reach header old new has.declared c.read_next.ensures.grows has.read file is.0 is.1) x.1 x.2 (c.in-Err.ensures has.declared has.held))

pub returns-in-Err-clause-place : goal.returns-in-Err-clause-place
returns-in-Err-clause-place g c =
    let has = c.requires.read in
    let x = rw c.in-Record.is at (c.in_ok-next.ensures.ok _ [] refl) in
    let one = whole_taken x.0 (came_of c.args.input.now) (came_of c.read_next.new.input) _ _ c.taken-offset.result x.1 c.taken-offset.ensures in
    refused_record_place c.args.reach c.args.header.now has.declared (record_of c.in-Record.next_record) (came_of c.read_next.new.input) (record { offset = c.taken-offset.result; kind = c.in-Err.kind }) one
    (c.in-Err.ensures has.declared has.held)
