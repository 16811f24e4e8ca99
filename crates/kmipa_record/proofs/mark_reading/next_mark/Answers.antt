use Rattle.std.proofs.Common.{sym, subst, ◌++◌, [], List, ℕ, refl, arith}
use Rattle.std.specs.Io.{appended_bytes}
use Rattle.std.proofs.lemmas.Result.{err_from_is_err_and}
use Rattle.kmipa_ttlv.specs.Input.{came_of, taken_of, is_failed}
use Rattle.kmipa_record.specs.Files.{Tells}
use Rattle.kmipa_record.specs.Marks.{mark_of, mark_item}
use Rattle.kmipa_record.specs.MarkReading.{AreRead, FaultBehind, IsRightBehind}
use Rattle.kmipa_record.specs.Reading.{IsReading, Takes}
use Rattle.kmipa_record.specs.Transcripts.{plain_items, plain}
use Rattle.kmipa_record.specs.declared.fault.RecordKind.TheVariants.{Entry}
use Rattle.kmipa_record.proofs.MarkReadingLemmas.{at, mark_fails, other_fails, mark_read, mark_stands}
use Rattle.kmipa_record.proofs.NextLemmas.{takes_as}
use Rattle.kmipa_record.proofs.mark_reading.next_mark.Goals as goal

pub returns-in_err-next-clause-fault : goal.returns-in_err-next-clause-fault
returns-in_err-next-clause-fault g c = λ marks file given is.
    let p = err_from_is_err_and c.from_residual.result c.from_residual.ensures.1 in
    let old = came_of c.args.input.now in let new = came_of c.read_next.new.input in
    let left = appended_bytes old new ++ is.0 in
    let r = at old new (plain_items marks) (taken_of c.args.input.now) c.read_next.ensures.grows given file is.0 is.1 in
    rw (p.1, p.2) (mark_fails file marks (plain_items marks) left (taken_of c.args.input.now) (is_failed c.read_next.new.input) c.in_err-next.field-0.0 (plain refl) r (c.in_err-next.ensures.fault left is.0 refl is.2))

pub returns-in-Other-clause-fault : goal.returns-in-Other-clause-fault
returns-in-Other-clause-fault g c = λ marks file given is.
    let old = came_of c.args.input.now in let new = came_of c.read_next.new.input in
    let left = appended_bytes old new ++ is.0 in
    let r = at old new (plain_items marks) (taken_of c.args.input.now) c.read_next.ensures.grows given file is.0 is.1 in
    let x = rw c.in-Other.is at (c.in_ok-next.ensures.ok left is.0 refl) in
    subst (λ (o : ℕ). Tells (FaultBehind marks) (IsRightBehind marks) file (is_failed c.read_next.new.input) (record { offset = o; kind = Entry })) (sym c.taken-offset.ensures)
    (other_fails file marks x.0 left is.0 (taken_of c.args.input.now) (taken_of c.read_next.new.input) (is_failed c.read_next.new.input) r x.1 x.2)

pub returns-in-Record-clause-given : goal.returns-in-Record-clause-given
returns-in-Record-clause-given g c = λ marks given.
    let old = came_of c.args.input.now in let new = came_of c.read_next.new.input in
    let place = taken_of c.args.input.now in
    let mark = mark_of c.in-Record.mark in
    let taken : (after : List ℕ) → Takes (mark_item mark) (appended_bytes old new ++ after) after place (taken_of c.read_next.new.input) =
    λ after. takes_as (mark_item mark) _ _ _ _ (rw c.in-Record.is at (c.in_ok-next.ensures.ok (appended_bytes old new ++ after) after refl)) in
    let reading : (after : List ℕ) → IsReading (new ++ after) (plain_items marks) (appended_bytes old new ++ after) place =
    λ after. at old new (plain_items marks) place c.read_next.ensures.grows given (new ++ after) after refl in (
      λ after. rw c.taken-offset.ensures (mark_stands new after (appended_bytes old new ++ after) marks mark place (reading after) (taken after)),
      λ after. mark_read (new ++ after) marks mark (appended_bytes old new ++ after) after place (taken_of c.read_next.new.input) (reading after) (taken after),
    )

pub returns-in-Record-clause-nearer : goal.returns-in-Record-clause-nearer
returns-in-Record-clause-nearer g c =
    let x = rw c.in-Record.is at (c.in_ok-next.ensures.ok _ [] refl) in
    omega (arith, x.1.taken, x.1.spelled.all)

pub returns-in-End-clause-given : goal.returns-in-End-clause-given
returns-in-End-clause-given g c = λ marks given.
    let old = came_of c.args.input.now in let new = came_of c.read_next.new.input in
    let all : AreRead (plain_items marks) c.read_next.new.input = λ after.
    let left = appended_bytes old new ++ after in
    let x = rw c.in-End.is at (c.in_ok-next.ensures.ok left after refl) in
    let r = at old new (plain_items marks) (taken_of c.args.input.now) c.read_next.ensures.grows given (new ++ after) after refl in
    subst (λ (l : List ℕ). IsReading (new ++ after) (plain_items marks) l (taken_of c.read_next.new.input)) x.0 (subst (IsReading (new ++ after) (plain_items marks) left) (sym x.1) r) in
    let end = rw c.in-End.is at (c.in_ok-next.ensures.ok _ [] refl) in
    (all, end.2, tt)
