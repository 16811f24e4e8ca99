use Rattle.std.proofs.Common.{sym, subst, ◌∙◌, ℕ, map, refl, arith, []}
use Rattle.std.proofs.lemmas.Result.{err_from_is_err_and}
use Rattle.kmipa_ttlv.specs.Input.{came_of, taken_of, is_failed}
use Rattle.kmipa_record.specs.Files.{Tells}
use Rattle.kmipa_record.specs.Witnesses.{turn_of, turn_item}
use Rattle.kmipa_record.specs.Witnesses.{WitnessFault, IsWitnessUpTo}
use Rattle.kmipa_record.specs.declared.fault.RecordKind.TheVariants.{Entry}
use Rattle.kmipa_record.proofs.NextLemmas.{takes_as}
use Rattle.kmipa_record.proofs.WitnessLemmas.{read_fails, no_turn_reported, refused_reported, turn_taken}
use Rattle.kmipa_record.proofs.PlaceLemmas.{whole_taken, refused_turn_place}
use Rattle.kmipa_record.proofs.witness.read_turn.Goals as goal

pub returns-in_err-next-clause-fault : goal.returns-in_err-next-clause-fault
returns-in_err-next-clause-fault g c = λ file left after split end s.
    let p = err_from_is_err_and c.from_residual.result c.from_residual.ensures.1 in
    rw (p.1, p.2) (read_fails file c.args.version (map turn_of c.args.turns.now.items) left (taken_of c.args.input.now) (is_failed c.read_next.new.input)
    c.in_err-next.field-0.0 s (c.in_err-next.ensures.fault left after split end))

pub returns-in-Other-clause-fault : goal.returns-in-Other-clause-fault
returns-in-Other-clause-fault g c = λ file left after split end s.
    let x = rw c.in-Other.is at (c.in_ok-next.ensures.ok left after split) in
    subst (λ (o : ℕ). Tells WitnessFault IsWitnessUpTo file (is_failed c.read_next.new.input) (record { offset = o; kind = Entry })) (sym c.taken-offset.ensures)
    (no_turn_reported file c.args.version (map turn_of c.args.turns.now.items) x.0 left after
    (taken_of c.args.input.now) (taken_of c.read_next.new.input) (is_failed c.read_next.new.input) s x.1 x.2)

pub returns-in_err-keep_turn-in-Record-clause-fault : goal.returns-in_err-keep_turn-in-Record-clause-fault
returns-in_err-keep_turn-in-Record-clause-fault g c = λ file left after split end s.
    let p = err_from_is_err_and c.from_residual-in_err-keep_turn-in-Record.result c.from_residual-in_err-keep_turn-in-Record.ensures.1 in
    let x = rw c.in-Record.is at (c.in_ok-next.ensures.ok left after split) in
    let t = takes_as (turn_item (turn_of c.in-Record.turn)) _ _ _ _ (x.0, x.1, x.2.0) in
    let e = c.in_err-keep_turn-in-Record.ensures in
    rw (p.1, p.2) (refused_reported file c.args.version (map turn_of c.args.turns.now.items) (turn_of c.in-Record.turn) left after
    (taken_of c.args.input.now) (taken_of c.read_next.new.input) (is_failed c.read_next.new.input) c.in_err-keep_turn-in-Record.field-0.0 s t (e.0 ∙ c.taken-offset.ensures) e.1)

pub returns-in_ok-keep_turn-in-Record-clause-read : goal.returns-in_ok-keep_turn-in-Record-clause-read
returns-in_ok-keep_turn-in-Record-clause-read g c = λ file left after split s.
    let x = rw c.in-Record.is at (c.in_ok-next.ensures.ok left after split) in
    let t = takes_as (turn_item (turn_of c.in-Record.turn)) _ _ _ _ (x.0, x.1, x.2.0) in
    let e = c.in_ok-keep_turn-in-Record.ensures in
    turn_taken file c.args.version c.args.turns.now.items c.keep_turn.new.turns.items c.in-Record.turn left after
    (taken_of c.args.input.now) (taken_of c.read_next.new.input) e.2 t e.0 e.1 s

pub returns-in-End-clause-read : goal.returns-in-End-clause-read
returns-in-End-clause-read g c = λ file left after split s.
    let x = rw c.in-End.is at (c.in_ok-next.ensures.ok left after split) in
    rw (sym x.0, x.1) s

pub returns-in-End-clause-end : goal.returns-in-End-clause-end
returns-in-End-clause-end g c = λ _. (rw c.in-End.is at (c.in_ok-next.ensures.ok _ [] refl)).2

pub returns-in_ok-keep_turn-in-Record-clause-nearer : goal.returns-in_ok-keep_turn-in-Record-clause-nearer
returns-in_ok-keep_turn-in-Record-clause-nearer g c = λ _.
    let x = rw c.in-Record.is at (c.in_ok-next.ensures.ok _ [] refl) in
    omega (arith, x.1.taken, x.1.spelled.all)

pub keep_turn-requires : goal.keep_turn-requires
keep_turn-requires g c = let s = (rw c.in-Record.is at (c.in_ok-next.ensures.ok _ [] refl)).2 in (s.1, s.2)

pub returns-in_err-keep_turn-in-Record-clause-place : goal.returns-in_err-keep_turn-in-Record-clause-place
returns-in_err-keep_turn-in-Record-clause-place g c =
    let p = err_from_is_err_and c.from_residual-in_err-keep_turn-in-Record.result c.from_residual-in_err-keep_turn-in-Record.ensures.1 in
    let x = rw c.in-Record.is at (c.in_ok-next.ensures.ok _ [] refl) in
    let e = c.in_err-keep_turn-in-Record.ensures in
    let f = c.in_err-keep_turn-in-Record.field-0.0 in
    let one = whole_taken x.0 (came_of c.args.input.now) (came_of c.read_next.new.input) _ _ f.offset x.1 (e.0 ∙ c.taken-offset.ensures) in
    rw (p.1, p.2) (refused_turn_place c.args.version (turn_of c.in-Record.turn) (came_of c.read_next.new.input) f one e.1)
