use Rattle.std.proofs.Common.{rules, ◌++◌, subst, List, ℕ, sym, ap, ◌∙◌}
use Rattle.kmipa_ttlv.specs.Input.{came_of, taken_of, is_ended, is_failed}
use Rattle.kmipa_ttlv.proofs.ReadLemmas.{since}
use Rattle.kmipa_record.specs.Reading.{TellsFlawOf, ReadFails}
use Rattle.kmipa_record.proofs.NextLemmas.{read_fails, whole_fails}
use Rattle.kmipa_record.specs.Files.{TellsItem}
use Rattle.kmipa_record.proofs.PlaceLemmas.{stopped_inside, refused_whole}
use Rattle.kmipa_record.proofs.record.read_next.Goals as goal

pub returns-in-Err-clause-fault : goal.returns-in-Err-clause-fault
returns-in-Err-clause-fault g c = λ left after split end.
    let new = c.read_bytes.new.input in
    subst (ReadFails (taken_of c.args.input.now) left (is_failed new)) (sym c.fault_of.ensures)
    (read_fails (taken_of c.args.input.now) _ after left (is_ended new) (is_failed new) c.in-Err.fault split end c.in-Err.ensures.fault)

pub returns-in-Err-view_of-clause-fault : goal.returns-in-Err-view_of-clause-fault
returns-in-Err-view_of-clause-fault g c = λ left after split end.
    let bytes = c.read_bytes.new.bytes.items in
    let f = c.in-Err-view_of.fault in
    let here = since (came_of c.args.input.now) (came_of c.read_bytes.new.input) bytes c.in-Ok-true.ensures.came in
    let whole = c.in-Ok-true.ensures.whole (search rules) in
    let fails : TellsFlawOf c.taken-offset.result bytes f = subst (λ (l : List ℕ). TellsFlawOf c.taken-offset.result l f) c.deref.ensures.value c.in-Err-view_of.ensures in
    let placed : TellsFlawOf (taken_of c.args.input.now) bytes f = subst (λ (n : ℕ). TellsFlawOf n bytes f) c.taken-offset.ensures fails in
    whole_fails left after bytes (taken_of c.args.input.now) (is_failed c.read_bytes.new.input) f (split ∙ ap (λ (l : List ℕ). l ++ after) here) whole placed

pub returns-in-Err-clause-place : goal.returns-in-Err-clause-place
returns-in-Err-clause-place g c =
    let new = c.read_bytes.new.input in
    subst (TellsItem (came_of new)) (sym c.fault_of.ensures) (stopped_inside c.in-Err.fault (came_of c.args.input.now) (came_of new) (is_ended new) (is_failed new) c.in-Err.ensures.fault c.in-Err.ensures.inside)

pub returns-in-Err-view_of-clause-place : goal.returns-in-Err-view_of-clause-place
returns-in-Err-view_of-clause-place g c =
    refused_whole c.in-Err-view_of.fault c.taken-offset.result _ (came_of c.read_bytes.new.input) c.in-Err-view_of.ensures
