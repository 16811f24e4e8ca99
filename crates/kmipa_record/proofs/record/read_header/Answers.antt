use Rattle.std.proofs.Common.{inl, inr}
use Rattle.std.proofs.lemmas.Result.{err_from_is_err_and}
use Rattle.kmipa_ttlv.specs.Input.{taken_of}
use Rattle.kmipa_record.specs.Reading.{torn}
use Rattle.kmipa_record.proofs.KindLemmas.{ByCause-map}
use Rattle.kmipa_record.proofs.NextLemmas.{no_header_left, other_header}
use Rattle.kmipa_record.proofs.record.read_header.Goals as goal

pub returns-in_err-header-clause-fault : goal.returns-in_err-header-clause-fault
returns-in_err-header-clause-fault g c = λ left after split end.
    let p = err_from_is_err_and c.from_residual.result c.from_residual.ensures.1 in
    rw (p.1, p.2) (ByCause-map c.in_err-header.field-0.0.kind _ _ _ _ _ _ (λ d. d) (λ m. m) (λ t. torn t) (c.in_err-header.ensures.fault left after split end))

pub returns-in-Record-clause-ok : goal.returns-in-Record-clause-ok
returns-in-Record-clause-ok g c = λ left after split. rw c.in-Record.is at (c.in_ok-header.ensures.ok left after split)

pub returns-in-End-clause-fault : goal.returns-in-End-clause-fault
returns-in-End-clause-fault g c = λ left after split end.
    elim c.in-End.is [
      | inl e ↦
          let x = rw e at (c.in_ok-header.ensures.ok left after split) in
          rw c.taken-offset.ensures (no_header_left g.H.Record.is_record (taken_of c.args.input.now) left after x.0 (end x.2))
      | inr e ↦
          let x = rw e at (c.in_ok-header.ensures.ok left after split) in
          rw c.taken-offset.ensures (other_header g.H.Record.is_record x.0 (taken_of c.args.input.now) (taken_of c.read_next.new.input) left after x.1 x.2)
    ]

pub returns-in_err-header-clause-place : goal.returns-in_err-header-clause-place
returns-in_err-header-clause-place g c =
    let p = err_from_is_err_and c.from_residual.result c.from_residual.ensures.1 in
    rw (p.1, p.2) c.in_err-header.ensures.place
