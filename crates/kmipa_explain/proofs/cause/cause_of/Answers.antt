use Rattle.std.proofs.Common.{◌≡◌, map, None, refl, sym, subst, arith}
use Rattle.std.proofs.lemmas.List.{length-map}
use Rattle.std.proofs.lemmas.Option.{slice_get_within}
use Rattle.kmipa_record.specs.Declarations.{declaration_of}
use Rattle.kmipa_ops.specs.declared.why.Why.{Why}
use Rattle.kmipa_check.specs.Steps.{StepOf, step_of}
use Rattle.kmipa_check.proofs.PlaceLemmas.{mapped_at}
use Rattle.kmipa_explain.specs.Causes.{AreOperations, IsShape, TellsCause}
use Rattle.kmipa_explain.specs.Explainable.{HasPair}
use Rattle.kmipa_explain.specs.Whence.{TellsSubject}
use Rattle.kmipa_explain.specs.declared.explanation.Cause.TheVariants as told
use Rattle.kmipa_explain.proofs.CauseLemmas.{of_items, other_cause_in, other_subject_in}
use Rattle.kmipa_explain.proofs.cause.cause_of.Goals as goal

pub operations_at-requires : goal.operations_at-requires
operations_at-requires c =
    let s = c.requires.refused.0 in
    let at = c.requires.refused.1.there in
    let there = mapped_at step_of c.args.steps.now c.args.turn c.index-steps-turn-in-OperationDiffers.result (omega (arith, slice_get_within (map step_of c.args.steps.now) c.args.turn s at, length-map c.args.steps.now step_of)) c.index-steps-turn-in-OperationDiffers.is in
    let its : s ≡ step_of c.index-steps-turn-in-OperationDiffers.result = cc in
    let P : StepOf → Type 0 = λ x. HasPair x c.args.item in
    subst P its (c.requires.refused.1.pair c.in-OperationDiffers.is)

pub returns-in_ok-earlier_calls-in-EarlierCallLate-clause-tells : goal.returns-in_ok-earlier_calls-in-EarlierCallLate-clause-tells
returns-in_ok-earlier_calls-in-EarlierCallLate-clause-tells c = λ s at.
    let P : Why → Type 0 = λ w. TellsCause (declaration_of c.args.declaration.now) (map step_of c.args.steps.now) c.args.turn s c.args.item w (told.EarlierCalls c.in_ok-earlier_calls-in-EarlierCallLate.field-0) in
    subst P (sym c.in-EarlierCallLate.is) (c.in_ok-earlier_calls-in-EarlierCallLate.ensures s at)

pub returns-in-StampRunsBack-clause-tells : goal.returns-in-StampRunsBack-clause-tells
returns-in-StampRunsBack-clause-tells c = λ s at.
    let P : Why → Type 0 = λ w. TellsCause (declaration_of c.args.declaration.now) (map step_of c.args.steps.now) c.args.turn s c.args.item w (told.StampBefore c.turn_before.result) in
    subst P (sym c.in-StampRunsBack.is) c.turn_before.ensures

pub returns-in-BatchShape-clause-tells : goal.returns-in-BatchShape-clause-tells
returns-in-BatchShape-clause-tells c = λ s at.
    let there = mapped_at step_of c.args.steps.now c.args.turn c.index-steps-turn.result (omega (arith, slice_get_within (map step_of c.args.steps.now) c.args.turn s at, length-map c.args.steps.now step_of)) c.index-steps-turn.is in
    let its : step_of c.index-steps-turn.result ≡ s = cc in
    let P : Why → Type 0 = λ w. TellsCause (declaration_of c.args.declaration.now) (map step_of c.args.steps.now) c.args.turn s c.args.item w (told.BatchShape c.shape_at.result) in
    let Q : StepOf → Type 0 = λ x. IsShape x c.args.item c.shape_at.result in
    subst P (sym c.in-BatchShape.is) (subst Q its c.shape_at.ensures)

pub returns-in-OperationDiffers-clause-tells : goal.returns-in-OperationDiffers-clause-tells
returns-in-OperationDiffers-clause-tells c = λ s at.
    let there = mapped_at step_of c.args.steps.now c.args.turn c.index-steps-turn-in-OperationDiffers.result (omega (arith, slice_get_within (map step_of c.args.steps.now) c.args.turn s at, length-map c.args.steps.now step_of)) c.index-steps-turn-in-OperationDiffers.is in
    let its : step_of c.index-steps-turn-in-OperationDiffers.result ≡ s = cc in
    let P : Why → Type 0 = λ w. TellsCause (declaration_of c.args.declaration.now) (map step_of c.args.steps.now) c.args.turn s c.args.item w (told.Operations c.operations_at.result) in
    let Q : StepOf → Type 0 = λ x. AreOperations x c.args.item c.operations_at.result in
    subst P (sym c.in-OperationDiffers.is) (subst Q its c.operations_at.ensures)

pub held_cause-requires-clause-refused : goal.held_cause-requires-clause-refused
held_cause-requires-clause-refused c =
    let r = c.requires.refused in
    (r.0, r.1.refused_item (of_items c.args.why c.in_default.not-EarlierCallLate c.in_default.not-StampRunsBack c.in_default.not-BatchShape))

pub returns-in_default-clause-tells : goal.returns-in_default-clause-tells
returns-in_default-clause-tells c = λ s at.
    other_cause_in (declaration_of c.args.declaration.now) (map step_of c.args.steps.now) c.args.turn s c.args.item c.args.why c.held_cause.result
    (of_items c.args.why c.in_default.not-EarlierCallLate c.in_default.not-StampRunsBack c.in_default.not-BatchShape) c.in_default.not-OperationDiffers (c.held_cause.ensures.tells s at)

pub returns-in_ok-earlier_calls-in-EarlierCallLate-clause-subject : goal.returns-in_ok-earlier_calls-in-EarlierCallLate-clause-subject
returns-in_ok-earlier_calls-in-EarlierCallLate-clause-subject c = λ s at.
    let P : Why → Type 0 = λ w. TellsSubject (declaration_of c.args.declaration.now) (map step_of c.args.steps.now) c.args.turn s c.args.item w (told.EarlierCalls c.in_ok-earlier_calls-in-EarlierCallLate.field-0) None in
    subst P (sym c.in-EarlierCallLate.is) refl

pub returns-in-StampRunsBack-clause-subject : goal.returns-in-StampRunsBack-clause-subject
returns-in-StampRunsBack-clause-subject c = λ s at.
    let P : Why → Type 0 = λ w. TellsSubject (declaration_of c.args.declaration.now) (map step_of c.args.steps.now) c.args.turn s c.args.item w (told.StampBefore c.turn_before.result) None in
    subst P (sym c.in-StampRunsBack.is) refl

pub returns-in-BatchShape-clause-subject : goal.returns-in-BatchShape-clause-subject
returns-in-BatchShape-clause-subject c = λ s at.
    let P : Why → Type 0 = λ w. TellsSubject (declaration_of c.args.declaration.now) (map step_of c.args.steps.now) c.args.turn s c.args.item w (told.BatchShape c.shape_at.result) None in
    subst P (sym c.in-BatchShape.is) refl

pub returns-in-OperationDiffers-clause-subject : goal.returns-in-OperationDiffers-clause-subject
returns-in-OperationDiffers-clause-subject c = λ s at.
    let P : Why → Type 0 = λ w. TellsSubject (declaration_of c.args.declaration.now) (map step_of c.args.steps.now) c.args.turn s c.args.item w (told.Operations c.operations_at.result) None in
    subst P (sym c.in-OperationDiffers.is) refl

pub returns-in_default-clause-subject : goal.returns-in_default-clause-subject
returns-in_default-clause-subject c = λ s at.
    other_subject_in (declaration_of c.args.declaration.now) (map step_of c.args.steps.now) c.args.turn s c.args.item c.args.why c.held_cause.result
    (of_items c.args.why c.in_default.not-EarlierCallLate c.in_default.not-StampRunsBack c.in_default.not-BatchShape) c.in_default.not-OperationDiffers (c.held_cause.ensures.subject s at)
