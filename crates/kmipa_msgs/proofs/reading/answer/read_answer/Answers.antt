use Rattle.std.proofs.Common.{◌∙◌, ap, refl, rules, sym}
use Rattle.std.proofs.lemmas.Result.{err_from_is_err_and}
use Rattle.std.specs.Option.{option_map}
use Rattle.kmipa_ttlv.specs.ViewTree.{view_tree, view_trees}
use Rattle.kmipa_attrs.specs.Fields.{at, value_in, as_bytes, as_enumeration}
use Rattle.kmipa_attrs.specs.Tags.{operation_tag, result_reason, unique_batch_item_id}
use Rattle.kmipa_msgs.specs.declared.kind.OutsideKind.TheVariants.{Missing}
use Rattle.kmipa_msgs.specs.Kinds.{kind_number}
use Rattle.kmipa_msgs.specs.Messages.{ask_of, answer_of}
use Rattle.kmipa_msgs.specs.Replies.{own, outcome_in, outcome_of, answer_in}
use Rattle.kmipa_msgs.proofs.ViewLemmas.{joined, optional_row}
use Rattle.kmipa_msgs.proofs.ReplyLemmas.{no_answer, answer_view, seen_answer}
use Rattle.kmipa_msgs.proofs.YieldsLemmas.{kind_left, yields_both, yields_err}
use Rattle.kmipa_msgs.proofs.reading.answer.read_answer.Goals as goal

pub returns-in_err-children : goal.returns-in_err-children
returns-in_err-children c =
    let t = view_tree c.args.view.now in
    let none = sym (ap (option_map view_trees) c.in_err-children.ensures.ok_part) ∙ c.as_structure.ensures in
    let kind = kind_left c.as_structure.result Missing c.in_err-children.field-0.0 c.in_err-children.ensures.value in
    let p = err_from_is_err_and c.from_residual.result c.from_residual.ensures.1 in
    rw (p.1, p.2, kind) (no_answer (option_map (λ a. ask_of a.now) c.args.ask) t none)

pub returns-in_err-operation : goal.returns-in_err-operation
returns-in_err-operation c =
    let a = option_map (λ a. ask_of a.now) c.args.ask in
    let t = view_tree c.args.view.now in
    let ts = view_trees c.in_ok-children.children in
    let batch = value_in (at as_bytes unique_batch_item_id ts) in
    let named = optional_row c.enumeration_at-named.result (at as_enumeration operation_tag ts) Missing c.optional-operation.result c.optional-operation.ensures c.enumeration_at-named.ensures in
    let reason = optional_row c.enumeration_at.result (at as_enumeration result_reason ts) Missing c.optional-reason.result c.optional-reason.ensures c.enumeration_at.ensures in
    let plain = joined kind_number _ _ c.both.result _ _ c.both.ensures named reason in
    let there = sym (ap (option_map view_trees) c.in_ok-children.ensures.ok_part) ∙ c.as_structure.ensures in
    let read =
    yields_both outcome_of (answer_view batch) c.both.result c.read_outcome-outcome.result c.both_read.result (outcome_in c.own_operation-own.result ts) (answer_in a t) c.both_read.ensures c.read_outcome-outcome.ensures
    (λ outcome g rows e. seen_answer a t ts batch c.both.result outcome rows there refl e plain (g ∙ ap (λ o. outcome_in o ts) (c.own_operation-own.ensures ∙ ap (own a) c.enumeration_at-named.ensures))) in
    yields_err (answer_view batch) answer_of c.both_read.result c.in_err-operation.field-0.0 c.from_residual-in_err-operation.result (answer_in a t) read c.in_err-operation.was (search rules)
