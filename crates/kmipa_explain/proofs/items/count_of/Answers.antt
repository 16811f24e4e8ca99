use Rattle.std.proofs.Common.{rules, ◌≡◌, ◌∙◌, None, length, map, sym, ap, arith}
use Rattle.std.specs.Vec.{vec_len}
use Rattle.std.proofs.lemmas.List.{length-map}
use Rattle.kmipa_msgs.specs.Messages.{RequestOf, ask_of, maybe_lent}
use Rattle.kmipa_check.specs.Steps.{step_of}
use Rattle.kmipa_explain.proofs.ItemLemmas.{count_by_place}
use Rattle.kmipa_explain.proofs.items.count_of.Goals as goal

pub returns-in-None : goal.returns-in-None
returns-in-None c =
    let items = c.request.result.now.items in
    let long : length items.items ≡ vec_len items = search rules in
    let none : (step_of c.args.step.now).places ≡ None = sym c.places.ensures ∙ ap maybe_lent c.in-None.is in
    let whole : c.len.result ≡ length (map ask_of items.items) = omega (arith, c.len.ensures, long, length-map items.items ask_of) in
    whole ∙ ap (λ (r : RequestOf). length r.items) c.request.ensures ∙ count_by_place (step_of c.args.step.now).places (length (step_of c.args.step.now).request.items) none
