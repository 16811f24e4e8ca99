use Rattle.std.proofs.Common.{◌∙◌, ap, string_bytes, rules, take}
use Rattle.std.proofs.lemmas.List.{take_min}
use Rattle.std.proofs.lemmas.Result.{IfOk-weaker}
use Rattle.std.specs.List.{flat_map}
use Rattle.kmipa_searches.specs.Deepest.{next_line}
use Rattle.kmipa_searches.proofs.DeepestLemmas.{next_told}
use Rattle.kmipa_searches.proofs.deepest.next_lines.Goals as goal

pub returns : goal.returns
returns c =
    let next = c.args.next.now in
    let first = ap (λ n. take n next) c.min.ensures ∙ take_min 20 next in
    IfOk-weaker c.format.result _ _ (λ text e. next_told next (string_bytes c.in_ok-told.told) (string_bytes c.in_ok-more.more) (string_bytes text) (search rules)
    (c.in_ok-told.ensures ∙ ap (flat_map next_line) first) c.in_ok-more.ensures e) c.format.ensures.ok
