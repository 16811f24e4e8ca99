use Rattle.std.proofs.Common.{◌∙◌, ap, string_bytes, rules, take}
use Rattle.std.proofs.lemmas.List.{take_min}
use Rattle.std.proofs.lemmas.Result.{IfOk-weaker}
use Rattle.std.specs.List.{flat_map}
use Rattle.kmipa_telling.specs.Phrases.{numbered}
use Rattle.kmipa_telling.proofs.PhraseLemmas.{calls_told}
use Rattle.kmipa_telling.proofs.phrases.calls_text.Goals as goal

pub returns : goal.returns
returns c =
    let numbers = c.args.numbers.now in
    let first = ap (λ n. take n numbers) c.min.ensures ∙ take_min 20 numbers in
    IfOk-weaker c.format.result _ _ (λ text e. calls_told numbers (string_bytes c.in_ok-named.named) (string_bytes c.in_ok-more.more) (string_bytes text) (search rules)
    (c.in_ok-named.ensures ∙ ap (flat_map numbered) first) c.in_ok-more.ensures e) c.format.ensures.ok
