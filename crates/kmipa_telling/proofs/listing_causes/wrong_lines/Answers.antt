use Rattle.std.proofs.Common.{◌∙◌, ◌++◌, ap, string_bytes, take}
use Rattle.std.proofs.lemmas.List.{take_min}
use Rattle.std.proofs.lemmas.Result.{IfOk-weaker}
use Rattle.std.specs.List.{flat_map}
use Rattle.kmipa_telling.specs.ListingCauses.{wrong_line}
use Rattle.kmipa_telling.proofs.listing_causes.wrong_lines.Goals as goal

pub returns : goal.returns
returns c =
    let wrong = c.args.wrong.now in
    let first = ap (λ n. take n wrong) c.min.ensures ∙ take_min 20 wrong in
    IfOk-weaker c.format.result _ _ (λ text e. e ∙ ap (λ t. t ++ string_bytes c.in_ok-more.more) (c.in_ok-told.ensures ∙ ap (flat_map wrong_line) first)
    ∙ ap (λ t. flat_map wrong_line (take 20 wrong) ++ t) c.in_ok-more.ensures) c.format.ensures.ok
