use Rattle.std.proofs.Common.{◌∙◌, ◌++◌, ◌∷◌, List, ap, codes, length, string_bytes, subst, take}
use Rattle.std.specs.Fmt.{decimal}
use Rattle.std.proofs.lemmas.List.{take_min}
use Rattle.std.proofs.lemmas.Result.{IfOk-weaker}
use Rattle.kmipa_explain.specs.declared.held.LeftOutHeld.{LeftOutHeld}
use Rattle.kmipa_telling.specs.ListingCauses.{PrintsLeftOut}
use Rattle.kmipa_telling.specs.Lists.{AreLines}
use Rattle.kmipa_telling.proofs.listing_causes.left_out_lines.Goals as goal

pub returns : goal.returns
returns c =
    let left = c.args.left.now in
    let told = string_bytes c.in_ok-told.told in
    let E : List LeftOutHeld → Type 0 = λ ls. AreLines PrintsLeftOut ls told in
    let first = ap (λ n. take n left) c.min.ensures ∙ take_min 20 left in
    IfOk-weaker c.format.result _ _ (λ text e. (
      told,
      subst E first c.in_ok-told.ensures,
      e ∙ ap (λ t. codes "objects left out: " ++ (decimal (length left) ++ 10 ∷ (told ++ t))) c.in_ok-more.ensures,
    )) c.format.ensures.ok
