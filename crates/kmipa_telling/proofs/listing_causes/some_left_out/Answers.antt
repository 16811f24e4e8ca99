use Rattle.std.proofs.Common.{◌∙◌, ◌++◌, ap, rules, string_bytes}
use Rattle.kmipa_telling.specs.ListingCauses.{PrintsLeftOut}
use Rattle.kmipa_telling.proofs.ListLemmas.{one_line_more}
use Rattle.kmipa_telling.proofs.listing_causes.some_left_out.Goals as goal

pub left-preserved : goal.left-preserved
left-preserved c =
    one_line_more PrintsLeftOut c.args.left.now c.left.held-index c.held-item.result c.held-item.result (string_bytes c.left.text)
    (string_bytes c.in_ok-one.one) (string_bytes c.push_str.new.self) (search rules) c.held-item.is
    c.left.invariant c.in_ok-one.ensures (c.in_ok-push_str.ensures.bytes ∙ ap (λ t. string_bytes c.left.text ++ t) c.as_str.ensures.value)
