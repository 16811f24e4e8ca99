use Rattle.std.proofs.Common.{◌∙◌, ◌++◌, None, ap, get_or, pos, refl, rules, string_bytes}
use Rattle.kmipa_orders.specs.declared.stuck.NextCall.{NextCall}
use Rattle.kmipa_searches.specs.Deepest.{next_line}
use Rattle.kmipa_telling.proofs.ListLemmas.{one_text_more}
use Rattle.kmipa_searches.proofs.deepest.some_next.Goals as goal

pub next-preserved : goal.next-preserved
next-preserved c =
    let d : NextCall = record { call = pos 0; refused = None } in
    one_text_more next_line c.args.next.now c.next.call-index d (get_or c.args.next.now c.next.call-index d) (string_bytes c.next.text)
    (string_bytes c.in_ok-one.one) (string_bytes c.push_str.new.self) (search rules) refl
    c.next.invariant c.in_ok-one.ensures (c.in_ok-push_str.ensures.bytes ∙ ap (λ t. string_bytes c.next.text ++ t) c.as_str.ensures.value)
