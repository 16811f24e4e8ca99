use Rattle.std.proofs.Common.{◌++◌, ◌∙◌, List, [], ◌∷◌, length, map, ap, arith}
use Rattle.std.proofs.lemmas.List.{map-append}
use Rattle.kmipa_msgs.specs.Messages.{AskOf, ask_of}
use Rattle.kmipa_parts.proofs.MakingLemmas.{append_assoc, append_long}
use Rattle.kmipa_parts.proofs.call.with_idle.Goals as goal

pub more-preserved : goal.more-preserved
more-preserved c =
    let one = ask_of c.idle_ask.result ∷ [] in
    let rest = c.more.invariant.0 in
    let long = ap length c.in_ok-push.ensures.items ∙ append_long c.more.all.items (c.idle_ask.result ∷ []) in (
      rest ++ one,
      ap (map ask_of) c.in_ok-push.ensures.items ∙ map-append ask_of c.more.all.items (c.idle_ask.result ∷ [])
          ∙ ap (λ (xs : List AskOf). xs ++ one) c.more.invariant.1 ∙ append_assoc (map ask_of c.args.asks.items) rest one,
      λ few. omega (arith, long, c.more-test.true, c.len.ensures),
    )
