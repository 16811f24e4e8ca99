use Rattle.std.proofs.Common.{◌∙◌, ap, refl, sym, ℕ, List, Option}
use Rattle.kmipa_store.specs.Ledger.{with_aside}
use Rattle.kmipa_msgs.specs.Messages.{maybe_lent}
use Rattle.kmipa_aside.specs.Ever.{taken_in}
use Rattle.kmipa_aside.proofs.PlainLemmas.{not_named}
use Rattle.kmipa_aside.proofs.plain.take_in.Goals as goal

pub returns-then-not-is_aside : goal.returns-then-not-is_aside
returns-then-not-is_aside g c =
    let s = g.L.Ledger.state c.args.ledger.now in
    not_named s s c.in-Some.id.now (sym c.is_aside.ensures ∙ c.if-not-is_aside.true) refl
    ∙ ap (λ (o : Option (List ℕ)). with_aside s (taken_in o s.now.aside)) (sym (ap maybe_lent c.in-Some.is))
