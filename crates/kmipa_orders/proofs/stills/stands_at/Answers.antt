use Rattle.std.proofs.Common.{◌≡◌, ◌∙◌, true, arith, rules}
use Rattle.kmipa_store.specs.Ledger.{held}
use Rattle.kmipa_orders.specs.Ends.{still_of}
use Rattle.kmipa_orders.specs.Stills.{still}
use Rattle.kmipa_orders.proofs.StillLemmas.{alike_at}
use Rattle.kmipa_orders.proofs.stills.stands_at.Goals as goal

pub returns-then-place-front : goal.returns-then-place-front
returns-then-place-front g c = λ t.
    alike_at c.args.front c.args.place (still_of c.args.kept.now) (still (g.L.Ledger.state c.args.ledger.now).now.secrets (held c.args.object.now)) (c.stands_so.ensures t)

pub returns : goal.returns
returns g c = λ t.
    let same : c.has_same_dates.result ≡ true = search rules in (
      record { dates = c.has_same_dates.ensures same; bytes = c.are_known.ensures t ∙ c.known_of-known.ensures },
      λ past. absurd (omega (arith, past, c.if-place-front.false)),
    )
