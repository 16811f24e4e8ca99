use Rattle.std.proofs.Common.{◌∙◌, ap, map, sym}
use Rattle.std.specs.Int.{w64}
use Rattle.std.proofs.lemmas.Int.{to_z-of_z}
use Rattle.kmipa_attrs.specs.Filters.{filter_of}
use Rattle.kmipa_msgs.specs.Messages.{lent}
use Rattle.kmipa_store.specs.Ledger.{cards_of}
use Rattle.kmipa_aside.proofs.MissedLemmas.{none_missed_at, one_missed_at}
use Rattle.kmipa_aside.proofs.missed.push_missed.Goals as goal

pub returns-then-not-is_missed : goal.returns-then-not-is_missed
returns-then-not-is_missed g c =
    none_missed_at (cards_of (g.L.Ledger.state c.args.ledger.now).now.objects) _ c.args.t (to_z-of_z w64 c.args.t c.ranges.t) (filter_of c.args.filter.now) (map lent c.args.listed.now)
    (map lent c.args.missed.now.items) c.args.id.now (sym c.is_missed.ensures ∙ c.if-not-is_missed.true)

pub returns : goal.returns
returns g c =
    ap (map lent) c.in_ok-push.ensures.items
    ∙ one_missed_at (cards_of (g.L.Ledger.state c.args.ledger.now).now.objects) _ c.args.t (to_z-of_z w64 c.args.t c.ranges.t) (filter_of c.args.filter.now) (map lent c.args.listed.now)
    c.args.missed.now.items c.args.id (sym c.is_missed.ensures ∙ c.if-not-is_missed.false)
