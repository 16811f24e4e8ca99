use Rattle.std.proofs.Common.{refl, arith}
use Rattle.kmipa_store.specs.Ledger.{held}
use Rattle.kmipa_store.proofs.SoundLemmas.{number_below}
use Rattle.kmipa_orders.specs.Ends.{still_of}
use Rattle.kmipa_orders.proofs.StillLemmas.{among_at}
use Rattle.kmipa_orders.proofs.stills.stands_among.Goals as goal

pub stands_at-requires : goal.stands_at-requires
stands_at-requires g c = λ secret is. number_below (g.L.Ledger.state c.args.ledger.now).now c.args.place (held c.at-object.result.now) secret c.requires.sound c.at-object.ensures is

pub returns-then-stands_at : goal.returns-then-stands_at
returns-then-stands_at g c = λ t.
    among_at c.args.front c.args.place c.args.place (still_of c.args.kept.now) (g.L.Ledger.state c.args.ledger.now).now (held c.at-object.result.now) c.at-object.ensures
    (c.stands_at.ensures c.if-stands_at.true) (λ below. refl)

pub stands_at-requires-2 : goal.stands_at-requires-2
stands_at-requires-2 g c = λ secret is. number_below (g.L.Ledger.state c.args.ledger.now).now c.in-Some.other (held c.at-object-2.result.now) secret c.requires.sound c.at-object-2.ensures is

pub returns : goal.returns
returns g c = λ t.
    among_at c.args.front c.args.place c.in-Some.other (still_of c.args.kept.now) (g.L.Ledger.state c.args.ledger.now).now (held c.at-object-2.result.now) c.at-object-2.ensures
    (c.stands_at-2.ensures t) (λ below. absurd (omega (arith, below, c.if-place-front.false)))
