use Rattle.std.proofs.Common.{subst, ℤ}
use Rattle.std.specs.Int.{w64}
use Rattle.std.proofs.lemmas.Int.{to_z-of_z}
use Rattle.kmipa_passed.specs.Leaving.{aside_of}
use Rattle.kmipa_aside.specs.Taking.{TakenUnread}
use Rattle.kmipa_aside.proofs.TakenLemmas.{took_unread}
use Rattle.kmipa_aside.proofs.taking.take_unread.Goals as goal

pub returns : goal.returns
returns g c =
    let s = g.L.Ledger.state c.args.ledger.now in
    let u = g.L.Ledger.state c.set_left.new.ledger in
    subst (λ (z : ℤ). TakenUnread s z (aside_of c.args.left.now) c.set_left.result u) (to_z-of_z w64 c.args.t c.ranges.t)
    (took_unread _ (aside_of c.args.left.now) s u c.set_left.result c.requires c.set_left.ensures)
