use Rattle.std.proofs.Common.{◌∙◌, ◌≤◌, map, subst, sym, ℕ}
use Rattle.kmipa_msgs.specs.Messages.{lent}
use Rattle.kmipa_aside.specs.Becoming.{stand_in}
use Rattle.kmipa_aside.specs.Standing.{is_aside}
use Rattle.kmipa_aside.proofs.ScanLemmas.{any_here, any_on, any_past, length-map}
use Rattle.kmipa_aside.proofs.SettingLemmas.{mapped_at}
use Rattle.kmipa_aside.proofs.lists.any_aside.Goals as goal

pub returns-then-is_aside : goal.returns-then-is_aside
returns-then-is_aside g c =
    let ids = map lent c.args.ids.now in
    let p = is_aside (stand_in (g.L.Ledger.state c.args.ledger.now).now) in
    sym (c.loop-id.invariant ∙ any_here p ids c.loop-id.id-index _ (mapped_at lent c.args.ids.now c.loop-id.id-index _ c.loop-id-test.true) (sym c.is_aside.ensures ∙ c.if-is_aside.true))

pub loop-id-preserved : goal.loop-id-preserved
loop-id-preserved g c =
    let ids = map lent c.args.ids.now in
    let p = is_aside (stand_in (g.L.Ledger.state c.args.ledger.now).now) in
    c.loop-id.invariant ∙ any_on p ids c.loop-id.id-index _ (mapped_at lent c.args.ids.now c.loop-id.id-index _ c.loop-id-test.true) (sym c.is_aside.ensures ∙ c.if-is_aside.false)

pub returns : goal.returns
returns g c =
    let ids = map lent c.args.ids.now in
    let p = is_aside (stand_in (g.L.Ledger.state c.args.ledger.now).now) in
    sym (c.loop-id.invariant ∙ any_past p ids c.loop-id.id-index (subst (λ (n : ℕ). n ≤ c.loop-id.id-index) (sym (length-map lent c.args.ids.now)) c.loop-id-test.false))
