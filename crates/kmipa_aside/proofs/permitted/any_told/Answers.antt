use Rattle.std.proofs.Common.{◌∙◌, ◌&&◌, ◌≤◌, map, subst, sym, ℕ, List}
use Rattle.kmipa_msgs.specs.Messages.{lent}
use Rattle.kmipa_ops.specs.Locate.{is_listed}
use Rattle.kmipa_aside.specs.Becoming.{stand_in}
use Rattle.kmipa_aside.specs.Sights.{sight_of}
use Rattle.kmipa_aside.specs.Standing.{is_judged}
use Rattle.kmipa_aside.proofs.ScanLemmas.{any_here, any_on, any_past, length-map}
use Rattle.kmipa_aside.proofs.SettingLemmas.{mapped_at}
use Rattle.kmipa_aside.proofs.permitted.any_told.Goals as goal

pub returns-then-is_told_of : goal.returns-then-is_told_of
returns-then-is_told_of g c =
    let ids = map lent c.args.ids.now in
    let hidden = (sight_of c.args.sight).hidden in
    let s = stand_in (g.L.Ledger.state c.args.ledger.now).now in
    sym (c.loop-id.invariant ∙ any_here (λ (id : List ℕ). is_listed hidden id && is_judged s id) ids c.loop-id.id-index _ (mapped_at lent c.args.ids.now c.loop-id.id-index _ c.loop-id-test.true) (sym c.is_told_of.ensures ∙ c.if-is_told_of.true))

pub loop-id-preserved : goal.loop-id-preserved
loop-id-preserved g c =
    let ids = map lent c.args.ids.now in
    let hidden = (sight_of c.args.sight).hidden in
    let s = stand_in (g.L.Ledger.state c.args.ledger.now).now in
    c.loop-id.invariant ∙ any_on (λ (id : List ℕ). is_listed hidden id && is_judged s id) ids c.loop-id.id-index _ (mapped_at lent c.args.ids.now c.loop-id.id-index _ c.loop-id-test.true) (sym c.is_told_of.ensures ∙ c.if-is_told_of.false)

pub returns : goal.returns
returns g c =
    let ids = map lent c.args.ids.now in
    let hidden = (sight_of c.args.sight).hidden in
    let s = stand_in (g.L.Ledger.state c.args.ledger.now).now in
    sym (c.loop-id.invariant ∙ any_past (λ (id : List ℕ). is_listed hidden id && is_judged s id) ids c.loop-id.id-index (subst (λ (n : ℕ). n ≤ c.loop-id.id-index) (sym (length-map lent c.args.ids.now)) c.loop-id-test.false))
