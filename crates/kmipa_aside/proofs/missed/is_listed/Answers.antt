use Rattle.std.proofs.Common.{◌∙◌, ◌≤◌, map, subst, sym, ℕ, List, bytes_eq}
use Rattle.kmipa_msgs.specs.Messages.{lent}
use Rattle.kmipa_aside.proofs.ScanLemmas.{any_here, any_on, any_past, length-map}
use Rattle.kmipa_aside.proofs.SettingLemmas.{mapped_at}
use Rattle.kmipa_aside.proofs.missed.is_listed.Goals as goal

pub returns-then-is_same : goal.returns-then-is_same
returns-then-is_same c =
    let ids = map lent c.args.ids.now in
    sym (c.loop-other.invariant ∙ any_here (λ (x : List ℕ). bytes_eq x c.args.id.now) ids c.loop-other.other-index _ (mapped_at lent c.args.ids.now c.loop-other.other-index _ c.loop-other-test.true) (sym c.is_same.ensures ∙ c.if-is_same.true))

pub loop-other-preserved : goal.loop-other-preserved
loop-other-preserved c =
    let ids = map lent c.args.ids.now in
    c.loop-other.invariant ∙ any_on (λ (x : List ℕ). bytes_eq x c.args.id.now) ids c.loop-other.other-index _ (mapped_at lent c.args.ids.now c.loop-other.other-index _ c.loop-other-test.true) (sym c.is_same.ensures ∙ c.if-is_same.false)

pub returns : goal.returns
returns c =
    let ids = map lent c.args.ids.now in
    sym (c.loop-other.invariant ∙ any_past (λ (x : List ℕ). bytes_eq x c.args.id.now) ids c.loop-other.other-index (subst (λ (n : ℕ). n ≤ c.loop-other.other-index) (sym (length-map lent c.args.ids.now)) c.loop-other-test.false))
