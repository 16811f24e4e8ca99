use Rattle.std.proofs.Common.{◌∙◌, ◌≤◌, ap, map, not, subst, sym, ℕ}
use Rattle.kmipa_aside.specs.Sights.{OwnedOf, is_of, owned_of}
use Rattle.kmipa_aside.proofs.ScanLemmas.{any_here, any_on, any_past, length-map}
use Rattle.kmipa_aside.proofs.SettingLemmas.{mapped_at}
use Rattle.kmipa_aside.proofs.SightLemmas.{any_hidden}
use Rattle.kmipa_aside.proofs.sight.hides_some.Goals as goal

pub returns-then-not-is_of : goal.returns-then-not-is_of
returns-then-not-is_of c =
    let os = map owned_of c.args.sight.owners.now in
    let me = c.args.sight.me.now in
    sym (any_hidden me os ∙ c.loop-owned.invariant ∙ any_here (λ (o : OwnedOf). not (is_of me o)) os c.loop-owned.owned-index _ (mapped_at owned_of c.args.sight.owners.now c.loop-owned.owned-index _ c.loop-owned-test.true) (ap not (sym c.is_of.ensures ∙ c.if-not-is_of.true)))

pub loop-owned-preserved : goal.loop-owned-preserved
loop-owned-preserved c =
    let os = map owned_of c.args.sight.owners.now in
    let me = c.args.sight.me.now in
    c.loop-owned.invariant ∙ any_on (λ (o : OwnedOf). not (is_of me o)) os c.loop-owned.owned-index _ (mapped_at owned_of c.args.sight.owners.now c.loop-owned.owned-index _ c.loop-owned-test.true) (ap not (sym c.is_of.ensures ∙ c.if-not-is_of.false))

pub returns : goal.returns
returns c =
    let os = map owned_of c.args.sight.owners.now in
    let me = c.args.sight.me.now in
    sym (any_hidden me os ∙ c.loop-owned.invariant ∙ any_past (λ (o : OwnedOf). not (is_of me o)) os c.loop-owned.owned-index (subst (λ (n : ℕ). n ≤ c.loop-owned.owned-index) (sym (length-map owned_of c.args.sight.owners.now)) c.loop-owned-test.false))
