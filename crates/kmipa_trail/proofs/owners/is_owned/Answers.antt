use Rattle.std.proofs.Common.{◌∙◌, ◌≤◌, map, subst, sym, ℕ, List, bytes_eq}
use Rattle.kmipa_aside.specs.Sights.{OwnedOf, owned_of}
use Rattle.kmipa_aside.proofs.ScanLemmas.{any_here, any_on, any_past, length-map}
use Rattle.kmipa_aside.proofs.SettingLemmas.{mapped_at}
use Rattle.kmipa_trail.proofs.owners.is_owned.Goals as goal

pub returns-then-is_of : goal.returns-then-is_of
returns-then-is_of c =
    let ids = map owned_of c.args.owners.now in
    sym (c.loop-owned.invariant ∙ any_here (λ (o : OwnedOf). bytes_eq c.args.id.now o.id) ids c.loop-owned.owned-index _ (mapped_at owned_of c.args.owners.now c.loop-owned.owned-index _ c.loop-owned-test.true) (sym c.is_of.ensures ∙ c.if-is_of.true))

pub loop-owned-preserved : goal.loop-owned-preserved
loop-owned-preserved c =
    let ids = map owned_of c.args.owners.now in
    c.loop-owned.invariant ∙ any_on (λ (o : OwnedOf). bytes_eq c.args.id.now o.id) ids c.loop-owned.owned-index _ (mapped_at owned_of c.args.owners.now c.loop-owned.owned-index _ c.loop-owned-test.true) (sym c.is_of.ensures ∙ c.if-is_of.false)

pub returns : goal.returns
returns c =
    let ids = map owned_of c.args.owners.now in
    sym (c.loop-owned.invariant ∙ any_past (λ (o : OwnedOf). bytes_eq c.args.id.now o.id) ids c.loop-owned.owned-index (subst (λ (n : ℕ). n ≤ c.loop-owned.owned-index) (sym (length-map owned_of c.args.owners.now)) c.loop-owned-test.false))
