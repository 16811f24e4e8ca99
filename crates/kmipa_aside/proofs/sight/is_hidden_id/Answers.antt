use Rattle.std.proofs.Common.{◌∙◌, ◌≤◌, ◌∷◌, [], map, subst, sym, ℕ}
use Rattle.kmipa_ops.specs.Locate.{is_listed}
use Rattle.kmipa_aside.specs.Sights.{OwnedOf, hidden_from, owned_of}
use Rattle.kmipa_aside.proofs.ScanLemmas.{any_here, any_on, any_past, length-map}
use Rattle.kmipa_aside.proofs.SettingLemmas.{mapped_at}
use Rattle.kmipa_aside.proofs.SightLemmas.{listed_hidden}
use Rattle.kmipa_aside.proofs.sight.is_hidden_id.Goals as goal

pub returns-then-hides : goal.returns-then-hides
returns-then-hides c =
    let os = map owned_of c.args.sight.owners.now in
    let me = c.args.sight.me.now in
    sym (listed_hidden me c.args.id.now os ∙ c.loop-owned.invariant ∙ any_here (λ (o : OwnedOf). is_listed (hidden_from me (o ∷ [])) c.args.id.now) os c.loop-owned.owned-index _ (mapped_at owned_of c.args.sight.owners.now c.loop-owned.owned-index _ c.loop-owned-test.true) (sym c.hides.ensures ∙ c.if-hides.true))

pub loop-owned-preserved : goal.loop-owned-preserved
loop-owned-preserved c =
    let os = map owned_of c.args.sight.owners.now in
    let me = c.args.sight.me.now in
    c.loop-owned.invariant ∙ any_on (λ (o : OwnedOf). is_listed (hidden_from me (o ∷ [])) c.args.id.now) os c.loop-owned.owned-index _ (mapped_at owned_of c.args.sight.owners.now c.loop-owned.owned-index _ c.loop-owned-test.true) (sym c.hides.ensures ∙ c.if-hides.false)

pub returns : goal.returns
returns c =
    let os = map owned_of c.args.sight.owners.now in
    let me = c.args.sight.me.now in
    sym (listed_hidden me c.args.id.now os ∙ c.loop-owned.invariant ∙ any_past (λ (o : OwnedOf). is_listed (hidden_from me (o ∷ [])) c.args.id.now) os c.loop-owned.owned-index (subst (λ (n : ℕ). n ≤ c.loop-owned.owned-index) (sym (length-map owned_of c.args.sight.owners.now)) c.loop-owned-test.false))
