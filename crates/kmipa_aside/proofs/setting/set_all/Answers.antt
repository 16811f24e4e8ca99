use Rattle.std.proofs.Common.{◌∙◌, subst, ℤ}
use Rattle.std.specs.Int.{w64}
use Rattle.std.proofs.lemmas.Int.{to_z-of_z}
use Rattle.kmipa_store.specs.Ledger.{held}
use Rattle.kmipa_aside.specs.Becoming.{Becomes}
use Rattle.kmipa_aside.specs.Worlds.{set_all_aside}
use Rattle.kmipa_aside.proofs.SettingLemmas.{all_done, all_start, all_step, all_within}
use Rattle.kmipa_aside.proofs.setting.set_all.Goals as goal

pub loop-place-init : goal.loop-place-init
loop-place-init g c = all_start (g.L.Ledger.state c.args.ledger.now) _ c.len-place-end.result c.len-place-end.ensures

pub at-requires : goal.at-requires
at-requires g c =
    all_within (g.L.Ledger.state c.args.ledger.now) (g.L.Ledger.state c.loop-place.ledger) _ c.loop-place.place c.len-place-end.result c.loop-place-test.true c.loop-place.invariant

pub loop-place-preserved : goal.loop-place-preserved
loop-place-preserved g c =
    all_step (g.L.Ledger.state c.args.ledger.now) (g.L.Ledger.state c.loop-place.ledger) (g.L.Ledger.state c.set_aside.new.ledger) _ c.loop-place.place c.len-place-end.result
    (held c.at.result.now) _ c.at.ensures (c.as_str-in-loop-place.ensures.value ∙ c.in_ok-id.ensures.ok ∙ c.as_str.ensures.value) c.loop-place.invariant c.in_ok-set_aside.ensures

pub returns : goal.returns
returns g c =
    let s = g.L.Ledger.state c.args.ledger.now in
    let v = g.L.Ledger.state c.set_rest_aside.new.self in
    subst (λ (z : ℤ). Becomes (set_all_aside z) s v) (to_z-of_z w64 c.args.t c.ranges.t)
    (all_done s (g.L.Ledger.state c.loop-place.ledger) v _ c.loop-place.place c.len-place-end.result c.loop-place-test.false c.loop-place.invariant c.set_rest_aside.ensures.meaning)
