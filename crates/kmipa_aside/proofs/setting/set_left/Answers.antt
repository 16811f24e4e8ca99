use Rattle.std.proofs.Common.{subst, ℤ}
use Rattle.std.specs.Int.{w64}
use Rattle.std.proofs.lemmas.Int.{to_z-of_z}
use Rattle.kmipa_passed.specs.Leaving.{aside_of}
use Rattle.kmipa_aside.specs.Becoming.{Turns}
use Rattle.kmipa_aside.specs.Worlds.{with_left}
use Rattle.kmipa_aside.proofs.SettingLemmas.{left_strangers, left_these}
use Rattle.kmipa_aside.proofs.setting.set_left.Goals as goal

pub returns-in-These : goal.returns-in-These
returns-in-These g c =
    let s = g.L.Ledger.state c.args.ledger.now in
    let u = g.L.Ledger.state c.set_each.new.ledger in
    subst (λ (z : ℤ). Turns (with_left z (aside_of c.args.left.now)) s c.set_each.result u) (to_z-of_z w64 c.args.t c.ranges.t)
    (left_these s u _ c.args.left.now c.in-These.ids c.deref.result.now c.set_each.result c.in-These.is c.deref.ensures.value c.set_each.ensures)

pub returns-in-Strangers : goal.returns-in-Strangers
returns-in-Strangers g c =
    let s = g.L.Ledger.state c.args.ledger.now in
    let u = g.L.Ledger.state c.set_strangers.new.ledger in
    subst (λ (z : ℤ). Turns (with_left z (aside_of c.args.left.now)) s c.set_strangers.result u) (to_z-of_z w64 c.args.t c.ranges.t)
    (left_strangers s u _ c.args.left.now c.in-Strangers.ids c.deref-in-Strangers.result.now c.set_strangers.result c.in-Strangers.is c.deref-in-Strangers.ensures.value c.set_strangers.ensures)
