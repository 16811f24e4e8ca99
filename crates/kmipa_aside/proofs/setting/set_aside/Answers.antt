use Rattle.std.proofs.Common.{subst, ℤ}
use Rattle.std.specs.Int.{w64}
use Rattle.std.proofs.lemmas.Int.{to_z-of_z}
use Rattle.kmipa_aside.specs.Becoming.{Becomes}
use Rattle.kmipa_aside.specs.Worlds.{set_aside}
use Rattle.kmipa_aside.proofs.SettingLemmas.{aside_set}
use Rattle.kmipa_aside.proofs.setting.set_aside.Goals as goal

pub returns-in-Ok : goal.returns-in-Ok
returns-in-Ok g c =
    let s = g.L.Ledger.state c.args.ledger.now in
    let u = g.L.Ledger.state c.set_aside.new.self in
    subst (λ (z : ℤ). Becomes (set_aside z c.args.id.now) s u) (to_z-of_z w64 c.args.t c.ranges.t)
    (aside_set s (g.L.Ledger.state c.leave_body.new.ledger) u _ c.args.id.now c.find-place.result c.find-place.ensures.place c.in_ok-leave_body.ensures c.in-Ok.ensures.meaning)
