use Rattle.std.proofs.Common.{◌∙◌, sym, subst, ℤ}
use Rattle.std.specs.Int.{w64}
use Rattle.std.proofs.lemmas.Int.{to_z-of_z}
use Rattle.kmipa_aside.specs.Becoming.{Turns}
use Rattle.kmipa_aside.specs.Worlds.{set_stranger_aside}
use Rattle.kmipa_aside.proofs.SettingLemmas.{stranger_judged, stranger_turns}
use Rattle.kmipa_aside.proofs.setting.set_stranger.Goals as goal

pub returns-then-is_judged : goal.returns-then-is_judged
returns-then-is_judged g c = stranger_judged (g.L.Ledger.state c.args.ledger.now) c.args.t c.args.id.now (sym c.is_judged.ensures ∙ c.if-is_judged.true)

pub returns : goal.returns
returns g c =
    let s = g.L.Ledger.state c.args.ledger.now in
    let u = g.L.Ledger.state c.set_aside.new.ledger in
    subst (λ (z : ℤ). Turns (set_stranger_aside z c.args.id.now) s c.set_aside.result u) (to_z-of_z w64 c.args.t c.ranges.t)
    (stranger_turns s u _ c.args.id.now c.set_aside.result (sym c.is_judged.ensures ∙ c.if-is_judged.false) c.set_aside.ensures)
