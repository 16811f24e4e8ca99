use Rattle.std.proofs.Common.{subst, ℤ}
use Rattle.std.specs.Int.{w64}
use Rattle.std.proofs.lemmas.Int.{to_z-of_z}
use Rattle.kmipa_store.specs.Ledger.{held}
use Rattle.kmipa_aside.specs.Becoming.{Becomes, bodied}
use Rattle.kmipa_aside.proofs.BodyLemmas.{body_at}
use Rattle.kmipa_aside.proofs.setting.leave_body.Goals as goal

pub returns-in-Ok : goal.returns-in-Ok
returns-in-Ok g c =
    let s = g.L.Ledger.state c.args.ledger.now in
    let u = g.L.Ledger.state c.replace.new.self in
    subst (λ (z : ℤ). Becomes (bodied z c.args.place) s u) (to_z-of_z w64 c.args.t c.ranges.t)
    (body_at s c.in-Some.place (held c.at.result.now) c.life_of_body-life.result _ c.at.ensures c.life_of_body-life.ensures.dates c.life_of_body-life.ensures.material u c.args.place c.in-Some.is c.in-Ok.ensures.meaning)
