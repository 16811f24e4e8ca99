use Rattle.kmipa_aside.specs.Becoming.{NearsAll}
use Rattle.kmipa_aside.proofs.setting.set_all.Given as goal

abbrev pub invariant-loop-place : goal.invariant-loop-place
invariant-loop-place g l = NearsAll l.t l.place l.place-end (g.L.Ledger.state l.initial.ledger) (g.L.Ledger.state l.ledger)
