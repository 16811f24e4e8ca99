use Rattle.std.proofs.Common.{◌≤◌, ◌∙◌, length, refl, arith}
use Rattle.kmipa_store.proofs.SoughtLemmas.{touched_all, touched_on}
use Rattle.kmipa_store.proofs.sought.Sought.touch.Goals as goal

pub loop-number-preserved : goal.loop-number-preserved
loop-number-preserved c = touched_on c.args.self.now c.loop-number.self _ c.args.place c.loop-number.number c.loop-number.invariant refl c.in_default.ensures.keys

pub returns : goal.returns
returns c = λ objects others differ knows.
    let old = c.args.self.now in
    let long : length old.wanted.items ≤ c.loop-number.number = let h = c.loop-number-test.false in let e = c.len-number-end.ensures ∙ old.wanted.ok.0 in omega (arith, h, e) in
    touched_all old c.loop-number.self c.args.place c.loop-number.number objects others c.loop-number.invariant long differ knows
