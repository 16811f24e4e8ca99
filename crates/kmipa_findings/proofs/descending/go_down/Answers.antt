use Rattle.std.proofs.Common.{◌≡◌, ◌∷◌, ◌∙◌, [], ℕ, List, length, reverse, sym, ap, subst, arith}
use Rattle.std.specs.Prelude.{Vec, vec_len}
use Rattle.std.specs.declared.alloc.Global.{Global}
use Rattle.kmipa_findings.specs.Exhausting.{StandsAt, taken_in, visits_of}
use Rattle.kmipa_findings.specs.declared.descending.Visit.{Visit}
use Rattle.kmipa_findings.proofs.StandLemmas.{last_first, stands_more}
use Rattle.kmipa_findings.proofs.WalkLemmas.{walked_more}
use Rattle.kmipa_findings.proofs.descending.go_down.Goals as goal

pub returns-clause-descended : goal.returns-clause-descended
returns-clause-descended c = λ s u d t.
    walked_more (vec_len c.args.descent.now.path) c.args.descent.now.depth (vec_len c.push.new.self) c.args.taken.depth s u d t.0 t.1 t.2 (omega (arith, c.in_ok-push.ensures.len))

pub returns-clause-stands : goal.returns-clause-stands
returns-clause-stands c = λ marks declared trials s u h within fresh known marked.
    let d = c.args.descent.now in
    let v : Visit = record { place = c.args.pick.place; turn = c.args.taken.turn; tried = c.args.pick.tried; refuted = c.replace-refuted.result } in
    let visits : reverse c.push.new.self.items ≡ v ∷ visits_of d = ap reverse c.in_ok-push.ensures.items ∙ last_first d.path.items v in
    let none : c.replace-refuted.new.dest.items ≡ [] = ap (λ (xs : Vec ℕ Global). xs.items) c.replace-refuted.ensures.after ∙ c.new.ensures.items in
    let S : List Visit → Type 0 = λ vs. StandsAt marks declared trials vs [] c.take-2.new.self u in
    let R : List ℕ → Type 0 = λ xs. StandsAt marks declared trials (reverse c.push.new.self.items) xs c.take-2.new.self u in
    subst R (sym none)
    (subst S (sym visits)
    (stands_more marks declared trials (visits_of d) d.refuted.items d.board s h v (ap (λ (xs : Vec ℕ Global). xs.items) c.replace-refuted.ensures.value) fresh c.take-2.new.self
    (c.take-2.ensures (length trials) (taken_in d) h.board within) u known marked))
