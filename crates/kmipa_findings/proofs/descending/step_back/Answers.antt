use Rattle.std.proofs.Common.{◌≡◌, ◌∷◌, ◌∙◌, List, reverse, sym, ap, subst}
use Rattle.std.specs.Prelude.{vec_len}
use Rattle.kmipa_findings.specs.Exhausting.{IsDead, StandsAt, places_of, steps_along, visits_of}
use Rattle.kmipa_findings.specs.declared.descending.Visit.{Visit}
use Rattle.kmipa_findings.proofs.StandLemmas.{dead_end, last_first, stands_less}
use Rattle.kmipa_findings.proofs.WalkLemmas.{walked_less}
use Rattle.kmipa_findings.proofs.descending.step_back.Goals as goal

pub returns-clause-descended : goal.returns-clause-descended
returns-clause-descended g c =
    walked_less (vec_len c.args.descent.now.path) c.args.descent.now.depth (vec_len c.pop.new.self) (g.L.Ledger.state c.args.ledger.now) (g.L.Ledger.state c.back.new.self)
    c.requires (sym c.in-Some.ensures.cases) c.back.ensures.meaning

pub returns-clause-stands : goal.returns-clause-stands
returns-clause-stands g c = λ marks declared trials h e stands.
    let d = c.args.descent.now in
    let s = g.L.Ledger.state c.args.ledger.now in
    let u = g.L.Ledger.state c.back.new.self in
    let v : Visit = c.in-Some.visit in
    let earlier : List Visit = reverse c.pop.new.self.items in
    let visits : visits_of d ≡ v ∷ earlier = ap reverse c.in-Some.ensures.items ∙ last_first c.pop.new.self.items v in
    let S : List Visit → Type 0 = λ vs. StandsAt marks declared trials vs d.refuted.items d.board s in
    let D : List Visit → Type 0 = λ vs. IsDead marks declared (steps_along trials (places_of vs)) in
    stands_less marks declared trials v earlier d.refuted.items d.board s (subst S visits stands) (subst D visits (dead_end marks declared trials d s h stands e)) c.give_back-2.new.self
    (λ count taken board fresh. c.give_back-2.ensures count taken board fresh) u c.back.ensures.meaning c.push.new.self.items c.in_ok-push.ensures.items
