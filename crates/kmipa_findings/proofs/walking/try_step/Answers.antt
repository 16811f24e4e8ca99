use Rattle.std.proofs.Common.{Ok, subst}
use Rattle.std.specs.Prelude.{vec_len}
use Rattle.kmipa_trail.specs.declared.fault.Fault.{Fault}
use Rattle.kmipa_findings.specs.Trying.{Advances}
use Rattle.kmipa_findings.specs.declared.trying.Advance.{Advance}
use Rattle.kmipa_findings.specs.declared.trying.Advance.TheVariants.{Taken}
use Rattle.kmipa_findings.proofs.WalkLemmas.{walked_more}
use Rattle.kmipa_findings.proofs.walking.try_step.Goals as goal

pub returns-in_ok-take-in-Taken : goal.returns-in_ok-take-in-Taken
returns-in_ok-take-in-Taken g c =
    let s = g.L.Ledger.state c.args.ledger.now in
    let u = g.L.Ledger.state c.try_over.new.ledger in
    let Q : Advance → Type 0 = λ a. Advances {E = Fault} s (Ok a) u in
    let e : Advances {E = Fault} s (Ok (Taken c.in-Taken.depth)) u = subst Q c.in-Taken.is c.in_ok-depth.ensures.advances in
    walked_more (vec_len c.args.stretch.now.path) c.args.stretch.now.depth (vec_len c.take.new.path) c.in-Taken.depth s u c.requires.walked e.0 e.1 e.2 c.in_ok-take-in-Taken.ensures
