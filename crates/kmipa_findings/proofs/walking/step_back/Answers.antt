use Rattle.std.proofs.Common.{sym}
use Rattle.std.specs.Prelude.{vec_len}
use Rattle.kmipa_findings.proofs.WalkLemmas.{walked_less}
use Rattle.kmipa_findings.proofs.walking.step_back.Goals as goal

pub returns : goal.returns
returns g c =
    walked_less (vec_len c.args.stretch.now.path) c.args.stretch.now.depth (vec_len c.pop.new.self) (g.L.Ledger.state c.args.ledger.now) (g.L.Ledger.state c.back.new.self)
    c.requires (sym c.in-Some.ensures.cases) c.back.ensures.meaning
