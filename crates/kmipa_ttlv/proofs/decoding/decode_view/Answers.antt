use Rattle.std.proofs.lemmas.Result.{MatchResult-weaker}
use Rattle.kmipa_ttlv.specs.ViewTree.{view_tree}
use Rattle.kmipa_ttlv.proofs.FlawLemmas.{spells_front, front_spells, only_front, front_unflawed}
use Rattle.kmipa_ttlv.proofs.decoding.decode_view.Goals as goal

pub returns-clause-found : goal.returns-clause-found
returns-clause-found c =
    MatchResult-weaker c.read_outermost.result c.read_outermost.ensures (λ x f. (f.whole, spells_front (view_tree x.0) x.1 c.args.bytes.now f)) (λ e h. tt)

pub returns-clause-only : goal.returns-clause-only
returns-clause-only c = λ t n le s.
    let g = front_spells t n c.args.bytes.now le s in
    MatchResult-weaker c.read_outermost.result c.read_outermost.ensures (λ x f. only_front t (view_tree x.0) x.1 n c.args.bytes.now f g) (λ e h. front_unflawed t n c.args.bytes.now e.offset e.kind g h)
