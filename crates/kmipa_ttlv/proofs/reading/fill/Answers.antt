use Rattle.std.proofs.Common.{rules}
use Rattle.kmipa_ttlv.specs.Input.{came_of}
use Rattle.kmipa_ttlv.proofs.FillLemmas.{filled_more}
use Rattle.kmipa_ttlv.proofs.reading.fill.Goals as goal

pub reads-preserved : goal.reads-preserved
reads-preserved g c =
    let came = filled_more (came_of c.args.input.now) (came_of c.reads.input) (came_of c.read_some.new.self) c.reads.buf c.read_some.new.buf c.reads.got _ c.in_ok-n.n
    (search rules) (search rules) (search rules) (search rules) in
    (search rules, search rules, search rules, search rules, search rules, came, search rules)
