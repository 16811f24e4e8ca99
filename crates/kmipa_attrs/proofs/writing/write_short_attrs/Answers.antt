use Rattle.std.proofs.Common.{◌≡◌, rules}
use Rattle.kmipa_ttlv.specs.Tree.{structure}
use Rattle.kmipa_ttlv.specs.ItemTree.{tree}
use Rattle.kmipa_attrs.specs.Tags.{attributes_tag}
use Rattle.kmipa_attrs.specs.Sets.{attributes_of}
use Rattle.kmipa_attrs.specs.Writing.{short_children}
use Rattle.kmipa_attrs.proofs.ShortLemmas.{short_shortest}
use Rattle.kmipa_attrs.proofs.WriteLemmas.{short_exact}
use Rattle.kmipa_attrs.proofs.writing.write_short_attrs.Goals as goal

pub returns-clause-exact : goal.returns-clause-exact
returns-clause-exact c =
    let e : tree c.structure.result ≡ structure attributes_tag (short_children (attributes_of c.args.set.now)) = search rules in
    short_exact (tree c.structure.result) (attributes_of c.args.set.now) e

pub returns-clause-shortest : goal.returns-clause-shortest
returns-clause-shortest c =
    let e : tree c.structure.result ≡ structure attributes_tag (short_children (attributes_of c.args.set.now)) = search rules in
    short_shortest (tree c.structure.result) (attributes_of c.args.set.now) e
