use Rattle.std.proofs.Common.{◌≡◌, rules}
use Rattle.kmipa_ttlv.specs.Tree.{structure}
use Rattle.kmipa_ttlv.specs.ItemTree.{tree}
use Rattle.kmipa_attrs.specs.Tags.{attributes_tag}
use Rattle.kmipa_attrs.specs.Sets.{attributes_of}
use Rattle.kmipa_attrs.specs.Writing.{written_children}
use Rattle.kmipa_attrs.proofs.WriteLemmas.{says_once, says_exact}
use Rattle.kmipa_attrs.proofs.writing.write_attrs.Goals as goal

pub returns-clause-once : goal.returns-clause-once
returns-clause-once c =
    let e : tree c.structure.result ≡ structure attributes_tag (written_children (attributes_of c.args.set.now)) = search rules in
    says_once (tree c.structure.result) (attributes_of c.args.set.now) e

pub returns-clause-exact : goal.returns-clause-exact
returns-clause-exact c =
    let e : tree c.structure.result ≡ structure attributes_tag (written_children (attributes_of c.args.set.now)) = search rules in
    says_exact (tree c.structure.result) (attributes_of c.args.set.now) e
