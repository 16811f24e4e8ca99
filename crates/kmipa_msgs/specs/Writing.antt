-- What a clause reads of the fields that are written.
use Rattle.kmipa_ttlv.specs.Tree.{Trees}
use Rattle.kmipa_ttlv.specs.ItemTree.{trees}
use Rattle.kmipa_msgs.specs.declared.writing.fields.Fields.{Fields}

abbrev pub fields_of : Fields → Trees
fields_of f = trees f.children.items
