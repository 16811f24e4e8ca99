-- What is told of fields that aren't as wanted.
use Rattle.std.specs.Prelude.{ℕ, ◌==◌, cond, filter_map, option_map, List, Option, Some, None}
use Rattle.kmipa_ttlv.specs.Tree.{Trees}
use Rattle.kmipa_attrs.specs.Fields.{inside}
use Rattle.kmipa_msgs.specs.declared.kind.OutsideKind.{OutsideKind}
use Rattle.kmipa_msgs.specs.Kinds.{kind_number}
use Rattle.kmipa_outside.specs.Demands.{fails_in}
use Rattle.kmipa_outside.specs.declared.demand.Demand.{Demand}
use Rattle.kmipa_outside.specs.declared.told.FieldTold.{FieldTold}
use Rattle.kmipa_outside.specs.declared.told.Stands.{Stands}

-- the children of the header or of the payload with this tag; or those of the message or the item themselves
abbrev pub within_of : Option ℕ → Trees → Trees
within_of None ts = ts
within_of (Some tag) ts = inside tag ts

abbrev pub field_told : Option ℕ → Demand → Stands → FieldTold
field_told within d s = record { within = within; demand = d; stands = s }

-- a demand of this kind that fails there
abbrev pub told_of : OutsideKind → Option ℕ → Trees → Demand → Option FieldTold
told_of k within ts d = cond (kind_number d.kind == kind_number k) (option_map (field_told within d) (fails_in d (within_of within ts))) None

-- all those of a table, in its order
abbrev pub fields_told : OutsideKind → Option ℕ → Trees → List Demand → List FieldTold
fields_told k within ts ds = filter_map (told_of k within ts) ds
