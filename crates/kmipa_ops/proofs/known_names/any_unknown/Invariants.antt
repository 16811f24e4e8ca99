use Rattle.std.proofs.Common.{◌≡◌, drop, not}
use Rattle.std.specs.List.{list_any}
use Rattle.kmipa_attrs.specs.Sets.{name_of}
use Rattle.kmipa_attrs.specs.declared.name.Name.{Name}
use Rattle.kmipa_ops.specs.KnownNames.{is_in}
use Rattle.kmipa_ops.proofs.known_names.any_unknown.Given as goal

abbrev pub invariant-loop-name : goal.invariant-loop-name
invariant-loop-name l = list_any (λ (n : Name). not (is_in l.set (name_of n))) l.names ≡ list_any (λ (n : Name). not (is_in l.set (name_of n))) (drop l.name-index l.names)
