-- What a server's rules say of an operation on an object, by the object's state: the table, and the lines that it declares (profile).
use Rattle.std.specs.Prelude.{ℤ}
use Rattle.kmipa_object.specs.Allowances.{allows}
use Rattle.kmipa_object.specs.Inventory.{Card}
use Rattle.kmipa_object.specs.Life.{state}
use Rattle.kmipa_object.specs.declared.allow.Act.{Act}
use Rattle.kmipa_object.specs.declared.allow.Allow.{Allow}
use Rattle.kmipa_msgs.specs.Messages.{RulesOf}

-- the word for the operation in the state that the object is in at the moment
abbrev pub allowance : RulesOf → Act → ℤ → Card → Allow
allowance rules act t c = allows rules.allow_lines act (state c.dates t)
