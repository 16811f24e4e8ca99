-- The identifier that an item names: an operation on an object has one, or none, and the ID Placeholder is meant then (KMIP 2.1, section 6.1).
use Rattle.std.specs.Prelude.{ℕ, List, Option, None}
use Rattle.kmipa_msgs.specs.Messages.{AskedOf, gets, gets_attributes, activates, revokes, destroys}

-- the identifier that is named; that of a new object isn't, nor those of objects that are to be listed
abbrev pub id_named : AskedOf → Option (List ℕ)
id_named (gets id) = id
id_named (gets_attributes g) = g.id
id_named (activates id) = id
id_named (revokes r) = r.id
id_named (destroys id) = id
id_named asked = None

-- the same ask of another object: an operation on an object names this identifier, or none
abbrev pub asked_naming : Option (List ℕ) → AskedOf → AskedOf
asked_naming id (gets shown) = gets id
asked_naming id (gets_attributes g) = gets_attributes (record g { id = id })
asked_naming id (activates shown) = activates id
asked_naming id (revokes r) = revokes (record r { id = id })
asked_naming id (destroys shown) = destroys id
asked_naming id asked = asked
