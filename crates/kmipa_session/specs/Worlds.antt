-- What a clause reads of a file that was opened by its name.
use Rattle.std.specs.Prelude.{ℕ, List, Option}
use Rattle.kmipa_ttlv.specs.declared.input.Input.{Input}
use Rattle.kmipa_record.specs.declared.torn.Torn.{Torn}
use Rattle.kmipa_session.specs.declared.named.Named.{Named}

-- by which name it was opened
abbrev pub name_of : {R : Type 0} → Named R → List ℕ
name_of file = file.name.now

-- what its reads gave: the bytes that came, whether their end was seen, and whether a read failed
abbrev pub input_of : {R : Type 0} → Named R → Input R
input_of file = file.input

-- where it is torn, if a close was given behind what it has
abbrev pub torn_of : {R : Type 0} → Named R → Option Torn
torn_of file = file.torn
