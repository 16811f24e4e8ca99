-- The operations.
use Rattle.std.specs.Prelude.{ℕ, Bool, true, false, ◌==◌, if◌then◌else◌}
use Rattle.kmipa_msgs.specs.declared.operation.Operation.{Operation}
use Rattle.kmipa_msgs.specs.declared.operation.Operation.TheVariants.{Create, Register, Locate, Get, GetAttributes, Activate, Revoke, Destroy, Idle, Other}

-- Operation (KMIP 2.1, section 11)
abbrev pub operation_number : Operation → ℕ
operation_number Create = 1
operation_number Register = 3
operation_number Locate = 8
operation_number Get = 10
operation_number GetAttributes = 11
operation_number Activate = 18
operation_number Revoke = 19
operation_number Destroy = 20
operation_number (Idle n) = n
operation_number (Other n) = n

-- the operation of a number, which each has: Query and Discover Versions have no effect
abbrev pub operation_of : ℕ → Operation
operation_of n =
    if n == 1 then Create
    else if n == 3 then Register
    else if n == 8 then Locate
    else if n == 10 then Get
    else if n == 11 then GetAttributes
    else if n == 18 then Activate
    else if n == 19 then Revoke
    else if n == 20 then Destroy
    else if n == 24 then Idle n
    else if n == 30 then Idle n
    else Other n

-- it is on an object, which its request names, or means by the ID Placeholder
abbrev pub is_on_object : Operation → Bool
is_on_object Get = true
is_on_object GetAttributes = true
is_on_object Activate = true
is_on_object Revoke = true
is_on_object Destroy = true
is_on_object operation = false

-- its payloads are read
abbrev pub is_judged : Operation → Bool
is_judged (Idle n) = false
is_judged (Other n) = false
is_judged _ = true
