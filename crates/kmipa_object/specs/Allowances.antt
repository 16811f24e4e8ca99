-- Allow lines: what a server's own rules say of an operation in a state, in place of the table (profile); and the numbers that a declaration has
-- for operations, states (KMIP 2.1, section 11) and words of the table.
use Rattle.std.specs.Prelude.{ℕ, Bool, ◌==◌, ◌&&◌, if◌then◌else◌, List, Option, Some, None, find}
use Rattle.kmipa_object.specs.declared.allow.Act.{Act}
use Rattle.kmipa_object.specs.declared.allow.Act.TheVariants.{Get, GetAttributes, Activate, RevokeCompromised, RevokeOther, Destroy}
use Rattle.kmipa_object.specs.declared.allow.Allow.{Allow}
use Rattle.kmipa_object.specs.declared.allow.Allow.TheVariants.{Must, May, Not}
use Rattle.kmipa_object.specs.declared.allow.AllowLine.{AllowLine}
use Rattle.kmipa_object.specs.Table.{allowed}
use Rattle.kmipa_object.specs.Life.{state_number}
use Rattle.kmipa_object.specs.declared.state.State.{State}
use Rattle.kmipa_object.specs.declared.state.State.TheVariants.{PreActive, Active, Deactivated, Compromised, Destroyed, DestroyedCompromised}

abbrev pub act_number : Act → ℕ
act_number Get = 1
act_number GetAttributes = 2
act_number Activate = 3
act_number RevokeCompromised = 4
act_number RevokeOther = 5
act_number Destroy = 6

abbrev pub act_of : ℕ → Option Act
act_of n =
    if n == 1 then Some Get else if n == 2 then Some GetAttributes else if n == 3 then Some Activate else
    if n == 4 then Some RevokeCompromised else if n == 5 then Some RevokeOther else if n == 6 then Some Destroy else
    None

abbrev pub allow_number : Allow → ℕ
allow_number Must = 1
allow_number May = 2
allow_number Not = 3

abbrev pub allow_of : ℕ → Option Allow
allow_of n = if n == 1 then Some Must else if n == 2 then Some May else if n == 3 then Some Not else None

abbrev pub state_numbered : ℕ → Option State
state_numbered n =
    if n == 1 then Some PreActive else if n == 2 then Some Active else if n == 3 then Some Deactivated else
    if n == 4 then Some Compromised else if n == 5 then Some Destroyed else if n == 6 then Some DestroyedCompromised else
    None

-- the line is for this operation in this state
abbrev pub is_line_of : Act → State → AllowLine → Bool
is_line_of act state line = (act_number line.act == act_number act) && (state_number line.state == state_number state)

-- the table's word, and that of the line there is for its cell, if any: no line frees what the table excludes
abbrev pub by_line : Allow → Option AllowLine → Allow
by_line Not line = Not
by_line Must None = Must
by_line May None = May
by_line Must (Some line) = line.allow
by_line May (Some line) = line.allow

-- What a server's rules say of an operation in a state: the word of the first line for that cell, and the table's where there is none. Where
-- the table says Not, they say Not, whatever a line says.
abbrev pub allows : List AllowLine → Act → State → Allow
allows lines act state = by_line (allowed act state) (find (is_line_of act state) lines)
