-- Fields that hold a number of a table, and children that may not be there.
use Rattle.std.specs.Prelude.{◌≡◌, ℕ, Option, Some, None, Result, Ok, Err}
use Rattle.kmipa_ttlv.specs.Tree.{Tree, Trees}
use Rattle.kmipa_attrs.specs.Fields.{or_none, as_structure}
use Rattle.kmipa_attrs.specs.Readings.{needed, map_ok}
use Rattle.kmipa_attrs.specs.declared.fields.Field.{Field}
use Rattle.kmipa_attrs.specs.declared.fields.Field.TheVariants.{Absent, Wrong, There}

-- the children of a tree, none where it is no structure
abbrev pub children : Tree → Trees
children t = or_none (as_structure t)

-- the field is there, and its number is that of the value in the table
pub record Listed {A : Type 0} (field : Field ℕ) (table : ℕ → Option A) (x : A) : Type 0 where
  pub number : ℕ
  pub is : field ≡ There number
  pub listed : table number ≡ Some x

-- the field is there, and its number isn't in the table
pub record Unlisted {A : Type 0} (field : Field ℕ) (table : ℕ → Option A) : Type 0 where
  pub number : ℕ
  pub is : field ≡ There number
  pub unlisted : table number ≡ None

-- the same for a field that may be absent
abbrev pub MaybeListed : {A : Type 0} → Field ℕ → (ℕ → Option A) → Option A → Type 0
MaybeListed field table None = field ≡ Absent
MaybeListed field table (Some x) = Listed field table x

abbrev pub IsThere : Option Tree → Type 0
IsThere None = ⊥
IsThere (Some t) = Unit {0}

-- THE READINGS

abbrev pub of_table : {A K : Type 0} → Option A → K → Result A K
of_table None off = Err off
of_table (Some x) off = Ok x

abbrev pub listed : {A K : Type 0} → Field ℕ → (ℕ → Option A) → K → K → Result A K
listed Absent table missing off = Err missing
listed Wrong table missing off = Err missing
listed (There n) table missing off = of_table (table n) off

abbrev pub maybe_listed : {A K : Type 0} → Field ℕ → (ℕ → Option A) → K → K → Result (Option A) K
maybe_listed Absent table wrong off = Ok None
maybe_listed Wrong table wrong off = Err wrong
maybe_listed (There n) table wrong off = map_ok Some (of_table (table n) off)

-- of a field whose value isn't asked for
abbrev pub there : {A K : Type 0} → Field A → K → K → Result (Unit {0}) K
there field absent wrong = map_ok (λ x. tt) (needed field absent wrong)

abbrev pub unless_there : {K : Type 0} → Option Tree → K → Result (Unit {0}) K
unless_there None k = Ok tt
unless_there (Some t) k = Err k

abbrev pub unless_absent : {K : Type 0} → Option Tree → K → Result (Unit {0}) K
unless_absent None k = Err k
unless_absent (Some t) k = Ok tt

abbrev pub known : {A K : Type 0} → Option A → K → Result (Unit {0}) K
known None off = Err off
known (Some x) off = Ok tt

-- of a field whose other types are read over
abbrev pub unless_unlisted : {A K : Type 0} → Field ℕ → (ℕ → Option A) → K → Result (Unit {0}) K
unless_unlisted Absent table off = Ok tt
unless_unlisted Wrong table off = Ok tt
unless_unlisted (There n) table off = known (table n) off

-- of a field that may be absent, whose value isn't asked for
abbrev pub unless_wrong : {A K : Type 0} → Field A → K → Result (Unit {0}) K
unless_wrong Absent k = Ok tt
unless_wrong Wrong k = Err k
unless_wrong (There x) k = Ok tt
