-- A Locate's filter: what its Attributes ask of an object, and what its other items do (KMIP 2.1, section 6.1, Locate; which filters are judged is profile).
use Rattle.std.specs.Prelude.{◌≡◌, ◌≤◌, ℕ, ℤ, pos, int_lt, nat_lt, Bool, true, false, ◌==◌, ◌||◌, not, cond, slice_get, map, length, List, Option, Some, None, Result, Ok, Err}
use Rattle.kmipa_ttlv.specs.Tree.{Tree, Trees, structure, scalar, none, more}
use Rattle.kmipa_attrs.specs.Tags.{activation_date, compromise_date, cryptographic_algorithm, cryptographic_length, cryptographic_usage_mask, deactivation_date, destroy_date, initial_date, name_tag, object_type_tag, state_tag}
use Rattle.kmipa_attrs.specs.Sets.{NameOf, names_of}
use Rattle.kmipa_attrs.specs.Names.{as_name}
use Rattle.kmipa_attrs.specs.Fields.{tag_of, every, at, value_in, as_integer, as_enumeration, as_date}
use Rattle.kmipa_attrs.specs.Readings.{Says, Lowest, both, map_ok}
use Rattle.kmipa_attrs.specs.Attributes.{attr_number, each, SaysNames, SomeWrong, TypeFault, Gives, single, names_in}
use Rattle.kmipa_attrs.specs.declared.fault.AttrFault.{AttrFault}
use Rattle.kmipa_attrs.specs.declared.fault.AttrFault.TheVariants.{WrongType, Repeated, NotForClients, Memory}
use Rattle.kmipa_attrs.specs.declared.filter.Filter.{Filter}

-- what a Locate asks for: names that must all be there, a value of each other kind, how many objects at most; `is_loose`: not all that it asks is judged,
-- so that an object that fits may be left out
pub record FilterOf : Type 0 where
  pub names : List NameOf
  pub object_type : Option ℕ
  pub state : Option ℕ
  pub algorithm : Option ℕ
  pub length : Option ℤ
  pub maximum : Option ℤ
  pub is_loose : Bool

-- what the program's filter means
abbrev pub filter_of : Filter → FilterOf
filter_of f = record {
  names = names_of f.names;
  object_type = f.object_type;
  state = f.state;
  algorithm = f.algorithm;
  length = f.length;
  maximum = f.maximum;
  is_loose = f.is_loose;
}

-- the first child with the tag is the filter, and every one is of its type
abbrev pub SaysFirst : {A : Type 0} → List (Option A) → Option A → Type 0
SaysFirst {A} held first = (said : List A) × ((held ≡ map Some said) × (first ≡ slice_get said 0))

-- each child with the tag is of its type
abbrev pub AreTyped : {A : Type 0} → List (Option A) → Type 0
AreTyped held = SomeWrong held → ⊥

-- the filters that are judged
abbrev pub is_judged : ℕ → Bool
is_judged tag = (tag == name_tag) || (tag == object_type_tag) || (tag == state_tag) || (tag == cryptographic_algorithm) || (tag == cryptographic_length)

abbrev pub is_other : ℕ → Bool
is_other tag = not (is_judged tag)

-- there is a filter of another kind
unfoldable pub has_other : Trees → Bool
has_other none = false
has_other (more t ts) = is_other (tag_of t) || has_other ts

abbrev pub is_repeated : ℕ → Trees → Bool
is_repeated tag ts = nat_lt 1 (length (every tag ts))

-- there is a second filter of a kind that has one value
abbrev pub has_second : Trees → Bool
has_second ts = is_repeated object_type_tag ts || is_repeated state_tag ts || is_repeated cryptographic_algorithm ts || is_repeated cryptographic_length ts

abbrev pub is_below_one : Option ℤ → Bool
is_below_one None = false
is_below_one (Some most) = int_lt most (pos 1)

-- a Maximum Items below 1 is none
abbrev pub maximum_of : Option ℤ → Option ℤ
maximum_of most = cond (is_below_one most) None most

-- not all is judged: a filter, the Maximum Items, or an item of the payload that no Locate has
abbrev pub is_loose : Trees → Option ℤ → Bool → Bool
is_loose ts most is_unknown = (is_unknown || is_below_one most || has_other ts) || has_second ts

-- the same in words: what a filter asks that isn't judged
pub data IsLoose (ts : Trees) (most : Option ℤ) (is_unknown : Bool) : Type 0 where
  by_item : is_unknown ≡ true → IsLoose ts most is_unknown
  by_maximum : is_below_one most ≡ true → IsLoose ts most is_unknown
  by_other : (tag : ℕ) → is_judged tag ≡ false → 1 ≤ length (every tag ts) → IsLoose ts most is_unknown
  by_second_type : 2 ≤ length (every object_type_tag ts) → IsLoose ts most is_unknown
  by_second_state : 2 ≤ length (every state_tag ts) → IsLoose ts most is_unknown
  by_second_algorithm : 2 ≤ length (every cryptographic_algorithm ts) → IsLoose ts most is_unknown
  by_second_length : 2 ≤ length (every cryptographic_length ts) → IsLoose ts most is_unknown

-- THE DEFINITIONS: what the children of Attributes, the Maximum Items, and whether there is an unknown item say together
pub record SaysFilter (ts : Trees) (most : Option ℤ) (is_unknown : Bool) (q : FilterOf) : Type 0 where
  pub names : SaysNames (each as_name name_tag ts) q.names
  pub object_type : SaysFirst (each as_enumeration object_type_tag ts) q.object_type
  pub state : SaysFirst (each as_enumeration state_tag ts) q.state
  pub algorithm : SaysFirst (each as_enumeration cryptographic_algorithm ts) q.algorithm
  pub length : SaysFirst (each as_integer cryptographic_length ts) q.length
  pub mask : AreTyped (each as_integer cryptographic_usage_mask ts)
  pub initial : AreTyped (each as_date initial_date ts)
  pub activation : AreTyped (each as_date activation_date ts)
  pub deactivation : AreTyped (each as_date deactivation_date ts)
  pub destroy : AreTyped (each as_date destroy_date ts)
  pub compromise : AreTyped (each as_date compromise_date ts)
  pub maximum : q.maximum ≡ maximum_of most
  pub loose : q.is_loose ≡ is_loose ts most is_unknown

-- judged attributes are of their types, also where they are no judged filters; nothing else is wrong with a filter
pub data FilterFault (ts : Trees) (reported : AttrFault) : Type 0 where
  in_names : TypeFault (each as_name name_tag ts) reported → FilterFault ts reported
  in_object_type : TypeFault (each as_enumeration object_type_tag ts) reported → FilterFault ts reported
  in_state : TypeFault (each as_enumeration state_tag ts) reported → FilterFault ts reported
  in_algorithm : TypeFault (each as_enumeration cryptographic_algorithm ts) reported → FilterFault ts reported
  in_length : TypeFault (each as_integer cryptographic_length ts) reported → FilterFault ts reported
  in_mask : TypeFault (each as_integer cryptographic_usage_mask ts) reported → FilterFault ts reported
  in_initial : TypeFault (each as_date initial_date ts) reported → FilterFault ts reported
  in_activation : TypeFault (each as_date activation_date ts) reported → FilterFault ts reported
  in_deactivation : TypeFault (each as_date deactivation_date ts) reported → FilterFault ts reported
  in_destroy : TypeFault (each as_date destroy_date ts) reported → FilterFault ts reported
  in_compromise : TypeFault (each as_date compromise_date ts) reported → FilterFault ts reported

-- absent Attributes ask for nothing; an item that is no structure says nothing
abbrev pub SaysWanted : Option Tree → Option ℤ → Bool → FilterOf → Type 0
SaysWanted None most is_unknown q = SaysFilter none most is_unknown q
SaysWanted (Some (structure n ts)) most is_unknown q = SaysFilter ts most is_unknown q
SaysWanted (Some (scalar n s)) most is_unknown q = ⊥

abbrev pub WantedFault : Option Tree → AttrFault → Type 0
WantedFault None fault = ⊥
WantedFault (Some (structure n ts)) fault = FilterFault ts fault
WantedFault (Some (scalar n s)) fault = fault ≡ WrongType

-- what the program reads: the filter that is said, else the lowest fault; where memory ran out nothing is claimed
abbrev pub ReadsFilter : Option Tree → Option ℤ → Bool → Result Filter AttrFault → Type 0
ReadsFilter item most is_unknown (Ok f) = Says (SaysWanted item most is_unknown) (WantedFault item) (filter_of f)
ReadsFilter item most is_unknown (Err WrongType) = Lowest attr_number (WantedFault item) WrongType
ReadsFilter item most is_unknown (Err Repeated) = Lowest attr_number (WantedFault item) Repeated
ReadsFilter item most is_unknown (Err NotForClients) = Lowest attr_number (WantedFault item) NotForClients
ReadsFilter item most is_unknown (Err Memory) = Unit {0}

abbrev pub GivesFilter : Result Filter AttrFault → Result FilterOf AttrFault → Type 0
GivesFilter result read = Gives filter_of result read

-- the readings: the first value under a tag, and whether there is a second
abbrev pub kept_first : {A : Type 0} → Result (Option A) AttrFault → Option A → Result (Option A × Bool) AttrFault
kept_first (Ok x) first = Ok (x, false)
kept_first (Err WrongType) first = Err WrongType
kept_first (Err Repeated) first = Ok (first, true)
kept_first (Err NotForClients) first = Err NotForClients
kept_first (Err Memory) first = Err Memory

unfoldable pub first_of : {A : Type 0} → (Tree → Option A) → ℕ → Trees → Result (Option A × Bool) AttrFault
first_of how tag ts = kept_first (single how tag ts) (value_in (at how tag ts))

-- of what isn't judged the types alone
unfoldable pub types_of : {A : Type 0} → (Tree → Option A) → ℕ → Trees → Result (Unit {0}) AttrFault
types_of how tag ts = map_ok (λ p. tt) (first_of how tag ts)

abbrev pub Judged : Type 0
Judged = ((Option ℕ × Bool) × (Option ℕ × Bool)) × ((Option ℕ × Bool) × (Option ℤ × Bool))

abbrev pub judged_in : Trees → Result Judged AttrFault
judged_in ts =
    both attr_number
    (both attr_number (first_of as_enumeration object_type_tag ts) (first_of as_enumeration state_tag ts))
    (both attr_number (first_of as_enumeration cryptographic_algorithm ts) (first_of as_integer cryptographic_length ts))

abbrev pub Types : Type 0
Types = (Unit {0} × Unit {0}) × ((Unit {0} × Unit {0}) × (Unit {0} × Unit {0}))

abbrev pub types_in : Trees → Result Types AttrFault
types_in ts =
    both attr_number
    (both attr_number (types_of as_integer cryptographic_usage_mask ts) (types_of as_date initial_date ts))
    (both attr_number
    (both attr_number (types_of as_date activation_date ts) (types_of as_date deactivation_date ts))
    (both attr_number (types_of as_date destroy_date ts) (types_of as_date compromise_date ts)))

abbrev pub filter_rows : Trees → Result (List NameOf × (Judged × Types)) AttrFault
filter_rows ts = both attr_number (names_in ts) (both attr_number (judged_in ts) (types_in ts))

-- some kind has a second filter
abbrev pub some_second : Judged → Bool
some_second p = p.0.0.1 || p.0.1.1 || p.1.0.1 || p.1.1.1

-- not all is judged, whatever is there twice
abbrev pub is_loosened : Option ℤ → Bool → Trees → Bool
is_loosened most is_unknown ts = is_unknown || is_below_one most || has_other ts

abbrev pub filter_at : Option ℤ → Bool → List NameOf × (Judged × Types) → FilterOf
filter_at most loosened p = record {
  names = p.0;
  object_type = p.1.0.0.0.0;
  state = p.1.0.0.1.0;
  algorithm = p.1.0.1.0.0;
  length = p.1.0.1.1.0;
  maximum = maximum_of most;
  is_loose = loosened || some_second p.1.0;
}

unfoldable pub filter_in : Option ℤ → Bool → Trees → Result FilterOf AttrFault
filter_in most is_unknown ts = map_ok (filter_at most (is_loosened most is_unknown ts)) (filter_rows ts)
