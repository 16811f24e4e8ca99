-- A set of attributes, without where it lies in memory.
use Rattle.std.specs.Prelude.{ℕ, ℤ, List, [], map, Option, None}
use Rattle.std.specs.String.{string_bytes}
use Rattle.smallvec.specs.SmallVec.{SmallVec}
use Rattle.kmipa_attrs.specs.declared.name.Name.{Name}
use Rattle.kmipa_attrs.specs.declared.attr_set.AttrSet.{AttrSet}

-- a name: its value's bytes and its type
pub record NameOf : Type 0 where
  pub value : List ℕ
  pub kind : ℕ

-- the judged attributes: names, each once, in the order of first appearance, and at most one of each other kind
pub record Attributes : Type 0 where
  pub names : List NameOf
  pub object_type : Option ℕ
  pub algorithm : Option ℕ
  pub length : Option ℤ
  pub mask : Option ℤ
  pub state : Option ℕ
  pub initial : Option ℤ
  pub activation : Option ℤ
  pub deactivation : Option ℤ
  pub destroy : Option ℤ
  pub compromise : Option ℤ

abbrev pub name_of : Name → NameOf
name_of n = record { value = string_bytes n.value; kind = n.kind }

abbrev pub names_of : SmallVec Name → List NameOf
names_of names = map name_of names.items

-- what the program's set means
abbrev pub attributes_of : AttrSet → Attributes
attributes_of s = record {
  names = names_of s.names;
  object_type = s.object_type;
  algorithm = s.algorithm;
  length = s.length;
  mask = s.mask;
  state = s.state;
  initial = s.initial;
  activation = s.activation;
  deactivation = s.deactivation;
  destroy = s.destroy;
  compromise = s.compromise;
}

-- the set that says nothing
abbrev pub no_attributes : Attributes
no_attributes = record {
  names = [];
  object_type = None;
  algorithm = None;
  length = None;
  mask = None;
  state = None;
  initial = None;
  activation = None;
  deactivation = None;
  destroy = None;
  compromise = None;
}
