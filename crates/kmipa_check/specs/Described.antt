-- Which inventories a declaration describes, and what it sets aside.
use Rattle.std.specs.Prelude.{◌≡◌, ℕ, Bool, true, false, List, [], ◌∷◌, Some}
use Rattle.std.specs.List.{AllZip}
use Rattle.kmipa_attrs.specs.Sets.{Attributes}
use Rattle.kmipa_object.specs.Life.{Dates}
use Rattle.kmipa_object.specs.Inventory.{Card, Thing, given_of, IsInventory}
use Rattle.kmipa_store.specs.Aside.{AsideOf, Entry, said_aside}
use Rattle.kmipa_msgs.specs.declared.rules.Unjudged.{Unjudged}
use Rattle.kmipa_msgs.specs.declared.rules.Unjudged.TheVariants.{Refused, SetAside, Unknown}
use Rattle.kmipa_record.specs.Entries.{EntryOf}
use Rattle.kmipa_record.specs.Declarations.{DeclarationOf}

abbrev pub dates_in : Attributes → Dates
dates_in a = record {
  initial = a.initial;
  activation = a.activation;
  deactivation = a.deactivation;
  destroy = a.destroy;
  compromise = a.compromise;
}

-- the object of an entry, but for its bytes
abbrev pub card_declared : EntryOf → Card
card_declared e = record { id = e.id; kind = e.kind; given = given_of e.attributes; dates = dates_in e.attributes }

-- the object is the one declared: identifier, type, names, algorithm, length, mask and dates are its own, and declared bytes are its bytes
pub record IsDescribed (e : EntryOf) (thing : Thing) : Type 0 where
  pub card : thing.card ≡ card_declared e
  pub bytes : (declared : List ℕ) → e.bytes ≡ Some declared → thing.bytes ≡ Some declared

-- The inventory has exactly the declared objects, in the order of the entries. Bytes that are not declared are any that an inventory may
-- have: admitted ones where the object is live, none where it is destroyed.
pub record Describes (declared : DeclarationOf) (things : List Thing) : Type 0 where
  pub inventory : IsInventory things
  pub objects : AllZip IsDescribed declared.entries things

-- these identifiers are set aside, one after the other
abbrev pub each_aside : List (List ℕ) → List Entry → List Entry
each_aside [] es = es
each_aside (id ∷ ids) es = each_aside ids (said_aside es id)

-- nothing is known of identifiers that aren't declared
abbrev pub is_rest_unknown : Unjudged → Bool
is_rest_unknown Unknown = true
is_rest_unknown Refused = false
is_rest_unknown SetAside = false

-- what is set aside at the start
abbrev pub aside_declared : DeclarationOf → AsideOf
aside_declared declared = record { ids = each_aside declared.asides []; rest = is_rest_unknown declared.settings.unjudged; over = false }
