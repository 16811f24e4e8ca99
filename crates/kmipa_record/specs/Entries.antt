-- The objects that a declaration says a server held.
use Rattle.std.specs.Prelude.{◌≡◌, ◌<◌, ◌*◌, ◌==◌, ℕ, ℤ, pos, Bool, if◌then◌else◌, List, [], ◌∷◌, length, All, Option, Some, None, IfSome, IsSome, IsTrue, option_map}
use Rattle.std.specs.Global.{Vec}
use Rattle.std.specs.List.{list_any}
use Rattle.std.specs.String.{string_bytes}
use Rattle.kmipa_ttlv.specs.Tree.{Tree, Trees, structure, scalar, none, more, enumeration, text, byte_string}
use Rattle.kmipa_attrs.specs.Attributes.{SaysAttributes}
use Rattle.kmipa_attrs.specs.Fields.{tag_of}
use Rattle.kmipa_attrs.specs.ObjectTypes.{type_number}
use Rattle.kmipa_attrs.specs.Sets.{Attributes, attributes_of}
use Rattle.kmipa_attrs.specs.Tags.{name_tag, cryptographic_algorithm, cryptographic_length, cryptographic_usage_mask, initial_date, activation_date, deactivation_date, destroy_date, compromise_date, unique_identifier, object_type_tag, attributes_tag, key_material}
use Rattle.kmipa_attrs.specs.declared.object_type.ObjectType.{ObjectType}
use Rattle.kmipa_attrs.specs.declared.object_type.ObjectType.TheVariants.{SymmetricKey, SecretData}
use Rattle.kmipa_record.specs.Tags.{entry_tag, owner_tag}
use Rattle.kmipa_record.specs.declared.entry.Entry.{Entry}
use Rattle.kmipa_ttlv.specs.Spelling.{Spells}
use Rattle.kmipa_attrs.specs.Writing.{short_children}

-- an object: its identifier, its type, its attributes, and its bytes and its owner where they are declared
pub record EntryOf : Type 0 where
  pub id : List ℕ
  pub kind : ObjectType
  pub attributes : Attributes
  pub bytes : Option (List ℕ)
  pub owner : Option (List ℕ)

abbrev pub items_of : Vec ℕ → List ℕ
items_of v = v.items

-- the entry that a value of the program is
abbrev pub entry_of : Entry → EntryOf
entry_of e = record { id = string_bytes e.id; kind = e.kind; attributes = attributes_of e.attrs; bytes = option_map items_of e.bytes; owner = option_map string_bytes e.owner }

-- ---- its record

-- the attributes that an entry may have, by their tags
abbrev pub listed_tags : List ℕ
listed_tags =
    name_tag ∷
    cryptographic_algorithm ∷
    cryptographic_length ∷
    cryptographic_usage_mask ∷
    initial_date ∷
    activation_date ∷
    deactivation_date ∷
    destroy_date ∷
    compromise_date ∷
    []

abbrev pub is_listed : Tree → Bool
is_listed t = list_any (λ tag. tag == tag_of t) listed_tags

abbrev pub AreListed : Trees → Type 0
AreListed none = Unit {0}
AreListed (more t ts) = IsTrue (is_listed t) × AreListed ts

-- the children behind the attributes: Key Material, and the owner
abbrev pub material : Option (List ℕ) → Trees → Trees
material None rest = rest
material (Some bytes) rest = more (scalar key_material (byte_string bytes)) rest

abbrev pub ownership : Option (List ℕ) → Trees
ownership None = none
ownership (Some owner) = more (scalar owner_tag (text owner)) none

-- a record of an entry with these attributes: exactly these children, in this order
abbrev pub entry_item : List ℕ → ObjectType → Trees → Option (List ℕ) → Option (List ℕ) → Tree
entry_item id kind attributes bytes owner =
    structure entry_tag (more (scalar unique_identifier (text id)) (more (scalar object_type_tag (enumeration (type_number kind))) (more (structure attributes_tag attributes) (material bytes (ownership owner)))))

-- The item is a record of this entry; its attributes stand in any order, and are only those that an entry may have.
pub record SaysEntry (item : Tree) (e : EntryOf) : Type 0 where
  pub attributes : Trees
  pub is : item ≡ entry_item e.id e.kind attributes e.bytes e.owner
  pub listed : AreListed attributes
  pub said : SaysAttributes attributes e.attributes

-- ---- its bytes

-- the bits of a key with this algorithm and length: those of an AES key (algorithm 3) are laid down by its length
abbrev pub algorithm_bits : Option ℕ → Option ℤ → Option ℤ
algorithm_bits (Some algorithm) (Some bits) = if algorithm == 3 then Some bits else None
algorithm_bits _ _ = None

-- the bits that the bytes of such an object have, where that is laid down
abbrev pub key_bits : ObjectType → Attributes → Option ℤ
key_bits SymmetricKey given = algorithm_bits given.algorithm given.length
key_bits SecretData given = None

-- bits that fill some bytes, and no part of one: a positive multiple of 8
pub record AreWholeBytes (bits : ℤ) : Type 0 where
  pub count : ℕ
  pub some : 0 < count
  pub filled : bits ≡ pos (8 * count)

abbrev pub AreBytes : List ℕ → Type 0
AreBytes = All (λ b. b < 256)

-- What may be declared of an object's bytes. Where it is destroyed: none. Else, where their bits are laid down, these are whole
-- bytes, and declared bytes have that many.
pub record IsDeclarable (e : EntryOf) : Type 0 where
  pub gone : IsSome e.attributes.destroy → e.bytes ≡ None
  pub whole : e.attributes.destroy ≡ None → IfSome (key_bits e.kind e.attributes) AreWholeBytes
  pub fitting : e.attributes.destroy ≡ None → IfSome e.bytes (λ bytes. IfSome (key_bits e.kind e.attributes) (λ bits. bits ≡ pos (8 * length bytes)))
  pub small : IfSome e.bytes AreBytes

-- the record of an entry as it is written: its attributes in the shortest form
abbrev pub written_entry : EntryOf → Tree
written_entry e = entry_item e.id e.kind (short_children e.attributes) e.bytes e.owner

-- no declaration has the entry: it is too long for one item, in its shortest form too
abbrev pub IsTooLong : EntryOf → Type 0
IsTooLong e = (bytes : List ℕ) → ¬ (Spells (written_entry e) bytes)
