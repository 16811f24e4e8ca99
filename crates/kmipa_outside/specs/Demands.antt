-- What the profile wants of fields: where a field stands, and what stands there instead.
use Rattle.std.specs.Prelude.{◌≡◌, ℕ, ◌+◌, ℤ, Bool, true, not, ◌==◌, nat_lt, cond, is_some, List, [], ◌∷◌, length, Option, Some, None, option_to_list}
use Rattle.std.specs.Ordering.{int_eq}
use Rattle.kmipa_ttlv.specs.Tree.{Tree, Trees, scalar, every}
use Rattle.kmipa_ttlv.specs.Tree
use Rattle.kmipa_attrs.specs.Fields.{inside}
use Rattle.kmipa_attrs.specs.Names.{as_name}
use Rattle.kmipa_attrs.specs.ObjectTypes.{type_of}
use Rattle.kmipa_attrs.specs.Tags.{attributes_tag, key_value, protocol_version, revocation_reason}
use Rattle.kmipa_msgs.specs.declared.kind.OutsideKind.{OutsideKind}
use Rattle.kmipa_msgs.specs.Creates.{created_of}
use Rattle.kmipa_msgs.specs.Headers.{counts}
use Rattle.kmipa_msgs.specs.Numbers.{format_of, option_of}
use Rattle.kmipa_msgs.specs.Objects.{object_in, block_inside}
use Rattle.kmipa_outside.specs.ItemTypes.{item_type, is_of}
use Rattle.kmipa_outside.specs.declared.demand.Demand.{Demand}
use Rattle.kmipa_outside.specs.declared.demand.Inside.{Inside}
use Rattle.kmipa_outside.specs.declared.demand.Inside.TheVariants.{Here, Version, Attributes, Revocation, Block, Value}
use Rattle.kmipa_outside.specs.declared.demand.Numbers.{Numbers}
use Rattle.kmipa_outside.specs.declared.demand.Numbers.TheVariants.{ObjectTypes, CreatedType, KeyFormats, BatchOptions, Statuses, Failure}
use Rattle.kmipa_outside.specs.declared.demand.Step.{Step}
use Rattle.kmipa_outside.specs.declared.demand.Step.TheVariants.{Tag, Object}
use Rattle.kmipa_outside.specs.declared.demand.Wanted.{Wanted}
use Rattle.kmipa_outside.specs.declared.demand.Wanted.TheVariants as wanted
use Rattle.kmipa_outside.specs.declared.types.ItemType.{ItemType}
use Rattle.kmipa_outside.specs.declared.told.Stands.{Stands}
use Rattle.kmipa_outside.specs.declared.told.Stands.TheVariants as stands

abbrev pub wants : Inside → Step → Wanted → OutsideKind → Demand
wants i field w k = record { inside = i; field = field; wanted = w; kind = k }

-- WHERE A FIELD STANDS

-- the children of the structure that a field stands in, from those of the header, the item or the payload
abbrev pub inward : Inside → Trees → Trees
inward Here ts = ts
inward Version ts = inside protocol_version ts
inward Attributes ts = inside attributes_tag ts
inward Revocation ts = inside revocation_reason ts
inward Block ts = block_inside ts
inward Value ts = inside key_value (block_inside ts)

-- those that a step finds, in their order
abbrev pub all_at : Step → Trees → List Tree
all_at (Tag n) ts = every n ts
all_at Object ts = option_to_list (object_in ts)

-- those that a demand speaks of
abbrev pub found : Demand → Trees → List Tree
found d ts = all_at d.field (inward d.inside ts)

-- WHAT STANDS THERE, where it isn't as wanted

-- a number is one of those that the profile knows
abbrev pub is_one_of : Numbers → ℕ → Bool
is_one_of ObjectTypes n = is_some (type_of n)
is_one_of CreatedType n = is_some (created_of n)
is_one_of KeyFormats n = is_some (format_of n)
is_one_of BatchOptions n = is_some (option_of n)
is_one_of Statuses n = nat_lt n 4
is_one_of Failure n = n == 1

-- the type of an item, where it is another
abbrev pub unlike : ItemType → Tree → Option Stands
unlike ty t = cond (is_of ty t) None (Some (stands.Item (item_type t)))

-- a value of an Integer is one that is wanted
abbrev pub is_value : Wanted → ℤ → Bool
is_value (wanted.Integer z) m = int_eq m z
is_value (wanted.Count n) m = counts m n
is_value (wanted.SameInteger z b) m = int_eq m z
is_value w m = true

-- a number of an Enumeration is one that is wanted
abbrev pub is_number : Wanted → ℕ → Bool
is_number (wanted.OneOf numbers) n = is_one_of numbers n
is_number (wanted.Other m) n = not (n == m)
is_number (wanted.Same m b) n = n == m
is_number w n = true

-- another value of an Integer; of an item of another type the type
abbrev pub unlike_integer : Wanted → Tree → Option Stands
unlike_integer w (scalar n (Tree.integer z)) = cond (is_value w z) None (Some (stands.Integer z))
unlike_integer w t = Some (stands.Item (item_type t))

-- the same, where other types are read over
abbrev pub other_integer : Wanted → Tree → Option Stands
other_integer w (scalar n (Tree.integer z)) = cond (is_value w z) None (Some (stands.Integer z))
other_integer w t = None

-- another number of an Enumeration, where other types are read over
abbrev pub other_number : Wanted → Tree → Option Stands
other_number w (scalar n (Tree.enumeration x)) = cond (is_number w x) None (Some (stands.Number x))
other_number w t = None

-- an item that stands there, and isn't as wanted
abbrev pub misfit : Wanted → Tree → Option Stands
misfit (wanted.Typed ty) t = unlike ty t
misfit (wanted.MaybeTyped ty) t = unlike ty t
misfit wanted.Nothing t = Some (stands.Item (item_type t))
misfit (wanted.Integer z) t = unlike_integer (wanted.Integer z) t
misfit (wanted.Count n) t = unlike_integer (wanted.Count n) t
misfit (wanted.OneOf numbers) t = other_number (wanted.OneOf numbers) t
misfit (wanted.Other m) t = other_number (wanted.Other m) t
misfit (wanted.Same m b) t = other_number (wanted.Same m b) t
misfit (wanted.SameInteger z b) t = other_integer (wanted.SameInteger z b) t
misfit w t = None

-- none stands there
abbrev pub lack : Wanted → Option Stands
lack wanted.There = Some stands.Absent
lack (wanted.Typed ty) = Some stands.Absent
lack (wanted.Integer z) = Some stands.Absent
lack (wanted.Count n) = Some stands.Absent
lack w = None

abbrev pub first_in : List Tree → Option Tree
first_in [] = None
first_in (t ∷ ts) = Some t

abbrev pub first_fails : Wanted → Option Tree → Option Stands
first_fails w None = lack w
first_fails w (Some t) = misfit w t

-- an item says a name
abbrev pub is_name : Tree → Bool
is_name t = is_some (as_name t)

-- each of the items is to pass
abbrev pub passes : Wanted → Tree → Bool
passes (wanted.EachTyped ty) t = is_of ty t
passes wanted.EachName t = is_name t
passes wanted t = true

-- the first of the items that doesn't, with its place, which is counted from 1
abbrev pub some_fails : Wanted → ℕ → List Tree → Option Stands
some_fails w place [] = None
some_fails w place (t ∷ ts) = cond (passes w t) (some_fails w (place + 1) ts) (Some (stands.Nth place (item_type t)))

-- how many items there are, where they are two or more
abbrev pub many : ℕ → Option Stands
many n = cond (nat_lt 1 n) (Some (stands.Many n)) None

-- what stands among these items in place of what is wanted; none where they are as wanted
abbrev pub fails : Wanted → List Tree → Option Stands
fails (wanted.EachTyped ty) ts = some_fails (wanted.EachTyped ty) 1 ts
fails wanted.EachName ts = some_fails wanted.EachName 1 ts
fails wanted.Once ts = many (length ts)
fails w ts = first_fails w (first_in ts)

abbrev pub fails_in : Demand → Trees → Option Stands
fails_in d ts = fails d.wanted (found d ts)

-- the field isn't as wanted
abbrev pub Fails : Demand → Trees → Type 0
Fails d ts = is_some (fails_in d ts) ≡ true
