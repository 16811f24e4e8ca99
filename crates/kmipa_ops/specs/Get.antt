-- Get.
use Rattle.std.specs.Ordering.{int_eq}
use Rattle.std.specs.Prelude.{◌≡◌, ℕ, ℤ, Bool, true, false, List, Option, Some, None, ◌||◌, ◌==◌, not, is_none, option_and_then, ◌≢◌, ◌⊎◌}
use Rattle.kmipa_object.specs.Inventory.{Thing, live, Card, admits}
use Rattle.kmipa_object.specs.declared.allow.Allow.TheVariants.{Not}
use Rattle.kmipa_object.specs.declared.life.Material.{Material}
use Rattle.kmipa_object.specs.declared.life.Material.TheVariants.{Gone, Secret}
use Rattle.kmipa_store.specs.Calls.{differs, breaks}
use Rattle.kmipa_store.specs.Ledger.{Held, Meaning, told, Known}
use Rattle.kmipa_msgs.specs.Messages.{RulesOf, GotOf, PayloadOf, got}
use Rattle.kmipa_ops.specs.Allowance.{allowance}
use Rattle.kmipa_ops.specs.Meant.{object_meant, secret_at, secret_meant, is_excluded, IsExcluded}
use Rattle.kmipa_ops.specs.Objects.{meant, HasObject, Echoes, Agree, is_other, is_other_id, clash, same_type, Differs, Clashes}
use Rattle.kmipa_msgs.specs.Sayable.{SaysKey}
use Rattle.kmipa_ops.specs.Effects.{shows_bytes}
use Rattle.kmipa_ops.specs.Judging.{Judging}
use Rattle.kmipa_ops.specs.Row.{Deed, on_object}
use Rattle.kmipa_ops.specs.declared.why.Why.{Why}
use Rattle.kmipa_ops.specs.declared.why.Why.TheVariants.{NoSuchObject, WrongState, BytesDiffer, LengthImpossible, AttributeDiffers, EchoDiffers}
use Rattle.kmipa_object.specs.declared.allow.Act.TheVariants as act

-- Get succeeds: the rules allow it in the object's state, what it shows is the object's, and its bytes are these
pub record Gets (rules : RulesOf) (V : List Thing) (before : Option (List ℕ)) (t : ℤ) (asked : Option (List ℕ)) (a : GotOf) (V' : List Thing) (after : Option (List ℕ)) : Type 0 where
  pub id : List ℕ
  pub place : ℕ
  pub object : Thing
  pub about : meant asked before ≡ Some id
  pub there : HasObject V id place object
  pub alive : live object.card ≡ true
  pub may : allowance rules act.Get t object.card ≢ Not
  pub bytes : object.bytes ≡ Some a.block.material
  pub kind : Echoes a.object_type object.card.kind
  pub shape : a.shape ≡ object.card.kind
  pub algorithm : Agree a.block.algorithm object.card.given.algorithm
  pub length : Agree a.block.length object.card.given.length
  pub echo : Echoes a.id id
  pub leaves : V' ≡ V
  pub placeholder : after ≡ before

-- other bytes of it are known
abbrev pub IsKnownOtherwise : Meaning → Option (List ℕ) → List ℕ → Type 0
IsKnownOtherwise m about bytes = (secret : Known) × (secret_meant m about ≡ Some secret) × Differs secret.bytes bytes

-- its bytes aren't known, and can't be these
abbrev pub IsImpossible : Meaning → Option (List ℕ) → List ℕ → Type 0
IsImpossible m about bytes = (secret : Known) × (secret_meant m about ≡ Some secret) × (secret.bytes ≡ None) × (admits secret.rule bytes ≢ true)

-- what a Get shows beside the bytes isn't the object's: its type, in two places, its algorithm or its length
abbrev pub IsOther : GotOf → Card → Type 0
IsOther a c = ((Differs a.object_type c.kind ⊎ (a.shape ≢ c.kind)) ⊎ Clashes a.block.algorithm c.given.algorithm) ⊎ Clashes a.block.length c.given.length

-- against a Get that is done, about this identifier, and shows this if its payload is there
abbrev pub GetReason : RulesOf → Meaning → Option (List ℕ) → ℤ → Option GotOf → Why → Type 0
GetReason rules m about t shown NoSuchObject = object_meant m.objects about ≡ None
GetReason rules m about t shown WrongState = IsExcluded rules m.objects about t act.Get
GetReason rules m about t (Some a) BytesDiffer = IsKnownOtherwise m about a.block.material
GetReason rules m about t (Some a) LengthImpossible = IsImpossible m about a.block.material
GetReason rules m about t (Some a) AttributeDiffers = (h : Held) × (object_meant m.objects about ≡ Some h) × IsOther a h.card
GetReason rules m about t (Some a) EchoDiffers = Clashes a.id about
GetReason rules m about t shown why = ⊥

-- what a Get shows, but for the bytes and the identifier, isn't the object's: its type, twice, and, where both are there, algorithm and length
abbrev pub shows_other : GotOf → Option Held → Bool
shows_other a None = false
shows_other a (Some h) =
    is_other same_type a.object_type h.card.kind || not (same_type a.shape h.card.kind)
    || clash (λ (x y : ℕ). x == y) a.block.algorithm h.card.given.algorithm || clash int_eq a.block.length h.card.given.length

-- against a Get that is done, about this identifier, and shows this if its payload is there
abbrev pub get_speaks : RulesOf → Meaning → Option (List ℕ) → ℤ → Option GotOf → Why → Bool
get_speaks rules m about t shown NoSuchObject = is_none (object_meant m.objects about)
get_speaks rules m about t shown WrongState = is_excluded rules act.Get t (object_meant m.objects about)
get_speaks rules m about t (Some a) BytesDiffer = differs (secret_meant m about) a.block.material
get_speaks rules m about t (Some a) LengthImpossible = breaks (secret_meant m about) a.block.material
get_speaks rules m about t (Some a) AttributeDiffers = shows_other a (object_meant m.objects about)
get_speaks rules m about t (Some a) EchoDiffers = is_other_id a.id about
get_speaks rules m about t shown why = false

-- of this object other bytes are known
abbrev pub differs_at : Meaning → Option Held → List ℕ → Bool
differs_at m object bytes = differs (option_and_then (λ (h : Held). secret_at m.secrets h.material) object) bytes

-- with the bytes that a Get shows
abbrev pub taught_at : Meaning → Material → List ℕ → Meaning
taught_at m Gone bytes = m
taught_at m (Secret secret) bytes = record { objects = m.objects; secrets = told m.secrets secret.number bytes; aside = m.aside }

abbrev pub taught : Meaning → Option Held → List ℕ → Meaning
taught m None bytes = m
taught m (Some h) bytes = taught_at m h.material bytes

abbrev pub seen_got : PayloadOf → Option GotOf
seen_got (got a) = Some a
seen_got payload = None

-- where it shows no bytes nothing is learned
abbrev pub get_leaves : Meaning → Option (List ℕ) → Option GotOf → Meaning
get_leaves m about None = m
get_leaves m about (Some a) = taught m (object_meant m.objects about) a.block.material

abbrev pub get_deed : Option (List ℕ) → Deed
get_deed id = record {
  Shown = GotOf;
  payload = got;
  seen = seen_got;
  says = SaysKey;
  subject = on_object id act.Get false;
  may_lack = true;
  does = λ rules V before t a V' after. Gets rules V before t id a V' after;
}

abbrev pub get_judging : (id : Option (List ℕ)) → Judging (get_deed id)
get_judging id = record {
  effect = shows_bytes;
  speaks = λ rules m before t shown why. get_speaks rules m (meant id before) t shown why;
  means = λ rules m before t shown why. GetReason rules m (meant id before) t shown why;
  leaves = λ m before t shown. get_leaves m (meant id before) shown;
  holds = λ before shown. before;
}
