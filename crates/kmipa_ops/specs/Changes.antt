-- The operations that change an object, and what each leaves of it (KMIP 2.1, section 6).
use Rattle.std.specs.Prelude.{◌≡◌, ◌≢◌, ℕ, ℤ, Bool, true, false, List, Option, Some, None, is_none, if◌then◌else◌}
use Rattle.kmipa_object.specs.Inventory.{Thing}
use Rattle.kmipa_object.specs.Life.{state, Dates, activated_dates, revoked_dates, destroyed_dates}
use Rattle.kmipa_object.specs.Lists.{updated}
use Rattle.kmipa_object.specs.Table.{allowed, revoke_act}
use Rattle.kmipa_object.specs.declared.allow.Act.{Act}
use Rattle.kmipa_object.specs.declared.allow.Allow.TheVariants.{Not}
use Rattle.kmipa_object.specs.declared.life.Material.{Material}
use Rattle.kmipa_object.specs.declared.life.Material.TheVariants.{Gone}
use Rattle.kmipa_store.specs.Ledger.{Held, Meaning}
use Rattle.kmipa_msgs.specs.Messages.{RulesOf, AskedOf, PayloadOf, activates, changed, destroys, revokes}
use Rattle.kmipa_ops.specs.Allowance.{allowance}
use Rattle.kmipa_ops.specs.Meant.{place_meant, object_meant, is_not, is_excluded, IsExcluded}
use Rattle.kmipa_ops.specs.Objects.{meant, HasObject, Echoes, is_other_id, Clashes}
use Rattle.kmipa_msgs.specs.Sayable.{IsSayableId}
use Rattle.kmipa_ops.specs.Effects.{changes}
use Rattle.kmipa_ops.specs.Judging.{Judging}
use Rattle.kmipa_ops.specs.Row.{Deed, on_object}
use Rattle.kmipa_ops.specs.declared.change.Change.{Change}
use Rattle.kmipa_ops.specs.declared.change.Change.TheVariants.{Activate, Revoke, Destroy}
use Rattle.kmipa_ops.specs.declared.why.Why.{Why}
use Rattle.kmipa_ops.specs.declared.why.Why.TheVariants.{NoSuchObject, WrongState, EchoDiffers}
use Rattle.kmipa_object.specs.declared.allow.Act.TheVariants as act

-- its row in the table of states
abbrev pub act_of : Change → Act
act_of Activate = act.Activate
act_of (Revoke code) = revoke_act code
act_of Destroy = act.Destroy

-- the operation, of the object that is named so
abbrev pub asked_change : Option (List ℕ) → Change → AskedOf
asked_change id Activate = activates id
asked_change id (Revoke code) = revokes (record { id = id; code = code })
asked_change id Destroy = destroys id

-- the dates that it leaves
abbrev pub dates_after : Change → ℤ → Dates → Dates
dates_after Activate t d = activated_dates d t
dates_after (Revoke code) t d = revoked_dates d code t
dates_after Destroy t d = destroyed_dates d t

-- a Destroy leaves no bytes
abbrev pub bytes_after : Change → Option (List ℕ) → Option (List ℕ)
bytes_after Activate bytes = bytes
bytes_after (Revoke code) bytes = bytes
bytes_after Destroy bytes = None

-- the object afterwards
abbrev pub thing_after : Change → ℤ → Thing → Thing
thing_after change t o = record { card = record o.card { dates = dates_after change t o.card.dates }; bytes = bytes_after change o.bytes }

-- Activate, Revoke or Destroy succeeds: the rules allow it in the object's state, and the object stands changed in its place
pub record ChangesObject (rules : RulesOf) (V : List Thing) (before : Option (List ℕ)) (t : ℤ) (asked : Option (List ℕ)) (change : Change) (shown : Option (List ℕ)) (V' : List Thing) (after : Option (List ℕ)) : Type 0 where
  pub id : List ℕ
  pub place : ℕ
  pub object : Thing
  pub about : meant asked before ≡ Some id
  pub there : HasObject V id place object
  pub may : allowance rules (act_of change) t object.card ≢ Not
  pub echo : Echoes shown id
  pub leaves : V' ≡ updated V place (thing_after change t)
  pub placeholder : after ≡ before

-- against an Activate, a Revoke or a Destroy that is done, and shows this identifier if it is there
abbrev pub ChangeReason : RulesOf → List Held → Option (List ℕ) → ℤ → Change → Option (List ℕ) → Why → Type 0
ChangeReason rules objects about t change shown NoSuchObject = object_meant objects about ≡ None
ChangeReason rules objects about t change shown WrongState = IsExcluded rules objects about t (act_of change)
ChangeReason rules objects about t change shown EchoDiffers = Clashes shown about
ChangeReason rules objects about t change shown why = ⊥

-- against a change of an object that is done, and shows this identifier if it is there
abbrev pub change_speaks : RulesOf → List Held → Option (List ℕ) → ℤ → Change → Option (List ℕ) → Why → Bool
change_speaks rules objects about t change shown NoSuchObject = is_none (object_meant objects about)
change_speaks rules objects about t change shown WrongState = is_excluded rules (act_of change) t (object_meant objects about)
change_speaks rules objects about t change shown EchoDiffers = is_other_id shown about
change_speaks rules objects about t change shown why = false

-- the identifier that the answer of a change shows
abbrev pub id_shown : Option PayloadOf → Option (List ℕ)
id_shown (Some (changed id)) = id
id_shown payload = None

-- what a change leaves of dates and of material; of those of an object of which the table excludes it, all
abbrev pub dates_left : Change → ℤ → Dates → Dates
dates_left change t d = if is_not (allowed (act_of change) (state d t)) then d else dates_after change t d

abbrev pub material_after : Change → Material → Material
material_after Activate mat = mat
material_after (Revoke code) mat = mat
material_after Destroy mat = Gone

abbrev pub material_left : Change → ℤ → Dates → Material → Material
material_left change t d mat = if is_not (allowed (act_of change) (state d t)) then mat else material_after change mat

abbrev pub held_left : Change → ℤ → Held → Held
held_left change t h = record {
  card = record h.card { dates = dates_left change t h.card.dates };
  material = material_left change t h.card.dates h.material;
}

-- with the object at a place changed
abbrev pub changed_at : List Held → Option ℕ → (Held → Held) → List Held
changed_at objects None f = objects
changed_at objects (Some place) f = updated objects place f

abbrev pub with_changed : Meaning → Option (List ℕ) → ℤ → Change → Meaning
with_changed m about t change = record { objects = changed_at m.objects (place_meant m.objects about) (held_left change t); secrets = m.secrets; aside = m.aside }

abbrev pub seen_changed : PayloadOf → Option (Option (List ℕ))
seen_changed (changed id) = Some id
seen_changed payload = None

-- the identifier that its answer shows, if it has a payload and that one has an identifier
abbrev pub id_in : Option (Option (List ℕ)) → Option (List ℕ)
id_in None = None
id_in (Some id) = id

abbrev pub change_deed : Option (List ℕ) → Change → Deed
change_deed id change = record {
  Shown = Option (List ℕ);
  payload = changed;
  seen = seen_changed;
  says = IsSayableId;
  subject = on_object id (act_of change) false;
  may_lack = true;
  does = λ rules V before t shown V' after. ChangesObject rules V before t id change shown V' after;
}

abbrev pub change_judging : (id : Option (List ℕ)) (change : Change) → Judging (change_deed id change)
change_judging id change = record {
  effect = changes change;
  speaks = λ rules m before t shown why. change_speaks rules m.objects (meant id before) t change (id_in shown) why;
  means = λ rules m before t shown why. ChangeReason rules m.objects (meant id before) t change (id_in shown) why;
  leaves = λ m before t shown. with_changed m (meant id before) t change;
  holds = λ before shown. before;
}
