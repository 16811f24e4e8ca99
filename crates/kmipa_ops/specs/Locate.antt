-- Locate: which objects fit a filter, and what a list of them must be (KMIP 2.1, section 6.1; may and must: profile).
use Rattle.std.specs.Prelude.{◌≡◌, ◌↔◌, ◌&&◌, ◌||◌, ◌==◌, ℕ, ℤ, pos, int_lt, Bool, true, false, not, is_some, is_none, IsSome, bytes_eq, List, [], ◌∷◌, length, slice_get, Option, Some, None}
use Rattle.std.specs.List.{Contains, list_any}
use Rattle.std.specs.Ordering.{int_eq}
use Rattle.kmipa_attrs.specs.Filters.{FilterOf}
use Rattle.kmipa_attrs.specs.ObjectTypes.{type_number}
use Rattle.kmipa_object.specs.Inventory.{Card, live}
use Rattle.kmipa_object.specs.Life.{state, state_number}
use Rattle.kmipa_object.specs.declared.state.State.{State}
use Rattle.kmipa_msgs.specs.Messages.{PayloadOf, located}
use Rattle.kmipa_msgs.specs.Sayable.{SaysListed}
use Rattle.kmipa_ops.specs.declared.fit.Fit.{Fit}
use Rattle.kmipa_ops.specs.declared.fit.Fit.TheVariants as fit
use Rattle.kmipa_ops.specs.declared.why.Why.{Why}
use Rattle.kmipa_ops.specs.declared.why.Why.TheVariants.{ListedWrongly, ListedTooFew}
use Rattle.kmipa_ops.specs.Objects.{card_meant, Echoes, Agree, is_other, clash}
use Rattle.kmipa_ops.specs.GetAttributes.{AreAmong, has_stranger}
use Rattle.kmipa_ops.specs.Effects.{lists}
use Rattle.kmipa_ops.specs.Row.{Deed, on_nothing}
use Rattle.kmipa_ops.specs.Judging.{Judging}
use Rattle.kmipa_ops.specs.Looking.{Look, LookJudging, look_deed, look_judging}

-- WHICH OBJECTS FIT

-- no judged filter says no of an object in this state; an object without an algorithm or a length says neither yes nor no to a filter of it
pub record May (q : FilterOf) (s : State) (c : Card) : Type 0 where
  pub names : AreAmong c.given.names q.names
  pub object_type : Echoes q.object_type (type_number c.kind)
  pub state : Echoes q.state (state_number s)
  pub algorithm : Agree q.algorithm c.given.algorithm
  pub length : Agree q.length c.given.length

-- the object is live, all that is asked is judged, and each filter says yes
pub record Must (q : FilterOf) (s : State) (c : Card) : Type 0 where
  pub may : May q s c
  pub alive : live c ≡ true
  pub strict : q.is_loose ≡ false
  pub algorithm : IsSome q.algorithm → IsSome c.given.algorithm
  pub length : IsSome q.length → IsSome c.given.length

-- how an object fits: it must be listed, or it may, or it may not
abbrev pub IsFit : FilterOf → State → Card → Fit → Type 0
IsFit q s c fit.Must = Must q s c
IsFit q s c fit.May = May q s c × (Must q s c → ⊥)
IsFit q s c fit.Not = May q s c → ⊥

-- WHAT A LIST OF THEM MUST BE

-- more than the maximum are listed, or as many
abbrev pub is_over : Option ℤ → ℕ → Bool
is_over None n = false
is_over (Some most) n = int_lt most (pos n)

abbrev pub is_full : Option ℤ → ℕ → Bool
is_full None n = false
is_full (Some most) n = not (int_lt (pos n) most)

-- what is listed is right: nothing twice, only what may be listed, at most the maximum
pub record ListsRightly (cs : List Card) (t : ℤ) (q : FilterOf) (listed : List (List ℕ)) : Type 0 where
  pub once : (i j : ℕ) (id : List ℕ) → slice_get listed i ≡ Some id → slice_get listed j ≡ Some id → i ≡ j
  pub fits : (id : List ℕ) → Contains listed id → (c : Card) × (card_meant cs (Some id) ≡ Some c) × May q (state c.dates t) c
  pub most : is_over q.maximum (length listed) ≡ false

-- the list is right of these objects at this moment
pub record Lists (cs : List Card) (t : ℤ) (q : FilterOf) (listed : List (List ℕ)) : Type 0 where
  pub right : ListsRightly cs t q listed
  -- each that must be listed is, unless as many as the maximum are
  pub all : is_full q.maximum (length listed) ≡ false → (c : Card) → Contains cs c → Must q (state c.dates t) c → Contains listed c.id

-- fewer than the maximum are listed, and an object isn't that must be
abbrev pub LeavesOut : List Card → ℤ → FilterOf → List (List ℕ) → Type 0
LeavesOut cs t q listed = (is_full q.maximum (length listed) ≡ false) × (c : Card) × Contains cs c × Must q (state c.dates t) c × (Contains listed c.id → ⊥)

-- against a Locate that is done
abbrev pub LocateReason : List Card → ℤ → FilterOf → Option (List (List ℕ)) → Why → Type 0
LocateReason cs t q (Some listed) ListedWrongly = ListsRightly cs t q listed → ⊥
LocateReason cs t q (Some listed) ListedTooFew = LeavesOut cs t q listed
LocateReason cs t q shown why = ⊥

-- the placeholder is the one that is listed, else empty
abbrev pub only : List (List ℕ) → Option (List ℕ)
only [] = None
only (id ∷ []) = Some id
only (id ∷ other ∷ more) = None

-- THE TESTS

-- a judged filter says no
abbrev pub says_no : FilterOf → State → Card → Bool
says_no q s c =
    has_stranger c.given.names q.names || is_other (λ (x y : ℕ). x == y) q.object_type (type_number c.kind)
    || is_other (λ (x y : ℕ). x == y) q.state (state_number s)
    || clash (λ (x y : ℕ). x == y) q.algorithm c.given.algorithm || clash int_eq q.length c.given.length

abbrev pub may_fit : FilterOf → State → Card → Bool
may_fit q s c = not (says_no q s c)

-- a filter is there, and the object lacks what it asks for
abbrev pub is_unsure : {A : Type 0} → Option A → Option A → Bool
is_unsure asked own = is_some asked && is_none own

abbrev pub is_doubtful : FilterOf → Card → Bool
is_doubtful q c = not (live c) || q.is_loose || is_unsure q.algorithm c.given.algorithm || is_unsure q.length c.given.length

abbrev pub must_fit : FilterOf → State → Card → Bool
must_fit q s c = may_fit q s c && not (is_doubtful q c)

abbrev pub has_repeat : List (List ℕ) → Bool
has_repeat [] = false
has_repeat (id ∷ ids) = list_any (bytes_eq id) ids || has_repeat ids

abbrev pub fits_here : FilterOf → ℤ → Option Card → Bool
fits_here q t None = false
fits_here q t (Some c) = may_fit q (state c.dates t) c

-- something is listed that isn't there or doesn't fit
abbrev pub lists_misfit : List Card → ℤ → FilterOf → List (List ℕ) → Bool
lists_misfit cs t q listed = list_any (λ (id : List ℕ). not (fits_here q t (card_meant cs (Some id)))) listed

abbrev pub is_listed : List (List ℕ) → List ℕ → Bool
is_listed listed id = list_any (λ (x : List ℕ). bytes_eq x id) listed

-- an object isn't listed that must be
abbrev pub leaves_out : List Card → ℤ → FilterOf → List (List ℕ) → Bool
leaves_out cs t q listed = list_any (λ (c : Card). not (not (must_fit q (state c.dates t) c) || is_listed listed c.id)) cs

-- against a Locate that is done
abbrev pub locate_speaks : List Card → ℤ → FilterOf → Option (List (List ℕ)) → Why → Bool
locate_speaks cs t q (Some listed) ListedWrongly = has_repeat listed || is_over q.maximum (length listed) || lists_misfit cs t q listed
locate_speaks cs t q (Some listed) ListedTooFew = not (is_full q.maximum (length listed)) && leaves_out cs t q listed
locate_speaks cs t q shown why = false

-- no reason speaks against a list exactly where it is right
abbrev pub ListsAreDecided : Type 0
ListsAreDecided =
    (cs : List Card) (t : ℤ) (q : FilterOf) (listed : List (List ℕ)) → ((why : Why) → locate_speaks cs t q (Some listed) why ≡ false) ↔ Lists cs t q listed

-- ITS ROW

abbrev pub names_only : Option (List ℕ) → Option (List (List ℕ)) → Option (List ℕ)
names_only before None = before
names_only before (Some listed) = only listed

abbrev pub seen_located : PayloadOf → Option (List (List ℕ))
seen_located (located listed) = Some listed
seen_located payload = None

abbrev pub locate_look : FilterOf → Look
locate_look q = record {
  Shown = List (List ℕ);
  payload = located;
  seen = seen_located;
  says = SaysListed;
  subject = on_nothing;
  may_lack = false;
  Sees = λ cs before t listed. Lists cs t q listed;
  holds = names_only;
}

abbrev pub locate_deed : FilterOf → Deed
locate_deed q = look_deed (locate_look q)

abbrev pub locate_reasons : (q : FilterOf) → LookJudging (locate_look q)
locate_reasons q = record {
  effect = lists q;
  speaks = λ cs before t shown why. locate_speaks cs t q shown why;
  means = λ cs before t shown why. LocateReason cs t q shown why;
}

abbrev pub locate_judging : (q : FilterOf) → Judging (locate_deed q)
locate_judging q = look_judging (locate_look q) (locate_reasons q)
