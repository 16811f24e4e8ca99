-- What the program finds of a list; it is not promised.
use Rattle.std.specs.Prelude.{◌≡◌, ◌<◌, ◌≤◌, ◌||◌, ◌==◌, nat_eq, ℕ, ℤ, Bool, true, false, List, slice_get, Option, Some, None}
use Rattle.std.specs.List.{list_any}
use Rattle.indexmap.specs.IndexSet.{contains}
use Rattle.kmipa_attrs.specs.Filters.{FilterOf}
use Rattle.kmipa_attrs.specs.Sets.{NameOf}
use Rattle.kmipa_object.specs.Inventory.{Card, place_of}
use Rattle.kmipa_object.specs.Life.{state}
use Rattle.kmipa_store.specs.Ledger.{Held}
use Rattle.kmipa_store.specs.Queries.{AllLack, Lasting, Leaps}
use Rattle.kmipa_ops.specs.GetAttributes.{has_stranger}
use Rattle.kmipa_ops.specs.Objects.{card_meant}
use Rattle.kmipa_ops.specs.declared.fit.Fit.{Fit}
use Rattle.kmipa_ops.specs.declared.fit.Fit.TheVariants as fit
use Rattle.kmipa_ops.specs.declared.places_listed.PlacesListed.{PlacesListed}
use Rattle.kmipa_ops.specs.Locate.{IsFit, must_fit, fits_here, has_repeat, lists_misfit}

-- whether a place is one of these
abbrev pub is_among : PlacesListed → ℕ → Bool
is_among l p = contains nat_eq l.places p

abbrev pub is_place : ℕ → Option ℕ → Bool
is_place p None = false
is_place p (Some n) = p == n

-- whether the object at a place lacks one of these names
abbrev pub LacksAt : List Held → List NameOf → ℕ → Bool → Type 0
LacksAt objects names p lacks = (h : Held) → slice_get objects p ≡ Some h → lacks ≡ has_stranger h.card.given.names names

-- the place of an identifier that is listed rightly
abbrev pub PlaceListed : List Card → ℤ → FilterOf → List ℕ → Option ℕ → Type 0
PlaceListed cs t q id None = fits_here q t (card_meant cs (Some id)) ≡ false
PlaceListed cs t q id (Some p) = (fits_here q t (card_meant cs (Some id)) ≡ true) × (place_of id cs ≡ Some p)

-- nothing is listed twice, all fits, and these are its places
pub record ArePlaced (cs : List Card) (t : ℤ) (q : FilterOf) (listed : List (List ℕ)) (places : PlacesListed) : Type 0 where
  pub once : has_repeat listed ≡ false
  pub fits : lists_misfit cs t q listed ≡ false
  pub has : (p : ℕ) → is_among places p ≡ list_any (λ (id : List ℕ). is_place p (place_of id cs)) listed

-- the places of what is listed, unless something is listed twice or doesn't fit
abbrev pub Placed : List Card → ℤ → FilterOf → List (List ℕ) → Option (PlacesListed) → Type 0
Placed cs t q listed None = (has_repeat listed || lists_misfit cs t q listed) ≡ true
Placed cs t q listed (Some places) = ArePlaced cs t q listed places

-- of the objects from one place to another none must be listed
abbrev pub NoneMust : List Held → ℤ → FilterOf → ℕ → ℕ → Type 0
NoneMust objects t q from to = (p : ℕ) (h : Held) → from ≤ p → p < to → slice_get objects p ≡ Some h → must_fit q (state h.card.dates t) h.card ≡ false

-- the next place of an object that may have all the names that a filter asks for
abbrev pub NextCandidate : List Held → ℤ → FilterOf → ℕ → Option ℕ → Type 0
NextCandidate objects t q from None = (to : ℕ) → NoneMust objects t q from to
NextCandidate objects t q from (Some p) = (from ≤ p) × NoneMust objects t q from p

-- the next place of an object that may have all that lasts of what is asked for
abbrev pub NextHaving : List Held → Lasting → ℕ → Option ℕ → Type 0
NextHaving objects asked from None = (to : ℕ) → AllLack asked objects from to
NextHaving objects asked from (Some p) = Leaps asked objects from p

-- of the objects before a place each that must be listed is at one of these places
abbrev pub CoveredTo : List Held → ℤ → FilterOf → PlacesListed → ℕ → Type 0
CoveredTo objects t q places to = (p : ℕ) (h : Held) → p < to → slice_get objects p ≡ Some h → must_fit q (state h.card.dates t) h.card ≡ true → is_among places p ≡ true

-- an object must be listed, and isn't at one of the places; or there is none
abbrev pub LeavesOut : List Held → ℤ → FilterOf → PlacesListed → Bool → Type 0
LeavesOut objects t q places true = (p : ℕ) × (h : Held) × (slice_get objects p ≡ Some h) × (must_fit q (state h.card.dates t) h.card ≡ true) × (is_among places p ≡ false)
LeavesOut objects t q places false = (p : ℕ) (h : Held) → slice_get objects p ≡ Some h → must_fit q (state h.card.dates t) h.card ≡ true → is_among places p ≡ true

-- what a fit says of the two tests
abbrev pub may_of : Fit → Bool
may_of fit.Must = true
may_of fit.May = true
may_of fit.Not = false

abbrev pub must_of : Fit → Bool
must_of fit.Must = true
must_of fit.May = false
must_of fit.Not = false

-- how the object at a place fits at the moment
abbrev pub FitsAt : List Held → ℤ → FilterOf → ℕ → Fit → Type 0
FitsAt objects t q p f = (h : Held) × (slice_get objects p ≡ Some h) × IsFit q (state h.card.dates t) h.card f

-- the object at a place must be listed, and the place isn't among these; or it is so
abbrev pub IsMissing : List Held → ℤ → FilterOf → PlacesListed → ℕ → Bool → Type 0
IsMissing objects t q places p true = (h : Held) × (slice_get objects p ≡ Some h) × (must_fit q (state h.card.dates t) h.card ≡ true) × (is_among places p ≡ false)
IsMissing objects t q places p false = (h : Held) → slice_get objects p ≡ Some h → must_fit q (state h.card.dates t) h.card ≡ true → is_among places p ≡ true
