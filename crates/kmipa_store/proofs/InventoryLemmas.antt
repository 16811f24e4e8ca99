-- The inventory of a ledger's objects under a choice, and places by identifier.
use Rattle.std.proofs.Common.{◌≡◌, ℕ, zero, suc, ◌+◌, true, false, cond, List, [], ◌∷◌, ◌++◌, length, slice_get, Option, Some, None, option_map, bytes_eq, refl, ap, sym, ◌∙◌, arith}
use Rattle.std.specs.List.{position_from}
use Rattle.kmipa_object.specs.Life.{dates_of}
use Rattle.kmipa_object.specs.Lists.{updated}
use Rattle.kmipa_object.specs.Inventory.{Card, cards, place_of}
use Rattle.kmipa_object.specs.declared.life.Life.{Life}
use Rattle.kmipa_object.specs.declared.life.Material.{Material}
use Rattle.kmipa_object.specs.declared.life.Material.TheVariants.{Gone, Secret}
use Rattle.kmipa_object.specs.declared.life.SecretNo.{SecretNo}
use Rattle.kmipa_object.proofs.ListLemmas.{get-map, map-push, get_below}
use Rattle.kmipa_store.specs.Ledger.{aside_again, Held, Known, Meaning, LedgerState, cards_of, relived, kept_from, undone_from, back_from, kept, undone, gone_back}
use Rattle.kmipa_store.specs.Choices.{Choice, inv, thing, bytes_of, InRange, Agrees}

-- what does not speak of bytes is the same under each choice
pub cards-inv : (c : Choice) (hs : List Held) → cards (inv c hs) ≡ cards_of hs
cards-inv c [] = refl
cards-inv c (h ∷ hs) = ap (λ ys. h.card ∷ ys) (cards-inv c hs)

pub get-inv : (c : Choice) (hs : List Held) (p : ℕ) → slice_get (inv c hs) p ≡ option_map (thing c) (slice_get hs p)
get-inv c hs p = get-map (thing c) hs p

pub get-cards_of : (hs : List Held) (p : ℕ) → slice_get (cards_of hs) p ≡ option_map (λ (h : Held). h.card) (slice_get hs p)
get-cards_of hs p = get-map (λ (h : Held). h.card) hs p

pub length-inv : (c : Choice) (hs : List Held) → length (inv c hs) ≡ length hs
length-inv c [] = refl
length-inv c (h ∷ hs) = ap suc (length-inv c hs)

pub inv-append : (c : Choice) (hs : List Held) (h : Held) → inv c (hs ++ h ∷ []) ≡ inv c hs ++ thing c h ∷ []
inv-append c hs h = map-push (thing c) hs h

-- another life that leaves the material changes the dates
pub inv-dated : (c : Choice) (hs : List Held) (p : ℕ) (life : Life) → ((h : Held) → slice_get hs p ≡ Some h → life.material ≡ h.material)
    → inv c (relived hs p life) ≡ updated (inv c hs) p (λ t. record { card = record t.card { dates = dates_of life }; bytes = t.bytes })
inv-dated c [] p life same = refl
inv-dated c (h ∷ hs) zero life same = ap (λ (m : Material). record { card = record h.card { dates = dates_of life }; bytes = bytes_of c m } ∷ inv c hs) (same h refl)
inv-dated c (h ∷ hs) (suc p) life same = ap (λ ys. thing c h ∷ ys) (inv-dated c hs p life same)

-- another life without material changes the dates, and the bytes are gone
pub inv-emptied : (c : Choice) (hs : List Held) (p : ℕ) (life : Life) → life.material ≡ Gone
    → inv c (relived hs p life) ≡ updated (inv c hs) p (λ t. record { card = record t.card { dates = dates_of life }; bytes = None })
inv-emptied c [] p life gone = refl
inv-emptied c (h ∷ hs) zero life gone = ap (λ (m : Material). record { card = record h.card { dates = dates_of life }; bytes = bytes_of c m } ∷ inv c hs) gone
inv-emptied c (h ∷ hs) (suc p) life gone = ap (λ ys. thing c h ∷ ys) (inv-emptied c hs p life gone)

bytes_agree : (c d : Choice) (m : Material) → ((secret : SecretNo) → m ≡ Secret secret → d secret.number ≡ c secret.number) → bytes_of d m ≡ bytes_of c m
bytes_agree c d Gone h = refl
bytes_agree c d (Secret secret) h = ap Some (h secret refl)

-- choices that agree on the secrets of the objects give one inventory
pub inv-agrees : (c d : Choice) (hs : List Held) → ((p : ℕ) (h : Held) (secret : SecretNo) → slice_get hs p ≡ Some h → h.material ≡ Secret secret → d secret.number ≡ c secret.number) → inv d hs ≡ inv c hs
inv-agrees c d [] f = refl
inv-agrees c d (h ∷ hs) f =
    ap (λ (b : Option (List ℕ)). record { card = h.card; bytes = b } ∷ inv d hs) (bytes_agree c d h.material (λ n e. f 0 h n refl e))
    ∙ ap (λ ys. thing c h ∷ ys) (inv-agrees c d hs (λ p. f (suc p)))

-- so do choices that agree on all secrets that there are
pub inv-same : (hs : List Held) (ss : List Known) (c d : Choice) → InRange hs ss → Agrees (length ss) c d → inv d hs ≡ inv c hs
inv-same hs ss c d r a = inv-agrees c d hs (λ p h n e m. let q = r.there p h n e m in a n.number (get_below ss n.number _ q.1))

-- a place that was found is that of an object with the identifier
found_from : (cs : List Card) (id : List ℕ) (i p : ℕ) → position_from (λ (c : Card). bytes_eq id c.id) i cs ≡ Some p → (k : ℕ) × (p ≡ i + k) × (c : Card) × (slice_get cs k ≡ Some c) × (bytes_eq id c.id ≡ true)
found_from [] id i p e = let bad : ⊥ = cc in absurd bad
found_from (c ∷ cs) id i p e =
    (elim (bytes_eq id c.id) as (λ t. bytes_eq id c.id ≡ t → cond t (Some i) (position_from (λ (x : Card). bytes_eq id x.id) (i + 1) cs) ≡ Some p → (k : ℕ) × (p ≡ i + k) × (d : Card) × (slice_get (c ∷ cs) k ≡ Some d) × (bytes_eq id d.id ≡ true)) [
      | true ↦ λ is q. let same : i ≡ p = cc in (0, omega (arith, same), c, refl, is)
      | false ↦ λ is q. let r = found_from cs id (i + 1) p q in (suc r.0, omega (arith, r.1), r.2, r.3, r.4)
    ]) refl e

pub place_found : (cs : List Card) (id : List ℕ) (p : ℕ) → place_of id cs ≡ Some p → (c : Card) × (slice_get cs p ≡ Some c) × (bytes_eq id c.id ≡ true)
place_found cs id p e =
    let r = found_from cs id 0 p e in
    let same : p ≡ r.0 = omega (arith, r.1) in
    (r.2, ap (slice_get cs) same ∙ r.3, r.4)

-- where no place is found, no object has the identifier
none_here : (x c : Card) (cs : List Card) (id : List ℕ) (j : ℕ) → bytes_eq id x.id ≡ false → ((k : ℕ) → slice_get cs k ≡ Some c → bytes_eq id c.id ≡ false) → slice_get (x ∷ cs) j ≡ Some c → bytes_eq id c.id ≡ false
none_here x c cs id zero is rest h = let same : x ≡ c = cc in ap (λ (y : Card). bytes_eq id y.id) (sym same) ∙ is
none_here x c cs id (suc j) is rest h = rest j h

none_from : (cs : List Card) (id : List ℕ) (i : ℕ) → position_from (λ (c : Card). bytes_eq id c.id) i cs ≡ None → (k : ℕ) (c : Card) → slice_get cs k ≡ Some c → bytes_eq id c.id ≡ false
none_from [] id i e k c at = cc
none_from (x ∷ cs) id i e k c at =
    (elim (bytes_eq id x.id) as (λ t. bytes_eq id x.id ≡ t → cond t (Some i) (position_from (λ (y : Card). bytes_eq id y.id) (i + 1) cs) ≡ None → bytes_eq id c.id ≡ false) [
      | true ↦ λ is q. cc
      | false ↦ λ is q. none_here x c cs id k is (λ j f. none_from cs id (i + 1) q j c f) at
    ]) refl e

pub place_none : (cs : List Card) (id : List ℕ) → place_of id cs ≡ None → (p : ℕ) (c : Card) → slice_get cs p ≡ Some c → bytes_eq id c.id ≡ false
place_none cs id e = none_from cs id 0 e

-- the newest mark, spent
pub kept-at : (s : LedgerState) (m : Meaning) (rest : List Meaning) → s.marks ≡ m ∷ rest → kept s ≡ record { now = s.now; marks = rest }
kept-at s m rest e = ap (kept_from s.now) e

pub undone-at : (s : LedgerState) (m : Meaning) (rest : List Meaning) → s.marks ≡ m ∷ rest → undone s ≡ record { now = record { objects = m.objects; secrets = s.now.secrets; aside = aside_again m.aside s.now.aside }; marks = rest }
undone-at s m rest e = ap (undone_from s.now) e

pub gone_back-at : (s : LedgerState) (m : Meaning) (rest : List Meaning) → s.marks ≡ m ∷ rest → gone_back s ≡ record { now = m; marks = rest }
gone_back-at s m rest e = ap (back_from s.now) e
