-- Lists place by place, inventories and the bytes of their objects, with one object more or less.
use Rattle.std.proofs.Common.{◌≡◌, ℕ, Bool, true, false, List, [], ◌∷◌, ◌++◌, length, Option, Some, None, refl, ap, ◌∙◌}
use Rattle.std.specs.List.{AllZip}
use Rattle.kmipa_object.specs.Inventory.{Card, Thing, Admitted, HasBytes, IsInventory, live, rule_of}
use Rattle.kmipa_object.specs.declared.rule.Rule.{Rule}
use Rattle.kmipa_object.proofs.ListLemmas.{get-append_old, get-append_last}

module _ {A B : Type 0} (R : A → B → Type 0) where
  pub zip_push : (xs : List A) (ys : List B) (x : A) (y : B) → AllZip R xs ys → R x y → AllZip R (xs ++ x ∷ []) (ys ++ y ∷ [])
  zip_push [] [] x y h r = (r, tt)
  zip_push [] (z ∷ ys) x y h r = absurd h
  zip_push (w ∷ xs) [] x y h r = absurd h
  zip_push (w ∷ xs) (z ∷ ys) x y h r = (h.0, zip_push xs ys x y h.1 r)

  -- what goes with one element more has one more itself
  pub zip_last : (xs : List A) (x : A) (ys : List B) → AllZip R (xs ++ x ∷ []) ys → (zs : List B) × (y : B) × (ys ≡ zs ++ y ∷ []) × AllZip R xs zs × R x y
  zip_last [] x [] h = absurd h
  zip_last [] x (y ∷ []) h = ([], y, refl, tt, h.0)
  zip_last [] x (y ∷ z ∷ ys) h = absurd h.1
  zip_last (w ∷ xs) x [] h = absurd h
  zip_last (w ∷ xs) x (z ∷ ys) h =
      let p = zip_last xs x ys h.1 in
      (z ∷ p.0, p.1, ap (λ (l : List B). z ∷ l) p.2, (h.0, p.3), p.4)

-- an inventory without its last object
pub inventory_before : (things : List Thing) (t : Thing) → IsInventory (things ++ t ∷ []) → IsInventory things
inventory_before things t h = record {
  distinct = λ i j a b e f same. h.distinct i j a b (get-append_old things t i a e) (get-append_old things t j b f) same;
  bytes = λ i a e. h.bytes i a (get-append_old things t i a e);
}

pub last_bytes : (things : List Thing) (t : Thing) → IsInventory (things ++ t ∷ []) → HasBytes (live t.card) (rule_of t.card) t.bytes
last_bytes things t h = h.bytes (length things) t (get-append_last things t)

-- a destroyed object has no bytes
pub dead_bytes : (alive : Bool) (rule : Rule) (bytes : Option (List ℕ)) → alive ≡ false → HasBytes alive rule bytes → bytes ≡ None
dead_bytes true rule bytes e h = cc
dead_bytes false rule None e h = refl
dead_bytes false rule (Some b) e h = absurd h

-- a live one has some that are admitted
pub live_bytes : (alive : Bool) (rule : Rule) (bytes : Option (List ℕ)) → alive ≡ true → HasBytes alive rule bytes → (b : List ℕ) × (bytes ≡ Some b) × Admitted rule b
live_bytes false rule bytes e h = let bad : ⊥ = cc in absurd bad
live_bytes true rule None e h = absurd h
live_bytes true rule (Some b) e h = (b, refl, h)

pub thing_is : (t : Thing) (card : Card) (bytes : Option (List ℕ)) → t.card ≡ card → t.bytes ≡ bytes → t ≡ record { card = card; bytes = bytes }
thing_is t card bytes e f = ap (λ (c : Card). record { card = c; bytes = t.bytes }) e ∙ ap (λ (b : Option (List ℕ)). record { card = card; bytes = b }) f
