-- Objects as the list that they are.
use Rattle.std.proofs.Common.{◌≡◌, ℕ, zero, suc, List, [], ◌∷◌, ◌++◌, take, slice_get, Some, ap, ◌∙◌}
use Rattle.kmipa_attrs.specs.declared.attr_set.AttrSet.{AttrSet}
use Rattle.kmipa_attrs.specs.declared.object_type.ObjectType.{ObjectType}
use Rattle.kmipa_object.specs.Inventory.{Card, card_of}
use Rattle.kmipa_object.specs.declared.life.Life.{Life}
use Rattle.kmipa_object.specs.declared.object.Object.{Object}
use Rattle.kmipa_store.specs.Ledger.{held}
use Rattle.kmipa_store.specs.Objects.{become}

-- copying objects one after the other
pub take-next : {X : Type 0} (xs : List X) (n : ℕ) (x : X) → slice_get xs n ≡ Some x → take (suc n) xs ≡ take n xs ++ x ∷ []
take-next [] n x e = cc
take-next {X} (z ∷ xs) zero x e = let q : z ≡ x = cc in ap (λ (y : X). y ∷ []) q
take-next (z ∷ xs) (suc n) x e = ap (λ ys. z ∷ ys) (take-next xs n x e)

pub held_same : (a b : Object) → card_of a ≡ card_of b → a.life ≡ b.life → held a ≡ held b
held_same a b e f = ap (λ (c : Card). record { card = c; material = a.life.material }) e ∙ ap (λ (l : Life). record { card = card_of b; material = l.material }) f

-- an object that has all of another but its identifier
pub held_but_id : (o x : Object) (kind : ObjectType) (given : AttrSet) (life : Life) → kind ≡ x.kind → given ≡ x.given → life ≡ x.life
    → held (record { id = o.id; kind = kind; given = given; life = life }) ≡ become (held o) (held x)
held_but_id o x kind given life e f g =
    ap (λ (k : ObjectType). held (record { id = o.id; kind = k; given = given; life = life })) e
    ∙ ap (λ (a : AttrSet). held (record { id = o.id; kind = x.kind; given = a; life = life })) f
    ∙ ap (λ (l : Life). held (record { id = o.id; kind = x.kind; given = x.given; life = l })) g
