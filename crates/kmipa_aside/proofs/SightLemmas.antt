-- The objects that are hidden from a client, one after the other.
use Rattle.std.proofs.Common.{◌≡◌, ◌∙◌, ◌++◌, ◌+◌, ◌||◌, not, refl, ap, sym, ℕ, Bool, true, false, if◌then◌else◌, List, [], ◌∷◌, drop, slice_get, Some, bytes_eq, append_assoc}
use Rattle.std.specs.List.{list_any}
use Rattle.kmipa_ops.specs.Locate.{is_listed}
use Rattle.kmipa_aside.specs.Missed.{is_any}
use Rattle.kmipa_aside.specs.Sights.{OwnedOf, hidden_from, is_of}
use Rattle.kmipa_aside.proofs.SettingLemmas.{drop_here}

any_more : (b : Bool) (id : List ℕ) (ids : List (List ℕ)) (some : Bool) → is_any ids ≡ some → is_any (if b then ids else id ∷ ids) ≡ (not b || some)
any_more true id ids some e = e
any_more false id ids some e = refl

-- some are: an object is another's
pub any_hidden : (me : List ℕ) (os : List OwnedOf) → is_any (hidden_from me os) ≡ list_any (λ (o : OwnedOf). not (is_of me o)) os
any_hidden me [] = refl
any_hidden me (o ∷ os) = any_more (is_of me o) o.id (hidden_from me os) (list_any (λ (x : OwnedOf). not (is_of me x)) os) (any_hidden me os)

or_last : (a b : Bool) → (a || b) ≡ ((a || false) || b)
or_last true b = refl
or_last false b = refl

listed_more : (b : Bool) (own id : List ℕ) (ids : List (List ℕ)) (some : Bool) → is_listed ids id ≡ some
    → is_listed (if b then ids else own ∷ ids) id ≡ (is_listed (if b then [] else own ∷ []) id || some)
listed_more true own id ids some e = e
listed_more false own id ids some e = ap (λ (x : Bool). bytes_eq own id || x) e ∙ or_last (bytes_eq own id) some

-- this one is: it is another's
pub listed_hidden : (me id : List ℕ) (os : List OwnedOf) → is_listed (hidden_from me os) id ≡ list_any (λ (o : OwnedOf). is_listed (hidden_from me (o ∷ [])) id) os
listed_hidden me id [] = refl
listed_hidden me id (o ∷ os) = listed_more (is_of me o) o.id id (hidden_from me os) (list_any (λ (x : OwnedOf). is_listed (hidden_from me (x ∷ [])) id) os) (listed_hidden me id os)

-- one more
split : (b : Bool) (id : List ℕ) (ids : List (List ℕ)) → (if b then ids else id ∷ ids) ≡ (if b then [] else id ∷ []) ++ ids
split true id ids = refl
split false id ids = refl

pub hidden_more : (me : List ℕ) (os : List OwnedOf) (i : ℕ) (o : OwnedOf) → slice_get os i ≡ Some o → (done more : List (List ℕ)) → more ≡ done ++ hidden_from me (o ∷ [])
    → done ++ hidden_from me (drop i os) ≡ hidden_from me os → more ++ hidden_from me (drop (i + 1) os) ≡ hidden_from me os
hidden_more me os i o at done more e h =
    let rest : List (List ℕ) = hidden_from me (drop (i + 1) os) in
    ap (λ (ids : List (List ℕ)). ids ++ rest) e ∙ append_assoc done (hidden_from me (o ∷ [])) rest
    ∙ ap (λ (ids : List (List ℕ)). done ++ ids) (sym (split (is_of me o) o.id rest) ∙ sym (ap (hidden_from me) (drop_here os i o at))) ∙ h
