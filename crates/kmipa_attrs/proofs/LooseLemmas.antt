-- When a filter is loose.
use Rattle.std.proofs.Common.{◌≡◌, ◌≤◌, ℕ, ℤ, Bool, true, false, ◌==◌, ◌||◌, not, cond, ◌∷◌, length, Option, refl, ap, ◌∙◌, arith, inl, inr, ◌⊎◌, ltb-true, eq-eqb, eqb-true}
use Rattle.std.specs.Prelude.{◌↔◌}
use Rattle.std.proofs.lemmas.Bool.{lt-ltb}
use Rattle.kmipa_ttlv.specs.Tree.{Tree, Trees, none, more}
use Rattle.kmipa_attrs.specs.Tags.{cryptographic_algorithm, cryptographic_length, object_type_tag, state_tag}
use Rattle.kmipa_attrs.specs.Fields.{tag_of, every}
use Rattle.kmipa_attrs.specs.Filters.{is_judged, is_other, has_other, is_repeated, has_second, is_below_one, is_loose, IsLoose}
use Rattle.kmipa_attrs.specs.Filters.IsLoose.{by_item, by_maximum, by_other, by_second_type, by_second_state, by_second_algorithm, by_second_length}

split : (a b : Bool) → (a || b) ≡ true → (a ≡ true) ⊎ (b ≡ true)
split true b e = inl refl
split false b e = inr e

left : (a b : Bool) → a ≡ true → (a || b) ≡ true
left true b e = refl
left false b e = cc

right : (a b : Bool) → b ≡ true → (a || b) ≡ true
right true b e = refl
right false b e = e

not_true : (b : Bool) → not b ≡ true → b ≡ false
not_true true e = cc
not_true false e = refl

stays : (tag : ℕ) (t : Tree) (ts : Trees) → length (every tag ts) ≤ length (every tag (more t ts))
unfolding every
stays tag t ts = by (tag_of t == tag)
  where
    by : (b : Bool) → length (every tag ts) ≤ length (cond b (t ∷ every tag ts) (every tag ts))
    by true = omega arith
    by false = omega arith

stands : (t : Tree) (ts : Trees) → 1 ≤ length (every (tag_of t) (more t ts))
unfolding every
stands t ts = by (tag_of t == tag_of t) (eq-eqb (tag_of t) (tag_of t) refl)
  where
    by : (b : Bool) → b ≡ true → 1 ≤ length (cond b (t ∷ every (tag_of t) ts) (every (tag_of t) ts))
    by true e = omega arith
    by false e = cc

others_from : (ts : Trees) → has_other ts ≡ true → (tag : ℕ) × ((is_judged tag ≡ false) × (1 ≤ length (every tag ts)))
unfolding has_other
others_from none e = cc
others_from (more t ts) e = elim (split (is_other (tag_of t)) (has_other ts) e) [
  | inl w ↦ (tag_of t, (not_true (is_judged (tag_of t)) w, stands t ts))
  | inr w ↦ let p = others_from ts w in let g = stays p.0 t ts in let h = p.1.1 in (p.0, (p.1.0, omega arith))
]

others_to : (tag : ℕ) (ts : Trees) → is_judged tag ≡ false → 1 ≤ length (every tag ts) → has_other ts ≡ true
unfolding has_other every
others_to tag none e h = let f : ⊥ = omega arith in absurd f
others_to tag (more t ts) e h = by (tag_of t == tag) refl h (others_to tag ts e)
  where
    by : (b : Bool) → (tag_of t == tag) ≡ b → 1 ≤ length (cond b (t ∷ every tag ts) (every tag ts)) → (1 ≤ length (every tag ts) → has_other ts ≡ true) → (is_other (tag_of t) || has_other ts) ≡ true
    by true is g rest = left (is_other (tag_of t)) (has_other ts) (ap is_other (eqb-true (tag_of t) tag is) ∙ ap not e)
    by false is g rest = right (is_other (tag_of t)) (has_other ts) (rest g)

twice : (tag : ℕ) (ts : Trees) → 2 ≤ length (every tag ts) → is_repeated tag ts ≡ true
twice tag ts h = lt-ltb 1 (length (every tag ts)) (omega arith)

twice_from : (tag : ℕ) (ts : Trees) → is_repeated tag ts ≡ true → 2 ≤ length (every tag ts)
twice_from tag ts e = let h = ltb-true 1 (length (every tag ts)) e in omega arith

three_from : {P : Type 0} (a b c : Bool) → (a ≡ true → P) → (b ≡ true → P) → (c ≡ true → P) → (a || b || c) ≡ true → P
three_from true b c f g h e = f refl
three_from false true c f g h e = g refl
three_from false false c f g h e = h e

four_from : {P : Type 0} (a b c d : Bool) → (a ≡ true → P) → (b ≡ true → P) → (c ≡ true → P) → (d ≡ true → P) → (a || b || c || d) ≡ true → P
four_from true b c d f g h k e = f refl
four_from false true c d f g h k e = g refl
four_from false false true d f g h k e = h refl
four_from false false false d f g h k e = k e

three_to : (a b c : Bool) → (a ≡ true) ⊎ ((b ≡ true) ⊎ (c ≡ true)) → (a || b || c) ≡ true
three_to true b c w = refl
three_to false true c w = refl
three_to false false c w = elim w [ inl e ↦ cc | inr v ↦ elim v [ inl e ↦ cc | inr e ↦ e ] ]

four_to : (a b c d : Bool) → (a ≡ true) ⊎ ((b ≡ true) ⊎ ((c ≡ true) ⊎ (d ≡ true))) → (a || b || c || d) ≡ true
four_to true b c d w = refl
four_to false true c d w = refl
four_to false false true d w = refl
four_to false false false d w = elim w [ inl e ↦ cc | inr v ↦ elim v [ inl e ↦ cc | inr u ↦ elim u [ inl e ↦ cc | inr e ↦ e ] ] ]

loose_from : (ts : Trees) (most : Option ℤ) (is_unknown : Bool) → is_loose ts most is_unknown ≡ true → IsLoose ts most is_unknown
loose_from ts most is_unknown e = elim (split (is_unknown || is_below_one most || has_other ts) (has_second ts) e) [
  | inl f ↦ three_from is_unknown (is_below_one most) (has_other ts) (λ w. by_item w) (λ w. by_maximum w) (λ w. let p = others_from ts w in by_other p.0 p.1.0 p.1.1) f
  | inr f ↦ four_from (is_repeated object_type_tag ts) (is_repeated state_tag ts) (is_repeated cryptographic_algorithm ts) (is_repeated cryptographic_length ts)
      (λ w. by_second_type (twice_from object_type_tag ts w)) (λ w. by_second_state (twice_from state_tag ts w))
      (λ w. by_second_algorithm (twice_from cryptographic_algorithm ts w)) (λ w. by_second_length (twice_from cryptographic_length ts w)) f
]

loose_to : (ts : Trees) (most : Option ℤ) (is_unknown : Bool) → IsLoose ts most is_unknown → is_loose ts most is_unknown ≡ true
loose_to ts most is_unknown w = elim w [
  | by_item e ↦ others (inl e)
  | by_maximum e ↦ others (inr (inl e))
  | by_other tag e h ↦ others (inr (inr (others_to tag ts e h)))
  | by_second_type h ↦ seconds (inl (twice object_type_tag ts h))
  | by_second_state h ↦ seconds (inr (inl (twice state_tag ts h)))
  | by_second_algorithm h ↦ seconds (inr (inr (inl (twice cryptographic_algorithm ts h))))
  | by_second_length h ↦ seconds (inr (inr (inr (twice cryptographic_length ts h))))
]
  where
    others : (is_unknown ≡ true) ⊎ ((is_below_one most ≡ true) ⊎ (has_other ts ≡ true)) → is_loose ts most is_unknown ≡ true
    others v = left (is_unknown || is_below_one most || has_other ts) (has_second ts) (three_to is_unknown (is_below_one most) (has_other ts) v)

    seconds : (is_repeated object_type_tag ts ≡ true) ⊎ ((is_repeated state_tag ts ≡ true) ⊎ ((is_repeated cryptographic_algorithm ts ≡ true) ⊎ (is_repeated cryptographic_length ts ≡ true))) → is_loose ts most is_unknown ≡ true
    seconds v = right (is_unknown || is_below_one most || has_other ts) (has_second ts) (four_to (is_repeated object_type_tag ts) (is_repeated state_tag ts) (is_repeated cryptographic_algorithm ts) (is_repeated cryptographic_length ts) v)

pub loose_exactly : (ts : Trees) (most : Option ℤ) (is_unknown : Bool) → (is_loose ts most is_unknown ≡ true) ↔ IsLoose ts most is_unknown
loose_exactly ts most is_unknown = (loose_from ts most is_unknown, loose_to ts most is_unknown)
