-- What is found, and how it fails.
use Rattle.std.proofs.Common.{◌≡◌, ℕ, Bool, true, false, ◌==◌, cond, List, [], ◌∷◌, ◌++◌, Option, Some, None, option_to_list, refl, sym, ap, ◌∙◌, append_assoc}
use Rattle.std.proofs.lemmas.List.{append-nil}
use Rattle.std.specs.List.{cons_option}
use Rattle.kmipa_ttlv.specs.Tree.{Tree, Trees, none, more, tag_of}
use Rattle.kmipa_attrs.specs.Fields.{first, every}
use Rattle.kmipa_outside.specs.Demands.{first_in, first_fails, fails}
use Rattle.kmipa_outside.specs.declared.demand.Wanted.{Wanted}
use Rattle.kmipa_outside.specs.declared.demand.Wanted.TheVariants.{There, Typed, MaybeTyped, Nothing, Integer, Count, OneOf, Other, EachTyped, EachName, Once}
use Rattle.kmipa_outside.specs.declared.types.ItemType.{ItemType}

pub first_every : (tag : ℕ) (ts : Trees) → first tag ts ≡ first_in (every tag ts)
unfolding first every
first_every tag none = refl
first_every tag (more t ts) = by (tag_of t == tag) (first_every tag ts)
  where
    by : (b : Bool) → first tag ts ≡ first_in (every tag ts) → cond b (Some t) (first tag ts) ≡ first_in (cond b (t ∷ every tag ts) (every tag ts))
    by true h = refl
    by false h = h

-- what isn't wanted of each is wanted of the first
pub fails_first : (w : Wanted) (ts : List Tree) → ((ty : ItemType) → w ≡ EachTyped ty → ⊥) → (w ≡ EachName → ⊥) → (w ≡ Once → ⊥) → first_fails w (first_in ts) ≡ fails w ts
fails_first (EachTyped ty) ts a b c = absurd (a ty refl)
fails_first EachName ts a b c = absurd (b refl)
fails_first Once ts a b c = absurd (c refl)
fails_first _ ts a b c = refl

-- what is noted, ahead of what is still to be told
pub noted : {A : Type 0} (front rest : List A) (o : Option A) → (front ++ option_to_list o) ++ rest ≡ front ++ cons_option o rest
noted front rest None = ap (λ xs. xs ++ rest) (append-nil front)
noted front rest (Some x) = append_assoc front (x ∷ []) rest
