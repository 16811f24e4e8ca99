-- Views and the trees that they are, field by field.
use Rattle.std.proofs.Common.{◌≡◌, ℕ, ℤ, Bool, true, false, ◌==◌, cond, List, [], ◌∷◌, Option, Some, None, MatchOption, refl, sym, ap, ◌∙◌}
use Rattle.std.specs.Option.{option_map}
use Rattle.kmipa_ttlv.specs.Tree.{Tree, Trees, none, more}
use Rattle.kmipa_ttlv.specs.ViewTree.{view_value_tree, view_tree}
use Rattle.kmipa_ttlv.specs.declared.view.View.{View}
use Rattle.kmipa_ttlv.specs.declared.view.ViewValue.{ViewValue}
use Rattle.kmipa_ttlv.specs.declared.view.ViewValue.TheVariants.{Integer, Enumeration, Boolean, Text, Bytes, DateTime}
use Rattle.kmipa_attrs.specs.Fields.{tag_of, first, every, as_integer, as_enumeration, as_boolean, as_text, as_bytes, as_date}
use denote.Bor.{Bor}

-- the first of some trees
abbrev pub first_in : List Tree → Option Tree
first_in [] = None
first_in (t ∷ ts) = Some t

pub first_every : (tag : ℕ) (ts : Trees) → first tag ts ≡ first_in (every tag ts)
unfolding first every
first_every tag none = refl
first_every tag (more t ts) = by (tag_of t == tag) (first_every tag ts)
  where
    by : (b : Bool) → first tag ts ≡ first_in (every tag ts) → cond b (Some t) (first tag ts) ≡ first_in (cond b (t ∷ every tag ts) (every tag ts))
    by true h = refl
    by false h = h

pub first_next : (tag : ℕ) (ts us : Trees) (next : Option View) → MatchOption next (every tag ts ≡ []) (λ v. every tag ts ≡ view_tree v ∷ every tag us) → option_map view_tree next ≡ first tag ts
first_next tag ts us None e = sym (first_every tag ts ∙ ap first_in e)
first_next tag ts us (Some v) e = sym (first_every tag ts ∙ ap first_in e)

pub no_integer : (n : ℕ) (v : ViewValue) → ((x : ℤ) → v ≡ Integer x → ⊥) → as_integer (view_value_tree n v) ≡ None
unfolding as_integer
no_integer n (Integer z) h = absurd (h z refl)
no_integer n _ h = refl

pub no_enumeration : (n : ℕ) (v : ViewValue) → ((x : ℕ) → v ≡ Enumeration x → ⊥) → as_enumeration (view_value_tree n v) ≡ None
unfolding as_enumeration
no_enumeration n (Enumeration z) h = absurd (h z refl)
no_enumeration n _ h = refl

pub no_boolean : (n : ℕ) (v : ViewValue) → ((x : Bool) → v ≡ Boolean x → ⊥) → as_boolean (view_value_tree n v) ≡ None
unfolding as_boolean
no_boolean n (Boolean z) h = absurd (h z refl)
no_boolean n _ h = refl

pub no_text : (n : ℕ) (v : ViewValue) → ((x : Bor (List ℕ)) → v ≡ Text x → ⊥) → as_text (view_value_tree n v) ≡ None
unfolding as_text
no_text n (Text z) h = absurd (h z refl)
no_text n _ h = refl

pub no_bytes : (n : ℕ) (v : ViewValue) → ((x : Bor (List ℕ)) → v ≡ Bytes x → ⊥) → as_bytes (view_value_tree n v) ≡ None
unfolding as_bytes
no_bytes n (Bytes z) h = absurd (h z refl)
no_bytes n _ h = refl

pub no_date : (n : ℕ) (v : ViewValue) → ((x : ℤ) → v ≡ DateTime x → ⊥) → as_date (view_value_tree n v) ≡ None
unfolding as_date
no_date n (DateTime z) h = absurd (h z refl)
no_date n _ h = refl
