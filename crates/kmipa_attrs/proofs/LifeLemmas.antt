-- Where no child tells of the object's life.
use Rattle.std.proofs.Common.{◌≡◌, ℕ, Bool, true, false, ◌==◌, ◌||◌, cond, [], ◌∷◌, Option, None, Result, Ok, refl, sym, ap, ◌∙◌, arith}
use Rattle.std.proofs.lemmas.Bool.Decides.{nat_tests}
use Rattle.kmipa_ttlv.specs.Tree.{Tree, Trees, none, more}
use Rattle.kmipa_ttlv.specs.ViewTree.{view_tree}
use Rattle.kmipa_ttlv.specs.declared.view.View.{View}
use Rattle.kmipa_ttlv.proofs.ViewTreeLemmas.{tag_of-view}
use Rattle.kmipa_attrs.specs.Fields.{tag_of, first, every, as_enumeration, as_date}
use Rattle.kmipa_attrs.specs.Readings.{both}
use Rattle.kmipa_attrs.specs.Tags.{activation_date, compromise_date, deactivation_date, destroy_date, initial_date, state_tag, unique_identifier}
use Rattle.kmipa_attrs.specs.Attributes.{attr_number, folded, single, server_only, server_single, stages_in, ends_in, Stages, Ends, is_of_life, tells_of_life}
use Rattle.kmipa_attrs.specs.declared.fault.AttrFault.{AttrFault}
use Rattle.kmipa_attrs.specs.declared.side.Side.{Side}
use Rattle.kmipa_attrs.specs.declared.side.Side.TheVariants.{Client, Server}
use Rattle.kmipa_attrs.proofs.FieldLemmas.{first_in, first_every}
use Rattle.kmipa_attrs.proofs.SideLemmas.{by_side, given_as}
use Rattle.kmipa_attrs.proofs.ViewLemmas.{each_none}

pub life_next : (ts us : Trees) (v : View) (b : Bool) → ts ≡ more (view_tree v) us → is_of_life v.tag.number ≡ b → tells_of_life ts ≡ (b || tells_of_life us)
unfolding tells_of_life
life_next ts us v b e is = ap tells_of_life e ∙ ap (λ (n : ℕ). is_of_life n || tells_of_life us) (tag_of-view v.tag.number v.value) ∙ ap (λ (k : Bool). k || tells_of_life us) is

pub life_none : (ts : Trees) → ts ≡ none → tells_of_life ts ≡ false
unfolding tells_of_life
life_none ts e = ap tells_of_life e

-- no child has such a tag
neither : (a b : Bool) → (a || b) ≡ false → (a ≡ false) × (b ≡ false)
neither true b e = absurd cc
neither false b e = (refl, e)

another : (k n : ℕ) → is_of_life n ≡ true → is_of_life k ≡ false → (k == n) ≡ false
another k n said free = by (k == n) refl
  where
    by : (b : Bool) → (k == n) ≡ b → (k == n) ≡ false
    by true e =
        let same : k ≡ n = grind (arith, nat_tests, e) in
        let clash : true ≡ false = sym said ∙ ap is_of_life (sym same) ∙ free in
        absurd cc
    by false e = e

silent : (n : ℕ) (ts : Trees) → is_of_life n ≡ true → tells_of_life ts ≡ false → every n ts ≡ []
unfolding tells_of_life every
silent n none said free = refl
silent n (more t ts) said free =
    let parts = neither (is_of_life (tag_of t)) (tells_of_life ts) free in
    ap (λ (b : Bool). cond b (t ∷ every n ts) (every n ts)) (another (tag_of t) n said parts.0) ∙ silent n ts said parts.1

-- so nothing is told
no_value : {A : Type 0} (how : Tree → Option A) (n : ℕ) (ts : Trees) → every n ts ≡ [] → single how n ts ≡ Ok None
no_value how n ts e = ap (folded (Ok None)) (each_none how n ts e)

still_none : {A : Type 0} (side : Side) → ◌≡◌ {A = Result (Option A) AttrFault} (by_side side (Ok None)) (Ok None)
still_none Server = refl
still_none Client = refl

no_given : {A : Type 0} (how : Tree → Option A) (n : ℕ) (side : Side) (ts : Trees) → every n ts ≡ [] → server_single how n side ts ≡ Ok None
no_given how n side ts e = sym (given_as how n side side ts (Ok None) refl (sym (no_value how n ts e))) ∙ still_none side

may_lack : (side : Side) → server_only side None ≡ Ok tt
may_lack Server = refl
may_lack Client = refl

not_there : (n : ℕ) (side : Side) (ts : Trees) → every n ts ≡ [] → server_only side (first n ts) ≡ Ok tt
not_there n side ts e = ap (server_only side) (first_every n ts ∙ ap first_in e) ∙ may_lack side

both_ok : {A B : Type 0} (a : Result A AttrFault) (b : Result B AttrFault) (x : A) (y : B) → a ≡ Ok x → b ≡ Ok y → both attr_number a b ≡ Ok (x, y)
both_ok a b x y e f = ap (λ r. both attr_number r b) e ∙ ap (both attr_number (Ok x)) f

abbrev untold : Stages × Ends
untold = (((None, None), (None, None)), ((None, None), tt))

pub nothing_told : (side : Side) (ts : Trees) → tells_of_life ts ≡ false → both attr_number (stages_in side ts) (ends_in side ts) ≡ Ok untold
nothing_told side ts free =
    let state = no_given as_enumeration state_tag side ts (silent state_tag ts refl free) in
    let initial = no_given as_date initial_date side ts (silent initial_date ts refl free) in
    let activation = no_value as_date activation_date ts (silent activation_date ts refl free) in
    let deactivation = no_value as_date deactivation_date ts (silent deactivation_date ts refl free) in
    let destroy = no_given as_date destroy_date side ts (silent destroy_date ts refl free) in
    let compromise = no_given as_date compromise_date side ts (silent compromise_date ts refl free) in
    let unnamed = not_there unique_identifier side ts (silent unique_identifier ts refl free) in
    let stages : stages_in side ts ≡ Ok untold.0 = both_ok _ _ (None, None) (None, None) (both_ok _ _ None None state initial) (both_ok _ _ None None activation deactivation) in
    let ends : ends_in side ts ≡ Ok untold.1 = both_ok _ _ (None, None) tt (both_ok _ _ None None destroy compromise) unnamed in
    both_ok (stages_in side ts) (ends_in side ts) untold.0 untold.1 stages ends
