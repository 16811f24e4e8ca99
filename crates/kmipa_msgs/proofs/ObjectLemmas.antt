-- The object is found.
use Rattle.std.proofs.Common.{◌≡◌, ℕ, Bool, true, false, cond, Option, Some, None, Result, Ok, Err, refl, sym, ap, ◌∙◌}
use Rattle.kmipa_ttlv.specs.Tree.{Tree, Trees, none, more}
use Rattle.kmipa_ttlv.specs.ViewTree.{view_tree}
use Rattle.kmipa_ttlv.specs.declared.view.View.{View}
use Rattle.kmipa_attrs.specs.Fields.{typed, field_of, first, inside, in_field, or_none, as_structure}
use Rattle.kmipa_attrs.specs.Tags.{key_block}
use Rattle.kmipa_attrs.specs.Readings.{needed}
use Rattle.kmipa_attrs.specs.declared.object_type.ObjectType.{ObjectType}
use Rattle.kmipa_ttlv.proofs.ViewTreeLemmas.{tag_of-view}
use Rattle.kmipa_msgs.specs.declared.kind.OutsideKind.{OutsideKind}
use Rattle.kmipa_msgs.specs.declared.kind.OutsideKind.TheVariants.{Missing}
use Rattle.kmipa_msgs.specs.Objects.{is_object, object_in, shape_of, as_shape, shape_in, block_inside}

pub object_none : (ts : Trees) → ts ≡ none → object_in ts ≡ None
unfolding object_in
object_none ts is = ap object_in is

-- the first child that is left
object_at : (ts us : Trees) (v : View) (b : Bool) → ts ≡ more (view_tree v) us → is_object v.tag.number ≡ b → object_in ts ≡ cond b (Some (view_tree v)) (object_in us)
unfolding object_in
object_at ts us v b is e =
    ap object_in is
    ∙ ap (λ (n : ℕ). cond (is_object n) (Some (view_tree v)) (object_in us)) (tag_of-view v.tag.number v.value)
    ∙ ap (λ (k : Bool). cond k (Some (view_tree v)) (object_in us)) e

pub object_found : (ts us : Trees) (v : View) → ts ≡ more (view_tree v) us → is_object v.tag.number ≡ true → object_in ts ≡ Some (view_tree v)
object_found ts us v is e = object_at ts us v true is e

pub object_passed : (ts us : Trees) (v : View) → ts ≡ more (view_tree v) us → is_object v.tag.number ≡ false → object_in ts ≡ object_in us
object_passed ts us v is e = object_at ts us v false is e

-- the shape and the Key Block of an object, and of none
pub no_shape : (ts : Trees) → None ≡ object_in ts → Err Missing ≡ needed (shape_in ts) Missing Missing
no_shape ts e = ap (λ (o : Option Tree). needed (typed as_shape o) Missing Missing) e

pub no_block : (ts us : Trees) → us ≡ none → None ≡ object_in ts → us ≡ block_inside ts
unfolding first
no_block ts us is e = is ∙ ap (λ (o : Option Tree). inside key_block (in_field (typed as_structure o))) e

pub no_structure : (us : Trees) (t : Tree) → us ≡ none → None ≡ as_structure t → us ≡ inside key_block (or_none (as_structure t))
unfolding first
no_structure us t is e = is ∙ ap (λ (o : Option Trees). inside key_block (or_none o)) e

in_either : (o : Option Trees) → or_none o ≡ in_field (field_of (Some o))
in_either None = refl
in_either (Some us) = refl

pub block_at : (ts us : Trees) (t : Tree) → us ≡ inside key_block (or_none (as_structure t)) → Some t ≡ object_in ts → us ≡ block_inside ts
block_at ts us t is e = is ∙ ap (inside key_block) (in_either (as_structure t)) ∙ ap (λ (o : Option Tree). inside key_block (in_field (typed as_structure o))) e

pub shape_at : (ts : Trees) (v : View) (s : ObjectType) → Some (view_tree v) ≡ object_in ts → s ≡ shape_of v.tag.number → Ok s ≡ needed (shape_in ts) Missing Missing
shape_at ts v s h e = ap ok (e ∙ sym (ap shape_of (tag_of-view v.tag.number v.value))) ∙ ap (λ (o : Option Tree). needed (typed as_shape o) Missing Missing) h
  where
    ok : ObjectType → Result ObjectType OutsideKind
    ok m = Ok m
