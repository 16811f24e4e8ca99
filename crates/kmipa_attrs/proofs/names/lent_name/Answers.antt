use Rattle.std.proofs.Common.{◌∙◌, sym, ap, Ok}
use Rattle.kmipa_ttlv.specs.ViewTree.{view_tree, view_trees}
use Rattle.kmipa_attrs.specs.Tags.{name_type, name_value}
use Rattle.kmipa_attrs.specs.Names.{name_from}
use Rattle.kmipa_attrs.specs.Attributes.{named}
use Rattle.kmipa_attrs.specs.Fields.{at, as_text, as_enumeration}
use Rattle.kmipa_attrs.proofs.NameLemmas.{as_name-none, as_name-some, no_value}
use Rattle.kmipa_attrs.proofs.names.lent_name.Goals as goal
use Rattle.kmipa_attrs.proofs.names.lent_name.Goals.{in-There-enumeration_at, in-Absent}

pub returns-in_default : goal.returns-in_default
returns-in_default c = ap named (as_name-none (view_tree c.args.view.now) (c.in_default.ensures))

pub returns-in_default-text_at : goal.returns-in_default-text_at
returns-in_default-text_at c =
    let ts = view_trees c.in-Some.children in
    ap named (as_name-some (view_tree c.args.view.now) ts (c.in-Some.ensures)
    ∙ no_value c.text_at.result (at as_text name_value ts) (at as_enumeration name_type ts) c.in_default-text_at.not-There c.text_at.ensures)

pub returns-in-Wrong : goal.returns-in-Wrong
returns-in-Wrong c =
    let ts = view_trees c.in-Some.children in
    ap named (as_name-some (view_tree c.args.view.now) ts (c.in-Some.ensures)
    ∙ sym (λ i. name_from (c.in-There.ensures i) (c.in-Wrong.ensures i)))

pub returns : goal.returns
returns c =
    let ts = view_trees c.in-Some.children in
    ap named (as_name-some (view_tree c.args.view.now) ts (c.in-Some.ensures))
    ∙ elim c.match-enumeration_at.branch [
      | in-There-enumeration_at w ↦
          sym (λ i. named (name_from (c.in-There.ensures i) (w.in-There-enumeration_at.ensures i)))
          ∙ (λ i. Ok (record { value = c.in-There.value.now; kind = sym w.kind-is i }))
      | in-Absent w ↦
          sym (λ i. named (name_from (c.in-There.ensures i) (w.in-Absent.ensures i)))
          ∙ (λ i. Ok (record { value = c.in-There.value.now; kind = sym w.kind-is i }))
    ]
