use Rattle.std.proofs.Common.{◌≡◌, ◌∙◌, ◌++◌, ◌∷◌, [], sym, ap, cond, Bool, false, map, Err, rules}
use Rattle.std.proofs.lemmas.List.{map-append}
use Rattle.kmipa_ttlv.specs.ViewTree.{view_tree, view_trees}
use Rattle.kmipa_attrs.specs.Tags.{name_tag}
use Rattle.kmipa_attrs.specs.Sets.{name_of, names_of}
use Rattle.kmipa_attrs.specs.Names.{as_name, with_names}
use Rattle.kmipa_attrs.specs.Readings.{map_ok}
use Rattle.kmipa_attrs.specs.Attributes.{each, all_named, names_in}
use Rattle.kmipa_attrs.proofs.ViewLemmas.{each_next, each_none}
use Rattle.kmipa_attrs.proofs.NameLemmas.{has, lent_name_of, named_some, names_begin, names_more, names_wrong, tracks_none, tracks_same, tracks_more, was_seen, was_unseen}
use Rattle.kmipa_attrs.proofs.names.read_many.Goals as goal

pub children-init : goal.children-init
children-init c =
    let none : names_of c.new-names.result ≡ [] = ap (map name_of) c.new-names.ensures.items in
    (names_begin (each as_name name_tag (view_trees c.args.children)) (names_of c.new-names.result) none, tracks_none (names_of c.new-names.result) c.new-seen.result none c.new-seen.ensures.empty)

pub returns-in_err-name : goal.returns-in_err-name
returns-in_err-name c =
    let ts = view_trees c.children.left in
    let us = view_trees c.next_of.new.self in
    let t = view_tree c.in-Some.child in
    let seen = names_of c.children.names in
    let e : c.from_residual.result ≡ Err c.in_err-name.field-0.0 = search rules in
    let whole = c.children.invariant.0 ∙ ap (λ held. map_ok (with_names seen) (all_named held)) (each_next as_name name_tag ts us t c.in-Some.ensures.next) in
    rw e (names_wrong lent_name_of seen (as_name t) (each as_name name_tag us) (names_in (view_trees c.args.children)) c.in_err-name.field-0.0 c.in_err-name.ensures whole)

pub children-preserved-in_ok-push : goal.children-preserved-in_ok-push
children-preserved-in_ok-push c =
    let ts = view_trees c.children.left in
    let us = view_trees c.next_of.new.self in
    let t = view_tree c.in-Some.child in
    let seen = names_of c.children.names in
    let next = names_of c.push.new.self in
    let k = c.in_ok-name.name in
    let unseen : has seen (lent_name_of k) ≡ false = was_unseen seen k c.children.seen c.in_ok-insert.field-0 c.children.invariant.1 c.in_ok-insert.ensures.added c.if-branch.true in
    let pushed : next ≡ seen ++ lent_name_of k ∷ [] =
    ap (map name_of) c.in_ok-push.ensures.ok
    ∙ map-append name_of c.children.names.items (c.in_ok-copy.field-0 ∷ [])
    ∙ ap (λ n. seen ++ n ∷ []) c.in_ok-copy.ensures in (
      c.children.invariant.0
          ∙ ap (λ held. map_ok (with_names seen) (all_named held)) (each_next as_name name_tag ts us t c.in-Some.ensures.next)
          ∙ names_more seen next (as_name t) (lent_name_of k) (each as_name name_tag us) (named_some (as_name t) (lent_name_of k) c.in_ok-name.ensures)
          (pushed ∙ sym (ap (λ (b : Bool). cond b seen (seen ++ lent_name_of k ∷ [])) unseen)),
      λ n. tracks_more seen k c.children.seen c.insert.new.self c.in_ok-insert.ensures.updates.0 c.children.invariant.1 n ∙ sym (ap (λ us. has us (lent_name_of n)) pushed),
    )

pub children-preserved : goal.children-preserved
children-preserved c =
    let ts = view_trees c.children.left in
    let us = view_trees c.next_of.new.self in
    let t = view_tree c.in-Some.child in
    let seen = names_of c.children.names in
    let k = c.in_ok-name.name in
    let known = was_seen seen k c.children.seen c.in_ok-insert.field-0 c.children.invariant.1 c.in_ok-insert.ensures.added c.if-branch.false in (
      c.children.invariant.0
          ∙ ap (λ held. map_ok (with_names seen) (all_named held)) (each_next as_name name_tag ts us t c.in-Some.ensures.next)
          ∙ names_more seen seen (as_name t) (lent_name_of k) (each as_name name_tag us) (named_some (as_name t) (lent_name_of k) c.in_ok-name.ensures)
          (sym (ap (λ (b : Bool). cond b seen (seen ++ lent_name_of k ∷ [])) known)),
      tracks_same seen c.children.seen c.insert.new.self c.in_ok-insert.field-0 c.in_ok-insert.ensures.unchanged c.if-branch.false c.children.invariant.1,
    )

pub returns : goal.returns
returns c = c.children.invariant.0 ∙ ap (λ held. map_ok (with_names (names_of c.children.names)) (all_named held)) (each_none as_name name_tag (view_trees c.children.left) c.in_default.ensures.next)
