use Rattle.std.proofs.Common.{◌≡◌, ◌∙◌, ◌++◌, ◌∷◌, ◌+◌, [], List, true, false, get_or, map, take, sym, ap, subst}
use Rattle.std.proofs.lemmas.List.{map_more}
use Rattle.kmipa_attrs.specs.Sets.{NameOf, name_of}
use Rattle.kmipa_attrs.specs.Names.{HasNoRepeats}
use Rattle.kmipa_attrs.specs.declared.name.Name.{Name}
use Rattle.kmipa_attrs.proofs.DistinctLemmas.{push_differs, repeats_at}
use Rattle.kmipa_attrs.proofs.NameLemmas.{Tracks, has, lent_name_of, tracks_more, was_seen, was_unseen}
use Rattle.kmipa_attrs.proofs.names.many_differ.Goals as goal

pub returns-then-not-branch : goal.returns-then-not-branch
returns-then-not-branch c =
    let ns : List Name = c.args.names.now in
    let i = c.loop-name.name-index in
    let before = map name_of (take i ns) in
    let again : has before (lent_name_of c.of.result) ≡ true =
    was_seen before c.of.result c.loop-name.seen c.in_ok-insert.field-0 c.loop-name.invariant.0 c.in_ok-insert.ensures.added c.if-not-branch.true in
    let here : has before (name_of (get_or ns i c.name-item.result)) ≡ true =
    sym (ap (λ n. has before (name_of n)) c.name-item.is) ∙ sym (ap (has before) c.of.ensures) ∙ again in
    (λ t. absurd cc, λ h. absurd (repeats_at ns i c.name-item.result c.loop-name-test.true here h))

pub loop-name-preserved : goal.loop-name-preserved
loop-name-preserved c =
    let ns : List Name = c.args.names.now in
    let i = c.loop-name.name-index in
    let before = map name_of (take i ns) in
    let k = c.of.result in
    let grown : before ++ lent_name_of k ∷ [] ≡ map name_of (take (i + 1) ns) =
    ap (λ n. before ++ n ∷ []) (c.of.ensures ∙ ap name_of c.name-item.is) ∙ sym (map_more name_of ns i c.name-item.result c.loop-name-test.true) in
    let unseen : has before (lent_name_of k) ≡ false =
    was_unseen before k c.loop-name.seen c.in_ok-insert.field-0 c.loop-name.invariant.0 c.in_ok-insert.ensures.added c.if-not-branch.false in (
      subst (λ (names : List NameOf). Tracks names c.insert.new.self) grown
          (tracks_more before k c.loop-name.seen c.insert.new.self c.in_ok-insert.ensures.updates.0 c.loop-name.invariant.0),
      subst HasNoRepeats grown (push_differs before (lent_name_of k) c.loop-name.invariant.1 unseen),
    )
