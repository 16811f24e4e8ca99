use Rattle.std.proofs.Common.{rules, ◌≡◌, ℤ, List, [], ◌∷◌, ◌++◌, map, ap, ◌∙◌}
use Rattle.std.proofs.lemmas.Int.{to_z-of_z}
use mir.Val.{SFits}
use mir.Syntax.{w32}
use Rattle.kmipa_ttlv.specs.ItemTree.{tree}
use Rattle.kmipa_ttlv.specs.Tree.{Tree}
use Rattle.kmipa_record.specs.Witnesses.{turn_of, fill_of, birth_of, call_item, place_item, fill_item, birth_item, aside_place_item}
use Rattle.kmipa_ttlv.specs.declared.item.Item.{Item}
use Rattle.kmipa_record.specs.declared.birth.Birth.{Birth}
use Rattle.kmipa_record.specs.declared.fill.Fill.{Fill}
use Rattle.kmipa_record.proofs.TurnLemmas.{turn_written}
use Rattle.kmipa_record.proofs.turn.write_turn.Goals as goal

pub returns : goal.returns
returns c =
    let fits : SFits w32 c.args.turn.now.call = search rules in
    let first : map tree c.push.new.self.items ≡ call_item c.args.turn.now.call ∷ []
    = ap (map tree) (c.in_ok-push.ensures.items ∙ ap (λ (l : List Item). l ++ c.integer.result ∷ []) c.new-children.ensures.items)
    ∙ ap (λ (t : Tree). t ∷ []) (c.integer.ensures ∙ ap call_item (to_z-of_z w32 c.args.turn.now.call fits)) in
    turn_written (tree c.structure.result) (turn_of c.args.turn.now) c.push.new.self.items c.push_answer.new.children.items c.push_integers.new.children.items c.push_moment.new.children.items
    c.push_fills.new.children.items c.push_births.new.children.items c.push_integers-2.new.children.items
    c.structure.ensures first c.in_ok-push_answer.ensures
    (c.in_ok-push_integers.ensures ∙ ap (λ (l : List ℤ). map tree c.push_answer.new.children.items ++ map place_item l) c.deref.ensures.value)
    c.in_ok-push_moment.ensures
    (c.in_ok-push_fills.ensures ∙ ap (λ (l : List Fill). map tree c.push_moment.new.children.items ++ map fill_item (map fill_of l)) c.deref-2.ensures.value)
    (c.in_ok-push_births.ensures ∙ ap (λ (l : List Birth). map tree c.push_fills.new.children.items ++ map birth_item (map birth_of l)) c.deref-3.ensures.value)
    (c.in_ok-push_integers-2.ensures ∙ ap (λ (l : List ℤ). map tree c.push_births.new.children.items ++ map aside_place_item l) c.deref-4.ensures.value)
