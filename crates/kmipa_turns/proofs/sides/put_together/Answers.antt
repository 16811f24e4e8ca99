use Rattle.std.proofs.Common.{◌≡◌, ◌∙◌, ◌∷◌, [], length, sym, ap, arith}
use Rattle.std.specs.Vec.Iter.{into_iter_items}
use Rattle.kmipa_turns.proofs.FullLemmas.{joined_all, joined_more, nothing_left}
use Rattle.kmipa_turns.proofs.sides.put_together.Goals as goal

pub places-preserved : goal.places-preserved
places-preserved c =
    let at = c.places in
    let steps : into_iter_items at.place-iterator ≡ c.in-Some.place ∷ into_iter_items c.next.new.self = c.in-Some.ensures.steps.0 in
    let asked : into_iter_items at.asks ≡ c.in-Some-next.ask ∷ into_iter_items c.next-in-places.new.self = c.in-Some-next.ensures.items in
    let answered : into_iter_items at.answers ≡ c.in-Some-next-2.answer ∷ into_iter_items c.next-in-places-2.new.self = c.in-Some-next-2.ensures.items in (
      joined_more _ _ _ _ _ _ c.in-Some.place c.in-Some-next.ask c.in-Some-next-2.answer at.places.items c.push.new.self.items c.joined_at.result _ steps asked answered c.in_ok-push.ensures.items c.joined_at.ensures at.invariant.0,
      let was = at.invariant.1 in
          let gone = c.in-Some.ensures.steps.1 in
          let short = ap length steps in
          omega arith,
      let was = at.invariant.2 in
          let gone = c.in-Some-next.ensures.len in
          let short = ap length asked in
          omega arith,
      let was = at.invariant.3 in
          let gone = c.in-Some-next-2.ensures.len in
          let short = ap length answered in
          omega arith,
    )

pub returns : goal.returns
returns c =
    let at = c.places in
    let none = c.in-None.ensures.steps in
    let empty : into_iter_items at.place-iterator ≡ [] = nothing_left _ (sym at.invariant.1 ∙ none.0) in
    joined_all _ c.args.kept.items _ c.args.asks.items _ c.args.answers.items at.places.items _ _ _ c.into_iter-place-iterator.ensures.into_iter_gives.0 c.into_iter-asks.ensures.rest c.into_iter-answers.ensures.rest at.invariant.0 empty
