use Rattle.std.proofs.Common.{◌≡◌, ◌∙◌, ◌∷◌, [], List, length, vec_len, map, option_map, sym, ap, subst, arith, rules}
use Rattle.std.specs.Vec.Iter.{into_iter_items}
use Rattle.kmipa_msgs.specs.Messages.{answer_of, ask_of}
use Rattle.kmipa_msgs.specs.declared.request.Ask.{Ask}
use Rattle.kmipa_msgs.specs.declared.response.Answer.{Answer}
use Rattle.kmipa_places.specs.Places.{place_of}
use Rattle.kmipa_places.specs.declared.place.Place.{Place}
use Rattle.std.proofs.Common.{Option}
use Rattle.kmipa_turns.specs.Parting.{AreSides, sides_of}
use Rattle.kmipa_turns.proofs.FullLemmas.{nothing_left, parted_all, parted_more, parted_none}
use Rattle.kmipa_turns.proofs.sides.Sides.of.Goals as goal

pub places-init : goal.places-init
places-init c =
    let gives = c.into_iter-place-iterator.ensures.into_iter_gives in
    let len : vec_len c.args.places ≡ length c.args.places.items = search rules in (
      parted_none _ (sides_of (record { asks = c.new.result; answers = c.new-2.result; kept = c.new-3.result })) (ap (λ (l : List Ask). map ask_of l) c.new.ensures.items)
          (ap (λ (l : List Answer). map answer_of l) c.new-2.ensures.items) (ap (λ (l : List (Option Place)). map (option_map place_of) l) c.new-3.ensures.items),
      gives.1 ∙ len ∙ sym (ap length gives.0),
    )

pub places-preserved : goal.places-preserved
places-preserved c =
    let steps : into_iter_items c.places.place-iterator ≡ c.in-Some.place ∷ into_iter_items c.next.new.self = c.in-Some.ensures.steps.0 in (
      parted_more _ _ _ (place_of c.in-Some.place) (sides_of c.places.sides) (sides_of c.add.new.self) (ap (λ (l : List Place). map place_of l) steps) c.in_ok-add.ensures c.places.invariant.0,
      let was = c.places.invariant.1 in
          let gone = c.in-Some.ensures.steps.1 in
          let short = ap length steps in
          omega arith,
    )

pub returns : goal.returns
returns c =
    let none = c.in-None.ensures.steps in
    let empty : into_iter_items c.places.place-iterator ≡ [] = nothing_left _ (sym c.places.invariant.1 ∙ none.0) in
    let P : List Place → Type 0 = λ ps. AreSides (map place_of ps) (sides_of c.places.sides) in
    subst P c.into_iter-place-iterator.ensures.into_iter_gives.0 (parted_all _ _ (sides_of c.places.sides) (ap (λ (l : List Place). map place_of l) empty) c.places.invariant.0)
