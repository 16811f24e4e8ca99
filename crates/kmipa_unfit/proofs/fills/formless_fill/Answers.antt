use Rattle.std.proofs.Common.{rules, ◌≡◌, ◌∙◌, ℤ, pos, ◌≤ℤ◌, Option, Some, length, map, vec_len, refl, sym, ap, subst, arith}
use mir.Val.{SFits}
use mir.Syntax.{w32}
use Rattle.std.proofs.lemmas.Int.{to_z-of_z}
use Rattle.std.proofs.lemmas.List.{length-map}
use Rattle.kmipa_msgs.specs.Messages.{AskOf, ask_of, request_of, response_of}
use Rattle.kmipa_record.specs.Witnesses.{fill_of}
use Rattle.kmipa_check.proofs.FillLemmas.{pair_left}
use Rattle.kmipa_check.proofs.FillingLemmas.{fill_for, wanted_from_one, wanted_place, wanted_within}
use Rattle.kmipa_check.proofs.PlaceLemmas.{mapped_at}
use Rattle.kmipa_msgs.specs.declared.kind.OutsideKind.{OutsideKind}
use Rattle.kmipa_unfit.specs.FillFinding.{FillSays}
use Rattle.kmipa_unfit.specs.UnfitFills.{IsFormlessAt}
use Rattle.kmipa_unfit.specs.UnfitParts.{number_asked}
use Rattle.kmipa_unfit.proofs.BelowLemmas.{below_more}
use Rattle.kmipa_unfit.proofs.FormlessLemmas.{formed_here, says_form, some_formless}
use Rattle.kmipa_unfit.proofs.fills.formless_fill.Goals as goal

pub item_place-place-requires : goal.item_place-place-requires
item_place-place-requires c =
    let fits : SFits w32 c.index-fills-at.result.item = search rules in
    let there = mapped_at fill_of c.args.fills.now c.fills.at c.index-fills-at.result c.fills-test.true c.index-fills-at.is in
    let P : ℤ → Type 0 = λ z. pos 1 ≤ℤ z in
    subst P (sym (to_z-of_z w32 c.index-fills-at.result.item fits))
    (wanted_from_one (request_of c.args.request.now) (response_of c.args.response.now) (map fill_of c.args.fills.now) c.fills.at (fill_of c.index-fills-at.result) c.requires.wanted there)

pub index-ask-requires : goal.index-ask-requires
index-ask-requires c =
    let fits : SFits w32 c.index-fills-at.result.item = search rules in
    let there = mapped_at fill_of c.args.fills.now c.fills.at c.index-fills-at.result c.fills-test.true c.index-fills-at.is in
    let its = fill_for c.index-fills-at.result c.item_place-place.result fits c.item_place-place.ensures in
    let request = request_of c.args.request.now in
    let response = response_of c.args.response.now in
    let fills = map fill_of c.args.fills.now in
    let fill = fill_of c.index-fills-at.result in
    let w = wanted_within request response c.item_place-place.result (wanted_place request response fills c.fills.at fill c.item_place-place.result c.requires.wanted there its) in
    let asked : vec_len c.args.request.now.items ≡ length c.args.request.now.items.items = search rules in
    omega (arith, w.0, asked, length-map c.args.request.now.items.items ask_of)

pub returns-in-Some : goal.returns-in-Some
returns-in-Some c =
    let fits : SFits w32 c.index-fills-at.result.item = search rules in
    let there = mapped_at fill_of c.args.fills.now c.fills.at c.index-fills-at.result c.fills-test.true c.index-fills-at.is in
    let its = fill_for c.index-fills-at.result c.item_place-place.result fits c.item_place-place.ensures in
    let request = request_of c.args.request.now in
    let response = response_of c.args.response.now in
    let fills = map fill_of c.args.fills.now in
    let fill = fill_of c.index-fills-at.result in
    let w = wanted_place request response fills c.fills.at fill c.item_place-place.result c.requires.wanted there its in
    let inside = wanted_within request response c.item_place-place.result w in
    let asked = mapped_at ask_of c.args.request.now.items.items c.item_place-place.result c.index-ask.result.now (omega (arith, inside.0, length-map c.args.request.now.items.items ask_of)) c.index-ask.ensures in
    let left = pair_left request.items response.items c.item_place-place.result w.0 w.1 w.2.there in
    let same : ask_of c.index-ask.result.now ≡ w.0 = cc in
    let K : Option OutsideKind → Type 0 = λ k. FillSays fill (ask_of c.index-ask.result.now) k in
    let A : AskOf → Type 0 = λ a. FillSays fill a (Some c.in-Some.kind) in
    record {
      place = c.fills.at;
      counted = refl;
      fill = fill;
      there = there;
      at = c.item_place-place.result;
      item = refl;
      names = its;
      ask = w.0;
      answer = w.1;
      waits = w.2;
      operation = c.number.ensures ∙ ap (λ (a : AskOf). number_asked a) same;
      formless = subst A same (subst K c.in-Some.is c.in_ok-kind.ensures);
      before = c.fills.invariant;
    }

pub fills-preserved : goal.fills-preserved
fills-preserved c =
    let fits : SFits w32 c.index-fills-at.result.item = search rules in
    let there = mapped_at fill_of c.args.fills.now c.fills.at c.index-fills-at.result c.fills-test.true c.index-fills-at.is in
    let its = fill_for c.index-fills-at.result c.item_place-place.result fits c.item_place-place.ensures in
    let request = request_of c.args.request.now in
    let response = response_of c.args.response.now in
    let fills = map fill_of c.args.fills.now in
    let fill = fill_of c.index-fills-at.result in
    let w = wanted_place request response fills c.fills.at fill c.item_place-place.result c.requires.wanted there its in
    let inside = wanted_within request response c.item_place-place.result w in
    let asked = mapped_at ask_of c.args.request.now.items.items c.item_place-place.result c.index-ask.result.now (omega (arith, inside.0, length-map c.args.request.now.items.items ask_of)) c.index-ask.ensures in
    below_more (λ place. IsFormlessAt request response fills place → ⊥) c.fills.at
    (formed_here request response fills c.fills.at fill c.item_place-place.result (ask_of c.index-ask.result.now) there its asked
    (says_form fill (ask_of c.index-ask.result.now) c.in_ok-kind.field-0 c.in_ok-kind.ensures c.in_default.not-Some)) c.fills.invariant

pub returns : goal.returns
returns c =
    absurd (some_formless (request_of c.args.request.now) (response_of c.args.response.now) (map fill_of c.args.fills.now) c.fills.at
    (omega (arith, c.fills-test.false, length-map c.args.fills.now fill_of)) c.fills.invariant c.requires.formless)
