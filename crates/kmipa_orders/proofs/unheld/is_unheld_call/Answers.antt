use Rattle.std.proofs.Common.{◌≡◌, ◌∙◌, inl, inr, sym, subst, length, map, vec_len, List, Option, ℕ, ◌+◌, rules, arith}
use Rattle.std.specs.Prelude.{drop}
use Rattle.kmipa_msgs.specs.Messages.{answer_of, ask_of, maybe_lent}
use Rattle.kmipa_check.proofs.PlaceLemmas.{mapped_at}
use Rattle.kmipa_orders.specs.Unheld.{IsUnheldAmong}
use Rattle.kmipa_orders.proofs.UnheldLemmas.{among_from}
use Rattle.kmipa_orders.proofs.unheld.is_unheld_call.Goals as goal

pub returns-then-is_unheld : goal.returns-then-is_unheld
returns-then-is_unheld c = λ e.
    let asked : vec_len c.args.request.now.items ≡ length c.args.request.now.items.items = search rules in
    let said : vec_len c.args.response.now.items ≡ length c.args.response.now.items.items = search rules in
    record {
      ordered = c.if-not-request.false;
      items =
          c.places.invariant
          (among_from (maybe_lent c.places.held) (map ask_of c.args.request.now.items.items) (map answer_of c.args.response.now.items.items) c.places.place
          (ask_of c.index-ask.result.now) (answer_of c.index-answer.result.now)
          (mapped_at ask_of c.args.request.now.items.items c.places.place c.index-ask.result.now (omega (arith, c.places-test.true, c.if-place-len.true, c.len.ensures, c.len-in-places.ensures, asked, said)) c.index-ask.ensures)
          (mapped_at answer_of c.args.response.now.items.items c.places.place c.index-answer.result.now (omega (arith, c.places-test.true, c.if-place-len.true, c.len.ensures, c.len-in-places.ensures, asked, said)) c.index-answer.ensures)
          (inl (c.is_unheld.ensures c.if-is_unheld.true)));
    }

pub places-preserved : goal.places-preserved
places-preserved c = λ u.
    let asked : vec_len c.args.request.now.items ≡ length c.args.request.now.items.items = search rules in
    let said : vec_len c.args.response.now.items ≡ length c.args.response.now.items.items = search rules in
    let P : Option (List ℕ) → Type 0 = λ held.
    IsUnheldAmong held (drop (c.places.place + 1) (map ask_of c.args.request.now.items.items)) (drop (c.places.place + 1) (map answer_of c.args.response.now.items.items)) in
    c.places.invariant
    (among_from (maybe_lent c.places.held) (map ask_of c.args.request.now.items.items) (map answer_of c.args.response.now.items.items) c.places.place
    (ask_of c.index-ask.result.now) (answer_of c.index-answer.result.now)
    (mapped_at ask_of c.args.request.now.items.items c.places.place c.index-ask.result.now (omega (arith, c.places-test.true, c.if-place-len.true, c.len.ensures, c.len-in-places.ensures, asked, said)) c.index-ask.ensures)
    (mapped_at answer_of c.args.response.now.items.items c.places.place c.index-answer.result.now (omega (arith, c.places-test.true, c.if-place-len.true, c.len.ensures, c.len-in-places.ensures, asked, said)) c.index-answer.ensures)
    (inr (sym c.is_whole.ensures ∙ c.if-not-is_whole.false, subst P c.held_after-held.ensures u)))
