use Rattle.std.proofs.Common.{◌≡◌, ℕ, Bool, true, map, length, refl, subst, arith, rules}
use Rattle.std.proofs.lemmas.List.{length-map}
use Rattle.std.proofs.lemmas.Option.{get_or_from_slice_get}
use Rattle.kmipa_store.specs.Ledger.{cards_of}
use Rattle.kmipa_orders.specs.Candidates.{candidate_step}
use Rattle.kmipa_orders.specs.Taken.{no_step}
use Rattle.kmipa_orders.specs.Settled.{AreApartTo, Marks}
use Rattle.kmipa_check.proofs.PlaceLemmas.{mapped_at}
use Rattle.kmipa_orders.proofs.LoneLemmas.{marked_none, marked_next}
use Rattle.kmipa_orders.proofs.settled.are_apart.Goals as goal

pub calls-init : goal.calls-init
calls-init g c = record {
  within = omega arith;
  marked = marked_none (map candidate_step c.args.calls.now) (cards_of (g.L.Ledger.state c.args.ledger.now).now.objects) c.in_ok-marks.marks.items;
}

pub calls-preserved : goal.calls-preserved
calls-preserved g c =
    let calls = map candidate_step c.args.calls.now in
    let s = candidate_step c.index-calls-count.result in
    let cs = cards_of (g.L.Ledger.state c.args.ledger.now).now.objects in
    let there = mapped_at candidate_step c.args.calls.now c.calls.count c.index-calls-count.result (omega (arith, c.calls-test.true)) c.index-calls-count.is in
    let apart : c.is_apart.result ≡ true = search rules in
    let P : Bool → Type 0 = λ b. Marks cs s c.calls.marks.items b c.is_apart.new.marks.items in
    record {
      within = omega (arith, c.calls-test.true);
      marked = marked_next calls cs c.calls.count s c.calls.marks.items c.is_apart.new.marks.items c.calls.invariant.marked (get_or_from_slice_get calls c.calls.count s no_step there) refl (subst P apart c.is_apart.ensures);
    }

pub returns : goal.returns
returns g c = λ t.
    let calls = map candidate_step c.args.calls.now in
    let P : ℕ → Type 0 = λ n. AreApartTo calls n in
    let whole : c.calls.count ≡ length calls = (let w = c.calls.invariant.within in omega (arith, w, c.calls-test.false, length-map c.args.calls.now candidate_step)) in
    subst P whole c.calls.invariant.marked.apart
