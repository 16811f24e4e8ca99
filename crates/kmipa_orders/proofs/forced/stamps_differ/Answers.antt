use Rattle.std.proofs.Common.{◌≡◌, ◌∙◌, ◌<◌, ◌+◌, ℕ, map, length, sym, ap, subst, arith}
use Rattle.std.proofs.lemmas.List.{length-map}
use Rattle.kmipa_orders.specs.Candidates.{candidate_step}
use Rattle.kmipa_orders.specs.Taken.{step_at}
use Rattle.kmipa_orders.specs.Links.{at}
use Rattle.kmipa_orders.specs.Ranks.{IsRanked, ByStamp, HasRank, parts}
use Rattle.kmipa_orders.proofs.CandidateLemmas.{candidates_ended}
use Rattle.kmipa_orders.proofs.ApartLemmas.{placed, not_apart, all_apart, more_parts}
use Rattle.kmipa_orders.proofs.forced.stamps_differ.Goals as goal

pub returns-then-not-is_apart : goal.returns-then-not-is_apart
returns-then-not-is_apart c = λ begun closed.
    let calls = map candidate_step c.args.calls.now in
    let O = c.in_ok-ranks.ranks.order.items in
    let K = c.in_ok-ranks.ranks.rank.items in
    let long : length c.args.calls.now ≡ length calls = sym (length-map c.args.calls.now candidate_step) in
    let P : ℕ → Type 0 = λ n. IsRanked n (ByStamp calls) O K × HasRank n K in
    let r = subst P long c.in_ok-ranks.ensures in
    let within : c.ranks.rank < length calls = omega (arith, c.ranks-test.true, long) in
    let a = (placed calls O K r.0 r.1 c.ranks.rank c.ranks.invariant.some (omega (arith, within))).0 in
    let b = (placed calls O K r.0 r.1 (c.ranks.rank + 1) (omega arith) (omega (arith, within))).0 in
    let reported = c.is_apart.ensures (omega (arith, c.place.ensures, a, long)) (omega (arith, c.place-in-ranks.ensures, b, long)) in
    not_apart calls O K r.0 r.1 begun closed (candidates_ended c.args.calls.now) c.ranks.rank c.ranks.invariant.some within
    (sym (reported ∙ ap (λ (p : ℕ). parts (step_at calls p) (step_at calls c.place-in-ranks.result)) c.place.ensures ∙ ap (λ (q : ℕ). parts (step_at calls (at O c.ranks.rank)) (step_at calls q)) c.place-in-ranks.ensures) ∙ c.if-not-is_apart.true)

pub ranks-preserved : goal.ranks-preserved
ranks-preserved c =
    let calls = map candidate_step c.args.calls.now in
    let O = c.in_ok-ranks.ranks.order.items in
    let K = c.in_ok-ranks.ranks.rank.items in
    let long : length c.args.calls.now ≡ length calls = sym (length-map c.args.calls.now candidate_step) in
    let P : ℕ → Type 0 = λ n. IsRanked n (ByStamp calls) O K × HasRank n K in
    let r = subst P long c.in_ok-ranks.ensures in
    let within : c.ranks.rank < length calls = omega (arith, c.ranks-test.true, long) in
    let a = (placed calls O K r.0 r.1 c.ranks.rank c.ranks.invariant.some (omega (arith, within))).0 in
    let b = (placed calls O K r.0 r.1 (c.ranks.rank + 1) (omega arith) (omega (arith, within))).0 in
    let reported = c.is_apart.ensures (omega (arith, c.place.ensures, a, long)) (omega (arith, c.place-in-ranks.ensures, b, long)) in
    record {
      some = omega arith;
      apart = more_parts calls O c.ranks.rank c.ranks.invariant.apart
          (sym (reported ∙ ap (λ (p : ℕ). parts (step_at calls p) (step_at calls c.place-in-ranks.result)) c.place.ensures ∙ ap (λ (q : ℕ). parts (step_at calls (at O c.ranks.rank)) (step_at calls q)) c.place-in-ranks.ensures) ∙ c.if-not-is_apart.false);
    }

pub returns : goal.returns
returns c = λ begun closed.
    let calls = map candidate_step c.args.calls.now in
    let O = c.in_ok-ranks.ranks.order.items in
    let K = c.in_ok-ranks.ranks.rank.items in
    let long : length c.args.calls.now ≡ length calls = sym (length-map c.args.calls.now candidate_step) in
    let P : ℕ → Type 0 = λ n. IsRanked n (ByStamp calls) O K × HasRank n K in
    let r = subst P long c.in_ok-ranks.ensures in
    all_apart calls O K r.0 r.1 begun closed (candidates_ended c.args.calls.now) (λ s some within. c.ranks.invariant.apart s some (omega (arith, within, c.ranks-test.false, long)))
