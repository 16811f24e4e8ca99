use Rattle.std.proofs.Common.{ℤ, map, subst, w32}
use Rattle.std.specs.Prelude.{AllPairs}
use Rattle.std.proofs.lemmas.Int.{to_z-of_z}
use Rattle.kmipa_check.specs.Calls.{call_of}
use Rattle.kmipa_check.specs.Deciding.{Decided}
use Rattle.kmipa_orders.specs.Candidates.{candidate_step}
use Rattle.kmipa_orders.specs.Plain.{ArePlain, AreApart}
use Rattle.kmipa_orders.proofs.AnswerLemmas.{reported_forced}
use Rattle.kmipa_orders.proofs.CandidateLemmas.{plain_own}
use Rattle.kmipa_orders.proofs.PlainLemmas.{plain_begun, plain_closed}
use Rattle.kmipa_orders.proofs.forced.is_forced.Goals as goal

pub returns-in-Some : goal.returns-in-Some
returns-in-Some c = λ r.
    let calls = map call_of c.in_ok-calls.calls.items in
    let steps = map candidate_step c.deref-in-Some.result.now in
    let plain : ArePlain calls steps = plain_own c.in_ok-calls.calls.items c.deref.result.now c.in_ok-own.field-0 c.in-Some.own c.deref-in-Some.result.now c.deref.ensures.value c.in-Some.is c.deref-in-Some.ensures.value c.in_ok-own.ensures in
    let A : ℤ → Type 0 = λ z. Decided c.in_ok-are_apart-in-Some.field-0 (AllPairs (AreApart z) steps) in
    let timed = c.in_ok-calls.ensures.timed r in (
      calls,
      c.in_ok-calls.ensures.read r,
      reported_forced c.args.tolerance calls steps c.in_ok-are_apart-in-Some.field-0 plain
          (subst A (to_z-of_z w32 c.args.tolerance c.ranges.tolerance) (c.in_ok-are_apart-in-Some.ensures (plain_begun calls steps plain timed) (plain_closed calls steps plain timed))),
    )
