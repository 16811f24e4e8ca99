use Rattle.std.proofs.Common.{◌∙◌, ◌+◌, List, map, sym, subst, arith}
use Rattle.std.proofs.lemmas.List.{length-map}
use Rattle.kmipa_store.specs.Ledger.{LedgerState}
use Rattle.kmipa_msgs.specs.Messages.{rules_of}
use Rattle.kmipa_orders.specs.Candidates.{candidate_step}
use Rattle.kmipa_orders.specs.Reaching.{IsJudged, TellsAhead}
use Rattle.kmipa_orders.specs.declared.stuck.NextCall.{NextCall}
use Rattle.kmipa_check.proofs.PlaceLemmas.{contains_at, mapped_at}
use Rattle.kmipa_orders.proofs.ReachedLemmas.{told_next, tells_more, tells_all, tells_past}
use Rattle.kmipa_orders.proofs.reaching.judge_next.Goals as goal

pub returns-in_default-clause-told : goal.returns-in_default-clause-told
returns-in_default-clause-told g c = λ declared taken is begun remaining known turn.
    let t = c.calls.invariant.told declared taken is begun remaining known turn in
    tells_all declared (map candidate_step c.args.calls.now) taken c.calls.from c.calls.told.items t (c.in_default.ensures.next taken begun remaining t.cursor)

pub returns-then-place-from-clause-told : goal.returns-then-place-from-clause-told
returns-then-place-from-clause-told g c = λ declared taken is begun remaining known turn.
    let t = c.calls.invariant.told declared taken is begun remaining known turn in
    let f = c.in-Some.ensures.next taken begun remaining t.cursor in
    absurd (omega (arith, f.0, c.if-place-from.true))

pub judge-requires-clause-readable : goal.judge-requires-clause-readable
judge-requires-clause-readable g c =
    c.requires.readable (candidate_step c.index-calls-place.result)
    (contains_at (map candidate_step c.args.calls.now) c.in-Some.place (candidate_step c.index-calls-place.result)
    (mapped_at candidate_step c.args.calls.now c.in-Some.place c.index-calls-place.result c.in-Some.ensures.within c.index-calls-place.is))

pub calls-preserved : goal.calls-preserved
calls-preserved g c =
    let calls = map candidate_step c.args.calls.now in
    let call = candidate_step c.index-calls-place.result in
    let place = c.in-Some.place in
    let told = c.in_ok-judge.field-0 in
    let e = c.in_ok-judge.ensures in
    let there = mapped_at candidate_step c.args.calls.now place c.index-calls-place.result c.in-Some.ensures.within c.index-calls-place.is in
    let M : LedgerState → Type 0 = λ s. IsJudged (rules_of c.args.rules.now) s.now call c.args.turn told.refused in
    let judged = subst M c.calls.invariant.same e.0.1 in
    record {
      same = e.1 ∙ c.calls.invariant.same;
      told = λ declared taken is begun remaining known turn.
          let t = c.calls.invariant.told declared taken is begun remaining known turn in
          let f = c.in-Some.ensures.next taken begun remaining t.cursor in
          let P : List NextCall → Type 0 = λ ts. TellsAhead declared calls taken (place + 1) ts in
          subst P (sym c.in_ok-push.ensures.items)
          (tells_more declared calls taken c.calls.from c.calls.told.items t place told f
          (told_next declared calls taken remaining.next (g.L.Ledger.state c.args.ledger.now).now known c.requires.sound place f.1 (rules_of c.args.rules.now) c.args.turn call told is turn there e.0.0 judged));
    }

pub returns-clause-told : goal.returns-clause-told
returns-clause-told g c = λ declared taken is begun remaining known turn.
    let t = c.calls.invariant.told declared taken is begun remaining known turn in
    tells_past declared (map candidate_step c.args.calls.now) taken c.calls.from c.calls.told.items t (omega (arith, c.calls-test.false, length-map c.args.calls.now candidate_step))
