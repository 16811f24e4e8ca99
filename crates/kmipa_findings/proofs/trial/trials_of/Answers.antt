use Rattle.std.proofs.Common.{◌≡◌, ◌∙◌, ℕ, List, Option, Some, map, length, slice_get, sym, subst, arith}
use Rattle.std.specs.Prelude.{All, IfSome, vec_len}
use Rattle.std.proofs.lemmas.List.Elements.{All-push}
use Rattle.kmipa_check.specs.Grants.{grants_of}
use Rattle.kmipa_check.proofs.PlaceLemmas.{get_at}
use Rattle.kmipa_turns.specs.Recorded.{recorded_of}
use Rattle.kmipa_findings.specs.Exhausting.{IsTried}
use Rattle.kmipa_findings.specs.Seeking.{IsTakableTrial}
use Rattle.kmipa_findings.specs.declared.trial.Trial.{Trial}
use Rattle.kmipa_findings.proofs.TriedLemmas.{AreTriedUpTo, bare_at, tried_more}
use Rattle.kmipa_findings.proofs.trial.trials_of.Goals as goal

pub trial_of-requires : goal.trial_of-requires
trial_of-requires c =
    let T : ℕ → Type 0 = λ n. slice_get c.args.turns.now n ≡ Some c.in-Some-turn_at.turn.now in
    let C : ℕ → Type 0 = λ n. slice_get c.args.calls.now n ≡ Some c.in-Some.call.now in
    let turn = subst T c.len-in-calls-2.ensures c.in-Some-turn_at.ensures.turn in
    let call = subst C c.len-in-calls.ensures c.in-Some.ensures.call in
    bare_at c.args.turns.now c.args.calls.now c.requires (vec_len c.calls.trials) c.in-Some-turn_at.turn.now c.in-Some.call.now turn call

pub calls-preserved : goal.calls-preserved
calls-preserved c =
    let g = grants_of c.args.grants.now in
    let calls = map recorded_of c.args.calls.now in
    let O : Option Trial → Type 0 = λ o. IfSome o IsTakableTrial in
    let W : Option Trial → Type 0 = λ o. IfSome o (λ t. IsTried g (recorded_of c.in-Some.call.now) t.way) in
    let Q : List Trial → Type 0 = λ xs. All IsTakableTrial xs in
    let T : List Trial → Type 0 = λ xs. AreTriedUpTo g calls xs in
    let C : ℕ → Type 0 = λ n. slice_get c.args.calls.now n ≡ Some c.in-Some.call.now in
    let call = subst C (c.len-in-calls.ensures ∙ c.calls.trials.ok.0) c.in-Some.ensures.call in
    record {
      takable = subst Q (sym c.in_ok-push-in-Some-2.ensures.items) (All-push IsTakableTrial c.calls.trials.items c.in-Some-2.trial c.calls.invariant.takable (subst O c.in-Some-2.is c.in_ok-trial.ensures.takable));
      within = omega (arith, c.calls-test.true, c.len.ensures, c.in_ok-push-in-Some-2.ensures.len);
      tried = subst T (sym c.in_ok-push-in-Some-2.ensures.items)
          (tried_more g calls c.calls.trials.items c.in-Some-2.trial (recorded_of c.in-Some.call.now) (get_at recorded_of c.args.calls.now (length c.calls.trials.items) c.in-Some.call.now call)
          (subst W c.in-Some-2.is c.in_ok-trial.ensures.tried) c.calls.invariant.tried);
    }

pub returns-in-None-clause-none : goal.returns-in-None-clause-none
returns-in-None-clause-none c = λ none.
    let C : ℕ → Type 0 = λ n. slice_get c.args.calls.now n ≡ Some c.in-Some.call.now in
    let call = subst C c.len-in-calls.ensures c.in-Some.ensures.call in
    record {
      place = vec_len c.calls.trials;
      call = recorded_of c.in-Some.call.now;
      there = get_at recorded_of c.args.calls.now (vec_len c.calls.trials) c.in-Some.call.now call;
      none = λ s i. c.in_ok-trial.ensures.none c.in-None.is s i;
    }
