use Rattle.std.proofs.Common.{◌≡◌, ◌<◌, ◌∙◌, ℕ, Bool, false, List, [], map, length, reverse, Contains, None, Some, Vec, Global, refl, sym, ap, subst, arith}
use Rattle.std.specs.Prelude.{option_map}
use Rattle.std.proofs.lemmas.List.{length-map, length-reverse, reverse-reverse}
use Rattle.kmipa_msgs.specs.Messages.{rules_of}
use Rattle.kmipa_orders.specs.Candidates.{candidate_step}
use Rattle.kmipa_orders.specs.Descents.{Progress, IsBack}
use Rattle.kmipa_orders.specs.Outcomes.{InTime, KeepsBudget}
use Rattle.kmipa_orders.specs.Progress.{AreBegun, ComesTo, places}
use Rattle.kmipa_orders.specs.Tries.{IsPick, IsPicked}
use Rattle.kmipa_orders.specs.declared.order.Outcome.{Outcome}
use Rattle.kmipa_orders.specs.declared.tried.Visit.{Visit}
use Rattle.kmipa_orders.proofs.PickLemmas.{wishes_above}
use Rattle.kmipa_orders.proofs.ProgressLemmas.{progress_stop, progress_found, progress_end, no_elements, some_behind, within_reversed, places_reversed}
use Rattle.kmipa_orders.proofs.order.Descent.search.Goals as goal

pub returns-then-self-budget-clause-tells : goal.returns-then-self-budget-clause-tells
returns-then-self-budget-clause-tells g c = λ declared o.
    let calls = map candidate_step c.args.calls.now in
    let s = c.tries.self in
    let d = c.tries.invariant.descends in
    let W = s.wishes in
    let visits = reverse s.path.items in
    let rules = rules_of c.args.rules.now in
    let first = (g.L.Ledger.state c.args.ledger.now).now in
    let u = g.L.Ledger.state c.tries.ledger in
    let ranks = wishes_above (length calls) (length calls) W refl d.ranked in
    let f : AreBegun calls → IsPick calls (places visits) W.rank.items s.tried c.in-Some.pick.place c.in-Some.pick.tried = c.in-Some.ensures.picked rules c.args.budget first u d in
    let P : Outcome → Type 0 = λ l. InTime l.over (ComesTo declared calls c.args.budget (option_map (λ (v : Vec ℕ Global). v.items) l.order) l.steps) in
    subst P (sym c.given_up.ensures)
    (progress_stop rules calls W.rank.items ranks c.args.budget first s.remaining visits s.tried s.depth s.steps u d.progress
    c.in-Some.pick.place c.in-Some.pick.tried f c.if-self-budget.true declared o
    (omega (arith, c.tries-test.true, c.len.ensures, length-reverse s.path.items, length-map c.args.calls.now candidate_step)))

pub returns-then-self-budget-clause-bounded : goal.returns-then-self-budget-clause-bounded
returns-then-self-budget-clause-bounded g c =
    let P : Outcome → Type 0 = λ l. KeepsBudget c.args.budget l in
    subst P (sym c.given_up.ensures) (c.tries.invariant.descends.progress.few, tt)

pub tries-preserved-in_ok-step-in-Some : goal.tries-preserved-in_ok-step-in-Some
tries-preserved-in_ok-step-in-Some g c = record {
  descends = (
      let d = c.tries.invariant.descends in
      let first = (g.L.Ledger.state c.args.ledger.now).now in
      c.in_ok-step-in-Some.ensures.descends first c.args.budget d (c.in-Some.ensures.picked (rules_of c.args.rules.now) c.args.budget first (g.L.Ledger.state c.tries.ledger) d)
      (let few = d.progress.few in let differ = c.if-self-budget.false in omega (arith, few, differ)));
  watch = c.in_ok-step-in-Some.ensures.watch ∙ c.tries.invariant.watch;
}

pub go_back-requires-clause-deep : goal.go_back-requires-clause-deep
go_back-requires-clause-deep g c = λ some. c.tries.invariant.descends.progress.deep (omega (arith, some, length-reverse c.tries.self.path.items))

pub go_back-requires-clause-marked : goal.go_back-requires-clause-marked
go_back-requires-clause-marked g c = λ some.
    let visits = reverse c.tries.self.path.items in
    let long : 0 < length visits = omega (arith, some, length-reverse c.tries.self.path.items) in
    let there = some_behind (places visits) (g.L.Ledger.state c.tries.ledger).marks (omega (arith, long, length-map visits (λ (x : Visit). x.place))) c.tries.invariant.descends.progress.after in
    omega (arith, c.tries.invariant.descends.progress.deep long, there)

pub returns-then-not-branch-clause-tells : goal.returns-then-not-branch-clause-tells
returns-then-not-branch-clause-tells g c = λ declared o.
    let calls = map candidate_step c.args.calls.now in
    let s = c.tries.self in
    let d = c.tries.invariant.descends in
    let W = s.wishes in
    let rules = rules_of c.args.rules.now in
    let first = (g.L.Ledger.state c.args.ledger.now).now in
    let u = g.L.Ledger.state c.tries.ledger in
    let ranks = wishes_above (length calls) (length calls) W refl d.ranked in
    let B : Bool → Type 0 = λ b. IsBack s c.go_back.new.self b in
    let back : IsBack s c.go_back.new.self false = subst B c.if-not-branch.true c.in_ok-go_back-in-None.ensures.moves in
    let empty : s.path.items ≡ [] = no_elements s.path.items back.1 in
    let T : List Visit → Type 0 = λ xs. Progress rules calls W.rank.items c.args.budget first s.remaining (reverse xs) s.tried s.depth s.steps u in
    let N : List Visit → Type 0 = λ xs. IsPicked calls (places (reverse xs)) W.rank.items s.tried None in
    let none : AreBegun calls → IsPicked calls [] W.rank.items s.tried None = λ b. subst N empty (c.in-None.ensures.picked rules c.args.budget first u d b) in
    let S : ℕ → Type 0 = λ n. ComesTo declared calls c.args.budget None n in
    let P : Outcome → Type 0 = λ l. InTime l.over (ComesTo declared calls c.args.budget (option_map (λ (v : Vec ℕ Global). v.items) l.order) l.steps) in
    subst P (sym c.given_up-then-not-branch.ensures)
    (subst S (sym back.0)
    (progress_end rules calls W.rank.items ranks c.args.budget first s.remaining s.tried s.depth s.steps u (subst T empty d.progress) none
    (omega (arith, c.tries-test.true, length-map c.args.calls.now candidate_step)) declared o))

pub returns-then-not-branch-clause-bounded : goal.returns-then-not-branch-clause-bounded
returns-then-not-branch-clause-bounded g c =
    let s = c.tries.self in
    let B : Bool → Type 0 = λ b. IsBack s c.go_back.new.self b in
    let back : IsBack s c.go_back.new.self false = subst B c.if-not-branch.true c.in_ok-go_back-in-None.ensures.moves in
    let few = c.tries.invariant.descends.progress.few in
    let P : Outcome → Type 0 = λ l. KeepsBudget c.args.budget l in
    subst P (sym c.given_up-then-not-branch.ensures) (omega (arith, few, back.0), tt)

pub tries-preserved : goal.tries-preserved
tries-preserved g c = record {
  descends = (
      let d = c.tries.invariant.descends in
      let rules = rules_of c.args.rules.now in
      let first = (g.L.Ledger.state c.args.ledger.now).now in
      c.in_ok-go_back-in-None.ensures.descends rules first c.args.budget d (c.in-None.ensures.picked rules c.args.budget first (g.L.Ledger.state c.tries.ledger) d)
      (omega (arith, c.tries-test.true, c.len.ensures)) c.if-not-branch.false);
  watch = c.in_ok-go_back-in-None.ensures.watch ∙ c.tries.invariant.watch;
}

pub returns-clause-within : goal.returns-clause-within
returns-clause-within g c =
    let visits = reverse c.tries.self.path.items in
    let same = places_reversed c.tries.self.path.items ∙ ap places (sym c.deref.ensures.value) ∙ sym c.in_ok-places.ensures in
    let e : reverse c.in_ok-places.field-0.items ≡ places visits = ap reverse (sym same) ∙ reverse-reverse (places visits) in
    within_reversed (length c.args.calls.now) c.in_ok-places.field-0.items
    (λ p has. let P : List ℕ → Type 0 = λ ps. Contains ps p in let below = c.tries.invariant.descends.progress.within p (subst P e has) in omega (arith, below, length-map c.args.calls.now candidate_step))

pub returns-clause-bounded : goal.returns-clause-bounded
returns-clause-bounded g c =
    let s = c.tries.self in
    let d = c.tries.invariant.descends in
    let paid = d.paid in (
      d.progress.few,
      omega (arith, paid, ap length c.in_ok-places.ensures, length-map s.path.items (λ (v : Visit). v.place), ap (λ (vs : List Visit). length (places vs)) c.deref.ensures.value),
    )

pub returns-clause-tells : goal.returns-clause-tells
returns-clause-tells g c = λ declared o.
    let calls = map candidate_step c.args.calls.now in
    let s = c.tries.self in
    let d = c.tries.invariant.descends in
    let W = s.wishes in
    let ranks = wishes_above (length calls) (length calls) W refl d.ranked in
    let P : List ℕ → Type 0 = λ xs. ComesTo declared calls c.args.budget (Some xs) s.steps in
    subst P (places_reversed s.path.items ∙ ap places (sym c.deref.ensures.value) ∙ sym c.in_ok-places.ensures)
    (progress_found (rules_of c.args.rules.now) calls W.rank.items ranks c.args.budget (g.L.Ledger.state c.args.ledger.now).now s.remaining (reverse s.path.items) s.tried s.depth s.steps (g.L.Ledger.state c.tries.ledger) d.progress
    declared o (omega (arith, c.tries-test.false, c.len.ensures, length-reverse s.path.items, length-map c.args.calls.now candidate_step)))
