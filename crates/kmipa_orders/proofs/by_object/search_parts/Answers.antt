use Rattle.std.proofs.Common.{◌≡◌, ◌∙◌, ℕ, List, map, Option, Vec, option_map, refl, sym, ap, subst}
use Rattle.std.specs.declared.alloc.Global.{Global}
use Rattle.kmipa_store.specs.States.{state_of_journal}
use Rattle.kmipa_record.specs.Declarations.{DeclarationOf, AreDeclared, declaration_of}
use Rattle.kmipa_msgs.specs.Messages.{lent, rules_of}
use Rattle.kmipa_parts.specs.Parts.{is_among}
use Rattle.kmipa_orders.specs.ByObject.{declared_on, part_step}
use Rattle.kmipa_orders.specs.Candidates.{candidate_step}
use Rattle.kmipa_orders.specs.Progress.{AllReadable, ComesTo}
use Rattle.kmipa_orders.specs.Outcomes.{InTime}
use Rattle.kmipa_orders.specs.declared.candidate.Candidate.{Candidate}
use Rattle.kmipa_orders.proofs.PartLemmas.{declared_part, opens_parts, without_order}
use Rattle.kmipa_orders.proofs.by_object.search_parts.Goals as goal

pub open_ledger-requires : goal.open_ledger-requires
open_ledger-requires c =
    let P : DeclarationOf → Type 0 = λ d. AreDeclared d in
    subst P (sym c.in_ok-declared.ensures) (declared_part (is_among (map lent c.args.ids.now)) (declaration_of c.args.declaration.now) c.requires)

pub find_order-requires-clause-readable : goal.find_order-requires-clause-readable
find_order-requires-clause-readable c =
    let P : List Candidate → Type 0 = λ xs. AllReadable (map candidate_step xs) in
    subst P (c.deref.ensures.value ∙ sym c.deref-2.ensures.value) (c.if-not-are_readable.ensures refl)

pub returns : goal.returns
returns c = λ orderly is.
    let own = is_among (map lent c.args.ids.now) in
    let declared = declaration_of c.args.declaration.now in
    let parts = map part_step c.args.parts.now in
    let steps = map candidate_step c.deref-2.result.now in
    let same : steps ≡ parts = ap (λ (xs : List Candidate). map candidate_step xs) c.deref-2.ensures.value ∙ c.in_ok-own.ensures in
    let o = opens_parts own declared (declaration_of c.in_ok-declared.declared) (rules_of c.in_ok-rules.rules) parts steps (state_of_journal c.in_ok-ledger.ledger).now c.check_laws.ensures c.in_ok-declared.ensures c.in_ok-rules.ensures c.in_ok-ledger.ensures.opened same orderly in
    let T : Option ℕ → Type 0 = λ over. InTime over (ComesTo (declared_on own declared) steps c.args.most (option_map (λ (x : Vec ℕ Global). x.items) c.in_ok-outcome.outcome.order) c.in_ok-outcome.outcome.steps) in
    let tells = subst T (c.has_decided.ensures.in_time is) (c.in_ok-outcome.ensures.tells (declared_on own declared) o) in
    let P : Option (Vec ℕ Global) → Type 0 = λ v. ComesTo (declared_on own declared) steps c.args.most (option_map (λ (x : Vec ℕ Global). x.items) v) c.in_ok-outcome.outcome.steps in
    without_order (declared_on own declared) steps parts c.args.most c.in_ok-outcome.outcome.steps same
    (subst P (c.has_decided.ensures.none is) tells) (c.has_decided.ensures.less is)
