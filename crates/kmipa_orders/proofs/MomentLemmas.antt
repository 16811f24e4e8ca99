-- A search at Time Stamps within a part of a budget, and what is found of the whole.
use Rattle.std.proofs.Common.{◌≡◌, ◌≤◌, ℕ, List, Result, Ok, Err, IfOk, IfErr, sym, subst, arith}
use Rattle.kmipa_record.specs.Marks.{MarkOf}
use Rattle.kmipa_record.specs.Declarations.{DeclarationOf}
use Rattle.kmipa_check.specs.Grants.{GrantsNothing, grants_declared}
use Rattle.kmipa_check.specs.declared.fault.CheckFault.{CheckFault}
use Rattle.kmipa_check.specs.declared.fault.CheckFault.TheVariants as fault
use Rattle.kmipa_orders.specs.ByMoments.{IsKept}
use Rattle.kmipa_orders.specs.Found.{Finds, FindsIn, HasDecided, Searches}
use Rattle.kmipa_orders.specs.declared.found.Found.{Found}
use Rattle.kmipa_orders.specs.declared.found.Found.TheVariants.{Yes, GaveUp, Refuted, Impossible, OutOfTime}

-- what is found within a part of the budget is found within the whole
pub raised : (marks : List MarkOf) (declared : DeclarationOf) (budget kept : ℕ) (found : Found) → IsKept declared budget kept → Finds marks declared kept found → Finds marks declared budget found
raised marks declared budget kept (Yes witness count) k f = (f.0, f.1, omega (arith, f.2, k.few), f.3)
raised marks declared budget kept (GaveUp count) k f = (
  omega (arith, f.0, k.few),
  (
    f.1.0,
    f.1.1,
    λ nothing decided explained.
        let P : ℕ → Type 0 = λ n. HasDecided f.1.0 n count in
        f.1.2 nothing (subst P (sym (k.all nothing)) decided) explained,
  ),
)
raised marks declared budget kept (Refuted count object) k f = (omega (arith, f.0, k.few), f.1, f.2)
raised marks declared budget kept (Impossible count place) k f = (omega (arith, f.0, k.few), f.1, f.2)
raised marks declared budget kept (OutOfTime count after) k f = absurd f

-- and where the seconds are over within a part of it, they are over within the whole
pub raised_over : (seconds : ℕ) (marks : List MarkOf) (declared : DeclarationOf) (budget kept count after : ℕ) → IsKept declared budget kept → FindsIn seconds marks declared kept (OutOfTime count after)
    → FindsIn seconds marks declared budget (OutOfTime count after)
raised_over seconds marks declared budget kept count after k f = (omega (arith, f.0, k.few), f.1, f.2, f.3)

-- where something is granted, giving up decides nothing
pub gives_up : (marks : List MarkOf) (declared : DeclarationOf) (budget steps all : ℕ) → (GrantsNothing (grants_declared declared) → ⊥) → all ≤ budget → Finds marks declared budget (GaveUp steps)
    → Finds marks declared budget (GaveUp all)
gives_up marks declared budget steps all granted few f = (few, (f.1.0, f.1.1, λ nothing decided explained. granted nothing))

-- what a search fails by is no matter of the budget
pub failed : (marks : List MarkOf) (declared : DeclarationOf) (budget kept : ℕ) (f : CheckFault) → Searches marks declared kept (Err f) → Searches marks declared budget (Err f)
failed marks declared budget kept fault.Memory h = tt
failed marks declared budget kept (fault.Outside number side o) h = h
failed marks declared budget kept (fault.Witness f) h = h

-- what is found, or memory ran out
pub answered : (marks : List MarkOf) (declared : DeclarationOf) (budget : ℕ) (result : Result Found CheckFault) → IfOk result (Finds marks declared budget) → IfErr result (λ f. f ≡ fault.Memory)
    → Searches marks declared budget result
answered marks declared budget (Ok found) h fails = h
answered marks declared budget (Err fault.Memory) h fails = tt
answered marks declared budget (Err (fault.Outside number side o)) h fails = absurd cc
answered marks declared budget (Err (fault.Witness f)) h fails = absurd cc
