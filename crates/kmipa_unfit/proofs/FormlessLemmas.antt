-- Fills that aren't of their form.
use Rattle.std.proofs.Common.{◌≡◌, ◌≤◌, ℕ, ◌+◌, pos, List, length, Option, Some, None, slice_get, refl, sym, ◌∙◌, subst, arith}
use Rattle.kmipa_msgs.specs.declared.kind.OutsideKind.{OutsideKind}
use Rattle.kmipa_msgs.specs.Messages.{AskOf, RequestOf, ResponseOf}
use Rattle.kmipa_record.specs.Witnesses.{FillOf}
use Rattle.kmipa_check.specs.Fills.{IsFor, IsFormless, SomeFormless}
use Rattle.kmipa_check.proofs.FillLemmas.{pair_left}
use Rattle.kmipa_check.proofs.PlaceLemmas.{at_contains, at_within}
use Rattle.kmipa_unfit.specs.FillFinding.{FillSays}
use Rattle.kmipa_unfit.specs.UnfitFills.{IsFormlessAt}
use Rattle.kmipa_unfit.proofs.BelowLemmas.{Below}

-- one fill without its form stands at a place
pub some_formless : (request : RequestOf) (response : ResponseOf) (fills : List FillOf) (count : ℕ) → length fills ≤ count
    → Below (λ place. IsFormlessAt request response fills place → ⊥) count → SomeFormless request response fills → ⊥
some_formless request response fills count past h s = by (at_contains fills s.fill s.one)
  where
    by : (i : ℕ) × (slice_get fills i ≡ Some s.fill) → ⊥
    by p = h p.0 (omega (arith, at_within fills p.0 s.fill p.1, past))
        (record { fill = s.fill; there = p.1; item = s.place; names = s.names; ask = s.ask; answer = s.answer; waits = s.at; formless = s.formless })

-- a fill without a reason against its form has it
pub says_form : (fill : FillOf) (ask : AskOf) (result : Option OutsideKind) → FillSays fill ask result → ((kind : OutsideKind) → result ≡ Some kind → ⊥) → IsFormless fill ask → ⊥
says_form fill ask None h none formless = h formless
says_form fill ask (Some kind) h none formless = none kind refl

-- so the fill at its place has it
pub formed_here : (request : RequestOf) (response : ResponseOf) (fills : List FillOf) (place : ℕ) (fill : FillOf) (item : ℕ) (ask : AskOf) → slice_get fills place ≡ Some fill → IsFor fill item
    → slice_get request.items item ≡ Some ask → (IsFormless fill ask → ⊥) → IsFormlessAt request response fills place → ⊥
formed_here request response fills place fill item ask there its asked formed f =
    let fill_is : f.fill ≡ fill = (let a = f.there in cc) in
    let P : FillOf → Type 0 = λ x. IsFor x f.item in
    let named : IsFor fill f.item = subst P fill_is f.names in
    let one : pos (f.item + 1) ≡ pos (item + 1) = sym named ∙ its in
    let more : f.item + 1 ≡ item + 1 = cc in
    let same : f.item ≡ item = omega (arith, more) in
    let left : slice_get request.items f.item ≡ Some f.ask = pair_left request.items response.items f.item f.ask f.answer f.waits.there in
    let Q : ℕ → Type 0 = λ n. slice_get request.items n ≡ Some f.ask in
    let here = subst Q same left in
    let ask_is : f.ask ≡ ask = cc in
    let A : AskOf → Type 0 = λ a. IsFormless f.fill a in
    let F : FillOf → Type 0 = λ x. IsFormless x ask in
    formed (subst F fill_is (subst A ask_is f.formless))
