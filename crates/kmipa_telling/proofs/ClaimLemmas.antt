-- Of what is told in JSON of an explanation.
use Rattle.std.proofs.Common.{◌≡◌, ◌∙◌, ap, sym, subst, refl, List, [], ◌∷◌, ◌++◌, ℕ, ℤ, get_or, length, suc, take, ◌<◌, ◌+◌, Result, Ok, Err, OnOk}
use Rattle.std.proofs.Math.Seq.{take-suc}
use native.Mathlib.Omega.{arith}
use Rattle.serde_json.specs.Data.{Items, Members, item}
use Rattle.kmipa_json.specs.Told.{integer, with_item}
use Rattle.kmipa_explain.specs.declared.explanation.Cause.{Cause}
use Rattle.kmipa_telling.specs.Claims.{TellsCause, call_items}

-- ---- calls

call_behind : (numbers : List ℤ) (number : ℤ) → call_items (numbers ++ number ∷ []) ≡ with_item (integer number) (call_items numbers)
call_behind [] number = refl
call_behind (n ∷ numbers) number = ap (item (integer n)) (call_behind numbers number)

-- what a turn of the loop over the calls keeps
pub one_call_more : (numbers : List ℤ) (i : ℕ) (d number : ℤ) (before after : Items) → i < length numbers → before ≡ call_items (take i numbers)
    → number ≡ get_or numbers i d → after ≡ with_item (integer number) before → after ≡ call_items (take (i + 1) numbers)
one_call_more numbers i d number before after within told is pushed =
    let next : suc i ≡ i + 1 = omega arith in
    let taken = sym (take-suc numbers i d within) ∙ ap (λ n. take n numbers) next in
    pushed ∙ ap (λ n. with_item (integer n) before) is ∙ ap (with_item (integer (get_or numbers i d))) told
    ∙ sym (call_behind (take i numbers) (get_or numbers i d)) ∙ ap call_items taken

-- ---- what a reason rests on

-- what is told of a cause is told of the one that it is
pub cause_told : {T E : Type 0} (r : Result T E) (given is : Cause) (before after told : Members) → given ≡ is → (after ≡ told → TellsCause is before after)
    → OnOk r (after ≡ told) → OnOk r (TellsCause given before after)
cause_told (Ok x) given is before after told same tells e =
    let P : Cause → Type 0 = λ c. TellsCause c before after in
    subst P (sym same) (tells e)
cause_told (Err x) given is before after told same tells e = tt
