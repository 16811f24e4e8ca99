use Rattle.std.proofs.Common.{◌≡◌, true, Result, Ok, Err, MatchResult, arith}
use Rattle.std.specs.Result.{is_ok}
use Rattle.std.proofs.lemmas.Bool.{leb-true}
use Rattle.kmipa_ttlv.proofs.SpelledLemmas.{boolean_right, text_right, other_right}
use Rattle.kmipa_ttlv.proofs.standing.is_scalar.Goals as goal

ok_holds : {T E R : Type 0} (P : T → Type 0) (Q : E → Type 0) (r : Result T E) → MatchResult r (λ x. P x × R) Q → is_ok r ≡ true → R
ok_holds P Q (Ok x) h e = h.1
ok_holds P Q (Err y) h e = absurd cc

pub returns-in-Boolean : goal.returns-in-Boolean
returns-in-Boolean c = λ e.
    let small = leb-true c.read_u64.result 1 e in
    boolean_right c.args.kind c.args.value.now c.in-Boolean.is c.requires.allowed (omega (arith, c.read_u64.ensures, small))

pub returns-in-Text : goal.returns-in-Text
returns-in-Text c = λ e.
    text_right c.args.kind c.args.value.now c.in-Text.is (ok_holds _ _ c.from_utf8.result c.from_utf8.ensures.cases (rw (← c.is_ok.ensures.value) e))

pub returns-in_default : goal.returns-in_default
returns-in_default c = λ e. other_right c.args.kind c.args.value.now c.requires.plain c.in_default.not-Boolean c.in_default.not-Text c.requires.allowed
