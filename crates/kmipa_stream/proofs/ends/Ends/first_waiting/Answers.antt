use Rattle.std.proofs.Common.{◌≡◌, Bool, Some, slice_get, get_or, length, subst, refl, arith, ◌+◌, rules}
use Rattle.std.proofs.lemmas.Option.{slice_get_read}
use Rattle.kmipa_check.specs.Deciding.{Decided}
use Rattle.kmipa_stream.specs.Waiting.{IsPassed}
use Rattle.kmipa_stream.proofs.WaitingLemmas.{wait_more, wait_pass, none_waits, first_waits}
use Rattle.kmipa_stream.proofs.ends.Ends.first_waiting.Goals as goal

pub passed-init : goal.passed-init
passed-init c = λ marks turns before names h w. wait_more marks turns before c.args.count c.args.self.now h w

pub returns-then-not-is_passed : goal.returns-then-not-is_passed
returns-then-not-is_passed c = λ marks turns before names h w.
    let s = c.passed.self in
    let x = c.index-end.result.now in
    let e : x ≡ get_or s.seen.items s.passed x = search rules in
    let at : slice_get s.seen.items s.passed ≡ Some x = slice_get_read s.seen.items (length s.seen.items) s.passed x refl (omega (arith, c.passed-test.true, c.len.ensures)) e in
    let P : Bool → Type 0 = λ b. Decided b (IsPassed turns c.args.count x.number) in
    let d : Decided c.is_passed.result (IsPassed turns c.args.count x.number) = search (rules, c.is_passed.ensures turns names) in
    let wait = c.passed.invariant marks turns before names h w in
    (wait, first_waits marks turns c.args.count s wait x at (subst P c.if-not-is_passed.true d))

pub passed-preserved : goal.passed-preserved
passed-preserved c = λ marks turns before names h w.
    let s = c.passed.self in
    let x = c.index-end.result.now in
    let e : x ≡ get_or s.seen.items s.passed x = search rules in
    let at : slice_get s.seen.items s.passed ≡ Some x = slice_get_read s.seen.items (length s.seen.items) s.passed x refl (omega (arith, c.passed-test.true, c.len.ensures)) e in
    let P : Bool → Type 0 = λ b. Decided b (IsPassed turns c.args.count x.number) in
    let d : Decided c.is_passed.result (IsPassed turns c.args.count x.number) = search (rules, c.is_passed.ensures turns names) in
    wait_pass marks turns c.args.count s (record { seen = s.seen; passed = s.passed + 1 }) x at (subst P c.if-not-is_passed.false d) refl refl (c.passed.invariant marks turns before names h w)

pub returns : goal.returns
returns c = λ marks turns before names h w.
    let wait = c.passed.invariant marks turns before names h w in
    (wait, none_waits marks turns c.args.count c.passed.self wait (omega (arith, c.passed-test.false)))
