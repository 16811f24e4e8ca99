use Rattle.std.proofs.Common.{rules, ◌≡◌, ◌≤◌, ◌<◌, ◌+◌, ◌-◌, length, arith, subst, refl, ◌∙◌, List, ℕ, None, Some}
use Rattle.kmipa_ttlv.specs.Input.{came_of, taken_of, is_ended, is_failed}
use Rattle.kmipa_ttlv.specs.Spelling.{extent}
use Rattle.kmipa_ttlv.specs.Flaw.{head_flaw}
use Rattle.kmipa_ttlv.proofs.ReadLemmas.{reported_short, reported_head, since, fresh, joined_reads, same_head, whole_read, no_header, head_short}
use Rattle.std.proofs.lemmas.Result.{err_from_is_err_and}
use Rattle.kmipa_ttlv.proofs.FillLemmas.{stops_in_header, flawed_header_stops, stops_in_value}
use Rattle.kmipa_ttlv.proofs.reading.read_bytes.Goals as goal

pub returns-then-got-lt-HEADER-clause-fault : goal.returns-then-got-lt-HEADER-clause-fault
returns-then-got-lt-HEADER-clause-fault g c =
    let before = came_of c.args.input.now in
    let after = came_of c.append_up_to.new.input in
    let bytes = c.append_up_to.new.out.items in
    let got = c.in_ok-got.got in
    let len : got ≡ length bytes = search rules in
    let some : 0 < got = search rules in
    let h = since before after bytes (fresh before after c.clear.new.self.items bytes c.clear.ensures.items c.in_ok-got.ensures.came) in
    reported_short _ bytes (taken_of c.args.input.now) got (is_ended c.append_up_to.new.input) (is_failed c.append_up_to.new.input) c.placed.result
    (c.placed.ensures ∙ rw c.taken-place.ensures refl) len some h (c.in_ok-got.ensures.end c.if-got-lt-HEADER.true) (no_header bytes (omega (arith, len, c.if-got-lt-HEADER.true)))

pub returns-in-Err-clause-fault : goal.returns-in-Err-clause-fault
returns-in-Err-clause-fault g c =
    let before = came_of c.args.input.now in
    let after = came_of c.append_up_to.new.input in
    let bytes = c.append_up_to.new.out.items in
    let h = since before after bytes (fresh before after c.clear.new.self.items bytes c.clear.ensures.items c.in_ok-got.ensures.came) in
    reported_head _ bytes (taken_of c.args.input.now) (is_ended c.append_up_to.new.input) (is_failed c.append_up_to.new.input) c.in-Err.fault c.placed-in-Err.result
    (c.placed-in-Err.ensures ∙ rw c.taken-place.ensures refl) h (search rules) (subst (λ (l : List ℕ). head_flaw l ≡ Some (c.in-Err.fault.offset, c.in-Err.fault.kind)) c.deref.ensures.value c.in-Err.ensures.0)

pub returns-then-more-all-clause-fault : goal.returns-then-more-all-clause-fault
returns-then-more-all-clause-fault g c =
    let before = came_of c.args.input.now in
    let mid = came_of c.append_up_to.new.input in
    let after = came_of c.append_up_to-2.new.input in
    let front = c.append_up_to.new.out.items in
    let bytes = c.append_up_to-2.new.out.items in
    let more = c.in_ok-more.more in
    let h = fresh before mid c.clear.new.self.items front c.clear.ensures.items c.in_ok-got.ensures.came in
    let both = since before after bytes (joined_reads before mid after front bytes c.append_up_to-2.ensures.appends h c.in_ok-more.ensures.came) in
    let len : 8 + more ≡ length bytes = search rules in
    let long : 8 ≤ length front = search rules in
    let right : head_flaw front ≡ None = subst (λ (l : List ℕ). head_flaw l ≡ None) c.deref.ensures.value c.in-Ok.ensures.0 in
    let all : c.in-Ok.all ≡ extent front = subst (λ (l : List ℕ). c.in-Ok.all ≡ extent l) c.deref.ensures.value c.in-Ok.ensures.1 in
    let same = same_head front bytes c.append_up_to-2.ensures.appends long in
    reported_short _ bytes (taken_of c.args.input.now) (8 + more) (is_ended c.append_up_to-2.new.input) (is_failed c.append_up_to-2.new.input) c.placed-then-more-all.result
    (c.placed-then-more-all.ensures ∙ rw c.taken-place.ensures refl) len (omega arith) both (c.in_ok-more.ensures.end c.if-more-all.true) (head_short bytes (omega (arith, len)) (same.0 ∙ right) (omega (arith, len, same.1, all, c.if-more-all.true)))

pub returns-clause-whole : goal.returns-clause-whole
returns-clause-whole g c = λ _.
    let front = c.append_up_to.new.out.items in
    let bytes = c.append_up_to-2.new.out.items in
    let len : 8 + c.in_ok-more.more ≡ length bytes = search rules in
    let long : 8 ≤ length front = search rules in
    let right : head_flaw front ≡ None = subst (λ (l : List ℕ). head_flaw l ≡ None) c.deref.ensures.value c.in-Ok.ensures.0 in
    let all : c.in-Ok.all ≡ extent front = subst (λ (l : List ℕ). c.in-Ok.all ≡ extent l) c.deref.ensures.value c.in-Ok.ensures.1 in
    whole_read front bytes c.append_up_to-2.ensures.appends long right (omega (arith, len, all, c.if-more-all.false, c.in_ok-more.ensures.counted))

pub returns-in_err-got-clause-inside : goal.returns-in_err-got-clause-inside
returns-in_err-got-clause-inside g c =
    let p = err_from_is_err_and c.from_residual.result c.from_residual.ensures.1 in
    rw (p.1, p.2) (stops_in_header _ (came_of c.args.input.now) (came_of c.append_up_to.new.input) c.in_err-got.ensures.short)

pub returns-in-Err-clause-inside : goal.returns-in-Err-clause-inside
returns-in-Err-clause-inside g c =
    let fault = c.in-Err.fault in
    let flaw : head_flaw c.append_up_to.new.out.items ≡ Some (fault.offset, fault.kind) = subst (λ (l : List ℕ). head_flaw l ≡ Some (fault.offset, fault.kind)) c.deref.ensures.value c.in-Err.ensures.0 in
    rw c.placed-in-Err.ensures (flawed_header_stops fault.kind fault.offset _ c.append_up_to.new.out.items flaw)

pub returns-in_err-more-clause-inside : goal.returns-in_err-more-clause-inside
returns-in_err-more-clause-inside g c =
    let before = came_of c.args.input.now in
    let mid = came_of c.append_up_to.new.input in
    let front = c.append_up_to.new.out.items in
    let p = err_from_is_err_and c.from_residual-in_err-more.result c.from_residual-in_err-more.ensures.1 in
    let h = fresh before mid c.clear.new.self.items front c.clear.ensures.items c.in_ok-got.ensures.came in
    let right : head_flaw front ≡ None = subst (λ (l : List ℕ). head_flaw l ≡ None) c.deref.ensures.value c.in-Ok.ensures.0 in
    let all : c.in-Ok.all ≡ extent front = subst (λ (l : List ℕ). c.in-Ok.all ≡ extent l) c.deref.ensures.value c.in-Ok.ensures.1 in
    rw (p.1, p.2) (stops_in_value _ before mid (came_of c.append_up_to-2.new.input) front (c.in-Ok.all - 8) h (search rules) right (omega (arith, all)) c.in_err-more.ensures.short)
