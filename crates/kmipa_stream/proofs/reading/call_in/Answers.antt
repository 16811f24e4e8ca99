use Rattle.std.proofs.Common.{ℕ, List, subst, sym}
use Rattle.kmipa_stream.specs.Seeing.{HoldsBegin, HoldsEnd, HoldsSo}
use Rattle.kmipa_stream.specs.declared.seen.Held.{Held}
use Rattle.kmipa_stream.proofs.reading.call_in.Goals as goal

pub returns-in-Open : goal.returns-in-Open
returns-in-Open c = λ marks i.
    let P : Held → Type 0 = λ x. HoldsSo marks c.args.seen.now x in
    let R : List ℕ → Type 0 = λ l. HoldsBegin marks c.args.seen.now l in
    let h = subst P c.in-Open.is i.held in
    c.open_call.ensures marks i (subst R (sym c.deref.ensures.value) h.0) h.1

pub returns-in-Whole : goal.returns-in-Whole
returns-in-Whole c = λ marks i.
    let P : Held → Type 0 = λ x. HoldsSo marks c.args.seen.now x in
    let R : List ℕ → Type 0 = λ l. HoldsBegin marks c.args.seen.now l in
    let S : List ℕ → Type 0 = λ l. HoldsEnd marks c.args.seen.now l in
    let h = subst P c.in-Whole.is i.held in
    c.whole_call.ensures marks (subst R (sym c.deref-in-Whole.ensures.value) h.0) (subst S (sym c.deref-in-Whole-2.ensures.value) h.1)
