use Rattle.std.proofs.Common.{List, Option, map, sym, subst}
use Rattle.std.specs.Prelude.{IfSome, Vec}
use Rattle.std.specs.declared.alloc.Global.{Global}
use Rattle.kmipa_check.specs.Grants.{GrantsOf, grants_declared, grants_of}
use Rattle.kmipa_record.specs.Declarations.{declaration_of}
use Rattle.kmipa_turns.specs.Recorded.{recorded_of}
use Rattle.kmipa_findings.specs.Exhausting.{AreTried, HasNoStep}
use Rattle.kmipa_findings.specs.declared.trial.Trial.{Trial}
use Rattle.kmipa_findings.proofs.StandLemmas.{if_ok}
use Rattle.kmipa_findings.proofs.TriedLemmas.{ends_rightly, stepless_unsure}
use Rattle.kmipa_findings.proofs.seeking.descend_by.Goals as goal

pub returns-in_default-clause-rightly : goal.returns-in_default-clause-rightly
returns-in_default-clause-rightly g c = λ marks right sure turns tally aside a.
    let calls = map recorded_of c.args.calls.now in
    let G : GrantsOf → Type 0 = λ x. HasNoStep x calls in
    absurd (stepless_unsure marks (declaration_of c.args.declaration.now) calls (subst G c.of-grants.ensures (c.in_ok-trials.ensures.none c.in_default.is)) sure)

pub returns-clause-rightly : goal.returns-clause-rightly
returns-clause-rightly g c =
    let declared = declaration_of c.args.declaration.now in
    let calls = map recorded_of c.args.calls.now in
    let G : GrantsOf → Type 0 = λ x. AreTried x calls c.in-Some.trials.items in
    let T : List Trial → Type 0 = λ ts. AreTried (grants_declared declared) calls ts in
    let O : Option (Vec Trial Global) → Type 0 = λ o. IfSome o (λ (ts : Vec Trial Global). AreTried (grants_of c.of-grants.result) calls ts.items) in
    let tried = subst T (sym c.deref-2.ensures.value) (subst G c.of-grants.ensures (subst O c.in-Some.is c.in_ok-trials.ensures.tried)) in
    if_ok c.descend.result (λ d ends marks right. ends_rightly marks declared calls c.deref-2.result.now d.end tried (ends marks declared c.in_ok-rules.ensures c.in_ok-ledger.ensures.known)) c.descend.ensures.ends
