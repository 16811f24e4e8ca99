use Rattle.std.proofs.Common.{◌≡◌, ◌≤◌, ◌∙◌, List, ap, sym, subst, arith}
use Rattle.kmipa_object.proofs.ListLemmas.{get-at}
use Rattle.kmipa_store.specs.Names.{Named}
use Rattle.kmipa_store.specs.Queries.{Lasting, Leaps}
use Rattle.kmipa_store.specs.Sought.{asked_by}
use Rattle.kmipa_store.specs.declared.sought.Wanted.{Wanted}
use Rattle.kmipa_store.proofs.NameLemmas.{Rests, rests_start}
use Rattle.kmipa_store.proofs.SoughtLemmas.{ahead_none, ahead_one, from_of, read_at}
use Rattle.kmipa_store.proofs.sought.Sought.next_of.Goals as goal

pub returns-in_default : goal.returns-in_default
returns-in_default c = λ w objects at knows.
    let s = c.args.self.now in
    let n = c.args.number in
    let from = c.args.from in
    let own : Wanted = c.index.result.now in
    let is : own ≡ w = read_at s.wanted.items n own w c.requires c.index.ensures at in
    let le : from ≤ own.end = let h = c.if-end-from.false in omega (arith, h) in
    subst (λ (a : Lasting). Leaps a objects from own.end) (ap asked_by is)
    (ahead_none s objects n own from knows (get-at s.wanted.items n own c.requires c.index.ensures) c.range-left.result (c.range-left.ensures.between tt) c.in_default.ensures.steps.0 le)

pub returns : goal.returns
returns c = λ w objects at knows.
    let s = c.args.self.now in
    let n = c.args.number in
    let from = c.args.from in
    let own : Wanted = c.index.result.now in
    let is : own ≡ w = read_at s.wanted.items n own w c.requires c.index.ensures at in
    let there = get-at s.wanted.items n own c.requires c.index.ensures in
    let one = c.in-Some.one.now in
    let rest = c.next.new.self in
    let all = c.range-left.ensures.between tt in
    let rests = subst (λ (x : List Named). Rests n from x) c.in-Some.ensures.steps (rests_start n from own.end s.by_number.keys c.range-left.result all c.range-left.ensures.ordered) in
    let up : one.1 ≤ own.end = let h = c.if-end-one.false in omega (arith, h) in
    let on : one.1 ≤ one.1 = omega arith in
    subst (λ (a : Lasting). Leaps a objects from one.1) (ap asked_by is)
    (ahead_one s objects n own from knows there one rest one.1 (sym c.in-Some.ensures.steps ∙ all) rests up on (from_of s objects n own from knows there one rest rests))
