use Rattle.std.proofs.Common.{◌≡◌, ◌<◌, ◌^◌, ◌-◌, ◌∙◌, ℕ, suc, true, List, length, take, Some, ap, sym, rules, arith}
use Rattle.kmipa_store.specs.Aside.{Entry}
use Rattle.kmipa_store.specs.AsideIds.{count_in, entries_of, said_at}
use Rattle.kmipa_store.specs.Ledger.{held}
use Rattle.kmipa_store.proofs.AsideLemmas.{count_popped, entries_popped, length-entries, recounts, said_held}
use Rattle.kmipa_store.proofs.LiveNameLemmas.{none_is}
use Rattle.kmipa_store.proofs.aside_ids.AsideIds.pop.Goals as goal

pub recount-self-inside-requires-clause-counted : goal.recount-self-inside-requires-clause-counted
recount-self-inside-requires-clause-counted c =
    let hs = c.self.inside.objects in
    let last = c.in-Some.last in
    let at : said_at (entries_of hs) last ≡ Some c.is_none-before.result =
    said_held hs last (held c.at.result.now) c.at.ensures ∙ ap Some (sym (none_is c.at.result.now.life.destroy c.is_none-before.result c.is_none-before.ensures)) in
    let small : c.len.result < 2 ^ 64 = search (rules, c.len.type_inv) in
    (recounts (entries_of hs) last true c.is_none-before.result c.self.inside.taken_in c.len.result at c.self.invariant (c.len.ensures ∙ sym (length-entries hs)) small).0

pub recount-self-inside-requires-clause-fits : goal.recount-self-inside-requires-clause-fits
recount-self-inside-requires-clause-fits c =
    let hs = c.self.inside.objects in
    let last = c.in-Some.last in
    let at : said_at (entries_of hs) last ≡ Some c.is_none-before.result =
    said_held hs last (held c.at.result.now) c.at.ensures ∙ ap Some (sym (none_is c.at.result.now.life.destroy c.is_none-before.result c.is_none-before.ensures)) in
    let small : c.len.result < 2 ^ 64 = search (rules, c.len.type_inv) in
    (recounts (entries_of hs) last true c.is_none-before.result c.self.inside.taken_in c.len.result at c.self.invariant (c.len.ensures ∙ sym (length-entries hs)) small).1

pub invariant_of-self : goal.invariant_of-self
invariant_of-self c =
    let hs = c.self.inside.objects in
    let es = entries_of hs in
    let last = c.in-Some.last in
    let at : said_at es last ≡ Some c.is_none-before.result =
    said_held hs last (held c.at.result.now) c.at.ensures ∙ ap Some (sym (none_is c.at.result.now.life.destroy c.is_none-before.result c.is_none-before.ensures)) in
    let some = c.in-Some.ensures.0 in
    let place = c.in-Some.ensures.1 in
    let count = c.len.ensures in
    let long : length es ≡ suc last = omega (arith, some, place, count, length-entries hs) in
    let before : length hs - 1 ≡ last = omega (arith, some, place, count) in
    let new : entries_of c.pop.new.self ≡ take last es = ap entries_of c.pop.ensures ∙ entries_popped hs (length hs - 1) ∙ ap (λ (n : ℕ). take n es) before in
    let counted = count_popped es last c.is_none-before.result long at in
    let same : count_in (entries_of c.pop.new.self) ≡ count_in (take last es) = ap count_in new in
    let was = c.self.invariant in
    let is = c.recount-self-inside.ensures in
    omega (arith, counted, same, was, is)

pub returns : goal.returns
returns c =
    let hs = c.self.inside.objects in
    ap entries_of c.pop.ensures
    ∙ entries_popped hs (length hs - 1)
    ∙ ap (λ (n : ℕ). take (n - 1) (entries_of hs)) (sym (length-entries hs))
    ∙ ap (λ (x : List Entry). take (length x - 1) x) c.self.view_is
