use Rattle.std.proofs.Common.{◌≡◌, ◌≤◌, ◌<◌, ◌^◌, ◌∙◌, List, length, Some, ap, sym, rules, arith}
use Rattle.kmipa_object.proofs.ListLemmas.{get_past, updated-none}
use Rattle.kmipa_store.specs.Aside.{Entry}
use Rattle.kmipa_store.specs.AsideIds.{count_in, entries_of, said, said_at}
use Rattle.kmipa_store.specs.Ledger.{held}
use Rattle.kmipa_store.proofs.AsideLemmas.{count_said, entries_said, length-entries, recounts, said_held}
use Rattle.kmipa_store.proofs.LiveNameLemmas.{none_is}
use Rattle.kmipa_store.proofs.aside_ids.AsideIds.say.Goals as goal

pub returns-then-place-len : goal.returns-then-place-len
returns-then-place-len c =
    let es = entries_of c.self.inside.objects in
    let past : length es ≤ c.args.place = let h = c.if-place-len.true in let e = c.len.ensures in omega (arith, h, e, length-entries c.self.inside.objects) in
    sym c.self.view_is ∙ sym (updated-none es c.args.place (λ e. (e.0, c.args.aside)) (get_past es c.args.place past)) ∙ ap (λ (x : List Entry). said x c.args.place c.args.aside) c.self.view_is

pub recount-self-inside-requires-clause-counted : goal.recount-self-inside-requires-clause-counted
recount-self-inside-requires-clause-counted c =
    let hs = c.self.inside.objects in
    let at : said_at (entries_of hs) c.args.place ≡ Some c.is_none-before.result =
    said_held hs c.args.place (held c.at.result.now) c.at.ensures ∙ ap Some (sym (none_is c.at.result.now.life.destroy c.is_none-before.result c.is_none-before.ensures)) in
    let small : c.len.result < 2 ^ 64 = search (rules, c.len.type_inv) in
    (recounts (entries_of hs) c.args.place c.args.aside c.is_none-before.result c.self.inside.taken_in c.len.result at c.self.invariant (c.len.ensures ∙ sym (length-entries hs)) small).0

pub recount-self-inside-requires-clause-fits : goal.recount-self-inside-requires-clause-fits
recount-self-inside-requires-clause-fits c =
    let hs = c.self.inside.objects in
    let at : said_at (entries_of hs) c.args.place ≡ Some c.is_none-before.result =
    said_held hs c.args.place (held c.at.result.now) c.at.ensures ∙ ap Some (sym (none_is c.at.result.now.life.destroy c.is_none-before.result c.is_none-before.ensures)) in
    let small : c.len.result < 2 ^ 64 = search (rules, c.len.type_inv) in
    (recounts (entries_of hs) c.args.place c.args.aside c.is_none-before.result c.self.inside.taken_in c.len.result at c.self.invariant (c.len.ensures ∙ sym (length-entries hs)) small).1

pub invariant_of-self : goal.invariant_of-self
invariant_of-self c =
    let hs = c.self.inside.objects in
    let es = entries_of hs in
    let at : said_at es c.args.place ≡ Some c.is_none-before.result =
    said_held hs c.args.place (held c.at.result.now) c.at.ensures ∙ ap Some (sym (none_is c.at.result.now.life.destroy c.is_none-before.result c.is_none-before.ensures)) in
    let new : entries_of c.set_life.new.self ≡ said es c.args.place c.args.aside = ap entries_of c.set_life.ensures ∙ entries_said hs c.args.place c.life_of.result c.args.aside c.life_of.ensures in
    let counted = count_said es c.args.place c.args.aside c.is_none-before.result at in
    let same : count_in (entries_of c.set_life.new.self) ≡ count_in (said es c.args.place c.args.aside) = ap count_in new in
    let was = c.self.invariant in
    let is = c.recount-self-inside.ensures in
    omega (arith, counted, same, was, is)

pub returns : goal.returns
returns c =
    ap entries_of c.set_life.ensures
    ∙ entries_said c.self.inside.objects c.args.place c.life_of.result c.args.aside c.life_of.ensures
    ∙ ap (λ (x : List Entry). said x c.args.place c.args.aside) c.self.view_is
