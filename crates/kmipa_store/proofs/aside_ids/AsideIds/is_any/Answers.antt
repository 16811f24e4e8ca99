use Rattle.std.proofs.Common.{◌∙◌, ℕ, nat_lt, ap, sym}
use Rattle.kmipa_store.specs.Aside.{is_any_named}
use Rattle.kmipa_store.specs.AsideIds.{count_in, entries_of}
use Rattle.kmipa_store.proofs.AsideLemmas.{any_counted, length-entries}
use Rattle.kmipa_store.proofs.aside_ids.AsideIds.is_any.Goals as goal

pub returns : goal.returns
returns c =
    let i = c.self.inside in
    let es = entries_of i.objects in
    ap (λ (n : ℕ). nat_lt n c.len.result) c.self.invariant ∙ ap (nat_lt (count_in es)) (c.len.ensures ∙ sym (length-entries i.objects)) ∙ any_counted es ∙ ap is_any_named c.self.view_is
