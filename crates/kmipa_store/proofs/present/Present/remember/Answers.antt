use Rattle.std.proofs.Common.{◌≤◌, length, sym, subst, arith}
use Rattle.kmipa_attrs.specs.Filters.{filter_of}
use Rattle.kmipa_store.specs.Present.{Standing}
use Rattle.kmipa_store.specs.Queries.{AllLack, lasting}
use Rattle.kmipa_store.proofs.present.Present.remember.Goals as goal

pub invariant_of-self : goal.invariant_of-self
invariant_of-self c =
    let i = c.self.inside in
    let long : c.args.to ≤ length i.objects = let h = c.if-len-to.false in let e = c.len.ensures in omega (arith, h, e) in
    let lack = subst (λ (x : Standing). AllLack (lasting (filter_of c.args.filter.now)) x.dated.objects c.args.from c.args.to) (sym c.self.view_is) c.requires in
    (c.self.invariant.0, c.self.invariant.1, c.self.invariant.2, c.remember.ensures i.objects long lack c.self.invariant.3)
