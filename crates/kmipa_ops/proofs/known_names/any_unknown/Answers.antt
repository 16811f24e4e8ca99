use Rattle.std.proofs.Common.{◌≡◌, ◌∙◌, ap, sym, not, slice_get, length, Bool, Some, refl}
use Rattle.std.proofs.lemmas.Option.{slice_get_read}
use Rattle.kmipa_attrs.specs.Sets.{name_of}
use Rattle.kmipa_attrs.specs.declared.name.Name.{Name}
use Rattle.kmipa_ops.specs.KnownNames.{is_in}
use Rattle.kmipa_ops.proofs.ScanLemmas.{any_here, any_on, any_past}
use Rattle.kmipa_ops.proofs.known_names.any_unknown.Goals as goal

pub returns-then-not-is_in : goal.returns-then-not-is_in
returns-then-not-is_in c =
    let p : Name → Bool = λ n. not (is_in c.args.set.now (name_of n)) in
    let at : slice_get c.args.names.now c.loop-name.name-index ≡ Some c.name-item.result =
    slice_get_read c.args.names.now (length c.args.names.now) c.loop-name.name-index c.name-item.result refl c.loop-name-test.true c.name-item.is in
    sym (c.loop-name.invariant ∙ any_here p c.args.names.now c.loop-name.name-index c.name-item.result at (ap not (sym c.is_in.ensures ∙ c.if-not-is_in.true)))

pub loop-name-preserved : goal.loop-name-preserved
loop-name-preserved c =
    let p : Name → Bool = λ n. not (is_in c.args.set.now (name_of n)) in
    let at : slice_get c.args.names.now c.loop-name.name-index ≡ Some c.name-item.result =
    slice_get_read c.args.names.now (length c.args.names.now) c.loop-name.name-index c.name-item.result refl c.loop-name-test.true c.name-item.is in
    c.loop-name.invariant ∙ any_on p c.args.names.now c.loop-name.name-index c.name-item.result at (ap not (sym c.is_in.ensures ∙ c.if-not-is_in.false))

pub returns : goal.returns
returns c =
    let p : Name → Bool = λ n. not (is_in c.args.set.now (name_of n)) in
    sym (c.loop-name.invariant ∙ any_past p c.args.names.now c.loop-name.name-index c.loop-name-test.false)
