use Rattle.std.proofs.Common.{rules, FitsSigned, ◌≡◌, ◌∙◌, ℤ, inl, inr, w64, refl, sym, ap}
use Rattle.std.proofs.lemmas.Int.{to_z-of_z}
use Rattle.kmipa_attrs.specs.Filters.{filter_of}
use Rattle.kmipa_record.specs.Entries.{entry_of}
use Rattle.kmipa_explain.specs.LeftOut.{is_left_out}
use Rattle.kmipa_explain.proofs.LeftOutLemmas.{out_if, out_not}
use Rattle.kmipa_explain.proofs.left_out.note.Goals as goal

pub returns-then-not-is_left_out : goal.returns-then-not-is_left_out
returns-then-not-is_left_out c ids has =
    let fits : FitsSigned w64 c.args.t = search rules in
    let q = filter_of c.args.filter.now in
    let e = entry_of c.args.entry.now in
    let at : is_left_out c.args.t q c.args.listed.now e ≡ c.is_left_out.result
    = ap (λ (z : ℤ). is_left_out z q c.args.listed.now e) (sym (to_z-of_z w64 c.args.t fits)) ∙ sym c.is_left_out.ensures in
    inr (out_not c.args.t q ids c.args.listed.now e has (at ∙ c.if-not-is_left_out.true), refl)

pub returns : goal.returns
returns c ids has =
    let fits : FitsSigned w64 c.args.t = search rules in
    let q = filter_of c.args.filter.now in
    let e = entry_of c.args.entry.now in
    let at : is_left_out c.args.t q c.args.listed.now e ≡ c.is_left_out.result
    = ap (λ (z : ℤ). is_left_out z q c.args.listed.now e) (sym (to_z-of_z w64 c.args.t fits)) ∙ sym c.is_left_out.ensures in
    inl (
      record { identifier = c.in_ok-from_str.field-0; initial = c.args.entry.now.attrs.initial },
      c.in_ok-push.ensures.items,
      record { left_out = out_if c.args.t q ids c.args.listed.now e has (at ∙ c.if-not-is_left_out.false); identifier = c.in_ok-from_str.ensures.ok ∙ c.as_str.ensures.value; initial = refl },
    )
