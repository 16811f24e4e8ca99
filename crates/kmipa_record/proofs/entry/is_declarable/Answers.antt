use Rattle.std.proofs.Common.{◌≡◌, ◌↔◌, ◌*◌, ◌∙◌, ℤ, pos, length, IsTrue, IfSome, sym, ap, subst, refl, rules}
use Rattle.std.proofs.lemmas.Int.{to_z-of_z}
use mir.Val.{SFits}
use mir.Syntax.{w32}
use Rattle.kmipa_record.specs.DeclarationReading.{are_whole_bytes}
use Rattle.kmipa_record.specs.Entries.{entry_of}
use Rattle.kmipa_record.proofs.EntryLemmas.{not_there, whole_bytes, fits_bits, declared_bits, fits_any}
use Rattle.kmipa_record.proofs.entry.is_declarable.Goals as goal

pub returns-then-are_whole_bytes : goal.returns-then-are_whole_bytes
returns-then-are_whole_bytes c =
    let e = entry_of c.args.entry.now in
    let live = not_there e.attributes.destroy (sym c.is_some.ensures ∙ c.if-is_some.false) in
    let is = sym c.key_bits.ensures ∙ c.in-Some.is in
    let fits : SFits w32 c.in-Some.bits = search rules in
    let same = to_z-of_z w32 c.in-Some.bits fits in
    let whole = whole_bytes c.in-Some.bits (ap are_whole_bytes (sym same) ∙ sym c.are_whole_bytes.ensures ∙ c.if-are_whole_bytes.true) in
    let has = subst (λ (z : ℤ). IsTrue c.has_bits.result ↔ IfSome e.bytes (λ bytes. z ≡ pos (8 * length bytes))) same c.has_bits.ensures in
    (λ t. fits_bits e c.in-Some.bits live is whole c.requires (has.0 t), λ d. has.1 (declared_bits e c.in-Some.bits live is d))

pub returns-in-None : goal.returns-in-None
returns-in-None c =
    let e = entry_of c.args.entry.now in
    let live = not_there e.attributes.destroy (sym c.is_some.ensures ∙ c.if-is_some.false) in
    (λ t. fits_any e live (sym c.key_bits.ensures ∙ c.in-None.is) c.requires, λ d. refl)
