-- Items one after the other have no fault.
use Rattle.std.proofs.Common.{◌≡◌, ◌⊎◌, inl, inr, ℕ, Bool, List, [], ◌∷◌, ◌++◌, length, refl, sym, ap, subst, arith, length-append}
use Rattle.kmipa_ttlv.specs.Tree.{Tree}
use Rattle.kmipa_ttlv.specs.Flaw.{OuterFlaw}
use Rattle.kmipa_ttlv.specs.Stream.{Begins}
use Rattle.kmipa_ttlv.specs.Items.{AreItems}
use Rattle.kmipa_ttlv.specs.Reading.{ByCause}
use Rattle.kmipa_ttlv.specs.declared.fault.FaultKind.{FaultKind}
use Rattle.kmipa_ttlv.specs.declared.fault.FaultKind.TheVariants.{Truncated, UnknownType, BadLength, BadBoolean, BadText, Overrun, TooDeep, TooLong, Device, Memory}
use Rattle.kmipa_ttlv.specs.declared.fault.TtlvFault.{TtlvFault}
use Rattle.kmipa_ttlv.proofs.StreamLemmas.{all_given, one_list_lem}
use Rattle.kmipa_runs.specs.Inputs.{TellsFirst}

-- the bytes after the first of several items
behind : (ts us : List Tree) (bytes rest : List ℕ) → Begins (ts ++ us) bytes rest → (mid : List ℕ) × Begins ts bytes mid × Begins us mid rest
behind [] us bytes rest b = (bytes, refl, b)
behind (t ∷ ts) us bytes rest b =
    let tail = behind ts us b.1 rest b.4 in
    (tail.0, (b.0, b.1, b.2, b.3, tail.1), tail.2)

-- no bytes begin with no item
nothing_left : (us : List Tree) (rest : List ℕ) → Begins us [] rest → length rest ≡ 0
nothing_left [] rest b = ap length (sym b)
nothing_left (u ∷ us) rest b = absurd (omega (arith, ap length b.2, length-append b.0 b.1, b.3.all))

no_rest : (given items : List Tree) (bytes rest : List ℕ) (o : ℕ) (k : FaultKind) → Begins given bytes rest → AreItems items bytes → OuterFlaw rest o k → length rest ≡ 0
no_rest given items bytes rest o k b are flaw =
    let all = all_given given items bytes rest [] o k b flaw are in
    let B : List Tree → Type 0 = λ ts. Begins ts bytes rest in
    let split = behind items all.0 bytes rest (subst B all.1 b) in
    let same = one_list_lem items items bytes [] split.0 refl are split.1 in
    let R : List ℕ → Type 0 = λ l. Begins all.0 l rest in
    nothing_left all.0 rest (subst R (sym same.1) split.2)

abbrev AtKind : FaultKind → Type 0 → Type 0
AtKind k P = ((k ≡ Device) ⊎ (k ≡ Memory)) ⊎ P

cause : (k : FaultKind) (D M P : Type 0) → ByCause k D M P → AtKind k P
cause Device D M P h = inl (inl refl)
cause Memory D M P h = inl (inr refl)
cause Truncated D M P h = inr h
cause UnknownType D M P h = inr h
cause BadLength D M P h = inr h
cause BadBoolean D M P h = inr h
cause BadText D M P h = inr h
cause Overrun D M P h = inr h
cause TooDeep D M P h = inr h
cause TooLong D M P h = inr h

pub items_have_no_fault_lem : (bytes : List ℕ) (items : List Tree) (failed : Bool) (f : TtlvFault) → AreItems items bytes → TellsFirst bytes failed f
    → (f.kind ≡ Device) ⊎ (f.kind ≡ Memory)
items_have_no_fault_lem bytes items failed f are t = elim (cause f.kind _ _ _ t.tells) [
  | inl other ↦ other
  | inr reported ↦ absurd (omega (arith, reported.0, no_rest t.given items bytes t.rest reported.1.from f.kind t.begins are reported.1.flaw))
]
