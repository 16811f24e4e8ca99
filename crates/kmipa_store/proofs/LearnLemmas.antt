-- What it is to learn bytes.
use Rattle.std.proofs.Common.{◌≡◌, ℕ, Bool, true, false, not, ◌&&◌, List, slice_get, Option, Some, None, is_none, Ok, bytes_eq, refl, ap, sym, ◌∙◌}
use Rattle.std.proofs.lemmas.Bool.{not-false}
use Rattle.std.proofs.lemmas.Slice.Eq.{bytes_eq-Decides}
use Rattle.kmipa_object.specs.Inventory.{admits}
use Rattle.kmipa_object.specs.declared.rule.Rule.{Rule}
use Rattle.kmipa_object.proofs.ListLemmas.{updated-same}
use Rattle.kmipa_store.specs.Ledger.{Known, LedgerState, told}
use Rattle.kmipa_store.specs.Calls.{Learns, is_unknown, differs, differs_from, breaks}
use Rattle.kmipa_store.specs.Secrets.{Judges}
use Rattle.kmipa_store.specs.declared.secrets.Lesson.TheVariants.{Old}

none_differs : (known : Option (List ℕ)) (bytes : List ℕ) → is_none known ≡ true → differs_from known bytes ≡ false
none_differs None bytes h = refl
none_differs (Some b) bytes h = cc

pub unknown_differs : (k : Option Known) (bytes : List ℕ) → is_unknown k ≡ true → differs k bytes ≡ false
unknown_differs None bytes h = refl
unknown_differs (Some k) bytes h = none_differs k.bytes bytes h

known_same : (rule : Rule) (known : Option (List ℕ)) (bytes : List ℕ) → is_none known ≡ false → differs_from known bytes ≡ false
    → ◌≡◌ {A = Known} (record { rule = rule; bytes = Some bytes }) (record { rule = rule; bytes = known })
known_same rule None bytes h d = cc
known_same rule (Some b) bytes h d =
    let same : bytes_eq b bytes ≡ true = not-false (bytes_eq b bytes) d in
    let is : b ≡ bytes = (bytes_eq-Decides b bytes).0 same in
    ap (λ (x : List ℕ). record { rule = rule; bytes = Some x }) (sym is)

-- bytes that are known already leave the secrets as they are
pub told_known : (ks : List Known) (number : ℕ) (bytes : List ℕ) → Judges (slice_get ks number) bytes (Ok Old) → told ks number bytes ≡ ks
told_known ks number bytes j =
    updated-same ks number (λ k. record { rule = k.rule; bytes = Some bytes })
    (λ k e. known_same k.rule k.bytes bytes (ap is_unknown (sym e) ∙ j.0) (ap (λ (o : Option Known). differs o bytes) (sym e) ∙ j.1))

known_breaks : (k : Option Known) (bytes : List ℕ) → is_unknown k ≡ false → breaks k bytes ≡ false
known_breaks None bytes h = refl
known_breaks (Some k) bytes h = ap (λ (b : Bool). b && not (admits k.rule bytes)) h

-- what `learn` answers, of bytes that are known already
pub learns_known : (s : LedgerState) (number : ℕ) (bytes : List ℕ) → Judges (slice_get s.now.secrets number) bytes (Ok Old) → Learns s number bytes (Ok tt) s
learns_known s number bytes j = (
  j.1,
  known_breaks (slice_get s.now.secrets number) bytes j.0,
  ap (λ (ks : List Known). record { now = record { objects = s.now.objects; secrets = ks; aside = s.now.aside }; marks = s.marks }) (sym (told_known s.now.secrets number bytes j)),
)
