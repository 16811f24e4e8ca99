-- Steps of a ledger, in general.
use Rattle.std.proofs.Common.{◌≡◌, ◌≤◌, ℕ, List, length, slice_get, Option, Some, refl, ap, sym, ◌∙◌, subst, inl, inr, arith}
use Rattle.std.proofs.lemmas.Bool.Decides.{eqb_tells}
use Rattle.kmipa_object.specs.Inventory.{Thing, Admitted}
use Rattle.kmipa_store.specs.Ledger.{Known, Meaning, told}
use Rattle.kmipa_store.specs.Choices.{Choice, Suits, Chooses, Agrees, inv, IsSound, Extends}
use Rattle.kmipa_store.proofs.ChoiceLemmas.{agrees_same, extends_same, get-told_same, get-told_other}

-- the ledger goes from m to n, the placeholder becomes `after`, and R links the inventories
pub record Step (R : List Thing → List Thing → Option (List ℕ) → Type 0) (m n : Meaning) (after : Option (List ℕ)) : Type 0 where
  pub sound : (c : Choice) → Chooses n.secrets c → Chooses m.secrets c × R (inv c m.objects) (inv c n.objects) after
  pub complete : (c : Choice) → Chooses m.secrets c → (V : List Thing) (p : Option (List ℕ)) → R (inv c m.objects) V p
      → (d : Choice) × Chooses n.secrets d × Agrees (length m.secrets) c d × (V ≡ inv d n.objects) × (p ≡ after)
  pub grows : length m.secrets ≤ length n.secrets
  pub extends : Extends m.secrets n.secrets
  pub kept : IsSound n

-- the same step under another relation
pub step_as : (R S : List Thing → List Thing → Option (List ℕ) → Type 0) (m n : Meaning) (after : Option (List ℕ))
    → ((V V' : List Thing) (p : Option (List ℕ)) → R V V' p → S V V' p) → ((V V' : List Thing) (p : Option (List ℕ)) → S V V' p → R V V' p)
    → Step R m n after → Step S m n after
step_as R S m n after to from s = record {
  sound = λ c h. let r = s.sound c h in (r.0, to (inv c m.objects) (inv c n.objects) after r.1);
  complete = λ c h V p x. s.complete c h V p (from (inv c m.objects) V p x);
  grows = s.grows;
  extends = s.extends;
  kept = s.kept;
}

-- a step that changes nothing
pub still_step : (R : List Thing → List Thing → Option (List ℕ) → Type 0) (m : Meaning) (before : Option (List ℕ)) → IsSound m
    → ((c : Choice) → Chooses m.secrets c → R (inv c m.objects) (inv c m.objects) before)
    → ((V V' : List Thing) (p : Option (List ℕ)) → R V V' p → (V' ≡ V) × (p ≡ before)) → Step R m m before
still_step R m before sound holds stays = record {
  sound = λ c h. (h, holds c h);
  complete = λ c h V p x. let r = stays (inv c m.objects) V p x in (c, h, agrees_same (length m.secrets) c, r.0, r.1);
  grows = omega arith;
  extends = extends_same m.secrets;
  kept = sound;
}

-- telling a secret bytes that it may have leaves no new choice
pub chose_before : (ss : List Known) (n : ℕ) (s : Known) (b : List ℕ) (c : Choice) → slice_get ss n ≡ Some s → ((x : List ℕ) → s.bytes ≡ Some x → b ≡ x) → Chooses (told ss n b) c → Chooses ss c
chose_before ss n s b c at fits h = record {
  suits = λ k t e. elim (eqb_tells k n) [
    | inl q ↦
        let same : Some s ≡ Some t = sym at ∙ ap (slice_get ss) (sym q.1) ∙ e in
        let is : s ≡ t = cc in
        let u : Suits (record { rule = s.rule; bytes = Some b }) (c n) = h.suits n (record { rule = s.rule; bytes = Some b }) (get-told_same ss n s b at) in
        let P : Known → Type 0 = λ y. Suits y (c k) in
        subst P is (record {
          admitted = subst (λ (m : ℕ). Admitted s.rule (c m)) (sym q.1) u.admitted;
          known = λ x r. ap c q.1 ∙ u.known b refl ∙ fits x r;
        })
    | inr q ↦ h.suits k t (get-told_other ss n k b q.1 ∙ e)
  ];
}
