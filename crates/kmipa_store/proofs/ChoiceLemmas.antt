-- Choices of a ledger's secrets: with one more secret, with one that is told, with other bytes at one number.
use Rattle.std.proofs.Common.{◌≡◌, ◌≢◌, ◌<◌, ◌≤◌, ℕ, Bool, cond, nat_eq, List, [], ◌∷◌, ◌++◌, length, slice_get, Some, None, refl, ap, sym, ◌∙◌, subst, inl, inr, arith}
use Rattle.std.proofs.lemmas.Bool.Decides.{Decides-eqb, eqb_tells}
use Rattle.kmipa_object.specs.Inventory.{Admitted}
use Rattle.kmipa_object.proofs.ListLemmas.{get-append_old, get-append_last, get-append_cases, get_below, get-updated_same, get-updated_other, length-updated, updated-last}
use Rattle.kmipa_store.specs.Ledger.{Known, told}
use Rattle.kmipa_store.specs.Choices.{Choice, Suits, Chooses, Agrees, Extends}

-- a choice with other bytes at one number
abbrev pub override : Choice → ℕ → List ℕ → Choice
override c n b k = cond (nat_eq k n) b (c k)

pub override_same : (c : Choice) (n : ℕ) (b : List ℕ) → override c n b n ≡ b
override_same c n b = ap (λ (t : Bool). cond t b (c n)) ((Decides-eqb n n).1 refl)

pub override_other : (c : Choice) (n : ℕ) (b : List ℕ) (k : ℕ) → k ≢ n → override c n b k ≡ c k
override_other c n b k h = elim (eqb_tells k n) [ inl t ↦ absurd (h t.1) | inr f ↦ ap (λ (t : Bool). cond t b (c k)) f.0 ]

-- below the number nothing changes
pub override_agrees : (c : Choice) (n : ℕ) (b : List ℕ) → Agrees n c (override c n b)
override_agrees c n b k h = override_other c n b k (λ e. omega (arith, e))

pub agrees_same : (n : ℕ) (c : Choice) → Agrees n c c
agrees_same n c k h = refl

pub agrees_more : (m n : ℕ) (c d e : Choice) → m ≤ n → Agrees m c d → Agrees n d e → Agrees m c e
agrees_more m n c d e le f g k h = g k (omega arith) ∙ f k h

pub Chooses-agrees : (ss : List Known) (c d : Choice) → Chooses ss c → Agrees (length ss) c d → Chooses ss d
Chooses-agrees ss c d h a = record {
  suits = λ n s e. let P : List ℕ → Type 0 = λ x. Suits s x in subst P (sym (a n (get_below ss n s e))) (h.suits n s e);
}

pub Chooses-none : (c : Choice) → Chooses [] c
Chooses-none c = record { suits = λ n s e. let bad : ⊥ = cc in absurd bad }

pub Chooses-fewer : (ss : List Known) (s : Known) (c : Choice) → Chooses (ss ++ s ∷ []) c → Chooses ss c
Chooses-fewer ss s c h = record { suits = λ n t e. h.suits n t (get-append_old ss s n t e) }

pub Chooses-last : (ss : List Known) (s : Known) (c : Choice) → Chooses (ss ++ s ∷ []) c → Suits s (c (length ss))
Chooses-last ss s c h = h.suits (length ss) s (get-append_last ss s)

-- one more secret, with bytes that suit it
pub Chooses-more : (ss : List Known) (s : Known) (c : Choice) (b : List ℕ) → Chooses ss c → Suits s b → Chooses (ss ++ s ∷ []) (override c (length ss) b)
Chooses-more ss s c b h u = record {
  suits = λ n t e. elim (get-append_cases ss s n t e) [
    | inl a ↦
        let P : List ℕ → Type 0 = λ x. Suits t x in
        let below : n < length ss = get_below ss n t a in
        subst P (sym (override_other c (length ss) b n (λ q. omega arith))) (h.suits n t a)
    | inr q ↦
        let P : List ℕ → Type 0 = λ x. Suits t x in
        let Q : Known → Type 0 = λ y. Suits y b in
        subst P (sym (override_same c (length ss) b) ∙ ap (override c (length ss) b) (sym q.0)) (subst Q (sym q.1) u)
  ];
}

-- other bytes that suit the secret of a number
pub Chooses-override : (ss : List Known) (n : ℕ) (s : Known) (b : List ℕ) (c : Choice) → slice_get ss n ≡ Some s → Suits s b → Chooses ss c → Chooses ss (override c n b)
Chooses-override ss n s b c at u h = record {
  suits = λ k t e. elim (eqb_tells k n) [
    | inl q ↦
        let same : Some s ≡ Some t = sym at ∙ ap (slice_get ss) (sym q.1) ∙ e in
        let is : s ≡ t = cc in
        let P : Known → Type 0 = λ y. Suits y b in
        let R : List ℕ → Type 0 = λ x. Suits t x in
        subst R (sym (ap (override c n b) q.1 ∙ override_same c n b)) (subst P is u)
    | inr q ↦
        let R : List ℕ → Type 0 = λ x. Suits t x in
        subst R (sym (override_other c n b k q.1)) (h.suits k t e)
  ];
}

pub get-told_same : (ss : List Known) (n : ℕ) (s : Known) (b : List ℕ) → slice_get ss n ≡ Some s → slice_get (told ss n b) n ≡ Some (record { rule = s.rule; bytes = Some b })
get-told_same ss n s b at = get-updated_same ss n (λ (k : Known). record { rule = k.rule; bytes = Some b }) s at

pub get-told_other : (ss : List Known) (n k : ℕ) (b : List ℕ) → k ≢ n → slice_get (told ss n b) k ≡ slice_get ss k
get-told_other ss n k b h = get-updated_other ss n k (λ (s : Known). record { rule = s.rule; bytes = Some b }) h

pub length-told : (ss : List Known) (n : ℕ) (b : List ℕ) → length (told ss n b) ≡ length ss
length-told ss n b = length-updated ss n (λ (s : Known). record { rule = s.rule; bytes = Some b })

pub told-last : (ss : List Known) (s : Known) (b : List ℕ) → told (ss ++ s ∷ []) (length ss) b ≡ ss ++ record { rule = s.rule; bytes = Some b } ∷ []
told-last ss s b = updated-last ss s (λ (k : Known). record { rule = k.rule; bytes = Some b })

-- the secret that is told has these bytes under each choice
pub told_bytes : (ss : List Known) (n : ℕ) (s : Known) (b : List ℕ) (c : Choice) → slice_get ss n ≡ Some s → Chooses (told ss n b) c → c n ≡ b
told_bytes ss n s b c at h = (h.suits n (record { rule = s.rule; bytes = Some b }) (get-told_same ss n s b at)).known b refl

-- telling an unknown secret leaves no new choice
pub Chooses-untold : (ss : List Known) (n : ℕ) (s : Known) (b : List ℕ) (c : Choice) → slice_get ss n ≡ Some s → s.bytes ≡ None → Chooses (told ss n b) c → Chooses ss c
Chooses-untold ss n s b c at none h = record {
  suits = λ k t e. elim (eqb_tells k n) [
    | inl q ↦
        let same : Some s ≡ Some t = sym at ∙ ap (slice_get ss) (sym q.1) ∙ e in
        let is : s ≡ t = cc in
        let u : Suits (record { rule = s.rule; bytes = Some b }) (c n) = h.suits n (record { rule = s.rule; bytes = Some b }) (get-told_same ss n s b at) in
        let P : Known → Type 0 = λ y. Suits y (c k) in
        subst P is (record {
          admitted = subst (λ (m : ℕ). Admitted s.rule (c m)) (sym q.1) u.admitted;
          known = λ x r. let clash : None ≡ Some x = sym none ∙ r in cc;
        })
    | inr q ↦ h.suits k t (get-told_other ss n k b q.1 ∙ e)
  ];
}

-- and keeps each choice that gives it these bytes
pub Chooses-told : (ss : List Known) (n : ℕ) (s : Known) (b : List ℕ) (c : Choice) → slice_get ss n ≡ Some s → c n ≡ b → Chooses ss c → Chooses (told ss n b) c
Chooses-told ss n s b c at is h = record {
  suits = λ k t e. elim (eqb_tells k n) [
    | inl q ↦
        let same : Some (record { rule = s.rule; bytes = Some b }) ≡ Some t = sym (get-told_same ss n s b at) ∙ ap (slice_get (told ss n b)) (sym q.1) ∙ e in
        let eq : record { rule = s.rule; bytes = Some b } ≡ t = cc in
        let P : Known → Type 0 = λ y. Suits y (c k) in
        subst P eq (record {
          admitted = subst (λ (m : ℕ). Admitted s.rule (c m)) (sym q.1) (h.suits n s at).admitted;
          known = λ x r. let at_k : c k ≡ b = ap c q.1 ∙ is in cc;
        })
    | inr q ↦ h.suits k t (sym (get-told_other ss n k b q.1) ∙ e)
  ];
}

pub extends_same : (ss : List Known) → Extends ss ss
extends_same ss = record { there = λ n k e. (k.bytes, e) }

pub extends_more : (ss ts us : List Known) → Extends ss ts → Extends ts us → Extends ss us
extends_more ss ts us e f = record {
  there = λ n k at. let a = e.there n k at in f.there n (record { rule = k.rule; bytes = a.0 }) a.1;
}

pub extends_push : (ss : List Known) (s : Known) → Extends ss (ss ++ s ∷ [])
extends_push ss s = record { there = λ n k e. (k.bytes, get-append_old ss s n k e) }

pub extends_told : (ss : List Known) (n : ℕ) (b : List ℕ) → Extends ss (told ss n b)
extends_told ss n b = record {
  there = λ m k e. elim (eqb_tells m n) [
    | inl t ↦ (Some b, ap (slice_get (told ss n b)) t.1 ∙ get-told_same ss n k b (ap (slice_get ss) (sym t.1) ∙ e))
    | inr t ↦ (k.bytes, get-told_other ss n m b t.1 ∙ e)
  ];
}
