-- A call is readable exactly where the pairs before are, and the rest is.
use Rattle.std.proofs.Common.{◌≡◌, ◌⊎◌, inl, inr, true, false, List, [], ◌∷◌, map, sym, ◌∙◌, subst}
use Rattle.std.specs.List.{zip}
use Rattle.kmipa_msgs.specs.declared.request.Ask.{Ask}
use Rattle.kmipa_msgs.specs.declared.response.Answer.{Answer}
use Rattle.kmipa_msgs.specs.Messages.{ask_of, answer_of}
use Rattle.kmipa_ops.specs.Explains.{is_readable}
use Rattle.kmipa_batch.specs.Readable.{AreReadable}
use Rattle.kmipa_batch.proofs.ShapeLemmas.{clash}

-- these are readable
abbrev pub Both : List Ask → List Answer → Type 0
Both asks answers = AreReadable (zip (map ask_of asks) (map answer_of answers))

-- so the whole hangs on what is left
pub record Hangs (asks xs : List Ask) (answers ys : List Answer) : Type 0 where
  pub whole : Both xs ys → Both asks answers
  pub rest : Both asks answers → Both xs ys

pub hangs_first : (asks xs : List Ask) (answers ys : List Answer) → xs ≡ asks → ys ≡ answers → Hangs asks xs answers ys
hangs_first asks xs answers ys e f =
    let P : List Ask → Type 0 = λ l. Hangs asks l answers ys in
    let Q : List Answer → Type 0 = λ l. Hangs asks asks answers l in
    subst P (sym e) (subst Q (sym f) (record { whole = λ h. h; rest = λ h. h }))

module _ (asks xs us : List Ask) (answers ys vs : List Answer) (x : Ask) (y : Answer) (l : Hangs asks xs answers ys) (e : xs ≡ x ∷ us) (f : ys ≡ y ∷ vs) where
  both_more : Both us vs → is_readable (ask_of x) (answer_of y) ≡ true → Both xs ys
  both_more h r =
      let P : List Ask → Type 0 = λ k. Both k ys in
      let Q : List Answer → Type 0 = λ k. Both (x ∷ us) k in
      subst P (sym e) (subst Q (sym f) (r, h))

  both_less : Both xs ys → (is_readable (ask_of x) (answer_of y) ≡ true) × Both us vs
  both_less h =
      let P : List Ask → Type 0 = λ k. Both k ys in
      let Q : List Answer → Type 0 = λ k. Both (x ∷ us) k in
      subst Q f (subst P e h)

  pub hangs_more : is_readable (ask_of x) (answer_of y) ≡ true → Hangs asks us answers vs
  hangs_more r = record { whole = λ h. l.whole (both_more h r); rest = λ h. (both_less (l.rest h)).1 }

  pub unreadable : is_readable (ask_of x) (answer_of y) ≡ false → Both asks answers → ⊥
  unreadable r h = clash (sym r ∙ (both_less (l.rest h)).0)

both_no_left : (xs : List Ask) (ys : List Answer) → xs ≡ [] → Both xs ys
both_no_left xs ys e = let P : List Ask → Type 0 = λ k. Both k ys in subst P (sym e) tt

both_no_right : (xs : List Ask) (ys : List Answer) → ys ≡ [] → Both xs ys
both_no_right [] ys e = tt
both_no_right (x ∷ xs) ys e = let P : List Answer → Type 0 = λ k. Both (x ∷ xs) k in subst P (sym e) tt

pub hangs_last : (asks xs : List Ask) (answers ys : List Answer) → Hangs asks xs answers ys → (xs ≡ []) ⊎ (ys ≡ []) → Both asks answers
hangs_last asks xs answers ys l e = elim e [
  | inl p ↦ l.whole (both_no_left xs ys p)
  | inr p ↦ l.whole (both_no_right xs ys p)
]
