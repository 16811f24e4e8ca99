-- Lists of marks that grow.
use Rattle.std.proofs.Common.{◌≡◌, ◌≢◌, ◌≤◌, ◌<◌, ℕ, ℤ, List, [], ◌∷◌, ◌++◌, length, refl, sym, ap, subst, ◌∙◌, arith, get_or}
use Rattle.std.specs.Prelude.{Contains, AllPairs}
use Rattle.std.proofs.lemmas.List.{length-append, append-nil}
use Rattle.std.proofs.lemmas.List.Elements.{All-push, Contains-get_or}
use Rattle.std.proofs.lemmas.List.Quantifiers.{all_pairs_push}
use Rattle.kmipa_record.specs.Marks.{MarkOf, begins, ends, call_of, begun, ended, IsCallNumber, AreRecorded}

pub begun-append : (xs ys : List MarkOf) → begun (xs ++ ys) ≡ begun xs ++ begun ys
begun-append [] ys = refl
begun-append (begins call client message ∷ xs) ys = ap (λ (l : List ℤ). call ∷ l) (begun-append xs ys)
begun-append (ends call message ∷ xs) ys = begun-append xs ys

pub ended-append : (xs ys : List MarkOf) → ended (xs ++ ys) ≡ ended xs ++ ended ys
ended-append [] ys = refl
ended-append (begins call client message ∷ xs) ys = ended-append xs ys
ended-append (ends call message ∷ xs) ys = ap (λ (l : List ℤ). call ∷ l) (ended-append xs ys)

-- a list with one more element, cut at an element: that is the last, or one before it
pub data CutAt {A : Type 0} (xs : List A) (x : A) (ys : List A) (y : A) (zs : List A) : Type 0 where
  last : xs ≡ ys → x ≡ y → CutAt xs x ys y zs
  earlier : (ws : List A) → xs ≡ ys ++ y ∷ ws → CutAt xs x ys y zs

head_of : {A : Type 0} → A → List A → A
head_of d [] = d
head_of d (x ∷ xs) = x

tail_of : {A : Type 0} → List A → List A
tail_of [] = []
tail_of (x ∷ xs) = xs

cut_more : {A : Type 0} (z : A) (xs ys zs : List A) (x y : A) → CutAt xs x ys y zs → CutAt (z ∷ xs) x (z ∷ ys) y zs
cut_more z xs ys zs x y (last e f) = last (ap (λ l. z ∷ l) e) f
cut_more z xs ys zs x y (earlier ws e) = earlier ws (ap (λ l. z ∷ l) e)

pub cut_at : {A : Type 0} (xs ys zs : List A) (x y : A) → xs ++ x ∷ [] ≡ ys ++ y ∷ zs → CutAt xs x ys y zs
unfolding head_of tail_of
cut_at [] [] zs x y e = last refl (ap (head_of x) e)
cut_at [] (b ∷ ys) zs x y e = absurd (omega (arith, ap length e, length-append ys (y ∷ zs)))
cut_at (a ∷ xs) [] zs x y e = earlier xs (ap (λ (h : _). h ∷ xs) (ap (head_of x) e))
cut_at (a ∷ xs) (b ∷ ys) zs x y e =
    subst (λ h. CutAt (a ∷ xs) x (h ∷ ys) y zs) (ap (head_of x) e) (cut_more a xs ys zs x y (cut_at xs ys zs x y (ap tail_of e)))

-- ---- marks of a transcript, and one more

begun_once : (marks : List ℤ) (call : ℤ) → ¬ (Contains marks call) → (k : ℕ) (d : ℤ) → k < length marks → get_or marks k d ≢ call
begun_once marks call new k d h e = new (subst (Contains marks) e (Contains-get_or marks k d h))

pub recorded_begin : (marks : List MarkOf) (call : ℤ) (client message : List ℕ) → AreRecorded marks → IsCallNumber call → ¬ (Contains (begun marks) call) → length (begun marks) < 100_000
    → AreRecorded (marks ++ begins call client message ∷ [])
recorded_begin marks call client message order number new few =
    let same = begun-append marks (begins call client message ∷ []) in
    record {
      numbered = All-push (λ mark. IsCallNumber (call_of mark)) marks (begins call client message) order.numbered number;
      once = subst (AllPairs (λ a b. a ≢ b)) (sym same) (all_pairs_push (λ a b. a ≢ b) (begun marks) call order.once (begun_once (begun marks) call new));
      few = omega (arith, ap length same, length-append (begun marks) (call ∷ []), few);
      answered = λ before after other answer e.
          elim (cut_at marks before after (begins call client message) (ends other answer) e) [ last f g ↦ absurd cc | earlier ws f ↦ order.answered before ws other answer f ];
    }

pub recorded_end : (marks : List MarkOf) (call : ℤ) (message : List ℕ) → AreRecorded marks → IsCallNumber call → Contains (begun marks) call → ¬ (Contains (ended marks) call)
    → AreRecorded (marks ++ ends call message ∷ [])
recorded_end marks call message order number known new =
    let same : begun (marks ++ ends call message ∷ []) ≡ begun marks = begun-append marks (ends call message ∷ []) ∙ append-nil (begun marks) in
    record {
      numbered = All-push (λ mark. IsCallNumber (call_of mark)) marks (ends call message) order.numbered number;
      once = subst (AllPairs (λ a b. a ≢ b)) (sym same) order.once;
      few = subst (λ (l : List ℤ). length l ≤ 100_000) (sym same) order.few;
      answered = λ before after other answer e.
          elim (cut_at marks before after (ends call message) (ends other answer) e) [
            | last f g ↦ (
              subst (λ (l : List MarkOf). Contains (begun l) other) f (subst (Contains (begun marks)) (ap call_of g) known),
              λ h. new (subst (Contains (ended marks)) (sym (ap call_of g)) (subst (λ (l : List MarkOf). Contains (ended l) other) (sym f) h)),
            )
            | earlier ws f ↦ order.answered before ws other answer f
          ];
    }
