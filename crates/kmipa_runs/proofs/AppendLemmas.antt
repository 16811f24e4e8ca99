-- One append after the other.
use Rattle.std.proofs.Common.{◌≡◌, ℕ, List, Result, Ok, Err, OnOk, is_ok, if◌then◌else◌, ◌++◌, length, take, drop, sym, ap, ◌∙◌, append_assoc}
use Rattle.std.proofs.Math.Seq.{drop-append_seam, take-append_seam}
use Rattle.std.proofs.lemmas.List.{take-append-drop}
use Rattle.std.specs.Io.{StartsWith, appended_bytes}

-- what was appended
pub since : (old x new : List ℕ) → new ≡ old ++ x → appended_bytes old new ≡ x
since old x new e = ap (drop (length old)) e ∙ drop-append_seam old x

pub starts : (old x new : List ℕ) → new ≡ old ++ x → StartsWith new old
starts old x new e = ap (take (length old)) e ∙ take-append_seam old x

pub split : (old new : List ℕ) → StartsWith new old → new ≡ old ++ appended_bytes old new
split old new h = sym (take-append-drop (length old) new) ∙ ap (λ (l : List ℕ). l ++ drop (length old) new) h

-- what was appended in two steps
pub onto : (a b c x : List ℕ) → b ≡ a ++ x → StartsWith c b → appended_bytes a c ≡ x ++ appended_bytes b c
onto a b c x e h =
    since a (x ++ appended_bytes b c) c (split b c h ∙ ap (λ (l : List ℕ). l ++ appended_bytes b c) e ∙ append_assoc a x (appended_bytes b c))

pub starts_on : (a b c : List ℕ) → StartsWith b a → StartsWith c b → StartsWith c a
starts_on a b c h k =
    starts a (appended_bytes a b ++ appended_bytes b c) c
    (split b c k ∙ ap (λ (l : List ℕ). l ++ appended_bytes b c) (split a b h) ∙ append_assoc a (appended_bytes a b) (appended_bytes b c))

-- what an append leaves where it succeeds
pub on_ok : {T E : Type 0} (r : Result T E) (x a b y : List ℕ) → x ≡ (if is_ok r then a else b) → a ≡ y → OnOk r (x ≡ y)
on_ok (Ok u) x a b y e h = e ∙ h
on_ok (Err u) x a b y e h = tt

-- two facts of one success
pub on_both : {T E A B C : Type 0} (r : Result T E) → (A → B → C) → OnOk r A → OnOk r B → OnOk r C
on_both (Ok u) f a b = f a b
on_both (Err u) f a b = tt

-- what is pushed behind what was pushed before
pub pushed_on : (a b c x y : List ℕ) → b ≡ a ++ x → c ≡ b ++ y → c ≡ a ++ (x ++ y)
pushed_on a b c x y e h = h ∙ ap (λ (l : List ℕ). l ++ y) e ∙ append_assoc a x y
