-- Values with the changes that led to them, and the values at earlier places.
use Rattle.std.proofs.Common.{◌≡◌, ℕ, suc, ◌+◌, ◌-◌, ◌<◌, ◌≤◌, Bool, true, ◌&&◌, nat_le, List, [], ◌∷◌, ◌++◌, length, map, take, drop, reverse, Result, Ok, Err, refl, ap, sym, ◌∙◌, arith, length-append, length-drop}
use Rattle.std.proofs.lemmas.Bool.{and_parts}
use Rattle.std.proofs.lemmas.Bool.Decides.{nat_tests}
use Rattle.std.proofs.lemmas.List.{reverse-append, length-reverse, drop-drop}
use Rattle.std.proofs.Math.Seq.{take-add}
use Rattle.kmipa_store.specs.Histories.{rolled, history, fits, while_marked, Logged, Logs, RolledTo}
use Rattle.kmipa_store.specs.declared.fault.StoreFault.{StoreFault}

le_is : (p n : ℕ) → nat_le p n ≡ true → p ≤ n
le_is p n h = grind (arith, nat_tests)

is_le : (p n : ℕ) → p ≤ n → nat_le p n ≡ true
is_le p n h = grind (arith, nat_tests)

pub fits_head : (n p : ℕ) (ps : List ℕ) → fits n (p ∷ ps) ≡ true → (p ≤ n) × (fits p ps ≡ true)
fits_head n p ps h = let b = and_parts (nat_le p n) (fits p ps) h in (le_is p n b.0, b.1)

pub fits_more : (n m : ℕ) (ps : List ℕ) → n ≤ m → fits n ps ≡ true → fits m ps ≡ true
fits_more n m [] h e = refl
fits_more n m (p ∷ ps) h e = let b = fits_head n p ps e in let q : p ≤ n = b.0 in ap (λ (t : Bool). t && fits p ps) (is_le p m (omega arith)) ∙ b.1

-- a place at the end
pub fits_mark : (n : ℕ) (ps : List ℕ) → fits n ps ≡ true → fits n (n ∷ ps) ≡ true
fits_mark n ps e = ap (λ (t : Bool). t && fits n ps) (is_le n n (omega arith)) ∙ e

-- without the newest place
pub fits_rest : (n p : ℕ) (ps : List ℕ) → fits n (p ∷ ps) ≡ true → fits n ps ≡ true
fits_rest n p ps h = let f = fits_head n p ps h in fits_more p n ps f.0 f.1

module _ {X C : Type 0} (unmade : X → C → X) where
  pub rolled-append : (x : X) (cs ds : List C) → rolled unmade x (cs ++ ds) ≡ rolled unmade (rolled unmade x cs) ds
  rolled-append x [] ds = refl
  rolled-append x (c ∷ cs) ds = rolled-append (unmade x c) cs ds

  -- one more change
  pub history_push : (x y : X) (c : C) (cs : List C) (ps : List ℕ) → unmade y c ≡ x → fits (length cs) ps ≡ true → history unmade y (c ∷ cs) ps ≡ history unmade x cs ps
  history_push x y c cs [] e h = refl
  history_push x y c cs (p ∷ ps) e h =
      let q : p ≤ length cs = (fits_head (length cs) p ps h).0 in
      let n : suc (length cs) - p ≡ suc (length cs - p) = omega arith in
      ap (λ (k : ℕ). rolled unmade y (take k (c ∷ cs)) ∷ history unmade (rolled unmade y (take k (c ∷ cs))) (drop k (c ∷ cs)) ps) n
      ∙ ap (λ (z : X). rolled unmade z (take (length cs - p) cs) ∷ history unmade (rolled unmade z (take (length cs - p) cs)) (drop (length cs - p) cs) ps) e

  -- a place at the end
  pub history_mark : (x : X) (cs : List C) (ps : List ℕ) → history unmade x cs (length cs ∷ ps) ≡ x ∷ history unmade x cs ps
  history_mark x cs ps =
      let n : length cs - length cs ≡ 0 = omega arith in
      ap (λ (k : ℕ). rolled unmade x (take k cs) ∷ history unmade (rolled unmade x (take k cs)) (drop k cs) ps) n

  -- the newest place is forgotten, and the changes stay
  pub history_keep : (x : X) (cs : List C) (p : ℕ) (ps : List ℕ) → p ≤ length cs → fits p ps ≡ true → history unmade x cs ps ≡ history unmade (rolled unmade x (take (length cs - p) cs)) (drop (length cs - p) cs) ps
  history_keep x cs p [] h f = refl
  history_keep x cs p (q ∷ qs) h f =
      let k : ℕ = length cs - p in
      let b : q ≤ p = (fits_head p q qs f).0 in
      let l : length (drop k cs) ≡ length cs - k = length-drop k cs in
      let j : ℕ = length (drop k cs) - q in
      let n : length cs - q ≡ k + j = omega (arith, l) in
      let one : rolled unmade x (take (length cs - q) cs) ≡ rolled unmade (rolled unmade x (take k cs)) (take j (drop k cs)) =
      ap (λ (i : ℕ). rolled unmade x (take i cs)) n ∙ ap (rolled unmade x) (take-add k j cs) ∙ rolled-append x (take k cs) (take j (drop k cs)) in
      let two : drop (length cs - q) cs ≡ drop j (drop k cs) = ap (λ (i : ℕ). drop i cs) n ∙ sym (drop-drop j k cs) in
      ap (λ (z : X). z ∷ history unmade z (drop (length cs - q) cs) qs) one
      ∙ ap (λ (ds : List C). rolled unmade (rolled unmade x (take k cs)) (take j (drop k cs)) ∷ history unmade (rolled unmade (rolled unmade x (take k cs)) (take j (drop k cs))) ds qs) two

  logged_marked : (x y : X) (c : C) (cs ds : List C) (ps : List ℕ) → ds ≡ cs ++ c ∷ [] → unmade y c ≡ x → fits (length cs) ps ≡ true → history unmade y (reverse ds) ps ≡ history unmade x (reverse cs) ps
  logged_marked x y c cs ds ps written back h =
      let r : reverse ds ≡ c ∷ reverse cs = ap reverse written ∙ reverse-append cs (c ∷ []) in
      let f : fits (length (reverse cs)) ps ≡ true = ap (λ (n : ℕ). fits n ps) (length-reverse cs) ∙ h in
      ap (λ (es : List C). history unmade y es ps) r ∙ history_push x y c (reverse cs) ps back f

  -- a change that is written down while a mark stands leaves the value at each mark
  pub history_logged : {P : Type 0} (f : P → ℕ) (ps : List P) (x y : X) (cs ds : List C) → Logged unmade ps x cs y ds → fits (length cs) (map f (reverse ps)) ≡ true
      → history unmade y (reverse ds) (map f (reverse ps)) ≡ history unmade x (reverse cs) (map f (reverse ps))
  history_logged f [] x y cs ds l h = refl
  history_logged f (p ∷ ps) x y cs ds l h = logged_marked x y l.change cs ds (map f (reverse (p ∷ ps))) l.written l.back h

  fits_logged : {P : Type 0} (f : P → ℕ) (ps : List P) (x y : X) (cs ds : List C) → Logged unmade ps x cs y ds → fits (length cs) (map f (reverse ps)) ≡ true → fits (length ds) (map f (reverse ps)) ≡ true
  fits_logged f [] x y cs ds l h = refl
  fits_logged f (p ∷ ps) x y cs ds l h =
      let more : length ds ≡ length cs + 1 = ap length l.written ∙ length-append cs (l.change ∷ []) in
      fits_more (length cs) (length ds) (map f (reverse (p ∷ ps))) (omega (arith, more)) h

  -- whatever the answer
  pub fits_logs : {P : Type 0} (f : P → ℕ) (ps : List P) (wanted x y : X) (cs ds : List C) (r : Result (Unit {0}) StoreFault) → Logs unmade ps x cs wanted r y ds → fits (length cs) (map f (reverse ps)) ≡ true → fits (length ds) (map f (reverse ps)) ≡ true
  fits_logs f ps wanted x y cs ds (Ok u) l h = fits_logged f ps x y cs ds l.1 h
  fits_logs f ps wanted x y cs ds (Err fault) l h = ap (λ (es : List C). fits (length es) (map f (reverse ps))) l.2 ∙ h

  -- nothing is written down where no mark stands
  logged_forgotten : {P : Type 0} (ps : List P) (x y : X) (cs ds : List C) → Logged unmade ps x cs y ds → while_marked ps ds ≡ ds
  logged_forgotten [] x y cs ds l = sym l.written
  logged_forgotten (p ∷ ps) x y cs ds l = refl

  pub forgotten_logs : {P : Type 0} (ps : List P) (wanted x y : X) (cs ds : List C) (r : Result (Unit {0}) StoreFault) → Logs unmade ps x cs wanted r y ds → while_marked ps cs ≡ cs → while_marked ps ds ≡ ds
  forgotten_logs ps wanted x y cs ds (Ok u) l h = logged_forgotten ps x y cs ds l.1
  forgotten_logs ps wanted x y cs ds (Err fault) l h = ap (while_marked ps) l.2 ∙ h ∙ sym l.2

  -- rolled back to the newest place, the value is that at the newest mark, and those at the others stay
  pub history_rolled : (x y : X) (cs ds : List C) (p : ℕ) (ps : List ℕ) → RolledTo unmade x cs p y ds → history unmade x (reverse cs) (p ∷ ps) ≡ y ∷ history unmade y (reverse ds) ps
  history_rolled x y cs ds p ps b =
      let k : length (reverse cs) - p ≡ length cs - p = ap (λ (n : ℕ). n - p) (length-reverse cs) in
      let v : y ≡ rolled unmade x (take (length (reverse cs) - p) (reverse cs)) = b.value ∙ ap (λ (n : ℕ). rolled unmade x (take n (reverse cs))) (sym k) in
      let d : reverse ds ≡ drop (length (reverse cs) - p) (reverse cs) = b.left ∙ ap (λ (n : ℕ). drop n (reverse cs)) (sym k) in
      sym (ap (λ (z : X). z ∷ history unmade z (reverse ds) ps) v
      ∙ ap (λ (es : List C). rolled unmade x (take (length (reverse cs) - p) (reverse cs)) ∷ history unmade (rolled unmade x (take (length (reverse cs) - p) (reverse cs))) es ps) d)

  pub fits_rolled : (x y : X) (cs ds : List C) (p : ℕ) (ps : List ℕ) → RolledTo unmade x cs p y ds → fits (length cs) (p ∷ ps) ≡ true → fits (length ds) ps ≡ true
  fits_rolled x y cs ds p ps b h =
      let f = fits_head (length cs) p ps h in
      let below : p ≤ length cs = f.0 in
      let l : length ds ≡ p = omega (arith, length-reverse ds, ap length b.left, length-drop (length cs - p) (reverse cs), length-reverse cs) in
      ap (λ (n : ℕ). fits n ps) l ∙ f.1

  -- one step of rolling back
  roll_step : (x y : X) (cs ds : List C) (c : C) (count : ℕ) → cs ≡ ds ++ c ∷ [] → count < length cs → y ≡ unmade x c
      → (rolled unmade y (take (length ds - count) (reverse ds)) ≡ rolled unmade x (take (length cs - count) (reverse cs))) × (drop (length ds - count) (reverse ds) ≡ drop (length cs - count) (reverse cs)) × (count ≤ length ds)
  roll_step x y cs ds c count e h is =
      let l : length cs ≡ length ds + 1 = ap length e ∙ length-append ds (c ∷ []) in
      let k : length cs - count ≡ suc (length ds - count) = omega arith in
      let r : reverse cs ≡ c ∷ reverse ds = ap reverse e ∙ reverse-append ds (c ∷ []) in (
        ap (λ (z : X). rolled unmade z (take (length ds - count) (reverse ds))) is
            ∙ sym (ap (λ (n : ℕ). rolled unmade x (take n (reverse cs))) k ∙ ap (λ (es : List C). rolled unmade x (take (suc (length ds - count)) es)) r),
        sym (ap (λ (n : ℕ). drop n (reverse cs)) k ∙ ap (λ (es : List C). drop (suc (length ds - count)) es) r),
        omega arith,
      )

  -- and all steps so far
  pub roll_on : (x y z : X) (cs ds es : List C) (c : C) (count : ℕ) → cs ≡ ds ++ c ∷ [] → count < length cs → y ≡ unmade x c
      → rolled unmade x (take (length cs - count) (reverse cs)) ≡ rolled unmade z (take (length es - count) (reverse es))
      → drop (length cs - count) (reverse cs) ≡ drop (length es - count) (reverse es)
      → (rolled unmade y (take (length ds - count) (reverse ds)) ≡ rolled unmade z (take (length es - count) (reverse es))) × (drop (length ds - count) (reverse ds) ≡ drop (length es - count) (reverse es)) × (count ≤ length ds)
  roll_on x y z cs ds es c count e h is f g = let s = roll_step x y cs ds c count e h is in (s.0 ∙ f, s.1 ∙ g, s.2)

module _ {C P : Type 0} where
  pub forgotten_again : (ps : List P) (cs ds : List C) → ds ≡ while_marked ps cs → while_marked ps ds ≡ ds
  forgotten_again [] cs ds e = sym e
  forgotten_again (p ∷ ps) cs ds e = refl

  -- with a mark nothing is forgotten
  pub marked_stays : (ps ps1 : List P) (p : P) (cs : List C) → ps1 ≡ ps ++ p ∷ [] → while_marked ps1 cs ≡ cs
  marked_stays [] ps1 p cs e = ap (λ (x : List P). while_marked x cs) e
  marked_stays (q ∷ ps) ps1 p cs e = ap (λ (x : List P). while_marked x cs) e

  pub fits_forgotten : (f : P → ℕ) (ps : List P) (cs ds : List C) → ds ≡ while_marked ps cs → fits (length cs) (map f (reverse ps)) ≡ true → fits (length ds) (map f (reverse ps)) ≡ true
  fits_forgotten f [] cs ds e h = refl
  fits_forgotten f (p ∷ ps) cs ds e h = ap (λ (x : List C). fits (length x) (map f (reverse (p ∷ ps)))) e ∙ h
