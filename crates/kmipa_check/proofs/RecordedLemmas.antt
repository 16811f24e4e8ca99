-- The marks of a recorded transcript say each call in one way.
use Rattle.std.proofs.Common.{◌≡◌, ◌<◌, inl, inr, ℕ, zero, suc, ℤ, List, [], ◌∷◌, ◌++◌, map, length, take, drop, Contains, Option, Some, slice_get, refl, sym, ap, ◌∙◌, subst, arith}
use Rattle.std.proofs.lemmas.List.{length-map}
use Rattle.std.proofs.lemmas.Option.{get_or_from_slice_get, slice_get_within}
use Rattle.kmipa_record.specs.Marks.{MarkOf, begins, ends, begun, ended, AreRecorded}
use Rattle.kmipa_msgs.specs.Messages.{RequestOf, ResponseOf}
use Rattle.kmipa_msgs.specs.Requests.{SaysRequest, RequestFault}
use Rattle.kmipa_msgs.specs.Responses.{SaysResponse, ResponseFault}
use Rattle.kmipa_check.specs.Calls.{CallOf, AreRequest, AreResponse, HasBegin, HasEnd, IsEnded, has_ended, is_open, IsRecorded, AreCalls}
use Rattle.kmipa_check.proofs.PlaceLemmas.{contains_at, get_at, some_at, same_elements, apart}
use Rattle.kmipa_check.proofs.MessageLemmas.{same_message}
use Rattle.kmipa_check.proofs.OnceLemmas.{IsOnce, once_pairs}
use Rattle.kmipa_check.proofs.WholeOrderLemmas.{number_of}

-- ---- marks

pub begun_has : (marks : List MarkOf) (k : ℕ) (n : ℤ) (client m : List ℕ) → slice_get marks k ≡ Some (begins n client m) → (i : ℕ) × (slice_get (begun marks) i ≡ Some n)
begun_has [] k n client m at = absurd cc
begun_has (begins a b c ∷ marks) zero n client m at = (0, cc)
begun_has (ends a b ∷ marks) zero n client m at = absurd cc
begun_has (begins a b c ∷ marks) (suc k) n client m at = let p = begun_has marks k n client m at in (suc p.0, p.1)
begun_has (ends a b ∷ marks) (suc k) n client m at = begun_has marks k n client m at

ended_has : (marks : List MarkOf) (k : ℕ) (n : ℤ) (m : List ℕ) → slice_get marks k ≡ Some (ends n m) → (i : ℕ) × (slice_get (ended marks) i ≡ Some n)
ended_has [] k n m at = absurd cc
ended_has (begins a b c ∷ marks) zero n m at = absurd cc
ended_has (ends a b ∷ marks) zero n m at = (0, cc)
ended_has (begins a b c ∷ marks) (suc k) n m at = ended_has marks k n m at
ended_has (ends a b ∷ marks) (suc k) n m at = let p = ended_has marks k n m at in (suc p.0, p.1)

-- a call begins at one place
begun_once : (marks : List MarkOf) (i j : ℕ) (n : ℤ) (a b c d : List ℕ) → IsOnce (begun marks) → slice_get marks i ≡ Some (begins n a b) → slice_get marks j ≡ Some (begins n c d) → i ≡ j
begun_once [] i j n a b c d once p q = absurd cc
begun_once (begins x y z ∷ marks) zero zero n a b c d once p q = refl
begun_once (begins x y z ∷ marks) zero (suc j) n a b c d once p q =
    let e : n ≡ x = cc in
    let h = begun_has marks j n c d q in
    let P : ℤ → Type 0 = λ v. Contains (begun marks) v in
    absurd (once.0 (subst P e (contains_at (begun marks) h.0 n h.1)))
begun_once (begins x y z ∷ marks) (suc i) zero n a b c d once p q =
    let e : n ≡ x = cc in
    let h = begun_has marks i n a b p in
    let P : ℤ → Type 0 = λ v. Contains (begun marks) v in
    absurd (once.0 (subst P e (contains_at (begun marks) h.0 n h.1)))
begun_once (begins x y z ∷ marks) (suc i) (suc j) n a b c d once p q = ap suc (begun_once marks i j n a b c d once.1 p q)
begun_once (ends x y ∷ marks) zero j n a b c d once p q = absurd cc
begun_once (ends x y ∷ marks) (suc i) zero n a b c d once p q = absurd cc
begun_once (ends x y ∷ marks) (suc i) (suc j) n a b c d once p q = ap suc (begun_once marks i j n a b c d once p q)

-- a list, cut at an element
pub cut : {X : Type 0} (xs : List X) (j : ℕ) (x : X) → slice_get xs j ≡ Some x → xs ≡ take j xs ++ x ∷ drop (suc j) xs
cut [] j x at = absurd cc
cut (y ∷ xs) zero x at = let e : y ≡ x = cc in ap (λ (h : _). h ∷ xs) e
cut (y ∷ xs) (suc j) x at = ap (λ (l : List _). y ∷ l) (cut xs j x at)

pub taken_at : {X : Type 0} (xs : List X) (i j : ℕ) (x : X) → i < j → slice_get xs i ≡ Some x → slice_get (take j xs) i ≡ Some x
taken_at [] i j x below at = absurd cc
taken_at (y ∷ xs) zero zero x below at = absurd (omega (arith, below))
taken_at (y ∷ xs) (suc i) zero x below at = absurd (omega (arith, below))
taken_at (y ∷ xs) zero (suc j) x below at = at
taken_at (y ∷ xs) (suc i) (suc j) x below at = taken_at xs i j x (omega (arith, below)) at

-- and ends at one
not_earlier : (marks : List MarkOf) (i j : ℕ) (n : ℤ) (a b : List ℕ) → AreRecorded marks → i < j → slice_get marks i ≡ Some (ends n a) → slice_get marks j ≡ Some (ends n b) → ⊥
not_earlier marks i j n a b r below p q =
    let h = ended_has (take j marks) i n a (taken_at marks i j (ends n a) below p) in
    let fresh = r.answered (take j marks) (drop (suc j) marks) n b (cut marks j (ends n b) q) in
    fresh.1 (contains_at (ended (take j marks)) h.0 n h.1)

ended_once : (marks : List MarkOf) (i j : ℕ) (n : ℤ) (a b : List ℕ) → AreRecorded marks → slice_get marks i ≡ Some (ends n a) → slice_get marks j ≡ Some (ends n b) → i ≡ j
ended_once marks i j n a b r p q = elim (apart i j) [
  | inl h ↦ absurd (not_earlier marks i j n a b r h p q)
  | inr g ↦ elim g [ inl h ↦ absurd (not_earlier marks j i n b a r h q p) | inr e ↦ e ]
]

-- the marks of a call are at one place each, and carry one message each
pub same_begin : (marks : List MarkOf) (n : ℤ) (b b' : ℕ) (asked asked' : List ℕ) → AreRecorded marks → HasBegin marks n b asked → HasBegin marks n b' asked' → (b ≡ b') × (asked ≡ asked')
same_begin marks n b b' asked asked' r x y =
    let bs : b ≡ b' = begun_once marks b b' n x.client asked y.client asked' (once_pairs (begun marks) r.once) x.there y.there in
    let P : ℕ → Type 0 = λ k. slice_get marks k ≡ Some (begins n x.client asked) in
    let p = subst P bs x.there in
    let u = y.there in
    (bs, cc)

pub same_end : (marks : List MarkOf) (n : ℤ) (e e' : ℕ) (answered answered' : List ℕ) → AreRecorded marks → HasEnd marks n e answered → HasEnd marks n e' answered' → (e ≡ e') × (answered ≡ answered')
same_end marks n e e' answered answered' r x y =
    let es : e ≡ e' = ended_once marks e e' n answered answered' r x y in
    let Q : ℕ → Type 0 = λ k. slice_get marks k ≡ Some (ends n answered) in
    let q : slice_get marks e' ≡ Some (ends n answered) = subst Q es x in
    let v : slice_get marks e' ≡ Some (ends n answered') = y in
    (es, cc)

-- ---- calls

made : ℤ → ℕ → Option ℕ → RequestOf → Option ResponseOf → CallOf
made n b e q a = record { number = n; begin = b; end = e; request = q; response = a }

same_made : (n m : ℤ) (b c : ℕ) (e f : Option ℕ) (q r : RequestOf) (a s : Option ResponseOf) → n ≡ m → b ≡ c → e ≡ f → q ≡ r → a ≡ s → made n b e q a ≡ made m c f r s
same_made n m b c e f q r a s h i j k l =
    ap (λ (x : ℤ). made x b e q a) h ∙ ap (λ (x : ℕ). made m x e q a) i ∙ ap (λ (x : Option ℕ). made m c x q a) j ∙ ap (λ (x : RequestOf). made m c f x a) k
    ∙ ap (λ (x : Option ResponseOf). made m c f r x) l

whole : (c : CallOf) → c ≡ made c.number c.begin c.end c.request c.response
unfolding made
whole c = refl

same_ended : (marks : List MarkOf) (c d : CallOf) → AreRecorded marks → c.number ≡ d.number → c.request ≡ d.request → IsEnded marks c → IsEnded marks d → (c.end ≡ d.end) × (c.response ≡ d.response)
same_ended marks c d r n q (has_ended e a x h says close is) (has_ended f b y k reported ended being) =
    let P : ℤ → Type 0 = λ z. HasEnd marks z f b in
    let m = same_end marks c.number e f a b r h (subst P (sym n) k) in
    let A : List ℕ → Type 0 = λ bytes. AreResponse d.request bytes y in
    let B : RequestOf → Type 0 = λ w. AreResponse w a y in
    let s : x ≡ y = same_message (λ t. SaysResponse t c.request) (λ t. ResponseFault t c.request) a x y says (subst B (sym q) (subst A (sym m.1) reported)) in
    (close ∙ ap Some m.0 ∙ sym ended, is ∙ ap Some s ∙ sym being)
same_ended marks c d r n q (has_ended e a x h says close is) (is_open none ended being) = let P : ℤ → Type 0 = λ z. HasEnd marks z e a in absurd (none e a (subst P n h))
same_ended marks c d r n q (is_open none close is) (has_ended f b y k reported ended being) = let P : ℤ → Type 0 = λ z. HasEnd marks z f b in absurd (none f b (subst P (sym n) k))
same_ended marks c d r n q (is_open none close is) (is_open never ended being) = (close ∙ sym ended, is ∙ sym being)

pub same_recorded : (marks : List MarkOf) (c d : CallOf) → AreRecorded marks → IsRecorded marks c → IsRecorded marks d → c.number ≡ d.number → c ≡ d
same_recorded marks c d r x y e =
    let P : ℤ → Type 0 = λ n. HasBegin marks n d.begin y.asked in
    let m = same_begin marks c.number c.begin d.begin x.asked y.asked r x.carried (subst P (sym e) y.carried) in
    let A : List ℕ → Type 0 = λ bytes. AreRequest bytes d.request in
    let q : c.request ≡ d.request = same_message SaysRequest RequestFault x.asked c.request d.request x.request (subst A (sym m.1) y.request) in
    let s = same_ended marks c d r e q x.ended y.ended in
    whole c ∙ same_made c.number d.number c.begin d.begin c.end d.end c.request d.request c.response d.response e m.0 s.0 q s.1 ∙ sym (whole d)

pub recorded_at : (marks : List MarkOf) (calls : List CallOf) (i : ℕ) (c : CallOf) → AreCalls marks calls → slice_get calls i ≡ Some c → IsRecorded marks c
recorded_at marks calls i c are at =
    let P : CallOf → Type 0 = λ x. IsRecorded marks x in
    subst P (get_or_from_slice_get calls i c c at) (are.recorded i c (slice_get_within calls i c at))

pub same_calls : (marks : List MarkOf) (calls others : List CallOf) → AreRecorded marks → AreCalls marks calls → AreCalls marks others → calls ≡ others
same_calls marks calls others r a b =
    let e : map number_of calls ≡ map number_of others = a.numbers ∙ sym b.numbers in
    same_elements calls others (sym (length-map calls number_of) ∙ ap length e ∙ length-map others number_of) (λ i c at. by e i c at)
  where
    by : map number_of calls ≡ map number_of others → (i : ℕ) (c : CallOf) → slice_get calls i ≡ Some c → slice_get others i ≡ Some c
    by e i c at =
        let within : i < length others = omega (arith, slice_get_within calls i c at, length-map calls number_of, ap length e, length-map others number_of) in
        let d = some_at others i within in
        let P : List ℤ → Type 0 = λ xs. slice_get xs i ≡ Some c.number in
        let u = subst P e (get_at number_of calls i c at) in
        let v = get_at number_of others i d.0 d.1 in
        let n : d.0.number ≡ c.number = cc in
        d.1 ∙ ap Some (same_recorded marks d.0 c r (recorded_at marks others i d.0 b d.1) (recorded_at marks calls i c a at) n)
