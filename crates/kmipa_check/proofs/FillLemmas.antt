-- Fills: the places that wait for them, and what they make of a response.
use Rattle.std.proofs.Common.{◌≡◌, ◌≢◌, ◌<◌, inl, inr, ℕ, zero, suc, ℤ, List, [], ◌∷◌, Contains, Some, slice_get, refl, sym, ap, ◌∙◌, subst, arith}
use Rattle.std.specs.Prelude.{AllPairs}
use Rattle.std.specs.List.{zip}
use Rattle.std.proofs.lemmas.Option.{get_or_from_slice_get}
use Rattle.kmipa_record.specs.Witnesses.{FillOf}
use Rattle.kmipa_msgs.specs.Messages.{AskOf, PayloadOf, AnswerOf, RequestOf, ResponseOf}
use Rattle.kmipa_check.specs.Fills.{IsWantedAt, AreWanted, SaysFill, with_payload, IsFilledAt, stays, put_in, IsFilled, SomeFormless, FillFault, unwanted, missing, misformed}
use Rattle.kmipa_check.specs.Steps.{NeedsFill}
use Rattle.kmipa_check.specs.declared.fault.WitnessKind.{WitnessKind}
use Rattle.kmipa_check.proofs.PlaceLemmas.{apart, at_contains, at_within, some_at, same_elements}

-- ---- pairs by place

pub pair_at : {X Y : Type 0} (xs : List X) (ys : List Y) (i : ℕ) (x : X) (y : Y) → slice_get xs i ≡ Some x → slice_get ys i ≡ Some y → slice_get (zip xs ys) i ≡ Some (x, y)
pair_at [] ys i x y a b = absurd cc
pair_at (u ∷ xs) [] i x y a b = absurd cc
pair_at (u ∷ xs) (v ∷ ys) zero x y a b = let p : u ≡ x = cc in let q : v ≡ y = cc in ap Some (λ j. (p j, q j))
pair_at (u ∷ xs) (v ∷ ys) (suc i) x y a b = pair_at xs ys i x y a b

pub pair_left : {X Y : Type 0} (xs : List X) (ys : List Y) (i : ℕ) (x : X) (y : Y) → slice_get (zip xs ys) i ≡ Some (x, y) → slice_get xs i ≡ Some x
pair_left [] ys i x y at = absurd cc
pair_left (u ∷ xs) [] i x y at = absurd cc
pair_left {X} {Y} (u ∷ xs) (v ∷ ys) zero x y at = let e : (u, v) ≡ (x, y) = cc in ap (λ (p : X × Y). Some p.0) e
pair_left (u ∷ xs) (v ∷ ys) (suc i) x y at = pair_left xs ys i x y at

pub pair_right : {X Y : Type 0} (xs : List X) (ys : List Y) (i : ℕ) (x : X) (y : Y) → slice_get (zip xs ys) i ≡ Some (x, y) → slice_get ys i ≡ Some y
pair_right [] ys i x y at = absurd cc
pair_right (u ∷ xs) [] i x y at = absurd cc
pair_right {X} {Y} (u ∷ xs) (v ∷ ys) zero x y at = let e : (u, v) ≡ (x, y) = cc in ap (λ (p : X × Y). Some p.1) e
pair_right (u ∷ xs) (v ∷ ys) (suc i) x y at = pair_right xs ys i x y at

-- ---- a fill's place, and a place's fill

-- at a place is one ask with one answer
same_pair : (request : RequestOf) (response : ResponseOf) (place : ℕ) (ask other : AskOf) (answer another : AnswerOf) → IsWantedAt request response place ask answer
    → IsWantedAt request response place other another → ask ≡ other
same_pair request response place ask other answer another a b =
    let p = pair_left request.items response.items place ask answer a.there in
    let q = pair_left request.items response.items place other another b.there in
    cc

-- no two have one number
pub once_at : {X : Type 0} (number : X → ℤ) (xs : List X) → AllPairs (λ (a b : X). number a ≢ number b) xs
    → (i j : ℕ) (a b : X) → i < j → slice_get xs i ≡ Some a → slice_get xs j ≡ Some b → number a ≡ number b → ⊥
once_at number xs once i j a b before at there same =
    once i j a before (at_within xs j b there) (ap number (get_or_from_slice_get xs i a a at) ∙ same ∙ sym (ap number (get_or_from_slice_get xs j b a there)))

-- no two fills are for one place
module _ (fills : List FillOf) (once : AllPairs (λ (a b : FillOf). a.item ≢ b.item) fills) where
  pub same_fill : (a b : FillOf) → Contains fills a → Contains fills b → a.item ≡ b.item → a ≡ b
  same_fill a b one other same = by (at_contains fills a one) (at_contains fills b other)
    where
      by : (i : ℕ) × (slice_get fills i ≡ Some a) → (j : ℕ) × (slice_get fills j ≡ Some b) → a ≡ b
      by p q = elim (apart p.0 q.0) [
        | inl h ↦ absurd (once_at (λ (f : FillOf). f.item) fills once p.0 q.0 a b h p.1 q.1 same)
        | inr g ↦ elim g [
          | inl h ↦ absurd (once_at (λ (f : FillOf). f.item) fills once q.0 p.0 b a h q.1 p.1 (sym same))
          | inr e ↦
              let at = p.1 in
              let there = q.1 in
              cc
        ]
      ]

-- ---- one full response

same_response : (a b : ResponseOf) → a.stamp ≡ b.stamp → a.items ≡ b.items → a ≡ b
same_response a b e f = λ j. record { stamp = e j; items = f j }

one_filled_at : (request : RequestOf) (response : ResponseOf) (fills : List FillOf) (place : ℕ) (answer full other : AnswerOf) → AreWanted request response fills
    → IsFilledAt request response fills place answer full → IsFilledAt request response fills place answer other → full ≡ other
one_filled_at request response fills place answer full other w (stays none is) (stays never same) = is ∙ sym same
one_filled_at request response fills place answer full other w (stays none is) (put_in ask at fill one names p says same) = absurd (none (ask, answer, at))
one_filled_at request response fills place answer full other w (put_in ask at fill one names p says is) (stays never same) = absurd (never (ask, answer, at))
one_filled_at request response fills place answer full other w (put_in ask at fill one names p says is) (put_in asked there filled some named q said same) =
    let e = same_fill fills w.once filled fill some one (named ∙ sym names) in
    let a = same_pair request response place asked ask answer answer there at in
    let P : FillOf → Type 0 = λ f. SaysFill f asked q in
    let Q : AskOf → Type 0 = λ x. SaysFill fill x q in
    let its = subst Q a (subst P e said) in
    let payload : q ≡ p = says.only q its.said in
    is ∙ sym (ap (λ (x : PayloadOf). with_payload answer x) payload) ∙ sym same

pub one_filled : (request : RequestOf) (response : ResponseOf) (fills : List FillOf) (full other : ResponseOf) → IsFilled request response fills full → IsFilled request response fills other → full ≡ other
one_filled request response fills full other a b =
    same_response full other (a.stamp ∙ sym b.stamp) (same_elements full.items other.items (a.counted ∙ sym b.counted) (λ i x at. by i x at))
  where
    by : (i : ℕ) (x : AnswerOf) → slice_get full.items i ≡ Some x → slice_get other.items i ≡ Some x
    by i x at =
        let within = at_within full.items i x at in
        let y = some_at other.items i (omega (arith, within, a.counted, b.counted)) in
        let answer = some_at response.items i (omega (arith, within, a.counted)) in
        let e = one_filled_at request response fills i answer.0 y.0 x a.wanted (b.each i answer.0 y.0 answer.1 y.1) (a.each i answer.0 x answer.1 at) in
        y.1 ∙ ap Some e

-- where none is wanted, it is the response itself
pub filled_itself : (request : RequestOf) (response : ResponseOf) → (NeedsFill request response → ⊥) → IsFilled request response [] response
filled_itself request response none = record {
  wanted = record { each = λ fill one. absurd (none_in fill one); once = λ i j d below within. absurd (omega (arith, within)) };
  complete = λ place wanted. absurd (none (place, wanted));
  stamp = refl;
  counted = refl;
  each = λ place answer full at there. stays (λ wanted. none (place, wanted)) (let same : answer ≡ full = cc in sym same);
}
  where
    none_in : (fill : FillOf) → Contains [] fill → ⊥
    none_in fill one = let p = at_contains [] fill one in let at = p.1 in cc

pub filled_same : (request : RequestOf) (response : ResponseOf) (fills : List FillOf) (full : ResponseOf) → (NeedsFill request response → ⊥) → IsFilled request response fills full → full ≡ response
filled_same request response fills full none a = same_response full response a.stamp (same_elements full.items response.items a.counted (λ i x at. by i x at))
  where
    by : (i : ℕ) (x : AnswerOf) → slice_get full.items i ≡ Some x → slice_get response.items i ≡ Some x
    by i x at =
        let answer = some_at response.items i (omega (arith, at_within full.items i x at, a.counted)) in
        here (a.each i answer.0 x answer.1 at) answer.1
      where
        here : {y : AnswerOf} → IsFilledAt request response fills i y x → slice_get response.items i ≡ Some y → slice_get response.items i ≡ Some x
        here (stays never is) there = there ∙ ap Some (sym is)
        here {y} (put_in ask w fill one names p says is) there = absurd (none (i, (ask, y, w)))

-- ---- one fault

some_formless : (request : RequestOf) (response : ResponseOf) (fills : List FillOf) (full : ResponseOf) → IsFilled request response fills full → SomeFormless request response fills → ⊥
some_formless request response fills full f s =
    let answer = pair_right request.items response.items s.place s.ask s.answer s.at.there in
    let x = some_at full.items s.place (omega (arith, at_within response.items s.place s.answer answer, f.counted)) in
    by (f.each s.place s.answer x.0 answer x.1)
  where
    by : {x : AnswerOf} → IsFilledAt request response fills s.place s.answer x → ⊥
    by (stays never is) = never (s.ask, s.answer, s.at)
    by (put_in ask at fill one names p says is) =
        let e = same_fill fills f.wanted.once fill s.fill one s.one (names ∙ sym s.names) in
        let a = same_pair request response s.place ask s.ask s.answer s.answer at s.at in
        let P : FillOf → Type 0 = λ g. SaysFill g ask p in
        let Q : AskOf → Type 0 = λ x. SaysFill s.fill x p in
        let its = subst Q a (subst P e says) in
        its.right s.formless.0 s.formless.1 s.formless.2.here

-- fills that are put in have none
pub filled_right : (request : RequestOf) (response : ResponseOf) (fills : List FillOf) (full : ResponseOf) (kind : WitnessKind) → IsFilled request response fills full
    → FillFault request response fills kind → ⊥
filled_right request response fills full kind f (unwanted never is) = never f.wanted
filled_right request response fills full kind f (missing wanted never is) = never f.complete
filled_right request response fills full kind f (misformed wanted complete formless is) = some_formless request response fills full f formless

pub one_fill_fault : (request : RequestOf) (response : ResponseOf) (fills : List FillOf) (kind other : WitnessKind) → FillFault request response fills kind → FillFault request response fills other → kind ≡ other
one_fill_fault request response fills kind other (unwanted never is) (unwanted any same) = is ∙ sym same
one_fill_fault request response fills kind other (unwanted never is) (missing wanted any same) = absurd (never wanted)
one_fill_fault request response fills kind other (unwanted never is) (misformed wanted complete any same) = absurd (never wanted)
one_fill_fault request response fills kind other (missing wanted never is) (unwanted any same) = absurd (any wanted)
one_fill_fault request response fills kind other (missing wanted never is) (missing some any same) = is ∙ sym same
one_fill_fault request response fills kind other (missing wanted never is) (misformed some complete any same) = absurd (never complete)
one_fill_fault request response fills kind other (misformed wanted complete some is) (unwanted any same) = absurd (any wanted)
one_fill_fault request response fills kind other (misformed wanted complete some is) (missing other_wanted any same) = absurd (any complete)
one_fill_fault request response fills kind other (misformed wanted complete some is) (misformed w c any same) = is ∙ sym same
