-- The first message of a transcript that is outside: none where all are inside, and else one.
use Rattle.std.proofs.Common.{◌≡◌, ◌<◌, ◌⊎◌, inl, inr, ℕ, ℤ, List, [], ◌∷◌, length, get_or, Some, slice_get, refl, sym, ap, ◌∙◌, subst, arith}
use Rattle.std.proofs.lemmas.List.{length-map, take_all}
use Rattle.std.proofs.lemmas.Option.{get_or_from_slice_get, slice_get_within}
use Rattle.kmipa_ttlv.specs.Tree.{Tree}
use Rattle.kmipa_record.specs.Marks.{MarkOf, begun, AreRecorded}
use Rattle.kmipa_msgs.specs.declared.kind.OutsideKind.{OutsideKind}
use Rattle.kmipa_msgs.specs.declared.kind.OutsideKind.TheVariants.{NotAMessage, Version, Count, Operation, ObjectType, IdentifierForm, Wrapped, Format, Missing, Attribute, Pending, Disagree, Unordered}
use Rattle.kmipa_msgs.specs.Kinds.{kind_number}
use Rattle.kmipa_msgs.specs.Messages.{RequestOf}
use Rattle.kmipa_msgs.specs.Outside.{OutsideAt}
use Rattle.kmipa_msgs.specs.Requests.{SaysRequest, RequestFault}
use Rattle.kmipa_msgs.specs.Responses.{SaysResponse, ResponseFault}
use Rattle.kmipa_check.specs.Calls.{CallOf, AreOutside, no_item, outside, AreRequest, HasBegin, IsEnded, has_ended, is_open, IsRecorded, AreFirstCalls, AreCalls, IsOutsideOn, IsFirstOutside}
use Rattle.kmipa_check.specs.declared.fault.Side.{Side}
use Rattle.kmipa_check.specs.declared.fault.Side.TheVariants.{Client, Server}
use Rattle.kmipa_check.proofs.PlaceLemmas.{apart, get_at, some_at}
use Rattle.kmipa_check.proofs.WholeOrderLemmas.{number_of}
use Rattle.kmipa_check.proofs.RecordedLemmas.{taken_at, same_begin, same_end}
use Rattle.kmipa_check.proofs.MessageLemmas.{same_item, same_message, not_outside}

kind_at : ℕ → OutsideKind
kind_at n =
    get_or
    (NotAMessage ∷ NotAMessage ∷ Version ∷ Count ∷ Operation ∷ ObjectType ∷ IdentifierForm ∷ Wrapped ∷ Format ∷ Missing ∷ Attribute ∷ Pending ∷ Disagree ∷ Unordered ∷ []) n Unordered

kind_back : (k : OutsideKind) → kind_at (kind_number k) ≡ k
unfolding kind_at
kind_back NotAMessage = refl
kind_back Version = refl
kind_back Count = refl
kind_back Operation = refl
kind_back ObjectType = refl
kind_back IdentifierForm = refl
kind_back Wrapped = refl
kind_back Format = refl
kind_back Missing = refl
kind_back Attribute = refl
kind_back Pending = refl
kind_back Disagree = refl
kind_back Unordered = refl

one_place : (Fault : ℕ → OutsideKind → Type 0) (i j : ℕ) (k l : OutsideKind) → OutsideAt Fault i k → OutsideAt Fault j l → (i ≡ j) × (k ≡ l)
one_place Fault i j k l a b = elim (apart i j) [
  | inl h ↦ absurd (b.first i k h a.here)
  | inr g ↦ elim g [ inl h ↦ absurd (a.first j l h b.here) | inr e ↦ (e, kinds e (apart (kind_number k) (kind_number l))) ]
]
  where
    kinds : i ≡ j → (kind_number k < kind_number l) ⊎ ((kind_number l < kind_number k) ⊎ (kind_number k ≡ kind_number l)) → k ≡ l
    kinds e (inl h) = let P : ℕ → Type 0 = λ x. Fault x k in absurd (b.least k h (subst P e a.here))
    kinds e (inr (inl h)) = let P : ℕ → Type 0 = λ x. Fault x l in absurd (a.least l h (subst P (sym e) b.here))
    kinds e (inr (inr n)) = sym (kind_back k) ∙ ap kind_at n ∙ kind_back l

one_outside : (Fault : Tree → ℕ → OutsideKind → Type 0) (bytes : List ℕ) (i j : ℕ) (k l : OutsideKind) → AreOutside Fault bytes i k → AreOutside Fault bytes j l → (i ≡ j) × (k ≡ l)
one_outside Fault bytes i j k l (no_item none e f) (no_item other g h) = (e ∙ sym g, f ∙ sym h)
one_outside Fault bytes i j k l (no_item none e f) (outside t spelled o) = absurd (none t spelled)
one_outside Fault bytes i j k l (outside t spelled o) (no_item none e f) = absurd (none t spelled)
one_outside Fault bytes i j k l (outside t spelled o) (outside u spells p) =
    let P : Tree → Type 0 = λ x. OutsideAt (Fault x) j l in
    one_place (Fault t) i j k l o (subst P (same_item u t bytes spells spelled) p)

-- what says two messages is on no side outside
not_outside_on : (marks : List MarkOf) (c : CallOf) (s : Side) (asked : List ℕ) (i : ℕ) (k : OutsideKind) → AreRecorded marks → AreRequest asked c.request → IsEnded marks c
    → IsOutsideOn marks c.number s asked i k → ⊥
not_outside_on marks c Client asked i k r x y o = not_outside SaysRequest RequestFault asked c.request i k x o
not_outside_on marks c Server asked i k r x (is_open none ends is) o = none o.end o.answered o.ended
not_outside_on marks c Server asked i k r x (has_ended e a p h says ends is) o =
    let q : o.request ≡ c.request = same_message SaysRequest RequestFault asked o.request c.request o.said x in
    let m = same_end marks c.number o.end e o.answered a r o.ended h in
    let P : RequestOf → Type 0 = λ w. AreOutside (λ t. ResponseFault t w) o.answered i k in
    let Q : List ℕ → Type 0 = λ bytes. AreOutside (λ t. ResponseFault t c.request) bytes i k in
    not_outside (λ t. SaysResponse t c.request) (λ t. ResponseFault t c.request) a p i k says (subst Q m.1 (subst P q o.outside))

module _ (marks : List MarkOf) (r : AreRecorded marks) where
  -- one side of a call is outside, or the other
  one_side : (n : ℤ) (s t : Side) (asked : List ℕ) (i j : ℕ) (k l : OutsideKind) → IsOutsideOn marks n s asked i k → IsOutsideOn marks n t asked j l → (s ≡ t) × (i ≡ j) × (k ≡ l)
  one_side n Client Client asked i j k l a b = let e = one_outside RequestFault asked i j k l a b in (refl, e.0, e.1)
  one_side n Client Server asked i j k l a b = absurd (not_outside SaysRequest RequestFault asked b.request i k b.said a)
  one_side n Server Client asked i j k l a b = absurd (not_outside SaysRequest RequestFault asked a.request j l a.said b)
  one_side n Server Server asked i j k l a b =
      let same = same_message SaysRequest RequestFault asked b.request a.request b.said a.said in
      let m = same_end marks n b.end a.end b.answered a.answered r b.ended a.ended in
      let P : RequestOf → Type 0 = λ q. AreOutside (λ t. ResponseFault t q) b.answered j l in
      let Q : List ℕ → Type 0 = λ bytes. AreOutside (λ t. ResponseFault t a.request) bytes j l in
      let e = one_outside (λ t. ResponseFault t a.request) a.answered i j k l a.outside (subst Q m.1 (subst P same b.outside)) in
      (refl, e.0, e.1)

  -- no call that is inside is the first that is outside
  inside_before : (calls : List CallOf) (n : ℤ) (s : Side) (i : ℕ) (k : OutsideKind) → AreFirstCalls marks calls → (f : IsFirstOutside marks n s i k) → length f.before < length calls → ⊥
  inside_before calls n s i k a f below =
      let c = some_at calls (length f.before) below in
      let P : List ℤ → Type 0 = λ xs. slice_get xs (length f.before) ≡ Some c.0.number in
      let here = subst P a.numbers (get_at number_of calls (length f.before) c.0 c.1) in
      let there = taken_at (begun marks) (length f.before) (length calls) n below f.next in
      let same : c.0.number ≡ n = cc in
      let R : CallOf → Type 0 = λ x. IsRecorded marks x in
      let x : IsRecorded marks c.0 = subst R (get_or_from_slice_get calls (length f.before) c.0 c.0 c.1) (a.recorded (length f.before) c.0 below) in
      let Q : ℤ → Type 0 = λ m. HasBegin marks m c.0.begin x.asked in
      let m = same_begin marks n c.0.begin f.begin x.asked f.asked r (subst Q same x.carried) f.carried in
      let A : List ℕ → Type 0 = λ bytes. AreRequest bytes c.0.request in
      let O : ℤ → Type 0 = λ z. IsOutsideOn marks z s f.asked i k in
      not_outside_on marks c.0 s f.asked i k r (subst A m.1 x.request) x.ended (subst O (sym same) f.outside)

  -- where all calls are inside, none is outside
  pub none_outside : (calls : List CallOf) (n : ℤ) (s : Side) (i : ℕ) (k : OutsideKind) → AreCalls marks calls → IsFirstOutside marks n s i k → ⊥
  none_outside calls n s i k are f =
      let long : length calls ≡ length (begun marks) = sym (length-map calls number_of) ∙ ap length are.numbers in
      let first : AreFirstCalls marks calls = record { numbers = are.numbers ∙ sym (take_all (length calls) (begun marks) (omega (arith, long))); recorded = are.recorded } in
      inside_before calls n s i k first f (omega (arith, long, slice_get_within (begun marks) (length f.before) n f.next))

  pub one_first_outside : (n m : ℤ) (s t : Side) (i j : ℕ) (k l : OutsideKind) → IsFirstOutside marks n s i k → IsFirstOutside marks m t j l → (n ≡ m) × (s ≡ t) × (i ≡ j) × (k ≡ l)
  one_first_outside n m s t i j k l f g = elim (apart (length f.before) (length g.before)) [
    | inl h ↦ absurd (inside_before g.before n s i k g.inside f h)
    | inr w ↦ elim w [ inl h ↦ absurd (inside_before f.before m t j l f.inside g h) | inr e ↦ by e ]
  ]
    where
      by : length f.before ≡ length g.before → (n ≡ m) × (s ≡ t) × (i ≡ j) × (k ≡ l)
      by e =
          let P : ℕ → Type 0 = λ x. slice_get (begun marks) x ≡ Some n in
          let a = subst P e f.next in
          let b = g.next in
          let same : n ≡ m = cc in
          let Q : ℤ → Type 0 = λ x. HasBegin marks x f.begin f.asked in
          let w = same_begin marks m f.begin g.begin f.asked g.asked r (subst Q same f.carried) g.carried in
          let A : List ℕ → Type 0 = λ bytes. IsOutsideOn marks m s bytes i k in
          let B : ℤ → Type 0 = λ x. IsOutsideOn marks x s f.asked i k in
          let o = one_side m s t g.asked i j k l (subst A w.1 (subst B same f.outside)) g.outside in
          (same, o.0, o.1, o.2)
