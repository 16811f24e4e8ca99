-- The calls of a transcript begin in their order, and end after their begins.
use Rattle.std.proofs.Common.{◌≡◌, ◌<◌, ◌≤◌, inl, inr, ℕ, zero, suc, ℤ, List, [], ◌∷◌, length, take, drop, get_or, Contains, Some, slice_get, refl, ap, subst, arith}
use Rattle.std.proofs.lemmas.Option.{slice_get-get_or}
use Rattle.kmipa_record.specs.Marks.{MarkOf, begins, ends, begun, AreRecorded}
use Rattle.kmipa_check.specs.Calls.{CallOf, AreCalls, AreTimed, HasEnd, IsEnded, has_ended, is_open, IsRecorded}
use Rattle.kmipa_check.proofs.PlaceLemmas.{apart, at_contains, get_at}
use Rattle.kmipa_check.proofs.WholeOrderLemmas.{number_of}
use Rattle.kmipa_check.proofs.RecordedLemmas.{cut, same_begin, recorded_at}

-- the mark that begins the call of a place among those begun
record BegunAt (marks : List MarkOf) (i : ℕ) (n : ℤ) : Type 0 where
  place : ℕ
  client : List ℕ
  asked : List ℕ
  there : slice_get marks place ≡ Some (begins n client asked)
  counted : length (begun (take place marks)) ≡ i

begun_at : (marks : List MarkOf) (i : ℕ) (n : ℤ) → slice_get (begun marks) i ≡ Some n → BegunAt marks i n
begun_at [] i n at = absurd cc
begun_at (begins m client asked ∷ marks) zero n at =
    let e : m ≡ n = cc in
    record { place = 0; client = client; asked = asked; there = ap (λ (x : ℤ). Some (begins x client asked)) e; counted = refl }
begun_at (begins m client asked ∷ marks) (suc i) n at =
    let b = begun_at marks i n at in
    record { place = suc b.place; client = b.client; asked = b.asked; there = b.there; counted = ap suc b.counted }
begun_at (ends m answered ∷ marks) i n at =
    let b = begun_at marks i n at in
    record { place = suc b.place; client = b.client; asked = b.asked; there = b.there; counted = b.counted }

none_begun : (j : ℕ) → length (begun (take {A = MarkOf} j [])) ≡ 0
none_begun zero = refl
none_begun (suc j) = refl

more_begun : (marks : List MarkOf) (j k : ℕ) → j ≤ k → length (begun (take j marks)) ≤ length (begun (take k marks))
more_begun [] j k h = omega (arith, none_begun j)
more_begun (m ∷ marks) zero k h = omega arith
more_begun (m ∷ marks) (suc j) zero h = absurd (omega (arith, h))
more_begun (begins n client asked ∷ marks) (suc j) (suc k) h = omega (arith, more_begun marks j k (omega (arith, h)))
more_begun (ends n answered ∷ marks) (suc j) (suc k) h = more_begun marks j k (omega (arith, h))

behind : {X : Type 0} (xs : List X) (i j : ℕ) (x : X) → slice_get (take j xs) i ≡ Some x → (i < j) × (slice_get xs i ≡ Some x)
behind [] i zero x at = absurd cc
behind [] i (suc j) x at = absurd cc
behind (y ∷ xs) i zero x at = absurd cc
behind (y ∷ xs) zero (suc j) x at = (omega arith, at)
behind (y ∷ xs) (suc i) (suc j) x at = let p = behind xs i j x at in (omega (arith, p.0), p.1)

module _ (marks : List MarkOf) (r : AreRecorded marks) where
  -- a call begins before it ends
  begins_first : (c : CallOf) (x : IsRecorded marks c) (end : ℕ) (answered : List ℕ) → HasEnd marks c.number end answered → c.begin < end
  begins_first c x end answered h =
      let there = r.answered (take end marks) (drop (suc end) marks) c.number answered (cut marks end (ends c.number answered) h) in
      let at = at_contains (begun (take end marks)) c.number there.0 in
      let p = begun_at (take end marks) at.0 c.number at.1 in
      let q = behind marks p.place end (begins c.number p.client p.asked) p.there in
      let same = same_begin marks c.number c.begin p.place x.asked p.asked r x.carried (record { client = p.client; there = q.1 }) in
      omega (arith, same.0, q.0)

  module _ (calls : List CallOf) (are : AreCalls marks calls) where
    here : (i : ℕ) (d : CallOf) → i < length calls → slice_get calls i ≡ Some (get_or calls i d)
    here i d below = slice_get-get_or calls i d below

    mark : (i : ℕ) (d : CallOf) → i < length calls → BegunAt marks i (get_or calls i d).number
    mark i d below =
        let P : List ℤ → Type 0 = λ ns. slice_get ns i ≡ Some (get_or calls i d).number in
        begun_at marks i (get_or calls i d).number (subst P are.numbers (get_at number_of calls i (get_or calls i d) (here i d below)))

    same : (i : ℕ) (d : CallOf) (below : i < length calls) → (get_or calls i d).begin ≡ (mark i d below).place
    same i d below =
        let c = get_or calls i d in
        let x = recorded_at marks calls i c are (here i d below) in
        let m = mark i d below in
        (same_begin marks c.number c.begin m.place x.asked m.asked r x.carried (record { client = m.client; there = m.there })).0

    ascend : (p q : ℕ) (d : CallOf) → p < q → q < length calls → (get_or calls p d).begin < (get_or calls q d).begin
    ascend p q d less below =
        let first : p < length calls = omega (arith, less, below) in
        elim (apart (mark p d first).place (mark q d below).place) [
          | inl h ↦ omega (arith, h, same p d first, same q d below)
          | inr g ↦
              let back : (mark q d below).place ≤ (mark p d first).place = elim g [ inl h ↦ omega (arith, h) | inr e ↦ omega (arith, e) ] in
              absurd (omega (arith, less, (mark p d first).counted, (mark q d below).counted, more_begun marks (mark q d below).place (mark p d first).place back))
        ]

    closed : (c : CallOf) (end : ℕ) → Contains calls c → c.end ≡ Some end → c.begin < end
    closed c end one is =
        let p = at_contains calls c one in
        let x = recorded_at marks calls p.0 c are p.1 in
        by x x.ended
      where
        by : IsRecorded marks c → IsEnded marks c → c.begin < end
        by x (has_ended e answered response h says ended reported) = let same : e ≡ end = cc in omega (arith, begins_first c x e answered h, same)
        by x (is_open none ended reported) = absurd cc

    pub calls_are_timed_lem : AreTimed calls
    calls_are_timed_lem = record { ascend = ascend; closed = closed }
