-- What a search with guesses keeps.
use Rattle.std.proofs.Common.{◌≡◌, ◌<◌, ◌≤◌, inl, inr, ℕ, zero, suc, ◌+◌, ◌-◌, List, [], ◌∷◌, ◌++◌, map, length, All, Contains, Option, Some, None, MatchOption, refl, sym, ap, ◌∙◌, subst, arith}
use Rattle.std.proofs.lemmas.List.{length-append, map-append}
use Rattle.std.proofs.lemmas.List.Elements.{Contains-append_cases, Contains-append_left, All-contains}
use Rattle.kmipa_store.specs.Ledger.{Meaning, LedgerState, gone_back, back_from}
use Rattle.kmipa_store.specs.Choices.{IsSound}
use Rattle.kmipa_record.specs.Marks.{MarkOf}
use Rattle.kmipa_check.specs.Calls.{CallOf, IsRecorded}
use Rattle.kmipa_batch.specs.Readable.{IsReadableCall}
use Rattle.kmipa_check.specs.Steps.{StepOf}
use Rattle.kmipa_orders.specs.Candidates.{AreOfCalls, candidate_step, own_call}
use Rattle.kmipa_orders.specs.Guessing.{AreSoundMarks, AreRecordedCalls, IsReadableOne}
use Rattle.kmipa_orders.specs.Progress.{AllReadable}
use Rattle.kmipa_orders.specs.declared.candidate.Candidate.{Candidate}
use Rattle.kmipa_orders.proofs.PermutationLemmas.{contains_mapped}
use Rattle.kmipa_orders.proofs.PlaceLemmas.{one_cases}

-- the places that are taken, their turns, the depth of the newest mark, and the steps
pub record Guessing {T : Type 0} (count budget : ℕ) (path : List ℕ) (turns : List T) (depth steps : ℕ) (u : LedgerState) : Type 0 where
  pub sound : IsSound u.now
  pub after : AreSoundMarks (length path) u.marks
  pub within : (p : ℕ) → Contains path p → p < count
  pub deep : 0 < length path → depth ≡ length u.marks
  pub few : steps ≤ budget
  pub paid : length path ≤ steps
  pub turned : length turns ≡ length path

module _ {T : Type 0} (count budget : ℕ) where
  pub guessing_begins : (turns : List T) (path : List ℕ) (depth : ℕ) (u : LedgerState) → path ≡ [] → turns ≡ [] → IsSound u.now → Guessing count budget path turns depth 0 u
  guessing_begins turns path depth u none no_turns sound =
      let P : List ℕ → Type 0 = λ ps. Guessing count budget ps turns depth 0 u in
      let Q : List T → Type 0 = λ ts. Guessing count budget [] ts depth 0 u in
      subst P (sym none) (subst Q (sym no_turns) (record {
        sound = sound;
        after = tt;
        within = λ p has. absurd (omega (arith, has.1));
        deep = λ some. absurd (omega (arith, some));
        few = omega arith;
        paid = omega arith;
        turned = refl;
      }))

  module _ (path : List ℕ) (turns : List T) (depth steps : ℕ) (u : LedgerState) (g : Guessing count budget path turns depth steps u) where
    pub guessing_taken : (p : ℕ) (t : T) (mark : ℕ) (v : LedgerState) (paths : List ℕ) (more : List T) → p < count → steps < budget → IsSound v.now → v.marks ≡ u.now ∷ u.marks
        → mark ≡ length v.marks → paths ≡ path ++ p ∷ [] → more ≡ turns ++ t ∷ [] → Guessing count budget paths more mark (steps + 1) v
    guessing_taken p t mark v paths more below left sound marks deep is are =
        let P : List ℕ → Type 0 = λ ps. Guessing count budget ps more mark (steps + 1) v in
        let Q : List T → Type 0 = λ ts. Guessing count budget (path ++ p ∷ []) ts mark (steps + 1) v in
        let long : length (path ++ p ∷ []) ≡ suc (length path) = omega (arith, length-append path (p ∷ [])) in
        let S : List Meaning → Type 0 = λ ms. AreSoundMarks (suc (length path)) ms in
        let N : ℕ → Type 0 = λ n. AreSoundMarks n v.marks in
        subst P (sym is) (subst Q (sym are) (record {
          sound = sound;
          after = subst N (sym long) (subst S (sym marks) (g.sound, g.after));
          within = λ q has. elim (Contains-append_cases path (p ∷ []) q has) [
            | inl l ↦ g.within q l
            | inr r ↦ elim (one_cases p q [] r) [ inl e ↦ omega (arith, e, below) | inr none ↦ absurd (omega (arith, none.1)) ]
          ];
          deep = λ some. deep;
          few = omega (arith, left);
          paid = omega (arith, long, g.paid);
          turned = omega (arith, long, g.turned, length-append turns (t ∷ []));
        }))

    pub guessing_refused : (v : LedgerState) → steps < budget → v ≡ u → Guessing count budget path turns depth (steps + 1) v
    guessing_refused v left is =
        let P : LedgerState → Type 0 = λ s. Guessing count budget path turns depth (steps + 1) s in
        subst P (sym is) (record { sound = g.sound; after = g.after; within = g.within; deep = g.deep; few = omega (arith, left); paid = omega (arith, g.paid); turned = g.turned })

    pub guessing_back : (p : ℕ) (fewer : List ℕ) (rest : List T) (v : LedgerState) → path ≡ fewer ++ p ∷ [] → length rest + 1 ≡ length turns → v ≡ gone_back u
        → Guessing count budget fewer rest (depth - 1) steps v
    guessing_back p fewer rest v is less back = (let N : ℕ → Type 0 = λ n. AreSoundMarks n u.marks in by u.marks refl (subst N long g.after))
      where
        long : length path ≡ suc (length fewer)
        long = ap length is ∙ omega (arith, length-append fewer (p ∷ []))

        by : (marks : List Meaning) → u.marks ≡ marks → AreSoundMarks (suc (length fewer)) marks → Guessing count budget fewer rest (depth - 1) steps v
        by [] same sound = absurd sound
        by (m ∷ marks) same sound =
            let e : v ≡ record { now = m; marks = marks } = back ∙ ap (back_from u.now) same in
            let P : LedgerState → Type 0 = λ s. Guessing count budget fewer rest (depth - 1) steps s in
            subst P (sym e) (record {
              sound = sound.0;
              after = sound.1;
              within = λ q has. let C : List ℕ → Type 0 = λ ps. Contains ps q in g.within q (subst C (sym is) (Contains-append_left fewer (p ∷ []) q has));
              deep = λ some. omega (arith, g.deep (omega (arith, long)), ap length same);
              few = g.few;
              paid = omega (arith, g.paid, long);
              turned = omega (arith, g.turned, long, less);
            })

-- where a call is taken, there is a mark
pub some_marks : (count : ℕ) (marks : List Meaning) → 0 < count → AreSoundMarks count marks → 0 < length marks
some_marks zero marks some h = absurd (omega (arith, some))
some_marks (suc count) [] some h = absurd h
some_marks (suc count) (m ∷ marks) some h = omega arith

-- of some turns one goes
pub one_less : {T : Type 0} (last : Option T) (old new : ℕ) → 0 < old → MatchOption last ((old ≡ 0) × (new ≡ 0)) (λ _. new + 1 ≡ old) → new + 1 ≡ old
one_less None old new some h = absurd (omega (arith, some, h.0))
one_less (Some t) old new some h = h

-- the candidates are recorded calls
pub own_recorded : (marks : List MarkOf) (calls : List CallOf) (own given : List Candidate) → given ≡ own → AreOfCalls calls (map own_call own) → All (IsRecorded marks) calls → AreRecordedCalls given
own_recorded marks calls own given is of each c has =
    let P : List Candidate → Type 0 = λ cs. Contains cs c in
    (marks, All-contains (IsRecorded marks) calls (own_call c) each (of (own_call c) (contains_mapped own_call own c (subst P is has))))

-- one call more is looked at
pub none_of_calls : (calls : List CallOf) (own : List Candidate) → own ≡ [] → AreOfCalls calls (map own_call own)
none_of_calls calls own is c has = let P : List Candidate → Type 0 = λ cs. Contains (map own_call cs) c in let h = subst P is has in absurd (omega (arith, h.1))

pub more_of_calls : (calls : List CallOf) (own more : List Candidate) (one : Candidate) (c : CallOf) → more ≡ own ++ one ∷ [] → own_call one ≡ c → Contains calls c → AreOfCalls calls (map own_call own)
    → AreOfCalls calls (map own_call more)
more_of_calls calls own more one c is same there of d has =
    let P : List Candidate → Type 0 = λ cs. Contains (map own_call cs) d in
    let Q : List CallOf → Type 0 = λ cs. Contains cs d in
    elim (Contains-append_cases (map own_call own) (own_call one ∷ []) d (subst Q (map-append own_call own (one ∷ [])) (subst P is has))) [
      | inl l ↦ of d l
      | inr r ↦ elim (one_cases (own_call one) d [] r) [
        | inl e ↦ let R : CallOf → Type 0 = λ x. Contains calls x in subst R (sym same ∙ e) there
        | inr none ↦ absurd (omega (arith, none.1))
      ]
    ]

-- one call more is plain
pub readable_more : (own more : List Candidate) (one : Candidate) → more ≡ own ++ one ∷ [] → AllReadable (map candidate_step own) → IsReadableOne one → AllReadable (map candidate_step more)
readable_more own more one is each last c has =
    let P : List Candidate → Type 0 = λ cs. Contains (map candidate_step cs) c in
    let Q : List StepOf → Type 0 = λ cs. Contains cs c in
    elim (Contains-append_cases (map candidate_step own) (candidate_step one ∷ []) c (subst Q (map-append candidate_step own (one ∷ [])) (subst P is has))) [
      | inl l ↦ each c l
      | inr r ↦ elim (one_cases (candidate_step one) c [] r) [
        | inl e ↦ let R : StepOf → Type 0 = λ x. IsReadableCall x.request x.response in subst R e last
        | inr none ↦ absurd (omega (arith, none.1))
      ]
    ]
