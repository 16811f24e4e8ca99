-- Where a search stands, one call more, one refuted, and one given back.
use Rattle.std.proofs.Common.{◌≡◌, inl, inr, ℕ, true, false, List, [], ◌∷◌, ◌++◌, length, Contains, Some, None, Result, Ok, Err, slice_get, refl, sym, ap, ◌∙◌, subst, arith}
use Rattle.std.specs.Prelude.{IfOk, OnOk, reverse}
use Rattle.std.proofs.lemmas.Option.{slice_get_within}
use Rattle.std.proofs.lemmas.List.{reverse-append}
use Rattle.std.proofs.lemmas.List.Elements.{Contains-append_cases}
use Rattle.kmipa_store.specs.Ledger.{Meaning, LedgerState, gone_back, back_from}
use Rattle.kmipa_record.specs.Declarations.{DeclarationOf}
use Rattle.kmipa_record.specs.Marks.{MarkOf}
use Rattle.kmipa_msgs.specs.Messages.{RulesOf}
use Rattle.kmipa_check.specs.Runs.{rules_declared}
use Rattle.kmipa_check.proofs.PlaceLemmas.{some_at}
use Rattle.kmipa_turns.specs.Steps.{StepOf}
use Rattle.kmipa_trail.specs.Leading.{AreKnown}
use Rattle.kmipa_trail.specs.Owners.{in_sight, step_seen}
use Rattle.kmipa_findings.specs.Boards.{IsBoard}
use Rattle.kmipa_findings.specs.Exhausting.{AreDead, IsBareStep, IsDead, IsExhausted, IsStepAt, IsSure, KnownBy, Stands, StandsAt, TriesTrial, places_of, steps_along, taken_in}
use Rattle.kmipa_findings.specs.Findings.{IsUnexplained}
use Rattle.kmipa_findings.specs.declared.board.Board.{Board}
use Rattle.kmipa_findings.specs.declared.descending.Descent.{Descent}
use Rattle.kmipa_findings.specs.declared.descending.Taken.{Taken}
use Rattle.kmipa_findings.specs.declared.descending.Visit.{Visit}
use Rattle.kmipa_findings.specs.declared.trial.Trial.{Trial}
use Rattle.kmipa_findings.proofs.BoardLemmas.{one_cases}
use Rattle.kmipa_findings.proofs.DeadLemmas.{along_push, dead_covered, dead_refused, known_behind, none_explained, stands_at}

-- the last of a path is the first of those that are visited
pub last_first : (path : List Visit) (v : Visit) → reverse (path ++ v ∷ []) ≡ v ∷ reverse path
last_first path v = reverse-append path (v ∷ [])

module _ (marks : List MarkOf) (declared : DeclarationOf) (trials : List Trial) where
  pub stands_begun : (b : Board) (s : LedgerState) → IsBoard (length trials) [] b → AreKnown declared [] s.now → StandsAt marks declared trials [] [] b s
  stands_begun b s board known = record { board = board; known = known; dead = λ place has. absurd (omega (arith, has.1)); behind = tt }

  pub stands_more : (visits : List Visit) (refuted : List ℕ) (b : Board) (s : LedgerState) → StandsAt marks declared trials visits refuted b s → (v : Visit) → v.refuted.items ≡ refuted
      → (Contains (places_of visits) v.place → ⊥) → (c : Board) → IsBoard (length trials) (v.place ∷ places_of visits) c → (u : LedgerState)
      → AreKnown declared (in_sight declared (steps_along trials (v.place ∷ places_of visits))) u.now → u.marks ≡ s.now ∷ s.marks → StandsAt marks declared trials (v ∷ visits) [] c u
  stands_more visits refuted b s h v is fresh c board u known marked =
      let K : List Meaning → Type 0 = λ ms. KnownBy declared trials (v.place ∷ places_of visits) u.now ms in
      let D : List ℕ → Type 0 = λ xs. AreDead marks declared trials (places_of visits) xs in
      record {
        board = board;
        known = subst K (sym marked) (known, h.known);
        dead = λ place has. absurd (omega (arith, has.1));
        behind = (subst D (sym is) h.dead, (fresh, h.behind));
      }

  -- one more is refuted here
  pub dead_more : (taken refuted : List ℕ) (place : ℕ) (all : List ℕ) → AreDead marks declared trials taken refuted → IsDead marks declared (steps_along trials (place ∷ taken))
      → all ≡ refuted ++ place ∷ [] → AreDead marks declared trials taken all
  dead_more taken refuted place all dead one is other has =
      let C : List ℕ → Type 0 = λ xs. Contains xs other in
      elim (Contains-append_cases refuted (place ∷ []) other (subst C is has)) [
        | inl h ↦ dead other h
        | inr h ↦ elim (one_cases place other [] h) [
          | inl e ↦ let P : ℕ → Type 0 = λ p. IsDead marks declared (steps_along trials (p ∷ taken)) in subst P e one
          | inr none ↦ absurd (omega (arith, none.1))
        ]
      ]

  pub stands_refuted : (visits : List Visit) (refuted : List ℕ) (b : Board) (s : LedgerState) (place : ℕ) (all : List ℕ) → StandsAt marks declared trials visits refuted b s
      → IsDead marks declared (steps_along trials (place ∷ places_of visits)) → all ≡ refuted ++ place ∷ [] → StandsAt marks declared trials visits all b s
  stands_refuted visits refuted b s place all h one is = record {
    board = h.board;
    known = h.known;
    dead = dead_more (places_of visits) refuted place all h.dead one is;
    behind = h.behind;
  }

  pub stands_less : (v : Visit) (visits : List Visit) (refuted : List ℕ) (b : Board) (s : LedgerState) → StandsAt marks declared trials (v ∷ visits) refuted b s
      → IsDead marks declared (steps_along trials (v.place ∷ places_of visits))
      → (c : Board) → ((count : ℕ) (taken : List ℕ) → IsBoard count (v.place ∷ taken) b → (Contains taken v.place → ⊥) → IsBoard count taken c)
      → (u : LedgerState) → u ≡ gone_back s → (all : List ℕ) → all ≡ v.refuted.items ++ v.place ∷ [] → StandsAt marks declared trials visits all c u
  stands_less v visits refuted b s h one c less u went all is = by s.marks refl h.known
    where
      by : (ms : List Meaning) → s.marks ≡ ms → KnownBy declared trials (v.place ∷ places_of visits) s.now ms → StandsAt marks declared trials visits all c u
      by [] same known = absurd known
      by (m ∷ ms) same known =
          let e : u ≡ record { now = m; marks = ms } = went ∙ ap (back_from s.now) same in
          let P : LedgerState → Type 0 = λ x. StandsAt marks declared trials visits all c x in
          subst P (sym e) (record {
            board = less (length trials) (places_of visits) h.board h.behind.1.0;
            known = known.1;
            dead = dead_more (places_of visits) v.refuted.items v.place all h.behind.0 one is;
            behind = h.behind.1.1;
          })

-- ---- a call that is tried

-- what is known where a search stands
pub known_now : (declared : DeclarationOf) (trials : List Trial) (taken : List ℕ) (m : Meaning) (ms : List Meaning) → KnownBy declared trials taken m ms
    → AreKnown declared (in_sight declared (steps_along trials taken)) m
known_now declared trials [] m ms known = known
known_now declared trials (place ∷ earlier) m [] known = absurd known
known_now declared trials (place ∷ earlier) m (n ∷ ms) known = known.0

module _ (marks : List MarkOf) (declared : DeclarationOf) (trials : List Trial) (h : IsSure marks declared trials) (rules : RulesOf) (by_rules : rules ≡ rules_declared declared) where
  -- the step of a call that is tried
  pub step_tried : (place : ℕ) (t : Trial) → slice_get trials place ≡ Some t → (s : StepOf) × IsStepAt trials place s × IsBareStep t.way s
  step_tried place t there =
      let c = some_at h.calls place (omega (arith, slice_get_within trials place t there, h.tried.counted)) in
      let own = stands_at marks declared trials h place c.0 c.1 in
      let found = own.1.there in
      let same : own.1.trial ≡ t = cc in
      let B : Trial → Type 0 = λ x. IsBareStep x.way own.0 in
      (own.0, own.1, subst B same own.1.bare)

  -- where it is taken, this is known
  pub known_more_here : (taken : List ℕ) (place : ℕ) (s : StepOf) (v u : LedgerState) (t : Taken) → IsStepAt trials place s → KnownBy declared trials taken v.now v.marks
      → TriesTrial rules (step_seen [] s).taken v (Some t) u → AreKnown declared (in_sight declared (steps_along trials (place ∷ taken))) u.now
  known_more_here taken place s v u t i known tries =
      let R : RulesOf → Type 0 = λ r. TriesTrial r (step_seen [] s).taken v (Some t) u in
      let K : List StepOf → Type 0 = λ xs. AreKnown declared (in_sight declared xs) u.now in
      subst K (sym (along_push marks declared trials h place taken s i))
      (known_behind declared h.sure.seen (steps_along trials taken) s v.now u.now (known_now declared trials taken v.now v.marks known) (subst R by_rules tries))

  -- and where it isn't, nothing goes on with it
  pub dead_here : (taken : List ℕ) (place : ℕ) (s : StepOf) (v u : LedgerState) → IsStepAt trials place s → KnownBy declared trials taken v.now v.marks
      → TriesTrial rules (step_seen [] s).taken v None u → IsDead marks declared (steps_along trials (place ∷ taken))
  dead_here taken place s v u i known tries =
      let R : RulesOf → Type 0 = λ r. TriesTrial r (step_seen [] s).taken v None u in
      let e = subst R by_rules tries in
      let D : List StepOf → Type 0 = λ xs. IsDead marks declared xs in
      subst D (sym (along_push marks declared trials h place taken s i))
      (dead_refused declared h.sure.seen marks (steps_along trials taken) s v.now (known_now declared trials taken v.now v.marks known) e.0 e.1 e.2 e.3 e.4 e.5)

-- where all that may be next is refuted, what is taken goes on nowhere
pub dead_end : (marks : List MarkOf) (declared : DeclarationOf) (trials : List Trial) (d : Descent) (s : LedgerState) → IsSure marks declared trials → Stands marks declared trials d s → IsExhausted trials d
    → IsDead marks declared (steps_along trials (taken_in d))
dead_end marks declared trials d s h stands e =
    dead_covered marks declared trials h (taken_in d) d.refuted.items d.board.low e.left
    (λ has. (let on = stands.board.each d.board.low has in let off = stands.board.left e.left in let bad : ⊥ = cc in bad)) e.covered stands.dead

-- and where none is taken, none explains every answer
pub none_left : (marks : List MarkOf) (declared : DeclarationOf) (trials : List Trial) (d : Descent) (s : LedgerState) → IsSure marks declared trials → Stands marks declared trials d s → IsExhausted trials d
    → taken_in d ≡ [] → IsUnexplained marks declared
none_left marks declared trials d s h stands e none =
    let D : List ℕ → Type 0 = λ xs. IsDead marks declared (steps_along trials xs) in
    none_explained marks declared (subst D none (dead_end marks declared trials d s h stands e))

-- ---- results

pub on_ok : {A E P Q : Type 0} (r : Result A E) → (P → Q) → OnOk r P → OnOk r Q
on_ok (Ok a) f p = f p
on_ok (Err e) f p = tt

pub if_ok : {A E : Type 0} {P Q : A → Type 0} (r : Result A E) → ((a : A) → P a → Q a) → IfOk r P → IfOk r Q
if_ok (Ok a) f p = f a p
if_ok (Err e) f p = tt
