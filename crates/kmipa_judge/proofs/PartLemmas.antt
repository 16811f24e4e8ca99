-- A part of a recording: some of its calls.
use Rattle.std.proofs.Common.{◌≡◌, ◌<◌, ◌≤◌, ℕ, ◌+◌, ◌-◌, zero, suc, ℤ, Bool, true, false, List, [], ◌∷◌, ◌++◌, All, AllPairs, Contains, map, filter, length, take, drop, get_or, refl, sym, ap, subst, ◌∙◌, arith}
use Rattle.std.proofs.lemmas.List.{append_assoc, append-nil, at_drop_more, drop-map, length-drop, take-map, take_all}
use Rattle.std.proofs.lemmas.List.Elements.{All-contains, All-contains_itself, All-filter, Contains-append_right, filter-append}
use Rattle.std.proofs.lemmas.List.Kept.{AllPairs-filter}
use Rattle.std.proofs.Math.ListN.{drop_of_length-le}
use Rattle.kmipa_record.specs.Marks.{AreRecorded, IsCallNumber, MarkOf, begins, begun, call_of, ended, ends}
use Rattle.kmipa_check.proofs.PlaceLemmas.{at_contains}
use Rattle.kmipa_check.proofs.RecordedLemmas.{cut}
use Rattle.kmipa_record.specs.Declarations.{DeclarationOf}
use Rattle.kmipa_record.specs.Witnesses.{TurnOf, turn_of}
use Rattle.kmipa_record.specs.declared.turn.Turn.{Turn}
use Rattle.kmipa_explain.specs.declared.explanation.Explanation.{Explanation}
use Rattle.kmipa_findings.specs.Findings.{FindingOf}
use Rattle.kmipa_judge.specs.Parts.{AreTurnsOf, ExplainsFinding, ExplainsSame, marks_kept, one_if, turns_kept, with_tried}
use Rattle.kmipa_judge.specs.Renumbered.{IsRenumbered, Turns}

-- ---- what passes

module _ {X : Type 0} (test : X → Bool) where
  pub filter_in : (x : X) (xs : List X) → test x ≡ true → filter test (x ∷ xs) ≡ x ∷ filter test xs
  filter_in x xs e = rw e refl

  pub filter_out : (x : X) (xs : List X) → test x ≡ false → filter test (x ∷ xs) ≡ filter test xs
  filter_out x xs e = rw e refl

  one_more : (x : X) (xs : List X) (b : Bool) → test x ≡ b → filter test (x ∷ xs) ≡ one_if x b ++ filter test xs
  one_more x xs true e = filter_in x xs e
  one_more x xs false e = filter_out x xs e

  pub filter_short : (xs : List X) → length (filter test xs) ≤ length xs
  filter_short [] = omega arith
  filter_short (x ∷ xs) = by (test x) refl (filter_short xs)
    where
      by : (b : Bool) → test x ≡ b → length (filter test xs) ≤ length xs → length (filter test (x ∷ xs)) ≤ suc (length xs)
      by true e h = let is = ap length (filter_in x xs e) in omega (arith, is, h)
      by false e h = let is = ap length (filter_out x xs e) in omega (arith, is, h)

  -- where those that pass are cut the whole is
  pub record IsCut (xs before : List X) (x : X) : Type 0 where
    pub ahead : List X
    pub behind : List X
    pub whole : xs ≡ ahead ++ x ∷ behind
    pub kept : filter test ahead ≡ before
    pub passes : test x ≡ true

  cut_at : (y : X) (ys : List X) (x : X) (b : Bool) → test y ≡ b → ((before after : List X) → filter test ys ≡ before ++ x ∷ after → IsCut ys before x)
      → (before after : List X) → filter test (y ∷ ys) ≡ before ++ x ∷ after → IsCut (y ∷ ys) before x
  cut_at y ys x true e more [] after h =
      let here : y ∷ filter test ys ≡ x ∷ after = sym (filter_in y ys e) ∙ h in
      let is : y ≡ x = cc in
      record { ahead = []; behind = ys; whole = ap (λ (z : X). z ∷ ys) is; kept = refl; passes = subst (λ (z : X). test z ≡ true) is e }
  cut_at y ys x true e more (b ∷ before) after h =
      let here : y ∷ filter test ys ≡ b ∷ (before ++ x ∷ after) = sym (filter_in y ys e) ∙ h in
      let is : y ≡ b = cc in
      let rest : filter test ys ≡ before ++ x ∷ after = cc in
      let c = more before after rest in
      record {
        ahead = y ∷ c.ahead;
        behind = c.behind;
        whole = ap (λ (l : List X). y ∷ l) c.whole;
        kept = filter_in y c.ahead e ∙ ap (λ (l : List X). y ∷ l) c.kept ∙ ap (λ (z : X). z ∷ before) is;
        passes = c.passes;
      }
  cut_at y ys x false e more before after h =
      let c = more before after (sym (filter_out y ys e) ∙ h) in
      record {
        ahead = y ∷ c.ahead;
        behind = c.behind;
        whole = ap (λ (l : List X). y ∷ l) c.whole;
        kept = filter_out y c.ahead e ∙ c.kept;
        passes = c.passes;
      }

  pub cut_kept : (xs before after : List X) (x : X) → filter test xs ≡ before ++ x ∷ after → IsCut xs before x
  cut_kept [] [] after x h = absurd cc
  cut_kept [] (b ∷ before) after x h = absurd cc
  cut_kept (y ∷ ys) before after x h = cut_at y ys x (test y) refl (λ b a e. cut_kept ys b a x e) before after h

  pub contains_kept : (xs : List X) (x : X) → Contains xs x → test x ≡ true → Contains (filter test xs) x
  contains_kept xs x c passes =
      let at = at_contains xs x c in
      let i = at.0 in
      let split : filter test xs ≡ filter test (take i xs) ++ x ∷ filter test (drop (suc i) xs) =
      ap (filter test) (cut xs i x at.1) ∙ filter-append test (take i xs) (x ∷ drop (suc i) xs)
      ∙ ap (λ (l : List X). filter test (take i xs) ++ l) (filter_in x (drop (suc i) xs) passes) in
      let first : Contains (x ∷ filter test (drop (suc i) xs)) x = (0, omega arith, refl) in
      subst (λ (l : List X). Contains l x) (sym split) (Contains-append_right (filter test (take i xs)) (x ∷ filter test (drop (suc i) xs)) x first)

  pub contains_from : (xs : List X) (x : X) → Contains (filter test xs) x → Contains xs x
  contains_from xs x c = All-contains (Contains xs) (filter test xs) x (All-filter test (Contains xs) xs (All-contains_itself xs)) c

-- ---- the marks of some calls

module _ (keeps : ℤ → Bool) where
  begun_here : (m : MarkOf) (ms : List MarkOf) (b : Bool) → keeps (call_of m) ≡ b → begun (marks_kept keeps ms) ≡ filter keeps (begun ms)
      → begun (marks_kept keeps (m ∷ ms)) ≡ filter keeps (begun (m ∷ ms))
  begun_here (begins call client message) ms true e ih =
      ap begun (filter_in (λ (m : MarkOf). keeps (call_of m)) (begins call client message) ms e) ∙ ap (λ (l : List ℤ). call ∷ l) ih ∙ sym (filter_in keeps call (begun ms) e)
  begun_here (begins call client message) ms false e ih =
      ap begun (filter_out (λ (m : MarkOf). keeps (call_of m)) (begins call client message) ms e) ∙ ih ∙ sym (filter_out keeps call (begun ms) e)
  begun_here (ends call message) ms true e ih = ap begun (filter_in (λ (m : MarkOf). keeps (call_of m)) (ends call message) ms e) ∙ ih
  begun_here (ends call message) ms false e ih = ap begun (filter_out (λ (m : MarkOf). keeps (call_of m)) (ends call message) ms e) ∙ ih

  begun_kept : (ms : List MarkOf) → begun (marks_kept keeps ms) ≡ filter keeps (begun ms)
  begun_kept [] = refl
  begun_kept (m ∷ ms) = begun_here m ms (keeps (call_of m)) refl (begun_kept ms)

  ended_here : (m : MarkOf) (ms : List MarkOf) (b : Bool) → keeps (call_of m) ≡ b → ended (marks_kept keeps ms) ≡ filter keeps (ended ms)
      → ended (marks_kept keeps (m ∷ ms)) ≡ filter keeps (ended (m ∷ ms))
  ended_here (ends call message) ms true e ih =
      ap ended (filter_in (λ (m : MarkOf). keeps (call_of m)) (ends call message) ms e) ∙ ap (λ (l : List ℤ). call ∷ l) ih ∙ sym (filter_in keeps call (ended ms) e)
  ended_here (ends call message) ms false e ih =
      ap ended (filter_out (λ (m : MarkOf). keeps (call_of m)) (ends call message) ms e) ∙ ih ∙ sym (filter_out keeps call (ended ms) e)
  ended_here (begins call client message) ms true e ih = ap ended (filter_in (λ (m : MarkOf). keeps (call_of m)) (begins call client message) ms e) ∙ ih
  ended_here (begins call client message) ms false e ih = ap ended (filter_out (λ (m : MarkOf). keeps (call_of m)) (begins call client message) ms e) ∙ ih

  ended_kept : (ms : List MarkOf) → ended (marks_kept keeps ms) ≡ filter keeps (ended ms)
  ended_kept [] = refl
  ended_kept (m ∷ ms) = ended_here m ms (keeps (call_of m)) refl (ended_kept ms)

  answered_kept : (ms : List MarkOf) → AreRecorded ms → (before after : List MarkOf) (call : ℤ) (message : List ℕ) → marks_kept keeps ms ≡ before ++ ends call message ∷ after
      → Contains (begun before) call × (Contains (ended before) call → ⊥)
  answered_kept ms r before after call message is =
      let c = cut_kept (λ (m : MarkOf). keeps (call_of m)) ms before after (ends call message) is in
      let a = r.answered c.ahead c.behind call message c.whole in
      let B : List MarkOf → Type 0 = λ l. Contains (begun l) call in
      let E : List MarkOf → Type 0 = λ l. Contains (ended l) call in
      let C : List ℤ → Type 0 = λ l. Contains l call in (
        subst B c.kept (subst C (sym (begun_kept c.ahead)) (contains_kept keeps (begun c.ahead) call a.0 c.passes)),
        λ has. a.1 (contains_from keeps (ended c.ahead) call (subst C (ended_kept c.ahead) (subst E (sym c.kept) has))),
      )

  pub part_recorded : (ms : List MarkOf) → AreRecorded ms → AreRecorded (marks_kept keeps ms)
  part_recorded ms r = record {
    numbered = All-filter (λ (m : MarkOf). keeps (call_of m)) (λ m. IsCallNumber (call_of m)) ms r.numbered;
    once = subst (AllPairs (λ call other. call ≡ other → ⊥)) (sym (begun_kept ms)) (AllPairs-filter (λ call other. call ≡ other → ⊥) keeps (begun ms) r.once);
    few = let is = ap length (begun_kept ms) in let short = filter_short keeps (begun ms) in let few = r.few in omega (arith, is, short, few);
    answered = answered_kept ms r;
  }

-- ---- what a loop keeps

module _ {A X : Type 0} (meaning : A → X) (test : X → Bool) where
  next : (xs : List A) (i : ℕ) (a : A) → i < length xs → a ≡ get_or xs i a
      → filter test (map meaning (drop i xs)) ≡ one_if (meaning a) (test (meaning a)) ++ filter test (map meaning (drop (i + 1) xs))
  next xs i a less is =
      at_drop_more (λ (l : List A). filter test (map meaning l)) xs i a less
      ∙ ap (λ (x : A). filter test (meaning x ∷ map meaning (drop (i + 1) xs))) (sym is)
      ∙ one_more test (meaning a) (map meaning (drop (i + 1) xs)) (test (meaning a)) refl

  -- behind what was there before, those that pass up to a place
  abbrev pub AreKept : List X → List A → ℕ → List X → Type 0
  AreKept before xs i ys = ys ++ filter test (map meaning (drop i xs)) ≡ before ++ filter test (map meaning xs)

  pub kept_none : (before : List X) (xs : List A) (ys : List X) → ys ≡ before → AreKept before xs 0 ys
  kept_none before xs ys is = ap (λ (l : List X). l ++ filter test (map meaning xs)) is

  pub kept_on : (before : List X) (xs : List A) (i : ℕ) (a : A) (ys more : List X) → i < length xs → a ≡ get_or xs i a → more ≡ ys ++ one_if (meaning a) (test (meaning a))
      → AreKept before xs i ys → AreKept before xs (i + 1) more
  kept_on before xs i a ys more less is grown held =
      ap (λ (l : List X). l ++ filter test (map meaning (drop (i + 1) xs))) grown
      ∙ append_assoc ys (one_if (meaning a) (test (meaning a))) (filter test (map meaning (drop (i + 1) xs)))
      ∙ ap (λ (l : List X). ys ++ l) (sym (next xs i a less is)) ∙ held

  pub kept_all : (before : List X) (xs : List A) (i : ℕ) (ys : List X) → length xs ≤ i → AreKept before xs i ys → ys ≡ before ++ filter test (map meaning xs)
  kept_all before xs i ys end held =
      sym (append-nil ys) ∙ ap (λ (l : List A). ys ++ filter test (map meaning l)) (sym (drop_of_length-le xs end)) ∙ held

-- ---- the turns that take them

-- all behind a place
pub rest_whole : {X : Type 0} (xs : List X) (n : ℕ) → take (length xs - n) (drop n xs) ≡ drop n xs
rest_whole xs n = take_all (length xs - n) (drop n xs) (let is = length-drop n xs in omega (arith, is))

pub turns_told : (keeps : ℤ → Bool) (turns : List Turn) (f : FindingOf) (none one two all : List TurnOf) → none ≡ []
    → one ≡ none ++ turns_kept keeps (map turn_of (take f.place turns)) → two ≡ one ++ one_if f.tried (keeps f.tried.call)
    → all ≡ two ++ turns_kept keeps (map turn_of (drop (f.place + 1) turns)) → all ≡ turns_kept keeps (with_tried (map turn_of turns) f)
turns_told keeps turns f none one two all empty e1 e2 e3 =
    let test : TurnOf → Bool = λ t. keeps t.call in
    let ahead : List TurnOf = map turn_of (take f.place turns) in
    let behind : List TurnOf = map turn_of (drop (f.place + 1) turns) in
    let first : one ≡ filter test ahead = e1 ∙ ap (λ (l : List TurnOf). l ++ filter test ahead) empty in
    let here : filter test (f.tried ∷ behind) ≡ one_if f.tried (test f.tried) ++ filter test behind = one_more test f.tried behind (test f.tried) refl in
    let whole : ahead ++ f.tried ∷ behind ≡ with_tried (map turn_of turns) f =
    ap (λ (l : List TurnOf). l ++ f.tried ∷ behind) (sym (take-map turn_of f.place turns))
    ∙ ap (λ (l : List TurnOf). take f.place (map turn_of turns) ++ f.tried ∷ l) (sym (drop-map turn_of (f.place + 1) turns)) in
    e3 ∙ ap (λ (l : List TurnOf). l ++ filter test behind) (e2 ∙ ap (λ (l : List TurnOf). l ++ one_if f.tried (test f.tried)) first)
    ∙ append_assoc (filter test ahead) (one_if f.tried (test f.tried)) (filter test behind) ∙ ap (λ (l : List TurnOf). filter test ahead ++ l) (sym here)
    ∙ sym (filter-append test ahead (f.tried ∷ behind)) ∙ ap (filter test) whole

-- ---- what a finding means

pub finding_told : (marks part : List MarkOf) (declared : DeclarationOf) (turns taken : List TurnOf) (f : FindingOf) (keeps : ℤ → Bool) (claims told : Explanation) (turn : Turns)
    → part ≡ marks_kept keeps marks → taken ≡ turns_kept keeps (with_tried turns f) → ExplainsSame part declared taken f.refused claims → AreTurnsOf turns turn
    → IsRenumbered turn claims told → ExplainsFinding marks declared turns f told
finding_told marks part declared turns taken f keeps claims told turn of_marks of_turns explained numbers renumbered =
    let P : List MarkOf → Type 0 = λ m. ExplainsSame m declared taken f.refused claims in
    let Q : List TurnOf → Type 0 = λ t. ExplainsSame (marks_kept keeps marks) declared t f.refused claims in
    record {
      keeps = keeps;
      claims = claims;
      explained = subst Q of_turns (subst P of_marks explained);
      turn = turn;
      numbers = numbers;
      told = renumbered;
    }
