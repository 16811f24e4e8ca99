-- One judged place of a call, taken where a server may hide objects.
use Rattle.std.proofs.Common.{◌≡◌, ◌∙◌, ◌⊎◌, ◌↔◌, ◌&&◌, ◌||◌, inl, inr, refl, ap, sym, subst, ℕ, ℤ, Bool, true, false, if◌then◌else◌, List, [], Option, Some, None, Result, Ok, Err, bytes_eq}
use Rattle.std.proofs.lemmas.Bool.Decides.{Decides-eqb}
use Rattle.std.proofs.lemmas.Slice.Eq.{bytes_eq-Decides}
use Rattle.kmipa_store.specs.Ledger.{LedgerState}
use Rattle.kmipa_store.specs.Choices.{Choice, IsSound}
use Rattle.kmipa_msgs.specs.Messages.{RulesOf, AskedOf, AskOf, AnswerOf, PayloadOf, answer_of, ask_of, locates, located, operation_asked}
use Rattle.kmipa_msgs.specs.Operations.{operation_number}
use Rattle.kmipa_msgs.specs.declared.response.Status.{Status}
use Rattle.kmipa_msgs.specs.declared.response.Status.TheVariants.{Success, Failed, Undone}
use Rattle.kmipa_ops.specs.Completes.{can_judge}
use Rattle.kmipa_ops.specs.Explains as item
use Rattle.kmipa_ops.specs.declared.why.Why.{Why}
use Rattle.kmipa_ops.specs.declared.why.Why.TheVariants.{OperationDiffers, EchoDiffers}
use Rattle.kmipa_ops.specs.declared.why.Refusal.{Refusal}
use Rattle.kmipa_ops.specs.declared.why.Refusal.TheVariants.{Impossible, Memory}
use Rattle.kmipa_passed.specs.Leaving.{HeldOf, empty, holds, unknown, held_of}
use Rattle.kmipa_passed.specs.declared.leaving.Held.{Held}
use Rattle.kmipa_aside.specs.Aims.{aim}
use Rattle.kmipa_aside.specs.Becoming.{stand_in}
use Rattle.kmipa_aside.specs.Cases.{case, is_failed}
use Rattle.kmipa_aside.specs.Does.{is_as_ever}
use Rattle.kmipa_aside.specs.Ever.{held_by}
use Rattle.kmipa_aside.specs.Explains.{Took, world}
use Rattle.kmipa_aside.specs.Missed.{IsMissing, answer_with, ask_with, asked_with, is_any, missed, missed_by, missed_in, payload_with}
use Rattle.kmipa_aside.specs.Places.{DoesJudged, TakenPlace, judged, lowest_at}
use Rattle.kmipa_aside.specs.Seen.{DoesDenied, DoesMissing, DoesSeen, TakenSeen, denied, is_denied, is_hidden, lowest_missing, missing, openly}
use Rattle.kmipa_aside.specs.Sights.{SightOf, all_in_sight}
use Rattle.kmipa_aside.specs.Standing.{StandOf}
use Rattle.kmipa_aside.specs.Taking.{NoBytes, Tells, frame_lowest}
use Rattle.kmipa_aside.specs.Worlds.{WorldOf, stand}
use Rattle.kmipa_aside.specs.declared.beside.Beside.{Beside}
use Rattle.kmipa_aside.proofs.NearLemmas.{nears_start, stand_world}
use Rattle.kmipa_aside.proofs.PlaceLemmas.{refutes_as, took_as}
use Rattle.kmipa_aside.proofs.TakenLemmas.{agree_if, agree_not, echoes_if, echoes_not, eq, other_item, other_operation, took_change, two_none, two_some}

or_true : (b : Bool) → (b || true) ≡ true
or_true true = refl
or_true false = refl

any_of : (b : Bool) (ids : List (List ℕ)) → is_any (if b then [] else ids) ≡ true → is_any ids ≡ true
any_of true ids e = let bad : ⊥ = cc in absurd bad
any_of false ids e = e

-- ---- a Locate with those that it misses tells no bytes

module _ (hidden : List (List ℕ)) (s : StandOf) (t : ℤ) (more : List (List ℕ)) where
  with_readable : (x : Bool) (status : Status) (asked : AskedOf) (payload : Option PayloadOf) → is_any (missed_by status hidden s t asked payload) ≡ true
      → (x || can_judge status (asked_with asked) (payload_with more payload)) ≡ true
  with_readable x Success (locates q) (Some (located ids)) h = or_true x
  with_readable x Undone (locates q) (Some (located ids)) h = or_true x
  with_readable x status asked payload h = let bad : ⊥ = cc in absurd bad

  silent : (status : Status) (asked : AskedOf) (payload : Option PayloadOf) → is_any (missed_by status hidden s t asked payload) ≡ true → (bytes : List ℕ)
      → (item.brings (asked_with asked) ≡ Some bytes) ⊎ ((item.shows (payload_with more payload) ≡ Some bytes) ⊎ ⊥) → ⊥
  silent Success (locates q) (Some (located ids)) h bytes e = elim e [ inl a ↦ let bad : ⊥ = cc in bad | inr b ↦ elim b [ inl d ↦ let bad : ⊥ = cc in bad | inr z ↦ z ] ]
  silent Undone (locates q) (Some (located ids)) h bytes e = elim e [ inl a ↦ let bad : ⊥ = cc in bad | inr b ↦ elim b [ inl d ↦ let bad : ⊥ = cc in bad | inr z ↦ z ] ]
  silent status asked payload h bytes e = let bad : ⊥ = cc in bad

pub readable_with : (sight : SightOf) (s : StandOf) (t : ℤ) (ask : AskOf) (answer : AnswerOf) → is_any (missed sight s t ask answer) ≡ true
    → item.is_readable (ask_with ask) (answer_with (missed sight s t ask answer) answer) ≡ true
readable_with sight s t ask answer h =
    with_readable sight.hidden s t (missed sight s t ask answer) _ answer.status ask.asked answer.payload
    (any_of s.aside.over (missed_by answer.status sight.hidden s t ask.asked answer.payload) h)

-- ---- the three

module _ (sight : SightOf) (t : ℤ) (ask : AskOf) (answer : AnswerOf) (s : LedgerState) (before : HeldOf) where
  abbrev denies : StandOf → Bool
  denies x = is_denied sight x before ask answer

  abbrev misses : StandOf → Bool
  misses x = is_any (missed sight x t ask answer)

  abbrev in_ledger : StandOf
  in_ledger = stand_in s.now

  abbrev D : WorldOf → HeldOf → WorldOf → HeldOf → Type 0
  D = DoesSeen sight t ask answer

  denies_in : (c : Choice) (b : Bool) → denies in_ledger ≡ b → denies (stand (world c s.now)) ≡ b
  denies_in c b e = ap denies (stand_world c s.now) ∙ e

  misses_in : (c : Choice) (b : Bool) → misses in_ledger ≡ b → misses (stand (world c s.now)) ≡ b
  misses_in c b e = ap misses (stand_world c s.now) ∙ e

  clash : {A : Type 0} (b : Bool) → b ≡ true → b ≡ false → A
  clash b e f = let bad : true ≡ false = sym e ∙ f in let none : ⊥ = cc in absurd none

  only_denied : denies in_ledger ≡ true → (c : Choice) (w : WorldOf) (h : HeldOf) → D (world c s.now) before w h → DoesDenied sight ask answer (world c s.now) before w h
  only_denied e c w h (denied d) = d
  only_denied e c w h (missing d) = clash (denies (stand (world c s.now))) (denies_in c true e) d.granted
  only_denied e c w h (openly d) = clash (denies (stand (world c s.now))) (denies_in c true e) d.granted

  only_missing : denies in_ledger ≡ false → misses in_ledger ≡ true → (c : Choice) (w : WorldOf) (h : HeldOf) → D (world c s.now) before w h → DoesMissing sight t ask answer (world c s.now) before w h
  only_missing e m c w h (denied d) = clash (denies (stand (world c s.now))) d.denied (denies_in c false e)
  only_missing e m c w h (missing d) = d
  only_missing e m c w h (openly d) = clash (misses (stand (world c s.now))) (misses_in c true m) d.lists

  only_openly : denies in_ledger ≡ false → misses in_ledger ≡ false → (c : Choice) (w : WorldOf) (h : HeldOf) → D (world c s.now) before w h
      → DoesJudged sight.rules t ask answer (world c s.now) before w h
  only_openly e m c w h (denied d) = clash (denies (stand (world c s.now))) d.denied (denies_in c false e)
  only_openly e m c w h (missing d) = clash (misses (stand (world c s.now))) d.misses (misses_in c false m)
  only_openly e m c w h (openly d) = d.does

  -- ---- an answer that failed

  pub seen_denied : IsSound s.now → denies in_ledger ≡ true → frame_lowest ask answer ≡ None → Took D (Tells ask answer) s before s before
  seen_denied sound e none =
      let q = two_none (other_operation ask answer) (other_item ask answer) OperationDiffers EchoDiffers none in
      took_as (DoesDenied sight ask answer) D NoBytes (Tells ask answer) s before (λ c w h y. denied y) (only_denied e) (λ bytes x. absurd x) s before
      (took_change (DoesDenied sight ask answer) (λ w. w) s s before before sound
      (λ c.
      record {
        denied = denies_in c true e;
        operation = echoes_if eq Decides-eqb answer.operation (operation_number (operation_asked ask.asked)) q.0;
        batch_id = agree_if bytes_eq bytes_eq-Decides answer.batch_id ask.batch_id q.1;
        world = refl;
        placeholder = refl;
      })
      (λ c w h d. (d.world, d.placeholder)) (nears_start (λ w. w) (λ w. w) s (λ c. refl)))

  pub seen_undenied : (why : Why) → denies in_ledger ≡ true → frame_lowest ask answer ≡ Some why → TakenSeen sight s before t (judged ask answer) (Err (Impossible why)) s
  seen_undenied why e some = (
    ap (λ (b : Bool). if b then frame_lowest ask answer else lowest_missing sight s.now before t ask answer) e ∙ some,
    record {
      never = λ c h w x d.
          let y = only_denied e c w x d in
          elim (two_some (other_operation ask answer) (other_item ask answer) OperationDiffers EchoDiffers why some) [
            | inl a ↦ echoes_not eq Decides-eqb answer.operation (operation_number (operation_asked ask.asked)) a y.operation
            | inr b ↦ agree_not bytes_eq bytes_eq-Decides answer.batch_id ask.batch_id b y.batch_id
          ];
    },
    refl,
  )

  -- ---- a Locate that misses some

  abbrev pub more : List (List ℕ)
  more = missed sight in_ledger t ask answer

  abbrev Q : WorldOf → WorldOf → HeldOf → StandOf → Type 0
  Q v w held x = DoesJudged sight.rules t (ask_with ask) (answer_with (missed sight x t ask answer) answer) v before w held

  missing_taken : (held after : HeldOf) (u : LedgerState) → denies in_ledger ≡ false → misses in_ledger ≡ true → after ≡ held_by answer.status before answer.payload
      → Took (DoesJudged sight.rules t (ask_with ask) (answer_with more answer)) (Tells (ask_with ask) (answer_with more answer)) s before u held → Took D (Tells ask answer) s before u after
  missing_taken held after u e m is k =
      let lists = any_of in_ledger.aside.over (missed_by answer.status sight.hidden in_ledger t ask.asked answer.payload) m in
      record {
        explains = record {
          sound = λ c h.
              let r = k.explains.sound c h in (
                r.0,
                missing
                    (record {
                      granted = denies_in c false e;
                      misses = misses_in c true m;
                      held = held;
                      does = subst (Q (world c s.now) (world c u.now) held) (sym (stand_world c s.now)) r.1;
                      placeholder = is;
                    }),
              );
          complete = λ c h w y d.
              let p = only_missing e m c w y d in
              let r = k.explains.complete c h w p.held (subst (Q (world c s.now) w p.held) (stand_world c s.now) p.does) in
              (r.0, r.1, r.2, r.3, p.placeholder ∙ sym is);
          learns = λ number bytes x.
              elim (k.explains.learns number bytes x) [ inl y ↦ inl y | inr y ↦ absurd (silent sight.hidden in_ledger t more answer.status ask.asked answer.payload lists bytes y) ];
          grows = k.explains.grows;
          extends = k.explains.extends;
          apart = k.explains.apart;
        };
        sound = k.sound;
        marks = k.marks;
      }

  abbrev open_lowest : Option Why
  open_lowest = lowest_at sight.rules s.now before t (judged ask answer)

  abbrev with_lowest : Option Why
  with_lowest = lowest_at sight.rules s.now before t (judged (ask_with ask) (answer_with more answer))

  pub missing_refused : (refusal : Refusal) (u : LedgerState) → denies in_ledger ≡ false → misses in_ledger ≡ true
      → TakenPlace sight.rules s before t (judged (ask_with ask) (answer_with more answer)) (Err refusal) u → TakenSeen sight s before t (judged ask answer) (Err refusal) u
  missing_refused (Impossible why) u e m k = (
    ap (λ (b : Bool). if b then frame_lowest ask answer else lowest_missing sight s.now before t ask answer) e ∙ ap (λ (b : Bool). if b then with_lowest else open_lowest) m ∙ k.0,
    record { never = λ c h w y d. let p = only_missing e m c w y d in k.1.never c h w p.held (subst (Q (world c s.now) w p.held) (stand_world c s.now) p.does) },
    k.2,
  )
  missing_refused Memory u e m k = k

  -- by whatever means the same
  pub with_taken : (held after : Held) (u : LedgerState) (a : AskOf) (b : AnswerOf) → denies in_ledger ≡ false → misses in_ledger ≡ true → a ≡ ask_with ask → b ≡ answer_with more answer
      → held_of after ≡ held_by answer.status before answer.payload → TakenPlace sight.rules s before t (judged a b) (Ok held) u → TakenSeen sight s before t (judged ask answer) (Ok after) u
  with_taken held after u a b e m same like is k =
      missing_taken (held_of held) (held_of after) u e m is
      (subst (λ (x : AskOf). TakenPlace sight.rules s before t (judged x (answer_with more answer)) (Ok held) u) same
      (subst (λ (x : AnswerOf). TakenPlace sight.rules s before t (judged a x) (Ok held) u) like k))

  pub with_refused : (refusal : Refusal) (u : LedgerState) (a : AskOf) (b : AnswerOf) → denies in_ledger ≡ false → misses in_ledger ≡ true → a ≡ ask_with ask → b ≡ answer_with more answer
      → TakenPlace sight.rules s before t (judged a b) (Err refusal) u → TakenSeen sight s before t (judged ask answer) (Err refusal) u
  with_refused refusal u a b e m same like k =
      missing_refused refusal u e m
      (subst (λ (x : AskOf). TakenPlace sight.rules s before t (judged x (answer_with more answer)) (Err refusal) u) same
      (subst (λ (x : AnswerOf). TakenPlace sight.rules s before t (judged a x) (Err refusal) u) like k))

  -- ---- any other place

  pub open_taken : (r : Result Held Refusal) (u : LedgerState) → denies in_ledger ≡ false → misses in_ledger ≡ false → TakenPlace sight.rules s before t (judged ask answer) r u
      → TakenSeen sight s before t (judged ask answer) r u
  open_taken (Ok after) u e m k =
      took_as (DoesJudged sight.rules t ask answer) D (Tells ask answer) (Tells ask answer) s before
      (λ c w h y. openly (record { granted = denies_in c false e; lists = misses_in c false m; does = y })) (only_openly e m) (λ bytes x. x) u (held_of after) k
  open_taken (Err (Impossible why)) u e m k = (
    ap (λ (b : Bool). if b then frame_lowest ask answer else lowest_missing sight s.now before t ask answer) e ∙ ap (λ (b : Bool). if b then with_lowest else open_lowest) m ∙ k.0,
    refutes_as (DoesJudged sight.rules t ask answer) D (Tells ask answer) (Tells ask answer) s before
        (λ c w h y. openly (record { granted = denies_in c false e; lists = misses_in c false m; does = y })) (only_openly e m) k.1,
    k.2,
  )
  open_taken (Err Memory) u e m k = k

-- ---- as the program finds it, at a moment that is this one

module _ (sight : SightOf) (ask : AskOf) (answer : AnswerOf) (s : LedgerState) (before : HeldOf) (moment t : ℤ) (at : moment ≡ t) (o : Option Beside)
    (found : IsMissing sight (stand_in s.now) moment ask answer o) where
  at_its : (r : Result Held Refusal) (u : LedgerState) → TakenSeen sight s before moment (judged ask answer) r u → TakenSeen sight s before t (judged ask answer) r u
  at_its r u x =
      let P : ℤ → Type 0 = λ m. TakenSeen sight s before m (judged ask answer) r u in
      subst P at x

  abbrev Found : Option Beside → Type 0
  Found x = IsMissing sight (stand_in s.now) moment ask answer x

  pub none_missed_taken : o ≡ None → is_denied sight (stand_in s.now) before ask answer ≡ false → (r : Result Held Refusal) (u : LedgerState)
      → TakenPlace sight.rules s before moment (judged ask answer) r u → TakenSeen sight s before t (judged ask answer) r u
  none_missed_taken is e r u k =
      let none = subst Found is found in
      at_its r u (open_taken sight moment ask answer s before r u e none k)

  module _ (b : Beside) (is : o ≡ Some b) where
    some : Found (Some b)
    some = subst Found is found

    pub missed_readable : item.is_readable (ask_of b.ask) (answer_of b.answer) ≡ true
    missed_readable =
        subst (λ (a : AskOf). item.is_readable a (answer_of b.answer) ≡ true) (sym some.1)
        (subst (λ (a : AnswerOf). item.is_readable (ask_with ask) a ≡ true) (sym some.2) (readable_with sight (stand_in s.now) moment ask answer some.0))

    pub missed_taken : is_denied sight (stand_in s.now) before ask answer ≡ false → (held after : Held) (u : LedgerState) → held_of after ≡ held_by answer.status before answer.payload
        → TakenPlace sight.rules s before moment (judged (ask_of b.ask) (answer_of b.answer)) (Ok held) u → TakenSeen sight s before t (judged ask answer) (Ok after) u
    missed_taken e held after u behind k =
        at_its (Ok after) u (with_taken sight moment ask answer s before held after u (ask_of b.ask) (answer_of b.answer) e some.0 some.1 some.2 behind k)

    pub missed_refused : is_denied sight (stand_in s.now) before ask answer ≡ false → (refusal : Refusal) (u : LedgerState)
        → TakenPlace sight.rules s before moment (judged (ask_of b.ask) (answer_of b.answer)) (Err refusal) u → TakenSeen sight s before t (judged ask answer) (Err refusal) u
    missed_refused e refusal u k =
        at_its (Err refusal) u (with_refused sight moment ask answer s before refusal u (ask_of b.ask) (answer_of b.answer) e some.0 some.1 some.2 k)

-- ---- where nothing is hidden

none_hidden : (h : HeldOf) → is_hidden [] h ≡ false
none_hidden empty = refl
none_hidden (holds id) = refl
none_hidden unknown = refl

and_middle : (a b c : Bool) → b ≡ false → (a && b && c) ≡ false
and_middle true true c e = let bad : ⊥ = cc in absurd bad
and_middle true false c e = refl
and_middle false b c e = refl

same_twice : (b : Bool) → is_any (if b then [] else []) ≡ false
same_twice true = refl
same_twice false = refl

none_in : (s : StandOf) (t : ℤ) (asked : AskedOf) (payload : Option PayloadOf) → is_any (missed_in [] s t asked payload) ≡ false
none_in s t (locates q) (Some (located ids)) = same_twice _
none_in s t asked payload = refl

none_by : (s : StandOf) (t : ℤ) (status : Status) (asked : AskedOf) (payload : Option PayloadOf) → is_any (missed_by status [] s t asked payload) ≡ false
none_by s t Success asked payload = none_in s t asked payload
none_by s t Undone asked payload = none_in s t asked payload
none_by s t Failed asked payload = refl

none_if : (b : Bool) (ids : List (List ℕ)) → is_any ids ≡ false → is_any (if b then [] else ids) ≡ false
none_if true ids e = refl
none_if false ids e = e

pub seen_alone : (rules : RulesOf) (t : ℤ) (ask : AskOf) (answer : AnswerOf) (w : WorldOf) (before : HeldOf) (w' : WorldOf) (after : HeldOf)
    → DoesSeen (all_in_sight rules) t ask answer w before w' after ↔ DoesJudged rules t ask answer w before w' after
seen_alone rules t ask answer w before w' after =
    let sight : SightOf = all_in_sight rules in
    let granted : is_denied sight (stand w) before ask answer ≡ false =
    and_middle (is_failed answer.status) (is_hidden [] (aim before ask answer)) (is_as_ever (case rules (stand w) before ask answer)) (none_hidden (aim before ask answer)) in
    let lists : is_any (missed sight (stand w) t ask answer) ≡ false =
    none_if w.aside.over (missed_by answer.status [] (stand w) t ask.asked answer.payload) (none_by (stand w) t answer.status ask.asked answer.payload) in (
      elim [
        | denied d ↦ (let bad : true ≡ false = sym d.denied ∙ granted in let none : ⊥ = cc in absurd none)
        | missing d ↦ (let bad : true ≡ false = sym d.misses ∙ lists in let none : ⊥ = cc in absurd none)
        | openly d ↦ d.does
      ],
      λ d. openly (record { granted = granted; lists = lists; does = d }),
    )
