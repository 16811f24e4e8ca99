-- One judged place of a call, taken where a server has to hide objects.
use Rattle.std.proofs.Common.{◌≡◌, ◌∙◌, refl, ap, sym, subst, ℤ, Option, Some, None, Result, Ok, Err}
use Rattle.kmipa_store.specs.Ledger.{LedgerState, back_from, gone_back, marked}
use Rattle.kmipa_store.specs.Choices.{Choice, IsSound}
use Rattle.kmipa_msgs.specs.Messages.{AskOf, AnswerOf}
use Rattle.kmipa_ops.specs.declared.why.Why.{Why}
use Rattle.kmipa_ops.specs.declared.why.Refusal.{Refusal}
use Rattle.kmipa_ops.specs.declared.why.Refusal.TheVariants.{Impossible, Memory}
use Rattle.kmipa_passed.specs.Leaving.{HeldOf, held_of}
use Rattle.kmipa_passed.specs.declared.leaving.Held.{Held}
use Rattle.kmipa_aside.specs.Becoming.{stand_in}
use Rattle.kmipa_aside.specs.Explains.{Refutes, world}
use Rattle.kmipa_aside.specs.Permitted.{DoesPermitted, TakenPermitted, forbids, lower, lower_of}
use Rattle.kmipa_aside.specs.Places.{judged}
use Rattle.kmipa_aside.specs.Seen.{DoesSeen, TakenSeen, lowest_seen}
use Rattle.kmipa_aside.specs.Sights.{SightOf}
use Rattle.kmipa_aside.specs.Standing.{StandOf}
use Rattle.kmipa_aside.specs.Taking.{Tells}
use Rattle.kmipa_aside.specs.Worlds.{WorldOf, stand}
use Rattle.kmipa_aside.proofs.BlameLemmas.{none_against}
use Rattle.kmipa_aside.proofs.NearLemmas.{stand_world}
use Rattle.kmipa_aside.proofs.PlaceLemmas.{refutes_as, took_as}

lower_none : (o : Option Why) → lower o None ≡ o
lower_none None = refl
lower_none (Some w) = refl

module _ (sight : SightOf) (t : ℤ) (ask : AskOf) (answer : AnswerOf) (s : LedgerState) (before : HeldOf) where
  abbrev forbidden : StandOf → Option Why
  forbidden x = forbids sight x before ask answer

  abbrev in_ledger : StandOf
  in_ledger = stand_in s.now

  abbrev D : WorldOf → HeldOf → WorldOf → HeldOf → Type 0
  D = DoesPermitted sight t ask answer

  forbidden_in : (c : Choice) (o : Option Why) → forbidden in_ledger ≡ o → forbidden (stand (world c s.now)) ≡ o
  forbidden_in c o e = ap forbidden (stand_world c s.now) ∙ e

  -- ---- what nothing forbids is taken as where a server may hide objects

  pub permitted_open : forbidden in_ledger ≡ None → (r : Result Held Refusal) (u : LedgerState) → TakenSeen sight s before t (judged ask answer) r u
      → TakenPermitted sight s before t (judged ask answer) r u
  permitted_open e (Ok after) u k =
      took_as (DoesSeen sight t ask answer) D (Tells ask answer) (Tells ask answer) s before (λ c w h y. record { permitted = forbidden_in c None e; does = y }) (λ c w h y. y.does) (λ bytes x. x) u
      (held_of after) k
  permitted_open e (Err (Impossible why)) u k = (
    ap (lower (lowest_seen sight s.now before t (judged ask answer))) e ∙ lower_none (lowest_seen sight s.now before t (judged ask answer)) ∙ k.0,
    refutes_as (DoesSeen sight t ask answer) D (Tells ask answer) (Tells ask answer) s before (λ c w h y. record { permitted = forbidden_in c None e; does = y }) (λ c w h y. y.does) k.1,
    k.2,
  )
  permitted_open e (Err Memory) u k = k

  -- ---- what is forbidden is impossible, whatever else speaks against it

  pub seen_marks : (v : LedgerState) (r : Result Held Refusal) (u : LedgerState) → TakenSeen sight v before t (judged ask answer) r u → u.marks ≡ v.marks
  seen_marks v (Ok after) u k = k.marks
  seen_marks v (Err (Impossible why)) u k = ap (λ (x : LedgerState). x.marks) k.2
  seen_marks v (Err Memory) u k = k

  refutes_forbidden : (why : Why) → forbidden in_ledger ≡ Some why → Refutes D s.now before
  refutes_forbidden why e = record {
    never = λ c h w y d.
        let bad : Some why ≡ None = sym (forbidden_in c (Some why) e) ∙ d.permitted in
        cc;
  }

  -- from a mark on, and back to it
  module _ (v u z : LedgerState) (is : v ≡ marked s) (r : Result Held Refusal) (seen : TakenSeen sight v before t (judged ask answer) r u) (ends : z ≡ gone_back u) where
    pub back_again : z ≡ s
    back_again =
        ends ∙ ap (back_from u.now) (seen_marks v r u seen ∙ ap (λ (x : LedgerState). x.marks) is)

    pub none_taken : (w : Why) → lower (lowest_seen sight s.now before t (judged ask answer)) (forbidden in_ledger) ≡ Some w → (why : Why) → forbidden in_ledger ≡ Some why
        → TakenPermitted sight s before t (judged ask answer) (Err (Impossible w)) z
    none_taken w e why f = (e, refutes_forbidden why f, back_again)

  abbrev Seen : LedgerState → Result Held Refusal → LedgerState → Type 0
  Seen x r u = TakenSeen sight x before t (judged ask answer) r u

  pub forbidden_done : (v u z : LedgerState) (why : Why) (after : Held) → IsSound s.now → v ≡ marked s → forbidden in_ledger ≡ Some why → Seen v (Ok after) u → z ≡ gone_back u
      → TakenPermitted sight s before t (judged ask answer) (Err (Impossible why)) z
  forbidden_done v u z why after sound is e k ends =
      let none : lowest_seen sight s.now before t (judged ask answer) ≡ None =
      none_against sight t ask answer (marked s) before sound u (held_of after) (subst (λ (x : LedgerState). Seen x (Ok after) u) is k) in
      none_taken v u z is (Ok after) k ends why (ap (λ (o : Option Why). lower o (forbidden in_ledger)) none ∙ e) why e

  pub forbidden_refused : (v u z : LedgerState) (why other told : Why) → told ≡ lower_of other why → v ≡ marked s → forbidden in_ledger ≡ Some why → Seen v (Err (Impossible other)) u
      → z ≡ gone_back u → TakenPermitted sight s before t (judged ask answer) (Err (Impossible told)) z
  forbidden_refused v u z why other told lowest is e k ends =
      let low : lowest_seen sight s.now before t (judged ask answer) ≡ Some other = ap (λ (x : LedgerState). lowest_seen sight x.now before t (judged ask answer)) (sym is) ∙ k.0 in
      none_taken v u z is (Err (Impossible other)) k ends told
      (ap (λ (o : Option Why). lower o (forbidden in_ledger)) low ∙ ap (lower (Some other)) e ∙ ap (λ (w : Why). Some w) (sym lowest)) why e

  pub forbidden_starved : (v u z : LedgerState) → v ≡ marked s → Seen v (Err Memory) u → z ≡ gone_back u → z.marks ≡ s.marks
  forbidden_starved v u z is k ends = ap (λ (x : LedgerState). x.marks) (back_again v u z is (Err Memory) k ends)
