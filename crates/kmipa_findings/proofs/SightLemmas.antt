-- Steps with what is hidden from their clients begin as those without, and are placed as those.
use Rattle.std.proofs.Common.{◌≡◌, ◌<◌, ◌∙◌, ℕ, zero, suc, List, [], ◌∷◌, length, Option, Some, None, slice_get, refl, sym, ap, subst, arith}
use Rattle.kmipa_msgs.specs.declared.rules.Visibility.{Visibility}
use Rattle.kmipa_record.specs.Declarations.{DeclarationOf}
use Rattle.kmipa_aside.specs.Sights.{OwnedOf, hidden_from}
use Rattle.kmipa_check.proofs.PlaceLemmas.{some_at}
use Rattle.kmipa_turns.specs.Steps.{StepOf}
use Rattle.kmipa_trail.specs.Owners.{identity, in_sight, owners_at_first, owners_behind, step_seen, steps_seen}
use Rattle.kmipa_trail.specs.Placing.{ArePlaced, IsPlacedAt, IsLate, RunsBack}
use Rattle.kmipa_trail.proofs.OwnersLemmas.{length_seen, moment_seen, to_seen}
use Rattle.kmipa_findings.proofs.PrefixLemmas.{BeginsAs}

module _ (v : Visibility) where
  seen_by : (owners : List OwnedOf) (xs ys : List StepOf) (n : ℕ) → BeginsAs xs ys n → BeginsAs (steps_seen v owners xs) (steps_seen v owners ys) n
  seen_by owners xs ys zero h i below = absurd (omega (arith, below))
  seen_by owners [] [] (suc n) h i below = refl
  seen_by owners [] (y ∷ ys) (suc n) h i below = let e = h 0 (omega arith) in absurd cc
  seen_by owners (x ∷ xs) [] (suc n) h i below = let e = h 0 (omega arith) in absurd cc
  seen_by owners (x ∷ xs) (y ∷ ys) (suc n) h i below = by (λ os. seen_by os xs ys n (λ k under. h (suc k) (omega (arith, under)))) i below
    where
      head : x ≡ y
      head = let e : Some x ≡ Some y = h 0 (omega arith) in cc

      by : ((os : List OwnedOf) → BeginsAs (steps_seen v os xs) (steps_seen v os ys) n) → (i : ℕ) → i < suc n
          → slice_get (steps_seen v owners (x ∷ xs)) i ≡ slice_get (steps_seen v owners (y ∷ ys)) i
      by rest zero b = ap (λ (s : StepOf). Some (step_seen (owners_behind v owners s) s)) head
      by rest (suc j) b =
          ap (λ (s : StepOf). slice_get (steps_seen v (owners_behind v owners s) xs) j) head
          ∙ rest (owners_behind v owners y) j (omega (arith, b))

  -- ---- where they stand

  module _ (owners : List OwnedOf) (steps : List StepOf) (placed : ArePlaced (steps_seen v owners steps) (length (steps_seen v owners steps))) where
    abbrev seen : List StepOf
    seen = steps_seen v owners steps

    module _ (turn : ℕ) (s : StepOf) (at : slice_get steps turn ≡ Some s) (os : List OwnedOf) (q : IsPlacedAt seen turn (step_seen os s)) where
      late_too : IsLate steps turn s → IsLate seen turn (step_seen os s)
      late_too l = let d = to_seen v owners steps l.0 l.1 l.3 in (l.0, step_seen d.0 l.1, l.2, d.1, l.4)

      back_too : RunsBack steps turn s → RunsBack seen turn (step_seen os s)
      back_too b =
          let o = to_seen v owners steps b.earlier b.other b.there in
          record {
            moment = b.moment;
            has = moment_seen (hidden_from (identity s.client) os) s.taken ∙ b.has;
            earlier = b.earlier;
            ahead = b.ahead;
            other = step_seen o.0 b.other;
            there = o.1;
            last = b.last;
            had = moment_seen (hidden_from (identity b.other.client) o.0) b.other.taken ∙ b.had;
            less = b.less;
          }

      raw_at : IsPlacedAt steps turn s
      raw_at = record { there = at; kept = λ l. q.kept (late_too l); stamped = λ b. q.stamped (back_too b) }

    placed_without : ArePlaced steps (length steps)
    placed_without turn below =
        let s = some_at steps turn below in
        let long = length_seen v owners steps in
        let p = placed turn (omega (arith, below, long)) in
        let a = to_seen v owners steps turn s.0 s.1 in
        let there = p.1.there in
        let found = a.1 in
        let is : p.0 ≡ step_seen a.0 s.0 = cc in
        let P : StepOf → Type 0 = λ x. IsPlacedAt seen turn x in
        (s.0, raw_at turn s.0 s.1 a.0 (subst P is p.1))

pub seen_begins : (declared : DeclarationOf) (xs ys : List StepOf) (n : ℕ) → BeginsAs xs ys n → BeginsAs (in_sight declared xs) (in_sight declared ys) n
seen_begins declared xs ys n h = seen_by declared.settings.visibility (owners_at_first declared.settings.visibility declared.entries) xs ys n h

pub raw_placed : (declared : DeclarationOf) (steps : List StepOf) → ArePlaced (in_sight declared steps) (length (in_sight declared steps)) → ArePlaced steps (length steps)
raw_placed declared steps h = placed_without declared.settings.visibility (owners_at_first declared.settings.visibility declared.entries) steps h
