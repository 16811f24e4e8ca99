-- Where a search has tried all there is, no accepted witness that sets nothing aside goes on.
use Rattle.std.proofs.Common.{◌≡◌, ◌<◌, ◌≤◌, ◌⊎◌, inl, inr, ℕ, zero, suc, ◌+◌, ℤ, true, false, List, [], ◌∷◌, ◌++◌, map, length, take, Contains, Option, Some, None, slice_get, refl, sym, ap, ◌∙◌, subst, arith}
use Rattle.std.specs.Prelude.{IsSome}
use Rattle.std.proofs.lemmas.List.{append_assoc}
use Rattle.std.proofs.lemmas.List.Elements.{Contains-append_cases}
use Rattle.std.proofs.lemmas.Option.{get_or_from_slice_get, slice_get_within}
use Rattle.kmipa_store.specs.Ledger.{Meaning}
use Rattle.kmipa_store.specs.Choices.{Choice, Chooses}
use Rattle.kmipa_msgs.specs.declared.rules.Visibility.{Visibility}
use Rattle.kmipa_msgs.specs.declared.rules.Visibility.TheVariants.{Everyone}
use Rattle.kmipa_record.specs.Declarations.{DeclarationOf}
use Rattle.kmipa_record.specs.Marks.{MarkOf}
use Rattle.kmipa_record.specs.Witnesses.{TurnOf}
use Rattle.kmipa_ops.specs.declared.why.Why.{Why}
use Rattle.kmipa_batch.specs.Orders.{order_given}
use Rattle.kmipa_passed.specs.Leaving.{empty}
use Rattle.kmipa_aside.specs.Explains.{Explains, world}
use Rattle.kmipa_aside.specs.Worlds.{WorldOf}
use Rattle.kmipa_bundle.specs.Bundles.{DoesPlace, places_taken, sight_on}
use Rattle.kmipa_bundle.specs.Composing.{DoesDeed, TellsDeed}
use Rattle.kmipa_bundle.specs.Deeds.{ChainOf}
use Rattle.kmipa_bundle.specs.Refusals.{CallRefuted}
use Rattle.kmipa_places.specs.Calls.{ReadOf}
use Rattle.kmipa_check.specs.Grants.{grants_declared}
use Rattle.kmipa_check.specs.Runs.{rules_declared}
use Rattle.kmipa_check.proofs.OnceLemmas.{IsOnce}
use Rattle.kmipa_check.proofs.PlaceLemmas.{apart, at_contains, contains_at, get_at, some_at}
use Rattle.kmipa_turns.specs.Recorded.{RecordedOf, IsRecorded}
use Rattle.kmipa_turns.specs.Steps.{StepOf, TakenOf, leaves, takes, IsStep, step_of}
use Rattle.kmipa_trail.specs.Leading.{Leads, AreKnown, deed_of}
use Rattle.kmipa_trail.specs.Orders.{IsFormed, IsOrder}
use Rattle.kmipa_trail.specs.Owners.{in_sight, owners_at_first, step_seen, steps_seen}
use Rattle.kmipa_trail.specs.Placing.{ArePlaced, Before, IsPlacedAt, RunsBack}
use Rattle.kmipa_trail.specs.Tallies.{TallyOf}
use Rattle.kmipa_trail.specs.Verdicts.{GoesUpTo, IsAccepted, RefusedItem, in_item}
use Rattle.kmipa_trail.proofs.LeadLemmas.{known_more}
use Rattle.kmipa_trail.proofs.MissingLemmas.{number_of}
use Rattle.kmipa_trail.proofs.OneStepLemmas.{one_step_lem}
use Rattle.kmipa_trail.proofs.RefusedLemmas.{never_refused}
use Rattle.kmipa_trail.proofs.SameCallsLemmas.{numbered_once, same_calls}
use Rattle.kmipa_findings.specs.Choices.{HasOrder, bare_of}
use Rattle.kmipa_findings.specs.Exhausting.{AreCovered, AreDead, IsBareStep, IsCovered, is_taken, is_refuted, waits, late, back, IsDead, IsLeftBy, IsStepAt, IsSure, IsTried, RunsAhead, steps_along, step_or_none, way_steps}
use Rattle.kmipa_findings.specs.Findings.{IsUnexplained, SetsNothingAside}
use Rattle.kmipa_findings.specs.Forced.{IsOneWay}
use Rattle.kmipa_findings.specs.declared.trial.Trial.{Trial}
use Rattle.kmipa_findings.specs.declared.trial.Way.{Way}
use Rattle.kmipa_findings.specs.declared.trial.Way.TheVariants.{Bare, Waits}
use Rattle.kmipa_findings.proofs.BoardLemmas.{has_head, has_tail}
use Rattle.kmipa_findings.proofs.ForcedLemmas.{answered}
use Rattle.kmipa_findings.proofs.OneWayLemmas.{same_step}
use Rattle.kmipa_findings.proofs.SightLemmas.{raw_placed}

-- ---- lists

at_end : {X : Type 0} (xs : List X) (x : X) (ys : List X) → slice_get (xs ++ x ∷ ys) (length xs) ≡ Some x
at_end [] x ys = refl
at_end (y ∷ xs) x ys = at_end xs x ys

taken_front : {X : Type 0} (xs ys : List X) → take (length xs) (xs ++ ys) ≡ xs
taken_front [] ys = refl
taken_front (x ∷ xs) ys = ap (λ (zs : List _). x ∷ zs) (taken_front xs ys)

-- what stands behind the first of a list
split_at : {X : Type 0} (xs ys : List X) (x : X) → slice_get (xs ++ ys) (length xs) ≡ Some x → (zs : List X) × (ys ≡ x ∷ zs)
split_at [] [] x there = let bad : ⊥ = cc in absurd bad
split_at [] (y ∷ ys) x there = let same : y ≡ x = cc in (ys, ap (λ (z : _). z ∷ ys) same)
split_at (z ∷ xs) ys x there = split_at xs ys x there

front_at : {X : Type 0} (xs ys : List X) (i : ℕ) (x : X) → i < length xs → slice_get (xs ++ ys) i ≡ Some x → slice_get xs i ≡ Some x
front_at [] ys i x below there = absurd (omega (arith, below))
front_at (z ∷ xs) ys zero x below there = there
front_at (z ∷ xs) ys (suc i) x below there = front_at xs ys i x (omega (arith, below)) there

at_front : {X : Type 0} (xs ys : List X) (i : ℕ) (x : X) → slice_get xs i ≡ Some x → slice_get (xs ++ ys) i ≡ Some x
at_front [] ys i x there = let bad : ⊥ = cc in absurd bad
at_front (z ∷ xs) ys zero x there = there
at_front (z ∷ xs) ys (suc i) x there = at_front xs ys i x there

-- two calls of one number stand at one place
one_place : (calls : List RecordedOf) → IsOnce (map number_of calls) → (i j : ℕ) (a b : RecordedOf) → slice_get calls i ≡ Some a → slice_get calls j ≡ Some b → a.number ≡ b.number → i ≡ j
one_place [] once i j a b p q e = let bad : ⊥ = cc in absurd bad
one_place (x ∷ calls) once zero zero a b p q e = refl
one_place (x ∷ calls) once zero (suc j) a b p q e =
    let u : x ≡ a = cc in
    let P : ℤ → Type 0 = λ z. Contains (map number_of calls) z in
    absurd (once.0 (subst P (sym e ∙ sym (ap number_of u)) (contains_at (map number_of calls) j b.number (get_at number_of calls j b q))))
one_place (x ∷ calls) once (suc i) zero a b p q e =
    let v : x ≡ b = cc in
    let P : ℤ → Type 0 = λ z. Contains (map number_of calls) z in
    absurd (once.0 (subst P (e ∙ sym (ap number_of v)) (contains_at (map number_of calls) i a.number (get_at number_of calls i a p))))
one_place (x ∷ calls) once (suc i) (suc j) a b p q e = ap suc (one_place calls once.1 i j a b p q e)

-- ---- where each client sees every object

abbrev plainly : List StepOf → List StepOf
plainly steps = map (step_seen []) steps

plain_steps : (steps : List StepOf) → steps_seen Everyone [] steps ≡ plainly steps
plain_steps [] = refl
plain_steps (s ∷ steps) = ap (λ (xs : List StepOf). step_seen [] s ∷ xs) (plain_steps steps)

pub all_seen : (declared : DeclarationOf) → declared.settings.visibility ≡ Everyone → (steps : List StepOf) → in_sight declared steps ≡ plainly steps
all_seen declared e steps = ap (λ (v : Visibility). steps_seen v (owners_at_first v declared.entries) steps) e ∙ plain_steps steps

plainly_append : (xs ys : List StepOf) → plainly (xs ++ ys) ≡ plainly xs ++ plainly ys
plainly_append [] ys = refl
plainly_append (x ∷ xs) ys = ap (λ (zs : List StepOf). step_seen [] x ∷ zs) (plainly_append xs ys)

length_plainly : (xs : List StepOf) → length (plainly xs) ≡ length xs
length_plainly [] = refl
length_plainly (x ∷ xs) = ap suc (length_plainly xs)

module _ (declared : DeclarationOf) (seen : declared.settings.visibility ≡ Everyone) where
  -- one step more is known
  pub known_behind : (xs : List StepOf) (s : StepOf) (m n : Meaning) → AreKnown declared (in_sight declared xs) m
      → Explains (DoesDeed (rules_declared declared) (deed_of (step_seen [] s))) (TellsDeed (deed_of (step_seen [] s))) m empty n empty → AreKnown declared (in_sight declared (xs ++ s ∷ [])) n
  known_behind xs s m n known e =
      let P : List StepOf → Type 0 = λ o. AreKnown declared o m in
      let Q : List StepOf → Type 0 = λ o. AreKnown declared o n in
      let is : plainly xs ++ step_seen [] s ∷ [] ≡ in_sight declared (xs ++ s ∷ []) = sym (plainly_append xs (s ∷ [])) ∙ sym (all_seen declared seen (xs ++ s ∷ [])) in
      subst Q is (known_more declared (plainly xs) (step_seen [] s) m n (subst P (all_seen declared seen xs) known) e)

  -- a step that no known world has goes on to no accepted order
  module _ (marks : List MarkOf) (xs : List StepOf) (s : StepOf) (m : Meaning) (known : AreKnown declared (in_sight declared xs) m) (c : ReadOf) (places : Option (List ℕ)) (item : ℕ) (why : Why)
      (is : (step_seen [] s).taken ≡ takes c places) (e : CallRefuted (rules_declared declared) m c (order_given places) item why)
      (turns : List TurnOf) (tally : TallyOf) (rest : List StepOf) (a : IsAccepted marks declared turns tally) (begins : a.steps ≡ (xs ++ s ∷ []) ++ rest) where
    abbrev sight : List StepOf
    sight = in_sight declared a.steps

    ordered : sight ≡ plainly xs ++ step_seen [] s ∷ plainly rest
    ordered =
        all_seen declared seen a.steps ∙ ap plainly begins ∙ plainly_append (xs ++ s ∷ []) rest ∙ ap (λ (zs : List StepOf). zs ++ plainly rest) (plainly_append xs (s ∷ []))
        ∙ append_assoc (plainly xs) (step_seen [] s ∷ []) (plainly rest)

    abbrev turn : ℕ
    turn = length (plainly xs)

    there : slice_get sight turn ≡ Some (step_seen [] s)
    there = let P : List StepOf → Type 0 = λ o. slice_get o turn ≡ Some (step_seen [] s) in subst P (sym ordered) (at_end (plainly xs) (step_seen [] s) (plainly rest))

    inside : turn < length sight
    inside = slice_get_within sight turn (step_seen [] s) there

    first_of : take turn sight ≡ in_sight declared xs
    first_of = ap (take turn) ordered ∙ taken_front (plainly xs) (step_seen [] s ∷ plainly rest) ∙ sym (all_seen declared seen xs)

    stands_here : IsPlacedAt sight turn (step_seen [] s)
    stands_here =
        let p = a.placed turn inside in
        let at = p.1.there in
        let found = there in
        let same : p.0 ≡ step_seen [] s = cc in
        let P : StepOf → Type 0 = λ x. IsPlacedAt sight turn x in
        subst P same p.1

    never_from : (w : WorldOf) (choice : Choice) → Chooses m.secrets choice → w ≡ world choice m → GoesUpTo (rules_declared declared) w c (order_given places) (e.count + 1) → ⊥
    never_from w choice h same g =
        let P : WorldOf → Type 0 = λ x. ChainOf (DoesPlace (sight_on (rules_declared declared) c) c.stamp) (take (e.count + 1) (places_taken c (order_given places))) x empty g.left g.held in
        e.never (record { shaped = g.shaped; choice = choice; chooses = h; left = g.left; held = g.held; chain = subst P same g.chain })

    refused : RefusedItem declared sight turn (step_seen [] s) item why
    refused =
        let f = known.sound e.before.choice e.before.chooses in
        let L : List StepOf → Type 0 = λ o. Leads (rules_declared declared) f.0 o (world e.before.choice m) in
        let K : List StepOf → Type 0 = λ o. AreKnown declared o m in
        record {
          call = c;
          places = places;
          taken = is;
          unrefused = e.unrefused;
          count = e.count;
          before = record {
            placed = λ t below. a.placed t (omega (arith, below, inside));
            here = stands_here;
            start = f.0;
            described = f.1;
            before = world e.before.choice m;
            linked = subst L (sym first_of) f.2;
            items = record { shaped = e.before.shaped; left = e.before.left; held = e.before.held; chain = e.before.chain };
          };
          never = λ p.
              let M : List StepOf → Type 0 = λ o. Leads (rules_declared declared) p.start o p.before in
              let q = known.complete p.start p.before p.described (subst M first_of p.linked) in
              never_from p.before q.0 q.1 q.2 p.items;
          known = m;
          knows = subst K (sym first_of) known;
          speaks = e.speaks;
        }

    never : ⊥
    never = never_refused declared sight turn (step_seen [] s) there a.placed a.start a.last a.described a.linked item why (in_item refused)

  pub dead_refused : (marks : List MarkOf) (xs : List StepOf) (s : StepOf) (m : Meaning) → AreKnown declared (in_sight declared xs) m → (c : ReadOf) (places : Option (List ℕ)) (item : ℕ) (why : Why)
      → (step_seen [] s).taken ≡ takes c places → CallRefuted (rules_declared declared) m c (order_given places) item why → IsDead marks declared (xs ++ s ∷ [])
  dead_refused marks xs s m known c places item why is e turns tally rest aside a begins = never marks xs s m known c places item why is e turns tally rest a begins

-- where nothing goes on at all, nothing is explained
pub none_explained : (marks : List MarkOf) (declared : DeclarationOf) → IsDead marks declared [] → IsUnexplained marks declared
none_explained marks declared dead turns tally aside a = dead turns tally a.steps aside a refl

-- ---- the steps of calls that are sure

ordered_way : (t : TakenOf) → HasOrder t → IsOneWay t
ordered_way (leaves left counts) h = tt
ordered_way (takes c places) h = λ w. (let e = w.0 in let bad : ⊥ = cc in bad)

module _ (marks : List MarkOf) (declared : DeclarationOf) (trials : List Trial) (h : IsSure marks declared trials) where
  once : IsOnce (map number_of h.calls)
  once = numbered_once marks h.sure.right h.calls h.sure.are

  recorded_at : (p : ℕ) (c : RecordedOf) → slice_get h.calls p ≡ Some c → IsRecorded marks c
  recorded_at p c at =
      let P : RecordedOf → Type 0 = λ x. IsRecorded marks x in
      subst P (get_or_from_slice_get h.calls p c c at) (h.sure.are.recorded p c (slice_get_within h.calls p c at))

  some_end : (end : Option ℕ) → IsSome end → (e : ℕ) × (end ≡ Some e)
  some_end None bad = let clash : false ≡ true = bad in absurd cc
  some_end (Some e) some = (e, refl)

  ended_at : (p : ℕ) (c : RecordedOf) → slice_get h.calls p ≡ Some c → (e : ℕ) × (c.end ≡ Some e)
  ended_at p c at = some_end c.end (h.sure.ended p c at)

  -- a call is tried by its one step
  pub stands_at : (p : ℕ) (c : RecordedOf) → slice_get h.calls p ≡ Some c → (s : StepOf) × IsStepAt trials p s × IsStep (grants_declared declared) c (bare_of c) s × IsOneWay s.taken
  stands_at p c at =
      let own = h.sure.stepped p c at in
      let t = some_at trials p (omega (arith, slice_get_within h.calls p c at, h.tried.counted)) in
      (own.0, by t.0 t.1 t.0.way refl own.0 own.1 (h.tried.each p c t.0 at t.1), own.1, ordered_way own.0.taken own.2)
    where
      by : (t : Trial) → slice_get trials p ≡ Some t → (w : Way) → t.way ≡ w → (s : StepOf) → IsStep (grants_declared declared) c (bare_of c) s → IsTried (grants_declared declared) c t.way → IsStepAt trials p s
      by t there (Bare step) is s own tried =
          let T : Way → Type 0 = λ w. IsTried (grants_declared declared) c w in
          let B : Way → Type 0 = λ w. IsBareStep w s in
          let mine : IsStep (grants_declared declared) c (bare_of c) (step_of step) = subst T is tried in
          record { trial = t; there = there; bare = subst B (sym is) (one_step_lem (grants_declared declared) c (bare_of c) (step_of step) s mine own) }
      by t there (Waits said) is s own tried =
          let T : Way → Type 0 = λ w. IsTried (grants_declared declared) c w in
          let none : IsTried (grants_declared declared) c (Waits said) = subst T is tried in
          absurd (none s own)

  -- a call has one step
  same_bare : (v w : Way) (a b : StepOf) → v ≡ w → IsBareStep v a → IsBareStep w b → a ≡ b
  same_bare (Bare s) (Bare t) a b e i j = let same : s ≡ t = cc in sym i ∙ ap step_of same ∙ j
  same_bare (Bare s) (Waits said) a b e i j = absurd j
  same_bare (Waits said) w a b e i j = absurd i

  pub one_at : (p : ℕ) (a b : StepOf) → IsStepAt trials p a → IsStepAt trials p b → a ≡ b
  one_at p a b i j =
      let here = i.there in
      let there = j.there in
      let same : i.trial ≡ j.trial = cc in
      same_bare i.trial.way j.trial.way a b (ap (λ (t : Trial). t.way) same) i.bare j.bare

  number_at : (p : ℕ) (c : RecordedOf) (a : StepOf) → slice_get h.calls p ≡ Some c → IsStepAt trials p a → a.number ≡ c.number
  number_at p c a at i =
      let own = stands_at p c at in
      ap (λ (s : StepOf). s.number) (one_at p a own.0 i own.1) ∙ ap (λ (s : StepOf). s.number) own.2.is

  call_at : (p : ℕ) (a : StepOf) → IsStepAt trials p a → (c : RecordedOf) × (slice_get h.calls p ≡ Some c)
  call_at p a i = some_at h.calls p (omega (arith, slice_get_within trials p i.trial i.there, h.tried.counted))

  -- h.calls at two places have two numbers
  pub apart_at : (p q : ℕ) (a b : StepOf) → IsStepAt trials p a → IsStepAt trials q b → a.number ≡ b.number → p ≡ q
  apart_at p q a b i j e =
      let c = call_at p a i in
      let d = call_at q b j in
      one_place h.calls once p q c.0 d.0 c.1 d.1 (sym (number_at p c.0 a c.1 i) ∙ e ∙ number_at q d.0 b d.1 j)

  -- the steps along places are those of the places
  along_way : (v : StepOf) (earlier : List ℕ) (p : ℕ) (t : Trial) (way : Way) → slice_get trials p ≡ Some t → t.way ≡ way → Contains (way_steps way) v
      → (q : ℕ) × Contains (p ∷ earlier) q × IsStepAt trials q v
  along_way v earlier p t (Bare step) is same (zero, below, e) =
      let B : Way → Type 0 = λ x. IsBareStep x v in
      (p, has_head p earlier, record { trial = t; there = is; bare = subst B (sym same) e })
  along_way v earlier p t (Bare step) is same (suc k, below, e) = absurd (omega (arith, below))
  along_way v earlier p t (Waits said) is same (k, below, e) = absurd (omega (arith, below))

  along_last : (v : StepOf) (earlier : List ℕ) (p : ℕ) (o : Option Trial) → slice_get trials p ≡ o → Contains (step_or_none o) v → (q : ℕ) × Contains (p ∷ earlier) q × IsStepAt trials q v
  along_last v earlier p None is has = absurd (omega (arith, has.1))
  along_last v earlier p (Some t) is has = along_way v earlier p t t.way is refl has

  along_either : (v : StepOf) (earlier : List ℕ) (p : ℕ) → ((i : ℕ) → slice_get (steps_along trials earlier) i ≡ Some v → (q : ℕ) × Contains earlier q × IsStepAt trials q v)
      → Contains (steps_along trials earlier) v ⊎ Contains (step_or_none (slice_get trials p)) v → (q : ℕ) × Contains (p ∷ earlier) q × IsStepAt trials q v
  along_either v earlier p rec (inl has) =
      let k = at_contains (steps_along trials earlier) v has in
      let f = rec k.0 k.1 in
      (f.0, has_tail p f.0 earlier f.1, f.2)
  along_either v earlier p rec (inr has) = along_last v earlier p (slice_get trials p) refl has

  along_from : (taken : List ℕ) (i : ℕ) (v : StepOf) → slice_get (steps_along trials taken) i ≡ Some v → (p : ℕ) × Contains taken p × IsStepAt trials p v
  along_from [] i v at = let bad : ⊥ = cc in absurd bad
  along_from (p ∷ earlier) i v at =
      along_either v earlier p (λ j stands. along_from earlier j v stands)
      (Contains-append_cases (steps_along trials earlier) (step_or_none (slice_get trials p)) v (contains_at (steps_along trials (p ∷ earlier)) i v at))

  -- where the last of them is known
  pub along_push : (p : ℕ) (earlier : List ℕ) (s : StepOf) → IsStepAt trials p s → steps_along trials (p ∷ earlier) ≡ steps_along trials earlier ++ s ∷ []
  along_push p earlier s i =
      ap (λ (o : Option Trial). steps_along trials earlier ++ step_or_none o) i.there ∙ ap (λ (xs : List StepOf). steps_along trials earlier ++ xs) (by i.trial.way i.bare)
    where
      by : (w : Way) → IsBareStep w s → way_steps w ≡ s ∷ []
      by (Bare step) e = ap (λ (x : StepOf). x ∷ []) e
      by (Waits said) e = absurd e

  along_to : (taken : List ℕ) (p : ℕ) (s : StepOf) → Contains taken p → IsStepAt trials p s → Contains (steps_along trials taken) s
  along_to [] p s has i = absurd (omega (arith, has.1))
  along_to (q ∷ earlier) p s (zero, below, is) i =
      let P : ℕ → Type 0 = λ n. IsStepAt trials n s in
      let e = along_push q earlier s (subst P (sym is) i) in
      let C : List StepOf → Type 0 = λ xs. Contains xs s in
      subst C (sym e) (contains_at (steps_along trials earlier ++ s ∷ []) (length (steps_along trials earlier)) s (at_end (steps_along trials earlier) s []))
  along_to (q ∷ earlier) p s (suc k, below, is) i =
      let has = along_to earlier p s (k, omega (arith, below), is) i in
      let at = at_contains (steps_along trials earlier) s has in
      contains_at (steps_along trials (q ∷ earlier)) at.0 s (at_front (steps_along trials earlier) (step_or_none (slice_get trials q)) at.0 s at.1)

  -- ---- an accepted order that begins with the h.calls that are taken

  module _ (taken : List ℕ) (turns : List TurnOf) (tally : TallyOf) (rest : List StepOf) (aside : SetsNothingAside turns) (a : IsAccepted marks declared turns tally)
      (begins : a.steps ≡ steps_along trials taken ++ rest) where
    abbrev front : List StepOf
    front = steps_along trials taken

    abbrev count : ℕ
    count = length (steps_along trials taken)

    order : IsOrder (grants_declared declared) h.calls turns a.steps
    order = let P : List RecordedOf → Type 0 = λ cs. IsOrder (grants_declared declared) cs turns a.steps in subst P (same_calls marks h.sure.right a.calls h.calls a.are h.sure.are) a.order

    placed : ArePlaced a.steps (length a.steps)
    placed = raw_placed declared a.steps a.placed

    made_number : (k : ℕ) (v : StepOf) (f : IsFormed (grants_declared declared) h.calls turns k v) → v.number ≡ f.turn.call
    made_number k v f = ap (λ (x : StepOf). x.number) f.step.is ∙ sym f.step.named

    -- no two turns have one number
    never_twice : (j k : ℕ) (v w : StepOf) → j < k → slice_get a.steps j ≡ Some v → slice_get a.steps k ≡ Some w → v.number ≡ w.number → ⊥
    never_twice j k v w ahead at there e =
        let f = order.formed j v at in
        let f2 = order.formed k w there in
        f2.first (j, ahead, (f.turn, f.there, sym (made_number j v f) ∙ e ∙ made_number k w f2))

    -- each step is that of a call at its place
    its_place : (k : ℕ) (v : StepOf) → slice_get a.steps k ≡ Some v → (p : ℕ) × IsStepAt trials p v
    its_place k v there =
        let f = order.formed k v there in
        let p = at_contains h.calls f.call f.known in
        let own = stands_at p.0 f.call p.1 in
        let end = ended_at p.0 f.call p.1 in
        let bytes = answered marks f.call end.0 (recorded_at p.0 f.call p.1).ended end.1 in
        let same : v ≡ own.0 = same_step (grants_declared declared) h.sure.nothing f.call bytes.0 (bare_of f.call) f.turn own.0 v bytes.1 refl (aside f.turn (contains_at turns k f.turn f.there)) refl own.3 own.2 f.step in
        let P : StepOf → Type 0 = λ x. IsStepAt trials p.0 x in
        (p.0, subst P (sym same) own.1)

    -- behind the front stands no call that is taken
    fresh : (k p : ℕ) (v : StepOf) → count ≤ k → slice_get a.steps k ≡ Some v → IsStepAt trials p v → Contains taken p → ⊥
    fresh k p v behind there i has =
        let c = along_to taken p v has i in
        let at = at_contains front v c in
        let A : List StepOf → Type 0 = λ xs. slice_get xs at.0 ≡ Some v in
        never_twice at.0 k v v (omega (arith, behind, slice_get_within front at.0 v at.1)) (subst A (sym begins) (at_front front rest at.0 v at.1)) there refl

    -- a call that is left stands behind it
    behind_front : (q : ℕ) (b : StepOf) → (Contains taken q → ⊥) → IsStepAt trials q b → (k : ℕ) × (count ≤ k) × (slice_get a.steps k ≡ Some b)
    behind_front q b left i =
        let c = call_at q b i in
        let end = ended_at q c.0 c.1 in
        let n = order.all c.0 end.0 (contains_at h.calls q c.0 c.1) end.1 in
        let v = some_at a.steps n.0 (omega (arith, slice_get_within turns n.0 n.1.0 n.1.1, order.counted)) in
        let f = order.formed n.0 v.0 v.1 in
        let stands = f.there in
        let named = n.1.1 in
        let same : f.turn ≡ n.1.0 = cc in
        let number : v.0.number ≡ b.number = made_number n.0 v.0 f ∙ ap (λ (t : TurnOf). t.call) same ∙ n.1.2 ∙ sym (number_at q c.0 b c.1 i) in
        let p = its_place n.0 v.0 v.1 in
        let one : p.0 ≡ q = apart_at p.0 q v.0 b p.1 i number in
        let P : ℕ → Type 0 = λ m. IsStepAt trials m v.0 in
        let is : v.0 ≡ b = one_at q v.0 b (subst P one p.1) i in
        let S : StepOf → Type 0 = λ x. slice_get a.steps n.0 ≡ Some x in
        let there = subst S is v.1 in
        (n.0, past n.0 there (apart n.0 count), there)
      where
        early : (m : ℕ) → slice_get a.steps m ≡ Some b → m < count → ⊥
        early m there less =
            let A : List StepOf → Type 0 = λ xs. slice_get xs m ≡ Some b in
            let f = along_from taken m b (front_at front rest m b less (subst A begins there)) in
            let one : f.0 ≡ q = apart_at f.0 q b b f.2 i refl in
            let C : ℕ → Type 0 = λ n. Contains taken n in
            left (subst C one f.1)

        past : (m : ℕ) → slice_get a.steps m ≡ Some b → (m < count) ⊎ ((count < m) ⊎ (m ≡ count)) → count ≤ m
        past m there (inl less) = absurd (early m there less)
        past m there (inr (inl more)) = omega (arith, more)
        past m there (inr (inr e)) = omega (arith, e)

    module _ (refuted : List ℕ) (r : ℕ) (within : r < length trials) (left : Contains taken r → ⊥) (covered : AreCovered trials taken refuted) (dead : AreDead marks declared trials taken refuted) where
      -- some call stands next
      next : (w : StepOf) × (slice_get a.steps count ≡ Some w)
      next =
          let c = some_at h.calls r (omega (arith, within, h.tried.counted)) in
          let own = stands_at r c.0 c.1 in
          let k = behind_front r own.0 left own.1 in
          some_at a.steps count (omega (arith, k.1, slice_get_within a.steps k.0 own.0 k.2))

      abbrev v : StepOf
      v = next.0

      abbrev p : ℕ
      p = (its_place count next.0 next.1).0

      i : IsStepAt trials p v
      i = (its_place count next.0 next.1).1

      here : IsPlacedAt a.steps count v
      here =
          let q = placed count (slice_get_within a.steps count v next.1) in
          let stands = q.1.there in
          let found = next.1 in
          let same : q.0 ≡ v = cc in
          let P : StepOf → Type 0 = λ x. IsPlacedAt a.steps count x in
          subst P same q.1

      -- a call that is left, and another one, stands later
      later : (P : StepOf → StepOf → Type 0) (l : IsLeftBy P trials taken p) → (k : ℕ) × (count < k) × (slice_get a.steps k ≡ Some l.a)
      later P l =
          let k = behind_front l.other l.a l.left l.at in
          (k.0, by k.0 k.2 k.1 (apart count k.0), k.2)
        where
          by : (k : ℕ) → slice_get a.steps k ≡ Some l.a → count ≤ k → (count < k) ⊎ ((k < count) ⊎ (count ≡ k)) → count < k
          by k there from (inl less) = less
          by k there from (inr (inl more)) = absurd (omega (arith, from, more))
          by k there from (inr (inr e)) =
              let S : ℕ → Type 0 = λ n. slice_get a.steps n ≡ Some l.a in
              let stands = subst S (sym e) there in
              let found = next.1 in
              let same : l.a ≡ v = cc in
              absurd (l.differs (apart_at l.other p l.a v l.at i (ap (λ (s : StepOf). s.number) same)))

      its_b : (P : StepOf → StepOf → Type 0) (l : IsLeftBy P trials taken p) → P l.a v
      its_b P l =
          let Q : StepOf → Type 0 = λ x. P l.a x in
          subst Q (one_at p l.b v l.here i) l.ahead

      by_case : IsCovered trials taken refuted p → ⊥
      by_case (is_taken has) = fresh count p v (omega arith) next.1 i has
      by_case (is_refuted has) =
          let A : List StepOf → Type 0 = λ xs. slice_get xs count ≡ Some v in
          let s = split_at front rest v (subst A begins next.1) in
          let D : List StepOf → Type 0 = λ xs. IsDead marks declared xs in
          subst D (along_push p taken v i) (dead p has) turns tally s.0 aside a
          (begins ∙ ap (λ (xs : List StepOf). front ++ xs) s.1 ∙ sym (append_assoc front (v ∷ []) s.0))
      by_case (waits none) = none v i
      by_case (late l) =
          let k = later Before l.0 in
          here.kept (k.0, l.0.a, k.1, k.2, its_b Before l.0)
      by_case (back l) =
          let k = later RunsAhead l in
          let ahead = its_b RunsAhead l in
          let q = placed k.0 (slice_get_within a.steps k.0 l.a k.2) in
          let stands = q.1.there in
          let found = k.2 in
          let same : q.0 ≡ l.a = cc in
          let S : StepOf → Type 0 = λ x. RunsBack a.steps k.0 x → ⊥ in
          subst S same q.1.stamped
          (record { moment = ahead.moment; has = ahead.has; earlier = count; ahead = k.1; other = v; there = next.1; last = ahead.last; had = ahead.had; less = ahead.less })

      pub goes_nowhere : ⊥
      goes_nowhere = by_case (covered p i.trial i.there)

  -- where all that may be next is refuted, nothing goes on
  pub dead_covered : (taken refuted : List ℕ) (r : ℕ) → r < length trials → (Contains taken r → ⊥) → AreCovered trials taken refuted → AreDead marks declared trials taken refuted
      → IsDead marks declared (steps_along trials taken)
  dead_covered taken refuted r within left covered dead turns tally rest aside a begins =
      goes_nowhere taken turns tally rest aside a begins refuted r within left covered dead
