-- Calls of which some aren't plain: where some objects refute them, no order explains them.
use Rattle.std.proofs.Common.{◌≡◌, ◌≢◌, ◌<◌, ◌≤◌, ◌⊎◌, inl, inr, ℕ, zero, suc, ℤ, pos, List, [], ◌∷◌, ◌++◌, map, take, length, get_or, ◌+◌, slice_get, Option, Some, None, Contains, refl, sym, ap, ◌∙◌, subst, arith}
use Rattle.std.specs.Prelude.{AllPairs, IfOk, IfSome, Result, Ok, Err, String, Vec}
use Rattle.std.specs.String.{string_bytes}
use Rattle.std.specs.declared.alloc.AllocError.{AllocError}
use Rattle.std.specs.declared.alloc.Global.{Global}
use Rattle.std.specs.List.{filter_map, AllZip}
use Rattle.std.proofs.lemmas.List.{append-nil, map-append}
use Rattle.std.proofs.lemmas.List.Elements.{All-contains, filter_map-append}
use Rattle.kmipa_object.specs.Inventory.{Thing}
use Rattle.kmipa_attrs.specs.Sets.{Attributes}
use Rattle.kmipa_record.specs.Marks.{MarkOf, AreRecorded}
use Rattle.kmipa_record.specs.Declarations.{DeclarationOf}
use Rattle.kmipa_record.specs.Witnesses.{BirthOf}
use Rattle.kmipa_msgs.specs.Messages.{AskedOf, creates, registers, locates, gets, gets_attributes, activates, revokes, destroys, idles, does_other, AskOf, RequestOf, ResponseOf}
use Rattle.kmipa_batch.specs.Readable.{IsReadableCall}
use Rattle.kmipa_check.specs.Births.{asked_with, IsBornAt, as_asked, completed, IsBorn}
use Rattle.kmipa_check.specs.Calls.{CallOf, AreCalls, IsRecorded, call_of}
use Rattle.kmipa_check.specs.Calls as timing
use Rattle.kmipa_record.specs.declared.call.Call.{Call}
use Rattle.kmipa_check.specs.Described.{Describes}
use Rattle.kmipa_check.specs.Grants.{GrantsOf, GrantsNothing, grants_declared}
use Rattle.kmipa_check.specs.Runs.{EndsAhead, IsOfCalls, IsRun, rules_declared}
use Rattle.kmipa_check.specs.Steps.{StepOf, IsStep, step_with}
use Rattle.kmipa_check.proofs.PlaceLemmas.{contains_at, at_contains, apart, at_within, get_at, some_at}
use Rattle.kmipa_parts.specs.Parts.{OwnOf, is_among, cut, IsElsewhere, untouched, IsPartOf, IsPartOrNone, AreParts, may_touch, MayTouch}
use Rattle.kmipa_parts.proofs.CallLemmas.{run_projects_lem}
use Rattle.kmipa_parts.proofs.RunLemmas.{index_there, pair_at, pairs_all, parts_pair, parts_are_placed_lem, those_there}
use Rattle.kmipa_orders.specs.ByObject.{AreOrderly, declared_on, part_step, IsCallPart, AreCallParts, RefutesCalls, IsRefutedBy, RefutedByObject}
use Rattle.kmipa_orders.specs.Found.{Finds}
use Rattle.kmipa_orders.specs.declared.found.Found.TheVariants.{Refuted}
use Rattle.kmipa_orders.specs.declared.by_object.CallPart.{CallPart}
use Rattle.kmipa_orders.specs.LawsOfCheck.{LawsOfCheck}
use Rattle.kmipa_orders.specs.Plain.{IsPlainStep}
use Rattle.kmipa_orders.specs.Progress.{AreBegun, AreTimed, HaveRun}
use Rattle.kmipa_orders.specs.Taken.{step_at, no_step}
use Rattle.kmipa_orders.proofs.PartLemmas.{there_at, at_there, described_cut, mapped_more, orderly_parts}
use Rattle.kmipa_orders.proofs.PermutationLemmas.{IsOnce, at_most, permuted, once_pairs}

-- ---- two lists, place by place

zip_at : {A B : Type 0} (R : A → B → Type 0) (xs : List A) (ys : List B) (k : ℕ) (x : A) → AllZip R xs ys → slice_get xs k ≡ Some x → (y : B) × (slice_get ys k ≡ Some y) × R x y
zip_at R [] [] k x z at = let bad : ⊥ = cc in absurd bad
zip_at R [] (b ∷ ys) k x z at = absurd z
zip_at R (a ∷ xs) [] k x z at = absurd z
zip_at {A = A} R (a ∷ xs) (b ∷ ys) zero x z at = let same : a ≡ x = cc in let P : A → Type 0 = λ u. R u b in (b, refl, subst P same z.0)
zip_at R (a ∷ xs) (b ∷ ys) (suc k) x z at = zip_at R xs ys k x z.1 at

zip_back : {A B : Type 0} (R : A → B → Type 0) (xs : List A) (ys : List B) (k : ℕ) (y : B) → AllZip R xs ys → slice_get ys k ≡ Some y → (x : A) × (slice_get xs k ≡ Some x) × R x y
zip_back R [] [] k y z at = let bad : ⊥ = cc in absurd bad
zip_back R [] (b ∷ ys) k y z at = absurd z
zip_back R (a ∷ xs) [] k y z at = absurd z
zip_back {B = B} R (a ∷ xs) (b ∷ ys) zero y z at = let same : b ≡ y = cc in let P : B → Type 0 = λ u. R a u in (a, refl, subst P same z.0)
zip_back R (a ∷ xs) (b ∷ ys) (suc k) y z at = zip_back R xs ys k y z.1 at

zip_more : {A B : Type 0} (R : A → B → Type 0) (xs : List A) (ys : List B) (x : A) (y : B) → AllZip R xs ys → R x y → AllZip R (xs ++ x ∷ []) (ys ++ y ∷ [])
zip_more R [] [] x y z r = (r, tt)
zip_more R [] (b ∷ ys) x y z r = absurd z
zip_more R (a ∷ xs) [] x y z r = absurd z
zip_more R (a ∷ xs) (b ∷ ys) x y z r = (z.0, zip_more R xs ys x y z.1 r)

-- ---- parts of the calls so far

pub no_call_parts : (these : OwnOf) → AreCallParts these [] []
no_call_parts these = record { each = []; of_calls = tt; are = refl }

-- a call more, and its part
pub call_part_more : (these : OwnOf) (calls : List CallOf) (parts : List StepOf) (call : CallOf) (part : StepOf) → AreCallParts these calls parts → IsCallPart these call (Some part) → AreCallParts these (calls ++ call ∷ []) (parts ++ part ∷ [])
call_part_more these calls parts call part a is = record {
  each = a.each ++ Some part ∷ [];
  of_calls = zip_more (IsCallPart these) calls a.each call (Some part) a.of_calls is;
  are = ap (λ (ps : List StepOf). ps ++ part ∷ []) a.are ∙ sym (filter_map-append (λ (p : Option StepOf). p) a.each (Some part ∷ []));
}

-- a call more that has none
pub call_none_more : (these : OwnOf) (calls : List CallOf) (parts : List StepOf) (call : CallOf) → AreCallParts these calls parts → IsCallPart these call None → AreCallParts these (calls ++ call ∷ []) parts
call_none_more these calls parts call a is = record {
  each = a.each ++ None ∷ [];
  of_calls = zip_more (IsCallPart these) calls a.each call None a.of_calls is;
  are = a.are ∙ sym (append-nil (filter_map (λ (p : Option StepOf). p) a.each)) ∙ sym (filter_map-append (λ (p : Option StepOf). p) a.each (None ∷ []));
}

-- the part of a plain call, where it has one
pub part_of_plain : (these : OwnOf) (c : CallOf) (s : StepOf) (result : Result (Option CallPart) AllocError) → IsPlainStep c s → IfOk result (λ part. IfSome part (λ own. IsPartOf these s (part_step own)))
    → IfOk result (λ part. IfSome part (λ own. IsCallPart these c (Some (part_step own))))
part_of_plain these c s (Err e) plain h = tt
part_of_plain these c s (Ok None) plain h = tt
part_of_plain these c s (Ok (Some own)) plain h = (s, plain, h)

module _ (these : OwnOf) (xs : List Call) (i : ℕ) (x : Call) (less : i < length xs) (is : x ≡ get_or xs i x) where
  calls_more : map call_of (take (i + 1) xs) ≡ map call_of (take i xs) ++ call_of x ∷ []
  calls_more = mapped_more call_of xs i x less is

  -- a call more that has none
  pub passed_so_far : (parts : List StepOf) → AreCallParts these (map call_of (take i xs)) parts → IsCallPart these (call_of x) None → AreCallParts these (map call_of (take (i + 1) xs)) parts
  passed_so_far parts a e = let P : List CallOf → Type 0 = λ cs. AreCallParts these cs parts in subst P (sym calls_more) (call_none_more these (map call_of (take i xs)) parts (call_of x) a e)

  -- a call more, and its part
  pub part_so_far : (own more : List CallPart) (part : CallPart) → more ≡ own ++ part ∷ [] → AreCallParts these (map call_of (take i xs)) (map part_step own) → IsCallPart these (call_of x) (Some (part_step part))
      → AreCallParts these (map call_of (take (i + 1) xs)) (map part_step more)
  part_so_far own more part are a p =
      let P : List CallOf → Type 0 = λ cs. AreCallParts these cs (map part_step more) in
      let Q : List StepOf → Type 0 = λ ps. AreCallParts these (map call_of (take i xs) ++ call_of x ∷ []) ps in
      subst P (sym calls_more) (subst Q (sym (ap (λ (ps : List CallPart). map part_step ps) are ∙ map-append part_step own (part ∷ [])))
      (call_part_more these (map call_of (take i xs)) (map part_step own) (call_of x) (part_step part) a p))

-- ---- the parts begin in their order: they are those of steps that do

abbrev no_response : ResponseOf
no_response = record { stamp = pos 0; items = [] }

-- a step of the call by place, with some response
abbrev IsStepOf : CallOf → StepOf → Type 0
IsStepOf c s = (response : ResponseOf) × (s ≡ step_with c response)

record Stepped (these : OwnOf) (calls : List CallOf) (each : List (Option StepOf)) : Type 0 where
  steps : List StepOf
  have : AllZip (IsPartOrNone these) steps each
  of : AllZip IsStepOf calls steps

-- one step, whatever the call has on the object
one_step : (these : OwnOf) (c : CallOf) (e : Option StepOf) → IsCallPart these c e → (s : StepOf) × IsPartOrNone these s e × IsStepOf c s
one_step these c (Some part) h = (h.0, h.2, (h.1.response, h.1.is))
one_step these c None (inl h) = (h.0, h.2, (h.1.response, h.1.is))
one_step these c None (inr apart) = (step_with c no_response, untouched apart, (no_response, refl))

stepped : (these : OwnOf) (calls : List CallOf) (each : List (Option StepOf)) → AllZip (IsCallPart these) calls each → Stepped these calls each
stepped these [] [] z = record { steps = []; have = tt; of = tt }
stepped these [] (e ∷ each) z = absurd z
stepped these (c ∷ calls) [] z = absurd z
stepped these (c ∷ calls) (e ∷ each) z =
    let s = one_step these c e z.0 in
    let rest = stepped these calls each z.1 in
    record { steps = s.0 ∷ rest.steps; have = (s.1, rest.have); of = (s.2, rest.of) }

module _ (calls : List CallOf) (steps : List StepOf) (of : AllZip IsStepOf calls steps) (timed : timing.AreTimed calls) where
  steps_begun : AreBegun steps
  steps_begun p q less within =
      let a = zip_back IsStepOf calls steps p (step_at steps p) of (index_there steps p no_step (omega (arith, less, within))) in
      let b = zip_back IsStepOf calls steps q (step_at steps q) of (index_there steps q no_step within) in
      let lt = pair_at (λ (x y : CallOf). x.begin < y.begin) calls p q a.0 b.0 timed.ascend less a.1 b.1 in
      omega (arith, lt, ap (λ (s : StepOf). s.begin) a.2.1, ap (λ (s : StepOf). s.begin) b.2.1)

  steps_timed : AreTimed steps
  steps_timed s has before =
      let i = at_contains steps s has in
      let c = zip_back IsStepOf calls steps i.0 s of i.1 in
      let P : StepOf → Type 0 = λ x. EndsAhead x.end x.begin in
      never c.0 (contains_at calls i.0 c.0 c.1) c.0.end refl (subst P c.2.1 before)
    where
      never : (c : CallOf) → Contains calls c → (end : Option ℕ) → c.end ≡ end → EndsAhead c.end c.begin → ⊥
      never c there None e h = let P : Option ℕ → Type 0 = λ o. EndsAhead o c.begin in subst P e h
      never c there (Some end) e h =
          let P : Option ℕ → Type 0 = λ o. EndsAhead o c.begin in
          let late : end < c.begin = subst P e h in
          let early = timed.closed c end there e in
          omega (arith, late, early)

pub orderly_call_parts : (these : OwnOf) (calls : List CallOf) (parts : List StepOf) → timing.AreTimed calls → AreCallParts these calls parts → AreOrderly parts
orderly_call_parts these calls parts timed a =
    let s = stepped these calls a.each a.of_calls in
    orderly_parts these s.steps parts (steps_begun calls s.steps s.of timed) (steps_timed calls s.steps s.of timed) (record { each = a.each; of_calls = s.have; are = a.are })

-- ---- the parts of the steps of a run

-- a birth doesn't change what an item may touch
touch_born : (these : OwnOf) (asked : AskedOf) (birth : Attributes) → may_touch these (asked_with asked birth) ≡ may_touch these asked
touch_born these (creates a) birth = refl
touch_born these (registers r) birth = refl
touch_born these (locates q) birth = refl
touch_born these (gets named) birth = refl
touch_born these (gets_attributes g) birth = refl
touch_born these (activates named) birth = refl
touch_born these (revokes r) birth = refl
touch_born these (destroys named) birth = refl
touch_born these (idles n) birth = refl
touch_born these (does_other n) birth = refl

touch_there : (g : GrantsOf) (births : List BirthOf) (place : ℕ) (ask full : AskOf) (these : OwnOf) → IsBornAt g births place ask full → may_touch these full.asked ≡ may_touch these ask.asked
touch_there g births place ask full these (as_asked none is) = ap (λ (a : AskOf). may_touch these a.asked) is
touch_there g births place ask full these (completed birth one its attributes of is) = ap (λ (a : AskOf). may_touch these a.asked) is ∙ touch_born these ask.asked attributes

untouched_born : (g : GrantsOf) (request : RequestOf) (response : ResponseOf) (births : List BirthOf) (full : RequestOf) → IsBorn g request response births full → (these : OwnOf)
    → (MayTouch these request → ⊥) → MayTouch these full → ⊥
untouched_born g request response births full b these none touch =
    let k = at_contains full.items touch.0 touch.1 in
    let there = some_at request.items k.0 (omega (arith, at_within full.items k.0 touch.0 k.1, b.counted)) in
    none (there.0, contains_at request.items k.0 there.0 there.1, sym (touch_there g births k.0 there.0 touch.0 these (b.each k.0 there.0 touch.0 there.1 k.1)) ∙ touch.2)

-- what a call has on the object, each of its steps has
step_part : LawsOfCheck → (g : GrantsOf) → GrantsNothing g → (these : OwnOf) (c : CallOf) (e : Option StepOf) → IsCallPart these c e → (s : StepOf) → ((t : _) × IsStep g c t s) → IsPartOrNone these s e
step_part laws g nothing these c (Some part) h s m =
    let P : StepOf → Type 0 = λ x. IsPartOf these x part in
    subst P (h.1.is ∙ sym (laws.one_step g c h.1.response m.0 s nothing h.1.plain m.1)) h.2
step_part laws g nothing these c None (inl h) s m =
    let P : StepOf → Type 0 = λ x. IsElsewhere these x in
    subst P (h.1.is ∙ sym (laws.one_step g c h.1.response m.0 s nothing h.1.plain m.1)) h.2
step_part laws g nothing these c None (inr apart) s m =
    let P : RequestOf → Type 0 = λ r. MayTouch these r → ⊥ in
    untouched (subst P (sym (ap (λ (x : StepOf). x.request) m.1.is)) (untouched_born g c.request m.1.response m.0.births m.1.asked m.1.born these apart))

-- where the part of a step was found
record FoundAt (calls : List CallOf) (each : List (Option StepOf)) (order : List StepOf) (j : ℕ) (e : Option StepOf) : Type 0 where
  place : ℕ
  part : slice_get each place ≡ Some e
  call : CallOf
  of : slice_get calls place ≡ Some call
  step : StepOf
  taken : slice_get order j ≡ Some step
  number : step.number ≡ call.number

record Picked (these : OwnOf) (calls : List CallOf) (each : List (Option StepOf)) (order : List StepOf) : Type 0 where
  those : List (Option StepOf)
  of_order : AllZip (IsPartOrNone these) order those
  from : (j : ℕ) (e : Option StepOf) → slice_get those j ≡ Some e → FoundAt calls each order j e

pick : LawsOfCheck → (g : GrantsOf) → GrantsNothing g → (these : OwnOf) (calls : List CallOf) (each : List (Option StepOf)) (order : List StepOf) → AllZip (IsCallPart these) calls each
    → ((s : StepOf) → Contains order s → IsOfCalls g calls s) → Picked these calls each order
pick laws g nothing these calls each [] z inside = record { those = []; of_order = tt; from = λ j e at. let bad : ⊥ = cc in absurd bad }
pick laws g nothing these calls each (s ∷ order) z inside =
    let m = inside s (contains_at (s ∷ order) 0 s refl) in
    let k = at_contains calls m.0 m.2 in
    let e = zip_at (IsCallPart these) calls each k.0 m.0 z k.1 in
    let rest = pick laws g nothing these calls each order z (λ x has. let i = at_contains order x has in inside x (contains_at (s ∷ order) (suc i.0) x i.1)) in
    record {
      those = e.0 ∷ rest.those;
      of_order = (step_part laws g nothing these m.0 e.0 e.2 s (m.1, m.3), rest.of_order);
      from = by k.0 m.0 e.0 k.1 e.1 (ap (λ (x : StepOf). x.number) m.3.is) rest.those rest.from;
    }
  where
    by : (k : ℕ) (c : CallOf) (e : Option StepOf) → slice_get calls k ≡ Some c → slice_get each k ≡ Some e → s.number ≡ c.number → (those : List (Option StepOf))
        → ((j : ℕ) (x : Option StepOf) → slice_get those j ≡ Some x → FoundAt calls each order j x)
        → (j : ℕ) (x : Option StepOf) → slice_get (e ∷ those) j ≡ Some x → FoundAt calls each (s ∷ order) j x
    by k c e there stands same those from zero x at =
        let first : e ≡ x = cc in
        record { place = k; part = stands ∙ ap Some first; call = c; of = there; step = s; taken = refl; number = same }
    by k c e there stands same those from (suc j) x at =
        let f = from j x at in
        record { place = f.place; part = f.part; call = f.call; of = f.of; step = f.step; taken = f.taken; number = f.number }

module _ (laws : LawsOfCheck) (marks : List MarkOf) (declared : DeclarationOf) (these : OwnOf) (calls : List CallOf) (parts : List StepOf) (r : AreRecorded marks) (are : AreCalls marks calls) (a : AreCallParts these calls parts) where
  orderly : AreOrderly parts
  orderly = orderly_call_parts these calls parts (laws.timed marks calls r are) a

  parts_once : IsOnce parts
  parts_once = once_pairs parts orderly.once

  -- calls of one number stand at one place
  one_number : (i j : ℕ) (c d : CallOf) → slice_get calls i ≡ Some c → slice_get calls j ≡ Some d → c.number ≡ d.number → i ≡ j
  one_number i j c d s t e = by (apart i j)
    where
      numbers : AllPairs (λ (x y : ℤ). x ≢ y) (map (λ (x : CallOf). x.number) calls)
      numbers = let P : List ℤ → Type 0 = λ xs. AllPairs (λ (x y : ℤ). x ≢ y) xs in subst P (sym are.numbers) r.once

      differ : (m n : ℕ) (x y : CallOf) → m < n → slice_get calls m ≡ Some x → slice_get calls n ≡ Some y → x.number ≡ y.number → ⊥
      differ m n x y lt u v same =
          pair_at (λ (p q : ℤ). p ≢ q) (map (λ (w : CallOf). w.number) calls) m n x.number y.number numbers lt
          (get_at (λ (w : CallOf). w.number) calls m x u) (get_at (λ (w : CallOf). w.number) calls n y v) same

      by : (i < j) ⊎ ((j < i) ⊎ (i ≡ j)) → i ≡ j
      by (inl lt) = absurd (differ i j c d lt s t e)
      by (inr (inl lt)) = absurd (differ j i d c lt t s (sym e))
      by (inr (inr same)) = same

  module _ (nothing : GrantsNothing (grants_declared declared)) (start : List Thing) (described : Describes declared start) (order : List StepOf) (run : IsRun (grants_declared declared) (rules_declared declared) calls start order) where
    picked : Picked these calls a.each order
    picked = pick laws (grants_declared declared) nothing these calls a.each order a.of_calls run.once.of_calls

    abbrev ordered : List StepOf
    ordered = those_there picked.those

    parts_of_order : AreParts these order ordered
    parts_of_order = record { each = picked.those; of_calls = picked.of_order; are = refl }

    ordered_once : IsOnce ordered
    ordered_once =
        let pairs = parts_pair (λ (x y : StepOf). x.number ≢ y.number) these order ordered parts_of_order run.once.once (λ c d p q x y h e. h (sym x.number ∙ e ∙ y.number)) in
        once_pairs ordered (pairs_all (λ (x y : StepOf). x ≢ y) ordered (λ i j x y lt s t same.
        pair_at (λ (u v : StepOf). u.number ≢ v.number) ordered i j x y pairs lt s t (ap (λ (u : StepOf). u.number) same)))

    all_there : (p : StepOf) → Contains parts p → Contains ordered p
    all_there p has =
        let P : List StepOf → Type 0 = λ xs. Contains xs p in
        let i = at_contains (those_there a.each) p (subst P a.are has) in
        let k = there_at a.each i.0 p i.1 in
        let c = zip_back (IsCallPart these) calls a.each k.0 (Some p) a.of_calls k.1 in
        let s = run.once.all c.0 c.2.1.plain.end (contains_at calls k.0 c.0 c.1) c.2.1.plain.ended in
        let j = at_contains order s.0 s.1 in
        let e = zip_at (IsPartOrNone these) order picked.those j.0 s.0 picked.of_order j.1 in
        let f = picked.from j.0 e.0 e.1 in
        let step : Some f.step ≡ Some s.0 = sym f.taken ∙ j.1 in
        let own : f.step ≡ s.0 = cc in
        let same : f.place ≡ k.0 = one_number f.place k.0 f.call c.0 f.of c.1 (sym f.number ∙ ap (λ (x : StepOf). x.number) own ∙ s.2) in
        let Q : ℕ → Type 0 = λ n. slice_get a.each n ≡ Some e.0 in
        let both : Some (Some p) ≡ Some e.0 = sym k.1 ∙ subst Q same f.part in
        let there = at_there picked.those j.0 p (e.1 ∙ sym both) in
        contains_at ordered there.0 p there.1

    no_others : (p : StepOf) → Contains ordered p → Contains parts p
    no_others p has =
        let i = at_contains ordered p has in
        let j = there_at picked.those i.0 p i.1 in
        let f = picked.from j.0 (Some p) j.1 in
        let there = at_there a.each f.place p f.part in
        let P : List StepOf → Type 0 = λ xs. Contains xs p in
        subst P (sym a.are) (contains_at (those_there a.each) there.0 p there.1)

    readable : (s : StepOf) → Contains order s → IsReadableCall s.request s.response
    readable s has =
        let m = run.once.of_calls s has in
        laws.readable (grants_declared declared) marks m.0 m.1 s (All-contains (IsRecorded marks) calls m.0 are.recorded m.2) m.3

    pub parts_run : HaveRun (declared_on these declared) parts
    parts_run = record {
      start = cut these start;
      described = described_cut these declared start described;
      order = ordered;
      run = record {
        once = permuted parts ordered parts_once all_there (at_most ordered parts ordered_once no_others);
        placed = parts_are_placed_lem these order ordered parts_of_order run.placed;
        last = cut these run.last;
        linked = run_projects_lem (rules_declared declared) these start run.last order ordered readable parts_of_order run.linked;
      };
    }

-- ---- the law

pub refuted_by_object_lem : LawsOfCheck → RefutedByObject
refuted_by_object_lem laws marks declared ids nothing r refuted x =
    let P : List CallOf → Type 0 = λ cs. IsRun (grants_declared declared) (rules_declared declared) cs x.start x.steps in
    let run = subst P (laws.one_list marks x.calls refuted.0 r x.are refuted.1) x.run in
    refuted.2.none (parts_run laws marks declared (is_among ids) refuted.0 refuted.2.parts r refuted.1 refuted.2.of_calls nothing x.start x.described x.steps run)

-- what some objects refute is told
pub finds_refuted : LawsOfCheck → (marks : List MarkOf) (declared : DeclarationOf) (calls : List CallOf) (budget count : ℕ) (objects : Vec (String Global) Global) → GrantsNothing (grants_declared declared)
    → AreRecorded marks → AreCalls marks calls → count ≤ budget → RefutesCalls declared calls (map string_bytes objects.items) → Finds marks declared budget (Refuted count objects)
finds_refuted laws marks declared calls budget count objects nothing r are few h =
    let refuted : IsRefutedBy marks declared (map string_bytes objects.items) = (calls, are, h) in
    (few, refuted, refuted_by_object_lem laws marks declared (map string_bytes objects.items) nothing r refuted)
