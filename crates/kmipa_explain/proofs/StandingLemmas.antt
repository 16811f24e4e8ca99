-- What a replay up to a refused item tells of what was held there.
use Rattle.std.proofs.Common.{◌≡◌, ◌≤◌, ℕ, ◌+◌, true, List, take, length, slice_get, Option, Some, None, refl, sym, ap, ◌∙◌, subst, arith, inr}
use Rattle.std.proofs.lemmas.Option.{slice_get_within}
use Rattle.kmipa_object.specs.Inventory.{Thing}
use Rattle.kmipa_store.specs.Ledger.{Meaning, LedgerState}
use Rattle.kmipa_store.specs.Choices.{Choice, Chooses, inv}
use Rattle.kmipa_msgs.specs.Messages.{RulesOf, AskOf, AnswerOf, RequestOf, ResponseOf}
use Rattle.kmipa_record.specs.Declarations.{DeclarationOf}
use Rattle.kmipa_ops.specs.Alike.{StandAlike}
use Rattle.kmipa_ops.specs.Blame.{speaks}
use Rattle.kmipa_ops.specs.Chains.{ChainSome}
use Rattle.kmipa_ops.specs.Explains.{Explains}
use Rattle.kmipa_ops.specs.Whys.{whys}
use Rattle.kmipa_ops.specs.declared.why.Why.{Why}
use Rattle.kmipa_ops.proofs.AlikeLemmas.{alike_speak_alike, alike_go_alike}
use Rattle.kmipa_batch.specs.Calls.{MayTake, pairs_of, pairs_taken, RefusesMessage}
use Rattle.kmipa_batch.specs.Orders.{along, place_at}
use Rattle.kmipa_batch.specs.Refusals.{in_shape, in_item, SpeaksAtAlong}
use Rattle.kmipa_batch.proofs.OrderLemmas.{along_by_place, along_take, from_below, from_is, from_within, take_from}
use Rattle.kmipa_batch.proofs.PlaceLemmas.{zip_above, zip_below}
use Rattle.kmipa_batch.proofs.RunLemmas.{Along}
use Rattle.kmipa_object.proofs.ListLemmas.{below_get}
use Rattle.kmipa_check.specs.Described.{Describes}
use Rattle.kmipa_check.specs.Left.{declaration_left}
use Rattle.kmipa_check.specs.Runs.{rules_declared}
use Rattle.kmipa_check.specs.Steps.{StepOf, order_of}
use Rattle.kmipa_check.specs.Verdicts.{AreKnown, ArePossible, IsRefused, RefusedAt, in_place, late, runs_back}
use Rattle.kmipa_check.specs.Verdicts
use Rattle.kmipa_check.proofs.LeftLemmas.{describes_left, left_declared, left_describes}
use Rattle.kmipa_explain.specs.Explainable.{IsOfItems, IsRefusedThere}
use Rattle.kmipa_explain.specs.Items.{places_taken}
use Rattle.kmipa_explain.specs.Replaying.{IsItemRefused, IsLedAhead, IsStanding}
use Rattle.kmipa_explain.specs.Standing.{IsHeldAt, StandsAt}
use Rattle.kmipa_explain.proofs.QuietLemmas.{found_passes}
use Rattle.kmipa_explain.proofs.PairLemmas.{at_next}

-- ---- the position of an item

one_position : (request : RequestOf) (response : ResponseOf) (order : Option (List ℕ)) (a b place : ℕ) → MayTake request response order → place_at order a ≡ Some place → place_at order b ≡ Some place → a ≡ b
one_position request response None a b place may p q = cc
one_position request response (Some order) a b place may p q = may.2.once a b place p q

-- what stands at a position of the places that are taken, and the pairs ahead of it
module _ (request : RequestOf) (response : ResponseOf) (position place : ℕ) where
  abbrev IsFront : Option (List ℕ) → ℕ → Type 0
  IsFront order count = (place_at order position ≡ Some place)
      × (along (pairs_of request response) (take position (places_taken order count)) ≡ take position (pairs_taken request response order))

  pub front : (order : Option (List ℕ)) (count : ℕ) → MayTake request response order → slice_get (places_taken order count) position ≡ Some place → IsFront order count
  front None count may there =
      let below = from_below 0 position count place there in
      let is : place ≡ position = from_is position count place there in
      (ap Some (sym is), ap (along (pairs_of request response)) (take_from 0 position count (omega (arith, below))) ∙ along_by_place (pairs_of request response) position)
  front (Some order) count may there = (there, sym (along_take (pairs_of request response) order position stands))
    where
      stands : (p q : ℕ) → slice_get order p ≡ Some q → (x : AskOf × AnswerOf) × (slice_get (pairs_of request response) q ≡ Some x)
      stands p q at = let h = may.2.answered p q at in below_get (pairs_of request response) q (zip_above request.items response.items q h.0 h.1)

-- a place that is next at a position stands among the places that are taken
pub taken_there : (order : Option (List ℕ)) (count position place : ℕ) → place ≤ count → place_at order position ≡ Some place → (place ≡ count → ⊥) → slice_get (places_taken order count) position ≡ Some place
taken_there None count position place within at less =
    let is : position ≡ place = cc in
    let first : 0 + position ≡ place = omega (arith, is) in
    from_within 0 position count (omega (arith, within, is, less)) ∙ ap Some first
taken_there (Some order) count position place within at less = at

-- the items ahead of a position were taken, and the item at a place is next
pub led_ahead : (rules : RulesOf) (c : StepOf) (place : ℕ) (s u : LedgerState) (p : Option (List ℕ)) (position count : ℕ) → MayTake c.request c.response (order_of c)
    → slice_get (places_taken (order_of c) (length c.request.items)) count ≡ Some place → position ≤ count → count ≤ position
    → Along rules c.response.stamp s (pairs_of c.request c.response) (places_taken (order_of c) (length c.request.items)) position u p → IsLedAhead rules c place s.now u.now p
led_ahead rules c place s u p position count may there upto from a =
    let same : position ≡ count = omega (arith, upto, from) in
    let f = front c.request c.response count place (order_of c) (length c.request.items) may there in
    let P : ℕ → Type 0 = λ n. Explains rules c.response.stamp s.now None (along (pairs_of c.request c.response) (take n (places_taken (order_of c) (length c.request.items)))) u.now p in
    let Q : List (AskOf × AnswerOf) → Type 0 = λ xs. Explains rules c.response.stamp s.now None xs u.now p in
    record { count = count; next = f.0; explains = subst Q f.1 (subst P same a.explains); sound = a.sound }

-- ---- ledgers that know what the same steps leave stand for the same inventories

one_way : (declared : DeclarationOf) (steps : List StepOf) (m n : Meaning) → AreKnown declared steps m → AreKnown declared steps n → (V : List Thing)
    → (c : Choice) × Chooses m.secrets c × (V ≡ inv c m.objects) → (c : Choice) × Chooses n.secrets c × (V ≡ inv c n.objects)
one_way declared steps m n k l V x =
    let f = k.sound x.0 x.1 in
    let g = l.complete f.0 (inv x.0 m.objects) f.1 f.2 in
    (g.0, g.1, x.2 ∙ g.2)

stand_alike : (declared : DeclarationOf) (steps : List StepOf) (m n : Meaning) → AreKnown declared steps m → AreKnown declared steps n → StandAlike m n
stand_alike declared steps m n k l V = (one_way declared steps m n k l V, one_way declared steps n m l k V)

-- ---- what was held

module _ (declared : DeclarationOf) (order : List StepOf) (turn : ℕ) (c : StepOf) (place : ℕ) (there : slice_get order turn ≡ Some c) (may : MayTake c.request c.response (order_of c))
    (m n : Meaning) (p : Option (List ℕ)) (k : AreKnown declared (take turn order) m) (l : IsLedAhead (rules_declared declared) c place m n p) where
  abbrev rules : RulesOf
  rules = rules_declared declared

  abbrev pairs : ℕ → List (AskOf × AnswerOf)
  pairs count = take count (pairs_taken c.request c.response (order_of c))

  same_place : (a b : ℕ) → a + 1 ≡ b + 1 → a ≡ b
  same_place a b e = omega (arith, e)

  stands_held : (V : List Thing) (q : Option (List ℕ)) → StandsAt declared order turn (place + 1) V q → Describes (declaration_left declared n) V × (q ≡ p)
  stands_held V q s =
      let its : s.call ≡ c = (let a = s.there in let b = there in cc) in
      let at : s.place ≡ place = same_place s.place place (sym s.reported) in
      let N : StepOf → Type 0 = λ x. place_at (order_of x) s.count ≡ Some s.place in
      let one : s.count ≡ l.count = one_position c.request c.response (order_of c) s.count l.count place may (subst N its s.next ∙ ap Some at) l.next in
      let a = k.complete s.start s.before s.described s.linked in
      let C : StepOf → Type 0 = λ x. ChainSome rules x.response.stamp s.before None (take s.count (pairs_taken x.request x.response (order_of x))) V q in
      let D : List Thing → Type 0 = λ B. ChainSome rules c.response.stamp B None (pairs s.count) V q in
      let E : ℕ → Type 0 = λ x. ChainSome rules c.response.stamp (inv a.0 m.objects) None (pairs x) V q in
      let b = l.explains.complete a.0 a.1 V q (subst E one (subst D a.2 (subst C its s.chain))) in
      let W : List Thing → Type 0 = λ X. Describes (declaration_left declared n) X in
      (subst W (sym b.3) (describes_left declared n l.sound b.0 b.1), b.4)

  held_stands : (V : List Thing) (q : Option (List ℕ)) → Describes (declaration_left declared n) V × (q ≡ p) → StandsAt declared order turn (place + 1) V q
  held_stands V q h =
      let x = left_describes declared n l.sound (l.explains.ascends k.ascends) V h.0 in
      let e = l.explains.sound x.0 x.1 in
      let f = k.sound x.0 e.0 in
      let C : List Thing → Type 0 = λ X. ChainSome rules c.response.stamp (inv x.0 m.objects) None (pairs l.count) X p in
      let D : Option (List ℕ) → Type 0 = λ o. ChainSome rules c.response.stamp (inv x.0 m.objects) None (pairs l.count) V o in
      record {
        call = c;
        there = there;
        count = l.count;
        place = place;
        next = l.next;
        reported = refl;
        start = f.0;
        described = f.1;
        before = inv x.0 m.objects;
        linked = f.2;
        chain = subst D (sym h.1) (subst C (sym x.2) e.1);
      }

  held_at : IsHeldAt declared order turn (place + 1) (declaration_left declared n) p
  held_at = record { objects = left_declared declared n l.sound; exactly = λ V q. (stands_held V q, held_stands V q) }

  -- the reason that speaks over the ledger of the verdict speaks over this one
  module _ (why : Why) (r : IsItemRefused declared order turn c place why) where
    it_speaks : speaks rules n p c.response.stamp r.ask r.answer why ≡ true
    it_speaks =
        let one : r.led.count ≡ l.count = one_position c.request c.response (order_of c) r.led.count l.count place may r.led.next l.next in
        let P : ℕ → Type 0 = λ x. Explains rules c.response.stamp r.known None (pairs x) r.between r.placeholder in
        let go = alike_go_alike rules c.response.stamp r.known m None (pairs l.count) r.between n r.placeholder p (stand_alike declared (take turn order) r.known m r.knows k) r.led.sound
        (subst P one r.led.explains) l.explains in
        let alike = alike_speak_alike rules r.between n r.placeholder c.response.stamp r.ask r.answer r.led.sound l.sound go.0 in
        let loud : speaks rules r.between r.placeholder c.response.stamp r.ask r.answer why ≡ true =
        found_passes (λ (w : Why). speaks rules r.between r.placeholder c.response.stamp r.ask r.answer w) whys why r.refuted.named in
        ap (λ (o : Option (List ℕ)). speaks rules n o c.response.stamp r.ask r.answer why) (sym go.1) ∙ sym (alike.0 why) ∙ loud

    pub standing : (held : DeclarationOf) → held ≡ declaration_left declared n → IsStanding declared order turn c (place + 1) why held p
    standing held is =
        let P : DeclarationOf → Type 0 = λ d. IsHeldAt declared order turn (place + 1) d p in
        record {
          held_at = subst P (sym is) held_at;
          ledger = n;
          is = is;
          over = record { sound = l.sound; ask = r.ask; answer = r.answer; there = at_next (pairs_of c.request c.response) place ∙ r.pair; speaks = it_speaks };
        }

-- ---- the refused item, of a verdict

module _ (declared : DeclarationOf) (order : List StepOf) (turn : ℕ) (c : StepOf) (item : ℕ) (why : Why) (there : slice_get order turn ≡ Some c) (possible : ArePossible declared order turn)
    (o : IsOfItems why) where
  spoken : (count : ℕ) (known : Meaning) → AreKnown declared (take turn order) known → (RefusesMessage c.response → ⊥)
      → SpeaksAtAlong (rules_declared declared) known c.request c.response (order_of c) count item why → IsRefusedThere declared order turn c item why
  spoken count known knows unrefused (in_shape place at judged first is) = absurd (o.shaped is)
  spoken count known knows unrefused (in_item place at shaped its between placeholder ask answer so sound pair refuted) = (
    place,
    at,
    record {
      there = there;
      possible = possible;
      unrefused = unrefused;
      known = known;
      knows = knows;
      between = between;
      placeholder = placeholder;
      led = record { count = count; next = its; explains = so; sound = sound };
      ask = ask;
      answer = answer;
      pair = pair;
      refuted = refuted;
    },
  )

  pub refused_there : RefusedAt declared order turn c item why → IsRefusedThere declared order turn c item why
  refused_there (in_place e (late l is)) = absurd (o.in_time is)
  refused_there (in_place e (runs_back kept back is)) = absurd (o.stamped is)
  refused_there (Verdicts.in_item count h) =
      let unrefused : RefusesMessage c.response → ⊥ = λ x. h.never (record {
        placed = h.before.placed;
        here = h.before.here;
        start = h.before.start;
        described = h.before.described;
        before = h.before.before;
        linked = h.before.linked;
        items = inr x;
      }) in
      spoken count h.known h.knows unrefused h.speaks

-- the place has an item, and stands at a position
pub stands_taken : (declared : DeclarationOf) (order : List StepOf) (turn : ℕ) (c : StepOf) (place : ℕ) (why : Why) → (r : IsItemRefused declared order turn c place why)
    → slice_get (places_taken (order_of c) (length c.request.items)) r.led.count ≡ Some place
stands_taken declared order turn c place why r =
    let within = (zip_below c.request.items c.response.items place (slice_get_within (pairs_of c.request c.response) place (r.ask, r.answer) r.pair)).0 in
    taken_there (order_of c) (length c.request.items) r.led.count place (omega (arith, within)) r.led.next (λ same. omega (arith, within, same))
