-- A no is right: what is refused has no run.
use Rattle.std.proofs.Common.{◌≡◌, ◌<◌, ℕ, suc, ◌+◌, ℤ, Bool, false, List, length, take, drop, Option, Some, slice_get, sym, subst, arith}
use Rattle.std.proofs.lemmas.List.{take-append-drop}
use Rattle.std.proofs.lemmas.Option.{slice_get_within}
use Rattle.kmipa_record.specs.Declarations.{DeclarationOf}
use Rattle.kmipa_msgs.specs.Messages.{RulesOf}
use Rattle.kmipa_ops.specs.declared.why.Why.{Why}
use Rattle.kmipa_batch.specs.Orders.{order_given}
use Rattle.kmipa_passed.specs.Leaving.{empty}
use Rattle.kmipa_aside.specs.Worlds.{WorldOf}
use Rattle.kmipa_bundle.specs.Bundles.{Bundle, DoesPlace, DoesReadBy, places_taken, sight_on}
use Rattle.kmipa_bundle.specs.Composing.{DoesDeed}
use Rattle.kmipa_bundle.specs.Deeds.{ChainOf}
use Rattle.kmipa_bundle.proofs.ChainLemmas.{chain_split}
use Rattle.kmipa_places.specs.Calls.{ReadOf}
use Rattle.kmipa_places.specs.Places.{PlaceOf}
use Rattle.kmipa_check.specs.Runs.{rules_declared}
use Rattle.kmipa_check.specs.declared.verdict.Refused.{Refused}
use Rattle.kmipa_check.proofs.RunLemmas.{take_next}
use Rattle.kmipa_turns.specs.Steps.{StepOf, TakenOf, takes}
use Rattle.kmipa_trail.specs.Leading.{Leads, deed_in, deed_of}
use Rattle.kmipa_trail.specs.Opening.{DescribesWorld}
use Rattle.kmipa_trail.specs.Placing.{ArePlaced, IsPlacedAt}
use Rattle.kmipa_trail.specs.Verdicts.{GoesUpTo, IsRefused, RefusedAt, in_place, in_item, RefusedItem, RefusedPlace, late, runs_back}
use Rattle.kmipa_trail.proofs.LeadLemmas.{lead_front, lead_less}

-- the places of a call that is done are done up to each of them
done_up_to : (rules : RulesOf) (c : ReadOf) (order : Option (List ℕ)) (w w' : WorldOf) (count : ℕ) → Bundle rules c order w w' → GoesUpTo rules w c order count
done_up_to rules c order w w' count b =
    let places = places_taken c order in
    let P : List PlaceOf → Type 0 = λ ps. ChainOf (DoesPlace (sight_on rules c) c.stamp) ps w empty b.last b.held in
    let s = chain_split (DoesPlace (sight_on rules c) c.stamp) w empty (take count places) (drop count places) b.last b.held (subst P (sym (take-append-drop count places)) b.chain) in
    record { shaped = λ place judged. b.shaped place; left = s.0; held = s.1; chain = s.2 }

module _ (declared : DeclarationOf) (order : List StepOf) (turn : ℕ) (s : StepOf) (there : slice_get order turn ≡ Some s) (placed : ArePlaced order (length order))
    (start last : WorldOf) (described : DescribesWorld declared start) (linked : Leads (rules_declared declared) start order last) where
  within : turn < length order
  within = slice_get_within order turn s there

  placed_here : IsPlacedAt order turn s
  placed_here =
      let p = placed turn within in
      let at = p.1.there in
      let same : p.0 ≡ s = cc in
      let P : StepOf → Type 0 = λ x. IsPlacedAt order turn x in
      subst P same p.1

  -- its step is done in this run
  at_turn : (v : WorldOf) × Leads (rules_declared declared) start (take turn order) v × ((u : WorldOf) × DoesDeed (rules_declared declared) (deed_of s) v empty u empty)
  at_turn =
      let P : List StepOf → Type 0 = λ o. Leads (rules_declared declared) start o last in
      let f = lead_front (rules_declared declared) start (take (suc turn) order) (drop (suc turn) order) last (subst P (sym (take-append-drop (suc turn) order)) linked) in
      let Q : List StepOf → Type 0 = λ o. Leads (rules_declared declared) start o f.0 in
      let l = lead_less (rules_declared declared) start (take turn order) s f.0 (subst Q (take_next order turn s there) f.1) in
      (l.0, l.1, (f.0, l.2))

  never_at : (why : Why) → RefusedPlace order turn s why → ⊥
  never_at why (late is same) = placed_here.kept is
  never_at why (runs_back kept is same) = placed_here.stamped is

  read_bundle : (taken : TakenOf) (c : ReadOf) (places : Option (List ℕ)) (v u : WorldOf) → taken ≡ takes c places → c.refused ≡ false → DoesDeed (rules_declared declared) (deed_in taken) v empty u empty
      → Bundle (rules_declared declared) c (order_given places) v u
  read_bundle taken c places v u is unrefused d =
      let P : TakenOf → Type 0 = λ t. DoesDeed (rules_declared declared) (deed_in t) v empty u empty in
      let e = subst P is d in
      let Q : Bool → Type 0 = λ b. DoesReadBy b (rules_declared declared) c (order_given places) v u in
      subst Q unrefused e.world

  never_in : (item : ℕ) (why : Why) → RefusedItem declared order turn s item why → ⊥
  never_in item why r =
      let f = at_turn in
      r.never
      (record {
        placed = λ t below. placed t (omega (arith, below, within));
        here = placed_here;
        start = start;
        described = described;
        before = f.0;
        linked = f.1;
        items = done_up_to (rules_declared declared) r.call (order_given r.places) f.0 f.2.0 (r.count + 1) (read_bundle s.taken r.call r.places f.0 f.2.0 r.taken r.unrefused f.2.1);
      })

  pub never_refused : (item : ℕ) (why : Why) → RefusedAt declared order turn s item why → ⊥
  never_refused item why (in_place is h) = never_at why h
  never_refused item why (in_item h) = never_in item why h

pub refused_is_never_lem : (declared : DeclarationOf) (order : List StepOf) (r : Refused) (stamp : Option ℤ) (start last : WorldOf) → IsRefused declared order r stamp
    → ArePlaced order (length order) → DescribesWorld declared start → Leads (rules_declared declared) start order last → ⊥
refused_is_never_lem declared order r stamp start last i placed described linked =
    never_refused declared order i.turn i.step i.there placed start last described linked r.item r.why i.refused
