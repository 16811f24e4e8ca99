-- What calls do to an inventory, one after the other, their parts on some objects do to the inventory cut to those objects.
use Rattle.std.proofs.Common.{◌≡◌, ◌⊎◌, inl, inr, ℕ, zero, suc, ℤ, List, [], ◌∷◌, length, slice_get, Option, Some, None, option_map, refl, sym, ap, ◌∙◌, subst}
use Rattle.std.specs.List.{zip, filter_map, AllZip}
use Rattle.kmipa_object.specs.Inventory.{Thing}
use Rattle.kmipa_msgs.specs.declared.request.BatchOption.{BatchOption}
use Rattle.kmipa_msgs.specs.declared.response.Status.{Status}
use Rattle.kmipa_msgs.specs.declared.response.Status.TheVariants.{Failed}
use Rattle.kmipa_msgs.specs.Messages.{RulesOf, AskOf, AnswerOf}
use Rattle.kmipa_ops.specs.Chains.{ChainSome}
use Rattle.kmipa_batch.specs.Calls.{Leaves, RefusesMessage, CallSome, CallSomeAlong}
use Rattle.kmipa_batch.specs.Calls.Leaves.{goes_back, goes_on}
use Rattle.kmipa_batch.specs.Readable.{AreReadable, IsReadableCall}
use Rattle.kmipa_batch.specs.Orders.{order_given}
use Rattle.kmipa_batch.specs.Shapes.{HasShape}
use Rattle.kmipa_batch.proofs.CompletionLemmas.{call_of_batch, call_of_refused, refused_leaves, batch_of_call}
use Rattle.kmipa_batch.proofs.ShapeLemmas.{Alike, none_alike, first_alike, shape_alike}
use Rattle.kmipa_check.specs.Steps.{StepOf, order_of}
use Rattle.kmipa_check.specs.Runs.{Linked}
use Rattle.kmipa_check.proofs.PlaceLemmas.{contains_at, at_contains}
use Rattle.kmipa_parts.specs.Parts.{OwnOf, cut, held_after, IsPart, stays, lists, idle, ArePartItems, AllLeaveBe, IsPartOf, IsElsewhere, left_be, untouched, IsPartOrNone}
use Rattle.kmipa_parts.specs.Laws.{AreReadableCalls, RunProjects}
use Rattle.kmipa_parts.proofs.ItemLemmas.{part_does, leaves_be, held_some}
use Rattle.kmipa_parts.proofs.UntouchedLemmas.{refuses_or_not, call_untouched}

-- ---- items, one after the other

module _ (rules : RulesOf) (t : ℤ) (own : OwnOf) where
  chain_part : (V : List Thing) (before now : Option (List ℕ)) (asks : List AskOf) (answers : List AnswerOf) (parts : List AskOf) (shown : List AnswerOf) (W : List Thing) (after : Option (List ℕ))
      → AreReadable (zip asks answers) → ArePartItems own before asks answers parts shown → ChainSome rules t V before (zip asks answers) W after
      → (then : Option (List ℕ)) × ChainSome rules t (cut own V) now (zip parts shown) (cut own W) then
  chain_part V before now asks [] parts shown W after r p c = nothing asks c
    where
      nothing : (ks : List AskOf) → ChainSome rules t V before (zip ks []) W after → (then : Option (List ℕ)) × ChainSome rules t (cut own V) now (zip parts shown) (cut own W) then
      nothing [] h = (now, subst (λ (xs : List AnswerOf). ChainSome rules t (cut own V) now (zip parts xs) (cut own W) now) (sym p.1) (none parts (ap (cut own) h.0)))
        where
          none : (ks : List AskOf) → cut own W ≡ cut own V → ChainSome rules t (cut own V) now (zip ks []) (cut own W) now
          none [] e = (e, refl)
          none (k ∷ ks) e = (e, refl)
      nothing (k ∷ ks) h = (now, subst (λ (xs : List AnswerOf). ChainSome rules t (cut own V) now (zip parts xs) (cut own W) now) (sym p.1) (none parts (ap (cut own) h.0)))
        where
          none : (ks : List AskOf) → cut own W ≡ cut own V → ChainSome rules t (cut own V) now (zip ks []) (cut own W) now
          none [] e = (e, refl)
          none (k ∷ ks) e = (e, refl)
  chain_part V before now [] (answer ∷ answers) parts shown W after r p c =
      (now, subst (λ (ks : List AskOf). ChainSome rules t (cut own V) now (zip ks shown) (cut own W) now) (sym p.0) (ap (cut own) c.0, refl))
  chain_part V before now (ask ∷ asks) (answer ∷ answers) [] shown W after r p c = absurd p
  chain_part V before now (ask ∷ asks) (answer ∷ answers) (part ∷ parts) [] W after r p c = absurd p
  chain_part V before now (ask ∷ asks) (answer ∷ answers) (part ∷ parts) (seen ∷ shown) W after r p c =
      let d = part_does rules t V before ask answer c.0 c.1 r.0 c.2 own now part seen p.0 in
      let e = held_some rules t V before ask answer c.0 c.1 r.0 c.2 in
      let rest = chain_part c.0 c.1 d.0 asks answers parts shown W after r.1 (subst (λ (h : Option (List ℕ)). ArePartItems own h asks answers parts shown) (sym e) p.1) c.3 in
      (rest.0, (cut own c.0, d.0, d.1, rest.1))

  chain_elsewhere : (V : List Thing) (before : Option (List ℕ)) (asks : List AskOf) (answers : List AnswerOf) (W : List Thing) (after : Option (List ℕ))
      → AreReadable (zip asks answers) → AllLeaveBe own before asks answers → ChainSome rules t V before (zip asks answers) W after → cut own W ≡ cut own V
  chain_elsewhere V before [] answers W after r p c = ap (cut own) c.0
  chain_elsewhere V before (ask ∷ asks) [] W after r p c = ap (cut own) c.0
  chain_elsewhere V before (ask ∷ asks) (answer ∷ answers) W after r p c =
      let e = held_some rules t V before ask answer c.0 c.1 r.0 c.2 in
      let rest = chain_elsewhere c.0 c.1 asks answers W after r.1 (subst (λ (h : Option (List ℕ)). AllLeaveBe own h asks answers) (sym e) p.1) c.3 in
      rest ∙ leaves_be rules t V before ask answer c.0 c.1 r.0 c.2 own p.0

-- ---- statuses, and whole messages that are refused

part_status : (own : OwnOf) (before : Option (List ℕ)) (ask : AskOf) (answer : AnswerOf) (part : AskOf) (seen : AnswerOf) → IsPart own before ask answer part seen → seen.status ≡ answer.status
part_status own before ask answer part seen (stays id m is_in is same) = ap (λ (a : AnswerOf). a.status) same
part_status own before ask answer part seen (lists q listed asks shows done is same) = ap (λ (a : AnswerOf). a.status) same
part_status own before ask answer part seen (idle be i) = i.same

part_unnamed : (own : OwnOf) (before : Option (List ℕ)) (ask : AskOf) (answer : AnswerOf) (part : AskOf) (seen : AnswerOf) → IsPart own before ask answer part seen → answer.operation ≡ None → seen.operation ≡ None
part_unnamed own before ask answer part seen (stays id m is_in is same) e = ap (λ (a : AnswerOf). a.operation) same ∙ e
part_unnamed own before ask answer part seen (lists q listed asks shows done is same) e = ap (λ (a : AnswerOf). a.operation) same ∙ e
part_unnamed own before ask answer part seen (idle be i) e = i.unnamed

abbrev status_at : List AnswerOf → ℕ → Option Status
status_at answers place = option_map (λ (a : AnswerOf). a.status) (slice_get answers place)

parts_alike : (own : OwnOf) (before : Option (List ℕ)) (asks : List AskOf) (answers : List AnswerOf) (parts : List AskOf) (shown : List AnswerOf) → ArePartItems own before asks answers parts shown
    → (place : ℕ) → status_at answers place ≡ status_at shown place
parts_alike own before asks [] parts shown p place = sym (ap (λ (xs : List AnswerOf). status_at xs place) p.1)
parts_alike own before [] (answer ∷ answers) parts shown p place = sym (ap (λ (xs : List AnswerOf). status_at xs place) p.1)
parts_alike own before (ask ∷ asks) (answer ∷ answers) [] shown p place = absurd p
parts_alike own before (ask ∷ asks) (answer ∷ answers) (part ∷ parts) [] p place = absurd p
parts_alike own before (ask ∷ asks) (answer ∷ answers) (part ∷ parts) (seen ∷ shown) p zero = ap (λ (s : Status). Some s) (sym (part_status own before ask answer part seen p.0))
parts_alike own before (ask ∷ asks) (answer ∷ answers) (part ∷ parts) (seen ∷ shown) p (suc place) =
    parts_alike own (held_after before ask.asked answer.status answer.payload) asks answers parts shown p.1 place

parts_long : (own : OwnOf) (before : Option (List ℕ)) (asks : List AskOf) (answers : List AnswerOf) (parts : List AskOf) (shown : List AnswerOf) → ArePartItems own before asks answers parts shown → length parts ≡ length asks
parts_long own before asks [] parts shown p = p.0
parts_long own before [] (answer ∷ answers) parts shown p = ap length p.0
parts_long own before (ask ∷ asks) (answer ∷ answers) [] shown p = absurd p
parts_long own before (ask ∷ asks) (answer ∷ answers) (part ∷ parts) [] p = absurd p
parts_long own before (ask ∷ asks) (answer ∷ answers) (part ∷ parts) (seen ∷ shown) p =
    ap suc (parts_long own (held_after before ask.asked answer.status answer.payload) asks answers parts shown p.1)

-- one answer alone
parts_refuse : (own : OwnOf) (before : Option (List ℕ)) (asks : List AskOf) (answer : AnswerOf) (parts : List AskOf) (shown : List AnswerOf) → ArePartItems own before asks (answer ∷ []) parts shown
    → answer.status ≡ Failed → answer.operation ≡ None → (seen : AnswerOf) × (shown ≡ seen ∷ []) × (seen.status ≡ Failed) × (seen.operation ≡ None)
parts_refuse own before [] answer parts shown p fails unnamed = (answer, p.1, fails, unnamed)
parts_refuse own before (ask ∷ asks) answer [] shown p fails unnamed = absurd p
parts_refuse own before (ask ∷ asks) answer (part ∷ parts) [] p fails unnamed = absurd p
parts_refuse own before (ask ∷ asks) answer (part ∷ parts) (seen ∷ shown) p fails unnamed =
    (seen, ap (λ (xs : List AnswerOf). seen ∷ xs) p.1.1, part_status own before ask answer part seen p.0 ∙ fails, part_unnamed own before ask answer part seen p.0 unnamed)

-- ---- a call

leaves_alike : (option : BatchOption) (xs ys : List AnswerOf) (V M W : List Thing) → Alike xs ys → Leaves option xs V M W → Leaves option ys V M W
leaves_alike option xs ys V M W h l = elim l [
  | goes_back undo f first e ↦ goes_back undo f (first_alike xs ys f h first) e
  | goes_on none e ↦ goes_on (λ undo. none_alike xs ys h (none undo)) e
]

leaves_part : (own : OwnOf) (option : BatchOption) (answers : List AnswerOf) (V M W : List Thing) → Leaves option answers V M W → Leaves option answers (cut own V) (cut own M) (cut own W)
leaves_part own option answers V M W l = elim l [
  | goes_back undo f first e ↦ goes_back undo f first (ap (cut own) e)
  | goes_on none e ↦ goes_on none (ap (cut own) e)
]

module _ (rules : RulesOf) (own : OwnOf) (V : List Thing) (c : StepOf) (W : List Thing) (readable : IsReadableCall c.request c.response) (by_place : c.places ≡ None) (d : CallSomeAlong rules V c.request c.response (order_of c) W) where
  placed : CallSome rules V c.request c.response W
  placed = let P : Option (List ℕ) → Type 0 = λ o. CallSomeAlong rules V c.request c.response (order_given o) W in subst P by_place d

  call_part : (part : StepOf) → IsPartOf own c part → CallSomeAlong rules (cut own V) part.request part.response (order_of part) (cut own W)
  call_part part p =
      let P : Option (List ℕ) → Type 0 = λ o. CallSomeAlong rules (cut own V) part.request part.response (order_given o) (cut own W) in
      subst P (sym p.placed) (by (refuses_or_not c.response))
    where
      by : RefusesMessage c.response ⊎ (RefusesMessage c.response → ⊥) → CallSome rules (cut own V) part.request part.response (cut own W)
      by (inl r) =
          let Q : List AnswerOf → Type 0 = λ xs. ArePartItems own None c.request.items xs part.request.items part.response.items in
          let one = parts_refuse own None c.request.items r.answer part.request.items part.response.items (subst Q r.alone p.items) r.failed r.unnamed in
          let R : List Thing → Type 0 = λ X. CallSome rules (cut own V) part.request part.response X in
          subst R (sym (ap (cut own) (refused_leaves rules V c.request c.response W r placed)))
          (call_of_refused rules (cut own V) part.request part.response (record { answer = one.0; alone = one.1; failed = one.2; unnamed = one.3 }))
      by (inr unrefused) =
          let b = batch_of_call rules V c.request c.response None W unrefused placed in
          let h = chain_part rules c.response.stamp own V None None c.request.items c.response.items part.request.items part.response.items b.last b.placeholder (readable unrefused) p.items b.chain in
          let alike : Alike c.response.items part.response.items = record { same = parts_alike own None c.request.items c.response.items part.request.items part.response.items p.items } in
          let long = parts_long own None c.request.items c.response.items part.request.items part.response.items p.items in
          call_of_batch rules (cut own V) part.request part.response None (cut own W) tt (record {
            shaped = λ place.
                let S : BatchOption → Type 0 = λ o. HasShape o (length part.request.items) part.response.items place (slice_get part.response.items place) in
                let T : ℕ → Type 0 = λ n. HasShape c.request.option n part.response.items place (slice_get part.response.items place) in
                subst S (sym p.option) (subst T (sym long) (shape_alike c.request.option (length c.request.items) c.response.items part.response.items place alike (b.shaped place)));
            last = cut own b.last;
            placeholder = h.0;
            chain = (let C : ℤ → Type 0 = λ z. ChainSome rules z (cut own V) None (zip part.request.items part.response.items) (cut own b.last) h.0 in subst C (sym p.stamp) h.1);
            leaves =
                (let L : BatchOption → Type 0 = λ o. Leaves o part.response.items (cut own V) (cut own b.last) (cut own W) in
                subst L (sym p.option) (leaves_alike c.request.option c.response.items part.response.items (cut own V) (cut own b.last) (cut own W) alike (leaves_part own c.request.option c.response.items V b.last W b.leaves)));
          })

  call_left_be : AllLeaveBe own None c.request.items c.response.items → cut own W ≡ cut own V
  call_left_be be = by (refuses_or_not c.response)
    where
      by : RefusesMessage c.response ⊎ (RefusesMessage c.response → ⊥) → cut own W ≡ cut own V
      by (inl r) = ap (cut own) (refused_leaves rules V c.request c.response W r placed)
      by (inr unrefused) =
          let b = batch_of_call rules V c.request c.response None W unrefused placed in
          let e = chain_elsewhere rules c.response.stamp own V None c.request.items c.response.items b.last b.placeholder (readable unrefused) be b.chain in
          (elim b.leaves [ goes_back undo f first is ↦ ap (cut own) is | goes_on none is ↦ ap (cut own) is ∙ e ])

call_elsewhere : (rules : RulesOf) (own : OwnOf) (V : List Thing) (c : StepOf) (W : List Thing) → IsReadableCall c.request c.response → CallSomeAlong rules V c.request c.response (order_of c) W → IsElsewhere own c → cut own W ≡ cut own V
call_elsewhere rules own V c W readable d (left_be by_place be) = call_left_be rules own V c W readable by_place d be
call_elsewhere rules own V c W readable d (untouched apart) = call_untouched rules own V c W readable apart d

-- ---- calls, one after the other

first_readable : (c : StepOf) (calls : List StepOf) → AreReadableCalls (c ∷ calls) → IsReadableCall c.request c.response
first_readable c calls r = r c (contains_at (c ∷ calls) 0 c refl)

others_readable : (c : StepOf) (calls : List StepOf) → AreReadableCalls (c ∷ calls) → AreReadableCalls calls
others_readable c calls r x has = let i = at_contains calls x has in r x (contains_at (c ∷ calls) (suc i.0) x i.1)

linked_parts : (rules : RulesOf) (own : OwnOf) (V W : List Thing) (calls : List StepOf) (each : List (Option StepOf)) → AreReadableCalls calls → AllZip (IsPartOrNone own) calls each → Linked rules V calls W
    → Linked rules (cut own V) (filter_map (λ (part : Option StepOf). part) each) (cut own W)
linked_parts rules own V W [] [] r z l = ap (cut own) l
linked_parts rules own V W [] (part ∷ each) r z l = absurd z
linked_parts rules own V W (c ∷ calls) [] r z l = absurd z
linked_parts rules own V W (c ∷ calls) (Some part ∷ each) r z l =
    (cut own l.0, call_part rules own V c l.0 (first_readable c calls r) z.0.by_place l.1 part z.0, linked_parts rules own l.0 W calls each (others_readable c calls r) z.1 l.2)
linked_parts rules own V W (c ∷ calls) (None ∷ each) r z l =
    let P : List Thing → Type 0 = λ X. Linked rules X (filter_map (λ (part : Option StepOf). part) each) (cut own W) in
    subst P (call_elsewhere rules own V c l.0 (first_readable c calls r) l.1 z.0) (linked_parts rules own l.0 W calls each (others_readable c calls r) z.1 l.2)

pub run_projects_lem : RunProjects
run_projects_lem rules own V W calls parts readable p l =
    let P : List StepOf → Type 0 = λ xs. Linked rules (cut own V) xs (cut own W) in
    subst P (sym p.are) (linked_parts rules own V W calls p.each readable p.of_calls l)
