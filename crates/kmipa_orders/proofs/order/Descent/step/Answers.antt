use Rattle.std.proofs.Common.{◌≡◌, ◌<◌, ◌+◌, ◌∙◌, ℕ, List, [], ◌∷◌, map, length, reverse, Option, Ok, refl, sym, ap, subst, arith}
use Rattle.std.proofs.lemmas.List.{length-append, length-map, length-reverse}
use Rattle.std.proofs.lemmas.Option.{get_or_from_slice_get}
use Rattle.kmipa_check.specs.Steps.{StepOf}
use Rattle.kmipa_msgs.specs.Messages.{rules_of}
use Rattle.kmipa_orders.specs.Candidates.{candidate_step}
use Rattle.kmipa_orders.specs.Descents.{Progress}
use Rattle.kmipa_orders.specs.Ends.{Remembers}
use Rattle.kmipa_orders.specs.Idle.{IsIdleStep}
use Rattle.kmipa_orders.specs.Progress.{AreBegun, CallTried, places}
use Rattle.kmipa_orders.specs.Taken.{no_step}
use Rattle.kmipa_orders.specs.Ranks.{WereLinked}
use Rattle.kmipa_orders.specs.Tries.{IsPick, none_tried}
use Rattle.kmipa_orders.specs.declared.tried.Visit.{Visit}
use Rattle.kmipa_check.proofs.PlaceLemmas.{mapped_at, contains_at}
use Rattle.kmipa_orders.proofs.PickLemmas.{wishes_above}
use Rattle.kmipa_orders.proofs.ProgressLemmas.{progress_taken, progress_refused, popped}
use Rattle.kmipa_orders.proofs.RememberLemmas.{remembers_taken, progress_arrived}
use Rattle.kmipa_orders.proofs.WishLemmas.{wished_without}
use Rattle.kmipa_orders.proofs.order.Descent.step.Goals as goal

pub try_call-requires-clause-readable : goal.try_call-requires-clause-readable
try_call-requires-clause-readable g c =
    c.requires.readable (candidate_step c.index-calls-place.result)
    (contains_at (map candidate_step c.args.calls.now) c.args.pick.place (candidate_step c.index-calls-place.result)
    (mapped_at candidate_step c.args.calls.now c.args.pick.place c.index-calls-place.result c.requires.within c.index-calls-place.is))

pub returns-in_default-clause-descends : goal.returns-in_default-clause-descends
returns-in_default-clause-descends g c = λ first budget d due left.
    let calls = map candidate_step c.args.calls.now in
    let s = c.args.self.now in
    let W = s.wishes in
    let u = g.L.Ledger.state c.args.ledger.now in
    let v = g.L.Ledger.state c.try_call.new.ledger in
    let rules = rules_of c.args.rules.now in
    let place = c.args.pick.place in
    let one = c.index-calls-place.result in
    let there = mapped_at candidate_step c.args.calls.now place one c.requires.within c.index-calls-place.is in
    let Q : Option ℕ → Type 0 = λ o. CallTried rules u (candidate_step one) (Ok o) v in
    record {
      progress =
          progress_refused rules calls W.rank.items (wishes_above (length calls) (length calls) W refl d.ranked) budget first s.remaining (reverse s.path.items) s.tried s.depth s.steps u d.progress
          place c.args.pick.tried due (candidate_step one) there v left (subst Q c.in_default.is c.in_ok-mark.ensures);
      ranked = d.ranked;
      wished = d.wished;
      memory = d.memory;
      paid = (let p = d.paid in omega (arith, p));
    }

pub returns-clause-descends : goal.returns-clause-descends
returns-clause-descends g c = λ first budget d due left.
    let calls = map candidate_step c.args.calls.now in
    let s = c.args.self.now in
    let W = s.wishes in
    let visits = reverse s.path.items in
    let u = g.L.Ledger.state c.args.ledger.now in
    let v = g.L.Ledger.state c.try_call.new.ledger in
    let rules = rules_of c.args.rules.now in
    let place = c.args.pick.place in
    let one = c.index-calls-place.result in
    let visit : Visit = record { place = place; tried = c.args.pick.tried; idle = c.is_idle_place-idle.result } in
    let ranks = wishes_above (length calls) (length calls) W refl d.ranked in
    let f : AreBegun calls → IsPick calls (places visits) W.rank.items s.tried place c.args.pick.tried = due in
    let below : place < length calls = omega (arith, c.requires.within, length-map c.args.calls.now candidate_step) in
    let there = mapped_at candidate_step c.args.calls.now place one c.requires.within c.index-calls-place.is in
    let Q : Option ℕ → Type 0 = λ o. CallTried rules u (candidate_step one) (Ok o) v in
    let taken : Progress rules calls W.rank.items budget first c.take.new.self (visit ∷ visits) none_tried c.in-Some.mark (s.steps + 1) v =
    progress_taken rules calls W.rank.items ranks budget first s.remaining visits s.tried s.depth s.steps u d.progress
    place c.args.pick.tried f (candidate_step one) there v c.take.new.self c.in-Some.mark c.is_idle_place-idle.result
    (λ is. let I : StepOf → Type 0 = λ x. IsIdleStep x in subst I (get_or_from_slice_get calls place (candidate_step one) no_step there) (c.is_idle_place-idle.ensures is))
    left
    (subst Q c.in-Some.is c.in_ok-mark.ensures)
    (λ b. c.take.ensures (places visits) (d.progress.remaining b) (f b).next) in
    let F = c.take-2.new.self in
    let E = s.ends.ends.items in
    let memory : Remembers rules calls first s.front (places (visit ∷ visits)) F E =
    remembers_taken rules calls first s.front (places visits) place s.taken F E d.memory
    (λ b. c.take-2.ensures (length calls) (places visits) (d.memory.flagged b) below) in
    let longer : reverse c.push.new.self.items ≡ visit ∷ visits = popped c.push.new.self.items s.path.items visit c.in_ok-push.ensures.items in
    let long : length (places (visit ∷ visits)) ≡ c.len-count.result =
    length-map (visit ∷ visits) (λ (x : Visit). x.place) ∙ ap length (sym longer) ∙ length-reverse c.push.new.self.items ∙ sym c.push.new.self.ok.0 ∙ sym c.len-count.ensures in
    let P : List Visit → Type 0 = λ xs. Progress rules calls W.rank.items budget first c.take.new.self xs c.in_ok-self.field-0 c.in-Some.mark (s.steps + 1) v in
    let M : List Visit → Type 0 = λ xs. Remembers rules calls first s.front (places xs) F E in
    let J : List Visit → Type 0 = λ xs. WereLinked (length calls) W.rank.items (places xs) c.remove.new.self.after.items c.remove.new.self.before.items in
    record {
      progress =
          subst P (sym longer)
          (progress_arrived rules calls first s.front W.rank.items budget c.take.new.self (visit ∷ visits) c.in_ok-self.field-0 c.in-Some.mark (s.steps + 1) v F E taken memory
          (λ b. c.in_ok-self.ensures (length calls) (places (visit ∷ visits)) (memory.flagged b) long));
      ranked = d.ranked;
      wished = λ b.
          subst J (sym longer)
          (wished_without (length calls) W (places visits) s.by_wish c.remove.new.self place c.rank.result c.rank.ensures d.ranked below (f b).next.left (d.wished b) c.remove.ensures.after
          c.remove.ensures.before);
      memory = subst M (sym longer) memory;
      paid = (let p = d.paid in omega (arith, p, ap length c.in_ok-push.ensures.items, length-append s.path.items (visit ∷ [])));
    }
