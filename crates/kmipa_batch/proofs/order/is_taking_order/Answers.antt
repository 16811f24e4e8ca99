use Rattle.std.proofs.Common.{◌∙◌, ◌≤◌, ◌<◌, ℕ, suc, List, length, map, sym, subst, arith}
use Rattle.std.proofs.lemmas.List.{length-map}
use Rattle.kmipa_msgs.specs.declared.response.Answer.{Answer}
use Rattle.kmipa_msgs.specs.Messages.{answer_of, ask_of, RequestOf, request_of, ResponseOf, response_of}
use Rattle.kmipa_batch.specs.Fits.{FailedAt}
use Rattle.kmipa_batch.proofs.ShapeLemmas.{clash}
use Rattle.kmipa_batch.proofs.StandingLemmas.{are_order, stand_once, ends_at}
use Rattle.kmipa_batch.proofs.order.is_taking_order.Goals as goal

pub returns-then-not-branch : goal.returns-then-not-branch
returns-then-not-branch c =
    let request : RequestOf = request_of c.args.request.now in
    let response : ResponseOf = response_of c.args.response.now in
    let asks = c.args.request.now.items.items in
    let answers = c.args.response.now.items.items in
    let count : ℕ = c.answered_count.result in
    let most : (k : ℕ) → k < length request.items → k < length response.items → suc k ≤ count = λ k a b.
    let h = c.answered_count.ensures.all k (omega (arith, a, length-map asks ask_of)) (omega (arith, b, length-map answers answer_of)) in omega (arith, h) in
    let few : (k : ℕ) → suc k ≤ count → (k < length request.items) × (k < length response.items) = λ k h. (
      (let a = c.answered_count.ensures.asks in omega (arith, h, a, length-map asks ask_of)),
      (let b = c.answered_count.ensures.answers in omega (arith, h, b, length-map answers answer_of)),
    ) in
    (λ h. absurd (clash h), λ a. sym c.if-not-branch.true ∙ c.in_ok-stand_once.ensures.1 (stand_once request response c.args.places.now count few most a))

pub returns : goal.returns
returns c =
    let request : RequestOf = request_of c.args.request.now in
    let response : ResponseOf = response_of c.args.response.now in
    let asks = c.args.request.now.items.items in
    let answers = c.args.response.now.items.items in
    let count : ℕ = c.answered_count.result in
    let few : (k : ℕ) → suc k ≤ count → (k < length request.items) × (k < length response.items) = λ k h. (
      (let a = c.answered_count.ensures.asks in omega (arith, h, a, length-map asks ask_of)),
      (let b = c.answered_count.ensures.answers in omega (arith, h, b, length-map answers answer_of)),
    ) in
    let most : (k : ℕ) → k < length request.items → k < length response.items → suc k ≤ count = λ k a b.
    let h = c.answered_count.ensures.all k (omega (arith, a, length-map asks ask_of)) (omega (arith, b, length-map answers answer_of)) in omega (arith, h) in
    let P : List Answer → Type 0 = λ xs. FailedAt (map answer_of xs) c.first_failed-failed.result in
    let first : FailedAt response.items c.first_failed-failed.result = subst P c.deref.ensures.value c.first_failed-failed.ensures in (
      λ h. are_order request response c.args.places.now count few most (c.in_ok-stand_once.ensures.0 c.if-not-branch.false) c.first_failed-failed.result first (c.ends_at.ensures.0 h),
      λ a. c.ends_at.ensures.1 (ends_at request response c.args.places.now count few most a c.first_failed-failed.result first),
    )
