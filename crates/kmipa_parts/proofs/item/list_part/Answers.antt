use Rattle.std.proofs.Common.{◌≡◌, ℕ, List, length, Option, Some, IfSome, map, ap, subst}
use Rattle.kmipa_attrs.specs.Filters.{FilterOf}
use Rattle.kmipa_msgs.specs.Messages.{answer_of, ask_of, lent, locate_of, located, located_of, locates}
use Rattle.kmipa_msgs.specs.declared.request.Locate.{Locate}
use Rattle.kmipa_parts.specs.Parts.{filter_own, is_among, lists, only_own}
use Rattle.kmipa_parts.proofs.item.list_part.Goals as goal
use denote.Bor.{Bor}

pub returns : goal.returns
returns c = λ before asks shows done.
    let q = locate_of c.args.locate.now in
    let listed = located_of c.args.listing.now in
    let ids = map lent c.args.ids.now in
    let O : List (Bor (List ℕ)) → Type 0 = λ xs. map lent c.in_ok-own.own.items ≡ only_own (is_among ids) (map lent xs) in
    let own : map lent c.in_ok-own.own.items ≡ only_own (is_among ids) listed = subst O c.deref.ensures.value c.in_ok-own.ensures in
    let F : List (List ℕ) → List (List ℕ) → Type 0 = λ xs ys. locate_of c.in-Some.part ≡ filter_own q (length xs) (length ys) in
    let S : Option Locate → Type 0 = λ o. IfSome o (λ (l : Locate). locate_of l ≡ filter_own q (length (map lent c.deref-2.result.now)) (length (map lent c.deref-3.result.now))) in
    let made : F (map lent c.deref-2.result.now) (map lent c.deref-3.result.now) = subst S c.in-Some.is c.in_ok-part.ensures in
    let seen : F listed (map lent c.deref-3.result.now) = subst (λ (xs : List (Bor (List ℕ))). F (map lent xs) (map lent c.deref-3.result.now)) c.deref-2.ensures.value made in
    let part : F listed (only_own (is_among ids) listed) = subst (λ (ys : List (List ℕ)). F listed ys) own (subst (λ (ys : List (Bor (List ℕ))). F listed (map lent ys)) c.deref-3.ensures.value seen) in
    lists q listed asks shows done
    (ap (λ (f : FilterOf). record (ask_of c.args.ask.now) { asked = locates f }) part)
    (ap (λ (xs : List (List ℕ)). record (answer_of c.args.answer.now) { payload = Some (located xs) }) own)
