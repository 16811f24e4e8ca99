use Rattle.std.proofs.Common.{rules, ◌≡◌, ◌∙◌, ◌==◌, true, ap, refl, subst, sym, ℕ, ℤ, Option, Err}
use mir.Syntax.{w64}
use mir.Val.{SFits}
use Rattle.std.proofs.lemmas.Int.{to_z-of_z}
use Rattle.kmipa_msgs.specs.Messages.{AnswerOf, AskOf, answer_of, ask_of, rules_of}
use Rattle.kmipa_ops.specs.Explains.{is_readable}
use Rattle.kmipa_ops.specs.Objects.{is_other}
use Rattle.kmipa_ops.specs.Placeholders.{placeholder_of}
use Rattle.kmipa_passed.specs.Leaving.{held_of}
use Rattle.kmipa_aside.specs.Becoming.{stand_in}
use Rattle.kmipa_aside.specs.Explains.{Took}
use Rattle.kmipa_aside.specs.Listing.{DoesListing, IsBeside}
use Rattle.kmipa_aside.specs.Lists.{ask_beside}
use Rattle.kmipa_aside.specs.Taking.{TakenListing, Tells}
use Rattle.kmipa_aside.specs.declared.beside.Beside.{Beside}
use Rattle.kmipa_aside.proofs.ListingLemmas.{listing_other, listing_refused, listing_taken, listing_wrong, readable_beside, touched}
use Rattle.kmipa_aside.proofs.lists.take_listing.Goals as goal

pub returns-then-is_other_number : goal.returns-then-is_other_number
returns-then-is_other_number g c =
    let answer = answer_of c.args.item.answer.now in
    listing_other (rules_of c.args.rules.now) c.args.item.moment (ask_of c.args.item.ask.now) answer (g.L.Ledger.state c.args.ledger.now) (held_of c.args.item.before) (sym c.is_listing.ensures ∙ c.if-not-is_listing.false)
    (g.L.Ledger.state c.args.ledger.now) (ap (is_other (λ (x y : ℕ). x == y) answer.operation) (sym c.number.ensures) ∙ sym c.is_other_number.ensures ∙ c.if-is_other_number.true) refl

pub returns-in_default-beside : goal.returns-in_default-beside
returns-in_default-beside g c =
    let s = g.L.Ledger.state c.args.ledger.now in
    let rules = rules_of c.args.rules.now in
    let ask = ask_of c.args.item.ask.now in
    let answer = answer_of c.args.item.answer.now in
    let before = held_of c.args.item.before in
    let listing = sym c.is_listing.ensures ∙ c.if-not-is_listing.false in
    let none = subst (λ (o : Option Beside). IsBeside (stand_in s.now) ask answer o) c.in_default-beside.is c.in-Ok.ensures in
    listing_wrong rules c.args.item.moment ask answer s before listing s
    (ap (is_other (λ (x y : ℕ). x == y) answer.operation) (sym c.number.ensures) ∙ sym c.is_other_number.ensures ∙ c.if-is_other_number.false)
    (none (touched rules c.args.item.moment ask answer s before listing)) refl

pub take-requires-clause-readable : goal.take-requires-clause-readable
take-requires-clause-readable g c =
    let s = g.L.Ledger.state c.args.ledger.now in
    let rules = rules_of c.args.rules.now in
    let ask = ask_of c.args.item.ask.now in
    let answer = answer_of c.args.item.answer.now in
    let before = held_of c.args.item.before in
    let listing = sym c.is_listing.ensures ∙ c.if-not-is_listing.false in
    let some = subst (λ (o : Option Beside). IsBeside (stand_in s.now) ask answer o) c.in-Some.is c.in-Ok.ensures in
    subst (λ (a : AskOf). is_readable a (answer_of c.in-Some.beside.answer) ≡ true) (sym some.1)
    (subst (λ (a : AnswerOf). is_readable (ask_beside (stand_in s.now) ask answer) a ≡ true) (sym some.2) (readable_beside (stand_in s.now) ask answer (touched rules c.args.item.moment ask answer s before listing)))

pub returns-in-Ok-take : goal.returns-in-Ok-take
returns-in-Ok-take g c =
    let fits : SFits w64 c.args.item.moment = search rules in
    let s = g.L.Ledger.state c.args.ledger.now in
    let u = g.L.Ledger.state c.take.new.ledger in
    let rules = rules_of c.args.rules.now in
    let ask = ask_of c.args.item.ask.now in
    let answer = answer_of c.args.item.answer.now in
    let before = held_of c.args.item.before in
    let behind = held_of c.held_behind.result in
    let listing = sym c.is_listing.ensures ∙ c.if-not-is_listing.false in
    let some = subst (λ (o : Option Beside). IsBeside (stand_in s.now) ask answer o) c.in-Some.is c.in-Ok.ensures in
    subst (λ (z : ℤ). Took (DoesListing rules z ask answer) (Tells ask answer) s before u behind) (to_z-of_z w64 c.args.item.moment fits)
    (listing_taken rules _ ask answer s before listing u behind (placeholder_of c.take.new.placeholder) (placeholder_of c.in-Ok-judged_by.placeholder) (ask_of c.in-Some.beside.ask)
    (answer_of c.in-Some.beside.answer) c.requires.sound some.0 some.1 some.2 c.in-Ok-judged_by.ensures c.in-Ok-take.ensures c.held_behind.ensures)

pub returns : goal.returns
returns g c =
    let fits : SFits w64 c.args.item.moment = search rules in
    let s = g.L.Ledger.state c.args.ledger.now in
    let u = g.L.Ledger.state c.take.new.ledger in
    let rules = rules_of c.args.rules.now in
    let ask = ask_of c.args.item.ask.now in
    let answer = answer_of c.args.item.answer.now in
    let before = held_of c.args.item.before in
    let listing = sym c.is_listing.ensures ∙ c.if-not-is_listing.false in
    let some = subst (λ (o : Option Beside). IsBeside (stand_in s.now) ask answer o) c.in-Some.is c.in-Ok.ensures in
    subst (λ (z : ℤ). TakenListing rules s before z ask answer (Err c.in-Err.refusal) u) (to_z-of_z w64 c.args.item.moment fits)
    (listing_refused rules _ ask answer s before listing c.in-Err.refusal u (placeholder_of c.take.new.placeholder) (placeholder_of c.in-Ok-judged_by.placeholder) (ask_of c.in-Some.beside.ask)
    (answer_of c.in-Some.beside.answer) some.0 some.1 some.2 c.in-Ok-judged_by.ensures c.in-Err.ensures)
