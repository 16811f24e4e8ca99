use Rattle.std.proofs.Common.{rules, ◌≡◌, Option, Some, None, sym, subst, ◌∷◌, ◌++◌, []}
use Rattle.kmipa_record.specs.NumberMaps.{value_at, Gains}
use Rattle.kmipa_links.specs.Numbers.{IsClash, first_of}
use Rattle.kmipa_links.specs.declared.numbers.Clash.{Clash}
use Rattle.kmipa_links.proofs.NumberLemmas.{clash_again, clash_stays, taken_again, taken_first}
use Rattle.kmipa_links.proofs.numbers.take_number.Goals as goal

pub returns-in-Some : goal.returns-in-Some
returns-in-Some c = λ numbers own long know free new.
    let has : value_at c.args.calls.now c.args.call ≡ Some c.in-Some.other = search rules in
    let first : c.first_of.result ≡ first_of c.args.clash (record { call = c.args.call; place = c.in-Some.other }) = search rules in
    let P : Option Clash → Type 0 = λ o. IsClash numbers (own ++ (c.args.call ∷ [])) o in (
      taken_again numbers own c.args.call c.args.calls.now c.in-Some.other has know,
      subst P (sym first) (clash_again numbers own c.args.call c.args.calls.now c.in-Some.other has know new c.args.clash free),
    )

pub returns-in_ok-add-in-None : goal.returns-in_ok-add-in-None
returns-in_ok-add-in-None c = λ numbers own long know free new.
    let none : value_at c.args.calls.now c.args.call ≡ None = search rules in
    let gains : Gains c.args.calls.now c.add.new.self c.args.call c.args.place = search rules in (
      taken_first numbers own c.args.call c.args.calls.now c.add.new.self c.args.place long gains none know,
      clash_stays numbers own c.args.call c.args.calls.now none know c.args.clash free,
    )
