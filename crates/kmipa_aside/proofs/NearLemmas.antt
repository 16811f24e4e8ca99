-- Calls of a ledger one after the other, seen in each world.
use Rattle.std.proofs.Common.{◌≡◌, ◌∙◌, refl, ap, sym, subst, List}
use Rattle.kmipa_object.specs.Inventory.{Card}
use Rattle.kmipa_store.specs.Aside.{AsideOf}
use Rattle.kmipa_store.specs.Ledger.{Meaning, LedgerState, with_aside}
use Rattle.kmipa_store.specs.Choices.{Choice}
use Rattle.kmipa_store.proofs.InventoryLemmas.{cards-inv}
use Rattle.kmipa_store.proofs.SoundLemmas.{sound_aside}
use Rattle.kmipa_aside.specs.Becoming.{Nears, Becomes, stand_in}
use Rattle.kmipa_aside.specs.Explains.{world}
use Rattle.kmipa_aside.specs.Standing.{StandOf}
use Rattle.kmipa_aside.specs.Worlds.{WorldOf, stand}

-- what is seen of a ledger is seen of each world
pub stand_world : (c : Choice) (m : Meaning) → stand (world c m) ≡ stand_in m
stand_world c m = ap (λ (cs : List Card). let s : StandOf = record { cards = cs; aside = m.aside } in s) (cards-inv c m.objects)

-- nothing done yet
pub nears_start : (rest whole : WorldOf → WorldOf) (s : LedgerState) → ((c : Choice) → rest (world c s.now) ≡ whole (world c s.now)) → Nears rest whole s s
nears_start rest whole s same = record { worlds = same; secrets = refl; marks = refl; sound = λ x. x; apart = λ x. x }

-- a step of the rest is done
pub nears_step : (rest less whole step : WorldOf → WorldOf) (s u v : LedgerState) → ((c : Choice) → rest (world c u.now) ≡ less (step (world c u.now))) → Nears rest whole s u → Becomes step u v
    → Nears less whole s v
nears_step rest less whole step s u v same n b = record {
  worlds = λ c. ap less (b.worlds c) ∙ sym (same c) ∙ n.worlds c;
  secrets = b.secrets ∙ n.secrets;
  marks = b.marks ∙ n.marks;
  sound = λ x. b.sound (n.sound x);
  apart = λ x. b.apart (n.apart x);
}

-- the same change in other words
pub nears_as : (rest less whole : WorldOf → WorldOf) (s u : LedgerState) → ((c : Choice) → less (world c u.now) ≡ rest (world c u.now)) → Nears rest whole s u → Nears less whole s u
nears_as rest less whole s u same n =
    record { worlds = λ c. same c ∙ n.worlds c; secrets = n.secrets; marks = n.marks; sound = n.sound; apart = n.apart }

pub whole_as : (rest whole other : WorldOf → WorldOf) (s u : LedgerState) → ((c : Choice) → whole (world c s.now) ≡ other (world c s.now)) → Nears rest whole s u → Nears rest other s u
whole_as rest whole other s u same n =
    record { worlds = λ c. n.worlds c ∙ same c; secrets = n.secrets; marks = n.marks; sound = n.sound; apart = n.apart }

-- something else is set aside
pub aside_is : (s u : LedgerState) (change : AsideOf → AsideOf) → u ≡ with_aside s (change s.now.aside) → Becomes (λ w. record w { aside = change w.aside }) s u
aside_is s u change is =
    let P : LedgerState → Type 0 = λ x. Becomes (λ w. record w { aside = change w.aside }) s x in
    subst P (sym is) (record { worlds = λ c. refl; secrets = refl; marks = refl; sound = λ x. sound_aside s.now (change s.now.aside) x; apart = λ x. x })
