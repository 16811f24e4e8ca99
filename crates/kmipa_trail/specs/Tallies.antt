-- HOW MANY ITEMS OF A RUN ARE JUDGED, and by what the others aren't (profile).
use Rattle.std.specs.Prelude.{◌≡◌, ℕ, ◌+◌, Bool, true, false, List, [], ◌∷◌, Option}
use Rattle.kmipa_msgs.specs.Messages.{RulesOf}
use Rattle.kmipa_batch.specs.Orders.{order_given}
use Rattle.kmipa_passed.specs.Leaving.{HeldOf, empty}
use Rattle.kmipa_aside.specs.Worlds.{WorldOf, stand}
use Rattle.kmipa_bundle.specs.Bundles.{places_taken, sight_on}
use Rattle.kmipa_bundle.specs.Composing.{DoesDeed}
use Rattle.kmipa_bundle.specs.Counts.{CountsOf, CountsAlong, counts_first, no_counts}
use Rattle.kmipa_places.specs.Calls.{ReadOf}
use Rattle.kmipa_places.specs.Counting.{UnreadCountsOf}
use Rattle.kmipa_turns.specs.Steps.{StepOf, TakenOf, leaves, takes}
use Rattle.kmipa_trail.specs.Leading.{deed_of}

-- how items count, and how many are set aside by the witness alone
pub record TallyOf : Type 0 where
  pub counts : CountsOf
  pub excepted : ℕ

abbrev pub no_tally : TallyOf
no_tally = record { counts = no_counts; excepted = 0 }

-- together
abbrev pub plus : CountsOf → CountsOf → CountsOf
plus a b = record { request = a.request + b.request; answer = a.answer + b.answer; witness = a.witness + b.witness; object = a.object + b.object; judged = a.judged + b.judged }

abbrev pub tally_plus : TallyOf → CountsOf → ℕ → TallyOf
tally_plus k counts excepted = record { counts = plus k.counts counts; excepted = k.excepted + excepted }

-- the items of a call that can't be read
abbrev pub counts_unread : UnreadCountsOf → CountsOf
counts_unread n = record { request = n.request; answer = n.answer; witness = n.witness; object = 0; judged = 0 }

-- by whether the response refuses the whole message: the items of a call that can be read count so, in this world
abbrev pub CountsRead : Bool → RulesOf → WorldOf → ReadOf → Option (List ℕ) → CountsOf → Type 0
CountsRead true rules w c order k = k ≡ counts_first rules (stand w) c.places
CountsRead false rules w c order k = (last : WorldOf) × (held : HeldOf) × CountsAlong (sight_on rules c) c.stamp (places_taken c order) w empty no_counts last held k

abbrev pub CountsTaken : RulesOf → WorldOf → TakenOf → CountsOf → Type 0
CountsTaken rules w (leaves left n) k = k ≡ counts_unread n
CountsTaken rules w (takes c places) k = CountsRead c.refused rules w c (order_given places) k

-- THE DEFINITION: behind those that count so already, the steps are taken one after the other from this world, and each counts where it stands
abbrev pub Tallies : RulesOf → WorldOf → TallyOf → List StepOf → WorldOf → TallyOf → Type 0
Tallies rules w k [] w' k' = (w' ≡ w) × (k' ≡ k)
Tallies rules w k (s ∷ steps) w' k' =
    (v : WorldOf) × (counts : CountsOf) × DoesDeed rules (deed_of s) w empty v empty × CountsTaken rules w s.taken counts
    × Tallies rules v (tally_plus k counts s.excepted) steps w' k'
