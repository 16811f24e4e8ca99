-- BY WHAT A CALL IS JUDGED: the rules, and what is hidden from its client (profile).
use Rattle.std.specs.Prelude.{ℕ, Bool, if◌then◌else◌, List, [], ◌∷◌, map, bytes_eq}
use Rattle.kmipa_msgs.specs.Messages.{RulesOf, lent, rules_of}
use Rattle.kmipa_aside.specs.declared.owned.Owned.{Owned}
use Rattle.kmipa_aside.specs.declared.sight.Sight.{Sight}

-- the identifier of an object, and the identity of the client whose it is
pub record OwnedOf : Type 0 where
  pub id : List ℕ
  pub owner : List ℕ

abbrev pub owned_of : Owned → OwnedOf
owned_of o = record { id = lent o.id; owner = lent o.owner }

-- it is this client's
abbrev pub is_of : List ℕ → OwnedOf → Bool
is_of me o = bytes_eq me o.owner

-- the identifiers of the objects that belong to others: these are hidden from this client
abbrev pub hidden_from : List ℕ → List OwnedOf → List (List ℕ)
hidden_from me [] = []
hidden_from me (o ∷ os) = if is_of me o then hidden_from me os else o.id ∷ hidden_from me os

-- the rules, and the identifiers, each once, of the objects that are hidden
pub record SightOf : Type 0 where
  pub rules : RulesOf
  pub hidden : List (List ℕ)

abbrev pub sight_of : Sight → SightOf
sight_of s = record { rules = rules_of s.rules.now; hidden = hidden_from s.me.now (map owned_of s.owners.now) }

-- all objects are in sight
abbrev pub all_in_sight : RulesOf → SightOf
all_in_sight rules = record { rules = rules; hidden = [] }
