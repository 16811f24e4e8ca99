-- The objects of a ledger's declaration are those of the ledger, but for their bytes.
use Rattle.std.proofs.Common.{◌≡◌, List, [], ◌∷◌, map, refl, ap}
use Rattle.kmipa_object.specs.Inventory.{Card}
use Rattle.kmipa_store.specs.Ledger.{Held, Known, Meaning, cards_of}
use Rattle.kmipa_record.specs.Declarations.{DeclarationOf}
use Rattle.kmipa_check.specs.Described.{card_declared}
use Rattle.kmipa_check.specs.Left.{declaration_left, entry_left}

entries_left : (secrets : List Known) (objects : List Held) → map card_declared (map (entry_left secrets) objects) ≡ cards_of objects
entries_left secrets [] = refl
entries_left secrets (h ∷ hs) = ap (λ (cs : List Card). h.card ∷ cs) (entries_left secrets hs)

pub cards_left : (declared : DeclarationOf) (m : Meaning) → map card_declared (declaration_left declared m).entries ≡ cards_of m.objects
cards_left declared m = entries_left m.secrets m.objects
