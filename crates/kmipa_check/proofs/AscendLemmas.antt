-- The entries of a ledger's objects, made one after the other.
use Rattle.std.proofs.Common.{◌≡◌, ℕ, ◌+◌, List, [], ◌∷◌, ◌++◌, map, take, Some, slice_get, sym, ap, ◌∙◌, add-one}
use Rattle.kmipa_store.specs.Ledger.{Held}
use Rattle.kmipa_store.specs.Ledger.{Known}
use Rattle.kmipa_object.proofs.ListLemmas.{map-push}
use Rattle.kmipa_record.specs.Entries.{EntryOf, entry_of}
use Rattle.kmipa_record.specs.declared.entry.Entry.{Entry}
use Rattle.kmipa_check.specs.Left.{entry_left}
use Rattle.kmipa_check.proofs.RunLemmas.{take_next}

-- one entry more is made
pub left_next : (entries more : List Entry) (e : Entry) (ss : List Known) (objects : List Held) (n : ℕ) (h : Held) → slice_get objects n ≡ Some h
    → map entry_of entries ≡ map (entry_left ss) (take n objects) → entry_of e ≡ entry_left ss h → more ≡ entries ++ e ∷ []
    → map entry_of more ≡ map (entry_left ss) (take (n + 1) objects)
left_next entries more e ss objects n h at so is longer =
    ap (map entry_of) longer
    ∙ map-push entry_of entries e
    ∙ ap (λ (l : List EntryOf). l ++ entry_of e ∷ []) so
    ∙ ap (λ (x : EntryOf). map (entry_left ss) (take n objects) ++ x ∷ []) is
    ∙ sym (map-push (entry_left ss) (take n objects) h)
    ∙ ap (map (entry_left ss)) (sym (take_next objects n h at))
    ∙ ap (λ (k : ℕ). map (entry_left ss) (take k objects)) (sym (add-one n))
