-- Files that are read item by item.
use Rattle.std.proofs.Common.{◌≡◌, ℕ, ◌+◌, List, [], ◌∷◌, ◌++◌, length, Bool, None, refl, sym, ap, subst, ◌∙◌, arith}
use Rattle.kmipa_ttlv.specs.Tree.{Tree}
use Rattle.kmipa_ttlv.specs.Stream.{Begins, capped, IsSplit}
use Rattle.kmipa_ttlv.proofs.StreamLemmas.{item_given}
use Rattle.kmipa_record.specs.Files.{IsRightUpTo, FirstFault, in_bytes, in_item, at_end, Tells, rest_place}
use Rattle.kmipa_record.specs.Reading.{IsReading, TellsFlawOf, ReadFails, Takes, HeaderFault, torn, absent, other, HeaderFails}
use Rattle.kmipa_record.specs.declared.fault.RecordFault.{RecordFault}
use Rattle.kmipa_record.specs.declared.fault.RecordKind.{RecordKind}
use Rattle.kmipa_record.specs.declared.fault.RecordKind.TheVariants.{Header}
use Rattle.kmipa_record.proofs.KindLemmas.{ByCause-map}

-- one more item was read
pub goes_on : (file : List ℕ) (given : List Tree) (item : Tree) (left after : List ℕ) (place place' : ℕ) → Takes item left after place place' → IsReading file given left place
    → IsReading file (given ++ item ∷ []) after place'
goes_on file given item left after place place' t r =
    item_given file given item left t.front after place place' t.consumed t.spelled (let small = t.small in omega (arith, t.taken, small)) r

-- the file has ended
pub ends_here : (file : List ℕ) (given : List Tree) (left : List ℕ) (place : ℕ) → left ≡ [] → IsReading file given left place → Begins given file []
ends_here file given left place e r = let split : IsSplit file given left place None = r in subst (Begins given file) e split.begins

-- nothing was read
pub starts : (file : List ℕ) (place : ℕ) → place ≡ 0 → IsReading file [] file place
starts file place zero = record { begins = refl; placed = omega (arith, zero); flaw = tt }

module _ (AreRight : List Tree → Type 0) where
  -- what was read is right, and this is left at this place
  pub record Stands (file : List ℕ) (given : List Tree) (left : List ℕ) (place : ℕ) : Type 0 where
    pub right : AreRight given
    pub reading : IsReading file given left place

  pub right_here : (file : List ℕ) (given : List Tree) (left : List ℕ) (place : ℕ) → Stands file given left place → IsRightUpTo AreRight file place
  right_here file given rest place s =
      let split : IsSplit file given rest place None = s.reading in
      record { items = given; rest = rest; up_to = record { right = s.right; begins = split.begins }; placed = split.placed }

  module _ (ItemFault : List Tree → Tree → RecordKind → Type 0) (EndFault : List ℕ → List Tree → ℕ → RecordKind → Type 0) where
    torn_reported : (file : List ℕ) (given : List Tree) (left : List ℕ) (place : ℕ) (f : RecordFault) → Stands file given left place → TellsFlawOf place left f
        → FirstFault AreRight ItemFault EndFault file f.offset f.kind
    torn_reported file given rest place f s reported =
        let split : IsSplit file given rest place None = s.reading in
        in_bytes given rest reported.from reported.flaw (record { right = s.right; begins = split.begins }) reported.some reported.wrong
        (reported.placed ∙ ap (λ (p : ℕ). capped (p + reported.from)) split.placed) reported.kind_is

    -- a fault of the item
    pub item_reported : (file : List ℕ) (given : List Tree) (item : Tree) (left after : List ℕ) (place place' : ℕ) (kind : RecordKind) → Stands file given left place → Takes item left after place place'
        → ItemFault given item kind → FirstFault AreRight ItemFault EndFault file place kind
    item_reported file given item rest ys place place' kind s t wrong =
        let split : IsSplit file given rest place None = s.reading in
        let same : rest ≡ t.front ++ ys = t.consumed in
        in_item given item t.front ys (record { right = s.right; begins = subst (Begins given file) same split.begins }) t.spelled wrong
        (split.placed ∙ ap (rest_place file) same)

    -- a fault of the bytes, of the device or of memory
    pub tells_read : (file : List ℕ) (given : List Tree) (left : List ℕ) (place : ℕ) (failed : Bool) (f : RecordFault) → Stands file given left place
        → ReadFails place left failed f → Tells (FirstFault AreRight ItemFault EndFault) (IsRightUpTo AreRight) file failed f
    tells_read file given left place failed f s h =
        let here : (offset : ℕ) → offset ≡ place → IsRightUpTo AreRight file offset = λ offset e. subst (IsRightUpTo AreRight file) (sym e) (right_here file given left place s) in
        ByCause-map f.kind _ _ _ _ _ _ (λ d. (d.0, here f.offset d.1)) (λ m. here f.offset m) (λ p. torn_reported file given left place f s p) h

    header_reported : (is_header : Tree → Type 0) → AreRight [] → ((item : Tree) (kind : RecordKind) → ¬ (is_header item) → kind ≡ Header → ItemFault [] item kind)
        → ((file : List ℕ) (offset : ℕ) (kind : RecordKind) → offset ≡ 0 → kind ≡ Header → EndFault file [] offset kind)
        → (file : List ℕ) (place : ℕ) (f : RecordFault) → place ≡ 0 → HeaderFault is_header place file f → FirstFault AreRight ItemFault EndFault file f.offset f.kind
    header_reported is_header right no_item no_end file place f zero (torn t) = torn_reported file [] file place f (record { right = right; reading = starts file place zero }) t
    header_reported is_header right no_item no_end file place f zero (absent e o k) = at_end [] (record { right = right; begins = e }) (no_end file f.offset f.kind (o ∙ zero) k)
    header_reported is_header right no_item no_end file place f zero (other item front behind e spelled differs o k) =
        in_item [] item front behind (record { right = right; begins = e }) spelled (no_item item f.kind differs k)
        (omega (arith, o, zero, ap length e))

    -- a fault of the header
    pub tells_header : (is_header : Tree → Type 0) → AreRight [] → ((item : Tree) (kind : RecordKind) → ¬ (is_header item) → kind ≡ Header → ItemFault [] item kind)
        → ((file : List ℕ) (offset : ℕ) (kind : RecordKind) → offset ≡ 0 → kind ≡ Header → EndFault file [] offset kind)
        → (file : List ℕ) (place : ℕ) (failed : Bool) (f : RecordFault) → place ≡ 0 → HeaderFails is_header place file failed f
        → Tells (FirstFault AreRight ItemFault EndFault) (IsRightUpTo AreRight) file failed f
    tells_header is_header right no_item no_end file place failed f zero h =
        let here : (offset : ℕ) → offset ≡ place → IsRightUpTo AreRight file offset
        = λ offset e. subst (IsRightUpTo AreRight file) (sym e) (right_here file [] file place (record { right = right; reading = starts file place zero })) in
        ByCause-map f.kind _ _ _ _ _ _ (λ d. (d.0, here f.offset d.1)) (λ m. here f.offset m) (header_reported is_header right no_item no_end file place f zero) h
