-- A chain and one segment more.
use Rattle.std.proofs.Common.{◌≡◌, ◌<◌, ◌⊎◌, inl, inr, codes, Bool, true, zero, suc, ℕ, ℤ, List, [], ◌∷◌, ◌++◌, Option, Some, None, Result, Ok, Err, refl, sym, ap, ◌∙◌, subst, append_assoc, append-nil, length, ◌+◌, slice_get, Contains, AllPairs, arith}
use Rattle.std.specs.Prelude.{IfSome}
use Rattle.std.proofs.lemmas.List.{length-append, map-append}
use Rattle.std.proofs.lemmas.List.Elements.{Contains-append_cases}
use Rattle.std.proofs.lemmas.Option.{slice_get_within}
use Rattle.std.specs.Io.{appended_bytes}
use Rattle.kmipa_record.specs.Marks.{MarkOf, begun}
use Rattle.kmipa_record.specs.Declarations.{DeclarationOf}
use Rattle.kmipa_record.specs.Witnesses.{TurnOf, IsWitness, witness_of}
use Rattle.kmipa_record.proofs.MarkLemmas.{begun-append}
use Rattle.kmipa_check.specs.Segments.{AreApart}
use Rattle.kmipa_check.specs.Since.{IsAcceptedSince}
use Rattle.kmipa_check.specs.declared.segment.Left.{Left}
use Rattle.kmipa_check.proofs.JoinLemmas.{at_back, at_front, ordered}
use Rattle.kmipa_links.specs.Links.{SegmentOf, ShareNoCall}
use Rattle.kmipa_links.specs.Linking.{HaveLinked, LinksOn}
use Rattle.kmipa_jobs.specs.Statuses.{IsSilent}
use Rattle.kmipa_jobs.specs.declared.status.Status.{Status}
use Rattle.kmipa_jobs.specs.declared.status.Status.TheVariants as status
use Rattle.kmipa_segments.specs.Chains.{AreChained, AreReadNext, GoesOn, GoesOnBy, GoesOnSomehow, IsNamed, Keeps, PrintsJudged, PrintsUnjudged, TellsJudged}
use Rattle.kmipa_segments.specs.Chaining.{AreParts, AreNextOf, EndsChain, IsChain, IsKept, IsKeptNext, IsNextOf, IsPart, PartOf, SegmentFiles, marks_of, segments_of, turns_of}
use Rattle.kmipa_segments.specs.Leaving.{TellsLeft}
use Rattle.kmipa_segments.specs.declared.chain.Chain.{Chain}
use Rattle.kmipa_segments.specs.declared.next.Unjudged.{Unjudged}

-- the marks and turns of one part more
marks_more : (parts : List PartOf) (p : PartOf) → marks_of (parts ++ (p ∷ [])) ≡ marks_of parts ++ p.segment.marks
marks_more [] p = append-nil p.segment.marks
marks_more (q ∷ parts) p = ap (λ (m : List MarkOf). q.segment.marks ++ m) (marks_more parts p) ∙ sym (append_assoc q.segment.marks (marks_of parts) p.segment.marks)

turns_more : (parts : List PartOf) (p : PartOf) → turns_of (parts ++ (p ∷ [])) ≡ turns_of parts ++ p.turns
turns_more [] p = append-nil p.turns
turns_more (q ∷ parts) p = ap (λ (m : List TurnOf). q.turns ++ m) (turns_more parts p) ∙ sym (append_assoc q.turns (turns_of parts) p.turns)

segments_more : (parts : List PartOf) (p : PartOf) → segments_of (parts ++ (p ∷ [])) ≡ segments_of parts ++ (p.segment ∷ [])
segments_more parts p = map-append (λ (part : PartOf). part.segment) parts (p ∷ [])

parts_more : (files : List SegmentFiles) (parts : List PartOf) (f : SegmentFiles) (p : PartOf) → AreParts files parts → IsPart f p → AreParts (files ++ (f ∷ [])) (parts ++ (p ∷ []))
parts_more [] [] f p are is = (is, tt)
parts_more [] (q ∷ parts) f p are is = absurd are
parts_more (g ∷ files) [] f p are is = absurd are
parts_more (g ∷ files) (q ∷ parts) f p are is = (are.0, parts_more files parts f p are.1 is)

-- ---- no call in two

-- the segment at this place has a call of this number
record HasAt (segments : List SegmentOf) (number : ℤ) : Type 0 where
  place : ℕ
  segment : SegmentOf
  there : slice_get segments place ≡ Some segment
  has : Contains (begun segment.marks) number

-- a call that has begun among the marks of all has begun in one of them
begun_in_one : (parts : List PartOf) (number : ℤ) → Contains (begun (marks_of parts)) number → HasAt (segments_of parts) number
begun_in_one [] number h = absurd (omega (arith, h.1))
begun_in_one (q ∷ parts) number h =
    let Q : List ℤ → Type 0 = λ numbers. Contains numbers number in
    elim (Contains-append_cases (begun q.segment.marks) (begun (marks_of parts)) number (subst Q (begun-append q.segment.marks (marks_of parts)) h)) [
      | inl here ↦ record { place = zero; segment = q.segment; there = refl; has = here }
      | inr behind ↦ let r = begun_in_one parts number behind in record { place = suc r.place; segment = r.segment; there = r.there; has = r.has }
    ]

-- where none stands in two, none of the last stands among those of all before it
apart_last : (parts : List PartOf) (s : SegmentOf) → AllPairs ShareNoCall (segments_of parts ++ (s ∷ [])) → AreApart (marks_of parts) s.marks
apart_last parts s apart = λ number there here.
    let one = begun_in_one parts number there in
    let before = segments_of parts in
    ordered ShareNoCall (before ++ (s ∷ [])) apart one.place (length before + 0) one.segment s (omega (arith, slice_get_within before one.place one.segment one.there))
    (at_front before (s ∷ []) one.place one.segment one.there) (at_back before (s ∷ []) zero s refl) number one.has here

-- ---- a segment that goes on from a chain

module _ (chain next : Chain) (f : SegmentFiles) (p : PartOf) (is : IsPart f p) (linked : (before : List SegmentOf) → HaveLinked before chain.links → HaveLinked (before ++ (p.segment ∷ [])) next.links)
    (on : GoesOn chain.held next.held p.segment.marks p.turns) where
  module _ (first : DeclarationOf) (files : List SegmentFiles) (c : IsChain first files chain) where
    abbrev parts' : List PartOf
    parts' = c.parts ++ (p ∷ [])

    kept : HaveLinked (segments_of c.parts ++ (p.segment ∷ [])) next.links
    kept = linked (segments_of c.parts) c.kept

    joined : AreChained first None (marks_of c.parts ++ p.segment.marks) (turns_of c.parts ++ p.turns) next.held
        × IsAcceptedSince (marks_of c.parts ++ p.segment.marks) first None (turns_of c.parts ++ p.turns)
    joined = on.joined first None (marks_of c.parts) (turns_of c.parts) c.leads (apart_last c.parts p.segment kept.ends.linked.apart)

    leads : AreChained first None (marks_of parts') (turns_of parts') next.held
    leads =
        let M : List MarkOf → Type 0 = λ m. AreChained first None m (turns_of c.parts ++ p.turns) next.held in
        let T : List TurnOf → Type 0 = λ t. AreChained first None (marks_of parts') t next.held in
        subst T (sym (turns_more c.parts p)) (subst M (sym (marks_more c.parts p)) joined.0)

    accepted : IsAcceptedSince (marks_of parts') first None (turns_of parts')
    accepted =
        let M : List MarkOf → Type 0 = λ m. IsAcceptedSince m first None (turns_of c.parts ++ p.turns) in
        let T : List TurnOf → Type 0 = λ t. IsAcceptedSince (marks_of parts') first None t in
        subst T (sym (turns_more c.parts p)) (subst M (sym (marks_more c.parts p)) joined.1)

    kept_all : HaveLinked (segments_of parts') next.links
    kept_all = let S : List SegmentOf → Type 0 = λ l. HaveLinked l next.links in subst S (sym (segments_more c.parts p)) kept

  pub next_of : IsNextOf chain next f
  next_of first files c = record {
    parts = c.parts ++ (p ∷ []);
    are = parts_more files c.parts f p c.are is;
    linked = (kept_all first files c).ends.linked;
    accepted = λ some. accepted first files c;
    leads = leads first files c;
    kept = kept_all first files c;
  }

-- by turns that it is judged by, where it is linked
module _ (chain next : Chain) (name t : List ℕ) (witness : Option (List ℕ)) (marks : List MarkOf) (turns : List TurnOf) (l : LinksOn chain.links next.links name t marks)
    (w : IfSome witness (λ bytes. IsWitness bytes turns)) (on : GoesOn chain.held next.held marks turns) where
  abbrev own : PartOf
  own = record { segment = l.segment; turns = turns }

  next_linked : IsNextOf chain next (record { name = name; transcript = t; witness = witness })
  next_linked =
      let G : List MarkOf → Type 0 = λ m. GoesOn chain.held next.held m turns in
      next_of chain next (record { name = name; transcript = t; witness = witness }) own
      (record { of = record { named = l.of.named; bytes_are = l.of.bytes_are; marks_are = refl; is = l.of.is }; witness = w }) l.on (subst G (sym l.of.marks_are) on)

-- by a witness, or by some
pub next_by : (chain next : Chain) (name t w : List ℕ) → GoesOnBy chain next name t w → IsNextOf chain next (record { name = name; transcript = t; witness = Some w })
next_by chain next name t w g = next_linked chain next name t (Some w) g.marks g.turns g.read.links_on g.witness g.goes_on

pub next_somehow : (chain next : Chain) (name t : List ℕ) → GoesOnSomehow chain next name t → IsNextOf chain next (record { name = name; transcript = t; witness = None })
next_somehow chain next name t g = next_linked chain next name t None g.marks g.turns g.read.links_on tt g.goes_on

-- And by the witness that is held next, whatever bytes it is written as.
kept_by : (chain next : Chain) (name t w : List ℕ) (marks : List MarkOf) (turns : List TurnOf) → AreReadNext chain.links next.links name t marks → GoesOn chain.held next.held marks turns
    → Keeps next turns → IsKept next w → GoesOnBy chain next name t w
kept_by chain next name t w marks turns read on keeps kept =
    let both : Some kept.witness ≡ Some keeps.witness = sym kept.held ∙ keeps.held in
    let same : kept.witness ≡ keeps.witness = cc in
    let P : List TurnOf → Type 0 = λ l. IsWitness w l in
    let are : witness_of kept.witness ≡ turns = ap witness_of same ∙ keeps.is in
    record { marks = marks; read = read; turns = turns; witness = subst P are kept.is; goes_on = on; keeps = keeps }

pub kept_next_by : (chain next : Chain) (name t own : List ℕ) → GoesOnBy chain next name t own → IsKeptNext chain next name t
kept_next_by chain next name t own g = record {
  witness = g.keeps.witness;
  held = g.keeps.held;
  goes_on = λ w kept. let by = kept_by chain next name t w g.marks g.turns g.read g.goes_on g.keeps kept in (by, next_by chain next name t w by);
}

pub kept_next_somehow : (chain next : Chain) (name t : List ℕ) → GoesOnSomehow chain next name t → IsKeptNext chain next name t
kept_next_somehow chain next name t g = record {
  witness = g.keeps.witness;
  held = g.keeps.held;
  goes_on = λ w kept. let by = kept_by chain next name t w g.marks g.turns g.read g.goes_on g.keeps kept in (by, next_by chain next name t w by);
}

-- where there are none yet
pub none_yet : (first : DeclarationOf) (chain : Chain) → AreChained first None [] [] chain.held → HaveLinked [] chain.links → IsChain first [] chain
none_yet first chain c l = record { parts = []; are = tt; linked = l.ends.linked; accepted = λ some. absurd (omega (arith, some)); leads = c; kept = l }

-- ---- many segments more

pub none_more : (chain : Chain) → AreNextOf chain chain 0
none_more chain first files c =
    let P : List SegmentFiles → Type 0 = λ l. IsChain first l chain in
    ([], refl, subst P (sym (append-nil files)) c)

pub one_more : (chain next : Chain) (f : SegmentFiles) → IsNextOf chain next f → AreNextOf chain next 1
one_more chain next f is first files c = (f ∷ [], refl, is first files c)

pub more_next : (chain middle next : Chain) (count : ℕ) → AreNextOf chain middle count → AreNextOf middle next 1 → AreNextOf chain next (count + 1)
more_next chain middle next count front one first files c =
    let many = front first files c in
    let last = one first (files ++ many.0) many.2 in
    let P : List SegmentFiles → Type 0 = λ l. IsChain first l next in (
      many.0 ++ last.0,
      length-append many.0 last.0 ∙ ap (λ (n : ℕ). n + length last.0) many.1 ∙ ap (λ (n : ℕ). count + n) last.1,
      subst P (append_assoc files many.0 last.0) last.2,
    )

-- ---- what is printed

-- lines that stand behind a name, or nothing where memory ran out
abbrev pub Named : List ℕ → List ℕ → Status → Status → List ℕ → Type 0
Named name told judged said lines = ((said ≡ judged) × (told ≡ [] → ⊥) × (lines ≡ name ++ (codes ": " ++ told))) ⊎ IsSilent said lines

pub was_done : (name told : List ℕ) (judged said : Status) (lines : List ℕ) → Named name told judged said lines → said ≡ status.Done → judged ≡ status.Done
was_done name told judged said lines (inl n) done = sym n.0 ∙ done
was_done name told judged said lines (inr silent) done = let clash : status.Failed ≡ status.Done = sym silent.0 ∙ done in absurd cc

-- one text that stands behind a name
pub told_named : (name told text : List ℕ) (judged wanted said : Status) (lines : List ℕ) → judged ≡ wanted → told ≡ text → Named name told judged said lines
    → ((said ≡ wanted) × IsNamed name (λ (t : List ℕ). t ≡ text) lines) ⊎ IsSilent said lines
told_named name told text judged wanted said lines is same (inl n) = inl (n.0 ∙ is, (told, same, n.2))
told_named name told text judged wanted said lines is same (inr silent) = inr silent

pub never_done : (name told : List ℕ) (judged said : Status) (lines : List ℕ) → judged ≡ status.GaveUp → Named name told judged said lines → said ≡ status.Done → ⊥
never_done name told judged said lines is named done = let clash : status.GaveUp ≡ status.Done = sym is ∙ was_done name told judged said lines named done in absurd cc

pub prints_named : (P : Status → List ℕ → Type 0) (name told : List ℕ) (judged said : Status) (lines : List ℕ) → P judged told ⊎ IsSilent judged told
    → Named name told judged said lines → IsNamed name (P said) lines ⊎ IsSilent said lines
prints_named P name told judged said lines h (inr silent) = inr silent
prints_named P name told judged said lines (inr silent) (inl n) = absurd (n.1 silent.1)
prints_named P name told judged said lines (inl h) (inl n) =
    let Q : Status → Type 0 = λ s. P s told in
    inl (told, subst Q (sym n.0) h, n.2)

-- so it is with lines that were appended to none
pub prints_shown : (P : Status → List ℕ → Type 0) (name told none all : List ℕ) (judged said : Status) (lines : List ℕ) → none ≡ [] → told ≡ all
    → P judged (appended_bytes none all) ⊎ IsSilent judged (appended_bytes none all) → Named name told judged said lines → IsNamed name (P said) lines ⊎ IsSilent said lines
prints_shown P name told none all judged said lines empty same h n =
    let shown : told ≡ appended_bytes none all = same ∙ ap (λ (l : List ℕ). appended_bytes l all) (sym empty) in
    let N : List ℕ → Type 0 = λ t. Named name t judged said lines in
    prints_named P name (appended_bytes none all) judged said lines h (subst N shown n)

-- what is printed of a segment: its own lines, or why it isn't judged
module _ {A : Type 0} (Tells : A → Status → List ℕ → Type 0) (name : List ℕ) (outcome : Result A Unjudged) (answer : Result Status Unjudged) (said : Status) (lines : List ℕ) where
  pub judged_printed : (judged : Status) (told none all : List ℕ) → answer ≡ Ok judged → none ≡ [] → told ≡ all → TellsJudged Tells outcome answer (appended_bytes none all)
      → Named name told judged said lines → PrintsJudged Tells name outcome said lines ⊎ IsSilent said lines
  judged_printed judged told none all is empty same h n =
      let T : Result Status Unjudged → Type 0 = λ a. TellsJudged Tells outcome a (appended_bytes none all) in
      by outcome (subst T is h)
    where
      by : (o : Result A Unjudged) → TellsJudged Tells o (Ok judged) (appended_bytes none all) → PrintsJudged Tells name o said lines ⊎ IsSilent said lines
      by (Ok a) h = prints_shown (Tells a) name told none all judged said lines empty same h n
      by (Err u) h = absurd h

  pub unjudged_printed : (why : Unjudged) (front : List ℕ) → answer ≡ Err why → TellsJudged Tells outcome answer front → PrintsUnjudged name why said lines ⊎ IsSilent said lines
      → PrintsJudged Tells name outcome said lines ⊎ IsSilent said lines
  unjudged_printed why front is h p =
      let T : Result Status Unjudged → Type 0 = λ a. TellsJudged Tells outcome a front in
      by outcome (subst T is h) p
    where
      by : (o : Result A Unjudged) → TellsJudged Tells o (Err why) front → PrintsUnjudged name why said lines ⊎ IsSilent said lines → PrintsJudged Tells name o said lines ⊎ IsSilent said lines
      by (Ok a) h p = absurd h
      by (Err u) h (inl p) = let P : Unjudged → Type 0 = λ x. PrintsUnjudged name x said lines in inl (subst P h p)
      by (Err u) h (inr p) = inr p

-- the line of a whole chain, where what is left is asked for
pub ends_made : (leaves : Bool) (text front : List ℕ) (left : Left) (said : Status) (lines made : List ℕ) (S : Type 0) → leaves ≡ true → text ≡ front
    → TellsLeft text left said lines made ⊎ S → EndsChain leaves front left said lines made ⊎ S
ends_made leaves text front left said lines made S is same (inr silent) = inr silent
ends_made leaves text front left said lines made S is same (inl tells) =
    let P : List ℕ → Type 0 = λ t. TellsLeft t left said lines made in
    let Q : Bool → Type 0 = λ b. EndsChain b front left said lines made in
    inl (subst Q (sym is) (subst P same tells))
