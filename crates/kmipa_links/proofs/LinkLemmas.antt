-- Segments that are linked, and one more.
use Rattle.std.proofs.Common.{◌≡◌, ◌≢◌, ◌<◌, inl, inr, ℕ, ℤ, List, [], ◌∷◌, ◌++◌, length, get_or, map, Bool, IsTrue, Option, Some, None, refl, sym, ap, subst, ◌∙◌, append-nil, arith, String, string_bytes, Result, Ok, Err}
use Rattle.std.specs.Prelude.{AllPairs, Contains, IfErr, IfOk, IfSome, MatchOption, MatchResult}
use Rattle.std.specs.declared.alloc.AllocError.{AllocError}
use Rattle.std.proofs.lemmas.Grind.{common_steps}
use Rattle.std.proofs.lemmas.Result.{IfOk-weaker}
use Rattle.std.specs.Global.{Global}
use Rattle.std.proofs.lemmas.List.{get_or-map, get_or_push, length-append, length-map, map-append}
use Rattle.std.proofs.lemmas.List.Elements.{All-nil, All-push, Contains-get_or}
use Rattle.std.proofs.lemmas.List.Quantifiers.{all_pairs_push}
use Rattle.kmipa_record.specs.Heads.{head_of, label_of}
use Rattle.kmipa_record.specs.Marks.{MarkOf, AreRecorded, begins, begun, ends, mark_of}
use Rattle.kmipa_record.specs.declared.number_map.NumberMap.{NumberMap}
use Rattle.kmipa_record.specs.declared.transcript.Begin.{Begin as Begin'}
use Rattle.kmipa_record.specs.declared.transcript.End.{End as End'}
use Rattle.kmipa_record.specs.declared.transcript.Mark.{Mark}
use Rattle.kmipa_record.specs.declared.transcript.Mark.TheVariants.{Begin, End}
use Rattle.kmipa_record.proofs.MarkLemmas.{begun-append}
use Rattle.kmipa_ttlv.specs.Input.{came_of, is_ended}
use Rattle.kmipa_record.specs.Files.{Tells}
use Rattle.kmipa_record.specs.Transcripts.{AreRightInTranscript, IsTranscript, IsTranscriptUpTo, TranscriptFault}
use Rattle.kmipa_record.specs.TranscriptReading.{input_of, HaveCome, HaveEnded, IsKnownBy, without_seals, by_head}
use Rattle.kmipa_record.specs.declared.fault.RecordFault.{RecordFault}
use Rattle.kmipa_record.specs.declared.fault.RecordKind.TheVariants.{Memory}
use Rattle.kmipa_record.specs.declared.recorded_marks.RecordedMarks.{RecordedMarks}
use Rattle.kmipa_record.proofs.FileLemmas.{right_here, starts}
use Rattle.kmipa_record.specs.declared.head.Head.{Head}
use Rattle.kmipa_links.specs.Links.{SegmentOf, SealsOf, IsSegment, AreNext, RunOn, ShareNoCall, Linked, first_seals, last_seals, IsGap, IsGapOfSeals}
use Rattle.kmipa_links.specs.Numbers.{IsClash, Know, numbers_of}
use Rattle.kmipa_links.specs.Linking.{EndsUnlinked, HasGap, HasSeals, HasTaken, HaveLinked, IsOf, IsTaken, IsTakenSoFar, IsUnlinked, KnowsEnds, LinksOn, MayFollow}
use Rattle.kmipa_links.specs.declared.gap.Gap.{Gap}
use Rattle.kmipa_links.specs.declared.gap.Gap.TheVariants.{Call, Recording, Segment, Previous, NoSeals, Seals}
use Rattle.kmipa_links.specs.declared.gap.Unlinked.{Unlinked}
use Rattle.kmipa_links.specs.declared.gap.Unlinked.TheVariants as unlinked
use Rattle.kmipa_links.specs.declared.links.Links.{Links}
use Rattle.kmipa_links.specs.declared.numbers.Clash.{Clash}
use Rattle.kmipa_links.proofs.NumberLemmas.{clash_none, know_begin}

-- ---- what stands at the ends

last_more : (segments : List SegmentOf) (s : SegmentOf) → last_seals (segments ++ (s ∷ [])) ≡ s.seals
last_more [] s = refl
last_more (t ∷ []) s = refl
last_more (t ∷ u ∷ more) s = last_more (u ∷ more) s

first_more : (segments : List SegmentOf) (s : SegmentOf) → segments ≢ [] → first_seals (segments ++ (s ∷ [])) ≡ first_seals segments
first_more [] s some = absurd (some refl)
first_more (t ∷ more) s some = refl

run_on_more : (segments : List SegmentOf) (s : SegmentOf) → RunOn segments → MayFollow segments s.seals → RunOn (segments ++ (s ∷ []))
run_on_more [] s r m = tt
run_on_more (t ∷ []) s r (inl none) = absurd cc
run_on_more (t ∷ []) s r (inr next) = (next, tt)
run_on_more (t ∷ u ∷ more) s r (inl none) = absurd cc
run_on_more (t ∷ u ∷ more) s r (inr next) = (r.0, run_on_more (u ∷ more) s r.1 (inr next))

-- where the last bears seals, the first does
pub sealed_from_first : (segments : List SegmentOf) → RunOn segments → (s : SealsOf) × (last_seals segments ≡ Some s) → (s : SealsOf) × (first_seals segments ≡ Some s)
sealed_from_first [] r some = let clash : None ≡ Some some.0 = some.1 in absurd cc
sealed_from_first (t ∷ []) r some = some
sealed_from_first (t ∷ u ∷ more) r some = by t.seals u.seals refl r.0 (sealed_from_first (u ∷ more) r.1 some)
  where
    by : (one next : Option SealsOf) → t.seals ≡ one → AreNext one next → (s : SealsOf) × (next ≡ Some s) → (s : SealsOf) × (t.seals ≡ Some s)
    by (Some a) next is n h = (a, is)
    by None None is n h = let clash : None ≡ Some h.0 = h.1 in absurd cc
    by None (Some b) is n h = absurd n

-- ---- no call in two

nobody : SegmentOf
nobody = record { name = []; bytes = []; marks = []; seals = None }

numbers_at : (segments : List SegmentOf) (place : ℕ) (d : SegmentOf) → place < length segments → get_or (numbers_of segments) place [] ≡ begun (get_or segments place d).marks
numbers_at segments place d less = get_or-map (λ (s : SegmentOf). begun s.marks) segments place d [] less

numbers_more : (segments : List SegmentOf) (s : SegmentOf) → numbers_of (segments ++ (s ∷ [])) ≡ numbers_of segments ++ (begun s.marks ∷ [])
numbers_more segments s = map-append (λ (t : SegmentOf). begun t.marks) segments (s ∷ [])

apart_more : (segments : List SegmentOf) (s : SegmentOf) → AllPairs ShareNoCall segments → IsClash (numbers_of segments) (begun s.marks) None → AllPairs ShareNoCall (segments ++ (s ∷ []))
apart_more segments s apart free =
    all_pairs_push ShareNoCall segments s apart (λ place d less call there here. free call place here (subst (λ (l : List ℤ). Contains l call) (sym (numbers_at segments place d less)) there))

linked_more : (segments : List SegmentOf) (s : SegmentOf) → Linked segments → IsSegment s → MayFollow segments s.seals → IsClash (numbers_of segments) (begun s.marks) None → Linked (segments ++ (s ∷ []))
linked_more segments s l is may free = record {
  each = All-push IsSegment segments s l.each is;
  run_on = run_on_more segments s l.run_on may;
  apart = apart_more segments s l.apart free;
}

-- ---- no segments yet

no_pairs : AllPairs ShareNoCall []
no_pairs i j d less within = absurd (omega (arith, within))

none_linked : Linked []
none_linked = record { each = All-nil IsSegment; run_on = tt; apart = no_pairs }

pub none_yet : (links : Links) → links.names.items ≡ [] → links.last ≡ None → Know [] links.calls → HaveLinked [] links
none_yet links none without know = record {
  ends = record {
    linked = none_linked;
    names = ap (map string_bytes) none;
    last = subst (λ (h : Option Head). HasSeals h None) (sym without) tt;
    first = tt;
  };
  calls = know;
}

-- ---- a segment begins

pub begin_segment : (before : List SegmentOf) (links : Links) → HaveLinked before links → HasTaken before (begun []) None links
begin_segment before links h = record { ends = h.ends; calls = know_begin (numbers_of before) links.calls h.calls; clashes = clash_none (numbers_of before) }

-- ---- and ends

pub end_segment : (before : List SegmentOf) (s : SegmentOf) (old new : Links) → HasTaken before (begun s.marks) None old → IsSegment s → MayFollow before s.seals
    → map string_bytes new.names.items ≡ map string_bytes old.names.items ++ (s.name ∷ []) → new.calls ≡ old.calls → HasSeals new.last s.seals
    → IfSome (first_seals (before ++ (s ∷ []))) (λ (seals : SealsOf). seals.label.segment ≡ new.first) → HaveLinked (before ++ (s ∷ [])) new
end_segment before s old new t is may names calls last first = record {
  ends = record {
    linked = linked_more before s t.ends.linked is may t.clashes;
    names = names ∙ ap (λ (l : List (List ℕ)). l ++ (s.name ∷ [])) t.ends.names ∙ sym (map-append (λ (x : SegmentOf). x.name) before (s ∷ []));
    last = subst (HasSeals new.last) (sym (last_more before s)) last;
    first = first;
  };
  calls = subst (λ (c : _). Know (numbers_of (before ++ (s ∷ []))) c) (sym calls) (subst (λ (l : List (List ℤ)). Know l old.calls) (sym (numbers_more before s)) t.calls);
}

-- how many names there are tells whether there are segments
pub names_long : (before : List SegmentOf) (links : Links) → KnowsEnds before links → length links.names.items ≡ length before
names_long before links k = sym (length-map links.names.items string_bytes) ∙ ap length k.names ∙ length-map before (λ (s : SegmentOf). s.name)

pub no_segments : (before : List SegmentOf) (links : Links) → KnowsEnds before links → length links.names.items ≡ 0 → before ≡ []
no_segments before links k none = by before (sym (names_long before links k) ∙ none)
  where
    by : (l : List SegmentOf) → length l ≡ 0 → l ≡ []
    by [] e = refl
    by (x ∷ l) e = absurd (omega (arith, e))

pub some_segments : (before : List SegmentOf) (links : Links) → KnowsEnds before links → length links.names.items ≢ 0 → before ≢ []
some_segments before links k some none = some (names_long before links k ∙ ap length none)

pub first_of_one : (before : List SegmentOf) (s : SegmentOf) (number : ℤ) → before ≡ [] → IfSome s.seals (λ (seals : SealsOf). seals.label.segment ≡ number)
    → IfSome (first_seals (before ++ (s ∷ []))) (λ (seals : SealsOf). seals.label.segment ≡ number)
first_of_one before s number none h =
    subst (λ (l : List SegmentOf). IfSome (first_seals (l ++ (s ∷ []))) (λ (seals : SealsOf). seals.label.segment ≡ number)) (sym none) h

pub first_stays : (before : List SegmentOf) (s : SegmentOf) (number : ℤ) → before ≢ [] → IfSome (first_seals before) (λ (seals : SealsOf). seals.label.segment ≡ number)
    → IfSome (first_seals (before ++ (s ∷ []))) (λ (seals : SealsOf). seals.label.segment ≡ number)
first_stays before s number some h =
    subst (λ (o : Option SealsOf). IfSome o (λ (seals : SealsOf). seals.label.segment ≡ number)) (sym (first_more before s some)) h

-- ---- gaps

pub gap_by_seals : (before : List SegmentOf) (s : SegmentOf) (gap : Gap) → (before ≢ []) × IsGapOfSeals (last_seals before) s.seals gap → IsGap before s gap
gap_by_seals before s (Call call name) h = absurd (none (last_seals before) s.seals h.1)
  where
    none : (one own : Option SealsOf) → IsGapOfSeals one own (Call call name) → ⊥
    none None None g = g
    none None (Some own) g = g
    none (Some one) None g = g
    none (Some one) (Some own) g = g
gap_by_seals before s (Recording told expected) h = h
gap_by_seals before s (Segment told expected) h = h
gap_by_seals before s (Previous told expected) h = h
gap_by_seals before s (NoSeals segment recording) h = h
gap_by_seals before s Seals h = h

-- the name at a place
name_at : (names : List (String Global)) (before : List SegmentOf) (place : ℕ) (told : String Global) → map string_bytes names ≡ map (λ (s : SegmentOf). s.name) before → place < length names
    → place < length before → told ≡ get_or names place told → (get_or before place nobody).name ≡ string_bytes told
name_at names before place told same within less at =
    sym (get_or-map (λ (s : SegmentOf). s.name) before place nobody [] less) ∙ sym (ap (λ (l : List (List ℕ)). get_or l place []) same)
    ∙ get_or-map string_bytes names place told [] within ∙ ap string_bytes (sym at)

-- there is a name where a call stands
pub name_there : (before : List SegmentOf) (s : SegmentOf) (links : Links) (clash : Clash) → HasTaken before (begun s.marks) (Some clash) links → clash.place < length links.names.items
name_there before s links clash t = omega (arith, t.clashes.0, length-map before (λ (x : SegmentOf). begun x.marks), names_long before links t.ends)

pub gap_by_call : (before : List SegmentOf) (s : SegmentOf) (links : Links) (clash : Clash) (told : String Global) (name : String Global) → HasTaken before (begun s.marks) (Some clash) links
    → told ≡ get_or links.names.items clash.place told → string_bytes name ≡ string_bytes told → IsGap before s (Call clash.call name)
gap_by_call before s links clash told name t at same =
    let c = t.clashes in
    let less : clash.place < length before = subst (λ (n : ℕ). clash.place < n) (length-map before (λ (x : SegmentOf). begun x.marks)) c.0 in
    record {
      other = get_or before clash.place nobody;
      stands = Contains-get_or before clash.place nobody less;
      named = name_at links.names.items before clash.place told t.ends.names (name_there before s links clash t) less at ∙ sym same;
      there = subst (λ (l : List ℤ). Contains l clash.call) (numbers_at before clash.place nobody less) c.1;
      here = c.2;
    }

-- ---- which segment was read

pub segment_of : (name bytes : List ℕ) (marks : List MarkOf) (head : Option Head) → IsTranscript bytes marks → IsKnownBy bytes marks head
    → (s : SegmentOf) × IsOf s name bytes marks × HasSeals head s.seals
segment_of name bytes marks head t (without_seals none plain) =
    let s : SegmentOf = record { name = name; bytes = bytes; marks = marks; seals = None } in (
      s,
      record { named = refl; bytes_are = refl; marks_are = refl; is = record { transcript = t; bears = plain } },
      subst (λ (h : Option Head). HasSeals h None) (sym none) tt,
    )
segment_of name bytes marks head t (by_head h records is closed sealed marks_are) =
    let seals : SealsOf = record { label = label_of h.label; records = records; head = head_of h } in
    let s : SegmentOf = record { name = name; bytes = bytes; marks = marks; seals = Some seals } in (
      s,
      record { named = refl; bytes_are = refl; marks_are = refl; is = record { transcript = t; bears = (sealed, closed, marks_are) } },
      subst (λ (o : Option Head). HasSeals o (Some seals)) (sym is) (record { label = refl; head_is = refl }),
    )

-- ---- while it is read

pub taken_none : {R : Type 0} (source : RecordedMarks R) (links : Links) → HaveCome [] source → IsTakenSoFar [] source None links links
taken_none source links come = record { come = come; taken = λ before h. begin_segment before links h }

pub taken_all : {R : Type 0} (marks : List MarkOf) (old : RecordedMarks R) (source : RecordedMarks R) (clash : Option Clash) (first links : Links) → IsTakenSoFar marks old clash first links
    → IsTranscript (came_of (input_of source)) marks → IsTrue (is_ended (input_of source)) → HaveEnded marks source → IsTaken marks source clash first links
taken_all marks old source clash first links s transcript seen ended = record { transcript = transcript; seen = seen; ended = ended; taken = s.taken }

-- memory runs out beside the reading: up to the first byte nothing is wrong
pub no_memory : (file : List ℕ) (failed : Bool) → Tells TranscriptFault IsTranscriptUpTo file failed (record { offset = 0; kind = Memory })
no_memory file failed = right_here (AreRightInTranscript file) file [] file 0 (record { right = inl refl; reading = starts file 0 refl })

-- ---- what the functions answer

pub gap_weaker : (before : List SegmentOf) (own : Option SealsOf) (r : Result (Option Gap) AllocError) → before ≢ []
    → IfOk r (λ gap. MatchOption gap (AreNext (last_seals before) own) (IsGapOfSeals (last_seals before) own))
    → IfOk r (λ gap. MatchOption gap (MayFollow before own) (λ g. (before ≢ []) × IsGapOfSeals (last_seals before) own g))
gap_weaker before own (Ok None) some h = inr h
gap_weaker before own (Ok (Some gap)) some h = (some, h)
gap_weaker before own (Err e) some h = tt

pub gap_told : (before : List SegmentOf) (own : Option SealsOf) (r : Result (Option Gap) AllocError) (gap : Gap) → r ≡ Ok (Some gap)
    → IfOk r (λ g. MatchOption g (MayFollow before own) (λ g. (before ≢ []) × IsGapOfSeals (last_seals before) own g)) → (before ≢ []) × IsGapOfSeals (last_seals before) own gap
gap_told before own r gap is h =
    let P : Result (Option Gap) AllocError → Type 0 = λ x. IfOk x (λ g. MatchOption g (MayFollow before own) (λ g. (before ≢ []) × IsGapOfSeals (last_seals before) own g)) in
    subst P is h

pub names_pushed : (old new : List (String Global)) (name : String Global) (told : List ℕ) → new ≡ old ++ (name ∷ []) → string_bytes name ≡ told
    → map string_bytes new ≡ map string_bytes old ++ (told ∷ [])
names_pushed old new name told pushed is =
    ap (map string_bytes) pushed ∙ map-append string_bytes old (name ∷ []) ∙ ap (λ (b : List ℕ). map string_bytes old ++ (b ∷ [])) is

-- a call begins: it is none of those of its own segment
begun_before : (marks : List MarkOf) (call : ℤ) (client message : List ℕ) → AreRecorded (marks ++ (begins call client message ∷ [])) → ¬ (Contains (begun marks) call)
begun_before marks call client message recorded among =
    let all = begun marks ++ (call ∷ []) in
    let once = subst (AllPairs (λ (a b : ℤ). a ≢ b)) (begun-append marks (begins call client message ∷ [])) recorded.once in
    let long : length (begun marks) < length all = omega (arith, length-append (begun marks) (call ∷ [])) in
    let place = among.0 in
    let here : get_or all place call ≡ call = front (begun marks) call place among.1 ∙ among.2 in
    let last : get_or all (length (begun marks)) call ≡ call = get_or_push (begun marks) call call (length (begun marks)) refl in
    once place (length (begun marks)) call among.1 long (here ∙ sym last)
  where
    front : (l : List ℤ) (x : ℤ) (place : ℕ) → place < length l → get_or (l ++ (x ∷ [])) place x ≡ get_or l place x
    front l x place less = grind (arith, common_steps)

pub taken_call : (before : List SegmentOf) (marks : List MarkOf) (mark : Mark) (begin : Begin') (links : Links) (calls : NumberMap ℕ) (clash : Option Clash) (r : Result (Option Clash) AllocError) (place : ℕ) (call : ℤ)
    → mark ≡ Begin begin → call ≡ begin.call → place ≡ length links.names.items → HasTaken before (begun marks) clash links → AreRecorded (marks ++ (mark_of mark ∷ []))
    → ((numbers : List (List ℤ)) (own : List ℤ) → length numbers ≡ place → Know (numbers ++ (own ∷ [])) links.calls → IsClash numbers own clash → ¬ (Contains own call)
    → IfOk r (λ next. Know (numbers ++ ((own ++ (call ∷ [])) ∷ [])) calls × IsClash numbers (own ++ (call ∷ [])) next))
    → IfOk r (λ next. HasTaken before (begun (marks ++ (mark_of mark ∷ []))) next (record { names = links.names; calls = calls; last = links.last; first = links.first }))
taken_call before marks mark begin links calls clash r place call is number placed t recorded h =
    let M : Mark → Type 0 = λ m. IfOk r (λ next. HasTaken before (begun (marks ++ (mark_of m ∷ []))) next (record { names = links.names; calls = calls; last = links.last; first = links.first })) in
    let R : Mark → Type 0 = λ m. AreRecorded (marks ++ (mark_of m ∷ [])) in
    subst M (sym is) (by (subst R is recorded))
  where
    mark' : MarkOf
    mark' = begins begin.call (string_bytes begin.client) begin.message.items

    long : length (numbers_of before) ≡ place
    long = length-map before (λ (x : SegmentOf). begun x.marks) ∙ sym (names_long before links t.ends) ∙ sym placed

    same : begun (marks ++ (mark' ∷ [])) ≡ begun marks ++ (call ∷ [])
    same = begun-append marks (mark' ∷ []) ∙ ap (λ (n : ℤ). begun marks ++ (n ∷ [])) (sym number)

    one : (next : Option Clash) → Know (numbers_of before ++ ((begun marks ++ (call ∷ [])) ∷ [])) calls × IsClash (numbers_of before) (begun marks ++ (call ∷ [])) next
        → HasTaken before (begun (marks ++ (mark' ∷ []))) next (record { names = links.names; calls = calls; last = links.last; first = links.first })
    one next k =
        let Q : List ℤ → Type 0 = λ own. HasTaken before own next (record { names = links.names; calls = calls; last = links.last; first = links.first }) in
        subst Q (sym same) (record { ends = record { linked = t.ends.linked; names = t.ends.names; last = t.ends.last; first = t.ends.first }; calls = k.0; clashes = k.1 })

    by : AreRecorded (marks ++ (mark' ∷ [])) → IfOk r (λ next. HasTaken before (begun (marks ++ (mark' ∷ []))) next (record { names = links.names; calls = calls; last = links.last; first = links.first }))
    by recorded =
        let new = begun_before marks begin.call (string_bytes begin.client) begin.message.items recorded in
        IfOk-weaker r _ _ one (h (numbers_of before) (begun marks) long t.calls t.clashes (subst (λ (n : ℤ). ¬ (Contains (begun marks) n)) (sym number) new))

pub taken_end : (before : List SegmentOf) (marks : List MarkOf) (mark : Mark) (end : End') (links : Links) (clash : Option Clash) → mark ≡ End end → HasTaken before (begun marks) clash links
    → HasTaken before (begun (marks ++ (mark_of mark ∷ []))) clash links
taken_end before marks mark end links clash is t =
    let M : Mark → Type 0 = λ m. HasTaken before (begun (marks ++ (mark_of m ∷ []))) clash links in
    let L : List ℤ → Type 0 = λ own. HasTaken before own clash links in
    let same : begun (marks ++ (ends end.call end.message.items ∷ [])) ≡ begun marks = begun-append marks (ends end.call end.message.items ∷ []) ∙ append-nil (begun marks) in
    subst M (sym is) (subst L (sym same) t)

-- the end of a segment
module _ (old now new : Links) (name bytes : List ℕ) (marks : List MarkOf) (head : Option Head) (clash : Option Clash) (r : Result (Option Gap) AllocError) where
  abbrev Ends : Type 0
  Ends = (before : List SegmentOf) (segment : SegmentOf) → HasTaken before (begun segment.marks) clash now → IsSegment segment → segment.name ≡ name → HasSeals head segment.seals
      → IfOk r (λ gap. MatchOption gap (HaveLinked (before ++ (segment ∷ [])) new) (IsGap before segment))

  pub end_linked : r ≡ Ok None → IsTranscript bytes marks → IsKnownBy bytes marks head → ((before : List SegmentOf) → HaveLinked before old → HasTaken before (begun marks) clash now)
      → Ends → LinksOn old new name bytes marks
  end_linked is transcript known taken h =
      let s = segment_of name bytes marks head transcript known in
      let P : Result (Option Gap) AllocError → List SegmentOf → Type 0 = λ x before. IfOk x (λ gap. MatchOption gap (HaveLinked (before ++ (s.0 ∷ [])) new) (IsGap before s.0)) in
      record {
        segment = s.0;
        of = s.1;
        on = λ before l. subst (λ (x : Result (Option Gap) AllocError). P x before) is
            (h before s.0 (subst (λ (m : List MarkOf). HasTaken before (begun m) clash now) (sym s.1.marks_are) (taken before l)) s.1.is s.1.named s.2);
      }

  pub end_gap : (gap : Gap) → r ≡ Ok (Some gap) → IsTranscript bytes marks → IsKnownBy bytes marks head
      → ((before : List SegmentOf) → HaveLinked before old → HasTaken before (begun marks) clash now) → Ends → HasGap old name bytes gap
  end_gap gap is transcript known taken h =
      let s = segment_of name bytes marks head transcript known in
      let P : Result (Option Gap) AllocError → List SegmentOf → Type 0 = λ x before. IfOk x (λ g. MatchOption g (HaveLinked (before ++ (s.0 ∷ [])) new) (IsGap before s.0)) in
      record {
        segment = s.0;
        of = record { named = s.1.named; bytes_are = s.1.bytes_are; marks_are = refl; is = s.1.is };
        gap_is = λ before l. subst (λ (x : Result (Option Gap) AllocError). P x before) is
            (h before s.0 (subst (λ (m : List MarkOf). HasTaken before (begun m) clash now) (sym s.1.marks_are) (taken before l)) s.1.is s.1.named s.2);
      }

-- ---- by what was read

module _ {R : Type 0} (old now new : Links) (name : List ℕ) (source : RecordedMarks R) (bytes : List ℕ) (ended : Bool) (marks : List MarkOf) (clash : Option Clash) (came : came_of (input_of source) ≡ bytes)
    (end : is_ended (input_of source) ≡ ended) (t : IsTaken marks source clash old now) where
  pub linked_by : LinksOn old new name (came_of (input_of source)) marks → LinksOn old new name bytes marks
  linked_by l = subst (λ (b : List ℕ). LinksOn old new name b marks) came l

  pub seen_by : IsTrue ended
  seen_by = subst (λ (b : Bool). IsTrue b) end t.seen

  pub unlinked_by : (failed : Bool) (file : List ℕ) (u : Unlinked) → EndsUnlinked old name (came_of (input_of source)) u → IsUnlinked old name bytes ended failed file u
  unlinked_by failed file (unlinked.Fault fault) e = subst (λ (f : RecordFault). Tells TranscriptFault IsTranscriptUpTo file failed f) (sym e) (no_memory file failed)
  unlinked_by failed file (unlinked.Gap gap) e = (subst (λ (b : List ℕ). HasGap old name b gap) came e, seen_by)

  pub links_end : {T : Type 0} (r : Result T Unlinked) → MatchResult r (λ x. LinksOn old new name (came_of (input_of source)) marks) (EndsUnlinked old name (came_of (input_of source)))
      → IfOk r (λ x. (m : List MarkOf) × LinksOn old new name bytes m × IsTrue ended)
  links_end (Ok x) l = (marks, linked_by l, seen_by)
  links_end (Err u) l = tt

  pub unlinked_end : {T : Type 0} (failed : Bool) (file : List ℕ) (r : Result T Unlinked) → MatchResult r (λ x. LinksOn old new name (came_of (input_of source)) marks) (EndsUnlinked old name (came_of (input_of source)))
      → IfErr r (IsUnlinked old name bytes ended failed file)
  unlinked_end failed file (Ok x) e = tt
  unlinked_end failed file (Err u) e = unlinked_by failed file u e
