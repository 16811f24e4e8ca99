-- The calls of a transcript follow its marks.
use Rattle.std.proofs.Common.{◌≡◌, ◌≢◌, ◌≤◌, ◌<◌, ℕ, ℤ, List, [], ◌∷◌, ◌++◌, length, Bool, true, false, Option, None, Some, inl, inr, refl, sym, ap, subst, ◌∙◌, arith}
use Rattle.std.specs.Prelude.{Contains, IsSome}
use Rattle.std.specs.Ordering.{int_eq}
use Rattle.std.proofs.lemmas.Bool.Decides.{Decides-int_eq}
use Rattle.std.proofs.lemmas.List.{length-append, append-nil}
use Rattle.std.proofs.lemmas.List.Elements.{Contains-append_left, Contains-push, Contains-push_cases}
use Rattle.kmipa_record.specs.Marks.{MarkOf, begins, ends, call_of, begun, ended, AreRecorded, MarkFault, BeginFault, EndFault, below_one, used, one_too_many, end_below_one, not_begun, ended_before}
use Rattle.kmipa_record.specs.Calls.{progress_of, count_of, Puts, HasNone, BeginsCall, EndsCall, RefusesBegin, RefusesEnd, Takes, Refuses, StandsSo, Follow}
use Rattle.kmipa_record.specs.Calls as calls
use Rattle.kmipa_record.specs.Kinds.{ByCause}
use Rattle.kmipa_record.specs.declared.calls.Calls.{Calls}
use Rattle.kmipa_record.specs.declared.calls.Progress.{Progress}
use Rattle.kmipa_record.specs.declared.calls.Progress.TheVariants.{Open, Ended}
use Rattle.kmipa_record.specs.declared.fault.RecordKind.{RecordKind}
use Rattle.kmipa_record.specs.declared.fault.RecordKind.TheVariants.{Memory}
use Rattle.kmipa_record.proofs.MarkLemmas.{begun-append, ended-append, recorded_begin, recorded_end}

-- what is known of a call by its progress
pub at_progress : (marks : List MarkOf) (calls : Calls) (call : ℤ) (p : Option Progress) → progress_of calls call ≡ p → Follow marks calls → StandsSo marks call p
at_progress marks calls call p e f = subst (StandsSo marks call) e (f.each call)

-- no calls follow no marks
no_element : {A : Type 0} (x : A) → ¬ (Contains [] x)
no_element x c = absurd (omega (arith, c.1))

pub follow_none : (calls : Calls) → HasNone calls → Follow [] calls
follow_none calls h = record {
  each = λ call. subst (StandsSo [] call) (sym (h.each call)) (no_element call, no_element call);
  count = h.count;
}

-- ---- one more mark

others_begun : (marks : List MarkOf) (mark : MarkOf) (call : ℤ) → call_of mark ≢ call → Contains (begun (marks ++ mark ∷ [])) call → Contains (begun marks) call
others_begun marks (begins other client message) call ne c =
    elim (Contains-push_cases (begun marks) other call (subst (λ (l : List ℤ). Contains l call) (begun-append marks (begins other client message ∷ [])) c)) [ inl h ↦ h | inr e ↦ absurd (ne e) ]
others_begun marks (ends other message) call ne c = subst (λ (l : List ℤ). Contains l call) (begun-append marks (ends other message ∷ []) ∙ append-nil (begun marks)) c

others_ended : (marks : List MarkOf) (mark : MarkOf) (call : ℤ) → call_of mark ≢ call → Contains (ended (marks ++ mark ∷ [])) call → Contains (ended marks) call
others_ended marks (begins other client message) call ne c = subst (λ (l : List ℤ). Contains l call) (ended-append marks (begins other client message ∷ []) ∙ append-nil (ended marks)) c
others_ended marks (ends other message) call ne c =
    elim (Contains-push_cases (ended marks) other call (subst (λ (l : List ℤ). Contains l call) (ended-append marks (ends other message ∷ [])) c)) [ inl h ↦ h | inr e ↦ absurd (ne e) ]

more_begun : (xs ys : List MarkOf) (call : ℤ) → Contains (begun xs) call → Contains (begun (xs ++ ys)) call
more_begun xs ys call c = subst (λ (l : List ℤ). Contains l call) (sym (begun-append xs ys)) (Contains-append_left (begun xs) (begun ys) call c)

more_ended : (xs ys : List MarkOf) (call : ℤ) → Contains (ended xs) call → Contains (ended (xs ++ ys)) call
more_ended xs ys call c = subst (λ (l : List ℤ). Contains l call) (sym (ended-append xs ys)) (Contains-append_left (ended xs) (ended ys) call c)

others_stand : (marks : List MarkOf) (mark : MarkOf) (call : ℤ) (p : Option Progress) → call_of mark ≢ call → StandsSo marks call p → StandsSo (marks ++ mark ∷ []) call p
others_stand marks mark call None ne s = (λ c. s.0 (others_begun marks mark call ne c), λ c. s.1 (others_ended marks mark call ne c))
others_stand marks mark call (Some Open) ne s = (more_begun marks (mark ∷ []) call s.0, λ c. s.1 (others_ended marks mark call ne c))
others_stand marks mark call (Some Ended) ne s = (more_begun marks (mark ∷ []) call s.0, more_ended marks (mark ∷ []) call s.1)

-- each call stands right, if this one does
each_stands : (marks : List MarkOf) (mark : MarkOf) (old new : Calls) (p : Progress) → Follow marks old → Puts old new (call_of mark) p
    → StandsSo (marks ++ mark ∷ []) (call_of mark) (Some p) → (call : ℤ) (b : Bool) → int_eq (call_of mark) call ≡ b → StandsSo (marks ++ mark ∷ []) call (progress_of new call)
each_stands marks mark old new p f puts here call true e =
    let same : call_of mark ≡ call = (Decides-int_eq (call_of mark) call).0 e in
    subst (λ (c : ℤ). StandsSo (marks ++ mark ∷ []) c (progress_of new c)) same (subst (StandsSo (marks ++ mark ∷ []) (call_of mark)) (sym puts.here) here)
each_stands marks mark old new p f puts here call false e =
    let differs : call_of mark ≢ call = λ same. absurd (let yes = (Decides-int_eq (call_of mark) call).1 same in cc) in
    subst (StandsSo (marks ++ mark ∷ []) call) (sym (puts.others call (λ same. differs (sym same)))) (others_stand marks mark call (progress_of old call) differs (f.each call))

pub follow_begin : (marks : List MarkOf) (call : ℤ) (client message : List ℕ) (old new : Calls) → Follow marks old → BeginsCall old new call → Follow (marks ++ begins call client message ∷ []) new
follow_begin marks call client message old new f b =
    let mark = begins call client message in
    let free = at_progress marks old call None b.unused f in
    let known : Contains (begun (marks ++ mark ∷ [])) call = subst (λ (l : List ℤ). Contains l call) (sym (begun-append marks (mark ∷ []))) (Contains-push (begun marks) call) in
    let unended : ¬ (Contains (ended (marks ++ mark ∷ [])) call)
    = λ c. free.1 (subst (λ (l : List ℤ). Contains l call) (ended-append marks (mark ∷ []) ∙ append-nil (ended marks)) c) in
    record {
      each = λ other. each_stands marks mark old new Open f b.puts (known, unended) other (int_eq call other) refl;
      count = omega (arith, b.count, f.count, ap length (begun-append marks (mark ∷ [])), length-append (begun marks) (call ∷ []));
    }

pub follow_end : (marks : List MarkOf) (call : ℤ) (message : List ℕ) (old new : Calls) → Follow marks old → EndsCall old new call
    → Follow (marks ++ ends call message ∷ []) new
follow_end marks call message old new f b =
    let mark = ends call message in
    let open_now = at_progress marks old call (Some Open) b.is_open f in
    let done : Contains (ended (marks ++ mark ∷ [])) call = subst (λ (l : List ℤ). Contains l call) (sym (ended-append marks (mark ∷ []))) (Contains-push (ended marks) call) in
    record {
      each = λ other. each_stands marks mark old new Ended f b.puts (more_begun marks (mark ∷ []) call open_now.0, done) other (int_eq call other) refl;
      count = b.count ∙ f.count ∙ ap length (sym (begun-append marks (mark ∷ []) ∙ append-nil (begun marks)));
    }

-- one more mark of a transcript
pub one_more_taken : (marks : List MarkOf) (mark : MarkOf) (old new : Calls) → Takes old new mark → AreRecorded marks → Follow marks old → AreRecorded (marks ++ mark ∷ []) × Follow (marks ++ mark ∷ []) new
one_more_taken marks (begins call client message) old new b order f =
    let free = at_progress marks old call None b.unused f in (
      recorded_begin marks call client message order b.number free.0 (subst (λ (n : ℕ). n < 100_000) f.count b.few),
      follow_begin marks call client message old new f b,
    )
one_more_taken marks (ends call message) old new b order f =
    let is = at_progress marks old call (Some Open) b.is_open f in (
      recorded_end marks call message order b.number is.0 is.1,
      follow_end marks call message old new f b,
    )

-- ---- a mark that is refused

begun_some : (marks : List MarkOf) (call : ℤ) (p : Option Progress) → IsSome p → StandsSo marks call p → Contains (begun marks) call
begun_some marks call None some s = absurd cc
begun_some marks call (Some Open) some s = s.0
begun_some marks call (Some Ended) some s = s.0

refused_begin : (marks : List MarkOf) (old : Calls) (call : ℤ) (kind : RecordKind) → Follow marks old → kind ≢ Memory → RefusesBegin old call kind → BeginFault marks call kind
refused_begin marks old call kind f ne (calls.no_memory k) = absurd (ne k)
refused_begin marks old call kind f ne (calls.low h k) = below_one h k
refused_begin marks old call kind f ne (calls.used h k) = used (begun_some marks call (progress_of old call) h (f.each call)) k
refused_begin marks old call kind f ne (calls.many h e n k) = one_too_many h (at_progress marks old call None e f).0 (subst (λ (m : ℕ). 100_000 ≤ m) f.count n) k

refused_end : (marks : List MarkOf) (old : Calls) (call : ℤ) (kind : RecordKind) → Follow marks old → RefusesEnd old call kind → EndFault marks call kind
refused_end marks old call kind f (calls.end_low h k) = end_below_one h k
refused_end marks old call kind f (calls.unknown h e k) = not_begun h (at_progress marks old call None e f).0 k
refused_end marks old call kind f (calls.second h e k) = let s = at_progress marks old call (Some Ended) e f in ended_before h s.0 s.1 k

pub refused_mark : (marks : List MarkOf) (old : Calls) (mark : MarkOf) (kind : RecordKind) → Follow marks old → kind ≢ Memory → Refuses old mark kind → MarkFault marks mark kind
refused_mark marks old (begins call client message) kind f ne r = refused_begin marks old call kind f ne r
refused_mark marks old (ends call message) kind f ne r = refused_end marks old call kind f r

begin_cause : (old : Calls) (call : ℤ) (kind : RecordKind) (D M P : Type 0) → RefusesBegin old call kind → M → (kind ≢ Memory → P) → ByCause kind D M P
begin_cause old call kind D M P (calls.no_memory k) m p = subst (λ (x : RecordKind). ByCause x D M P) (sym k) m
begin_cause old call kind D M P (calls.low h k) m p = subst (λ (x : RecordKind). ByCause x D M P) (sym k) (p (λ e. absurd cc))
begin_cause old call kind D M P (calls.used h k) m p = subst (λ (x : RecordKind). ByCause x D M P) (sym k) (p (λ e. absurd cc))
begin_cause old call kind D M P (calls.many h e n k) m p = subst (λ (x : RecordKind). ByCause x D M P) (sym k) (p (λ e. absurd cc))

end_cause : (old : Calls) (call : ℤ) (kind : RecordKind) (D M P : Type 0) → RefusesEnd old call kind → (kind ≢ Memory → P) → ByCause kind D M P
end_cause old call kind D M P (calls.end_low h k) p = subst (λ (x : RecordKind). ByCause x D M P) (sym k) (p (λ e. absurd cc))
end_cause old call kind D M P (calls.unknown h e k) p = subst (λ (x : RecordKind). ByCause x D M P) (sym k) (p (λ e. absurd cc))
end_cause old call kind D M P (calls.second h e k) p = subst (λ (x : RecordKind). ByCause x D M P) (sym k) (p (λ e. absurd cc))

pub refused_cause : (old : Calls) (mark : MarkOf) (kind : RecordKind) (D M P : Type 0) → Refuses old mark kind → M → (kind ≢ Memory → P) → ByCause kind D M P
refused_cause old (begins call client message) kind D M P r m p = begin_cause old call kind D M P r m p
refused_cause old (ends call message) kind D M P r m p = end_cause old call kind D M P r p
