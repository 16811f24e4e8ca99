-- The transcripts ahead.
use Rattle.std.proofs.Common.{◌≡◌, ◌<◌, ℕ, ℤ, Bool, true, false, List, [], ◌++◌, length, Option, Some, None, refl, sym, ◌∙◌, subst}
use Rattle.std.proofs.lemmas.List.{append-nil, append_assoc}
use Rattle.kmipa_record.specs.Marks.{MarkOf, begins, ends, AreRecorded}
use Rattle.kmipa_check.specs.Calls.{HasBegin, HasEnd}
use Rattle.kmipa_stream.specs.Ahead.{IsAhead, IsFound}
use Rattle.kmipa_check.specs.Calls.{IsOutsideOn}
use Rattle.kmipa_msgs.specs.declared.kind.OutsideKind.{OutsideKind}
use Rattle.kmipa_check.specs.declared.fault.Side.{Side}
use Rattle.kmipa_check.specs.declared.fault.Side.TheVariants.{Client, Server}
use Rattle.kmipa_stream.specs.declared.lowest.Found.{Found}
use Rattle.kmipa_stream.proofs.ListLemmas.{grown_at, front_at}

pub begin_grows : (marks rest : List MarkOf) (n : ℤ) (begin : ℕ) (asked : List ℕ) → HasBegin marks n begin asked → HasBegin (marks ++ rest) n begin asked
begin_grows marks rest n begin asked h = record { client = h.client; there = grown_at marks rest begin (begins n h.client asked) h.there }

pub end_grows : (marks rest : List MarkOf) (n : ℤ) (end : ℕ) (answered : List ℕ) → HasEnd marks n end answered → HasEnd (marks ++ rest) n end answered
end_grows marks rest n end answered h = grown_at marks rest end (ends n answered) h

module _ (closed : Bool) (marks all : List MarkOf) (a : IsAhead closed marks all) where
  pub begin_ahead : (n : ℤ) (begin : ℕ) (asked : List ℕ) → HasBegin marks n begin asked → HasBegin all n begin asked
  begin_ahead n begin asked h =
      let P : List MarkOf → Type 0 = λ ms. HasBegin ms n begin asked in
      subst P (sym a.is) (begin_grows marks a.rest n begin asked h)

  pub end_ahead : (n : ℤ) (end : ℕ) (answered : List ℕ) → HasEnd marks n end answered → HasEnd all n end answered
  end_ahead n end answered h =
      let P : List MarkOf → Type 0 = λ ms. HasEnd ms n end answered in
      subst P (sym a.is) (end_grows marks a.rest n end answered h)

  -- an end mark among the first has come
  pub end_behind : (n : ℤ) (end : ℕ) (answered : List ℕ) → end < length marks → HasEnd all n end answered → HasEnd marks n end answered
  end_behind n end answered below h =
      let P : List MarkOf → Type 0 = λ ms. HasEnd ms n end answered in
      front_at marks a.rest end (ends n answered) below (subst P a.is h)

-- of a closed transcript no other is ahead
pub closed_is : (marks all : List MarkOf) → IsAhead true marks all → all ≡ marks
closed_is marks all a =
    let P : List MarkOf → Type 0 = λ rest. all ≡ marks ++ rest in
    subst P (a.none refl) a.is ∙ append-nil marks

pub closed_as : (closed : Bool) (marks all : List MarkOf) → closed ≡ true → IsAhead closed marks all → all ≡ marks
closed_as closed marks all e a =
    let P : Bool → Type 0 = λ b. IsAhead b marks all in
    closed_is marks all (subst P e a)

-- with more marks fewer are ahead
pub ahead_less : (marks more all : List MarkOf) → IsAhead false (marks ++ more) all → IsAhead false marks all
ahead_less marks more all a = record { rest = more ++ a.rest; is = a.is ∙ append_assoc marks more a.rest; none = λ e. absurd cc; recorded = a.recorded }

-- and once it is closed
pub ahead_open : (marks all : List MarkOf) → IsAhead true marks all → IsAhead false marks all
ahead_open marks all a = record { rest = a.rest; is = a.is; none = λ e. absurd cc; recorded = a.recorded }

pub ahead_itself : (marks : List MarkOf) → AreRecorded marks → IsAhead true marks marks
ahead_itself marks r = record { rest = []; is = sym (append-nil marks); none = λ e. refl; recorded = r }

-- ---- what was found stays outside

outside_grows : (marks rest : List MarkOf) (n : ℤ) (side : Side) (asked : List ℕ) (item : ℕ) (kind : OutsideKind) → IsOutsideOn marks n side asked item kind → IsOutsideOn (marks ++ rest) n side asked item kind
outside_grows marks rest n Client asked item kind o = o
outside_grows marks rest n Server asked item kind o = record {
  end = o.end;
  answered = o.answered;
  ended = end_grows marks rest n o.end o.answered o.ended;
  request = o.request;
  said = o.said;
  outside = o.outside;
}

pub found_grows : (marks rest : List MarkOf) (lowest : Option Found) → IsFound marks lowest → IsFound (marks ++ rest) lowest
found_grows marks rest None f = tt
found_grows marks rest (Some found) f = record {
  asked = f.asked;
  carried = begin_grows marks rest found.number found.begin f.asked f.carried;
  outside = outside_grows marks rest found.number found.side f.asked found.outside.item found.outside.kind f.outside;
}
