-- Witnesses that are written.
use Rattle.std.proofs.Common.{◌≡◌, ◌≤◌, ℕ, suc, List, [], ◌∷◌, ◌++◌, map, take, drop, get_or, ◌⊎◌, inl, inr, refl, sym, subst, arith}
use Rattle.std.specs.Prelude.{All}
use Rattle.std.specs.List.{flat_map}
use Rattle.std.proofs.lemmas.List.{length-append, get_or_default}
use Rattle.std.proofs.lemmas.List.Elements.{All-push}
use Rattle.std.proofs.Math.ListN.{get_or-append}
use Rattle.kmipa_ttlv.specs.Tree.{Tree}
use Rattle.kmipa_ttlv.specs.Stream.{Begins}
use Rattle.kmipa_ttlv.specs.Written.{spelling, Legal}
use Rattle.kmipa_record.specs.Witnesses.{TurnOf, turn_item, witness_header, version_number, ArePayloads, AreBirths, Admits, IsWitness}
use Rattle.kmipa_record.specs.Writing.{Appends, IsWrittenWitness, Unwritten, no_memory, no_file, AddsAll, Refused, starved, refused, IsWritable, Serves, IsLowest}
use Rattle.kmipa_record.specs.declared.fault.RecordKind.{RecordKind}
use Rattle.kmipa_record.specs.declared.version.Version.{Version}
use Rattle.kmipa_record.specs.declared.version.Version.TheVariants.{First, Second, Third, Fourth}
use Rattle.kmipa_record.proofs.WritingLemmas.{mapped_here, one_of, begins_spelled, legal_in}

-- ---- versions

-- the versions from the fourth on are the fourth
fourth : (w : Version) → 4 ≤ version_number w → w ≡ Fourth
fourth First le = absurd (omega (arith, le))
fourth Second le = absurd (omega (arith, le))
fourth Third le = absurd (omega (arith, le))
fourth Fourth le = refl

still_fourth : (v w : Version) → version_number v ≤ version_number w → v ≡ Fourth → w ≡ Fourth
still_fourth v w le e = fourth w (subst (λ (x : Version). version_number x ≤ version_number w) e le)

pub serves_up : (v w : Version) (t : TurnOf) → version_number v ≤ version_number w → Serves v t → Serves w t
serves_up v w t le s = record {
  answered = λ h. omega (arith, le, s.answered h);
  ordered = λ h. omega (arith, le, s.ordered h);
  timed = λ h. still_fourth v w le (s.timed h);
  born = λ h. still_fourth v w le (s.born h);
  aside = λ h. still_fourth v w le (s.aside h);
}

-- what a version admits, and what it serves
pub admits_served : (v : Version) (t : TurnOf) → ArePayloads t.fills → AreBirths t.births → Serves v t → Admits v t
admits_served v t payloads attributes s =
    record { answered = s.answered; ordered = s.ordered; timed = s.timed; born = s.born; aside = s.aside; payloads = payloads; attributes = attributes }

pub served : (v : Version) (t : TurnOf) → Admits v t → Serves v t
served v t a = record { answered = a.answered; ordered = a.ordered; timed = a.timed; born = a.born; aside = a.aside }

front_all : (P : TurnOf → Type 0) (turns : List TurnOf) (turn : TurnOf) → All P (turns ++ turn ∷ []) → All P turns
front_all P turns turn all = λ k d h. subst P (get_or-append turns (turn ∷ []) d k h) (all k d (omega (arith, h, length-append turns (turn ∷ []))))

pub lowest_more : (turns : List TurnOf) (turn : TurnOf) (v n w : Version) → IsLowest v turns → Serves n turn → ((other : Version) → Serves other turn → version_number n ≤ version_number other)
    → (version_number v ≤ version_number w) × (version_number n ≤ version_number w) × ((w ≡ v) ⊎ (w ≡ n)) → IsLowest w (turns ++ turn ∷ [])
lowest_more turns turn v n w low serves least is = record {
  serves = All-push (Serves w) turns turn (λ k d h. serves_up v w (get_or turns k d) is.0 (low.serves k d h)) (serves_up n w turn is.1 serves);
  least = λ other all.
      elim is.2 [
        | inl e ↦ subst (λ (x : Version). version_number x ≤ version_number other) (sym e) (low.least other (front_all (Serves other) turns turn all))
        | inr e ↦ subst (λ (x : Version). version_number x ≤ version_number other) (sym e) (least other (one_of (Serves other) (turns ++ turn ∷ []) turns [] turn refl all))
      ];
}

-- ---- the header

pub header_legal : (version : Version) → Legal 16 (witness_header version)
header_legal version = record { levels = omega arith; sound = (tt, tt); small = omega arith }

-- ---- whole witnesses

writable : (bytes : List ℕ) (turns : List TurnOf) → IsWitness bytes turns → All IsWritable turns
writable bytes turns w = λ k d h.
    let t = get_or turns k d in
    record {
      number = w.numbered k d h;
      payloads = (w.admitted k d h).payloads;
      attributes = (w.admitted k d h).attributes;
      legal = legal_in (witness_header w.version ∷ map turn_item (take k turns)) (map turn_item (drop (suc k) turns)) (turn_item t) bytes []
          (subst (λ (l : List Tree). Begins (witness_header w.version ∷ l) bytes []) (mapped_here turn_item turns k t h (get_or_default turns k d t h)) w.spelled);
    }

pub unwritten : (turns : List TurnOf) (kind : RecordKind) → Refused (All IsWritable turns) kind → Unwritten (λ bytes. IsWitness bytes turns) (record { offset = 0; kind = kind })
unwritten turns kind (starved k) = no_memory k
unwritten turns kind (refused k n) = no_file refl k (λ bytes w. n (writable bytes turns w))

pub written : (turns : List TurnOf) (version : Version) (old new : List ℕ) → AddsAll (witness_header version ∷ map turn_item turns) old new → IsLowest version turns → All IsWritable turns
    → Appends (IsWrittenWitness turns) old new
written turns version old new all low able = record {
  appended = flat_map spelling (witness_header version ∷ map turn_item turns);
  after = all.after;
  is = record {
    padded = record { items = witness_header version ∷ map turn_item turns; are = refl };
    is = record {
      version = version;
      spelled = begins_spelled (witness_header version ∷ map turn_item turns) all.spelled;
      admitted = λ k d h. admits_served version (get_or turns k d) (able k d h).payloads (able k d h).attributes (low.serves k d h);
      numbered = λ k d h. (able k d h).number;
    };
    lowest = λ other a. low.least other (λ k d h. served other (get_or turns k d) (a k d h));
  };
}
