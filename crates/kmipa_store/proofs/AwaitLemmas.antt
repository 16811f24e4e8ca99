-- At each mark the dates of the objects stand in order.
use Rattle.std.proofs.Common.{◌≡◌, ℕ, zero, suc, slice_get, true, List, [], ◌∷◌, ◌++◌, length, reverse, Option, Some, None, option_to_list, Result, Ok, Err, refl, ap, sym, ◌∙◌, subst, append-nil, take, ◌-◌, ◌≤◌, arith}
use Rattle.std.proofs.lemmas.List.{length-reverse}
use Rattle.kmipa_store.specs.Histories.{history, rolled, fits, while_marked, Logs, RolledTo}
use Rattle.kmipa_store.specs.Journal.{dated_at_marks, object_places}
use Rattle.kmipa_store.specs.Ledger.{Held}
use Rattle.kmipa_store.specs.Present.{AreAwaited, Dated, EachAwaited, LogsObjects, Standing, dated_unmade, standing_unmade}
use Rattle.kmipa_store.specs.declared.changes.ObjectChange.{ObjectChange}
use Rattle.kmipa_store.specs.declared.changes.Place.{Place}
use Rattle.kmipa_store.specs.declared.fault.StoreFault.{StoreFault}
use Rattle.kmipa_store.proofs.HistoryLemmas.{history_keep, history_logged, history_mark, history_rolled, fits_head, fits_logs, forgotten_logs}
use Rattle.kmipa_store.proofs.JournalLemmas.{places_last}

all_more : (d : Dated) (ds : List Dated) → AreAwaited d → EachAwaited ds → (i : ℕ) (x : Dated) → slice_get (d ∷ ds) i ≡ Some x → AreAwaited x
all_more d ds a e zero x at = let is : d ≡ x = cc in subst (λ (y : Dated). AreAwaited y) is a
all_more d ds a e (suc i) x at = e.each i x at

each_more : (d : Dated) (ds : List Dated) → AreAwaited d → EachAwaited ds → EachAwaited (d ∷ ds)
each_more d ds a e = record { each = all_more d ds a e }

each_first : (d : Dated) (ds : List Dated) → EachAwaited (d ∷ ds) → AreAwaited d
each_first d ds e = e.each 0 d refl

each_rest : (d : Dated) (ds : List Dated) → EachAwaited (d ∷ ds) → EachAwaited ds
each_rest d ds e = record { each = λ i x at. e.each (suc i) x at }

-- what stands in the log of the present is logged of what goes back
pub logs_dated : (ps : List Place) (x y : Standing) (cs ds : List ObjectChange) (wanted : List Held) (r : Result (Unit {0}) StoreFault)
    → LogsObjects ps x cs wanted r y ds → Logs dated_unmade ps x.dated cs y.dated r y.dated ds
logs_dated ps x y cs ds wanted (Ok u) l = (refl, l.2)
logs_dated ps x y cs ds wanted (Err f) l = (l.0, ap (λ (s : Standing). s.dated) l.1, l.2)

pub fits_after : (ps : List Place) (x y : Standing) (cs ds : List ObjectChange) (wanted : List Held) (r : Result (Unit {0}) StoreFault)
    → LogsObjects ps x cs wanted r y ds → fits (length cs) (object_places ps) ≡ true → fits (length ds) (object_places ps) ≡ true
fits_after ps x y cs ds wanted r l f = fits_logs dated_unmade (λ (q : Place). q.objects) ps y.dated x.dated y.dated cs ds r (logs_dated ps x y cs ds wanted r l) f

pub forgotten_after : (ps : List Place) (x y : Standing) (cs ds : List ObjectChange) (wanted : List Held) (r : Result (Unit {0}) StoreFault)
    → LogsObjects ps x cs wanted r y ds → while_marked ps cs ≡ cs → while_marked ps ds ≡ ds
forgotten_after ps x y cs ds wanted r l f = forgotten_logs dated_unmade ps y.dated x.dated y.dated cs ds r (logs_dated ps x y cs ds wanted r l) f

pub awaited_after : (ps : List Place) (x y : Standing) (cs ds : List ObjectChange) (wanted : List Held) (r : Result (Unit {0}) StoreFault)
    → LogsObjects ps x cs wanted r y ds → AreAwaited x.dated → AreAwaited y.dated
awaited_after ps x y cs ds wanted (Ok u) l a = l.3 a
awaited_after ps x y cs ds wanted (Err f) l a = subst (λ (s : Standing). AreAwaited s.dated) (sym l.1) a

-- and at each mark as before
pub each_after : (ps : List Place) (x y : Standing) (cs ds : List ObjectChange) (wanted : List Held) (r : Result (Unit {0}) StoreFault)
    → LogsObjects ps x cs wanted r y ds → fits (length cs) (object_places ps) ≡ true → EachAwaited (dated_at_marks x.dated cs ps) → EachAwaited (dated_at_marks y.dated ds ps)
each_after ps x y cs ds wanted (Ok u) l f e = subst (λ (xs : List Dated). EachAwaited xs) (sym (history_logged dated_unmade (λ (q : Place). q.objects) ps x.dated y.dated cs ds l.2 f)) e
each_after ps x y cs ds wanted (Err fault) l f e =
    subst (λ (s : Standing). EachAwaited (dated_at_marks s.dated ds ps)) (sym l.1) (subst (λ (es : List ObjectChange). EachAwaited (dated_at_marks x.dated es ps)) (sym l.2) e)

-- a mark more
pub each_marked : (x : Dated) (cs : List ObjectChange) (ps ps1 : List Place) (p : Place) → ps1 ≡ ps ++ p ∷ [] → p.objects ≡ length cs
    → AreAwaited x → EachAwaited (dated_at_marks x cs ps) → EachAwaited (dated_at_marks x cs ps1)
each_marked x cs ps ps1 p e is a each =
    let same : history dated_unmade x (reverse cs) (object_places ps1) ≡ x ∷ history dated_unmade x (reverse cs) (object_places ps) =
    ap (history dated_unmade x (reverse cs)) (places_last (λ (q : Place). q.objects) ps1 ps p e ∙ ap (λ (n : ℕ). n ∷ object_places ps) (is ∙ sym (length-reverse cs)))
    ∙ history_mark dated_unmade x (reverse cs) (object_places ps) in
    subst (λ (xs : List Dated). EachAwaited xs) (sym same) (each_more x (dated_at_marks x cs ps) a each)

first_places : (x : Dated) (cs : List ObjectChange) (ps ps1 : List Place) (p : Place) → ps ≡ ps1 ++ p ∷ [] → EachAwaited (dated_at_marks x cs ps) → EachAwaited (history dated_unmade x (reverse cs) (p.objects ∷ object_places ps1))
first_places x cs ps ps1 p e each = subst (λ (ns : List ℕ). EachAwaited (history dated_unmade x (reverse cs) ns)) (places_last (λ (q : Place). q.objects) ps ps1 p e) each

-- a mark fewer, and nothing goes back
pub each_kept : (x : Dated) (cs : List ObjectChange) (ps ps1 : List Place) (r : Option Place) → ps ≡ ps1 ++ option_to_list r → fits (length cs) (object_places ps) ≡ true
    → EachAwaited (dated_at_marks x cs ps) → EachAwaited (dated_at_marks x cs ps1)
each_kept x cs ps ps1 None e f each = subst (λ (qs : List Place). EachAwaited (dated_at_marks x cs qs)) (e ∙ append-nil ps1) each
each_kept x cs ps ps1 (Some p) e f each =
    let g = fits_head (length cs) p.objects (object_places ps1) (ap (fits (length cs)) (sym (places_last (λ (q : Place). q.objects) ps ps1 p e)) ∙ f) in
    let below : p.objects ≤ length (reverse cs) = omega (arith, g.0, length-reverse cs) in
    subst (λ (xs : List Dated). EachAwaited xs) (sym (history_keep dated_unmade x (reverse cs) p.objects (object_places ps1) below g.1)) (each_rest _ _ (first_places x cs ps ps1 p e each))

-- back at the newest mark
pub each_back : (x y : Dated) (cs ds : List ObjectChange) (ps ps1 : List Place) (p : Place) → ps ≡ ps1 ++ p ∷ [] → RolledTo dated_unmade x cs p.objects y ds
    → EachAwaited (dated_at_marks x cs ps) → AreAwaited y × EachAwaited (dated_at_marks y ds ps1)
each_back x y cs ds ps ps1 p e b each =
    let all : EachAwaited (y ∷ dated_at_marks y ds ps1) = subst (λ (xs : List Dated). EachAwaited xs) (history_rolled dated_unmade x y cs ds p.objects (object_places ps1) b) (first_places x cs ps ps1 p e each) in
    (each_first y (dated_at_marks y ds ps1) all, each_rest y (dated_at_marks y ds ps1) all)

-- nothing stays written down where no mark stands
pub each_forgotten : (x : Dated) (cs ds : List ObjectChange) (ps : List Place) → ds ≡ while_marked ps cs → EachAwaited (dated_at_marks x cs ps) → EachAwaited (dated_at_marks x ds ps)
each_forgotten x cs ds [] e each = each
each_forgotten x cs ds (p ∷ ps) e each = subst (λ (es : List ObjectChange). EachAwaited (dated_at_marks x es (p ∷ ps))) (sym e) each

-- changes taken back leave the moment
rolled_parts : (x : Standing) (cs : List ObjectChange) → rolled standing_unmade x cs ≡ record { dated = rolled dated_unmade x.dated cs; moment = x.moment }
rolled_parts x [] = refl
rolled_parts x (c ∷ cs) = rolled_parts (standing_unmade x c) cs

pub rolled_dated : (x y : Standing) (cs ds : List ObjectChange) (count : ℕ) → RolledTo standing_unmade x cs count y ds → RolledTo dated_unmade x.dated cs count y.dated ds
rolled_dated x y cs ds count b = record {
  value = ap (λ (s : Standing). s.dated) (b.value ∙ rolled_parts x (take (length cs - count) (reverse cs)));
  left = b.left;
}

pub rolled_moment : (x y : Standing) (cs ds : List ObjectChange) (count : ℕ) → RolledTo standing_unmade x cs count y ds → y.moment ≡ x.moment
rolled_moment x y cs ds count b = ap (λ (s : Standing). s.moment) (b.value ∙ rolled_parts x (take (length cs - count) (reverse cs)))
