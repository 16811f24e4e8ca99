-- Objects and lists in which numbers are whole.
use Rattle.std.proofs.Common.{◌≡◌, ◌∙◌, ℕ, List, [], ◌∷◌, ◌++◌, Bool, true, false, refl, ap, Ordering, Less, Equal, Greater, String, Global}
use Rattle.std.specs.Prelude.{◌||◌, Result, Ok, Err, OnOk, OnErr}
use Rattle.std.specs.Ordering.{nat_cmp, match_ordering}
use Rattle.std.specs.Cmp.Lexicographic.{slice_cmp}
use Rattle.serde_json.specs.Data.{Data, Items, Members, no_items, item, no_members, member, put}
use Rattle.serde_json.specs.View.{view, items_view, members_view}
use Rattle.serde_json.specs.Written.{has_float, items_have_float, members_have_float}
use Rattle.serde_json.specs.declared.value.Value.{Value}
use Rattle.kmipa_json.specs.Told.{with_item}

abbrev Entry : Type 0
Entry = String Global × Value

left_false : (a b : Bool) → (a || b) ≡ false → a ≡ false
left_false true b h = h
left_false false b h = refl

right_false : (a b : Bool) → (a || b) ≡ false → b ≡ false
right_false true b h = absurd cc
right_false false b h = h

both_false : (a b : Bool) → a ≡ false → b ≡ false → (a || b) ≡ false
both_false a b ea eb = ap (λ (x : Bool). x || b) ea ∙ eb

chosen : (o : Ordering) (a b c : Members) → members_have_float a ≡ false → members_have_float b ≡ false → members_have_float c ≡ false
    → members_have_float (match_ordering o a b c) ≡ false
chosen Less a b c ha hb hc = ha
chosen Equal a b c ha hb hc = hb
chosen Greater a b c ha hb hc = hc

pub put_whole : (k : List ℕ) (d : Data) (ms : Members) → has_float d ≡ false → members_have_float ms ≡ false → members_have_float (put k d ms) ≡ false
put_whole k d no_members hd hm = both_false (has_float d) false hd refl
put_whole k d (member l e ms) hd hm =
    let he = left_false (has_float e) (members_have_float ms) hm in
    let hs = right_false (has_float e) (members_have_float ms) hm in
    chosen (slice_cmp nat_cmp k l) (member k d (member l e ms)) (member l d ms) (member l e (put k d ms))
    (both_false (has_float d) (members_have_float (member l e ms)) hd hm)
    (both_false (has_float d) (members_have_float ms) hd hs)
    (both_false (has_float e) (members_have_float (put k d ms)) he (put_whole k d ms hd hs))

pub with_item_whole : (d : Data) (ds : Items) → has_float d ≡ false → items_have_float ds ≡ false → items_have_float (with_item d ds) ≡ false
with_item_whole d no_items hd hm = both_false (has_float d) false hd refl
with_item_whole d (item e ds) hd hm =
    both_false (has_float e) (items_have_float (with_item d ds)) (left_false (has_float e) (items_have_float ds) hm)
    (with_item_whole d ds hd (right_false (has_float e) (items_have_float ds) hm))

pub pushed_item : (vs : List Value) (v : Value) → items_view (vs ++ v ∷ []) ≡ with_item (view v) (items_view vs)
pushed_item [] v = refl
pushed_item (u ∷ vs) v = ap (item (view u)) (pushed_item vs v)

-- ---- what a put or a push leaves, whether it succeeds or not

pub left_by_put : {T E : Type 0} (r : Result T E) (k : List ℕ) (d : Data) (old new : List Entry) → has_float d ≡ false → members_have_float (members_view old) ≡ false
    → OnOk r (members_view new ≡ put k d (members_view old)) → OnErr r (new ≡ old) → members_have_float (members_view new) ≡ false
left_by_put (Ok x) k d old new whole before ok err = ap members_have_float ok ∙ put_whole k d (members_view old) whole before
left_by_put (Err e) k d old new whole before ok err = ap (λ (es : List Entry). members_have_float (members_view es)) err ∙ before

pub left_by_push : {T E : Type 0} (r : Result T E) (v : Value) (old new : List Value) → has_float (view v) ≡ false → items_have_float (items_view old) ≡ false
    → OnOk r (new ≡ old ++ v ∷ []) → OnErr r (new ≡ old) → items_have_float (items_view new) ≡ false
left_by_push (Ok x) v old new whole before ok err =
    ap (λ (vs : List Value). items_have_float (items_view vs)) ok ∙ ap items_have_float (pushed_item old v) ∙ with_item_whole (view v) (items_view old) whole before
left_by_push (Err e) v old new whole before ok err = ap (λ (vs : List Value). items_have_float (items_view vs)) err ∙ before

pub pushed : {T E : Type 0} (r : Result T E) (v : Value) (old new : List Value) → OnOk r (new ≡ old ++ v ∷ []) → OnOk r (items_view new ≡ with_item (view v) (items_view old))
pushed (Ok x) v old new ok = ap items_view ok ∙ pushed_item old v
pushed (Err e) v old new ok = tt
