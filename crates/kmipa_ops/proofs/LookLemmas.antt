-- Operations that only look keep the laws of operations.
use Rattle.std.proofs.Common.{◌≡◌, ℕ, ℤ, true, false, List, find, Option, Some, None, refl, sym, ◌∙◌, subst, inl, ap, ◌⊎◌, ◌↔◌}
use Rattle.kmipa_object.specs.Inventory.{Card, cards}
use Rattle.kmipa_store.specs.Ledger.{cards_of}
use Rattle.kmipa_store.proofs.InventoryLemmas.{cards-inv}
use Rattle.kmipa_msgs.specs.Messages.{PayloadOf}
use Rattle.kmipa_ops.specs.declared.why.Why.{Why}
use Rattle.kmipa_ops.specs.Looking.{Look, LookJudging, look_deed, look_judging}
use Rattle.kmipa_ops.proofs.StepLemmas.{still_step}
use Rattle.kmipa_ops.proofs.DeedLaws.{outer_whys, IsDeed}
use Rattle.std.specs.Bool.{Decides}
use Rattle.kmipa_ttlv.specs.Tree.{Trees}
use Rattle.kmipa_ops.specs.Sayable.{ShowsSayable}

pub record IsLook (l : Look) (j : LookJudging l) (Says : Trees → PayloadOf → Type 0) (Sayable : l.Shown → Type 0) : Type 0 where
  pub back : (x : l.Shown) → l.seen (l.payload x) ≡ Some x
  pub each : (p : PayloadOf) → ((x : l.Shown) × (p ≡ l.payload x)) ⊎ ((l.seen p ≡ None) × ((ts : Trees) → Says ts p → ⊥))
  pub carries : (x : l.Shown) → Sayable x ↔ (l.says x × ShowsSayable (l.payload x))
  pub quiet : (cs : List Card) (before : Option (List ℕ)) (t : ℤ) (shown : Option l.Shown) → find (j.speaks cs before t shown) outer_whys ≡ None
  pub covers : (cs : List Card) (before : Option (List ℕ)) (t : ℤ) (x : l.Shown) (w : Why) → j.speaks cs before t None w ≡ true → j.speaks cs before t (Some x) w ≡ true
  -- what is shown is right exactly where nothing speaks against it
  pub right : (cs : List Card) (before : Option (List ℕ)) (t : ℤ) (x : l.Shown) → ((w : Why) → j.speaks cs before t (Some x) w ≡ false) → l.Sees cs before t x
  pub wrong : (cs : List Card) (before : Option (List ℕ)) (t : ℤ) (x : l.Shown) (w : Why) → j.speaks cs before t (Some x) w ≡ true → l.Sees cs before t x → ⊥
  -- where the payload may be left out: something right can be shown, and it leaves the placeholder as no payload does
  pub hidden : (cs : List Card) (before : Option (List ℕ)) (t : ℤ) → l.may_lack ≡ true → ((w : Why) → j.speaks cs before t None w ≡ false) → (x : l.Shown) × l.says x × l.Sees cs before t x
  pub keeps : (before : Option (List ℕ)) (x : l.Shown) → l.may_lack ≡ true → l.holds before (Some x) ≡ l.holds before None
  -- its test says what its reasons mean
  pub decides : (cs : List Card) (before : Option (List ℕ)) (t : ℤ) (shown : Option l.Shown) (w : Why) → Decides (j.speaks cs before t shown w) (j.means cs before t shown w)

pub is_look : (l : Look) (j : LookJudging l) {Says : Trees → PayloadOf → Type 0} {Sayable : l.Shown → Type 0} → IsLook l j Says Sayable → IsDeed (look_deed l) (look_judging l j) Says Sayable
is_look l j is = record {
  back = is.back;
  each = is.each;
  carries = is.carries;
  quiet = λ rules m before t shown. is.quiet (cards_of m.objects) before t shown;
  covers = λ rules m before t x w h. is.covers (cards_of m.objects) before t x w h;
  step = λ rules m before t x sound brought shown silent.
      still_step (λ V V' p. l.Sees (cards V) before t x × (V' ≡ V) × (p ≡ l.holds before (Some x))) m (l.holds before (Some x)) sound
      (λ c ch. (subst (λ (cs : List Card). l.Sees cs before t x) (sym (cards-inv c m.objects)) (is.right (cards_of m.objects) before t x silent), refl, refl))
      (λ V V' p y. (y.1, y.2));
  never = λ rules m before t x w h c ch V p y. is.wrong (cards_of m.objects) before t x w h (subst (λ (cs : List Card). l.Sees cs before t x) (cards-inv c m.objects) y.0);
  hidden = λ rules m before t may sound silent.
      still_step (λ V V' p. (x : l.Shown) × l.says x × (l.Sees (cards V) before t x × (V' ≡ V) × (p ≡ l.holds before (Some x)))) m (l.holds before None) sound
      (λ c ch.
      let h = is.hidden (cards_of m.objects) before t may silent in
      (h.0, h.1, (subst (λ (cs : List Card). l.Sees cs before t h.0) (sym (cards-inv c m.objects)) h.2, refl, sym (is.keeps before h.0 may))))
      (λ V V' p y. (y.2.1, y.2.2 ∙ is.keeps before y.0 may));
  learns = λ m before t shown number bytes e. inl e;
  decides = λ rules m before t shown w. is.decides (cards_of m.objects) before t shown w;
  same = λ rules m n same before t shown w. ap (λ (cs : List Card). j.speaks cs before t shown w) same.0;
}
