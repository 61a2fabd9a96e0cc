-- SPDX-License-Identifier: GPL-2.0-only
-- One operation more: the histories, the sums over views, and the words, on plain data.
use Rattle.shr_charge.proofs.Common.{◌≡◌, ℕ, ◌+◌, ◌%◌, ◌^◌, ◌<◌, ◌≢◌, Bool, true, false, not, ◌&&◌, eqb, ltb, cond, List, [], ◌∷◌, ◌++◌, length, set, sym, refl, ap, subst, ◌∙◌, ⊎_elim, arith, length-append, eq-eqb, pos, slice_get, sum_by, All, cases_Bool, eqb-true, nat_tests, sum_by_push, sum_by-append, All-push, All-append, All-weaker, All-nil, some, get_elem?, UseStep, Serial, ups, downs, sum_by-changed, sum_by-joined, sum_by-more, Each-set, Each-push, Uses, no_uses, own_uses, both_uses, one_use, usage_word, op_of, ups_at, downs_at, times_at, UseHistories, grown, StandsInHistory, AreUsed, ◌/◌, ◌-ℤ◌, IsNextUse, IsChargeHistory, Each-weaker}
use Rattle.shr_charge.proofs.Listing.{get_longer, get_last, get_below, stands_push}
use Rattle.shr_model.proofs.ChargeLaws.{ups_downs}

-- the operation that finds the word of a history is its next one
pub op_next : (g : ℕ) (by : Serial) (up : Bool) (word : ℕ) (history : List UseStep) → word ≡ usage_word history → downs history < 2 ^ 32 → IsNextUse g history (op_of g by up word)
op_next g by up word history e small = let d = ups_downs history in let high : word / 2 ^ 32 ≡ ups history = omega (arith, e, small) in let low : word % 2 ^ 32 ≡ downs history = omega (arith, e, small) in record {
  group = refl;
  number = omega (arith, high, low, d);
  found = ap (λ (k : ℕ). pos k -ℤ pos (word % 2 ^ 32)) high ∙ ap (λ (k : ℕ). pos (ups history) -ℤ pos k) low;
}

-- the number of an operation is the length of the history before it
below_more : (n k o : ℕ) → o ≡ k → cond (ltb n (k + 1)) 1 0 ≡ cond (ltb n k) 1 0 + cond (eqb o n) 1 0
below_more n k o e = grind (arith, nat_tests)

module _ (o : UseStep) (history : UseHistories) (k : ℕ) where
  pub grown_here : eqb o.group k ≡ true → grown history o k ≡ history k ++ o ∷ []
  grown_here e = ap (λ b. cond b (history k ++ o ∷ []) (history k)) e

  pub grown_else : eqb o.group k ≡ false → grown history o k ≡ history k
  grown_else e = ap (λ b. cond b (history k ++ o ∷ []) (history k)) e

eqb_apart : (a b : ℕ) → eqb a b ≡ false → a ≡ b → ⊥
eqb_apart a b f e = let t = eq-eqb a b e in let c : true ≡ false = sym t ∙ f in cc

-- what stands in a history still does
pub there_still : (o : UseStep) (history : UseHistories) (x : UseStep) → StandsInHistory history x → StandsInHistory (grown history o) x
there_still o history x there = ⊎_elim
    (λ t. ap (λ (l : List UseStep). slice_get l x.operation) (grown_here o history x.group t) ∙ get_longer (history x.group) (o ∷ []) x.operation x there)
    (λ f. ap (λ (l : List UseStep). slice_get l x.operation) (grown_else o history x.group f) ∙ there)
    (cases_Bool (eqb o.group x.group))

module _ (groups : ℕ) (usage usage' : ℕ → ℕ) (history : UseHistories) (uses : List Uses) (id : ℕ) (u : Uses) (me : get_elem? uses id ≡ some u) (used : AreUsed groups usage history uses) (o : UseStep) (c d : ℕ) (next : IsNextUse o.group (history o.group) o) where
  abbrev after : Uses
  after = both_uses u (one_use o c d)

  -- a sum over the views by a weight of operations gains that of the new one
  weight_more : (f : UseStep → ℕ) → sum_by (λ (w : Uses). sum_by f w.ops) (set uses id after) ≡ sum_by (λ (w : Uses). sum_by f w.ops) uses + f o
  weight_more f = omega (arith, sum_by-changed (λ (w : Uses). sum_by f w.ops) uses id u after me, sum_by_push f u.ops o)

  -- a number of operations of a kind
  flagged : (k : ℕ) (kind : UseStep → Bool) → sum_by (λ (w : Uses). sum_by (λ (x : UseStep). cond (eqb x.group k && kind x) 1 0) w.ops) uses ≡ sum_by (λ (x : UseStep). cond (kind x) 1 0) (history k)
      → sum_by (λ (w : Uses). sum_by (λ (x : UseStep). cond (eqb x.group k && kind x) 1 0) w.ops) (set uses id after) ≡ sum_by (λ (x : UseStep). cond (kind x) 1 0) (grown history o k)
  flagged k kind was = let more = weight_more (λ (x : UseStep). cond (eqb x.group k && kind x) 1 0) in ⊎_elim
      (λ t. let flag = ap {B = ℕ} (λ b. cond (b && kind o) 1 0) t in let grows = sum_by_push (λ (x : UseStep). cond (kind x) 1 0) (history k) o in
      let same = ap (sum_by (λ (x : UseStep). cond (kind x) 1 0)) (grown_here o history k t) in omega (arith, more, was, flag, grows, same))
      (λ f. let flag = ap {B = ℕ} (λ b. cond (b && kind o) 1 0) f in
      let same = ap (sum_by (λ (x : UseStep). cond (kind x) 1 0)) (grown_else o history k f) in omega (arith, more, was, flag, same))
      (cases_Bool (eqb o.group k))

  -- the usage words meet the rule after one more operation
  pub used_more : usage' o.group ≡ usage_word (history o.group ++ o ∷ []) → ((k : ℕ) → k < groups → k ≢ o.group → usage' k ≡ usage k) → AreUsed groups usage' (grown history o) (set uses id after)
  used_more word others = record {
    legal = λ k. ⊎_elim
        (λ t. let same = eqb-true o.group k t in subst (IsChargeHistory k) (sym (grown_here o history k t)) (stands_push (IsNextUse k) (history k) o (used.legal k) (subst (λ (j : ℕ). IsNextUse j (history j) o) same next)))
        (λ f. subst (IsChargeHistory k) (sym (grown_else o history k f)) (used.legal k))
        (cases_Bool (eqb o.group k));
    words = λ k low. ⊎_elim
        (λ t. let same = eqb-true o.group k t in subst (λ (j : ℕ). usage' j ≡ usage_word (history j ++ o ∷ [])) same word ∙ ap usage_word (sym (grown_here o history k t)))
        (λ f. others k low (λ e. eqb_apart o.group k f (sym e)) ∙ (used.words k low ∙ ap usage_word (sym (grown_else o history k f))))
        (cases_Bool (eqb o.group k));
    up = λ k. flagged k (λ (x : UseStep). x.up) (used.up k);
    down = λ k. flagged k (λ (x : UseStep). not x.up) (used.down k);
    once = λ k n. let more = weight_more (λ (x : UseStep). cond (eqb x.group k && eqb x.operation n) 1 0) in let was = used.once k n in ⊎_elim
        (λ t. let same = eqb-true o.group k t in
        let number : o.operation ≡ length (history k) = next.number ∙ ap (λ (j : ℕ). length (history j)) same in
        let long : length (grown history o k) ≡ length (history k) + 1 = omega (arith, ap (length {A = UseStep}) (grown_here o history k t), length-append (history k) (o ∷ [])) in
        let flag = ap {B = ℕ} (λ b. cond (b && eqb o.operation n) 1 0) t in
        let grows = below_more n (length (history k)) o.operation number in
        let same-length = ap {B = ℕ} (λ (j : ℕ). cond (ltb n j) 1 0) long in omega (arith, more, was, flag, grows, same-length))
        (λ f. let flag = ap {B = ℕ} (λ b. cond (b && eqb o.operation n) 1 0) f in
        let same-length = ap {B = ℕ} (λ (l : List UseStep). cond (ltb n (length l)) 1 0) (grown_else o history k f) in omega (arith, more, was, flag, same-length))
        (cases_Bool (eqb o.group k));
    there = Each-set (λ (w : Uses). All (StandsInHistory (grown history o)) w.ops) uses id after
        (All-push (StandsInHistory (grown history o)) u.ops o (All-weaker (StandsInHistory history) (StandsInHistory (grown history o)) (there_still o history) u.ops (used.there id u me))
        (ap (λ (l : List UseStep). slice_get l o.operation) (grown_here o history o.group (eq-eqb o.group o.group refl)) ∙ get_last (history o.group) o o.operation next.number))
        (Each-weaker (λ (w : Uses). All (StandsInHistory history) w.ops) (λ (w : Uses). All (StandsInHistory (grown history o)) w.ops) (λ w. All-weaker (StandsInHistory history) (StandsInHistory (grown history o)) (there_still o history) w.ops) uses used.there);
  }

-- the next operation has a higher number than those that stand in the history of its group
pub later_than : (history : UseHistories) (o : UseStep) → IsNextUse o.group (history o.group) o → (x : UseStep) → StandsInHistory history x → x.group ≡ o.group → x.operation < o.operation
later_than history o next x there same = let low = get_below (history x.group) x.operation x there in let e = ap (λ (k : ℕ). length (history k)) same in let number = next.number in omega (arith, low, e, number)

-- a view that made nothing is added
pub used_split : (groups : ℕ) (usage : ℕ → ℕ) (history : UseHistories) (uses : List Uses) → AreUsed groups usage history uses → AreUsed groups usage history (uses ++ own_uses ∷ [])
used_split groups usage history uses used = record {
  legal = used.legal;
  words = used.words;
  up = λ g. omega (arith, used.up g, sum_by-more (λ (w : Uses). ups_at g w.ops) uses own_uses);
  down = λ g. omega (arith, used.down g, sum_by-more (λ (w : Uses). downs_at g w.ops) uses own_uses);
  once = λ g n. omega (arith, used.once g n, sum_by-more (λ (w : Uses). times_at g n w.ops) uses own_uses);
  there = Each-push (λ (w : Uses). All (StandsInHistory history) w.ops) uses own_uses (All-nil (StandsInHistory history)) used.there;
}

weight_joined : (uses : List Uses) (id other : ℕ) (u w : Uses) → get_elem? uses id ≡ some u → other ≢ id → get_elem? uses other ≡ some w → (f : UseStep → ℕ) (n : ℕ) → sum_by (λ (x : Uses). sum_by f x.ops) uses ≡ n
    → sum_by (λ (x : Uses). sum_by f x.ops) (set (set uses id (both_uses u w)) other no_uses) ≡ n
weight_joined uses id other u w at apart them f n was = omega (arith, was, sum_by-joined (λ (x : Uses). sum_by f x.ops) uses id other u w (both_uses u w) no_uses at apart them, sum_by-append f u.ops w.ops)

-- the operations of one view go to another
pub used_join : (groups : ℕ) (usage : ℕ → ℕ) (history : UseHistories) (uses : List Uses) (id other : ℕ) (u w : Uses) → get_elem? uses id ≡ some u → other ≢ id → get_elem? uses other ≡ some w → AreUsed groups usage history uses
    → AreUsed groups usage history (set (set uses id (both_uses u w)) other no_uses)
used_join groups usage history uses id other u w at apart them used = let b : Uses = both_uses u w in record {
  legal = used.legal;
  words = used.words;
  up = λ g. weight_joined uses id other u w at apart them (λ (x : UseStep). cond (eqb x.group g && x.up) 1 0) (ups (history g)) (used.up g);
  down = λ g. weight_joined uses id other u w at apart them (λ (x : UseStep). cond (eqb x.group g && not x.up) 1 0) (downs (history g)) (used.down g);
  once = λ g n. weight_joined uses id other u w at apart them (λ (x : UseStep). cond (eqb x.group g && eqb x.operation n) 1 0) (cond (ltb n (length (history g))) 1 0) (used.once g n);
  there = Each-set (λ (v : Uses). All (StandsInHistory history) v.ops) (set uses id b) other no_uses (All-nil (StandsInHistory history))
      (Each-set (λ (v : Uses). All (StandsInHistory history) v.ops) uses id b (All-append (StandsInHistory history) u.ops w.ops (used.there id u at) (used.there other w them)) used.there);
}

-- the words are the same
pub used_words : (groups : ℕ) (usage usage' : ℕ → ℕ) (history : UseHistories) (uses : List Uses) → ((g : ℕ) → g < groups → usage' g ≡ usage g) → AreUsed groups usage history uses → AreUsed groups usage' history uses
used_words groups usage usage' history uses same used = record { legal = used.legal; words = λ g low. same g low ∙ used.words g low; up = used.up; down = used.down; once = used.once; there = used.there }
