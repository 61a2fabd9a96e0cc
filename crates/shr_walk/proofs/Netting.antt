-- SPDX-License-Identifier: GPL-2.0-only
-- What tries and walks charge and take back in each group, and how often a group refuses.
use Rattle.shr_walk.proofs.ChargingCommon.{◌≡◌, ℕ, ◌+◌, List, [], ◌∷◌, ◌++◌, map, cond, Bool, true, false, refl, sym, ap, subst, ◌∙◌, arith, All, ◌==◌, Option, Some, None, All-head, All-tail, UseStep, Serial, path_of, Shape, AreDowns, ChargeOps, IsDown, IsUp, use_group, path_to, ups_at, count_by, not, ◌&&◌, int_lt, pos, T, IsOverLimit, shape_limit, downs_at}
use Rattle.std.proofs.lemmas.List.Sums.{sum_by-append, sum_by-cons}
use Rattle.shr_model.specs.Charges.{IsBelow, is_refused}
use Rattle.shr_charge.specs.declared.answers.ChargeAnswer.TheVariants as charge
use Rattle.shr_model.proofs.Booleans.{is_true}
use Rattle.shr_model.proofs.PoolLaws.{and_false}

-- ---- counts along a list

-- how often a group is among these
abbrev pub times_of : ℕ → List ℕ → ℕ
times_of g groups = count_by (λ j. j == g) groups

count_both : {X : Type 0} (p : X → Bool) (a b : List X) → count_by p (a ++ b) ≡ count_by p a + count_by p b
count_both p a b = sum_by-append (λ y. cond (p y) 1 0) a b

pub times_both : (g : ℕ) (a b : List ℕ) → times_of g (a ++ b) ≡ times_of g a + times_of g b
times_both g a b = count_both (λ j. j == g) a b

pub count_first : {X : Type 0} (p : X → Bool) (y : X) (b : List X) → count_by p (y ∷ b) ≡ cond (p y) 1 0 + count_by p b
count_first p y b = sum_by-cons (λ z. cond (p z) 1 0) y b

count_none : (p : UseStep → Bool) (ops : List UseStep) → All (λ (o : UseStep). p o ≡ false) ops → count_by p ops ≡ 0
count_none p [] h = refl
count_none p (o ∷ ops) h = let first = count_first p o ops in let here = All-head (λ (y : UseStep). p y ≡ false) o ops h in let others = count_none p ops (All-tail (λ (y : UseStep). p y ≡ false) o ops h) in
    let one : ◌≡◌ {A = ℕ} (cond (p o) 1 0) 0 = ap (λ (b : Bool). cond b 1 0) here in omega (arith, first, one, others)

count_same : (p : UseStep → Bool) (g : ℕ) (ops : List UseStep) → All (λ (o : UseStep). p o ≡ (o.group == g)) ops → count_by p ops ≡ times_of g (map use_group ops)
count_same p g [] h = refl
count_same p g (o ∷ ops) h = let first = count_first p o ops in let second = count_first (λ j. j == g) o.group (map use_group ops) in
    let here = All-head (λ (y : UseStep). p y ≡ (y.group == g)) o ops h in let others = count_same p g ops (All-tail (λ (y : UseStep). p y ≡ (y.group == g)) o ops h) in
    let one : ◌≡◌ {A = ℕ} (cond (p o) 1 0) (cond (o.group == g) 1 0) = ap (λ (b : Bool). cond b 1 0) here in omega (arith, first, second, one, others)

pub all_so : (P Q : UseStep → Type 0) (ops : List UseStep) → ((o : UseStep) → P o → Q o) → All P ops → All Q ops
all_so P Q ops f h k d low = f _ (h k d low)

-- ---- whether an operation was refused

pub not_true : (b : Bool) → (T b → ⊥) → b ≡ false
not_true true h = absurd (h tt)
not_true false h = refl

and_true : (b : Bool) → (b && true) ≡ b
and_true true = refl
and_true false = refl

pub below_not : (limit : Option ℕ) (o : UseStep) → IsBelow limit o → is_refused limit o ≡ false
below_not None o h = refl
below_not (Some l) o h = ap (λ (b : Bool). o.up && not b) (is_true (int_lt o.found (pos l)) h.lt) ∙ and_false o.up

pub over_is : (limit : Option ℕ) (o : UseStep) → o.up ≡ true → (IsBelow limit o → ⊥) → is_refused limit o ≡ true
over_is None o up h = absurd (h tt)
over_is (Some l) o up h = ap (λ (b : Bool). b && not (int_lt o.found (pos l))) up ∙ ap (λ (b : Bool). not b) (not_true (int_lt o.found (pos l)) (λ t. h record { lt = t }))

down_not : (limit : Option ℕ) (o : UseStep) → o.up ≡ false → is_refused limit o ≡ false
down_not None o down = refl
down_not (Some l) o down = ap (λ (b : Bool). b && not (int_lt o.found (pos l))) down

-- ---- what operations come to in one group

-- an operation of this group was refused there
abbrev pub refused_at : Shape → ℕ → UseStep → Bool
refused_at k g o = is_refused (shape_limit k o.group) o && (o.group == g)

-- so many ups, so many downs and so many refused ups in a group
pub record Nets (k : Shape) (g : ℕ) (ops : List UseStep) (ups downs refusals : ℕ) : Type 0 where
  pub up : ups_at g ops ≡ ups
  pub down : downs_at g ops ≡ downs
  pub refused : count_by (refused_at k g) ops ≡ refusals

module _ (k : Shape) (g : ℕ) where
  pub nets_none : Nets k g [] 0 0 0
  nets_none = record { up = refl; down = refl; refused = refl }

  pub nets_then : (a b : List UseStep) (m n : ℕ) (c d : ℕ) (e f : ℕ) → Nets k g a m c e → Nets k g b n d f → Nets k g (a ++ b) (m + n) (c + d) (e + f)
  nets_then a b m n c d e f p q = record {
    up = let l = count_both (λ (o : UseStep). (o.group == g) && o.up) a b in let x = p.up in let y = q.up in omega (arith, l, x, y);
    down = let l = count_both (λ (o : UseStep). (o.group == g) && not o.up) a b in let x = p.down in let y = q.down in omega (arith, l, x, y);
    refused = let l = count_both (refused_at k g) a b in let x = p.refused in let y = q.refused in omega (arith, l, x, y);
  }

  pub nets_downs : (by : Serial) (groups : List ℕ) (ops : List UseStep) → AreDowns by groups ops → Nets k g ops 0 (times_of g groups) 0
  nets_downs by groups ops h = record {
    up = count_none (λ (o : UseStep). (o.group == g) && o.up) ops (all_so (IsDown by) (λ (o : UseStep). ((o.group == g) && o.up) ≡ false) ops (λ o d. ap (λ (b : Bool). (o.group == g) && b) d.down ∙ and_false (o.group == g)) h.each);
    down = count_same (λ (o : UseStep). (o.group == g) && not o.up) g ops (all_so (IsDown by) (λ (o : UseStep). ((o.group == g) && not o.up) ≡ (o.group == g)) ops (λ o d. ap (λ (b : Bool). (o.group == g) && not b) d.down ∙ and_true (o.group == g)) h.each) ∙ ap (times_of g) h.at;
    refused = count_none (refused_at k g) ops (all_so (IsDown by) (λ (o : UseStep). refused_at k g o ≡ false) ops (λ o d. ap (λ (b : Bool). b && (o.group == g)) (down_not (shape_limit k o.group) o d.down)) h.each);
  }

  nets_ups : (by : Serial) (ops : List UseStep) → All (IsUp k by) ops → Nets k g ops (times_of g (map use_group ops)) 0 0
  nets_ups by ops h = record {
    up = count_same (λ (o : UseStep). (o.group == g) && o.up) g ops (all_so (IsUp k by) (λ (o : UseStep). ((o.group == g) && o.up) ≡ (o.group == g)) ops (λ o u. ap (λ (b : Bool). (o.group == g) && b) u.up ∙ and_true (o.group == g)) h);
    down = count_none (λ (o : UseStep). (o.group == g) && not o.up) ops (all_so (IsUp k by) (λ (o : UseStep). ((o.group == g) && not o.up) ≡ false) ops (λ o u. ap (λ (b : Bool). (o.group == g) && not b) u.up ∙ and_false (o.group == g)) h);
    refused = count_none (refused_at k g) ops (all_so (IsUp k by) (λ (o : UseStep). refused_at k g o ≡ false) ops (λ o u. ap (λ (b : Bool). b && (o.group == g)) (below_not (shape_limit k o.group) o u.below)) h);
  }

  nets_over : (by : Serial) (o : UseStep) → IsOverLimit k by o → Nets k g (o ∷ []) (times_of g (o.group ∷ [])) 0 (times_of g (o.group ∷ []))
  nets_over by o h = record {
    up = ap (λ (b : Bool). 0 + cond b 1 0) (ap (λ (b : Bool). (o.group == g) && b) h.up ∙ and_true (o.group == g));
    down = ap (λ (b : Bool). 0 + cond b 1 0) (ap (λ (b : Bool). (o.group == g) && not b) h.up ∙ and_false (o.group == g));
    refused = ap (λ (b : Bool). 0 + cond (b && (o.group == g)) 1 0) (over_is (shape_limit k o.group) o h.up h.above);
  }

  -- the ups and downs of a try that was refused are as many, and one up was refused, in the group that it names
  pub nets_refused : (by : Serial) (group level number usage : ℕ) (ops : List UseStep) → ChargeOps k by group (charge.Over level number usage) ops
      → Nets k g ops (times_of g (path_to k.parents.items group level)) (times_of g (path_to k.parents.items group level)) (times_of g (level ∷ []))
  nets_refused by group level number usage ops h = let way = path_to k.parents.items group level in
      let front = nets_ups by h.ups h.below in let one = nets_over by h.over h.refused in let back = nets_downs by way h.downs h.taken_back in
      let all = nets_then h.ups (h.over ∷ h.downs) _ _ _ _ _ _ front (nets_then (h.over ∷ []) h.downs _ _ _ _ _ _ one back) in
      let whole : times_of g (map use_group h.ups) + times_of g (h.over.group ∷ []) ≡ times_of g way = sym (count_both (λ j. j == g) (map use_group h.ups) (h.over.group ∷ [])) ∙ ap (times_of g) h.levels in
      let here : times_of g (h.over.group ∷ []) ≡ times_of g (level ∷ []) = ap (λ (j : ℕ). times_of g (j ∷ [])) h.here in
      subst (λ (l : List UseStep). Nets k g l (times_of g way) (times_of g way) (times_of g (level ∷ []))) (sym h.whole)
      record { up = let u = all.up in omega (arith, u, whole); down = let d = all.down in omega (arith, d); refused = let r = all.refused in omega (arith, r, here) }

  -- one that was not refused has one up on each level
  pub nets_charged : (by : Serial) (group : ℕ) (ops : List UseStep) → ChargeOps k by group charge.Charged ops → Nets k g ops (times_of g (path_of k.parents.items group)) 0 0
  nets_charged by group ops h = subst (λ (l : List ℕ). Nets k g ops (times_of g l) 0 0) h.at (nets_ups by ops h.each)
