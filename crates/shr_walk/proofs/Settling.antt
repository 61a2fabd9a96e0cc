-- SPDX-License-Identifier: GPL-2.0-only
-- In each group an up is taken back before the next one.
use Rattle.shr_walk.proofs.ChargingCommon.{◌≡◌, ℕ, zero, suc, ◌+◌, ◌≤◌, Bool, true, false, cond, List, [], ◌∷◌, ◌++◌, map, refl, sym, ap, subst, ◌∙◌, arith, append_assoc, All, ◌==◌, map-append, All-nil, All-append, All-cons, All-head, All-tail, UseStep, Serial, path_of, Shape, AreDowns, ChargeOps, IsDown, IsUp, use_group, path_to, filter, replicate, filter-append}
use Rattle.shr_charge.specs.declared.answers.ChargeAnswer.TheVariants as charge
use Rattle.shr_walk.proofs.Netting.{all_so, count_first, times_of}

-- which ways the operations in a group went, in order
abbrev pub ways_at : ℕ → List UseStep → List Bool
ways_at g ops = map (λ (o : UseStep). o.up) (filter (λ (o : UseStep). o.group == g) ops)

-- each up is followed by a down
abbrev pub Closes : List Bool → Type 0
Closes [] = Unit {0}
Closes (false ∷ ways) = Closes ways
Closes (true ∷ []) = ⊥
Closes (true ∷ false ∷ ways) = Closes ways
Closes (true ∷ true ∷ ways) = ⊥

-- each up but one that ends the list is followed by a down
abbrev pub Settles : List Bool → Type 0
Settles [] = Unit {0}
Settles (false ∷ ways) = Settles ways
Settles (true ∷ []) = Unit {0}
Settles (true ∷ false ∷ ways) = Settles ways
Settles (true ∷ true ∷ ways) = ⊥

pub closes_then : (a b : List Bool) → Closes a → Closes b → Closes (a ++ b)
closes_then [] b h k = k
closes_then (false ∷ a) b h k = closes_then a b h k
closes_then (true ∷ []) b h k = absurd h
closes_then (true ∷ false ∷ a) b h k = closes_then a b h k
closes_then (true ∷ true ∷ a) b h k = absurd h

pub closes_settles : (a b : List Bool) → Closes a → Settles b → Settles (a ++ b)
closes_settles [] b h k = k
closes_settles (false ∷ a) b h k = closes_settles a b h k
closes_settles (true ∷ []) b h k = absurd h
closes_settles (true ∷ false ∷ a) b h k = closes_settles a b h k
closes_settles (true ∷ true ∷ a) b h k = absurd h

pub closes_downs : (n : ℕ) → Closes (replicate n false)
closes_downs zero = tt
closes_downs (suc n) = closes_downs n

pub closes_pair : (n : ℕ) → n ≤ 1 → Closes (replicate n true ++ replicate n false)
closes_pair zero few = tt
closes_pair (suc zero) few = tt
closes_pair (suc (suc n)) few = absurd (omega (arith, few))

pub settles_up : (n : ℕ) → n ≤ 1 → Settles (replicate n true)
settles_up zero few = tt
settles_up (suc zero) few = tt
settles_up (suc (suc n)) few = absurd (omega (arith, few))

-- operations that all went one way, in a group
pub ways_same : (way : Bool) (g : ℕ) (ops : List UseStep) → All (λ (o : UseStep). o.up ≡ way) ops → ways_at g ops ≡ replicate (times_of g (map use_group ops)) way
ways_same way g [] h = refl
ways_same way g (o ∷ ops) h = let others = ways_same way g ops (All-tail (λ (y : UseStep). y.up ≡ way) o ops h) in let here = All-head (λ (y : UseStep). y.up ≡ way) o ops h in
    let n = times_of g (map use_group ops) in
    one (o.group == g) n others here ∙ ap (λ (m : ℕ). replicate m way) (sym (count_first (λ j. j == g) o.group (map use_group ops)))
  where
    one : (t : Bool) (n : ℕ) → ways_at g ops ≡ replicate n way → o.up ≡ way → map (λ (y : UseStep). y.up) (cond t (o ∷ filter (λ (y : UseStep). y.group == g) ops) (filter (λ (y : UseStep). y.group == g) ops)) ≡ replicate (cond {A = ℕ} t 1 0 + n) way
    one true n e up = let s : suc n ≡ 1 + n = omega arith in ap (λ (b : Bool). b ∷ ways_at g ops) up ∙ (ap (λ (l : List Bool). way ∷ l) e ∙ ap (λ (m : ℕ). replicate m way) s)
    one false n e up = let s : n ≡ 0 + n = omega arith in e ∙ ap (λ (m : ℕ). replicate m way) s

pub ways_both : (g : ℕ) (a b : List UseStep) → ways_at g (a ++ b) ≡ ways_at g a ++ ways_at g b
ways_both g a b = ap (map (λ (o : UseStep). o.up)) (filter-append (λ (o : UseStep). o.group == g) a b) ∙ map-append (λ (o : UseStep). o.up) (filter (λ (o : UseStep). o.group == g) a) (filter (λ (o : UseStep). o.group == g) b)

-- a try that was refused closes, and one that was not settles
module _ (k : Shape) (by : Serial) (group g : ℕ) where
  pub refused_closes : (level number usage : ℕ) (ops : List UseStep) → ChargeOps k by group (charge.Over level number usage) ops → times_of g (path_to k.parents.items group level) ≤ 1 → Closes (ways_at g ops)
  refused_closes level number usage ops h few = let front = h.ups ++ h.over ∷ [] in let n = times_of g (path_to k.parents.items group level) in
      let whole : ops ≡ front ++ h.downs = h.whole ∙ sym (append_assoc h.ups (h.over ∷ []) h.downs) in
      let at = map-append use_group h.ups (h.over ∷ []) ∙ h.levels in
      let up = ways_same true g front (All-append (λ (o : UseStep). o.up ≡ true) h.ups (h.over ∷ []) (all_so (IsUp k by) (λ (o : UseStep). o.up ≡ true) h.ups (λ o u. u.up) h.below) (All-cons (λ (o : UseStep). o.up ≡ true) h.over [] h.refused.up (All-nil (λ (o : UseStep). o.up ≡ true)))) in
      let down = ways_same false g h.downs (all_so (IsDown by) (λ (o : UseStep). o.up ≡ false) h.downs (λ o d. d.down) h.taken_back.each) in
      let ups = up ∙ ap (λ (l : List ℕ). replicate (times_of g l) true) at in let downs = down ∙ ap (λ (l : List ℕ). replicate (times_of g l) false) h.taken_back.at in
      let ways : ways_at g ops ≡ replicate n true ++ replicate n false = ap (ways_at g) whole ∙ (ways_both g front h.downs ∙ (ap (λ l. l ++ ways_at g h.downs) ups ∙ ap (λ l. replicate n true ++ l) downs)) in
      subst Closes (sym ways) (closes_pair n few)

  charged_ways : (ops : List UseStep) → ChargeOps k by group charge.Charged ops → ways_at g ops ≡ replicate (times_of g (path_of k.parents.items group)) true
  charged_ways ops h = ways_same true g ops (all_so (IsUp k by) (λ (o : UseStep). o.up ≡ true) ops (λ o u. u.up) h.each) ∙ ap (λ (l : List ℕ). replicate (times_of g l) true) h.at

  pub charged_settles : (ops : List UseStep) → ChargeOps k by group charge.Charged ops → times_of g (path_of k.parents.items group) ≤ 1 → Settles (ways_at g ops)
  charged_settles ops h few = subst Settles (sym (charged_ways ops h)) (settles_up (times_of g (path_of k.parents.items group)) few)

  pub charged_closes : (ops : List UseStep) → ChargeOps k by group charge.Charged ops → path_of k.parents.items group ≡ [] → Closes (ways_at g ops)
  charged_closes ops h none = subst Closes (sym (charged_ways ops h ∙ ap (λ (l : List ℕ). replicate (times_of g l) true) none)) tt

  pub downs_close : (groups : List ℕ) (ops : List UseStep) → AreDowns by groups ops → Closes (ways_at g ops)
  downs_close groups ops h = subst Closes (sym (ways_same false g ops (all_so (IsDown by) (λ (o : UseStep). o.up ≡ false) ops (λ o d. d.down) h.each))) (closes_downs (times_of g (map use_group ops)))

-- what closes settles
pub closed_settles : (a : List Bool) → Closes a → Settles a
closed_settles [] h = tt
closed_settles (false ∷ a) h = closed_settles a h
closed_settles (true ∷ []) h = absurd h
closed_settles (true ∷ false ∷ a) h = closed_settles a h
closed_settles (true ∷ true ∷ a) h = absurd h
