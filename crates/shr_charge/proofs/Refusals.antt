-- SPDX-License-Identifier: GPL-2.0-only
-- A charge that was refused, and taking it back.
use Rattle.shr_charge.proofs.Common.{◌≡◌, ℕ, ◌+◌, ◌*◌, ◌<◌, ◌≤◌, true, false, not, ◌&&◌, eqb, cond, List, [], ◌∷◌, ◌++◌, map, length, sym, refl, ap, subst, ◌∙◌, arith, append_assoc, length-append, pos, Some, All, length-map, sum_by-cons, sum_by-append, All-head, All-weaker, All-push, Kept, UseStep, Serial, depth_of, ChargeSeated, Shape, Uses, both_uses, downs_at, path_to, uses_of, use_group, IsUp, calls_with, Climbs, Lowers, All-tail, Charges}
use Rattle.shr_charge.specs.declared.answers.ChargeAnswer.TheVariants.{Over}
use Rattle.shr_charge.proofs.Ways.{way_short}
use Rattle.shr_charge.proofs.Climbs.{uses_same}
use Rattle.shr_charge.proofs.Pacing.{cond_and}

-- ups are no downs
no_downs : (j : ℕ) (ops : List UseStep) → All (λ o. o.up ≡ true) ops → downs_at j ops ≡ 0
no_downs j [] all = refl
no_downs j (o ∷ ops) all = let head = All-head (λ (x : UseStep). x.up ≡ true) o ops all in
    let flag = ap {B = ℕ} (λ b. cond (eqb o.group j && not b) 1 0) head ∙ cond_and (eqb o.group j) in
    omega (arith, sum_by-cons (λ (x : UseStep). cond (eqb x.group j && not x.up) 1 0) o ops, flag, no_downs j ops (All-tail (λ (x : UseStep). x.up ≡ true) o ops all))

module _ (k : Shape) (by : Serial) (group : ℕ) (over : UseStep) (old mid : ChargeSeated) (uses um : Kept UseStep) (c : Climbs k by group (Some over) old mid uses um) where
  all_up : All (λ (o : UseStep). o.up ≡ true) c.ops
  all_up = let m = c.made in subst (All (λ (o : UseStep). o.up ≡ true)) (sym m.whole) (All-push (λ (o : UseStep). o.up ≡ true) m.ups over (All-weaker (IsUp k by) (λ (o : UseStep). o.up ≡ true) (λ o is. is.up) m.ups m.below) m.refused.up)

  -- a refused charge may go down on each level
  pub refused_room : (j : ℕ) → downs_at j (uses_of mid).ops < (uses_of mid).charges + (uses_of mid).uncharges
  refused_room j = let d = ap (λ (u : Uses). downs_at j u.ops) c.noted.gains in let more = sum_by-append (λ (x : UseStep). cond (eqb x.group j && not x.up) 1 0) (uses_of old).ops c.ops in let zero = no_downs j c.ops all_up in
      let g = ap (λ (u : Uses). u.charges) c.noted.gains in let h = ap (λ (u : Uses). u.uncharges) c.noted.gains in let p = c.paced.down j in omega (arith, d, more, zero, g, h, p)

  -- there is room for each operation that takes it back
  pub refused_spare : 2 * depth_of k.parents.items group ≤ uses.spare → length (path_to k.parents.items group over.group) ≤ um.spare
  refused_spare enough = let m = c.made in let levels = ap (length {A = ℕ}) m.levels in let whole = ap (length {A = UseStep}) m.whole in let spare = c.noted.spare in
      omega (arith, enough, levels, whole, spare, length-append (map use_group m.ups) (over.group ∷ []), length-map m.ups use_group, length-append m.ups (over ∷ []), way_short k.parents.items group over.group)

  -- a charge that was taken back was refused
  pub refused : (new : ChargeSeated) (uses' : Kept UseStep) (usage : ℕ) → over.found ≡ pos usage → Lowers k.parents.items by group over.group false mid new um uses' → Charges k by group (Over over.group over.operation usage) old new uses uses'
  refused new uses' usage is l = let m = c.made in let n = c.noted in let w = l.noted in record {
    ops = c.ops ++ l.ops;
    noted = record {
      gains = w.gains ∙ (ap (λ (u : Uses). both_uses u (calls_with l.ops 0 0)) n.gains ∙ uses_same (both_uses (both_uses (uses_of old) (calls_with c.ops 1 0)) (calls_with l.ops 0 0)) (both_uses (uses_of old) (calls_with (c.ops ++ l.ops) 1 0)) (append_assoc (uses_of old).ops c.ops l.ops) (omega arith) (omega arith) (omega arith));
      table = w.table ∙ n.table;
      tree = w.tree ∙ n.tree;
      standing = w.standing ∙ n.standing;
      noted = w.noted ∙ (ap (λ x. x ++ l.ops) n.noted ∙ append_assoc uses.items c.ops l.ops);
      spare = let a = n.spare in let b = w.spare in omega (arith, a, b, length-append c.ops l.ops);
      rise = λ r. w.rise (n.rise r);
    };
    made = record {
      ups = m.ups;
      over = over;
      downs = l.ops;
      whole = ap (λ x. x ++ l.ops) m.whole ∙ append_assoc m.ups (over ∷ []) l.ops;
      below = m.below;
      levels = m.levels;
      refused = m.refused;
      here = refl;
      operation = refl;
      found = is;
      taken_back = l.made;
    };
  }
