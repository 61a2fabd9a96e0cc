-- SPDX-License-Identifier: GPL-2.0-only
-- The operations of a put's tries and walks, group by group.
use Rattle.shr_assemble.proofs.Common.{◌≡◌, ℕ, zero, suc, ◌+◌, ◌-◌, ◌<◌, ◌≤◌, ◌&&◌, Bool, true, false, not, cond, ◌==◌, List, [], ◌∷◌, ◌++◌, length, length-append, map, refl, sym, ap, subst, ◌∙◌, arith, append_assoc, eq-eqb, ne_eqb, Option, None, option_and_then, slice_get, slice_index_or, count_by, sum_by, pos, ◌-ℤ◌, Some, replicate, AllByRecursion, ints, append-nil, sum_by-append, dite, ℕ_discrete, UseStep, Object, Serial, Answered, Register, WalkRecord, ups, downs, is_refused, IsBelow, is_at_or_above, IsTree, path_of, IsOn, by_parents, on_self, on_le, Each, ChargeAnswer, ChargeOps, IsDown, path_to, way_here, way_root, way_up, parents_of, limits_of, limit_of, Groups, objects_freed, WorkerState, Work, then_work, Shared, charge_work, times_of, times_both, nets_downs, over_of, kept_of, way_once, refused_on, DidCharges, ops_at, made_freed_below, each_append, each_weaker, way_whole, nets_refused, nets_charged, way_few, IsUp, use_group, refused_closes}
use Rattle.shr_charge.specs.declared.answers.ChargeAnswer.TheVariants as charge
use Rattle.shr_charge.specs.Charging as charging
use Rattle.shr_assemble.proofs.Outcomes.{outcomes, answers_in, outcomes_then, answers_then, no_answers, down_outcomes, FoundRoom, up_outcomes, over_outcomes, above_is, way_times}
use Rattle.shr_assemble.proofs.PutWays.{Closed, Ends, closed_then, closed_ends_then, closed_ends, closed_downs, closed_by, ends_short, closed_pair, at_then, at_all, at_long, ups_is, downs_is, refused_is}
use Rattle.shr_assemble.proofs.WalkingWell.{IsTableOf}
use Rattle.shr_assemble.proofs.WalkingGives.{Freed}
use Rattle.shr_assemble.proofs.WalkingCharges as walking
use Rattle.shr_assemble.proofs.WalkingCharges.{GoesDown, rec_of, all_down, walks_charge, no_ups}
use Rattle.shr_assemble.proofs.WalkingSteps.{IsScanOne, step_of}

pub of_groups : (P : ℕ → Type 0) (ops : List UseStep) → AllByRecursion P (map use_group ops) → AllByRecursion (λ (o : UseStep). P o.group) ops
of_groups P [] h = tt
of_groups P (o ∷ ops) h = (h.0, of_groups P ops h.1)

pub count_then : (p : UseStep → Bool) (g : ℕ) (a b : List UseStep) → count_by p (ops_at g (a ++ b)) ≡ count_by p (ops_at g a) + count_by p (ops_at g b)
count_then p g a b = ap (count_by p) (at_then g a b) ∙ sum_by-append (λ (y : UseStep). cond {A = ℕ} (p y) 1 0) (ops_at g a) (ops_at g b)

-- ---- the tree and the limits are those of the script

pub charge_parents : (x : Shared) → IsTableOf x → x.charge.shape.parents.items ≡ parents_of x.script
charge_parents x table = table.shared.charged ∙ ap (λ (k : Groups). k.parents) table.shared.tree

at_limit : (limits : List (Option ℕ)) (g : ℕ) → option_and_then (λ (l : Option ℕ). l) (slice_get limits g) ≡ slice_index_or limits g None
at_limit [] g = refl
at_limit (l ∷ limits) zero = refl
at_limit (l ∷ limits) (suc g) = at_limit limits g

pub same_limit : (x : Shared) → IsTableOf x → (g : ℕ) → limit_of x.script g ≡ charging.shape_limit x.charge.shape g
same_limit x table g = at_limit (limits_of x.script) g ∙ ap (λ (l : List (Option ℕ)). slice_index_or l g None) (sym (table.shared.limits ∙ ap (λ (k : Groups). k.limits) table.shared.tree))

-- the groups of a part of a path are of the tree
way_there : (parents : List ℕ) → IsTree parents → (last g : ℕ) → g < length parents → AllByRecursion (λ h. h < length parents) (path_to parents g last)
way_there parents tree last g there = by_parents parents tree (λ b. AllByRecursion (λ h. h < length parents) (path_to parents b last))
    (subst (AllByRecursion (λ h. h < length parents)) (sym (way_root parents last)) (tree.has_root, tt))
    (λ b above low before. dite (ℕ_discrete b last)
    (λ same. subst (AllByRecursion (λ h. h < length parents)) (sym (ap (path_to parents b) (sym same) ∙ way_here parents b)) (low, tt))
    (λ other. subst (AllByRecursion (λ h. h < length parents)) (sym (way_up parents tree b last other above low)) (low, before))) g there

-- ---- what operations come to

-- So many tries of this group's charge, of which these groups refused one each, and a charge that stands in these groups; what walks freed
-- was uncharged.
pub record AreOps (x : Shared) (by : Serial) (group tries : ℕ) (over kept : List ℕ) (w : Work) : Type 0 where
  pub charges : w.charges ≡ tries
  pub uncharges : w.uncharges ≤ downs w.ops
  pub own : AllByRecursion (λ (o : UseStep). o.by ≡ by) w.ops
  pub there : AllByRecursion (λ (o : UseStep). o.group < length (parents_of x.script)) w.ops
  -- each try has one up in the charged group, and no more in another
  pub each : ups (ops_at group w.ops) ≡ tries
  pub most : (g : ℕ) → ups (ops_at g w.ops) ≤ tries
  pub net : (g : ℕ) → g < length (parents_of x.script) → ups (ops_at g w.ops) + sum_by (made_freed_below (parents_of x.script) g) w.core.made ≡ downs (ops_at g w.ops) + times_of g kept
  pub refusals : (g : ℕ) → count_by (is_refused (limit_of x.script g)) (ops_at g w.ops) ≡ times_of g over
  -- where the charge is taken back, each up is followed by a down; where it stands, the last one found room
  pub settled : (g : ℕ) (b : List UseStep) → length b ≡ times_of g kept → AllByRecursion GoesDown b → Closed (ops_at g w.ops ++ b)
  pub ends : (g : ℕ) → Ends (limit_of x.script g) (ops_at g w.ops)
  -- whether each up was refused, by the groups that refused the tries
  pub tried : (g : ℕ) → outcomes (limit_of x.script g) (ops_at g w.ops) ≡ answers_in (parents_of x.script) group over (tries - length over) g

module _ (x : Shared) (by : Serial) (group : ℕ) where
  pub ops_then : (m n : ℕ) (over more kept : List ℕ) (v w : Work) → m ≡ length over → AreOps x by group m over [] v → AreOps x by group n more kept w → AreOps x by group (m + n) (over ++ more) kept (then_work v w)
  ops_then m n over more kept v w short p q = record {
    charges = let c = p.charges in let d = q.charges in omega (arith, c, d);
    uncharges = let c = p.uncharges in let d = q.uncharges in let e = sum_by-append (λ (o : UseStep). cond {A = ℕ} (not o.up) 1 0) v.ops w.ops in omega (arith, c, d, e);
    own = each_append (λ (o : UseStep). o.by ≡ by) v.ops w.ops p.own q.own;
    there = each_append (λ (o : UseStep). o.group < length (parents_of x.script)) v.ops w.ops p.there q.there;
    each = let c = p.each in let d = q.each in let e = count_then (λ (o : UseStep). o.up) group v.ops w.ops in omega (arith, c, d, e);
    most = λ g. let c = p.most g in let d = q.most g in let e = count_then (λ (o : UseStep). o.up) g v.ops w.ops in omega (arith, c, d, e);
    net = λ g lt. let c = p.net g lt in let d = q.net g lt in let e = count_then (λ (o : UseStep). o.up) g v.ops w.ops in let f = count_then (λ (o : UseStep). not o.up) g v.ops w.ops in
        let s = sum_by-append (made_freed_below (parents_of x.script) g) v.core.made w.core.made in omega (arith, c, d, e, f, s);
    refusals = λ g. let c = p.refusals g in let d = q.refusals g in let e = count_then (is_refused (limit_of x.script g)) g v.ops w.ops in let t = times_both g over more in omega (arith, c, d, e, t);
    settled = λ g b long down. subst Closed (sym (ap (λ l. l ++ b) (at_then g v.ops w.ops) ∙ append_assoc (ops_at g v.ops) (ops_at g w.ops) b)) (closed_then (ops_at g v.ops) (ops_at g w.ops ++ b) (first g) (q.settled g b long down));
    ends = λ g. subst (Ends (limit_of x.script g)) (sym (at_then g v.ops w.ops)) (closed_ends_then (limit_of x.script g) (ops_at g v.ops) (ops_at g w.ops) (first g) (q.ends g));
    tried = λ g. ap (outcomes (limit_of x.script g)) (at_then g v.ops w.ops) ∙ (outcomes_then (limit_of x.script g) (ops_at g v.ops) (ops_at g w.ops)
        ∙ ((λ i. p.tried g i ++ q.tried g i)
        ∙ (ap (λ (k : ℕ). answers_in (parents_of x.script) group over k g ++ answers_in (parents_of x.script) group more (n - length more) g) (let z : m - length over ≡ 0 = omega (arith, short) in z)
        ∙ (answers_then (parents_of x.script) group over more (n - length more) g
        ∙ ap (λ (k : ℕ). answers_in (parents_of x.script) group (over ++ more) k g) (let l = length-append over more in let z : n - length more ≡ (m + n) - length (over ++ more) = omega (arith, short, l) in z)))));
  } where
    first : (g : ℕ) → Closed (ops_at g v.ops)
    first g = subst Closed (append-nil (ops_at g v.ops)) (p.settled g [] refl tt)

-- ---- a try

module _ (x : Shared) (table : IsTableOf x) (by : Serial) (group : ℕ) (inside : group < length (parents_of x.script)) where
  there : group < length x.charge.shape.parents.items
  there = subst (λ (p : List ℕ). group < length p) (sym (charge_parents x table)) inside

  on_way : (last : ℕ) → AllByRecursion (λ h. h < length (parents_of x.script)) (path_to x.charge.shape.parents.items group last)
  on_way last = subst (λ (p : List ℕ). AllByRecursion (λ h. h < length p) (path_to x.charge.shape.parents.items group last)) (charge_parents x table) (way_there x.charge.shape.parents.items x.charge.tree last group there)

  pub on_path : AllByRecursion (λ h. h < length (parents_of x.script)) (path_of x.charge.shape.parents.items group)
  on_path = subst (AllByRecursion (λ h. h < length (parents_of x.script))) (way_whole x.charge.shape.parents.items group) (on_way 0)

  pub path_once : times_of group (path_of x.charge.shape.parents.items group) ≡ 1
  path_once = sym (ap (times_of group) (way_whole x.charge.shape.parents.items group)) ∙ way_once x.charge.shape.parents.items x.charge.tree 0 group there

  path_few : (g : ℕ) → times_of g (path_of x.charge.shape.parents.items group) ≤ 1
  path_few g = let one = way_few x.charge.shape.parents.items x.charge.tree 0 g group there in let whole = ap (times_of g) (way_whole x.charge.shape.parents.items group) in omega (arith, one, whole)

  pub refusals_are : (g n : ℕ) (ops : List UseStep) → count_by (λ (o : UseStep). is_refused (charging.shape_limit x.charge.shape o.group) o && (o.group == g)) ops ≡ n → count_by (is_refused (limit_of x.script g)) (ops_at g ops) ≡ n
  refusals_are g n ops e = ap (λ l. count_by (is_refused l) (ops_at g ops)) (same_limit x table g) ∙ (refused_is (charging.shape_limit x.charge.shape) g ops ∙ e)

  tree : IsTree (parents_of x.script)
  tree = subst IsTree (charge_parents x table) x.charge.tree

  -- the ups of these operations that found room, in a group
  found_room : (g : ℕ) (ops : List UseStep) → AllByRecursion (IsUp x.charge.shape by) ops → outcomes (limit_of x.script g) (ops_at g ops) ≡ replicate (times_of g (map use_group ops)) false
  found_room g ops each = up_outcomes (limit_of x.script g) (ops_at g ops) (each_weaker (λ (o : UseStep). IsUp x.charge.shape by o × (o.group ≡ g)) (FoundRoom (limit_of x.script g))
      (λ o u. (u.0.up, subst (λ l. IsBelow l o) (ap (charging.shape_limit x.charge.shape) u.1 ∙ sym (same_limit x table g)) u.0.below)) (ops_at g ops) (at_all (IsUp x.charge.shape by) g ops each))
      ∙ ap (λ (n : ℕ). replicate n false) (at_long g ops)

  charged_answers : (g : ℕ) (ops : List UseStep) → ChargeOps x.charge.shape by group charge.Charged ops → outcomes (limit_of x.script g) (ops_at g ops) ≡ answers_in (parents_of x.script) group [] 1 g
  charged_answers g ops h = found_room g ops (rec_of (IsUp x.charge.shape by) ops h.each)
      ∙ (ap (λ (n : ℕ). replicate n false) (ap (times_of g) h.at ∙ (ap (λ (p : List ℕ). times_of g (path_of p group)) (charge_parents x table) ∙ walking.path_once (parents_of x.script) tree group g inside)) ∙ kept (is_at_or_above (parents_of x.script) g group)) where
        kept : (t : Bool) → replicate (cond {A = ℕ} t 1 0) false ≡ cond t ([] ++ replicate 1 false) []
        kept true = refl
        kept false = refl

  over_answers : (g level operation usage : ℕ) (ops : List UseStep) → ChargeOps x.charge.shape by group (charge.Over level operation usage) ops → outcomes (limit_of x.script g) (ops_at g ops) ≡ answers_in (parents_of x.script) group (level ∷ []) 0 g
  over_answers g level operation usage ops h = split ∙ dite (ℕ_discrete level g) same other where
    limit : Option ℕ
    limit = limit_of x.script g

    parents : List ℕ
    parents = x.charge.shape.parents.items

    downs_each : AllByRecursion GoesDown (ops_at g h.downs)
    downs_each = all_down g h.downs (each_weaker (IsDown by) GoesDown (λ o d. d.down) h.downs (rec_of (IsDown by) h.downs h.taken_back.each))

    on : IsOn (parents_of x.script) level group
    on = subst (λ (p : List ℕ). IsOn p level group) (charge_parents x table) (refused_on x.charge.shape by group level operation usage ops x.charge.tree there h)

    split : outcomes (limit_of x.script g) (ops_at g ops) ≡ replicate (times_of g (map use_group h.ups)) false ++ outcomes (limit_of x.script g) (ops_at g (h.over ∷ h.downs))
    split = ap (λ (os : List UseStep). outcomes (limit_of x.script g) (ops_at g os)) h.whole ∙ (ap (outcomes (limit_of x.script g)) (at_then g h.ups (h.over ∷ h.downs)) ∙ (outcomes_then (limit_of x.script g) (ops_at g h.ups) (ops_at g (h.over ∷ h.downs))
        ∙ ap (λ (l : List Bool). l ++ outcomes (limit_of x.script g) (ops_at g (h.over ∷ h.downs))) (found_room g h.ups (rec_of (IsUp x.charge.shape by) h.ups h.below))))

    levels : times_of g (map use_group h.ups) + times_of g (level ∷ []) ≡ times_of g (path_to x.charge.shape.parents.items group level)
    levels = sym (times_both g (map use_group h.ups) (level ∷ [])) ∙ ap (times_of g) (ap (λ (j : ℕ). map use_group h.ups ++ j ∷ []) (sym h.here) ∙ h.levels)

    -- it is the group that refused
    same : level ≡ g → replicate (times_of g (map use_group h.ups)) false ++ outcomes (limit_of x.script g) (ops_at g (h.over ∷ h.downs)) ≡ answers_in (parents_of x.script) group (level ∷ []) 0 g
    same e =
        let few = way_few x.charge.shape.parents.items x.charge.tree level g group there in
        let one : times_of g (level ∷ []) ≡ 1 = ap (λ (t : Bool). 0 + cond {A = ℕ} t 1 0) (eq-eqb level g e) in
        let none : times_of g (map use_group h.ups) ≡ 0 = omega (arith, few, one, levels) in
        let back : outcomes (limit_of x.script g) (ops_at g (h.over ∷ h.downs)) ≡ true ∷ [] = ap (λ (t : Bool). outcomes (limit_of x.script g) (cond t (h.over ∷ ops_at g h.downs) (ops_at g h.downs))) (eq-eqb h.over.group g (h.here ∙ e))
        ∙ over_outcomes (limit_of x.script g) h.over (ops_at g h.downs) h.refused.up (λ b. h.refused.above (subst (λ l. IsBelow l h.over) (same_limit x table g ∙ ap (charging.shape_limit x.charge.shape) (sym (h.here ∙ e))) b)) downs_each in
        let own : is_at_or_above (parents_of x.script) g group ≡ true = above_is (parents_of x.script) g group (subst (λ j. IsOn (parents_of x.script) j group) e on) in
        let self : is_at_or_above (parents_of x.script) level g ≡ true = above_is (parents_of x.script) level g (subst (λ j. IsOn (parents_of x.script) j g) (sym e) (on_self (parents_of x.script) tree g (let le = on_le (parents_of x.script) tree level group inside on in omega (arith, e, le, inside)))) in
        (λ i. replicate (none i) false ++ back i) ∙ (ap (λ (t : Bool). t ∷ []) (sym (eq-eqb level g e)) ∙ (λ i. cond (sym own i) (map (λ (j : ℕ). j == g) (cond (sym self i) (level ∷ []) []) ++ replicate 0 false) []))

    -- it is another
    other : (level ≡ g → ⊥) → replicate (times_of g (map use_group h.ups)) false ++ outcomes (limit_of x.script g) (ops_at g (h.over ∷ h.downs)) ≡ answers_in (parents_of x.script) group (level ∷ []) 0 g
    other ne =
        let one : times_of g (level ∷ []) ≡ 0 = ap (λ (t : Bool). 0 + cond {A = ℕ} t 1 0) (ne_eqb level g ne) in
        let way : times_of g (path_to x.charge.shape.parents.items group level) ≡ cond {A = ℕ} (is_at_or_above (parents_of x.script) g group && is_at_or_above (parents_of x.script) level g) 1 0
        = ap (λ (p : List ℕ). times_of g (path_to p group level)) (charge_parents x table) ∙ way_times (parents_of x.script) tree level g (λ z. ne (sym z)) group inside on in
        let ups : times_of g (map use_group h.ups) ≡ cond {A = ℕ} (is_at_or_above (parents_of x.script) g group && is_at_or_above (parents_of x.script) level g) 1 0 = omega (arith, one, levels, way) in
        let back : outcomes (limit_of x.script g) (ops_at g (h.over ∷ h.downs)) ≡ [] = ap (λ (t : Bool). outcomes (limit_of x.script g) (cond t (h.over ∷ ops_at g h.downs) (ops_at g h.downs))) (ne_eqb h.over.group g (λ z. ne (sym h.here ∙ z)))
        ∙ down_outcomes (limit_of x.script g) (ops_at g h.downs) downs_each in
        (λ i. replicate (ups i) false ++ back i) ∙ cases (is_at_or_above (parents_of x.script) g group) (is_at_or_above (parents_of x.script) level g) where
          cases : (s t : Bool) → replicate (cond {A = ℕ} (s && t) 1 0) false ++ [] ≡ cond s (map (λ (j : ℕ). j == g) (cond t (level ∷ []) []) ++ replicate 0 false) []
          cases true true = ap (λ (b : Bool). b ∷ []) (sym (ne_eqb level g ne))
          cases true false = refl
          cases false t = refl

  pub ops_try : (answer : ChargeAnswer) (ops : List UseStep) → ChargeOps x.charge.shape by group answer ops → AreOps x by group 1 (over_of answer) (kept_of x group answer) (charge_work ops)
  ops_try charge.Charged ops h = let each : AllByRecursion (IsUp x.charge.shape by) ops = rec_of (IsUp x.charge.shape by) ops h.each in record {
    charges = refl;
    uncharges = omega arith;
    own = each_weaker (IsUp x.charge.shape by) (λ (o : UseStep). o.by ≡ by) (λ o u. u.made) ops each;
    there = of_groups (λ n. n < length (parents_of x.script)) ops (subst (AllByRecursion (λ n. n < length (parents_of x.script))) (sym h.at) on_path);
    each = let n = (nets_charged x.charge.shape group by group ops h).up in let e = ups_is group ops in omega (arith, n, e, path_once);
    most = λ g. let n = (nets_charged x.charge.shape g by group ops h).up in let e = ups_is g ops in let f = path_few g in omega (arith, n, e, f);
    net = λ g lt. let n = nets_charged x.charge.shape g by group ops h in let u = n.up in let d = n.down in let e = ups_is g ops in let f = downs_is g ops in omega (arith, u, d, e, f);
    refusals = λ g. refusals_are g 0 ops (nets_charged x.charge.shape g by group ops h).refused;
    settled = λ g b long down. let l = at_long g ops in let at = ap (times_of g) h.at in let f = path_few g in closed_pair (ops_at g ops) b (omega (arith, l, at, f)) (omega (arith, l, at, long)) down;
    ends = λ g. let l = at_long g ops in let at = ap (times_of g) h.at in let f = path_few g in ends_short (limit_of x.script g) (ops_at g ops) (omega (arith, l, at, f))
        (each_weaker (λ (o : UseStep). IsUp x.charge.shape by o × (o.group ≡ g)) (IsBelow (limit_of x.script g)) (λ o u. subst (λ l. IsBelow l o) (ap (charging.shape_limit x.charge.shape) u.1 ∙ sym (same_limit x table g)) u.0.below) (ops_at g ops) (at_all (IsUp x.charge.shape by) g ops each));
    tried = λ g. charged_answers g ops h;
  }
  ops_try (charge.Over level operation usage) ops h =
      let ups_each : AllByRecursion (IsUp x.charge.shape by) h.ups = rec_of (IsUp x.charge.shape by) h.ups h.below in
      let downs_each : AllByRecursion (IsDown by) h.downs = rec_of (IsDown by) h.downs h.taken_back.each in
      let way = way_once x.charge.shape.parents.items x.charge.tree level group there in
      let few = λ (g : ℕ). way_few x.charge.shape.parents.items x.charge.tree level g group there in
      let closed = λ (g : ℕ). closed_by (ops_at g ops) (refused_closes x.charge.shape by group g level operation usage ops h (few g)) in record {
        charges = refl;
        uncharges = omega arith;
        own = subst (AllByRecursion (λ (o : UseStep). o.by ≡ by)) (sym h.whole) (each_append (λ (o : UseStep). o.by ≡ by) h.ups (h.over ∷ h.downs)
            (each_weaker (IsUp x.charge.shape by) (λ (o : UseStep). o.by ≡ by) (λ o u. u.made) h.ups ups_each) (h.refused.made, each_weaker (IsDown by) (λ (o : UseStep). o.by ≡ by) (λ o u. u.made) h.downs downs_each));
        there = subst (AllByRecursion (λ (o : UseStep). o.group < length (parents_of x.script))) (sym h.whole) (there_split h.ups h.over h.downs (subst (AllByRecursion (λ n. n < length (parents_of x.script))) (sym h.levels) (on_way level)) (subst (AllByRecursion (λ n. n < length (parents_of x.script))) (sym h.taken_back.at) (on_way level)));
        each = let n = (nets_refused x.charge.shape group by group level operation usage ops h).up in let e = ups_is group ops in omega (arith, n, e, way);
        most = λ g. let n = (nets_refused x.charge.shape g by group level operation usage ops h).up in let e = ups_is g ops in let f = few g in omega (arith, n, e, f);
        net = λ g lt. let n = nets_refused x.charge.shape g by group level operation usage ops h in let u = n.up in let d = n.down in let e = ups_is g ops in let f = downs_is g ops in omega (arith, u, d, e, f);
        refusals = λ g. refusals_are g (times_of g (level ∷ [])) ops (nets_refused x.charge.shape g by group level operation usage ops h).refused;
        settled = λ g b long down. closed_then (ops_at g ops) b (closed g) (closed_downs b down);
        ends = λ g. closed_ends (limit_of x.script g) (ops_at g ops) (closed g);
        tried = λ g. over_answers g level operation usage ops h;
      } where
        there_split : (a : List UseStep) (o : UseStep) (b : List UseStep) → AllByRecursion (λ n. n < length (parents_of x.script)) (map use_group a ++ o.group ∷ []) → AllByRecursion (λ n. n < length (parents_of x.script)) (map use_group b)
            → AllByRecursion (λ (y : UseStep). y.group < length (parents_of x.script)) (a ++ o ∷ b)
        there_split [] o b first later = (first.0, of_groups (λ n. n < length (parents_of x.script)) b later)
        there_split (y ∷ a) o b first later = (first.0, there_split a o b first.1 later)

  -- ---- walks

  pub ops_walks : (a : Answered) (s t : WorkerState) (w : Work) (walks : List WalkRecord) → Freed x by w.core.made w.ops → AllByRecursion (λ (o : Object). o.birth < length (parents_of x.script)) (objects_freed w.core.made)
      → w.charges ≡ 0 → w.uncharges ≡ length (objects_freed w.core.made) → Each (IsScanOne by (length s.walks) walks) w.core.made → AreOps x by group 0 [] [] w
  ops_walks a s t w walks freed born charges uncharges scans =
      let did : DidCharges x.script (step_of x.script by (Some (Register 0)) a s t w) = walks_charge x table by (Some (Register 0)) a s t w walks (λ g. refl) freed born charges uncharges scans in
      let down : AllByRecursion GoesDown w.ops = rec_of GoesDown w.ops (λ j d lt. (freed.each j d lt).down) in record {
        charges = charges;
        uncharges = did.uncharges;
        own = rec_of (λ (o : UseStep). o.by ≡ by) w.ops did.own;
        there = rec_of (λ (o : UseStep). o.group < length (parents_of x.script)) w.ops did.there;
        each = no_ups group w.ops down;
        most = λ g. let e = no_ups g w.ops down in omega (arith, e);
        net = λ g lt. same_net (ups (ops_at g w.ops)) (downs (ops_at g w.ops)) (sum_by (made_freed_below (parents_of x.script) g) w.core.made) (no_ups g w.ops down) (did.nets g lt);
        refusals = λ g. refusals_are g 0 w.ops (nets_downs x.charge.shape g by _ w.ops freed).refused;
        settled = λ g b long d. closed_then (ops_at g w.ops) b (closed_downs (ops_at g w.ops) (all_down g w.ops down)) (closed_downs b d);
        ends = λ g. closed_ends (limit_of x.script g) (ops_at g w.ops) (closed_downs (ops_at g w.ops) (all_down g w.ops down));
        tried = λ g. down_outcomes (limit_of x.script g) (ops_at g w.ops) (all_down g w.ops down) ∙ sym (no_answers (parents_of x.script) group g);
      } where
        same_net : (u d f : ℕ) → u ≡ 0 → pos u -ℤ pos d ≡ pos 0 -ℤ pos f → u + f ≡ d + 0
        same_net u d f none e = omega (arith, ints, none, e)
