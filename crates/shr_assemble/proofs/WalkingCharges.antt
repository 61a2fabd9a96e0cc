-- SPDX-License-Identifier: GPL-2.0-only
-- The operations of walks: one down for each object freed, on each level of its birth.
use Rattle.shr_assemble.proofs.Common.{◌≡◌, ℕ, zero, suc, ◌+◌, ◌<◌, ◌≤◌, Bool, true, false, ◌||◌, cond, List, [], ◌∷◌, length, length-append, map, sym, refl, ap, subst, ◌∙◌, arith, eq-eqb, ne_eqb, slice_get, Option, Some, pos, ◌-ℤ◌, not, ◌==◌, sum_by, count_by, All, AllByRecursion, list_any, length-map, sum_by-cons, sum_by-append, same_Some, none-some, dite, ℕ_discrete, Entry, Add, UseStep, Object, Serial, Answered, Command, WalkRecord, ups, downs, is_at_or_above, born_below, IsTree, path_of, parent_of, freed_by, path_of-root, path_of-below, Each, Made, charged, parents_of, objects_freed, paths_of, Groups, WorkerState, Work, Shared, ops_at, added_below, made_freed_below, DidCharges, each_append, each_weaker, by_slices, use_group, all_slice_by}
use Rattle.shr_walk.specs.Keeping as keeping
use Rattle.shr_lawful.proofs.Listed.{all_slice}
use Rattle.shr_assemble.proofs.WalkingWell.{IsTableOf}
use Rattle.shr_assemble.proofs.WalkingGives.{Freed}
use Rattle.shr_assemble.proofs.WalkingSteps.{IsScanOne, OnlyScan, step_of}

pub all_of : {A : Type 0} (P : A → Type 0) (xs : List A) → AllByRecursion P xs → All P xs
all_of P [] h k d lt = absurd (omega (arith, lt))
all_of P (x ∷ xs) h zero d lt = h.0
all_of P (x ∷ xs) h (suc k) d lt = all_of P xs h.1 k d (omega (arith, lt))

pub rec_of : {A : Type 0} (P : A → Type 0) (xs : List A) → All P xs → AllByRecursion P xs
rec_of P xs h = by_slices P xs (λ j x e. all_slice P xs j x h e)

-- ---- a path names each of its groups once
abbrev Falls : List ℕ → Type 0
Falls [] = Unit {0}
Falls (x ∷ xs) = AllByRecursion (λ y. y < x) xs × Falls xs

abbrev times_in : ℕ → List ℕ → ℕ
times_in g xs = count_by (λ (y : ℕ). y == g) xs

none_in : (g : ℕ) (xs : List ℕ) → AllByRecursion (λ y. y < g) xs → times_in g xs ≡ 0
none_in g [] h = refl
none_in g (x ∷ xs) h = let lt = h.0 in let e = sum_by-cons (λ (y : ℕ). cond (y == g) 1 0) x xs in let d = ap (λ b. cond {A = ℕ} b 1 0) (ne_eqb x g (λ s. omega (arith, s, lt))) in omega (arith, e, d, none_in g xs h.1)

once_in : (g : ℕ) (xs : List ℕ) → Falls xs → times_in g xs ≡ cond (list_any (λ (y : ℕ). y == g) xs) 1 0
once_in g [] f = refl
once_in g (x ∷ xs) f = let e = sum_by-cons (λ (y : ℕ). cond (y == g) 1 0) x xs in
    dite (ℕ_discrete x g)
    (λ same. let none = none_in g xs (subst (λ n. AllByRecursion (λ y. y < n) xs) same f.0) in let yes = eq-eqb x g same in
    let d = ap (λ b. cond {A = ℕ} b 1 0) yes in let c = ap (λ b. cond {A = ℕ} (b || list_any (λ (y : ℕ). y == g) xs) 1 0) yes in omega (arith, e, d, c, none))
    (λ other. let no = ne_eqb x g other in let d = ap (λ b. cond {A = ℕ} b 1 0) no in let c = ap (λ b. cond {A = ℕ} (b || list_any (λ (y : ℕ). y == g) xs) 1 0) no in omega (arith, e, d, c, once_in g xs f.1))

module _ (parents : List ℕ) (tree : IsTree parents) where
  record IsPath (b : ℕ) : Type 0 where
    pub falls : Falls (path_of parents b)
    pub within : AllByRecursion (λ y. y ≤ b) (path_of parents b)
    pub some : 0 < length (path_of parents b)

  path_is : (n b : ℕ) → b ≤ n → b < length parents → IsPath b
  path_is zero b le lt = let z : b ≡ 0 = omega (arith, le) in subst IsPath (sym z) record {
    falls = subst Falls (sym (path_of-root parents)) (tt, tt);
    within = subst (AllByRecursion (λ y. y ≤ 0)) (sym (path_of-root parents)) (omega arith, tt);
    some = subst (λ (l : List ℕ). 0 < length l) (sym (path_of-root parents)) (omega arith);
  }
  path_is (suc n) b le lt = dite (ℕ_discrete b 0)
      (λ z. path_is n b (omega (arith, z)) lt)
      (λ ne. let up : 0 < b = omega (arith, ne) in let low = tree.lower b up lt in let is = path_of-below parents tree b up lt in let rest = path_is n (parent_of parents b) (omega (arith, le, low)) (omega (arith, lt, low)) in record {
        falls = subst Falls (sym is) (each_weaker (λ y. y ≤ parent_of parents b) (λ y. y < b) (λ y h. omega (arith, h, low)) (path_of parents (parent_of parents b)) rest.within, rest.falls);
        within = subst (AllByRecursion (λ y. y ≤ b)) (sym is) (omega arith, each_weaker (λ y. y ≤ parent_of parents b) (λ y. y ≤ b) (λ y h. omega (arith, h, low)) (path_of parents (parent_of parents b)) rest.within);
        some = subst (λ (l : List ℕ). 0 < length l) (sym is) (omega arith);
      })

  pub path_once : (b g : ℕ) → b < length parents → times_in g (path_of parents b) ≡ cond (is_at_or_above parents g b) 1 0
  path_once b g lt = once_in g (path_of parents b) (path_is b b (omega arith) lt).falls

  pub paths_count : (g : ℕ) (os : List Object) → AllByRecursion (λ (o : Object). o.birth < length parents) os → times_in g (paths_of parents os) ≡ born_below parents g os
  paths_count g [] h = refl
  paths_count g (o ∷ os) h = let e = sum_by-append (λ (y : ℕ). cond (y == g) 1 0) (path_of parents o.birth) (paths_of parents os) in
      let d = sum_by-cons (λ (z : Object). cond (is_at_or_above parents g z.birth) 1 0) o os in omega (arith, e, d, path_once o.birth g h.0, paths_count g os h.1)

  pub paths_within : (os : List Object) → AllByRecursion (λ (o : Object). o.birth < length parents) os → AllByRecursion (λ y. y < length parents) (paths_of parents os)
  paths_within [] h = tt
  paths_within (o ∷ os) h = let lt = h.0 in each_append (λ y. y < length parents) (path_of parents o.birth) (paths_of parents os)
      (each_weaker (λ y. y ≤ o.birth) (λ y. y < length parents) (λ y le. omega (arith, le, lt)) (path_of parents o.birth) (path_is o.birth o.birth (omega arith) lt).within) (paths_within os h.1)

  pub paths_many : (os : List Object) → AllByRecursion (λ (o : Object). o.birth < length parents) os → length os ≤ length (paths_of parents os)
  paths_many [] h = omega arith
  paths_many (o ∷ os) h = let e = length-append (path_of parents o.birth) (paths_of parents os) in let p = (path_is o.birth o.birth (omega arith) h.0).some in omega (arith, e, p, paths_many os h.1)

-- what entries freed, object by object and entry by entry
pub made_below : (parents : List ℕ) (g : ℕ) (made : List Made) → born_below parents g (objects_freed made) ≡ sum_by (made_freed_below parents g) made
made_below parents g [] = refl
made_below parents g (m ∷ made) = let e = sum_by-append (λ (z : Object). cond (is_at_or_above parents g z.birth) 1 0) (freed_by m.items m.entry) (objects_freed made) in
    let d = sum_by-cons (made_freed_below parents g) m made in omega (arith, e, d, made_below parents g made)

-- ---- downs
abbrev pub GoesDown : UseStep → Type 0
GoesDown o = o.up ≡ false

module _ (g : ℕ) where
  ups_more : (o : UseStep) (rest : List UseStep) (b : Bool) → o.up ≡ false → ups rest ≡ 0 → ups (cond b (o ∷ rest) rest) ≡ 0
  ups_more o rest true d z = let e = sum_by-cons (λ (y : UseStep). cond y.up 1 0) o rest in let c = ap (λ t. cond {A = ℕ} t 1 0) d in omega (arith, e, c, z)
  ups_more o rest false d z = z

  pub no_ups : (ops : List UseStep) → AllByRecursion GoesDown ops → ups (ops_at g ops) ≡ 0
  no_ups [] h = refl
  no_ups (o ∷ ops) h = ups_more o (ops_at g ops) (o.group == g) h.0 (no_ups ops h.1)

  downs_more : (o : UseStep) (rest : List UseStep) (b : Bool) → o.up ≡ false → downs (cond b (o ∷ rest) rest) ≡ cond b 1 0 + downs rest
  downs_more o rest true d = let e = sum_by-cons (λ (y : UseStep). cond (not y.up) 1 0) o rest in let c = ap (λ t. cond {A = ℕ} (not t) 1 0) d in omega (arith, e, c)
  downs_more o rest false d = omega arith

  pub count_downs : (ops : List UseStep) → AllByRecursion GoesDown ops → downs (ops_at g ops) ≡ times_in g (map use_group ops)
  count_downs [] h = refl
  count_downs (o ∷ ops) h = let e = downs_more o (ops_at g ops) (o.group == g) h.0 in let d = sum_by-cons (λ (y : ℕ). cond (y == g) 1 0) o.group (map use_group ops) in omega (arith, e, d, count_downs ops h.1)

  keep_down : (o : UseStep) (rest : List UseStep) (b : Bool) → o.up ≡ false → AllByRecursion GoesDown rest → AllByRecursion GoesDown (cond b (o ∷ rest) rest)
  keep_down o rest true d r = (d, r)
  keep_down o rest false d r = r

  pub all_down : (ops : List UseStep) → AllByRecursion GoesDown ops → AllByRecursion GoesDown (ops_at g ops)
  all_down [] h = tt
  all_down (o ∷ ops) h = keep_down o (ops_at g ops) (o.group == g) h.0 (all_down ops h.1)

pub every_down : (ops : List UseStep) → AllByRecursion GoesDown ops → downs ops ≡ length ops
every_down [] h = refl
every_down (o ∷ ops) h = let e = sum_by-cons (λ (y : UseStep). cond (not y.up) 1 0) o ops in let c = ap (λ t. cond {A = ℕ} (not t) 1 0) h.0 in omega (arith, e, c, every_down ops h.1)

not_up : (b : Bool) → b ≡ false → b ≡ true → ⊥
not_up b f t = let e : false ≡ true = sym f ∙ t in cc

pub down_at : (ops : List UseStep) → AllByRecursion GoesDown ops → (n : ℕ) → slice_get (map (λ (o : UseStep). o.up) ops) n ≡ Some true → ⊥
down_at [] h n e = none-some true e
down_at (o ∷ ops) h zero e = not_up o.up h.0 (same_Some o.up true e)
down_at (o ∷ ops) h (suc n) e = down_at ops h.1 n e

groups_back : (n : ℕ) (ops : List UseStep) → AllByRecursion (λ y. y < n) (map use_group ops) → AllByRecursion (λ (o : UseStep). o.group < n) ops
groups_back n [] h = tt
groups_back n (o ∷ ops) h = (h.0, groups_back n ops h.1)

-- a Scan adds nothing
no_added : (parents : List ℕ) (g : ℕ) (by : Serial) (start : ℕ) (walks : List WalkRecord) (m : Made) (e : Entry) → OnlyScan by start walks m e → added_below parents g e ≡ 0
no_added parents g by start walks m (Add by' birth added key value) h = absurd h
no_added parents g by start walks m e h = refl

pub none_added : (parents : List ℕ) (g : ℕ) (by : Serial) (start : ℕ) (walks : List WalkRecord) (made : List Made) → Each (IsScanOne by start walks) made → sum_by (λ (m : Made). added_below parents g m.entry) made ≡ 0
none_added parents g by start walks [] h = refl
none_added parents g by start walks (m ∷ made) h = let e = sum_by-cons (λ (z : Made). added_below parents g z.entry) m made in
    omega (arith, e, no_added parents g by start walks m m.entry (h 0 m refl), none_added parents g by start walks made (λ j y d. h (suc j) y d))

pub same_parents : (x : Shared) → IsTableOf x → keeping.shared_parents x ≡ parents_of x.script
same_parents x table = table.shared.parents ∙ ap (λ (t : Groups). t.parents) table.shared.tree

pub tree_is : (x : Shared) → IsTableOf x → IsTree (parents_of x.script)
tree_is x table = subst IsTree (same_parents x table) x.core.tree

-- the charges of a command that has walks alone
pub walks_charge : (x : Shared) → IsTableOf x → (by : Serial) (c : Option Command) (a : Answered) (s t : WorkerState) (w : Work) (walks : List WalkRecord)
    → ((g : ℕ) → charged (parents_of x.script) g c (Some a.reply) ≡ 0) → Freed x by w.core.made w.ops → AllByRecursion (λ (o : Object). o.birth < length (parents_of x.script)) (objects_freed w.core.made)
    → w.charges ≡ 0 → w.uncharges ≡ length (objects_freed w.core.made) → Each (IsScanOne by (length s.walks) walks) w.core.made → DidCharges x.script (step_of x.script by c a s t w)
walks_charge x table by c a s t w walks free freed born charges uncharges scans = record {
  own = λ k d lt. (freed.each k d lt).made;
  there = all_of (λ (o : UseStep). o.group < length parents) w.ops (groups_back (length parents) w.ops (subst (AllByRecursion (λ y. y < length parents)) (sym at) (paths_within parents tree (objects_freed w.core.made) born)));
  taken_back = λ g n o e up refused. absurd (not_up o.up (all_slice_by GoesDown (ops_at g w.ops) n o (all_down g w.ops down) e) up);
  puts = λ k d lt up. absurd (not_up _ (freed.each k d lt).down up);
  fourteen = λ g. let z = no_ups g w.ops down in omega (arith, z);
  between = λ g n m lt e f. absurd (down_at (ops_at g w.ops) (all_down g w.ops down) n e);
  nets = λ g lt. let u : ups (ops_at g w.ops) ≡ charged parents g c (Some a.reply) = no_ups g w.ops down ∙ sym (free g) in
      let d : downs (ops_at g w.ops) ≡ sum_by (made_freed_below parents g) w.core.made = count_downs g w.ops down ∙ (ap (times_in g) at ∙ (paths_count parents tree g (objects_freed w.core.made) born ∙ made_below parents g w.core.made)) in
      λ i. pos (u i) -ℤ pos (d i);
  added = λ g. none_added parents g by (length s.walks) walks w.core.made scans ∙ sym (free g);
  charges = omega (arith, charges);
  uncharges = let e = every_down w.ops down in let l = ap (λ (z : List ℕ). length z) at in let m = length-map w.ops use_group in let n = paths_many parents tree (objects_freed w.core.made) born in omega (arith, uncharges, e, l, m, n);
} where
  parents : List ℕ
  parents = parents_of x.script

  tree : IsTree (parents_of x.script)
  tree = tree_is x table

  at : map use_group w.ops ≡ paths_of (parents_of x.script) (objects_freed w.core.made)
  at = freed.at ∙ ap (λ p. paths_of p (objects_freed w.core.made)) (same_parents x table)

  down : AllByRecursion GoesDown w.ops
  down = rec_of GoesDown w.ops (λ k d lt. (freed.each k d lt).down)
