-- SPDX-License-Identifier: GPL-2.0-only
-- Going up a path, level by level.
use Rattle.shr_charge.proofs.Common.{◌≡◌, ◌≢◌, ℕ, ◌+◌, ◌*◌, ◌<◌, ◌≤◌, ◌^◌, Bool, true, false, not, ◌&&◌, eqb, ltb, cond, List, [], ◌∷◌, ◌++◌, map, length, sym, refl, ap, subst, ◌∙◌, arith, append_assoc, length-append, ne_eqb, pos, Some, None, All, nat_tests, append-nil, length-map, sum_by_push, All-push, All-nil, Kept, UseStep, Serial, IsTree, parent_of, depth_of, ChargeSeated, Shape, Uses, both_uses, one_use, IsPaced, ups_at, downs_at, path_to, uses_of, tree_of, standing_of, call_count, use_group, IsLaterThan, AreRising, IsUp, calls_with, IsClimbing, Climbs, IsLowering, Lowers, ◌<ℤ◌, map_push, All-get_or, IsBelow, shape_limit, IsDown, IsNoted}
use Rattle.std.proofs.lemmas.List.Quantifiers.{all_pairs_push}
use Rattle.shr_charge.proofs.Ways.{way_here, way_root, way_up, way_whole, way_some}
use Rattle.shr_model.proofs.Numbers.{later}

pub uses_same : (x y : Uses) → x.ops ≡ y.ops → x.charges ≡ y.charges → x.uncharges ≡ y.uncharges → x.seats ≡ y.seats → x ≡ y
uses_same x y o c d s = λ i. record { ops = o i; charges = c i; uncharges = d i; seats = s i }

-- nothing was noted yet
pub noted_none : (s : ChargeSeated) (uses : Kept UseStep) → IsNoted s s uses uses (calls_with [] 0 0)
noted_none s uses = record {
  table = refl;
  gains = uses_same (uses_of s) (both_uses (uses_of s) (calls_with [] 0 0)) (sym (append-nil (uses_of s).ops)) (omega arith) (omega arith) (omega arith);
  tree = refl;
  standing = refl;
  noted = sym (append-nil uses.items);
  spare = omega arith;
  rise = λ r. r;
}

rising_more : (ops : List UseStep) (o : UseStep) → AreRising ops → All (IsLaterThan o) ops → AreRising (ops ++ o ∷ [])
rising_more ops o rise later = all_pairs_push (λ x y. IsLaterThan y x) ops o rise (λ k d low. All-get_or (IsLaterThan o) ops k d low later)

-- one operation more was noted
pub noted_more : (old mid new : ChargeSeated) (uses um uses' : Kept UseStep) (ops : List UseStep) (c d x y c' d' : ℕ) (o : UseStep) → IsNoted old mid uses um (calls_with ops c d) → All (IsLaterThan o) (uses_of mid).ops → new ≡ record mid { uses = both_uses (uses_of mid) (one_use o x y) }
    → uses'.items ≡ um.items ++ o ∷ [] → uses'.spare + 1 ≡ um.spare → c + x ≡ c' → d + y ≡ d' → IsNoted old new uses uses' (calls_with (ops ++ o ∷ []) c' d')
noted_more old mid new uses um uses' ops c d x y c' d' o n later did items spare cx dy = let u : Uses = uses_of old in let gains = ap uses_of did in record {
  table = ap (λ (s : ChargeSeated). s.charge) did ∙ n.table;
  gains = gains ∙ (ap (λ (w : Uses). both_uses w (one_use o x y)) n.gains ∙ uses_same (both_uses (both_uses u (calls_with ops c d)) (one_use o x y)) (both_uses u (calls_with (ops ++ o ∷ []) c' d')) (append_assoc u.ops ops (o ∷ [])) (omega (arith, cx)) (omega (arith, dy)) (omega arith));
  tree = ap tree_of did ∙ n.tree;
  standing = ap standing_of did ∙ n.standing;
  noted = items ∙ (ap (λ l. l ++ o ∷ []) n.noted ∙ append_assoc uses.items ops (o ∷ []));
  spare = let a = n.spare in omega (arith, a, spare, length-append ops (o ∷ []));
  rise = λ r. subst AreRising (ap (λ (w : Uses). w.ops) (sym gains)) (rising_more (uses_of mid).ops o (n.rise r) later);
}

-- a call begins at the group itself and goes on above it
first_or_later : (level group : ℕ) → level ≤ group → ◌≡◌ {A = ℕ} (cond (ltb level group) 1 0 + cond (eqb level group) 1 0) 1
first_or_later level group le = grind (arith, nat_tests)

at_group : (group : ℕ) → ◌≡◌ {A = ℕ} (cond (ltb group group) 1 0) 0
at_group group = grind (arith, nat_tests)

-- the levels charged and the one after them are on the path
levels_more : (ops : List UseStep) (o : UseStep) (at : ℕ) (rest : List ℕ) → o.group ≡ at → map use_group (ops ++ o ∷ []) ++ rest ≡ map use_group ops ++ at ∷ rest
levels_more ops o at rest e = ap (λ l. l ++ rest) (map_push use_group ops o) ∙ (append_assoc (map use_group ops) (o.group ∷ []) rest ∙ ap (λ (g : ℕ). map use_group ops ++ g ∷ rest) e)

levels_end : (ops : List UseStep) (o : UseStep) (at : ℕ) → o.group ≡ at → map use_group (ops ++ o ∷ []) ≡ map use_group ops ++ at ∷ []
levels_end ops o at e = map_push use_group ops o ∙ ap (λ (g : ℕ). map use_group ops ++ g ∷ []) e

-- a climb begins with nothing charged
pub climbing_first : (k : Shape) (by : Serial) (group : ℕ) (s : ChargeSeated) (uses : Kept UseStep) → ((j : ℕ) → ups_at j (uses_of s).ops ≤ (uses_of s).charges) → IsClimbing k by group group s s uses uses
climbing_first k by group s uses pace = record {
  ops = [];
  noted = subst (λ (n : ℕ). IsNoted s s uses uses (calls_with [] n 0)) (sym (at_group group)) (noted_none s uses);
  each = All-nil (IsUp k by);
  path = λ last le. refl;
  pace = λ j le. pace j;
  inside = omega arith;
}

module _ (k : Shape) (tree : IsTree k.parents.items) (by : Serial) (group level : ℕ) (low : level < length k.parents.items) (old mid new : ChargeSeated) (uses um uses' : Kept UseStep) (c : IsClimbing k by group level old mid uses um) where
  -- what the next step needs
  pub climbing_room : ups_at level (uses_of mid).ops + 1 ≤ (uses_of mid).charges + call_count (eqb level group)
  climbing_room = let p = c.pace level (omega arith) in let g = ap (λ (u : Uses). u.charges) c.noted.gains in omega (arith, p, g, first_or_later level group c.inside)

  -- a climb counts as one call
  pub climbing_calls : (n : ℕ) → (uses_of old).charges < n → (uses_of mid).charges + call_count (eqb level group) ≤ n
  climbing_calls n few = let g = ap (λ (u : Uses). u.charges) c.noted.gains in omega (arith, g, few, first_or_later level group c.inside)

  -- there is room for each operation of the climb
  pub climbing_spare : depth_of k.parents.items group ≤ uses.spare → 0 < um.spare
  climbing_spare enough = let path = ap (length {A = ℕ}) (c.path 0 (omega arith)) in let whole = ap (length {A = ℕ}) (way_whole k.parents.items group) in let spare = c.noted.spare in
      omega (arith, path, whole, spare, enough, length-append (map use_group c.ops) (path_to k.parents.items level 0), length-map c.ops use_group, way_some k.parents.items level 0)

  module _ (o : UseStep) (here : o.group ≡ level) (up : o.up ≡ true) (made : o.by ≡ by) (rises : All (IsLaterThan o) (uses_of mid).ops) (did : new ≡ record mid { uses = both_uses (uses_of mid) (one_use o (call_count (eqb level group)) 0) })
      (items : uses'.items ≡ um.items ++ o ∷ []) (spare : uses'.spare + 1 ≡ um.spare) where
    noted : IsNoted old new uses uses' (calls_with (c.ops ++ o ∷ []) 1 0)
    noted = noted_more old mid new uses um uses' c.ops (call_count (ltb level group)) 0 (call_count (eqb level group)) 0 1 0 o c.noted rises did items spare (first_or_later level group c.inside) refl

    -- one level of the climb
    pub climbing_next : IsBelow (shape_limit k o.group) o → 0 < level → IsClimbing k by group (parent_of k.parents.items level) old new uses uses'
    climbing_next below above = let lower = tree.lower level above low in let up-level : ℕ = parent_of k.parents.items level in let inside = c.inside in record {
      ops = c.ops ++ o ∷ [];
      noted = subst (λ (n : ℕ). IsNoted old new uses uses' (calls_with (c.ops ++ o ∷ []) n 0)) (sym (later up-level group (omega arith))) noted;
      each = All-push (IsUp k by) c.ops o c.each (record { up = up; made = made; below = below });
      path = λ last le. levels_more c.ops o level (path_to k.parents.items up-level last) here ∙ (ap (λ l. map use_group c.ops ++ l) (sym (way_up k.parents.items tree level last (λ e. absurd (omega arith)) above low)) ∙ c.path last (omega arith));
      pace = λ j le. let g = ap (λ (s : ChargeSeated). ups_at j (uses_of s).ops) did in let more = sum_by_push (λ (x : UseStep). cond (eqb x.group j && x.up) 1 0) (uses_of mid).ops o in
          let flag = ap {B = ℕ} (λ b. cond (b && o.up) 1 0) (ne_eqb o.group j (λ e. absurd (omega arith))) in let was = c.pace j (omega arith) in omega (arith, g, more, flag, was);
      inside = omega arith;
    }

    -- a climb that reached the root took every level
    pub climbed : IsBelow (shape_limit k o.group) o → level ≡ 0 → IsPaced (uses_of old) → Climbs k by group None old new uses uses'
    climbed below root paced = record {
      ops = c.ops ++ o ∷ [];
      noted = noted;
      made = record {
        at = levels_end c.ops o 0 (here ∙ root) ∙ (ap (λ l. map use_group c.ops ++ l) (sym (way_root k.parents.items 0)) ∙ (ap (λ (g : ℕ). map use_group c.ops ++ path_to k.parents.items g 0) (sym root) ∙ (c.path 0 (omega arith) ∙ way_whole k.parents.items group)));
        each = All-push (IsUp k by) c.ops o c.each (record { up = up; made = made; below = below });
      };
      paced = paced;
    }

    -- a climb that met a level without room stopped there
    pub stopped : (IsBelow (shape_limit k o.group) o → ⊥) → o.found <ℤ pos (2 ^ 32) → IsPaced (uses_of old) → Climbs k by group (Some o) old new uses uses'
    stopped above small paced = record {
      ops = c.ops ++ o ∷ [];
      noted = noted;
      made = record {
        ups = c.ops;
        whole = refl;
        below = c.each;
        levels = ap (λ (g : ℕ). map use_group c.ops ++ g ∷ []) here ∙ (ap (λ l. map use_group c.ops ++ l) (sym (way_here k.parents.items level)) ∙ (c.path level (omega arith) ∙ ap (path_to k.parents.items group) (sym here)));
        refused = record { up = up; made = made; above = above };
        small = small;
      };
      paced = paced;
    }

first_or_later_of : (count : Bool) (level group : ℕ) → level ≤ group → ◌≡◌ {A = ℕ} (cond (count && ltb level group) 1 0 + cond (count && eqb level group) 1 0) (cond count 1 0)
first_or_later_of true level group le = first_or_later level group le
first_or_later_of false level group le = refl

later_of : (count : Bool) (level group : ℕ) → level < group → ◌≡◌ {A = ℕ} (cond (count && ltb level group) 1 0) (cond count 1 0)
later_of true level group lt = later level group lt
later_of false level group lt = refl

at_group_of : (count : Bool) (group : ℕ) → ◌≡◌ {A = ℕ} (cond (count && ltb group group) 1 0) 0
at_group_of true group = at_group group
at_group_of false group = refl

-- a way down begins with nothing taken back
pub lowering_first : (parents : List ℕ) (by : Serial) (group last : ℕ) (count : Bool) (s : ChargeSeated) (uses : Kept UseStep) → ((j : ℕ) → downs_at j (uses_of s).ops + 1 ≤ (uses_of s).charges + ((uses_of s).uncharges + call_count count)) → IsLowering parents by group last group count s s uses uses
lowering_first parents by group last count s uses pace = record {
  ops = [];
  noted = subst (λ (n : ℕ). IsNoted s s uses uses (calls_with [] 0 n)) (sym (at_group_of count group)) (noted_none s uses);
  each = All-nil (IsDown by);
  path = refl;
  pace = λ j le. pace j;
  inside = omega arith;
}

module _ (parents : List ℕ) (tree : IsTree parents) (by : Serial) (group last level : ℕ) (low : level < length parents) (count : Bool) (old mid new : ChargeSeated) (uses um uses' : Kept UseStep) (c : IsLowering parents by group last level count old mid uses um) where
  -- a down leaves the usage word in its bounds
  pub lowering_room : downs_at level (uses_of mid).ops + 1 ≤ (uses_of mid).charges + ((uses_of mid).uncharges + call_count (count && eqb level group))
  lowering_room = let p = c.pace level (omega arith) in let g = ap (λ (u : Uses). u.charges) c.noted.gains in let h = ap (λ (u : Uses). u.uncharges) c.noted.gains in omega (arith, p, g, h, first_or_later_of count level group c.inside)

  -- an uncharge counts as one call
  pub lowering_calls : (uses_of old).uncharges + call_count count ≤ 2 ^ 25 * (uses_of old).seats → (uses_of mid).uncharges + call_count (count && eqb level group) ≤ 2 ^ 25 * (uses_of mid).seats
  lowering_calls few = let h = ap (λ (u : Uses). u.uncharges) c.noted.gains in let s = ap (λ (u : Uses). u.seats) c.noted.gains in omega (arith, h, s, few, first_or_later_of count level group c.inside)

  -- there is room for each operation of the way
  pub lowering_spare : length (path_to parents group last) ≤ uses.spare → 0 < um.spare
  lowering_spare enough = let path = ap (length {A = ℕ}) c.path in let spare = c.noted.spare in
      omega (arith, path, spare, enough, length-append (map use_group c.ops) (path_to parents level last), length-map c.ops use_group, way_some parents level last)

  module _ (o : UseStep) (here : o.group ≡ level) (down : o.up ≡ false) (made : o.by ≡ by) (rises : All (IsLaterThan o) (uses_of mid).ops) (did : new ≡ record mid { uses = both_uses (uses_of mid) (one_use o 0 (call_count (count && eqb level group))) })
      (items : uses'.items ≡ um.items ++ o ∷ []) (spare : uses'.spare + 1 ≡ um.spare) where
    lowered_noted : IsNoted old new uses uses' (calls_with (c.ops ++ o ∷ []) 0 (call_count count))
    lowered_noted = noted_more old mid new uses um uses' c.ops 0 (call_count (count && ltb level group)) 0 (call_count (count && eqb level group)) 0 (call_count count) o c.noted rises did items spare refl (first_or_later_of count level group c.inside)

    -- one level of the way
    pub lowering_next : level ≢ last → 0 < level → IsLowering parents by group last (parent_of parents level) count old new uses uses'
    lowering_next apart above = let lower = tree.lower level above low in let up-level : ℕ = parent_of parents level in let inside = c.inside in record {
      ops = c.ops ++ o ∷ [];
      noted = subst (λ (n : ℕ). IsNoted old new uses uses' (calls_with (c.ops ++ o ∷ []) 0 n)) (sym (later_of count up-level group (omega arith))) lowered_noted;
      each = All-push (IsDown by) c.ops o c.each (record { down = down; made = made });
      path = levels_more c.ops o level (path_to parents up-level last) here ∙ (ap (λ l. map use_group c.ops ++ l) (sym (way_up parents tree level last apart above low)) ∙ c.path);
      pace = λ j le. let g = ap (λ (s : ChargeSeated). downs_at j (uses_of s).ops) did in let more = sum_by_push (λ (x : UseStep). cond (eqb x.group j && not x.up) 1 0) (uses_of mid).ops o in
          let flag = ap {B = ℕ} (λ b. cond (b && not o.up) 1 0) (ne_eqb o.group j (λ e. absurd (omega arith))) in let was = c.pace j (omega arith) in omega (arith, g, more, flag, was);
      inside = omega arith;
    }

    -- a way that reached its last level lowered each
    pub lowered : path_to parents level last ≡ level ∷ [] → Lowers parents by group last count old new uses uses'
    lowered ends = record {
      ops = c.ops ++ o ∷ [];
      noted = lowered_noted;
      made = record {
        at = levels_end c.ops o level here ∙ (ap (λ l. map use_group c.ops ++ l) (sym ends) ∙ c.path);
        each = All-push (IsDown by) c.ops o c.each (record { down = down; made = made });
      };
    }
