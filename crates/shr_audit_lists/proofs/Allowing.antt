-- SPDX-License-Identifier: GPL-2.0-only
-- Entries that may stand where they do, against a table of the lists that were moved in.
use Rattle.shr_audit_lists.proofs.Common.{◌≡◌, ℕ, zero, suc, ◌+◌, ◌<◌, ◌≤◌, Bool, true, false, List, [], ◌∷◌, ◌++◌, length, length-append, get_or, take, Option, Some, None, refl, sym, ap, subst, ◌∙◌, ◌⊎◌, inl, inr, arith, ◌||◌, slice_get, Contains, Decides, list_any, cases_order, get_or_append_left, get_or-append_seam, get_or_from_slice_get, slice_get_within, Place, Entry, Add, Look, Drop, Pin, Scan, MovedIn, Closed, Drained, IsTree, is_child, parent_of, path_of, is_closed, MayStand, child_of, moved_in, child_takes, child_again, path_of-root, path_of-below, Has, Has_from_Contains, Contains_from_Has, Report, journals_of, EachFirst, AreMovesTold, IsMovedChild, IsPlaceStanding, ◌≢◌, set, ◌↔◌, not, take_more, get_or-set_same, get_or-set_other, length-set, IsAtOrAbove, is_closing, AreChildrenMovedIn, IsAllowed, IsBornAt, child_higher, AreStanding}
use Rattle.std.proofs.lemmas.List.Elements.{filter_map-append}
use Rattle.std.proofs.lemmas.List.Folds.{list_any-append}
use native.Mathlib.Decide.{ℕ_discrete}
use mathlib.Core.Logic.{dite}
use Rattle.shr_audit_lists.proofs.Journals.{each_printed_of}
use Rattle.shr_audit_lists.proofs.Loops.{one_fails, one_more, all_so}
use Rattle.shr_model.proofs.Members.{Has_last}

clash : (b : Bool) → b ≡ true → b ≡ false → ⊥
clash b e f = cc

-- the group is on the path from here, and each child of it on that path was moved in
pub record IsBornFrom (parents : List ℕ) (group : ℕ) (before : List Entry) (x : ℕ) : Type 0 where
  pub at_or_above : IsAtOrAbove parents group x
  pub moved : (child : ℕ) → is_child parents group child ≡ true → Contains (path_of parents x) child → Contains (moved_in before) child

-- a walk up from the birth group came here
abbrev pub IsClimbed : List ℕ → ℕ → List Entry → ℕ → ℕ → Type 0
IsClimbed parents group before birth x = IsBornFrom parents group before x ↔ IsBornFrom parents group before birth

-- ---- paths

module _ (parents : List ℕ) (tree : IsTree parents) where
  -- what is on the path of a group is the group or on that of its parent
  path_cases : (x y : ℕ) → x < length parents → Contains (path_of parents x) y → (y ≡ x) ⊎ ((0 < x) × Contains (path_of parents (parent_of parents x)) y)
  path_cases x y lt c = by (cases_order x 0)
    where
      by : (x ≡ 0) ⊎ ((x < 0) ⊎ (0 < x)) → (y ≡ x) ⊎ ((0 < x) × Contains (path_of parents (parent_of parents x)) y)
      by (inl none) = root (Has_from_Contains (0 ∷ []) y (subst (λ (xs : List ℕ). Contains xs y) (ap (path_of parents) none ∙ path_of-root parents) c))
        where
          root : Has (0 ∷ []) y → (y ≡ x) ⊎ ((0 < x) × Contains (path_of parents (parent_of parents x)) y)
          root (inl same) = inl (omega arith)
          root (inr h) = absurd h
      by (inr (inl less)) = absurd (omega arith)
      by (inr (inr above)) = up (Has_from_Contains (x ∷ path_of parents (parent_of parents x)) y (subst (λ (xs : List ℕ). Contains xs y) (path_of-below parents tree x above lt) c))
        where
          up : Has (x ∷ path_of parents (parent_of parents x)) y → (y ≡ x) ⊎ ((0 < x) × Contains (path_of parents (parent_of parents x)) y)
          up (inl same) = inl (omega arith)
          up (inr more) = inr (above, Contains_from_Has (path_of parents (parent_of parents x)) y more)

  path_up : (x y : ℕ) → 0 < x → x < length parents → Contains (path_of parents (parent_of parents x)) y → Contains (path_of parents x) y
  path_up x y above lt c = subst (λ (xs : List ℕ). Contains xs y) (sym (path_of-below parents tree x above lt))
      (Contains_from_Has (x ∷ path_of parents (parent_of parents x)) y (inr (Has_from_Contains (path_of parents (parent_of parents x)) y c)))

  path_own : (x : ℕ) → x < length parents → Contains (path_of parents x) x
  path_own x lt = by (cases_order x 0)
    where
      by : (x ≡ 0) ⊎ ((x < 0) ⊎ (0 < x)) → Contains (path_of parents x) x
      by (inl none) = subst (λ (n : ℕ). Contains (path_of parents n) n) (sym none) (subst (λ (xs : List ℕ). Contains xs 0) (sym (path_of-root parents)) (Contains_from_Has (0 ∷ []) 0 (inl refl)))
      by (inr (inl less)) = absurd (omega arith)
      by (inr (inr above)) = subst (λ (xs : List ℕ). Contains xs x) (sym (path_of-below parents tree x above lt)) (Contains_from_Has (x ∷ path_of parents (parent_of parents x)) x (inl refl))

  -- numbers fall along a path
  path_low : (k x y : ℕ) → x ≤ k → x < length parents → Contains (path_of parents x) y → y ≤ x
  path_low zero x y le lt c = by (path_cases x y lt c)
    where
      by : (y ≡ x) ⊎ ((0 < x) × Contains (path_of parents (parent_of parents x)) y) → y ≤ x
      by (inl same) = omega arith
      by (inr (above, more)) = absurd (omega arith)
  path_low (suc k) x y le lt c = by (path_low k) (path_cases x y lt c)
    where
      by : ((z w : ℕ) → z ≤ k → z < length parents → Contains (path_of parents z) w → w ≤ z) → (y ≡ x) ⊎ ((0 < x) × Contains (path_of parents (parent_of parents x)) y) → y ≤ x
      by below (inl same) = omega arith
      by below (inr (above, more)) =
          let lower : parent_of parents x < x = tree.lower x above lt in
          let low : y ≤ parent_of parents x = below (parent_of parents x) y (omega arith) (omega arith) more in
          omega arith

  -- ---- births

  module _ (group : ℕ) (there : group < length parents) (before : List Entry) where
    born_here : IsBornFrom parents group before group
    born_here = record {
      at_or_above = path_own group there;
      moved = λ child is c.
          let higher = child_higher parents group child tree (child_takes parents group child is) in
          let low = path_low group group child (omega arith) there c in
          absurd (omega arith);
    }

    not_above : (x : ℕ) → x < length parents → x < group → IsBornFrom parents group before x → ⊥
    not_above x lt less b = let low = path_low x x group (omega arith) lt b.at_or_above in omega arith

    pub not_moved : (x : ℕ) → x < length parents → group < x → (IsMovedChild parents group before x → ⊥) → IsBornFrom parents group before x → ⊥
    not_moved x lt above off b = off (λ own. b.moved x (child_again parents group x (record { above = omega arith; there = lt; parent = own })) (path_own x lt))

    pub born_up : (x : ℕ) → x < length parents → group < x → IsMovedChild parents group before x → IsBornFrom parents group before (parent_of parents x) ↔ IsBornFrom parents group before x
    born_up x lt above own = (up, down)
      where
        up : IsBornFrom parents group before (parent_of parents x) → IsBornFrom parents group before x
        up b = record {
          at_or_above = path_up x group (omega arith) lt b.at_or_above;
          moved = λ child is c. by child is (path_cases x child lt c);
        } where
          by : (child : ℕ) → is_child parents group child ≡ true → (child ≡ x) ⊎ ((0 < x) × Contains (path_of parents (parent_of parents x)) child) → Contains (moved_in before) child
          by child is (inl same) = subst (λ (n : ℕ). Contains (moved_in before) n) (sym same) (own (ap (parent_of parents) (sym same) ∙ (child_takes parents group child is).parent))
          by child is (inr (some, more)) = b.moved child is more

        down : IsBornFrom parents group before x → IsBornFrom parents group before (parent_of parents x)
        down b = record {
          at_or_above = by (path_cases x group lt b.at_or_above);
          moved = λ child is c. b.moved child is (path_up x child (omega arith) lt c);
        } where
          by : (group ≡ x) ⊎ ((0 < x) × Contains (path_of parents (parent_of parents x)) group) → Contains (path_of parents (parent_of parents x)) group
          by (inl same) = absurd (omega arith)
          by (inr (some, more)) = more

    pub climbed_more : (birth x : ℕ) → x < length parents → group < x → IsMovedChild parents group before x → IsClimbed parents group before birth x → IsClimbed parents group before birth (parent_of parents x)
    climbed_more birth x lt above own h = let s = born_up x lt above own in (λ b. h.0 (s.0 b), λ b. s.1 (h.1 b))

    from_born : (birth : ℕ) → IsBornAt parents group before birth → IsBornFrom parents group before birth
    from_born birth b = record { at_or_above = b.at_or_above; moved = b.moved }

    pub born_fails : (birth x : ℕ) → x < length parents → group < x → (b : Bool) → b ≡ false → Decides b (IsMovedChild parents group before x) → IsClimbed parents group before birth x → Decides false (IsBornAt parents group before birth)
    born_fails birth x lt above b f d h = (λ t. absurd cc, λ born. absurd (not_moved x lt above (λ own. clash b (d.1 own) f) (h.1 (from_born birth born))))

    pub born_ends : (birth x : ℕ) → birth < length parents → x < length parents → x ≤ group → (b : Bool) → Decides b (x ≡ group) → IsClimbed parents group before birth x → Decides b (IsBornAt parents group before birth)
    born_ends birth x in_tree lt le b d h = (
      λ t. let from = h.0 (subst (IsBornFrom parents group before) (sym (d.0 t)) born_here) in record { there = in_tree; at_or_above = from.at_or_above; moved = from.moved },
      λ born. d.1 (by (cases_order x group) (h.1 (from_born birth born))),
    ) where
      by : (x ≡ group) ⊎ ((x < group) ⊎ (group < x)) → IsBornFrom parents group before x → x ≡ group
      by (inl same) from = same
      by (inr (inl less)) from = absurd (not_above x lt less from)
      by (inr (inr more)) from = absurd (omega arith)

pub not_in_tree : (parents : List ℕ) (group birth : ℕ) (before : List Entry) → length parents ≤ birth → Decides false (IsBornAt parents group before birth)
not_in_tree parents group birth before past = (λ t. absurd cc, λ b. let lt = b.there in absurd (omega arith))

-- ---- children

pub children_all : (parents : List ℕ) (group k : ℕ) (before : List Entry) → length parents ≤ k → ((child : ℕ) → 0 < child → child < k → IsMovedChild parents group before child) → Decides true (AreChildrenMovedIn parents group before)
children_all parents group k before le all = (λ t child is. let c = child_takes parents group child is in let lt = c.there in all child c.above (omega arith) c.parent, λ h. refl)

pub one_child_more : (parents : List ℕ) (group k : ℕ) (before : List Entry) → IsMovedChild parents group before k → ((child : ℕ) → 0 < child → child < k → IsMovedChild parents group before child)
    → (child : ℕ) → 0 < child → child < k + 1 → IsMovedChild parents group before child
one_child_more parents group k before here all child above lt = by (cases_order child k)
  where
    by : (child ≡ k) ⊎ ((child < k) ⊎ (k < child)) → IsMovedChild parents group before child
    by (inl same) = subst (IsMovedChild parents group before) (sym same) here
    by (inr (inl lower)) = all child above lower
    by (inr (inr higher)) = absurd (omega arith)

pub child_left : (parents : List ℕ) (group k : ℕ) (before : List Entry) → 0 < k → k < length parents → (b : Bool) → b ≡ false → Decides b (IsMovedChild parents group before k) → Decides false (AreChildrenMovedIn parents group before)
child_left parents group k before above lt b f d = (λ t. absurd cc, λ all. absurd (clash b (d.1 (λ own. all k (child_again parents group k (record { above = above; there = lt; parent = own })))) f))

-- ---- one entry more

one_moved : (e : Entry) → moved_in (e ∷ []) ≡ elim (child_of e) as (λ _. List ℕ) [ None ↦ [] | Some child ↦ child ∷ [] ]
one_moved (Add by birth added key value) = refl
one_moved (Look by birth key hit) = refl
one_moved (Drop by birth key kind) = refl
one_moved (Pin by birth key pinned hit) = refl
one_moved (Scan worker walk asked policy visits freed stopped) = refl
one_moved (MovedIn child objects) = refl
one_moved Closed = refl
one_moved (Drained by objects) = refl

more_none : (before : List Entry) (e : Entry) → child_of e ≡ None → moved_in (before ++ e ∷ []) ≡ moved_in before ++ []
more_none before e none = filter_map-append child_of before (e ∷ []) ∙ ap (λ (xs : List ℕ). moved_in before ++ xs) (one_moved e ∙ rw none refl)

more_some : (before : List Entry) (e : Entry) (child : ℕ) → child_of e ≡ Some child → moved_in (before ++ e ∷ []) ≡ moved_in before ++ child ∷ []
more_some before e child some = filter_map-append child_of before (e ∷ []) ∙ ap (λ (xs : List ℕ). moved_in before ++ xs) (one_moved e ∙ rw some refl)

has_left : (xs ys : List ℕ) (x : ℕ) → Has xs x → Has (xs ++ ys) x
has_left [] ys x h = absurd h
has_left (y ∷ xs) ys x (inl same) = inl same
has_left (y ∷ xs) ys x (inr more) = inr (has_left xs ys x more)

has_cases : (xs : List ℕ) (y x : ℕ) → Has (xs ++ y ∷ []) x → Has xs x ⊎ (y ≡ x)
has_cases [] y x (inl same) = inr same
has_cases [] y x (inr none) = absurd none
has_cases (z ∷ xs) y x (inl same) = inl (inl same)
has_cases (z ∷ xs) y x (inr more) = by (has_cases xs y x more)
  where
    by : Has xs x ⊎ (y ≡ x) → Has (z ∷ xs) x ⊎ (y ≡ x)
    by (inl h) = inl (inr h)
    by (inr same) = inr same

has_none : (xs : List ℕ) (x : ℕ) → Has (xs ++ []) x → Has xs x
has_none [] x h = h
has_none (y ∷ xs) x (inl same) = inl same
has_none (y ∷ xs) x (inr more) = inr (has_none xs x more)

-- an entry that moves nothing in
pub moved_same : (before : List Entry) (e : Entry) (moved : List Bool) → child_of e ≡ None → AreMovesTold before moved → AreMovesTold (before ++ e ∷ []) moved
moved_same before e moved none all g lt = let d = all g lt in let is = more_none before e none in (
  λ t. subst (λ (xs : List ℕ). Contains xs g) (sym is) (Contains_from_Has (moved_in before ++ []) g (has_left (moved_in before) [] g (Has_from_Contains (moved_in before) g (d.0 t)))),
  λ c. d.1 (Contains_from_Has (moved_in before) g (has_none (moved_in before) g (Has_from_Contains (moved_in before ++ []) g (subst (λ (xs : List ℕ). Contains xs g) is c)))),
)

-- one that moves in the list of a child
module _ (before : List Entry) (e : Entry) (child : ℕ) (some : child_of e ≡ Some child) where
  after_other : (g : ℕ) (b : Bool) → g ≢ child → Decides b (Contains (moved_in before) g) → Decides b (Contains (moved_in (before ++ e ∷ [])) g)
  after_other g b ne d = let is = more_some before e child some in (
    λ t. subst (λ (xs : List ℕ). Contains xs g) (sym is) (Contains_from_Has (moved_in before ++ child ∷ []) g (has_left (moved_in before) (child ∷ []) g (Has_from_Contains (moved_in before) g (d.0 t)))),
    λ c. by (has_cases (moved_in before) child g (Has_from_Contains (moved_in before ++ child ∷ []) g (subst (λ (xs : List ℕ). Contains xs g) is c))),
  ) where
    by : Has (moved_in before) g ⊎ (child ≡ g) → b ≡ true
    by (inl h) = d.1 (Contains_from_Has (moved_in before) g h)
    by (inr same) = absurd (ne (sym same))

  after_own : Contains (moved_in (before ++ e ∷ [])) child
  after_own = subst (λ (xs : List ℕ). Contains xs child) (sym (more_some before e child some)) (Contains_from_Has (moved_in before ++ child ∷ []) child (Has_last (moved_in before) child))

  pub moved_set : (moved : List Bool) → child < length moved → AreMovesTold before moved → AreMovesTold (before ++ e ∷ []) (set moved child true)
  moved_set moved lt all g below = dite (ℕ_discrete g child) own other
    where
      within : g < length moved
      within = let same = length-set moved child true in omega arith

      own : g ≡ child → Decides (get_or (set moved child true) g false) (Contains (moved_in (before ++ e ∷ [])) g)
      own same = (λ t. subst (λ (n : ℕ). Contains (moved_in (before ++ e ∷ [])) n) (sym same) after_own, λ c. ap (λ (n : ℕ). get_or (set moved child true) n false) same ∙ get_or-set_same moved child true false lt)

      other : g ≢ child → Decides (get_or (set moved child true) g false) (Contains (moved_in (before ++ e ∷ [])) g)
      other ne = subst (λ (b : Bool). Decides b (Contains (moved_in (before ++ e ∷ [])) g)) (sym (get_or-set_other moved child g true false ne)) (after_other g (get_or moved g false) ne (all g within))

  pub moved_past : (moved : List Bool) → length moved ≤ child → AreMovesTold before moved → AreMovesTold (before ++ e ∷ []) moved
  moved_past moved le all g lt = after_other g (get_or moved g false) (λ same. omega arith) (all g lt)

-- one group more, where nothing was moved in
pub none_more : (moved after : List Bool) → after ≡ moved ++ false ∷ [] → AreMovesTold [] moved → AreMovesTold [] after
none_more moved after pushed all = subst (AreMovesTold []) (sym pushed) (λ g lt. by g lt (cases_order g (length moved)))
  where
    nothing : (g : ℕ) → Decides false (Contains (moved_in []) g)
    nothing g = (λ t. absurd cc, λ c. absurd (Has_from_Contains [] g c))

    by : (g : ℕ) → g < length (moved ++ false ∷ []) → (g ≡ length moved) ⊎ ((g < length moved) ⊎ (length moved < g)) → Decides (get_or (moved ++ false ∷ []) g false) (Contains (moved_in []) g)
    by g lt (inl same) = subst (λ (b : Bool). Decides b (Contains (moved_in []) g)) (sym (ap (λ (n : ℕ). get_or (moved ++ false ∷ []) n false) same ∙ get_or-append_seam moved false [] false)) (nothing g)
    by g lt (inr (inl lower)) = subst (λ (b : Bool). Decides b (Contains (moved_in []) g)) (sym (get_or_append_left moved (false ∷ []) false g lower)) (all g lower)
    by g lt (inr (inr past)) = let many : length (moved ++ false ∷ []) ≡ length moved + 1 = length-append moved (false ∷ []) in absurd (omega arith)

-- ---- all entries

pub closed_more : (before : List Entry) (e : Entry) → is_closed before ≡ false → is_closing e ≡ is_closed (before ++ e ∷ [])
closed_more before e f = sym (list_any-append is_closing before (e ∷ []) ∙ (ap (λ b. b || is_closed (e ∷ [])) f ∙ one))
  where
    or_false : (b : Bool) → (b || false) ≡ b
    or_false true = refl
    or_false false = refl

    one : is_closed (e ∷ []) ≡ is_closing e
    one = or_false (is_closing e)

pub stands_closed : (parents : List ℕ) (group : ℕ) (before : List Entry) (e : Entry) (b : Bool) → b ≡ true → b ≡ is_closed before → Decides false (MayStand parents group before e)
stands_closed parents group before e b t is = (λ u. absurd cc, λ m. absurd (clash b t (is ∙ m.«open»)))

-- the entries so far may stand where they do, and this is told of them
pub record IsStood (parents : List ℕ) (group : ℕ) (entries : List Entry) (i : ℕ) (moved : List Bool) (closed : Bool) : Type 0 where
  pub each : (n : ℕ) (e : Entry) → n < i → slice_get entries n ≡ Some e → MayStand parents group (take n entries) e
  pub told : AreMovesTold (take i entries) moved
  pub many : length moved ≡ length parents
  pub is : closed ≡ is_closed (take i entries)

pub stood_none : (parents : List ℕ) (group : ℕ) (entries : List Entry) (moved : List Bool) → AreMovesTold [] moved → length moved ≡ length parents → IsStood parents group entries 0 moved false
stood_none parents group entries moved told many = record { each = λ n e lt at. absurd (omega arith); told = told; many = many; is = refl }

module _ (parents : List ℕ) (group : ℕ) (entries : List Entry) (i : ℕ) (e : Entry) (lt : i < length entries) (is : e ≡ get_or entries i e) where
  next : take (i + 1) entries ≡ take i entries ++ e ∷ []
  next = take_more entries i e lt ∙ ap (λ (x : Entry). take i entries ++ x ∷ []) (sym is)

  here : (b : Bool) → Decides b (MayStand parents group (take i entries) e) → (x : Entry) → slice_get entries i ≡ Some x → Decides b (MayStand parents group (take i entries) x)
  here b d x at = subst (λ (y : Entry). Decides b (MayStand parents group (take i entries) y)) (is ∙ get_or_from_slice_get entries i x e at) d

  pub stood_more : (moved after : List Bool) (closed : Bool) (b : Bool) → b ≡ true → Decides b (MayStand parents group (take i entries) e) → IsStood parents group entries i moved closed → AreMovesTold (take i entries ++ e ∷ []) after → length after ≡ length moved
      → (shut : Bool) → shut ≡ is_closing e → IsStood parents group entries (i + 1) after shut
  stood_more moved after closed b t d s told many shut same = record {
    each = one_more (λ (n : ℕ) (x : Entry). MayStand parents group (take n entries) x) entries i b t (here b d) s.each;
    told = subst (λ (es : List Entry). AreMovesTold es after) (sym next) told;
    many = many ∙ s.many;
    is = same ∙ (closed_more (take i entries) e (d.0 t).«open» ∙ ap is_closed (sym next));
  }

  pub stood_fails : (b : Bool) → b ≡ false → Decides b (MayStand parents group (take i entries) e) → Decides false (AreStanding parents group entries)
  stood_fails b f d = one_fails (λ (n : ℕ) (x : Entry). MayStand parents group (take n entries) x) entries i b lt f (here b d)

pub stood_all : (parents : List ℕ) (group : ℕ) (entries : List Entry) (i : ℕ) (moved : List Bool) (closed : Bool) → length entries ≤ i → IsStood parents group entries i moved closed → Decides true (AreStanding parents group entries)
stood_all parents group entries i moved closed le s = all_so (λ (n : ℕ) (x : Entry). MayStand parents group (take n entries) x) entries i le s.each

-- ---- a child

pub child_free : (parents : List ℕ) (group child : ℕ) (before : List Entry) → parent_of parents child ≢ group → Decides true (IsMovedChild parents group before child)
child_free parents group child before ne = (λ t own. absurd (ne own), λ h. refl)

pub child_told : (parents : List ℕ) (group child : ℕ) (before : List Entry) → parent_of parents child ≡ group → (b : Bool) → Decides b (Contains (moved_in before) child) → Decides b (IsMovedChild parents group before child)
child_told parents group child before same b d = (λ t own. d.0 t, λ h. d.1 (h same))

pub move_refused : (parents : List ℕ) (group child : ℕ) (before : List Entry) → is_child parents group child ≡ false → Decides false ((is_child parents group child ≡ true) × (Contains (moved_in before) child → ⊥))
move_refused parents group child before none = (λ t. absurd cc, λ h. absurd (clash (is_child parents group child) h.0 none))

pub move_told : (parents : List ℕ) (group child : ℕ) (before : List Entry) → is_child parents group child ≡ true → (b : Bool) → Decides b (Contains (moved_in before) child) → Decides (not b) ((is_child parents group child ≡ true) × (Contains (moved_in before) child → ⊥))
move_told parents group child before own true d = (λ t. absurd cc, λ h. absurd (h.1 (d.0 refl)))
move_told parents group child before own false d = (λ t. (own, λ c. let e = d.1 c in cc), λ h. refl)

pub close_refused : (parents : List ℕ) (group : ℕ) (before : List Entry) → group ≡ 0 → Decides false ((group ≢ 0) × AreChildrenMovedIn parents group before)
close_refused parents group before root = (λ t. absurd cc, λ h. absurd (h.0 root))

pub close_told : (parents : List ℕ) (group : ℕ) (before : List Entry) → group ≢ 0 → (b : Bool) → Decides b (AreChildrenMovedIn parents group before) → Decides b ((group ≢ 0) × AreChildrenMovedIn parents group before)
close_told parents group before below b d = (λ t. (below, d.0 t), λ h. d.1 h.1)

-- ---- one entry

pub stand_told : (parents : List ℕ) (group : ℕ) (before : List Entry) (e : Entry) (closed : Bool) → closed ≡ false → closed ≡ is_closed before → (b : Bool) → Decides b (IsAllowed parents group before e) → Decides b (MayStand parents group before e)
stand_told parents group before e closed f is b d = (λ t. record { «open» = sym is ∙ f; allowed = d.0 t }, λ h. d.1 h.allowed)

-- ---- a place

pub none_stands : (parents : List ℕ) (r : Report) (place : Place) (es : List Entry) → es ≡ journals_of r place → length es ≡ 0 → Decides true (IsPlaceStanding parents r place)
none_stands parents r place es e none = (
  λ t. record {
    there = λ some. let same = ap length e in absurd (omega arith);
    stands = λ n x at. let lt = slice_get_within (journals_of r place) n x at in let same = ap length e in absurd (omega arith);
  },
  λ h. refl,
)

pub out_of_tree : (parents : List ℕ) (r : Report) (place : Place) (es : List Entry) → es ≡ journals_of r place → 0 < length es → length parents ≤ place.group → Decides false (IsPlaceStanding parents r place)
out_of_tree parents r place es e some past = (λ t. absurd cc, λ h. let same = ap length e in let lt = h.there (omega arith) in absurd (omega arith))

pub place_stands : (parents : List ℕ) (r : Report) (place : Place) (es : List Entry) → es ≡ journals_of r place → place.group < length parents → (b : Bool) → Decides b (AreStanding parents place.group es) → Decides b (IsPlaceStanding parents r place)
place_stands parents r place es e lt b d = (
  λ t. record { there = λ some. lt; stands = subst (AreStanding parents place.group) e (d.0 t) },
  λ h. d.1 (subst (AreStanding parents place.group) (sym e) h.stands),
)

-- each place
pub standing_of : (parents : List ℕ) (r : Report) (b : Bool) → Decides b (EachFirst r.places.items (λ end. IsPlaceStanding parents r end.place)) → Decides b ((place : Place) → IsPlaceStanding parents r place)
standing_of parents r b d = each_printed_of r (IsPlaceStanding parents r) (λ place none. (none_stands parents r place [] (sym none) refl).0 refl) b d
