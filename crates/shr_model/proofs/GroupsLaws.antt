-- SPDX-License-Identifier: GPL-2.0-only
-- Laws of the tree of groups: paths, at or above, and preorder.
use Rattle.shr_model.proofs.Common.{◌≡◌, ◌≢◌, ℕ, zero, suc, ◌+◌, ◌≤◌, ◌<◌, Bool, true, false, cond, not, ◌&&◌, ◌||◌, List, [], ◌∷◌, ◌++◌, length, get_or, set, map, filter, refl, sym, ap, subst, ◌∙◌, ⊎_elim, arith, ◌==◌, flat_map, range_with_len, nat_tests, append-nil, Hierarchy, IsHierarchy, is_later, parent_of, IsTree, path_of, depth_of, is_child, children_of, preorder_of, nat_lt, cases_lt, map-id, length_push, get_or_push, get_or_append_left, same_lists, get_or-set_same, get_or-set_other, length-set}
use Rattle.std.proofs.lemmas.List.FromFn.{map-range_with_len_more, length-map-range_with_len, get_or-map-range_with_len}
use Rattle.std.proofs.lemmas.List.Elements.{filter-append, filter_passes}
use Rattle.shr_model.specs.Groups.{path_within, preorder_within}
use Rattle.shr_model.proofs.Lists.{none_past}

-- ---- tests

pub above_zero : (g : ℕ) → (g == 0) ≡ false → 0 < g
above_zero g e = grind (arith, nat_tests)

is_zero : (g : ℕ) → (g == 0) ≡ true → g ≡ 0
is_zero g e = grind (arith, nat_tests)

pub not_zero : (g : ℕ) → 0 < g → (g == 0) ≡ false
not_zero g h = grind (arith, nat_tests)

-- what a child is
pub record IsChild (parents : List ℕ) (group child : ℕ) : Type 0 where
  pub above : 0 < child
  pub there : child < length parents
  pub parent : parent_of parents child ≡ group

child_tests : (a n p g : ℕ) → (nat_lt 0 a && nat_lt a n && (p == g)) ≡ true → (0 < a) × (a < n) × (p ≡ g)
child_tests a n p g e = grind (arith, nat_tests)

tests_child : (a n p g : ℕ) → 0 < a → a < n → p ≡ g → (nat_lt 0 a && nat_lt a n && (p == g)) ≡ true
tests_child a n p g x y z = grind (arith, nat_tests)

-- what is tested as a child is one
pub child_takes : (parents : List ℕ) (group child : ℕ) → is_child parents group child ≡ true → IsChild parents group child
child_takes parents group child e =
    let t = child_tests child (length parents) (parent_of parents child) group e in
    record { above = t.0; there = t.1; parent = t.2 }

-- a child is tested as one
pub child_again : (parents : List ℕ) (group child : ℕ) → IsChild parents group child → is_child parents group child ≡ true
child_again parents group child h = tests_child child (length parents) (parent_of parents child) group h.above h.there h.parent

-- a child has a higher number than its parent
pub child_higher : (parents : List ℕ) (group child : ℕ) → IsTree parents → IsChild parents group child → group < child
child_higher parents group child tree h = let l = tree.lower child h.above h.there in let e = h.parent in omega (arith, l, e)

-- what is listed as a child is one
pub child_listed : (parents : List ℕ) (group i : ℕ) → i < length (children_of parents group) → IsChild parents group (get_or (children_of parents group) i 0)
child_listed parents group i lt = child_takes parents group (get_or (children_of parents group) i 0) (filter_passes (is_child parents group) (range_with_len 0 (length parents)) i 0 lt)

-- ---- the path of a group

-- the path is the same within any number of steps that suffice
same_path_at : (parents : List ℕ) → IsTree parents → (k m g : ℕ) (t : Bool) → (g == 0) ≡ t → g ≤ suc k → g ≤ suc m → g < length parents
    → ((p : ℕ) → p ≤ k → p ≤ m → p < length parents → path_within k parents p ≡ path_within m parents p)
    → path_within (suc k) parents g ≡ path_within (suc m) parents g
unfolding path_within
same_path_at parents tree k m g true e a b lt more = rw e refl
same_path_at parents tree k m g false e a b lt more =
    let l = tree.lower g (above_zero g e) lt in
    rw (e, more (parent_of parents g) (omega (arith, l, a)) (omega (arith, l, b)) (omega (arith, l, lt))) refl

path_zero : (parents : List ℕ) (k g : ℕ) → g ≡ 0 → path_within k parents g ≡ 0 ∷ []
unfolding path_within
path_zero parents zero g e = rw e refl
path_zero parents (suc k) g e = rw e refl

-- a path is the same for any two numbers of steps that reach the root
pub same_path : (parents : List ℕ) → IsTree parents → (k m g : ℕ) → g ≤ k → g ≤ m → g < length parents → path_within k parents g ≡ path_within m parents g
same_path parents tree zero m g a b lt = let z : g ≡ 0 = omega arith in path_zero parents 0 g z ∙ sym (path_zero parents m g z)
same_path parents tree (suc k) zero g a b lt = let z : g ≡ 0 = omega arith in path_zero parents (suc k) g z ∙ sym (path_zero parents 0 g z)
same_path parents tree (suc k) (suc m) g a b lt = same_path_at parents tree k m g (g == 0) refl a b lt (λ p x y l. same_path parents tree k m p x y l)

pub path_of-root : (parents : List ℕ) → path_of parents 0 ≡ 0 ∷ []
path_of-root parents = path_zero parents 0 0 refl

-- The path of a group below the root is the group and the path of its parent.
pub path_of-below : (parents : List ℕ) → IsTree parents → (g : ℕ) → 0 < g → g < length parents → path_of parents g ≡ g ∷ path_of parents (parent_of parents g)
unfolding path_within
path_of-below parents tree zero above lt = absurd (omega arith)
path_of-below parents tree (suc h) above lt =
    let p = parent_of parents (suc h) in
    let l = tree.lower (suc h) above lt in
    rw (not_zero (suc h) above, same_path parents tree h p p (omega (arith, l)) (omega arith) (omega (arith, l, lt))) refl

-- so is that of a group that isn't there, whose parent is the root
pub path_of-past : (parents : List ℕ) (g : ℕ) → 0 < g → length parents ≤ g → path_of parents g ≡ g ∷ path_of parents (parent_of parents g)
unfolding path_within
path_of-past parents zero above past = absurd (omega arith)
path_of-past parents (suc h) above past = rw (not_zero (suc h) above, none_past parents (suc h) past, path_zero parents h 0 refl, path_zero parents 0 0 refl) refl

-- how far from the root a group is, and its parent
pub depth_of-root : (parents : List ℕ) → depth_of parents 0 ≡ 1
depth_of-root parents = rw (path_of-root parents) refl

-- a group is one level deeper than its parent
pub depth_of-below : (parents : List ℕ) → IsTree parents → (g : ℕ) → 0 < g → g < length parents → depth_of parents g ≡ suc (depth_of parents (parent_of parents g))
depth_of-below parents tree g above lt = rw (path_of-below parents tree g above lt) refl

path_long : (parents : List ℕ) (k g : ℕ) → length (path_within k parents g) ≤ suc k
unfolding path_within
path_long parents zero g = omega arith
path_long parents (suc k) g = long_at (g == 0) (path_long parents k (parent_of parents g))
  where
    long_at : (t : Bool) → length (path_within k parents (parent_of parents g)) ≤ suc k → length (cond t (0 ∷ []) (g ∷ path_within k parents (parent_of parents g))) ≤ suc (suc k)
    long_at true h = omega arith
    long_at false h = omega (arith, h)

-- a group is at most as deep as its number
pub depth_of-le : (parents : List ℕ) (g : ℕ) → depth_of parents g ≤ suc g
depth_of-le parents g = path_long parents g g

-- ---- children, one group more

-- a group's parent stays when a group more is added
pub parent_of-push : (parents : List ℕ) (p g : ℕ) → g < length parents → parent_of (parents ++ p ∷ []) g ≡ parent_of parents g
parent_of-push parents p g lt = get_or_append_left parents (p ∷ []) 0 g lt

pub parent_of-pushed : (parents : List ℕ) (p : ℕ) → parent_of (parents ++ p ∷ []) (length parents) ≡ p
parent_of-pushed parents p = get_or_push parents p 0 (length parents) refl

-- a group more, below one that is there, makes a tree of a tree
pub IsTree-push : (parents : List ℕ) (p : ℕ) → IsTree parents → p < length parents → IsTree (parents ++ p ∷ [])
IsTree-push parents p tree lt =
    let long = length_push parents p in
    let r = tree.has_root in
    record {
      has_root = omega (arith, long);
      root = parent_of-push parents p 0 tree.has_root ∙ tree.root;
      lower = λ g above there. pushed_lower parents p tree lt g above (omega (arith, there, long)) (nat_lt g (length parents)) refl;
    }
  where
    less : (a b : ℕ) → nat_lt a b ≡ true → a < b
    less a b e = grind (arith, nat_tests)

    most : (a b : ℕ) → nat_lt a b ≡ false → b ≤ a
    most a b e = grind (arith, nat_tests)

    pushed_lower : (parents : List ℕ) (p : ℕ) → IsTree parents → p < length parents → (g : ℕ) → 0 < g → g < length parents + 1 → (t : Bool) → nat_lt g (length parents) ≡ t → parent_of (parents ++ p ∷ []) g < g
    pushed_lower parents p tree lt g above there true e =
        let l = tree.lower g above (less g (length parents) e) in
        let same = parent_of-push parents p g (less g (length parents) e) in omega (arith, l, same)
    pushed_lower parents p tree lt g above there false e =
        let is : length parents ≡ g = let m = most g (length parents) e in omega (arith, m, there) in
        let last = parent_of-pushed parents p in
        subst (λ (n : ℕ). parent_of (parents ++ p ∷ []) n < n) is (omega (arith, last, lt))

pub range_more : (n : ℕ) → range_with_len 0 (n + 1) ≡ range_with_len 0 n ++ n ∷ []
range_more n = sym (map-id (range_with_len 0 (n + 1))) ∙ map-range_with_len_more (λ (i : ℕ). i) 0 n n (omega arith) ∙ ap (λ (xs : List ℕ). xs ++ n ∷ []) (map-id (range_with_len 0 n))

-- two tests that agree on each number below a bound keep the same of these
agree : (p q : ℕ → Bool) (n : ℕ) → ((i : ℕ) → i < n → p i ≡ q i) → filter p (range_with_len 0 n) ≡ filter q (range_with_len 0 n)
agree p q n same = agree_from p q 0 n (λ i low high. same i (omega (arith, high)))
  where
    agree_from : (p q : ℕ → Bool) (a n : ℕ) → ((i : ℕ) → a ≤ i → i < a + n → p i ≡ q i) → filter p (range_with_len a n) ≡ filter q (range_with_len a n)
    agree_from p q a zero same = refl
    agree_from p q a (suc n) same =
        let here : p a ≡ q a = same a (omega arith) (omega arith) in
        let more : filter p (range_with_len (a + 1) n) ≡ filter q (range_with_len (a + 1) n) = agree_from p q (a + 1) n (λ i low high. same i (omega (arith, low)) (omega (arith, high))) in
        rw (here, more) refl

-- a group that was there has one child more where it is the parent
pub children_of-push : (parents : List ℕ) (p g : ℕ) → IsTree parents → p < length parents → g < length parents
    → children_of (parents ++ p ∷ []) g ≡ children_of parents g ++ cond (p == g) (length parents ∷ []) []
children_of-push parents p g tree lt there =
    let n = length parents in
    let longer = parents ++ p ∷ [] in
    let long : length longer ≡ n + 1 = length_push parents p in
    let test = is_child longer g in
    let last : test n ≡ (p == g) = rw (long, parent_of-pushed parents p) (new_child n (p == g) (omega (arith, lt))) in
    let before : filter test (range_with_len 0 n) ≡ children_of parents g = agree test (is_child parents g) n (λ i h. rw (long, parent_of-push parents p i h) (old_child n i (parent_of parents i == g) h)) in
    ap (λ (k : ℕ). filter test (range_with_len 0 k)) long
    ∙ ap (filter test) (range_more n)
    ∙ filter-append test (range_with_len 0 n) (n ∷ [])
    ∙ ap (λ (xs : List ℕ). xs ++ filter test (n ∷ [])) before
    ∙ ap (λ (b : Bool). children_of parents g ++ cond b (n ∷ []) []) last
  where
    new_child : (n : ℕ) (b : Bool) → 0 < n → (nat_lt 0 n && nat_lt n (n + 1) && b) ≡ b
    new_child n b h = grind (arith, nat_tests)

    old_child : (n i : ℕ) (b : Bool) → i < n → (nat_lt 0 i && nat_lt i (n + 1) && b) ≡ (nat_lt 0 i && nat_lt i n && b)
    old_child n i b h = grind (arith, nat_tests)

-- the new group has no child
pub children_of-pushed : (parents : List ℕ) (p : ℕ) → IsTree parents → p < length parents → children_of (parents ++ p ∷ []) (length parents) ≡ []
children_of-pushed parents p tree lt =
    let n = length parents in
    let longer = parents ++ p ∷ [] in
    let long : length longer ≡ n + 1 = length_push parents p in
    let grown = IsTree-push parents p tree lt in
    none_kept (is_child longer n) (range_with_len 0 (length longer))
    (λ i. childless longer n i grown (omega (arith, long)) (is_child longer n i) refl)
  where
    none_kept : (test : ℕ → Bool) (xs : List ℕ) → ((i : ℕ) → test i ≡ false) → filter test xs ≡ []
    none_kept test [] none = refl
    none_kept test (x ∷ xs) none = rw (none x, none_kept test xs none) refl

    childless : (parents : List ℕ) (n i : ℕ) → IsTree parents → length parents ≤ n + 1 → (t : Bool) → is_child parents n i ≡ t → is_child parents n i ≡ false
    childless parents n i tree few true e =
        let h = child_takes parents n i e in
        let higher = child_higher parents n i tree h in
        let there = h.there in absurd (omega (arith, higher, there, few))
    childless parents n i tree few false e = e

-- and a group more that is later, or whose parent isn't
pub IsHierarchy-push : (h : Hierarchy) (p : ℕ) (late : Bool) → IsHierarchy h → p < length h.parents → (late || not (is_later h.later p)) ≡ true → IsHierarchy (record { parents = h.parents ++ p ∷ []; later = h.later ++ late ∷ [] })
IsHierarchy-push h p late is lt may =
    let long = length_push h.parents p in
    let wide = length_push h.later late in
    let each = is.each in
    let r = is.tree.has_root in
    record {
      tree = IsTree-push h.parents p is.tree lt;
      each = omega (arith, long, wide, each);
      root = get_or_append_left h.later (late ∷ []) false 0 (omega (arith, each, r)) ∙ is.root;
      above = λ g there not_late_so. ⊎_elim
          (λ (near : g < length h.parents). was g near (sym (get_or_append_left h.later (late ∷ []) false g (omega (arith, each, near))) ∙ not_late_so))
          (λ (far : length h.parents ≤ g). let here : g ≡ length h.parents = omega (arith, there, long, far) in now g here not_late_so)
          (cases_lt g (length h.parents));
    }
  where
    longer : List Bool
    longer = h.later ++ late ∷ []

    kept : (g : ℕ) → g < length h.parents → is_later h.later g ≡ false → is_later (h.later ++ late ∷ []) g ≡ false
    kept g near not_late_so = let each = is.each in get_or_append_left h.later (late ∷ []) false g (omega (arith, each, near)) ∙ not_late_so

    low_parent : (g : ℕ) → g < length h.parents → parent_of h.parents g < length h.parents
    low_parent zero near = let r = is.tree.root in let s = is.tree.has_root in omega (arith, r, s)
    low_parent (suc g) near = let lower = is.tree.lower (suc g) (omega arith) near in omega (arith, lower, near)

    was : (g : ℕ) → g < length h.parents → is_later h.later g ≡ false → is_later (h.later ++ late ∷ []) (parent_of (h.parents ++ p ∷ []) g) ≡ false
    was g near not_late_so = subst (λ (q : ℕ). is_later (h.later ++ late ∷ []) q ≡ false) (sym (parent_of-push h.parents p g near)) (kept (parent_of h.parents g) (low_parent g near) (is.above g near not_late_so))

    not_late : (a b : Bool) → (a || not b) ≡ true → a ≡ false → b ≡ false
    not_late true b m f = absurd (let c : true ≡ false = f in cc)
    not_late false true m f = absurd (let c : false ≡ true = m in cc)
    not_late false false m f = refl

    now : (g : ℕ) → g ≡ length h.parents → is_later (h.later ++ late ∷ []) g ≡ false → is_later (h.later ++ late ∷ []) (parent_of (h.parents ++ p ∷ []) g) ≡ false
    now g here not_late_so =
        let each = is.each in
        let mine : late ≡ false = sym (get_or_push h.later late false g (omega (arith, each, here))) ∙ not_late_so in
        let up : parent_of (h.parents ++ p ∷ []) g ≡ p = get_or_push h.parents p 0 g (sym here) in
        subst (λ (q : ℕ). is_later (h.later ++ late ∷ []) q ≡ false) (sym up) (kept p lt (not_late late (is_later h.later p) may mine))

-- the children of each group that was there, and of the new one
pub children_lists-push : (parents : List ℕ) (p : ℕ) → IsTree parents → p < length parents
    → map (children_of (parents ++ p ∷ [])) (range_with_len 0 (length (parents ++ p ∷ [])))
    ≡ set (map (children_of parents) (range_with_len 0 (length parents))) p (children_of parents p ++ length parents ∷ []) ++ [] ∷ []
children_lists-push parents p tree lt =
    let n = length parents in
    let longer = parents ++ p ∷ [] in
    let long : length longer ≡ n + 1 = length_push parents p in
    let old = map (children_of parents) (range_with_len 0 n) in
    let new = map (children_of longer) (range_with_len 0 n) in
    ap (λ (k : ℕ). map (children_of longer) (range_with_len 0 k)) long
    ∙ map-range_with_len_more (children_of longer) 0 n n (omega arith)
    ∙ rw (children_of-pushed parents p tree lt)
    (ap (λ (xs : List (List ℕ)). xs ++ [] ∷ [])
    (same_lists new (set old p (children_of parents p ++ n ∷ []))
    (length-map-range_with_len (children_of longer) 0 n ∙ sym (length-set old p (children_of parents p ++ n ∷ []) ∙ length-map-range_with_len (children_of parents) 0 n))
    (λ g d h.
    let there : g < n = rw length-map-range_with_len at h in
    get_or-map-range_with_len (children_of longer) 0 n g g d there (omega arith)
    ∙ children_of-push parents p g tree lt there
    ∙ one_more parents p g d lt there (p == g) refl)))
  where
    same_number : (a b : ℕ) → (a == b) ≡ true → a ≡ b
    same_number a b e = grind (arith, nat_tests)

    other_number : (a b : ℕ) → (a == b) ≡ false → b ≢ a
    other_number a b e = grind (arith, nat_tests)

    one_more : (parents : List ℕ) (p g : ℕ) (d : List ℕ) → p < length parents → g < length parents → (t : Bool) → (p == g) ≡ t
        → children_of parents g ++ cond t (length parents ∷ []) [] ≡ get_or (set (map (children_of parents) (range_with_len 0 (length parents))) p (children_of parents p ++ length parents ∷ [])) g d
    one_more parents p g d lt there true e =
        let n = length parents in
        let old = map (children_of parents) (range_with_len 0 n) in
        let within : p < length old = rw (length-map-range_with_len (children_of parents) 0 n) lt in
        let is = same_number p g e in
        subst (λ (k : ℕ). children_of parents k ++ n ∷ [] ≡ get_or (set old p (children_of parents p ++ n ∷ [])) k d) is (sym (get_or-set_same old p (children_of parents p ++ n ∷ []) d within))
    one_more parents p g d lt there false e =
        let n = length parents in
        let old = map (children_of parents) (range_with_len 0 n) in
        append-nil (children_of parents g)
        ∙ sym (get_or-set_other old p g (children_of parents p ++ n ∷ []) d (other_number p g e) ∙ get_or-map-range_with_len (children_of parents) 0 n g g d there (omega arith))

-- ---- preorder

-- what each of the numbers that pass a test leads to
flat_same : (test : ℕ → Bool) (f h : ℕ → List ℕ) → ((x : ℕ) → test x ≡ true → f x ≡ h x) → (xs : List ℕ) → flat_map f (filter test xs) ≡ flat_map h (filter test xs)
flat_same test f h same [] = refl
flat_same test f h same (x ∷ xs) = one test f h same x xs (test x) refl (flat_same test f h same xs)
  where
    one : (test : ℕ → Bool) (f h : ℕ → List ℕ) → ((x : ℕ) → test x ≡ true → f x ≡ h x) → (x : ℕ) (xs : List ℕ) (t : Bool) → test x ≡ t
        → flat_map f (filter test xs) ≡ flat_map h (filter test xs) → flat_map f (filter test (x ∷ xs)) ≡ flat_map h (filter test (x ∷ xs))
    one test f h same x xs true e more = rw (e, same x e, more) refl
    one test f h same x xs false e more = rw e more

-- the preorder is the same within any number of levels that suffice
pub same_preorder : (parents : List ℕ) → IsTree parents → (k m g : ℕ) → length parents ≤ g + k → length parents ≤ g + m → g < length parents → preorder_within k parents g ≡ preorder_within m parents g
unfolding preorder_within
same_preorder parents tree zero m g a b lt = absurd (omega (arith, a, lt))
same_preorder parents tree (suc k) zero g a b lt = absurd (omega (arith, b, lt))
same_preorder parents tree (suc k) (suc m) g a b lt =
    ap (λ (xs : List ℕ). g ∷ xs)
    (flat_same (is_child parents g) (preorder_within k parents) (preorder_within m parents)
    (λ c e. let h = child_takes parents g c e in let l = child_higher parents g c tree h in let there = h.there in
    same_preorder parents tree k m c (omega (arith, l, a)) (omega (arith, l, b)) there)
    (range_with_len 0 (length parents)))

abbrev pub subtrees_of : List ℕ → ℕ → List ℕ
subtrees_of parents g = flat_map (preorder_of parents) (children_of parents g)

by_levels : (parents : List ℕ) → IsTree parents → (g : ℕ) → g < length parents → (k : ℕ) → length parents ≤ k → preorder_within k parents g ≡ g ∷ subtrees_of parents g
unfolding preorder_within
by_levels parents tree g lt zero a = absurd (omega (arith, a, lt))
by_levels parents tree g lt (suc k) a =
    ap (λ (xs : List ℕ). g ∷ xs)
    (flat_same (is_child parents g) (preorder_within k parents) (preorder_within (length parents) parents)
    (λ c e. let h = child_takes parents g c e in let l = child_higher parents g c tree h in let there = h.there in
    same_preorder parents tree k (length parents) c (omega (arith, l, a)) (omega arith) there)
    (range_with_len 0 (length parents)))

-- The preorder of a group is the group, and then the preorder of each of its children.
pub preorder_of-group : (parents : List ℕ) → IsTree parents → (g : ℕ) → g < length parents → preorder_of parents g ≡ g ∷ subtrees_of parents g
preorder_of-group parents tree g lt = by_levels parents tree g lt (length parents) (omega arith)
