-- SPDX-License-Identifier: GPL-2.0-only
-- What the parts of a tree tell of what is seen of it.
use Rattle.shr_tree.proofs.Common.{◌≡◌, ◌++◌, ◌∷◌, [], ◌<◌, ℕ, Bool, true, false, List, length, map, get_or, set, sym, ap, subst, ◌∙◌, arith, length-map, get_or-map, map_push, is_later, parent_of, children_of, preorder_of, Word, Group, may_hold, IsTreeWhole, ◌≤◌, length_push, IsTree, IsHierarchy, Groups, hierarchy_in, groups_seen, IsSubtree}
use Rattle.std.proofs.lemmas.List.FromFn.{length-map-range_with_len, get_or-map-range_with_len}
use Rattle.shr_model.proofs.GroupsOrder.{preorder_of-IsAtOrAbove, preorder_of-Contains, preorder_of-pairs, preorder_of-parents}
use Rattle.shr_model.proofs.GroupsLaws.{IsTree-push, IsHierarchy-push, children_lists-push}

-- each group has its list of children
pub within : (paths : List Word) (groups : List Group) (lists : List (List ℕ)) (seen : Groups) (g : ℕ) → IsTreeWhole paths groups lists → groups_seen paths groups ≡ seen → g < length seen.parents → g < length lists
within paths groups lists seen g whole is lt =
    let parents = map (λ (x : Group). x.parent) groups in
    let same = ap (λ (v : Groups). length v.parents) is in
    let long = ap (length {A = List ℕ}) whole.children in
    let all = length-map-range_with_len (children_of parents) 0 (length parents) in
    omega (arith, same, long, all, lt)

-- and it is that of its children
pub children_at : (paths : List Word) (groups : List Group) (lists : List (List ℕ)) (seen : Groups) (g : ℕ) (d : List ℕ) → IsTreeWhole paths groups lists → groups_seen paths groups ≡ seen → g < length seen.parents → get_or lists g d ≡ children_of seen.parents g
children_at paths groups lists seen g d whole is lt =
    let parents = map (λ (x : Group). x.parent) groups in
    let same = ap (λ (v : Groups). length v.parents) is in
    ap (λ (ls : List (List ℕ)). get_or ls g d) whole.children
    ∙ get_or-map-range_with_len (children_of parents) 0 (length parents) g g d (omega (arith, same, lt)) (omega arith)
    ∙ ap (λ (v : Groups). children_of v.parents g) is

-- the parents that are seen of a whole tree are those of a tree
pub is_tree : (paths : List Word) (groups : List Group) (lists : List (List ℕ)) (seen : Groups) → IsTreeWhole paths groups lists → groups_seen paths groups ≡ seen → IsTree seen.parents
is_tree paths groups lists seen whole is = subst (λ (v : Groups). IsTree v.parents) is whole.tree

-- and with what is said of which are later they are a hierarchy
pub is_hierarchy : (paths : List Word) (groups : List Group) (lists : List (List ℕ)) (seen : Groups) → IsTreeWhole paths groups lists → groups_seen paths groups ≡ seen → IsHierarchy (hierarchy_in seen)
is_hierarchy paths groups lists seen whole is = subst (λ (v : Groups). IsHierarchy (hierarchy_in v)) is whole.hierarchy

-- the mark of a group as it is kept
pub later_at : (paths : List Word) (groups : List Group) (seen : Groups) (g : ℕ) (d : Group) → groups_seen paths groups ≡ seen → g < length seen.parents → (get_or groups g d).later ≡ is_later seen.later g
later_at paths groups seen g d is lt =
    let same = ap (λ (v : Groups). length v.parents) is in
    let all = length-map groups (λ (x : Group). x.parent) in
    sym (get_or-map (λ (x : Group). x.later) groups g d false (omega (arith, same, all, lt))) ∙ ap (λ (v : Groups). is_later v.later g) is

-- what may hold a child by what is seen may by what is kept
pub holds_kept : (paths : List Word) (groups : List Group) (seen : Groups) (late : Bool) (p : ℕ) → groups_seen paths groups ≡ seen → may_hold seen.later late p ≡ true → may_hold (map (λ (x : Group). x.later) groups) late p ≡ true
holds_kept paths groups seen late p is h = subst (λ (v : Groups). may_hold v.later late p ≡ true) (sym is) h

-- the parent as it is kept
pub parent_at : (paths : List Word) (groups : List Group) (seen : Groups) (g : ℕ) (d : Group) → groups_seen paths groups ≡ seen → g < length seen.parents → (get_or groups g d).parent ≡ parent_of seen.parents g
parent_at paths groups seen g d is lt =
    let same = ap (λ (v : Groups). length v.parents) is in
    let all = length-map groups (λ (x : Group). x.parent) in
    sym (get_or-map (λ (x : Group). x.parent) groups g d 0 (omega (arith, same, all, lt))) ∙ ap (λ (v : Groups). parent_of v.parents g) is

pub few_groups : (paths : List Word) (groups : List Group) (lists : List (List ℕ)) (seen : Groups) → IsTreeWhole paths groups lists → groups_seen paths groups ≡ seen → length seen.parents ≤ 256
few_groups paths groups lists seen whole is =
    let same = ap (λ (v : Groups). length v.parents) is in
    let all = length-map groups (λ (x : Group). x.parent) in
    let few = whole.few in
    omega (arith, same, all, few)

-- with one group more they still belong together
pub whole_more : (paths : List Word) (groups : List Group) (lists : List (List ℕ)) (path : Word) (group : Group) → IsTreeWhole paths groups lists → group.parent < length groups → may_hold (map (λ (x : Group). x.later) groups) group.later group.parent ≡ true → length paths < 256
    → IsTreeWhole (paths ++ path ∷ []) (groups ++ group ∷ []) (set lists group.parent (get_or lists group.parent [] ++ length groups ∷ []) ++ [] ∷ [])
whole_more paths groups lists path group whole there holds few =
    let parents = map (λ (x : Group). x.parent) groups in
    let p = group.parent in
    let pushed : map (λ (x : Group). x.parent) (groups ++ group ∷ []) ≡ parents ++ p ∷ [] = map_push (λ (x : Group). x.parent) groups group in
    let all : length parents ≡ length groups = length-map groups (λ (x : Group). x.parent) in
    let lt : p < length parents = omega (arith, all, there) in
    let more = length_push groups group in
    let longer = length_push paths path in
    let named = whole.named in
    let own : get_or lists p [] ≡ children_of parents p = ap (λ (ls : List (List ℕ)). get_or ls p []) whole.children ∙ get_or-map-range_with_len (children_of parents) 0 (length parents) p p [] lt (omega arith) in
    record {
      tree = rw pushed (IsTree-push parents p whole.tree lt);
      hierarchy = subst (λ (ps : List ℕ). IsHierarchy (record { parents = ps; later = map (λ (x : Group). x.later) (groups ++ group ∷ []) })) (sym pushed)
          (subst (λ (ls : List Bool). IsHierarchy (record { parents = parents ++ p ∷ []; later = ls })) (sym (map_push (λ (x : Group). x.later) groups group)) (IsHierarchy-push (record { parents = parents; later = map (λ (x : Group). x.later) groups }) p group.later whole.hierarchy lt holds));
      named = omega (arith, more, longer, named);
      few = omega (arith, more, named, few);
      children = rw (pushed, own, ← all, whole.children) (sym (children_lists-push parents p whole.tree lt));
    }

-- a tree stays whole with one group more below one that is there
pub whole_grown : (paths : List Word) (groups : List Group) (lists kept : List (List ℕ)) (path : Word) (group : Group) (number : ℕ) (paths' : List Word) (groups' : List Group) (lists' : List (List ℕ))
    → IsTreeWhole paths groups lists → group.parent < length groups → may_hold (map (λ (x : Group). x.later) groups) group.later group.parent ≡ true → length paths < 256
    → paths' ≡ paths ++ path ∷ [] → groups' ≡ groups ++ group ∷ [] → number ≡ length groups → kept ≡ lists → lists' ≡ set kept group.parent (get_or kept group.parent [] ++ number ∷ []) ++ [] ∷ []
    → IsTreeWhole paths' groups' lists'
whole_grown paths groups lists kept path group number paths' groups' lists' whole there holds few p g n k l =
    rw (p, g, l, k, n) (whole_more paths groups lists path group whole there holds few)

-- there is a group for each parent
pub groups_long : (paths : List Word) (groups : List Group) (seen : Groups) (g : ℕ) → groups_seen paths groups ≡ seen → g < length seen.parents → g < length groups
groups_long paths groups seen g is lt =
    let same = ap (λ (v : Groups). length v.parents) is in
    let all = length-map groups (λ (x : Group). x.parent) in
    omega (arith, same, all, lt)

pub paths_long : (paths : List Word) (groups : List Group) (seen : Groups) → groups_seen paths groups ≡ seen → length seen.paths < 256 → length paths < 256
paths_long paths groups seen is lt = let same = ap (λ (v : Groups). length v.paths) is in omega (arith, same, lt)

-- the preorder has the groups of the subtree, each once, and each but the first behind its parent
pub is_subtree : (parents : List ℕ) (g : ℕ) (order : List ℕ) → IsTree parents → g < length parents → order ≡ preorder_of parents g → IsSubtree parents g order
is_subtree parents g order tree lt is =
    subst (λ (xs : List ℕ). IsSubtree parents g xs) (sym is)
    (record {
      groups = λ b there. (λ h. preorder_of-IsAtOrAbove parents tree g b lt h, λ h. preorder_of-Contains parents tree g b lt there h);
      once = preorder_of-pairs parents tree g lt;
      behind = preorder_of-parents parents tree g lt;
    })
