-- SPDX-License-Identifier: GPL-2.0-only
-- A tree that is built group by group is that of a script.
use Rattle.shr_walk.proofs.Common.{◌≡◌, ℕ, zero, suc, ◌+◌, ◌<◌, ◌≤◌, ⊎_elim, List, [], ◌∷◌, ◌++◌, map, take, get_or, length, refl, sym, ap, subst, ◌∙◌, arith, append_assoc, Bool, false, Option, Some, None, cases_lt, append-nil, length-map, GroupDecl, IsTree, depth_of, root_path, content_of, HaveParentsBefore, within_of_valid, Shape, groups_of, Err, unwrap_or, lt-leb, map_push, length-take-le, IsHierarchy, parent_path, Content, IsValid, or_root, IsShape, HasLimits, IsDeepest, IsShapeOf}
use Rattle.shr_base.specs.declared.scripts.Script.{Script}
use Rattle.shr_model.proofs.GroupsLaws.{depth_of-root}
use Rattle.shr_words.specs.Classes.{Word, place_of}
use Rattle.shr_script.specs.Lines.{may_hold_group}
use Rattle.shr_script.proofs.GroupLaws.{MayBeAdded, may_be_added}
use Rattle.shr_tree.specs.declared.errors.TreeError.{TreeError}
use Rattle.shr_tree.specs.declared.errors.TreeError.TheVariants as errors
use Rattle.shr_tree.specs.Tree.{Groups, with_group, is_parent, refusal_of, Refuses}

abbrev paths_of : List GroupDecl → List Word
paths_of gs = map (λ (g : GroupDecl). g.path) gs

-- which of the root and these groups are later
abbrev later_in : List GroupDecl → List Bool
later_in gs = false ∷ map (λ (g : GroupDecl). g.later) gs

same_root : (o : Option ℕ) → or_root o ≡ unwrap_or o 0
same_root None = refl
same_root (Some g) = refl

-- the parent of a group is that of its path among the groups before
below_at : (paths : List Word) (gs : List GroupDecl) (i : ℕ) (d : GroupDecl) → HaveParentsBefore paths gs → i < length gs → (get_or gs i d).parent ≡ or_root (place_of (parent_path (get_or gs i d).path) (paths ++ paths_of (take i gs)))
below_at paths [] i d below low = absurd (omega (arith, low))
below_at paths (g ∷ gs) zero d below low = below.0 ∙ ap (λ (ps : List Word). or_root (place_of (parent_path g.path) ps)) (sym (append-nil paths))
below_at paths (g ∷ gs) (suc i) d below low = below_at (paths ++ g.path ∷ []) gs i d below.1 (omega (arith, low)) ∙ ap (λ (ps : List Word). or_root (place_of (parent_path (get_or gs i d).path) ps)) (append_assoc paths (g.path ∷ []) (paths_of (take i gs)))

-- one group more
pub group_more : (gs : List GroupDecl) (i : ℕ) (g : GroupDecl) (old new : Groups) → HaveParentsBefore (root_path ∷ []) gs → i < length gs → g ≡ get_or gs i g → old ≡ groups_of (take i gs) → new ≡ with_group old g.path g.limit g.later → take (i + 1) gs ≡ take i gs ++ g ∷ [] → new ≡ groups_of (take (i + 1) gs)
group_more gs i g old new below low is so-far added more =
    let parent : g.parent ≡ unwrap_or (place_of (parent_path g.path) (root_path ∷ paths_of (take i gs))) 0 =
    ap (λ (x : GroupDecl). x.parent) is ∙ (below_at (root_path ∷ []) gs i g below low ∙ (ap (λ (x : GroupDecl). or_root (place_of (parent_path x.path) (root_path ∷ paths_of (take i gs)))) (sym is) ∙ same_root (place_of (parent_path g.path) (root_path ∷ paths_of (take i gs))))) in
    let front = take i gs in
    added ∙ (ap (λ (t : Groups). with_group t g.path g.limit g.later) so-far
    ∙ ((λ j. record {
      paths = root_path ∷ sym (map_push (λ (x : GroupDecl). x.path) front g) j;
      parents = 0 ∷ ((ap (λ (p : ℕ). map (λ (x : GroupDecl). x.parent) front ++ p ∷ []) (sym parent)) ∙ sym (map_push (λ (x : GroupDecl). x.parent) front g)) j;
      later = false ∷ sym (map_push (λ (x : GroupDecl). x.later) front g) j;
      limits = None ∷ sym (map_push (λ (x : GroupDecl). x.limit) front g) j;
    })
    ∙ ap groups_of (sym more)))

-- no more groups and ids than a shape may have
few_groups : (t : Content) → IsValid t → length t.groups < 256
few_groups t valid = let groups = (within_of_valid t valid).groups in omega (arith, groups)

few_ids : (t : Content) → IsValid t → t.ids ≤ 256
few_ids t valid = let ids = (within_of_valid t valid).ids in omega (arith, ids)

-- the tree asks of a parent what the script asks
same_parent : (later : List Bool) (late : Bool) (o : Option ℕ) → is_parent later late o ≡ may_hold_group later late o
same_parent later late None = refl
same_parent later late (Some g) = refl

-- a path that may be added is refused for no reason
no_reason : (groups : Groups) (late : Bool) (path : Word) → MayBeAdded groups.paths groups.later late path → length groups.paths < 256 → refusal_of groups late path ≡ None
unfolding refusal_of
no_reason groups late path m few = rw (m.is, same_parent groups.later late (place_of (parent_path path) groups.paths), m.parent, m.new, lt-leb 256 (length groups.paths) few) refl

-- nothing is against a group of a valid script behind those before it
pub no_refusal : (t : Content) (gs : List GroupDecl) (i : ℕ) (g : GroupDecl) (old : Groups) → IsValid t → gs ≡ t.groups → i < length gs → g ≡ get_or gs i g → old ≡ groups_of (take i gs) → refusal_of old g.later g.path ≡ None
no_refusal t gs i g old valid are low is so-far =
    let may = subst (λ (all : List GroupDecl). MayBeAdded (root_path ∷ paths_of (take i all)) (later_in (take i all)) (get_or all i g).later (get_or all i g).path) (sym are)
    (may_be_added t i g valid (subst (λ (all : List GroupDecl). i < length all) are low)) in
    let x = get_or gs i g in let front = groups_of (take i gs) in let few = few_groups t valid in let all = ap (length {A = GroupDecl}) are in
    let long = length-map (take i gs) (λ (y : GroupDecl). y.path) in let short = length-take-le i gs (omega (arith, low)) in
    ap (λ (groups : Groups). refusal_of groups g.later g.path) so-far ∙ ap (λ (y : GroupDecl). refusal_of front y.later y.path) is
    ∙ no_reason front x.later x.path may (omega (arith, low, few, all, long, short))

-- where there is no reason against it, only want of memory refuses a path
pub only_memory : (A : Type 0) (e : TreeError) (reason : Option TreeError) → Refuses {A = A} (Err e) reason → reason ≡ None → e ≡ errors.Memory
only_memory A errors.BadPath reason h none = absurd cc
only_memory A errors.NoParent reason h none = absurd cc
only_memory A errors.Exists reason h none = absurd cc
only_memory A errors.TooMany reason h none = absurd cc
only_memory A errors.Memory reason h none = refl

-- the shape of a valid script is one that a core may have
pub is_shape : (s : Script) (tree : Groups) (shape : Shape) → IsValid (content_of s) → tree ≡ groups_of s.groups.items → IsShapeOf s tree shape → IsShape shape
is_shape s tree shape valid made is = let within = within_of_valid (content_of s) valid in
    let parents = is.parents ∙ ap (λ (t : Groups). t.parents) made in
    let long = ap (length {A = ℕ}) parents in let groups = few_groups (content_of s) valid in let same = length-map s.groups.items (λ (g : GroupDecl). g.parent) in
    let ids = is.ids in let most = few_ids (content_of s) valid in let few = within.caches in let decls = is.decls in let items = is.most_items in let entries = is.most_entries in record {
      tree = subst IsTree (sym parents) within.tree;
      groups = omega (arith, long, groups, same);
      some_nodes = subst (λ (n : ℕ). 0 < n) (sym is.nodes) within.some_node;
      nodes = subst (λ (n : ℕ). n ≤ 4) (sym is.nodes) within.nodes;
      some_ids = subst (λ (n : ℕ). 0 < n) (sym is.ids) within.some_id;
      ids = omega (arith, ids, most);
      decls = omega (arith, few, decls);
      most_items = omega (arith, items);
      most_entries = omega (arith, entries);
    }

-- and one that charges may have
pub has_limits : (s : Script) (tree : Groups) (shape : Shape) → IsValid (content_of s) → tree ≡ groups_of s.groups.items → IsShapeOf s tree shape → HasLimits shape
has_limits s tree shape valid made is = let within = within_of_valid (content_of s) valid in
    let parents = is.parents ∙ ap (λ (t : Groups). t.parents) made in let limits = is.limits ∙ ap (λ (t : Groups). t.limits) made in
    let later = is.later ∙ ap (λ (t : Groups). t.later) made in
    let long = ap (length {A = ℕ}) parents in let limited = ap (length {A = Option ℕ}) limits in let groups = few_groups (content_of s) valid in
    let same = length-map s.groups.items (λ (g : GroupDecl). g.parent) in let as_many = length-map s.groups.items (λ (g : GroupDecl). g.limit) in record {
      tree = subst IsTree (sym parents) within.tree;
      hierarchy = subst IsHierarchy (λ i. record { parents = sym parents i; later = sym later i }) within.hierarchy;
      groups = omega (arith, long, groups, same);
      limits = omega (arith, long, limited, same, as_many);
    }

-- it has the root
pub has_root : (s : Script) (tree : Groups) (shape : Shape) → tree ≡ groups_of s.groups.items → IsShapeOf s tree shape → 0 < length shape.parents.items
has_root s tree shape made is = let long = ap (length {A = ℕ}) (is.parents ∙ ap (λ (t : Groups). t.parents) made) in omega (arith, long)

-- of the groups below a number none lies deeper, and one, or the root, lies as deep
pub record IsDeepestTo (parents : List ℕ) (n most : ℕ) : Type 0 where
  pub deep : (g : ℕ) → g < n → depth_of parents g ≤ most
  pub group : ℕ
  pub there : group < length parents
  pub met : depth_of parents group ≡ most

pub deepest_first : (parents : List ℕ) → IsTree parents → IsDeepestTo parents 0 1
deepest_first parents tree = record { deep = λ g lt. absurd (omega (arith, lt)); group = 0; there = tree.has_root; met = depth_of-root parents }

-- one group more, deeper than those before, or not
pub deepest_more : (parents : List ℕ) (n most depth : ℕ) → n < length parents → most < depth → depth ≡ depth_of parents n → IsDeepestTo parents n most → IsDeepestTo parents (n + 1) depth
deepest_more parents n most depth lt less is h = record { deep = deep; group = n; there = lt; met = sym is }
  where
    deep : (g : ℕ) → g < n + 1 → depth_of parents g ≤ depth
    deep g low = ⊎_elim (λ below. let d = h.deep g below in omega (arith, less, d)) (λ ge. let same : g ≡ n = omega (arith, low, ge) in let d = ap (depth_of parents) same in omega (arith, is, d)) (cases_lt g n)

pub as_deep : (parents : List ℕ) (n most depth : ℕ) → depth ≤ most → depth ≡ depth_of parents n → IsDeepestTo parents n most → IsDeepestTo parents (n + 1) most
as_deep parents n most depth le is h = record { deep = deep; group = h.group; there = h.there; met = h.met }
  where
    deep : (g : ℕ) → g < n + 1 → depth_of parents g ≤ most
    deep g low = ⊎_elim (λ below. h.deep g below) (λ ge. let same : g ≡ n = omega (arith, low, ge) in let d = ap (depth_of parents) same in omega (arith, is, le, d)) (cases_lt g n)

pub deepest_all : (parents : List ℕ) (most : ℕ) → IsDeepestTo parents (length parents) most → IsDeepest parents most
deepest_all parents most h = record { deep = h.deep; group = h.group; there = h.there; met = h.met }
