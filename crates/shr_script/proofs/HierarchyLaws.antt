-- SPDX-License-Identifier: GPL-2.0-only
-- The groups of a valid script are a tree, and the parent of one that isn't later isn't later.
use Rattle.shr_script.proofs.Common.{◌≡◌, ℕ, zero, suc, ◌<◌, Bool, true, false, List, [], ◌∷◌, ◌++◌, length, map, Option, Some, None, refl, sym, ap, subst, ◌∙◌, append_assoc, arith, bytes_eq, not, ◌&&◌, append-nil, length_push, bytes_eq-Decides, root_path, parent_path, is_later, GroupDecl, Word, N, L, W, place_takes, Header, Size, Group, State, start, after, has, may_hold_group, Content, group_line, or_root, HaveParentsBefore, ◌||◌, Hierarchy, IsHierarchy, content_hierarchy}
use Rattle.shr_model.proofs.GroupsLaws.{IsHierarchy-push}
use Rattle.shr_words.specs.Classes.{place_of, passes}
use Rattle.shr_script.specs.Script.{AreLines}
use Rattle.shr_script.proofs.GroupLaws.{MayBeAdded, may_by_rule}
use Rattle.shr_model.proofs.Booleans.{or_true}

abbrev parent_in : GroupDecl → ℕ
parent_in g = g.parent

abbrev late_in : GroupDecl → Bool
late_in g = g.later

-- a group that may hold another is one that its lateness allows
held : (a : Bool) (b : Bool) → a ≡ false → (not a && not b) ≡ false → b ≡ true
held true b is e = absurd (let c : true ≡ false = is in cc)
held false true is e = refl
held false false is e = absurd (let c : true ≡ false = e in cc)

-- the root's path is there
not_root : (paths : List Word) (path : Word) (t : Bool) → bytes_eq path root_path ≡ t → has (root_path ∷ paths) path ≡ false → t ≡ false
unfolding place_of
not_root paths path true is e = let root = (bytes_eq-Decides path root_path).0 is in let there : has (root_path ∷ paths) root_path ≡ false = subst (λ (p : Word). has (root_path ∷ paths) p ≡ false) root e in absurd (let c : true ≡ false = there in cc)
not_root paths path false is e = refl

-- the group of a path that may be added has a parent that may hold it
may_below : (paths : List Word) (later : List Bool) (late : Bool) (path : Word) (o : Option ℕ) → place_of (parent_path path) (root_path ∷ paths) ≡ o → is_later later 0 ≡ false
    → MayBeAdded (root_path ∷ paths) later late path → (late || not (is_later later (or_root o))) ≡ true
may_below paths later late path None is root may = or_true late (is_later later 0) root
may_below paths later late path (Some g) is root may =
    held (bytes_eq path root_path) (may_hold_group later late (Some g)) (not_root paths path (bytes_eq path root_path) refl may.new)
    (subst (λ (o : Option ℕ). (not (bytes_eq path root_path) && not (may_hold_group later late o)) ≡ false) is may.parent)

below_all : (o : Option ℕ) (n : ℕ) → 0 < n → ((i : ℕ) → o ≡ Some i → i < n) → or_root o < n
below_all None n some each = some
below_all (Some i) n some each = each i refl

-- a hierarchy, with these groups behind it
abbrev with_groups : Hierarchy → List GroupDecl → Hierarchy
with_groups h gs = record { parents = h.parents ++ map parent_in gs; later = h.later ++ map late_in gs }

no_more : (h : Hierarchy) → with_groups h [] ≡ h
no_more h = ap (λ (ps : List ℕ). record { parents = ps; later = h.later ++ [] }) (append-nil h.parents) ∙ ap (λ (bs : List Bool). record { parents = h.parents; later = bs }) (append-nil h.later)

one_more : (h : Hierarchy) (g : GroupDecl) (gs : List GroupDecl) → with_groups (record { parents = h.parents ++ g.parent ∷ []; later = h.later ++ g.later ∷ [] }) gs ≡ with_groups h (g ∷ gs)
one_more h g gs =
    ap (λ (ps : List ℕ). record { parents = ps; later = (h.later ++ g.later ∷ []) ++ map late_in gs }) (append_assoc h.parents (g.parent ∷ []) (map parent_in gs))
    ∙ ap (λ (bs : List Bool). record { parents = h.parents ++ map parent_in (g ∷ gs); later = bs }) (append_assoc h.later (g.later ∷ []) (map late_in gs))

-- the groups of these lines, behind those that were said
hierarchy_from : (gs : List GroupDecl) (st : State) (paths : List Word) (h : Hierarchy) → st.groups ≡ root_path ∷ paths → st.later ≡ h.later → length st.groups ≡ length h.parents → IsHierarchy h
    → HaveParentsBefore st.groups gs → AreLines st (map group_line gs) → IsHierarchy (with_groups h gs)
unfolding AreLines passes
hierarchy_from [] st paths h root late long is below lines = subst IsHierarchy (sym (no_more h)) is
hierarchy_from (g ∷ gs) st paths h root late long is below lines =
    let next = after st (Group g.later) (W g.path ∷ L g.limit ∷ []) in
    let place = place_of (parent_path g.path) st.groups in
    let some : 0 < length st.groups = let r = is.tree.has_root in omega (arith, r, long) in
    let there : or_root place < length st.groups = below_all place (length st.groups) some (λ i e. (place_takes (parent_path g.path) st.groups i e).1) in
    let parent : g.parent ≡ or_root place = below.0 in
    let may = subst (λ (ws : List Word). MayBeAdded ws st.later g.later g.path) root (may_by_rule st g.later g.path lines.0.words.0 lines.0.rule) in
    let first : is_later st.later 0 ≡ false = subst (λ (bs : List Bool). is_later bs 0 ≡ false) (sym late) is.root in
    let holds : (g.later || not (is_later st.later (or_root place))) ≡ true = may_below paths st.later g.later g.path place (ap (λ (ws : List Word). place_of (parent_path g.path) ws) (sym root)) first may in
    let here : (g.later || not (is_later h.later g.parent)) ≡ true = subst (λ (p : ℕ). (g.later || not (is_later h.later p)) ≡ true) (sym parent) (subst (λ (bs : List Bool). (g.later || not (is_later bs (or_root place))) ≡ true) late holds) in
    let pushed = IsHierarchy-push h g.parent g.later is (omega (arith, there, parent, long)) here in
    let wide = length_push st.groups g.path in
    let deep = length_push h.parents g.parent in
    subst IsHierarchy (one_more h g gs)
    (hierarchy_from gs next (paths ++ g.path ∷ []) (record { parents = h.parents ++ g.parent ∷ []; later = h.later ++ g.later ∷ [] })
    (ap (λ (ws : List Word). ws ++ g.path ∷ []) root) (ap (λ (bs : List Bool). bs ++ g.later ∷ []) late) (omega (arith, long, wide, deep)) pushed below.1 lines.1)

root_alone : IsHierarchy (record { parents = 0 ∷ []; later = false ∷ [] })
root_alone = record {
  tree = record { has_root = omega arith; root = refl; lower = λ g some lt. absurd (omega (arith, some, lt)) };
  each = refl;
  root = refl;
  above = λ g lt early. only g lt;
}
  where
    only : (g : ℕ) → g < 1 → is_later (false ∷ []) (Rattle.shr_model.specs.Groups.parent_of (0 ∷ []) g) ≡ false
    only zero lt = refl
    only (suc g) lt = absurd (omega (arith, lt))

-- behind the size
abbrev sized : Content → State
sized t = after (after start Header (N t.version ∷ [])) Size (N t.nodes ∷ N t.ids ∷ [])

-- the groups of lines that may stand behind the size, each below its parent path
pub hierarchy_is : (t : Content) → HaveParentsBefore (root_path ∷ []) t.groups → AreLines (sized t) (map group_line t.groups) → IsHierarchy (content_hierarchy t)
hierarchy_is t below lines = hierarchy_from t.groups (sized t) [] (record { parents = 0 ∷ []; later = false ∷ [] }) refl refl refl root_alone below lines
