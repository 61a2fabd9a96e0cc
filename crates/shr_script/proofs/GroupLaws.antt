-- SPDX-License-Identifier: GPL-2.0-only
-- Nothing is against a group of a valid script where it was declared.
use Rattle.shr_script.proofs.Common.{◌≡◌, ℕ, zero, suc, ◌<◌, Bool, true, false, List, [], ◌∷◌, ◌++◌, length, map, get_or, Ok, sym, subst, append_assoc, arith, bytes_eq, flat_map, not, nat_le, ◌&&◌, nat_tests, append-nil, root_path, is_path, parent_path, GroupDecl, ◌>>=◌, Word, N, L, W, place_of, bind_ok, Header, Size, Group, State, start, Line, after, has, may_hold_group, refused_if, most_groups, Content, group_line, cache_line, pool_line, worker_command_lines, sweep_lines, end_line, lines_of, IsValid, take}
use Rattle.shr_base.specs.declared.scripts.Code.TheVariants as codes_of
use Rattle.shr_words.specs.Classes.{passes}
use Rattle.shr_script.specs.Lines.{group_rule}
use Rattle.shr_script.specs.Script.{AreLines}
use Rattle.shr_script.proofs.GrowthLaws.{not_refused, group_room, most_within}

-- behind these groups, of which those marked are later, a path may be declared as one that is later or
-- not: it is one, its parent is there and may hold it, and it is not, and there is room
pub record MayBeAdded (groups : List Word) (later : List Bool) (late : Bool) (path : Word) : Type 0 where
  pub is : is_path path ≡ true
  pub parent : (not (bytes_eq path root_path) && not (may_hold_group later late (place_of (parent_path path) groups))) ≡ false
  pub new : has groups path ≡ false
  pub few : nat_le 256 (length groups) ≡ false

not_full : (n : ℕ) → n < 256 → nat_le 256 n ≡ false
not_full n lt = grind (arith, nat_tests)

-- what the rule of a group's line says
pub may_by_rule : (st : State) (late : Bool) (path : Word) → is_path path ≡ true → group_rule st late path ≡ Ok tt → MayBeAdded st.groups st.later late path
unfolding group_rule
may_by_rule st late path is e =
    let a = bind_ok (refused_if (not (bytes_eq path root_path) && not (may_hold_group st.later late (place_of (parent_path path) st.groups))) codes_of.NoParent) (λ _. refused_if (has st.groups path) codes_of.Exists >>= λ _. refused_if (nat_le (most_groups st.version) (length st.groups)) codes_of.TooMany) tt e in
    let b = bind_ok (refused_if (has st.groups path) codes_of.Exists) (λ _. refused_if (nat_le (most_groups st.version) (length st.groups)) codes_of.TooMany) tt a.2 in
    let lt = group_room st late path e in
    let most = (most_within st.version).1 in
    let room : nat_le 256 (length st.groups) ≡ false = not_full (length st.groups) (omega (arith, lt, most)) in
    record {
      is = is;
      parent = not_refused (not (bytes_eq path root_path) && not (may_hold_group st.later late (place_of (parent_path path) st.groups))) codes_of.NoParent a.1;
      new = not_refused (has st.groups path) codes_of.Exists b.1;
      few = room;
    }

abbrev path_in : GroupDecl → Word
path_in g = g.path

abbrev late_in : GroupDecl → Bool
late_in g = g.later

-- each group of these lines may be declared behind those before it
may_in_lines : (gs : List GroupDecl) (st : State) (i : ℕ) (d : GroupDecl) → AreLines st (map group_line gs) → i < length gs
    → MayBeAdded (st.groups ++ map path_in (take i gs)) (st.later ++ map late_in (take i gs)) (get_or gs i d).later (get_or gs i d).path
unfolding AreLines passes
may_in_lines [] st i d h low = absurd (omega (arith, low))
may_in_lines (g ∷ gs) st zero d h low =
    subst (λ (bs : List Bool). MayBeAdded (st.groups ++ []) bs g.later g.path) (sym (append-nil st.later))
    (subst (λ (ws : List Word). MayBeAdded ws st.later g.later g.path) (sym (append-nil st.groups)) (may_by_rule st g.later g.path h.0.words.0 h.0.rule))
may_in_lines (g ∷ gs) st (suc i) d h low =
    let x = get_or gs i d in
    let next = after st (Group g.later) (W g.path ∷ L g.limit ∷ []) in
    subst (λ (bs : List Bool). MayBeAdded (st.groups ++ map path_in (take (suc i) (g ∷ gs))) bs x.later x.path) (append_assoc st.later (g.later ∷ []) (map late_in (take i gs)))
    (subst (λ (ws : List Word). MayBeAdded ws (next.later ++ map late_in (take i gs)) x.later x.path) (append_assoc st.groups (g.path ∷ []) (map path_in (take i gs)))
    (may_in_lines gs next i d h.1 (omega (arith, low))))

front_lines : (ls ms : List Line) (st : State) → AreLines st (ls ++ ms) → AreLines st ls
unfolding AreLines
front_lines [] ms st h = tt
front_lines (l ∷ ls) ms st h = (h.0, front_lines ls ms (after st l.0 l.1) h.1)

-- behind the size
abbrev sized : Content → State
sized t = after (after start Header (N t.version ∷ [])) Size (N t.nodes ∷ N t.ids ∷ [])

group_lines : (t : Content) → AreLines start (lines_of t) → AreLines (sized t) (map group_line t.groups)
unfolding AreLines
group_lines t h =
    let g = map group_line t.groups in
    let c = map cache_line t.caches ++ map pool_line t.pools in
    front_lines g c (sized t) (front_lines (g ++ c) (flat_map worker_command_lines t.workers ++ (sweep_lines t.sweep ++ end_line ∷ [])) (sized t) h.1.1)

-- each group of a valid script may be declared behind the root and those before it
pub may_be_added : (t : Content) (i : ℕ) (d : GroupDecl) → IsValid t → i < length t.groups → MayBeAdded (root_path ∷ map path_in (take i t.groups)) (false ∷ map late_in (take i t.groups)) (get_or t.groups i d).later (get_or t.groups i d).path
may_be_added t i d valid low = may_in_lines t.groups (sized t) i d (group_lines t valid.lines.lines) low
