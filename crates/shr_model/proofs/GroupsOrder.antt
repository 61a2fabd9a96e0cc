-- SPDX-License-Identifier: GPL-2.0-only
-- At or above is a partial order, and the preorder of a group has each group of its subtree once,
-- children behind parents.
use Rattle.shr_model.proofs.Common.{◌≡◌, ◌≢◌, ℕ, zero, suc, ◌+◌, ◌≤◌, ◌<◌, List, [], ◌∷◌, ◌++◌, length, take, get_or, refl, sym, subst, ◌∙◌, ◌⊎◌, inl, inr, arith, append_assoc, flat_map, Contains, range_with_len, AllByRecursion, append-nil, parent_of, IsTree, path_of, IsAtOrAbove, is_child, children_of, preorder_of, AllPairs}
use Rattle.std.proofs.lemmas.List.Elements.{Contains-get_or}
use Rattle.std.proofs.lemmas.List.FromFn.{length-range_with_len, get_or-range_with_len}
use Rattle.shr_model.specs.Groups.{preorder_within}
use Rattle.shr_model.proofs.GroupsLaws.{IsChild, child_takes, child_again, child_higher, path_of-root, path_of-below, preorder_of-group, subtrees_of}
use Rattle.shr_model.proofs.Members.{Has, each_has, Has_from_Contains, Contains_from_Has, Has_flat_map, flat_map_has, Has_filter, filter_has, AreApart_append, AreApart_filter}
use Rattle.shr_model.proofs.BagLaws.{AreApart}

-- a group is on the path of another
abbrev pub IsOn : List ℕ → ℕ → ℕ → Type 0
IsOn parents g b = Has (path_of parents b) g

-- what holds of the root, and of a group where it holds of its parent, holds of each group
pub by_parents : (parents : List ℕ) → IsTree parents → (P : ℕ → Type 0) → P 0 → ((b : ℕ) → 0 < b → b < length parents → P (parent_of parents b) → P b) → (b : ℕ) → b < length parents → P b
by_parents parents tree P root step b lt = within b b (omega arith) lt
  where
    within : (k b : ℕ) → b ≤ k → b < length parents → P b
    within zero b le lt = let z : 0 ≡ b = omega arith in subst P z root
    within (suc k) zero le lt = root
    within (suc k) (suc b) le lt =
        let l = tree.lower (suc b) (omega arith) lt in
        step (suc b) (omega arith) lt (within k (parent_of parents (suc b)) (omega (arith, l, le)) (omega (arith, l, lt)))

module _ (parents : List ℕ) (tree : IsTree parents) where
  -- ---- at or above

  on_root : (g : ℕ) → IsOn parents g 0 → 0 ≡ g
  on_root g h = elim (subst (λ (xs : List ℕ). Has xs g) (path_of-root parents) h) as (λ _. 0 ≡ g) [ inl e ↦ e | inr none ↦ absurd none ]

  on_parent : (g b : ℕ) → 0 < b → b < length parents → IsOn parents g b → (b ≡ g) ⊎ IsOn parents g (parent_of parents b)
  on_parent g b above lt h = subst (λ (xs : List ℕ). Has xs g) (path_of-below parents tree b above lt) h

  parent_on : (g b : ℕ) → 0 < b → b < length parents → (b ≡ g) ⊎ IsOn parents g (parent_of parents b) → IsOn parents g b
  parent_on g b above lt h = subst (λ (xs : List ℕ). Has xs g) (sym (path_of-below parents tree b above lt)) h

  -- a group stands on its own path
  pub on_self : (b : ℕ) → b < length parents → IsOn parents b b
  on_self zero lt = subst (λ (xs : List ℕ). Has xs 0) (sym (path_of-root parents)) (inl refl)
  on_self (suc b) lt = parent_on (suc b) (suc b) (omega arith) lt (inl refl)

  -- the root stands on every path
  pub root_on : (b : ℕ) → b < length parents → IsOn parents 0 b
  root_on b lt = by_parents parents tree (λ c. IsOn parents 0 c) (on_self 0 tree.has_root) (λ c above there h. parent_on 0 c above there (inr h)) b lt

  -- what is at or above has no higher number
  pub on_le : (g b : ℕ) → b < length parents → IsOn parents g b → g ≤ b
  on_le g b lt =
      by_parents parents tree (λ c. IsOn parents g c → g ≤ c)
      (λ h. let z = on_root g h in omega (arith, z))
      (λ c above there more h.
      elim (on_parent g c above there h) as (λ _. g ≤ c) [
        | inl e ↦ omega (arith, e)
        | inr on ↦ let l = more on in let m = tree.lower c above there in omega (arith, l, m)
      ])
      b lt

  -- what stands on the path of a group stands on the path of each group below it
  pub on_trans : (h g b : ℕ) → b < length parents → IsOn parents h g → IsOn parents g b → IsOn parents h b
  on_trans h g b lt first =
      by_parents parents tree (λ c. IsOn parents g c → IsOn parents h c)
      (λ at. subst (λ (x : ℕ). IsOn parents h x) (sym (on_root g at)) first)
      (λ c above there more at.
      elim (on_parent g c above there at) as (λ _. IsOn parents h c) [
        | inl e ↦ subst (λ (x : ℕ). IsOn parents h x) (sym e) first
        | inr on ↦ parent_on h c above there (inr (more on))
      ])
      b lt

  -- two groups on one path are one at or above the other
  pub on_chain : (g h b : ℕ) → b < length parents → IsOn parents g b → IsOn parents h b → IsOn parents g h ⊎ IsOn parents h g
  on_chain g h b lt =
      by_parents parents tree (λ c. IsOn parents g c → IsOn parents h c → IsOn parents g h ⊎ IsOn parents h g)
      (λ x y. inl (subst (λ (z : ℕ). IsOn parents g z) (on_root h y) x))
      (λ c above there more x y.
      elim (on_parent g c above there x) as (λ _. IsOn parents g h ⊎ IsOn parents h g) [
        | inl e ↦ inr (subst (λ (z : ℕ). IsOn parents h z) e y)
        | inr gx ↦
            elim (on_parent h c above there y) as (λ _. IsOn parents g h ⊎ IsOn parents h g) [
              | inl f ↦ inl (subst (λ (z : ℕ). IsOn parents g z) f x)
              | inr hx ↦ more gx hx
            ]
      ])
      b lt

  -- a parent is above its child
  pub on_child : (g c : ℕ) → IsChild parents g c → IsOn parents g c
  on_child g c h =
      let l = tree.lower c h.above h.there in
      let there = h.there in
      parent_on g c h.above h.there (inr (subst (λ (x : ℕ). IsOn parents x (parent_of parents c)) h.parent (on_self (parent_of parents c) (omega (arith, l, there)))))

  -- at or above is reflexive,
  pub IsAtOrAbove-refl : (g : ℕ) → g < length parents → IsAtOrAbove parents g g
  IsAtOrAbove-refl g lt = Contains_from_Has (path_of parents g) g (on_self g lt)

  -- transitive,
  pub IsAtOrAbove-trans : (h g b : ℕ) → b < length parents → IsAtOrAbove parents h g → IsAtOrAbove parents g b → IsAtOrAbove parents h b
  IsAtOrAbove-trans h g b lt x y =
      Contains_from_Has (path_of parents b) h (on_trans h g b lt (Has_from_Contains (path_of parents g) h x) (Has_from_Contains (path_of parents b) g y))

  -- and of two groups at or above each other both are one.
  pub IsAtOrAbove-antisym : (g b : ℕ) → g < length parents → b < length parents → IsAtOrAbove parents g b → IsAtOrAbove parents b g → g ≡ b
  IsAtOrAbove-antisym g b there lt x y =
      let l = on_le g b lt (Has_from_Contains (path_of parents b) g x) in
      let m = on_le b g there (Has_from_Contains (path_of parents g) b y) in
      omega (arith, l, m)

  -- what is at or above a group has no higher number
  pub IsAtOrAbove-le : (g b : ℕ) → b < length parents → IsAtOrAbove parents g b → g ≤ b
  IsAtOrAbove-le g b lt x = on_le g b lt (Has_from_Contains (path_of parents b) g x)

  pub IsAtOrAbove-root : (b : ℕ) → b < length parents → IsAtOrAbove parents 0 b
  IsAtOrAbove-root b lt = Contains_from_Has (path_of parents b) 0 (root_on b lt)

  -- ---- children

  is_listed : (g c : ℕ) → Has (children_of parents g) c → IsChild parents g c
  is_listed g c h = child_takes parents g c (filter_has (is_child parents g) (range_with_len 0 (length parents)) c h).1

  listed : (g c : ℕ) → IsChild parents g c → Has (children_of parents g) c
  listed g c h =
      let n = length parents in
      let there = h.there in
      let long = length-range_with_len 0 n in
      let at : Contains (range_with_len 0 n) c = (c, omega (arith, there, long), get_or-range_with_len 0 n c c h.there ∙ omega arith) in
      Has_filter (is_child parents g) (range_with_len 0 n) c (Has_from_Contains (range_with_len 0 n) c at) (child_again parents g c h)

  -- ---- which groups the preorder has

  on_within : (k g b : ℕ) → g < length parents → Has (preorder_within k parents g) b → IsOn parents g b × (b < length parents)
  unfolding preorder_within
  on_within zero g b lt h = absurd h
  on_within (suc k) g b lt (inl e) = (subst (λ (x : ℕ). IsOn parents g x) e (on_self g lt), omega (arith, e, lt))
  on_within (suc k) g b lt (inr h) =
      let f = flat_map_has (preorder_within k parents) (children_of parents g) b h in
      let child = is_listed g f.0 f.1 in
      let more = on_within k f.0 b child.there f.2 in
      (on_trans g f.0 b more.1 (on_child g f.0 child) more.0, more.1)

  own_within : (k g : ℕ) → 0 < k → Has (preorder_within k parents g) g
  unfolding preorder_within
  own_within zero g h = absurd (omega arith)
  own_within (suc k) g h = inl refl

  with_child : (k g p c : ℕ) → length parents ≤ g + k → g < length parents → IsChild parents p c → Has (preorder_within k parents g) p → Has (preorder_within k parents g) c
  unfolding preorder_within
  with_child zero g p c deep lt child h = absurd h
  with_child (suc k) g p c deep lt child (inl e) =
      let own = subst (λ (x : ℕ). IsChild parents x c) (sym e) child in
      let l = child_higher parents g c tree own in
      let there = child.there in
      inr (Has_flat_map (preorder_within k parents) (children_of parents g) c c (listed g c own) (own_within k c (omega (arith, l, there, deep))))
  with_child (suc k) g p c deep lt child (inr h) =
      let f = flat_map_has (preorder_within k parents) (children_of parents g) p h in
      let below = is_listed g f.0 f.1 in
      let l = child_higher parents g f.0 tree below in
      inr (Has_flat_map (preorder_within k parents) (children_of parents g) f.0 c f.1 (with_child k f.0 p c (omega (arith, l, deep)) below.there child f.2))

  -- the preorder of a group has the groups that it is at or above, and no other
  pub preorder_of-on : (g b : ℕ) → g < length parents → Has (preorder_of parents g) b → IsOn parents g b × (b < length parents)
  preorder_of-on g b lt h = on_within (length parents) g b lt h

  -- a group's preorder has each group on whose path it stands
  pub on-preorder_of : (g b : ℕ) → g < length parents → b < length parents → IsOn parents g b → Has (preorder_of parents g) b
  on-preorder_of g b there lt =
      by_parents parents tree (λ c. IsOn parents g c → Has (preorder_of parents g) c)
      (λ h. subst (λ (x : ℕ). Has (preorder_of parents g) x) (sym (on_root g h)) (own_within (length parents) g (omega (arith, there))))
      (λ c above within more h.
      elim (on_parent g c above within h) as (λ _. Has (preorder_of parents g) c) [
        | inl e ↦ subst (λ (x : ℕ). Has (preorder_of parents g) x) (sym e) (own_within (length parents) g (omega (arith, there)))
        | inr on ↦ with_child (length parents) g (parent_of parents c) c (omega arith) there (record { above = above; there = within; parent = refl }) (more on)
      ])
      b lt

  -- a group's preorder has each group that it is at or above
  pub preorder_of-Contains : (g b : ℕ) → g < length parents → b < length parents → IsAtOrAbove parents g b → Contains (preorder_of parents g) b
  preorder_of-Contains g b there lt h = Contains_from_Has (preorder_of parents g) b (on-preorder_of g b there lt (Has_from_Contains (path_of parents b) g h))

  -- a group's preorder has no other
  pub preorder_of-IsAtOrAbove : (g b : ℕ) → g < length parents → Contains (preorder_of parents g) b → IsAtOrAbove parents g b
  preorder_of-IsAtOrAbove g b lt h = Contains_from_Has (path_of parents b) g (preorder_of-on g b lt (Has_from_Contains (preorder_of parents g) b h)).0

  -- ---- each group once

  other_child : (g c d b : ℕ) → b < length parents → IsChild parents g c → IsChild parents g d → c ≢ d → IsOn parents c b → IsOn parents d b → ⊥
  other_child g c d b lt hc hd ne x y =
      elim (on_chain c d b lt x y) as (λ _. ⊥) [
        | inl on ↦ below_only g c d hc hd ne on
        | inr on ↦ below_only g d c hd hc (λ e. ne (sym e)) on
      ]
    where
      below_only : (g c d : ℕ) → IsChild parents g c → IsChild parents g d → c ≢ d → IsOn parents c d → ⊥
      below_only g c d hc hd ne on =
          elim (on_parent c d hd.above hd.there on) as (λ _. ⊥) [
            | inl e ↦ ne (sym e)
            | inr above ↦
                let l = on_le c (parent_of parents d) (let low = tree.lower d hd.above hd.there in let there = hd.there in omega (arith, low, there)) above in
                let p = hd.parent in
                let m = child_higher parents g c tree hc in
                omega (arith, l, p, m)
          ]

  none_of : (b : ℕ) (xs : List ℕ) → ((x : ℕ) → Has xs x → b ≢ x) → AllByRecursion (λ x. b ≢ x) xs
  none_of b [] h = tt
  none_of b (x ∷ xs) h = (h x (inl refl), none_of b xs (λ y at. h y (inr at)))

  all_apart : (xs ys : List ℕ) → ((x y : ℕ) → Has xs x → Has ys y → x ≢ y) → AllByRecursion (λ x. AllByRecursion (λ y. x ≢ y) ys) xs
  all_apart [] ys h = tt
  all_apart (x ∷ xs) ys h = (none_of x ys (λ y at. h x y (inl refl) at), all_apart xs ys (λ z y a b. h z y (inr a) b))

  ranges_apart : (a n : ℕ) → AreApart (range_with_len a n)
  ranges_apart a zero = tt
  ranges_apart a (suc n) = (none_of a (range_with_len (a + 1) n) (λ x at e. let l = later (a + 1) n x at in omega (arith, l, e)), ranges_apart (a + 1) n)
    where
      later : (b m x : ℕ) → Has (range_with_len b m) x → b ≤ x
      later b zero x h = absurd h
      later b (suc m) x (inl e) = omega (arith, e)
      later b (suc m) x (inr h) = let l = later (b + 1) m x h in omega (arith, l)

  pieces_apart : (f : ℕ → List ℕ) (cs : List ℕ) → AreApart cs → ((c : ℕ) → Has cs c → AreApart (f c)) → ((c d b : ℕ) → Has cs c → Has cs d → c ≢ d → Has (f c) b → Has (f d) b → ⊥) → AreApart (flat_map f cs)
  pieces_apart f [] apart each none = tt
  pieces_apart f (c ∷ cs) apart each none =
      AreApart_append (f c) (flat_map f cs) (each c (inl refl))
      (pieces_apart f cs apart.1 (λ d at. each d (inr at)) (λ d e b x y. none d e b (inr x) (inr y)))
      (all_apart (f c) (flat_map f cs) (λ x y at later same.
      let w = flat_map_has f cs y later in
      none c w.0 x (inl refl) (inr w.1) (λ e. apart_from c cs w.0 apart.0 w.1 e) at (subst (λ (z : ℕ). Has (f w.0) z) (sym same) w.2)))
    where
      apart_from : (c : ℕ) (ds : List ℕ) (d : ℕ) → AllByRecursion (λ e. c ≢ e) ds → Has ds d → c ≢ d
      apart_from c [] d all h = absurd h
      apart_from c (e ∷ ds) d all (inl is) = λ same. all.0 (same ∙ sym is)
      apart_from c (e ∷ ds) d all (inr h) = apart_from c ds d all.1 h

  once_within : (k g : ℕ) → g < length parents → AreApart (preorder_within k parents g)
  unfolding preorder_within
  once_within zero g lt = tt
  once_within (suc k) g lt =
      let cs = children_of parents g in (
        none_of g (flat_map (preorder_within k parents) cs) (λ x at e.
            let f = flat_map_has (preorder_within k parents) cs x at in
            let child = is_listed g f.0 f.1 in
            let l = child_higher parents g f.0 tree child in
            let on = on_within k f.0 x child.there f.2 in
            let m = on_le f.0 x on.1 on.0 in
            omega (arith, l, m, e)),
        pieces_apart (preorder_within k parents) cs
            (AreApart_filter (is_child parents g) (range_with_len 0 (length parents)) (ranges_apart 0 (length parents)))
            (λ c at. let child = is_listed g c at in once_within k c child.there)
            (λ c d b x y ne in_c in_d.
            let hc = is_listed g c x in
            let hd = is_listed g d y in
            let oc = on_within k c b hc.there in_c in
            let od = on_within k d b hd.there in_d in
            other_child g c d b oc.1 hc hd ne oc.0 od.0),
      )

  -- the preorder of a group has no group twice
  pub preorder_of-once : (g : ℕ) → g < length parents → AreApart (preorder_of parents g)
  preorder_of-once g lt = once_within (length parents) g lt

  -- ---- children behind parents

  -- the parent of each group is among those seen before it
  abbrev pub Follow : List ℕ → List ℕ → Type 0
  Follow seen [] = Unit {0}
  Follow seen (b ∷ bs) = Has seen (parent_of parents b) × Follow (seen ++ b ∷ []) bs

  seen_left : (xs ys : List ℕ) (x : ℕ) → Has xs x → Has (xs ++ ys) x
  seen_left [] ys x h = absurd h
  seen_left (y ∷ xs) ys x (inl e) = inl e
  seen_left (y ∷ xs) ys x (inr h) = inr (seen_left xs ys x h)

  seen_more : (xs ys : List ℕ) (b x : ℕ) → ((z : ℕ) → Has xs z → Has ys z) → Has (xs ++ b ∷ []) x → Has (ys ++ b ∷ []) x
  seen_more xs ys b x more h = by xs h (λ z at. more z at)
    where
      last : (zs : List ℕ) → Has (zs ++ b ∷ []) b
      last [] = inl refl
      last (z ∷ zs) = inr (last zs)

      by : (zs : List ℕ) → Has (zs ++ b ∷ []) x → ((z : ℕ) → Has zs z → Has ys z) → Has (ys ++ b ∷ []) x
      by [] (inl e) f = subst (λ (z : ℕ). Has (ys ++ b ∷ []) z) e (last ys)
      by [] (inr h) f = absurd h
      by (z ∷ zs) (inl e) f = seen_left ys (b ∷ []) x (f x (inl e))
      by (z ∷ zs) (inr h) f = by zs h (λ w at. f w (inr at))

  follow_more : (bs xs ys : List ℕ) → ((z : ℕ) → Has xs z → Has ys z) → Follow xs bs → Follow ys bs
  follow_more [] xs ys more h = tt
  follow_more (b ∷ bs) xs ys more h = (more (parent_of parents b) h.0, follow_more bs (xs ++ b ∷ []) (ys ++ b ∷ []) (λ z at. seen_more xs ys b z more at) h.1)

  follow_append : (bs cs seen : List ℕ) → Follow seen bs → Follow (seen ++ bs) cs → Follow seen (bs ++ cs)
  follow_append [] cs seen h k = subst (λ (s : List ℕ). Follow s cs) (append-nil seen) k
  follow_append (b ∷ bs) cs seen h k =
      (h.0, follow_append bs cs (seen ++ b ∷ []) h.1 (subst (λ (s : List ℕ). Follow s cs) (sym (append_assoc seen (b ∷ []) bs)) k))

  one_seen : (c : ℕ) (ys : List ℕ) → Has ys c → (z : ℕ) → Has (c ∷ []) z → Has ys z
  one_seen c ys h z (inl e) = subst (λ (x : ℕ). Has ys x) e h
  one_seen c ys h z (inr none) = absurd none

  last_seen : (xs : List ℕ) (c : ℕ) → Has (xs ++ c ∷ []) c
  last_seen [] c = inl refl
  last_seen (x ∷ xs) c = inr (last_seen xs c)

  -- what is below a group, at most so many levels deep
  abbrev below_within : ℕ → ℕ → List ℕ
  below_within k g = flat_map (preorder_within k parents) (children_of parents g)

  follow_pieces : (k : ℕ) → ((c : ℕ) → c < length parents → Follow (c ∷ []) (below_within k c)) → (cs seen : List ℕ) (g : ℕ) → Has seen g → ((c : ℕ) → Has cs c → IsChild parents g c)
      → Follow seen (flat_map (λ c. c ∷ below_within k c) cs)
  follow_pieces k each [] seen g at child = tt
  follow_pieces k each (c ∷ cs) seen g at child =
      let h = child c (inl refl) in (
        subst (λ (x : ℕ). Has seen x) (sym h.parent) at,
        follow_append (below_within k c) (flat_map (λ d. d ∷ below_within k d) cs) (seen ++ c ∷ [])
            (follow_more (below_within k c) (c ∷ []) (seen ++ c ∷ []) (one_seen c (seen ++ c ∷ []) (last_seen seen c)) (each c h.there))
            (follow_pieces k each cs ((seen ++ c ∷ []) ++ below_within k c) g (seen_left (seen ++ c ∷ []) (below_within k c) g (seen_left seen (c ∷ []) g at)) (λ d x. child d (inr x))),
      )

  follow_within : (k g : ℕ) → g < length parents → Follow (g ∷ []) (below_within k g)
  unfolding preorder_within
  follow_within zero g lt = none (children_of parents g)
    where
      none : (cs : List ℕ) → Follow (g ∷ []) (flat_map (λ c. []) cs)
      none [] = tt
      none (c ∷ cs) = none cs
  follow_within (suc k) g lt =
      follow_pieces k (λ c there. follow_within k c there) (children_of parents g) (g ∷ []) g (inl refl) (λ c x. is_listed g c x)

  -- In the preorder of a group each other group stands behind its parent.
  pub preorder_of-behind : (g : ℕ) → g < length parents → (preorder_of parents g ≡ g ∷ subtrees_of parents g) × Follow (g ∷ []) (subtrees_of parents g)
  preorder_of-behind g lt = (preorder_of-group parents tree g lt, follow_within (length parents) g lt)

  -- ---- the same by places

  pairs_apart : (xs : List ℕ) → AreApart xs → AllPairs (λ x y. x ≢ y) xs
  pairs_apart [] h i j d less lt = absurd (omega arith)
  pairs_apart (x ∷ xs) h zero zero d less lt = absurd (omega arith)
  pairs_apart (x ∷ xs) h zero (suc j) d less lt = each_has (λ y. x ≢ y) xs (get_or xs j d) h.0 (Has_from_Contains xs (get_or xs j d) (Contains-get_or xs j d (omega (arith, lt))))
  pairs_apart (x ∷ xs) h (suc i) zero d less lt = absurd (omega arith)
  pairs_apart (x ∷ xs) h (suc i) (suc j) d less lt = pairs_apart xs h.1 i j d (omega (arith, less)) (omega (arith, lt))

  -- no two places of the preorder have one group
  pub preorder_of-pairs : (g : ℕ) → g < length parents → AllPairs (λ x y. x ≢ y) (preorder_of parents g)
  preorder_of-pairs g lt = pairs_apart (preorder_of parents g) (preorder_of-once g lt)

  follow_at : (bs seen : List ℕ) (i : ℕ) → Follow seen bs → i < length bs → Has (seen ++ take i bs) (parent_of parents (get_or bs i 0))
  follow_at [] seen i h lt = absurd (omega arith)
  follow_at (b ∷ bs) seen zero h lt = seen_left seen [] (parent_of parents b) h.0
  follow_at (b ∷ bs) seen (suc i) h lt =
      subst (λ (s : List ℕ). Has s (parent_of parents (get_or bs i 0))) (append_assoc seen (b ∷ []) (take i bs)) (follow_at bs (seen ++ b ∷ []) i h.1 (omega (arith, lt)))

  behind_first : (g : ℕ) (bs : List ℕ) (i : ℕ) → Follow (g ∷ []) bs → 0 < i → i < length (g ∷ bs) → Contains (take i (g ∷ bs)) (parent_of parents (get_or (g ∷ bs) i 0))
  behind_first g bs zero h above lt = absurd (omega arith)
  behind_first g bs (suc i) h above lt = Contains_from_Has (g ∷ take i bs) (parent_of parents (get_or bs i 0)) (follow_at bs (g ∷ []) i h (omega (arith, lt)))

  -- the parent of each group but the first stands before it
  pub preorder_of-parents : (g : ℕ) → g < length parents → (i : ℕ) → 0 < i → i < length (preorder_of parents g) → Contains (take i (preorder_of parents g)) (parent_of parents (get_or (preorder_of parents g) i 0))
  preorder_of-parents g lt =
      let b = preorder_of-behind g lt in
      subst (λ (xs : List ℕ). (i : ℕ) → 0 < i → i < length xs → Contains (take i xs) (parent_of parents (get_or xs i 0))) (sym b.0) (λ i above within. behind_first g (subtrees_of parents g) i b.1 above within)
