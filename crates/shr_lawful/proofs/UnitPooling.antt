-- SPDX-License-Identifier: GPL-2.0-only
-- Places of pools, and their rooms.
use Rattle.shr_lawful.proofs.UnitsCommon.{◌≡◌, ℕ, zero, suc, ◌+◌, ◌*◌, ◌<◌, ◌≤◌, ◌⊎◌, inl, inr, ⊎_elim, Bool, true, false, cond, List, [], ◌∷◌, length, map, sym, refl, ap, subst, ◌∙◌, arith, ne_eqb, slice_get, ◌==◌, cases_lt, Place, PoolDecl, Script, Sizes, IsPlaceOf, row_of, row_count, place_of_row, setting_by, settings_of, pool_sizes, IsPoolOf, setting_of, home_place, pool_place, home_of, ◌/◌, ◌%◌, place_inside, home_in}
use Rattle.std.proofs.lemmas.Nat.{div-mul-add, mod-mul-add}

-- the home of a pool on a node, by its declaration and by its setting
home_same : (ds : List PoolDecl) (pool node : ℕ) → (home_place (map setting_by ds) pool node).node ≡ home_in (slice_get ds pool) node
home_same [] pool node = refl
home_same (d ∷ ds) zero node = refl
home_same (d ∷ ds) (suc pool) node = home_same ds pool node

pub pool_place_is : (s : Script) (pool node : ℕ) → home_of s pool node ≡ pool_place s pool node
pool_place_is s pool node = ap (λ (n : ℕ). record { id = pool; node = n; group = 0 }) (home_same s.pools.items pool node)

-- a home is its own home
home_twice : (d : Bool) (node : ℕ) → cond d 0 (cond d 0 node) ≡ cond d 0 node
home_twice true node = refl
home_twice false node = refl

pub home_low : (d : Bool) (node n : ℕ) → node < n → cond d 0 node < n
home_low true node n lt = omega (arith, lt)
home_low false node n lt = lt

pub home_again : (s : Script) (pool node : ℕ) → home_of s pool (home_of s pool node).node ≡ home_of s pool node
home_again s pool node = ap (λ (n : ℕ). record { id = pool; node = n; group = 0 }) (home_twice (setting_of (settings_of s) pool).flat node)

pub id_low : (n pool : ℕ) → pool < n → pool < cond {A = ℕ} (n == 0) 1 n
id_low zero pool lt = absurd (omega (arith, lt))
id_low (suc n) pool lt = subst (λ (b : Bool). pool < cond {A = ℕ} b 1 (suc n)) (sym (ne_eqb (suc n) 0 (λ e. omega (arith, e)))) lt

length_settings : (ds : List PoolDecl) → length (map setting_by ds) ≡ length ds
length_settings [] = refl
length_settings (d ∷ ds) = omega (arith, length_settings ds)

pub pool_low : (s : Script) (pool : ℕ) → pool < length (settings_of s) → pool < length s.pools.items
pool_low s pool lt = omega (arith, lt, length_settings s.pools.items)

pub settings_length : (s : Script) → length (settings_of s) ≡ length s.pools.items
settings_length s = length_settings s.pools.items

-- the home of a pool on a node is a place of the tables
pub home_there : (s : Script) (pool node : ℕ) → IsPoolOf (settings_of s) (pool_sizes s) pool node → IsPlaceOf (pool_sizes s) (home_of s pool node)
home_there s pool node is = record {
  id = id_low (length s.pools.items) pool (pool_low s pool is.pool);
  node = home_low (setting_of (settings_of s) pool).flat node s.nodes is.node;
  group = omega arith;
}

-- a place of the tables that is the home of a pool
pub record IsHome (s : Script) (p : Place) : Type 0 where
  pub there : IsPlaceOf (pool_sizes s) p
  pub pool : p.id < length s.pools.items
  pub home : home_of s p.id p.node ≡ p

pub is_home : (s : Script) (pool node : ℕ) → IsPoolOf (settings_of s) (pool_sizes s) pool node → IsHome s (home_of s pool node)
is_home s pool node is = record { there = home_there s pool node is; pool = pool_low s pool is.pool; home = home_again s pool node }

-- a place of the tables by its row
pub place_back : (z : Sizes) (p : Place) → IsPlaceOf z p → place_of_row z (row_of z p) ≡ p
place_back z p is =
    let high : row_of z p / z.groups ≡ p.id * z.nodes + p.node = div-mul-add (p.id * z.nodes + p.node) z.groups p.group is.group in
    let id : row_of z p / z.groups / z.nodes ≡ p.id = ap (λ (n : ℕ). n / z.nodes) high ∙ div-mul-add p.id z.nodes p.node is.node in
    let node : row_of z p / z.groups % z.nodes ≡ p.node = ap (λ (n : ℕ). n % z.nodes) high ∙ mod-mul-add p.id z.nodes p.node is.node in
    let group : row_of z p % z.groups ≡ p.group = mod-mul-add (p.id * z.nodes + p.node) z.groups p.group is.group in
    λ k. record { id = id k; node = node k; group = group k }

-- places with one row are one
pub same_place : (z : Sizes) (p q : Place) → IsPlaceOf z p → IsPlaceOf z q → row_of z p ≡ row_of z q → p ≡ q
same_place z p q a b e = sym (place_back z p a) ∙ (ap (place_of_row z) e ∙ place_back z q b)

-- a place is one of the tables, or not
pub there_or_not : (z : Sizes) (p : Place) → IsPlaceOf z p ⊎ (IsPlaceOf z p → ⊥)
there_or_not z p = ⊎_elim (λ i. ⊎_elim (λ n. ⊎_elim (λ g. inl (record { id = i; node = n; group = g })) (λ g. inr (λ t. let h = t.group in omega (arith, h, g))) (cases_lt p.group z.groups))
    (λ n. inr (λ t. let h = t.node in omega (arith, h, n))) (cases_lt p.node z.nodes)) (λ i. inr (λ t. let h = t.id in omega (arith, h, i))) (cases_lt p.id z.ids)

pub some_right : (a b : ℕ) → 0 < a * b → 0 < b
some_right a zero h = absurd (omega (arith, h))
some_right a (suc b) h = omega arith

-- each row is that of a place
pub row_there : (z : Sizes) (i : ℕ) → z.groups ≡ 1 → i < row_count z → IsPlaceOf z (place_of_row z i)
row_there z i one lt =
    let both : 0 < z.ids * z.nodes = let e : z.ids * z.nodes * z.groups ≡ z.ids * z.nodes = ap (λ (n : ℕ). z.ids * z.nodes * n) one ∙ omega arith in omega (arith, lt, e) in
    place_inside z i (some_right z.ids z.nodes both) (omega (arith, one)) lt
