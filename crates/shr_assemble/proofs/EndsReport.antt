-- SPDX-License-Identifier: GPL-2.0-only
-- The report of a run whose workers are done is laid out as its words ask.
use Rattle.shr_assemble.proofs.Common.{◌≡◌, ℕ, zero, suc, ◌<◌, ◌≤◌, ◌^◌, inl, inr, ⊎_elim, Bool, true, false, List, [], ◌∷◌, ◌/◌, ◌%◌, length, map, cond, sym, refl, ap, subst, ◌∙◌, arith, ne_eqb, All, if◌then◌else◌, ◌==◌, filter, AllByRecursion, AllAdjacentBelow, range_with_len, eqb-true, length-map, mod-lt, MapEnd, PlaceAmount, GroupDecl, Script, PoolEntry, last_number, each_append, units_in, nodes_below, lookups_of, groups_in, is_some_amount, amount_of, deferred_word, pool_sizes, IsWithin, content_of, within_of_valid, Shared, Ends, Report, parents_of, IsPlaceBefore, IsAmountWell, IsPoolAmountWell, map_units, WorkerLog, Noted, AreEndsOf, firsts_at_start, with_workers, StandsBefore, IsMadeOf, printed_part, ArePrintedParts, IsPutTogether, IsSized, units_of, took_at, gave_at}
use Rattle.shr_assemble.proofs.ScriptGroups.{sized_of, version_of, few_of_first}
use Rattle.shr_core.specs.Ending.{lookups_below}
use Rattle.shr_seats.specs.Rows as rows
use Rattle.shr_deferred.specs.Left.{amounts, left_over}
use Rattle.shr_lawful.proofs.Listed.{pairs_by_slices}
use Rattle.shr_assemble.proofs.WellAmounts.{amounts_rise, amounts_numbered}
use Rattle.shr_assemble.proofs.WellFormed.{IsLaidOut}

-- 1 to 64 ids are one unit
one_unit : (ids : ℕ) → 0 < ids → ids ≤ 64 → units_in ids ≡ 1
one_unit ids some few = omega (arith, some, few)

-- the units that a report prints are those of its ids, of which one of version 1 has at most 64
units_printed : (r : Report) → 0 < r.ids → (r.version ≡ 1 → r.ids ≤ 64) → range_with_len 0 (units_in r.ids) ≡ map_units r
units_printed r some few = (elim (r.version == 1) as (λ (b : Bool). (r.version == 1) ≡ b → range_with_len 0 (units_in r.ids) ≡ (if b then 0 ∷ [] else units_of r.ids)) [ true ↦ λ e. ap (range_with_len 0) (one_unit r.ids some (few (eqb-true r.version 1 e))) | false ↦ λ e. refl ]) refl

-- ---- the places of pools
few_pools : (n : ℕ) → n ≤ 64 → cond {A = ℕ} (n == 0) 1 n ≤ 256
few_pools zero few = omega arith
few_pools (suc n) few = subst (λ (b : Bool). cond {A = ℕ} b 1 (suc n) ≤ 256) (sym (ne_eqb (suc n) 0 (λ e. omega (arith, e)))) (omega (arith, few))

-- the place of a pool has no group
no_group : (s : Script) (f : ℕ → ℕ) → AllByRecursion (λ (d : PlaceAmount). d.place.group ≡ 0) (amounts (pool_sizes s) f (rows.row_count (pool_sizes s)))
unfolding amounts
no_group s f = kept (range_with_len 0 (rows.row_count (pool_sizes s))) where
  kept : (is : List ℕ) → AllByRecursion (λ (d : PlaceAmount). d.place.group ≡ 0) (filter is_some_amount (map (λ i. amount_of (rows.place_of_row (pool_sizes s) i) (f i)) is))
  kept [] = tt
  kept (i ∷ is) = choose (is_some_amount (amount_of (rows.place_of_row (pool_sizes s) i) (f i))) (kept is) where
    choose : (b : Bool) → AllByRecursion (λ (d : PlaceAmount). d.place.group ≡ 0) (filter is_some_amount (map (λ j. amount_of (rows.place_of_row (pool_sizes s) j) (f j)) is))
        → AllByRecursion (λ (d : PlaceAmount). d.place.group ≡ 0) (cond b (amount_of (rows.place_of_row (pool_sizes s) i) (f i) ∷ filter is_some_amount (map (λ j. amount_of (rows.place_of_row (pool_sizes s) j) (f j)) is)) (filter is_some_amount (map (λ j. amount_of (rows.place_of_row (pool_sizes s) j) (f j)) is)))
    choose true rest = (let low : i % 1 < 1 = mod-lt i (omega arith) in omega (arith, low), rest)
    choose false rest = rest

of_pools : (ds : List PlaceAmount) → AllByRecursion IsAmountWell ds → AllByRecursion (λ (d : PlaceAmount). d.place.group ≡ 0) ds → AllByRecursion IsPoolAmountWell ds
of_pools [] a g = tt
of_pools (d ∷ ds) a g = (record { amount = a.0; group = g.0 }, of_pools ds a.1 g.1)

module _ (x : Shared) (logs : List WorkerLog) (e : Ends) (ends : AreEndsOf x logs e) (n : Noted) (r : Report) (printed : ArePrintedParts (map printed_part logs) n.parts.items) (together : IsPutTogether e n r) (made : IsMadeOf x.script logs e r) where
  within : IsWithin (content_of x.script)
  within = within_of_valid (content_of x.script) ends.shared.script

  ids_are : x.core.setting.shape.ids ≡ r.ids
  ids_are = ends.shared.ids ∙ sym made.ids

  units_are : range_with_len 0 (units_in r.ids) ≡ map_units r
  units_are = let same = made.ids in let some = within.some_id in units_printed r (omega (arith, same, some)) (λ one.
      let few = few_of_first x ends.shared (sym made.version ∙ one) in omega (arith, same, few))

  -- the groups of the core are those that are printed
  groups_are : groups_in x.core.setting.shape ≡ length r.groups.items
  groups_are = ap length ends.shared.parents ∙ (ap (λ t. length t.parents) ends.shared.tree ∙ (ap suc (length-map x.script.groups.items (λ (g : GroupDecl). g.parent))
      ∙ sym (ap length made.paths ∙ ap suc (length-map x.script.groups.items (λ (g : GroupDecl). g.path)))))

  maps_are : r.maps.items ≡ nodes_below (units_in r.ids) (length r.groups.items) r.nodes ends.core.bits
  maps_are = made.maps ∙ (ends.core.maps ∙ (ap (λ i. nodes_below (units_in i) (groups_in x.core.setting.shape) x.core.setting.shape.nodes ends.core.bits) ids_are
      ∙ (ap (λ n. nodes_below (units_in r.ids) n x.core.setting.shape.nodes ends.core.bits) groups_are ∙ ap (λ m. nodes_below (units_in r.ids) (length r.groups.items) m ends.core.bits) (ends.shared.nodes ∙ sym made.nodes))))

  sized : IsSized x.script
  sized = sized_of x ends.shared

  -- how many groups the deferred words have
  tall : x.deferred.sizes.groups ≡ length (parents_of x.script)
  tall = ap (λ z. z.groups) ends.shared.sizes ∙ ap (λ t. length t.parents) ends.shared.tree

  deferred_rise : AllAdjacentBelow (λ (d e : PlaceAmount). IsPlaceBefore d.place e.place) r.deferred.items (length r.deferred.items)
  deferred_rise = let nodes = ap (λ z. z.nodes) ends.shared.sizes in let some = within.some_node in let few = within.nodes in let high = tall in let groups = sized.groups in
      subst (λ (l : List PlaceAmount). AllAdjacentBelow (λ (d e : PlaceAmount). IsPlaceBefore d.place e.place) l (length l)) (sym (made.deferred ∙ ends.deferred))
      (amounts_rise x.deferred.sizes (omega (arith, nodes, few)) (omega (arith, high, groups)) (omega (arith, nodes, some)) (omega (arith, high))
      (λ i. deferred_word (gave_at (rows.place_of_row x.deferred.sizes i) (with_workers (firsts_at_start ends.opened ends.standing) ends.lasts).moves) (took_at (rows.place_of_row x.deferred.sizes i) (with_workers (firsts_at_start ends.opened ends.standing) ends.lasts).moves)))

  amounts_are : AllByRecursion IsAmountWell r.deferred.items
  amounts_are = let nodes = ap (λ z. z.nodes) ends.shared.sizes in let ids = ap (λ z. z.ids) ends.shared.sizes in let some = within.some_node in let few = within.nodes in let few_ids = sized.ids in let high = tall in let groups = sized.groups in
      subst (AllByRecursion IsAmountWell) (sym (made.deferred ∙ ends.deferred))
      (amounts_numbered x.deferred.sizes (omega (arith, nodes, few)) (omega (arith, high, groups)) (omega (arith, nodes, some)) (omega (arith, high)) (omega (arith, ids, few_ids))
      (λ i. deferred_word (gave_at (rows.place_of_row x.deferred.sizes i) (with_workers (firsts_at_start ends.opened ends.standing) ends.lasts).moves) (took_at (rows.place_of_row x.deferred.sizes i) (with_workers (firsts_at_start ends.opened ends.standing) ends.lasts).moves))
      (λ i. mod-lt _ (omega arith)))

  -- the deferred words of pools
  abbrev pool_word : ℕ → ℕ
  pool_word i = deferred_word (gave_at (rows.place_of_row (pool_sizes x.script) i) (with_workers (firsts_at_start ends.opened ends.standing) ends.lasts).plain.moves) (took_at (rows.place_of_row (pool_sizes x.script) i) (with_workers (firsts_at_start ends.opened ends.standing) ends.lasts).plain.moves)

  pools_rise : AllAdjacentBelow (λ (d e : PlaceAmount). IsPlaceBefore d.place e.place) r.pool_deferred.items (length r.pool_deferred.items)
  pools_rise = subst (λ (l : List PlaceAmount). AllAdjacentBelow (λ (d e : PlaceAmount). IsPlaceBefore d.place e.place) l (length l)) (sym (made.pool_deferred ∙ ends.pools.deferred))
      (amounts_rise (pool_sizes x.script) within.nodes (omega arith) within.some_node (omega arith) pool_word)

  pool_amounts : AllByRecursion IsPoolAmountWell r.pool_deferred.items
  pool_amounts = subst (AllByRecursion IsPoolAmountWell) (sym (made.pool_deferred ∙ ends.pools.deferred)) (of_pools (left_over (pool_sizes x.script) (with_workers (firsts_at_start ends.opened ends.standing) ends.lasts).plain.moves)
      (amounts_numbered (pool_sizes x.script) within.nodes (omega arith) within.some_node (omega arith) (few_pools (length x.script.pools.items) within.pools) pool_word (λ i. mod-lt _ (omega arith))) (no_group x.script pool_word))

  lookups_fit : (n : ℕ) (look : ℕ → ℕ) → AllByRecursion (λ (k : ℕ). k < 2 ^ 32) (lookups_below n look)
  unfolding lookups_below
  lookups_fit zero look = tt
  lookups_fit (suc n) look = each_append (λ (k : ℕ). k < 2 ^ 32) (lookups_below n look) (lookups_of (look n) ∷ []) (lookups_fit n look) (mod-lt _ (omega arith), tt)

  pub laid_out : IsLaidOut x.script r
  laid_out = record {
    version = ⊎_elim (λ one. inl (made.version ∙ one)) (λ two. inr (made.version ∙ two)) (version_of x ends.shared);
    sorted = pairs_by_slices StandsBefore r.uses.items made.sorted;
    units = units_in r.ids;
    units_are = units_are;
    bits = ends.core.bits;
    maps = maps_are;
    words = subst (All (λ (m : MapEnd). m.bits < 2 ^ 64)) (sym made.maps) ends.words;
    all = map printed_part logs;
    many = printed.many;
    last = printed.last;
    front = together.parts ∙ printed.front;
    few = let same = length-map logs printed_part in let each = ends.workers in let most = within.workers in let many = length-map x.script.workers.items (λ w. w.commands.items) in omega (arith, same, each, most, many);
    deferred = deferred_rise;
    amounts = amounts_are;
    numbers = subst (AllByRecursion (λ (k : ℕ). k < 2 ^ 32)) (sym (made.lookups ∙ ends.core.lookups)) (lookups_fit x.core.setting.shape.ids ends.core.look);
    last_numbers = λ id near. subst (λ (es : List PoolEntry). last_number id es < 2 ^ 32) (sym made.pool)
        (let same = ends.shared.ids in let most = ends.core.numbers id (omega (arith, near, same)) in let low : ends.core.look id / 256 % 2 ^ 32 < 2 ^ 32 = mod-lt _ (omega arith) in omega (arith, most, low));
    totals = let freed = together.freed in let added = together.totals.0 in let listed = together.totals.1 in (added, omega (arith, freed, added), listed);
    pool_amounts = pool_amounts;
    pool_order = pools_rise;
  }
