-- SPDX-License-Identifier: GPL-2.0-only
-- What a well formed report says of pools, of a run.
use Rattle.shr_lawful.proofs.UnitsCommon.{◌≡◌, ℕ, zero, suc, ◌+◌, ◌<◌, ◌≤◌, ◌≢◌, ◌⊎◌, inl, inr, ⊎_elim, List, [], ◌∷◌, ◌++◌, length, map, get_or, sym, refl, ap, subst, ◌∙◌, arith, slice_get, Some, AllByRecursion, cases_lt, append-nil, map-append, slice_get_within, dite, ℕ_discrete, UnitsEnd, PlainEntry, Place, Serial, Script, PlainWalk, Sizes, IsPlaceOf, row_of, row_count, UnitsEndValue, units_end_value, PlainState, no_state, Report, answers_of, serial_of, plain_of, AreNotFalling, units_place, pool_sizes, UnitsStep, units_steps_of, AreChained, units_state_after, last_units_state, AreUnits, AllAdjacentBelow, units_ends_below, AreOfCommands, IsPlaceBefore, IsPlaceUpTo}
use Rattle.shr_seats.proofs.RowLaws as rows
use Rattle.shr_lawful.proofs.UnitLists.{IsIn, by_slices}
use Rattle.shr_lawful.proofs.UnitPooling.{row_there}
use Rattle.shr_lawful.proofs.UnitPrinting.{IsBelow, value_place, value_row, Rises, rises_below, among_below, printed, slice_map}
use Rattle.shr_lawful.proofs.UnitVersionsLaw.{NotFalling, adjacent, not_falling_snoc}
use Rattle.shr_lawful.proofs.UnitAlong.{gained, gained_all}
use Rattle.shr_lawful.proofs.UnitMaking.{walks_at, kind_at, longer_walks}
use Rattle.shr_lawful.proofs.UnitDueLaw.{Added, added}
use Rattle.shr_lawful.proofs.UnitWalkRecords.{WalkOf, walk_of}

-- ---- the printed journals stand by pool and node
-- the place of a later row stands behind
place_later : (z : Sizes) → z.groups ≡ 1 → (p q : Place) → IsPlaceOf z p → IsPlaceOf z q → row_of z p < row_of z q → IsPlaceBefore p q
place_later z one p q a b lt =
    let back = rows.later z q p (record { node = b.node; group = b.group }) in
    ⊎_elim (λ low. inl low)
    (λ high. dite (ℕ_discrete q.id p.id)
    (λ same. inr (sym same, ⊎_elim (λ low. inl low) (λ on. absurd (by_node same on)) (cases_lt p.node q.node)))
    (λ ne. absurd (let later = back.0 (omega (arith, high, ne)) in omega (arith, lt, later))))
    (cases_lt p.id q.id)
  where
    by_node : q.id ≡ p.id → q.node ≤ p.node → ⊥
    by_node same on = dite (ℕ_discrete q.node p.node)
        (λ e. let g = a.group in let h = b.group in let row = rows.same_row z p q (record { id = same; node = e; group = (let m : q.group ≡ p.group = omega (arith, g, h, one) in m) }) in omega (arith, lt, row))
        (λ ne. let later = (rows.later z q p (record { node = b.node; group = b.group })).1 same (omega (arith, on, ne)) in omega (arith, lt, later))

module _ (z : Sizes) (one : z.groups ≡ 1) (journal : ℕ → List PlainEntry) where
  value_there : (v : UnitsEndValue) → IsIn v (units_ends_below z (row_count z) journal) → IsPlaceOf z (value_place v)
  value_there v is = let b : IsBelow z one journal (row_count z) v = among_below z one journal (row_count z) v is in
      let there = row_there z b.row one b.near in let id = there.id in let node = there.node in let pool = b.pool in let on = b.node in
      record { id = omega (arith, id, pool); node = omega (arith, node, on); group = omega (arith, one) }

  in_order : (us : List UnitsEnd) → ((j : ℕ) (u : UnitsEnd) → slice_get us j ≡ Some u → IsPlaceOf z (units_place u)) → Rises z one journal (map (value_row z one journal) (map units_end_value us)) → AllAdjacentBelow (λ (u v : UnitsEnd). IsPlaceUpTo (units_place u) (units_place v)) us (length us)
  in_order [] there h k d lt = absurd (omega (arith, lt))
  in_order (u ∷ []) there h k d lt = absurd (omega (arith, lt))
  in_order (u ∷ v ∷ us) there h zero d lt = inl (place_later z one (units_place u) (units_place v) (there 0 u refl) (there 1 v refl) h.0.0)
  in_order (u ∷ v ∷ us) there h (suc k) d lt = subst (λ (i : ℕ). IsPlaceUpTo (units_place (get_or (v ∷ us) k d)) (units_place (get_or (u ∷ v ∷ us) i d))) (let m : suc (k + 1) ≡ suc k + 1 = omega arith in m)
      (in_order (v ∷ us) (λ j w e. there (suc j) w e) h.1 k d (omega (arith, lt)))

-- ---- walks of the pools stand in the order of their commands
abbrev commands_in : List PlainWalk → List ℕ
commands_in ws = map (λ (w : PlainWalk). w.by.command) ws

all_less : (m n : ℕ) (ns : List ℕ) → m ≤ n → AllByRecursion (λ k. k ≤ m) ns → AllByRecursion (λ k. k ≤ n) ns
all_less m n [] le h = tt
all_less m n (k ∷ ns) le h = (let q = h.0 in omega (arith, q, le), all_less m n ns le h.1)

all_snoc : (m : ℕ) (ns : List ℕ) → AllByRecursion (λ k. k ≤ m) ns → AllByRecursion (λ k. k ≤ m) (ns ++ m ∷ [])
all_snoc m [] h = (omega arith, tt)
all_snoc m (k ∷ ns) h = (h.0, all_snoc m ns h.1)

-- these rise to a number
abbrev RiseTo : ℕ → List ℕ → Type 0
RiseTo n ns = NotFalling ns × AllByRecursion (λ k. k ≤ n) ns

-- walks of one command more
rise_on : (n : ℕ) (ns : List ℕ) (ws : List PlainWalk) → ((w : PlainWalk) → IsIn w ws → w.by.command ≡ n) → RiseTo n ns → RiseTo n (ns ++ commands_in ws)
rise_on n ns [] own h = subst (RiseTo n) (sym (append-nil ns)) h
rise_on n ns (w ∷ ws) own h = subst (RiseTo n) (assoc ns w.by.command (commands_in ws)) (rise_on n (ns ++ w.by.command ∷ []) ws (λ v is. own v (suc is.0, is.1)) (subst (λ (m : ℕ). RiseTo n (ns ++ m ∷ [])) (sym (own w (0, refl))) (not_falling_snoc n ns h.0 h.1, all_snoc n ns h.1)))
  where
    assoc : (xs : List ℕ) (y : ℕ) (zs : List ℕ) → (xs ++ y ∷ []) ++ zs ≡ xs ++ y ∷ zs
    assoc [] y zs = refl
    assoc (x ∷ xs) y zs = ap (λ l. x ∷ l) (assoc xs y zs)

rise_along : (n : ℕ) (t : PlainState) (mine : List UnitsStep) → AreChained t mine → ((k : ℕ) (x : UnitsStep) → slice_get mine k ≡ Some x → (x.after.walks ≡ x.before.walks ++ gained walks_at x) × ((w : PlainWalk) → IsIn w (gained walks_at x) → w.by.command ≡ n + k))
    → RiseTo n (commands_in t.walks) → NotFalling (commands_in (units_state_after t mine).walks)
rise_along n t [] c each h = h.0
rise_along n t (x ∷ xs) c each h = let e = each 0 x refl in
    let here : RiseTo n (commands_in x.after.walks) = subst (λ l. RiseTo n (commands_in l)) (sym e.0) (subst (RiseTo n) (sym (map-append (λ (w : PlainWalk). w.by.command) x.before.walks (gained walks_at x)))
    (rise_on n (commands_in x.before.walks) (gained walks_at x) (λ w is. let q = e.1 w is in omega (arith, q)) (subst (λ (u : PlainState). RiseTo n (commands_in u.walks)) (sym c.0) h))) in
    rise_along (n + 1) x.after xs c.1 (λ k y d. let f = each (suc k) y d in (f.0, λ w is. let q = f.1 w is in omega (arith, q))) (here.0, all_less n (n + 1) (commands_in x.after.walks) (omega arith) here.1)

module _ (s : Script) (r : Report) (workers : List (List UnitsStep)) (run : AreUnits s r workers) where
  -- each journal that is printed has an entry
  pub entered : AllByRecursion (λ (u : UnitsEnd). 0 < length u.entries.items) r.units.items
  entered = by_slices (λ (u : UnitsEnd). 0 < length u.entries.items) r.units.items (λ j u at. let b = printed (pool_sizes s) refl run.journal r run.units j u at in subst (λ (l : List PlainEntry). 0 < length l) (sym b.entries) b.some_entry)

  pub unit_order : AllAdjacentBelow (λ (u v : UnitsEnd). IsPlaceUpTo (units_place u) (units_place v)) r.units.items (length r.units.items)
  unit_order = in_order (pool_sizes s) refl run.journal r.units.items there (subst (λ (vs : List UnitsEndValue). Rises (pool_sizes s) refl run.journal (map (value_row (pool_sizes s) refl run.journal) vs)) (sym run.units)
      (rises_below (pool_sizes s) refl run.journal (row_count (pool_sizes s)) (omega arith)).0)
    where
      there : (j : ℕ) (u : UnitsEnd) → slice_get r.units.items j ≡ Some u → IsPlaceOf (pool_sizes s) (units_place u)
      there j u at = value_there (pool_sizes s) refl run.journal (units_end_value u) (j, subst (λ l. slice_get l j ≡ Some (units_end_value u)) run.units (slice_map units_end_value r.units.items j u at))

  -- a worker's walks of the pools are of its commands, in order
  pub plain_order : (worker : ℕ) → AreOfCommands PlainWalk (λ w. w.by) worker (length (answers_of r worker)) (plain_of r worker)
  plain_order worker = record {
    by = by_slices (λ (w : PlainWalk). (w.by.worker ≡ worker) × (w.by.command < length (answers_of r worker))) (plain_of r worker) own;
    order = subst (λ l. AreNotFalling (map (λ (w : PlainWalk). w.by.command) l)) (sym (run.walks worker)) (adjacent (commands_in (last_units_state (units_steps_of workers worker)).walks)
        (rise_along 0 no_state (units_steps_of workers worker) (run.chained worker) each (tt, tt)));
  }
    where
      own : (n : ℕ) (w : PlainWalk) → slice_get (plain_of r worker) n ≡ Some w → (w.by.worker ≡ worker) × (w.by.command < length (answers_of r worker))
      own n w at =
          let of : WalkOf s r workers run worker n w = walk_of s r workers run worker n w at in
          let by : w.by ≡ serial_of worker of.k = ap (λ (v : PlainWalk). v.by) (sym of.own) ∙ (of.did.gives.by_is ∙ (run.each worker of.k of.step of.at).by) in
          let lt = slice_get_within (units_steps_of workers worker) of.k of.step of.at in let many = run.answers worker in let k = ap (λ (b : Serial). b.command) by in
          (ap (λ (b : Serial). b.worker) by, omega (arith, lt, many, k))

      each : (k : ℕ) (x : UnitsStep) → slice_get (units_steps_of workers worker) k ≡ Some x → (x.after.walks ≡ x.before.walks ++ gained walks_at x) × ((w : PlainWalk) → IsIn w (gained walks_at x) → w.by.command ≡ 0 + k)
      each k x at = (
        gained_all walks_at x (longer_walks s r workers run worker k x at),
        λ w is.
            let a : Added s x = added s x (kind_at s r workers run worker k x at) in
            let by = ap (λ (b : Serial). b.command) (a.own w is.0 is.1 ∙ (run.each worker k x at).by) in omega (arith, by),
      )
