-- SPDX-License-Identifier: GPL-2.0-only
-- A report is well formed where its parts are, and the other way round.
use Rattle.shr_audit_formed.proofs.Common.{◌≡◌, ℕ, suc, ◌+◌, ◌-◌, ◌<◌, ◌≤◌, ◌^◌, Bool, true, false, List, [], ◌∷◌, ◌++◌, length, map, Option, Some, None, refl, sym, ap, ◌∙◌, arith, ◌==◌, slice_get, Contains, range_with_len, is_path, is_name, unit_of, Answered, MapSeen, Attempt, WalkRecord, Carry, PlainWalk, Isolation, MapEnd, UnitsEnd, PlaceAmount, PlaceEnd, WorkerPart, HasWords, LendsWord, IsBitWord, IsCarryBefore, IsPoolNumbered, IsTreeNumbered, IsAmountWell, IsPoolAmountWell, IsUseBefore, units_place, IsPlaceBefore, IsPlaceUpTo, bit_places, IsWellFormed, IsWorkerCommand, IsWalkFormed, IsListFormed, IsPartFormed, ArePartsFormed, IsLastFormed, AreHeadsFormed, AreListsFormed, AreMapsPrinted, ◌/◌, if◌then◌else◌, IsPlaceWell, IsWalkWell, IsPartWell, AreTablesFormed}
use Rattle.std.proofs.lemmas.List.{length-append}
use Rattle.shr_laws.specs.declared.report.Report.{Report}
use Rattle.shr_audit_formed.proofs.Eachs.{all_of, each_in, each_weaker, below_of, adjacent_in, mapped, unmapped, contained, loaded}
use Rattle.shr_model.proofs.Lists.{get_last, some_injective}

-- ---- a walk, and a list

walk_well : (w : WalkRecord) → IsWalkFormed w → IsWalkWell w
walk_well w f = record {
  root = f.0.0;
  words = all_of (λ (m : MapSeen). IsBitWord m.bits) w.maps.items f.0.1.0;
  units = mapped (λ (m : MapSeen). m.unit) (λ n m. n < m) w.maps.items f.0.1.1;
  attempts = λ ne. mapped (λ (a : Attempt). unit_of a.id) (λ n m. n ≤ m) w.attempts.items (f.1 ne).0;
  loaded = λ ne. all_of (λ (a : Attempt). Contains (map (λ (m : MapSeen). m.unit) w.maps.items) (unit_of a.id)) w.attempts.items (λ n a e. contained w.maps.items (unit_of a.id) ((f.1 ne).1 n a e));
}

walk_formed : (w : WalkRecord) → IsWalkWell w → IsWalkFormed w
walk_formed w g = (
  (g.root, (each_in (λ (m : MapSeen). IsBitWord m.bits) w.maps.items g.words, unmapped (λ (m : MapSeen). m.unit) (λ n m. n < m) w.maps.items g.units)),
  λ ne. (
    unmapped (λ (a : Attempt). unit_of a.id) (λ n m. n ≤ m) w.attempts.items (g.attempts ne),
    λ n a e. loaded w.maps.items (unit_of a.id) (each_in (λ (a : Attempt). Contains (map (λ (m : MapSeen). m.unit) w.maps.items) (unit_of a.id)) w.attempts.items (g.loaded ne) n a e),
  ),
)

list_well : (end : PlaceEnd) → IsListFormed end → IsPlaceWell end
list_well end f = record { numbers = f.0; entered = f.1.0; entries = all_of HasWords end.entries.items f.1.1.0; items = f.1.1.1 }

list_formed : (end : PlaceEnd) → IsPlaceWell end → IsListFormed end
list_formed end g = (g.numbers, (g.entered, (each_in HasWords end.entries.items g.entries, g.items)))

-- ---- a part

part_well : (worker : ℕ) (p : WorkerPart) → IsPartFormed worker p → IsPartWell worker p
part_well worker p f =
    let n = length p.answers.items in
    let walks = f.1.0 in
    let carries = f.1.1.0 in
    let others = f.1.1.1 in
    record {
      answers = all_of (λ (a : Answered). LendsWord a.reply) p.answers.items f.0;
      walks = all_of IsWalkWell p.walks.items (each_weaker IsWalkFormed IsWalkWell p.walks.items walk_well walks.0);
      walkers = all_of (λ (x : WalkRecord). IsWorkerCommand worker n x.by) p.walks.items walks.1.0;
      walk_order = mapped (λ (x : WalkRecord). x.by.command) (λ n m. n ≤ m) p.walks.items walks.1.1;
      carriers = all_of (λ (x : Carry). IsWorkerCommand worker n x.by) p.carries.items carries.0;
      carry_order = mapped (λ (x : Carry). x.by.command) (λ n m. n ≤ m) p.carries.items carries.1.0;
      carry_places = below_of IsCarryBefore p.carries.items carries.1.1;
      plain = record { by = all_of (λ (x : PlainWalk). IsWorkerCommand worker n x.by) p.plain.items others.0; order = mapped (λ (x : PlainWalk). x.by.command) (λ n m. n ≤ m) p.plain.items others.1.0 };
      isolations = record { by = all_of (λ (x : Isolation). IsWorkerCommand worker n x.by) p.isolations.items others.1.1.0; order = mapped (λ (x : Isolation). x.by.command) (λ n m. n ≤ m) p.isolations.items others.1.1.1 };
    }

part_formed : (worker : ℕ) (p : WorkerPart) → IsPartWell worker p → IsPartFormed worker p
part_formed worker p g =
    let n = length p.answers.items in (
      each_in (λ (a : Answered). LendsWord a.reply) p.answers.items g.answers,
      (
        (each_weaker IsWalkWell IsWalkFormed p.walks.items walk_formed (each_in IsWalkWell p.walks.items g.walks), (each_in (λ (x : WalkRecord). IsWorkerCommand worker n x.by) p.walks.items g.walkers, unmapped (λ (x : WalkRecord). x.by.command) (λ n m. n ≤ m) p.walks.items g.walk_order)),
        (
          (each_in (λ (x : Carry). IsWorkerCommand worker n x.by) p.carries.items g.carriers, (unmapped (λ (x : Carry). x.by.command) (λ n m. n ≤ m) p.carries.items g.carry_order, adjacent_in IsCarryBefore p.carries.items g.carry_places)),
          (
            each_in (λ (x : PlainWalk). IsWorkerCommand worker n x.by) p.plain.items g.plain.by,
            (
              unmapped (λ (x : PlainWalk). x.by.command) (λ n m. n ≤ m) p.plain.items g.plain.order,
              (each_in (λ (x : Isolation). IsWorkerCommand worker n x.by) p.isolations.items g.isolations.by, unmapped (λ (x : Isolation). x.by.command) (λ n m. n ≤ m) p.isolations.items g.isolations.order),
            ),
          ),
        ),
      ),
    )

-- ---- the last part

none_some : {X : Type 0} (a : X) → ◌≡◌ {A = Option X} None (Some a) → ⊥
none_some a e = cc

longer : (n : ℕ) → suc (suc n) - 1 ≡ suc (suc n - 1)
longer n = omega arith

last_split : {X : Type 0} (xs : List X) (x : X) → slice_get xs (length xs - 1) ≡ Some x → (before : List X) × (xs ≡ before ++ x ∷ [])
last_split [] x e = absurd (none_some x e)
last_split {X} (y ∷ []) x e = ([], ap (λ (z : X). z ∷ []) (some_injective y x e))
last_split {X} (y ∷ z ∷ zs) x e =
    let more = last_split (z ∷ zs) x (ap (slice_get (y ∷ z ∷ zs)) (sym (longer (length zs))) ∙ e) in
    (y ∷ more.0, ap (λ (ys : List X). y ∷ ys) more.1)

less_one : (n m : ℕ) → n ≡ m + 1 → n - 1 ≡ m
less_one n m e = omega arith

last_at : {X : Type 0} (xs before : List X) (x : X) → xs ≡ before ++ x ∷ [] → slice_get xs (length xs - 1) ≡ Some x
last_at {X} xs before x e =
    let count : length xs ≡ length before + 1 = ap length e ∙ length-append before (x ∷ []) in
    ap (slice_get xs) (less_one (length xs) (length before) count) ∙ ap (λ (ys : List X). slice_get ys (length before)) e ∙ get_last before x

-- ---- the units of words of bits

units_are : (b : Bool) (n : ℕ) → (if b then 0 ∷ [] else range_with_len 0 n) ≡ range_with_len 0 (if b then 1 else n)
units_are true n = refl
units_are false n = refl

-- ---- a report

pub heads_of : (r : Report) → IsWellFormed r → AreHeadsFormed r
heads_of r w = (
  (w.version, w.few_parts),
  (
    each_in (λ (p : List ℕ). is_path p ≡ true) r.groups.items w.paths,
    (
      each_in (λ (p : List ℕ). is_name p ≡ true) r.caches.items w.names,
      (
        each_in (λ (p : List ℕ). is_name p ≡ true) r.pools.items w.pools,
        (each_in IsPoolNumbered r.pool.items w.pool, each_in IsTreeNumbered r.tree.items w.tree),
      ),
    ),
  ),
)

pub parts_of : (r : Report) → IsWellFormed r → ArePartsFormed r.workers.items
parts_of r w worker part e = part_formed worker part (w.parts worker part e)

pub last_of : (r : Report) → IsWellFormed r → IsLastFormed r.workers.items
last_of r w part e = let split = last_split r.workers.items part e in w.last split.0 part split.1

pub lists_of : (r : Report) → IsWellFormed r → AreListsFormed r
lists_of r w = (
  each_weaker IsPlaceWell IsListFormed r.places.items list_formed (each_in IsPlaceWell r.places.items w.places),
  (
    adjacent_in (λ (x y : PlaceEnd). IsPlaceUpTo x.place y.place) r.places.items w.place_order,
    (each_in (λ (u : UnitsEnd). 0 < length u.entries.items) r.units.items w.units, adjacent_in (λ (u v : UnitsEnd). IsPlaceUpTo (units_place u) (units_place v)) r.units.items w.unit_order),
  ),
)

pub maps_of : (r : Report) → IsWellFormed r → AreMapsPrinted r
maps_of r w = (
  each_in (λ (m : MapEnd). IsBitWord m.bits) r.maps.items w.maps,
  (
    each_in (λ (n : ℕ). n < 2 ^ 32) r.lookups.items w.numbers,
    (
      w.lookups,
      w.map_places ∙ ap (bit_places r.nodes (length r.groups.items)) (units_are (r.version == 1) ((r.ids + 63) / 64)),
    ),
  ),
)

pub tables_of : (r : Report) → IsWellFormed r → AreTablesFormed r
tables_of r w = (
  each_in IsAmountWell r.deferred.items w.deferred,
  (
    adjacent_in (λ (d e : PlaceAmount). IsPlaceBefore d.place e.place) r.deferred.items w.deferred_order,
    (
      adjacent_in IsUseBefore r.uses.items w.use_order,
      (each_in IsPoolAmountWell r.pool_deferred.items w.pool_deferred, adjacent_in (λ (d e : PlaceAmount). IsPlaceBefore d.place e.place) r.pool_deferred.items w.pool_order),
    ),
  ),
)

-- its parts together
pub well_of : (r : Report) → (r.nodes < 2 ^ 8) × (r.ids < 2 ^ 16) → IsBitWord r.added × IsBitWord r.freed × IsBitWord r.listed → AreHeadsFormed r → ArePartsFormed r.workers.items → IsLastFormed r.workers.items → AreListsFormed r → AreMapsPrinted r → AreTablesFormed r → IsWellFormed r
well_of r sizes totals h p last l m t = record {
  version = h.0.0;
  few_parts = h.0.1;
  sizes = sizes;
  paths = all_of (λ (p : List ℕ). is_path p ≡ true) r.groups.items h.1.0;
  names = all_of (λ (p : List ℕ). is_name p ≡ true) r.caches.items h.1.1.0;
  pools = all_of (λ (p : List ℕ). is_name p ≡ true) r.pools.items h.1.1.1.0;
  pool = all_of IsPoolNumbered r.pool.items h.1.1.1.1.0;
  tree = all_of IsTreeNumbered r.tree.items h.1.1.1.1.1;
  parts = λ worker part e. part_well worker part (p worker part e);
  last = λ before part e. last part (last_at r.workers.items before part e);
  places = all_of IsPlaceWell r.places.items (each_weaker IsListFormed IsPlaceWell r.places.items list_well l.0);
  place_order = below_of (λ (x y : PlaceEnd). IsPlaceUpTo x.place y.place) r.places.items l.1.0;
  units = all_of (λ (u : UnitsEnd). 0 < length u.entries.items) r.units.items l.1.1.0;
  unit_order = below_of (λ (u v : UnitsEnd). IsPlaceUpTo (units_place u) (units_place v)) r.units.items l.1.1.1;
  maps = all_of (λ (m : MapEnd). IsBitWord m.bits) r.maps.items m.0;
  numbers = all_of (λ (n : ℕ). n < 2 ^ 32) r.lookups.items m.1.0;
  lookups = m.1.1.0;
  map_places = m.1.1.1 ∙ ap (bit_places r.nodes (length r.groups.items)) (sym (units_are (r.version == 1) ((r.ids + 63) / 64)));
  deferred = all_of IsAmountWell r.deferred.items t.0;
  deferred_order = below_of (λ (d e : PlaceAmount). IsPlaceBefore d.place e.place) r.deferred.items t.1.0;
  use_order = below_of IsUseBefore r.uses.items t.1.1.0;
  pool_deferred = all_of IsPoolAmountWell r.pool_deferred.items t.1.1.1.0;
  pool_order = below_of (λ (d e : PlaceAmount). IsPlaceBefore d.place e.place) r.pool_deferred.items t.1.1.1.1;
  totals = totals;
}
