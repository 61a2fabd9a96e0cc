-- SPDX-License-Identifier: GPL-2.0-only
-- The report of a run is well formed.
use Rattle.shr_assemble.proofs.Common.{◌≡◌, ℕ, suc, ◌+◌, ◌<◌, ◌≤◌, ◌^◌, ◌⊎◌, inl, inr, ⊎_elim, Bool, true, false, List, [], ◌∷◌, ◌++◌, length, length-append, map, take, get_or, sym, refl, ap, subst, ◌∙◌, arith, eq-eqb, slice_get, Some, filter, codes, All, if◌then◌else◌, ◌==◌, AllByRecursion, AllAdjacentBelow, range_with_len, length-map, length-take-le, slice_get-get_or, MapEnd, PlaceAmount, PlaceEnd, WorkerPart, UseStep, CacheDecl, GroupDecl, PoolDecl, Script, place_number, last_number, nodes_below, IsWithin, content_of, Report, uses_at, IsPlaceBefore, map_units, bit_places, IsAmountWell, IsBitWord, HasWords, IsSpelled, IsWellFormed, IsPoolAmountWell, StandsBefore, IsLastAnswered, Step, IsRun, by_slices, get_or-map, length-take, IsPoolWithin, IsUseBefore, IsPlaceWell, is_name, script_hierarchy, entered, unit_order}
use Rattle.shr_model.specs.Paths.{is_path}
use Rattle.shr_laws.proofs.PlaceOrder.{IsLow, before_by_number}
use Rattle.shr_lawful.proofs.Listed.{all_slice, PairsRec, history_rises}
use Rattle.shr_assemble.proofs.Printing.{get_taken}
use Rattle.shr_assemble.proofs.WellJournals.{pool_numbered, tree_numbered}
use Rattle.shr_assemble.proofs.WellMaps.{where_is, table_is}
use Rattle.shr_assemble.proofs.WellPairs.{adjacent}
use Rattle.shr_assemble.proofs.WellParts.{part_well}
use Rattle.shr_assemble.proofs.WellWords.{entries_spelled, left_spelled}

-- ---- operations, by group and number

abbrev Less : UseStep → UseStep → Type 0
Less o p = o.operation < p.operation

abbrev of_group : ℕ → List UseStep → List UseStep
of_group g uses = filter (λ (o : UseStep). o.group == g) uses

heads : (o : UseStep) (ps : List UseStep) → AllByRecursion (StandsBefore o) ps → AllByRecursion (Less o) (of_group o.group ps) → AllByRecursion (IsUseBefore o) ps
heads o [] h k = tt
heads o (p ∷ ps) h k = one (p.group == o.group) refl k (heads o ps h.1) where
  one : (b : Bool) → (p.group == o.group) ≡ b → AllByRecursion (Less o) (if b then (p ∷ of_group o.group ps) else of_group o.group ps) → (AllByRecursion (Less o) (of_group o.group ps) → AllByRecursion (IsUseBefore o) ps) → AllByRecursion (IsUseBefore o) (p ∷ ps)
  one true e k later = (⊎_elim (λ lt. inl lt) (λ same. inr (same.0, k.0)) h.0, later k.1)
  one false e k later = (⊎_elim (λ lt. inl lt) (λ same. absurd (let t : (p.group == o.group) ≡ true = eq-eqb p.group o.group (sym same.0) in let f : true ≡ false = sym t ∙ e in cc)) h.0, later k)

behind : (g : ℕ) (o : UseStep) (os : List UseStep) (b : Bool) → PairsRec Less (if b then (o ∷ of_group g os) else of_group g os) → PairsRec Less (of_group g os)
behind g o os true h = h.1
behind g o os false h = h

own_group : (o : UseStep) (os : List UseStep) → PairsRec Less (of_group o.group (o ∷ os)) → AllByRecursion (Less o) (of_group o.group os)
own_group o os h = (subst (λ (b : Bool). PairsRec Less (if b then (o ∷ of_group o.group os) else of_group o.group os)) (eq-eqb o.group o.group refl) h).0

stands : (uses : List UseStep) → PairsRec StandsBefore uses → ((g : ℕ) → PairsRec Less (of_group g uses)) → PairsRec IsUseBefore uses
stands [] h k = tt
stands (o ∷ os) h k = (heads o os h.0 (own_group o os (k o.group)), stands os h.1 (λ g. behind g o os (o.group == g) (k g)))

-- ---- the whole report

all_mapped : {A B : Type 0} (P : B → Type 0) (f : A → B) (xs : List A) → AllByRecursion (λ x. P (f x)) xs → AllByRecursion P (map f xs)
all_mapped P f [] h = tt
all_mapped P f (x ∷ xs) h = (h.0, all_mapped P f xs h.1)

root_is_path : is_path (codes "/") ≡ true
unfolding is_path
root_is_path = refl

-- the last part that is printed has an answer
last_answered : (all printed before : List WorkerPart) (many : ℕ) (part : WorkerPart) → IsLastAnswered all many → printed ≡ take many all → printed ≡ before ++ part ∷ [] → 0 < length part.answers.items
last_answered all printed before many part last front is =
    let long : many ≡ suc (length before) = (let a = length-take-le many all last.within in let b = ap (λ (l : List WorkerPart). length l) (sym front ∙ is) in let c = length-append before (part ∷ []) in omega (arith, a, b, c)) in
    last.answered (length before) part long (sym (get_taken all many (length before) (omega (arith, long))) ∙ (ap (λ (l : List WorkerPart). slice_get l (length before)) (sym front ∙ is) ∙ at_end before part)) where
      at_end : (xs : List WorkerPart) (y : WorkerPart) → slice_get (xs ++ y ∷ []) (length xs) ≡ Some y
      at_end [] y = refl
      at_end (x ∷ xs) y = at_end xs y

-- what the ends of the tables and the workers' logs say of a report, beside that it is of a run
pub record IsLaidOut (s : Script) (r : Report) : Type 0 where
  pub version : (r.version ≡ 1) ⊎ (r.version ≡ 2)
  pub sorted : PairsRec StandsBefore r.uses.items
  -- how many units are printed
  pub units : ℕ
  pub units_are : range_with_len 0 units ≡ map_units r
  pub bits : ℕ → ℕ
  pub maps : r.maps.items ≡ nodes_below units (length r.groups.items) r.nodes bits
  pub words : All (λ (m : MapEnd). m.bits < 2 ^ 64) r.maps.items
  pub all : List WorkerPart
  pub many : ℕ
  pub last : IsLastAnswered all many
  pub front : r.workers.items ≡ take many all
  pub few : length all ≤ 64
  pub deferred : AllAdjacentBelow (λ (d e : PlaceAmount). IsPlaceBefore d.place e.place) r.deferred.items (length r.deferred.items)
  pub amounts : AllByRecursion IsAmountWell r.deferred.items
  pub numbers : AllByRecursion (λ (n : ℕ). n < 2 ^ 32) r.lookups.items
  pub last_numbers : (id : ℕ) → id < s.ids → last_number id r.pool.items < 2 ^ 32
  pub totals : IsBitWord r.added × IsBitWord r.freed × IsBitWord r.listed
  pub pool_amounts : AllByRecursion IsPoolAmountWell r.pool_deferred.items
  pub pool_order : AllAdjacentBelow (λ (d e : PlaceAmount). IsPlaceBefore d.place e.place) r.pool_deferred.items (length r.pool_deferred.items)

module _ (s : Script) (r : Report) (workers : List (List Step)) (run : IsRun s r workers) (within : IsWithin (content_of s)) (laid : IsLaidOut s r) where
  named : (ds : List PoolDecl) → AllByRecursion IsPoolWithin ds → AllByRecursion (λ (p : PoolDecl). is_name p.name ≡ true) ds
  named [] h = tt
  named (d ∷ ds) h = (h.0.name, named ds h.1)

  place_well : (n : ℕ) (end : PlaceEnd) → slice_get r.places.items n ≡ Some end → IsPlaceWell end
  place_well n end at = let is = run.journals.printed n end at in record {
    numbers = let id = is.there.id in let node = is.there.node in let group = is.there.group in let nodes = run.sized.nodes in let ids = run.sized.ids in let groups = run.sized.groups in
        record { id = omega (arith, id, ids); node = omega (arith, node, nodes); group = omega (arith, group, groups) };
    entered = is.entered;
    entries = subst (AllByRecursion HasWords) (sym is.entries) (entries_spelled s r workers run within end.place);
    items = subst (AllByRecursion IsSpelled) (sym is.items) (left_spelled s r workers run within end.place);
  }

  -- the places of two neighbours, by their numbers
  place_order : AllAdjacentBelow (λ (d e : PlaceEnd). IsPlaceBefore d.place e.place) r.places.items (length r.places.items)
  place_order k d lt =
      let low = run.journals.order k (place_number d.place) (let same = length-map r.places.items (λ (end : PlaceEnd). place_number end.place) in omega (arith, same, lt)) in
      let e = get_or-map (λ (end : PlaceEnd). place_number end.place) r.places.items k d (place_number d.place) (omega (arith, lt)) in let f = get_or-map (λ (end : PlaceEnd). place_number end.place) r.places.items (k + 1) d (place_number d.place) lt in
      before_by_number (get_or r.places.items k d).place (get_or r.places.items (k + 1) d).place (bounds k d (omega (arith, lt))) (bounds (k + 1) d lt) (omega (arith, low, e, f)) where
        bounds : (n : ℕ) (d : PlaceEnd) → n < length r.places.items → IsLow (get_or r.places.items n d).place
        bounds n d low = let is = run.journals.printed n (get_or r.places.items n d) (slice_get-get_or r.places.items n d low) in let node = is.there.node in let group = is.there.group in let nodes = run.sized.nodes in let groups = run.sized.groups in
            record { node = omega (arith, node, nodes); group = omega (arith, group, groups) }

  pub well_formed : IsWellFormed r
  well_formed = record {
    version = laid.version;
    sizes = let nodes = run.nodes in let ids = run.ids in let few_nodes = run.sized.nodes in let few_ids = run.sized.ids in (omega (arith, nodes, few_nodes), omega (arith, ids, few_ids));
    paths = subst (AllByRecursion (λ (path : List ℕ). is_path path ≡ true)) (sym run.paths) (root_is_path, all_mapped (λ (path : List ℕ). is_path path ≡ true) (λ (g : GroupDecl). g.path) s.groups.items within.paths);
    names = subst (AllByRecursion (λ (name : List ℕ). is_name name ≡ true)) (sym run.names) (all_mapped (λ (name : List ℕ). is_name name ≡ true) (λ (c : CacheDecl). c.name) s.caches.items within.names);
    pool = pool_numbered s.ids (length s.caches.items) r.pool.items run.pool.journal run.sized.ids within.caches laid.last_numbers;
    tree = tree_numbered (script_hierarchy s) r.tree.items run.uses.tree run.sized.groups;
    few_parts = let same = ap (λ (ps : List WorkerPart). length ps) laid.front in let few = laid.few in let most = length-take laid.many laid.all in omega (arith, same, few, most);
    parts = λ worker part at. part_well s r workers run within worker part at;
    last = λ before part is. last_answered laid.all r.workers.items before laid.many part laid.last laid.front is;
    places = by_slices IsPlaceWell r.places.items place_well;
    place_order = λ k d lt. inl (place_order k d lt);
    maps = by_slices (λ (m : MapEnd). IsBitWord m.bits) r.maps.items (λ n m at. all_slice (λ (z : MapEnd). z.bits < 2 ^ 64) r.maps.items n m laid.words at);
    map_places = ap (map where_is) laid.maps ∙ (table_is laid.units (length r.groups.items) r.nodes laid.bits ∙ ap (bit_places r.nodes (length r.groups.items)) laid.units_are);
    deferred = laid.amounts;
    deferred_order = laid.deferred;
    use_order = adjacent IsUseBefore r.uses.items (stands r.uses.items laid.sorted (λ g. history_rises g (uses_at r g) (run.uses.histories g)));
    lookups = run.pool.printed ∙ sym run.ids;
    numbers = laid.numbers;
    totals = laid.totals;
    pools = subst (AllByRecursion (λ (name : List ℕ). is_name name ≡ true)) (sym run.pools) (all_mapped (λ (name : List ℕ). is_name name ≡ true) (λ (p : PoolDecl). p.name) s.pools.items (named s.pools.items within.each_pool));
    units = entered s r run.plain run.units;
    unit_order = unit_order s r run.plain run.units;
    pool_deferred = laid.pool_amounts;
    pool_order = laid.pool_order;
  }
