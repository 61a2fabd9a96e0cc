-- SPDX-License-Identifier: GPL-2.0-only
-- The text of a report determines it.
use Rattle.shr_report.proofs.Common.{◌≡◌, ℕ, ◌+◌, ◌-◌, ◌<◌, true, List, [], ◌∷◌, ◌++◌, length, map, flat_map, refl, sym, ap, subst, ◌∙◌, append_assoc, arith, codes, AllByRecursion, AllZip, range_with_len, is_path, is_name, each_append, each_weaker, MapEnd, Report, line, numbered, numeral, numbered_group_line, numbered_cache_line, units_name_line, pool_entry_line, tree_line, worker_lines, place_lines, units_lines, bit_line, deferred_line, pool_deferred_line, use_line, lookups_line, end_lines, IsPoolAmountWell, IsPartWell, IsBitWord, map_units, bit_places, IsWellFormed, IsSameUnits, read_group, read_cache, read_tree, read_amount, read_pool_amount, read_bit, read_use, read_lookups, Totals, totals, read_total, read_version, read_size, IsOneReport}
use Rattle.shr_laws.specs.Text.{reply_count, walk_count, text}
use Rattle.shr_report.proofs.Printed.{one_line}
use Rattle.shr_report.proofs.LinesBack.{printed_group, printed_cache, printed_tree, IsPrintable, printed_bit, printed_deferred, printed_use, printed_lookups, printed_total, printed_version, printed_size}
use Rattle.shr_report.proofs.Sections.{kind, kind_group, kind_cache, kind_pool, kind_units_name, kind_tree, kind_bit, kind_deferred, kind_pool_deferred, kind_use, kind_lookups, kind_total, after_items, lines_once, lines_each, flat_once, flat_each, after_flat, all_both}
use Rattle.shr_report.proofs.PlainLinesBack.{printed_pool_deferred}
use Rattle.shr_report.proofs.NamesBack.{names_once}
use Rattle.shr_report.proofs.PlacesBack.{kind_place, places_once, kind_pool_end, ends_once}
use Rattle.shr_report.proofs.WorkersBack.{AreParts, parts_from, LastAnswers, workers_once, workers_late}

-- ---- the sections, each with what follows it

from_lookups : Report → List ℕ
from_lookups r = numbered lookups_line 0 r.lookups.items ++ end_lines r

from_uses : Report → List ℕ
from_uses r = flat_map use_line r.uses.items ++ from_lookups r

from_pool_words : Report → List ℕ
from_pool_words r = flat_map pool_deferred_line r.pool_deferred.items ++ from_uses r

from_deferred : Report → List ℕ
from_deferred r = flat_map deferred_line r.deferred.items ++ from_pool_words r

from_maps : Report → List ℕ
from_maps r = flat_map (bit_line r.version) r.maps.items ++ from_deferred r

from_units : Report → List ℕ
from_units r = flat_map units_lines r.units.items ++ from_maps r

from_places : Report → List ℕ
from_places r = flat_map place_lines r.places.items ++ from_units r

from_workers : Report → List ℕ
from_workers r = numbered worker_lines 0 r.workers.items ++ from_places r

from_tree : Report → List ℕ
from_tree r = numbered tree_line 0 r.tree.items ++ from_workers r

from_pool : Report → List ℕ
from_pool r = numbered pool_entry_line 0 r.pool.items ++ from_tree r

from_names : Report → List ℕ
from_names r = numbered units_name_line 0 r.pools.items ++ from_pool r

from_caches : Report → List ℕ
from_caches r = numbered numbered_cache_line 0 r.caches.items ++ from_names r

from_groups : Report → List ℕ
from_groups r = numbered numbered_group_line 0 r.groups.items ++ from_caches r

total_words : Report → List (List ℕ)
total_words r = numeral r.freed ∷ numeral r.listed ∷ numeral (reply_count r) ∷ numeral (walk_count r) ∷ []

size_words : Report → List (List ℕ)
size_words r = numeral r.nodes ∷ numeral r.ids ∷ []

text_parts : (r : Report) → text r ≡ line (codes "report") (numeral r.version ∷ []) ++ (line (codes "size") (size_words r) ++ from_groups r)
unfolding text from_lookups from_uses from_pool_words from_deferred from_maps from_units from_places from_workers from_tree from_pool from_names from_caches from_groups size_words
text_parts r = regrouped (line (codes "report") (numeral r.version ∷ [])) (line (codes "size") (numeral r.nodes ∷ numeral r.ids ∷ [])) (numbered numbered_group_line 0 r.groups.items) (numbered numbered_cache_line 0 r.caches.items)
    (numbered units_name_line 0 r.pools.items) (numbered pool_entry_line 0 r.pool.items) (numbered tree_line 0 r.tree.items) (numbered worker_lines 0 r.workers.items) (flat_map place_lines r.places.items) (flat_map units_lines r.units.items)
    (flat_map (bit_line r.version) r.maps.items) (flat_map deferred_line r.deferred.items) (flat_map pool_deferred_line r.pool_deferred.items) (flat_map use_line r.uses.items) (numbered lookups_line 0 r.lookups.items) (end_lines r)
  where
    regrouped : (a b c d n e f g h u i j w k l m : List ℕ) → (a ++ b ++ c ++ d ++ n) ++ (e ++ f) ++ g ++ h ++ u ++ (i ++ j ++ w ++ k ++ l) ++ m ≡ a ++ (b ++ (c ++ (d ++ (n ++ (e ++ (f ++ (g ++ (h ++ (u ++ (i ++ (j ++ (w ++ (k ++ (l ++ m))))))))))))))
    regrouped a b c d n e f g h u i j w k l m = simp append_assoc

-- what stands behind a section has a later kind
kind_end : (r : Report) → kind (end_lines r) ≡ 35
kind_end r = kind_total (numeral r.freed ∷ numeral r.listed ∷ numeral (reply_count r) ∷ numeral (walk_count r) ∷ []) (numeral r.added) (line (codes "end") [])

is_late : (a k n : ℕ) → k ≡ n → a < n → a < k
is_late a k n e h = rw e h

late_lookups : (r : Report) → 33 < kind (from_lookups r)
unfolding from_lookups
late_lookups r = after_items lookups_line (λ k. 33 < k) (λ n x more. is_late 33 (kind (lookups_line n x ++ more)) 34 (kind_lookups n x more) (omega arith)) 0 r.lookups.items (end_lines r) (is_late 33 (kind (end_lines r)) 35 (kind_end r) (omega arith))

late_uses : (r : Report) → 32 < kind (from_uses r)
unfolding from_uses
late_uses r = after_flat use_line (λ k. 32 < k) (λ x more. is_late 32 (kind (use_line x ++ more)) 33 (kind_use x more) (omega arith)) r.uses.items (from_lookups r) (let h = late_lookups r in omega arith)

late_pool_words : (r : Report) → 31 < kind (from_pool_words r)
unfolding from_pool_words
late_pool_words r = after_flat pool_deferred_line (λ k. 31 < k) (λ x more. is_late 31 (kind (pool_deferred_line x ++ more)) 32 (kind_pool_deferred x more) (omega arith)) r.pool_deferred.items (from_uses r) (let h = late_uses r in omega arith)

late_deferred : (r : Report) → 30 < kind (from_deferred r)
unfolding from_deferred
late_deferred r = after_flat deferred_line (λ k. 30 < k) (λ x more. is_late 30 (kind (deferred_line x ++ more)) 31 (kind_deferred x more) (omega arith)) r.deferred.items (from_pool_words r) (let h = late_pool_words r in omega arith)

late_maps : (r : Report) → 29 < kind (from_maps r)
unfolding from_maps
late_maps r = after_flat (bit_line r.version) (λ k. 29 < k) (λ x more. is_late 29 (kind (bit_line r.version x ++ more)) 30 (kind_bit r.version x more) (omega arith)) r.maps.items (from_deferred r) (let h = late_deferred r in omega arith)

late_units : (r : Report) → 25 < kind (from_units r)
unfolding from_units
late_units r = after_flat units_lines (λ k. 25 < k) (λ x more. is_late 25 (kind (units_lines x ++ more)) 26 (kind_pool_end x more) (omega arith)) r.units.items (from_maps r) (let h = late_maps r in omega arith)

late_places : (r : Report) → 14 < kind (from_places r)
unfolding from_places
late_places r = after_flat place_lines (λ k. 14 < k) (λ x more. is_late 14 (kind (place_lines x ++ more)) 15 (kind_place x more) (omega arith)) r.places.items (from_units r) (let h = late_units r in omega arith)

-- ---- the units of bit words

all_flat : {X Y : Type 0} (P : Y → Type 0) (f : X → List Y) (xs : List X) → ((x : X) → AllByRecursion P (f x)) → AllByRecursion P (flat_map f xs)
all_flat P f [] each = tt
all_flat P f (x ∷ xs) each = each_append P (f x) (flat_map f xs) (each x) (all_flat P f xs each)

all_mapped : {X Y : Type 0} (P : Y → Type 0) (f : X → Y) (xs : List X) → ((x : X) → P (f x)) → AllByRecursion P (map f xs)
all_mapped P f [] each = tt
all_mapped P f (x ∷ xs) each = (each x, all_mapped P f xs each)

all_unmapped : {X Y : Type 0} (P : Y → Type 0) (f : X → Y) (xs : List X) → AllByRecursion P (map f xs) → AllByRecursion (λ x. P (f x)) xs
all_unmapped P f [] h = tt
all_unmapped P f (x ∷ xs) h = (h.0, all_unmapped P f xs h.1)

-- where a bit word stands
abbrev Where : Type 0
Where = ℕ × ℕ × ℕ

-- those of the first unit are of unit 0
first_unit : (nodes groups : ℕ) → AllByRecursion (λ (p : Where). p.2 ≡ 0) (bit_places nodes groups (0 ∷ []))
first_unit nodes groups = all_flat (λ (p : Where). p.2 ≡ 0) (λ node. flat_map (λ group. map (λ unit. (node, group, unit)) (0 ∷ [])) (range_with_len 1 (groups - 1))) (range_with_len 0 nodes)
    (λ node. all_flat (λ (p : Where). p.2 ≡ 0) (λ group. map (λ unit. (node, group, unit)) (0 ∷ [])) (range_with_len 1 (groups - 1)) (λ group. (refl, tt)))

units_one : (r : Report) → r.version ≡ 1 → map_units r ≡ 0 ∷ []
units_one r e = rw e refl

-- a report of version 1 has bit words of unit 0 alone
unit_zero : (r : Report) → IsWellFormed r → r.version ≡ 1 → AllByRecursion (λ (m : MapEnd). m.unit ≡ 0) r.maps.items
unit_zero r w e = all_unmapped (λ (p : Where). p.2 ≡ 0) (λ (m : MapEnd). (m.node, m.group, m.unit)) r.maps.items
    (subst (AllByRecursion (λ (p : Where). p.2 ≡ 0)) (sym (w.map_places ∙ ap (bit_places r.nodes (length r.groups.items)) (units_one r e))) (first_unit r.nodes (length r.groups.items)))

-- so the lines of its bit words say what they are
pub printable : (r : Report) → IsWellFormed r → AllByRecursion (IsPrintable r.version) r.maps.items
printable r w = each_weaker (λ (m : MapEnd). IsBitWord m.bits × (r.version ≡ 1 → m.unit ≡ 0)) (IsPrintable r.version) (λ m h. record { bits = h.0; unit = h.1 }) r.maps.items
    (all_both (λ (m : MapEnd). IsBitWord m.bits) (λ (m : MapEnd). r.version ≡ 1 → m.unit ≡ 0) r.maps.items w.maps (all_under (λ (m : MapEnd). m.unit ≡ 0) (r.version ≡ 1) r.maps.items (unit_zero r w)))
  where
    all_under : {X : Type 0} (P : X → Type 0) (A : Type 0) (xs : List X) → (A → AllByRecursion P xs) → AllByRecursion (λ x. A → P x) xs
    all_under P A [] h = tt
    all_under P A (x ∷ xs) h = ((λ a. (h a).0), all_under P A xs (λ a. (h a).1))

-- what is known of a report
record Known (r : Report) : Type 0 where
  well : IsWellFormed r
  parts : AreParts 0 r.workers.items
  last : LastAnswers r.workers.items
  words : AllByRecursion (IsPrintable r.version) r.maps.items

known : (r : Report) → IsWellFormed r → Known r
known r w = record {
  well = w;
  parts = parts_from 0 r.workers.items (λ i p e. subst (λ (j : ℕ). IsPartWell j p) (from_zero i) (w.parts i p e));
  last = w.last;
  words = printable r w;
}
  where
    from_zero : (i : ℕ) → i ≡ 0 + i
    from_zero i = omega arith

late_workers : (r : Report) → Known r → 5 < kind (from_workers r)
unfolding from_workers
late_workers r k = workers_late r.workers.items (from_places r) k.parts k.last (late_places r)

late_tree : (r : Report) → Known r → 4 < kind (from_tree r)
unfolding from_tree
late_tree r k = after_items tree_line (λ k. 4 < k) (λ n x more. is_late 4 (kind (tree_line n x ++ more)) 5 (kind_tree n x more) (omega arith)) 0 r.tree.items (from_workers r) (let h = late_workers r k in omega arith)

late_pool : (r : Report) → Known r → 3 < kind (from_pool r)
unfolding from_pool
late_pool r k = after_items pool_entry_line (λ k. 3 < k) (λ n x more. is_late 3 (kind (pool_entry_line n x ++ more)) 4 (kind_pool n x more) (omega arith)) 0 r.pool.items (from_tree r) (let h = late_tree r k in omega arith)

late_names : (r : Report) → Known r → 3 < kind (from_names r)
unfolding from_names
late_names r k = after_items units_name_line (λ k. 3 < k) (λ n x more. is_late 3 (kind (units_name_line n x ++ more)) 4 (kind_units_name n x more) (omega arith)) 0 r.pools.items (from_pool r) (let h = late_pool r k in omega arith)

late_caches : (r : Report) → Known r → 2 < kind (from_caches r)
unfolding from_caches
late_caches r k = after_items numbered_cache_line (λ k. 2 < k) (λ n x more. is_late 2 (kind (numbered_cache_line n x ++ more)) 3 (kind_cache n x more) (omega arith)) 0 r.caches.items (from_names r) (let h = late_names r k in omega arith)

differs_from : (k n : ℕ) → n < k → k ≡ n → ⊥
differs_from k n h e = absurd (omega arith)

-- the end determines the totals
totals_once : (r s : Report) → end_lines r ≡ end_lines s → totals r.added r.freed r.listed ≡ totals s.added s.freed s.listed
totals_once r s e =
    (one_line read_total (totals r.added r.freed r.listed) (totals s.added s.freed s.listed)
    (line (codes "total") (numeral r.added ∷ numeral r.freed ∷ numeral r.listed ∷ numeral (reply_count r) ∷ numeral (walk_count r) ∷ []))
    (line (codes "total") (numeral s.added ∷ numeral s.freed ∷ numeral s.listed ∷ numeral (reply_count s) ∷ numeral (walk_count s) ∷ []))
    (line (codes "end") []) (line (codes "end") [])
    (printed_total r.added r.freed r.listed (reply_count r) (walk_count r))
    (printed_total s.added s.freed s.listed (reply_count s) (walk_count s)) e).0

-- the sections behind the lists
record Tables (r s : Report) : Type 0 where
  units : AllZip IsSameUnits r.units.items s.units.items
  maps : r.maps.items ≡ s.maps.items
  deferred : r.deferred.items ≡ s.deferred.items
  pool_deferred : r.pool_deferred.items ≡ s.pool_deferred.items
  uses : r.uses.items ≡ s.uses.items
  lookups : r.lookups.items ≡ s.lookups.items
  ends : totals r.added r.freed r.listed ≡ totals s.added s.freed s.listed

tables_once : (r s : Report) → Known r → Known s → r.version ≡ s.version → from_units r ≡ from_units s → Tables r s
unfolding from_units from_maps from_deferred from_pool_words from_uses from_lookups
tables_once r s j k same e =
    let units = ends_once r.units.items s.units.items (from_maps r) (from_maps s) (late_maps r) (late_maps s) e in
    let maps = flat_once (read_bit r.version) (bit_line r.version) (IsPrintable r.version) (λ n. n ≡ 30) (kind_bit r.version) (λ m h. printed_bit r.version m j.well.version h) r.maps.items s.maps.items (from_deferred r) (from_deferred s)
    j.words (subst (λ v. AllByRecursion (IsPrintable v) s.maps.items) (sym same) k.words)
    (differs_from (kind (from_deferred r)) 30 (late_deferred r)) (differs_from (kind (from_deferred s)) 30 (late_deferred s)) (units.1 ∙ ap (λ v. flat_map (bit_line v) s.maps.items ++ from_deferred s) (sym same)) in
    let deferred = flat_each read_amount deferred_line (λ n. n ≡ 31) kind_deferred printed_deferred r.deferred.items s.deferred.items (from_pool_words r) (from_pool_words s)
    (differs_from (kind (from_pool_words r)) 31 (late_pool_words r)) (differs_from (kind (from_pool_words s)) 31 (late_pool_words s)) maps.1 in
    let pool_words = flat_once read_pool_amount pool_deferred_line IsPoolAmountWell (λ n. n ≡ 32) kind_pool_deferred (λ d h. printed_pool_deferred d h.group) r.pool_deferred.items s.pool_deferred.items (from_uses r) (from_uses s)
    j.well.pool_deferred k.well.pool_deferred (differs_from (kind (from_uses r)) 32 (late_uses r)) (differs_from (kind (from_uses s)) 32 (late_uses s)) deferred.1 in
    let uses = flat_each read_use use_line (λ n. n ≡ 33) kind_use printed_use r.uses.items s.uses.items (from_lookups r) (from_lookups s)
    (differs_from (kind (from_lookups r)) 33 (late_lookups r)) (differs_from (kind (from_lookups s)) 33 (late_lookups s)) pool_words.1 in
    let lookups = lines_each read_lookups lookups_line (λ n. n ≡ 34) kind_lookups printed_lookups 0 0 r.lookups.items s.lookups.items (end_lines r) (end_lines s)
    (differs_from (kind (end_lines r)) 34 (is_late 34 (kind (end_lines r)) 35 (kind_end r) (omega arith))) (differs_from (kind (end_lines s)) 34 (is_late 34 (kind (end_lines s)) 35 (kind_end s) (omega arith))) uses.1 in
    record { units = units.0; maps = maps.0; deferred = deferred.0; pool_deferred = pool_words.0; uses = uses.0; lookups = lookups.0; ends = totals_once r s lookups.1 }

-- the sections before the workers
record Heads (r s : Report) : Type 0 where
  sizes : totals r.nodes r.ids 0 ≡ totals s.nodes s.ids 0
  groups : r.groups.items ≡ s.groups.items
  caches : r.caches.items ≡ s.caches.items
  pools : r.pools.items ≡ s.pools.items
  pool : r.pool.items ≡ s.pool.items
  tree : r.tree.items ≡ s.tree.items
  later : from_workers r ≡ from_workers s

heads_once : (r s : Report) → Known r → Known s → line (codes "size") (size_words r) ++ from_groups r ≡ line (codes "size") (size_words s) ++ from_groups s → Heads r s
unfolding size_words from_groups from_caches from_names from_pool from_tree
heads_once r s j k e =
    let sizes = one_line read_size (totals r.nodes r.ids 0) (totals s.nodes s.ids 0) (line (codes "size") (numeral r.nodes ∷ numeral r.ids ∷ [])) (line (codes "size") (numeral s.nodes ∷ numeral s.ids ∷ [])) (from_groups r) (from_groups s)
    (printed_size r.nodes r.ids) (printed_size s.nodes s.ids) e in
    let groups = lines_once read_group numbered_group_line (λ (w : List ℕ). is_path w ≡ true) (λ n. n ≡ 2) kind_group printed_group 0 0 r.groups.items s.groups.items (from_caches r) (from_caches s) j.well.paths k.well.paths
    (differs_from (kind (from_caches r)) 2 (late_caches r j)) (differs_from (kind (from_caches s)) 2 (late_caches s k)) sizes.1 in
    let caches = lines_once read_cache numbered_cache_line (λ (w : List ℕ). is_name w ≡ true) (λ n. n ≡ 3) kind_cache printed_cache 0 0 r.caches.items s.caches.items (from_names r) (from_names s) j.well.names k.well.names
    (differs_from (kind (from_names r)) 3 (late_names r j)) (differs_from (kind (from_names s)) 3 (late_names s k)) groups.1 in
    let pools = names_once 0 r.pools.items s.pools.items r.pool.items s.pool.items (from_tree r) (from_tree s) j.well.pools k.well.pools
    (differs_from (kind (from_tree r)) 4 (late_tree r j)) (differs_from (kind (from_tree s)) 4 (late_tree s k)) caches.1 in
    let tree = lines_each read_tree tree_line (λ n. n ≡ 5) kind_tree printed_tree 0 0 r.tree.items s.tree.items (from_workers r) (from_workers s)
    (differs_from (kind (from_workers r)) 5 (late_workers r j)) (differs_from (kind (from_workers s)) 5 (late_workers s k)) pools.others in
    record { sizes = sizes.0; groups = groups.0; caches = caches.0; pools = pools.names; pool = pools.entries; tree = tree.0; later = tree.1 }

-- what was written determines the report
pub once : (r s : Report) → IsWellFormed r → IsWellFormed s → text r ≡ text s → IsOneReport r s
unfolding from_workers from_places
once r s w v e =
    let j = known r w in
    let k = known s v in
    let version = one_line read_version r.version s.version (line (codes "report") (numeral r.version ∷ [])) (line (codes "report") (numeral s.version ∷ [])) (line (codes "size") (size_words r) ++ from_groups r) (line (codes "size") (size_words s) ++ from_groups s)
    (printed_version r.version) (printed_version s.version) (sym (text_parts r) ∙ e ∙ text_parts s) in
    let heads = heads_once r s j k version.1 in
    let workers = workers_once 0 r.workers.items s.workers.items (from_places r) (from_places s) j.parts k.parts j.last k.last (late_places r) (late_places s) heads.later in
    let places = places_once r.places.items s.places.items (from_units r) (from_units s) w.places v.places (late_units r) (late_units s) workers.1 in
    let tables = tables_once r s j k version.0 places.1 in
    record {
      version = version.0;
      nodes = ap (λ (t : Totals). t.added) heads.sizes;
      ids = ap (λ (t : Totals). t.freed) heads.sizes;
      groups = heads.groups;
      caches = heads.caches;
      pools = heads.pools;
      pool = heads.pool;
      tree = heads.tree;
      workers = workers.0;
      places = places.0;
      units = tables.units;
      maps = tables.maps;
      deferred = tables.deferred;
      pool_deferred = tables.pool_deferred;
      uses = tables.uses;
      lookups = tables.lookups;
      added = ap (λ (t : Totals). t.added) tables.ends;
      freed = ap (λ (t : Totals). t.freed) tables.ends;
      listed = ap (λ (t : Totals). t.listed) tables.ends;
    }
