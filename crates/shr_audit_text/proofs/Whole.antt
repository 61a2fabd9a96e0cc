-- SPDX-License-Identifier: GPL-2.0-only
-- The lines of a report's text are read as that report.
use Rattle.shr_audit_text.proofs.Common.{◌≡◌, ℕ, ◌+◌, ◌^◌, List, [], ◌∷◌, ◌++◌, length, flat_map, refl, sym, subst, ◌∙◌, append_assoc, ◌≤◌, append-nil, codes, AllByRecursion, WorkerPart, PlaceEnd, Report, line, numbered, numeral, numbered_group_line, numbered_cache_line, units_name_line, pool_entry_line, tree_line, worker_lines, place_lines, units_lines, bit_line, deferred_line, pool_deferred_line, use_line, lookups_line, totals, IsPlaceWell, IsPartWell, IsPartNumbered, IsListNumbered, IsMapNumbered, AreUnitsNumbered, IsAmountNumbered, IsPrintable, all_both, nothing_read, IsTightPart, IsTightList, AreTightUnits, IsTightReport, PlaceAmount, UnitsEnd, IsWellFormed, IsPoolAmountWell, HasNumbers}
use Rattle.shr_model.specs.Pieces.{cut, pieces}
use Rattle.shr_laws.specs.Text.{text, end_lines, reply_count, walk_count}
use Rattle.shr_report.proofs.Peel.{is_plain_word}
use Rattle.shr_report.proofs.WorkersBack.{AreParts, parts_from}
use Rattle.shr_report.proofs.ReportBack.{printable}
use Rattle.shr_audit_text.specs.declared.said.Said.TheVariants as said
use Rattle.shr_audit_text.specs.declared.kinds.Kind.TheVariants as kind
use Rattle.shr_audit_text.specs.declared.kinds.PlainKind.TheVariants as plain
use Rattle.shr_audit_text.specs.Said.{plain_kind_of}
use Rattle.shr_audit_text.specs.Reading.{Reads, IsReportOf}
use Rattle.shr_audit_text.proofs.Leads.{Leads, leads_then, leads_line}
use Rattle.shr_audit_text.proofs.Flat.{Head, Tail, report_of, head, tail, no_tail, lead_version, lead_size, lead_groups, lead_caches, lead_pool, lead_tree, lead_maps, lead_deferred, lead_uses, lead_lookups, lead_totals}
use Rattle.shr_audit_text.proofs.Lasts.{tight_is}
use Rattle.shr_audit_text.proofs.Flat.{IsPoolWord, lead_pool_words, lead_names}
use Rattle.shr_audit_text.proofs.ListsLead.{IsListFit, lead_lists, IsUnitsFit, lead_units}
use Rattle.shr_audit_text.proofs.WorkersLead.{IsPartFit, lead_workers}
use Rattle.shr_model.proofs.Numbers.{zero_plus}

all_parts_fit : (ps : List WorkerPart) → AllByRecursion IsPartNumbered ps → AllByRecursion IsTightPart ps → AllByRecursion IsPartFit ps
all_parts_fit [] h k = tt
all_parts_fit (p ∷ ps) h k = (record { numbers = h.0; tight = k.0 }, all_parts_fit ps h.1 k.1)

all_lists_fit : (ends : List PlaceEnd) → AllByRecursion IsPlaceWell ends → AllByRecursion IsListNumbered ends → AllByRecursion IsTightList ends → AllByRecursion IsListFit ends
all_lists_fit [] h k t = tt
all_lists_fit (end ∷ ends) h k t = (record { well = h.0; numbers = k.0; tight = t.0 }, all_lists_fit ends h.1 k.1 t.1)

all_units_fit : (us : List UnitsEnd) → AllByRecursion AreUnitsNumbered us → AllByRecursion AreTightUnits us → AllByRecursion IsUnitsFit us
all_units_fit [] h k = tt
all_units_fit (u ∷ us) h k = (record { numbers = h.0; tight = k.0 }, all_units_fit us h.1 k.1)

all_words : (ds : List PlaceAmount) → AllByRecursion IsPoolAmountWell ds → AllByRecursion IsAmountNumbered ds → AllByRecursion IsPoolWord ds
all_words [] h k = tt
all_words (d ∷ ds) h k = ((h.0.group, k.0), all_words ds h.1 k.1)

head_in : Report → Head
head_in r = head r.version r.nodes r.ids r.groups.items r.caches.items r.pools.items r.pool.items r.tree.items

tail_in : Report → Tail
tail_in r = tail r.maps.items r.deferred.items r.pool_deferred.items r.uses.items r.lookups.items (totals r.added r.freed r.listed)

-- a report whose lists have no room to spare is that of its items
whole : (r : Report) → IsTightReport r → report_of (head_in r) r.workers.items r.places.items r.units.items (tail_in r) ≡ r
unfolding head_in tail_in
whole r t =
    rw (
      tight_is r.groups t.groups,
      tight_is r.caches t.caches,
      tight_is r.pools t.pools,
      tight_is r.pool t.pool,
      tight_is r.tree t.tree,
      tight_is r.workers t.workers,
      tight_is r.places t.places,
      tight_is r.units t.units,
      tight_is r.maps t.maps,
      tight_is r.deferred t.deferred,
      tight_is r.pool_deferred t.pool_deferred,
      tight_is r.uses t.uses,
      tight_is r.lookups t.lookups,
    ) refl

-- the last line
end_leads : (r : Report) → Leads (line (codes "end") []) r r
unfolding is_plain_word plain_kind_of
end_leads r = leads_line r (codes "end") [] said.End (kind.Plain plain.End) refl refl refl tt

abbrev words_of : Report → List (List ℕ)
words_of r = numeral r.added ∷ numeral r.freed ∷ numeral r.listed ∷ numeral (reply_count r) ∷ numeral (walk_count r) ∷ []

-- the text, part by part
text_in_parts : (r : Report) → text r ≡ line (codes "report") (numeral r.version ∷ []) ++ (line (codes "size") (numeral r.nodes ∷ numeral r.ids ∷ []) ++ (numbered numbered_group_line 0 r.groups.items ++ (numbered numbered_cache_line 0 r.caches.items ++ (numbered units_name_line 0 r.pools.items ++ (numbered pool_entry_line 0 r.pool.items
    ++ (numbered tree_line 0 r.tree.items ++ (numbered worker_lines 0 r.workers.items ++ (flat_map place_lines r.places.items ++ (flat_map units_lines r.units.items ++ (flat_map (bit_line r.version) r.maps.items ++ (flat_map deferred_line r.deferred.items ++ (flat_map pool_deferred_line r.pool_deferred.items ++ (flat_map use_line r.uses.items
    ++ (numbered lookups_line 0 r.lookups.items ++ (line (codes "total") (words_of r) ++ line (codes "end") [])))))))))))))))
unfolding text
text_in_parts r = regrouped (line (codes "report") (numeral r.version ∷ [])) (line (codes "size") (numeral r.nodes ∷ numeral r.ids ∷ [])) (numbered numbered_group_line 0 r.groups.items) (numbered numbered_cache_line 0 r.caches.items) (numbered units_name_line 0 r.pools.items)
    (numbered pool_entry_line 0 r.pool.items) (numbered tree_line 0 r.tree.items) (numbered worker_lines 0 r.workers.items) (flat_map place_lines r.places.items) (flat_map units_lines r.units.items)
    (flat_map (bit_line r.version) r.maps.items) (flat_map deferred_line r.deferred.items) (flat_map pool_deferred_line r.pool_deferred.items) (flat_map use_line r.uses.items) (numbered lookups_line 0 r.lookups.items) (end_lines r)
  where
    regrouped : (a b c d n e f g h u i j w k l m : List ℕ) → (a ++ b ++ c ++ d ++ n) ++ (e ++ f) ++ g ++ h ++ u ++ (i ++ j ++ w ++ k ++ l) ++ m ≡ a ++ (b ++ (c ++ (d ++ (n ++ (e ++ (f ++ (g ++ (h ++ (u ++ (i ++ (j ++ (w ++ (k ++ (l ++ m))))))))))))))
    regrouped a b c d n e f g h u i j w k l m = simp append_assoc

-- one after another
then : {a b : List ℕ} {x y z : Report} → Leads a x y → Leads b y z → Leads (a ++ b) x z
then {a} {b} {x} {y} {z} l k = leads_then a b x y z l k

-- the tables lead on
tail_leads : (r : Report) → IsWellFormed r → HasNumbers r → Leads (flat_map (bit_line r.version) r.maps.items ++ (flat_map deferred_line r.deferred.items ++ (flat_map pool_deferred_line r.pool_deferred.items ++ (flat_map use_line r.uses.items
    ++ (numbered lookups_line 0 r.lookups.items ++ (line (codes "total") (words_of r) ++ line (codes "end") [])))))) (report_of (head_in r) r.workers.items r.places.items r.units.items no_tail) (report_of (head_in r) r.workers.items r.places.items r.units.items (tail_in r))
unfolding head_in tail_in
tail_leads r w n =
    let h = head_in r in
    let ws = r.workers.items in
    let ps = r.places.items in
    let us = r.units.items in
    let m = r.maps.items in
    let d = r.deferred.items in
    let p = r.pool_deferred.items in
    let u = r.uses.items in
    let l = r.lookups.items in
    let bits = all_both (IsPrintable r.version) IsMapNumbered m (printable r w) n.maps in
    then (lead_maps h ws ps us m w.version bits) (then (lead_deferred h ws ps us m d n.deferred) (then (lead_pool_words h ws ps us m d p (all_words p w.pool_deferred n.pool_deferred)) (then (lead_uses h ws ps us m d p u n.uses)
    (then (lead_lookups h ws ps us m d p u l n.lookups) (then (lead_totals h ws ps us m d p u l r.added r.freed r.listed (reply_count r) (walk_count r) n.totals) (end_leads (report_of h ws ps us (tail_in r))))))))

-- the text of a report leads from nothing to it
text_leads : (r : Report) → IsWellFormed r → HasNumbers r → length r.workers.items ≤ 2 ^ 16 → IsTightReport r → Leads (text r) nothing_read r
unfolding head_in
text_leads r w n few t = subst (λ (s : Report). Leads (text r) nothing_read s) (whole r t) (subst (λ (bytes : List ℕ). Leads bytes nothing_read (report_of (head_in r) r.workers.items r.places.items r.units.items (tail_in r))) (sym (text_in_parts r)) all)
  where
    parts : AreParts 0 r.workers.items
    parts = parts_from 0 r.workers.items (λ i p e. subst (λ (j : ℕ). IsPartWell j p) (zero_plus i) (w.parts i p e))

    workers : Leads (numbered worker_lines 0 r.workers.items) (report_of (head_in r) [] [] [] no_tail) (report_of (head_in r) r.workers.items [] [] no_tail)
    workers = lead_workers (head_in r) r.workers.items few parts (all_parts_fit r.workers.items n.workers t.parts) w.last

    lists : Leads (flat_map place_lines r.places.items) (report_of (head_in r) r.workers.items [] [] no_tail) (report_of (head_in r) r.workers.items r.places.items [] no_tail)
    lists = lead_lists (head_in r) r.workers.items r.places.items (all_lists_fit r.places.items w.places n.places t.lists)

    units : Leads (flat_map units_lines r.units.items) (report_of (head_in r) r.workers.items r.places.items [] no_tail) (report_of (head_in r) r.workers.items r.places.items r.units.items no_tail)
    units = lead_units (head_in r) r.workers.items r.places.items r.units.items (all_units_fit r.units.items n.units t.journals)

    all : Leads (line (codes "report") (numeral r.version ∷ []) ++ (line (codes "size") (numeral r.nodes ∷ numeral r.ids ∷ []) ++ (numbered numbered_group_line 0 r.groups.items ++ (numbered numbered_cache_line 0 r.caches.items ++ (numbered units_name_line 0 r.pools.items ++ (numbered pool_entry_line 0 r.pool.items
        ++ (numbered tree_line 0 r.tree.items ++ (numbered worker_lines 0 r.workers.items ++ (flat_map place_lines r.places.items ++ (flat_map units_lines r.units.items ++ (flat_map (bit_line r.version) r.maps.items ++ (flat_map deferred_line r.deferred.items ++ (flat_map pool_deferred_line r.pool_deferred.items ++ (flat_map use_line r.uses.items
        ++ (numbered lookups_line 0 r.lookups.items ++ (line (codes "total") (words_of r) ++ line (codes "end") [])))))))))))))))) nothing_read (report_of (head_in r) r.workers.items r.places.items r.units.items (tail_in r))
    all = then (lead_version r.version n.version) (then (lead_size r.version r.nodes r.ids n.nodes n.ids) (then (lead_groups r.version r.nodes r.ids r.groups.items w.paths) (then (lead_caches r.version r.nodes r.ids r.groups.items r.caches.items w.names)
        (then (lead_names r.version r.nodes r.ids r.groups.items r.caches.items r.pools.items w.pools) (then (lead_pool r.version r.nodes r.ids r.groups.items r.caches.items r.pools.items r.pool.items n.pool)
        (then (lead_tree r.version r.nodes r.ids r.groups.items r.caches.items r.pools.items r.pool.items r.tree.items n.tree) (then workers (then lists (then units (tail_leads r w n))))))))))

-- the lines of a report's text make that report of nothing
pub reads_of : (bytes : List ℕ) (r : Report) → IsReportOf bytes r → Reads (pieces 10 bytes) nothing_read r
unfolding pieces cut Reads
reads_of bytes r is = subst (λ (b : List ℕ). Reads (pieces 10 b) nothing_read r) (append-nil (text r) ∙ is.text_is) ((text_leads r is.well_formed is.numbers is.well_formed.few_parts is.tight).lead [] r at_end)
  where
    at_end : Reads (pieces 10 []) r r
    at_end = (refl, refl)
