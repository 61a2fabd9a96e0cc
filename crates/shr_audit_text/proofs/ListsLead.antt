-- SPDX-License-Identifier: GPL-2.0-only
-- The lines of a list lead to it.
use Rattle.shr_audit_text.proofs.Common.{◌≡◌, true, false, List, [], ◌∷◌, ◌++◌, flat_map, Some, refl, subst, codes, AllByRecursion, Kept, Object, Entry, PlaceEnd, PlainEntry, UnitsEnd, WorkerPart, line, place_lines, units_lines, IsPlaceWell, IsListNumbered, AreUnitsNumbered, all_both, line_kind, kept, with_more, IsTightList, AreTightUnits, ℕ, ap, entry_line, item_line, plain_entry_line, read_list, read_entry, read_item, read_plain_entry, read_units, HasWords, IsSpelled, IsNumbered, IsEntryNumbered, IsObjectNumbered, IsPlainEntryNumbered, printed_list, printed_entry, printed_item}
use Rattle.shr_model.specs.Pieces.{cut, pieces}
use Rattle.shr_base.specs.declared.places.Place.{Place}
use Rattle.shr_base.specs.declared.journals.Entry.TheVariants as entry
use Rattle.shr_base.specs.declared.journals.PlainEntry.TheVariants as units
use Rattle.shr_laws.specs.AnswerText.{place_words}
use Rattle.shr_report.proofs.PlainLinesBack.{printed_plain_entry, units_line, printed_units}
use Rattle.shr_report.proofs.PlainLinesBack as lines
use Rattle.shr_audit_text.specs.declared.said.Said.TheVariants as said
use Rattle.shr_audit_text.specs.declared.kinds.Kind.TheVariants as kind
use Rattle.shr_audit_text.specs.declared.kinds.PlainKind.TheVariants as plain
use Rattle.shr_audit_text.specs.Said.{plain_kind_of, within_kind_of, is_entry, is_unit, units_head_of}
use Rattle.shr_audit_text.proofs.Leads.{Leads, first_word, leads_then, leads_printed, leads_flat}
use Rattle.shr_audit_text.proofs.Flat.{Head, report_of, no_tail}
use Rattle.shr_audit_text.proofs.Lasts.{last_is, tight_is}

-- a list of these parts
abbrev ended : Place → List Entry → List Object → PlaceEnd
ended place entries items = record { place = place; entries = kept entries; items = kept items }

entry_word : (e : Entry) → line_kind (first_word (entry_line e ++ [])) ≡ Some kind.Entry
unfolding first_word cut pieces plain_kind_of within_kind_of is_entry is_unit
entry_word (entry.Add by birth added key value) = refl
entry_word (entry.Look by birth key hit) = refl
entry_word (entry.Drop by birth key kind) = refl
entry_word (entry.Pin by birth key true hit) = refl
entry_word (entry.Pin by birth key false hit) = refl
entry_word (entry.Scan worker walk asked policy visits freed stopped) = refl
entry_word (entry.MovedIn child objects) = refl
entry_word entry.Closed = refl
entry_word (entry.Drained by objects) = refl

abbrev IsEntryFit : Entry → Type 0
IsEntryFit e = HasWords e × IsEntryNumbered e

abbrev IsItemFit : Object → Type 0
IsItemFit o = IsSpelled o × IsObjectNumbered o

one_entry : (h : Head) (ws : List WorkerPart) (done : List PlaceEnd) (place : Place) (e : Entry) (es : List Entry) → IsEntryFit e
    → Leads (entry_line e) (report_of h ws (done ++ ended place es [] ∷ []) [] no_tail) (report_of h ws (done ++ ended place (es ++ e ∷ []) [] ∷ []) [] no_tail)
one_entry h ws done place e es k =
    subst (λ (ends : List PlaceEnd). Leads (entry_line e) (report_of h ws (done ++ ended place es [] ∷ []) [] no_tail) (report_of h ws ends [] no_tail))
    (last_is (λ (end : PlaceEnd). record end { entries = with_more e end.entries }) done (ended place es []))
    (leads_printed read_entry e (entry_line e) kind.Entry (λ x. said.Entry x) (report_of h ws (done ++ ended place es [] ∷ []) [] no_tail) (printed_entry e k.0) (entry_word e) (λ f ws. refl) k.1)

one_item : (h : Head) (ws : List WorkerPart) (done : List PlaceEnd) (place : Place) (es : List Entry) (o : Object) (os : List Object) → IsItemFit o
    → Leads (item_line o) (report_of h ws (done ++ ended place es os ∷ []) [] no_tail) (report_of h ws (done ++ ended place es (os ++ o ∷ []) ∷ []) [] no_tail)
unfolding first_word cut pieces plain_kind_of within_kind_of is_entry is_unit
one_item h ws done place es o os k =
    subst (λ (ends : List PlaceEnd). Leads (item_line o) (report_of h ws (done ++ ended place es os ∷ []) [] no_tail) (report_of h ws ends [] no_tail))
    (last_is (λ (end : PlaceEnd). record end { items = with_more o end.items }) done (ended place es os))
    (leads_printed read_item o (item_line o) kind.Item (λ x. said.Item x) (report_of h ws (done ++ ended place es os ∷ []) [] no_tail) (printed_item o k.0) refl (λ f ws. refl) k.1)

one_head : (h : Head) (ws : List WorkerPart) (done : List PlaceEnd) (place : Place) → IsNumbered place
    → Leads (line (codes "list") (place_words place)) (report_of h ws done [] no_tail) (report_of h ws (done ++ ended place [] [] ∷ []) [] no_tail)
unfolding first_word cut pieces plain_kind_of
one_head h ws done place k = leads_printed read_list place (line (codes "list") (place_words place)) (kind.Plain plain.List) (λ x. said.List x) (report_of h ws done [] no_tail) (printed_list place) refl (λ f ws. refl) k

-- what is known of a list of a report
pub record IsListFit (end : PlaceEnd) : Type 0 where
  pub well : IsPlaceWell end
  pub numbers : IsListNumbered end
  pub tight : IsTightList end

ended_is : (end : PlaceEnd) → IsTightList end → ended end.place end.entries.items end.items.items ≡ end
ended_is end t = parts (kept end.entries.items) end.entries (kept end.items.items) end.items (tight_is end.entries t.entries) (tight_is end.items t.items)
  where
    parts : (a b : Kept Entry) (c d : Kept Object) → a ≡ b → c ≡ d → (let P : PlaceEnd = record { place = end.place; entries = a; items = c } in P) ≡ (let P : PlaceEnd = record { place = end.place; entries = b; items = d } in P)
    parts a b c d e f = rw (e, f) refl

one_list : (h : Head) (ws : List WorkerPart) (end : PlaceEnd) (done : List PlaceEnd) → IsListFit end → Leads (place_lines end) (report_of h ws done [] no_tail) (report_of h ws (done ++ end ∷ []) [] no_tail)
one_list h ws end done k =
    let entries = leads_flat (λ es. report_of h ws (done ++ ended end.place es [] ∷ []) [] no_tail) entry_line IsEntryFit (λ e es f. one_entry h ws done end.place e es f) end.entries.items []
    (all_both HasWords IsEntryNumbered end.entries.items k.well.entries k.numbers.entries) in
    let items = leads_flat (λ os. report_of h ws (done ++ ended end.place end.entries.items os ∷ []) [] no_tail) item_line IsItemFit (λ o os f. one_item h ws done end.place end.entries.items o os f) end.items.items []
    (all_both IsSpelled IsObjectNumbered end.items.items k.well.items k.numbers.items) in
    let place = line (codes "list") (place_words end.place) in
    let x0 = report_of h ws done [] no_tail in
    let x1 = report_of h ws (done ++ ended end.place [] [] ∷ []) [] no_tail in
    let x2 = report_of h ws (done ++ ended end.place end.entries.items [] ∷ []) [] no_tail in
    let x3 = report_of h ws (done ++ ended end.place end.entries.items end.items.items ∷ []) [] no_tail in
    subst (λ (x : PlaceEnd). Leads (place_lines end) (report_of h ws done [] no_tail) (report_of h ws (done ++ x ∷ []) [] no_tail)) (ended_is end k.tight)
    (leads_then (place ++ flat_map entry_line end.entries.items) (flat_map item_line end.items.items) x0 x2 x3
    (leads_then place (flat_map entry_line end.entries.items) x0 x1 x2 (one_head h ws done end.place k.well.numbers) entries) items)

-- the lines of lists lead to them
pub lead_lists : (h : Head) (ws : List WorkerPart) (ends : List PlaceEnd) → AllByRecursion IsListFit ends → Leads (flat_map place_lines ends) (report_of h ws [] [] no_tail) (report_of h ws ends [] no_tail)
lead_lists h ws ends all = leads_flat (λ xs. report_of h ws xs [] no_tail) place_lines IsListFit (λ end done k. one_list h ws end done k) ends [] all

-- ---- the journals of pools

-- a pool on a node of these parts
abbrev unit_end : ℕ → ℕ → ℕ → List PlainEntry → UnitsEnd
unit_end pool node free entries = record { pool = pool; node = node; entries = kept entries; free = free }

-- what is known of a pool on a node of a report
pub record IsUnitsFit (u : UnitsEnd) : Type 0 where
  pub numbers : AreUnitsNumbered u
  pub tight : AreTightUnits u

unit_word : (e : PlainEntry) → line_kind (first_word (plain_entry_line e ++ [])) ≡ Some kind.Unit
unfolding first_word cut pieces plain_kind_of within_kind_of is_entry is_unit
unit_word (units.Release by n) = refl
unit_word (units.Grab by got) = refl
unit_word (units.Reclaim worker walk asked freed) = refl

one_unit : (h : Head) (ws : List WorkerPart) (ps : List PlaceEnd) (done : List UnitsEnd) (pool node free : ℕ) (e : PlainEntry) (es : List PlainEntry) → IsPlainEntryNumbered e
    → Leads (plain_entry_line e) (report_of h ws ps (done ++ unit_end pool node free es ∷ []) no_tail) (report_of h ws ps (done ++ unit_end pool node free (es ++ e ∷ []) ∷ []) no_tail)
one_unit h ws ps done pool node free e es k =
    subst (λ (ends : List UnitsEnd). Leads (plain_entry_line e) (report_of h ws ps (done ++ unit_end pool node free es ∷ []) no_tail) (report_of h ws ps ends no_tail))
    (last_is (λ (end : UnitsEnd). record end { entries = with_more e end.entries }) done (unit_end pool node free es))
    (leads_printed read_plain_entry e (plain_entry_line e) kind.Unit (λ x. said.Unit x) (report_of h ws ps (done ++ unit_end pool node free es ∷ []) no_tail) (printed_plain_entry e) (unit_word e) (λ f ws. refl) k)

units_begin : (h : Head) (ws : List WorkerPart) (ps : List PlaceEnd) (done : List UnitsEnd) (u : UnitsEnd) → AreUnitsNumbered u
    → Leads (units_line u.pool u.node u.free) (report_of h ws ps done no_tail) (report_of h ws ps (done ++ unit_end u.pool u.node u.free [] ∷ []) no_tail)
unfolding first_word cut pieces plain_kind_of
units_begin h ws ps done u k = leads_printed read_units (lines.units_head_of u.pool u.node u.free) (units_line u.pool u.node u.free) (kind.Plain plain.Units) (λ x. said.Units (units_head_of x)) (report_of h ws ps done no_tail)
    (printed_units u.pool u.node u.free) refl (λ f ws. refl) (record { pool = k.pool; node = k.node; free = k.free })

unit_is : (u : UnitsEnd) → AreTightUnits u → unit_end u.pool u.node u.free u.entries.items ≡ u
unit_is u t = ap (λ (es : Kept PlainEntry). of es) (tight_is u.entries t.entries)
  where
    of : Kept PlainEntry → UnitsEnd
    of es = record { pool = u.pool; node = u.node; entries = es; free = u.free }

one_pool : (h : Head) (ws : List WorkerPart) (ps : List PlaceEnd) (u : UnitsEnd) (done : List UnitsEnd) → IsUnitsFit u → Leads (units_lines u) (report_of h ws ps done no_tail) (report_of h ws ps (done ++ u ∷ []) no_tail)
one_pool h ws ps u done k =
    let entries = leads_flat (λ es. report_of h ws ps (done ++ unit_end u.pool u.node u.free es ∷ []) no_tail) plain_entry_line IsPlainEntryNumbered (λ e es f. one_unit h ws ps done u.pool u.node u.free e es f) u.entries.items [] k.numbers.entries in
    subst (λ (x : UnitsEnd). Leads (units_lines u) (report_of h ws ps done no_tail) (report_of h ws ps (done ++ x ∷ []) no_tail)) (unit_is u k.tight)
    (leads_then (units_line u.pool u.node u.free) (flat_map plain_entry_line u.entries.items) (report_of h ws ps done no_tail) (report_of h ws ps (done ++ unit_end u.pool u.node u.free [] ∷ []) no_tail)
    (report_of h ws ps (done ++ unit_end u.pool u.node u.free u.entries.items ∷ []) no_tail) (units_begin h ws ps done u k.numbers) entries)

-- the lines of the pools lead to them
pub lead_units : (h : Head) (ws : List WorkerPart) (ps : List PlaceEnd) (us : List UnitsEnd) → AllByRecursion IsUnitsFit us → Leads (flat_map units_lines us) (report_of h ws ps [] no_tail) (report_of h ws ps us no_tail)
lead_units h ws ps us all = leads_flat (λ xs. report_of h ws ps xs no_tail) units_lines IsUnitsFit (λ u done k. one_pool h ws ps u done k) us [] all
