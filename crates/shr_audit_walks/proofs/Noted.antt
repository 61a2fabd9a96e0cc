-- SPDX-License-Identifier: GPL-2.0-only
-- The Scan entries of lists, noted one list after another.
use Rattle.shr_audit_walks.proofs.ScansCommon.{◌≡◌, ℕ, zero, suc, ◌+◌, ◌^◌, ◌<◌, ◌≤◌, Bool, true, false, cond, List, [], ◌∷◌, ◌++◌, length, get_or, take, Option, Some, None, refl, sym, ap, subst, ◌∙◌, inl, inr, arith, ◌==◌, ◌&&◌, filter_map, slice_get, AllByRecursion, enumerate_from, cases_Bool, append-nil, append_assoc, take_more, get_or-enumerate_from, length-enumerate_from, get_or_from_slice_get, slice_get_within, PlaceEnd, Entry, Add, Look, Drop, Pin, Scan, MovedIn, Closed, Drained, Place, is_place, is_place_same, is_place_itself, IsEntryNumbered, IsListNumbered, IsNumbered, IsFirst, clash, each_in, ScanSeen, key_of, row_key, AreRowsOf, scan_row, rows_of, rows_with, with_key, ◌≢◌, map, ◌⊎◌, map-append, take_all, end_printed, AddsRowsOf}
use Rattle.std.specs.Option.{option_or}
use Rattle.std.proofs.lemmas.List.Elements.{filter-append, filter_map-append}
use Rattle.std.proofs.lemmas.List.Folds.{find-append}
use Rattle.shr_model.specs.Scans.{ScanMade, scan_by, scans_by}
use Rattle.shr_laws.specs.Parts.{journal_of}
use Rattle.shr_audit_case.proofs.Firsts.{found_or_none}
use Rattle.shr_audit_passes.specs.Scans.{made_of_scan}
use Rattle.shr_audit_walks.proofs.Keyed.{key_here, key_elsewhere}
use Rattle.shr_model.proofs.Lists.{taken_at}

-- ---- one entry more

abbrev pub row_at : Place → ℕ × Entry → Option ScanSeen
row_at place e = scan_row place e.0 e.1

one_row : (place : Place) (e : ℕ × Entry) (rows : List ScanSeen) → rows_with rows (row_at place e) ≡ rows ++ filter_map (row_at place) (e ∷ [])
one_row place (n, Add by birth added key value) rows = sym (append-nil rows)
one_row place (n, Look by birth key hit) rows = sym (append-nil rows)
one_row place (n, Drop by birth key kind) rows = sym (append-nil rows)
one_row place (n, Pin by birth key pinned hit) rows = sym (append-nil rows)
one_row place (n, Scan worker walk asked policy visits freed stopped) rows = refl
one_row place (n, MovedIn child objects) rows = sym (append-nil rows)
one_row place (n, Closed) rows = sym (append-nil rows)
one_row place (n, Drained by objects) rows = sym (append-nil rows)

pub rows_more : (place : Place) (es : List Entry) (i : ℕ) (e : Entry) (a old next : List ScanSeen) → i < length es → e ≡ get_or es i e
    → old ≡ a ++ filter_map (row_at place) (take i (enumerate_from 0 es)) → next ≡ rows_with old (scan_row place i e)
    → next ≡ a ++ filter_map (row_at place) (take (i + 1) (enumerate_from 0 es))
rows_more place es i e a old next lt is before added =
    let all = enumerate_from 0 es in
    let within : i < length all = omega (arith, length-enumerate_from 0 es) in
    let none : 0 + i ≡ i = omega arith in
    let here : get_or all i (0, e) ≡ (i, e) = get_or-enumerate_from 0 es i (0, e) lt ∙ ap (λ (n : ℕ). (n, get_or es i e)) none ∙ ap (λ (x : Entry). (i, x)) (sym is) in
    let so_far = filter_map (row_at place) (take i all) in
    added ∙ one_row place (i, e) old
    ∙ ap (λ (xs : List ScanSeen). xs ++ filter_map (row_at place) ((i, e) ∷ [])) before
    ∙ append_assoc a so_far (filter_map (row_at place) ((i, e) ∷ []))
    ∙ ap (λ (xs : List ScanSeen). a ++ xs) (sym (
    ap (filter_map (row_at place)) (take_more all i (0, e) within ∙ ap (λ (x : ℕ × Entry). take i all ++ x ∷ []) here)
    ∙ filter_map-append (row_at place) (take i all) ((i, e) ∷ [])
    ))

pub rows_all : (place : Place) (es : List Entry) (i : ℕ) (a old : List ScanSeen) → length es ≤ i → old ≡ a ++ filter_map (row_at place) (take i (enumerate_from 0 es)) → old ≡ a ++ rows_of place es
rows_all place es i a old over before = before ∙ ap (λ (xs : List (ℕ × Entry)). a ++ filter_map (row_at place) xs) (take_all i (enumerate_from 0 es) (let many = length-enumerate_from 0 es in omega arith))

-- ---- the rows of one list

abbrev made_in : ℕ → ℕ → Place → List ScanSeen → List ScanMade
made_in worker walk place rows = map made_of_scan (with_key (key_of worker walk place) rows)

abbrev Short : List (ℕ × Entry) → Type 0
Short es = AllByRecursion (λ (e : ℕ × Entry). IsEntryNumbered e.1) es

short_from : (n : ℕ) (es : List Entry) → AllByRecursion IsEntryNumbered es → Short (enumerate_from n es)
short_from n [] h = tt
short_from n (e ∷ es) h = (h.0, short_from (n + 1) es h.1)

-- at its place they are the scans of each walk
made_here : (worker walk : ℕ) (place : Place) (es : List (ℕ × Entry)) → worker < 2 ^ 16 → IsNumbered place → Short es
    → made_in worker walk place (filter_map (row_at place) es) ≡ filter_map (λ (e : ℕ × Entry). scan_by worker walk e.0 e.1) es
made_here worker walk place [] few np h = refl
made_here worker walk place ((n, Add by birth added key value) ∷ es) few np h = made_here worker walk place es few np h.1
made_here worker walk place ((n, Look by birth key hit) ∷ es) few np h = made_here worker walk place es few np h.1
made_here worker walk place ((n, Drop by birth key kind) ∷ es) few np h = made_here worker walk place es few np h.1
made_here worker walk place ((n, Pin by birth key pinned hit) ∷ es) few np h = made_here worker walk place es few np h.1
made_here worker walk place ((n, MovedIn child objects) ∷ es) few np h = made_here worker walk place es few np h.1
made_here worker walk place ((n, Closed) ∷ es) few np h = made_here worker walk place es few np h.1
made_here worker walk place ((n, Drained by objects) ∷ es) few np h = made_here worker walk place es few np h.1
made_here worker walk place ((n, Scan w k asked policy visits freed stopped) ∷ es) few np h =
    let same = key_here worker walk w k place few h.0.0 np in
    let more = made_here worker walk place es few np h.1 in
    elim (cases_Bool ((w == worker) && (k == walk))) [
      | inl t ↦ rw (same ∙ t, t) (ap (λ (xs : List ScanMade). record { number = n; asked = asked; policy = policy; freed = freed } ∷ xs) more)
      | inr f ↦ rw (same ∙ f, f) more
    ]

-- at another there are none
made_elsewhere : (worker walk : ℕ) (place other : Place) (es : List (ℕ × Entry)) → worker < 2 ^ 16 → IsNumbered place → IsNumbered other → other ≢ place → Short es
    → made_in worker walk place (filter_map (row_at other) es) ≡ []
made_elsewhere worker walk place other [] few np nq away h = refl
made_elsewhere worker walk place other ((n, Add by birth added key value) ∷ es) few np nq away h = made_elsewhere worker walk place other es few np nq away h.1
made_elsewhere worker walk place other ((n, Look by birth key hit) ∷ es) few np nq away h = made_elsewhere worker walk place other es few np nq away h.1
made_elsewhere worker walk place other ((n, Drop by birth key kind) ∷ es) few np nq away h = made_elsewhere worker walk place other es few np nq away h.1
made_elsewhere worker walk place other ((n, Pin by birth key pinned hit) ∷ es) few np nq away h = made_elsewhere worker walk place other es few np nq away h.1
made_elsewhere worker walk place other ((n, MovedIn child objects) ∷ es) few np nq away h = made_elsewhere worker walk place other es few np nq away h.1
made_elsewhere worker walk place other ((n, Closed) ∷ es) few np nq away h = made_elsewhere worker walk place other es few np nq away h.1
made_elsewhere worker walk place other ((n, Drained by objects) ∷ es) few np nq away h = made_elsewhere worker walk place other es few np nq away h.1
made_elsewhere worker walk place other ((n, Scan w k asked policy visits freed stopped) ∷ es) few np nq away h =
    let differs = key_elsewhere worker walk w k place other few h.0.0 np nq away in
    rw differs (made_elsewhere worker walk place other es few np nq away h.1)

made_append : (worker walk : ℕ) (place : Place) (xs ys : List ScanSeen) → made_in worker walk place (xs ++ ys) ≡ made_in worker walk place xs ++ made_in worker walk place ys
made_append worker walk place xs ys =
    ap (map made_of_scan) (filter-append (λ (x : ScanSeen). row_key x == key_of worker walk place) xs ys)
    ∙ map-append made_of_scan (with_key (key_of worker walk place) xs) (with_key (key_of worker walk place) ys)

-- ---- which list is the first one of its place

own_place : (e x : PlaceEnd) (place : Place) → ◌≡◌ {A = Option PlaceEnd} (Some e) (Some x) → x.place ≡ place → is_place e.place place ≡ true
own_place e x place at same =
    let one : e ≡ x = cc in
    ap (λ (y : PlaceEnd). is_place y.place place) one ∙ (ap (λ (q : Place). is_place q place) same ∙ is_place_itself place)

first_behind : (e : PlaceEnd) (es : List PlaceEnd) (k : ℕ) (place : Place) → is_place e.place place ≡ false → IsFirst es k place → IsFirst (e ∷ es) (suc k) place
first_behind e es k place other first zero x lt at = λ same. absurd (clash (is_place e.place place) (own_place e x place at same) other)
first_behind e es k place other first (suc m) x lt at = first m x (omega arith) at

some_none : (e : PlaceEnd) → ◌≡◌ {A = Option PlaceEnd} (Some e) None → ⊥
some_none e h = cc

first_of_more : (e : PlaceEnd) (es : List PlaceEnd) (k : ℕ) (place : Place) → end_printed (take (suc k) (e ∷ es)) place ≡ None → (end_printed (take k es) place ≡ None → IsFirst es k place) → IsFirst (e ∷ es) (suc k) place
first_of_more e es k place none rest = elim (cases_Bool (is_place e.place place)) [
  | inl own ↦ absurd (some_none e (rw own at none))
  | inr other ↦ first_behind e es k place other (rest (rw other at none))
]

-- a place that is printed nowhere before is printed first there
first_if_none : (ends : List PlaceEnd) (k : ℕ) (place : Place) → end_printed (take k ends) place ≡ None → IsFirst ends k place
first_if_none [] k place none = λ m x lt at. absurd (let within = slice_get_within [] m x at in omega arith)
first_if_none (e ∷ es) zero place none = λ m x lt at. absurd (omega arith)
first_if_none (e ∷ es) (suc k) place none = first_of_more e es k place none (λ rest. first_if_none es k place rest)

not_again : (ends : List PlaceEnd) (k m : ℕ) (x : PlaceEnd) (place : Place) → slice_get (take k ends) m ≡ Some x → x.place ≡ place → IsFirst ends k place → ⊥
not_again ends k m x place at same first = let before = taken_at ends k m x at in first m x before.0 before.1 same

-- ---- one list more

abbrev found_in : List PlaceEnd → Place → Option PlaceEnd
found_in ends place = end_printed ends place

found_more : (ends : List PlaceEnd) (k : ℕ) (end : PlaceEnd) (place : Place) → slice_get ends k ≡ Some end → end_printed (take (k + 1) ends) place ≡ option_or (end_printed (take k ends) place) (end_printed (end ∷ []) place)
found_more ends k end place at =
    ap (λ (xs : List PlaceEnd). end_printed xs place) (take_more ends k end (slice_get_within ends k end at) ∙ ap (λ (x : PlaceEnd). take k ends ++ x ∷ []) (get_or_from_slice_get ends k end end at))
    ∙ find-append (λ (x : PlaceEnd). is_place x.place place) (take k ends) (end ∷ [])

or_none : (o : Option PlaceEnd) → option_or o None ≡ o
or_none None = refl
or_none (Some x) = refl

-- a list of another place changes nothing
found_elsewhere : (ends : List PlaceEnd) (k : ℕ) (end : PlaceEnd) (place : Place) → slice_get ends k ≡ Some end → is_place end.place place ≡ false → end_printed (take (k + 1) ends) place ≡ end_printed (take k ends) place
found_elsewhere ends k end place at other =
    found_more ends k end place at
    ∙ ap (option_or (end_printed (take k ends) place)) (ap (λ (b : Bool). cond b (Some end) None) other)
    ∙ or_none (end_printed (take k ends) place)

-- the first one of its place is found there, where none was found before
found_first : (ends : List PlaceEnd) (k : ℕ) (end : PlaceEnd) (place : Place) → slice_get ends k ≡ Some end → is_place end.place place ≡ true → IsFirst ends k place
    → (end_printed (take k ends) place ≡ None) × (end_printed (take (k + 1) ends) place ≡ Some end)
found_first ends k end place at own first = elim (found_or_none (take k ends) place) [
  | inl none ↦ (
    none,
    found_more ends k end place at ∙ ap (λ (o : Option PlaceEnd). option_or o (end_printed (end ∷ []) place)) none ∙ ap (λ (b : Bool). cond b (Some end) None) own,
  )
  | inr found ↦ absurd (not_again ends k found.0 found.1.0 place found.1.1.at found.1.1.same first)
]

-- a later one changes nothing
found_again : (ends : List PlaceEnd) (k : ℕ) (end : PlaceEnd) (place : Place) → slice_get ends k ≡ Some end → (IsFirst ends k place → ⊥) → end_printed (take (k + 1) ends) place ≡ end_printed (take k ends) place
found_again ends k end place at later = elim (found_or_none (take k ends) place) [
  | inl none ↦ absurd (later (first_if_none ends k place none))
  | inr found ↦
      found_more ends k end place at ∙ (ap (λ (o : Option PlaceEnd). option_or o (end_printed (end ∷ []) place)) found.1.1.found ∙ sym found.1.1.found)
]

abbrev Noted : List PlaceEnd → ℕ → List ScanSeen → Type 0
Noted ends k rows = AreRowsOf (take k ends) rows

noted_first : (ends : List PlaceEnd) (k : ℕ) (end : PlaceEnd) (old new : List ScanSeen) → slice_get ends k ≡ Some end → IsListNumbered end → IsFirst ends k end.place
    → new ≡ old ++ rows_of end.place end.entries.items → Noted ends k old → Noted ends (k + 1) new
noted_first ends k end old new at numbered first added before worker walk place few np = elim (cases_Bool (is_place end.place place)) [
  | inl own ↦
      let same : end.place ≡ place = is_place_same end.place place own in
      let found = found_first ends k end place at own (subst (IsFirst ends k) same first) in
      ap (made_in worker walk place) added
      ∙ made_append worker walk place old (rows_of end.place end.entries.items)
      ∙ ap (λ (xs : List ScanMade). xs ++ made_in worker walk place (rows_of end.place end.entries.items)) (before worker walk place few np ∙ ap (λ (o : Option PlaceEnd). scans_by worker walk (journal_of o)) found.0)
      ∙ subst (λ (p : Place). made_in worker walk place (rows_of p end.entries.items) ≡ scans_by worker walk end.entries.items) (sym same)
      (made_here worker walk place (enumerate_from 0 end.entries.items) few np (short_from 0 end.entries.items numbered.entries))
      ∙ ap (λ (o : Option PlaceEnd). scans_by worker walk (journal_of o)) (sym found.1)
  | inr other ↦
      ap (made_in worker walk place) added
      ∙ made_append worker walk place old (rows_of end.place end.entries.items)
      ∙ ap (λ (xs : List ScanMade). made_in worker walk place old ++ xs)
      (made_elsewhere worker walk place end.place (enumerate_from 0 end.entries.items) few np numbered.place (λ same. apart end.place place other same) (short_from 0 end.entries.items numbered.entries))
      ∙ append-nil (made_in worker walk place old)
      ∙ before worker walk place few np
      ∙ ap (λ (o : Option PlaceEnd). scans_by worker walk (journal_of o)) (sym (found_elsewhere ends k end place at other))
] where
  apart : (p q : Place) → is_place p q ≡ false → p ≡ q → ⊥
  apart p q f same = let t : is_place p q ≡ true = ap (λ (x : Place). is_place x q) same ∙ is_place_itself q in cc

noted_again : (ends : List PlaceEnd) (k : ℕ) (end : PlaceEnd) (old new : List ScanSeen) → slice_get ends k ≡ Some end → (IsFirst ends k end.place → ⊥) → new ≡ old → Noted ends k old → Noted ends (k + 1) new
noted_again ends k end old new at later same before worker walk place few np =
    ap (made_in worker walk place) same
    ∙ before worker walk place few np
    ∙ ap (λ (o : Option PlaceEnd). scans_by worker walk (journal_of o)) (sym unchanged)
  where
    unchanged : end_printed (take (k + 1) ends) place ≡ end_printed (take k ends) place
    unchanged = elim (cases_Bool (is_place end.place place)) [
      | inl own ↦ found_again ends k end place at (λ first. later (subst (IsFirst ends k) (sym (is_place_same end.place place own)) first))
      | inr other ↦ found_elsewhere ends k end place at other
    ]

-- whether a list is the first one of its place is known
first_or_not : (ends : List PlaceEnd) (k : ℕ) (place : Place) → IsFirst ends k place ⊎ (IsFirst ends k place → ⊥)
first_or_not ends k place = elim (found_or_none (take k ends) place) [
  | inl none ↦ inl (first_if_none ends k place none)
  | inr found ↦ inr (not_again ends k found.0 found.1.0 place found.1.1.at found.1.1.same)
]

numbered_at : (ends : List PlaceEnd) (k : ℕ) (end : PlaceEnd) → AllByRecursion IsListNumbered ends → slice_get ends k ≡ Some end → IsListNumbered end
numbered_at ends k end h at = each_in IsListNumbered ends h k end at

none_there : (xs : List PlaceEnd) (i : ℕ) → i < length xs → slice_get xs i ≡ None → ⊥
none_there [] i lt at = absurd (omega arith)
none_there (x ∷ xs) zero lt at = absurd (some_none x at)
none_there (x ∷ xs) (suc i) lt at = none_there xs i (omega arith) at

-- one list more
noted_by : (ends : List PlaceEnd) (k : ℕ) (end : PlaceEnd) (old new : List ScanSeen) → slice_get ends k ≡ Some end → AllByRecursion IsListNumbered ends → AddsRowsOf ends k old new → AreRowsOf (take k ends) old → AreRowsOf (take (k + 1) ends) new
noted_by ends k end old new at numbers adds before = elim (first_or_not ends k end.place) [
  | inl first ↦ noted_first ends k end old new at (numbered_at ends k end numbers at) first (adds.first end at first) before
  | inr later ↦ noted_again ends k end old new at later (adds.later end at later) before
]

pub noted_more : (ends : List PlaceEnd) (k : ℕ) (old new : List ScanSeen) → k < length ends → AllByRecursion IsListNumbered ends → AddsRowsOf ends k old new → AreRowsOf (take k ends) old → AreRowsOf (take (k + 1) ends) new
noted_more ends k old new lt numbers adds before = by_end (slice_get ends k) refl
  where
    by_end : (o : Option PlaceEnd) → slice_get ends k ≡ o → AreRowsOf (take (k + 1) ends) new
    by_end None at = absurd (none_there ends k lt at)
    by_end (Some end) at = noted_by ends k end old new at numbers adds before

pub noted_none : (ends : List PlaceEnd) (rows : List ScanSeen) → rows ≡ [] → AreRowsOf (take 0 ends) rows
noted_none ends rows none worker walk place few np = ap (made_in worker walk place) none

pub noted_all : (ends : List PlaceEnd) (k : ℕ) (rows : List ScanSeen) → length ends ≤ k → AreRowsOf (take k ends) rows → AreRowsOf ends rows
noted_all ends k rows over before = subst (λ (xs : List PlaceEnd). AreRowsOf xs rows) (take_all k ends over) before
