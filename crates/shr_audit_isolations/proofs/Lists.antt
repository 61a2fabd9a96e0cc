-- SPDX-License-Identifier: GPL-2.0-only
-- Lists gathered one after another, and what is gathered of all.
use Rattle.shr_audit_isolations.proofs.Common.{◌≡◌, ℕ, zero, suc, ◌+◌, ◌-◌, ◌<◌, Bool, true, false, cond, List, [], ◌∷◌, ◌++◌, length, get_or, map, take, Option, Some, None, refl, sym, ap, subst, ◌∙◌, arith, slice_get, option_map, Vec, Decides, IsSomeAnd, Global, append-nil, slice_get-get_or, slice_get_within, WorkerPart, Entry, Add, Look, Drop, Pin, Scan, MovedIn, Closed, Drained, Place, Script, Isolation, is_place, first_isolation, isolation_walk, Report, IsOfIsolation, isolations_by, isolations_told, scans_seen, EachAnswer, EachEntry, isolations_in, EachItem, clash, fails, Gathered, AreGathered, GainsScans, IsGatheringBegun, IsOfTheirs, IsOfTold, IsolationTold, at_place, begun, journals_to, told_at, told_of, with_scans, AreRowsRight, IsToldRight, inl, inr, below_more, is_some, option_to_list, length-map, take_all, slice_get-map, AreIsolationsLawful, isolation_at, journal_of, journals_of, gathered_of, new_at, gathered_row, AreGatheredRight}
use Rattle.std.proofs.lemmas.Bool.{cases_Bool}
use Rattle.shr_base.specs.declared.ends.PlaceEnd.{PlaceEnd}
use Rattle.shr_model.proofs.PlacesLaws.{is_place_same, is_place_itself}
use Rattle.shr_audit_case.specs.Places.{IsFirst, end_printed}
use Rattle.shr_audit_case.proofs.Eachs.{each_entry_of}
use Rattle.shr_audit_case.proofs.Firsts.{none_found}
use Rattle.shr_audit_isolations.proofs.Gathering.{gains_same, gains_then, no_gain, told_after, told_before}
use Rattle.shr_audit_isolations.proofs.Options.{map_then, some_mapped, some_unmapped}
use Rattle.shr_model.proofs.Lists.{there_at, taken_at, some_injective}

-- ---- one list more

journals_next : (ends : List PlaceEnd) (k : ℕ) (p : Place) → journals_to ends (suc k) p ≡ journals_to ends k p ++ new_at ends k p
journals_next [] zero p = refl
journals_next [] (suc k) p = refl
journals_next (e ∷ es) zero p = refl
journals_next (e ∷ es) (suc k) p = by (journals_next es k p) (is_place e.place p) refl
  where
    by : journals_to es (suc k) p ≡ journals_to es k p ++ new_at es k p → (b : Bool) → is_place e.place p ≡ b
        → journal_of (cond b (Some e) (end_printed (take (suc k) es) p)) ≡ journal_of (cond b (Some e) (end_printed (take k es) p)) ++ cond (is_some (cond b (Some e) (end_printed (take k es) p))) [] (journal_of (end_printed (option_to_list (slice_get es k)) p))
    by rest true own = sym (append-nil e.entries.items)
    by rest false other = rest

pub next_list : (ends : List PlaceEnd) (k : ℕ) (p : Place) → journals_to ends (k + 1) p ≡ journals_to ends k p ++ new_at ends k p
next_list ends k p = ap (λ (n : ℕ). journals_to ends n p) (let e : k + 1 ≡ suc k = omega arith in e) ∙ journals_next ends k p

-- ---- what a list adds

one_end : (ends : List PlaceEnd) (k : ℕ) (end : PlaceEnd) (p : Place) → slice_get ends k ≡ Some end → journal_of (end_printed (option_to_list (slice_get ends k)) p) ≡ at_place end.place end.entries.items p
one_end ends k end p at = ap (λ (o : Option PlaceEnd). journal_of (end_printed (option_to_list o) p)) at ∙ by (is_place end.place p) refl (is_place p end.place) refl
  where
    by : (b : Bool) → is_place end.place p ≡ b → (c : Bool) → is_place p end.place ≡ c → journal_of (cond b (Some end) None) ≡ cond c end.entries.items []
    by true e true f = refl
    by false e false f = refl
    by true e false f = let t : is_place p end.place ≡ true = ap (λ (q : Place). is_place p q) (is_place_same end.place p e) ∙ is_place_itself p in cc
    by false e true f = let t : is_place end.place p ≡ true = ap (λ (q : Place). is_place end.place q) (is_place_same p end.place f) ∙ is_place_itself end.place in cc

takes : (ends : List PlaceEnd) (k m : ℕ) (x : PlaceEnd) → m < k → slice_get ends m ≡ Some x → slice_get (take k ends) m ≡ Some x
takes [] k m x lt at = absurd (let w = slice_get_within [] m x at in omega (arith, w))
takes (e ∷ es) zero m x lt at = absurd (omega (arith, lt))
takes (e ∷ es) (suc k) zero x lt at = at
takes (e ∷ es) (suc k) (suc m) x lt at = takes es k m x (omega (arith, lt)) at

-- the first list of its place adds its entries
pub first_adds : (ends : List PlaceEnd) (k : ℕ) (end : PlaceEnd) → slice_get ends k ≡ Some end → IsFirst ends k end.place → (p : Place) → new_at ends k p ≡ at_place end.place end.entries.items p
first_adds ends k end at first p = by (end_printed (take k ends) p) refl (is_place p end.place) refl
  where
    by : (o : Option PlaceEnd) → end_printed (take k ends) p ≡ o → (c : Bool) → is_place p end.place ≡ c → cond (is_some o) [] (journal_of (end_printed (option_to_list (slice_get ends k)) p)) ≡ at_place end.place end.entries.items p
    by None e c f = one_end ends k end p at
    by (Some x) e false f = sym (rw f refl)
    by (Some x) e true f =
        let none : end_printed (take k ends) p ≡ None = none_found (take k ends) p (λ n y here same. first n y (taken_at ends k n y here).0 (taken_at ends k n y here).1 (same ∙ is_place_same p end.place f)) in
        cc

some_none : {X : Type 0} (a : X) → ◌≡◌ {A = Option X} (Some a) None → ⊥
some_none a e = cc

-- a place of which a list stands there isn't left unfound
found_not : (es : List PlaceEnd) (q : Place) (n : ℕ) (y : PlaceEnd) → slice_get es n ≡ Some y → y.place ≡ q → end_printed es q ≡ None → ⊥
found_not [] q n y at same none = let w = slice_get_within [] n y at in omega (arith, w)
found_not (z ∷ zs) q zero y at same none =
    let own : is_place z.place q ≡ true = ap (λ (v : PlaceEnd). is_place v.place q) (some_injective z y at) ∙ (ap (λ (v : Place). is_place v q) same ∙ is_place_itself q) in
    some_none z (sym (ap (λ (b : Bool). cond b (Some z) (end_printed zs q)) own) ∙ none)
found_not (z ∷ zs) q (suc n) y at same none = elim (cases_Bool (is_place z.place q)) [
  | inl own ↦ some_none z (sym (ap (λ (b : Bool). cond b (Some z) (end_printed zs q)) own) ∙ none)
  | inr other ↦ found_not zs q n y at same (sym (ap (λ (b : Bool). cond b (Some z) (end_printed zs q)) other) ∙ none)
]

-- any other adds none
pub later_adds : (ends : List PlaceEnd) (k : ℕ) (end : PlaceEnd) → slice_get ends k ≡ Some end → (IsFirst ends k end.place → ⊥) → (p : Place) → new_at ends k p ≡ []
later_adds ends k end at later p = by (end_printed (take k ends) p) refl (is_place p end.place) refl
  where
    by : (o : Option PlaceEnd) → end_printed (take k ends) p ≡ o → (c : Bool) → is_place p end.place ≡ c → cond (is_some o) [] (journal_of (end_printed (option_to_list (slice_get ends k)) p)) ≡ []
    by (Some x) e c f = refl
    by None e false f = one_end ends k end p at ∙ rw f refl
    by None e true f = absurd (later (λ m x lt here same. found_not (take k ends) p m x (takes ends k m x lt here) (same ∙ sym (is_place_same p end.place f)) e))

pub list_gains : (ends : List PlaceEnd) (k : ℕ) (a b c : List (Vec Gathered Global)) → GainsScans (journals_to ends k) a b → GainsScans (new_at ends k) b c → GainsScans (journals_to ends (k + 1)) a c
list_gains ends k a b c first then = gains_then (journals_to ends k) (new_at ends k) (journals_to ends (k + 1)) a b c (next_list ends k) first then

-- ---- the loop over the lists

-- a list that isn't the first one of its place
pub first_none : (ends : List PlaceEnd) (k : ℕ) (table : List (Vec Gathered Global)) (b : Bool) → k < length ends → ((end : PlaceEnd) → slice_get ends k ≡ Some end → Decides b (IsFirst ends k end.place)) → b ≡ false → GainsScans (new_at ends k) table table
first_none ends k table b lt d f =
    let end = there_at ends k lt in
    no_gain (new_at ends k) table (λ w n p. ap (scans_seen w (isolation_walk n)) (later_adds ends k end.0 end.1 (λ first. clash b ((d end.0 end.1).1 first) f) p))

-- one that is
pub first_right : (ends : List PlaceEnd) (k : ℕ) (table : List (Vec Gathered Global)) (end : PlaceEnd) (entries : List Entry) (a b : Bool) → k < length ends → end ≡ get_or ends k end → entries ≡ end.entries.items
    → ((x : PlaceEnd) → slice_get ends k ≡ Some x → Decides a (IsFirst ends k x.place)) → a ≡ true → Decides b (EachItem (IsOfTold table end.place) entries) → Decides b (IsOfTheirs table ends k)
first_right ends k table end entries a b lt is own first t d =
    let at : slice_get ends k ≡ Some end = slice_get-get_or ends k end lt ∙ ap (λ (x : PlaceEnd). Some x) (sym is) in (
      λ u x here at_first. subst (λ (y : PlaceEnd). EachItem (IsOfTold table y.place) y.entries.items) (some_injective end x (sym at ∙ here)) (subst (EachItem (IsOfTold table end.place)) own (d.0 u)),
      λ h. d.1 (subst (EachItem (IsOfTold table end.place)) (sym own) (h end at ((first end at).0 t))),
    )

pub first_gains : (ends : List PlaceEnd) (k : ℕ) (old new : List (Vec Gathered Global)) (end : PlaceEnd) (entries : List Entry) (a : Bool) → k < length ends → end ≡ get_or ends k end → entries ≡ end.entries.items
    → ((x : PlaceEnd) → slice_get ends k ≡ Some x → Decides a (IsFirst ends k x.place)) → a ≡ true → GainsScans (at_place end.place entries) old new → GainsScans (new_at ends k) old new
first_gains ends k old new end entries a lt is own first t gains =
    let at : slice_get ends k ≡ Some end = slice_get-get_or ends k end lt ∙ ap (λ (x : PlaceEnd). Some x) (sym is) in
    gains_same (at_place end.place entries) (new_at ends k) old new
    (λ p. ap (λ (es : List Entry). at_place end.place es p) own ∙ sym (first_adds ends k end at ((first end at).0 t) p)) gains

theirs_after : (more : Place → List Entry) (a t : List (Vec Gathered Global)) (ends : List PlaceEnd) (k : ℕ) → GainsScans more a t → IsOfTheirs a ends k → IsOfTheirs t ends k
theirs_after more a t ends k gains h end at first n e here = told_after more a t end.place e gains (h end at first n e here)

theirs_before : (more : Place → List Entry) (a t : List (Vec Gathered Global)) (ends : List PlaceEnd) (k : ℕ) → GainsScans more a t → IsOfTheirs t ends k → IsOfTheirs a ends k
theirs_before more a t ends k gains h end at first n e here = told_before more a t end.place e gains (h end at first n e here)

pub lists_broken : (ends : List PlaceEnd) (k : ℕ) (a t : List (Vec Gathered Global)) (b : Bool) → GainsScans (journals_to ends k) a t → k < length ends → Decides b (IsOfTheirs t ends k) → b ≡ false → Decides false ((n : ℕ) → n < length ends → IsOfTheirs a ends n)
lists_broken ends k a t b gains lt d f = fails (IsOfTheirs t ends k) ((n : ℕ) → n < length ends → IsOfTheirs a ends n) b d f (λ h. theirs_after (journals_to ends k) a t ends k gains (h k lt))

pub lists_more : (ends : List PlaceEnd) (k : ℕ) (a t : List (Vec Gathered Global)) (b : Bool) → GainsScans (journals_to ends k) a t → Decides b (IsOfTheirs t ends k) → b ≡ true → ((n : ℕ) → n < k → IsOfTheirs a ends n) → (n : ℕ) → n < k + 1 → IsOfTheirs a ends n
lists_more ends k a t b gains d f before = below_more (IsOfTheirs a ends) k before (theirs_before (journals_to ends k) a t ends k gains (d.0 f))

-- ---- what is gathered of all

abbrev or_none : Option (List IsolationTold) → List IsolationTold
or_none None = []
or_none (Some ts) = ts

table_rows : (table : List (Vec Gathered Global)) (w k : ℕ) → told_at table w k ≡ slice_get (or_none (slice_get (map (λ (row : Vec Gathered Global). map told_of row.items) table) w)) k
table_rows table w k = by (slice_get table w) ∙ ap (λ (o : Option (List IsolationTold)). slice_get (or_none o) k) (sym (slice_get-map (λ (row : Vec Gathered Global). map told_of row.items) table w))
  where
    by : (o : Option (Vec Gathered Global)) → option_map told_of (slice_get (gathered_row o) k) ≡ slice_get (or_none (option_map (λ (row : Vec Gathered Global). map told_of row.items) o)) k
    by None = sym (slice_get-map told_of [] k)
    by (Some row) = sym (slice_get-map told_of row.items k)

part_rows : (parts : List WorkerPart) (w k : ℕ) → slice_get (or_none (slice_get (map (λ (part : WorkerPart). map begun part.isolations.items) parts) w)) k ≡ option_map begun (slice_get (isolations_in (slice_get parts w)) k)
part_rows parts w k = ap (λ (o : Option (List IsolationTold)). slice_get (or_none o) k) (slice_get-map (λ (part : WorkerPart). map begun part.isolations.items) parts w) ∙ by (slice_get parts w)
  where
    by : (o : Option WorkerPart) → slice_get (or_none (option_map (λ (part : WorkerPart). map begun part.isolations.items) o)) k ≡ option_map begun (slice_get (isolations_in o) k)
    by None = slice_get-map begun [] k
    by (Some part) = slice_get-map begun part.isolations.items k

-- at first each isolation has no scan
begun_at : (r : Report) (table : List (Vec Gathered Global)) → IsGatheringBegun r.workers.items table → (w k : ℕ) → told_at table w k ≡ option_map begun (isolation_at r w k)
begun_at r table begin w k = table_rows table w k ∙ (ap (λ (rows : List (List IsolationTold)). slice_get (or_none (slice_get rows w)) k) begin ∙ part_rows r.workers.items w k)

begun_count : (parts : List WorkerPart) (table : List (Vec Gathered Global)) → IsGatheringBegun parts table → length table ≡ length parts
begun_count parts table begin =
    sym (length-map table (λ (row : Vec Gathered Global). map told_of row.items)) ∙ (ap length begin ∙ length-map parts (λ (part : WorkerPart). map begun part.isolations.items))

abbrev gathered_with : ℕ → ℕ → Isolation → List Entry → IsolationTold
gathered_with w k i es = record { isolation = i; scans = scans_seen w (isolation_walk k) es }

pub gathered_all : (r : Report) (ends : List PlaceEnd) (a b : List (Vec Gathered Global)) → ends ≡ r.places.items → IsGatheringBegun r.workers.items a → GainsScans (journals_to ends (length ends)) a b → AreGathered r b
gathered_all r ends a b same begin gains = record {
  count = gains.count ∙ begun_count r.workers.items a begin;
  each = λ w k. gains.each w k
      ∙ (ap (option_map (λ (t : IsolationTold). with_scans w k (journals_to ends (length ends) t.isolation.place) t)) (begun_at r a begin w k)
      ∙ map_then begun (λ (t : IsolationTold). with_scans w k (journals_to ends (length ends) t.isolation.place) t) (gathered_of r w k) (isolation_at r w k)
      (λ i e. ap (gathered_with w k i) (whole i.place)));
}
  where
    whole : (p : Place) → journals_to ends (length ends) p ≡ journals_of r p
    whole p = ap (λ (es : List PlaceEnd). journal_of (end_printed es p)) (take_all (length ends) ends (omega arith) ∙ same)

-- ---- a scan of an isolation that isn't there

of_told : (r : Report) (table : List (Vec Gathered Global)) (place : Place) (e : Entry) → IsGatheringBegun r.workers.items table → IsOfTold table place e → IsOfIsolation r place e
of_told r table place (Scan worker n asked policy visits freed stopped) begin of = λ le.
    some_unmapped begun (isolation_at r worker (n - first_isolation)) (λ i. i.place ≡ place) (λ t. t.isolation.place ≡ place) (λ i s. s) (subst (λ (o : Option IsolationTold). IsSomeAnd o (λ t. t.isolation.place ≡ place)) (begun_at r table begin worker (n - first_isolation)) (of le))
of_told r table place (Add by birth added key value) begin of = tt
of_told r table place (Look by birth key hit) begin of = tt
of_told r table place (Drop by birth key kind) begin of = tt
of_told r table place (Pin by birth key pinned hit) begin of = tt
of_told r table place (MovedIn child objects) begin of = tt
of_told r table place Closed begin of = tt
of_told r table place (Drained by objects) begin of = tt

told_of_it : (r : Report) (table : List (Vec Gathered Global)) (place : Place) (e : Entry) → IsGatheringBegun r.workers.items table → IsOfIsolation r place e → IsOfTold table place e
told_of_it r table place (Scan worker n asked policy visits freed stopped) begin of = λ le.
    subst (λ (o : Option IsolationTold). IsSomeAnd o (λ t. t.isolation.place ≡ place)) (sym (begun_at r table begin worker (n - first_isolation)))
    (some_mapped begun (isolation_at r worker (n - first_isolation)) (λ i. i.place ≡ place) (λ t. t.isolation.place ≡ place) (λ i s. s) (of le))
told_of_it r table place (Add by birth added key value) begin of = tt
told_of_it r table place (Look by birth key hit) begin of = tt
told_of_it r table place (Drop by birth key kind) begin of = tt
told_of_it r table place (Pin by birth key pinned hit) begin of = tt
told_of_it r table place (MovedIn child objects) begin of = tt
told_of_it r table place Closed begin of = tt
told_of_it r table place (Drained by objects) begin of = tt

pub scans_decided : (r : Report) (ends : List PlaceEnd) (table : List (Vec Gathered Global)) (b : Bool) → ends ≡ r.places.items → IsGatheringBegun r.workers.items table → Decides b ((k : ℕ) → k < length ends → IsOfTheirs table ends k)
    → Decides b (EachEntry r (λ place n e. IsOfIsolation r place e))
scans_decided r ends table b same begin d = each_entry_of r (λ place n e. IsOfIsolation r place e) b (
  λ t k end at first n e here. of_told r table end.place e begin (d.0 t k (within k end at) end (own k end at) (subst (λ (es : List PlaceEnd). IsFirst es k end.place) (sym same) first) n e here),
  λ h. d.1 (λ k lt end at first n e here. told_of_it r table end.place e begin (h k end (sym (own_back k) ∙ at) (subst (λ (es : List PlaceEnd). IsFirst es k end.place) same first) n e here)),
)
  where
    own_back : (k : ℕ) → slice_get ends k ≡ slice_get r.places.items k
    own_back k = ap (λ (es : List PlaceEnd). slice_get es k) same

    own : (k : ℕ) (end : PlaceEnd) → slice_get r.places.items k ≡ Some end → slice_get ends k ≡ Some end
    own k end at = own_back k ∙ at

    within : (k : ℕ) (end : PlaceEnd) → slice_get r.places.items k ≡ Some end → k < length ends
    within k end at = slice_get_within ends k end (own k end at)

-- ---- what is tested of each

told_found : (table : List (Vec Gathered Global)) (w k : ℕ) (t : IsolationTold) → told_at table w k ≡ Some t → (row : Vec Gathered Global) × ((g : Gathered) × ((slice_get table w ≡ Some row) × ((slice_get row.items k ≡ Some g) × (told_of g ≡ t))))
told_found table w k t e = by_row (slice_get table w) refl e
  where
    by_item : (row : Vec Gathered Global) → slice_get table w ≡ Some row → (o : Option Gathered) → slice_get row.items k ≡ o → option_map told_of o ≡ Some t → (v : Vec Gathered Global) × ((g : Gathered) × ((slice_get table w ≡ Some v) × ((slice_get v.items k ≡ Some g) × (told_of g ≡ t))))
    by_item row at None f h = absurd (none h)
      where
        none : ◌≡◌ {A = Option IsolationTold} None (Some t) → ⊥
        none h = cc
    by_item row at (Some g) f h = (row, (g, (at, (f, same h))))
      where
        same : ◌≡◌ {A = Option IsolationTold} (Some (told_of g)) (Some t) → told_of g ≡ t
        same h = cc

    by_row : (o : Option (Vec Gathered Global)) → slice_get table w ≡ o → option_map told_of (slice_get (gathered_row o) k) ≡ Some t → (v : Vec Gathered Global) × ((g : Gathered) × ((slice_get table w ≡ Some v) × ((slice_get v.items k ≡ Some g) × (told_of g ≡ t))))
    by_row None f h = absurd (none k h)
      where
        none : (n : ℕ) → option_map told_of (slice_get [] n) ≡ Some t → ⊥
        none zero h = cc
        none (suc n) h = cc
    by_row (Some row) f h = by_item row f (slice_get row.items k) refl h

gathered_at : (r : Report) (table : List (Vec Gathered Global)) (w k : ℕ) (row : Vec Gathered Global) (g : Gathered) → AreGathered r table → slice_get table w ≡ Some row → slice_get row.items k ≡ Some g → (i : Isolation) × ((isolation_at r w k ≡ Some i) × (told_of g ≡ gathered_of r w k i))
gathered_at r table w k row g h at here = by (isolation_at r w k) refl (sym (ap (λ (o : Option (Vec Gathered Global)). option_map told_of (slice_get (gathered_row o) k)) at ∙ ap (option_map told_of) here) ∙ h.each w k)
  where
    by : (o : Option Isolation) → isolation_at r w k ≡ o → Some (told_of g) ≡ option_map (gathered_of r w k) o → (i : Isolation) × ((isolation_at r w k ≡ Some i) × (told_of g ≡ gathered_of r w k i))
    by None e f = absurd (none f)
      where
        none : ◌≡◌ {A = Option IsolationTold} (Some (told_of g)) None → ⊥
        none f = cc
    by (Some i) e f = (i, (e, same f))
      where
        same : ◌≡◌ {A = Option IsolationTold} (Some (told_of g)) (Some (gathered_of r w k i)) → told_of g ≡ gathered_of r w k i
        same f = cc

pub rows_decided : (s : Script) (r : Report) (table rows : List (Vec Gathered Global)) (b : Bool) → rows ≡ table → EachEntry r (λ place n e. IsOfIsolation r place e) → AreGathered r table → Decides b (AreRowsRight s r rows) → Decides b (AreGatheredRight s r)
rows_decided s r table rows b same scans gathered d = (
  λ t. record {
    each = λ w k i at. (right t w k i at).0;
    ends = λ w k i at. (right t w k i at).1;
    scans = scans;
  },
  λ h. d.1 (subst (AreRowsRight s r) (sym same) (λ w row at k g here.
      let found = gathered_at r table w k row g gathered at here in
      subst (IsToldRight s r w) (sym found.1.1) (h.each w k found.0 found.1.0, h.ends w k found.0 found.1.0))),
)
  where
    right : b ≡ true → (w k : ℕ) (i : Isolation) → isolation_at r w k ≡ Some i → IsToldRight s r w (gathered_of r w k i)
    right t w k i at =
        let found = told_found table w k (gathered_of r w k i) (gathered.each w k ∙ ap (option_map (gathered_of r w k)) at) in
        subst (IsToldRight s r w) found.1.1.1.1 (subst (AreRowsRight s r) same (d.0 t) w found.0 found.1.1.0 k found.1.0 found.1.1.1.0)

-- the whole law
pub lawful_decided : (s : Script) (r : Report) (b : Bool) → EachAnswer s r (λ by c a. isolations_by r by ≡ isolations_told by c a) → Decides b (AreGatheredRight s r) → Decides b (AreIsolationsLawful s r)
lawful_decided s r b told d = (
  λ t. (let h = d.0 t in record {
    each = h.each;
    closed = λ w k i at. (h.ends w k i at).0;
    worn = λ w k i at. (h.ends w k i at).1;
    scans = h.scans;
    commands = told;
  }),
  λ h. d.1 (record {
    each = h.each;
    ends = λ w k i at. (h.closed w k i at, h.worn w k i at);
    scans = h.scans;
  }),
)
