-- SPDX-License-Identifier: GPL-2.0-only
-- That there is no Scan entry of a walk but those of passes, list by list.
use Rattle.shr_audit_walks.proofs.ScansCommon.{◌≡◌, ℕ, zero, suc, ◌+◌, ◌<◌, ◌≤◌, Bool, true, false, List, [], ◌∷◌, length, Some, refl, sym, subst, inl, inr, arith, ◌==◌, slice_get, Decides, cases_Bool, eq-eqb, eqb-true, PlaceEnd, Entry, Add, Look, Drop, Pin, Scan, MovedIn, Closed, Drained, Place, Report, HasNumbers, IsEntryNumbered, IsListNumbered, IsNumbered, IsFirst, all_at, clash, each_in, IsEntryOfPass, same_or_below, AreOfPasses}
use Rattle.shr_laws.specs.Parts.{EachEntry}
use Rattle.shr_laws.specs.WalksLawful.{IsOfPass}
use Rattle.shr_audit_case.proofs.Eachs.{each_entry_of}
use Rattle.shr_audit_walks.proofs.Passed.{is_passed}

-- what an entry's key says is what the law asks
by_law : (r : Report) (place : Place) (e : Entry) → HasNumbers r → IsNumbered place → IsEntryNumbered e → IsEntryOfPass r place e → IsOfPass r place e
by_law r place (Add by birth added key value) numbers np h t = tt
by_law r place (Look by birth key hit) numbers np h t = tt
by_law r place (Drop by birth key kind) numbers np h t = tt
by_law r place (Pin by birth key pinned hit) numbers np h t = tt
by_law r place (Scan worker n asked policy visits freed stopped) numbers np h t = λ walk. (is_passed r worker n place numbers h.0 np).0 (t walk)
by_law r place (MovedIn child objects) numbers np h t = tt
by_law r place Closed numbers np h t = tt
by_law r place (Drained by objects) numbers np h t = tt

by_key : (r : Report) (place : Place) (e : Entry) → HasNumbers r → IsNumbered place → IsEntryNumbered e → IsOfPass r place e → IsEntryOfPass r place e
by_key r place (Add by birth added key value) numbers np h t = tt
by_key r place (Look by birth key hit) numbers np h t = tt
by_key r place (Drop by birth key kind) numbers np h t = tt
by_key r place (Pin by birth key pinned hit) numbers np h t = tt
by_key r place (Scan worker n asked policy visits freed stopped) numbers np h t = λ walk. (is_passed r worker n place numbers h.0 np).1 (t walk)
by_key r place (MovedIn child objects) numbers np h t = tt
by_key r place Closed numbers np h t = tt
by_key r place (Drained by objects) numbers np h t = tt

-- the list with an index, if it is the first one of its place, has entries of passes alone
abbrev pub IsListOfPasses : Report → List PlaceEnd → ℕ → PlaceEnd → Type 0
IsListOfPasses r ends k end = IsFirst ends k end.place → AreOfPasses r end.place end.entries.items

abbrev NoOthers : Report → Type 0
NoOthers r = EachEntry r (λ place n e. IsOfPass r place e)

list_numbered : (r : Report) (k : ℕ) (end : PlaceEnd) → HasNumbers r → slice_get r.places.items k ≡ Some end → IsListNumbered end
list_numbered r k end numbers at = each_in IsListNumbered r.places.items numbers.places k end at

entry_numbered : (end : PlaceEnd) (n : ℕ) (e : Entry) → IsListNumbered end → slice_get end.entries.items n ≡ Some e → IsEntryNumbered e
entry_numbered end n e numbered at = each_in IsEntryNumbered end.entries.items numbered.entries n e at

pub others_all : (r : Report) (ends : List PlaceEnd) (i : ℕ) → HasNumbers r → ends ≡ r.places.items → length ends ≤ i
    → ((k : ℕ) (end : PlaceEnd) → k < i → slice_get ends k ≡ Some end → IsListOfPasses r ends k end) → Decides true (NoOthers r)
others_all r ends i numbers e over before = each_entry_of r (λ place n x. IsOfPass r place x) true (
  λ t k end at first n x here.
      let told : (k : ℕ) (y : PlaceEnd) → slice_get r.places.items k ≡ Some y → IsListOfPasses r r.places.items k y =
      subst (λ (xs : List PlaceEnd). (k : ℕ) (y : PlaceEnd) → slice_get xs k ≡ Some y → IsListOfPasses r xs k y) e ((all_at (IsListOfPasses r ends) ends i over before).0 refl) in
      let numbered = list_numbered r k end numbers at in
      by_law r end.place x numbers numbered.place (entry_numbered end n x numbered here) (told k end at first n x here),
  λ h. refl,
)

one_there : (ends : List PlaceEnd) (k : ℕ) → k < length ends → (end : PlaceEnd) × (slice_get ends k ≡ Some end)
one_there [] k lt = absurd (omega arith)
one_there (x ∷ xs) zero lt = (x, refl)
one_there (x ∷ xs) (suc k) lt = one_there xs k (omega arith)

pub others_fail : (r : Report) (ends : List PlaceEnd) (k : ℕ) (b : Bool) → HasNumbers r → ends ≡ r.places.items → k < length ends
    → ((end : PlaceEnd) → slice_get ends k ≡ Some end → Decides b (IsListOfPasses r ends k end)) → b ≡ false → Decides false (NoOthers r)
others_fail r ends k b numbers e lt dec f =
    let there = one_there ends k lt in
    let end = there.0 in
    let at : slice_get r.places.items k ≡ Some end = subst (λ (xs : List PlaceEnd). slice_get xs k ≡ Some end) e there.1 in
    let numbered = list_numbered r k end numbers at in
    each_entry_of r (λ place n x. IsOfPass r place x) false (
      λ t. absurd cc,
      λ h. absurd (clash b ((dec end there.1).1 (λ first n x here.
          by_key r end.place x numbers numbered.place (entry_numbered end n x numbered here)
          (h k end at (subst (λ (xs : List PlaceEnd). IsFirst xs k end.place) e first) n x here))) f),
    )

pub others_more : (r : Report) (ends : List PlaceEnd) (k : ℕ) (b : Bool) → ((end : PlaceEnd) → slice_get ends k ≡ Some end → Decides b (IsListOfPasses r ends k end)) → b ≡ true
    → ((j : ℕ) (end : PlaceEnd) → j < k → slice_get ends j ≡ Some end → IsListOfPasses r ends j end)
    → (j : ℕ) (end : PlaceEnd) → j < k + 1 → slice_get ends j ≡ Some end → IsListOfPasses r ends j end
others_more r ends k b dec t before j end lt at = elim (cases_Bool (j == k)) [
  | inl same ↦ let is : j ≡ k = eqb-true j k same in subst (λ (i : ℕ). IsListOfPasses r ends i end) (sym is) ((dec end (subst (λ (i : ℕ). slice_get ends i ≡ Some end) is at)).0 t)
  | inr other ↦ before j end (same_or_below j k lt (λ is. clash (j == k) (eq-eqb j k is) other)) at
]

-- what is so of the place and the entries that were read is so of the list
pub list_decided : (r : Report) (ends : List PlaceEnd) (k : ℕ) (end read : PlaceEnd) (entries : List Entry) (b : Bool) → IsFirst ends k end.place → read ≡ end → entries ≡ end.entries.items
    → Decides b (AreOfPasses r read.place entries) → Decides b (IsListOfPasses r ends k end)
list_decided r ends k end read entries b first here there d =
    let found : Decides b (AreOfPasses r end.place end.entries.items) =
    subst (λ (es : List Entry). Decides b (AreOfPasses r end.place es)) there (subst (λ (x : PlaceEnd). Decides b (AreOfPasses r x.place entries)) here d) in
    (λ t f. found.0 t, λ h. found.1 (h first))
