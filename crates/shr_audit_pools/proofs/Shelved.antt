-- SPDX-License-Identifier: GPL-2.0-only
-- Journals of pools in the order of their places.
use Rattle.shr_audit_pools.proofs.Common.{◌≡◌, ◌≢◌, ◌⊎◌, inl, inr, ℕ, zero, suc, ◌+◌, ◌-◌, ◌<◌, ◌≤◌, Bool, true, false, cond, List, [], ◌∷◌, length, get_or, Option, Some, None, refl, sym, ap, ◌∙◌, arith, slice_get, IsPartitionedBy, cases_Bool, cases_order, IsNonDecreasingBy-from_all_adjacent, IsPartitionedBy-ltb, same_Some, slice_get-get_or, slice_get_within, nat_lt, UnitsEnd, Place, is_place_same, is_place_itself, is_place, units_place, below_of, PoolPlace, AreShelved, pool_key, named_place, journal_printed_at, units_key}

pub parted : (ends : List UnitsEnd) (key : ℕ) → AreShelved ends → IsPartitionedBy (λ (u : UnitsEnd). nat_lt (units_key u) key) ends
parted ends key h = IsPartitionedBy-ltb units_key ends key (IsNonDecreasingBy-from_all_adjacent units_key ends (below_of (λ (u v : UnitsEnd). units_key u ≤ units_key v) ends (λ n u v a b. let lt = h.rising n u v a b in omega (arith, lt))))

-- ---- places by their numbers

pub same_place : (u : UnitsEnd) (p : PoolPlace) → u.node < 256 → p.node < 256 → units_key u ≡ pool_key p.pool p.node → units_place u ≡ named_place p
same_place u p a b e =
    let pool : u.pool ≡ p.pool = omega (arith, a, b, e) in
    let node : u.node ≡ p.node = omega (arith, a, b, e) in
    λ i. record { id = pool i; node = node i; group = 0 }

apart : (u : UnitsEnd) (p : PoolPlace) → units_key u ≢ pool_key p.pool p.node → is_place (units_place u) (named_place p) ≡ false
apart u p ne = elim (cases_Bool (is_place (units_place u) (named_place p))) [
  | inl t ↦ absurd (ne (let same = is_place_same (units_place u) (named_place p) t in let pool : u.pool ≡ p.pool = ap (λ (q : Place). q.id) same in let node : u.node ≡ p.node = ap (λ (q : Place). q.node) same in omega (arith, pool, node)))
  | inr f ↦ f
]

-- ---- the journal that is printed for a place

pub find_first : (ends : List UnitsEnd) (place : Place) (k : ℕ) (u : UnitsEnd) → slice_get ends k ≡ Some u → is_place (units_place u) place ≡ true
    → ((n : ℕ) (x : UnitsEnd) → n < k → slice_get ends n ≡ Some x → is_place (units_place x) place ≡ false) → journal_printed_at ends place ≡ Some u
find_first [] place k u at own other = let lt = slice_get_within [] k u at in absurd (omega (arith, lt))
find_first (e ∷ es) place zero u at own other =
    let here : is_place (units_place e) place ≡ true = ap (λ (x : UnitsEnd). is_place (units_place x) place) (same_Some e u at) ∙ own in
    ap (λ (b : Bool). cond b (Some e) (journal_printed_at es place)) here ∙ at
find_first (e ∷ es) place (suc k) u at own other =
    ap (λ (b : Bool). cond b (Some e) (journal_printed_at es place)) (other 0 e (omega arith) refl)
    ∙ find_first es place k u at own (λ n x lt there. other (suc n) x (omega (arith, lt)) there)

pub find_none : (ends : List UnitsEnd) (place : Place) → ((n : ℕ) (x : UnitsEnd) → slice_get ends n ≡ Some x → is_place (units_place x) place ≡ false) → journal_printed_at ends place ≡ None
find_none [] place other = refl
find_none (e ∷ es) place other = ap (λ (b : Bool). cond b (Some e) (journal_printed_at es place)) (other 0 e refl) ∙ find_none es place (λ n x there. other (suc n) x there)

-- what is found is printed somewhere, for that place
pub found_at : (ends : List UnitsEnd) (place : Place) (u : UnitsEnd) → journal_printed_at ends place ≡ Some u → (k : ℕ) × ((slice_get ends k ≡ Some u) × (units_place u ≡ place))
found_at [] place u e = absurd (no e)
  where
    no : ◌≡◌ {A = Option UnitsEnd} None (Some u) → ⊥
    no e = cc
found_at (x ∷ xs) place u e = by (λ more. found_at xs place u more) (is_place (units_place x) place) refl
  where
    by : (journal_printed_at xs place ≡ Some u → (k : ℕ) × ((slice_get xs k ≡ Some u) × (units_place u ≡ place)))
        → (b : Bool) → is_place (units_place x) place ≡ b → (k : ℕ) × ((slice_get (x ∷ xs) k ≡ Some u) × (units_place u ≡ place))
    by more true own =
        let here : ◌≡◌ {A = Option UnitsEnd} (Some x) (Some u) = sym (ap (λ (b : Bool). cond b (Some x) (journal_printed_at xs place)) own) ∙ e in
        (0, (here, ap units_place (sym (same_Some x u here)) ∙ is_place_same (units_place x) place own))
    by more false other =
        let later = more (sym (ap (λ (b : Bool). cond b (Some x) (journal_printed_at xs place)) other) ∙ e) in
        (suc later.0, (later.1.0, later.1.1))

-- ---- by the index

pub index_some : (ends : List UnitsEnd) (p : PoolPlace) (k : ℕ) (x : UnitsEnd) → AreShelved ends → p.node < 256 → k < length ends → units_key (get_or ends k x) ≡ pool_key p.pool p.node
    → ((n : ℕ) (u : UnitsEnd) → n < k → slice_get ends n ≡ Some u → units_key u < pool_key p.pool p.node) → slice_get ends k ≡ journal_printed_at ends (named_place p)
index_some ends p k x h small lt same before =
    let u = get_or ends k x in
    let at : slice_get ends k ≡ Some u = slice_get-get_or ends k x lt in
    let place : units_place u ≡ named_place p = same_place u p (h.narrow k u at) small same in
    at ∙ sym (find_first ends (named_place p) k u at (ap (λ (q : Place). is_place (units_place u) q) (sym place) ∙ is_place_itself (units_place u))
    (λ n v less there. apart v p (λ e. absurd (let b = before n v less there in omega (arith, b, e)))))

pub index_none : (ends : List UnitsEnd) (p : PoolPlace) (k : ℕ) → AreShelved ends
    → ((n : ℕ) (u : UnitsEnd) → n < k → slice_get ends n ≡ Some u → units_key u < pool_key p.pool p.node)
    → ((n : ℕ) (u : UnitsEnd) → k ≤ n → slice_get ends n ≡ Some u → pool_key p.pool p.node ≤ units_key u)
    → ((u : UnitsEnd) → slice_get ends k ≡ Some u → units_key u ≢ pool_key p.pool p.node) → journal_printed_at ends (named_place p) ≡ None
index_none ends p k h before behind here = find_none ends (named_place p) (λ n u at. apart u p (differs n u at (cases_order n k)))
  where
    differs : (n : ℕ) (u : UnitsEnd) → slice_get ends n ≡ Some u → (n ≡ k) ⊎ ((n < k) ⊎ (k < n)) → units_key u ≢ pool_key p.pool p.node
    differs n u at (inl e) = here u (ap (slice_get ends) (sym e) ∙ at)
    differs n u at (inr (inl lt)) = λ e. let b = before n u lt at in omega (arith, b, e)
    differs n u at (inr (inr lt)) = λ e.
        let within = slice_get_within ends n u at in
        let v = get_or ends (n - 1) u in
        let there : slice_get ends (n - 1) ≡ Some v = slice_get-get_or ends (n - 1) u (omega (arith, within, lt)) in
        let next : n - 1 + 1 ≡ n = omega (arith, lt) in
        let up = h.rising (n - 1) v u there (ap (slice_get ends) next ∙ at) in
        let low = behind (n - 1) v (omega (arith, lt)) there in omega (arith, up, low, e)
