-- SPDX-License-Identifier: GPL-2.0-only
-- Loops over what a report prints: what is so of each answer, and of each entry of a pool's journal.
use Rattle.shr_audit_pools.proofs.Common.{◌≡◌, inl, inr, ℕ, ◌+◌, ◌<◌, ◌≤◌, Bool, List, get_or, Option, Some, None, refl, ap, subst, ◌∙◌, arith, slice_get, Decides, cases_Bool, IsNonDecreasingBy-from_all_adjacent, get_or_from_slice_get, slice_get-get_or, slice_get_within, UnitsEnd, PlainEntry, Place, Answered, Script, is_place_same, is_place_itself, is_place, Report, commands_of, EachUnits, units_entries, units_place, below_of, AreEntriesRight, HasRight, IsEntryRight, AreShelved, journal_printed_at, units_key, none_some}
use Rattle.shr_base.specs.declared.scripts.Command.{Command}
use Rattle.shr_audit_pools.proofs.Shelved.{find_first, found_at}

-- ---- answers

pub right_here : (s : Script) (r : Report) (worker n : ℕ) (commands : List Command) (a : Answered) (b : Bool) → commands ≡ commands_of s worker → Decides b (HasRight s r worker commands n a) → Decides b (HasRight s r worker (commands_of s worker) n a)
right_here s r worker n commands a b e d = subst (λ (cs : List Command). Decides b (HasRight s r worker cs n a)) e d

-- ---- entries of pools' journals

strictly : (ends : List UnitsEnd) → AreShelved ends → (i j : ℕ) (u v : UnitsEnd) → i < j → slice_get ends i ≡ Some u → slice_get ends j ≡ Some v → units_key u < units_key v
strictly ends h i j u v lt at_i at_j =
    let within = slice_get_within ends j v at_j in
    let w = get_or ends (i + 1) u in
    let at_next : slice_get ends (i + 1) ≡ Some w = slice_get-get_or ends (i + 1) u (omega (arith, within, lt)) in
    let up = h.rising i u w at_i at_next in
    let all = IsNonDecreasingBy-from_all_adjacent units_key ends (below_of (λ (x y : UnitsEnd). units_key x ≤ units_key y) ends (λ n x y a b. let l = h.rising n x y a b in omega (arith, l))) in
    let le = all (i + 1) j u (omega (arith, lt)) within in
    let last : units_key (get_or ends j u) ≡ units_key v = ap units_key (get_or_from_slice_get ends j v u at_j) in omega (arith, up, le, last)

-- a journal that is printed is found at its place
pub own_journal : (ends : List UnitsEnd) → AreShelved ends → (k : ℕ) (u : UnitsEnd) → slice_get ends k ≡ Some u → journal_printed_at ends (units_place u) ≡ Some u
own_journal ends h k u at_k = find_first ends (units_place u) k u at_k (is_place_itself (units_place u)) (λ n x lt at_n. elim (cases_Bool (is_place (units_place x) (units_place u))) [
  | inl t ↦ absurd (let same = is_place_same (units_place x) (units_place u) t in let pool : x.pool ≡ u.pool = ap (λ (q : Place). q.id) same in let node : x.node ≡ u.node = ap (λ (q : Place). q.node) same in let up = strictly ends h n k x u lt at_n at_k in omega (arith, pool, node, up))
  | inr f ↦ f
])

pub each_units_of : (s : Script) (r : Report) (b : Bool) → AreShelved r.units.items → Decides b ((k : ℕ) (u : UnitsEnd) → slice_get r.units.items k ≡ Some u → AreEntriesRight s r u) → Decides b (EachUnits r (IsEntryRight s r))
each_units_of s r b shelved d = (
  λ t place n e at_n. by (d.0 t) place n e (journal_printed_at r.units.items place) refl at_n,
  λ h. d.1 (λ k u at_k n e at_n. h (units_place u) n e (ap (λ (o : Option UnitsEnd). slice_get (units_entries o) n) (own_journal r.units.items shelved k u at_k) ∙ at_n)),
)
  where
    by : ((k : ℕ) (u : UnitsEnd) → slice_get r.units.items k ≡ Some u → AreEntriesRight s r u) → (place : Place) (n : ℕ) (e : PlainEntry) (o : Option UnitsEnd) → journal_printed_at r.units.items place ≡ o → slice_get (units_entries o) n ≡ Some e → IsEntryRight s r place n e
    by h place n e None here f = absurd (none_some e f)
    by h place n e (Some u) here f = let found = found_at r.units.items place u here in subst (λ (q : Place). IsEntryRight s r q n e) found.1.1 (h found.0 u found.1.0 n e f)
