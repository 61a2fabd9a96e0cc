-- SPDX-License-Identifier: GPL-2.0-only
-- Declarations registered one after another.
use Rattle.shr_tables.proofs.Common.{◌≡◌, ℕ, zero, suc, ◌+◌, List, [], ◌++◌, Bool, true, false, sym, refl, ap, subst, ◌∙◌, arith, slice_get, Some, CacheDecl, View, opener, AreEntered, Enters, EntersIf, is_on}
use Rattle.shr_core.specs.Parts.{Tried}
use Rattle.shr_seats.specs.Standing.{at_first}
use Rattle.shr_core.proofs.Owing.{still_none}

-- one cache more that is on
pub entered_more : (cs : List CacheDecl) (n : ℕ) (c : CacheDecl) (v u w : View) → slice_get cs n ≡ Some c → c.on ≡ true → AreEntered cs n v u → Enters n u w → AreEntered cs (n + 1) v w
entered_more cs n c v u w at on before enters = let next : suc n ≡ n + 1 = omega arith in
    let last : EntersIf (is_on (slice_get cs n)) n u w = subst (λ (b : Bool). EntersIf b n u w) (sym (ap is_on at ∙ on)) enters in
    subst (λ (k : ℕ). AreEntered cs k v w) next (u, before, last)

-- one that is off
pub entered_less : (cs : List CacheDecl) (n : ℕ) (c : CacheDecl) (v u : View) → slice_get cs n ≡ Some c → c.on ≡ false → AreEntered cs n v u → AreEntered cs (n + 1) v u
entered_less cs n c v u at off before = let next : suc n ≡ n + 1 = omega arith in
    let last : EntersIf (is_on (slice_get cs n)) n u u = subst (λ (b : Bool). EntersIf b n u u) (sym (ap is_on at ∙ off)) refl in
    subst (λ (k : ℕ). AreEntered cs k v u) next (u, before, last)

-- a registration looks nothing up
pub still_untried : (n : ℕ) (u w : View) → Enters n u w → u.claims.attempts ≡ [] → w.claims.attempts ≡ []
still_untried n u w enters none = enters.gains.adds.attempts ∙ ap (λ (l : List Tried). l ++ []) none

-- and leaves no place owed
unowed_if : (b : Bool) (n : ℕ) (u w : View) → EntersIf b n u w → u.marks.owed ≡ [] → w.marks.owed ≡ []
unowed_if true n u w enters none = still_none u w none enters.gains.owed
unowed_if false n u w same none = ap (λ (v : View). v.marks.owed) same ∙ none

pub entered_unowed : (cs : List CacheDecl) (n : ℕ) (w : View) → AreEntered cs n opener w → w.marks.owed ≡ []
entered_unowed cs zero w same = ap (λ (v : View). v.marks.owed) same
entered_unowed cs (suc n) w entered = unowed_if (is_on (slice_get cs n)) n entered.0 w entered.2 (entered_unowed cs n entered.0 entered.1)

-- and the seat stands as at the opening
stands_if : (b : Bool) (n : ℕ) (u w : View) → EntersIf b n u w → w.standing ≡ u.standing
stands_if true n u w enters = enters.gains.adds.standing
stands_if false n u w same = ap (λ (v : View). v.standing) same

pub stands : (cs : List CacheDecl) (n : ℕ) (w : View) → AreEntered cs n opener w → w.standing ≡ at_first
stands cs zero w same = ap (λ (v : View). v.standing) same
stands cs (suc n) w (u, before, one) = stands_if (is_on (slice_get cs n)) n u w one ∙ stands cs n u before
