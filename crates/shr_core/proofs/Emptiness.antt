-- SPDX-License-Identifier: GPL-2.0-only
-- What an entry leaves of an empty list.
use Rattle.shr_core.proofs.Common.{◌≡◌, ◌⊎◌, ℕ, zero, suc, ◌≢◌, Bool, List, [], ◌∷◌, length, refl, ap, ◌∙◌, inl, inr, arith, append-nil, Object, Serial, Policy, Entry, Add, Look, Drop, Pin, Scan, MovedIn, Closed, Drained, step}
use Rattle.shr_model.specs.Scan.{scan_of, scan_from}

-- a scan of nothing leaves nothing
scan_none : (policy : Policy) (asked : ℕ) → (scan_of policy asked []).items ≡ []
unfolding scan_from
scan_none policy zero = refl
scan_none policy (suc asked) = refl

-- an entry that is no Add and moves nothing leaves an empty list empty
pub step_none : (moved : List Object) (e : Entry) → ((by : Serial) (birth : ℕ) (key value : List ℕ) (added : Bool) → e ≡ Add by birth added key value → ⊥) → moved ≡ [] → step moved [] e ≡ []
step_none moved (Add by birth added key value) other none = absurd (other by birth key value added refl)
step_none moved (Look by birth key hit) other none = refl
step_none moved (Drop by birth key kind) other none = refl
step_none moved (Pin by birth key pinned hit) other none = refl
step_none moved (Scan worker walk asked policy visits freed stopped) other none = scan_none policy asked
step_none moved (MovedIn child objects) other none = append-nil moved ∙ none
step_none moved Closed other none = refl
step_none moved (Drained by objects) other none = refl

-- a list is empty or not
pub empty_or : (xs : List Object) → (xs ≡ []) ⊎ (xs ≢ [])
empty_or [] = inl refl
empty_or (x ∷ xs) = inr (λ e. let d : length (x ∷ xs) ≡ 0 = ap (λ (l : List Object). length l) e in omega (arith, d))
