-- SPDX-License-Identifier: GPL-2.0-only
-- What holds of all that the first seats have in the end holds of what each worker had after each step.
use Rattle.shr_assemble.proofs.Common.{◌≡◌, ℕ, zero, suc, List, [], ◌∷◌, ◌++◌, get_or, sym, subst, slice_get, Some, All, flat_map, same_Some, none-some, slice_get-get_or, Each, Begins, WorkerState, Step, IsAmong, AreStepsChained, worker_state_after, Grows, BringsWork, some_at}
use Rattle.shr_lawful.proofs.Gathering.{grows_none, grows_then, step_grows, among_right, among_flat, among_begins, each_among, after_along}
use Rattle.shr_assemble.proofs.Rows.{along}

-- a list that each step makes longer is after each step a beginning of the last one
pub after_begins : {A : Type 0} (g : WorkerState → List A) (h : Step → List A) → ((x : Step) → BringsWork x.before x.after x.work → g x.after ≡ g x.before ++ h x)
    → (t : WorkerState) (mine : List Step) (k : ℕ) (y : Step) → AreStepsChained t mine → slice_get mine k ≡ Some y → Begins (g y.after) (g (worker_state_after t mine))
after_begins g h one t [] k y c e = absurd (none-some y e)
after_begins g h one t (x ∷ xs) zero y c e = subst (λ (z : Step). Begins (g z.after) (g (worker_state_after x.after xs))) (same_Some x y e) (flat_map h xs, along g h one x.after xs c.2)
after_begins g h one t (x ∷ xs) (suc k) y c e = after_begins g h one x.after xs k y c.2 e

pub after_grows : (t : WorkerState) (mine : List Step) (k : ℕ) (y : Step) → AreStepsChained t mine → slice_get mine k ≡ Some y → Grows y.after (worker_state_after t mine)
after_grows = after_along Grows grows_none grows_then (λ x b. step_grows x b)

-- of each element that one of the last states has, and so of each that began it
pub each_last : {A S : Type 0} (P : A → Type 0) (g : S → List A) (lasts : List S) (all first : List A) → all ≡ first ++ flat_map g lasts → Each P all
    → (i : ℕ) (last : S) → slice_get lasts i ≡ Some last → (some : List A) → Begins some (g last) → Each P some
each_last P g lasts all first same holds i last at some begins j z e =
    each_among P all z holds (subst (IsAmong z) (sym same) (among_right first (flat_map g lasts) z (among_flat g lasts last z (i, some_at lasts i last at) (among_begins some (g last) z begins (j, e)))))

pub all_from_each : {A : Type 0} (P : A → Type 0) (xs : List A) → Each P xs → All P xs
all_from_each P xs all j d lt = all j (get_or xs j d) (some_at xs j (get_or xs j d) (slice_get-get_or xs j d lt))
