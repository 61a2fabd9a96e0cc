-- SPDX-License-Identifier: GPL-2.0-only
-- The steps of all workers from what is known of them at the end, and what they have in all.
use Rattle.shr_assemble.proofs.Common.{◌≡◌, ℕ, zero, suc, ◌<◌, List, [], ◌∷◌, ◌++◌, length, sym, refl, ap, subst, ◌∙◌, arith, slice_get, Some, flat_map, same_Some, none-some, slice_get_within, AllByRecursion, Sweep, View, SweepItem, sweeps_of, Shared, IsShared, WorkerState, CrewState, WorkerLog, Step, gathered, BringsWork, new_worker, HasWorked, worker_commands, command_serial}
pub use Rattle.shr_model.proofs.Lists.{there_at}
use Rattle.shr_assemble.proofs.Rows.{DidEach, IsThereItem, along}
use Rattle.shr_assemble.proofs.SweptRows.{IsWorkerRow, worker_row}

-- a list of what there is for each two elements with one number
pub choose : {A B C : Type 0} (P : ℕ → A → B → C → Type 0) (xs : List A) (ys : List B) → length ys ≡ length xs
    → ((i : ℕ) (x : A) (y : B) → slice_get xs i ≡ Some x → slice_get ys i ≡ Some y → (z : C) × P i x y z)
    → (zs : List C) × (length zs ≡ length xs) × ((i : ℕ) (x : A) (y : B) (z : C) → slice_get xs i ≡ Some x → slice_get ys i ≡ Some y → slice_get zs i ≡ Some z → P i x y z)
choose P [] ys same each = ([], refl, λ i x y z at_x at_y at_z. absurd (none-some x at_x))
choose P (x ∷ xs) [] same each = absurd (omega (arith, same))
choose {A} {B} {C} P (x ∷ xs) (y ∷ ys) same each =
    let one = each 0 x y refl refl in
    let rest = choose (λ i. P (suc i)) xs ys (omega (arith, same)) (λ i v w. each (suc i) v w) in
    (one.0 ∷ rest.0, omega (arith, rest.1), at one.0 one.1 rest.0 rest.2) where
      at : (z : C) → P 0 x y z → (zs : List C) → ((i : ℕ) (v : A) (w : B) (u : C) → slice_get xs i ≡ Some v → slice_get ys i ≡ Some w → slice_get zs i ≡ Some u → P (suc i) v w u)
          → (i : ℕ) (v : A) (w : B) (u : C) → slice_get (x ∷ xs) i ≡ Some v → slice_get (y ∷ ys) i ≡ Some w → slice_get (z ∷ zs) i ≡ Some u → P i v w u
      at z first zs others zero v w u at_v at_w at_u = subst (λ (t : A × B × C). P 0 t.0 t.1 t.2) (λ j. (same_Some x v at_v j, same_Some y w at_w j, same_Some z u at_u j)) first
      at z first zs others (suc i) v w u at_v at_w at_u = others i v w u at_v at_w at_u

-- two lists that give the same by number give the same in all
pub flat_pairs : {A B C : Type 0} (g : A → List C) (f : B → List C) (xs : List A) (ys : List B) → length ys ≡ length xs
    → ((i : ℕ) (x : A) (y : B) → slice_get xs i ≡ Some x → slice_get ys i ≡ Some y → g x ≡ f y) → flat_map g xs ≡ flat_map f ys
flat_pairs g f [] [] same each = refl
flat_pairs g f [] (y ∷ ys) same each = absurd (omega (arith, same))
flat_pairs g f (x ∷ xs) [] same each = absurd (omega (arith, same))
flat_pairs g f (x ∷ xs) (y ∷ ys) same each = ap (λ l. l ++ flat_map g xs) (each 0 x y refl refl) ∙ ap (λ l. f y ++ l) (flat_pairs g f xs ys (omega (arith, same)) (λ i v w. each (suc i) v w))

-- the steps of each worker lead from the first state to its last
pub record IsCrew (x : Shared) (opened : View) (popped : ℕ → List SweepItem) (logs : List WorkerLog) (lasts : List CrewState) (workers : List (List Step)) : Type 0 where
  pub lasts_are : length lasts ≡ length logs
  pub workers_are : length workers ≡ length logs
  pub each : (i : ℕ) (log : WorkerLog) (last : CrewState) (mine : List Step) → slice_get logs i ≡ Some log → slice_get lasts i ≡ Some last → slice_get workers i ≡ Some mine
      → IsWorkerRow x.script (command_serial i) (worker_commands x.script i) (sweeps_of x.script i) (popped i) log.answers.items (new_worker opened i) last mine

pub crew : (x : Shared) → IsShared x → DidEach x → (opened : View) (popped : ℕ → List SweepItem) (logs : List WorkerLog) (lasts : List CrewState) → length lasts ≡ length logs → length logs ≡ length x.script.workers.items
    → ((i : ℕ) → i < length logs → (z : Sweep) → x.script.sweep ≡ Some z → AllByRecursion (IsThereItem x.script) (popped i))
    → ((i : ℕ) (log : WorkerLog) (last : CrewState) → slice_get logs i ≡ Some log → slice_get lasts i ≡ Some last → HasWorked x opened i log (popped i) last)
    → (workers : List (List Step)) × IsCrew x opened popped logs lasts workers
crew x shared did opened popped logs lasts same all there worked =
    let t = choose (λ (i : ℕ) (log : WorkerLog) (last : CrewState) (mine : List Step).
    IsWorkerRow x.script (command_serial i) (worker_commands x.script i) (sweeps_of x.script i) (popped i) log.answers.items (new_worker opened i) last mine) logs lasts same
    (λ i log last at_log at_last. let lt = slice_get_within logs i log at_log in worker_row x shared did opened i log (popped i) last (omega (arith, lt, all)) (there i lt) (worked i log last at_log at_last)) in
    (t.0, record { lasts_are = same; workers_are = t.1; each = t.2 })

-- what the last states have of a list that each step makes longer, and that is empty at the start, the steps have
pub all_of : {A : Type 0} (g : WorkerState → List A) (h : Step → List A) → ((x : Step) → BringsWork x.before x.after x.work → g x.after ≡ g x.before ++ h x)
    → (x : Shared) (opened : View) (popped : ℕ → List SweepItem) (logs : List WorkerLog) (lasts : List CrewState) (workers : List (List Step)) → ((i : ℕ) → g (new_worker opened i).seats ≡ []) → IsCrew x opened popped logs lasts workers
    → flat_map (λ (w : CrewState). g w.seats) lasts ≡ gathered h workers
all_of g h one x opened popped logs lasts workers none crew = flat_pairs (λ (w : CrewState). g w.seats) (λ (mine : List Step). flat_map h mine) lasts workers (crew.workers_are ∙ sym crew.lasts_are)
    (λ i last mine at_last at_mine.
    let log = there_at logs i (omega (arith, crew.lasts_are, slice_get_within lasts i last at_last)) in
    let r = crew.each i log.0 last mine log.1 at_last at_mine in
    ap g (sym r.ends) ∙ (along g h one (new_worker opened i).seats mine r.chained ∙ ap (λ l. l ++ flat_map h mine) (none i)))
