-- SPDX-License-Identifier: GPL-2.0-only
-- What holds of each item of a list that is read from its front.
use Rattle.shr_report.proofs.Common.{◌≡◌, ℕ, ◌+◌, ◌<◌, ◌≤◌, List, [], ◌∷◌, length, take, drop, get_or, sym, subst, ◌^◌, ◌⊎◌, inl, inr, arith, AllByRecursion, take_more, take-append-drop, each_append, each_weaker, WorkerPart, WalkRecord, Carry, PlainWalk, Isolation, Report, IsPartWell, IsPoolAmountWell, IsWellFormed, Logs, after_command, logs_of, logs_from, AreNumberedTo, IsAnsweredNumbered, IsWalkNumbered, IsCarryNumbered, IsPlainNumbered, IsIsolationNumbered, IsAmountNumbered, IsListNumbered, AreUnitsNumbered, IsMapNumbered, IsUseNumbered, IsPartNumbered, HasNumbers, OnOk, Result, Ok, Err, take_all, IsAmountWell}
use Rattle.std.proofs.Math.Seq.{take-add}
use Rattle.shr_report.specs.declared.logs.Printed.{Printed}
use Rattle.shr_report.proofs.Sections.{all_taken}
use Rattle.shr_report.proofs.PartsBack.{Sorted, sorted_left, none_left, all_second}
use Rattle.shr_report.proofs.WorkersBack.{sorted_from}

-- two facts of a result that is Ok give a third
pub on_ok_both : {T E A B C : Type 0} (r : Result T E) → (A → B → C) → OnOk r A → OnOk r B → OnOk r C
on_ok_both (Ok x) step a b = step a b
on_ok_both (Err e) step a b = tt

-- one item more was read
pub each_more : {X : Type 0} (P : X → Type 0) (xs : List X) (i : ℕ) (x : X) → i < length xs → x ≡ get_or xs i x → AllByRecursion P (take i xs) → P x → AllByRecursion P (take (i + 1) xs)
each_more P xs i x lt is so_far here = subst (AllByRecursion P) (sym (take_more xs i x lt)) (each_append P (take i xs) (get_or xs i x ∷ []) so_far (subst P is here, tt))

-- the same, where the item is read with a default
pub each_more_at : {X : Type 0} (P : X → Type 0) (xs : List X) (i : ℕ) (d : X) → i < length xs → AllByRecursion P (take i xs) → P (get_or xs i d) → AllByRecursion P (take (i + 1) xs)
each_more_at P xs i d lt so_far here = subst (AllByRecursion P) (sym (take_more xs i d lt)) (each_append P (take i xs) (get_or xs i d ∷ []) so_far (here, tt))

-- some items more were read
pub each_joined : {X : Type 0} (P : X → Type 0) (xs : List X) (i n : ℕ) → AllByRecursion P (take i xs) → AllByRecursion P (take n (drop i xs)) → AllByRecursion P (take (i + n) xs)
each_joined P xs i n so_far here = subst (AllByRecursion P) (sym (take-add i n xs)) (each_append P (take i xs) (take n (drop i xs)) so_far here)

-- all were read
pub each_done : {X : Type 0} (P : X → Type 0) (xs : List X) (i : ℕ) → length xs ≤ i → AllByRecursion P (take i xs) → AllByRecursion P xs
each_done P xs i le so_far = subst (AllByRecursion P) (take_all i xs le) so_far

-- the others were read
pub each_rest : {X : Type 0} (P : X → Type 0) (xs : List X) (i : ℕ) → AllByRecursion P (take i xs) → AllByRecursion P (drop i xs) → AllByRecursion P xs
each_rest P xs i so_far rest = subst (AllByRecursion P) (take-append-drop i xs) (each_append P (take i xs) (drop i xs) so_far rest)

-- none is left behind the last command, so all were read
pub each_answered : {X : Type 0} (P : X → Type 0) (command : X → ℕ) (answers at k : ℕ) (xs : List X) → AllByRecursion (λ x. command x < answers) xs → answers ≤ k → Sorted command k (drop at xs) → AllByRecursion P (take at xs) → AllByRecursion P xs
each_answered P command answers at k xs answered le left so_far =
    let none = none_left command k answers (drop at xs) left (all_taken (λ x. command x < answers) at xs answered).1 le in
    subst (AllByRecursion P) (take-append-drop at xs) (each_append P (take at xs) (drop at xs) so_far (subst (AllByRecursion P) (sym none) tt))

-- what is left of all that a worker has besides its answers is of commands from this one on
pub record AreLeft (k : ℕ) (l : Logs) : Type 0 where
  pub isolations : Sorted (λ (i : Isolation). i.by.command) k l.isolations
  pub walks : Sorted (λ (w : WalkRecord). w.by.command) k l.walks
  pub carries : Sorted (λ (c : Carry). c.by.command) k l.carries
  pub plain : Sorted (λ (w : PlainWalk). w.by.command) k l.plain

-- at the front that is all
pub left_first : (worker : ℕ) (part : WorkerPart) → IsPartWell worker part → AreLeft 0 (logs_of part)
left_first worker part h = record {
  isolations = sorted_from (λ (i : Isolation). i.by.command) part.isolations.items h.isolations.order;
  walks = sorted_from (λ (w : WalkRecord). w.by.command) part.walks.items h.walk_order;
  carries = sorted_from (λ (c : Carry). c.by.command) part.carries.items h.carry_order;
  plain = sorted_from (λ (w : PlainWalk). w.by.command) part.plain.items h.plain.order;
}

-- behind a command they are of later ones
pub left_next : (k : ℕ) (l : Logs) → AreLeft k l → AreLeft (k + 1) (after_command k l)
left_next k l h = record {
  isolations = sorted_left (λ (i : Isolation). i.by.command) k l.isolations h.isolations;
  walks = sorted_left (λ (w : WalkRecord). w.by.command) k l.walks h.walks;
  carries = sorted_left (λ (c : Carry). c.by.command) k l.carries h.carries;
  plain = sorted_left (λ (w : PlainWalk). w.by.command) k l.plain h.plain;
}

-- all of a part that is well formed is printed, so it has its numbers
pub part_numbers : (worker k : ℕ) (part : WorkerPart) (at : Printed) → IsPartWell worker part → length part.answers.items ≤ k → AreLeft k (logs_from part at) → AreNumberedTo part at
    → AllByRecursion IsAnsweredNumbered part.answers.items → IsPartNumbered part
part_numbers worker k part at h le left so_far answers = record {
  answers = answers;
  walks = each_answered IsWalkNumbered (λ (w : WalkRecord). w.by.command) (length part.answers.items) at.walks k part.walks.items
      (all_second (λ (w : WalkRecord). w.by.worker ≡ worker) (λ (w : WalkRecord). w.by.command < length part.answers.items) part.walks.items h.walkers) le left.walks so_far.walks;
  carries = each_answered IsCarryNumbered (λ (c : Carry). c.by.command) (length part.answers.items) at.carries k part.carries.items
      (all_second (λ (c : Carry). c.by.worker ≡ worker) (λ (c : Carry). c.by.command < length part.answers.items) part.carries.items h.carriers) le left.carries so_far.carries;
  plain = each_answered IsPlainNumbered (λ (w : PlainWalk). w.by.command) (length part.answers.items) at.plain k part.plain.items
      (all_second (λ (w : PlainWalk). w.by.worker ≡ worker) (λ (w : PlainWalk). w.by.command < length part.answers.items) part.plain.items h.plain.by) le left.plain so_far.plain;
  isolations = each_answered IsIsolationNumbered (λ (i : Isolation). i.by.command) (length part.answers.items) at.isolations k part.isolations.items
      (all_second (λ (i : Isolation). i.by.worker ≡ worker) (λ (i : Isolation). i.by.command < length part.answers.items) part.isolations.items h.isolations.by) le left.isolations so_far.isolations;
}

of_byte : (version : ℕ) → (version ≡ 1) ⊎ (version ≡ 2) → version < 2 ^ 8
of_byte version (inl e) = omega (arith, e)
of_byte version (inr e) = omega (arith, e)

-- a well formed report has its numbers, where what its form says nothing of has them
pub numbers_of : (r : Report) → IsWellFormed r → AllByRecursion IsPartNumbered r.workers.items → AllByRecursion IsListNumbered r.places.items → AllByRecursion AreUnitsNumbered r.units.items → AllByRecursion IsMapNumbered r.maps.items → AllByRecursion IsUseNumbered r.uses.items → HasNumbers r
numbers_of r h workers places units maps uses = record {
  version = of_byte r.version h.version;
  nodes = h.sizes.0;
  ids = h.sizes.1;
  pool = h.pool;
  tree = h.tree;
  few_parts = h.few_parts;
  workers = workers;
  places = places;
  units = units;
  maps = maps;
  deferred = each_weaker IsAmountWell IsAmountNumbered (λ d well. record { place = well.numbers; amount = well.amount }) r.deferred.items h.deferred;
  pool_deferred = each_weaker IsPoolAmountWell IsAmountNumbered (λ d well. record { place = well.amount.numbers; amount = well.amount.amount }) r.pool_deferred.items h.pool_deferred;
  uses = uses;
  lookups = h.numbers;
  totals = h.totals;
}
