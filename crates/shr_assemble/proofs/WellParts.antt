-- SPDX-License-Identifier: GPL-2.0-only
-- The part of a worker in the report of a run is well formed: its walks and its carries stand in the order of its commands.
use Rattle.shr_assemble.proofs.Common.{◌≡◌, ℕ, ◌<◌, ◌≤◌, List, [], ◌∷◌, length, map, sym, ap, subst, ◌∙◌, arith, slice_get, Option, Some, flat_map, AllByRecursion, AllAdjacentBelow, slice_get_within, WorkerPart, Serial, Answered, Script, Carry, Isolation, WalkRecord, IsWithin, content_of, Report, serial_of, LendsWord, IsBefore, AreNotFalling, IsWalkWell, DidCarry, isolated_in, Step, steps_of, IsRun, by_slices, IsCarryBefore, AreOfCommands, IsPartWell, answers_in, walks_in, carries_in, isolations_in, plain_in, plain_order}
use Rattle.shr_base.specs.declared.walks.PlainWalk.{PlainWalk}
use Rattle.shr_lawful.proofs.Listed.{answers_are, slice_map, all_slice, PairsRec, pairs_rec, pairs_by_slices, pairs_weaker}
use Rattle.shr_lawful.proofs.Gathering.{flat_at}
use Rattle.shr_lawful.proofs.IsolationSteps.{first_told, told_once, told_by}
use Rattle.shr_assemble.proofs.WellPairs.{AllCross, pairs_flat, pairs_map, adjacent}
use Rattle.shr_assemble.proofs.WellWords.{answers_lend}

-- the carries of one command stand by id and node, and those of a later one after them
record IsCarryOrdered (c d : Carry) : Type 0 where
  command : c.by.command ≤ d.by.command
  place : IsCarryBefore c d

-- what is so of each element of what each step has is so of all
each_flat : {A : Type 0} (P : A → Type 0) (f : Step → List A) (l : List Step) → ((k i : ℕ) (x : Step) (y : A) → slice_get l k ≡ Some x → slice_get (f x) i ≡ Some y → P y) → AllByRecursion P (flat_map f l)
each_flat P f l h = by_slices P (flat_map f l) (λ n y e. let t = flat_at f l n y e in h t.k t.i t.x y t.at t.own)

-- R of each two elements, of one step in order and of two steps in order
pairs_of : {A : Type 0} (R : A → A → Type 0) (f : Step → List A) (l : List Step) → ((k : ℕ) (x : Step) → slice_get l k ≡ Some x → PairsRec R (f x))
    → ((i j n m : ℕ) (x y : Step) (a b : A) → i < j → slice_get l i ≡ Some x → slice_get l j ≡ Some y → slice_get (f x) n ≡ Some a → slice_get (f y) m ≡ Some b → R a b) → PairsRec R (flat_map f l)
pairs_of R f l own across = pairs_flat R f l (by_slices (λ x. PairsRec R (f x)) l own)
    (pairs_by_slices (λ x y. AllCross R (f x) (f y)) l (λ i j x y lt at_x at_y.
    by_slices (λ a. AllByRecursion (R a) (f y)) (f x) (λ n a at_a. by_slices (R a) (f y) (λ m b at_b. across i j n m x y a b lt at_x at_y at_a at_b))))

module _ (s : Script) (r : Report) (workers : List (List Step)) (run : IsRun s r workers) (within : IsWithin (content_of s)) (worker : ℕ) (part : WorkerPart) (here : slice_get r.workers.items worker ≡ Some part) where
  abbrev mine : List Step
  mine = steps_of workers worker

  many : length part.answers.items ≡ length mine
  many = ap (λ o. length (answers_in o)) (sym here) ∙ run.steps.answers worker

  walks_are : part.walks.items ≡ flat_map (λ (x : Step). x.work.walks) mine
  walks_are = ap walks_in (sym here) ∙ run.steps.walks worker

  carries_are : part.carries.items ≡ flat_map (λ (x : Step). x.work.carries) mine
  carries_are = ap carries_in (sym here) ∙ run.steps.carries worker

  short : (k : ℕ) (x : Step) → slice_get mine k ≡ Some x → k < length part.answers.items
  short k x e = let lt = slice_get_within mine k x e in let m = many in omega (arith, lt, m)

  -- a step's walks and carries are of its command
  walk_well : (k i : ℕ) (x : Step) (w : WalkRecord) → slice_get mine k ≡ Some x → slice_get x.work.walks i ≡ Some w → IsWalkWell w
  walk_well k i x w at own = ((run.steps.each worker k x at).did.walks.each i w own).record_is.well

  walk_by : (k i : ℕ) (x : Step) (w : WalkRecord) → slice_get mine k ≡ Some x → slice_get x.work.walks i ≡ Some w → w.by ≡ serial_of worker k
  walk_by k i x w at own = let is = run.steps.each worker k x at in (is.did.walks.each i w own).by ∙ is.by

  carry_by : (k i : ℕ) (x : Step) (c : Carry) → slice_get mine k ≡ Some x → slice_get x.work.carries i ≡ Some c → c.by ≡ serial_of worker k
  carry_by k i x c at own = let is = run.steps.each worker k x at in (all_slice (DidCarry s x) x.work.carries i c is.did.moves.carries own).by ∙ is.by

  walk_command : (k i : ℕ) (x : Step) (w : WalkRecord) → slice_get mine k ≡ Some x → slice_get x.work.walks i ≡ Some w → w.by.command ≡ k
  walk_command k i x w at own = ap (λ (b : Serial). b.command) (walk_by k i x w at own)

  carry_command : (k i : ℕ) (x : Step) (c : Carry) → slice_get mine k ≡ Some x → slice_get x.work.carries i ≡ Some c → c.by.command ≡ k
  carry_command k i x c at own = ap (λ (b : Serial). b.command) (carry_by k i x c at own)

  walks_ordered : PairsRec (λ (v w : WalkRecord). v.by.command ≤ w.by.command) (flat_map (λ (x : Step). x.work.walks) mine)
  walks_ordered = pairs_of (λ (v w : WalkRecord). v.by.command ≤ w.by.command) (λ (x : Step). x.work.walks) mine
      (λ k x at. pairs_by_slices (λ (v w : WalkRecord). v.by.command ≤ w.by.command) x.work.walks (λ i j v w lt a b. let one = walk_command k i x v at a in let two = walk_command k j x w at b in omega (arith, one, two)))
      (λ i j n m x y v w lt at_x at_y a b. let one = walk_command i n x v at_x a in let two = walk_command j m y w at_y b in omega (arith, one, two, lt))

  carries_ordered : PairsRec IsCarryOrdered (flat_map (λ (x : Step). x.work.carries) mine)
  carries_ordered = pairs_of IsCarryOrdered (λ (x : Step). x.work.carries) mine
      (λ k x at. let rise = pairs_rec _ x.work.carries (run.steps.each worker k x at).did.moves.rise in in_step k x at rise)
      (λ i j n m x y c d lt at_x at_y a b. let one = carry_command i n x c at_x a in let two = carry_command j m y d at_y b in record { command = omega (arith, one, two, lt); place = λ same. absurd (omega (arith, one, two, lt, same)) }) where
        in_step : (k : ℕ) (x : Step) → slice_get mine k ≡ Some x → PairsRec (λ (c d : Carry). IsBefore c.place.id c.place.node d.place.id d.place.node) x.work.carries → PairsRec IsCarryOrdered x.work.carries
        in_step k x at rise = ordered x.work.carries rise (by_slices (λ (c : Carry). c.by.command ≡ k) x.work.carries (λ i c own. carry_command k i x c at own)) where
          heads : (c : Carry) (ds : List Carry) → c.by.command ≡ k → AllByRecursion (λ (d : Carry). d.by.command ≡ k) ds → AllByRecursion (λ (d : Carry). IsBefore c.place.id c.place.node d.place.id d.place.node) ds → AllByRecursion (IsCarryOrdered c) ds
          heads c [] e es h = tt
          heads c (d ∷ ds) e es h = (record { command = (let f = es.0 in omega (arith, e, f)); place = λ same. h.0 }, heads c ds e es.1 h.1)

          ordered : (cs : List Carry) → PairsRec (λ (c d : Carry). IsBefore c.place.id c.place.node d.place.id d.place.node) cs → AllByRecursion (λ (c : Carry). c.by.command ≡ k) cs → PairsRec IsCarryOrdered cs
          ordered [] h es = tt
          ordered (c ∷ cs) h es = (heads c cs es.0 es.1 h.0, ordered cs h.1 es.1)

  isolations_are : part.isolations.items ≡ flat_map isolated_in mine
  isolations_are = ap isolations_in (sym here) ∙ run.isolations.told worker

  isolation_by : (k n : ℕ) (x : Step) (i : Isolation) → slice_get mine k ≡ Some x → slice_get (isolated_in x) n ≡ Some i → i.by ≡ serial_of worker k
  isolation_by k n x i at own = let t = told_once x.by x.command x.answered n i own in told_by x.by x.command x.answered i (first_told x i t.0) ∙ (run.steps.each worker k x at).by

  isolations_ordered : AreOfCommands Isolation (λ (i : Isolation). i.by) worker (length part.answers.items) part.isolations.items
  isolations_ordered = subst (AreOfCommands Isolation (λ (i : Isolation). i.by) worker (length part.answers.items)) (sym isolations_are) (record {
    by = each_flat (λ (i : Isolation). (i.by.worker ≡ worker) × (i.by.command < length part.answers.items)) isolated_in mine (λ k n x i at own.
        (ap (λ (b : Serial). b.worker) (isolation_by k n x i at own), let c = ap (λ (b : Serial). b.command) (isolation_by k n x i at own) in let lt = short k x at in omega (arith, c, lt)));
    order = adjacent (λ n m. n ≤ m) _ (pairs_map (λ n m. n ≤ m) (λ (i : Isolation). i.by.command) (flat_map isolated_in mine)
        (pairs_of (λ (i j : Isolation). i.by.command ≤ j.by.command) isolated_in mine
        (λ k x at. pairs_by_slices (λ (i j : Isolation). i.by.command ≤ j.by.command) (isolated_in x) (λ n m i j lt a b. let c = ap (λ (y : Serial). y.command) (isolation_by k n x i at a) in let d = ap (λ (y : Serial). y.command) (isolation_by k m x j at b) in omega (arith, c, d)))
        (λ k l n m x y i j lt at_x at_y a b. let c = ap (λ (z : Serial). z.command) (isolation_by k n x i at_x a) in let d = ap (λ (z : Serial). z.command) (isolation_by l m y j at_y b) in omega (arith, c, d, lt))));
  })

  answers_well : AllByRecursion (λ (a : Answered). LendsWord a.reply) part.answers.items
  answers_well = by_slices (λ (a : Answered). LendsWord a.reply) part.answers.items (λ k a e.
      let at = ap (λ l. slice_get l k) (sym (answers_are s r workers run worker) ∙ ap answers_in here) ∙ e in
      let t = slice_map (λ (x : Step). x.answered) mine k a at in subst (λ (z : Answered). LendsWord z.reply) t.2 (answers_lend s r workers run within worker k t.0 t.1))

  pub part_well : IsPartWell worker part
  part_well = record {
    answers = answers_well;
    walks = subst (AllByRecursion IsWalkWell) (sym walks_are) (each_flat IsWalkWell (λ (x : Step). x.work.walks) mine walk_well);
    walkers = subst (AllByRecursion (λ (w : WalkRecord). (w.by.worker ≡ worker) × (w.by.command < length part.answers.items))) (sym walks_are)
        (each_flat (λ (w : WalkRecord). (w.by.worker ≡ worker) × (w.by.command < length part.answers.items)) (λ (x : Step). x.work.walks) mine (λ k i x w at own.
        (ap (λ (b : Serial). b.worker) (walk_by k i x w at own), let c = walk_command k i x w at own in let lt = short k x at in omega (arith, c, lt))));
    walk_order = subst (λ (l : List WalkRecord). AreNotFalling (map (λ (w : WalkRecord). w.by.command) l)) (sym walks_are)
        (adjacent (λ n m. n ≤ m) _ (pairs_map (λ n m. n ≤ m) (λ (w : WalkRecord). w.by.command) (flat_map (λ (x : Step). x.work.walks) mine) walks_ordered));
    carriers = subst (AllByRecursion (λ (c : Carry). (c.by.worker ≡ worker) × (c.by.command < length part.answers.items))) (sym carries_are)
        (each_flat (λ (c : Carry). (c.by.worker ≡ worker) × (c.by.command < length part.answers.items)) (λ (x : Step). x.work.carries) mine (λ k i x c at own.
        (ap (λ (b : Serial). b.worker) (carry_by k i x c at own), let z = carry_command k i x c at own in let lt = short k x at in omega (arith, z, lt))));
    carry_order = subst (λ (l : List Carry). AreNotFalling (map (λ (c : Carry). c.by.command) l)) (sym carries_are)
        (adjacent (λ n m. n ≤ m) _ (pairs_map (λ n m. n ≤ m) (λ (c : Carry). c.by.command) (flat_map (λ (x : Step). x.work.carries) mine)
        (pairs_weaker IsCarryOrdered (λ (c d : Carry). c.by.command ≤ d.by.command) (flat_map (λ (x : Step). x.work.carries) mine) (λ c d p q h. h.command) carries_ordered)));
    carry_places = subst (λ (l : List Carry). AllAdjacentBelow IsCarryBefore l (length l)) (sym carries_are)
        (adjacent IsCarryBefore _ (pairs_weaker IsCarryOrdered IsCarryBefore (flat_map (λ (x : Step). x.work.carries) mine) (λ c d p q h. h.place) carries_ordered));
    plain = subst (λ (o : Option WorkerPart). AreOfCommands PlainWalk (λ w. w.by) worker (length (answers_in o)) (plain_in o)) here (plain_order s r run.plain run.units worker);
    isolations = isolations_ordered;
  }
