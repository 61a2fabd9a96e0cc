-- SPDX-License-Identifier: GPL-2.0-only
-- Who made an entry of a journal, what a step was shown of it, and that the journals are lawful.
use Rattle.shr_lawful.proofs.Common.{◌≡◌, ℕ, ◌<◌, ◌≤◌, Bool, true, false, ◌&&◌, cond, List, length, sym, refl, ap, subst, ◌∙◌, arith, eqb, eq-eqb, slice_get, Some, nat_lt, nat_le, same_Some, slice_get_within, le-leb, dite, ℕ_discrete, PoolEntry, TreeEntry, Script, total, some_term, only_yes, only_no, Turn, IsTreeEntryMade, Report, decls_on, Step, IsAmong, steps_of, all_entries, IsRun, at_some, count_total, Contains, Place, Closed, Begin, Done, IsAtOrAbove, is_closed, place_number, AreApart_of_ends, place_at, Made, parents_of, journals_of, IsThere, MayMakeEntry, IsClosedByOffline, IsEntryOf, IsEnded, closed_at, ends_once, zero, suc, ◌+◌, [], ◌∷◌, ◌++◌, length-append, take, flat_map, count_by, not, take-append-le, sum_by-IsPermutation, none-some, UseStep, Serial, ups, downs, total-append, term_le, Loaded, IsNamed, WorkerState, uses_at, lookups_at, StandsInTree, AreStepsChained, all_ops, begin_at, some_at, sum_total, is_of_worker, ups_of, downs_of, script_hierarchy, total_flat, only, gathered}
use Rattle.shr_charge.specs.Views as charge
use Rattle.shr_lawful.proofs.Gathering.{has_step, among_right, one_step, weighs, each_among, work_of, below_one, below_most, maker, back_there, mine_at, total_same_on}
use Rattle.shr_lawful.proofs.Listed.{all_among, contains_slice, slice_contains, contains_among, begins_slice, closed_begins, most_one}
use Rattle.shr_laws.specs.Journals.{AreJournalsLawful}
use Rattle.shr_charge.specs.declared.answers.GroupState.TheVariants as state

-- ---- what bears numbers of its own, by the steps that made it
module _ {A E : Type 0} (number_of : A → ℕ) (entry_of : A → E) (f : Step → List A) (workers : List (List Step)) where
  -- the step that made the entry with a number
  pub record MakerOf (n : ℕ) (e : E) : Type 0 where
    pub worker : ℕ
    pub k : ℕ
    pub step : Step
    pub at : slice_get (steps_of workers worker) k ≡ Some step
    pub made : A
    pub among : IsAmong made (f step)
    pub number : number_of made ≡ n
    pub entry : entry_of made ≡ e

  maker_of : (journal : List E) → ((worker k : ℕ) (x : Step) (m : A) → slice_get (steps_of workers worker) k ≡ Some x → IsAmong m (f x) → slice_get journal (number_of m) ≡ Some (entry_of m))
      → (n : ℕ) (e : E) → total (λ (m : A). only n (number_of m)) (gathered f workers) ≡ 1 → slice_get journal n ≡ Some e → MakerOf n e
  maker_of journal shown n e one stands =
      let t = some_term (λ (m : A). only n (number_of m)) (gathered f workers) (omega (arith, one)) in
      let number : number_of t.1 ≡ n = dite (ℕ_discrete (number_of t.1) n) (λ q. q) (λ ne. absurd (omega (arith, t.3, only_no n (number_of t.1) ne))) in
      let of = has_step f workers t.1 (t.0, t.2) in
      record {
        worker = of.worker;
        k = of.k;
        step = of.step;
        at = of.at;
        made = t.1;
        among = of.has;
        number = number;
        entry = same_Some (entry_of t.1) e (sym (shown of.worker of.k of.step t.1 of.at of.has) ∙ (ap (λ i. slice_get journal i) number ∙ stands));
      }

  one_maker : (v i w j : ℕ) (x y : Step) (m n : A) → total (λ (z : A). only (number_of m) (number_of z)) (gathered f workers) ≤ 1 → slice_get (steps_of workers v) i ≡ Some x → slice_get (steps_of workers w) j ≡ Some y
      → IsAmong m (f x) → IsAmong n (f y) → number_of m ≡ number_of n → (v ≡ w) × (i ≡ j)
  one_maker v i w j x y m n most at_x at_y of_x of_y same =
      one_step (λ (z : A). only (number_of m) (number_of z)) f workers most v i w j x y at_x at_y
      (omega (arith, only_yes (number_of m) (number_of m) refl, weighs (λ (z : A). only (number_of m) (number_of z)) (f x) m of_x))
      (omega (arith, only_yes (number_of m) (number_of n) (sym same), weighs (λ (z : A). only (number_of m) (number_of z)) (f y) n of_y))

module _ (s : Script) (r : Report) (workers : List (List Step)) (run : IsRun s r workers) where
  -- the step that made an entry of the journal of the tree
  abbrev pub EntryMaker : ℕ → TreeEntry → Type 0
  EntryMaker n e = MakerOf (λ (m : charge.TreeMade). m.number) (λ (m : charge.TreeMade). m.entry) (λ (x : Step). x.work.tree) workers n e

  entries_once : (n : ℕ) → total (λ (m : charge.TreeMade). cond (eqb m.number n) 1 0) (all_entries workers) ≡ cond (nat_lt n (length r.tree.items)) 1 0
  entries_once n = sym (count_total (λ (m : charge.TreeMade). eqb m.number n) (all_entries workers)) ∙ run.uses.entered n

  pub entry_stands : (worker k : ℕ) (x : Step) (m : charge.TreeMade) → slice_get (steps_of workers worker) k ≡ Some x → IsAmong m x.work.tree → slice_get r.tree.items m.number ≡ Some m.entry
  entry_stands worker k x m at among = all_among (IsTreeEntryMade r.tree.items) x.after.tree.made m (run.steps.shown worker k x at).entries
      (subst (λ l. IsAmong m l) (sym (work_of s r workers run worker k x at).tree) (among_right x.before.tree.made x.work.tree m among))

  pub entry_maker : (n : ℕ) (e : TreeEntry) → slice_get r.tree.items n ≡ Some e → EntryMaker n e
  entry_maker n e stands = maker_of (λ (m : charge.TreeMade). m.number) (λ (m : charge.TreeMade). m.entry) (λ (x : Step). x.work.tree) workers r.tree.items entry_stands n e (entries_once n ∙ below_one n (length r.tree.items) (slice_get_within r.tree.items n e stands)) stands

  pub one_entry_maker : (v i w j : ℕ) (x y : Step) (m n : charge.TreeMade) → slice_get (steps_of workers v) i ≡ Some x → slice_get (steps_of workers w) j ≡ Some y → IsAmong m x.work.tree → IsAmong n y.work.tree
      → m.number ≡ n.number → (v ≡ w) × (i ≡ j)
  one_entry_maker v i w j x y m n at_x at_y of_x of_y same = one_maker (λ (m : charge.TreeMade). m.number) (λ (m : charge.TreeMade). m.entry) (λ (x : Step). x.work.tree) workers v i w j x y m n (omega (arith, entries_once m.number, below_most m.number (length r.tree.items))) at_x at_y of_x of_y same

  -- the step that made a later entry of the journal of registrations
  abbrev pub TurnMaker : ℕ → PoolEntry → Type 0
  TurnMaker n e = MakerOf (λ (m : Turn). m.number) (λ (m : Turn). m.entry) (λ (x : Step). x.work.core.turns) workers n e

  both_one : (n l : ℕ) → l ≤ n → n < length r.pool.items → ◌≡◌ {A = ℕ} (cond (nat_le l n && nat_lt n (length r.pool.items)) 1 0) 1
  both_one n l le lt = ap (λ b. cond {A = ℕ} (b && nat_lt n (length r.pool.items)) 1 0) (le-leb l n le) ∙ below_one n (length r.pool.items) lt

  pub turn_stands : (worker k : ℕ) (x : Step) (t : Turn) → slice_get (steps_of workers worker) k ≡ Some x → IsAmong t x.work.core.turns → slice_get r.pool.items t.number ≡ Some t.entry
  turn_stands worker k x t at among = let h = among_right x.before.core.turns.made x.work.core.turns t among in
      at_some r.pool.items t.number t.entry ((run.steps.shown worker k x at).turns h.0 t (subst (λ l. IsAmong t l) (sym (work_of s r workers run worker k x at).core.turned) h).1)

  pub turn_maker : (n : ℕ) (e : PoolEntry) → length (decls_on s) ≤ n → slice_get r.pool.items n ≡ Some e → TurnMaker n e
  turn_maker n e past stands = maker_of (λ (m : Turn). m.number) (λ (m : Turn). m.entry) (λ (x : Step). x.work.core.turns) workers r.pool.items turn_stands n e (run.pool.once n ∙ both_one n (length (decls_on s)) past (slice_get_within r.pool.items n e stands)) stands

  pub one_turn_maker : (v i w j : ℕ) (x y : Step) (m n : Turn) → slice_get (steps_of workers v) i ≡ Some x → slice_get (steps_of workers w) j ≡ Some y → IsAmong m x.work.core.turns → IsAmong n y.work.core.turns
      → m.number ≡ n.number → (v ≡ w) × (i ≡ j)
  one_turn_maker v i w j x y m n at_x at_y of_x of_y same = one_maker (λ (m : Turn). m.number) (λ (m : Turn). m.entry) (λ (x : Step). x.work.core.turns) workers v i w j x y m n (omega (arith, run.pool.once m.number, most_one (nat_le (length (decls_on s)) m.number && nat_lt m.number (length r.pool.items)))) at_x at_y of_x of_y same

module _ (s : Script) (r : Report) (workers : List (List Step)) (run : IsRun s r workers) where
  -- a list is closed only where a group at or above its own began to go offline
  pub begun : (place : Place) → is_closed (journals_of r place) ≡ true → (g : ℕ) × IsAtOrAbove (parents_of s) g place.group × Contains r.tree.items (Begin g)
  begun place closed =
      let t = closed_at (journals_of r place) closed in
      let m = maker s r workers run place t.0 Closed t.1 in
      let is = run.steps.each m.worker m.k m.step m.at in
      let closing : IsClosedByOffline s m.step m.made (place_at m.made.place).group = subst (MayMakeEntry s m.step m.made) m.entry (each_among (λ (z : Made). MayMakeEntry s m.step z z.entry) m.step.work.core.made m.made is.did.entries.each m.among) in
      let known = contains_slice m.step.after.tree.known (Begin closing.group) closing.begun in
      let stands = begins_slice m.step.after.tree.known r.tree.items known.0 (Begin closing.group) (run.steps.shown m.worker m.k m.step m.at).tree known.1 in
      (closing.group, subst (λ p. IsAtOrAbove (parents_of s) closing.group p.group) m.place_is closing.below, slice_contains r.tree.items known.0 (Begin closing.group) stands)

  -- each list of a group that is done is closed
  pub done : (place : Place) → IsThere s place → Contains r.tree.items (Done place.group) → is_closed (journals_of r place) ≡ true
  done place there has =
      let t = contains_slice r.tree.items (Done place.group) has in
      let m = entry_maker s r workers run t.0 (Done place.group) t.1 in
      let is = run.steps.each m.worker m.k m.step m.at in
      let ended : IsEnded s m.step place.group m.made.number = subst (IsEntryOf s m.step m.made.number) m.entry (all_among (λ (z : charge.TreeMade). (length m.step.before.tree.known ≤ z.number) × IsEntryOf s m.step z.number z.entry) m.step.work.tree m.made is.did.tree.each m.among).1 in
      let k = ended.closed place there refl in
      let among = contains_among m.step.after.core.traces.known (record { place = place_number place; entries = k.0 }) k.1 in
      let begins = (run.steps.shown m.worker m.k m.step m.at).known among.0 (record { place = place_number place; entries = k.0 }) among.1 in
      ap (λ p. is_closed (journals_of r p)) (sym (back_there s r workers run place there)) ∙ closed_begins k.0 (journals_of r (place_at (place_number place))) begins k.2

  pub journals_lawful : AreJournalsLawful s r
  journals_lawful = record {
    there = λ n end at. (run.journals.printed n end at).there;
    legal = run.journals.legal;
    paired = run.journals.paired;
    once = ends_once r.places.items (AreApart_of_ends r.places.items run.journals.order);
    items = λ n end at. (run.journals.printed n end at).items;
    begun = begun;
    done = done;
  }

module _ (s : Script) (r : Report) (workers : List (List Step)) (run : IsRun s r workers) (worker k : ℕ) (x : Step) (at : slice_get (steps_of workers worker) k ≡ Some x) where
  -- a group word that was loaded names a Begin
  pub word_stands : (group entry : ℕ) → IsAmong (record { group = group; state = state.Offline entry }) x.work.words → StandsInTree r entry (Begin group)
  word_stands group entry among = begin_at r.tree.items group entry (all_among (IsNamed (script_hierarchy s) r.tree.items) x.after.tree.loaded (record { group = group; state = state.Offline entry }) (run.steps.shown worker k x at).words
      (subst (λ l. IsAmong (record { group = group; state = state.Offline entry }) l) (sym (work_of s r workers run worker k x at).words) (among_right x.before.tree.loaded x.work.words (record { group = group; state = state.Offline entry }) among))).1

  -- a lookup word that was loaded had no more lookups than are printed
  pub word_lookups : (l : Loaded) → IsAmong l x.work.core.loaded → l.word.lookups ≤ lookups_at r l.id
  word_lookups l among = let h = among_right x.before.core.claims.loaded x.work.core.loaded l among in (run.steps.shown worker k x at).loaded h.0 l (subst (λ y. IsAmong l y) (sym (work_of s r workers run worker k x at).core.loaded) h).1

  -- the first entries of the journal of registrations, as the worker knows them
  pub pool_known : (n : ℕ) → n ≤ length x.after.core.turns.known → take n x.after.core.turns.known ≡ take n r.pool.items
  pool_known n le = let b = (run.steps.shown worker k x at).pool in sym (ap (take n) b.1 ∙ take-append-le n x.after.core.turns.known b.0 le)

  pub pool_length : length x.after.core.turns.known ≤ length r.pool.items
  pool_length = let b = (run.steps.shown worker k x at).pool in omega (arith, ap (λ (l : List PoolEntry). length l) b.1, length-append x.after.core.turns.known b.0)

  -- and of the journal of the tree
  pub tree_known : (n : ℕ) → n ≤ length x.after.tree.known → take n x.after.tree.known ≡ take n r.tree.items
  tree_known n le = let b = (run.steps.shown worker k x at).tree in sym (ap (take n) b.1 ∙ take-append-le n x.after.tree.known b.0 le)

  pub tree_length : length x.after.tree.known ≤ length r.tree.items
  tree_length = let b = (run.steps.shown worker k x at).tree in omega (arith, ap (λ (l : List TreeEntry). length l) b.1, length-append x.after.tree.known b.0)

  pub tree_stands : (n : ℕ) (e : TreeEntry) → slice_get x.after.tree.known n ≡ Some e → StandsInTree r n e
  tree_stands n e h = begins_slice x.after.tree.known r.tree.items n e (run.steps.shown worker k x at).tree h

  -- an operation of the step stands in its group's history
  pub op_stands : (o : UseStep) → IsAmong o x.work.ops → slice_get (uses_at r o.group) o.operation ≡ Some o
  op_stands o among = all_among (λ (z : UseStep). slice_get (uses_at r z.group) z.operation ≡ Some z) x.after.uses.ops o (run.steps.shown worker k x at).ops
      (subst (λ l. IsAmong o l) (sym (ap (λ u. u.ops) (work_of s r workers run worker k x at).uses)) (among_right x.before.uses.ops x.work.ops o among))

-- ---- calls of charge
abbrev paced : Step → Type 0
paced x = (x.work.charges ≤ ups x.work.ops) × (x.work.uncharges ≤ downs x.work.ops)

ups_both : (xs ys : List UseStep) → ups (xs ++ ys) ≡ ups xs + ups ys
ups_both xs ys = omega (arith, count_total (λ (o : UseStep). o.up) (xs ++ ys), count_total (λ (o : UseStep). o.up) xs, count_total (λ (o : UseStep). o.up) ys, total-append (λ (o : UseStep). cond o.up 1 0) xs ys)

downs_both : (xs ys : List UseStep) → downs (xs ++ ys) ≡ downs xs + downs ys
downs_both xs ys = omega (arith, count_total (λ (o : UseStep). not o.up) (xs ++ ys), count_total (λ (o : UseStep). not o.up) xs, count_total (λ (o : UseStep). not o.up) ys, total-append (λ (o : UseStep). cond (not o.up) 1 0) xs ys)

calls_along : (t : WorkerState) (mine : List Step) (k : ℕ) (x : Step) → AreStepsChained t mine → ((j : ℕ) (y : Step) → slice_get mine j ≡ Some y → paced y) → slice_get mine k ≡ Some x
    → (x.after.uses.charges ≤ t.uses.charges + ups (flat_map (λ (y : Step). y.work.ops) mine)) × (x.after.uses.uncharges ≤ t.uses.uncharges + downs (flat_map (λ (y : Step). y.work.ops) mine))
calls_along t [] k x c p e = absurd (none-some x e)
calls_along t (y ∷ mine) zero x c p e =
    let q = p 0 y refl in
    let same : y ≡ x = same_Some y x e in
    let before = ap (λ (u : WorkerState). u.uses) c.0 in (
      omega (arith, q.0, ap (λ (z : Step). z.after.uses.charges) same, ap (λ u. u.charges) c.1.uses, ap (λ u. u.charges) before, ups_both y.work.ops (flat_map (λ (z : Step). z.work.ops) mine)),
      omega (arith, q.1, ap (λ (z : Step). z.after.uses.uncharges) same, ap (λ u. u.uncharges) c.1.uses, ap (λ u. u.uncharges) before, downs_both y.work.ops (flat_map (λ (z : Step). z.work.ops) mine)),
    )
calls_along t (y ∷ mine) (suc k) x c p e =
    let q = p 0 y refl in
    let rest = calls_along y.after mine k x c.2 (λ j z d. p (suc j) z d) e in
    let before = ap (λ (u : WorkerState). u.uses) c.0 in (
      omega (arith, rest.0, q.0, ap (λ u. u.charges) c.1.uses, ap (λ u. u.charges) before, ups_both y.work.ops (flat_map (λ (z : Step). z.work.ops) mine)),
      omega (arith, rest.1, q.1, ap (λ u. u.uncharges) c.1.uses, ap (λ u. u.uncharges) before, downs_both y.work.ops (flat_map (λ (z : Step). z.work.ops) mine)),
    )

module _ (s : Script) (r : Report) (workers : List (List Step)) (run : IsRun s r workers) where
  -- an operation of a worker's step is of the worker
  worker_own : (worker : ℕ) (mine : List Step) → ((j : ℕ) (y : Step) → slice_get mine j ≡ Some y → (i : ℕ) (o : UseStep) → slice_get y.work.ops i ≡ Some o → o.by.worker ≡ worker) → (h : UseStep → Bool)
      → total (λ (o : UseStep). cond (cond (is_of_worker worker o) (h o) false) 1 0) (flat_map (λ (y : Step). y.work.ops) mine) ≡ total (λ (o : UseStep). cond (h o) 1 0) (flat_map (λ (y : Step). y.work.ops) mine)
  worker_own worker [] own h = refl
  worker_own worker (y ∷ mine) own h = omega (
    arith,
    worker_own worker mine (λ j z e. own (suc j) z e) h,
    one y.work.ops (own 0 y refl),
    total-append (λ (o : UseStep). cond (cond (is_of_worker worker o) (h o) false) 1 0) y.work.ops (flat_map (λ (z : Step). z.work.ops) mine),
    total-append (λ (o : UseStep). cond (h o) 1 0) y.work.ops (flat_map (λ (z : Step). z.work.ops) mine),
  ) where
    one : (os : List UseStep) → ((i : ℕ) (o : UseStep) → slice_get os i ≡ Some o → o.by.worker ≡ worker) → total (λ (o : UseStep). cond (cond (is_of_worker worker o) (h o) false) 1 0) os ≡ total (λ (o : UseStep). cond (h o) 1 0) os
    one [] e = refl
    one (o ∷ os) e = omega (arith, one os (λ i p d. e (suc i) p d), ap (λ b. cond {A = ℕ} (cond b (h o) false) 1 0) (eq-eqb o.by.worker worker (e 0 o refl)))

  of_worker : (worker k : ℕ) (x : Step) → slice_get (steps_of workers worker) k ≡ Some x → (h : UseStep → Bool) → total (λ (o : UseStep). cond (h o) 1 0) (flat_map (λ (y : Step). y.work.ops) (steps_of workers worker)) ≤ count_by (λ (o : UseStep). cond (is_of_worker worker o) (h o) false) r.uses.items
  of_worker worker k x at h = omega (
    arith,
    worker_own worker (steps_of workers worker) (λ j y e i o d. let is = run.steps.each worker j y e in ap (λ (b : Serial). b.worker) (all_among (λ (z : UseStep). z.by ≡ y.by) y.work.ops o is.did.charges.own (i, some_at y.work.ops i o d) ∙ is.by)) h,
    term_le (λ mine. total (λ (o : UseStep). cond (cond (is_of_worker worker o) (h o) false) 1 0) (flat_map (λ (y : Step). y.work.ops) mine)) workers worker (steps_of workers worker) (some_at workers worker (steps_of workers worker) (mine_at workers worker k x at)),
    total_flat (λ (o : UseStep). cond (cond (is_of_worker worker o) (h o) false) 1 0) (λ (mine : List Step). flat_map (λ (y : Step). y.work.ops) mine) workers,
    sum_total (λ (o : UseStep). cond (cond (is_of_worker worker o) (h o) false) 1 0) (all_ops workers),
    sum_by-IsPermutation (λ (o : UseStep). cond (cond (is_of_worker worker o) (h o) false) 1 0) r.uses.items (all_ops workers) run.uses.same,
  )

  pub calls : (worker k : ℕ) (x : Step) → slice_get (steps_of workers worker) k ≡ Some x → (x.after.uses.charges ≤ ups_of r worker) × (x.after.uses.uncharges ≤ downs_of r worker)
  calls worker k x at =
      let c = calls_along (run.steps.first worker) (steps_of workers worker) k x (run.steps.chained worker) (λ j y e. let d = (run.steps.each worker j y e).did.charges in (d.charges, d.uncharges)) at in (
        omega (arith, c.0, (run.steps.new worker).charges, of_worker worker k x at (λ o. o.up), count_total (λ (o : UseStep). o.up) (flat_map (λ (y : Step). y.work.ops) (steps_of workers worker))),
        omega (
          arith,
          c.1,
          (run.steps.new worker).uncharges,
          of_worker worker k x at (λ o. cond o.up false true),
          count_total (λ (o : UseStep). not o.up) (flat_map (λ (y : Step). y.work.ops) (steps_of workers worker)),
          total_same_on (λ (o : UseStep). cond (cond o.up false true) 1 0) (λ (o : UseStep). cond (not o.up) 1 0) (flat_map (λ (y : Step). y.work.ops) (steps_of workers worker)) (λ o. (elim o.up as (λ (b : Bool). cond {A = ℕ} (cond b false true) 1 0 ≡ cond {A = ℕ} (not b) 1 0) [ true ↦ refl | false ↦ refl ])),
        ),
      )
