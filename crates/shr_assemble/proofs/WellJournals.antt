-- SPDX-License-Identifier: GPL-2.0-only
-- The numbers in the journals of registrations and of the tree have the ranges of their types.
use Rattle.shr_assemble.proofs.Common.{◌≡◌, ℕ, zero, suc, ◌+◌, ◌-◌, ◌<◌, ◌≤◌, ◌^◌, Bool, cond, List, length, take, sym, refl, ap, subst, ◌∙◌, arith, eq-eqb, ne_eqb, slice_get, Option, Some, None, ◌==◌, AllByRecursion, take_all, slice_get_within, dite, ℕ_discrete, dec_lt, PoolEntry, Registered, Unregistered, Idle, TreeEntry, Begin, Done, phase_of, number_after, last_number, IsNextPool, IsPoolJournal, Hierarchy, begin_of, IsTreeJournal, past_none, begin_at, take_below, at_some, by_slices, some_at, take-take, number_from_push, declared_in, IsPoolNumbered, IsTreeNumbered, the_some}
use Rattle.shr_lawful.proofs.Listed.{take_next}
use Rattle.shr_base.specs.declared.journals.TreeEntry.TheVariants.{Made}
use Rattle.shr_lawful.proofs.FreePuts.{idle_is, take_past}
use Rattle.shr_assemble.proofs.Printing.{get_taken}

-- the number after an entry of the id is the entry's
own_number : (id n m : ℕ) → cond (id == id) n m ≡ n
own_number id n m = ap (λ b. cond b n m) (eq-eqb id id refl)

module _ (ids decls : ℕ) (es : List PoolEntry) (journal : IsPoolJournal ids decls es) where
  next_of : (k : ℕ) (e : PoolEntry) → slice_get es k ≡ Some e → IsNextPool ids decls (take k es) e
  next_of k e at = journal k e (some_at es k e at)

  -- each beginning is a journal of registrations
  front : (k : ℕ) → IsPoolJournal ids decls (take k es)
  front k n e at = let there = at_some (take k es) n e at in let lt = take_below es k n e there in
      subst (λ (l : List PoolEntry). IsNextPool ids decls l e) (sym (take-take n k es (omega (arith, lt)))) (next_of n e (sym (get_taken es k n lt) ∙ there))

  after_next : (i : ℕ) (before : List PoolEntry) (e : PoolEntry) → IsNextPool ids decls before e → last_number i before ≤ number_after i (last_number i before) e
  after_next i before (Registered d j from) n = dite (ℕ_discrete j i)
      (λ q. subst (λ (b : Bool). last_number i before ≤ cond b from (last_number i before)) (sym (eq-eqb j i q)) (subst (λ k. last_number k before ≤ from) q n.3))
      (λ q. subst (λ (b : Bool). last_number i before ≤ cond b from (last_number i before)) (sym (ne_eqb j i q)) (omega arith))
  after_next i before (Unregistered d j to) n = dite (ℕ_discrete j i)
      (λ q. subst (λ (b : Bool). last_number i before ≤ cond b to (last_number i before)) (sym (eq-eqb j i q)) (subst (λ k. last_number k before ≤ to) q n.2))
      (λ q. subst (λ (b : Bool). last_number i before ≤ cond b to (last_number i before)) (sym (ne_eqb j i q)) (omega arith))
  after_next i before (Idle j) n = omega arith

  -- along the journal the last number of an id never falls
  rises : (i k more : ℕ) → last_number i (take k es) ≤ last_number i (take (k + more) es)
  rises i k zero = subst (λ m. last_number i (take k es) ≤ last_number i (take m es)) (let e : k ≡ k + 0 = omega arith in e) (omega arith)
  rises i k (suc more) = subst (λ m. last_number i (take k es) ≤ last_number i (take m es)) (let e : suc (k + more) ≡ k + suc more = omega arith in e) (further (slice_get es (k + more)) refl (rises i k more)) where
    further : (o : Option PoolEntry) → slice_get es (k + more) ≡ o → last_number i (take k es) ≤ last_number i (take (k + more) es) → last_number i (take k es) ≤ last_number i (take (suc (k + more)) es)
    further None at below = subst (λ (l : List PoolEntry). last_number i (take k es) ≤ last_number i l) (sym (take_past es (k + more) at)) below
    further (Some e) at below = subst (λ (l : List PoolEntry). last_number i (take k es) ≤ last_number i l) (sym (take_next es (k + more) e at))
        (let step = after_next i (take (k + more) es) e (next_of (k + more) e at) in let push = number_from_push i 0 (take (k + more) es) e in omega (arith, below, step, push))

  -- so each entry's number is at most the last of its id
  most : (i k n : ℕ) (e : PoolEntry) → slice_get es k ≡ Some e → number_after i (last_number i (take k es)) e ≡ n → n ≤ last_number i es
  most i k n e at is =
      let within = slice_get_within es k e at in
      let all : take (suc k + (length es - suc k)) es ≡ es = take_all (suc k + (length es - suc k)) es (omega (arith, within)) in
      let up : last_number i (take (suc k) es) ≤ last_number i es = subst (λ (l : List PoolEntry). last_number i (take (suc k) es) ≤ last_number i l) all (rises i (suc k) (length es - suc k)) in
      let here = ap (last_number i) (take_next es k e at) in let push = number_from_push i 0 (take k es) e in omega (arith, up, here, push, is)

  module _ (few : ids ≤ 256) (few_decls : decls ≤ 250) (low : (id : ℕ) → id < ids → last_number id es < 2 ^ 32) where
    known_id : (k i : ℕ) → (phase_of i (take k es) ≡ 0 → ⊥) → i < ids
    known_id k i some = dite (dec_lt i ids) (λ h. h) (λ far. absurd (some (past_none ids decls i (take k es) (front k) (omega (arith, far)))))

    one : (k : ℕ) (e : PoolEntry) → slice_get es k ≡ Some e → IsNextPool ids decls (take k es) e → IsPoolNumbered e
    one k (Registered d i from) at n =
        let id = (idle_is ids i (take k es) n.2).1 in let decl = n.0 in let number = most i k from (Registered d i from) at (own_number i from (last_number i (take k es))) in let last = low i id in
        (omega (arith, decl, few_decls), omega (arith, id, few), omega (arith, number, last))
    one k (Unregistered d i to) at n =
        let some : phase_of i (take k es) ≡ 0 → ⊥ = λ none. let one = n.0 in omega (arith, none, one) in
        let id = known_id k i some in let is = n.1 in let decl = declared_in ids decls i (take k es) (front k) some in let number = most i k to (Unregistered d i to) at (own_number i to (last_number i (take k es))) in let last = low i id in
        (omega (arith, is, decl, few_decls), omega (arith, id, few), omega (arith, number, last))
    one k (Idle i) at n = let id = known_id k i (λ none. omega (arith, none, n)) in omega (arith, id, few)

    pub pool_numbered : AllByRecursion IsPoolNumbered es
    pool_numbered = by_slices IsPoolNumbered es (λ k e at. one k e at (next_of k e at))

-- the groups of the journal of the tree are groups of the tree
module _ (h : Hierarchy) (es : List TreeEntry) (journal : IsTreeJournal h es) (few : length h.parents ≤ 256) where
  group_of : (k : ℕ) (e : TreeEntry) → slice_get es k ≡ Some e → IsTreeNumbered e
  group_of k (Begin g) at = let there = (journal k (Begin g) at).there in omega (arith, there, few)
  group_of k (Done g) at =
      let t = the_some (begin_of (take k es) g) (journal k (Done g) at).begun in
      let begun = begin_at (take k es) g t.0 t.1 in
      let there = (journal t.0 (Begin g) (sym (get_taken es k t.0 (take_below es k t.0 (Begin g) begun)) ∙ begun)).there in omega (arith, there, few)
  group_of k (Made g) at = let there = (journal k (Made g) at).there in omega (arith, there, few)

  pub tree_numbered : AllByRecursion IsTreeNumbered es
  tree_numbered = by_slices IsTreeNumbered es group_of
