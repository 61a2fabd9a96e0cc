-- SPDX-License-Identifier: GPL-2.0-only
-- One group's walk after another.
use Rattle.shr_walk.proofs.Common.{◌≡◌, ◌≢◌, ℕ, ◌+◌, ◌<◌, ◌≤◌, List, [], ◌∷◌, ◌++◌, length, take, get_or, map, true, false, refl, sym, ap, subst, ◌∙◌, inl, inr, ⊎_elim, arith, sum, Contains, All, nat_tests, All-nil, All-append, All-cons, WalkAnswer, IsTree, Shared, Walk, WorkerState, OneGives, walk_over, all_groups, IsBalanceCut, eqb, cases_Bool, take_more, take_all, preorder_of, AreWalked, walk_freed, lacked_memory, HadMemory, IsBalanced}
use Rattle.std.specs.List.{AllByRecursion, IsDistinct, list_any}
use Rattle.std.proofs.lemmas.List.Sums.{sum-map, sum_by-append, sum_by-cons}
use Rattle.std.proofs.lemmas.Map.Steps.{length-le_from_distinct_below}
use Rattle.shr_model.proofs.BagLaws.{AreApart}
use Rattle.shr_model.proofs.GroupsOrder.{preorder_of-on, preorder_of-once}
use Rattle.shr_model.proofs.Members.{Has, Has_from_Contains}

-- one group more
pub walked_more : (x : Shared) (walk : Walk) (gs : List ℕ) (answers : List WalkAnswer) (s t u : WorkerState) (g : ℕ) (a : WalkAnswer) → AreWalked x walk gs answers s t → OneGives x (walk_over walk g (length t.walks)) a t u
    → AreWalked x walk (gs ++ g ∷ []) (answers ++ a ∷ []) s u
walked_more x walk [] answers s t u g a (none, same) one = (a, [], u, ap (λ (l : List WalkAnswer). l ++ a ∷ []) none, subst (λ (v : WorkerState). OneGives x (walk_over walk g (length v.walks)) a v u) (sym same) one, (refl, refl))
walked_more x walk (h ∷ gs) answers s t u g a (b, rest, v, e, first, later) one = (b, rest ++ a ∷ [], v, ap (λ (l : List WalkAnswer). l ++ a ∷ []) e, first, walked_more x walk gs rest v t u g a later one)

-- the same as a loop over the groups goes on
pub walked_next : (x : Shared) (walk : Walk) (gs : List ℕ) (n : ℕ) (answers : List WalkAnswer) (s t u : WorkerState) (g : ℕ) (a : WalkAnswer) → n < length gs → get_or gs n 0 ≡ g → AreWalked x walk (take n gs) answers s t → OneGives x (walk_over walk g (length t.walks)) a t u
    → AreWalked x walk (take (n + 1) gs) (answers ++ a ∷ []) s u
walked_next x walk gs n answers s t u g a near at walked one = subst (λ (l : List ℕ). AreWalked x walk l (answers ++ a ∷ []) s u) (sym (take_more gs n 0 near ∙ ap (λ (h : ℕ). take n gs ++ h ∷ []) at)) (walked_more x walk (take n gs) answers s t u g a walked one)

-- ---- how many groups a preorder has

other : (p q : ℕ) → p ≢ q → eqb p q ≡ false
other p q ne = grind (arith, nat_tests)

others : (p : ℕ) (xs : List ℕ) → AllByRecursion (λ q. p ≢ q) xs → AllByRecursion (λ q. eqb p q ≡ false) xs
others p [] h = tt
others p (q ∷ xs) h = (other p q h.0, others p xs h.1)

distinct : (xs : List ℕ) → AreApart xs → IsDistinct eqb xs
unfolding IsDistinct
distinct [] h = tt
distinct (p ∷ xs) h = (others p xs h.0, distinct xs h.1)

has_any : (q : ℕ) (xs : List ℕ) → list_any (eqb q) xs ≡ true → Has xs q
has_any q [] h = cc
has_any q (x ∷ xs) h = ⊎_elim
    (λ t. let e : x ≡ q = grind (arith, nat_tests) in inl e)
    (λ f. inr (has_any q xs (rw f at h)))
    (cases_Bool (eqb q x))

module _ (parents : List ℕ) (tree : IsTree parents) where
  -- each group of the balance is one of the tree
  pub all_within : (g : ℕ) → Contains (preorder_of parents 0) g → g < length parents
  all_within g h = (preorder_of-on parents tree 0 g tree.has_root (Has_from_Contains (preorder_of parents 0) g h)).1

  -- a balance walks no more groups than there are
  pub all_few : length (preorder_of parents 0) ≤ length parents
  all_few = length-le_from_distinct_below (preorder_of parents 0) (length parents) (distinct (preorder_of parents 0) (preorder_of-once parents tree 0 tree.has_root))
      (λ q h. (preorder_of-on parents tree 0 q tree.has_root (has_any q (preorder_of parents 0) h)).1)

-- ---- what the answers tell

-- one answer more adds what it says was freed
pub told_more : (answers : List WalkAnswer) (a : WalkAnswer) → sum (map walk_freed (answers ++ a ∷ [])) ≡ sum (map walk_freed answers) + walk_freed a
told_more answers a = let all = sum-map walk_freed (answers ++ a ∷ []) in let both = sum_by-append walk_freed answers (a ∷ []) in let front = sum-map walk_freed answers in let one = sum_by-cons walk_freed a [] in omega (arith, all, both, front, one)

-- ---- a balance as its loop goes on

-- the first groups were walked, and each walk had memory
pub record IsBalancedTo (x : Shared) (walk : Walk) (n freed : ℕ) (s t : WorkerState) : Type 0 where
  pub answers : List WalkAnswer
  pub walked : AreWalked x walk (take n (all_groups x)) answers s t
  pub had : All HadMemory answers
  pub sum_freed : freed ≡ sum (map walk_freed answers)

pub balanced_none : (x : Shared) (walk : Walk) (s : WorkerState) → IsBalancedTo x walk 0 0 s s
balanced_none x walk s = record { answers = []; walked = (refl, refl); had = All-nil HadMemory; sum_freed = refl }

module _ (x : Shared) (walk : Walk) (n freed : ℕ) (s t u : WorkerState) (a : WalkAnswer) (near : n < length (all_groups x)) (h : IsBalancedTo x walk n freed s t) (one : OneGives x (walk_over walk (get_or (all_groups x) n 0) (length t.walks)) a t u) where
  -- one walk more that had memory, and so far nothing was cut
  pub balanced_more : lacked_memory a ≡ false → IsBalancedTo x walk (n + 1) (freed + walk_freed a) s u
  balanced_more had = record {
    answers = h.answers ++ a ∷ [];
    walked = walked_next x walk (all_groups x) n h.answers s t u (get_or (all_groups x) n 0) a near refl h.walked one;
    had = All-append HadMemory h.answers (a ∷ []) h.had (All-cons HadMemory a [] had (All-nil HadMemory));
    sum_freed = ap (λ (m : ℕ). m + walk_freed a) h.sum_freed ∙ sym (told_more h.answers a);
  }

  -- the first walk that lacked memory cuts the balance
  pub balanced_cut : lacked_memory a ≡ true → IsBalanceCut x walk (freed + walk_freed a) s u
  balanced_cut lacked = record {
    n = n;
    within = near;
    answers = h.answers;
    last = a;
    walked = walked_next x walk (all_groups x) n h.answers s t u (get_or (all_groups x) n 0) a near refl h.walked one;
    had = h.had;
    lacked = lacked;
    sum_freed = ap (λ (m : ℕ). m + walk_freed a) h.sum_freed ∙ sym (told_more h.answers a);
  }

-- once all groups were walked the balance is done
pub balanced_all : (x : Shared) (walk : Walk) (n freed : ℕ) (s t : WorkerState) → n ≡ length (all_groups x) → IsBalancedTo x walk n freed s t → IsBalanced x walk freed s t
balanced_all x walk n freed s t end h = record {
  answers = h.answers;
  walked = subst (λ (l : List ℕ). AreWalked x walk l h.answers s t) (ap (λ (m : ℕ). take m (all_groups x)) end ∙ take_all (length (all_groups x)) (all_groups x) (omega arith)) h.walked;
  had = h.had;
  sum_freed = h.sum_freed;
}
