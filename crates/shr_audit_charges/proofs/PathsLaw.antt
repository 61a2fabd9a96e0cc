-- SPDX-License-Identifier: GPL-2.0-only
-- Climbing from a group to the root, and how often each group is met.
use Rattle.shr_audit_charges.proofs.Common.{◌≡◌, ◌≢◌, ℕ, zero, suc, ◌+◌, ◌/◌, ◌<◌, ◌≤◌, ◌^◌, ◌⊎◌, inl, inr, Bool, true, false, ◌||◌, cond, List, [], ◌∷◌, ◌++◌, length, refl, sym, ap, subst, ◌∙◌, arith, ne_eqb, eq-eqb, ◌==◌, nat_lt, AllByRecursion, cases_eq, cases_lt, nat_tests, sum_by-cons, sum_by-append, Serial, is_at_or_above, IsTree, parent_of, path_of, own_key, start_of, keys_with, path_keys, append_assoc, count_by, list_any, get_or_past}
use Rattle.shr_model.specs.Groups.{path_within}
use Rattle.shr_model.proofs.GroupsLaws.{path_of-root, path_of-below, same_path}

-- ---- the climb

pub start_there : (parents : List ℕ) (g : ℕ) → IsTree parents → start_of parents g < length parents
start_there parents g tree = by_order (cases_lt g (length parents))
  where
    by_order : (g < length parents) ⊎ (length parents ≤ g) → start_of parents g < length parents
    by_order (inl lt) = let t : nat_lt g (length parents) ≡ true = grind (arith, nat_tests) in subst (λ (b : Bool). cond b g 0 < length parents) (sym t) lt
    by_order (inr ge) = let t : nat_lt g (length parents) ≡ false = grind (arith, nat_tests) in subst (λ (b : Bool). cond b g 0 < length parents) (sym t) tree.has_root

pub climbed : (parents : List ℕ) (by : Serial) (old keys now : List ℕ) (g : ℕ) (key : ℕ) → IsTree parents → 0 < g → g < length parents → key ≡ own_key g by.worker by.command → keys ++ keys_with by (path_of parents g) ≡ old → now ≡ keys ++ key ∷ [] → now ++ keys_with by (path_of parents (parent_of parents g)) ≡ old
climbed parents by old keys now g key tree above lt is h pushed =
    ap (λ (l : List ℕ). l ++ keys_with by (path_of parents (parent_of parents g))) pushed ∙ append_assoc keys (key ∷ []) (keys_with by (path_of parents (parent_of parents g)))
    ∙ ap (λ (k : ℕ). keys ++ (k ∷ keys_with by (path_of parents (parent_of parents g)))) is ∙ ap (λ (l : List ℕ). keys ++ keys_with by l) (sym (path_of-below parents tree g above lt)) ∙ h

pub on_top : (parents : List ℕ) (by : Serial) (old keys now : List ℕ) (g : ℕ) (key : ℕ) → g ≤ 0 → key ≡ own_key 0 by.worker by.command → keys ++ keys_with by (path_of parents g) ≡ old → now ≡ keys ++ key ∷ [] → now ≡ old
on_top parents by old keys now g key low is h pushed =
    let z : g ≡ 0 = omega (arith, low) in
    pushed ∙ ap (λ (k : ℕ). keys ++ k ∷ []) is ∙ ap (λ (l : List ℕ). keys ++ keys_with by l) (sym (ap (path_of parents) z ∙ path_of-root parents)) ∙ h

-- ---- how often a group is met on a path

abbrev pub times : ℕ → List ℕ → ℕ
times g gs = count_by (λ k. k == g) gs

abbrev pub met : ℕ → List ℕ → Bool
met g gs = list_any (λ k. k == g) gs

pub times_cons : (g k : ℕ) (gs : List ℕ) → times g (k ∷ gs) ≡ cond (k == g) 1 0 + times g gs
times_cons g k gs = sum_by-cons (λ (x : ℕ). cond (x == g) 1 0) k gs

pub times_both : (g : ℕ) (xs ys : List ℕ) → times g (xs ++ ys) ≡ times g xs + times g ys
times_both g xs ys = sum_by-append (λ (x : ℕ). cond (x == g) 1 0) xs ys

pub one_if : (a b : ℕ) → a ≡ b → ◌≡◌ {A = ℕ} (cond (a == b) 1 0) 1
one_if a b e = ap {B = ℕ} (λ (t : Bool). cond t 1 0) (eq-eqb a b e)

pub none_if : (a b : ℕ) → a ≢ b → ◌≡◌ {A = ℕ} (cond (a == b) 1 0) 0
none_if a b ne = ap {B = ℕ} (λ (t : Bool). cond t 1 0) (ne_eqb a b ne)

-- each group of a list is at most this one
pub UpTo : ℕ → List ℕ → Type 0
UpTo n gs = AllByRecursion (λ k. k ≤ n) gs

raised : (n m : ℕ) (gs : List ℕ) → n ≤ m → UpTo n gs → UpTo m gs
unfolding UpTo
raised n m [] le h = tt
raised n m (g ∷ gs) le h = (let low = h.0 in omega (arith, low, le), raised n m gs le h.1)

not_met : (n g : ℕ) (gs : List ℕ) → n < g → UpTo n gs → (times g gs ≡ 0) × (met g gs ≡ false)
unfolding UpTo
not_met n g [] lt h = (refl, refl)
not_met n g (k ∷ gs) lt h =
    let other : k ≢ g = λ e. absurd (let low = h.0 in omega (arith, low, lt, e)) in
    let more = not_met n g gs lt h.1 in
    let t = times_cons g k gs in let z = none_if k g other in let r = more.0 in
    (omega (arith, t, z, r), ap (λ (b : Bool). b || met g gs) (ne_eqb k g other) ∙ more.1)

-- a path goes down to the root, and meets each group once at most
pub record IsPath (g birth : ℕ) (gs : List ℕ) : Type 0 where
  pub up : UpTo birth gs
  pub once : times g gs ≡ cond (met g gs) 1 0

path_at : (parents : List ℕ) → IsTree parents → (g steps birth : ℕ) → birth ≤ steps → birth < length parents → IsPath g birth (path_of parents birth)
unfolding UpTo
path_at parents tree g steps zero le lt = subst (IsPath g 0) (sym (path_of-root parents)) (record { up = (omega arith, tt); once = root (0 == g) })
  where
    root : (b : Bool) → ◌≡◌ {A = ℕ} (0 + cond b 1 0) (cond (b || false) 1 0)
    root true = refl
    root false = refl
path_at parents tree g zero (suc b) le lt = absurd (omega (arith, le))
path_at parents tree g (suc steps) (suc b) le lt =
    let low = tree.lower (suc b) (omega arith) lt in
    subst (IsPath g (suc b)) (sym (path_of-below parents tree (suc b) (omega arith) lt)) (longer (parent_of parents (suc b)) low (path_at parents tree g steps (parent_of parents (suc b)) (omega (arith, low, le)) (omega (arith, low, lt))))
  where
    longer : (p : ℕ) → p < suc b → IsPath g p (path_of parents p) → IsPath g (suc b) (suc b ∷ path_of parents p)
    longer p low h = record { up = (omega arith, raised p (suc b) (path_of parents p) (omega (arith, low)) h.up); once = by_eq (cases_eq (suc b) g) }
      where
        by_eq : (suc b ≡ g) ⊎ (suc b ≢ g) → times g (suc b ∷ path_of parents p) ≡ cond (met g (suc b ∷ path_of parents p)) 1 0
        by_eq (inl e) =
            let t = times_cons g (suc b) (path_of parents p) in let z = one_if (suc b) g e in let r = (not_met p g (path_of parents p) (omega (arith, low, e)) h.up).0 in
            let one : times g (suc b ∷ path_of parents p) ≡ 1 = omega (arith, t, z, r) in
            one ∙ sym (ap {B = ℕ} (λ (t : Bool). cond (t || met g (path_of parents p)) 1 0) (eq-eqb (suc b) g e))
        by_eq (inr ne) =
            let t = times_cons g (suc b) (path_of parents p) in let z = none_if (suc b) g ne in
            let same : times g (suc b ∷ path_of parents p) ≡ times g (path_of parents p) = omega (arith, t, z) in
            same ∙ h.once ∙ sym (ap {B = ℕ} (λ (t : Bool). cond (t || met g (path_of parents p)) 1 0) (ne_eqb (suc b) g ne))

-- a group that isn't there has the root above it alone
past_path : (parents : List ℕ) (g birth : ℕ) → IsTree parents → length parents ≤ birth → g < length parents → is_at_or_above parents g birth ≡ is_at_or_above parents g 0
unfolding path_within
past_path parents g zero tree ge lt = absurd (omega (arith, ge, lt))
past_path parents g (suc b) tree ge lt =
    let zero_parent : parent_of parents (suc b) ≡ 0 = get_or_past parents (suc b) 0 ge in
    let self : (suc b == 0) ≡ false = ne_eqb (suc b) 0 (λ e. absurd (omega (arith, e))) in
    let other : (suc b == g) ≡ false = ne_eqb (suc b) g (λ e. absurd (omega (arith, e, ge, lt))) in
    let above : path_within b parents (parent_of parents (suc b)) ≡ 0 ∷ [] = ap (path_within b parents) zero_parent ∙ same_path parents tree b 0 0 (omega arith) (omega arith) tree.has_root ∙ path_of-root parents in
    ap (λ (t : Bool). met g (cond t (0 ∷ []) (suc b ∷ path_within b parents (parent_of parents (suc b))))) self ∙ ap (λ (t : Bool). t || met g (path_within b parents (parent_of parents (suc b)))) other ∙ ap (met g) above ∙ sym (ap (met g) (path_of-root parents))

-- the groups that are met from where the climb starts are those at or above the group
pub path_times : (parents : List ℕ) (g birth : ℕ) → IsTree parents → g < length parents → times g (path_of parents (start_of parents birth)) ≡ cond (is_at_or_above parents g birth) 1 0
path_times parents g birth tree lt = by_order (cases_lt birth (length parents))
  where
    by_order : (birth < length parents) ⊎ (length parents ≤ birth) → times g (path_of parents (start_of parents birth)) ≡ cond (is_at_or_above parents g birth) 1 0
    by_order (inl low) =
        let t : nat_lt birth (length parents) ≡ true = grind (arith, nat_tests) in
        ap (λ (b : Bool). times g (path_of parents (cond b birth 0))) t ∙ (path_at parents tree g birth birth (omega arith) low).once
    by_order (inr ge) =
        let t : nat_lt birth (length parents) ≡ false = grind (arith, nat_tests) in
        ap (λ (b : Bool). times g (path_of parents (cond b birth 0))) t ∙ (path_at parents tree g 0 0 (omega arith) tree.has_root).once ∙ ap (λ (b : Bool). cond b 1 0) (sym (past_path parents g birth tree ge lt))

-- ---- the keys of a path

-- a key is of a group that is there
abbrev pub IsOfGroup : ℕ → ℕ → Type 0
IsOfGroup groups key = key / 281474976710656 < groups

pub keyed_group : (g w n : ℕ) → w < 2 ^ 16 → n < 2 ^ 32 → own_key g w n / 281474976710656 ≡ g
keyed_group g w n a b = omega (arith, a, b)

keys_there : (groups : ℕ) (by : Serial) (n : ℕ) (gs : List ℕ) → by.worker < 2 ^ 16 → by.command < 2 ^ 32 → n < groups → UpTo n gs → AllByRecursion (IsOfGroup groups) (keys_with by gs)
unfolding UpTo
keys_there groups by n [] a b lt h = tt
keys_there groups by n (g ∷ gs) a b lt h = (let k = keyed_group g by.worker by.command a b in let low = h.0 in omega (arith, k, low, lt), keys_there groups by n gs a b lt h.1)

pub path_there : (parents : List ℕ) (by : Serial) (birth : ℕ) → IsTree parents → by.worker < 2 ^ 16 → by.command < 2 ^ 32 → AllByRecursion (IsOfGroup (length parents)) (path_keys parents by birth)
path_there parents by birth tree a b =
    let low = start_there parents birth tree in
    keys_there (length parents) by (start_of parents birth) (path_of parents (start_of parents birth)) a b low (path_at parents tree 0 (start_of parents birth) (start_of parents birth) (omega arith) low).up
