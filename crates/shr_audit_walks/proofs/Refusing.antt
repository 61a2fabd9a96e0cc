-- SPDX-License-Identifier: GPL-2.0-only
-- The refused charges of a command, counted by their groups.
use Rattle.shr_audit_walks.proofs.RoundsCommon.{◌≡◌, ◌⊎◌, ℕ, zero, suc, ◌+◌, ◌-◌, ◌^◌, ◌<◌, Bool, true, false, cond, List, [], ◌∷◌, ◌++◌, length, get_or, map, filter, take, Option, Some, None, refl, sym, ap, subst, ◌∙◌, inl, inr, arith, ◌&&◌, ◌==◌, count_by, nat_lt, nat_le, slice_get, AllByRecursion, cases_Bool, eqb-true, eq-eqb, nat_tests, length-map, take_more, sum_by-cons, filter-append, get_or_from_slice_get, slice_get_within, UseStep, Serial, Script, is_refused, ops_by, limit_of, parents_of, Refusal, AreRefusals, refused_groups, refusals_in, refusals_with, refusal_key, times_over, ◌*◌, sum_by, option_and_then, option_map, and_parts, and_from, map-append, All-from_recursion, All-permutation, sum_by-IsPermutation, slice_get-map, is_by, limits_of, all_of, StandByKey, as_refusal}
use Rattle.std.specs.List.Sorted.{IsPartitionedBy}
use Rattle.shr_base.specs.declared.scripts.GroupDecl.{GroupDecl}

-- ---- the limit of a group below the root

limit_if : Option GroupDecl → Option ℕ
limit_if None = None
limit_if (Some g) = g.limit

limit_of_some : (o : Option GroupDecl) → option_and_then (λ (limit : Option ℕ). limit) (option_map (λ (g : GroupDecl). g.limit) o) ≡ limit_if o
unfolding limit_if
limit_of_some None = refl
limit_of_some (Some g) = refl

limit_below : (s : Script) (group : ℕ) (o : Option GroupDecl) → (group ≡ 0 → ⊥) → o ≡ slice_get s.groups.items (group - 1) → limit_of s group ≡ limit_if o
limit_below s zero o some e = absurd (some refl)
limit_below s (suc n) o some e =
    let same : suc n - 1 ≡ n = omega arith in
    ap (option_and_then (λ (limit : Option ℕ). limit)) (slice_get-map (λ (g : GroupDecl). g.limit) s.groups.items n)
    ∙ limit_of_some (slice_get s.groups.items n)
    ∙ ap limit_if (sym (e ∙ ap (slice_get s.groups.items) same))

pub limit_found : (s : Script) (group : ℕ) (g : GroupDecl) → (group ≡ 0 → ⊥) → Some g ≡ slice_get s.groups.items (group - 1) → g.limit ≡ limit_of s group
unfolding limit_if
limit_found s group g some e = sym (limit_below s group (Some g) some e)

pub no_limit : (s : Script) (group : ℕ) → (group ≡ 0 → ⊥) → ◌≡◌ {A = Option GroupDecl} None (slice_get s.groups.items (group - 1)) → None ≡ limit_of s group
unfolding limit_if
no_limit s group some e = sym (limit_below s group None some e)

-- ---- one operation more

pub refusals_more : (s : Script) (uses : List UseStep) (i : ℕ) (d : UseStep) → i < length uses → refusals_in s (take (i + 1) uses) ≡ refusals_in s (take i uses) ++ refusals_in s (get_or uses i d ∷ [])
refusals_more s uses i d lt =
    ap (refusals_in s) (take_more uses i d lt)
    ∙ ap (map as_refusal) (filter-append (λ (o : UseStep). is_refused (limit_of s o.group) o) (take i uses) (get_or uses i d ∷ []))
    ∙ map-append as_refusal (filter (λ (o : UseStep). is_refused (limit_of s o.group) o) (take i uses)) (filter (λ (o : UseStep). is_refused (limit_of s o.group) o) (get_or uses i d ∷ []))

-- ---- refused charges by their keys

pub parted_below : (refusals : List Refusal) (key : ℕ) → StandByKey refusals → IsPartitionedBy (λ (x : Refusal). nat_lt x.key key) refusals
parted_below refusals key rises i j d le lt e = let up = rises i j d le lt in grind (arith, nat_tests)

pub parted_up_to : (refusals : List Refusal) (key : ℕ) → StandByKey refusals → IsPartitionedBy (λ (x : Refusal). nat_le x.key key) refusals
parted_up_to refusals key rises i j d le lt e = let up = rises i j d le lt in grind (arith, nat_tests)

-- ---- their groups are there

module _ (s : Script) where
  limited : (xs : List (Option ℕ)) (n l : ℕ) → option_and_then (λ (limit : Option ℕ). limit) (slice_get xs n) ≡ Some l → n < length xs
  limited xs n l e = by (slice_get xs n) refl e
    where
      by : (o : Option (Option ℕ)) → slice_get xs n ≡ o → option_and_then (λ (limit : Option ℕ). limit) o ≡ Some l → n < length xs
      by None f e = absurd cc
      by (Some x) f e = slice_get_within xs n x f

  same_count : length (limits_of s) ≡ length (parents_of s)
  same_count = ap suc (length-map s.groups.items (λ g. g.limit) ∙ sym (length-map s.groups.items (λ g. g.parent)))

  refused_there : (o : UseStep) (x : Option ℕ) → limit_of s o.group ≡ x → is_refused x o ≡ true → o.group < length (parents_of s)
  refused_there o None f t = absurd (let e : ◌≡◌ {A = Bool} false true = t in cc)
  refused_there o (Some l) f t = subst (λ (n : ℕ). o.group < n) same_count (limited (limits_of s) o.group l f)

  all_there : (uses : List UseStep) → AllByRecursion (λ (x : Refusal). x.group < length (parents_of s)) (refusals_in s uses)
  all_there [] = tt
  all_there (o ∷ os) = by (all_there os) (cases_Bool (is_refused (limit_of s o.group) o))
    where
      rest : List UseStep
      rest = filter (λ (x : UseStep). is_refused (limit_of s x.group) x) os

      by : AllByRecursion (λ (x : Refusal). x.group < length (parents_of s)) (refusals_in s os) → ((is_refused (limit_of s o.group) o ≡ true) ⊎ (is_refused (limit_of s o.group) o ≡ false)) → AllByRecursion (λ (x : Refusal). x.group < length (parents_of s)) (refusals_in s (o ∷ os))
      by more (inl t) = subst (λ (b : Bool). AllByRecursion (λ (x : Refusal). x.group < length (parents_of s)) (map as_refusal (cond b (o ∷ rest) rest))) (sym t) (refused_there o (limit_of s o.group) refl t, more)
      by more (inr f) = subst (λ (b : Bool). AllByRecursion (λ (x : Refusal). x.group < length (parents_of s)) (map as_refusal (cond b (o ∷ rest) rest))) (sym f) more

  pub there : (uses : List UseStep) (refusals : List Refusal) → AreRefusals s uses refusals → AllByRecursion (λ (x : Refusal). x.group < length (parents_of s)) refusals
  there uses refusals are =
      let all = All-permutation (λ (x : Refusal). x.group < length (parents_of s)) (refusals_in s uses) refusals are (All-from_recursion (λ (x : Refusal). x.group < length (parents_of s)) (refusals_in s uses) (all_there uses)) in
      all_of (λ (x : Refusal). x.group < length (parents_of s)) refusals (λ n x e. subst (λ (y : Refusal). y.group < length (parents_of s)) (get_or_from_slice_get refusals n x x e) (all n x (slice_get_within refusals n x e)))

-- the same of some of them
pub some_there : (p : Refusal → Bool) (n : ℕ) (refusals : List Refusal) → AllByRecursion (λ (x : Refusal). x.group < n) refusals → AllByRecursion (λ (x : Refusal). x.group < n) (filter p refusals)
some_there p n [] all = tt
some_there p n (x ∷ xs) all = by (some_there p n xs all.1) (p x)
  where
    by : AllByRecursion (λ (y : Refusal). y.group < n) (filter p xs) → (b : Bool) → AllByRecursion (λ (y : Refusal). y.group < n) (cond b (x ∷ filter p xs) (filter p xs))
    by more true = (all.0, more)
    by more false = more

-- ---- how often each group refused

abbrev one : Bool → ℕ
one b = cond b 1 0

module _ (s : Script) (by : Serial) (h : ℕ) (fits : by.command < 2 ^ 32) where
  -- a refused charge is of this command and group
  abbrev is : Refusal → Bool
  is x = (x.key == refusal_key by) && (x.group == h)

  grouped : (refusals : List Refusal) → times_over h (refused_groups (refusals_with (refusal_key by) refusals)) ≡ sum_by (λ (x : Refusal). one (is x)) refusals
  grouped [] = refl
  grouped (x ∷ xs) = head (x.key == refusal_key by) ∙ ap (λ (n : ℕ). one (is x) + n) (grouped xs) ∙ sym (sum_by-cons (λ (y : Refusal). one (is y)) x xs)
    where
      rest : List Refusal
      rest = refusals_with (refusal_key by) xs

      head : (b : Bool) → times_over h (refused_groups (cond b (x ∷ rest) rest)) ≡ one (b && (x.group == h)) + times_over h (refused_groups rest)
      head true = sum_by-cons (λ (z : ℕ). cond (z == h) 1 0) x.group (refused_groups rest)
      head false = omega arith

  counted : (uses : List UseStep) → sum_by (λ (x : Refusal). one (is x)) (refusals_in s uses) ≡ sum_by (λ (o : UseStep). one (is_refused (limit_of s o.group) o && is (as_refusal o))) uses
  counted [] = refl
  counted (o ∷ os) = head (is_refused (limit_of s o.group) o) ∙ ap (λ (n : ℕ). one (is_refused (limit_of s o.group) o && is (as_refusal o)) + n) (counted os) ∙ sym (sum_by-cons (λ (x : UseStep). one (is_refused (limit_of s x.group) x && is (as_refusal x))) o os)
    where
      rest : List UseStep
      rest = filter (λ (x : UseStep). is_refused (limit_of s x.group) x) os

      head : (b : Bool) → sum_by (λ (x : Refusal). one (is x)) (map as_refusal (cond b (o ∷ rest) rest)) ≡ one (b && is (as_refusal o)) + sum_by (λ (x : Refusal). one (is x)) (map as_refusal rest)
      head true = sum_by-cons (λ (x : Refusal). one (is x)) (as_refusal o) (map as_refusal rest)
      head false = omega arith

  told : (uses : List UseStep) → count_by (is_refused (limit_of s h)) (ops_by by (filter (λ (o : UseStep). o.group == h) uses)) ≡ sum_by (λ (o : UseStep). one ((o.group == h) && (is_by by o && is_refused (limit_of s h) o))) uses
  told [] = refl
  told (o ∷ os) = head (o.group == h) ∙ ap (λ (n : ℕ). one ((o.group == h) && (is_by by o && is_refused (limit_of s h) o)) + n) (told os) ∙ sym (sum_by-cons (λ (x : UseStep). one ((x.group == h) && (is_by by x && is_refused (limit_of s h) x))) o os)
    where
      rest : List UseStep
      rest = filter (λ (x : UseStep). x.group == h) os

      inner : (b : Bool) → count_by (is_refused (limit_of s h)) (cond b (o ∷ ops_by by rest) (ops_by by rest)) ≡ one (b && is_refused (limit_of s h) o) + count_by (is_refused (limit_of s h)) (ops_by by rest)
      inner true = sum_by-cons (λ (x : UseStep). cond (is_refused (limit_of s h) x) 1 0) o (ops_by by rest)
      inner false = omega arith

      head : (a : Bool) → count_by (is_refused (limit_of s h)) (ops_by by (cond a (o ∷ rest) rest)) ≡ one (a && (is_by by o && is_refused (limit_of s h) o)) + count_by (is_refused (limit_of s h)) (ops_by by rest)
      head true = inner (is_by by o)
      head false = omega arith

  -- the two tests are of the same operations
  same_keys : (o : UseStep) → o.by.command < 2 ^ 32 → (refusal_key o.by == refusal_key by) ≡ is_by by o
  same_keys o small = numbers o.by.worker o.by.command by.worker by.command small fits
    where
      numbers : (a b c d : ℕ) → b < 2 ^ 32 → d < 2 ^ 32 → (4294967296 * a + b == 4294967296 * c + d) ≡ ((a == c) && (b == d))
      numbers a b c d x y = elim (cases_Bool ((a == c) && (b == d))) [
        | inl t ↦ let p = and_parts (a == c) (b == d) t in let m = eqb-true a c p.0 in let n = eqb-true b d p.1 in eq-eqb (4294967296 * a + b) (4294967296 * c + d) (omega arith) ∙ sym t
        | inr f ↦ away f
      ]
        where
          away : ((a == c) && (b == d)) ≡ false → (4294967296 * a + b == 4294967296 * c + d) ≡ ((a == c) && (b == d))
          away f = by_test (cases_Bool (4294967296 * a + b == 4294967296 * c + d))
            where
              both : 4294967296 * a + b ≡ 4294967296 * c + d → ((a == c) && (b == d)) ≡ true
              both e = let m : a ≡ c = omega arith in let n : b ≡ d = omega arith in and_from (a == c) (b == d) (eq-eqb a c m) (eq-eqb b d n)

              by_test : (((4294967296 * a + b == 4294967296 * c + d) ≡ true) ⊎ ((4294967296 * a + b == 4294967296 * c + d) ≡ false)) → (4294967296 * a + b == 4294967296 * c + d) ≡ ((a == c) && (b == d))
              by_test (inl t) = absurd (let x = both (eqb-true (4294967296 * a + b) (4294967296 * c + d) t) in cc)
              by_test (inr g) = g ∙ sym f

  same_tests : (o : UseStep) → o.by.command < 2 ^ 32 → (is_refused (limit_of s o.group) o && is (as_refusal o)) ≡ ((o.group == h) && (is_by by o && is_refused (limit_of s h) o))
  same_tests o small = elim (cases_Bool (o.group == h)) [
    | inl t ↦
        ap (λ (b : Bool). is_refused (limit_of s o.group) o && ((refusal_key o.by == refusal_key by) && b)) t
        ∙ ap (λ (b : Bool). is_refused (limit_of s o.group) o && (b && true)) (same_keys o small)
        ∙ ap (λ (g : ℕ). is_refused (limit_of s g) o && (is_by by o && true)) (eqb-true o.group h t)
        ∙ turned (is_refused (limit_of s h) o) (is_by by o)
        ∙ ap (λ (b : Bool). b && (is_by by o && is_refused (limit_of s h) o)) (sym t)
    | inr f ↦
        ap (λ (b : Bool). is_refused (limit_of s o.group) o && ((refusal_key o.by == refusal_key by) && b)) f
        ∙ never (is_refused (limit_of s o.group) o) (refusal_key o.by == refusal_key by)
        ∙ ap (λ (b : Bool). b && (is_by by o && is_refused (limit_of s h) o)) (sym f)
  ]
    where
      turned : (a b : Bool) → (a && (b && true)) ≡ (true && (b && a))
      turned true true = refl
      turned true false = refl
      turned false true = refl
      turned false false = refl

      never : (a b : Bool) → (a && (b && false)) ≡ false
      never true true = refl
      never true false = refl
      never false b = refl

  same_sums : (uses : List UseStep) → AllByRecursion (λ (o : UseStep). o.by.command < 2 ^ 32) uses
      → sum_by (λ (o : UseStep). one (is_refused (limit_of s o.group) o && is (as_refusal o))) uses ≡ sum_by (λ (o : UseStep). one ((o.group == h) && (is_by by o && is_refused (limit_of s h) o))) uses
  same_sums [] small = refl
  same_sums (o ∷ os) small =
      sum_by-cons (λ (x : UseStep). one (is_refused (limit_of s x.group) x && is (as_refusal x))) o os
      ∙ ap (λ (b : Bool). one b + sum_by (λ (x : UseStep). one (is_refused (limit_of s x.group) x && is (as_refusal x))) os) (same_tests o small.0)
      ∙ ap (λ (n : ℕ). one ((o.group == h) && (is_by by o && is_refused (limit_of s h) o)) + n) (same_sums os small.1)
      ∙ sym (sum_by-cons (λ (x : UseStep). one ((x.group == h) && (is_by by x && is_refused (limit_of s h) x))) o os)

  pub refusals_counted : (uses : List UseStep) (refusals : List Refusal) → AllByRecursion (λ (o : UseStep). o.by.command < 2 ^ 32) uses → AreRefusals s uses refusals
      → times_over h (refused_groups (refusals_with (refusal_key by) refusals)) ≡ count_by (is_refused (limit_of s h)) (ops_by by (filter (λ (o : UseStep). o.group == h) uses))
  refusals_counted uses refusals small are =
      grouped refusals ∙ sum_by-IsPermutation (λ (x : Refusal). one (is x)) (refusals_in s uses) refusals are ∙ counted uses ∙ same_sums uses small ∙ sym (told uses)
