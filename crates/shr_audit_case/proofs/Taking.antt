-- SPDX-License-Identifier: GPL-2.0-only
-- The lists of children, before and after one was taken.
use Rattle.shr_audit_case.proofs.ReplayCommon.{◌≡◌, ◌≢◌, ℕ, ◌<◌, ◌≤◌, Bool, true, false, cond, List, [], length, set, refl, sym, ap, ◌∙◌, subst, arith, length-set, slice_index_or, slice_set, cases_Bool, get_or-set_same, get_or-set_other, Object, Queued, is_child, without_child, given_by, no_queue, took_of, KeepsOthers, eq-eqb, ◌==◌, ◌&&◌, nat_lt, ltb-false, ltb-true, eqb-true, ne_eqb, get_or_past}

-- nothing is to be taken where there is no list
pub took_none : (parents : List ℕ) (group : ℕ) (lists : List Queued) (c : ℕ) → (is_child parents group c && nat_lt c (length lists)) ≡ false → took_of parents group lists c ≡ []
took_none parents group lists c h = by_child (is_child parents group c) h where
  by_child : (b : Bool) → (b && nat_lt c (length lists)) ≡ false → cond b (given_by lists c) [] ≡ []
  by_child false e = refl
  by_child true e = ap (λ (q : Queued). q.items) (get_or_past lists c no_queue (ltb-false c (length lists) e))

-- nothing changes where nothing was to be taken
pub without_none : (took : ℕ → List Object) (c : ℕ) → took c ≡ [] → took ≡ without_child c took
without_none took c none = λ i x. at x (x == c) refl i where
  at : (x : ℕ) (b : Bool) → (x == c) ≡ b → took x ≡ cond b [] (took x)
  at x true e = ap took (eqb-true x c e) ∙ none
  at x false e = refl

module _ (parents : List ℕ) (group : ℕ) (lists : List Queued) (c : ℕ) (q : Queued) (here : (is_child parents group c && nat_lt c (length lists)) ≡ true) where
  child : is_child parents group c ≡ true
  child = by (is_child parents group c) here where
    by : (b : Bool) → (b && nat_lt c (length lists)) ≡ true → b ≡ true
    by true e = refl
    by false e = cc

  within : c < length lists
  within = by (is_child parents group c) here where
    by : (b : Bool) → (b && nat_lt c (length lists)) ≡ true → c < length lists
    by true e = ltb-true c (length lists) e
    by false e = cc

  pub took_one : took_of parents group lists c ≡ given_by lists c
  took_one = ap (λ b. cond b (given_by lists c) []) child

  other_list : (x : ℕ) → x ≢ c → given_by (slice_set lists c q) x ≡ given_by lists x
  other_list x other = ap (λ (y : Queued). y.items) (get_or-set_other lists c x q no_queue other)

  pub took_rest : q.items ≡ [] → took_of parents group (slice_set lists c q) ≡ without_child c (took_of parents group lists)
  took_rest none = λ i x. at x (x == c) refl i where
    at : (x : ℕ) (b : Bool) → (x == c) ≡ b → took_of parents group (slice_set lists c q) x ≡ cond b [] (took_of parents group lists x)
    at x true e = ap (λ y. took_of parents group (slice_set lists c q) y) (eqb-true x c e)
        ∙ (ap (λ b. cond b (given_by (slice_set lists c q) c) []) child ∙ (ap (λ (y : Queued). y.items) (get_or-set_same lists c q no_queue within) ∙ none))
    at x false e = ap (λ (os : List Object). cond (is_child parents group x) os []) (other_list x (λ same. let f : (x == c) ≡ true = eq-eqb x c same in cc))

  pub keeps_others : KeepsOthers parents group lists (slice_set lists c q)
  keeps_others = record {
    count = length-set lists c q;
    others = λ x no. other_list x (λ same. let f : is_child parents group x ≡ true = ap (is_child parents group) same ∙ child in cc);
  }

pub keeps_more : (parents : List ℕ) (group : ℕ) (a b c : List Queued) → KeepsOthers parents group a b → KeepsOthers parents group b c → KeepsOthers parents group a c
keeps_more parents group a b c f g = record { count = g.count ∙ f.count; others = λ x no. g.others x no ∙ f.others x no }
