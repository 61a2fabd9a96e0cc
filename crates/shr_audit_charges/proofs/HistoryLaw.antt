-- SPDX-License-Identifier: GPL-2.0-only
-- What the operations of each group come to after one more, and when it may follow.
use Rattle.shr_audit_charges.proofs.Common.{◌≡◌, ◌≢◌, ℕ, ◌+◌, ◌<◌, ◌≤◌, ◌⊎◌, inl, inr, Bool, true, false, not, cond, List, [], ◌∷◌, ◌++◌, length, get_or, set, take, drop, Option, Some, None, refl, sym, ap, subst, ◌∙◌, arith, ne_eqb, eq-eqb, ◌==◌, slice_get, cases_eq, length_push, take_more, take_all, length-set, length-take-le, count_by-le-length, sum_by-append, slice_get-get_or, slice_get_within, UseStep, ups, downs, Usage, group_uses, AreCharged, usage_of, AreUsagesOf, AreNone, with_use, length-filter, IsNextUse, IsChargeHistory, IsNextOfGroup, usage_with, put_usage, all_push, some_injective}
use Rattle.shr_audit_charges.proofs.Pushed.{push_each, here_each, all_here, split_at, filter_in, filter_here, set_own, set_other}
use Rattle.shr_model.proofs.ChargeLaws.{ups_downs, ups_push}
use Rattle.shr_model.proofs.Lists.{filter_out}

-- ---- the operations of a group

pub uses_own : (xs : List UseStep) (o : UseStep) (g : ℕ) → o.group ≡ g → group_uses (xs ++ o ∷ []) g ≡ group_uses xs g ++ o ∷ []
uses_own xs o g e = filter_in (λ (x : UseStep). x.group == g) xs o (eq-eqb o.group g e)

pub uses_other : (xs : List UseStep) (o : UseStep) (g : ℕ) → o.group ≢ g → group_uses (xs ++ o ∷ []) g ≡ group_uses xs g
uses_other xs o g ne = filter_out (λ (x : UseStep). x.group == g) xs o (ne_eqb o.group g ne)

few_uses : (xs : List UseStep) (g : ℕ) → length (group_uses xs g) ≤ length xs
few_uses xs g = let a = length-filter (λ (x : UseStep). x.group == g) xs in let b = count_by-le-length (λ (x : UseStep). x.group == g) xs in omega (arith, a, b)

downs_push : (ops : List UseStep) (o : UseStep) → downs (ops ++ o ∷ []) ≡ downs ops + cond o.up 0 1
downs_push ops o = let a = sum_by-append (λ (x : UseStep). cond (not x.up) 1 0) ops (o ∷ []) in let b = turned o.up in omega (arith, a, b)
  where
    turned : (b : Bool) → ◌≡◌ {A = ℕ} (cond (not b) 1 0) (cond b 0 1)
    turned true = refl
    turned false = refl

usage_is : (a b c d : ℕ) → a ≡ c → b ≡ d → ◌≡◌ {A = Usage} (record { ups = a; downs = b }) (record { ups = c; downs = d })
usage_is a b c d e f = rw (e, f) refl

usage_push : (ops : List UseStep) (o : UseStep) → usage_of (ops ++ o ∷ []) ≡ usage_with (usage_of ops) o.up
usage_push ops o = usage_is _ _ _ _ (ups_push ops o) (downs_push ops o)

-- ---- one operation more

pub noted_length : (us : List Usage) (o : UseStep) → length (with_use us o) ≡ length us
noted_length us o = by_usage (slice_get us o.group)
  where
    by_usage : (u : Option Usage) → length (put_usage us o u) ≡ length us
    by_usage None = refl
    by_usage (Some x) = length-set us o.group (usage_with x o.up)

noted_each : (xs : List UseStep) (us : List Usage) (o : UseStep) → ((g : ℕ) (x : Usage) → slice_get us g ≡ Some x → x ≡ usage_of (group_uses xs g)) → (g : ℕ) (x : Usage) → slice_get (with_use us o) g ≡ Some x → x ≡ usage_of (group_uses (xs ++ o ∷ []) g)
noted_each xs us o h g x at = by_usage (slice_get us o.group) refl at
  where
    by_group : (y : Usage) → slice_get us o.group ≡ Some y → (g ≡ o.group) ⊎ (g ≢ o.group) → slice_get (set us o.group (usage_with y o.up)) g ≡ Some x → x ≡ usage_of (group_uses (xs ++ o ∷ []) g)
    by_group y there (inl own) at =
        let here : slice_get (set us o.group (usage_with y o.up)) o.group ≡ Some x = subst (λ (j : ℕ). slice_get (set us o.group (usage_with y o.up)) j ≡ Some x) own at in
        let x_is : usage_with y o.up ≡ x = some_injective (usage_with y o.up) x (sym (set_own us o.group (usage_with y o.up) (slice_get_within us o.group y there)) ∙ here) in
        sym x_is ∙ ap (λ (v : Usage). usage_with v o.up) (h o.group y there) ∙ sym (usage_push (group_uses xs o.group) o) ∙ ap usage_of (sym (uses_own xs o o.group refl)) ∙ ap (λ (j : ℕ). usage_of (group_uses (xs ++ o ∷ []) j)) (sym own)
    by_group y there (inr other) at = h g x (sym (set_other us o.group g (usage_with y o.up) other) ∙ at) ∙ ap usage_of (sym (uses_other xs o g (λ same. other (sym same))))

    by_usage : (u : Option Usage) → slice_get us o.group ≡ u → slice_get (put_usage us o u) g ≡ Some x → x ≡ usage_of (group_uses (xs ++ o ∷ []) g)
    by_usage None none at = h g x at ∙ ap usage_of (sym (uses_other xs o g (λ same. absurd (let here = ap (slice_get us) same in cc))))
    by_usage (Some y) there at = by_group y there (cases_eq g o.group) at

-- ---- when an operation may follow

next_of : (groups : ℕ) (xs : List UseStep) (us : List Usage) (o : UseStep) → AreUsagesOf groups xs us → IsNextOfGroup us o → (o.group < groups) × IsNextUse o.group (group_uses xs o.group) o
next_of groups xs us o are (x, (at, (number, found))) =
    let is = are.each o.group x at in
    let u = ap (λ (v : Usage). v.ups) is in let d = ap (λ (v : Usage). v.downs) is in
    let b = ups_downs (group_uses xs o.group) in let c = are.count in let lt = slice_get_within us o.group x at in (
      omega (arith, c, lt),
      record { group = refl; number = omega (arith, u, d, b, number); found = found ∙ rw (u, d) refl },
    )

may_of : (groups : ℕ) (xs : List UseStep) (us : List Usage) (o : UseStep) → AreUsagesOf groups xs us → o.group < groups → IsNextUse o.group (group_uses xs o.group) o → IsNextOfGroup us o
may_of groups xs us o are lt next =
    let c = are.count in
    let d : Usage = record { ups = 0; downs = 0 } in
    let at = slice_get-get_or us o.group d (omega (arith, c, lt)) in
    let is = are.each o.group (get_or us o.group d) at in
    let u = ap (λ (v : Usage). v.ups) is in let w = ap (λ (v : Usage). v.downs) is in
    let b = ups_downs (group_uses xs o.group) in let n = next.number in
    (get_or us o.group d, (at, (omega (arith, u, w, b, n), next.found ∙ rw (sym u, sym w) refl)))

charged_push : (groups : ℕ) (xs : List UseStep) (o : UseStep) → AreCharged groups xs → o.group < groups → IsNextUse o.group (group_uses xs o.group) o → AreCharged groups (xs ++ o ∷ [])
charged_push groups xs o h lt next = record { there = all_push (λ (x : UseStep). x.group < groups) xs o h.there lt; histories = λ g. by_group g (cases_eq o.group g) }
  where
    by_group : (g : ℕ) → (o.group ≡ g) ⊎ (o.group ≢ g) → IsChargeHistory g (group_uses (xs ++ o ∷ []) g)
    by_group g (inl own) = subst (λ (l : List UseStep). IsChargeHistory g l) (sym (uses_own xs o g own)) (push_each (λ (before : List UseStep) (x : UseStep). IsNextUse g before x) (group_uses xs g) o (h.histories g) (subst (λ (j : ℕ). IsNextUse j (group_uses xs j) o) own next))
    by_group g (inr other) = subst (λ (l : List UseStep). IsChargeHistory g l) (sym (uses_other xs o g other)) (h.histories g)

charged_here : (groups : ℕ) (xs : List UseStep) (o : UseStep) (ys : List UseStep) → AreCharged groups (xs ++ o ∷ ys) → (o.group < groups) × IsNextUse o.group (group_uses xs o.group) o
charged_here groups xs o ys h =
    let history : IsChargeHistory o.group (group_uses xs o.group ++ (o ∷ group_uses ys o.group)) =
    subst (λ (l : List UseStep). IsChargeHistory o.group l) (filter_here (λ (x : UseStep). x.group == o.group) xs o ys (eq-eqb o.group o.group refl)) (h.histories o.group) in
    (all_here (λ (x : UseStep). x.group < groups) xs o ys h.there, here_each (λ (before : List UseStep) (x : UseStep). IsNextUse o.group before x) (group_uses xs o.group) o (group_uses ys o.group) history)

-- ---- a loop over the operations

pub none_yet : (groups : ℕ) (us : List Usage) → AreNone groups us → AreCharged groups [] × AreUsagesOf groups [] us
none_yet groups us h = (record { there = tt; histories = λ g n o at. absurd (let lt = slice_get_within [] n o at in omega (arith, lt)) }, record { count = h.count; each = λ g x at. h.none g x at })

pub one_more : (groups : ℕ) (uses : List UseStep) (i : ℕ) (d : UseStep) (us vs ws : List Usage) → i < length uses → AreCharged groups (take i uses) × AreUsagesOf groups (take i uses) us → vs ≡ us → IsNextOfGroup vs (get_or uses i d) → ws ≡ with_use us (get_or uses i d)
    → AreCharged groups (take (i + 1) uses) × AreUsagesOf groups (take (i + 1) uses) ws
one_more groups uses i d us vs ws lt h same may is =
    let o = get_or uses i d in
    let one = take_more uses i d lt in
    let next = next_of groups (take i uses) us o h.1 (subst (λ (l : List Usage). IsNextOfGroup l o) same may) in (
      subst (AreCharged groups) (sym one) (charged_push groups (take i uses) o h.0 next.0 next.1),
      record {
        count = ap length is ∙ noted_length us o ∙ h.1.count;
        each = λ g x at. noted_each (take i uses) us o h.1.each g x (sym (ap (λ (l : List Usage). slice_get l g) is) ∙ at) ∙ ap (λ (l : List UseStep). usage_of (group_uses l g)) (sym one);
      },
    )

pub not_one_more : (groups : ℕ) (uses : List UseStep) (i : ℕ) (d : UseStep) (us vs : List Usage) → i < length uses → AreUsagesOf groups (take i uses) us → vs ≡ us → (IsNextOfGroup vs (get_or uses i d) → ⊥) → AreCharged groups uses → ⊥
not_one_more groups uses i d us vs lt are same not law =
    let o = get_or uses i d in
    let here = charged_here groups (take i uses) o (drop (i + 1) uses) (subst (AreCharged groups) (split_at uses i d lt) law) in
    not (subst (λ (l : List Usage). IsNextOfGroup l o) (sym same) (may_of groups (take i uses) us o are here.0 here.1))

pub small_usages : (groups : ℕ) (uses : List UseStep) (i : ℕ) (us : List Usage) → i < length uses → AreUsagesOf groups (take i uses) us → (g : ℕ) (x : Usage) → slice_get us g ≡ Some x → x.ups + x.downs < length uses
small_usages groups uses i us lt are g x at =
    let is = are.each g x at in
    let u = ap (λ (v : Usage). v.ups) is in let d = ap (λ (v : Usage). v.downs) is in
    let b = ups_downs (group_uses (take i uses) g) in
    let few = few_uses (take i uses) g in let l = length-take-le i uses (omega (arith, lt)) in omega (arith, u, d, b, few, l, lt)

pub all_charged : (groups : ℕ) (uses : List UseStep) (i : ℕ) (us : List Usage) → length uses ≤ i → AreCharged groups (take i uses) × AreUsagesOf groups (take i uses) us → AreCharged groups uses × AreUsagesOf groups uses us
all_charged groups uses i us over h = subst (λ (l : List UseStep). AreCharged groups l × AreUsagesOf groups l us) (take_all i uses over) h

blank_pushed : (xs : List Usage) (y : Usage) → ((g : ℕ) (x : Usage) → slice_get xs g ≡ Some x → x ≡ y) → (g : ℕ) (x : Usage) → slice_get (xs ++ y ∷ []) g ≡ Some x → x ≡ y
blank_pushed xs y h = push_each (λ (_ : List Usage) (x : Usage). x ≡ y) xs y h refl

pub none_more : (n : ℕ) (us : List Usage) → AreNone n us → AreNone (n + 1) (us ++ record { ups = 0; downs = 0 } ∷ [])
none_more n us h = record {
  count = (let l = length_push us (record { ups = 0; downs = 0 }) in let c = h.count in omega (arith, l, c));
  none = blank_pushed us (record { ups = 0; downs = 0 }) h.none;
}
