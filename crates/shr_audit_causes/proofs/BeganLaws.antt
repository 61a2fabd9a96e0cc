-- SPDX-License-Identifier: GPL-2.0-only
-- Where registrations began, and where ids became idle, one entry after another.
use Rattle.shr_audit_causes.proofs.UnregistersCommon.{◌≡◌, ℕ, zero, suc, ◌+◌, ◌<◌, ◌≤◌, Bool, true, false, cond, List, [], ◌∷◌, length, get_or, take, refl, sym, ap, subst, ◌∙◌, inl, inr, arith, eq-eqb, Registered, Idle, IsUpto, is_idle, Began, ◌++◌, length-append, set, drop, replicate, ne_eqb, length-set, get_or-set_same, get_or-set_other, ◌||◌, nat_lt, Unregistered, is_idle_entry}
use Rattle.std.specs.List.{list_any}
use Rattle.std.proofs.lemmas.Bool.{cases_lt, le-ltb, lt-ltb}
use Rattle.std.proofs.lemmas.List.{drop-append-le, get_or_default, get_or-replicate, length-replicate, take_more, length-take, get_or_append_left}
use Rattle.std.proofs.lemmas.List.Folds.{list_any-append}
use Rattle.std.proofs.Math.Seq.{get_or-append_seam}
use mathlib.Core.Logic.{dite}
use native.Mathlib.Decide.{ℕ_discrete}
use Rattle.shr_base.specs.declared.journals.PoolEntry.{PoolEntry}
use Rattle.shr_model.specs.Pool.{from_after, from_from, from_of, id_of}
use Rattle.shr_model.proofs.PoolLaws.{from_from_push}
use Rattle.std.proofs.Math.Bool.{or-true, or-false}

-- ---- single entries

from_other : (id n : ℕ) (e : PoolEntry) → (id ≡ id_of e → ⊥) → from_after id n e ≡ n
from_other id n (Registered d i from) ne = ap (λ (b : Bool). cond b from n) (ne_eqb i id (λ same. ne (sym same)))
from_other id n (Unregistered d i to) ne = refl
from_other id n (Idle i) ne = refl

idle_own : (e : PoolEntry) → is_idle_entry (id_of e) e ≡ is_idle e
idle_own (Registered d i from) = refl
idle_own (Unregistered d i to) = refl
idle_own (Idle i) = eq-eqb i i refl

idle_other : (id : ℕ) (e : PoolEntry) → (id ≡ id_of e → ⊥) → is_idle_entry id e ≡ false
idle_other id (Registered d i from) ne = refl
idle_other id (Unregistered d i to) ne = refl
idle_other id (Idle i) ne = ne_eqb i id (λ same. ne (sym same))

-- ---- the start

pub upto_start : (pool : List PoolEntry) (count : ℕ) (b : Began) → count ≡ 65536 → b.froms.items ≡ [] → b.idles.items ≡ replicate count 0 → b.lasts.items ≡ replicate count 0 → IsUpto pool 0 b
unfolding from_from
upto_start pool count b is froms idles lasts = record {
  last_count = ap length lasts ∙ length-replicate count 0 ∙ is;
  idle_count = ap length idles ∙ length-replicate count 0 ∙ is;
  from_count = ap length froms;
  last = λ id lt. ap (λ (xs : List ℕ). get_or xs id 0) lasts ∙ get_or-replicate count id 0 0 (subst (λ (n : ℕ). id < n) (sym is) lt) ∙ ap (from_of id) (sym (none pool));
  from = λ k d lt. absurd (omega (arith, lt));
  idle = λ id j lt. ap (λ (es : List PoolEntry). list_any (is_idle_entry id) (drop j es)) (none pool) ∙ none_of id j ∙ sym (ap (nat_lt j) (zero_at id lt) ∙ le-ltb j 0 (omega arith));
  low = λ id lt. (let e = zero_at id lt in omega (arith, e));
}
  where
    none : (es : List PoolEntry) → take 0 es ≡ []
    none [] = refl
    none (e ∷ es) = refl

    none_of : (id j : ℕ) → list_any (is_idle_entry id) (drop j []) ≡ false
    none_of id zero = refl
    none_of id (suc j) = refl

    zero_at : (id : ℕ) → id < 65536 → get_or b.idles.items id 0 ≡ 0
    zero_at id lt = ap (λ (xs : List ℕ). get_or xs id 0) idles ∙ get_or-replicate count id 0 0 (subst (λ (n : ℕ). id < n) (sym is) lt)

-- ---- one entry more

drop_past : (es : List PoolEntry) (j : ℕ) → length es ≤ j → drop j es ≡ []
drop_past [] zero le = refl
drop_past [] (suc j) le = refl
drop_past (e ∷ es) zero le = absurd (omega (arith, le))
drop_past (e ∷ es) (suc j) le = drop_past es j (omega (arith, le))

-- an idle entry among those behind a number, with one entry more
any_more : (id j : ℕ) (es : List PoolEntry) (e : PoolEntry) → list_any (is_idle_entry id) (drop j (es ++ e ∷ [])) ≡ (list_any (is_idle_entry id) (drop j es) || cond (nat_lt (length es) j) false (is_idle_entry id e))
any_more id j es e = elim (cases_lt (length es) j) [
  | inl past ↦ ap (list_any (is_idle_entry id)) (drop_past (es ++ e ∷ []) j (let l = length-append es (e ∷ []) in omega (arith, past, l)))
      ∙ sym (ap (λ (xs : List PoolEntry). list_any (is_idle_entry id) xs || cond (nat_lt (length es) j) false (is_idle_entry id e)) (drop_past es j (omega (arith, past)))
      ∙ ap (λ (b : Bool). cond b false (is_idle_entry id e)) (lt-ltb (length es) j past))
  | inr within ↦ ap (list_any (is_idle_entry id)) (drop-append-le j es (e ∷ []) within) ∙ list_any-append (is_idle_entry id) (drop j es) (e ∷ [])
      ∙ ap (λ (b : Bool). list_any (is_idle_entry id) (drop j es) || b) (or-false (is_idle_entry id e) ∙ sym (ap (λ (b : Bool). cond b false (is_idle_entry id e)) (le-ltb (length es) j within)))
]

module _ (pool : List PoolEntry) (n : ℕ) (d : PoolEntry) (b new : Began) (few : id_of (get_or pool n d) < 65536) (there : n < length pool) (before : IsUpto pool n b)
    (froms : new.froms.items ≡ b.froms.items ++ get_or b.lasts.items (id_of (get_or pool n d)) 0 ∷ [])
    (lasts : new.lasts.items ≡ set b.lasts.items (id_of (get_or pool n d)) (from_after (id_of (get_or pool n d)) (get_or b.lasts.items (id_of (get_or pool n d)) 0) (get_or pool n d)))
    (idles : new.idles.items ≡ cond (is_idle (get_or pool n d)) (set b.idles.items (id_of (get_or pool n d)) (n + 1)) b.idles.items) where
  abbrev entry : PoolEntry
  entry = get_or pool n d

  abbrev own : ℕ
  own = id_of (get_or pool n d)

  long : length (take n pool) ≡ n
  long = (let l = length-take n pool in omega (arith, l, there))

  count_of : length new.idles.items ≡ 65536
  count_of = ap length idles ∙ by (is_idle entry)
    where
      by : (t : Bool) → length (cond t (set b.idles.items own (n + 1)) b.idles.items) ≡ 65536
      by true = length-set b.idles.items own (n + 1) ∙ before.idle_count
      by false = before.idle_count

  last_at : (id : ℕ) → id < 65536 → get_or new.lasts.items id 0 ≡ from_of id (take (n + 1) pool)
  last_at id lt = ap (λ (xs : List ℕ). get_or xs id 0) lasts ∙ dite (ℕ_discrete id own)
      (λ same. subst (λ (k : ℕ). get_or (set b.lasts.items own (from_after own (get_or b.lasts.items own 0) entry)) k 0 ≡ from_of k (take (n + 1) pool)) (sym same)
      (get_or-set_same b.lasts.items own (from_after own (get_or b.lasts.items own 0) entry) 0 (subst (λ (k : ℕ). own < k) (sym before.last_count) few)
      ∙ ap (λ (k : ℕ). from_after own k entry) (before.last own few) ∙ sym (from_from_push own 0 (take n pool) entry) ∙ ap (from_of own) (sym (take_more pool n d there))))
      (λ ne. get_or-set_other b.lasts.items own id (from_after own (get_or b.lasts.items own 0) entry) 0 ne ∙ before.last id lt
      ∙ sym (from_other id (from_of id (take n pool)) entry ne) ∙ sym (from_from_push id 0 (take n pool) entry) ∙ ap (from_of id) (sym (take_more pool n d there)))

  from_at : (k : ℕ) (x : PoolEntry) → k < n + 1 → get_or new.froms.items k 0 ≡ from_of (id_of (get_or pool k x)) (take k pool)
  from_at k x lt = ap (λ (xs : List ℕ). get_or xs k 0) froms ∙ elim (cases_lt k n) [
    | inl below ↦ get_or_append_left b.froms.items (get_or b.lasts.items own 0 ∷ []) 0 k (subst (λ (m : ℕ). k < m) (sym before.from_count) below) ∙ before.from k x below
    | inr above ↦
        let same : n ≡ k = omega (arith, lt, above) in
        subst (λ (m : ℕ). get_or (b.froms.items ++ get_or b.lasts.items own 0 ∷ []) m 0 ≡ from_of (id_of (get_or pool m x)) (take m pool)) same
        (ap (λ (m : ℕ). get_or (b.froms.items ++ get_or b.lasts.items own 0 ∷ []) m 0) (sym before.from_count) ∙ get_or-append_seam b.froms.items (get_or b.lasts.items own 0) [] 0 ∙ before.last own few
        ∙ ap (λ (e : PoolEntry). from_of (id_of e) (take n pool)) (any_default pool n d x there))
  ]
    where
      any_default : (es : List PoolEntry) (i : ℕ) (y z : PoolEntry) → i < length es → get_or es i y ≡ get_or es i z
      any_default [] i y z h = absurd (omega (arith, h))
      any_default (e ∷ es) zero y z h = refl
      any_default (e ∷ es) (suc i) y z h = any_default es i y z (omega (arith, h))

  next_any : (id j : ℕ) → list_any (is_idle_entry id) (drop j (take (n + 1) pool)) ≡ (list_any (is_idle_entry id) (drop j (take n pool)) || cond (nat_lt n j) false (is_idle_entry id entry))
  next_any id j = ap (λ (es : List PoolEntry). list_any (is_idle_entry id) (drop j es)) (take_more pool n d there) ∙ any_more id j (take n pool) entry
      ∙ ap (λ (m : ℕ). list_any (is_idle_entry id) (drop j (take n pool)) || cond (nat_lt m j) false (is_idle_entry id entry)) long

  -- by the new number of an id
  kept_at : (id j new_at : ℕ) → id < 65536 → is_idle_entry id entry ≡ false → new_at ≡ get_or b.idles.items id 0 → list_any (is_idle_entry id) (drop j (take (n + 1) pool)) ≡ nat_lt j new_at
  kept_at id j new_at lt isnt e = next_any id j ∙ ap (λ (t : Bool). list_any (is_idle_entry id) (drop j (take n pool)) || cond (nat_lt n j) false t) isnt ∙ both (nat_lt n j) ∙ before.idle id j lt ∙ ap (nat_lt j) (sym e)
    where
      both : (t : Bool) → (list_any (is_idle_entry id) (drop j (take n pool)) || cond t false false) ≡ list_any (is_idle_entry id) (drop j (take n pool))
      both true = or-false (list_any (is_idle_entry id) (drop j (take n pool)))
      both false = or-false (list_any (is_idle_entry id) (drop j (take n pool)))

  came_at : (id j new_at : ℕ) → id < 65536 → is_idle_entry id entry ≡ true → new_at ≡ n + 1 → list_any (is_idle_entry id) (drop j (take (n + 1) pool)) ≡ nat_lt j new_at
  came_at id j new_at lt is e = next_any id j ∙ ap (λ (t : Bool). list_any (is_idle_entry id) (drop j (take n pool)) || cond (nat_lt n j) false t) is ∙ elim (cases_lt n j) [
    | inl past ↦ ap (λ (t : Bool). list_any (is_idle_entry id) (drop j (take n pool)) || cond t false true) (lt-ltb n j past) ∙ or-false (list_any (is_idle_entry id) (drop j (take n pool)))
        ∙ before.idle id j lt ∙ le-ltb j (get_or b.idles.items id 0) (let low = before.low id lt in omega (arith, low, past)) ∙ sym (le-ltb j new_at (omega (arith, past, e)))
    | inr within ↦ ap (λ (t : Bool). list_any (is_idle_entry id) (drop j (take n pool)) || cond t false true) (le-ltb n j within) ∙ or-true (list_any (is_idle_entry id) (drop j (take n pool)))
        ∙ sym (lt-ltb j new_at (omega (arith, within, e)))
  ]

  idle_at : (id : ℕ) → id < 65536 → ((j : ℕ) → list_any (is_idle_entry id) (drop j (take (n + 1) pool)) ≡ nat_lt j (get_or new.idles.items id 0)) × (get_or new.idles.items id 0 ≤ n + 1)
  idle_at id lt = subst (λ (xs : List ℕ). ((j : ℕ) → list_any (is_idle_entry id) (drop j (take (n + 1) pool)) ≡ nat_lt j (get_or xs id 0)) × (get_or xs id 0 ≤ n + 1)) (sym idles) (dite (ℕ_discrete id own) here away)
    where
      here : id ≡ own → ((j : ℕ) → list_any (is_idle_entry id) (drop j (take (n + 1) pool)) ≡ nat_lt j (get_or (cond (is_idle entry) (set b.idles.items own (n + 1)) b.idles.items) id 0)) × (get_or (cond (is_idle entry) (set b.idles.items own (n + 1)) b.idles.items) id 0 ≤ n + 1)
      here same = by (is_idle entry) refl
        where
          own_is : is_idle_entry id entry ≡ is_idle entry
          own_is = ap (λ (k : ℕ). is_idle_entry k entry) same ∙ idle_own entry

          value : get_or (set b.idles.items own (n + 1)) id 0 ≡ n + 1
          value = ap (λ (k : ℕ). get_or (set b.idles.items own (n + 1)) k 0) same ∙ get_or-set_same b.idles.items own (n + 1) 0 (subst (λ (k : ℕ). own < k) (sym before.idle_count) few)

          by : (t : Bool) → is_idle entry ≡ t → ((j : ℕ) → list_any (is_idle_entry id) (drop j (take (n + 1) pool)) ≡ nat_lt j (get_or (cond t (set b.idles.items own (n + 1)) b.idles.items) id 0)) × (get_or (cond t (set b.idles.items own (n + 1)) b.idles.items) id 0 ≤ n + 1)
          by true e = (λ j. came_at id j (get_or (set b.idles.items own (n + 1)) id 0) lt (own_is ∙ e) value, (let v = value in omega (arith, v)))
          by false e = (λ j. kept_at id j (get_or b.idles.items id 0) lt (own_is ∙ e) refl, (let low = before.low id lt in omega (arith, low)))

      away : (id ≡ own → ⊥) → ((j : ℕ) → list_any (is_idle_entry id) (drop j (take (n + 1) pool)) ≡ nat_lt j (get_or (cond (is_idle entry) (set b.idles.items own (n + 1)) b.idles.items) id 0)) × (get_or (cond (is_idle entry) (set b.idles.items own (n + 1)) b.idles.items) id 0 ≤ n + 1)
      away ne = by (is_idle entry)
        where
          by : (t : Bool) → ((j : ℕ) → list_any (is_idle_entry id) (drop j (take (n + 1) pool)) ≡ nat_lt j (get_or (cond t (set b.idles.items own (n + 1)) b.idles.items) id 0)) × (get_or (cond t (set b.idles.items own (n + 1)) b.idles.items) id 0 ≤ n + 1)
          by true = (let v = get_or-set_other b.idles.items own id (n + 1) 0 ne in
              (λ j. kept_at id j (get_or (set b.idles.items own (n + 1)) id 0) lt (idle_other id entry ne) v, (let low = before.low id lt in omega (arith, low, v))))
          by false = (λ j. kept_at id j (get_or b.idles.items id 0) lt (idle_other id entry ne) refl, (let low = before.low id lt in omega (arith, low)))

  pub upto_next : IsUpto pool (n + 1) new
  upto_next = record {
    last_count = ap length lasts ∙ length-set b.lasts.items own (from_after own (get_or b.lasts.items own 0) entry) ∙ before.last_count;
    idle_count = count_of;
    from_count = ap length froms ∙ length-append b.froms.items (get_or b.lasts.items own 0 ∷ []) ∙ ap (λ (m : ℕ). m + 1) before.from_count;
    last = last_at;
    from = from_at;
    idle = λ id j lt. (idle_at id lt).0 j;
    low = λ id lt. (idle_at id lt).1;
  }

-- the same, by what was read and written
pub upto_noted : (all pool : List PoolEntry) (n : ℕ) (d : PoolEntry) (b new : Began) (id from after : ℕ) (idle : Bool) → pool ≡ all → id ≡ id_of (get_or pool n d) → id < 65536 → n < length all → IsUpto all n b
    → from ≡ get_or b.lasts.items id from → after ≡ from_after (id_of (get_or pool n d)) from (get_or pool n d) → idle ≡ is_idle (get_or pool n d)
    → new.froms.items ≡ b.froms.items ++ from ∷ [] → new.lasts.items ≡ set b.lasts.items id after → new.idles.items ≡ cond idle (set b.idles.items id (n + 1)) b.idles.items → IsUpto all (n + 1) new
upto_noted all pool n d b new id from after idle same id_is few there before from_is after_is idle_is froms lasts idles =
    let e = get_or pool n d in
    let long = before.last_count in
    let read = from_is ∙ get_or_default b.lasts.items id from 0 (omega (arith, few, long)) ∙ ap (λ (k : ℕ). get_or b.lasts.items k 0) id_is in
    subst (λ (es : List PoolEntry). IsUpto es (n + 1) new) same
    (upto_next pool n d b new (subst (λ (k : ℕ). k < 65536) id_is few) (subst (λ (es : List PoolEntry). n < length es) (sym same) there) (subst (λ (es : List PoolEntry). IsUpto es n b) (sym same) before)
    (froms ∙ ap (λ (x : ℕ). b.froms.items ++ x ∷ []) read)
    (lasts ∙ ap (λ (k : ℕ). set b.lasts.items k after) id_is ∙ ap (set b.lasts.items (id_of e)) (after_is ∙ ap (λ (x : ℕ). from_after (id_of e) x e) read))
    (idles ∙ ap (λ (k : ℕ). cond idle (set b.idles.items k (n + 1)) b.idles.items) id_is ∙ ap (λ (t : Bool). cond t (set b.idles.items (id_of e) (n + 1)) b.idles.items) idle_is))
