-- SPDX-License-Identifier: GPL-2.0-only
-- Objects that were drained, one entry and one run of lists after another.
use Rattle.shr_audit_causes.proofs.UnregistersCommon.{◌≡◌, ℕ, zero, suc, ◌+◌, ◌-◌, ◌*◌, ◌^◌, ◌<◌, ◌≤◌, Bool, true, false, cond, List, length, get_or, take, Option, Some, refl, sym, ap, ◌∙◌, inl, inr, arith, eq-eqb, slice_get, sum_by, unwrap_or, BTreeMap, PlaceEnd, Entry, Drained, Place, Serial, Report, drained_by, journals_of, serial_of, AreSums, IsSerialKeyed, IsNothing, AreOfOnePlace, capped, drained_key, ◌≢◌, min, ◌==◌, get, Updates}
use Rattle.std.specs.Ordering.{nat_cmp}
use Rattle.std.proofs.lemmas.Bool.{cases_Bool, and_parts, and_from, eqb-true}
use Rattle.std.proofs.lemmas.List.Sums.{sum_by_more}
use Rattle.std.proofs.lemmas.Option.{slice_get-get_or}
use Rattle.shr_model.specs.Commands.{is_serial}
use Rattle.shr_model.proofs.Numbers.{kept_sum, apart}

-- ---- capped sums

-- the same sums by another name
pub same_sums : (sums : BTreeMap ℕ ℕ) (f g : Serial → ℕ) → ((by : Serial) → f by ≡ g by) → AreSums sums f → AreSums sums g
same_sums sums f g same h = record { each = λ w n k. h.each w n k ∙ ap capped (same (serial_of w n)) }

pub none_summed : (sums : BTreeMap ℕ ℕ) → IsNothing sums → AreSums sums (λ by. 0)
none_summed sums none = record { each = λ w n k. ap (λ (o : Option ℕ). unwrap_or o 0) (none (drained_key w n)) }

-- ---- keys

one_key : (w n v m : ℕ) → IsSerialKeyed w n → IsSerialKeyed v m → drained_key w n ≡ drained_key v m → (w ≡ v) × (n ≡ m)
one_key w n v m a b e = let an = a.command_few in let bm = b.command_few in (omega (arith, an, bm, e), omega (arith, an, bm, e))

own_serial : (w n : ℕ) (by : Serial) → w ≡ by.worker → n ≡ by.command → is_serial (serial_of w n) by ≡ true
own_serial w n by e f = and_from (w == by.worker) (n == by.command) (eq-eqb w by.worker e) (eq-eqb n by.command f)

-- one amount more of a command
pub sums_add : (old new : BTreeMap ℕ ℕ) (by : Serial) (key before more put : ℕ) → key ≡ drained_key by.worker by.command → IsSerialKeyed by.worker by.command → before ≡ unwrap_or (get nat_cmp old key) 0 → put ≡ min (before + more) (2 ^ 64 - 1) → Updates nat_cmp old new key (Some put)
    → (total : Serial → ℕ) (amount : ℕ) → more ≡ capped amount → AreSums old total → AreSums new (λ x. total x + cond (is_serial x by) amount 0)
sums_add old new by key before more put key_is keyed before_is put_is up total amount more_is h = record { each = each }
  where
    each : (w n : ℕ) → IsSerialKeyed w n → unwrap_or (get nat_cmp new (drained_key w n)) 0 ≡ capped (total (serial_of w n) + cond (is_serial (serial_of w n) by) amount 0)
    each w n k = elim (cases_Bool (is_serial (serial_of w n) by)) [
      | inl own ↦
          let parts = and_parts (w == by.worker) (n == by.command) own in
          let same : drained_key w n ≡ key = (let a = eqb-true w by.worker parts.0 in let b = eqb-true n by.command parts.1 in omega (arith, a, b, key_is)) in
          let was : before ≡ capped (total (serial_of w n)) = before_is ∙ ap (λ (j : ℕ). unwrap_or (get nat_cmp old j) 0) (sym same) ∙ h.each w n k in
          ap (λ (j : ℕ). unwrap_or (get nat_cmp new j) 0) same ∙ ap (λ (o : Option ℕ). unwrap_or o 0) up.1 ∙ put_is
          ∙ ap (λ (j : ℕ). min (j + more) (2 ^ 64 - 1)) was ∙ ap (λ (j : ℕ). min (capped (total (serial_of w n)) + j) (2 ^ 64 - 1)) more_is
          ∙ kept_sum (total (serial_of w n)) amount (2 ^ 64 - 1) ∙ ap (λ (b : Bool). capped (total (serial_of w n) + cond b amount 0)) (sym own)
      | inr other ↦
          let ne : key ≢ drained_key w n = λ e. (let t = one_key by.worker by.command w n keyed k (sym key_is ∙ e) in let yes = own_serial w n by (sym t.0) (sym t.1) in let no : true ≡ false = sym yes ∙ other in cc) in
          ap (λ (o : Option ℕ). unwrap_or o 0) (up.2 (drained_key w n) (apart key (drained_key w n) ne)) ∙ h.each w n k
          ∙ ap capped (let z : total (serial_of w n) ≡ total (serial_of w n) + 0 = omega arith in z) ∙ ap (λ (b : Bool). capped (total (serial_of w n) + cond b amount 0)) (sym other)
    ]

-- ---- entries

times_cond : (times n : ℕ) (b : Bool) → cond b (times * n) 0 ≡ times * cond b n 0
times_cond times n true = refl
times_cond times n false = omega arith

pub noted_drained : (sums : BTreeMap ℕ ℕ) (by : Serial) (times objects : ℕ) (total : Serial → ℕ) → AreSums sums (λ x. total x + cond (is_serial x by) (times * objects) 0) → AreSums sums (λ x. total x + times * drained_by x (Drained by objects))
noted_drained sums by times objects total h = same_sums sums (λ x. total x + cond (is_serial x by) (times * objects) 0) (λ x. total x + times * drained_by x (Drained by objects)) (λ x. ap (λ (n : ℕ). total x + n) (times_cond times objects (is_serial x by))) h

pub entries_more : (sums : BTreeMap ℕ ℕ) (es : List Entry) (i : ℕ) (e : Entry) (times : ℕ) (total : Serial → ℕ) → i < length es → e ≡ get_or es i e
    → AreSums sums (λ x. (total x + times * sum_by (drained_by x) (take i es)) + times * drained_by x e) → AreSums sums (λ x. total x + times * sum_by (drained_by x) (take (i + 1) es))
entries_more sums es i e times total lt is h = same_sums sums (λ x. (total x + times * sum_by (drained_by x) (take i es)) + times * drained_by x e) (λ x. total x + times * sum_by (drained_by x) (take (i + 1) es)) one h
  where
    one : (x : Serial) → (total x + times * sum_by (drained_by x) (take i es)) + times * drained_by x e ≡ total x + times * sum_by (drained_by x) (take (i + 1) es)
    one x = (let more = ap (λ (n : ℕ). times * n) (sum_by_more (drained_by x) es i e lt ∙ ap (λ (y : Entry). sum_by (drained_by x) (take i es) + drained_by x y) (sym is)) in omega (arith, more))

-- ---- runs of lists

-- how many objects a command drained from a place
abbrev pub drained_at : Report → Serial → Place → ℕ
drained_at r by place = sum_by (drained_by by) (journals_of r place)

-- how many from so many lists, each as often as its place is printed
abbrev pub drained_upto : Report → List PlaceEnd → ℕ → Serial → ℕ
drained_upto r ends k by = sum_by (λ (end : PlaceEnd). drained_at r by end.place) (take k ends)

run_sum : (r : Report) (ends : List PlaceEnd) (k stop : ℕ) (end : PlaceEnd) (by : Serial) → AreOfOnePlace ends k stop → slice_get ends k ≡ Some end → (m : ℕ) → k + m ≤ stop
    → drained_upto r ends (k + m) by ≡ drained_upto r ends k by + m * drained_at r by end.place
run_sum r ends k stop end by run at zero le = ap (λ (n : ℕ). drained_upto r ends n by) (let z : k + 0 ≡ k = omega arith in z) ∙ (let z : drained_upto r ends k by ≡ drained_upto r ends k by + 0 * drained_at r by end.place = omega arith in z)
run_sum r ends k stop end by run at (suc m) le =
    let within = run.within in
    let lt : k + m < length ends = omega (arith, le, within) in
    let here = slice_get-get_or ends (k + m) end lt in
    let same = run.same (k + m) end (get_or ends (k + m) end) (omega arith) (omega (arith, le)) at here in
    let before = run_sum r ends k stop end by run at m (omega (arith, le)) in
    let more = sum_by_more (λ (x : PlaceEnd). drained_at r by x.place) ends (k + m) end lt ∙ ap (λ (p : Place). drained_upto r ends (k + m) by + drained_at r by p) same in
    ap (λ (n : ℕ). drained_upto r ends n by) (let z : k + suc m ≡ k + m + 1 = omega arith in z) ∙ more ∙ ap (λ (n : ℕ). n + drained_at r by end.place) before
    ∙ (let z : (drained_upto r ends k by + m * drained_at r by end.place) + drained_at r by end.place ≡ drained_upto r ends k by + suc m * drained_at r by end.place = omega arith in z)

pub run_more : (sums : BTreeMap ℕ ℕ) (r : Report) (ends : List PlaceEnd) (k stop : ℕ) (d : PlaceEnd) (entries : List Entry) → AreOfOnePlace ends k stop → k < length ends → entries ≡ journals_of r (get_or ends k d).place
    → AreSums sums (λ by. drained_upto r ends k by + (stop - k) * sum_by (drained_by by) entries) → AreSums sums (drained_upto r ends stop)
run_more sums r ends k stop d entries run lt is h = same_sums sums (λ by. drained_upto r ends k by + (stop - k) * sum_by (drained_by by) entries) (drained_upto r ends stop) one h
  where
    one : (by : Serial) → drained_upto r ends k by + (stop - k) * sum_by (drained_by by) entries ≡ drained_upto r ends stop by
    one by =
        let some = run.some in
        let whole : k + (stop - k) ≡ stop = omega (arith, some) in
        ap (λ (es : List Entry). drained_upto r ends k by + (stop - k) * sum_by (drained_by by) es) is
        ∙ sym (run_sum r ends k stop (get_or ends k d) by run (slice_get-get_or ends k d lt) (stop - k) (omega (arith, some))) ∙ ap (λ (n : ℕ). drained_upto r ends n by) whole
