-- SPDX-License-Identifier: GPL-2.0-only
-- The registration that an id is in after so many entries, by the spans of all registrations.
use Rattle.shr_audit_case.proofs.RegistrationsCommon.{◌≡◌, ◌≢◌, ℕ, zero, suc, ◌+◌, ◌<◌, ◌≤◌, Bool, true, false, cond, List, [], ◌∷◌, length, take, drop, Option, Some, None, refl, sym, ap, subst, ◌∙◌, arith, ◌&&◌, ◌==◌, nat_lt, PoolEntry, Registered, Unregistered, Idle, Registration, End, is_within, to_of, same_byte, ◌%◌, slice_get}
use lib.ListN.{get_elem?}
use Rattle.shr_model.specs.Pool.{decl_after, decl_from, end_of, from_after, from_from, id_of, is_free, lowest_free, phase_of, IsNextPool, IsPoolJournal}
use Rattle.shr_audit_case.specs.Live.{live_in, live_now, next_end}
use Rattle.shr_model.proofs.Booleans.{is_other, is_same}
use Rattle.shr_model.proofs.PoolLaws.{and_false}
use Rattle.shr_model.proofs.Lists.{some_at}
use Rattle.std.proofs.lemmas.Bool.{le-ltb, lt-ltb}

-- ---- what an entry needs of the phase of its id

-- a registered id was idle, an unregistered one live, and one that is idle now was dying
KindAt : ℕ → PoolEntry → Type 0
KindAt phase (Registered d i from) = phase ≡ 0
KindAt phase (Unregistered d i to) = phase ≡ 1
KindAt phase (Idle i) = phase ≡ 2

-- so it is of each entry of an id whose phase was this before them
Kinds : ℕ → ℕ → List PoolEntry → Type 0
Kinds id phase es = (n : ℕ) (e : PoolEntry) → slice_get es n ≡ Some e → id_of e ≡ id → KindAt ((phase_of id (take n es) + phase) % 3) e

free_of : (id more start : ℕ) (es : List PoolEntry) → lowest_free more start es ≡ Some id → is_free id es ≡ true
unfolding lowest_free
free_of id zero start es e = absurd (cc)
free_of id (suc more) start es e = by (λ later. free_of id more (suc start) es later) (is_free start es) refl
  where
    by : (lowest_free more (suc start) es ≡ Some id → is_free id es ≡ true) → (b : Bool) → is_free start es ≡ b → is_free id es ≡ true
    by rest true f =
        let here : ◌≡◌ {A = Option ℕ} (Some start) (Some id) = sym (ap (λ (b : Bool). cond b (Some start) (lowest_free more (suc start) es)) f) ∙ e in
        let same : start ≡ id = cc in
        subst (λ (k : ℕ). is_free k es ≡ true) same f
    by rest false f = rest (sym (ap (λ (b : Bool). cond b (Some start) (lowest_free more (suc start) es)) f) ∙ e)

idle_of : (id : ℕ) (es : List PoolEntry) → is_free id es ≡ true → phase_of id es % 3 ≡ 0
idle_of id es e = by (phase_of id es % 3 == 0) refl
  where
    by : (b : Bool) → (phase_of id es % 3 == 0) ≡ b → phase_of id es % 3 ≡ 0
    by true f = same_byte (phase_of id es % 3) 0 f
    by false f = absurd (let g : false ≡ true = sym (ap (λ (b : Bool). b && nat_lt (phase_of id es) 65533) f) ∙ e in cc)

next_kind : (ids decls id : ℕ) (es : List PoolEntry) (e : PoolEntry) → IsNextPool ids decls es e → id_of e ≡ id → KindAt ((phase_of id es + 0) % 3) e
unfolding KindAt
next_kind ids decls id es (Registered d i from) h same =
    let p = idle_of i es (free_of i ids 0 es h.2) in
    let q : phase_of i es % 3 ≡ phase_of id es % 3 = ap (λ (k : ℕ). phase_of k es % 3) same in
    omega (arith, p, q)
next_kind ids decls id es (Unregistered d i to) h same =
    let p = h.0 in
    let q : phase_of i es % 3 ≡ phase_of id es % 3 = ap (λ (k : ℕ). phase_of k es % 3) same in
    omega (arith, p, q)
next_kind ids decls id es (Idle i) h same =
    let q : phase_of i es % 3 ≡ phase_of id es % 3 = ap (λ (k : ℕ). phase_of k es % 3) same in
    omega (arith, h, q)

kinds_of : (ids decls id : ℕ) (es : List PoolEntry) → IsPoolJournal ids decls es → Kinds id 0 es
unfolding Kinds
kinds_of ids decls id es h = λ n e at same. next_kind ids decls id (take n es) e (h n e (some_at es n e at)) same

one_of : ℕ → PoolEntry → ℕ
one_of id e = cond (id_of e == id) 1 0

phase_cons : (id : ℕ) (e : PoolEntry) (es : List PoolEntry) → phase_of id (e ∷ es) ≡ one_of id e + phase_of id es
unfolding phase_of one_of
phase_cons id e es = refl

kinds_less : (id phase : ℕ) (e : PoolEntry) (es : List PoolEntry) → Kinds id phase (e ∷ es) → Kinds id (one_of id e + phase) es
unfolding Kinds
kinds_less id phase e es h = λ n x at same.
    let sum : phase_of id (take (suc n) (e ∷ es)) ≡ one_of id e + phase_of id (take n es) = phase_cons id e (take n es) in
    let all : phase_of id (take (suc n) (e ∷ es)) + phase ≡ phase_of id (take n es) + (one_of id e + phase) = omega (arith, sum) in
    subst (λ (k : ℕ). KindAt (k % 3) x) all (h (suc n) x at same)

-- ---- the registration of an id, whose phase, declaration and number were these before the entries

now_in : ℕ → ℕ → ℕ → ℕ → List PoolEntry → ℕ → Option Registration
now_in id phase decl from es k = cond ((phase_of id (take k es) + phase) % 3 == 1) (Some (record { decl = decl_from id decl (take k es); from = from_from id from (take k es); to = end_of id (drop k es) })) None

-- one that was live before, where that lasts, or else another
held : Bool → Bool → ℕ → ℕ → Option ℕ → Option Registration → Option Registration
held live within decl from to rest = cond (live && within) (Some (record { decl = decl; from = from; to = to })) rest

held_true : (within : Bool) (decl from : ℕ) (to : Option ℕ) (rest : Option Registration) → held true within decl from to rest ≡ cond within (Some (record { decl = decl; from = from; to = to })) rest
unfolding held
held_true within decl from to rest = refl

held_false : (within : Bool) (decl from : ℕ) (to : Option ℕ) (rest : Option Registration) → held false within decl from to rest ≡ rest
unfolding held
held_false within decl from to rest = refl

abbrev held_in : ℕ → ℕ → ℕ → ℕ → ℕ → List PoolEntry → ℕ → Option Registration
held_in id phase decl from at es entry = held (phase % 3 == 1) (is_within entry (next_end id at es)) decl from (end_of id es) (live_in id at es entry)

ends_to : (id at : ℕ) (es : List PoolEntry) → end_of id es ≡ to_of (next_end id at es)
unfolding end_of next_end
ends_to id at [] = refl
ends_to id at (Registered d i from ∷ es) = ends_to id (at + 1) es
ends_to id at (Unregistered d i to ∷ es) = by (ends_to id (at + 1) es) (i == id)
  where
    by : end_of id es ≡ to_of (next_end id (at + 1) es) → (b : Bool) → cond b (Some to) (end_of id es) ≡ to_of (cond b (Some (record { to = to; behind = at + 1 })) (next_end id (at + 1) es))
    by rest true = refl
    by rest false = rest
ends_to id at (Idle i ∷ es) = ends_to id (at + 1) es

-- an end is behind the entries before it
end_later : (id at low : ℕ) (es : List PoolEntry) → low ≤ at → is_within low (next_end id at es) ≡ true
unfolding next_end
end_later id at low [] le = refl
end_later id at low (Registered d i from ∷ es) le = end_later id (at + 1) low es (omega arith)
end_later id at low (Unregistered d i to ∷ es) le = by (end_later id (at + 1) low es (omega arith)) (i == id)
  where
    by : is_within low (next_end id (at + 1) es) ≡ true → (b : Bool) → is_within low (cond b (Some (record { to = to; behind = at + 1 })) (next_end id (at + 1) es)) ≡ true
    by rest true = lt-ltb low (at + 1) (omega (arith, le))
    by rest false = rest
end_later id at low (Idle i ∷ es) le = end_later id (at + 1) low es (omega arith)

-- a registration is live only behind its entry
live_later : (id at low : ℕ) (es : List PoolEntry) → low ≤ at → live_in id at es low ≡ None
unfolding live_in
live_later id at low [] le = refl
live_later id at low (Registered d i from ∷ es) le =
    ap (λ (b : Bool). cond ((i == id) && (b && is_within low (next_end id (at + 1) es))) (Some (record { decl = d; from = from; to = to_of (next_end id (at + 1) es) })) (live_in id (at + 1) es low)) (le-ltb at low le)
    ∙ ap (λ (b : Bool). cond b (Some (record { decl = d; from = from; to = to_of (next_end id (at + 1) es) })) (live_in id (at + 1) es low)) (and_false (i == id))
    ∙ live_later id (at + 1) low es (omega arith)
live_later id at low (Unregistered d i to ∷ es) le = live_later id (at + 1) low es (omega arith)
live_later id at low (Idle i ∷ es) le = live_later id (at + 1) low es (omega arith)

zero_phase : (id phase : ℕ) → (phase_of id [] + phase) % 3 ≡ phase % 3
unfolding phase_of
zero_phase id phase = let e : 0 + phase ≡ phase = omega arith in ap (λ (k : ℕ). k % 3) e

-- with no entries
now_start : (id phase decl from at : ℕ) (es : List PoolEntry) → now_in id phase decl from es 0 ≡ held_in id phase decl from at es at
unfolding now_in decl_from from_from
now_start id phase decl from at es =
    ap (λ (k : ℕ). cond (k == 1) (Some (record { decl = decl; from = from; to = end_of id es })) None) (zero_phase id phase)
    ∙ by (phase % 3 == 1)
    ∙ ap (λ (b : Bool). held (phase % 3 == 1) b decl from (end_of id es) (live_in id at es at)) (sym (end_later id at at es (omega arith)))
  where
    by : (b : Bool) → cond b (Some (record { decl = decl; from = from; to = end_of id es })) None ≡ held b true decl from (end_of id es) (live_in id at es at)
    by true = sym (held_true true decl from (end_of id es) (live_in id at es at))
    by false = sym (held_false true decl from (end_of id es) (live_in id at es at) ∙ live_later id at at es (omega arith))

-- one entry later
now_cons : (id phase decl from k : ℕ) (e : PoolEntry) (es : List PoolEntry) → now_in id phase decl from (e ∷ es) (suc k) ≡ now_in id (one_of id e + phase) (decl_after id decl e) (from_after id from e) es k
unfolding now_in decl_from from_from
now_cons id phase decl from k e es =
    let sum = phase_cons id e (take k es) in
    let all : phase_of id (e ∷ take k es) + phase ≡ phase_of id (take k es) + (one_of id e + phase) = omega (arith, sum) in
    ap (λ (n : ℕ). cond (n % 3 == 1) (Some (record { decl = decl_from id (decl_after id decl e) (take k es); from = from_from id (from_after id from e) (take k es); to = end_of id (drop k es) })) None) all

-- ---- an entry that isn't of the id

decl_other : (id decl : ℕ) (e : PoolEntry) → (id_of e == id) ≡ false → decl_after id decl e ≡ decl
decl_other id decl (Registered d i from) ne = ap (λ (b : Bool). cond b d decl) ne
decl_other id decl (Unregistered d i to) ne = refl
decl_other id decl (Idle i) ne = refl

from_other : (id from : ℕ) (e : PoolEntry) → (id_of e == id) ≡ false → from_after id from e ≡ from
from_other id from (Registered d i begin) ne = ap (λ (b : Bool). cond b begin from) ne
from_other id from (Unregistered d i to) ne = refl
from_other id from (Idle i) ne = refl

next_other : (id at : ℕ) (e : PoolEntry) (es : List PoolEntry) → (id_of e == id) ≡ false → next_end id at (e ∷ es) ≡ next_end id (at + 1) es
unfolding next_end
next_other id at (Registered d i begin) es ne = refl
next_other id at (Unregistered d i to) es ne = ap (λ (b : Bool). cond b (Some (record { to = to; behind = at + 1 })) (next_end id (at + 1) es)) ne
next_other id at (Idle i) es ne = refl

end_other : (id : ℕ) (e : PoolEntry) (es : List PoolEntry) → (id_of e == id) ≡ false → end_of id (e ∷ es) ≡ end_of id es
unfolding end_of
end_other id (Registered d i begin) es ne = refl
end_other id (Unregistered d i to) es ne = ap (λ (b : Bool). cond b (Some to) (end_of id es)) ne
end_other id (Idle i) es ne = refl

live_other : (id at entry : ℕ) (e : PoolEntry) (es : List PoolEntry) → (id_of e == id) ≡ false → live_in id at (e ∷ es) entry ≡ live_in id (at + 1) es entry
unfolding live_in
live_other id at entry (Registered d i begin) es ne =
    ap (λ (b : Bool). cond (b && (nat_lt at entry && is_within entry (next_end id (at + 1) es))) (Some (record { decl = d; from = begin; to = to_of (next_end id (at + 1) es) })) (live_in id (at + 1) es entry)) ne
live_other id at entry (Unregistered d i to) es ne = refl
live_other id at entry (Idle i) es ne = refl

one_other : (id phase : ℕ) (e : PoolEntry) → (id_of e == id) ≡ false → one_of id e + phase ≡ phase
unfolding one_of
one_other id phase e ne = let z : one_of id e ≡ 0 = ap (λ (b : Bool). cond b 1 0) ne in omega (arith, z)

held_other : (id phase decl from at entry : ℕ) (e : PoolEntry) (es : List PoolEntry) → (id_of e == id) ≡ false
    → held_in id (one_of id e + phase) (decl_after id decl e) (from_after id from e) (at + 1) es entry ≡ held_in id phase decl from at (e ∷ es) entry
held_other id phase decl from at entry e es ne =
    ap (λ (n : ℕ). held (n % 3 == 1) (is_within entry (next_end id (at + 1) es)) (decl_after id decl e) (from_after id from e) (end_of id es) (live_in id (at + 1) es entry)) (one_other id phase e ne)
    ∙ ap (λ (n : ℕ). held (phase % 3 == 1) (is_within entry (next_end id (at + 1) es)) n (from_after id from e) (end_of id es) (live_in id (at + 1) es entry)) (decl_other id decl e ne)
    ∙ ap (λ (n : ℕ). held (phase % 3 == 1) (is_within entry (next_end id (at + 1) es)) decl n (end_of id es) (live_in id (at + 1) es entry)) (from_other id from e ne)
    ∙ ap (λ (o : Option End). held (phase % 3 == 1) (is_within entry o) decl from (end_of id es) (live_in id (at + 1) es entry)) (sym (next_other id at e es ne))
    ∙ ap (λ (o : Option ℕ). held (phase % 3 == 1) (is_within entry (next_end id at (e ∷ es))) decl from o (live_in id (at + 1) es entry)) (sym (end_other id e es ne))
    ∙ ap (λ (o : Option Registration). held (phase % 3 == 1) (is_within entry (next_end id at (e ∷ es))) decl from (end_of id (e ∷ es)) o) (sym (live_other id at entry e es ne))

-- ---- an entry that is of the id

one_own : (id : ℕ) (e : PoolEntry) → (id_of e == id) ≡ true → one_of id e ≡ 1
unfolding one_of
one_own id e same = ap (λ (b : Bool). cond b 1 0) same

live_own : (id at entry d i begin : ℕ) (es : List PoolEntry) → (i == id) ≡ true → at < entry
    → live_in id at (Registered d i begin ∷ es) entry ≡ cond (is_within entry (next_end id (at + 1) es)) (Some (record { decl = d; from = begin; to = to_of (next_end id (at + 1) es) })) (live_in id (at + 1) es entry)
unfolding live_in
live_own id at entry d i begin es same lt =
    ap (λ (b : Bool). cond (b && (nat_lt at entry && is_within entry (next_end id (at + 1) es))) (Some (record { decl = d; from = begin; to = to_of (next_end id (at + 1) es) })) (live_in id (at + 1) es entry)) same
    ∙ ap (λ (b : Bool). cond (b && is_within entry (next_end id (at + 1) es)) (Some (record { decl = d; from = begin; to = to_of (next_end id (at + 1) es) })) (live_in id (at + 1) es entry)) (lt-ltb at entry lt)

live_end : (id at entry d i to : ℕ) (es : List PoolEntry) → live_in id at (Unregistered d i to ∷ es) entry ≡ live_in id (at + 1) es entry
unfolding live_in
live_end id at entry d i to es = refl

live_idle : (id at entry i : ℕ) (es : List PoolEntry) → live_in id at (Idle i ∷ es) entry ≡ live_in id (at + 1) es entry
unfolding live_in
live_idle id at entry i es = refl

next_own : (id at d i to : ℕ) (es : List PoolEntry) → (i == id) ≡ true → next_end id at (Unregistered d i to ∷ es) ≡ Some (record { to = to; behind = at + 1 })
unfolding next_end
next_own id at d i to es same = ap (λ (b : Bool). cond b (Some (record { to = to; behind = at + 1 })) (next_end id (at + 1) es)) same

-- one that isn't live has nothing of before
none_held : (phase : ℕ) (within : Bool) (decl from : ℕ) (to : Option ℕ) (rest : Option Registration) → phase % 3 ≢ 1 → held (phase % 3 == 1) within decl from to rest ≡ rest
none_held phase within decl from to rest ne = ap (λ (b : Bool). held b within decl from to rest) (is_other (phase % 3) 1 ne) ∙ held_false within decl from to rest

some_held : (phase : ℕ) (within : Bool) (decl from : ℕ) (to : Option ℕ) (rest : Option Registration) → phase % 3 ≡ 1 → held (phase % 3 == 1) within decl from to rest ≡ cond within (Some (record { decl = decl; from = from; to = to })) rest
some_held phase within decl from to rest e = ap (λ (b : Bool). held b within decl from to rest) (is_same (phase % 3) 1 e) ∙ held_true within decl from to rest

held_own : (id phase decl from at entry : ℕ) (e : PoolEntry) (es : List PoolEntry) → (id_of e == id) ≡ true → at < entry → KindAt (phase % 3) e
    → held_in id (one_of id e + phase) (decl_after id decl e) (from_after id from e) (at + 1) es entry ≡ held_in id phase decl from at (e ∷ es) entry
unfolding KindAt
held_own id phase decl from at entry (Registered d i begin) es same lt kind =
    let one = one_own id (Registered d i begin) same in
    let live : (one_of id (Registered d i begin) + phase) % 3 ≡ 1 = omega (arith, one, kind) in
    let idle : phase % 3 ≢ 1 = λ h. absurd (omega (arith, h, kind)) in
    some_held (one_of id (Registered d i begin) + phase) (is_within entry (next_end id (at + 1) es)) (cond (i == id) d decl) (cond (i == id) begin from) (end_of id es) (live_in id (at + 1) es entry) live
    ∙ ap (λ (b : Bool). cond (is_within entry (next_end id (at + 1) es)) (Some (record { decl = cond b d decl; from = cond b begin from; to = end_of id es })) (live_in id (at + 1) es entry)) same
    ∙ ap (λ (o : Option ℕ). cond (is_within entry (next_end id (at + 1) es)) (Some (record { decl = d; from = begin; to = o })) (live_in id (at + 1) es entry)) (ends_to id (at + 1) es)
    ∙ sym (live_own id at entry d i begin es same lt)
    ∙ sym (none_held phase (is_within entry (next_end id at (Registered d i begin ∷ es))) decl from (end_of id (Registered d i begin ∷ es)) (live_in id at (Registered d i begin ∷ es) entry) idle)
held_own id phase decl from at entry (Unregistered d i to) es same lt kind =
    let one = one_own id (Unregistered d i to) same in
    let dying : (one_of id (Unregistered d i to) + phase) % 3 ≢ 1 = λ h. absurd (omega (arith, h, one, kind)) in
    let past : is_within entry (next_end id at (Unregistered d i to ∷ es)) ≡ false = ap (is_within entry) (next_own id at d i to es same) ∙ le-ltb entry (at + 1) (omega (arith, lt)) in
    none_held (one_of id (Unregistered d i to) + phase) (is_within entry (next_end id (at + 1) es)) decl from (end_of id es) (live_in id (at + 1) es entry) dying
    ∙ sym (live_end id at entry d i to es)
    ∙ sym (some_held phase (is_within entry (next_end id at (Unregistered d i to ∷ es))) decl from (end_of id (Unregistered d i to ∷ es)) (live_in id at (Unregistered d i to ∷ es) entry) kind
    ∙ ap (λ (b : Bool). cond b (Some (record { decl = decl; from = from; to = end_of id (Unregistered d i to ∷ es) })) (live_in id at (Unregistered d i to ∷ es) entry)) past)
held_own id phase decl from at entry (Idle i) es same lt kind =
    let one = one_own id (Idle i) same in
    let idle : (one_of id (Idle i) + phase) % 3 ≢ 1 = λ h. absurd (omega (arith, h, one, kind)) in
    let dying : phase % 3 ≢ 1 = λ h. absurd (omega (arith, h, kind)) in
    none_held (one_of id (Idle i) + phase) (is_within entry (next_end id (at + 1) es)) decl from (end_of id es) (live_in id (at + 1) es entry) idle
    ∙ sym (live_idle id at entry i es)
    ∙ sym (none_held phase (is_within entry (next_end id at (Idle i ∷ es))) decl from (end_of id (Idle i ∷ es)) (live_in id at (Idle i ∷ es) entry) dying)

-- ---- so many entries later

kind_first : (id phase : ℕ) (e : PoolEntry) (es : List PoolEntry) → Kinds id phase (e ∷ es) → (id_of e == id) ≡ true → KindAt (phase % 3) e
unfolding Kinds
kind_first id phase e es h same = subst (λ (n : ℕ). KindAt n e) (zero_phase id phase) (h 0 e refl (same_byte (id_of e) id same))

live_at : (id phase decl from at k entry : ℕ) (es : List PoolEntry) → entry ≡ at + k → k ≤ length es → Kinds id phase es → now_in id phase decl from es k ≡ held_in id phase decl from at es entry
live_at id phase decl from at zero entry es e le h =
    let same : at ≡ entry = omega (arith, e) in
    now_start id phase decl from at es ∙ ap (λ (n : ℕ). held_in id phase decl from at es n) same
live_at id phase decl from at (suc k) entry [] e le h = absurd (omega (arith, le))
live_at id phase decl from at (suc k) entry (x ∷ es) e le h =
    now_cons id phase decl from k x es
    ∙ live_at id (one_of id x + phase) (decl_after id decl x) (from_after id from x) (at + 1) k entry es (omega (arith, e)) (omega (arith, le)) (kinds_less id phase x es h)
    ∙ by (id_of x == id) refl
  where
    by : (b : Bool) → (id_of x == id) ≡ b → held_in id (one_of id x + phase) (decl_after id decl x) (from_after id from x) (at + 1) es entry ≡ held_in id phase decl from at (x ∷ es) entry
    by true same = held_own id phase decl from at entry x es same (omega (arith, e)) (kind_first id phase x es h same)
    by false ne = held_other id phase decl from at entry x es ne

-- by a journal of registrations, an id is in the registration that lasts then
pub live_is : (ids decls id entry : ℕ) (es : List PoolEntry) → IsPoolJournal ids decls es → entry ≤ length es → live_in id 0 es entry ≡ live_now id es entry
unfolding now_in
live_is ids decls id entry es h le =
    sym (held_false (is_within entry (next_end id 0 es)) 0 0 (end_of id es) (live_in id 0 es entry))
    ∙ sym (live_at id 0 0 0 0 entry entry es (let z : entry ≡ 0 + entry = omega arith in z) le (kinds_of ids decls id es h))
    ∙ (let z : phase_of id (take entry es) + 0 ≡ phase_of id (take entry es) = omega arith in
    ap (λ (n : ℕ). cond (n % 3 == 1) (Some (record { decl = decl_from id 0 (take entry es); from = from_from id 0 (take entry es); to = end_of id (drop entry es) })) None) z)
