-- SPDX-License-Identifier: GPL-2.0-only
-- The states of ids after one entry more of the journal of registrations, and when it may follow.
use Rattle.shr_audit_tables.proofs.Common.{◌≡◌, ◌≢◌, ℕ, zero, suc, ◌+◌, ◌%◌, ◌<◌, ◌≤◌, ◌⊎◌, inl, inr, ⊎_elim, Bool, true, false, cond, List, [], ◌∷◌, ◌++◌, length, get_or, take, Option, Some, None, refl, sym, ap, subst, ◌∙◌, arith, ne_eqb, ◌==◌, ◌&&◌, slice_get, Decides, cases_lt, nat_tests, slice_get-get_or, slice_get_within, PoolEntry, Registered, Unregistered, Idle, last_number, is_live, IsNextPool, IsPoolJournal, IdState, state_of_id, AreStates, state_with, with_pool_entry, HasLive, IsFreeNow, IsLowestFree, MayRegister, set, cases_eq, Decides-below_or, Decides-eqb, Decides-and, length-set, get_or-set_same, get_or-set_other, slice_get_past, put_state, some_at}
use lib.ListN.{get_elem?}
use Rattle.shr_model.specs.Pool.{id_of, phase_of, decl_from, decl_of, number_from, from_from, is_live_below, is_live_decl, is_free, lowest_free, lowest_idle}
use Rattle.shr_model.proofs.PoolLaws.{phase_of_push, decl_from_push, number_from_push, from_from_push, phase_few, past_none}

-- ---- the states of the empty journal, and of one entry more

pub blank : IdState
blank = record { phase = 0; decl = 0; from = 0; last = 0 }

pub state_none : (id : ℕ) → state_of_id id [] ≡ record { phase = 0; decl = 0; from = 0; last = 0 }
unfolding phase_of decl_from from_from number_from
state_none id = refl

state_is : (p d f l p' d' f' l' : ℕ) → p ≡ p' → d ≡ d' → f ≡ f' → l ≡ l' → ◌≡◌ {A = IdState} (record { phase = p; decl = d; from = f; last = l }) (record { phase = p'; decl = d'; from = f'; last = l' })
state_is p d f l p' d' f' l' a b c e = rw (a, b, c, e) refl

own_state : (es : List PoolEntry) (e : PoolEntry) → state_of_id (id_of e) (es ++ e ∷ []) ≡ state_with (state_of_id (id_of e) es) e
own_state es (Registered decl id from) =
    let t : (id == id) ≡ true = grind (arith, nat_tests) in
    state_is _ _ _ _ _ _ _ _ (phase_of_push id es (Registered decl id from) ∙ rw t refl) (decl_from_push id 0 es (Registered decl id from) ∙ rw t refl) (from_from_push id 0 es (Registered decl id from) ∙ rw t refl) (number_from_push id 0 es (Registered decl id from) ∙ rw t refl)
own_state es (Unregistered decl id to) =
    let t : (id == id) ≡ true = grind (arith, nat_tests) in
    state_is _ _ _ _ _ _ _ _ (phase_of_push id es (Unregistered decl id to) ∙ rw t refl) (decl_from_push id 0 es (Unregistered decl id to)) (from_from_push id 0 es (Unregistered decl id to)) (number_from_push id 0 es (Unregistered decl id to) ∙ rw t refl)
own_state es (Idle id) =
    let t : (id == id) ≡ true = grind (arith, nat_tests) in
    state_is _ _ _ _ _ _ _ _ (phase_of_push id es (Idle id) ∙ rw t refl) (decl_from_push id 0 es (Idle id)) (from_from_push id 0 es (Idle id)) (number_from_push id 0 es (Idle id))

other_state : (id : ℕ) (es : List PoolEntry) (e : PoolEntry) → id_of e ≢ id → state_of_id id (es ++ e ∷ []) ≡ state_of_id id es
other_state id es (Registered decl i from) ne =
    let t : (i == id) ≡ false = ne_eqb i id ne in
    state_is _ _ _ _ _ _ _ _ (phase_of_push id es (Registered decl i from) ∙ rw t (omega arith)) (decl_from_push id 0 es (Registered decl i from) ∙ rw t refl) (from_from_push id 0 es (Registered decl i from) ∙ rw t refl) (number_from_push id 0 es (Registered decl i from) ∙ rw t refl)
other_state id es (Unregistered decl i to) ne =
    let t : (i == id) ≡ false = ne_eqb i id ne in
    state_is _ _ _ _ _ _ _ _ (phase_of_push id es (Unregistered decl i to) ∙ rw t (omega arith)) (decl_from_push id 0 es (Unregistered decl i to)) (from_from_push id 0 es (Unregistered decl i to)) (number_from_push id 0 es (Unregistered decl i to) ∙ rw t refl)
other_state id es (Idle i) ne =
    let t : (i == id) ≡ false = ne_eqb i id ne in
    state_is _ _ _ _ _ _ _ _ (phase_of_push id es (Idle i) ∙ rw t (omega arith)) (decl_from_push id 0 es (Idle i)) (from_from_push id 0 es (Idle i)) (number_from_push id 0 es (Idle i))

pub noted_length : (xs : List IdState) (e : PoolEntry) → length (with_pool_entry xs e) ≡ length xs
noted_length xs e = by_state (slice_get xs (id_of e))
  where
    by_state : (o : Option IdState) → length (put_state xs (id_of e) e o) ≡ length xs
    by_state None = refl
    by_state (Some x) = length-set xs (id_of e) (state_with x e)

set_own : (xs : List IdState) (i : ℕ) (y : IdState) → i < length xs → slice_get (set xs i y) i ≡ Some y
set_own xs i y lt = slice_get-get_or (set xs i y) i y (let l = length-set xs i y in omega (arith, l)) ∙ ap (λ (v : IdState). Some v) (get_or-set_same xs i y y lt)

set_other : (xs : List IdState) (i j : ℕ) (y : IdState) → j ≢ i → slice_get (set xs i y) j ≡ slice_get xs j
set_other xs i j y ne = by_length (cases_lt j (length xs))
  where
    by_length : (j < length xs) ⊎ (length xs ≤ j) → slice_get (set xs i y) j ≡ slice_get xs j
    by_length (inl lt) = slice_get-get_or (set xs i y) j y (let l = length-set xs i y in omega (arith, l)) ∙ ap (λ (v : IdState). Some v) (get_or-set_other xs i j y y ne) ∙ sym (slice_get-get_or xs j y lt)
    by_length (inr ge) = slice_get_past (set xs i y) j (let l = length-set xs i y in omega (arith, l)) ∙ sym (slice_get_past xs j ge)

pub noted_states : (es : List PoolEntry) (xs : List IdState) (e : PoolEntry) → AreStates es xs → AreStates (es ++ e ∷ []) (with_pool_entry xs e)
noted_states es xs e h id x at = by_state (slice_get xs (id_of e)) refl at
  where
    by_id : (y : IdState) → slice_get xs (id_of e) ≡ Some y → (id ≡ id_of e) ⊎ (id ≢ id_of e) → slice_get (set xs (id_of e) (state_with y e)) id ≡ Some x → x ≡ state_of_id id (es ++ e ∷ [])
    by_id y there (inl own) at =
        let here : slice_get (set xs (id_of e) (state_with y e)) (id_of e) ≡ Some x = subst (λ (j : ℕ). slice_get (set xs (id_of e) (state_with y e)) j ≡ Some x) own at in
        let put = set_own xs (id_of e) (state_with y e) (slice_get_within xs (id_of e) y there) in
        let x_is : x ≡ state_with y e = let both : ◌≡◌ {A = Option IdState} (Some x) (Some (state_with y e)) = sym here ∙ put in cc in
        let y_is = h (id_of e) y there in
        x_is ∙ ap (λ (v : IdState). state_with v e) y_is ∙ sym (own_state es e) ∙ ap (λ (j : ℕ). state_of_id j (es ++ e ∷ [])) (sym own)
    by_id y there (inr other) at = h id x (sym (set_other xs (id_of e) id (state_with y e) other) ∙ at) ∙ sym (other_state id es e (λ same. other (sym same)))

    by_state : (o : Option IdState) → slice_get xs (id_of e) ≡ o → slice_get (put_state xs (id_of e) e o) id ≡ Some x → x ≡ state_of_id id (es ++ e ∷ [])
    by_state None none at = h id x at ∙ sym (other_state id es e (λ same. absurd (let here = ap (slice_get xs) same in cc)))
    by_state (Some y) there at = by_id y there (cases_eq id (id_of e)) at

pub phases_small : (es : List PoolEntry) (xs : List IdState) → AreStates es xs → (id : ℕ) (x : IdState) → slice_get xs id ≡ Some x → x.phase ≤ length es
phases_small es xs h id x at = let e = ap (λ (v : IdState). v.phase) (h id x at) in let s = phase_few id es in omega (arith, e, s)

-- ---- what the states say

state_at : (xs : List IdState) (id : ℕ) → id < length xs → (x : IdState) × (slice_get xs id ≡ Some x)
state_at xs id lt = (get_or xs id (record { phase = 0; decl = 0; from = 0; last = 0 }), slice_get-get_or xs id _ lt)

live_as : (es : List PoolEntry) (decl id : ℕ) → Decides (is_live id es && (decl_of id es == decl)) ((phase_of id es % 3 ≡ 1) × (decl_of id es ≡ decl))
live_as es decl id = Decides-and _ _ (Decides-eqb (phase_of id es % 3) 1) (Decides-eqb (decl_of id es) decl)

live_below : (es : List PoolEntry) (decl n : ℕ) → Decides (is_live_below decl n es) ((id : ℕ) × (id < n) × ((phase_of id es % 3 ≡ 1) × (decl_of id es ≡ decl)))
unfolding is_live_below
live_below es decl n = Decides-below_or (λ id. is_live id es && (decl_of id es == decl)) (λ id. (phase_of id es % 3 ≡ 1) × (decl_of id es ≡ decl)) (λ n. is_live_below decl n es) (live_as es decl) refl (λ _. refl) n

live_states : (es : List PoolEntry) (xs : List IdState) (decl : ℕ) → AreStates es xs → HasLive decl xs → is_live_decl (length xs) decl es ≡ true
live_states es xs decl h (id, (x, (at, live))) =
    let phase = ap (λ (v : IdState). v.phase % 3) (h id x at) in
    let named = ap (λ (v : IdState). v.decl) (h id x at) in
    (live_below es decl (length xs)).1 (id, slice_get_within xs id x at, (sym phase ∙ live.0, sym named ∙ live.1))

states_live : (es : List PoolEntry) (xs : List IdState) (decl : ℕ) → AreStates es xs → is_live_decl (length xs) decl es ≡ true → HasLive decl xs
states_live es xs decl h t =
    let w = (live_below es decl (length xs)).0 t in
    let x = state_at xs w.0 w.1 in
    let phase = ap (λ (v : IdState). v.phase % 3) (h w.0 x.0 x.1) in
    let named = ap (λ (v : IdState). v.decl) (h w.0 x.0 x.1) in
    (w.0, (x.0, (x.1, (phase ∙ w.2.0, named ∙ w.2.1))))

free_now : (es : List PoolEntry) (xs : List IdState) (id : ℕ) (x : IdState) → AreStates es xs → slice_get xs id ≡ Some x → Decides (is_free id es) (IsFreeNow x)
free_now es xs id x h at =
    let phase = ap (λ (v : IdState). v.phase) (h id x at) in
    (λ t. free_yes phase t, λ f. free_true phase f)
  where
    free_yes : x.phase ≡ phase_of id es → is_free id es ≡ true → IsFreeNow x
    free_yes e t = let a : phase_of id es % 3 ≡ 0 = grind (arith, nat_tests) in let b : phase_of id es < 65533 = grind (arith, nat_tests) in rw e (a, b)

    free_true : x.phase ≡ phase_of id es → IsFreeNow x → is_free id es ≡ true
    free_true e f = let g : (phase_of id es % 3 ≡ 0) × (phase_of id es < 65533) = rw e at f in let a = g.0 in let b = g.1 in grind (arith, nat_tests)

lowest_found : (es : List PoolEntry) (id : ℕ) (more start : ℕ) → start ≤ id → id < start + more → is_free id es ≡ true → ((j : ℕ) → j < id → is_free j es ≡ false) → lowest_free more start es ≡ Some id
unfolding lowest_free
lowest_found es id zero start le lt free none = absurd (omega arith)
lowest_found es id (suc more) start le lt free none = by_order (cases_lt start id) (λ less. lowest_found es id more (suc start) (omega (arith, less)) (omega arith) free none)
  where
    by_order : (start < id) ⊎ (id ≤ start) → (start < id → lowest_free more (suc start) es ≡ Some id) → cond (is_free start es) (Some start) (lowest_free more (suc start) es) ≡ Some id
    by_order (inl less) later = rw (none start less) (later less)
    by_order (inr last) later = let e : start ≡ id = omega arith in rw (e, free) refl

lowest_is : (es : List PoolEntry) (id : ℕ) (more start : ℕ) → lowest_free more start es ≡ Some id → (start ≤ id) × ((id < start + more) × ((is_free id es ≡ true) × ((j : ℕ) → start ≤ j → j < id → is_free j es ≡ false)))
unfolding lowest_free
lowest_is es id zero start e = absurd cc
lowest_is es id (suc more) start e = by_free (is_free start es) refl e (lowest_is es id more (suc start))
  where
    by_free : (b : Bool) → is_free start es ≡ b → cond b (Some start) (lowest_free more (suc start) es) ≡ Some id
        → (lowest_free more (suc start) es ≡ Some id → (suc start ≤ id) × ((id < suc start + more) × ((is_free id es ≡ true) × ((j : ℕ) → suc start ≤ j → j < id → is_free j es ≡ false))))
        → (start ≤ id) × ((id < start + suc more) × ((is_free id es ≡ true) × ((j : ℕ) → start ≤ j → j < id → is_free j es ≡ false)))
    by_free true f e later =
        let same : start ≡ id = cc in
        (omega (arith, same), (omega (arith, same), (ap (λ (n : ℕ). is_free n es) (sym same) ∙ f, λ j low high. absurd (omega (arith, same, low, high)))))
    by_free false f e later =
        let rest = later e in
        let low = rest.0 in let high = rest.1.0 in
        (omega (arith, low), (omega (arith, high), (rest.1.1.0, λ j from below. ⊎_elim (λ same. ap (λ (n : ℕ). is_free n es) same ∙ f) (λ other. rest.1.1.1 j (omega (arith, from, other)) below) (cases_eq j start))))

pub lowest_yes : (es : List PoolEntry) (xs : List IdState) (id : ℕ) → AreStates es xs → IsLowestFree xs id → lowest_idle (length xs) es ≡ Some id
lowest_yes es xs id h (none, (x, (at, free))) =
    let within = slice_get_within xs id x at in
    lowest_found es id (length xs) 0 (omega arith) (omega (arith, within)) ((free_now es xs id x h at).1 free) (λ j less. not_free j less)
  where
    not_free : (j : ℕ) → j < id → is_free j es ≡ false
    not_free j less = by_free (is_free j es) refl
      where
        by_free : (b : Bool) → is_free j es ≡ b → is_free j es ≡ false
        by_free true f = let y = state_at xs j (let within = slice_get_within xs id x at in omega (arith, within, less)) in absurd (none j y.0 less y.1 ((free_now es xs j y.0 h y.1).0 f))
        by_free false f = f

pub lowest_no : (es : List PoolEntry) (xs : List IdState) (id : ℕ) → AreStates es xs → lowest_idle (length xs) es ≡ Some id → IsLowestFree xs id
lowest_no es xs id h e =
    let w = lowest_is es id (length xs) 0 e in
    let within = w.1.0 in
    let x = state_at xs id (omega (arith, within)) in
    (λ j y less at free. let t = (free_now es xs j y h at).1 free in let f = w.1.1.1 j (omega arith) less in absurd cc, (x.0, (x.1, (free_now es xs id x.0 h x.1).0 w.1.1.0)))

pub next_of : (ids decls : ℕ) (es : List PoolEntry) (n : ℕ) (e : PoolEntry) → IsPoolJournal ids decls es → slice_get es n ≡ Some e → IsNextPool ids decls (take n es) e
next_of ids decls es n e h at = h n e (some_at es n e at)

-- ---- an entry more

phase_at : (es : List PoolEntry) (xs : List IdState) (id : ℕ) (x : IdState) → AreStates es xs → slice_get xs id ≡ Some x → (x.phase ≡ phase_of id es) × ((x.decl ≡ decl_of id es) × (x.last ≡ last_number id es))
phase_at es xs id x h at = (ap (λ (v : IdState). v.phase) (h id x at), (ap (λ (v : IdState). v.decl) (h id x at), ap (λ (v : IdState). v.last) (h id x at)))

pub next_yes : (decls : ℕ) (es : List PoolEntry) (xs : List IdState) (e : PoolEntry) → AreStates es xs → MayRegister decls xs e → IsNextPool (length xs) decls es e
next_yes decls es xs (Registered decl id from) h (few, (dead, (lowest, (x, (at, late))))) =
    let says = phase_at es xs id x h at in
    (few, by_live (is_live_decl (length xs) decl es) refl, lowest_yes es xs id h lowest, (let l = says.1.1 in omega (arith, l, late)))
  where
    by_live : (b : Bool) → is_live_decl (length xs) decl es ≡ b → is_live_decl (length xs) decl es ≡ false
    by_live true t = absurd (dead (states_live es xs decl h t))
    by_live false f = f
next_yes decls es xs (Unregistered decl id to) h (x, (at, (live, (named, late)))) =
    let says = phase_at es xs id x h at in
    (ap (λ (n : ℕ). n % 3) (sym says.0) ∙ live, named ∙ says.1.0, (let l = says.1.1 in omega (arith, l, late)))
next_yes decls es xs (Idle id) h (x, (at, dying)) = let says = phase_at es xs id x h at in ap (λ (n : ℕ). n % 3) (sym says.0) ∙ dying

there : (ids decls id k : ℕ) (es : List PoolEntry) (xs : List IdState) → length xs ≡ ids → IsPoolJournal ids decls es → phase_of id es % 3 ≡ suc k → (x : IdState) × (slice_get xs id ≡ Some x)
there ids decls id k es xs len h phase = state_at xs id (by_past (cases_lt id ids))
  where
    by_past : (id < ids) ⊎ (ids ≤ id) → id < length xs
    by_past (inl lt) = omega (arith, lt, len)
    by_past (inr ge) = let none = past_none ids decls id es h ge in absurd (let z : phase_of id es % 3 ≡ 0 = rw none refl in omega (arith, z, phase))

pub next_no : (decls : ℕ) (es : List PoolEntry) (xs : List IdState) (e : PoolEntry) → AreStates es xs → IsPoolJournal (length xs) decls es → IsNextPool (length xs) decls es e → MayRegister decls xs e
next_no decls es xs (Registered decl id from) h legal (few, dead, lowest, late) =
    let low = lowest_no es xs id h lowest in
    let x = low.1 in
    let says = phase_at es xs id x.0 h x.1.0 in
    (few, (λ live. let t = live_states es xs decl h live in absurd cc, (low, (x.0, (x.1.0, (let l = says.1.1 in omega (arith, l, late)))))))
next_no decls es xs (Unregistered decl id to) h legal (live, named, late) =
    let x = there (length xs) decls id 0 es xs refl legal live in
    let says = phase_at es xs id x.0 h x.1 in
    (x.0, (x.1, (ap (λ (n : ℕ). n % 3) says.0 ∙ live, (named ∙ sym says.1.0, (let l = says.1.1 in omega (arith, l, late))))))
next_no decls es xs (Idle id) h legal dying =
    let x = there (length xs) decls id 1 es xs refl legal dying in
    let says = phase_at es xs id x.0 h x.1 in
    (x.0, (x.1, ap (λ (n : ℕ). n % 3) says.0 ∙ dying))
