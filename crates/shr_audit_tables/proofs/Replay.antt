-- SPDX-License-Identifier: GPL-2.0-only
-- The journal of registrations, entry by entry, and how it begins.
use Rattle.shr_audit_tables.proofs.Common.{◌≡◌, ℕ, zero, suc, ◌+◌, ◌%◌, ◌<◌, ◌≤◌, ◌⊎◌, inl, inr, Bool, true, false, cond, List, [], ◌∷◌, ◌++◌, length, get_or, take, Option, Some, None, refl, sym, ap, subst, ◌∙◌, arith, filter_map, slice_get, cons_option, cases_lt, nat_tests, take_more, length-take-le, slice_get-get_or, slice_get_within, PoolEntry, Registered, Script, is_live, last_number, phase_of, IsNextPool, IsPoolJournal, Report, lookups_at, IdState, AreStates, with_pool_entry, MayRegister, AreBlankStates, AreStatesOf, AreLastReached, on_from, OpensWith, IsPoolLawful, enumerate_from, length_push, decls_on}
use Rattle.shr_base.specs.declared.scripts.CacheDecl.{CacheDecl}
use Rattle.shr_model.proofs.PoolLaws.{IsPoolJournal_push, IsPoolJournal_none, past_none}
use Rattle.shr_audit_tables.proofs.States.{state_none, noted_length, noted_states, phases_small, next_of, next_yes, next_no}

blank_pushed : (xs : List IdState) (b : IdState) → ((id : ℕ) (x : IdState) → slice_get xs id ≡ Some x → x ≡ b) → (id : ℕ) (x : IdState) → slice_get (xs ++ b ∷ []) id ≡ Some x → x ≡ b
blank_pushed [] b h zero x e = cc
blank_pushed [] b h (suc id) x e = absurd cc
blank_pushed (y ∷ xs) b h zero x e = h 0 x e
blank_pushed (y ∷ xs) b h (suc id) x e = blank_pushed xs b (λ n z f. h (suc n) z f) id x e

pub first_more : (n : ℕ) (xs : List IdState) → AreBlankStates n xs → AreBlankStates (n + 1) (xs ++ record { phase = 0; decl = 0; from = 0; last = 0 } ∷ [])
first_more n xs f = record {
  count = (let l = length_push xs (record { phase = 0; decl = 0; from = 0; last = 0 }) in let c = f.count in omega (arith, l, c));
  blank = blank_pushed xs (record { phase = 0; decl = 0; from = 0; last = 0 }) f.blank;
}

pub replay_none : (ids decls : ℕ) (xs : List IdState) → AreBlankStates ids xs → IsPoolJournal ids decls [] × AreStatesOf ids [] xs
replay_none ids decls xs f = (IsPoolJournal_none ids decls, record { count = f.count; each = λ id x at. f.blank id x at ∙ sym (state_none id) })

pub replay_more : (ids decls : ℕ) (pool : List PoolEntry) (i : ℕ) (d : PoolEntry) (xs ys zs : List IdState) → i < length pool → IsPoolJournal ids decls (take i pool) × AreStatesOf ids (take i pool) xs → zs ≡ xs → MayRegister decls zs (get_or pool i d) → ys ≡ with_pool_entry xs (get_or pool i d)
    → IsPoolJournal ids decls (take (i + 1) pool) × AreStatesOf ids (take (i + 1) pool) ys
replay_more ids decls pool i d xs ys zs lt h same may is =
    let e = get_or pool i d in
    let one = take_more pool i d lt in
    let here : MayRegister decls xs e = subst (λ (s : List IdState). MayRegister decls s e) same may in
    let next : IsNextPool ids decls (take i pool) e = subst (λ (n : ℕ). IsNextPool n decls (take i pool) e) h.1.count (next_yes decls (take i pool) xs e h.1.each here) in
    let journal = IsPoolJournal_push ids decls (take i pool) e h.0 next in (
      subst (λ (es : List PoolEntry). IsPoolJournal ids decls es) (sym one) journal,
      record {
        count = ap length is ∙ noted_length xs e ∙ h.1.count;
        each = subst (λ (es : List PoolEntry). AreStates es ys) (sym one) (subst (λ (s : List IdState). AreStates (take i pool ++ e ∷ []) s) (sym is) (noted_states (take i pool) xs e h.1.each));
      },
    )

pub replay_not : (ids decls : ℕ) (pool : List PoolEntry) (i : ℕ) (d : PoolEntry) (xs zs : List IdState) → i < length pool → IsPoolJournal ids decls (take i pool) × AreStatesOf ids (take i pool) xs → zs ≡ xs → (MayRegister decls zs (get_or pool i d) → ⊥) → IsPoolJournal ids decls pool → ⊥
replay_not ids decls pool i d xs zs lt h same not journal =
    let e = get_or pool i d in
    let next = next_of ids decls pool i e journal (slice_get-get_or pool i d lt) in
    let may = next_no decls (take i pool) xs e h.1.each (subst (λ (n : ℕ). IsPoolJournal n decls (take i pool)) (sym h.1.count) h.0) (subst (λ (n : ℕ). IsNextPool n decls (take i pool) e) (sym h.1.count) next) in
    not (subst (λ (s : List IdState). MayRegister decls s e) (sym same) may)

pub small_phases : (pool : List PoolEntry) (i : ℕ) (xs : List IdState) → i < length pool → AreStates (take i pool) xs → (id : ℕ) (x : IdState) → slice_get xs id ≡ Some x → x.phase < length pool
small_phases pool i xs lt h id x at = let p = phases_small (take i pool) xs h id x at in let l = length-take-le i pool (omega (arith, lt)) in omega (arith, p, l, lt)

-- ---- how a journal begins

on_push : (k : ℕ) (cs : List CacheDecl) (c : CacheDecl) → on_from k (cs ++ c ∷ []) ≡ on_from k cs ++ cond c.on ((k + length cs) ∷ []) []
on_push k [] c = by_bool c.on
  where
    by_bool : (b : Bool) → cond b (k ∷ []) [] ≡ cond b ((k + 0) ∷ []) []
    by_bool true = ap (λ (n : ℕ). n ∷ []) (let e : k ≡ k + 0 = omega arith in e)
    by_bool false = refl
on_push k (x ∷ cs) c = by_bool x.on (on_push (k + 1) cs c)
  where
    last : on_from (k + 1) cs ++ cond c.on (((k + 1) + length cs) ∷ []) [] ≡ on_from (k + 1) cs ++ cond c.on ((k + suc (length cs)) ∷ []) []
    last = ap (λ (n : ℕ). on_from (k + 1) cs ++ cond c.on (n ∷ []) []) (let e : (k + 1) + length cs ≡ k + suc (length cs) = omega arith in e)

    by_bool : (b : Bool) → on_from (k + 1) (cs ++ c ∷ []) ≡ on_from (k + 1) cs ++ cond c.on (((k + 1) + length cs) ∷ []) []
        → cond b (k ∷ on_from (k + 1) (cs ++ c ∷ [])) (on_from (k + 1) (cs ++ c ∷ [])) ≡ cond b (k ∷ on_from (k + 1) cs) (on_from (k + 1) cs) ++ cond c.on ((k + suc (length cs)) ∷ []) []
    by_bool true e = ap (λ (l : List ℕ). k ∷ l) (e ∙ last)
    by_bool false e = e ∙ last

pub on_more : (cs : List CacheDecl) (i : ℕ) (y : CacheDecl) (old new : List ℕ) → i < length cs → old ≡ on_from 0 (take i cs) → new ≡ old ++ cond (get_or cs i y).on (i ∷ []) [] → new ≡ on_from 0 (take (i + 1) cs)
on_more cs i y old new lt before added =
    let l = length-take-le i cs (omega (arith, lt)) in
    let number : 0 + length (take i cs) ≡ i = omega (arith, l) in
    added ∙ ap (λ (xs : List ℕ). xs ++ cond (get_or cs i y).on (i ∷ []) []) before ∙ sym (ap (on_from 0) (take_more cs i y lt) ∙ on_push 0 (take i cs) (get_or cs i y) ∙ ap (λ (n : ℕ). on_from 0 (take i cs) ++ cond (get_or cs i y).on (n ∷ []) []) number)

on_all : (k : ℕ) (cs : List CacheDecl) → filter_map (λ (c : ℕ × CacheDecl). cond c.1.on (Some c.0) None) (enumerate_from k cs) ≡ on_from k cs
on_all k [] = refl
on_all k (c ∷ cs) = by_bool c.on (on_all (k + 1) cs)
  where
    by_bool : (b : Bool) → filter_map (λ (c : ℕ × CacheDecl). cond c.1.on (Some c.0) None) (enumerate_from (k + 1) cs) ≡ on_from (k + 1) cs
        → cons_option (cond b (Some k) None) (filter_map (λ (c : ℕ × CacheDecl). cond c.1.on (Some c.0) None) (enumerate_from (k + 1) cs)) ≡ cond b (k ∷ on_from (k + 1) cs) (on_from (k + 1) cs)
    by_bool true e = ap (λ (l : List ℕ). k ∷ l) e
    by_bool false e = e

pub opening_at : (on : List ℕ) (pool : List PoolEntry) (n d : ℕ) (e : PoolEntry) → n < length on → n < length pool → OpensWith on pool → get_or pool n e ≡ Registered (get_or on n d) n 0
opening_at on pool n d e lt within h =
    let there = h n (get_or on n d) (slice_get-get_or on n d lt) in
    let here = slice_get-get_or pool n e within in
    let both : ◌≡◌ {A = Option PoolEntry} (Some (get_or pool n e)) (Some (Registered (get_or on n d) n 0)) = sym here ∙ there in cc

pub opened_at : (on : List ℕ) (pool : List PoolEntry) (n d : ℕ) (e : PoolEntry) → n < length pool → get_or pool n e ≡ Registered (get_or on n d) n 0 → slice_get pool n ≡ Some (Registered (get_or on n d) n 0)
opened_at on pool n d e within is = slice_get-get_or pool n e within ∙ ap (λ (x : PoolEntry). Some x) is

pub too_short : (on : List ℕ) (pool : List PoolEntry) (n : ℕ) → n < length on → length pool ≤ n → OpensWith on pool → ⊥
too_short on pool n lt over h = let there = slice_get_within pool n _ (h n (get_or on n 0) (slice_get-get_or on n 0 lt)) in absurd (omega (arith, there, over))

pub all_opened : (on : List ℕ) (pool : List PoolEntry) (i : ℕ) → length on ≤ i → ((n decl : ℕ) → n < i → slice_get on n ≡ Some decl → slice_get pool n ≡ Some (Registered decl n 0)) → OpensWith on pool
all_opened on pool i over h n decl at = h n decl (let lt = slice_get_within on n decl at in omega (arith, lt, over)) at

-- ---- the fields together

last_of : (s : Script) (r : Report) (xs : List IdState) → IsPoolJournal s.ids (length s.caches.items) r.pool.items → AreStatesOf s.ids r.pool.items xs → AreLastReached xs r.lookups.items → (id : ℕ) → is_live id r.pool.items ≡ true → last_number id r.pool.items ≤ lookups_at r id
last_of s r xs legal are reached id live = by_past (cases_lt id s.ids)
  where
    phase : phase_of id r.pool.items % 3 ≡ 1
    phase = grind (arith, nat_tests)

    by_past : (id < s.ids) ⊎ (s.ids ≤ id) → last_number id r.pool.items ≤ lookups_at r id
    by_past (inl lt) =
        let d : IdState = record { phase = 0; decl = 0; from = 0; last = 0 } in
        let x : IdState = get_or xs id d in
        let at : slice_get xs id ≡ Some x = slice_get-get_or xs id d (let c = are.count in omega (arith, c, lt)) in
        let is = are.each id x at in
        let h = reached id x at (ap (λ (v : IdState). v.phase % 3) is ∙ phase) in
        let l = ap (λ (v : IdState). v.last) is in omega (arith, h, l)
    by_past (inr ge) = absurd (let none = past_none s.ids (length s.caches.items) id r.pool.items legal ge in let z : phase_of id r.pool.items % 3 ≡ 0 = rw none refl in omega (arith, z, phase))

reached_of : (r : Report) (ids : ℕ) (xs : List IdState) → AreStatesOf ids r.pool.items xs → ((id : ℕ) → is_live id r.pool.items ≡ true → last_number id r.pool.items ≤ lookups_at r id) → AreLastReached xs r.lookups.items
reached_of r ids xs are last id x at phase =
    let is = are.each id x at in
    let p : phase_of id r.pool.items % 3 ≡ 1 = sym (ap (λ (v : IdState). v.phase % 3) is) ∙ phase in
    let live : is_live id r.pool.items ≡ true = grind (arith, nat_tests) in
    let h = last id live in let l = ap (λ (v : IdState). v.last) is in omega (arith, h, l)

pub pool_of : (s : Script) (r : Report) (on : List ℕ) (pool : List PoolEntry) (xs : List IdState) (lookups : List ℕ) (ys : List IdState) → pool ≡ r.pool.items → lookups ≡ r.lookups.items → ys ≡ xs → on ≡ on_from 0 s.caches.items → length r.lookups.items ≡ s.ids → OpensWith on pool
    → IsPoolJournal s.ids (length s.caches.items) pool × AreStatesOf s.ids pool xs → AreLastReached ys lookups → IsPoolLawful s r × AreStatesOf s.ids r.pool.items xs
pool_of s r on pool xs lookups ys pool_is lookups_are same on_is printed opens legal reached =
    let legal' : IsPoolJournal s.ids (length s.caches.items) r.pool.items × AreStatesOf s.ids r.pool.items xs = subst (λ (es : List PoolEntry). IsPoolJournal s.ids (length s.caches.items) es × AreStatesOf s.ids es xs) pool_is legal in
    let reached' : AreLastReached xs r.lookups.items = subst (λ (ls : List ℕ). AreLastReached xs ls) lookups_are (subst (λ (zs : List IdState). AreLastReached zs lookups) same reached) in (
      record {
        pool = legal'.0;
        opened = subst (λ (es : List PoolEntry). OpensWith (decls_on s) es) pool_is (subst (λ (ds : List ℕ). OpensWith ds pool) (on_is ∙ sym (on_all 0 s.caches.items)) opens);
        printed = printed;
        last = last_of s r xs legal'.0 legal'.1 reached';
      },
      legal'.1,
    )

pub opens_of : (s : Script) (r : Report) (on : List ℕ) (pool : List PoolEntry) → pool ≡ r.pool.items → on ≡ on_from 0 s.caches.items → IsPoolLawful s r → OpensWith on pool
opens_of s r on pool pool_is on_is law = subst (λ (es : List PoolEntry). OpensWith on es) (sym pool_is) (subst (λ (ds : List ℕ). OpensWith ds r.pool.items) (on_all 0 s.caches.items ∙ sym on_is) law.opened)

pub legal_of : (s : Script) (r : Report) (pool : List PoolEntry) → pool ≡ r.pool.items → IsPoolLawful s r → IsPoolJournal s.ids (length s.caches.items) pool
legal_of s r pool pool_is law = subst (λ (es : List PoolEntry). IsPoolJournal s.ids (length s.caches.items) es) (sym pool_is) law.pool

pub last_of_law : (s : Script) (r : Report) (pool : List PoolEntry) (xs ys : List IdState) (lookups : List ℕ) → pool ≡ r.pool.items → lookups ≡ r.lookups.items → ys ≡ xs → AreStatesOf s.ids pool xs → IsPoolLawful s r → AreLastReached ys lookups
last_of_law s r pool xs ys lookups pool_is lookups_are same are law =
    subst (λ (ls : List ℕ). AreLastReached ys ls) (sym lookups_are) (subst (λ (zs : List IdState). AreLastReached zs r.lookups.items) (sym same) (reached_of r s.ids xs (subst (λ (es : List PoolEntry). AreStatesOf s.ids es xs) pool_is are) law.last))
