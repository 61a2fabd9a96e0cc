-- SPDX-License-Identifier: GPL-2.0-only
-- Each id, one entry of the journal of registrations after another.
use Rattle.shr_audit_rows.proofs.Common.{◌≡◌, ℕ, zero, suc, ◌+◌, ◌<◌, ◌≤◌, Bool, true, false, cond, List, [], ◌∷◌, ◌++◌, length, get_or, set, take, replicate, Option, Some, None, refl, sym, ap, subst, ◌∙◌, inl, inr, arith, eq-eqb, ne_eqb, length-set, get_or-set_same, get_or-set_other, ◌&&◌, ◌||◌, ◌==◌, nat_lt, is_some, cases_lt, get_or-replicate, length-replicate, take_more, eq-or-lt_of_le, dite, ℕ_discrete, PoolEntry, decl_after, id_of, Stands, is_free_in, ◌%◌, add-one, if◌then◌else◌, IsBlankFor, is_live_in}
use Rattle.shr_base.specs.declared.journals.PoolEntry.TheVariants.{Registered, Unregistered, Idle}
use Rattle.shr_model.specs.Pool.{decl_from, decl_of, is_free, is_live, is_live_below, lowest_free, phase_of}
use Rattle.shr_model.proofs.PoolLaws.{decl_from_push, one_of, phase_of_push, phase_few}
use Rattle.std.proofs.lemmas.Bool.{or_right}

-- ---- at the start

pub blank_of : (count : ℕ) (phases decls : List ℕ) → phases ≡ replicate count 0 → decls ≡ replicate count 0 → IsBlankFor count phases decls
blank_of count phases decls p d = record {
  phase_count = ap length p ∙ length-replicate count 0;
  decl_count = ap length d ∙ length-replicate count 0;
  phase = λ id lt. ap (λ (xs : List ℕ). get_or xs id 0) p ∙ get_or-replicate count id 0 0 lt;
  decl = λ id lt. ap (λ (xs : List ℕ). get_or xs id 0) d ∙ get_or-replicate count id 0 0 lt;
}

pub start_stands : (count : ℕ) (phases decls : List ℕ) → count ≡ 65536 → IsBlankFor count phases decls → Stands [] phases decls
unfolding phase_of decl_from
start_stands count phases decls is b = record {
  sized = record { phase_count = b.phase_count ∙ is; decl_count = b.decl_count ∙ is };
  phase = λ id lt. b.phase id (subst (λ (n : ℕ). id < n) (sym is) lt);
  decl = λ id lt. b.decl id (subst (λ (n : ℕ). id < n) (sym is) lt);
}

-- ---- one entry more

one_own : (e : PoolEntry) → one_of (id_of e) e ≡ 1
one_own e = ap (λ (b : Bool). cond b 1 0) (eq-eqb (id_of e) (id_of e) refl)

one_other : (id : ℕ) (e : PoolEntry) → (id ≡ id_of e → ⊥) → one_of id e ≡ 0
one_other id e ne = ap (λ (b : Bool). cond b 1 0) (ne_eqb (id_of e) id (λ same. ne (sym same)))

decl_other : (id d : ℕ) (e : PoolEntry) → (id ≡ id_of e → ⊥) → decl_after id d e ≡ d
decl_other id d (Registered decl i from) ne = ap (λ (b : Bool). cond b decl d) (ne_eqb i id (λ same. ne (sym same)))
decl_other id d (Unregistered decl i to) ne = refl
decl_other id d (Idle i) ne = refl

pub decl_registered : (d i from before : ℕ) → d ≡ decl_after i before (Registered d i from)
decl_registered d i from before = sym (ap (λ (b : Bool). cond b d before) (eq-eqb i i refl))

module _ (es : List PoolEntry) (e : PoolEntry) (phases decls : List ℕ) (few : id_of e < 65536) (phase decl : ℕ) (up : phase ≡ get_or phases (id_of e) 0 + 1) (after : decl ≡ decl_after (id_of e) (get_or decls (id_of e) 0) e) where
  pub stands_next : Stands es phases decls → Stands (es ++ e ∷ []) (set phases (id_of e) phase) (set decls (id_of e) decl)
  stands_next st = record {
    sized = record {
      phase_count = length-set phases (id_of e) phase ∙ st.sized.phase_count;
      decl_count = length-set decls (id_of e) decl ∙ st.sized.decl_count;
    };
    phase = λ id lt. dite (ℕ_discrete id (id_of e))
        (λ same. subst (λ (k : ℕ). get_or (set phases (id_of e) phase) k 0 ≡ phase_of k (es ++ e ∷ [])) (sym same)
        (get_or-set_same phases (id_of e) phase 0 (subst (λ (n : ℕ). id_of e < n) (sym st.sized.phase_count) few) ∙ up ∙ ap (λ (n : ℕ). n + 1) (st.phase (id_of e) few)
        ∙ ap (λ (n : ℕ). phase_of (id_of e) es + n) (sym (one_own e)) ∙ sym (phase_of_push (id_of e) es e)))
        (λ ne. get_or-set_other phases (id_of e) id phase 0 ne ∙ st.phase id lt ∙ no_more id ne ∙ sym (phase_of_push id es e));
    decl = λ id lt. dite (ℕ_discrete id (id_of e))
        (λ same. subst (λ (k : ℕ). get_or (set decls (id_of e) decl) k 0 ≡ decl_of k (es ++ e ∷ [])) (sym same)
        (get_or-set_same decls (id_of e) decl 0 (subst (λ (n : ℕ). id_of e < n) (sym st.sized.decl_count) few) ∙ after ∙ ap (λ (d : ℕ). decl_after (id_of e) d e) (st.decl (id_of e) few)
        ∙ sym (decl_from_push (id_of e) 0 es e)))
        (λ ne. get_or-set_other decls (id_of e) id decl 0 ne ∙ st.decl id lt ∙ sym (decl_other id (decl_of id es) e ne) ∙ sym (decl_from_push id 0 es e));
  }
    where
      no_more : (id : ℕ) → (id ≡ id_of e → ⊥) → phase_of id es ≡ phase_of id es + one_of id e
      no_more id ne = let none = one_other id e ne in omega (arith, none)

-- so many entries of a journal, and one more
pub stands_more : (pool : List PoolEntry) (n : ℕ) (d : PoolEntry) (phases decls : List ℕ) → n < length pool → Stands (take n pool ++ get_or pool n d ∷ []) phases decls → Stands (take (n + 1) pool) phases decls
stands_more pool n d phases decls lt st = subst (λ (es : List PoolEntry). Stands es phases decls) (sym (take_more pool n d lt)) st

-- there is room for one more of its id
pub room_for : (pool : List PoolEntry) (n id : ℕ) (phases decls : List ℕ) → id < 65536 → length (take n pool) ≤ n → Stands (take n pool) phases decls → get_or phases id 0 ≤ n
room_for pool n id phases decls lt few st = let e = st.phase id lt in let le = phase_few id (take n pool) in omega (arith, e, le, few)

-- ---- an id that is live with a declaration

live_is : (es : List PoolEntry) (phases decls : List ℕ) (decl id : ℕ) → id < 65536 → Stands es phases decls → is_live_in phases decls decl id ≡ (is_live id es && (decl_of id es == decl))
live_is es phases decls decl id lt st = ap (λ (n : ℕ). (n % 3 == 1) && (get_or decls id 0 == decl)) (st.phase id lt) ∙ ap (λ (d : ℕ). is_live id es && (d == decl)) (st.decl id lt)

live_step : (decl id : ℕ) (es : List PoolEntry) → is_live_below decl (suc id) es ≡ ((is_live id es && (decl_of id es == decl)) || is_live_below decl id es)
unfolding is_live_below
live_step decl id es = refl

or_none : (a b : Bool) → a ≡ false → b ≡ false → (a || b) ≡ false
or_none true b e f = absurd cc
or_none false b e f = f

pub live_next : (es : List PoolEntry) (phases decls : List ℕ) (decl id : ℕ) → id < 65536 → Stands es phases decls → is_live_in phases decls decl id ≡ false → is_live_below decl id es ≡ false → is_live_below decl (id + 1) es ≡ false
live_next es phases decls decl id lt st isnt before =
    subst (λ (n : ℕ). is_live_below decl n es ≡ false) (sym (add-one id))
    (live_step decl id es ∙ or_none (is_live id es && (decl_of id es == decl)) (is_live_below decl id es) (sym (live_is es phases decls decl id lt st) ∙ isnt) before)

live_above : (decl id : ℕ) (es : List PoolEntry) → (is_live id es && (decl_of id es == decl)) ≡ true → (ids : ℕ) → id < ids → is_live_below decl ids es ≡ true
live_above decl id es is zero lt = absurd (omega (arith, lt))
live_above decl id es is (suc ids) lt = live_step decl ids es ∙ by (live_above decl id es is ids)
  where
    by : (id < ids → is_live_below decl ids es ≡ true) → ((is_live ids es && (decl_of ids es == decl)) || is_live_below decl ids es) ≡ true
    by before = elim (cases_lt id ids) [
      | inl below ↦ or_right (is_live ids es && (decl_of ids es == decl)) (is_live_below decl ids es) (before below)
      | inr above ↦
          let same : id ≡ ids = omega (arith, lt, above) in
          ap (λ (b : Bool). b || is_live_below decl ids es) (subst (λ (k : ℕ). (is_live k es && (decl_of k es == decl)) ≡ true) same is)
    ]

pub live_found : (es : List PoolEntry) (phases decls : List ℕ) (decl id ids : ℕ) → id < 65536 → id < ids → Stands es phases decls → is_live_in phases decls decl id ≡ true → true ≡ is_live_below decl ids es
live_found es phases decls decl id ids lt below st is = sym (live_above decl id es (sym (live_is es phases decls decl id lt st) ∙ is) ids below)

-- ---- an id that can be registered

pub free_is : (es : List PoolEntry) (phases decls : List ℕ) (id : ℕ) → id < 65536 → Stands es phases decls → is_free_in phases id ≡ is_free id es
free_is es phases decls id lt st = ap (λ (n : ℕ). (n % 3 == 0) && nat_lt n 65533) (st.phase id lt)

free_step : (more id : ℕ) (es : List PoolEntry) → lowest_free (suc more) id es ≡ (if is_free id es then Some id else lowest_free more (suc id) es)
unfolding lowest_free
free_step more id es = refl

free_end : (id : ℕ) (es : List PoolEntry) → lowest_free 0 id es ≡ None
unfolding lowest_free
free_end id es = refl

free_none : (more id : ℕ) (es : List PoolEntry) → ((k : ℕ) → id ≤ k → k < id + more → is_free k es ≡ false) → lowest_free more id es ≡ None
free_none zero id es none = free_end id es
free_none (suc more) id es none =
    free_step more id es ∙ ap {B = Option ℕ} (λ (b : Bool). cond b (Some id) (lowest_free more (suc id) es)) (none id (omega arith) (omega arith))
    ∙ free_none more (suc id) es (λ k le lt. none k (omega (arith, le)) (omega (arith, lt)))

free_some : (more id k : ℕ) (es : List PoolEntry) → id ≤ k → k < id + more → is_free k es ≡ true → is_some (lowest_free more id es) ≡ true
free_some zero id k es le lt is = absurd (omega (arith, le, lt))
free_some (suc more) id k es le lt is = ap is_some (free_step more id es) ∙ by (is_free id es) refl (free_some more (suc id) k es)
  where
    by : (b : Bool) → is_free id es ≡ b → (suc id ≤ k → k < suc id + more → is_free k es ≡ true → is_some (lowest_free more (suc id) es) ≡ true) → is_some (cond b (Some id) (lowest_free more (suc id) es)) ≡ true
    by true e later = refl
    by false e later = elim (eq-or-lt_of_le le) [
      | inl same ↦ (let clash : ◌≡◌ {A = Bool} false true = sym e ∙ subst (λ (n : ℕ). is_free n es ≡ true) (sym same) is in absurd cc)
      | inr below ↦ later below (omega (arith, lt)) is
    ]

pub none_free : (ids : ℕ) (es : List PoolEntry) → ((k : ℕ) → k < ids → is_free k es ≡ false) → false ≡ is_some (lowest_free ids 0 es)
none_free ids es none = sym (ap is_some (free_none ids 0 es (λ k le lt. none k (omega (arith, lt)))))

pub one_free : (ids id : ℕ) (es : List PoolEntry) → id < ids → is_free id es ≡ true → true ≡ is_some (lowest_free ids 0 es)
one_free ids id es lt is = sym (free_some ids 0 id es (omega arith) (omega (arith, lt)) is)
