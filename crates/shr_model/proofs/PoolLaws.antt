-- SPDX-License-Identifier: GPL-2.0-only
-- The journal of registrations, one entry longer.
use Rattle.shr_model.proofs.Common.{◌≡◌, ◌≢◌, ◌⊎◌, ℕ, zero, suc, ◌+◌, ◌==◌, ◌<◌, ◌≤◌, Bool, true, false, cond, eqb, leb, List, [], ◌∷◌, ◌++◌, length, take, sym, refl, ap, subst, ◌∙◌, inl, inr, ⊎_elim, arith, eq-eqb, ◌&&◌, Option, Some, None, take_all, take-append-le, some, some-injective, some-ne-none, get_elem?, PoolEntry, Registered, Unregistered, Idle, IsNextPool, IsPoolJournal}
use mathlib.Core.Logic.{dite}
use native.Mathlib.Decide.{dec_lt}
use Rattle.std.proofs.Common.{ne_eqb, lt-ltb, le-ltb}
use Rattle.shr_model.specs.Pool.{id_of, phase_of, decl_after, decl_from, number_after, number_from, Registration, end_of, registrations, is_before, lies_in, decl_at, from_after, from_from, is_free, is_live_below, lowest_free}
use Rattle.shr_model.specs.PoolEnds.{HaveEndedBy, dying_in}

-- 1 where the entry is of the id
abbrev pub one_of : ℕ → PoolEntry → ℕ
one_of i e = cond (eqb (id_of e) i) 1 0

-- an entry more raises the phase of its own id by one
pub phase_of_push : (i : ℕ) (es : List PoolEntry) (e : PoolEntry) → phase_of i (es ++ e ∷ []) ≡ phase_of i es + one_of i e
unfolding phase_of
phase_of_push i [] e = omega arith
phase_of_push i (x ∷ es) e = omega (arith, phase_of_push i es e)

-- and that of no other
pub else_none : (i : ℕ) (e : PoolEntry) → id_of e ≢ i → one_of i e ≡ 0
else_none i e ne = ap (λ b. cond b 1 0) (ne_eqb (id_of e) i ne)

-- an id has at most as many entries as the journal
pub phase_few : (id : ℕ) (es : List PoolEntry) → phase_of id es ≤ length es
unfolding phase_of
phase_few id [] = omega arith
phase_few id (e ∷ es) = by_bool (id_of e == id) (phase_few id es)
  where
    by_bool : (b : Bool) → phase_of id es ≤ length es → cond b 1 0 + phase_of id es ≤ suc (length es)
    by_bool true h = omega (arith, h)
    by_bool false h = omega (arith, h)

-- no id below 0 is live
pub live_none : (decl : ℕ) (es : List PoolEntry) → is_live_below decl 0 es ≡ false
unfolding is_live_below
live_none decl es = refl

-- the declaration of an id after one entry more
pub decl_from_push : (i d : ℕ) (es : List PoolEntry) (e : PoolEntry) → decl_from i d (es ++ e ∷ []) ≡ decl_after i (decl_from i d es) e
unfolding decl_from
decl_from_push i d [] e = refl
decl_from_push i d (x ∷ es) e = decl_from_push i (decl_after i d x) es e

-- the last number of an id after one entry more
pub number_from_push : (i n : ℕ) (es : List PoolEntry) (e : PoolEntry) → number_from i n (es ++ e ∷ []) ≡ number_after i (number_from i n es) e
unfolding number_from
number_from_push i n [] e = refl
number_from_push i n (x ∷ es) e = number_from_push i (number_after i n x) es e

-- where an id's last registration begins after one entry more
pub from_from_push : (i n : ℕ) (es : List PoolEntry) (e : PoolEntry) → from_from i n (es ++ e ∷ []) ≡ from_after i (from_from i n es) e
unfolding from_from
from_from_push i n [] e = refl
from_from_push i n (x ∷ es) e = from_from_push i (from_after i n x) es e

-- an entry of another id ends nothing
end_else : (i : ℕ) (es : List PoolEntry) (e : PoolEntry) → id_of e ≢ i → end_of i (es ++ e ∷ []) ≡ end_of i es
unfolding end_of
end_else i [] (Registered d j from) ne = refl
end_else i [] (Unregistered d j to) ne = ap {B = Option ℕ} (λ b. cond b (Some to) None) (ne_eqb j i ne)
end_else i [] (Idle j) ne = refl
end_else i (Registered d j from ∷ es) e ne = end_else i es e ne
end_else i (Unregistered d j to ∷ es) e ne = ap {B = Option ℕ} (λ x. cond (eqb j i) (Some to) x) (end_else i es e ne)
end_else i (Idle j ∷ es) e ne = end_else i es e ne

-- nor does a Registered or an Idle
end_open : (i d j from : ℕ) (es : List PoolEntry) → end_of i (es ++ Registered d j from ∷ []) ≡ end_of i es
unfolding end_of
end_open i d j from [] = refl
end_open i d j from (Registered e k f ∷ es) = end_open i d j from es
end_open i d j from (Unregistered e k to ∷ es) = ap {B = Option ℕ} (λ x. cond (eqb k i) (Some to) x) (end_open i d j from es)
end_open i d j from (Idle k ∷ es) = end_open i d j from es

end_idle : (i j : ℕ) (es : List PoolEntry) → end_of i (es ++ Idle j ∷ []) ≡ end_of i es
unfolding end_of
end_idle i j [] = refl
end_idle i j (Registered e k f ∷ es) = end_idle i j es
end_idle i j (Unregistered e k to ∷ es) = ap {B = Option ℕ} (λ x. cond (eqb k i) (Some to) x) (end_idle i j es)
end_idle i j (Idle k ∷ es) = end_idle i j es

-- the first of two
abbrev pub or_else : Option ℕ → Option ℕ → Option ℕ
or_else (Some x) y = Some x
or_else None y = y

-- an end, or this number where there is none
abbrev pub end_or : ℕ → Option ℕ → Option ℕ
end_or t (Some x) = Some x
end_or t None = Some t

end_here : (i d t : ℕ) (es : List PoolEntry) → end_of i (es ++ Unregistered d i t ∷ []) ≡ end_or t (end_of i es)
unfolding end_of
end_here i d t [] = ap {B = Option ℕ} (λ b. cond b (Some t) None) (eq-eqb i i refl)
end_here i d t (Registered e k f ∷ es) = end_here i d t es
end_here i d t (Unregistered e k to ∷ es) = elim (eqb k i) as (λ b. cond b (Some to) (end_of i (es ++ Unregistered d i t ∷ [])) ≡ end_or t (cond b (Some to) (end_of i es))) [ true ↦ refl | false ↦ end_here i d t es ]
end_here i d t (Idle k ∷ es) = end_here i d t es

abbrev opened : ℕ → ℕ → ℕ → List PoolEntry → List Registration
opened i d from es = record { decl = d; from = from; to = end_of i es } ∷ registrations i es

-- the registrations of another id stay
pub registrations_else : (i : ℕ) (es : List PoolEntry) (e : PoolEntry) → id_of e ≢ i → registrations i (es ++ e ∷ []) ≡ registrations i es
unfolding registrations end_of
registrations_else i [] (Registered d j from) ne = ap {B = List Registration} (λ b. cond b (record { decl = d; from = from; to = None } ∷ []) []) (ne_eqb j i ne)
registrations_else i [] (Unregistered d j to) ne = refl
registrations_else i [] (Idle j) ne = refl
registrations_else i (Registered d j from ∷ es) e ne = let q = end_else i es e ne in let p = registrations_else i es e ne in λ k. cond (eqb j i) (record { decl = d; from = from; to = q k } ∷ p k) (p k)
registrations_else i (Unregistered d j to ∷ es) e ne = registrations_else i es e ne
registrations_else i (Idle j ∷ es) e ne = registrations_else i es e ne

-- an Idle changes no registration
pub registrations_idle : (i j : ℕ) (es : List PoolEntry) → registrations i (es ++ Idle j ∷ []) ≡ registrations i es
unfolding registrations
registrations_idle i j [] = refl
registrations_idle i j (Registered d k from ∷ es) = let q = end_idle i j es in let p = registrations_idle i j es in λ x. cond (eqb k i) (record { decl = d; from = from; to = q x } ∷ p x) (p x)
registrations_idle i j (Unregistered d k to ∷ es) = registrations_idle i j es
registrations_idle i j (Idle k ∷ es) = registrations_idle i j es

-- a Registered adds a registration that hasn't ended
pub registrations_open : (i d from : ℕ) (es : List PoolEntry) → registrations i (es ++ Registered d i from ∷ []) ≡ registrations i es ++ record { decl = d; from = from; to = None } ∷ []
unfolding registrations end_of
registrations_open i d from [] = ap {B = List Registration} (λ b. cond b (record { decl = d; from = from; to = None } ∷ []) []) (eq-eqb i i refl)
registrations_open i d from (Registered e k f ∷ es) = let q = end_open i d i from es in let p = registrations_open i d from es in
    elim (eqb k i) as (λ b. cond b (record { decl = e; from = f; to = end_of i (es ++ Registered d i from ∷ []) } ∷ registrations i (es ++ Registered d i from ∷ [])) (registrations i (es ++ Registered d i from ∷ [])) ≡ cond b (record { decl = e; from = f; to = end_of i es } ∷ registrations i es) (registrations i es) ++ record { decl = d; from = from; to = None } ∷ [])
    [ true ↦ (λ x. record { decl = e; from = f; to = q x } ∷ p x) | false ↦ p ]
registrations_open i d from (Unregistered e k to ∷ es) = registrations_open i d from es
registrations_open i d from (Idle k ∷ es) = registrations_open i d from es

-- an id without entries has no registration that ended
pub ended_none : (l i : ℕ) → HaveEndedBy l (registrations i [])
unfolding HaveEndedBy registrations
ended_none l i = tt

-- what ended by a number ended by each higher one
pub ended_later : (l m : ℕ) (rs : List Registration) → l ≤ m → HaveEndedBy l rs → HaveEndedBy m rs
unfolding HaveEndedBy
ended_later l m [] h o = tt
ended_later l m (r ∷ rs) h o = ((λ t e. omega (arith, h, o.0 t e)), ended_later l m rs h o.1)

-- no registration has ended yet by a number that none has passed
ended_open_one : (l : ℕ) (rs : List Registration) (d from : ℕ) → HaveEndedBy l rs → HaveEndedBy l (rs ++ record { decl = d; from = from; to = None } ∷ [])
unfolding HaveEndedBy
ended_open_one l [] d from o = ((λ t e. absurd (none_some t e)), tt) where
  none_some : (t : ℕ) → None ≡ Some t → ⊥
  none_some t e = subst (λ (x : Option ℕ). match_none x) e tt where
    match_none : Option ℕ → Type 0
    match_none None = Unit {0}
    match_none (Some x) = ⊥
ended_open_one l (r ∷ rs) d from o = (o.0, ended_open_one l rs d from o.1)

decl_at_append : (n : ℕ) (rs : List Registration) (r : Registration) → decl_at n (rs ++ r ∷ []) ≡ or_else (decl_at n rs) (cond (lies_in n r) (Some r.decl) None)
unfolding decl_at
decl_at_append n [] r = refl
decl_at_append n (x ∷ rs) r = elim (lies_in n x) as (λ b. cond b (Some x.decl) (decl_at n (rs ++ r ∷ [])) ≡ or_else (cond b (Some x.decl) (decl_at n rs)) (cond (lies_in n r) (Some r.decl) None)) [ true ↦ refl | false ↦ decl_at_append n rs r ]

-- below its end a registration stays as it was
before_or : (n t : ℕ) (x : Option ℕ) → n < t → is_before n (end_or t x) ≡ is_before n x
before_or n t (Some x) h = refl
before_or n t None h = lt-ltb n t h

-- a lookup with a lower number met the same, once the registration has ended
decl_at_low : (n i d t : ℕ) (es : List PoolEntry) → n < t → decl_at n (registrations i (es ++ Unregistered d i t ∷ [])) ≡ decl_at n (registrations i es)
unfolding decl_at registrations
decl_at_low n i d t [] h = refl
decl_at_low n i d t (Registered e k f ∷ es) h = let p = decl_at_low n i d t es h in
    elim (eqb k i) as (λ b. decl_at n (cond b (record { decl = e; from = f; to = end_of i (es ++ Unregistered d i t ∷ []) } ∷ registrations i (es ++ Unregistered d i t ∷ [])) (registrations i (es ++ Unregistered d i t ∷ []))) ≡ decl_at n (cond b (record { decl = e; from = f; to = end_of i es } ∷ registrations i es) (registrations i es))) [
      | true ↦ (let q : (leb f n && is_before n (end_of i (es ++ Unregistered d i t ∷ []))) ≡ (leb f n && is_before n (end_of i es)) = ap (λ x. leb f n && x) (ap (is_before n) (end_here i d t es) ∙ before_or n t (end_of i es) h) in λ x. cond (q x) (Some e) (p x))
      | false ↦ p
    ]
decl_at_low n i d t (Unregistered e k to ∷ es) h = decl_at_low n i d t es h
decl_at_low n i d t (Idle k ∷ es) h = decl_at_low n i d t es h

-- a number from all ends on lies in none that has ended
past_end : (n t : ℕ) (x : Option ℕ) → ((y : ℕ) → x ≡ Some y → y ≤ t) → t ≤ n → is_before n (end_or t x) ≡ false
past_end n t (Some x) h l = le-ltb n x (omega (arith, h x refl, l))
past_end n t None h l = le-ltb n t l

pub and_false : (b : Bool) → (b && false) ≡ false
and_false true = refl
and_false false = refl

decl_at_closed : (n i d t : ℕ) (es : List PoolEntry) → t ≤ n → HaveEndedBy t (registrations i es) → decl_at n (registrations i (es ++ Unregistered d i t ∷ [])) ≡ None
unfolding decl_at registrations HaveEndedBy
decl_at_closed n i d t [] l o = refl
decl_at_closed n i d t (Registered e k f ∷ es) l o = (elim (eqb k i) as (λ b. HaveEndedBy t (cond b (record { decl = e; from = f; to = end_of i es } ∷ registrations i es) (registrations i es)) → decl_at n (cond b (record { decl = e; from = f; to = end_of i (es ++ Unregistered d i t ∷ []) } ∷ registrations i (es ++ Unregistered d i t ∷ [])) (registrations i (es ++ Unregistered d i t ∷ []))) ≡ None) [
  | true ↦ (λ o. let q : (leb f n && is_before n (end_of i (es ++ Unregistered d i t ∷ []))) ≡ false = ap (λ x. leb f n && x) (ap (is_before n) (end_here i d t es) ∙ past_end n t (end_of i es) o.0 l) ∙ and_false (leb f n) in ap {B = Option ℕ} (λ b. cond b (Some e) (decl_at n (registrations i (es ++ Unregistered d i t ∷ [])))) q ∙ decl_at_closed n i d t es l o.1)
  | false ↦ (λ o. decl_at_closed n i d t es l o)
]) o
decl_at_closed n i d t (Unregistered e k to ∷ es) l o = decl_at_closed n i d t es l o
decl_at_closed n i d t (Idle k ∷ es) l o = decl_at_closed n i d t es l o

ended_close : (i d t : ℕ) (es : List PoolEntry) → HaveEndedBy t (registrations i es) → HaveEndedBy t (registrations i (es ++ Unregistered d i t ∷ []))
unfolding registrations HaveEndedBy
ended_close i d t [] o = tt
ended_close i d t (Registered e k f ∷ es) o = (elim (eqb k i) as (λ b. HaveEndedBy t (cond b (record { decl = e; from = f; to = end_of i es } ∷ registrations i es) (registrations i es)) → HaveEndedBy t (cond b (record { decl = e; from = f; to = end_of i (es ++ Unregistered d i t ∷ []) } ∷ registrations i (es ++ Unregistered d i t ∷ [])) (registrations i (es ++ Unregistered d i t ∷ [])))) [
  | true ↦ (λ o. ((λ y same. closes (end_of i es) o.0 y (sym (end_here i d t es) ∙ same)), ended_close i d t es o.1))
  | false ↦ (λ o. ended_close i d t es o)
]) o where
  closes : (x : Option ℕ) → ((y : ℕ) → x ≡ Some y → y ≤ t) → (y : ℕ) → end_or t x ≡ Some y → y ≤ t
  closes (Some x) h y e = h y e
  closes None h y e = omega (arith, some_is y e) where
    value : Option ℕ → ℕ
    value None = 0
    value (Some x) = x

    some_is : (y : ℕ) → Some t ≡ Some y → t ≡ y
    some_is y e = ap value e
ended_close i d t (Unregistered e k to ∷ es) o = ended_close i d t es o
ended_close i d t (Idle k ∷ es) o = ended_close i d t es o

-- an entry of the id whose number, where it has one, is l
abbrev pub Numbered : ℕ → ℕ → PoolEntry → Type 0
Numbered i l (Registered d j from) = (j ≡ i) × (from ≡ l)
Numbered i l (Unregistered d j to) = (j ≡ i) × (to ≡ l)
Numbered i l (Idle j) = j ≡ i

-- what a lookup meets right after the entry
abbrev pub met_after : PoolEntry → Option ℕ → Option ℕ
met_after (Registered d i from) before = or_else before (Some d)
met_after (Unregistered d i to) before = None
met_after (Idle i) before = before

-- lookups with a lower number met the same
pub decl_at_push_low : (n l i : ℕ) (es : List PoolEntry) (e : PoolEntry) → Numbered i l e → n < l → decl_at n (registrations i (es ++ e ∷ [])) ≡ decl_at n (registrations i es)
decl_at_push_low n l i es (Registered d j from) is h = subst (λ (x : ℕ). decl_at n (registrations i (es ++ Registered d x from ∷ [])) ≡ decl_at n (registrations i es)) (sym is.0)
    (ap (decl_at n) (registrations_open i d from es) ∙ (decl_at_append n (registrations i es) (record { decl = d; from = from; to = None })
    ∙ (let low : (leb from n && true) ≡ false = ap (λ b. b && true) (gt-leb from n (omega (arith, is.1, h))) in ap (λ b. or_else (decl_at n (registrations i es)) (cond b (Some d) None)) low ∙ or_none (decl_at n (registrations i es))))) where
      gt-leb : (a b : ℕ) → b < a → leb a b ≡ false
      gt-leb a b h = grind (arith, Rattle.std.proofs.lemmas.Bool.Decides.nat_tests)

      or_none : (x : Option ℕ) → or_else x None ≡ x
      or_none (Some x) = refl
      or_none None = refl
decl_at_push_low n l i es (Unregistered d j to) is h = subst (λ (x : ℕ). decl_at n (registrations i (es ++ Unregistered d x to ∷ [])) ≡ decl_at n (registrations i es)) (sym is.0) (decl_at_low n i d to es (omega (arith, is.1, h)))
decl_at_push_low n l i es (Idle j) is h = ap (decl_at n) (registrations_idle i j es)

-- and later ones meet what the entry says
pub decl_at_push_high : (n l i : ℕ) (es : List PoolEntry) (e : PoolEntry) → Numbered i l e → l ≤ n → HaveEndedBy l (registrations i es) → decl_at n (registrations i (es ++ e ∷ [])) ≡ met_after e (decl_at n (registrations i es))
decl_at_push_high n l i es (Registered d j from) is h o = subst (λ (x : ℕ). decl_at n (registrations i (es ++ Registered d x from ∷ [])) ≡ or_else (decl_at n (registrations i es)) (Some d)) (sym is.0)
    (ap (decl_at n) (registrations_open i d from es) ∙ (decl_at_append n (registrations i es) (record { decl = d; from = from; to = None })
    ∙ (let high : (leb from n && true) ≡ true = ap (λ b. b && true) (le-leb from n (omega (arith, is.1, h))) in ap (λ b. or_else (decl_at n (registrations i es)) (cond b (Some d) None)) high))) where
      le-leb : (a b : ℕ) → a ≤ b → leb a b ≡ true
      le-leb a b h = grind (arith, Rattle.std.proofs.lemmas.Bool.Decides.nat_tests)
decl_at_push_high n l i es (Unregistered d j to) is h o = subst (λ (x : ℕ). decl_at n (registrations i (es ++ Unregistered d x to ∷ [])) ≡ None) (sym is.0) (decl_at_closed n i d to es (omega (arith, is.1, h)) (subst (λ (x : ℕ). HaveEndedBy x (registrations i es)) (sym is.1) o))
decl_at_push_high n l i es (Idle j) is h o = ap (decl_at n) (registrations_idle i j es)

-- the registrations of an id have ended by l still, with an entry of the id that carries l
pub ended_push : (l i : ℕ) (es : List PoolEntry) (e : PoolEntry) → Numbered i l e → HaveEndedBy l (registrations i es) → HaveEndedBy l (registrations i (es ++ e ∷ []))
ended_push l i es (Registered d j from) is o = subst (λ (x : ℕ). HaveEndedBy l (registrations i (es ++ Registered d x from ∷ []))) (sym is.0) (subst (HaveEndedBy l) (sym (registrations_open i d from es)) (ended_open_one l (registrations i es) d from o))
ended_push l i es (Unregistered d j to) is o = subst (λ (x : ℕ). HaveEndedBy l (registrations i (es ++ Unregistered d x to ∷ []))) (sym is.0) (subst (λ (x : ℕ). HaveEndedBy x (registrations i (es ++ Unregistered d i to ∷ []))) is.1 (ended_close i d to es (subst (λ (x : ℕ). HaveEndedBy x (registrations i es)) (sym is.1) o)))
ended_push l i es (Idle j) is o = subst (HaveEndedBy l) (sym (registrations_idle i j es)) o

-- one legal entry more
at_end : (es : List PoolEntry) (e x : PoolEntry) (n : ℕ) → get_elem? (es ++ e ∷ []) n ≡ some x → ((n < length es) × (get_elem? es n ≡ some x)) ⊎ ((n ≡ length es) × (e ≡ x))
at_end [] e x zero h = inr (refl, some-injective e x h)
at_end [] e x (suc n) h = absurd (some-ne-none x (sym h))
at_end (y ∷ es) e x zero h = inl (omega arith, h)
at_end (y ∷ es) e x (suc n) h = ⊎_elim (λ t. inl (omega (arith, t.0), t.1)) (λ t. inr (ap suc t.0, t.1)) (at_end es e x n h)

-- a journal of registrations stays one with an entry that may come next
pub IsPoolJournal_push : (ids decls : ℕ) (es : List PoolEntry) (e : PoolEntry) → IsPoolJournal ids decls es → IsNextPool ids decls es e → IsPoolJournal ids decls (es ++ e ∷ [])
IsPoolJournal_push ids decls es e all one n x h = ⊎_elim
    (λ t. subst (λ (l : List PoolEntry). IsNextPool ids decls l x) (sym (take-append-le n es (e ∷ []) (omega (arith, t.0)))) (all n x t.1))
    (λ t. subst (λ (y : PoolEntry). IsNextPool ids decls (take n (es ++ e ∷ [])) y) t.1 (subst (λ (l : List PoolEntry). IsNextPool ids decls l e) (sym (take-append-le n es (e ∷ []) (omega (arith, t.0)) ∙ take_all n es (omega (arith, t.0)))) one))
    (at_end es e x n h)

pub IsPoolJournal_none : (ids decls : ℕ) → IsPoolJournal ids decls []
IsPoolJournal_none ids decls n e h = absurd (some-ne-none e (sym h))

-- no id is dying in an empty journal
pub dying_none : (ids : ℕ) → dying_in ids [] ≡ 0
unfolding dying_in phase_of
dying_none zero = refl
dying_none (suc id) = omega (arith, dying_none id)

-- ---- ids past the last one

-- an id that can be registered is one of those that were looked at
pub lowest_within : (more id i : ℕ) (es : List PoolEntry) → lowest_free more id es ≡ Some i → i < id + more
unfolding lowest_free
lowest_within zero id i es e = let d : ◌≡◌ {A = Option ℕ} None (Some i) = e in absurd (cc)
lowest_within (suc more) id i es e =
    let P : Bool → Type 0 = λ b. cond b (Some id) (lowest_free more (suc id) es) ≡ Some i → i < id + suc more in
    let all : (b : Bool) → P b = λ b. elim b as P [ true ↦ (λ f. let d : ◌≡◌ {A = Option ℕ} (Some id) (Some i) = f in let same : id ≡ i = cc in omega (arith, same)) | false ↦ (λ f. omega (arith, lowest_within more (suc id) i es f)) ] in
    all (is_free id es) e

-- an entry that may follow is of one of the ids, where those past the last have none
pub next_within : (ids decls : ℕ) (es : List PoolEntry) (e : PoolEntry) → ((i : ℕ) → ids ≤ i → phase_of i es ≡ 0) → IsNextPool ids decls es e → id_of e < ids
next_within ids decls es (Registered d i from) past n = omega (arith, lowest_within ids 0 i es n.2)
next_within ids decls es (Unregistered d i to) past n = let one = n.0 in dite (dec_lt i ids) (λ h. h) (λ far. absurd (omega (arith, one, past i (omega (arith, far)))))
next_within ids decls es (Idle i) past n = dite (dec_lt i ids) (λ h. h) (λ far. absurd (omega (arith, n, past i (omega (arith, far)))))

pub take_next : (es : List PoolEntry) (k : ℕ) → k < length es → (x : PoolEntry) × (get_elem? es k ≡ some x) × (take (suc k) es ≡ take k es ++ x ∷ [])
take_next [] k h = absurd (omega (arith, h))
take_next (x ∷ es) zero h = (x, refl, refl)
take_next (x ∷ es) (suc k) h = let t = take_next es k (omega (arith, h)) in (t.0, t.1, ap (λ (l : List PoolEntry). x ∷ l) t.2)

past_take : (ids decls : ℕ) (es : List PoolEntry) → IsPoolJournal ids decls es → (k : ℕ) → k ≤ length es → (i : ℕ) → ids ≤ i → phase_of i (take k es) ≡ 0
unfolding phase_of
past_take ids decls es all zero le i far = refl
past_take ids decls es all (suc k) le i far =
    let t = take_next es k (omega (arith, le)) in
    let before = past_take ids decls es all k (omega (arith, le)) in
    let here = next_within ids decls (take k es) t.0 before (all k t.0 t.1) in
    ap (phase_of i) t.2 ∙ omega (arith, phase_of_push i (take k es) t.0, before i far, else_none i t.0 (λ q. omega (arith, q, far, here)))

-- a journal speaks of no id past the last
pub past_none : (ids decls i : ℕ) (es : List PoolEntry) → IsPoolJournal ids decls es → ids ≤ i → phase_of i es ≡ 0
past_none ids decls i es all far = ap (phase_of i) (sym (take_all (length es) es (omega arith))) ∙ past_take ids decls es all (length es) (omega arith) i far
