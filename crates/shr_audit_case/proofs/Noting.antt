-- SPDX-License-Identifier: GPL-2.0-only
-- The lookups of registrations, entry by entry.
use Rattle.shr_audit_case.proofs.RegistrationsCommon.{◌≡◌, ◌≢◌, ℕ, ◌+◌, ◌-◌, ◌*◌, ◌<◌, ◌≤◌, ◌^◌, Bool, true, false, cond, List, [], ◌∷◌, ◌++◌, length, get_or, drop, Option, Some, None, refl, sym, ap, subst, ◌∙◌, arith, ◌&&◌, ◌==◌, nat_le, nat_lt, nat_cmp, lookup, BTreeMap, IsEmpty, get, is_at, nat_tests, drop_more, PoolEntry, Registered, Unregistered, Idle, Registration, Span, AreNoted, decl_found, lookup_key, stop_key, has_key, last_in, same_byte, is_eq}
use Rattle.std.specs.declared.cmp.Ordering.TheVariants.{Less, Equal, Greater}
use Rattle.shr_model.specs.Pool.{decl_at, end_of, is_before, registrations}
use Rattle.shr_audit_case.proofs.Merging.{last_push, last_none}
use Rattle.shr_model.proofs.Booleans.{itself, above_of, below_of, le_of, lt_of, more_of}
use Rattle.std.proofs.lemmas.Bool.{le-ltb, lt-ltb, lt-leb}

-- ---- keys

pub apart_of : (a b : ℕ) → (a == b) ≡ false → a ≢ b
apart_of a b e = grind (arith, nat_tests)

-- keys of one id stand as their numbers
key_le : (i a b : ℕ) → nat_le (lookup_key i a) (lookup_key i b) ≡ nat_le a b
key_le i a b = by (nat_le a b) refl
  where
    by : (x : Bool) → nat_le a b ≡ x → nat_le (lookup_key i a) (lookup_key i b) ≡ x
    by true e = le_of (lookup_key i a) (lookup_key i b) (let h = below_of a b e in omega (arith, h))
    by false e = lt-leb (lookup_key i a) (lookup_key i b) (let h = above_of a b e in omega (arith, h))

key_lt : (i a b : ℕ) → nat_lt (lookup_key i a) (lookup_key i b) ≡ nat_lt a b
key_lt i a b = by (nat_lt a b) refl
  where
    by : (x : Bool) → nat_lt a b ≡ x → nat_lt (lookup_key i a) (lookup_key i b) ≡ x
    by true e = lt-ltb (lookup_key i a) (lookup_key i b) (let h = lt_of a b e in omega (arith, h))
    by false e = le-ltb (lookup_key i a) (lookup_key i b) (let h = more_of a b e in omega (arith, h))

-- below the end of a registration of the id, as its number is before its end
stop_same : (id number : ℕ) (to : Option ℕ) → number < 4294967296 → nat_lt (lookup_key id number) (stop_key id to) ≡ is_before number to
stop_same id number None few = lt-ltb (lookup_key id number) (stop_key id None) (omega (arith, few))
stop_same id number (Some to) few = key_lt id number to

-- the keys of a registration are none of another id's
key_apart : (id i number from stop : ℕ) → id ≢ i → number < 4294967296 → from < 4294967296 → stop ≤ 4294967296 * (id + 1)
    → (nat_le (lookup_key id from) (lookup_key i number) && nat_lt (lookup_key i number) stop) ≡ false
key_apart id i number from stop ne few below over = by (nat_le (lookup_key id from) (lookup_key i number)) refl (nat_lt (lookup_key i number) stop) refl
  where
    by : (a : Bool) → nat_le (lookup_key id from) (lookup_key i number) ≡ a → (b : Bool) → nat_lt (lookup_key i number) stop ≡ b → (a && b) ≡ false
    by true e true f = absurd (let g = below_of (lookup_key id from) (lookup_key i number) e in let h = lt_of (lookup_key i number) stop f in omega (arith, g, h, ne))
    by true e false f = refl
    by false e b f = refl

stop_over : (id : ℕ) (to : Option ℕ) → ((t : ℕ) → to ≡ Some t → t < 4294967296) → stop_key id to ≤ 4294967296 * (id + 1)
stop_over id None below = omega arith
stop_over id (Some t) below = let h = below t refl in omega (arith, h)

-- a span of an id has the key of a lookup if it is of the id, and its number lies in the registration
pub span_has : (id i number from : ℕ) (to : Option ℕ) → number < 4294967296 → from < 4294967296 → ((t : ℕ) → to ≡ Some t → t < 4294967296)
    → (nat_le (lookup_key id from) (lookup_key i number) && nat_lt (lookup_key i number) (stop_key id to)) ≡ ((id == i) && (nat_le from number && is_before number to))
span_has id i number from to few low high = by (id == i) refl
  where
    by : (b : Bool) → (id == i) ≡ b → (nat_le (lookup_key id from) (lookup_key i number) && nat_lt (lookup_key i number) (stop_key id to)) ≡ (b && (nat_le from number && is_before number to))
    by true e =
        subst (λ (k : ℕ). (nat_le (lookup_key id from) (lookup_key k number) && nat_lt (lookup_key k number) (stop_key id to)) ≡ (nat_le from number && is_before number to)) (same_byte id i e)
        (ap (λ (b : Bool). b && nat_lt (lookup_key id number) (stop_key id to)) (key_le id from number) ∙ ap (λ (b : Bool). nat_le from number && b) (stop_same id number to few))
    by false e = key_apart id i number from (stop_key id to) (apart_of id i e) few low (stop_over id to high)

-- ---- entries

pub noted_none : (ends : BTreeMap ℕ ℕ) → ((id : ℕ) → get nat_cmp ends id ≡ None) → AreNoted [] [] ends
unfolding end_of registrations decl_at
noted_none ends none = record { ended = λ id. none id; met = λ id number few. ap decl_found (last_none (lookup_key id number)) }

registrations_same : (d i from : ℕ) (es : List PoolEntry) (number : ℕ)
    → decl_at number (registrations i (Registered d i from ∷ es)) ≡ cond (nat_le from number && is_before number (end_of i es)) (Some d) (decl_at number (registrations i es))
unfolding registrations decl_at
registrations_same d i from es number = ap (λ (b : Bool). decl_at number (cond b (record { decl = d; from = from; to = end_of i es } ∷ registrations i es) (registrations i es))) (itself i)

registrations_other : (d i from id : ℕ) (es : List PoolEntry) → (i == id) ≡ false → registrations id (Registered d i from ∷ es) ≡ registrations id es
unfolding registrations
registrations_other d i from id es e = ap (λ (b : Bool). cond b (record { decl = d; from = from; to = end_of id es } ∷ registrations id es) (registrations id es)) e

end_same : (d i from id : ℕ) (es : List PoolEntry) → end_of id (Registered d i from ∷ es) ≡ end_of id es
unfolding end_of
end_same d i from id es = refl

pub noted_registered : (d i from : ℕ) (es : List PoolEntry) (spans : List Span) (ends : BTreeMap ℕ ℕ) (to : Option ℕ) (x : Span) → to ≡ get nat_cmp ends i
    → x.of ≡ record { decl = d; from = from; to = to } → ((id number : ℕ) → number < 2 ^ 32 → has_key (lookup_key id number) x ≡ ((i == id) && (nat_le from number && is_before number to)))
    → AreNoted es spans ends → AreNoted (Registered d i from ∷ es) (spans ++ x ∷ []) ends
noted_registered d i from es spans ends to x to_is of has h = record {
  ended = λ id. h.ended id ∙ sym (end_same d i from id es);
  met = λ id number few. by id number few (i == id) refl;
}
  where
    to_end : to ≡ end_of i es
    to_end = to_is ∙ h.ended i

    split : (b : Bool) (number : ℕ) → number < 2 ^ 32 → decl_found (cond b (Some x.of) (last_in spans (lookup_key i number))) ≡ cond b (Some d) (decl_at number (registrations i es))
    split true number few = ap (λ (r : Registration). Some r.decl) of
    split false number few = h.met i number few

    by : (id number : ℕ) → number < 2 ^ 32 → (b : Bool) → (i == id) ≡ b → decl_found (last_in (spans ++ x ∷ []) (lookup_key id number)) ≡ decl_at number (registrations id (Registered d i from ∷ es))
    by id number few true e =
        subst (λ (k : ℕ). decl_found (last_in (spans ++ x ∷ []) (lookup_key k number)) ≡ decl_at number (registrations k (Registered d i from ∷ es))) (same_byte i id e)
        (ap decl_found (last_push spans x (lookup_key i number))
        ∙ ap (λ (b : Bool). decl_found (cond b (Some x.of) (last_in spans (lookup_key i number)))) (has i number few ∙ ap (λ (b : Bool). b && (nat_le from number && is_before number to)) (itself i))
        ∙ split (nat_le from number && is_before number to) number few
        ∙ ap (λ (o : Option ℕ). cond (nat_le from number && is_before number o) (Some d) (decl_at number (registrations i es))) to_end
        ∙ sym (registrations_same d i from es number))
    by id number few false e =
        ap decl_found (last_push spans x (lookup_key id number))
        ∙ ap (λ (b : Bool). decl_found (cond b (Some x.of) (last_in spans (lookup_key id number)))) (has id number few ∙ ap (λ (b : Bool). b && (nat_le from number && is_before number to)) e)
        ∙ h.met id number few
        ∙ ap (decl_at number) (sym (registrations_other d i from id es e))

registrations_end : (d i to id : ℕ) (es : List PoolEntry) → registrations id (Unregistered d i to ∷ es) ≡ registrations id es
unfolding registrations
registrations_end d i to id es = refl

end_here : (d i to id : ℕ) (es : List PoolEntry) → end_of id (Unregistered d i to ∷ es) ≡ cond (i == id) (Some to) (end_of id es)
unfolding end_of
end_here d i to id es = refl

pub noted_unregistered : (d i to : ℕ) (es : List PoolEntry) (spans : List Span) (ends new : BTreeMap ℕ ℕ) → ((id : ℕ) → get nat_cmp new id ≡ cond (i == id) (Some to) (get nat_cmp ends id))
    → AreNoted es spans ends → AreNoted (Unregistered d i to ∷ es) spans new
noted_unregistered d i to es spans ends new put h = record {
  ended = λ id. put id ∙ ap (λ (o : Option ℕ). cond (i == id) (Some to) o) (h.ended id) ∙ sym (end_here d i to id es);
  met = λ id number few. h.met id number few ∙ ap (decl_at number) (sym (registrations_end d i to id es));
}

pub noted_idle : (i : ℕ) (es : List PoolEntry) (spans : List Span) (ends : BTreeMap ℕ ℕ) → AreNoted es spans ends → AreNoted (Idle i ∷ es) spans ends
unfolding end_of registrations
noted_idle i es spans ends h = record { ended = h.ended; met = h.met }

pub none_left : (es : List PoolEntry) → drop (length es) es ≡ []
none_left [] = refl
none_left (e ∷ es) = none_left es

-- before the first is gone through
pub noted_start : (es : List PoolEntry) (spans : List Span) (ends : BTreeMap ℕ ℕ) → spans ≡ [] → IsEmpty ends → AreNoted (drop (length es) es) spans ends
noted_start es spans ends e empty =
    subst (λ (xs : List PoolEntry). AreNoted xs spans ends) (sym (none_left es)) (subst (λ (xs : List Span). AreNoted [] xs ends) (sym e) (noted_none ends (λ id. ap (lookup (is_at (nat_cmp id))) empty)))

-- the next is gone through
pub noted_next : (es : List PoolEntry) (left : ℕ) (d : PoolEntry) (spans new : List Span) (ends next : BTreeMap ℕ ℕ) → 0 < left → left ≤ length es → AreNoted (drop left es) spans ends
    → ((xs : List PoolEntry) → AreNoted xs spans ends → AreNoted (get_or es (left - 1) d ∷ xs) new next) → AreNoted (drop (left - 1) es) new next
noted_next es left d spans new ends next some within h step =
    let e : left ≡ (left - 1) + 1 = omega arith in
    let behind : AreNoted (get_or es (left - 1) d ∷ drop ((left - 1) + 1) es) new next = step (drop ((left - 1) + 1) es) (subst (λ (k : ℕ). AreNoted (drop k es) spans ends) e h) in
    subst (λ (xs : List PoolEntry). AreNoted xs new next) (sym (drop_more es (left - 1) d (omega (arith, some, within)))) behind

-- the keys of a map of numbers are tested as numbers are
pub at_same : (i id : ℕ) → is_at (nat_cmp i) id ≡ (i == id)
at_same i id = by (nat_lt i id) refl (i == id) refl
  where
    by : (a : Bool) → nat_lt i id ≡ a → (b : Bool) → (i == id) ≡ b → is_at (nat_cmp i) id ≡ b
    by true e true f = absurd (let g = lt_of i id e in let h = same_byte i id f in omega (arith, g, h))
    by true e false f = ap (λ (x : Bool). is_eq (cond x Less (cond (i == id) Equal Greater))) e
    by false e true f = ap (λ (x : Bool). is_eq (cond x Less (cond (i == id) Equal Greater))) e ∙ ap (λ (x : Bool). is_eq (cond x Equal Greater)) f
    by false e false f = ap (λ (x : Bool). is_eq (cond x Less (cond (i == id) Equal Greater))) e ∙ ap (λ (x : Bool). is_eq (cond x Equal Greater)) f
