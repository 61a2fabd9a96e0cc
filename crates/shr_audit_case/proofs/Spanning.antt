-- SPDX-License-Identifier: GPL-2.0-only
-- The entries between which registrations are live, entry by entry.
use Rattle.shr_audit_case.proofs.RegistrationsCommon.{◌≡◌, ◌≢◌, ℕ, ◌+◌, ◌-◌, ◌*◌, ◌<◌, ◌≤◌, ◌^◌, Bool, true, false, cond, List, [], ◌∷◌, ◌++◌, length, get_or, drop, Option, Some, None, refl, sym, ap, subst, ◌∙◌, arith, ◌&&◌, ◌==◌, nat_le, nat_lt, nat_cmp, lookup, BTreeMap, IsEmpty, get, is_at, nat_tests, drop_more, PoolEntry, Registered, Unregistered, Idle, Registration, Span, lookup_key, has_key, last_in, End, AreLivesNoted, entry_key, is_within, to_of, same_byte}
use Rattle.shr_audit_case.proofs.Merging.{last_none, last_push}
use Rattle.shr_audit_case.specs.Live.{capped_key, end_key, live_in, next_end}
use Rattle.shr_audit_case.proofs.Noting.{apart_of, none_left}
use Rattle.shr_model.proofs.Booleans.{below_of, le_of, lt_of, more_of}
use Rattle.std.proofs.lemmas.Bool.{le-ltb, lt-ltb, lt-leb}

-- ---- keys

cut_low : (a : ℕ) → a < 4294967296 → capped_key a ≡ a
cut_low a h = ap (λ (b : Bool). cond b a 4294967296) (lt-ltb a 4294967296 h)

cut_high : (a : ℕ) → 4294967296 ≤ a → capped_key a ≡ 4294967296
cut_high a h = ap (λ (b : Bool). cond b a 4294967296) (le-ltb a 4294967296 h)

cut_most : (a : ℕ) → capped_key a ≤ 4294967296
cut_most a = by (nat_lt a 4294967296) refl
  where
    by : (b : Bool) → nat_lt a 4294967296 ≡ b → cond b a 4294967296 ≤ 4294967296
    by true e = let h = lt_of a 4294967296 e in omega (arith, h)
    by false e = omega arith

-- a number of 32 bits is below another where it is below the cut one
cut_below : (entry a : ℕ) → entry < 4294967296 → nat_lt entry (capped_key a) ≡ nat_lt entry a
cut_below entry a few = by (nat_lt a 4294967296) refl
  where
    by : (b : Bool) → nat_lt a 4294967296 ≡ b → nat_lt entry (capped_key a) ≡ nat_lt entry a
    by true e = ap (nat_lt entry) (cut_low a (lt_of a 4294967296 e))
    by false e = let h = more_of a 4294967296 e in ap (nat_lt entry) (cut_high a h) ∙ lt-ltb entry 4294967296 few ∙ sym (lt-ltb entry a (omega (arith, h, few)))

cut_behind : (at entry : ℕ) (c : Bool) → nat_lt (at + 1) 4294967296 ≡ c → entry < 4294967296 → entry ≤ at → nat_le (capped_key (at + 1)) entry ≡ false
cut_behind at entry true f few le = ap (λ (n : ℕ). nat_le n entry) (cut_low (at + 1) (lt_of (at + 1) 4294967296 f)) ∙ lt-leb (at + 1) entry (omega (arith, le))
cut_behind at entry false f few le = ap (λ (n : ℕ). nat_le n entry) (cut_high (at + 1) (more_of (at + 1) 4294967296 f)) ∙ lt-leb 4294967296 entry few

cut_above : (at entry : ℕ) → entry < 4294967296 → nat_le (capped_key (at + 1)) entry ≡ nat_lt at entry
cut_above at entry few = by (nat_lt at entry) refl
  where
    by : (b : Bool) → nat_lt at entry ≡ b → nat_le (capped_key (at + 1)) entry ≡ b
    by true e = let h = lt_of at entry e in ap (λ (n : ℕ). nat_le n entry) (cut_low (at + 1) (omega (arith, h, few))) ∙ le_of (at + 1) entry (omega (arith, h))
    by false e = cut_behind at entry (nat_lt (at + 1) 4294967296) refl few (more_of at entry e)

sum_le : (base a b : ℕ) → nat_le (base + a) (base + b) ≡ nat_le a b
sum_le base a b = by (nat_le a b) refl
  where
    by : (x : Bool) → nat_le a b ≡ x → nat_le (base + a) (base + b) ≡ x
    by true e = le_of (base + a) (base + b) (let h = below_of a b e in omega (arith, h))
    by false e = lt-leb (base + a) (base + b) (let h : b < a = grind (arith, nat_tests) in omega (arith, h))

sum_lt : (base a b : ℕ) → nat_lt (base + a) (base + b) ≡ nat_lt a b
sum_lt base a b = by (nat_lt a b) refl
  where
    by : (x : Bool) → nat_lt a b ≡ x → nat_lt (base + a) (base + b) ≡ x
    by true e = lt-ltb (base + a) (base + b) (let h = lt_of a b e in omega (arith, h))
    by false e = le-ltb (base + a) (base + b) (let h = more_of a b e in omega (arith, h))

end_same : (id entry : ℕ) (end : Option End) → entry < 4294967296 → nat_lt (lookup_key id entry) (end_key id end) ≡ is_within entry end
end_same id entry None few = lt-ltb (lookup_key id entry) (4294967296 * (id + 1)) (omega (arith, few))
end_same id entry (Some x) few = sum_lt (4294967296 * id) entry (capped_key x.behind) ∙ cut_below entry x.behind few

end_over : (id : ℕ) (end : Option End) → end_key id end ≤ 4294967296 * (id + 1)
end_over id None = omega arith
end_over id (Some x) = let h = cut_most x.behind in omega (arith, h)

entry_apart : (id i entry begin stop : ℕ) → id ≢ i → entry < 4294967296 → 4294967296 * id ≤ begin → stop ≤ 4294967296 * (id + 1)
    → (nat_le begin (lookup_key i entry) && nat_lt (lookup_key i entry) stop) ≡ false
entry_apart id i entry begin stop ne few low high = by (nat_le begin (lookup_key i entry)) refl (nat_lt (lookup_key i entry) stop) refl
  where
    by : (a : Bool) → nat_le begin (lookup_key i entry) ≡ a → (b : Bool) → nat_lt (lookup_key i entry) stop ≡ b → (a && b) ≡ false
    by true e true f = absurd (let g = below_of begin (lookup_key i entry) e in let h = lt_of (lookup_key i entry) stop f in omega (arith, g, h, ne, low, high, few))
    by true e false f = refl
    by false e b f = refl

-- a span of an id has the key of so many entries of an id if it is the id, and they are behind its entry and not behind its end
pub entry_has : (id i at entry : ℕ) (end : Option End) → entry < 4294967296
    → (nat_le (entry_key id (at + 1)) (lookup_key i entry) && nat_lt (lookup_key i entry) (end_key id end)) ≡ ((id == i) && (nat_lt at entry && is_within entry end))
entry_has id i at entry end few = by (id == i) refl
  where
    by : (b : Bool) → (id == i) ≡ b → (nat_le (entry_key id (at + 1)) (lookup_key i entry) && nat_lt (lookup_key i entry) (end_key id end)) ≡ (b && (nat_lt at entry && is_within entry end))
    by true e =
        subst (λ (k : ℕ). (nat_le (entry_key id (at + 1)) (lookup_key k entry) && nat_lt (lookup_key k entry) (end_key id end)) ≡ (nat_lt at entry && is_within entry end)) (same_byte id i e)
        (ap (λ (b : Bool). b && nat_lt (lookup_key id entry) (end_key id end)) (sum_le (4294967296 * id) (capped_key (at + 1)) entry ∙ cut_above at entry few) ∙ ap (λ (b : Bool). nat_lt at entry && b) (end_same id entry end few))
    by false e = entry_apart id i entry (entry_key id (at + 1)) (end_key id end) (apart_of id i e) few (omega arith) (end_over id end)

-- ---- entries

pub lives_none : (at : ℕ) (ends : BTreeMap ℕ End) → ((id : ℕ) → get nat_cmp ends id ≡ None) → AreLivesNoted at [] [] ends
unfolding next_end live_in
lives_none at ends none = record { ended = λ id. none id; lives = λ id entry few. last_none (lookup_key id entry) }

-- the registration of a span, whose end is known
pub of_is : (d from : ℕ) (end : Option End) (to : Option ℕ) (x : Span) → to ≡ to_of end → x.of ≡ record { decl = d; from = from; to = to } → x.of ≡ record { decl = d; from = from; to = to_of end }
of_is d from end to x e f = f ∙ ap (λ (o : Option ℕ). record { decl = d; from = from; to = o }) e

live_registered : (id at d i from entry : ℕ) (es : List PoolEntry) → live_in id at (Registered d i from ∷ es) entry
    ≡ cond ((i == id) && (nat_lt at entry && is_within entry (next_end id (at + 1) es))) (Some (record { decl = d; from = from; to = to_of (next_end id (at + 1) es) })) (live_in id (at + 1) es entry)
unfolding live_in
live_registered id at d i from entry es = refl

next_registered : (id at d i from : ℕ) (es : List PoolEntry) → next_end id at (Registered d i from ∷ es) ≡ next_end id (at + 1) es
unfolding next_end
next_registered id at d i from es = refl

pub lives_registered : (at d i from : ℕ) (es : List PoolEntry) (spans : List Span) (ends : BTreeMap ℕ End) (end : Option End) (x : Span) → end ≡ get nat_cmp ends i
    → x.of ≡ record { decl = d; from = from; to = to_of end } → ((id entry : ℕ) → entry < 2 ^ 32 → has_key (lookup_key id entry) x ≡ ((i == id) && (nat_lt at entry && is_within entry end)))
    → AreLivesNoted (at + 1) es spans ends → AreLivesNoted at (Registered d i from ∷ es) (spans ++ x ∷ []) ends
lives_registered at d i from es spans ends end x end_is of has h = record {
  ended = λ id. h.ended id ∙ sym (next_registered id at d i from es);
  lives = λ id entry few.
      last_push spans x (lookup_key id entry)
      ∙ ap (λ (b : Bool). cond b (Some x.of) (last_in spans (lookup_key id entry))) (has id entry few)
      ∙ ap (λ (r : Registration). cond ((i == id) && (nat_lt at entry && is_within entry end)) (Some r) (last_in spans (lookup_key id entry))) of
      ∙ ap (λ (o : Option Registration). cond ((i == id) && (nat_lt at entry && is_within entry end)) (Some (record { decl = d; from = from; to = to_of end })) o) (h.lives id entry few)
      ∙ by id entry (i == id) refl
      ∙ sym (live_registered id at d i from entry es);
}
  where
    by : (id entry : ℕ) (b : Bool) → (i == id) ≡ b
        → cond (b && (nat_lt at entry && is_within entry end)) (Some (record { decl = d; from = from; to = to_of end })) (live_in id (at + 1) es entry)
        ≡ cond (b && (nat_lt at entry && is_within entry (next_end id (at + 1) es))) (Some (record { decl = d; from = from; to = to_of (next_end id (at + 1) es) })) (live_in id (at + 1) es entry)
    by id entry true e =
        let there : end ≡ next_end id (at + 1) es = end_is ∙ h.ended i ∙ ap (λ (k : ℕ). next_end k (at + 1) es) (same_byte i id e) in
        ap (λ (o : Option End). cond (nat_lt at entry && is_within entry o) (Some (record { decl = d; from = from; to = to_of o })) (live_in id (at + 1) es entry)) there
    by id entry false e = refl

next_ended : (id at d i to : ℕ) (es : List PoolEntry) → next_end id at (Unregistered d i to ∷ es) ≡ cond (i == id) (Some (record { to = to; behind = at + 1 })) (next_end id (at + 1) es)
unfolding next_end
next_ended id at d i to es = refl

live_ended : (id at d i to entry : ℕ) (es : List PoolEntry) → live_in id at (Unregistered d i to ∷ es) entry ≡ live_in id (at + 1) es entry
unfolding live_in
live_ended id at d i to entry es = refl

pub lives_unregistered : (at d i to : ℕ) (es : List PoolEntry) (spans : List Span) (ends new : BTreeMap ℕ End)
    → ((id : ℕ) → get nat_cmp new id ≡ cond (i == id) (Some (record { to = to; behind = at + 1 })) (get nat_cmp ends id))
    → AreLivesNoted (at + 1) es spans ends → AreLivesNoted at (Unregistered d i to ∷ es) spans new
lives_unregistered at d i to es spans ends new put h = record {
  ended = λ id. put id ∙ ap (λ (o : Option End). cond (i == id) (Some (record { to = to; behind = at + 1 })) o) (h.ended id) ∙ sym (next_ended id at d i to es);
  lives = λ id entry few. h.lives id entry few ∙ sym (live_ended id at d i to entry es);
}

pub lives_idle : (at i : ℕ) (es : List PoolEntry) (spans : List Span) (ends : BTreeMap ℕ End) → AreLivesNoted (at + 1) es spans ends → AreLivesNoted at (Idle i ∷ es) spans ends
unfolding next_end live_in
lives_idle at i es spans ends h = record { ended = h.ended; lives = h.lives }

-- before the first is gone through
pub lives_start : (es : List PoolEntry) (spans : List Span) (ends : BTreeMap ℕ End) → spans ≡ [] → IsEmpty ends → AreLivesNoted (length es) (drop (length es) es) spans ends
lives_start es spans ends e empty =
    subst (λ (xs : List PoolEntry). AreLivesNoted (length es) xs spans ends) (sym (none_left es)) (subst (λ (xs : List Span). AreLivesNoted (length es) [] xs ends) (sym e) (lives_none (length es) ends (λ id. ap (lookup (is_at (nat_cmp id))) empty)))

-- the next is gone through
pub lives_next : (es : List PoolEntry) (left : ℕ) (d : PoolEntry) (spans new : List Span) (ends next : BTreeMap ℕ End) → 0 < left → left ≤ length es → AreLivesNoted left (drop left es) spans ends
    → ((xs : List PoolEntry) → AreLivesNoted ((left - 1) + 1) xs spans ends → AreLivesNoted (left - 1) (get_or es (left - 1) d ∷ xs) new next) → AreLivesNoted (left - 1) (drop (left - 1) es) new next
lives_next es left d spans new ends next some within h step =
    let e : left ≡ (left - 1) + 1 = omega arith in
    let behind : AreLivesNoted (left - 1) (get_or es (left - 1) d ∷ drop ((left - 1) + 1) es) new next = step (drop ((left - 1) + 1) es) (subst (λ (k : ℕ). AreLivesNoted k (drop k es) spans ends) e h) in
    subst (λ (xs : List PoolEntry). AreLivesNoted (left - 1) xs new next) (sym (drop_more es (left - 1) d (omega (arith, some, within)))) behind
