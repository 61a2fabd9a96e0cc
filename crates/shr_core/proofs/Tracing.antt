-- SPDX-License-Identifier: GPL-2.0-only
-- The traces keep their part of the rule.
use Rattle.shr_core.proofs.Common.{◌≡◌, ℕ, ◌+◌, ◌<◌, ◌≤◌, ◌≢◌, cond, eqb, ltb, List, [], ◌∷◌, ◌++◌, length, set, sym, refl, ap, subst, ◌∙◌, arith, length-append, eq-eqb, ne_eqb, le-ltb, append-nil, dite, ℕ_discrete, dec_lt, some, get_elem?, Object, Entry, Each, total, Begins, total_same, total-set, total-append, term_le, Each-set, Each-push, Each-weaker, begins_all, begins_more, at_begins, Shape, Traces, Made, Counted, places_in, length_of, version_of, AreTraces, IsMade, IsKnown, IsSeen, Journals, Histories, items_now, hit, later, Known, AreCounts}

pub below_no : (n len : ℕ) → len ≤ n → ◌≡◌ {A = ℕ} (cond (ltb n len) 1 0) 0
below_no n len h = ap (λ b. cond b 1 0) (le-ltb n len h)

-- the fields of a count word
pub count_fields : (shape : Shape) (count : ℕ → ℕ) (now : Journals) (after : Histories) (k : ℕ) → AreCounts shape now after count → shape.most_items ≤ 1048576 → k < places_in shape.ids
    → (version_of (count k) ≡ length (now k)) × (length_of (count k) ≡ length (items_now now after k))
count_fields shape count now after k c few near = let is = c.is k near in let i = c.items k in let l : length (items_now now after k) < 4294967296 = omega (arith, i, few) in (omega (arith, is, l), omega (arith, is, l))

-- a count that is loaded now is right
pub count_seen : (now : Journals) (after : Histories) (k len version : ℕ) → version ≡ length (now k) → len ≡ length (items_now now after k) → IsSeen now after (record { place = k; len = len; version = version })
count_seen now after k len version v l = (omega (arith, v), l ∙ ap (λ (n : ℕ). length (after k n)) (sym v))

-- a count that is so may be added to those seen
pub sees : (now : Journals) (after : Histories) (ts : List Traces) (id : ℕ) (t : Traces) (x : Counted) → get_elem? ts id ≡ some t → IsSeen now after x → AreTraces now after ts → AreTraces now after (set ts id (record t { seen = t.seen ++ x ∷ [] }))
sees now after ts id t x at is o = let w : Traces = record t { seen = t.seen ++ x ∷ [] } in record {
  once = λ k n. total_same (λ (z : Traces). total (hit k n) z.made) ts id t w at refl ∙ o.once k n;
  made = Each-set (λ (z : Traces). Each (IsMade now after) z.made) ts id w (o.made id t at) o.made;
  known = Each-set (λ (z : Traces). Each (IsKnown now) z.known) ts id w (o.known id t at) o.known;
  seen = Each-set (λ (z : Traces). Each (IsSeen now after) z.seen) ts id w (Each-push (IsSeen now after) t.seen x is (o.seen id t at)) o.seen;
}

-- the journal of a place is known
pub knows : (now : Journals) (after : Histories) (ts : List Traces) (id k : ℕ) (t : Traces) (es : List Entry) → get_elem? ts id ≡ some t → es ≡ now k → AreTraces now after ts → AreTraces now after (set ts id (record t { known = t.known ++ record { place = k; entries = es } ∷ [] }))
knows now after ts id k t es at is o = let w : Traces = record t { known = t.known ++ record { place = k; entries = es } ∷ [] } in record {
  once = λ k n. total_same (λ (z : Traces). total (hit k n) z.made) ts id t w at refl ∙ o.once k n;
  made = Each-set (λ (z : Traces). Each (IsMade now after) z.made) ts id w (o.made id t at) o.made;
  known = Each-set (λ (z : Traces). Each (IsKnown now) z.known) ts id w (Each-push (IsKnown now) t.known (record { place = k; entries = es }) (subst (λ (x : List Entry). Begins es x) is (begins_all es)) (o.known id t at)) o.known;
  seen = Each-set (λ (z : Traces). Each (IsSeen now after) z.seen) ts id w (o.seen id t at) o.seen;
}

-- only the failed tries change
pub tries : (now : Journals) (after : Histories) (ts : List Traces) (id : ℕ) (t : Traces) (more : List ℕ) → get_elem? ts id ≡ some t → AreTraces now after ts → AreTraces now after (set ts id (record t { tries = more }))
tries now after ts id t more at o = let w : Traces = record t { tries = more } in record {
  once = λ k n. total_same (λ (z : Traces). total (hit k n) z.made) ts id t w at refl ∙ o.once k n;
  made = Each-set (λ (z : Traces). Each (IsMade now after) z.made) ts id w (o.made id t at) o.made;
  known = Each-set (λ (z : Traces). Each (IsKnown now) z.known) ts id w (o.known id t at) o.known;
  seen = Each-set (λ (z : Traces). Each (IsSeen now after) z.seen) ts id w (o.seen id t at) o.seen;
}

hit_yes : (k n : ℕ) (x : Made) → x.place ≡ k → x.number ≡ n → hit k n x ≡ 1
hit_yes k n x p q = ap (λ b. cond b (cond (eqb x.number n) 1 0) 0) (eq-eqb x.place k p) ∙ ap (λ b. cond b 1 0) (eq-eqb x.number n q)

hit_place : (k n : ℕ) (x : Made) → x.place ≢ k → hit k n x ≡ 0
hit_place k n x ne = ap (λ b. cond b (cond (eqb x.number n) 1 0) 0) (ne_eqb x.place k ne)

hit_number : (k n : ℕ) (x : Made) → x.place ≡ k → x.number ≢ n → hit k n x ≡ 0
hit_number k n x p ne = ap (λ b. cond b (cond (eqb x.number n) 1 0) 0) (eq-eqb x.place k p) ∙ ap (λ b. cond b 1 0) (ne_eqb x.number n ne)

-- the number of an entry that a seat made is below the journal's length
pub made_below : (now : Journals) (after : Histories) (ts : List Traces) (id : ℕ) (t : Traces) → get_elem? ts id ≡ some t → AreTraces now after ts → Each (λ x. x.number < length (now x.place)) t.made
made_below now after ts id t at o j x e = dite (dec_lt x.number (length (now x.place))) (λ h. h)
    (λ h. absurd (omega (arith, o.once x.place x.number, below_no x.number (length (now x.place)) (omega arith), term_le (λ (z : Traces). total (hit x.place x.number) z.made) ts id t at, term_le (hit x.place x.number) t.made j x e, hit_yes x.place x.number x refl refl)))

module _ (now now' : Journals) (after after' : Histories) (grows : (j : ℕ) → Begins (now j) (now' j)) (same : (j n : ℕ) → n ≤ length (now j) → after' j n ≡ after j n) where
  longer : (j : ℕ) → length (now j) ≤ length (now' j)
  longer j = let t = grows j in omega (arith, ap (λ (l : List Entry). length l) t.1, length-append (now j) t.0)

  -- what was seen and made stays right
  seen_more : (x : Counted) → IsSeen now after x → IsSeen now' after' x
  seen_more x is = (omega (arith, is.0, longer x.place), is.1 ∙ ap (λ (l : List Object). length l) (sym (same x.place x.version is.0)))

  made_more : (x : Made) → x.number < length (now x.place) → IsMade now after x → IsMade now' after' x
  made_more x below is = (at_begins (now x.place) (now' x.place) x.number x.entry (grows x.place) is.0, is.1 ∙ sym (same x.place x.number (omega arith)))

  known_more : (x : Known) → IsKnown now x → IsKnown now' x
  known_more x is = begins_more x.entries (now x.place) (now' x.place) is (grows x.place)

at_last : (es : List Entry) (e : Entry) → get_elem? (es ++ e ∷ []) (length es) ≡ some e
at_last [] e = refl
at_last (x ∷ es) e = at_last es e

-- the journal of the place k gains an entry, which the seat id made
pub makes : (now now' : Journals) (after after' : Histories) (ts : List Traces) (id k : ℕ) (t : Traces) (e : Entry) (items : List Object) → get_elem? ts id ≡ some t → now' k ≡ now k ++ e ∷ [] → ((j : ℕ) → j ≢ k → now' j ≡ now j)
    → ((j n : ℕ) → n ≤ length (now j) → after' j n ≡ after j n) → items ≡ items_now now after k → AreTraces now after ts
    → AreTraces now' after' (set ts id (record t { made = t.made ++ record { place = k; number = length (now k); entry = e; items = items } ∷ [] }))
makes now now' after after' ts id k t e items at gains others same is-items o =
    let x : Made = record { place = k; number = length (now k); entry = e; items = items } in
    let w : Traces = record t { made = t.made ++ x ∷ [] } in
    let grows : (j : ℕ) → Begins (now j) (now' j) = λ j. dite (ℕ_discrete j k) (λ d. (e ∷ [], subst (λ (y : ℕ). now' y ≡ now y ++ e ∷ []) (sym d) gains)) (λ n. ([], others j n ∙ sym (append-nil (now j)))) in
    let longer : length (now' k) ≡ length (now k) + 1 = ap (λ (l : List Entry). length l) gains ∙ length-append (now k) (e ∷ []) in
    let keeps : (j : ℕ) (z : Traces) → get_elem? ts j ≡ some z → Each (IsMade now' after') z.made = λ j z d a y f. made_more now now' after after' grows same y (made_below now after ts j z d o a y f) (o.made j z d a y f) in
    let mine-new : IsMade now' after' x = (subst (λ (l : List Entry). get_elem? l (length (now k)) ≡ some e) (sym gains) (at_last (now k) e), is-items ∙ sym (same k (length (now k)) (omega arith))) in record {
      once = λ j n. let moved = total-set (λ (z : Traces). total (hit j n) z.made) ts id t w at in let mine = total-append (hit j n) t.made (x ∷ []) in dite (ℕ_discrete j k)
          (λ d. let F : ℕ → Type 0 = λ y. total (λ (z : Traces). total (hit y n) z.made) (set ts id w) ≡ cond (ltb n (length (now' y))) 1 0 in subst F (sym d)
          (let moved' = total-set (λ (z : Traces). total (hit k n) z.made) ts id t w at in let mine' = total-append (hit k n) t.made (x ∷ []) in dite (ℕ_discrete (length (now k)) n)
          (λ q. omega (arith, moved', mine', o.once k n, hit_yes k n x refl q, below_no n (length (now k)) (omega arith), later n (length (now' k)) (omega arith)))
          (λ q. dite (dec_lt n (length (now k)))
          (λ l. omega (arith, moved', mine', o.once k n, hit_number k n x refl q, later n (length (now k)) l, later n (length (now' k)) (omega arith)))
          (λ l. omega (arith, moved', mine', o.once k n, hit_number k n x refl q, below_no n (length (now k)) (omega arith), below_no n (length (now' k)) (omega arith))))))
          (λ d. let as-before = ap {B = ℕ} (λ (l : List Entry). cond (ltb n (length l)) 1 0) (others j d) in omega (arith, moved, mine, o.once j n, hit_place j n x (λ q. d (sym q)), as-before));
      made = Each-set (λ (z : Traces). Each (IsMade now' after') z.made) ts id w (Each-push (IsMade now' after') t.made x mine-new (keeps id t at)) keeps;
      known = Each-set (λ (z : Traces). Each (IsKnown now') z.known) ts id w (Each-weaker (IsKnown now) (IsKnown now') (known_more now now' after after' grows same) t.known (o.known id t at)) (λ j z d. Each-weaker (IsKnown now) (IsKnown now') (known_more now now' after after' grows same) z.known (o.known j z d));
      seen = Each-set (λ (z : Traces). Each (IsSeen now' after') z.seen) ts id w (Each-weaker (IsSeen now after) (IsSeen now' after') (seen_more now now' after after' grows same) t.seen (o.seen id t at)) (λ j z d. Each-weaker (IsSeen now after) (IsSeen now' after') (seen_more now now' after after' grows same) z.seen (o.seen j z d));
    }
