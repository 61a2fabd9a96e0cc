-- SPDX-License-Identifier: GPL-2.0-only
-- The pool's journal keeps its part of the rule.
use Rattle.shr_core.proofs.Common.{◌≡◌, ℕ, ◌+◌, ◌<◌, List, [], ◌∷◌, ◌++◌, length, set, refl, subst, ◌∙◌, arith, length-append, dite, ℕ_discrete, dec_lt, some, get_elem?, PoolEntry, IsNextPool, Each, total, Begins, total_same, total-set, total-append, term_le, Each-set, Each-push, Each-weaker, only_yes, only_no, begins_all, begins_push, begins_more, at_begins, Turns, Turn, Dated, AreTurns, IsTurn, hit_turn, later, IsPoolJournal_push}
use Rattle.shr_core.proofs.Tracing.{below_no}

at_last : (es : List PoolEntry) (e : PoolEntry) → get_elem? (es ++ e ∷ []) (length es) ≡ some e
at_last [] e = refl
at_last (x ∷ es) e = at_last es e

-- the number of an entry that a seat made is below the journal's length
pub made_below : (ids decls : ℕ) (pool : List PoolEntry) (ts : List Turns) (id : ℕ) (t : Turns) → get_elem? ts id ≡ some t → AreTurns ids decls pool ts → Each (λ x. x.number < length pool) t.made
made_below ids decls pool ts id t at o j x e = dite (dec_lt x.number (length pool)) (λ h. h)
    (λ h. absurd (omega (arith, o.once x.number, below_no x.number (length pool) (omega arith), term_le (λ (z : Turns). total (hit_turn x.number) z.made) ts id t at, term_le (hit_turn x.number) t.made j x e, only_yes x.number x.number refl)))

-- the pool's journal gains an entry, which the seat id made
pub makes : (ids decls : ℕ) (pool : List PoolEntry) (ts : List Turns) (id : ℕ) (t : Turns) (e : PoolEntry) → get_elem? ts id ≡ some t → IsNextPool ids decls pool e → AreTurns ids decls pool ts
    → AreTurns ids decls (pool ++ e ∷ []) (set ts id (record t { made = t.made ++ record { number = length pool; entry = e } ∷ [] }))
makes ids decls pool ts id t e at legal o =
    let x : Turn = record { number = length pool; entry = e } in let w : Turns = record t { made = t.made ++ x ∷ [] } in let pool' : List PoolEntry = pool ++ e ∷ [] in
    let longer : length pool' ≡ length pool + 1 = length-append pool (e ∷ []) in
    let more : (y : Turn) → IsTurn pool y → IsTurn pool' y = λ y is. at_begins pool pool' y.number y.entry (begins_push pool e) is in record {
      once = λ n. let moved = total-set (λ (z : Turns). total (hit_turn n) z.made) ts id t w at in let mine = total-append (hit_turn n) t.made (x ∷ []) in dite (ℕ_discrete (length pool) n)
          (λ q. omega (arith, moved, mine, o.once n, only_yes n (length pool) q, below_no n (length pool) (omega arith), later n (length pool') (omega arith)))
          (λ q. dite (dec_lt n (length pool))
          (λ l. omega (arith, moved, mine, o.once n, only_no n (length pool) q, later n (length pool) l, later n (length pool') (omega arith)))
          (λ l. omega (arith, moved, mine, o.once n, only_no n (length pool) q, below_no n (length pool) (omega arith), below_no n (length pool') (omega arith))));
      made = Each-set (λ (z : Turns). Each (IsTurn pool') z.made) ts id w (Each-push (IsTurn pool') t.made x (at_last pool e) (Each-weaker (IsTurn pool) (IsTurn pool') more t.made (o.made id t at))) (λ j z d. Each-weaker (IsTurn pool) (IsTurn pool') more z.made (o.made j z d));
      known = Each-set (λ (z : Turns). Begins z.known pool') ts id w (begins_more t.known pool pool' (o.known id t at) (begins_push pool e)) (λ j z d. begins_more z.known pool pool' (o.known j z d) (begins_push pool e));
      heard = Each-set (λ (z : Turns). Each (λ (k : List PoolEntry). Begins k pool') z.heard) ts id w (λ j k d. begins_more k pool pool' (o.heard id t at j k d) (begins_push pool e)) (λ i z d j k f. begins_more k pool pool' (o.heard i z d j k f) (begins_push pool e));
      journal = IsPoolJournal_push ids decls pool e o.journal legal;
    }

-- the whole journal is known
pub knows : (ids decls : ℕ) (pool : List PoolEntry) (ts : List Turns) (id gives : ℕ) (t : Turns) (known : List PoolEntry) (dated : List Dated) → get_elem? ts id ≡ some t → known ≡ pool → AreTurns ids decls pool ts → AreTurns ids decls pool (set ts id (record t { known = known; gives = gives; dated = dated }))
knows ids decls pool ts id gives t known dated at is o = let w : Turns = record t { known = known; gives = gives; dated = dated } in record {
  once = λ n. total_same (λ (z : Turns). total (hit_turn n) z.made) ts id t w at refl ∙ o.once n;
  made = Each-set (λ (z : Turns). Each (IsTurn pool) z.made) ts id w (o.made id t at) o.made;
  known = Each-set (λ (z : Turns). Begins z.known pool) ts id w (subst (Begins known) is (begins_all known)) o.known;
  heard = Each-set (λ (z : Turns). Each (λ (k : List PoolEntry). Begins k pool) z.heard) ts id w (o.heard id t at) o.heard;
  journal = o.journal;
}

-- how often the pool was given, and what was dated, changes
pub dates : (ids decls : ℕ) (pool : List PoolEntry) (ts : List Turns) (id gives : ℕ) (t : Turns) (dated : List Dated) → get_elem? ts id ≡ some t → AreTurns ids decls pool ts → AreTurns ids decls pool (set ts id (record t { gives = gives; dated = dated }))
dates ids decls pool ts id gives t dated at o = let w : Turns = record t { gives = gives; dated = dated } in record {
  once = λ n. total_same (λ (z : Turns). total (hit_turn n) z.made) ts id t w at refl ∙ o.once n;
  made = Each-set (λ (z : Turns). Each (IsTurn pool) z.made) ts id w (o.made id t at) o.made;
  known = Each-set (λ (z : Turns). Begins z.known pool) ts id w (o.known id t at) o.known;
  heard = Each-set (λ (z : Turns). Each (λ (k : List PoolEntry). Begins k pool) z.heard) ts id w (o.heard id t at) o.heard;
  journal = o.journal;
}
