-- SPDX-License-Identifier: GPL-2.0-only
-- The least numbers at places, reply by reply.
use Rattle.shr_audit_pools.proofs.Common.{◌≡◌, ◌⊎◌, inl, inr, ℕ, ◌+◌, ◌<◌, ◌≤◌, Bool, true, List, Option, Some, None, refl, sym, ap, ◌∙◌, arith, option_and_then, option_map, slice_get, Decides, cases_lt, same_Some, At, Place, Answered, Reply, at, units_place_at, units_cited, AreCitedBelow, AreLows, IsAbove, HasNoLows, Lows, NotesReplies, RaisesLow, cited_or_next, cited_at_reply, pool_key, cite_at, IsHigh, IsSmall, NotesUnitsReply, kept_as, low_at}
use Rattle.shr_audit_pools.specs.declared.cites.Cite.{Cite}
use Rattle.shr_model.proofs.Lists.{found_at}

-- ---- entries that are named by numbers

pub record IsNamed (c : Cite) (p q n : ℕ) : Type 0 where
  pub pool : c.place.pool ≡ p
  pub node : c.place.node ≡ q
  pub entry : c.entry ≡ n

pub named : (c : Cite) (o : Option At) (pool node n : ℕ) → Some (cite_at c) ≡ o → o ≡ Some (at (units_place_at pool node) n) → IsNamed c pool node n
named c o pool node n e f =
    let same : cite_at c ≡ at (units_place_at pool node) n = same_Some (cite_at c) (at (units_place_at pool node) n) (e ∙ f) in
    record { pool = ap (λ (x : At). x.place.id) same; node = ap (λ (x : At). x.place.node) same; entry = ap (λ (x : At). x.entry) same }

none_named : (o : Option At) (x : At) → ◌≡◌ {A = Option At} None o → o ≡ Some x → ⊥
none_named o x e f = no (e ∙ f)
  where
    no : ◌≡◌ {A = Option At} None (Some x) → ⊥
    no e = cc

pub key_parts : (pool node p n : ℕ) → node < 256 → n < 256 → pool_key pool node ≡ pool_key p n → (pool ≡ p) × (node ≡ n)
key_parts pool node p n a b e = (omega (arith, a, b, e), omega (arith, a, b, e))

cited_again : (c : Cite) (pool node : ℕ) → pool ≡ c.place.pool → node ≡ c.place.node → ◌≡◌ {A = Option At} (Some (cite_at c)) (Some (at (units_place_at pool node) c.entry))
cited_again c pool node e f = ap (λ (p : ℕ). Some (at (units_place_at p c.place.node) c.entry)) (sym e) ∙ ap (λ (q : ℕ). Some (at (units_place_at pool q) c.entry)) (sym f)

-- ---- one reply

-- what a reply asks for is high enough, if it asks for anything
pub high_some : (t : Lows) (x : Reply) (c : Cite) (low : ℕ) (b : Bool) → Some (cite_at c) ≡ cited_or_next x → c.place.node < 256 → low ≡ low_at t (pool_key c.place.pool c.place.node) → Decides b (low ≤ c.entry) → Decides b (IsHigh t x)
high_some t x c low b e small is d = (
  λ u pool node n fits f.
      let h = named c (cited_or_next x) pool node n e f in
      let p = h.pool in let q = h.node in let entry = h.entry in
      let le = d.0 u in
      let same : low ≡ low_at t (pool_key pool node) = is ∙ (ap (λ (k : ℕ). low_at t (pool_key k c.place.node)) p ∙ ap (λ (k : ℕ). low_at t (pool_key pool k)) q) in
      let high : low_at t (pool_key pool node) ≤ n = omega (arith, le, same, entry) in high,
  λ h. d.1 (let le = h c.place.pool c.place.node c.entry small (sym e) in let same = is in omega (arith, le, same)),
)

pub high_none : (t : Lows) (x : Reply) → ◌≡◌ {A = Option At} None (cited_or_next x) → Decides true (IsHigh t x)
high_none t x e = (λ u pool node n fits f. absurd (none_named (cited_or_next x) (at (units_place_at pool node) n) e f), λ h. refl)

pub small_some : (x : Reply) (c : Cite) → Some (cite_at c) ≡ cited_or_next x → c.place.node < 256 → IsSmall x
small_some x c e small pool node n f = let h = named c (cited_or_next x) pool node n e f in let q = h.node in omega (arith, small, q)

pub small_none : (x : Reply) → ◌≡◌ {A = Option At} None (cited_or_next x) → IsSmall x
small_none x e pool node n f = absurd (none_named (cited_or_next x) (at (units_place_at pool node) n) e f)

-- a reply is noted by raising the number at the place of its entry
pub noted_some : (x : Reply) (c : Cite) (to : ℕ) (old new : Lows) → Some (cite_at c) ≡ units_cited x → c.place.node < 256 → to ≡ c.entry + 1 → RaisesLow (pool_key c.place.pool c.place.node) to old new → NotesUnitsReply x old new
noted_some x c to old new e small next raised pool node m fits =
    let r = raised (pool_key pool node) m in (
      λ le. (
        (r.0 le).0,
        λ n f.
            let h = named c (units_cited x) pool node n e f in
            let p = h.pool in let q = h.node in let entry = h.entry in
            let up = (r.0 le).1 (omega (arith, p, q)) in omega (arith, up, next, entry),
      ),
      λ h. r.1 (
        h.0,
        λ key.
            let parts = key_parts pool node c.place.pool c.place.node fits small key in
            let lt = h.1 c.entry (sym e ∙ cited_again c pool node parts.0 parts.1) in omega (arith, lt, next),
      ),
    )

pub noted_none : (x : Reply) (t : Lows) → ◌≡◌ {A = Option At} None (units_cited x) → NotesUnitsReply x t t
noted_none x t e pool node m fits = (λ le. (le, λ n f. absurd (none_named (units_cited x) (at (units_place_at pool node) n) e f)), λ h. h.0)

-- ---- replies one after another

pub blank_lows : (answers : List Answered) (t : Lows) → HasNoLows t → AreLows answers 0 t
blank_lows answers t blank pool node m fits = (
  λ le k n lt. absurd (omega (arith, lt)),
  λ h. let none : low_at t (pool_key pool node) ≡ 0 = ap kept_as (blank (pool_key pool node)) in omega (arith, none),
)

cited_here : (answers : List Answered) (k : ℕ) (a : Answered) → slice_get answers k ≡ Some a → cited_at_reply answers k ≡ units_cited a.reply
cited_here answers k a here = ap (λ (o : Option Answered). option_and_then units_cited (option_map (λ (x : Answered). x.reply) o)) here

-- one more reply is above those before it
below_next : (answers : List Answered) (k : ℕ) (a : Answered) (place : Place) (m : ℕ) → slice_get answers k ≡ Some a → AreCitedBelow answers k place m → ((n : ℕ) → units_cited a.reply ≡ Some (at place n) → n < m) → AreCitedBelow answers (k + 1) place m
below_next answers k a place m here before own j n lt cited = by (cases_lt j k)
  where
    by : (j < k) ⊎ (k ≤ j) → n < m
    by (inl less) = before j n less cited
    by (inr ge) =
        let same : j ≡ k = omega (arith, lt, ge) in
        own n (sym (ap (cited_at_reply answers) same ∙ cited_here answers k a here) ∙ cited)

pub lows_more : (answers : List Answered) (k : ℕ) (a : Answered) (old new : Lows) → slice_get answers k ≡ Some a → AreLows answers k old → NotesUnitsReply a.reply old new → AreLows answers (k + 1) new
lows_more answers k a old new here lows noted pool node m fits =
    let l = lows pool node m fits in
    let n = noted pool node m fits in (
      λ le. below_next answers k a (units_place_at pool node) m here (l.0 (n.0 le).0) (n.0 le).1,
      λ h. n.1 (l.1 (λ j i lt cited. h j i (omega (arith, lt)) cited), λ i cited. h k i (omega arith) (cited_here answers k a here ∙ cited)),
    )

-- where the numbers are those of the replies before, a reply that is high enough is above them
pub above_decided : (answers : List Answered) (k : ℕ) (a : Answered) (t : Lows) (b : Bool) → AreLows answers k t → IsSmall a.reply → Decides b (IsHigh t a.reply) → Decides b (IsAbove answers k a)
above_decided answers k a t b lows small d = (
  λ u pool node n asked. let fits = small pool node n asked in (lows pool node n fits).0 (d.0 u pool node n fits asked),
  λ h. d.1 (λ pool node n fits asked. (lows pool node n fits).1 (h pool node n asked)),
)

-- ---- the replies of some numbers

pub replies_none : (answers : List Answered) (from : ℕ) (t : Lows) → NotesReplies answers from from t t
replies_none answers from t pool node m fits = (λ le. (le, λ k n ge lt. absurd (omega (arith, ge, lt))), λ h. h.0)

pub replies_more : (answers : List Answered) (from k : ℕ) (a : Answered) (old now new : Lows) → from ≤ k → slice_get answers k ≡ Some a → NotesReplies answers from k old now → NotesUnitsReply a.reply now new → NotesReplies answers from (k + 1) old new
replies_more answers from k a old now new order here before noted pool node m fits =
    let l = before pool node m fits in
    let n = noted pool node m fits in (
      λ le. ((l.0 (n.0 le).0).0, λ j i ge lt cited. by (l.0 (n.0 le).0).1 (n.0 le).1 j i ge lt cited (cases_lt j k)),
      λ h. n.1 (l.1 (h.0, λ j i ge lt cited. h.1 j i ge (omega (arith, lt)) cited), λ i cited. h.1 k i order (omega arith) (cited_here answers k a here ∙ cited)),
    )
  where
    by : ((j i : ℕ) → from ≤ j → j < k → cited_at_reply answers j ≡ Some (at (units_place_at pool node) i) → i < m) → ((i : ℕ) → units_cited a.reply ≡ Some (at (units_place_at pool node) i) → i < m)
        → (j i : ℕ) → from ≤ j → j < k + 1 → cited_at_reply answers j ≡ Some (at (units_place_at pool node) i) → (j < k) ⊎ (k ≤ j) → i < m
    by older own j i ge lt cited (inl less) = older j i ge less cited
    by older own j i ge lt cited (inr over) =
        let same : j ≡ k = omega (arith, lt, over) in
        own i (sym (ap (cited_at_reply answers) same ∙ cited_here answers k a here) ∙ cited)
