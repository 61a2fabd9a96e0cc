-- SPDX-License-Identifier: GPL-2.0-only
-- Drain marks, and closed lists that are empty.
use Rattle.shr_node.proofs.Common.{◌≡◌, ℕ, suc, ◌+◌, ◌<◌, Bool, true, false, cond, List, [], ◌∷◌, length, take, sym, refl, ap, ◌∙◌, arith, ◌==◌, ◌&&◌, ◌||◌, slice_set, Object, Entry, Add, Look, Drop, Pin, Scan, MovedIn, Closed, Drained, step, is_closed, Claims, place_id, node_of, group_of, mark_of, drained_after, is_some_of}
use Rattle.shr_model.specs.Items.{items_from, later_moved, first_moved, is_closing, HasJournal}

pub second_false : (a b : Bool) → (a || b) ≡ false → b ≡ false
second_false true b h = absurd (cc)
second_false false b h = h

-- nothing follows a Closed, so that it leaves nothing
closed_leaves : (moved : List (List Object)) (items : List Object) (es : List Entry) → is_closed es ≡ true → ((n : ℕ) → n < length es → is_closed (take n es) ≡ false) → items_from moved items es ≡ []
unfolding items_from
closed_leaves moved items [] closed before = absurd (cc)
closed_leaves moved items (Closed ∷ []) closed before = refl
closed_leaves moved items (Add by birth added key value ∷ []) closed before = absurd (cc)
closed_leaves moved items (Look by birth key hit ∷ []) closed before = absurd (cc)
closed_leaves moved items (Drop by birth key kind ∷ []) closed before = absurd (cc)
closed_leaves moved items (Pin by birth key pinned hit ∷ []) closed before = absurd (cc)
closed_leaves moved items (Scan worker walk asked policy visits freed stopped ∷ []) closed before = absurd (cc)
closed_leaves moved items (MovedIn child objects ∷ []) closed before = absurd (cc)
closed_leaves moved items (Drained by objects ∷ []) closed before = absurd (cc)
closed_leaves moved items (e ∷ x ∷ es) closed before = closed_leaves (later_moved e moved) (step (first_moved moved) items e) (x ∷ es) later (λ n h. second_false (is_closing e) (is_closed (take n (x ∷ es))) (before (suc n) (omega (arith, h))))
  where
    opens : is_closing e ≡ false
    opens = first_false (is_closing e) (is_closed []) (before 1 (omega arith))
      where
        first_false : (a b : Bool) → (a || b) ≡ false → a ≡ false
        first_false true b h = absurd (cc)
        first_false false b h = refl

    later : is_closed (x ∷ es) ≡ true
    later = ap (λ b. b || is_closed (x ∷ es)) (sym opens) ∙ closed

-- a closed list has no items
pub closed_empty : (es : List Entry) (items : List Object) → HasJournal es items → is_closed es ≡ true → items ≡ []
closed_empty es items (moved, j) closed = sym j.left ∙ closed_leaves moved [] es closed j.ended

-- a list that holds an object is open
pub filled_open : (es : List Entry) (items : List Object) → HasJournal es items → (length items == 0) ≡ false → is_closed es ≡ false
filled_open es items j some = by (is_closed es) refl where
  by : (b : Bool) → is_closed es ≡ b → b ≡ false
  by false e = refl
  by true e = let t : true ≡ false = ap (λ (l : List Object). length l == 0) (sym (closed_empty es items j e)) ∙ some in absurd (cc)

-- a mark does not move over a list that holds an object
pub unmoved : (c : Claims) (k : ℕ) (items : List Object) → (length items == 0) ≡ false → drained_after c k items ≡ c.drained
unmoved c k [] some = absurd (cc)
unmoved c k (x ∷ xs) some = by (c.quiet && is_some_of (place_id k) c.owner && (mark_of c (node_of k) == group_of k + 1)) where
  by : (b : Bool) → cond (b && false) (slice_set c.drained (node_of k) (group_of k)) c.drained ≡ c.drained
  by true = refl
  by false = refl
