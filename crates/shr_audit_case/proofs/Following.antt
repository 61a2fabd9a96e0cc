-- SPDX-License-Identifier: GPL-2.0-only
-- A replay under way: what its entries so far told, and what those behind them will tell.
use Rattle.shr_audit_case.proofs.ReplayCommon.{◌≡◌, ℕ, ◌+◌, Bool, true, false, cond, List, [], ◌∷◌, ◌++◌, length, map, refl, sym, ap, ◌∙◌, subst, arith, append_assoc, append-nil, length-append, ◌↔◌, Decides, Object, Entry, Add, Look, Drop, Pin, Scan, MovedIn, Closed, Drained, moved_by, before_closed, without_child, FreedTag, Replayed, took_after, tag_of, freed_tag, given_from, IsReplayed, ◌||◌, not, if◌then◌else◌}
use Rattle.std.proofs.lemmas.List.Sums.{take_while-cons}
use Rattle.shr_model.specs.Items.{step, freed_by, first_moved, later_moved, items_from, AreOutcomes, IsOutcome, is_closing}
use Rattle.shr_model.specs.Families.{lists_moved}
use Rattle.shr_audit_case.specs.declared.values.FoundValue.{FoundValue}
use Rattle.shr_audit_case.specs.declared.journal.Course.{Course}
use Rattle.shr_audit_case.specs.Values.{value_met, values_noted}
use Rattle.shr_audit_case.specs.Journals.{lens_from, freed_tags, values_from, IsNew, Advances, Finishes}

module _ (took : ℕ → List Object) (items : List Object) where
  -- one entry at the head of a journal
  pub lens_next : (e : Entry) (es : List Entry) → lens_from (lists_moved took (e ∷ es)) items (e ∷ es) ≡ length items ∷ lens_from (lists_moved (took_after took e) es) (step (moved_by took e) items e) es
  unfolding lens_from lists_moved
  lens_next (Add by birth added key value) es = refl
  lens_next (Look by birth key hit) es = refl
  lens_next (Drop by birth key kind) es = refl
  lens_next (Pin by birth key pinned hit) es = refl
  lens_next (Scan worker walk asked policy visits freed stopped) es = refl
  lens_next (MovedIn child objects) es = refl
  lens_next Closed es = refl
  lens_next (Drained by objects) es = refl

  pub freed_next : (n : ℕ) (e : Entry) (es : List Entry) → freed_tags n (lists_moved took (e ∷ es)) items (e ∷ es) ≡ map (freed_tag n) (freed_by items e) ++ freed_tags (n + 1) (lists_moved (took_after took e) es) (step (moved_by took e) items e) es
  unfolding freed_tags lists_moved
  freed_next n (Add by birth added key value) es = refl
  freed_next n (Look by birth key hit) es = refl
  freed_next n (Drop by birth key kind) es = refl
  freed_next n (Pin by birth key pinned hit) es = refl
  freed_next n (Scan worker walk asked policy visits freed stopped) es = refl
  freed_next n (MovedIn child objects) es = refl
  freed_next n Closed es = refl
  freed_next n (Drained by objects) es = refl

  pub values_next : (n : ℕ) (e : Entry) (es : List Entry) → values_from n (lists_moved took (e ∷ es)) items (e ∷ es) ≡ values_noted n (value_met items e) ++ values_from (n + 1) (lists_moved (took_after took e) es) (step (moved_by took e) items e) es
  unfolding values_from lists_moved
  values_next n (Add by birth added key value) es = refl
  values_next n (Look by birth key hit) es = refl
  values_next n (Drop by birth key kind) es = refl
  values_next n (Pin by birth key pinned hit) es = refl
  values_next n (Scan worker walk asked policy visits freed stopped) es = refl
  values_next n (MovedIn child objects) es = refl
  values_next n Closed es = refl
  values_next n (Drained by objects) es = refl

  pub items_next : (e : Entry) (es : List Entry) → items_from (lists_moved took (e ∷ es)) items (e ∷ es) ≡ items_from (lists_moved (took_after took e) es) (step (moved_by took e) items e) es
  unfolding items_from lists_moved
  items_next (Add by birth added key value) es = refl
  items_next (Look by birth key hit) es = refl
  items_next (Drop by birth key kind) es = refl
  items_next (Pin by birth key pinned hit) es = refl
  items_next (Scan worker walk asked policy visits freed stopped) es = refl
  items_next (MovedIn child objects) es = refl
  items_next Closed es = refl
  items_next (Drained by objects) es = refl

  pub outcomes_next : (e : Entry) (es : List Entry) → AreOutcomes (lists_moved took (e ∷ es)) items (e ∷ es) ↔ (IsOutcome (moved_by took e) items e × AreOutcomes (lists_moved (took_after took e) es) (step (moved_by took e) items e) es)
  unfolding AreOutcomes lists_moved
  outcomes_next (Add by birth added key value) es = (λ x. x, λ x. x)
  outcomes_next (Look by birth key hit) es = (λ x. x, λ x. x)
  outcomes_next (Drop by birth key kind) es = (λ x. x, λ x. x)
  outcomes_next (Pin by birth key pinned hit) es = (λ x. x, λ x. x)
  outcomes_next (Scan worker walk asked policy visits freed stopped) es = (λ x. x, λ x. x)
  outcomes_next (MovedIn child objects) es = (λ x. x, λ x. x)
  outcomes_next Closed es = (λ x. x, λ x. x)
  outcomes_next (Drained by objects) es = (λ x. x, λ x. x)

  pub given_next : (e : Entry) (es : List Entry) → given_from took items (e ∷ es) ≡ (if is_closing e then items else given_from (took_after took e) (step (moved_by took e) items e) es)
  unfolding items_from
  given_next e es = ap (λ (xs : List Entry). items_from (lists_moved took xs) items xs) (take_while-cons (λ x. not (is_closing x)) e es) ∙ by (is_closing e) where
    by : (b : Bool) → items_from (lists_moved took (cond (not b) (e ∷ before_closed es) [])) items (cond (not b) (e ∷ before_closed es) []) ≡ cond b items (given_from (took_after took e) (step (moved_by took e) items e) es)
    by true = refl
    by false = items_next e (before_closed es)

-- of these entries, all but these last ones were replayed, where each child's list gave the first
-- and still gives the second
pub record IsBehind (took : ℕ → List Object) (entries : List Entry) (c : Course) (now : ℕ → List Object) (rest : List Entry) : Type 0 where
  pub lens : lens_from (lists_moved took entries) [] entries ≡ c.lens.items ++ lens_from (lists_moved now rest) c.queue.items rest
  pub freed : freed_tags 0 (lists_moved took entries) [] entries ≡ c.freed.items ++ freed_tags (length c.lens.items) (lists_moved now rest) c.queue.items rest
  pub values : values_from 0 (lists_moved took entries) [] entries ≡ c.values.items ++ values_from (length c.lens.items) (lists_moved now rest) c.queue.items rest
  pub items : items_from (lists_moved took entries) [] entries ≡ items_from (lists_moved now rest) c.queue.items rest
  pub outcomes : AreOutcomes (lists_moved took entries) [] entries ↔ ((c.right ≡ true) × AreOutcomes (lists_moved now rest) c.queue.items rest)
  pub given : given_from took [] entries ≡ (if c.closed then c.aside.items else given_from now c.queue.items rest)

-- before the first entry
pub behind_none : (took : ℕ → List Object) (entries : List Entry) (c : Course) → IsNew c → IsBehind took entries c took entries
behind_none took entries c n = record {
  lens = ap (λ (ls : List ℕ). ls ++ lens_from moved [] entries) (sym n.lens) ∙ ap (λ (os : List Object). c.lens.items ++ lens_from moved os entries) (sym n.items);
  freed = ap (λ (ts : List FreedTag). ts ++ freed_tags 0 moved [] entries) (sym n.freed) ∙ ap (λ (os : List Object). c.freed.items ++ freed_tags 0 moved os entries) (sym n.items)
      ∙ ap (λ (k : ℕ). c.freed.items ++ freed_tags k moved c.queue.items entries) (sym (ap length n.lens));
  values = ap (λ (vs : List FoundValue). vs ++ values_from 0 moved [] entries) (sym n.values) ∙ ap (λ (os : List Object). c.values.items ++ values_from 0 moved os entries) (sym n.items)
      ∙ ap (λ (k : ℕ). c.values.items ++ values_from k moved c.queue.items entries) (sym (ap length n.lens));
  items = ap (λ (os : List Object). items_from moved os entries) (sym n.items);
  outcomes = (λ x. (n.right, subst (λ (os : List Object). AreOutcomes moved os entries) (sym n.items) x), λ x. subst (λ (os : List Object). AreOutcomes moved os entries) n.items x.1);
  given = ap (λ (os : List Object). given_from took os entries) (sym n.items) ∙ ap (λ b. cond b c.aside.items (given_from took c.queue.items entries)) (sym n.«open»);
} where
  moved : List (List Object)
  moved = lists_moved took entries

-- one entry more
module _ (took : ℕ → List Object) (entries : List Entry) (old new : Course) (now : ℕ → List Object) (e : Entry) (es : List Entry) (b : IsBehind took entries old now (e ∷ es)) (a : Advances now old new e) where
  abbrev later : List (List Object)
  later = lists_moved (took_after now e) es

  abbrev stepped : List Object
  stepped = step (moved_by now e) old.queue.items e

  one_lens : lens_from (lists_moved took entries) [] entries ≡ new.lens.items ++ lens_from later new.queue.items es
  one_lens = b.lens ∙ (ap (λ (ls : List ℕ). old.lens.items ++ ls) (lens_next now old.queue.items e es) ∙ (sym (append_assoc old.lens.items (length old.queue.items ∷ []) (lens_from later stepped es))
      ∙ (ap (λ (ls : List ℕ). ls ++ lens_from later stepped es) (sym a.lens) ∙ ap (λ (os : List Object). new.lens.items ++ lens_from later os es) (sym a.items))))

  more : length new.lens.items ≡ length old.lens.items + 1
  more = ap length a.lens ∙ length-append old.lens.items (length old.queue.items ∷ [])

  one_freed : freed_tags 0 (lists_moved took entries) [] entries ≡ new.freed.items ++ freed_tags (length new.lens.items) later new.queue.items es
  one_freed = b.freed ∙ (ap (λ (ts : List FreedTag). old.freed.items ++ ts) (freed_next now old.queue.items (length old.lens.items) e es)
      ∙ (sym (append_assoc old.freed.items (map (freed_tag (length old.lens.items)) (freed_by old.queue.items e)) (freed_tags (length old.lens.items + 1) later stepped es))
      ∙ (ap (λ (ts : List FreedTag). ts ++ freed_tags (length old.lens.items + 1) later stepped es) (sym a.freed)
      ∙ (ap (λ (k : ℕ). new.freed.items ++ freed_tags k later stepped es) (sym more) ∙ ap (λ (os : List Object). new.freed.items ++ freed_tags (length new.lens.items) later os es) (sym a.items)))))

  one_values : values_from 0 (lists_moved took entries) [] entries ≡ new.values.items ++ values_from (length new.lens.items) later new.queue.items es
  one_values = b.values ∙ (ap (λ (vs : List FoundValue). old.values.items ++ vs) (values_next now old.queue.items (length old.lens.items) e es)
      ∙ (sym (append_assoc old.values.items (values_noted (length old.lens.items) (value_met old.queue.items e)) (values_from (length old.lens.items + 1) later stepped es))
      ∙ (ap (λ (vs : List FoundValue). vs ++ values_from (length old.lens.items + 1) later stepped es) (sym a.values)
      ∙ (ap (λ (k : ℕ). new.values.items ++ values_from k later stepped es) (sym more) ∙ ap (λ (os : List Object). new.values.items ++ values_from (length new.lens.items) later os es) (sym a.items)))))

  one_given : given_from took [] entries ≡ (if new.closed then new.aside.items else given_from (took_after now e) new.queue.items es)
  one_given = b.given ∙ by old.closed (is_closing e) refl refl where
    by : (x y : Bool) → old.closed ≡ x → is_closing e ≡ y → cond old.closed old.aside.items (given_from now old.queue.items (e ∷ es)) ≡ cond new.closed new.aside.items (given_from (took_after now e) new.queue.items es)
    by true y was is = let closed : new.closed ≡ true = a.closed ∙ ap (λ b. b || is_closing e) was in
        let same : new.aside.items ≡ old.aside.items = a.aside ∙ ap (λ b. cond b old.aside.items (cond (is_closing e) old.queue.items old.aside.items)) was in rw (was, closed) (sym same)
    by false true was is = let closed : new.closed ≡ true = a.closed ∙ (ap (λ b. b || is_closing e) was ∙ is) in
        let same : new.aside.items ≡ old.queue.items = a.aside ∙ (ap (λ b. cond b old.aside.items (cond (is_closing e) old.queue.items old.aside.items)) was ∙ ap (λ b. cond b old.queue.items old.aside.items) is) in
        let here : given_from now old.queue.items (e ∷ es) ≡ old.queue.items = given_next now old.queue.items e es ∙ ap (λ b. cond b old.queue.items (given_from (took_after now e) stepped es)) is in
        rw (was, closed) (here ∙ sym same)
    by false false was is = let closed : new.closed ≡ false = a.closed ∙ (ap (λ b. b || is_closing e) was ∙ is) in
        let here : given_from now old.queue.items (e ∷ es) ≡ given_from (took_after now e) stepped es = given_next now old.queue.items e es ∙ ap (λ b. cond b old.queue.items (given_from (took_after now e) stepped es)) is in
        rw (was, closed) (here ∙ ap (λ (os : List Object). given_from (took_after now e) os es) (sym a.items))

  pub behind_more : IsBehind took entries new (took_after now e) es
  behind_more = record {
    lens = one_lens;
    freed = one_freed;
    values = one_values;
    items = b.items ∙ (items_next now old.queue.items e es ∙ ap (λ (os : List Object). items_from later os es) (sym a.items));
    outcomes = (
      (λ x. let y = b.outcomes.0 x in let z = (outcomes_next now old.queue.items e es).0 y.1 in (a.right.1 (y.0, z.0), subst (λ (os : List Object). AreOutcomes later os es) (sym a.items) z.1)),
      λ x. let y = a.right.0 x.0 in b.outcomes.1 (y.0, (outcomes_next now old.queue.items e es).1 (y.1, subst (λ (os : List Object). AreOutcomes later os es) a.items x.1)),
    );
    given = one_given;
  }

-- behind the last entry
module _ (took : ℕ → List Object) (entries : List Entry) (c : Course) (now : ℕ → List Object) (b : IsBehind took entries c now []) (printed : List Object) (r : Replayed) (given : List Object) (f : Finishes c printed r given) where
  pub replayed_all : IsReplayed (lists_moved took entries) entries printed r
  unfolding lens_from freed_tags values_from items_from AreOutcomes
  replayed_all = record {
    lens = f.lens ∙ sym b.lens;
    freed = f.freed ∙ sym (b.freed ∙ append-nil c.freed.items);
    values = f.values ∙ sym (b.values ∙ append-nil c.values.items);
    left = f.left ∙ ap (map tag_of) (sym b.items);
    listed = (λ t. f.listed.0 t ∙ sym b.items, λ is. f.listed.1 (is ∙ b.items));
    right = (λ t. b.outcomes.1 (sym f.right ∙ t, tt), λ o. f.right ∙ (b.outcomes.0 o).0);
  }

  pub given_all : given ≡ given_from took [] entries
  unfolding items_from
  given_all = f.given_is ∙ sym b.given
