-- SPDX-License-Identifier: GPL-2.0-only
-- Journals of all places, when one of them gains a legal entry: what the others leave stays, and
-- the family stays legal.
use Rattle.shr_model.proofs.Common.{◌≡◌, ◌≢◌, ◌⊎◌, ℕ, zero, suc, ◌+◌, ◌<◌, ◌≤◌, Bool, true, false, not, ◌==◌, ◌||◌, cond, List, [], ◌∷◌, ◌++◌, length, take, slice_get, refl, Some, None, Option, ap, sym, ◌∙◌, subst, arith, inl, inr, ⊎_elim, ne_eqb, take_all, take-append-le, take_while-cons, Object, Place, Entry, Add, Look, Drop, Pin, Scan, MovedIn, Closed, Drained, at_group, IsTree, is_child, first_moved, step, IsOutcome, is_closing, is_closed, Family, moved_in, before_closed, without_child, items_given, lists_moved_at, items_at, items_of, IsAllowed, MayStand, IsLegal}
use Rattle.shr_model.specs.Items.{items_from, AreOutcomes}
use Rattle.shr_model.specs.Families.{lists_moved, items_within}
use Rattle.shr_model.specs.MovedItems.{moved_by}
use Rattle.shr_model.proofs.Members.{Has, Contains_from_Has}
use Rattle.shr_model.proofs.MovesLaws.{same_items_within, cond_agree, items_from_take}
use Rattle.shr_model.proofs.GroupsLaws.{child_takes, child_higher}

-- the lists that are moved in are those of the children that are moved in
lists_same : (took took' : ℕ → List Object) (es : List Entry) → ((c : ℕ) → Has (moved_in es) c → took' c ≡ took c) → lists_moved took' es ≡ lists_moved took es
unfolding lists_moved
lists_same took took' [] h = refl
lists_same took took' (Add by birth added key value ∷ es) h = lists_same took took' es h
lists_same took took' (Look by birth key hit ∷ es) h = lists_same took took' es h
lists_same took took' (Drop by birth key kind ∷ es) h = lists_same took took' es h
lists_same took took' (Pin by birth key pinned hit ∷ es) h = lists_same took took' es h
lists_same took took' (Scan worker walk asked policy visits freed stopped ∷ es) h = lists_same took took' es h
lists_same took took' (MovedIn child objects ∷ es) h =
    let first = h child (inl refl) in
    let more = lists_same (without_child child took) (without_child child took') es (λ c at. ap (λ (x : List Object). cond (c == child) [] x) (h c (inr at))) in
    λ i. first i ∷ more i
lists_same took took' (Closed ∷ es) h = lists_same took took' es h
lists_same took took' (Drained by objects ∷ es) h = lists_same took took' es h

-- the children that a prefix moves in
pub taken_has : (es : List Entry) (n c : ℕ) → Has (moved_in (take n es)) c → Has (moved_in es) c
taken_has es zero c h = absurd h
taken_has [] (suc n) c h = absurd h
taken_has (Add by birth added key value ∷ es) (suc n) c h = taken_has es n c h
taken_has (Look by birth key hit ∷ es) (suc n) c h = taken_has es n c h
taken_has (Drop by birth key kind ∷ es) (suc n) c h = taken_has es n c h
taken_has (Pin by birth key pinned hit ∷ es) (suc n) c h = taken_has es n c h
taken_has (Scan worker walk asked policy visits freed stopped ∷ es) (suc n) c h = taken_has es n c h
taken_has (MovedIn child objects ∷ es) (suc n) c h = ⊎_elim (λ e. inl e) (λ t. inr (taken_has es n c t)) h
taken_has (Closed ∷ es) (suc n) c h = taken_has es n c h
taken_has (Drained by objects ∷ es) (suc n) c h = taken_has es n c h

-- the entries before the Closed, one more
before_cons : (e : Entry) (es : List Entry) → is_closing e ≡ false → before_closed (e ∷ es) ≡ e ∷ before_closed es
before_cons e es no-closing = take_while-cons (λ x. not (is_closing x)) e es ∙ ap (λ (b : Bool). cond (not b) (e ∷ before_closed es) []) no-closing

before_end : (es : List Entry) → before_closed (Closed ∷ es) ≡ []
before_end es = take_while-cons (λ x. not (is_closing x)) Closed es

-- the children that are moved in before a Closed
before_has : (es : List Entry) (c : ℕ) → Has (moved_in (before_closed es)) c → Has (moved_in es) c
before_has [] c h = h
before_has (Add by birth added key value ∷ es) c h = before_has es c (subst (λ (l : List Entry). Has (moved_in l) c) (before_cons (Add by birth added key value) es refl) h)
before_has (Look by birth key hit ∷ es) c h = before_has es c (subst (λ (l : List Entry). Has (moved_in l) c) (before_cons (Look by birth key hit) es refl) h)
before_has (Drop by birth key kind ∷ es) c h = before_has es c (subst (λ (l : List Entry). Has (moved_in l) c) (before_cons (Drop by birth key kind) es refl) h)
before_has (Pin by birth key pinned hit ∷ es) c h = before_has es c (subst (λ (l : List Entry). Has (moved_in l) c) (before_cons (Pin by birth key pinned hit) es refl) h)
before_has (Scan worker walk asked policy visits freed stopped ∷ es) c h = before_has es c (subst (λ (l : List Entry). Has (moved_in l) c) (before_cons (Scan worker walk asked policy visits freed stopped) es refl) h)
before_has (MovedIn child objects ∷ es) c h = ⊎_elim (λ e. inl e) (λ t. inr (before_has es c t)) (subst (λ (l : List Entry). Has (moved_in l) c) (before_cons (MovedIn child objects) es refl) h)
before_has (Closed ∷ es) c h = absurd (subst (λ (l : List Entry). Has (moved_in l) c) (before_end es) h)
before_has (Drained by objects ∷ es) c h = before_has es c (subst (λ (l : List Entry). Has (moved_in l) c) (before_cons (Drained by objects) es refl) h)

-- an open journal has nothing but the entries before its Closed, also once it is closed
pub before_open : (es : List Entry) → is_closed es ≡ false → before_closed (es ++ Closed ∷ []) ≡ before_closed es
before_open [] h = before_end []
before_open (Add by birth added key value ∷ es) h = let e = Add by birth added key value in before_cons e (es ++ Closed ∷ []) refl ∙ (ap (λ (l : List Entry). e ∷ l) (before_open es h) ∙ sym (before_cons e es refl))
before_open (Look by birth key hit ∷ es) h = let e = Look by birth key hit in before_cons e (es ++ Closed ∷ []) refl ∙ (ap (λ (l : List Entry). e ∷ l) (before_open es h) ∙ sym (before_cons e es refl))
before_open (Drop by birth key kind ∷ es) h = let e = Drop by birth key kind in before_cons e (es ++ Closed ∷ []) refl ∙ (ap (λ (l : List Entry). e ∷ l) (before_open es h) ∙ sym (before_cons e es refl))
before_open (Pin by birth key pinned hit ∷ es) h = let e = Pin by birth key pinned hit in before_cons e (es ++ Closed ∷ []) refl ∙ (ap (λ (l : List Entry). e ∷ l) (before_open es h) ∙ sym (before_cons e es refl))
before_open (Scan worker walk asked policy visits freed stopped ∷ es) h = let e = Scan worker walk asked policy visits freed stopped in before_cons e (es ++ Closed ∷ []) refl ∙ (ap (λ (l : List Entry). e ∷ l) (before_open es h) ∙ sym (before_cons e es refl))
before_open (MovedIn child objects ∷ es) h = let e = MovedIn child objects in before_cons e (es ++ Closed ∷ []) refl ∙ (ap (λ (l : List Entry). e ∷ l) (before_open es h) ∙ sym (before_cons e es refl))
before_open (Closed ∷ es) h = absurd (true_false h) where
  true_false : true ≡ false → ⊥
  true_false e = cc
before_open (Drained by objects ∷ es) h = let e = Drained by objects in before_cons e (es ++ Closed ∷ []) refl ∙ (ap (λ (l : List Entry). e ∷ l) (before_open es h) ∙ sym (before_cons e es refl))

-- what is left of places with groups from a bound on, where those journals stay
above_same : (parents : List ℕ) → IsTree parents → (f f' : Family) (p : Place) (low : ℕ) → ((g : ℕ) → low ≤ g → f' (at_group p g) ≡ f (at_group p g))
    → (levels g : ℕ) (es : List Entry) → low ≤ g → items_within levels parents f' (at_group p g) es ≡ items_within levels parents f (at_group p g) es
unfolding items_within
above_same parents tree f f' p low same zero g es high = refl
above_same parents tree f f' p low same (suc levels) g es high =
    ap (λ (ls : List (List Object)). items_from ls [] es) (lists_same
    (λ c. cond (is_child parents g c) (items_within levels parents f (at_group p c) (before_closed (f (at_group p c)))) [])
    (λ c. cond (is_child parents g c) (items_within levels parents f' (at_group p c) (before_closed (f' (at_group p c)))) []) es
    (λ c at. cond_agree (is_child parents g c) (items_within levels parents f' (at_group p c) (before_closed (f' (at_group p c)))) (items_within levels parents f (at_group p c) (before_closed (f (at_group p c)))) []
    (λ is. let up = child_higher parents g c tree (child_takes parents g c is) in ap (λ (l : List Entry). items_within levels parents f' (at_group p c) (before_closed l)) (same c (omega arith)) ∙ above_same parents tree f f' p low same levels c (before_closed (f (at_group p c))) (omega arith))))

-- the lists of children that were moved in give the same
Fixed : List ℕ → Family → Family → Place → Type 0
Fixed parents f f' p = (g c : ℕ) → is_child parents g c ≡ true → Has (moved_in (f (at_group p g))) c → before_closed (f' (at_group p c)) ≡ before_closed (f (at_group p c))

within_same : (parents : List ℕ) (f f' : Family) (p : Place) → ((g c : ℕ) → is_child parents g c ≡ true → Has (moved_in (f (at_group p g))) c → before_closed (f' (at_group p c)) ≡ before_closed (f (at_group p c)))
    → (levels g : ℕ) (es : List Entry) → ((c : ℕ) → Has (moved_in es) c → Has (moved_in (f (at_group p g))) c) → items_within levels parents f' (at_group p g) es ≡ items_within levels parents f (at_group p g) es
unfolding items_within
within_same parents f f' p fixed zero g es sub = refl
within_same parents f f' p fixed (suc levels) g es sub =
    ap (λ (ls : List (List Object)). items_from ls [] es) (lists_same
    (λ c. cond (is_child parents g c) (items_within levels parents f (at_group p c) (before_closed (f (at_group p c)))) [])
    (λ c. cond (is_child parents g c) (items_within levels parents f' (at_group p c) (before_closed (f' (at_group p c)))) []) es
    (λ c at. cond_agree (is_child parents g c) (items_within levels parents f' (at_group p c) (before_closed (f' (at_group p c)))) (items_within levels parents f (at_group p c) (before_closed (f (at_group p c)))) []
    (λ is. ap (λ (l : List Entry). items_within levels parents f' (at_group p c) l) (fixed g c is (sub c at)) ∙ within_same parents f f' p fixed levels c (before_closed (f (at_group p c))) (before_has (f (at_group p c))))))

module _ (parents : List ℕ) (f f' : Family) (p : Place) (fixed : (g c : ℕ) → is_child parents g c ≡ true → Has (moved_in (f (at_group p g))) c → before_closed (f' (at_group p c)) ≡ before_closed (f (at_group p c))) where
  -- what a child that was moved in gives
  given_same : (g c : ℕ) → Has (moved_in (f (at_group p g))) c → items_given parents f' (at_group p g) c ≡ items_given parents f (at_group p g) c
  given_same g c at = cond_agree (is_child parents g c) (items_within (length parents) parents f' (at_group p c) (before_closed (f' (at_group p c)))) (items_within (length parents) parents f (at_group p c) (before_closed (f (at_group p c)))) []
      (λ is. ap (λ (l : List Entry). items_within (length parents) parents f' (at_group p c) l) (fixed g c is at) ∙ within_same parents f f' p fixed (length parents) c (before_closed (f (at_group p c))) (before_has (f (at_group p c))))

  -- what the first entries of a journal leave stays
  pub items_stay : (g n : ℕ) (more : List Entry) → f' (at_group p g) ≡ f (at_group p g) ++ more → n ≤ length (f (at_group p g)) → items_at parents f' (at_group p g) n ≡ items_at parents f (at_group p g) n
  items_stay g n more grows below = let es : List Entry = f (at_group p g) in let es' : List Entry = f' (at_group p g) in let took = items_given parents f (at_group p g) in let took' = items_given parents f' (at_group p g) in
      let front : take n es' ≡ take n es = ap (take n) grows ∙ take-append-le n es more below in
      items_from_take took' [] es' n ∙ (ap (λ (l : List Entry). items_from (lists_moved took' l) [] l) front
      ∙ (ap (λ (ls : List (List Object)). items_from ls [] (take n es)) (lists_same took took' (take n es) (λ c at. given_same g c (taken_has es n c at))) ∙ sym (items_from_take took [] es n)))

  -- a legal journal that does not change stays legal
  pub legal_stays : (g : ℕ) → f' (at_group p g) ≡ f (at_group p g) → IsLegal parents f (at_group p g) → IsLegal parents f' (at_group p g)
  legal_stays g same o = let es : List Entry = f (at_group p g) in let took = items_given parents f (at_group p g) in let took' = items_given parents f' (at_group p g) in record {
    there = subst (λ (l : List Entry). 0 < length l → g < length parents) (sym same) o.there;
    stands = subst (λ (l : List Entry). (n : ℕ) (e : Entry) → slice_get l n ≡ Some e → MayStand parents g (take n l) e) (sym same) o.stands;
    outcomes = subst (λ (l : List Entry). AreOutcomes (lists_moved took' l) [] l) (sym same) (subst (λ (ls : List (List Object)). AreOutcomes ls [] es) (sym (lists_same took took' es (λ c at. given_same g c at))) o.outcomes);
  }

-- ---- the place that gains the entry

-- a child that the entry moves in was not moved in before
IsNew : List Entry → Entry → Type 0
IsNew es e = (c objects : ℕ) → e ≡ MovedIn c objects → Has (moved_in es) c → ⊥

moved_else : (took : ℕ → List Object) (child : ℕ) (e : Entry) → ((c objects : ℕ) → e ≡ MovedIn c objects → c ≢ child) → moved_by (without_child child took) e ≡ moved_by took e
moved_else took child (Add by birth added key value) ne = refl
moved_else took child (Look by birth key hit) ne = refl
moved_else took child (Drop by birth key kind) ne = refl
moved_else took child (Pin by birth key pinned hit) ne = refl
moved_else took child (Scan worker walk asked policy visits freed stopped) ne = refl
moved_else took child (MovedIn c objects) ne = ap (λ (b : Bool). cond b [] (took c)) (ne_eqb c child (ne c objects refl))
moved_else took child Closed ne = refl
moved_else took child (Drained by objects) ne = refl

-- what a journal of one entry moves
one_moved : (took : ℕ → List Object) (xs : List Object) (e : Entry) → step (first_moved (lists_moved took (e ∷ []))) xs e ≡ step (moved_by took e) xs e
unfolding lists_moved
one_moved took xs (Add by birth added key value) = refl
one_moved took xs (Look by birth key hit) = refl
one_moved took xs (Drop by birth key kind) = refl
one_moved took xs (Pin by birth key pinned hit) = refl
one_moved took xs (Scan worker walk asked policy visits freed stopped) = refl
one_moved took xs (MovedIn c objects) = refl
one_moved took xs Closed = refl
one_moved took xs (Drained by objects) = refl

one_outcome : (took : ℕ → List Object) (xs : List Object) (e : Entry) → IsOutcome (moved_by took e) xs e → IsOutcome (first_moved (lists_moved took (e ∷ []))) xs e
unfolding lists_moved
one_outcome took xs (Add by birth added key value) o = o
one_outcome took xs (Look by birth key hit) o = o
one_outcome took xs (Drop by birth key kind) o = o
one_outcome took xs (Pin by birth key pinned hit) o = o
one_outcome took xs (Scan worker walk asked policy visits freed stopped) o = o
one_outcome took xs (MovedIn c objects) o = o
one_outcome took xs Closed o = o
one_outcome took xs (Drained by objects) o = o

-- the items after one entry more
items_next : (took : ℕ → List Object) (xs : List Object) (es : List Entry) (e : Entry) → ((c objects : ℕ) → e ≡ MovedIn c objects → Has (moved_in es) c → ⊥)
    → items_from (lists_moved took (es ++ e ∷ [])) xs (es ++ e ∷ []) ≡ step (moved_by took e) (items_from (lists_moved took es) xs es) e
unfolding items_from lists_moved
items_next took xs [] e new = one_moved took xs e
items_next took xs (Add by birth added key value ∷ es) e new = items_next took (step [] xs (Add by birth added key value)) es e new
items_next took xs (Look by birth key hit ∷ es) e new = items_next took (step [] xs (Look by birth key hit)) es e new
items_next took xs (Drop by birth key kind ∷ es) e new = items_next took (step [] xs (Drop by birth key kind)) es e new
items_next took xs (Pin by birth key pinned hit ∷ es) e new = items_next took (step [] xs (Pin by birth key pinned hit)) es e new
items_next took xs (Scan worker walk asked policy visits freed stopped ∷ es) e new = items_next took (step [] xs (Scan worker walk asked policy visits freed stopped)) es e new
items_next took xs (MovedIn child objects ∷ es) e new = items_next (without_child child took) (took child ++ xs) es e (λ c os is at. new c os is (inr at))
    ∙ ap (λ (m : List Object). step m (items_from (lists_moved (without_child child took) es) (took child ++ xs) es) e) (moved_else took child e (λ c os is same. new c os is (inl (sym same))))
items_next took xs (Closed ∷ es) e new = items_next took [] es e new
items_next took xs (Drained by objects ∷ es) e new = items_next took [] es e new

outcomes_next : (took : ℕ → List Object) (xs : List Object) (es : List Entry) (e : Entry) → ((c objects : ℕ) → e ≡ MovedIn c objects → Has (moved_in es) c → ⊥)
    → AreOutcomes (lists_moved took es) xs es → IsOutcome (moved_by took e) (items_from (lists_moved took es) xs es) e → AreOutcomes (lists_moved took (es ++ e ∷ [])) xs (es ++ e ∷ [])
unfolding items_from lists_moved AreOutcomes
outcomes_next took xs [] e new o one = (one_outcome took xs e one, tt)
outcomes_next took xs (Add by birth added key value ∷ es) e new o one = (o.0, outcomes_next took (step [] xs (Add by birth added key value)) es e new o.1 one)
outcomes_next took xs (Look by birth key hit ∷ es) e new o one = (o.0, outcomes_next took (step [] xs (Look by birth key hit)) es e new o.1 one)
outcomes_next took xs (Drop by birth key kind ∷ es) e new o one = (o.0, outcomes_next took (step [] xs (Drop by birth key kind)) es e new o.1 one)
outcomes_next took xs (Pin by birth key pinned hit ∷ es) e new o one = (o.0, outcomes_next took (step [] xs (Pin by birth key pinned hit)) es e new o.1 one)
outcomes_next took xs (Scan worker walk asked policy visits freed stopped ∷ es) e new o one = (o.0, outcomes_next took (step [] xs (Scan worker walk asked policy visits freed stopped)) es e new o.1 one)
outcomes_next took xs (MovedIn child objects ∷ es) e new o one = (
  o.0,
  outcomes_next (without_child child took) (took child ++ xs) es e (λ c os is at. new c os is (inr at)) o.1
      (subst (λ (m : List Object). IsOutcome m (items_from (lists_moved (without_child child took) es) (took child ++ xs) es) e) (sym (moved_else took child e (λ c os is same. new c os is (inl (sym same))))) one),
)
outcomes_next took xs (Closed ∷ es) e new o one = (o.0, outcomes_next took [] es e new o.1 one)
outcomes_next took xs (Drained by objects ∷ es) e new o one = (o.0, outcomes_next took [] es e new o.1 one)

-- where an entry more stands
get_push : (es : List Entry) (e x : Entry) (n : ℕ) → slice_get (es ++ e ∷ []) n ≡ Some x → ((n < length es) × (slice_get es n ≡ Some x)) ⊎ ((n ≡ length es) × (e ≡ x))
get_push [] e x zero h = inr (refl, ap value h) where
  value : Option Entry → Entry
  value None = e
  value (Some y) = y
get_push [] e x (suc n) h = absurd (none_some h) where
  is_none : Option Entry → Type 0
  is_none None = Unit {0}
  is_none (Some y) = ⊥

  none_some : None ≡ Some x → ⊥
  none_some h = subst is_none h tt
get_push (y ∷ es) e x zero h = inl (omega arith, h)
get_push (y ∷ es) e x (suc n) h = ⊎_elim (λ t. inl (omega (arith, t.0), t.1)) (λ t. inr (ap suc t.0, t.1)) (get_push es e x n h)

-- an open journal is what stands before its Closed
pub before_all : (es : List Entry) → is_closed es ≡ false → before_closed es ≡ es
before_all [] h = refl
before_all (Add by birth added key value ∷ es) h = let e = Add by birth added key value in before_cons e es refl ∙ ap (λ (l : List Entry). e ∷ l) (before_all es h)
before_all (Look by birth key hit ∷ es) h = let e = Look by birth key hit in before_cons e es refl ∙ ap (λ (l : List Entry). e ∷ l) (before_all es h)
before_all (Drop by birth key kind ∷ es) h = let e = Drop by birth key kind in before_cons e es refl ∙ ap (λ (l : List Entry). e ∷ l) (before_all es h)
before_all (Pin by birth key pinned hit ∷ es) h = let e = Pin by birth key pinned hit in before_cons e es refl ∙ ap (λ (l : List Entry). e ∷ l) (before_all es h)
before_all (Scan worker walk asked policy visits freed stopped ∷ es) h = let e = Scan worker walk asked policy visits freed stopped in before_cons e es refl ∙ ap (λ (l : List Entry). e ∷ l) (before_all es h)
before_all (MovedIn child objects ∷ es) h = let e = MovedIn child objects in before_cons e es refl ∙ ap (λ (l : List Entry). e ∷ l) (before_all es h)
before_all (Closed ∷ es) h = absurd (true_not h) where
  true_not : true ≡ false → ⊥
  true_not e = cc
before_all (Drained by objects ∷ es) h = let e = Drained by objects in before_cons e es refl ∙ ap (λ (l : List Entry). e ∷ l) (before_all es h)

-- the children that are moved in with one entry more
pub push_has : (es : List Entry) (e : Entry) (c : ℕ) → Has (moved_in (es ++ e ∷ [])) c → Has (moved_in es) c ⊎ ((objects : ℕ) × (e ≡ MovedIn c objects))
push_has [] (Add by birth added key value) c h = absurd h
push_has [] (Look by birth key hit) c h = absurd h
push_has [] (Drop by birth key kind) c h = absurd h
push_has [] (Pin by birth key pinned hit) c h = absurd h
push_has [] (Scan worker walk asked policy visits freed stopped) c h = absurd h
push_has [] (MovedIn child objects) c h = ⊎_elim (λ e. inr (objects, ap (λ (x : ℕ). MovedIn x objects) e)) (λ t. absurd t) h
push_has [] Closed c h = absurd h
push_has [] (Drained by objects) c h = absurd h
push_has (Add by birth added key value ∷ es) e c h = push_has es e c h
push_has (Look by birth key hit ∷ es) e c h = push_has es e c h
push_has (Drop by birth key kind ∷ es) e c h = push_has es e c h
push_has (Pin by birth key pinned hit ∷ es) e c h = push_has es e c h
push_has (Scan worker walk asked policy visits freed stopped ∷ es) e c h = push_has es e c h
push_has (MovedIn child objects ∷ es) e c h = ⊎_elim (λ q. inl (inl q)) (λ t. ⊎_elim (λ x. inl (inr x)) (λ x. inr x) (push_has es e c t)) h
push_has (Closed ∷ es) e c h = push_has es e c h
push_has (Drained by objects ∷ es) e c h = push_has es e c h

-- those of before are still there
pub has_push : (es : List Entry) (e : Entry) (c : ℕ) → Has (moved_in es) c → Has (moved_in (es ++ e ∷ [])) c
has_push [] e c h = absurd h
has_push (Add by birth added key value ∷ es) e c h = has_push es e c h
has_push (Look by birth key hit ∷ es) e c h = has_push es e c h
has_push (Drop by birth key kind ∷ es) e c h = has_push es e c h
has_push (Pin by birth key pinned hit ∷ es) e c h = has_push es e c h
has_push (Scan worker walk asked policy visits freed stopped ∷ es) e c h = has_push es e c h
has_push (MovedIn child objects ∷ es) e c h = ⊎_elim (λ q. inl q) (λ t. inr (has_push es e c t)) h
has_push (Closed ∷ es) e c h = has_push es e c h
has_push (Drained by objects ∷ es) e c h = has_push es e c h

-- and the one of the entry
pub has_pushed : (es : List Entry) (c objects : ℕ) → Has (moved_in (es ++ MovedIn c objects ∷ [])) c
has_pushed [] c objects = inl refl
has_pushed (Add by birth added key value ∷ es) c objects = has_pushed es c objects
has_pushed (Look by birth key hit ∷ es) c objects = has_pushed es c objects
has_pushed (Drop by birth key kind ∷ es) c objects = has_pushed es c objects
has_pushed (Pin by birth key pinned hit ∷ es) c objects = has_pushed es c objects
has_pushed (Scan worker walk asked policy visits freed stopped ∷ es) c objects = has_pushed es c objects
has_pushed (MovedIn child os ∷ es) c objects = inr (has_pushed es c objects)
has_pushed (Closed ∷ es) c objects = has_pushed es c objects
has_pushed (Drained by os ∷ es) c objects = has_pushed es c objects

-- a journal with one entry more is closed where it was or the entry closes it
pub closed_push : (es : List Entry) (e : Entry) → is_closed es ≡ false → is_closed (es ++ e ∷ []) ≡ is_closing e
closed_push [] e h = or_false (is_closing e) where
  or_false : (b : Bool) → (b || false) ≡ b
  or_false true = refl
  or_false false = refl
closed_push (Add by birth added key value ∷ es) e h = closed_push es e h
closed_push (Look by birth key hit ∷ es) e h = closed_push es e h
closed_push (Drop by birth key kind ∷ es) e h = closed_push es e h
closed_push (Pin by birth key pinned hit ∷ es) e h = closed_push es e h
closed_push (Scan worker walk asked policy visits freed stopped ∷ es) e h = closed_push es e h
closed_push (MovedIn child objects ∷ es) e h = closed_push es e h
closed_push (Closed ∷ es) e h = absurd (true_not h) where
  true_not : true ≡ false → ⊥
  true_not e = cc
closed_push (Drained by objects ∷ es) e h = closed_push es e h

module _ (parents : List ℕ) (tree : IsTree parents) (f f' : Family) (p : Place) (g : ℕ) (e : Entry)
    (fixed : (g c : ℕ) → is_child parents g c ≡ true → Has (moved_in (f (at_group p g))) c → before_closed (f' (at_group p c)) ≡ before_closed (f (at_group p c)))
    (above : (c : ℕ) → g < c → f' (at_group p c) ≡ f (at_group p c)) (grows : f' (at_group p g) ≡ f (at_group p g) ++ e ∷ []) (stands : MayStand parents g (f (at_group p g)) e) where
  -- a child that the entry moves in is new
  is_new : (c objects : ℕ) → e ≡ MovedIn c objects → Has (moved_in (f (at_group p g))) c → ⊥
  is_new c objects is at = (subst (IsAllowed parents g (f (at_group p g))) is stands.allowed).1 (Contains_from_Has (moved_in (f (at_group p g))) c at)

  -- a child with a higher group gives the same
  given_above : (c : ℕ) → items_given parents f' (at_group p g) c ≡ items_given parents f (at_group p g) c
  given_above c = cond_agree (is_child parents g c) (items_within (length parents) parents f' (at_group p c) (before_closed (f' (at_group p c)))) (items_within (length parents) parents f (at_group p c) (before_closed (f (at_group p c)))) []
      (λ is. let up = child_higher parents g c tree (child_takes parents g c is) in ap (λ (l : List Entry). items_within (length parents) parents f' (at_group p c) (before_closed l)) (above c up)
      ∙ above_same parents tree f f' p (g + 1) (λ x high. above x (omega (arith, high))) (length parents) c (before_closed (f (at_group p c))) (omega (arith, up)))

  lists_next : lists_moved_at parents f' (at_group p g) ≡ lists_moved (items_given parents f (at_group p g)) (f (at_group p g) ++ e ∷ [])
  lists_next = ap (lists_moved (items_given parents f' (at_group p g))) grows ∙ lists_same (items_given parents f (at_group p g)) (items_given parents f' (at_group p g)) (f (at_group p g) ++ e ∷ []) (λ c at. given_above c)

  -- what the place has after the entry
  pub items_after : items_of parents f' (at_group p g) ≡ step (moved_by (items_given parents f (at_group p g)) e) (items_of parents f (at_group p g)) e
  items_after = let es : List Entry = f (at_group p g) in let took = items_given parents f (at_group p g) in
      ap (λ (ls : List (List Object)). items_from ls [] (f' (at_group p g))) lists_next ∙ (ap (λ (l : List Entry). items_from (lists_moved took (es ++ e ∷ [])) [] l) grows ∙ items_next took [] es e is_new)

  -- the journal stays legal
  pub legal_after : g < length parents → IsOutcome (moved_by (items_given parents f (at_group p g)) e) (items_of parents f (at_group p g)) e → IsLegal parents f (at_group p g) → IsLegal parents f' (at_group p g)
  legal_after there one o = let es : List Entry = f (at_group p g) in let took = items_given parents f (at_group p g) in record {
    there = λ _. there;
    stands = subst (λ (l : List Entry). (n : ℕ) (x : Entry) → slice_get l n ≡ Some x → MayStand parents g (take n l) x) (sym grows)
        (λ n x at. ⊎_elim
        (λ t. subst (λ (l : List Entry). MayStand parents g l x) (sym (take-append-le n es (e ∷ []) (omega (arith, t.0)))) (o.stands n x t.1))
        (λ t. subst (λ (y : Entry). MayStand parents g (take n (es ++ e ∷ [])) y) t.1 (subst (λ (l : List Entry). MayStand parents g l e) (sym (take-append-le n es (e ∷ []) (omega (arith, t.0)) ∙ take_all n es (omega (arith, t.0)))) stands))
        (get_push es e x n at));
    outcomes = subst (λ (l : List Entry). AreOutcomes (lists_moved_at parents f' (at_group p g)) [] l) (sym grows) (subst (λ (ls : List (List Object)). AreOutcomes ls [] (es ++ e ∷ [])) (sym lists_next) (outcomes_next took [] es e is_new o.outcomes one));
  }

-- what an open child gives is what it has
pub given_open : (parents : List ℕ) → IsTree parents → (f : Family) (p : Place) (g c : ℕ) → is_child parents g c ≡ true → is_closed (f (at_group p c)) ≡ false → items_given parents f (at_group p g) c ≡ items_of parents f (at_group p c)
unfolding items_within
given_open parents tree f p g c is opened = let child = child_takes parents g c is in let es : List Entry = f (at_group p c) in
    ap (λ (b : Bool). cond b (items_within (length parents) parents f (at_group p c) (before_closed es)) []) is ∙ (ap (items_within (length parents) parents f (at_group p c)) (before_all es opened)
    ∙ same_items_within parents tree f (length parents) (suc (length parents)) (at_group p c) es (omega arith) (omega arith) child.there)

-- an empty journal is legal, and leaves nothing
pub legal_none : (parents : List ℕ) (f : Family) (p : Place) → f p ≡ [] → IsLegal parents f p
unfolding AreOutcomes
legal_none parents f p none = record {
  there = λ above. absurd (let long = ap (λ (l : List Entry). length l) none in omega (arith, above, long));
  stands = subst (λ (l : List Entry). (n : ℕ) (e : Entry) → slice_get l n ≡ Some e → MayStand parents p.group (take n l) e) (sym none) (λ n e h. absurd (none_some n e h));
  outcomes = subst (AreOutcomes (lists_moved_at parents f p) []) (sym none) tt;
} where
  is_none : Option Entry → Type 0
  is_none None = Unit {0}
  is_none (Some y) = ⊥

  none_some : (n : ℕ) (e : Entry) → slice_get [] n ≡ Some e → ⊥
  none_some zero e h = subst is_none h tt
  none_some (suc n) e h = subst is_none h tt

-- a place whose journal is empty has no items, however deep its group's children are counted
pub items_none : (parents : List ℕ) (f : Family) (p : Place) (n : ℕ) → f p ≡ [] → items_at parents f p n ≡ []
unfolding items_from
items_none parents f p n none = ap (λ (l : List Entry). items_from (lists_moved_at parents f p) [] (take n l)) none ∙ nothing (lists_moved_at parents f p) n where
  nothing : (ls : List (List Object)) (n : ℕ) → items_from ls [] (take n []) ≡ []
  nothing ls zero = refl
  nothing ls (suc n) = refl
