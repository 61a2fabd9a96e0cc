-- SPDX-License-Identifier: GPL-2.0-only
-- What the journal of the tree says of each group after one entry more, and when it may follow.
use Rattle.shr_audit_charges.proofs.Common.{◌≡◌, ◌≢◌, ℕ, zero, suc, ◌+◌, ◌<◌, ◌≤◌, ◌⊎◌, inl, inr, Bool, true, false, not, ◌&&◌, ◌||◌, cond, List, [], ◌∷◌, ◌++◌, length, get_or, set, take, drop, Option, Some, None, refl, sym, ap, subst, ◌∙◌, arith, ne_eqb, eq-eqb, find, slice_get, cases_eq, take_more, take_all, length-set, length_push, get_or_default, slice_get-get_or, slice_get_within, Begin, Made, IsTree, parent_of, IsTreeJournal, hierarchy, state_of_group, AreGroupStatesOf, IsUndone, ⊎_elim, is_some, is_none, position_from, range_with_len, eqb-true, Done, Hierarchy, is_child, is_later, some_injective}
use Rattle.shr_base.specs.declared.journals.TreeEntry.{TreeEntry}
use Rattle.shr_model.specs.TreeJournal.{is_begin, is_done, is_making, begin_of, done_of, made_of, is_made, is_undone_child, undone_child, MayBegin, MayBeDone, MayBeMade, MayFollow}
use Rattle.shr_model.proofs.GroupsLaws.{child_again, child_takes}
use Rattle.shr_audit_charges.specs.declared.tree.GroupState.{GroupState}
use Rattle.shr_audit_charges.specs.Tree.{entry_group, AreFirstStates, group_state_with, put_group_state, with_tree_entry, HasUndone, MayBeginNow, MayBeDoneNow, MayBeMadeNow, MayStandNow}
use Rattle.shr_audit_charges.proofs.Pushed.{push_each, here_each, split_at, set_own, set_other, none_some}
use Rattle.shr_model.proofs.Booleans.{both_and}
use Rattle.std.proofs.Math.Bool.{or-true, or-false}
use Rattle.shr_model.proofs.Lists.{position_push}
use Rattle.shr_model.proofs.Booleans.{none_unless}

-- ---- the first entry of a kind

found_at : (p : TreeEntry → Bool) (i : ℕ) (es : List TreeEntry) → is_some (position_from p i es) ≡ true → (n : ℕ) × ((e : TreeEntry) × ((slice_get es n ≡ Some e) × (p e ≡ true)))
found_at p i [] t = absurd (let no : false ≡ true = t in cc)
found_at p i (x ∷ xs) t = by_bool (p x) refl t (found_at p (i + 1) xs)
  where
    by_bool : (b : Bool) → p x ≡ b → is_some (cond b (Some i) (position_from p (i + 1) xs)) ≡ true → (is_some (position_from p (i + 1) xs) ≡ true → (n : ℕ) × ((e : TreeEntry) × ((slice_get xs n ≡ Some e) × (p e ≡ true)))) → (n : ℕ) × ((e : TreeEntry) × ((slice_get (x ∷ xs) n ≡ Some e) × (p e ≡ true)))
    by_bool true here t later = (0, (x, (refl, here)))
    by_bool false not t later = let r = later t in (suc r.0, (r.1.0, r.1.1))

of_none : {A : Type 0} (o : Option A) → o ≡ None → is_some o ≡ false
of_none o e = ap is_some e

is_none_not : {A : Type 0} (o : Option A) → is_none o ≡ true → is_some o ≡ false
is_none_not None t = refl
is_none_not (Some x) t = absurd (let no : false ≡ true = t in cc)

not_is_none : {A : Type 0} (o : Option A) → is_some o ≡ false → is_none o ≡ true
not_is_none None f = refl
not_is_none (Some x) f = absurd (let no : true ≡ false = f in cc)

-- ---- one entry more

state_is : (m b d m' b' d' : Bool) → m ≡ m' → b ≡ b' → d ≡ d' → ◌≡◌ {A = GroupState} (record { made = m; begun = b; done = d }) (record { made = m'; begun = b'; done = d' })
state_is m b d m' b' d' e f g = rw (e, f, g) refl

module _ (h : Hierarchy) (es : List TreeEntry) where
  begun_push : (e : TreeEntry) (g : ℕ) → is_some (begin_of (es ++ e ∷ []) g) ≡ (is_some (begin_of es g) || is_begin g e)
  begun_push e g = position_push (is_begin g) 0 es e

  done_push : (e : TreeEntry) (g : ℕ) → is_some (done_of (es ++ e ∷ []) g) ≡ (is_some (done_of es g) || is_done g e)
  done_push e g = position_push (is_done g) 0 es e

  made_push : (e : TreeEntry) (g : ℕ) → is_made h (es ++ e ∷ []) g ≡ (not (is_later h.later g) || (is_some (made_of es g) || is_making g e))
  made_push e g = ap (λ (b : Bool). not (is_later h.later g) || b) (position_push (is_making g) 0 es e)

  begun_not : (e : TreeEntry) (g : ℕ) → is_begin g e ≡ false → is_some (begin_of (es ++ e ∷ []) g) ≡ is_some (begin_of es g)
  begun_not e g f = begun_push e g ∙ ap (λ (b : Bool). is_some (begin_of es g) || b) f ∙ or-false (is_some (begin_of es g))

  done_not : (e : TreeEntry) (g : ℕ) → is_done g e ≡ false → is_some (done_of (es ++ e ∷ []) g) ≡ is_some (done_of es g)
  done_not e g f = done_push e g ∙ ap (λ (b : Bool). is_some (done_of es g) || b) f ∙ or-false (is_some (done_of es g))

  made_not : (e : TreeEntry) (g : ℕ) → is_making g e ≡ false → is_made h (es ++ e ∷ []) g ≡ is_made h es g
  made_not e g f = made_push e g ∙ ap (λ (b : Bool). not (is_later h.later g) || (is_some (made_of es g) || b)) f ∙ ap (λ (b : Bool). not (is_later h.later g) || b) (or-false (is_some (made_of es g)))

  own_state : (e : TreeEntry) → state_of_group h (es ++ e ∷ []) (entry_group e) ≡ group_state_with (state_of_group h es (entry_group e)) e
  own_state (Begin g) = state_is _ _ _ _ _ _ (made_not (Begin g) g refl) (begun_push (Begin g) g ∙ ap (λ (b : Bool). is_some (begin_of es g) || b) (eq-eqb g g refl) ∙ or-true (is_some (begin_of es g))) (done_not (Begin g) g refl)
  own_state (Done g) = state_is _ _ _ _ _ _ (made_not (Done g) g refl) (begun_not (Done g) g refl) (done_push (Done g) g ∙ ap (λ (b : Bool). is_some (done_of es g) || b) (eq-eqb g g refl) ∙ or-true (is_some (done_of es g)))
  own_state (Made g) = state_is _ _ _ _ _ _
      (made_push (Made g) g ∙ ap (λ (b : Bool). not (is_later h.later g) || (is_some (made_of es g) || b)) (eq-eqb g g refl) ∙ ap (λ (b : Bool). not (is_later h.later g) || b) (or-true (is_some (made_of es g))) ∙ or-true (not (is_later h.later g)))
      (begun_not (Made g) g refl) (done_not (Made g) g refl)

  other_state : (e : TreeEntry) (g : ℕ) → entry_group e ≢ g → state_of_group h (es ++ e ∷ []) g ≡ state_of_group h es g
  other_state (Begin k) g ne = state_is _ _ _ _ _ _ (made_not (Begin k) g refl) (begun_not (Begin k) g (ne_eqb k g ne)) (done_not (Begin k) g refl)
  other_state (Done k) g ne = state_is _ _ _ _ _ _ (made_not (Done k) g refl) (begun_not (Done k) g refl) (done_not (Done k) g (ne_eqb k g ne))
  other_state (Made k) g ne = state_is _ _ _ _ _ _ (made_not (Made k) g (ne_eqb k g ne)) (begun_not (Made k) g refl) (done_not (Made k) g refl)

noted_length : (xs : List GroupState) (e : TreeEntry) → length (with_tree_entry xs e) ≡ length xs
noted_length xs e = by_state (slice_get xs (entry_group e))
  where
    by_state : (o : Option GroupState) → length (put_group_state xs e o) ≡ length xs
    by_state None = refl
    by_state (Some x) = length-set xs (entry_group e) (group_state_with x e)

noted_states : (h : Hierarchy) (es : List TreeEntry) (xs : List GroupState) (e : TreeEntry) → AreGroupStatesOf h es xs → AreGroupStatesOf h (es ++ e ∷ []) (with_tree_entry xs e)
noted_states h es xs e are = record { count = noted_length xs e ∙ are.count; each = λ g x at. by_state g x (slice_get xs (entry_group e)) refl at }
  where
    by_group : (g : ℕ) (x y : GroupState) → slice_get xs (entry_group e) ≡ Some y → (g ≡ entry_group e) ⊎ (g ≢ entry_group e) → slice_get (set xs (entry_group e) (group_state_with y e)) g ≡ Some x → x ≡ state_of_group h (es ++ e ∷ []) g
    by_group g x y there (inl own) at =
        let here : slice_get (set xs (entry_group e) (group_state_with y e)) (entry_group e) ≡ Some x = subst (λ (j : ℕ). slice_get (set xs (entry_group e) (group_state_with y e)) j ≡ Some x) own at in
        let x_is : group_state_with y e ≡ x = some_injective (group_state_with y e) x (sym (set_own xs (entry_group e) (group_state_with y e) (slice_get_within xs (entry_group e) y there)) ∙ here) in
        sym x_is ∙ ap (λ (v : GroupState). group_state_with v e) (are.each (entry_group e) y there) ∙ sym (own_state h es e) ∙ ap (state_of_group h (es ++ e ∷ [])) (sym own)
    by_group g x y there (inr other) at = are.each g x (sym (set_other xs (entry_group e) g (group_state_with y e) other) ∙ at) ∙ sym (other_state h es e g (λ same. other (sym same)))

    by_state : (g : ℕ) (x : GroupState) (o : Option GroupState) → slice_get xs (entry_group e) ≡ o → slice_get (put_group_state xs e o) g ≡ Some x → x ≡ state_of_group h (es ++ e ∷ []) g
    by_state g x None none at = are.each g x at ∙ sym (other_state h es e g (λ same. absurd (let here = ap (slice_get xs) same in cc)))
    by_state g x (Some y) there at = by_group g x y there (cases_eq g (entry_group e)) at

at_push : (xs : List GroupState) (y : GroupState) (g : ℕ) (x : GroupState) → slice_get (xs ++ y ∷ []) g ≡ Some x → (slice_get xs g ≡ Some x) ⊎ ((g ≡ length xs) × (y ≡ x))
at_push [] y zero x at = inr (refl, some_injective y x at)
at_push [] y (suc g) x at = absurd (none_some x at)
at_push (z ∷ zs) y zero x at = inl at
at_push (z ∷ zs) y (suc g) x at = elim (at_push zs y g x at) as (λ _. (slice_get zs g ≡ Some x) ⊎ ((suc g ≡ suc (length zs)) × (y ≡ x))) [ inl before ↦ inl before | inr last ↦ inr (ap suc last.0, last.1) ]

-- the states of the first so many groups before any entry
pub record AreFirstTo (later : List Bool) (n : ℕ) (states : List GroupState) : Type 0 where
  pub count : length states ≡ n
  pub each : (group : ℕ) (x : GroupState) → slice_get states group ≡ Some x → x ≡ record { made = not (is_later later group); begun = false; done = false }

pub first_none : (later : List Bool) (xs : List GroupState) → xs ≡ [] → AreFirstTo later 0 xs
first_none later xs e = record { count = ap length e; each = λ g x at. absurd (none_some x (sym (ap (λ (l : List GroupState). slice_get l g) e) ∙ at)) }

pub first_more : (later : List Bool) (i : ℕ) (d : Bool) (xs ys : List GroupState) → i < length later → AreFirstTo later i xs → ys ≡ xs ++ record { made = not (get_or later i d); begun = false; done = false } ∷ [] → AreFirstTo later (i + 1) ys
first_more later i d xs ys lt f is = record {
  count = ap length is ∙ length_push xs (record { made = not (get_or later i d); begun = false; done = false }) ∙ ap (λ (n : ℕ). n + 1) f.count;
  each = λ g x at. elim (at_push xs (record { made = not (get_or later i d); begun = false; done = false }) g x (sym (ap (λ (l : List GroupState). slice_get l g) is) ∙ at)) as (λ _. x ≡ record { made = not (is_later later g); begun = false; done = false }) [
    | inl before ↦ f.each g x before
    | inr last ↦ sym last.1 ∙ state_is _ _ _ _ _ _ (ap not (get_or_default later i d false lt ∙ ap (is_later later) (sym (last.0 ∙ f.count)))) refl refl
  ];
}

pub first_all : (later : List Bool) (i : ℕ) (xs : List GroupState) → length later ≤ i → i ≤ length later → AreFirstTo later i xs → AreFirstStates later xs
first_all later i xs over within f = record { count = (let c = f.count in omega (arith, c, over, within)); each = f.each }

pub first_of : (parents : List ℕ) (later : List Bool) (xs : List GroupState) → length later ≡ length parents → AreFirstStates later xs → IsTreeJournal (hierarchy parents later) [] × AreGroupStatesOf (hierarchy parents later) [] xs
first_of parents later xs same f = (λ n e at. absurd (none_some e at), record { count = f.count ∙ same; each = λ g x at. f.each g x at ∙ state_is _ _ _ _ _ _ (sym (or-false (not (is_later later g)))) refl refl })

-- ---- children that are there and aren't done

find_none : (p : ℕ → Bool) (a n : ℕ) → ((c : ℕ) → a ≤ c → c < a + n → p c ≡ false) → find p (range_with_len a n) ≡ None
find_none p a zero h = refl
find_none p a (suc n) h = ap (λ (b : Bool). cond b (Some a) (find p (range_with_len (a + 1) n))) (h a (omega arith) (omega arith)) ∙ find_none p (a + 1) n (λ c low high. h c (omega (arith, low)) (omega (arith, high)))

find_some : (p : ℕ → Bool) (a n c : ℕ) → a ≤ c → c < a + n → p c ≡ true → find p (range_with_len a n) ≡ None → ⊥
find_some p a zero c low high t none = absurd (omega (arith, low, high))
find_some p a (suc n) c low high t none = by_bool (p a) refl none (λ lt. find_some p (a + 1) n c lt (omega (arith, high)) t)
  where
    by_bool : (b : Bool) → p a ≡ b → cond b (Some a) (find p (range_with_len (a + 1) n)) ≡ None → (a + 1 ≤ c → find p (range_with_len (a + 1) n) ≡ None → ⊥) → ⊥
    by_bool true here none later = none_some a (sym none)
    by_bool false here none later = ⊎_elim (λ same. let f : p c ≡ false = ap p same ∙ here in cc) (λ other. later (over other) none) (cases_eq c a)
      where
        over : c ≢ a → a + 1 ≤ c
        over ne = omega (arith, low, ne)

and_both : (a b c : Bool) → (a && b && c) ≡ true → (a ≡ true) × ((b ≡ true) × (c ≡ true))
and_both true true true e = (refl, (refl, refl))
and_both true true false e = absurd (let no : false ≡ true = e in cc)
and_both true false c e = absurd (let no : false ≡ true = e in cc)
and_both false b c e = absurd (let no : false ≡ true = e in cc)

module _ (parents : List ℕ) (later : List Bool) (es : List TreeEntry) (xs : List GroupState) (are : AreGroupStatesOf (hierarchy parents later) es xs) where
  abbrev h : Hierarchy
  h = hierarchy parents later

  state_at : (g : ℕ) → g < length parents → (x : GroupState) × ((slice_get xs g ≡ Some x) × (x ≡ state_of_group h es g))
  state_at g lt =
      let d : GroupState = record { made = false; begun = false; done = false } in
      let c = are.count in
      let at = slice_get-get_or xs g d (omega (arith, c, lt)) in
      (get_or xs g d, (at, are.each g (get_or xs g d) at))

  there_at : (g : ℕ) (x : GroupState) → slice_get xs g ≡ Some x → g < length parents
  there_at g x at = let lt = slice_get_within xs g x at in let c = are.count in omega (arith, lt, c)

  undone_test : (g child : ℕ) → IsUndone parents xs g child → is_undone_child h es g child ≡ true
  undone_test g child (above, (parent, (x, (at, (made, done))))) =
      let is = are.each child x at in
      both_and (is_child parents g child) (is_made h es child) (is_none (done_of es child))
      (child_again parents g child (record { above = above; there = there_at child x at; parent = parent }))
      (sym (ap (λ (v : GroupState). v.made) is) ∙ made)
      (not_is_none (done_of es child) (sym (ap (λ (v : GroupState). v.done) is) ∙ done))

  test_undone : (g child : ℕ) → is_undone_child h es g child ≡ true → IsUndone parents xs g child
  test_undone g child t =
      let b = and_both (is_child parents g child) (is_made h es child) (is_none (done_of es child)) t in
      let k = child_takes parents g child b.0 in
      let s = state_at child k.there in
      (k.above, (k.parent, (s.0, (s.1.0, (ap (λ (v : GroupState). v.made) s.1.1 ∙ b.1.0, ap (λ (v : GroupState). v.done) s.1.1 ∙ is_none_not (done_of es child) b.1.1)))))

  none_undone : (g : ℕ) → (HasUndone parents xs g → ⊥) → undone_child h es g ≡ None
  none_undone g none = find_none (is_undone_child h es g) 0 (length parents) (λ c low high. by_bool c (is_undone_child h es g c) refl)
    where
      by_bool : (c : ℕ) (b : Bool) → is_undone_child h es g c ≡ b → is_undone_child h es g c ≡ false
      by_bool c true t = absurd (none (c, test_undone g c t))
      by_bool c false f = f

  undone_none : (g : ℕ) → undone_child h es g ≡ None → HasUndone parents xs g → ⊥
  undone_none g none (child, u) = find_some (is_undone_child h es g) 0 (length parents) child (omega arith) (let lt = there_at child u.1.1.0 u.1.1.1.0 in omega (arith, lt)) (undone_test g child u) none

  -- ---- when an entry may follow

  to_begin : (g : ℕ) → MayBeginNow parents xs g → MayBegin h es g
  to_begin g (above, ((x, (at, (made, begun))), none)) =
      let is = are.each g x at in record {
        below = above;
        there = there_at g x at;
        made = sym (ap (λ (v : GroupState). v.made) is) ∙ made;
        once = none_unless (begin_of es g) (sym (ap (λ (v : GroupState). v.begun) is) ∙ begun);
        children = none_undone g none;
      }

  from_begin : (g : ℕ) → MayBegin h es g → MayBeginNow parents xs g
  from_begin g m =
      let s = state_at g m.there in
      (m.below, ((s.0, (s.1.0, (ap (λ (v : GroupState). v.made) s.1.1 ∙ m.made, ap (λ (v : GroupState). v.begun) s.1.1 ∙ of_none (begin_of es g) m.once))), undone_none g m.children))

  to_done : (g : ℕ) → MayBeDoneNow xs g → MayBeDone es g
  to_done g (x, (at, (begun, done))) =
      let is = are.each g x at in record {
        begun = sym (ap (λ (v : GroupState). v.begun) is) ∙ begun;
        once = none_unless (done_of es g) (sym (ap (λ (v : GroupState). v.done) is) ∙ done);
      }

  begun_there : IsTreeJournal h es → (g : ℕ) → is_some (begin_of es g) ≡ true → g < length parents
  begun_there legal g t = let f = found_at (is_begin g) 0 es t in by_entry f.1.0 f.1.1.1 (legal f.0 f.1.0 f.1.1.0)
    where
      by_entry : (e : TreeEntry) → is_begin g e ≡ true → MayFollow h (take (found_at (is_begin g) 0 es t).0 es) e → g < length parents
      by_entry (Begin k) is m = let same = eqb-true k g is in let lt = m.there in omega (arith, same, lt)
      by_entry (Done k) is m = absurd (let no : false ≡ true = is in cc)
      by_entry (Made k) is m = absurd (let no : false ≡ true = is in cc)

  from_done : IsTreeJournal h es → (g : ℕ) → MayBeDone es g → MayBeDoneNow xs g
  from_done legal g m =
      let s = state_at g (begun_there legal g m.begun) in
      (s.0, (s.1.0, (ap (λ (v : GroupState). v.begun) s.1.1 ∙ m.begun, ap (λ (v : GroupState). v.done) s.1.1 ∙ of_none (done_of es g) m.once)))

  to_made : (g : ℕ) → MayBeMadeNow parents later xs g → MayBeMade h es g
  to_made g (late, ((x, (at, made)), (y, (above, (parent, begun))))) =
      let is = are.each g x at in
      let up = are.each (parent_of parents g) y above in record {
        there = there_at g x at;
        late = late;
        once = none_unless (made_of es g) (sym (ap (λ (b : Bool). not b || is_some (made_of es g)) late) ∙ (sym (ap (λ (v : GroupState). v.made) is) ∙ made));
        parent = sym (ap (λ (v : GroupState). v.made) up) ∙ parent;
        online = none_unless (begin_of es (parent_of parents g)) (sym (ap (λ (v : GroupState). v.begun) up) ∙ begun);
      }

  parent_there : IsTree parents → (g : ℕ) → g < length parents → parent_of parents g < length parents
  parent_there tree zero lt = let r = tree.root in omega (arith, r, lt)
  parent_there tree (suc g) lt = let low = tree.lower (suc g) (omega arith) lt in omega (arith, low, lt)

  from_made : IsTree parents → (g : ℕ) → MayBeMade h es g → MayBeMadeNow parents later xs g
  from_made tree g m =
      let s = state_at g m.there in
      let up = state_at (parent_of parents g) (parent_there tree g m.there) in (
        m.late,
        (
          (s.0, (s.1.0, ap (λ (v : GroupState). v.made) s.1.1 ∙ (ap (λ (b : Bool). not b || is_some (made_of es g)) m.late ∙ of_none (made_of es g) m.once))),
          (up.0, (up.1.0, (ap (λ (v : GroupState). v.made) up.1.1 ∙ m.parent, ap (λ (v : GroupState). v.begun) up.1.1 ∙ of_none (begin_of es (parent_of parents g)) m.online))),
        ),
      )

  pub to_follow : (e : TreeEntry) → MayStandNow parents later xs e → MayFollow h es e
  to_follow (Begin g) m = to_begin g m
  to_follow (Done g) m = to_done g m
  to_follow (Made g) m = to_made g m

  pub from_follow : IsTree parents → IsTreeJournal h es → (e : TreeEntry) → MayFollow h es e → MayStandNow parents later xs e
  from_follow tree legal (Begin g) m = from_begin g m
  from_follow tree legal (Done g) m = from_done legal g m
  from_follow tree legal (Made g) m = from_made tree g m

-- ---- the loop

pub one_more : (parents : List ℕ) (later : List Bool) (es : List TreeEntry) (i : ℕ) (d : TreeEntry) (xs ys zs : List GroupState) → i < length es → IsTreeJournal (hierarchy parents later) (take i es) × AreGroupStatesOf (hierarchy parents later) (take i es) xs → ys ≡ xs → MayStandNow parents later ys (get_or es i d) → zs ≡ with_tree_entry xs (get_or es i d)
    → IsTreeJournal (hierarchy parents later) (take (i + 1) es) × AreGroupStatesOf (hierarchy parents later) (take (i + 1) es) zs
one_more parents later es i d xs ys zs lt h same may is =
    let e = get_or es i d in
    let one = take_more es i d lt in
    let follow = to_follow parents later (take i es) xs h.1 e (subst (λ (l : List GroupState). MayStandNow parents later l e) same may) in (
      subst (IsTreeJournal (hierarchy parents later)) (sym one) (push_each (MayFollow (hierarchy parents later)) (take i es) e h.0 follow),
      subst (λ (l : List TreeEntry). AreGroupStatesOf (hierarchy parents later) l zs) (sym one) (subst (λ (l : List GroupState). AreGroupStatesOf (hierarchy parents later) (take i es ++ e ∷ []) l) (sym is) (noted_states (hierarchy parents later) (take i es) xs e h.1)),
    )

pub not_one_more : (parents : List ℕ) (later : List Bool) (es : List TreeEntry) (i : ℕ) (d : TreeEntry) (xs ys : List GroupState) → i < length es → IsTree parents → IsTreeJournal (hierarchy parents later) (take i es) × AreGroupStatesOf (hierarchy parents later) (take i es) xs → ys ≡ xs → (MayStandNow parents later ys (get_or es i d) → ⊥) → IsTreeJournal (hierarchy parents later) es → ⊥
not_one_more parents later es i d xs ys lt tree h same not law =
    let e = get_or es i d in
    let follow = here_each (MayFollow (hierarchy parents later)) (take i es) e (drop (i + 1) es) (subst (IsTreeJournal (hierarchy parents later)) (split_at es i d lt) law) in
    not (subst (λ (l : List GroupState). MayStandNow parents later l e) (sym same) (from_follow parents later (take i es) xs h.1 tree h.0 e follow))

pub whole : (parents : List ℕ) (later : List Bool) (es : List TreeEntry) (i : ℕ) → length es ≤ i → IsTreeJournal (hierarchy parents later) (take i es) → IsTreeJournal (hierarchy parents later) es
whole parents later es i over h = subst (IsTreeJournal (hierarchy parents later)) (take_all i es over) h
