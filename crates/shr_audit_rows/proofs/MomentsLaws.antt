-- SPDX-License-Identifier: GPL-2.0-only
-- When groups were made, and done, one entry of the journal of the tree after another.
use Rattle.shr_audit_rows.proofs.Common.{◌≡◌, ◌⊎◌, ℕ, zero, suc, ◌+◌, ◌<◌, ◌≤◌, Bool, true, false, cond, List, [], ◌∷◌, length, get_or, set, take, replicate, Option, Some, None, refl, sym, ap, subst, ◌∙◌, inl, inr, arith, eq-eqb, ne_eqb, length-set, get_or-set_same, get_or-set_other, ◌&&◌, ◌||◌, ◌==◌, nat_lt, is_some, not, Decides, and_from, get_or-replicate, length-replicate, take_more, eq-or-lt_of_le, dite, ℕ_discrete, Script, is_done, is_making, Report, done_in, group_made_in, find, is_none, done_of, is_made, is_undone_child, made_of, undone_child, script_hierarchy, later_of, parents_of, AreMoments, moment_noted}
use Rattle.std.specs.List.{position_from, range_with_len}
use Rattle.shr_base.specs.declared.journals.TreeEntry.{TreeEntry}
use Rattle.shr_base.specs.declared.journals.TreeEntry.TheVariants.{Begin, Done, Made}
use Rattle.shr_model.specs.Groups.{is_child, is_later}
use Rattle.shr_laws.specs.Causes.{IsInTheWay}
use Rattle.shr_audit_rows.specs.declared.children.Moments.{Moments}
use Rattle.std.proofs.lemmas.Bool.{le-ltb, lt-ltb}
use Rattle.std.proofs.Math.Bool.{or-true, or-false}
use Rattle.shr_model.proofs.Lists.{position_push}

-- ---- tests

-- the group is this one, if there is one
abbrev pub is_it : ℕ → Option ℕ → Bool
is_it g None = false
is_it g (Some h) = h == g

-- ---- what is noted

module _ (total n : ℕ) (ms : List ℕ) where
  noted_count : (o : Option ℕ) → length (moment_noted total n o ms) ≡ length ms
  noted_count None = refl
  noted_count (Some h) = by (nat_lt h (length ms) && (get_or ms h 0 == total))
    where
      by : (b : Bool) → length (cond b (set ms h n) ms) ≡ length ms
      by true = length-set ms h n
      by false = refl

  noted_other : (h g : ℕ) → (g ≡ h → ⊥) → get_or (moment_noted total n (Some h) ms) g 0 ≡ get_or ms g 0
  noted_other h g ne = by (nat_lt h (length ms) && (get_or ms h 0 == total))
    where
      by : (b : Bool) → get_or (cond b (set ms h n) ms) g 0 ≡ get_or ms g 0
      by true = get_or-set_other ms h g n 0 ne
      by false = refl

  noted_free : (g : ℕ) → g < length ms → get_or ms g 0 ≡ total → get_or (moment_noted total n (Some g) ms) g 0 ≡ n
  noted_free g lt free = ap (λ (b : Bool). get_or (cond b (set ms g n) ms) g 0) (and_from (nat_lt g (length ms)) (get_or ms g 0 == total) (lt-ltb g (length ms) lt) (eq-eqb (get_or ms g 0) total free)) ∙ get_or-set_same ms g n 0 lt

  noted_kept : (g : ℕ) → (get_or ms g 0 ≡ total → ⊥) → get_or (moment_noted total n (Some g) ms) g 0 ≡ get_or ms g 0
  noted_kept g ne = ap (λ (b : Bool). get_or (cond b (set ms g n) ms) g 0) (and_false (nat_lt g (length ms)) (get_or ms g 0 == total) (ne_eqb (get_or ms g 0) total ne))
    where
      and_false : (a b : Bool) → b ≡ false → (a && b) ≡ false
      and_false true b e = e
      and_false false b e = refl

-- ---- one entry after another

module _ (p : ℕ → TreeEntry → Bool) (of : TreeEntry → Option ℕ) (same : (g : ℕ) (e : TreeEntry) → p g e ≡ is_it g (of e)) (tree : List TreeEntry) where
  -- the moments after so many entries
  pub record Upto (n : ℕ) (ms : List ℕ) : Type 0 where
    pub each : (g entry : ℕ) → g < length ms → entry ≤ n → is_some (position_from (p g) 0 (take entry tree)) ≡ nat_lt (get_or ms g 0) entry
    pub either : (g : ℕ) → g < length ms → (get_or ms g 0 < n) ⊎ (get_or ms g 0 ≡ length tree)

  pub upto_none : (count : ℕ) (ms : List ℕ) → ms ≡ replicate count (length tree) → Upto 0 ms
  upto_none count ms is = record {
    each = λ g entry lt le. (let zero_is : entry ≡ 0 = omega (arith, le) in subst (λ (k : ℕ). is_some (position_from (p g) 0 (take k tree)) ≡ nat_lt (get_or ms g 0) k) (sym zero_is) (none g tree ∙ sym (le-ltb (get_or ms g 0) 0 (omega arith))));
    either = λ g lt. inr (ap (λ (xs : List ℕ). get_or xs g 0) is ∙ get_or-replicate count g (length tree) 0 (subst (λ (k : ℕ). g < k) (ap length is ∙ length-replicate count (length tree)) lt));
  }
    where
      none : (g : ℕ) (es : List TreeEntry) → is_some (position_from (p g) 0 (take 0 es)) ≡ false
      none g [] = refl
      none g (e ∷ es) = refl

  module _ (n : ℕ) (d : TreeEntry) (ms : List ℕ) (lt : n < length tree) (before : Upto n ms) where
    next : (g : ℕ) → is_some (position_from (p g) 0 (take (n + 1) tree)) ≡ (is_some (position_from (p g) 0 (take n tree)) || is_it g (of (get_or tree n d)))
    next g = ap (λ (es : List TreeEntry). is_some (position_from (p g) 0 es)) (take_more tree n d lt) ∙ position_push (p g) 0 (take n tree) (get_or tree n d)
        ∙ ap (λ (b : Bool). is_some (position_from (p g) 0 (take n tree)) || b) (same g (get_or tree n d))

    -- one group, by its new moment
    module _ (g new : ℕ) (there : g < length ms) where
      at_most : ((entry : ℕ) → entry ≤ n → nat_lt (get_or ms g 0) entry ≡ nat_lt new entry) → (nat_lt (get_or ms g 0) n || is_it g (of (get_or tree n d))) ≡ nat_lt new (n + 1) → (entry : ℕ) → entry ≤ n + 1 → is_some (position_from (p g) 0 (take entry tree)) ≡ nat_lt new entry
      at_most low high entry le = elim (eq-or-lt_of_le le) [
        | inl is ↦ subst (λ (k : ℕ). is_some (position_from (p g) 0 (take k tree)) ≡ nat_lt new k) (sym is)
            (next g ∙ ap (λ (b : Bool). b || is_it g (of (get_or tree n d))) (before.each g n there (omega arith)) ∙ high)
        | inr below ↦ (let few : entry ≤ n = omega (arith, below) in before.each g entry there few ∙ low entry few)
      ]

    new_at : (g : ℕ) (o : Option ℕ) → of (get_or tree n d) ≡ o → g < length ms → ((entry : ℕ) → entry ≤ n + 1 → is_some (position_from (p g) 0 (take entry tree)) ≡ nat_lt (get_or (moment_noted (length tree) n o ms) g 0) entry) × ((get_or (moment_noted (length tree) n o ms) g 0 < n + 1) ⊎ (get_or (moment_noted (length tree) n o ms) g 0 ≡ length tree))
    new_at g o is there = by o is
      where
        -- it stays as it was
        unlike : is_it g (of (get_or tree n d)) ≡ false → (new : ℕ) → new ≡ get_or ms g 0 → ((entry : ℕ) → entry ≤ n + 1 → is_some (position_from (p g) 0 (take entry tree)) ≡ nat_lt new entry) × ((new < n + 1) ⊎ (new ≡ length tree))
        unlike isnt new e = (
          at_most g new there (λ entry le. ap (λ (k : ℕ). nat_lt k entry) (sym e)) (ap (λ (b : Bool). nat_lt (get_or ms g 0) n || b) isnt ∙ or-false (nat_lt (get_or ms g 0) n) ∙ stays),
          elim (before.either g there) [
            | inl early ↦ inl (omega (arith, early, e))
            | inr none ↦ inr (e ∙ none)
          ],
        )
          where
            stays : nat_lt (get_or ms g 0) n ≡ nat_lt new (n + 1)
            stays = elim (before.either g there) [
              | inl early ↦ lt-ltb (get_or ms g 0) n early ∙ sym (lt-ltb new (n + 1) (omega (arith, early, e)))
              | inr none ↦ le-ltb (get_or ms g 0) n (omega (arith, none, lt)) ∙ sym (le-ltb new (n + 1) (omega (arith, none, lt, e)))
            ]

        -- it had none
        free : is_it g (of (get_or tree n d)) ≡ true → get_or ms g 0 ≡ length tree → (new : ℕ) → new ≡ n → ((entry : ℕ) → entry ≤ n + 1 → is_some (position_from (p g) 0 (take entry tree)) ≡ nat_lt new entry) × ((new < n + 1) ⊎ (new ≡ length tree))
        free here none new e = (
          at_most g new there
              (λ entry le. le-ltb (get_or ms g 0) entry (omega (arith, le, none, lt)) ∙ sym (le-ltb new entry (omega (arith, le, e))))
              (ap (λ (b : Bool). nat_lt (get_or ms g 0) n || b) here ∙ or-true (nat_lt (get_or ms g 0) n) ∙ sym (lt-ltb new (n + 1) (omega (arith, e)))),
          inl (omega (arith, e)),
        )

        -- it had one
        had : is_it g (of (get_or tree n d)) ≡ true → get_or ms g 0 < n → (new : ℕ) → new ≡ get_or ms g 0 → ((entry : ℕ) → entry ≤ n + 1 → is_some (position_from (p g) 0 (take entry tree)) ≡ nat_lt new entry) × ((new < n + 1) ⊎ (new ≡ length tree))
        had here early new e = (
          at_most g new there (λ entry le. ap (λ (k : ℕ). nat_lt k entry) (sym e))
              (ap (λ (b : Bool). nat_lt (get_or ms g 0) n || b) here ∙ or-true (nat_lt (get_or ms g 0) n) ∙ sym (lt-ltb new (n + 1) (omega (arith, early, e)))),
          inl (omega (arith, early, e)),
        )

        by : (o : Option ℕ) → of (get_or tree n d) ≡ o → ((entry : ℕ) → entry ≤ n + 1 → is_some (position_from (p g) 0 (take entry tree)) ≡ nat_lt (get_or (moment_noted (length tree) n o ms) g 0) entry) × ((get_or (moment_noted (length tree) n o ms) g 0 < n + 1) ⊎ (get_or (moment_noted (length tree) n o ms) g 0 ≡ length tree))
        by None f = unlike (ap (is_it g) f) (get_or ms g 0) refl
        by (Some h) f = dite (ℕ_discrete g h)
            (λ e. subst (λ (k : ℕ). ((entry : ℕ) → entry ≤ n + 1 → is_some (position_from (p g) 0 (take entry tree)) ≡ nat_lt (get_or (moment_noted (length tree) n (Some k) ms) g 0) entry) × ((get_or (moment_noted (length tree) n (Some k) ms) g 0 < n + 1) ⊎ (get_or (moment_noted (length tree) n (Some k) ms) g 0 ≡ length tree))) e
            (elim (before.either g there) [
              | inl early ↦ had (ap (is_it g) f ∙ eq-eqb h g (sym e)) early (get_or (moment_noted (length tree) n (Some g) ms) g 0) (noted_kept (length tree) n ms g (λ all. (omega (arith, all, early, lt))))
              | inr none ↦ free (ap (is_it g) f ∙ eq-eqb h g (sym e)) none (get_or (moment_noted (length tree) n (Some g) ms) g 0) (noted_free (length tree) n ms g there none)
            ]))
            (λ ne. unlike (ap (is_it g) f ∙ ne_eqb h g (λ e. ne (sym e))) (get_or (moment_noted (length tree) n (Some h) ms) g 0) (noted_other (length tree) n ms h g ne))

    pub upto_next : Upto (n + 1) (moment_noted (length tree) n (of (get_or tree n d)) ms)
    upto_next = record {
      each = λ g entry there le. (new_at g (of (get_or tree n d)) refl (within g there)).0 entry le;
      either = λ g there. (new_at g (of (get_or tree n d)) refl (within g there)).1;
    }
      where
        within : (g : ℕ) → g < length (moment_noted (length tree) n (of (get_or tree n d)) ms) → g < length ms
        within g there = subst (λ (k : ℕ). g < k) (noted_count (length tree) n ms (of (get_or tree n d))) there

    pub upto_count : length (moment_noted (length tree) n (of (get_or tree n d)) ms) ≡ length ms
    upto_count = noted_count (length tree) n ms (of (get_or tree n d))

  -- with what the code has
  pub next_noted : (n total : ℕ) (d : TreeEntry) (ms new : List ℕ) (o : Option ℕ) → n < length tree → total ≡ length tree → o ≡ of (get_or tree n d) → new ≡ moment_noted total n o ms → Upto n ms → Upto (n + 1) new
  next_noted n total d ms new o lt all is e before = subst (Upto (n + 1)) (sym (e ∙ ap (λ (t : ℕ). moment_noted t n o ms) all ∙ ap (λ (x : Option ℕ). moment_noted (length tree) n x ms) is)) (upto_next n d ms lt before)

  pub start_noted : (count total : ℕ) (ms : List ℕ) → total ≡ length tree → ms ≡ replicate count total → Upto 0 ms
  start_noted count total ms all is = upto_none count ms (is ∙ ap (replicate count) all)

pub noted_long : (n total : ℕ) (ms new : List ℕ) (o : Option ℕ) → new ≡ moment_noted total n o ms → length new ≡ length ms
noted_long n total ms new o e = ap length e ∙ noted_count total n ms o

-- ---- both

pub making : (g : ℕ) (e : TreeEntry) → is_making g e ≡ is_it g (group_made_in e)
making g (Begin h) = refl
making g (Done h) = refl
making g (Made h) = refl

pub doing : (g : ℕ) (e : TreeEntry) → is_done g e ≡ is_it g (done_in e)
doing g (Begin h) = refl
doing g (Done h) = refl
doing g (Made h) = refl

-- ---- children

none_not : {X : Type 0} (o : Option X) → is_none o ≡ not (is_some o)
none_not None = refl
none_not (Some x) = refl

-- a child that is made and isn't done after so many entries
abbrev pub undone : Script → Report → ℕ → ℕ → ℕ → Bool
undone s r group entry child = is_undone_child (script_hierarchy s) (take entry r.tree.items) group child

module _ (s : Script) (r : Report) (m : Moments) (moments : AreMoments s r m) (group entry : ℕ) (known : entry ≤ length r.tree.items) where
  pub not_child : (child : ℕ) (b : Bool) → b ≡ is_child m.parents.items group child → b ≡ false → false ≡ is_undone_child (script_hierarchy s) (take entry r.tree.items) group child
  not_child child b is isnt = sym (ap (λ (c : Bool). (c && is_made (script_hierarchy s) (take entry r.tree.items) child) && is_none (done_of (take entry r.tree.items) child))
      (ap (λ (ps : List ℕ). is_child ps group child) (sym moments.parents) ∙ sym is ∙ isnt))

  pub child_is : (child : ℕ) (b later : Bool) → child < length m.parents.items → b ≡ is_child m.parents.items group child → b ≡ true → later ≡ is_later (later_of s) child
      → ((not later || nat_lt (get_or m.made.items child 0) entry) && not (nat_lt (get_or m.done.items child 0) entry)) ≡ is_undone_child (script_hierarchy s) (take entry r.tree.items) group child
  child_is child b later lt is holds late =
      ap (λ (c : Bool). (not c || nat_lt (get_or m.made.items child 0) entry) && not (nat_lt (get_or m.done.items child 0) entry)) late
      ∙ ap (λ (c : Bool). (not (is_later (later_of s) child) || c) && not (nat_lt (get_or m.done.items child 0) entry)) (sym (moments.made child entry (subst (λ (k : ℕ). child < k) (sym moments.made_count) lt) known))
      ∙ ap (λ (c : Bool). is_made (script_hierarchy s) (take entry r.tree.items) child && not c) (sym (moments.done child entry (subst (λ (k : ℕ). child < k) (sym moments.done_count) lt) known))
      ∙ ap (λ (c : Bool). is_made (script_hierarchy s) (take entry r.tree.items) child && c) (sym (none_not (done_of (take entry r.tree.items) child)))
      ∙ sym (ap (λ (c : Bool). (c && is_made (script_hierarchy s) (take entry r.tree.items) child) && is_none (done_of (take entry r.tree.items) child))
      (ap (λ (ps : List ℕ). is_child ps group child) (sym moments.parents) ∙ sym is ∙ holds))

  find_none : (p : ℕ → Bool) (a n : ℕ) → ((c : ℕ) → a ≤ c → c < a + n → p c ≡ false) → find p (range_with_len a n) ≡ None
  find_none p a zero h = refl
  find_none p a (suc n) h = ap (λ (b : Bool). cond b (Some a) (find p (range_with_len (a + 1) n))) (h a (omega arith) (omega arith)) ∙ find_none p (a + 1) n (λ c low high. h c (omega (arith, low)) (omega (arith, high)))

  find_first : (p : ℕ → Bool) (a n c : ℕ) → a ≤ c → c < a + n → p c ≡ true → ((k : ℕ) → a ≤ k → k < c → p k ≡ false) → find p (range_with_len a n) ≡ Some c
  find_first p a zero c low high t none = absurd (omega (arith, low, high))
  find_first p a (suc n) c low high t none = elim (eq-or-lt_of_le low) [
    | inl same ↦ subst (λ (k : ℕ). find p (range_with_len a (suc n)) ≡ Some k) same (ap (λ (b : Bool). cond b (Some a) (find p (range_with_len (a + 1) n))) (subst (λ (k : ℕ). p k ≡ true) (sym same) t))
    | inr below ↦ ap (λ (b : Bool). cond b (Some a) (find p (range_with_len (a + 1) n))) (none a (omega arith) below) ∙ find_first p (a + 1) n c (omega (arith, below)) (omega (arith, high)) t (λ k le lt. none k (omega (arith, le)) lt)
  ]

  pub undone_first : (child : ℕ) → child < length m.parents.items → true ≡ undone s r group entry child → ((k : ℕ) → k < child → undone s r group entry k ≡ false) → Some child ≡ undone_child (script_hierarchy s) (take entry r.tree.items) group
  undone_first child lt is none = sym (find_first (undone s r group entry) 0 (length (parents_of s)) child (omega arith) (subst (λ (k : ℕ). child < 0 + k) (ap length moments.parents) (omega (arith, lt))) (sym is) (λ k le below. none k below))

  pub undone_none : (n : ℕ) → length m.parents.items ≤ n → ((k : ℕ) → k < n → undone s r group entry k ≡ false) → None ≡ undone_child (script_hierarchy s) (take entry r.tree.items) group
  undone_none n over none = sym (find_none (undone s r group entry) 0 (length (parents_of s)) (λ c le lt. none c (let long = ap length moments.parents in omega (arith, lt, over, long))))

  some_same : (a b : ℕ) → ◌≡◌ {A = Option ℕ} (Some a) (Some b) → a ≡ b
  some_same a b e = cc

  pub way_of : (first child : ℕ) (b : Bool) → Some first ≡ undone_child (script_hierarchy s) (take entry r.tree.items) group → Decides b (first ≡ child) → Decides b (IsInTheWay s r group child entry)
  way_of first child b is d = (
    λ t. record { known = known; child_is = sym is ∙ ap (λ (k : ℕ). Some k) (d.0 t) },
    λ h. d.1 (some_same first child (is ∙ h.child_is)),
  )

  pub way_none : (child : ℕ) → None ≡ undone_child (script_hierarchy s) (take entry r.tree.items) group → Decides false (IsInTheWay s r group child entry)
  way_none child is = (λ t. absurd cc, λ h. absurd (no (is ∙ h.child_is)))
    where
      no : ◌≡◌ {A = Option ℕ} None (Some child) → ⊥
      no e = cc

pub way_past : (s : Script) (r : Report) (group child entry : ℕ) → length r.tree.items < entry → Decides false (IsInTheWay s r group child entry)
way_past s r group child entry over = (λ t. absurd cc, λ h. absurd (let le = h.known in omega (arith, le, over)))

-- ---- all of them

pub all_moments : (s : Script) (r : Report) (m : Moments) (tree : List TreeEntry) (n : ℕ) → tree ≡ r.tree.items → m.parents.items ≡ parents_of s → length m.made.items ≡ length m.parents.items → length m.done.items ≡ length m.parents.items
    → n ≡ length tree → Upto is_making group_made_in making tree n m.made.items → Upto is_done done_in doing tree n m.done.items → AreMoments s r m
all_moments s r m tree n is parents a b all made done = record {
  parents = parents;
  made_count = a;
  done_count = b;
  made = λ g entry lt le. subst (λ (t : List TreeEntry). is_some (made_of (take entry t) g) ≡ nat_lt (get_or m.made.items g 0) entry) is (made.each g entry lt (let long = ap length is in omega (arith, le, long, all)));
  done = λ g entry lt le. subst (λ (t : List TreeEntry). is_some (done_of (take entry t) g) ≡ nat_lt (get_or m.done.items g 0) entry) is (done.each g entry lt (let long = ap length is in omega (arith, le, long, all)));
}
