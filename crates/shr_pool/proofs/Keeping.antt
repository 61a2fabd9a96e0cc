-- SPDX-License-Identifier: GPL-2.0-only
-- Each push, pop, split and join keeps the rule.
use Rattle.shr_pool.proofs.Common.{◌≡◌, ℕ, zero, suc, ◌+◌, ◌<◌, ◌≤◌, false, cond, List, [], ◌∷◌, ◌++◌, map, sym, refl, ap, subst, ◌∙◌, ⊎_elim, arith, sum_by, ◌&&◌, some, some-injective, some-ne-none, get_elem?, Each, total, IsWhole, total-append, SweepItem, Walk, End, PassView, ends, is_end, most_helpers, IsPopped, IsFaced, IsQueueShown, IsQueued, first_pass_view, new_pass_view, with_push, with_pop, split_pass_view, joined_pass_view, marks_for, ◌≢◌, Bool, true, set, append_assoc, not, Standing, at_first, at_split, at_end, is_out, AreSeats, pass_standing_in, spent_pass_view}
use Rattle.std.proofs.lemmas.Bool.{cases_Bool}
use Rattle.std.proofs.lemmas.List.{map-set, append-nil}
use Rattle.atomic_table.proofs.Lists.{at_map, at_set, set_again, set_else}
use Rattle.crossbeam_queue.specs.Fifo.{Pushes, Pops, Forks, Merges, Learns}
use Rattle.shr_seats.proofs.Changed.{grown, joined_list}
use Rattle.shr_seats.proofs.Seating.{AreSeats-first, AreSeats-split, AreSeats-join, not_gone, others, sole, sum_by-sole}
use Rattle.shr_seats.proofs.Sums.{term_le, sum_by-changed, sum_by-joined, sum_by-more, sum_by-none, sum_by-map, Each-set, Each-push}
use Rattle.shr_pool.proofs.Weighing.{none_there, sum_by-lt, sum_by-both, some_term}

-- what a view popped weighs
abbrev popped_by : (SweepItem → ℕ) → PassView → ℕ
popped_by h v = total h v.popped

abbrev Tells : List SweepItem → PassView → Type 0
Tells pushed v = v.standing.gone ≡ false → v.pushed ≡ pushed

abbrev Marks : PassView → Type 0
Marks v = v.standing.gone ≡ false → ends v.popped ≤ marks_for v.standing

abbrev Few : PassView → Type 0
Few v = v.standing.first ≡ true → v.standing.splits ≤ most_helpers

abbrev Emptied : PassView → Type 0
Emptied v = v.standing.gone ≡ true → v ≡ spent_pass_view

true_false : (b : Bool) → b ≡ true → b ≡ false → ⊥
true_false b t f = let e : true ≡ false = sym t ∙ f in cc

one_mark : (x : SweepItem) → is_end x ≤ 1
one_mark (Walk job) = omega arith
one_mark End = omega arith

-- of one view
alone : (P : PassView → Type 0) (v : PassView) → P v → Each P (v ∷ [])
alone P v p zero x e = subst P (some-injective v x e) p
alone P v p (suc j) x e = absurd (some-ne-none x (sym e))

-- the rule holds of a new queue
pub begins : IsQueued [] (first_pass_view ∷ [])
begins = record {
  pushed = [];
  gone = [];
  line = refl;
  told = alone (Tells []) first_pass_view (λ _. refl);
  popped = λ h. refl;
  marks = alone Marks first_pass_view (λ _. omega arith);
  few = alone Few first_pass_view (λ _. omega arith);
  seats = AreSeats-first;
  emptied = alone Emptied first_pass_view (λ t. absurd (not_gone at_first refl t));
}

module _ (items : List SweepItem) (views : List PassView) (o : IsQueued items views) (id : ℕ) (v : PassView) (me : get_elem? views id ≡ some v) where
  mine : get_elem? (map pass_standing_in views) id ≡ some v.standing
  mine = at_map pass_standing_in views id v me

  -- where the first was never split, all others are spent
  whole : v.standing.first ≡ true → v.standing.splits ≡ 0 → IsWhole v.standing
  whole is none = omega (arith, o.seats.out id v.standing mine is, none)

  other_spent : v.standing.first ≡ true → IsWhole v.standing → (j : ℕ) (x : PassView) → j ≢ id → get_elem? views j ≡ some x → x ≡ spent_pass_view
  other_spent is w = sole pass_standing_in spent_pass_view views id v me is w o.seats o.emptied

  -- the standings where one view changes and stands as it did
  stand : (w : PassView) → w.standing ≡ v.standing → AreSeats (map pass_standing_in (set views id w))
  stand w e = subst AreSeats (sym (map-set pass_standing_in views id w ∙ (ap (set (map pass_standing_in views) id) e ∙ set_again (map pass_standing_in views) id v.standing mine))) o.seats

  -- all that is popped stands in the first view, once all are joined
  sole_popped : v.standing.first ≡ true → IsWhole v.standing → (h : SweepItem → ℕ) → total h o.gone ≡ total h v.popped
  sole_popped is w h = o.popped h ∙ sum_by-sole pass_standing_in spent_pass_view views id v me is w o.seats o.emptied (popped_by h) refl

pub pushes : (n id : ℕ) (v : PassView) (x : SweepItem) → v.standing.first ≡ true → v.standing.gone ≡ false → v.standing.splits ≡ 0 → Pushes IsQueued n id v x (λ w. w ≡ with_push v x)
pushes n id v x is here none items views _ o me = let w : PassView = with_push v x in (
  w,
  record {
    pushed = o.pushed ++ x ∷ [];
    gone = o.gone;
    line = ap (λ (l : List SweepItem). l ++ x ∷ []) o.line ∙ append_assoc o.gone items (x ∷ []);
    told = λ j u e. ⊎_elim
        (λ (t : (j ≡ id) × (w ≡ u)). subst (Tells (o.pushed ++ x ∷ [])) t.1 (λ _. ap (λ (l : List SweepItem). l ++ x ∷ []) (o.told id v me here)))
        (λ (t : (j ≢ id) × (get_elem? views j ≡ some u)). subst (Tells (o.pushed ++ x ∷ [])) (sym (other_spent items views o id v me is (whole items views o id v me is none) j u t.0 t.1)) (λ g. absurd (true_false true refl g)))
        (at_set views id j w u e);
    popped = λ h. omega (arith, o.popped h, sum_by-changed (popped_by h) views id v w me);
    marks = Each-set Marks views id w (o.marks id v me) o.marks;
    few = Each-set Few views id w (o.few id v me) o.few;
    seats = stand items views o id v me w refl;
    emptied = Each-set Emptied views id w (λ t. absurd (not_gone v.standing here t)) o.emptied;
  },
  refl,
)

-- where nothing was popped, the queue holds all that was pushed
pub filled : (id : ℕ) (v : PassView) → v.standing.first ≡ true → v.standing.gone ≡ false → v.standing.splits ≡ 0 → v.popped ≡ [] → Learns IsQueued id v (λ items. items ≡ v.pushed)
filled id v is here none empty items views o me = let no_gone : o.gone ≡ [] = none_there o.gone (sole_popped items views o id v me is (whole items views o id v me is none) (λ _. 1) ∙ ap (total (λ _. 1)) empty) in
    sym (o.told id v me here ∙ (o.line ∙ ap (λ (l : List SweepItem). l ++ items) no_gone))

pub pops : (id : ℕ) (v : PassView) → v.standing.first ≡ false → v.standing.gone ≡ false → ends v.popped ≡ 0 → Pops IsQueued id v (IsPopped v)
pops id v later here none x items views o me = let w : PassView = with_pop v x in (
  w,
  record {
    pushed = o.pushed;
    gone = o.gone ++ x ∷ [];
    line = o.line ∙ sym (append_assoc o.gone (x ∷ []) items);
    told = Each-set (Tells o.pushed) views id w (o.told id v me) o.told;
    popped = λ h. omega (arith, total-append h o.gone (x ∷ []), total-append h v.popped (x ∷ []), o.popped h, sum_by-changed (popped_by h) views id v w me);
    marks = Each-set Marks views id w (λ _. omega (arith, total-append is_end v.popped (x ∷ []), one_mark x, none, ap (λ b. cond b v.standing.joins 1) later)) o.marks;
    few = Each-set Few views id w (o.few id v me) o.few;
    seats = stand (x ∷ items) views o id v me w refl;
    emptied = Each-set Emptied views id w (λ t. absurd (not_gone v.standing here t)) o.emptied;
  },
  record { view = refl; within = λ h. omega (arith, ap (total h) (o.told id v me here), ap (total h) o.line, total-append h o.gone (x ∷ items), total-append h v.popped (x ∷ []), o.popped h, term_le (popped_by h) views id v me) },
)

pub forks : (id : ℕ) (v : PassView) → v.standing.first ≡ true → v.standing.gone ≡ false → v.standing.splits < most_helpers → Forks IsQueued id v (split_pass_view v) (new_pass_view v)
forks id v is here room items views o me = let w : PassView = split_pass_view v in let new : PassView = new_pass_view v in record {
  pushed = o.pushed;
  gone = o.gone;
  line = o.line;
  told = Each-push (Tells o.pushed) (set views id w) new (λ _. o.told id v me here) (Each-set (Tells o.pushed) views id w (o.told id v me) o.told);
  popped = λ h. omega (arith, o.popped h, sum_by-changed (popped_by h) views id v w me, sum_by-more (popped_by h) (set views id w) new);
  marks = Each-push Marks (set views id w) new (λ _. omega arith) (Each-set Marks views id w (o.marks id v me) o.marks);
  few = Each-push Few (set views id w) new (λ t. absurd (true_false at_split.first t refl)) (Each-set Few views id w (λ _. omega (arith, room)) o.few);
  seats = grown views id v me pass_standing_in w new AreSeats (AreSeats-split (map pass_standing_in views) id v.standing (mine items views o id v me) is o.seats);
  emptied = Each-push Emptied (set views id w) new (λ t. absurd (not_gone at_split refl t)) (Each-set Emptied views id w (λ t. absurd (not_gone v.standing here t)) o.emptied);
}

pub merges : (id : ℕ) (v : PassView) (other : ℕ) (u : PassView) → v.standing.first ≡ true → v.standing.gone ≡ false → u.standing.first ≡ false → u.standing.gone ≡ false → Merges IsQueued id v other u (joined_pass_view v u) spent_pass_view
merges id v other u is here later there items views o me apart at = let w : PassView = joined_pass_view v u in
    let them : get_elem? views other ≡ some u = sym (set_else views id other w apart) ∙ at in record {
      pushed = o.pushed;
      gone = o.gone;
      line = o.line;
      told = Each-set (Tells o.pushed) (set views id w) other spent_pass_view (λ g. absurd (true_false true refl g)) (Each-set (Tells o.pushed) views id w (o.told id v me) o.told);
      popped = λ h. omega (arith, o.popped h, sum_by-joined (popped_by h) views id other v u w spent_pass_view me apart them, total-append h v.popped u.popped);
      marks = Each-set Marks (set views id w) other spent_pass_view (λ g. absurd (true_false true refl g))
          (Each-set Marks views id w (λ _. omega (arith, total-append is_end v.popped u.popped, o.marks id v me here, o.marks other u them there, ap (λ b. cond b v.standing.joins 1) is, ap (λ b. cond b (v.standing.joins + 1) 1) is, ap (λ b. cond b u.standing.joins 1) later)) o.marks);
      few = Each-set Few (set views id w) other spent_pass_view (λ t. absurd (true_false at_end.first t refl)) (Each-set Few views id w (o.few id v me) o.few);
      seats = joined_list pass_standing_in AreSeats views id other w spent_pass_view (AreSeats-join (map pass_standing_in views) id other v.standing u.standing (mine items views o id v me) apart (at_map pass_standing_in views other u them) is there o.seats);
      emptied = Each-set Emptied (set views id w) other spent_pass_view (λ _. refl) (Each-set Emptied views id w (λ t. absurd (not_gone v.standing here t)) o.emptied);
    }

pub shown : (id : ℕ) (v : PassView) → v.standing.first ≡ true → v.standing.gone ≡ false → Learns IsQueued id v (IsQueueShown v)
shown id v is here items views o me w = (o.gone, o.told id v me here ∙ o.line, sole_popped items views o id v me is w)

-- 1 for the first pass, and 1 for one that is out; how many marks the joined ones had
abbrev firsts : Standing → ℕ
firsts z = cond z.first 1 0

abbrev outs : Standing → ℕ
outs z = cond (is_out z) 1 0

abbrev heads : Standing → ℕ
heads z = cond z.first z.joins 0

is_first : (z : Standing) → 0 < firsts z → z.first ≡ true
is_first z p = ⊎_elim (λ t. t) (λ f. let e : firsts z ≡ 0 = ap (λ b. cond b 1 0) f in absurd (omega (arith, p, e))) (cases_Bool z.first)

-- a pass has popped no more marks than it stands for
stands_for : (v : PassView) → Marks v → Emptied v → ends v.popped ≤ outs v.standing + heads v.standing
stands_for v marks emptied = ⊎_elim
    (λ (g : v.standing.gone ≡ true). omega (arith, ap (λ u. ends u.popped) (emptied g)))
    (λ (g : v.standing.gone ≡ false). ⊎_elim
    (λ (f : v.standing.first ≡ true). omega (arith, marks g, ap (λ b. cond b v.standing.joins 1) f, ap (λ b. cond b v.standing.joins 0) f))
    (λ (f : v.standing.first ≡ false). omega (arith, marks g, ap (λ b. cond b v.standing.joins 1) f, out_one v.standing f g))
    (cases_Bool v.standing.first))
    (cases_Bool v.standing.gone) where
      out_one : (z : Standing) → z.first ≡ false → z.gone ≡ false → outs z ≡ 1
      out_one z f g = ap (λ b. cond (not b && not z.gone) 1 0) f ∙ ap (λ b. cond (not b) 1 0) g

-- a helper that has not met its mark finds something in the queue
pub faced : (id : ℕ) (v : PassView) → v.standing.first ≡ false → v.standing.gone ≡ false → ends v.popped ≡ 0 → Learns IsQueued id v (IsFaced v)
faced id v later here none items views o me marked empty = absurd (omega (arith, all_marks, less, outs_and_heads, heads_of, outs_of, o.few k x atk is)) where
  out_one : (z : Standing) → z.first ≡ false → z.gone ≡ false → outs z ≡ 1
  out_one z f g = ap (λ b. cond (not b && not z.gone) 1 0) f ∙ ap (λ b. cond (not b) 1 0) g

  both : PassView → ℕ
  both u = outs u.standing + heads u.standing

  all_marks : most_helpers ≤ sum_by (popped_by is_end) views
  all_marks = omega (arith, marked, ap ends (o.told id v me here ∙ (o.line ∙ (ap (λ (l : List SweepItem). o.gone ++ l) empty ∙ append-nil o.gone))), o.popped is_end)

  less : sum_by (popped_by is_end) views < sum_by both views
  less = sum_by-lt (popped_by is_end) both views id v me (omega (arith, none, out_one v.standing later here)) (λ j u e. stands_for u (o.marks j u e) (o.emptied j u e))

  outs_and_heads : sum_by both views ≡ sum_by (λ (u : PassView). outs u.standing) views + sum_by (λ (u : PassView). heads u.standing) views
  outs_and_heads = sum_by-both (λ (u : PassView). outs u.standing) (λ (u : PassView). heads u.standing) views

  the_first : (j : ℕ) × (u : PassView) × (get_elem? views j ≡ some u) × (0 < firsts u.standing)
  the_first = some_term (λ (u : PassView). firsts u.standing) views (omega (arith, o.seats.one_first, sum_by-map firsts pass_standing_in views))

  k : ℕ
  k = the_first.0

  x : PassView
  x = the_first.1

  atk : get_elem? views k ≡ some x
  atk = the_first.2

  is : x.standing.first ≡ true
  is = is_first x.standing the_first.3

  heads_of : sum_by (λ (u : PassView). heads u.standing) views ≡ x.standing.joins
  heads_of = omega (
    arith,
    ap (λ b. cond b x.standing.joins 0) is,
    sum_by-changed (λ (u : PassView). heads u.standing) views k x spent_pass_view atk,
    sum_by-none (λ (u : PassView). heads u.standing) (set views k spent_pass_view) (λ j u e. ⊎_elim
        (λ (t : (j ≡ k) × (spent_pass_view ≡ u)). ap (λ (y : PassView). heads y.standing) (sym t.1))
        (λ (t : (j ≢ k) × (get_elem? views j ≡ some u)). ap (λ b. cond b u.standing.joins 0) (others (map pass_standing_in views) k j x.standing u.standing o.seats (at_map pass_standing_in views k x atk) is t.0 (at_map pass_standing_in views j u t.1)))
        (at_set views k j spent_pass_view u e)),
  )

  outs_of : sum_by (λ (u : PassView). outs u.standing) views + x.standing.joins ≡ x.standing.splits
  outs_of = omega (arith, sum_by-map outs pass_standing_in views, o.seats.out k x.standing (at_map pass_standing_in views k x atk) is)
