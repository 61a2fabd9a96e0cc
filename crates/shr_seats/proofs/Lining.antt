-- SPDX-License-Identifier: GPL-2.0-only
-- The line of all deeds while seats do more, are split and are joined.
use Rattle.shr_seats.proofs.Common.{◌≡◌, ℕ, zero, suc, ◌+◌, ◌<◌, ◌≤◌, ◌≢◌, Bool, true, false, cond, List, [], ◌∷◌, ◌++◌, map, length, set, sym, refl, ap, subst, ◌∙◌, arith, eq-eqb, ne_eqb, append-nil, dite, ℕ_discrete, some, some-injective, some-ne-none, get_elem?, set_else, Standing, IsWhole, AreSeats, AreEmptied, total, eqb, dec_lt, at_longer}
use Rattle.shr_seats.specs.Lines.{Deed, by_seat, acts_of, part, state_after, AreSo, did_at, IsHere, AreInLine}
use Rattle.shr_seats.proofs.Seating.{sole}

module _ {S E : Type 0} (next : S → E → S) where
  -- the state after one event more
  pub state_after_push : (s : S) (es : List E) (e : E) → state_after next s (es ++ e ∷ []) ≡ next (state_after next s es) e
  state_after_push s [] e = refl
  state_after_push s (x ∷ es) e = state_after_push (next s x) es e

  -- one event more that is so
  pub AreSo-push : (IsSo : S → E → Type 0) (s : S) (es : List E) (e : E) → AreSo next IsSo s es → IsSo (state_after next s es) e → AreSo next IsSo s (es ++ e ∷ [])
  AreSo-push IsSo s [] e all is = (is, tt)
  AreSo-push IsSo s (x ∷ es) e all is = (all.0, AreSo-push IsSo (next s x) es e all.1 is)

module _ {A : Type 0} where
  pub part-append : (j : ℕ) (l m : List (Deed A)) → part j (l ++ m) ≡ part j l ++ part j m
  part-append j [] m = refl
  part-append j (d ∷ ds) m = let F : Bool → Type 0 = λ b. cond b (d ∷ part j (ds ++ m)) (part j (ds ++ m)) ≡ cond b (d ∷ part j ds) (part j ds) ++ part j m in
      dite (ℕ_discrete d.seat j) (λ e. subst F (sym (eq-eqb d.seat j e)) (ap (λ l. d ∷ l) (part-append j ds m))) (λ n. subst F (sym (ne_eqb d.seat j n)) (part-append j ds m))

  -- a deed of the seat, and one of another
  pub part_own : (j : ℕ) (d : Deed A) → d.seat ≡ j → part j (d ∷ []) ≡ d ∷ []
  part_own j d e = ap (λ b. cond b (d ∷ []) []) (eq-eqb d.seat j e)

  pub part_other : (j : ℕ) (d : Deed A) → d.seat ≢ j → part j (d ∷ []) ≡ []
  part_other j d n = ap (λ b. cond b (d ∷ []) []) (ne_eqb d.seat j n)

module _ {A V : Type 0} (did : V → List (Deed A)) where
  pub did_at_some : (views : List V) (i : ℕ) (v : V) → get_elem? views i ≡ some v → did_at did views i ≡ did v
  did_at_some [] i v e = absurd (some-ne-none v (sym e))
  did_at_some (x ∷ xs) zero v e = ap did (some-injective x v e)
  did_at_some (x ∷ xs) (suc i) v e = did_at_some xs i v e

  did_at_none : (views : List V) (i : ℕ) → ((v : V) → get_elem? views i ≡ some v → did v ≡ []) → did_at did views i ≡ []
  did_at_none [] i h = refl
  did_at_none (x ∷ xs) zero h = h x refl
  did_at_none (x ∷ xs) (suc i) h = did_at_none xs i h

  did_at_set : (views : List V) (id : ℕ) (v w : V) → get_elem? views id ≡ some v → did_at did (set views id w) id ≡ did w
  did_at_set [] id v w e = absurd (some-ne-none v (sym e))
  did_at_set (x ∷ xs) zero v w e = refl
  did_at_set (x ∷ xs) (suc id) v w e = did_at_set xs id v w e

  did_at_else : (views : List V) (id i : ℕ) (w : V) → i ≢ id → did_at did (set views id w) i ≡ did_at did views i
  did_at_else [] id i w n = refl
  did_at_else (x ∷ xs) zero zero w n = absurd (n refl)
  did_at_else (x ∷ xs) zero (suc i) w n = refl
  did_at_else (x ∷ xs) (suc id) zero w n = refl
  did_at_else (x ∷ xs) (suc id) (suc i) w n = did_at_else xs id i w (λ e. n (ap suc e))

  did_at_more : (views : List V) (i : ℕ) (new : V) → did new ≡ [] → did_at did (views ++ new ∷ []) i ≡ did_at did views i
  did_at_more [] zero new e = e
  did_at_more [] (suc i) new e = refl
  did_at_more (x ∷ xs) zero new e = refl
  did_at_more (x ∷ xs) (suc i) new e = did_at_more xs i new e

pub set_there : {V : Type 0} (l : List V) (k : ℕ) (x y : V) → get_elem? l k ≡ some x → get_elem? (set l k y) k ≡ some y
set_there [] k x y e = absurd (some-ne-none x (sym e))
set_there (z ∷ zs) zero x y e = refl
set_there (z ∷ zs) (suc k) x y e = set_there zs k x y e

true_false : (b : Bool) → b ≡ true → b ≡ false → ⊥
true_false b t f = let e : true ≡ false = sym t ∙ f in cc

module _ {A V : Type 0} (standing : V → Standing) (did : V → List (Deed A)) (views : List V) (id : ℕ) (v : V) (me : get_elem? views id ≡ some v) (here : (standing v).gone ≡ false) (line : List (Deed A)) (o : AreInLine standing did views line) where
  -- the seat that steps was not joined away
  is_here : IsHere standing views id
  is_here x e = ap (λ (y : V). (standing y).gone) (some-injective x v (sym e ∙ me)) ∙ here

  -- who is here after the seat's view changed was here before
  was_here : (w : V) (i : ℕ) → IsHere standing (set views id w) i → IsHere standing views i
  was_here w i h = dite (ℕ_discrete i id) (λ (e : i ≡ id). subst (IsHere standing views) (sym e) is_here) (λ n x at. h x (set_else views id i w n ∙ at))

  -- the seat's view changes, and it did nothing
  pub lined_keep : (w : V) → did w ≡ did v → AreInLine standing did (set views id w) line
  lined_keep w same = record {
    holder = o.holder;
    parts = λ j i. ap (part j) (dite (ℕ_discrete i id)
        (λ (e : i ≡ id). subst (λ k. did_at did (set views id w) k ≡ did_at did views k) (sym e) (did_at_set did views id v w me ∙ (same ∙ sym (did_at_some did views id v me))))
        (λ n. did_at_else did views id i w n)) ∙ o.parts j i;
    own = λ i h. o.own i (was_here w i h);
  }

  -- the seat did one thing more
  pub lined_do : (w : V) (a : A) → did w ≡ did v ++ record { seat = id; act = a } ∷ [] → AreInLine standing did (set views id w) (line ++ record { seat = id; act = a } ∷ [])
  lined_do w a more = let d : Deed A = record { seat = id; act = a } in let mine : o.holder id ≡ id = o.own id is_here in record {
    holder = o.holder;
    parts = λ j i. dite (ℕ_discrete i id)
        (λ (e : i ≡ id). subst (λ k. part j (did_at did (set views id w) k) ≡ cond (eqb k (o.holder j)) (part j (line ++ d ∷ [])) []) (sym e)
        (ap (part j) (did_at_set did views id v w me ∙ (more ∙ ap (λ l. l ++ d ∷ []) (sym (did_at_some did views id v me)))) ∙ (part-append j (did_at did views id) (d ∷ []) ∙ (ap (λ l. l ++ part j (d ∷ [])) (o.parts j id)
        ∙ dite (ℕ_discrete j id)
        (λ (f : j ≡ id). let hit : eqb id (o.holder j) ≡ true = eq-eqb id (o.holder j) (sym (ap o.holder f ∙ mine)) in
        subst (λ b. cond b (part j line) [] ++ part j (d ∷ []) ≡ cond b (part j (line ++ d ∷ [])) []) (sym hit) (sym (part-append j line (d ∷ []))))
        (λ n. let none = part_other j d (λ f. n (sym f)) in
        ap (λ l. cond (eqb id (o.holder j)) (part j line) [] ++ l) none ∙ (append-nil (cond (eqb id (o.holder j)) (part j line) []) ∙ ap (λ l. cond (eqb id (o.holder j)) l []) (sym (part-append j line (d ∷ []) ∙ (ap (λ l. part j line ++ l) none ∙ append-nil (part j line))))))))))
        (λ n. ap (part j) (did_at_else did views id i w n) ∙ (o.parts j i ∙ dite (ℕ_discrete j id)
        (λ (f : j ≡ id). let miss : eqb i (o.holder j) ≡ false = ne_eqb i (o.holder j) (λ h. n (h ∙ (ap o.holder f ∙ mine))) in
        ap (λ b. cond b (part j line) []) miss ∙ sym (ap (λ b. cond b (part j (line ++ d ∷ [])) []) miss))
        (λ m. ap (λ l. cond (eqb i (o.holder j)) l []) (sym (part-append j line (d ∷ []) ∙ (ap (λ l. part j line ++ l) (part_other j d (λ f. m (sym f))) ∙ append-nil (part j line)))))));
    own = λ i h. o.own i (was_here w i h);
  }

  -- a seat is split off, which did nothing
  pub lined_split : (w new : V) → did w ≡ did v → did new ≡ [] → AreInLine standing did (set views id w ++ new ∷ []) line
  lined_split w new same none = let p = lined_keep w same in record {
    holder = p.holder;
    parts = λ j i. ap (part j) (did_at_more did (set views id w) i new none) ∙ p.parts j i;
    own = λ i h. p.own i (λ x at. h x (at_longer (set views id w) (new ∷ []) i x at));
  }

  -- another seat is joined into this one, which takes over what it tells
  pub lined_join : (other : ℕ) (u w spent : V) → other ≢ id → get_elem? views other ≡ some u → (standing u).gone ≡ false → did w ≡ did v ++ did u → did spent ≡ [] → (standing spent).gone ≡ true
      → AreInLine standing did (set (set views id w) other spent) line
  lined_join other u w spent apart them there both none ends = let moved : (ℕ → ℕ) = λ j. cond (eqb (o.holder j) other) id (o.holder j) in
      let them' : get_elem? (set views id w) other ≡ some u = set_else views id other w apart ∙ them in
      let theirs : o.holder other ≡ other = o.own other (λ x e. ap (λ (y : V). (standing y).gone) (some-injective x u (sym e ∙ them)) ∙ there) in record {
        holder = moved;
        parts = λ j i. dite (ℕ_discrete i other)
            (λ (e : i ≡ other). subst (λ k. part j (did_at did (set (set views id w) other spent) k) ≡ cond (eqb k (moved j)) (part j line) []) (sym e)
            (ap (part j) (did_at_set did (set views id w) other u spent them' ∙ none) ∙ sym (ap (λ b. cond b (part j line) []) (ne_eqb other (moved j) (λ h. dite (ℕ_discrete (o.holder j) other)
            (λ f. apart (h ∙ ap (λ b. cond b id (o.holder j)) (eq-eqb (o.holder j) other f)))
            (λ n. n (sym (h ∙ ap (λ b. cond b id (o.holder j)) (ne_eqb (o.holder j) other n)))))))))
            (λ n. ap (part j) (did_at_else did (set views id w) other i spent n) ∙ dite (ℕ_discrete i id)
            (λ (e : i ≡ id). subst (λ k. part j (did_at did (set views id w) k) ≡ cond (eqb k (moved j)) (part j line) []) (sym e)
            (ap (part j) (did_at_set did views id v w me ∙ (both ∙ (ap (λ l. l ++ did u) (sym (did_at_some did views id v me)) ∙ ap (λ l. did_at did views id ++ l) (sym (did_at_some did views other u them)))))
            ∙ (part-append j (did_at did views id) (did_at did views other) ∙ (ap (λ l. l ++ part j (did_at did views other)) (o.parts j id) ∙ (ap (λ l. cond (eqb id (o.holder j)) (part j line) [] ++ l) (o.parts j other)
            ∙ dite (ℕ_discrete (o.holder j) other)
            (λ (f : o.holder j ≡ other). subst (λ k. cond (eqb id k) (part j line) [] ++ cond (eqb other k) (part j line) [] ≡ cond (eqb id (cond (eqb k other) id k)) (part j line) []) (sym f)
            (ap (λ b. cond b (part j line) [] ++ cond (eqb other other) (part j line) []) (ne_eqb id other (λ h. apart (sym h))) ∙ (ap (λ b. cond b (part j line) []) (eq-eqb other other refl)
            ∙ sym (ap (λ b. cond (eqb id (cond b id other)) (part j line) []) (eq-eqb other other refl) ∙ ap (λ b. cond b (part j line) []) (eq-eqb id id refl)))))
            (λ m. ap (λ b. cond (eqb id (o.holder j)) (part j line) [] ++ cond b (part j line) []) (ne_eqb other (o.holder j) (λ h. m (sym h))) ∙ (append-nil (cond (eqb id (o.holder j)) (part j line) [])
            ∙ sym (ap (λ b. cond (eqb id (cond b id (o.holder j))) (part j line) []) (ne_eqb (o.holder j) other m)))))))))
            (λ m. ap (part j) (did_at_else did views id i w m) ∙ (o.parts j i ∙ dite (ℕ_discrete (o.holder j) other)
            (λ (f : o.holder j ≡ other). ap (λ b. cond b (part j line) []) (ne_eqb i (o.holder j) (λ h. n (h ∙ f)))
            ∙ sym (ap (λ k. cond (eqb i k) (part j line) []) (ap (λ b. cond b id (o.holder j)) (eq-eqb (o.holder j) other f)) ∙ ap (λ b. cond b (part j line) []) (ne_eqb i id m)))
            (λ q. sym (ap (λ k. cond (eqb i k) (part j line) []) (ap (λ b. cond b id (o.holder j)) (ne_eqb (o.holder j) other q)))))));
        own = λ i h. dite (ℕ_discrete i other)
            (λ (e : i ≡ other). absurd (true_false (standing spent).gone ends (h spent (subst (λ k. get_elem? (set (set views id w) other spent) k ≡ some spent) (sym e) (set_there (set views id w) other u spent them')))))
            (λ n. let was : o.holder i ≡ i = o.own i (was_here w i (λ x at. h x (set_else (set views id w) other i spent n ∙ at))) in
            ap (λ b. cond b id (o.holder i)) (ne_eqb (o.holder i) other (λ f. n (sym was ∙ f))) ∙ was);
      }

  -- once all others were joined, the first seat's view tells the whole line, seat by seat
  pub lined_sole : (spent : V) → (standing v).first ≡ true → IsWhole (standing v) → AreSeats (map standing views) → AreEmptied standing spent views → did spent ≡ [] → (j : ℕ) → part j (did v) ≡ part j line
  lined_sole spent is whole seats emptied none j = ap (part j) (sym (did_at_some did views id v me)) ∙ (o.parts j id ∙ dite (ℕ_discrete (o.holder j) id)
      (λ f. ap (λ b. cond b (part j line) []) (eq-eqb id (o.holder j) (sym f)))
      (λ n. ap (λ b. cond b (part j line) []) (ne_eqb id (o.holder j) (λ h. n (sym h))) ∙ sym (
      sym (ap (λ b. cond b (part j line) []) (eq-eqb (o.holder j) (o.holder j) refl)) ∙ (sym (o.parts j (o.holder j))
      ∙ ap (part j) (did_at_none did views (o.holder j) (λ x at. ap did (sole standing spent views id v me is whole seats emptied (o.holder j) x n at) ∙ none))))))

-- the line of a new table
pub lined_first : {A V : Type 0} (standing : V → Standing) (did : V → List (Deed A)) (v : V) → did v ≡ [] → AreInLine standing did (v ∷ []) []
lined_first {A} standing did v none = record { holder = λ j. j; parts = λ j i. at j i; own = λ i h. refl } where
  nothing : (b : Bool) → [] ≡ cond {A = List (Deed A)} b [] []
  nothing true = refl
  nothing false = refl

  at : (j i : ℕ) → part j (did_at did (v ∷ []) i) ≡ cond (eqb i j) (part j []) []
  at j zero = ap (part j) none ∙ nothing (eqb 0 j)
  at j (suc i) = nothing (eqb (suc i) j)

module _ {A : Type 0} where
  -- the deeds of all seats but one
  abbrev others : ℕ → List (Deed A) → List (Deed A)
  others j [] = []
  others j (d ∷ ds) = cond (eqb d.seat j) (others j ds) (d ∷ others j ds)

  length_others : (j : ℕ) (l : List (Deed A)) → length (others j l) ≤ length l
  length_others j [] = omega arith
  length_others j (d ∷ ds) = let F : Bool → Type 0 = λ b. length (cond b (others j ds) (d ∷ others j ds)) ≤ length (d ∷ ds) in
      dite (ℕ_discrete d.seat j) (λ e. subst F (sym (eq-eqb d.seat j e)) (omega (arith, length_others j ds))) (λ n. subst F (sym (ne_eqb d.seat j n)) (omega (arith, length_others j ds)))

  part_others : (i j : ℕ) (l : List (Deed A)) → i ≢ j → part i (others j l) ≡ part i l
  part_others i j [] n = refl
  part_others i j (d ∷ ds) n = let F : Bool → Type 0 = λ b. part i (cond b (others j ds) (d ∷ others j ds)) ≡ cond (eqb d.seat i) (d ∷ part i ds) (part i ds) in
      dite (ℕ_discrete d.seat j)
      (λ e. subst F (sym (eq-eqb d.seat j e)) (part_others i j ds n ∙ sym (ap (λ b. cond b (d ∷ part i ds) (part i ds)) (ne_eqb d.seat i (λ h. n (sym h ∙ e))))))
      (λ m. subst F (sym (ne_eqb d.seat j m)) (ap (λ l. cond (eqb d.seat i) (d ∷ l) l) (part_others i j ds n)))

  part_none : (j : ℕ) (l : List (Deed A)) → part j (others j l) ≡ []
  part_none j [] = refl
  part_none j (d ∷ ds) = let F : Bool → Type 0 = λ b. part j (cond b (others j ds) (d ∷ others j ds)) ≡ [] in
      dite (ℕ_discrete d.seat j) (λ e. subst F (sym (eq-eqb d.seat j e)) (part_none j ds)) (λ n. subst F (sym (ne_eqb d.seat j n)) (ap (λ b. cond b (d ∷ part j (others j ds)) (part j (others j ds))) (ne_eqb d.seat j n) ∙ part_none j ds))

  module _ (g : Deed A → ℕ) where
    total_parted : (j : ℕ) (l : List (Deed A)) → total g l ≡ total g (part j l) + total g (others j l)
    total_parted j [] = refl
    total_parted j (d ∷ ds) = let F : Bool → Type 0 = λ b. g d + total g ds ≡ total g (cond b (d ∷ part j ds) (part j ds)) + total g (cond b (others j ds) (d ∷ others j ds)) in
        dite (ℕ_discrete d.seat j) (λ e. subst F (sym (eq-eqb d.seat j e)) (omega (arith, total_parted j ds))) (λ n. subst F (sym (ne_eqb d.seat j n)) (omega (arith, total_parted j ds)))

    none_left : (m : List (Deed A)) → ((j : ℕ) → [] ≡ part j m) → total g m ≡ 0
    none_left [] h = refl
    none_left (d ∷ ds) h = absurd (no_head (h d.seat ∙ ap (λ b. cond b (d ∷ part d.seat ds) (part d.seat ds)) (eq-eqb d.seat d.seat refl))) where
      no_head : {x : Deed A} {xs : List (Deed A)} → [] ≡ x ∷ xs → ⊥
      no_head e = cc

    same_in : (n : ℕ) (l m : List (Deed A)) → length l ≤ n → ((j : ℕ) → part j l ≡ part j m) → total g l ≡ total g m
    same_in n [] m short h = sym (none_left m h)
    same_in zero (d ∷ ds) m short h = absurd (omega (arith, short))
    same_in (suc n) (d ∷ ds) m short h = let j : ℕ = d.seat in
        let fewer : others j (d ∷ ds) ≡ others j ds = ap (λ b. cond b (others j ds) (d ∷ others j ds)) (eq-eqb j j refl) in
        let rest : total g (others j (d ∷ ds)) ≡ total g (others j m) = same_in n (others j (d ∷ ds)) (others j m) (omega (arith, ap length fewer, length_others j ds, short)) (λ i. dite (ℕ_discrete i j)
        (λ (e : i ≡ j). subst (λ k. part k (others j (d ∷ ds)) ≡ part k (others j m)) (sym e) (part_none j (d ∷ ds) ∙ sym (part_none j m)))
        (λ n. part_others i j (d ∷ ds) n ∙ (h i ∙ sym (part_others i j m n)))) in
        omega (arith, total_parted j (d ∷ ds), total_parted j m, ap (total g) (h j), rest)

    -- lists with the same deeds of each seat weigh the same
    pub total_parts : (l m : List (Deed A)) → ((j : ℕ) → part j l ≡ part j m) → total g l ≡ total g m
    total_parts l m h = same_in (length l) l m (omega arith) h

  pub acts_by : (j : ℕ) (l : List A) → acts_of (by_seat j l) ≡ l
  acts_by j [] = refl
  acts_by j (x ∷ xs) = ap (λ l. x ∷ l) (acts_by j xs)

-- what grows along a line orders its events
module _ {S E : Type 0} (next : S → E → S) (IsSo : S → E → Type 0) (f : S → ℕ) (grows : (s : S) (e : E) → f s ≤ f (next s e)) where
  -- an event at which it is a stands behind all where it is less
  later : (s : S) (l : List E) → AreSo next IsSo s l → (i : ℕ) (d : E) → get_elem? l i ≡ some d → (a : ℕ) → ((t : S) → IsSo t d → f t ≡ a) → f s ≤ a
  later s [] all i d at a tells = absurd (some-ne-none d (sym at))
  later s (x ∷ xs) all zero d at a tells = omega (arith, tells s (subst (IsSo s) (some-injective x d at) all.0))
  later s (x ∷ xs) all (suc i) d at a tells = omega (arith, grows s x, later (next s x) xs all.1 i d at a tells)

  -- an event at which it is a stands at or before one after which it is more than a
  pub in_order : (s : S) (l : List E) → AreSo next IsSo s l → (i j : ℕ) (d e : E) → get_elem? l i ≡ some d → get_elem? l j ≡ some e
      → (a c : ℕ) → ((t : S) → IsSo t d → f t ≡ a) → ((t : S) → IsSo t e → f (next t e) ≡ c) → a < c → i ≤ j
  in_order s [] all i j d e at there a c low high less = absurd (some-ne-none d (sym at))
  in_order s (x ∷ xs) all zero j d e at there a c low high less = omega arith
  in_order s (x ∷ xs) all (suc i) zero d e at there a c low high less = let same = some-injective x e there in
      absurd (omega (arith, less, later (next s x) xs all.1 i d at a low, high s (subst (IsSo s) same all.0), ap (λ y. f (next s y)) same))
  in_order s (x ∷ xs) all (suc i) (suc j) d e at there a c low high less = omega (arith, in_order (next s x) xs all.1 i j d e at there a c low high less)

  rises : (s : S) (l : List E) → f s ≤ f (state_after next s l)
  rises s [] = omega arith
  rises s (x ∷ xs) = omega (arith, grows s x, rises (next s x) xs)

  -- where an event has the number n just if it takes f from n on past n, each number that f went
  -- past was had once
  pub counted_once : (hit : E → ℕ) (n : ℕ) → ((t : S) (e : E) → IsSo t e → (f t ≤ n → n < f (next t e) → hit e ≡ 1) × (n < f t → hit e ≡ 0) × (f (next t e) ≤ n → hit e ≡ 0))
      → (s : S) (l : List E) → AreSo next IsSo s l → (f s ≤ n → n < f (state_after next s l) → total hit l ≡ 1) × (n < f s → total hit l ≡ 0) × (f (state_after next s l) ≤ n → total hit l ≡ 0)
  counted_once hit n has s [] all = ((λ a b. absurd (omega (arith, a, b))), (λ a. refl), λ a. refl)
  counted_once hit n has s (x ∷ xs) all = let r = counted_once hit n has (next s x) xs all.1 in let h = has s x all.0 in let g = grows s x in let q = rises (next s x) xs in (
    (λ a b. dite (dec_lt n (f (next s x))) (λ low. omega (arith, h.0 a low, r.1 low)) (λ high. let past : f (next s x) ≤ n = omega (arith, high) in omega (arith, h.2 past, r.0 past b))),
    (λ a. omega (arith, h.1 a, r.1 (omega (arith, a, g)))),
    (λ a. omega (arith, h.2 (omega (arith, a, q)), r.2 a)),
  )
