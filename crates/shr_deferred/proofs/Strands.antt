-- SPDX-License-Identifier: GPL-2.0-only
-- What each seat did itself, while seats do more, are split and are joined.
use Rattle.shr_deferred.proofs.Common.{◌≡◌, ◌≢◌, ℕ, zero, suc, ◌+◌, ◌<◌, ⊎_elim, Bool, true, false, cond, List, [], ◌∷◌, ◌++◌, map, length, set, sym, refl, ap, subst, ◌∙◌, arith, eqb, eq-eqb, ne_eqb, append-nil, map-append, dite, dec_lt, some, some-injective, some-ne-none, get_elem?, State, at_map, set_else, Deed, by_seat, acts_of, part, acts_by, not_gone, Sizes, View, Move, Moves, IsDeferredSound, AreStrands, strands_in, strand_at, deeds_in, standing_in, first_view, new_view, spent_view, with_split_view, joined_view, length-append, at_set, at_snoc, at_longer, part-append, part_own, part_other, did_at_some, set_there, others, IsSeatGone, IsOwnView, AreOwnViews}

-- a view whose seat did one thing more
abbrev pub moved : ℕ → View → Move → View
moved id v a = record v { did = v.did ++ record { seat = id; act = a } ∷ []; own = v.own ++ a ∷ [] }

not_both : (b : Bool) → b ≡ true → b ≡ false → ⊥
not_both b t f = let e : true ≡ false = sym t ∙ f in cc

-- ---- strands
at_front : (xs : List Moves) (m : Moves) (k : ℕ) → k < length xs → strand_at (xs ++ m ∷ []) k ≡ strand_at xs k
at_front [] m k low = absurd (omega (arith, low))
at_front (x ∷ xs) m zero low = refl
at_front (x ∷ xs) m (suc k) low = at_front xs m k (omega (arith, low))

at_end : (xs : List Moves) (m : Moves) → strand_at (xs ++ m ∷ []) (length xs) ≡ m
at_end [] m = refl
at_end (x ∷ xs) m = at_end xs m

pub at_past : (xs : List Moves) (k : ℕ) → (k < length xs → ⊥) → strand_at xs k ≡ []
at_past [] k past = refl
at_past (x ∷ xs) zero past = absurd (past (omega arith))
at_past (x ∷ xs) (suc k) past = at_past xs k (λ low. past (omega (arith, low)))

part_by_own : (j : ℕ) (ms : Moves) → part j (by_seat j ms) ≡ by_seat j ms
part_by_own j [] = refl
part_by_own j (m ∷ ms) = ap (λ b. cond b (record { seat = j; act = m } ∷ part j (by_seat j ms)) (part j (by_seat j ms))) (eq-eqb j j refl) ∙ ap (λ (l : List (Deed Move)). record { seat = j; act = m } ∷ l) (part_by_own j ms)

part_by_other : (i j : ℕ) (ms : Moves) → i ≢ j → part j (by_seat i ms) ≡ []
part_by_other i j [] n = refl
part_by_other i j (m ∷ ms) n = ap (λ b. cond b (record { seat = i; act = m } ∷ part j (by_seat i ms)) (part j (by_seat i ms))) (ne_eqb i j n) ∙ part_by_other i j ms n

-- ---- the views
own_views : (views views' : List View) (i : ℕ) (u : View) → ((j : ℕ) → IsSeatGone views j → IsSeatGone views' j) → IsOwnView views i u → IsOwnView views' i u
own_views views views' i u keep o = record {
  plain = o.plain;
  first = λ is. let t = o.first is in record {
    name = t.name;
    mine = t.mine;
    gone = λ k past low. keep (t.name k) (t.gone k past low);
    apart = t.apart;
    theirs = t.theirs;
    others = t.others;
  };
}

module _ (views : List View) (id : ℕ) (v : View) (me : get_elem? views id ≡ some v) (here : v.standing.gone ≡ false) where
  gone_apart : (j : ℕ) → IsSeatGone views j → j ≢ id
  gone_apart j g e = not_gone v.standing here (subst (λ (u : View). u.standing.gone ≡ true) (some-injective g.0 v (sym g.1 ∙ (ap (get_elem? views) e ∙ me))) g.2)

  gone_set : (w : View) (j : ℕ) → IsSeatGone views j → IsSeatGone (set views id w) j
  gone_set w j g = (g.0, set_else views id j w (gone_apart j g) ∙ g.1, g.2)

  own_set : (w : View) → AreOwnViews views → IsOwnView (set views id w) id w → AreOwnViews (set views id w)
  own_set w all mine i u at live = ⊎_elim
      (λ (g : (i ≡ id) × (w ≡ u)). subst (λ (x : View). IsOwnView (set views id w) i x) g.1 (subst (λ k. IsOwnView (set views id w) k w) (sym g.0) mine))
      (λ (g : (i ≢ id) × (get_elem? views i ≡ some u)). own_views views (set views id w) i u (gone_set w) (all i u g.1 live))
      (at_set views id i w u at)

  -- the seat did one thing more
  pub own_move : (a : Move) → AreOwnViews views → AreOwnViews (set views id (moved id v a))
  own_move a all = let d : Deed Move = record { seat = id; act = a } in let o = all id v me here in own_set (moved id v a) all (record {
    plain = λ p. ap (λ (l : List (Deed Move)). l ++ d ∷ []) (o.plain p) ∙ sym (map-append (λ (x : Move). record { seat = id; act = x }) v.own (a ∷ []));
    first = λ is. let t = o.first is in record {
      name = t.name;
      mine = t.mine;
      gone = λ k past low. gone_set (moved id v a) (t.name k) (t.gone k past low);
      apart = t.apart;
      theirs = theirs t;
      others = λ j h. part-append j v.did (d ∷ []) ∙ (ap (λ (l : List (Deed Move)). l ++ part j (d ∷ [])) (t.others j h) ∙ part_other j d (λ e. h 0 (omega arith) (t.mine ∙ e)));
    };
  }) where
    theirs : (t : AreStrands views id v) (k : ℕ) → k < length (strands_in v) → part (t.name k) (v.did ++ record { seat = id; act = a } ∷ []) ≡ by_seat (t.name k) (strand_at ((v.own ++ a ∷ []) ∷ v.joined) k)
    theirs t zero low = part-append (t.name 0) v.did (record { seat = id; act = a } ∷ []) ∙ (ap (λ (l : List (Deed Move)). l ++ part (t.name 0) (record { seat = id; act = a } ∷ [])) (t.theirs 0 low)
        ∙ (ap (λ (l : List (Deed Move)). by_seat (t.name 0) v.own ++ l) (part_own (t.name 0) (record { seat = id; act = a }) (sym t.mine) ∙ ap (λ j. record { seat = j; act = a } ∷ []) (sym t.mine))
        ∙ sym (map-append (λ (x : Move). record { seat = t.name 0; act = x }) v.own (a ∷ []))))
    theirs t (suc k) low = part-append (t.name (suc k)) v.did (record { seat = id; act = a } ∷ [])
        ∙ (ap (λ (l : List (Deed Move)). part (t.name (suc k)) v.did ++ l) (part_other (t.name (suc k)) (record { seat = id; act = a }) (λ e. gone_apart (t.name (suc k)) (t.gone (suc k) (omega arith) low) (sym e)))
        ∙ (append-nil (part (t.name (suc k)) v.did) ∙ t.theirs (suc k) low))

  split_kept : AreOwnViews views → AreOwnViews (set views id (with_split_view v))
  split_kept all = let w : View = with_split_view v in own_set w all (own_views views (set views id w) id w (gone_set w) (let o = all id v me here in record {
    plain = o.plain;
    first = λ is. let t = o.first is in record { name = t.name; mine = t.mine; gone = t.gone; apart = t.apart; theirs = t.theirs; others = t.others };
  }))

  -- a seat was split off, which did nothing
  pub own_split : AreOwnViews views → AreOwnViews (set views id (with_split_view v) ++ new_view ∷ [])
  own_split all i u at live = let w : View = with_split_view v in ⊎_elim
      (λ (e : get_elem? (set views id w) i ≡ some u). own_views (set views id w) (set views id w ++ new_view ∷ []) i u (λ j g. (g.0, at_longer (set views id w) (new_view ∷ []) j g.0 g.1, g.2)) (split_kept all i u e live))
      (λ (e : new_view ≡ u). subst (λ (x : View). IsOwnView (set views id w ++ new_view ∷ []) i x) e (record { plain = λ p. refl; first = λ is. absurd (not_both false is refl) }))
      (at_snoc (set views id w) new_view u i at)

-- the one seat of a new table
pub own_first : AreOwnViews (first_view ∷ [])
own_first zero v e live = subst (λ (x : View). IsOwnView (first_view ∷ []) 0 x) (some-injective first_view v e) (record {
  plain = λ p. refl;
  first = λ is. record {
    name = λ k. k;
    mine = refl;
    gone = λ k past low. absurd (omega (arith, past, low));
    apart = λ k l low low' same. same;
    theirs = λ k low. nothing k;
    others = λ j h. refl;
  };
}) where
  nothing : (k : ℕ) → [] ≡ by_seat k (strand_at ([] ∷ []) k)
  nothing zero = refl
  nothing (suc k) = refl
own_first (suc i) v e live = absurd (some-ne-none v (sym e))

module _ (z : Sizes) (s : State (Unit {0}) View) (o : IsDeferredSound z s) (id : ℕ) (v : View) (me : get_elem? s.views id ≡ some v) (here : v.standing.gone ≡ false)
    (other : ℕ) (u : View) (at : get_elem? s.views other ≡ some u) (there : u.standing.gone ≡ false) (apart : other ≢ id) (is : v.standing.first ≡ true) where
  abbrev w : View
  w = joined_view v u

  abbrev after : List View
  after = set (set s.views id w) other spent_view

  abbrev n : ℕ
  n = length (strands_in v)

  gone_kept : (j : ℕ) → IsSeatGone s.views j → IsSeatGone after j
  gone_kept j g = (g.0, set_else (set s.views id w) other j spent_view (gone_apart s.views other u at there j g) ∙ (set_else s.views id j w (gone_apart s.views id v me here j g) ∙ g.1), g.2)

  other_gone : IsSeatGone after other
  other_gone = (spent_view, set_there (set s.views id w) other u spent_view (set_else s.views id other w apart ∙ at), refl)

  -- what the other seat did, its view tells alone
  theirs_is : u.did ≡ by_seat other u.own
  theirs_is = (o.own other u at there).plain (others (map standing_in s.views) id other v.standing u.standing o.seats (at_map standing_in s.views id v me) is apart (at_map standing_in s.views other u at))

  untold : part other v.did ≡ []
  untold = let mine : o.lined.holder other ≡ other = o.lined.own other (λ x e. subst (λ (y : View). y.standing.gone ≡ false) (some-injective u x (sym at ∙ e)) there) in
      ap (part other) (sym (did_at_some deeds_in s.views id v me)) ∙ (o.lined.parts other id ∙ ap (λ b. cond b (part other o.line) []) (ne_eqb id (o.lined.holder other) (λ e. apart (sym (e ∙ mine)))))

  acts_are : acts_of u.did ≡ u.own
  acts_are = ap acts_of theirs_is ∙ acts_by other u.own

  module _ (t : AreStrands s.views id v) where
    abbrev name : ℕ → ℕ
    name k = cond (eqb k n) other (t.name k)

    name_old : (k : ℕ) → k < n → name k ≡ t.name k
    name_old k low = ap (λ b. cond b other (t.name k)) (ne_eqb k n (λ e. omega (arith, e, low)))

    name_new : (k : ℕ) → k ≡ n → name k ≡ other
    name_new k e = ap (λ b. cond b other (t.name k)) (eq-eqb k n e)

    not_other : (k : ℕ) → k < n → t.name k ≢ other
    not_other zero low e = apart (sym e ∙ t.mine)
    not_other (suc k) low e = gone_apart s.views other u at there (t.name (suc k)) (t.gone (suc k) (omega arith) low) e

    longer : length (strands_in w) ≡ n + 1
    longer = let a = length-append (strands_in v) (acts_of u.did ∷ []) in omega (arith, a)

    joined_gone : (k : ℕ) → 0 < k → k < length (strands_in w) → IsSeatGone after (name k)
    joined_gone k past low = dite (dec_lt k n)
        (λ lt. subst (IsSeatGone after) (sym (name_old k lt)) (gone_kept (t.name k) (t.gone k past lt)))
        (λ no. subst (IsSeatGone after) (sym (name_new k (omega (arith, no, low, longer)))) other_gone)

    joined_apart : (k l : ℕ) → k < length (strands_in w) → l < length (strands_in w) → name k ≡ name l → k ≡ l
    joined_apart k l low low' same = dite (dec_lt k n)
        (λ a. dite (dec_lt l n)
        (λ b. t.apart k l a b (sym (name_old k a) ∙ (same ∙ name_old l b)))
        (λ no. absurd (not_other k a (sym (name_old k a) ∙ (same ∙ name_new l (omega (arith, no, low', longer)))))))
        (λ no. dite (dec_lt l n)
        (λ b. absurd (not_other l b (sym (name_old l b) ∙ (sym same ∙ name_new k (omega (arith, no, low, longer))))))
        (λ no'. omega (arith, no, no', low, low', longer)))

    joined_theirs : (k : ℕ) → k < length (strands_in w) → part (name k) (v.did ++ u.did) ≡ by_seat (name k) (strand_at (strands_in w) k)
    joined_theirs k low = part-append (name k) v.did u.did ∙ dite (dec_lt k n)
        (λ lt. subst (λ j. part j v.did ++ part j u.did ≡ by_seat j (strand_at (strands_in w) k)) (sym (name_old k lt))
        (ap (λ (l : List (Deed Move)). part (t.name k) v.did ++ l) (ap (part (t.name k)) theirs_is ∙ part_by_other other (t.name k) u.own (λ e. not_other k lt (sym e)))
        ∙ (append-nil (part (t.name k) v.did) ∙ (t.theirs k lt ∙ ap (by_seat (t.name k)) (sym (at_front (strands_in v) (acts_of u.did) k lt))))))
        (λ no. let e : k ≡ n = omega (arith, no, low, longer) in
        subst (λ j. part j v.did ++ part j u.did ≡ by_seat j (strand_at (strands_in w) k)) (sym (name_new k e))
        (ap (λ (l : List (Deed Move)). l ++ part other u.did) untold ∙ (ap (part other) theirs_is ∙ (part_by_own other u.own
        ∙ ap (by_seat other) (sym acts_are ∙ sym (ap (strand_at (strands_in w)) e ∙ at_end (strands_in v) (acts_of u.did)))))))

    joined_others : (j : ℕ) → ((k : ℕ) → k < length (strands_in w) → name k ≢ j) → part j (v.did ++ u.did) ≡ []
    joined_others j h = part-append j v.did u.did ∙ (ap (λ (l : List (Deed Move)). l ++ part j u.did) (t.others j (λ k lt e. h k (omega (arith, lt, longer)) (name_old k lt ∙ e)))
        ∙ (ap (part j) theirs_is ∙ part_by_other other j u.own (λ e. h n (omega (arith, longer)) (name_new n refl ∙ e))))

    joined : AreStrands after id w
    joined = record { name = name; mine = name_old 0 (omega arith) ∙ t.mine; gone = joined_gone; apart = joined_apart; theirs = joined_theirs; others = joined_others }

  -- the other seat was joined into the first
  pub own_join : AreOwnViews after
  own_join i x e live = ⊎_elim
      (λ (g : (i ≡ other) × (spent_view ≡ x)). absurd (not_gone x.standing live (ap (λ (y : View). y.standing.gone) (sym g.1))))
      (λ (g : (i ≢ other) × (get_elem? (set s.views id w) i ≡ some x)). ⊎_elim
      (λ (h : (i ≡ id) × (w ≡ x)). subst (λ (y : View). IsOwnView after i y) h.1 (subst (λ k. IsOwnView after k w) (sym h.0) (record {
        plain = λ p. absurd (not_both v.standing.first is p);
        first = λ _. joined ((o.own id v me here).first is);
      })))
      (λ (h : (i ≢ id) × (get_elem? s.views i ≡ some x)). own_views s.views after i x gone_kept (o.own i x h.1 live))
      (at_set s.views id i w x g.1))
      (at_set (set s.views id w) other i spent_view x e)
