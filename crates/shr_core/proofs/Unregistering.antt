-- SPDX-License-Identifier: GPL-2.0-only
-- That an owner made the last Unregistered of its id is kept.
use Rattle.shr_core.proofs.Common.{◌≡◌, ◌≢◌, ℕ, zero, suc, ◌%◌, ◌<◌, true, false, List, [], ◌∷◌, ◌++◌, length, set, sym, refl, ap, subst, ◌∙◌, ⊎_elim, arith, eq-eqb, ne_eqb, length-append, Some, dite, ℕ_discrete, some, some-ne-none, get_elem?, at_set, LookupWord, PoolEntry, phase_of, one_of, phase_of_push, Each, View, Shape, Turn, HasLastEnd, HasOwnEnd, turn_at, at_snoc, at_longer, at_last, take-append-le, ends_registration}
use Rattle.shr_core.proofs.Options.{one_some, not_some}
use Rattle.std.proofs.Math.Seq.{take-append_seam}
use Rattle.shr_core.proofs.Claiming.{by_phase, turn_here, turn_else}
use Rattle.shr_core.proofs.Owning.{Becomes}

-- what stands in a list is below its length
pub there : {A : Type 0} (l : List A) (n : ℕ) (x : A) → get_elem? l n ≡ some x → n < length l
there [] n x e = absurd (some-ne-none x (sym e))
there (y ∷ l) zero x e = omega arith
there (y ∷ l) (suc n) x e = omega (arith, there l n x e)

-- more turns of the view
pub more : (i : ℕ) (pool : List PoolEntry) (made others : List Turn) → HasLastEnd i pool made → HasLastEnd i pool (made ++ others)
more i pool made others h = record { place = h.place; turn = h.turn; own = at_longer made others h.place h.turn h.own; stands = h.stands; ends = h.ends; last = h.last; alone = h.alone }

-- an entry that ends no registration of the id
pub stays : (i : ℕ) (pool : List PoolEntry) (e : PoolEntry) (made : List Turn) → ends_registration i e ≡ false → one_of i e ≡ 0 → HasLastEnd i pool made → HasLastEnd i (pool ++ e ∷ []) made
stays i pool e made other apart h = record {
  place = h.place;
  turn = h.turn;
  own = h.own;
  stands = at_longer pool (e ∷ []) h.turn.number h.turn.entry h.stands;
  ends = h.ends;
  last = λ n x after at. ⊎_elim (λ old. h.last n x after old) (λ same. ap (ends_registration i) (sym same) ∙ other) (at_snoc pool e x n at);
  alone = omega (arith, h.alone, phase_of_push i pool e, apart, ap (phase_of i) (take-append-le h.turn.number pool (e ∷ []) (omega (arith, there pool h.turn.number h.turn.entry h.stands))));
}

-- the view's own entry ends the id's registration
pub makes : (i : ℕ) (pool : List PoolEntry) (e : PoolEntry) (made : List Turn) → ends_registration i e ≡ true → one_of i e ≡ 1 → HasLastEnd i (pool ++ e ∷ []) (made ++ record { number = length pool; entry = e } ∷ [])
makes i pool e made ends own = let turn : Turn = record { number = length pool; entry = e } in record {
  place = length made;
  turn = turn;
  own = at_last made turn (length made) refl;
  stands = at_last pool e (length pool) refl;
  ends = ends;
  last = λ n x after at. absurd (omega (arith, after, there (pool ++ e ∷ []) n x at, length-append pool (e ∷ [])));
  alone = omega (arith, phase_of_push i pool e, own, ap (phase_of i) (take-append_seam pool (e ∷ [])));
}

-- the entry of a phase step ends a registration only of a live id
turn_no_end : (q i d : ℕ) (word : LookupWord) → (q ≡ i → word.phase % 3 ≢ 1) → ends_registration q (turn_at i d word) ≡ false
turn_no_end q i d word live = by_phase (λ e. ends_registration q e ≡ false) i d word (λ _. refl) (λ one. ne_eqb i q (λ same. live (sym same) one)) (λ _. refl)

turn_end : (i d : ℕ) (word : LookupWord) → word.phase % 3 ≡ 1 → ends_registration i (turn_at i d word) ≡ true
turn_end i d word one = by_phase (λ e. ends_registration i e ≡ true) i d word (λ z. absurd (omega (arith, one, z))) (λ _. eq-eqb i i refl) (λ z. absurd (omega (arith, one, z)))

-- a phase step: an owner begins with its own Unregistered, and an id that has an owner is not live
pub phases : (shape : Shape) (pool : List PoolEntry) (views : List View) (id i d : ℕ) (word : LookupWord) (v w : View) → get_elem? views id ≡ some v → phase_of i pool ≡ word.phase
    → ((j : ℕ) (z : View) → get_elem? views j ≡ some z → (q : ℕ) → z.claims.owner ≡ Some q → phase_of q pool % 3 ≡ 2)
    → ((j : ℕ) (z : View) → j ≢ id → get_elem? views j ≡ some z → (q : ℕ) → z.claims.owner ≡ Some q → v.claims.owner ≡ Some q → ⊥)
    → (word.phase % 3 ≡ 2 → v.claims.owner ≡ Some i)
    → Becomes shape i word.phase v.claims w.claims → w.turns.made ≡ v.turns.made ++ record { number = length pool; entry = turn_at i d word } ∷ []
    → Each (HasOwnEnd pool) views → Each (HasOwnEnd (pool ++ turn_at i d word ∷ [])) (set views id w)
phases shape pool views id i d word v w me is dying one_owner owns becomes made o j z at q has = ⊎_elim
    (λ (t : (j ≡ id) × (w ≡ z)). subst (λ (x : View). HasLastEnd q pool' x.turns.made) t.1 (subst (HasLastEnd q pool') (sym made) (mine (ap (λ (x : View). x.claims.owner) t.1 ∙ has))))
    (λ (t : (j ≢ id) × (get_elem? views j ≡ some z)). stays q pool e z.turns.made (unended j z t.1 q has) (turn_else i q d word (apart j z t.0 t.1 q has)) (o j z t.1 q has))
    (at_set views id j w z at) where
      e : PoolEntry
      e = turn_at i d word

      pool' : List PoolEntry
      pool' = pool ++ turn_at i d word ∷ []

      unended : (a : ℕ) (x : View) → get_elem? views a ≡ some x → (q : ℕ) → x.claims.owner ≡ Some q → ends_registration q (turn_at i d word) ≡ false
      unended a x f q own = turn_no_end q i d word (λ same one. omega (arith, dying a x f q own, ap (λ y. phase_of y pool) same, is, one))

      apart : (a : ℕ) (x : View) → a ≢ id → get_elem? views a ≡ some x → (q : ℕ) → x.claims.owner ≡ Some q → q ≢ i
      apart a x ne f q own same = one_owner a x ne f q own (owns (omega (arith, dying a x f q own, ap (λ y. phase_of y pool) same, is)) ∙ ap (λ (y : ℕ). Some y) (sym same))

      mine : w.claims.owner ≡ Some q → HasLastEnd q (pool ++ turn_at i d word ∷ []) (v.turns.made ++ record { number = length pool; entry = turn_at i d word } ∷ [])
      mine own = dite (ℕ_discrete (word.phase % 3) 0)
          (λ zero-phase. let was : v.claims.owner ≡ Some q = sym (becomes.same zero-phase).0 ∙ own in
          more q pool' v.turns.made (record { number = length pool; entry = turn_at i d word } ∷ []) (stays q pool e v.turns.made (unended id v me q was) (turn_else i q d word (λ same. omega (arith, dying id v me q was, ap (λ y. phase_of y pool) same, is, zero-phase))) (o id v me q was)))
          (λ nz. dite (ℕ_discrete (word.phase % 3) 1)
          (λ one. let same : i ≡ q = one_some i q w.claims.owner (becomes.gains one).0 own in makes q pool e v.turns.made (subst (λ (x : ℕ). ends_registration x (turn_at i d word) ≡ true) same (turn_end i d word one)) (subst (λ (x : ℕ). one_of x (turn_at i d word) ≡ 1) same (turn_here i d word)))
          (λ no. absurd (not_some q w.claims.owner (becomes.ends (omega arith)) own)))
