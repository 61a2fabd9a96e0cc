-- SPDX-License-Identifier: GPL-2.0-only
-- Taking and giving keep the rule.
use Rattle.shr_deferred.proofs.Common.{◌≡◌, ℕ, false, ◌+◌, ◌^◌, ◌%◌, ◌<◌, ◌++◌, set, get_or, sym, refl, subst, ◌∙◌, Me, Allows, Place, amount_of, View, Sizes, IsPlaceOf, row_of, row_count, by_seat, acts_of, lined_sole, Moves, took, gave, take_of, give_of, IsDeferredSound, deeds_in, standing_in, spent_view, IsAlone, left_at, get_or-set_same, get_or-set_other, keeps}
use Rattle.shr_deferred.proofs.Frames.{on_move}
use Rattle.shr_deferred.proofs.Words as words

-- the seat with this number, with more moves
abbrev pub with_moves : ℕ → Me (Unit {0}) View → Moves → Me (Unit {0}) View
with_moves id m more = (record m.0 { did = m.0.did ++ by_seat id more; own = m.0.own ++ more }, m.1)

module _ (z : Sizes) (slots id : ℕ) (m : Me (Unit {0}) View) (p : Place) (inside : IsPlaceOf z p) (low : row_of z p < row_count z) (here : m.0.standing.gone ≡ false) where
  -- the exchange with 0 is a step that the rule allows
  pub takes : Allows (IsDeferredSound z) slots id m (row_of z p) (λ _. 0) (λ n r. (r ≡ with_moves id m (take_of p n)) × (IsAlone m.0.standing → n ≡ left_at p (acts_of m.0.did)))
  takes s o deep me fits = let i : ℕ = row_of z p in let v : View = m.0 in let n : ℕ = get_or s.words i 0 in (
    record v { did = v.did ++ by_seat id (take_of p n); own = v.own ++ take_of p n },
    keeps,
    tt,
    on_move z s o id v me here s.homes i 0 (took (amount_of p n)) (o.left p inside)
        (words.takes z (λ k. get_or s.words k 0) (λ k. get_or (set s.words i 0) k 0) o.line o.left id p inside
        (λ k other. get_or-set_other s.words i k 0 0 other) n (get_or-set_same s.words i 0 0 (subst (λ k. i < k) (sym o.wide) low))),
    (
      refl,
      (λ alone. o.left p inside ∙ words.left_is p o.line v.did o.taken (lined_sole standing_in deeds_in s.views id v me here o.line o.lined spent_view alone.0 alone.1 o.seats o.emptied refl)),
    ),
  )

  -- the addition is a step that the rule allows
  pub gives : (n : ℕ) → Allows (IsDeferredSound z) slots id m (row_of z p) (λ y. (y + n) % 2 ^ 64) (λ _ r. r ≡ with_moves id m (give_of p n))
  gives n s o deep me fits = let i : ℕ = row_of z p in let v : View = m.0 in let sum-now : ℕ = (get_or s.words i 0 + n) % 2 ^ 64 in (
    record v { did = v.did ++ by_seat id (give_of p n); own = v.own ++ give_of p n },
    keeps,
    tt,
    on_move z s o id v me here s.homes i sum-now (gave (amount_of p n)) tt
        (words.gives z (λ k. get_or s.words k 0) (λ k. get_or (set s.words i sum-now) k 0) o.line o.left id p inside
        (λ k other. get_or-set_other s.words i k sum-now 0 other) n (get_or-set_same s.words i sum-now 0 (subst (λ k. i < k) (sym o.wide) low))),
    refl,
  )
