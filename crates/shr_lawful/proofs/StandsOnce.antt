-- SPDX-License-Identifier: GPL-2.0-only
-- In a legal journal of the tree the Done of a group stands once.
use Rattle.shr_lawful.proofs.Common.{◌≡◌, ℕ, ◌<◌, ⊎_elim, List, take, sym, ◌∙◌, arith, slice_get, Some, cases_lt, none-some, dite, ℕ_discrete, TreeEntry, Done, Hierarchy, IsTreeJournal, done_found, take_in, MayBeDone}

module _ (h : Hierarchy) (es : List TreeEntry) (legal : IsTreeJournal h es) where
  pub done_once : (g n m : ℕ) → slice_get es n ≡ Some (Done g) → slice_get es m ≡ Some (Done g) → n ≡ m
  done_once g n m a b = dite (ℕ_discrete n m) (λ e. e) (λ ne. ⊎_elim (λ lt. absurd (late n m a b lt)) (λ le. absurd (late m n b a (omega (arith, ne, le)))) (cases_lt n m)) where
    late : (n m : ℕ) → slice_get es n ≡ Some (Done g) → slice_get es m ≡ Some (Done g) → n < m → ⊥
    late n m a b lt = let may : MayBeDone (take m es) g = legal m (Done g) b in let t = done_found (take m es) g n (take_in es m n (Done g) lt a) in none-some t.0 (sym may.once ∙ t.1)
