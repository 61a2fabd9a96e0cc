-- SPDX-License-Identifier: GPL-2.0-only
-- The groups from the last to the root: the lists that are ready, and what was told.
use Rattle.shr_audit_case.proofs.ReplayCommon.{◌≡◌, ◌≢◌, ℕ, ◌+◌, ◌<◌, ◌≤◌, Bool, true, false, cond, List, [], ◌∷◌, ◌++◌, length, set, refl, sym, ap, ◌∙◌, subst, ◌⊎◌, inl, inr, arith, Option, Some, None, length-set, length-append, slice_set, slice_index_or, get_or-set_same, get_or-set_other, cases_Bool, Object, Entry, Place, Queued, is_child, at_group, Family, before_closed, Replayed, given_by, no_queue, took_of, KeepsOthers, IsReplayed, given_from, AreJournals, AreReplayed, printed_entries, zero, suc, ⊎_elim, slice_get, slice_index, IsTree, parent_of, IsReplayedAt}
use Rattle.std.proofs.lemmas.Option.{slice_get_within, slice_get_past}
use mathlib.Core.Logic.{dite}
use native.Mathlib.Decide.{ℕ_discrete}
use Rattle.shr_base.specs.declared.ends.PlaceEnd.{PlaceEnd}
use Rattle.shr_model.specs.Families.{items_within, items_given, lists_moved, lists_moved_at}
use Rattle.shr_model.specs.Items.{items_from}
use Rattle.shr_model.proofs.GroupsLaws.{child_takes, child_higher}
use Rattle.shr_model.proofs.MovesLaws.{same_items_within}

-- what the list of a group gives to that of its parent
abbrev pub ready_items : List ℕ → Family → Place → ℕ → List Object
ready_items parents family place group = items_within (length parents) parents family (at_group place group) (before_closed (family (at_group place group)))

-- the groups from this one on were replayed: each list that is still to be taken is ready, and this was told
pub record AreClimbed (parents : List ℕ) (family : Family) (printed : Place → List Object) (place : Place) (low : ℕ) (lists : List Queued) (told : List Replayed) : Type 0 where
  pub ready : (group : ℕ) → low ≤ group → group < length parents → parent_of parents group < low → given_by lists group ≡ ready_items parents family place group
  pub each : (k group : ℕ) (r : Replayed) → slice_get told k ≡ Some r → group + k + 1 ≡ length parents → IsReplayedAt parents family printed (at_group place group) r

-- before the last group
pub climbed_none : (parents : List ℕ) (family : Family) (printed : Place → List Object) (place : Place) (lists : List Queued) (told : List Replayed) → told ≡ [] → AreClimbed parents family printed place (length parents) lists told
climbed_none parents family printed place lists told none = record {
  ready = λ group low high below. absurd (omega arith);
  each = λ k group r here e. absurd (omega (arith, slice_get_within told k r here, ap length none));
}

module _ (parents : List ℕ) (tree : IsTree parents) (family : Family) (printed : Place → List Object) (place : Place) (group : ℕ) (within : group < length parents) (lists after : List Queued) (told : List Replayed) (b : AreClimbed parents family printed place (group + 1) lists told) where
  -- the lists of its children are ready
  pub took_is : took_of parents group lists ≡ items_given parents family (at_group place group)
  took_is = λ i c. at c (is_child parents group c) refl i where
    at : (c : ℕ) (x : Bool) → is_child parents group c ≡ x → cond (is_child parents group c) (given_by lists c) [] ≡ cond (is_child parents group c) (ready_items parents family place c) []
    at c true is = let child = child_takes parents group c is in let higher = child_higher parents group c tree child in
        ap (λ (os : List Object). cond (is_child parents group c) os []) (b.ready c (omega (arith, higher)) child.there (omega (arith, child.parent)))
    at c false is = rw is refl

  -- what is told of its journal is so
  pub one_told : (r : Replayed) (entries : List Entry) (items : List Object) → family (at_group place group) ≡ entries → printed (at_group place group) ≡ items → IsReplayed (lists_moved (took_of parents group lists) entries) entries items r
      → IsReplayedAt parents family printed (at_group place group) r
  one_told r entries items e p is = subst (λ (es : List Entry). IsReplayed (lists_moved (items_given parents family (at_group place group)) es) es (printed (at_group place group)) r) (sym e)
      (subst (λ (took : ℕ → List Object). IsReplayed (lists_moved took entries) entries (printed (at_group place group)) r) took_is
      (subst (λ (os : List Object). IsReplayed (lists_moved (took_of parents group lists) entries) entries os r) (sym p) is))

  -- levels below the last group change nothing
  levels : given_from (items_given parents family (at_group place group)) [] (family (at_group place group)) ≡ ready_items parents family place group
  unfolding items_within
  levels = sym (same_items_within parents tree family (length parents) (suc (length parents)) (at_group place group) (before_closed (family (at_group place group))) (omega arith) (omega arith) within)

  -- what its list gives is ready
  pub one_given : (given : List Object) (entries : List Entry) → family (at_group place group) ≡ entries → given ≡ given_from (took_of parents group lists) [] entries → given ≡ ready_items parents family place group
  one_given given entries e is = is ∙ (ap (λ (took : ℕ → List Object). given_from took [] entries) took_is ∙ (ap (λ (es : List Entry). given_from (items_given parents family (at_group place group)) [] es) (sym e) ∙ levels))

  -- one group more
  pub climbed_more : (r : Replayed) (q : Queued) → IsReplayedAt parents family printed (at_group place group) r → q.items ≡ ready_items parents family place group → length lists ≡ length parents → KeepsOthers parents group lists after → length told + group + 1 ≡ length parents
      → AreClimbed parents family printed place group (slice_set after group q) (told ++ r ∷ [])
  climbed_more r q is given many kept done = record {
    ready = λ c low high below. dite (ℕ_discrete c group)
        (λ same. ap (given_by (slice_set after group q)) same ∙ (ap (λ (y : Queued). y.items) (get_or-set_same after group q no_queue (omega (arith, kept.count, many, within))) ∙ (given ∙ ap (ready_items parents family place) (sym same))))
        (λ other. ap (λ (y : Queued). y.items) (get_or-set_other after group c q no_queue other) ∙ (kept.others c (no_child c below) ∙ b.ready c (omega (arith, low, other)) high (omega (arith, below))));
    each = λ k g s here e. ⊎_elim
        (λ before. b.each k g s before e)
        (λ (last : (k ≡ length told) × (r ≡ s)). let same : g ≡ group = omega (arith, e, done, last.0) in subst (λ (n : ℕ). IsReplayedAt parents family printed (at_group place n) s) (sym same) (subst (IsReplayedAt parents family printed (at_group place group)) last.1 is))
        (last_of told k s r here);
  } where
    no_child : (c : ℕ) → parent_of parents c < group → is_child parents group c ≡ false
    no_child c below = ⊎_elim (λ (t : is_child parents group c ≡ true). let child = child_takes parents group c t in absurd (omega (arith, child.parent, below))) (λ f. f) (cases_Bool (is_child parents group c))

    last_of : (l : List Replayed) (k : ℕ) (s x : Replayed) → slice_get (l ++ x ∷ []) k ≡ Some s → (slice_get l k ≡ Some s) ⊎ ((k ≡ length l) × (x ≡ s))
    last_of [] zero s x e = inr (refl, (cc))
    last_of [] (suc k) s x e = let none : slice_get (x ∷ []) (suc k) ≡ None = slice_get_past (x ∷ []) (suc k) (omega arith) in cc
    last_of (y ∷ l) zero s x e = inl e
    last_of (y ∷ l) (suc k) s x e = ⊎_elim (λ before. inl before) (λ (last : (k ≡ length l) × (x ≡ s)). inr (omega (arith, last.0), last.1)) (last_of l k s x e)
