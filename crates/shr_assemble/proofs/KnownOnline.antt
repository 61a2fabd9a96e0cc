-- SPDX-License-Identifier: GPL-2.0-only
-- What a worker doesn't know of a group it didn't know before.
use Rattle.shr_assemble.proofs.Common.{◌≡◌, ℕ, List, sym, subst, Some, slice_index_or, slice_get-get_or, TreeEntry, begin_of, Begins, TreeView, begin_grows, KnowsOnline, LoadedState}
use Rattle.shr_charge.specs.declared.answers.GroupState.TheVariants as state
use Rattle.shr_lawful.proofs.Listed.{all_slice, begins_slice}

-- a group that isn't known to be offline wasn't known to be so before
pub online_before : (s t : TreeView) (group : ℕ) → Begins s.loaded t.loaded → Begins s.known t.known → KnowsOnline t group → KnowsOnline s group
online_before s t group words known k = record {
  loaded = λ i d lt. all_slice (λ (l : LoadedState). l.group ≡ group → (entry : ℕ) → l.state ≡ state.Offline entry → ⊥) t.loaded i (slice_index_or s.loaded i d) k.loaded
      (begins_slice s.loaded t.loaded i (slice_index_or s.loaded i d) words (slice_get-get_or s.loaded i d lt));
  known = λ entry e. k.known entry (subst (λ (l : List TreeEntry). begin_of l group ≡ Some entry) (sym known.1) (begin_grows s.known group known.0 entry e));
}
