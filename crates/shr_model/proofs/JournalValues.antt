-- SPDX-License-Identifier: GPL-2.0-only
-- The journals of registrations and of offlining, the histories of groups, and records of passes,
-- at known values.
use Rattle.shr_model.proofs.Common.{◌≡◌, ℕ, ℤ, pos, zero, suc, ◌+◌, ◌<◌, Bool, true, false, List, [], ◌∷◌, take, drop, refl, Some, None, Option, lit<, subst, arith, Registered, Unregistered, Idle, TreeEntry, Begin, Done, Through, Stop, IsNextPool, IsPoolJournal, Hierarchy, IsHierarchy, IsTree, parent_of, is_later, FollowsArithmetic, UseStep, Serial, IsNextUse, IsDownNext, Made, IsChargeHistory, IsBelow, AreTakenBack}
use Rattle.shr_model.specs.Pool.{phase_of, decl_from, number_from, is_live_below, lowest_free}
use Rattle.shr_model.specs.TreeJournal.{MayFollow, IsTreeJournal}
use Rattle.shr_model.specs.Pass.{due, ask_size}
use Rattle.shr_model.proofs.Lists.{each_at}
use Rattle.shr_model.proofs.PoolLaws.{IsPoolJournal_none, IsPoolJournal_push}

pool_twice : IsPoolJournal 1 1 (Registered 0 0 0 ∷ Unregistered 0 0 3 ∷ Idle 0 ∷ Registered 0 0 3 ∷ [])
unfolding phase_of decl_from number_from is_live_below lowest_free
pool_twice =
    let a = IsPoolJournal_push 1 1 [] (Registered 0 0 0) (IsPoolJournal_none 1 1) (lit< tt, refl, refl, omega arith) in
    let b = IsPoolJournal_push 1 1 (Registered 0 0 0 ∷ []) (Unregistered 0 0 3) a (refl, refl, omega arith) in
    let c = IsPoolJournal_push 1 1 (Registered 0 0 0 ∷ Unregistered 0 0 3 ∷ []) (Idle 0) b refl in
    IsPoolJournal_push 1 1 (Registered 0 0 0 ∷ Unregistered 0 0 3 ∷ Idle 0 ∷ []) (Registered 0 0 3) c (lit< tt, refl, refl, omega arith)

-- a group, its child, and the root
abbrev chain : List ℕ
chain = 0 ∷ 0 ∷ 1 ∷ []

-- none of them is later; or the last one is; or the last two are
abbrev none_later : Hierarchy
none_later = record { parents = chain; later = false ∷ false ∷ false ∷ [] }

abbrev last_later : Hierarchy
last_later = record { parents = chain; later = false ∷ false ∷ true ∷ [] }

abbrev both_later : Hierarchy
both_later = record { parents = chain; later = false ∷ true ∷ true ∷ [] }

-- the root and a group
abbrev two : Hierarchy
two = record { parents = 0 ∷ 0 ∷ []; later = false ∷ false ∷ [] }

chain_tree : IsTree chain
chain_tree = record { has_root = lit< tt; root = refl; lower = lower } where
  lower : (g : ℕ) → 0 < g → g < 3 → parent_of chain g < g
  lower zero up low = absurd (omega (arith, up))
  lower (suc zero) up low = lit< tt
  lower (suc (suc zero)) up low = lit< tt
  lower (suc (suc (suc n))) up low = absurd (omega (arith, low))

-- the parent of a group that isn't later is there from the start
later_parent : IsHierarchy both_later
later_parent = record { tree = chain_tree; each = refl; root = refl; above = above } where
  above : (g : ℕ) → g < 3 → is_later both_later.later g ≡ false → is_later both_later.later (parent_of chain g) ≡ false
  above zero low e = refl
  above (suc zero) low e = absurd (cc)
  above (suc (suc zero)) low e = absurd (cc)
  above (suc (suc (suc n))) low e = absurd (omega (arith, low))

not_below_later : IsHierarchy (record { parents = chain; later = false ∷ true ∷ false ∷ [] }) → ⊥
not_below_later h = let e : true ≡ false = h.above 2 (lit< tt) refl in cc

-- Begin 1 before Done 2 is no journal
not_tree : IsTreeJournal none_later (Begin 1 ∷ []) → ⊥
not_tree h = no 2 (h 0 (Begin 1) refl).children where
  no : (x : ℕ) → Some x ≡ None → ⊥
  no x e = subst is_some e tt where
    is_some : Option ℕ → Type 0
    is_some None = ⊥
    is_some (Some y) = Unit {0}

-- a pass over 1000 objects, and one that a stop ended before any ask
row_three : FollowsArithmetic 0 2 0 (record { len = 1000; version = 7; nr = 0; asks = 15; closed = 0; scanned = 1920; freed = 1920; next = 80; ending = Through })
unfolding due ask_size
row_three = record { made = refl; scanned = refl; next = refl; closed = omega arith }

row_nine : FollowsArithmetic 0 2 0 (record { len = 1000; version = 7; nr = 0; asks = 0; closed = 0; scanned = 0; freed = 0; next = 2000; ending = Stop })
unfolding due ask_size
row_nine = record { made = lit< tt; scanned = refl; next = refl; closed = omega arith }

-- of two idle ids the lower one is registered
not_second_id : IsNextPool 2 1 [] (Registered 0 1 0) → ⊥
unfolding phase_of lowest_free
not_second_id h = no h.2 where
  no : ◌≡◌ {A = Option ℕ} (Some 0) (Some 1) → ⊥
  no e = cc

-- a declaration isn't registered while it is live
not_while_live : IsNextPool 2 1 (Registered 0 0 0 ∷ []) (Registered 0 1 0) → ⊥
unfolding phase_of decl_from is_live_below
not_while_live h = no h.1 where
  no : true ≡ false → ⊥
  no e = cc

-- a declaration that the script doesn't have
not_declared : IsNextPool 1 1 [] (Registered 1 0 0) → ⊥
not_declared h = let e = h.0 in omega (arith, e)

-- the numbers of an id never fall
not_falling : IsNextPool 1 1 (Registered 0 0 0 ∷ Unregistered 0 0 3 ∷ Idle 0 ∷ []) (Registered 0 0 2) → ⊥
unfolding number_from
not_falling h = let e = h.3 in omega (arith, e)

not_falling_end : IsNextPool 1 1 (Registered 0 0 3 ∷ []) (Unregistered 0 0 2) → ⊥
unfolding number_from
not_falling_end h = let e = h.2 in omega (arith, e)

-- an Unregistered names the declaration of its Registered, and stands only where the id is live
not_its_own : IsNextPool 1 2 (Registered 0 0 0 ∷ []) (Unregistered 1 0 3) → ⊥
unfolding decl_from
not_its_own h = let e = h.1 in omega (arith, e)

not_twice : IsNextPool 1 1 (Registered 0 0 0 ∷ Unregistered 0 0 3 ∷ []) (Unregistered 0 0 3) → ⊥
unfolding phase_of
not_twice h = let e = h.0 in omega (arith, e)

-- an id is idle only after it was dying
not_idle : IsNextPool 1 1 (Registered 0 0 0 ∷ []) (Idle 0) → ⊥
unfolding phase_of
not_idle h = omega (arith, h)

-- a child and then its parent go offline
abbrev offlined : List TreeEntry
offlined = Begin 2 ∷ Done 2 ∷ Begin 1 ∷ Done 1 ∷ []

tree_journal : IsTreeJournal none_later offlined
tree_journal = each_at (λ n e. MayFollow none_later (take n offlined) e) offlined (
  record { below = lit< tt; there = lit< tt; made = refl; once = refl; children = refl },
  (
    record { begun = refl; once = refl },
    (record { below = lit< tt; there = lit< tt; made = refl; once = refl; children = refl }, (record { begun = refl; once = refl }, tt)),
  ),
)

-- the root never begins, no group does twice, and none is done before it began
root_begins : IsTreeJournal (record { parents = 0 ∷ []; later = false ∷ [] }) (Begin 0 ∷ []) → ⊥
root_begins h = let e = (h 0 (Begin 0) refl).below in omega (arith, e)

begins_twice : IsTreeJournal two (Begin 1 ∷ Begin 1 ∷ []) → ⊥
begins_twice h = no (h 1 (Begin 1) refl).once where
  no : ◌≡◌ {A = Option ℕ} (Some 0) None → ⊥
  no e = cc

done_first : IsTreeJournal two (Done 1 ∷ []) → ⊥
done_first h = absurd (let e = (h 0 (Done 1) refl).begun in cc)

-- a later child is made, goes offline, and then its parent does
abbrev made_and_offlined : List TreeEntry
made_and_offlined = Made 2 ∷ Begin 2 ∷ Done 2 ∷ Begin 1 ∷ Done 1 ∷ []

made_journal : IsTreeJournal last_later made_and_offlined
made_journal = each_at (λ n e. MayFollow last_later (take n made_and_offlined) e) made_and_offlined (
  record { there = lit< tt; late = refl; once = refl; parent = refl; online = refl },
  (
    record { below = lit< tt; there = lit< tt; made = refl; once = refl; children = refl },
    (
      record { begun = refl; once = refl },
      (record { below = lit< tt; there = lit< tt; made = refl; once = refl; children = refl }, (record { begun = refl; once = refl }, tt)),
    ),
  ),
)

-- a group whose later child was never made goes offline
never_made : IsTreeJournal last_later (Begin 1 ∷ Done 1 ∷ [])
never_made = each_at (λ n e. MayFollow last_later (take n (Begin 1 ∷ Done 1 ∷ [])) e) (Begin 1 ∷ Done 1 ∷ []) (
  record { below = lit< tt; there = lit< tt; made = refl; once = refl; children = refl },
  (record { begun = refl; once = refl }, tt),
)

-- the child of a group that is made first
made_in_turn : IsTreeJournal both_later (Made 1 ∷ Made 2 ∷ [])
made_in_turn = each_at (λ n e. MayFollow both_later (take n (Made 1 ∷ Made 2 ∷ [])) e) (Made 1 ∷ Made 2 ∷ []) (
  record { there = lit< tt; late = refl; once = refl; parent = refl; online = refl },
  (record { there = lit< tt; late = refl; once = refl; parent = refl; online = refl }, tt),
)

-- no group is made that isn't later, or twice, or before its parent, or once its parent began to go
-- offline
made_anyhow : IsTreeJournal none_later (Made 2 ∷ []) → ⊥
made_anyhow h = let e : false ≡ true = (h 0 (Made 2) refl).late in cc

made_twice : IsTreeJournal last_later (Made 2 ∷ Made 2 ∷ []) → ⊥
made_twice h = no (h 1 (Made 2) refl).once where
  no : ◌≡◌ {A = Option ℕ} (Some 0) None → ⊥
  no e = cc

made_before_parent : IsTreeJournal both_later (Made 2 ∷ []) → ⊥
made_before_parent h = let e : false ≡ true = (h 0 (Made 2) refl).parent in cc

made_below_offline : IsTreeJournal last_later (Begin 1 ∷ Made 2 ∷ []) → ⊥
made_below_offline h = no (h 1 (Made 2) refl).online where
  no : ◌≡◌ {A = Option ℕ} (Some 0) None → ⊥
  no e = cc

-- a group goes offline only once it is made, and not while a child of it is made
begins_unmade : IsTreeJournal last_later (Begin 2 ∷ []) → ⊥
begins_unmade h = let e : false ≡ true = (h 0 (Begin 2) refl).made in cc

begins_with_child : IsTreeJournal last_later (Made 2 ∷ Begin 1 ∷ []) → ⊥
begins_with_child h = no (h 1 (Begin 1) refl).children where
  no : ◌≡◌ {A = Option ℕ} (Some 2) None → ⊥
  no e = cc

-- the operations of group 1 with the limit 1: an up, and a down that finds the limit and is no
-- refusal, and an up
abbrev command : ℕ → Serial
command k = record { worker = 0; command = k }

abbrev op : Bool → ℕ → ℤ → ℕ → UseStep
op up number found k = record { group = 1; operation = number; up = up; found = found; by = command k }

abbrev ops : List UseStep
ops = op true 0 (pos 0) 0 ∷ op false 1 (pos 1) 1 ∷ op true 2 (pos 0) 1 ∷ []

history : IsChargeHistory 1 ops
history = each_at (λ n o. IsNextUse 1 (take n ops) o) ops (
  record { group = refl; number = refl; found = refl },
  (record { group = refl; number = refl; found = refl }, (record { group = refl; number = refl; found = refl }, tt)),
)

-- a history begins with operation 0, and each found what was there
not_from_one : IsChargeHistory 1 (op true 1 (pos 0) 0 ∷ []) → ⊥
not_from_one h = let e = (h 0 _ refl).number in omega (arith, e)

not_found : IsChargeHistory 1 (op true 0 (pos 1) 0 ∷ []) → ⊥
not_found h = no (h 0 _ refl).found where
  no : pos 1 ≡ pos 0 → ⊥
  no e = cc

below_one : IsBelow (Some 1) (op true 0 (pos 0) 0)
below_one = omega arith

at_limit : IsBelow (Some 1) (op true 0 (pos 1) 0) → ⊥
at_limit h = absurd (omega (arith, h))

-- a down is never refused, and a refused up is taken back by the command's next operation
ups_alone : AreTakenBack (Some 1) ops
ups_alone = each_at (λ n o. o.up ≡ true → (IsBelow (Some 1) o → ⊥) → IsDownNext o.by (drop (n + 1) ops)) ops (
  (λ up no. absurd (no below_one)),
  ((λ up no. absurd (cc)), ((λ up no. absurd (no below_one)), tt)),
)

taken_back : AreTakenBack (Some 1) (op true 0 (pos 1) 0 ∷ op false 1 (pos 2) 0 ∷ [])
taken_back = each_at (λ n o. o.up ≡ true → (IsBelow (Some 1) o → ⊥) → IsDownNext o.by (drop (n + 1) (op true 0 (pos 1) 0 ∷ op false 1 (pos 2) 0 ∷ []))) (op true 0 (pos 1) 0 ∷ op false 1 (pos 2) 0 ∷ []) ((λ up no. refl), ((λ up no. absurd (cc)), tt))

not_taken_back : AreTakenBack (Some 1) (op true 0 (pos 1) 0 ∷ op true 1 (pos 2) 0 ∷ []) → ⊥
not_taken_back h = no (h 0 _ refl refl at_limit) where
  no : true ≡ false → ⊥
  no e = cc

never_taken_back : AreTakenBack (Some 1) (op true 0 (pos 1) 0 ∷ []) → ⊥
never_taken_back h = h 0 _ refl refl at_limit

-- a pass that ended by Stop made fewer asks than were due
not_stopped : FollowsArithmetic 0 2 0 (record { len = 1000; version = 7; nr = 0; asks = 15; closed = 0; scanned = 1920; freed = 0; next = 80; ending = Stop }) → ⊥
unfolding due ask_size
not_stopped h = let e = h.made in omega (arith, e)
