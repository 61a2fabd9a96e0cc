-- SPDX-License-Identifier: GPL-2.0-only
-- What a worker keeps, call after call.
use Rattle.shr_walk.proofs.Common.{◌≡◌, ℕ, Bool, List, [], ◌∷◌, ◌++◌, length, refl, sym, subst, ◌∙◌, GroupState, WalkRecord, Attempt, Shared, Walk, IsAttempted, Serial, WalkAnswer, WorkerState, Does, walk_work, word_work, OneGives, walk_over, Acting, IsSame, IsStill, walk_of}
use Rattle.shr_charge.specs.Steps.{with_load}
use Rattle.shr_walk.proofs.Doing.{does_none}

pub still_none : (a : Acting) → IsStill a a
still_none a = record { shared = refl; by = refl; room = refl }

pub still_then : (a b c : Acting) → IsStill a b → IsStill b c → IsStill a c
still_then a b c f g = record { shared = g.shared ∙ f.shared; by = g.by ∙ f.by; room = g.room ∙ f.room }

pub same_none : (a : Acting) → IsSame a a
same_none a = record { shared = refl; by = refl }

pub same_then : (a b c : Acting) → IsSame a b → IsSame b c → IsSame a c
same_then a b c f g = record { shared = g.shared ∙ f.shared; by = g.by ∙ f.by }

-- an attempt, by the tables that were shared at first
pub tried_by : (old a b : Acting) (walk : Walk) (id : ℕ) (one : Attempt) → IsStill old a → one.id ≡ id → IsAttempted a.shared walk id one.outcome a.state b.state → IsAttempted old.shared walk one.id one.outcome a.state b.state
tried_by old a b walk id one still is tried = subst (λ (x : Shared). IsAttempted x walk one.id one.outcome a.state b.state) still.shared
    (subst (λ (i : ℕ). IsAttempted a.shared walk i one.outcome a.state b.state) (sym is) tried)

-- what holds of the tables and the command of a worker holds of those that it began with
pub same_for : (P : Shared → Serial → Type 0) (old a : Acting) → IsSame old a → P a.shared a.by → P old.shared old.by
same_for P old a same h = subst (λ (x : Shared). P x old.by) same.shared (subst (λ (b : Serial). P a.shared b) same.by h)

-- a walk of a balance, by the tables and the command that the balance began with
pub one_by : (old a : Acting) (group node priority : ℕ) (nofs : Bool) (answer : WalkAnswer) (t : WorkerState) → IsSame old a → OneGives a.shared (walk_of a group node priority nofs) answer a.state t
    → OneGives old.shared (walk_over (walk_of old 0 node priority nofs) group (length a.state.walks)) answer a.state t
one_by old a group node priority nofs answer t same one = same_for (λ x b. OneGives x (record { by = b; number = length a.state.walks; group = group; node = node; priority = priority; nofs = nofs }) answer a.state t) old a same one

-- loading a group's word adds that load alone
pub does_load : (s t : WorkerState) (group : ℕ) (state : GroupState) → t ≡ record s { tree = with_load s.tree group state } → Does s t (word_work group state)
does_load s t group state loaded = let n = does_none s in subst (λ (u : WorkerState). Does s u (word_work group state)) (sym loaded)
    record { core = n.core; uses = n.uses; noted = n.noted; words = refl; tree = n.tree; gives = n.gives; known = n.known; heard = n.heard; hand = n.hand; rise = n.rise; few = n.few; moves = n.moves; walks = n.walks; carries = n.carries }

-- the record of a walk is all that noting it adds
pub does_note : (s : WorkerState) (walks : List WalkRecord) (walk : WalkRecord) → walks ≡ s.walks ++ walk ∷ [] → Does s (record s { walks = walks }) (walk_work walk)
does_note s walks walk noted = let n = does_none s in record { core = n.core; uses = n.uses; noted = n.noted; words = n.words; tree = n.tree; gives = n.gives; known = n.known; heard = n.heard; hand = n.hand; rise = n.rise; few = n.few; moves = n.moves; walks = noted; carries = n.carries }
