-- SPDX-License-Identifier: GPL-2.0-only
-- What a finished core says of the one seat that is left, over journals and numbers alone.
use Rattle.std.specs.Prelude.{◌≡◌, ℕ, ◌+◌, ◌*◌, ◌/◌, ◌%◌, ◌<◌, ◌≤◌, List, [], map, length, cond, ◌&&◌, nat_lt, nat_le, true, Contains, None}
use Rattle.std.specs.Int.{bit_at}
use Rattle.shr_base.specs.declared.ends.Closed.{Closed}
use Rattle.shr_model.specs.Items.{is_closed}
use Rattle.shr_model.specs.Families.{moved_in, items_at, IsLegal}
use Rattle.shr_model.specs.Pool.{phase_of, last_number, IsPoolJournal}
use Rattle.shr_seats.specs.Views.{Each}
use Rattle.shr_seats.specs.Weights.{total, times, Begins}
use Rattle.shr_core.specs.declared.view.View.{View}
use Rattle.shr_core.specs.declared.setting.Setting.{Setting}
use Rattle.shr_core.specs.Layout.{places_in, place_at, place_id, group_of, above, map_of, place_bit}
use Rattle.shr_core.specs.Lookup.{lookups_of}
use Rattle.shr_seats.specs.Lines.{Deed, part}
use Rattle.shr_core.specs.Parts.{Event}
use Rattle.shr_core.specs.Order.{AreEvents, AreOwn, AreInUse, IsMoment, last_moment}
use Rattle.shr_core.specs.Rule.{Journals, Histories, IsInside, IsMade, IsKnown, IsSeen, IsTried, IsLoaded, IsTurn, IsDated, HasOnlyIds, hit, hit_attempt, hit_turn, items_now, family_of}
use Rattle.shr_seats.specs.Shapes.{groups_in}
use Rattle.shr_core.specs.Ending.{end_value, ends_below, lookups_below, nodes_below, units_in}

-- what a finished core says of the view of the one seat that is left, and of what it leaves
pub record IsLeft (key : Setting) (v : View) (closed : Closed) : Type 0 where
  -- the journals of the places, their items after each entry, and the last bit words and lookup
  -- words
  pub now : Journals
  pub after : Histories
  pub bits : ℕ → ℕ
  pub look : ℕ → ℕ
  -- what is left is these
  pub places : map end_value closed.places.items ≡ ends_below (places_in key.shape.ids) now (items_now now after)
  pub maps : closed.maps.items ≡ nodes_below (units_in key.shape.ids) (groups_in key.shape) key.shape.nodes bits
  pub lookups : closed.lookups.items ≡ lookups_below key.shape.ids look
  -- each journal is of a place of the shape, legal, and leaves its items
  pub placed : (k : ℕ) → 0 < length (now k) → IsInside key.shape k
  pub legal : (k : ℕ) → IsLegal key.shape.parents.items (family_of now) (place_at k)
  pub items : (k n : ℕ) → n ≤ length (now k) → after k n ≡ items_at key.shape.parents.items (family_of now) (place_at k) n
  -- the list of a child is closed exactly where its parent's took it in
  pub closed_in : (k : ℕ) → 0 < group_of k → group_of k < groups_in key.shape → is_closed (now k) ≡ true → Contains (moved_in (now (above key.shape.parents.items k))) (group_of k)
  pub taken : (k : ℕ) → 0 < group_of k → group_of k < groups_in key.shape → v.holding.half ≡ None → Contains (moved_in (now (above key.shape.parents.items k))) (group_of k) → is_closed (now k) ≡ true
  -- the seat made each entry once, with the items that stood before it, and what it knew and
  -- counted is so
  pub made : Each (IsMade now after) v.traces.made
  pub once : (k n : ℕ) → total (hit k n) v.traces.made ≡ cond (nat_lt n (length (now k))) 1 0
  pub known : Each (IsKnown now) v.traces.known
  pub seen : Each (IsSeen now after) v.traces.seen
  -- a live place below the root with items, of which nothing is owed, has its bit
  pub flagged : (k : ℕ) → k < places_in key.shape.ids → 0 < group_of k → phase_of (place_id k) closed.pool.items % 3 ≡ 1 → 0 < length (items_now now after k) → times k v.marks.owed ≡ 0 → bit_at (bits (map_of k)) (place_bit k) ≡ 1
  -- a bit that was set and never cleared is set, in each map seen since too
  pub settled : (k : ℕ) → k < places_in key.shape.ids → 0 < times k v.marks.sets → times k v.marks.cleared ≡ 0 → bit_at (bits (map_of k)) (place_bit k) ≡ 1
  pub mapped : Each (λ m. (k : ℕ) → k < places_in key.shape.ids → map_of k ≡ m.map → 0 < times k m.set → times k v.marks.cleared ≡ 0 → bit_at m.bits (place_bit k) ≡ 1) v.marks.maps
  -- a bit that is set, or was seen to be, was set
  pub raised : (k : ℕ) → k < places_in key.shape.ids → bit_at (bits (map_of k)) (place_bit k) ≡ 1 → 0 < times k v.marks.sets
  pub shown : Each (λ m. (k : ℕ) → k < places_in key.shape.ids → map_of k ≡ m.map → bit_at m.bits (place_bit k) ≡ 1 → 0 < times k v.marks.sets) v.marks.maps
  -- each number of each id was drawn once, and was held exactly where it lies in a registration
  pub drawn : (i n : ℕ) → i < key.shape.ids → total (hit_attempt i n) v.claims.attempts ≡ cond (nat_le key.first_lookup n && nat_lt n (lookups_of (look i))) 1 0
  pub tried : Each (IsTried key.shape.ids closed.pool.items) v.claims.attempts
  pub loaded : Each (IsLoaded key.shape.ids look) v.claims.loaded
  -- an idle id has empty lists
  pub resting : (k : ℕ) → k < places_in key.shape.ids → phase_of (place_id k) closed.pool.items % 3 ≡ 0 → items_now now after k ≡ []
  -- the pool's journal is legal, each entry was made once, and what any seat knew of it begins it
  pub journal : IsPoolJournal key.shape.ids key.shape.decls closed.pool.items
  pub turned : Each (IsTurn closed.pool.items) v.turns.made
  pub turned_once : (n : ℕ) → total (hit_turn n) v.turns.made ≡ cond (nat_lt n (length closed.pool.items)) 1 0
  pub pool : Begins v.turns.known closed.pool.items
  pub heard : Each (λ es. Begins es closed.pool.items) v.turns.heard
  -- no entry of an id has a number past its lookups, and an id that was held when the pool was given
  -- had its registration ended only after the lookup that held it
  pub numbers : (id : ℕ) → id < key.shape.ids → last_number id closed.pool.items ≤ lookups_of (look id)
  pub dated : Each (IsDated key.shape.ids look closed.pool.items) v.turns.dated
  -- one order of all that was done: each seat's as it did it, each event so where it stands, and the
  -- end of it what is left
  pub line : List (Deed Event)
  pub parts : (seat : ℕ) → part seat v.did ≡ part seat line
  pub events : AreEvents key.shape.ids key.first_lookup line
  pub ends : IsMoment key.shape.ids now closed.pool.items bits look (last_moment key.first_lookup line)
  -- each bit that is set, or was seen to be, stands for an id
  pub none_else : (m b : ℕ) → m < places_in key.shape.ids → b < 64 → bit_at (bits m) b ≡ 1 → 64 * (m / 1024) + b < key.shape.ids
  pub none_shown : Each (HasOnlyIds key.shape.ids) v.marks.maps
  -- a reference was given back only by the seat that took it
  pub own : AreOwn line
  -- what was done on the lists of an id was done in its use, and its end after that
  pub uses : AreInUse line
