-- SPDX-License-Identifier: GPL-2.0-only
-- What the first seats have once the workers' seats were joined into them, field by field.
use Rattle.shr_assemble.proofs.Common.{◌≡◌, ℕ, List, [], ◌∷◌, ◌++◌, sym, refl, ap, ◌∙◌, append_assoc, flat_map, Option, append-nil, PlaceAmount, PoolEntry, TreeEntry, UseStep, Made, Known, Counted, Mapped, Tried, Loaded, Turn, Dated, CrewState, Firsts, with_workers, takes_of, gives_of, takes_both, gives_both, with_worker}
use Rattle.shr_charge.specs.Views as charge

-- a list that each join makes longer by the worker's
pub joined_list : {A : Type 0} (g : Firsts → List A) (h : CrewState → List A) → ((f : Firsts) (w : CrewState) → g (with_worker f w) ≡ g f ++ h w)
    → (f : Firsts) (ws : List CrewState) → g (with_workers f ws) ≡ g f ++ flat_map h ws
joined_list g h one f [] = sym (append-nil (g f))
joined_list g h one f (w ∷ ws) = joined_list g h one (with_worker f w) ws ∙ (ap (λ l. l ++ flat_map h ws) (one f w) ∙ append_assoc (g f) (h w) (flat_map h ws))

-- a field that no join changes
pub joined_same : {A : Type 0} (g : Firsts → A) → ((f : Firsts) (w : CrewState) → g (with_worker f w) ≡ g f) → (f : Firsts) (ws : List CrewState) → g (with_workers f ws) ≡ g f
joined_same g one f [] = refl
joined_same g one f (w ∷ ws) = joined_same g one (with_worker f w) ws ∙ one f w

module _ (f : Firsts) (ws : List CrewState) where
  pub joined_made : (with_workers f ws).core.traces.made ≡ f.core.traces.made ++ flat_map (λ (w : CrewState). w.seats.core.traces.made) ws
  joined_made = joined_list {A = Made} (λ g. g.core.traces.made) (λ (w : CrewState). w.seats.core.traces.made) (λ g w. refl) f ws

  pub joined_known : (with_workers f ws).core.traces.known ≡ f.core.traces.known ++ flat_map (λ (w : CrewState). w.seats.core.traces.known) ws
  joined_known = joined_list {A = Known} (λ g. g.core.traces.known) (λ (w : CrewState). w.seats.core.traces.known) (λ g w. refl) f ws

  pub joined_seen : (with_workers f ws).core.traces.seen ≡ f.core.traces.seen ++ flat_map (λ (w : CrewState). w.seats.core.traces.seen) ws
  joined_seen = joined_list {A = Counted} (λ g. g.core.traces.seen) (λ (w : CrewState). w.seats.core.traces.seen) (λ g w. refl) f ws

  pub joined_sets : (with_workers f ws).core.marks.sets ≡ f.core.marks.sets ++ flat_map (λ (w : CrewState). w.seats.core.marks.sets) ws
  joined_sets = joined_list {A = ℕ} (λ g. g.core.marks.sets) (λ (w : CrewState). w.seats.core.marks.sets) (λ g w. refl) f ws

  pub joined_cleared : (with_workers f ws).core.marks.cleared ≡ f.core.marks.cleared ++ flat_map (λ (w : CrewState). w.seats.core.marks.cleared) ws
  joined_cleared = joined_list {A = ℕ} (λ g. g.core.marks.cleared) (λ (w : CrewState). w.seats.core.marks.cleared) (λ g w. refl) f ws

  pub joined_maps : (with_workers f ws).core.marks.maps ≡ f.core.marks.maps ++ flat_map (λ (w : CrewState). w.seats.core.marks.maps) ws
  joined_maps = joined_list {A = Mapped} (λ g. g.core.marks.maps) (λ (w : CrewState). w.seats.core.marks.maps) (λ g w. refl) f ws

  pub joined_owed : (with_workers f ws).core.marks.owed ≡ f.core.marks.owed
  joined_owed = joined_same {A = List ℕ} (λ g. g.core.marks.owed) (λ g w. refl) f ws

  pub joined_half : (with_workers f ws).core.holding.half ≡ f.core.holding.half
  joined_half = joined_same {A = Option ℕ} (λ g. g.core.holding.half) (λ g w. refl) f ws

  pub joined_attempts : (with_workers f ws).core.claims.attempts ≡ f.core.claims.attempts ++ flat_map (λ (w : CrewState). w.seats.core.claims.attempts) ws
  joined_attempts = joined_list {A = Tried} (λ g. g.core.claims.attempts) (λ (w : CrewState). w.seats.core.claims.attempts) (λ g w. refl) f ws

  pub joined_loaded : (with_workers f ws).core.claims.loaded ≡ f.core.claims.loaded ++ flat_map (λ (w : CrewState). w.seats.core.claims.loaded) ws
  joined_loaded = joined_list {A = Loaded} (λ g. g.core.claims.loaded) (λ (w : CrewState). w.seats.core.claims.loaded) (λ g w. refl) f ws

  pub joined_turns : (with_workers f ws).core.turns.made ≡ f.core.turns.made ++ flat_map (λ (w : CrewState). w.seats.core.turns.made) ws
  joined_turns = joined_list {A = Turn} (λ g. g.core.turns.made) (λ (w : CrewState). w.seats.core.turns.made) (λ g w. refl) f ws

  pub joined_pool : (with_workers f ws).core.turns.known ≡ f.core.turns.known
  joined_pool = joined_same {A = List PoolEntry} (λ g. g.core.turns.known) (λ g w. refl) f ws

  pub joined_heard : (with_workers f ws).core.turns.heard ≡ f.core.turns.heard ++ flat_map (λ (w : CrewState). w.seats.core.turns.known ∷ w.seats.core.turns.heard) ws
  joined_heard = joined_list {A = List PoolEntry} (λ g. g.core.turns.heard) (λ (w : CrewState). w.seats.core.turns.known ∷ w.seats.core.turns.heard) (λ g w. refl) f ws

  pub joined_dated : (with_workers f ws).core.turns.dated ≡ f.core.turns.dated ++ flat_map (λ (w : CrewState). w.seats.core.turns.dated) ws
  joined_dated = joined_list {A = Dated} (λ g. g.core.turns.dated) (λ (w : CrewState). w.seats.core.turns.dated) (λ g w. refl) f ws

  pub joined_ops : (with_workers f ws).uses.ops ≡ f.uses.ops ++ flat_map (λ (w : CrewState). w.seats.uses.ops) ws
  joined_ops = joined_list {A = UseStep} (λ g. g.uses.ops) (λ (w : CrewState). w.seats.uses.ops) (λ g w. refl) f ws

  pub joined_entries : (with_workers f ws).tree.made ≡ f.tree.made ++ flat_map (λ (w : CrewState). w.seats.tree.made) ws
  joined_entries = joined_list {A = charge.TreeMade} (λ g. g.tree.made) (λ (w : CrewState). w.seats.tree.made) (λ g w. refl) f ws

  pub joined_words : (with_workers f ws).tree.loaded ≡ f.tree.loaded ++ flat_map (λ (w : CrewState). w.seats.tree.loaded) ws
  joined_words = joined_list {A = charge.LoadedState} (λ g. g.tree.loaded) (λ (w : CrewState). w.seats.tree.loaded) (λ g w. refl) f ws

  pub joined_tree_heard : (with_workers f ws).tree.heard ≡ f.tree.heard ++ flat_map (λ (w : CrewState). w.seats.tree.known ∷ w.seats.tree.heard) ws
  joined_tree_heard = joined_list {A = List TreeEntry} (λ g. g.tree.heard) (λ (w : CrewState). w.seats.tree.known ∷ w.seats.tree.heard) (λ g w. refl) f ws

  pub joined_takes : takes_of (with_workers f ws).moves ≡ takes_of f.moves ++ flat_map (λ (w : CrewState). takes_of w.seats.moves) ws
  joined_takes = joined_list {A = PlaceAmount} (λ g. takes_of g.moves) (λ (w : CrewState). takes_of w.seats.moves) (λ g w. takes_both g.moves w.seats.moves) f ws

  pub joined_gives : gives_of (with_workers f ws).moves ≡ gives_of f.moves ++ flat_map (λ (w : CrewState). gives_of w.seats.moves) ws
  joined_gives = joined_list {A = PlaceAmount} (λ g. gives_of g.moves) (λ (w : CrewState). gives_of w.seats.moves) (λ g w. gives_both g.moves w.seats.moves) f ws
