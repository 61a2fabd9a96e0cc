-- SPDX-License-Identifier: GPL-2.0-only
-- The names that the proofs of this crate cite most, passed on from one place. Declares nothing.
pub use Rattle.std.proofs.Common.{Bool, List, [], ap, arith, cond, decimal, false, get_or, length, map, not, refl, subst, suc, sym, true, zero, ℕ, ⊎_elim, ◌%◌, ◌&&◌, ◌*◌, ◌++◌, ◌+◌, ◌-◌, ◌<◌, ◌^◌, ◌∙◌, ◌∷◌, ◌≡◌, ◌≢◌, ◌≤◌}
pub use Rattle.std.proofs.lemmas.Bool.Decides.{nat_tests}
pub use Rattle.std.proofs.lemmas.List.FromFn.{get_or-map-range_with_len, length-map-range_with_len, map-range_with_len_more}
pub use Rattle.std.specs.List.{list_all, range_with_len}
pub use Rattle.std.specs.Prelude.{None, Ok, Some, bytes_eq, codes, flat_map, nat_le, nat_lt, ◌==◌}
pub use Rattle.shr_model.specs.Paths.{root_path}
pub use Rattle.shr_gen.specs.Generated.{MayBeGenerated, cache_by, chosen_by, generated_command, commands_from, drawn_after, generated, group_at, worker_group, is_offline, key_text, next_draw, node_by, worker_path, priority_by, target_by, three_caches, value_text}
