-- SPDX-License-Identifier: GPL-2.0-only
-- The pools of a valid script.
use Rattle.std.specs.Prelude.{All, List, [], ◌∷◌}
use Rattle.std.specs.List.{AllByRecursion}
use Rattle.std.proofs.lemmas.List.Elements.{All-cons, All-nil}
use Rattle.shr_base.specs.declared.scripts.PoolDecl.{PoolDecl}
use Rattle.shr_plain.specs.Opening.{setting_by}
use Rattle.shr_plain.specs.Settings.{IsSetting}
use Rattle.shr_script.specs.Bounds.{IsPoolWithin}

-- the settings of pools within a script's bounds are such
pub all_settings : (ds : List PoolDecl) → AllByRecursion IsPoolWithin ds → All (λ (d : PoolDecl). IsSetting (setting_by d)) ds
all_settings [] within = All-nil (λ (d : PoolDecl). IsSetting (setting_by d))
all_settings (d ∷ ds) within = let one = within.0 in All-cons (λ (d : PoolDecl). IsSetting (setting_by d)) d ds (record { seeks = one.seeks; batch = one.batch; floor = one.floor }) (all_settings ds within.1)
