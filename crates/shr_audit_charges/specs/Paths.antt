-- SPDX-License-Identifier: GPL-2.0-only
-- The groups at or above another, each with a command by one number.
use Rattle.std.specs.Prelude.{ℕ, nat_lt, cond, List, length, map}
use Rattle.shr_base.specs.declared.places.Serial.{Serial}
use Rattle.shr_model.specs.Groups.{path_of}
use Rattle.shr_audit_charges.specs.Own.{own_key}

-- the group itself, or the root if it isn't there
abbrev pub start_of : List ℕ → ℕ → ℕ
start_of parents group = cond (nat_lt group (length parents)) group 0

-- a command in each of these groups
abbrev pub keys_with : Serial → List ℕ → List ℕ
keys_with by groups = map (λ group. own_key group by.worker by.command) groups

-- a command in each group that is there and is at or above another
abbrev pub path_keys : List ℕ → Serial → ℕ → List ℕ
path_keys parents by birth = keys_with by (path_of parents (start_of parents birth))
