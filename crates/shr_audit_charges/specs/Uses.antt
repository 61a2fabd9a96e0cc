-- SPDX-License-Identifier: GPL-2.0-only
-- The keys of operations.
use Rattle.std.specs.Prelude.{ℕ, Bool, cond, List, [], ◌∷◌}
use Rattle.shr_base.specs.declared.journals.UseStep.{UseStep}
use Rattle.shr_audit_charges.specs.Own.{own_key}

-- the group of an operation, alone or with its command, by one number
abbrev pub use_key : Bool → UseStep → ℕ
use_key own o = cond own (own_key o.group o.by.worker o.by.command) (own_key o.group 0 0)

-- the key of an operation that goes up
abbrev pub up_keys : Bool → UseStep → List ℕ
up_keys own o = cond o.up (use_key own o ∷ []) []

-- the key of one that goes down
abbrev pub down_keys : Bool → UseStep → List ℕ
down_keys own o = cond o.up [] (use_key own o ∷ [])
