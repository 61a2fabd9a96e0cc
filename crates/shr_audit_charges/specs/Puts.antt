-- SPDX-License-Identifier: GPL-2.0-only
-- Operations that go up, and whether they are of puts.
use Rattle.std.specs.Prelude.{◌≡◌, true, List}
use Rattle.std.specs.Option.{IsSomeAnd}
use Rattle.shr_base.specs.declared.journals.UseStep.{UseStep}
use Rattle.shr_base.specs.declared.scripts.Script.{Script}
use Rattle.shr_model.specs.Commands.{is_put}
use Rattle.shr_laws.specs.Parts.{command_at}
use Rattle.shr_audit_formed.specs.Each.{EachItem}

-- an operation that goes up is of a put
abbrev pub IsUpOfPut : Script → UseStep → Type 0
IsUpOfPut s o = o.up ≡ true → IsSomeAnd (command_at s o.by) (λ c. is_put c ≡ true)

-- each of these is
abbrev pub AreUpsOfPuts : Script → List UseStep → Type 0
AreUpsOfPuts s uses = EachItem (IsUpOfPut s) uses
