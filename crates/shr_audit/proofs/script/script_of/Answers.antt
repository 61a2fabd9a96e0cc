-- SPDX-License-Identifier: GPL-2.0-only
use Rattle.shr_audit.proofs.Common.{sym, subst, Script, IsScriptOf}
use Rattle.shr_audit.proofs.OneScript.{tight_read}
use Rattle.shr_audit.proofs.script.script_of.Goals as goal

pub returns-clause-found : goal.returns-clause-found
returns-clause-found c = subst (λ (s : Script). IsScriptOf c.args.bytes.now s) (sym c.in_ok-tight.ensures) (tight_read c.args.bytes.now c.in_ok-script.script c.in_ok-script.ensures.found)
