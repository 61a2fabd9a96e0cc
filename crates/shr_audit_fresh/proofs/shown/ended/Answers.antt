-- SPDX-License-Identifier: GPL-2.0-only
use Rattle.shr_audit_fresh.proofs.Common.{◌≡◌, ℕ, subst, sym, ◌||◌, ◌==◌, TreeEntry, is_begin, is_done}
use Rattle.shr_audit_fresh.proofs.shown.ended.Goals as goal
use Rattle.std.proofs.Math.Bool.{or-false}

pub returns-in-Begin : goal.returns-in-Begin
returns-in-Begin c = subst (λ (e : TreeEntry). (g : ℕ) → (c.in-Begin.group == g) ≡ (is_begin g e || is_done g e)) (sym c.in-Begin.is) (λ g. sym (or-false (c.in-Begin.group == g)))
