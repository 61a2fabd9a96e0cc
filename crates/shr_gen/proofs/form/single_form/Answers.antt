-- SPDX-License-Identifier: GPL-2.0-only
use Rattle.shr_gen.proofs.FormsCommon.{◌∙◌, ◌∷◌, [], List, ap, sym, ℕ, codes, bytes_decides}
use Rattle.shr_gen.proofs.form.single_form.Goals as goal

pub returns-then-eq : goal.returns-then-eq
returns-then-eq c = ap (λ (w : List ℕ). w ∷ []) ((bytes_decides c.args.word.now (codes "run")).0 (sym c.eq.ensures ∙ c.if-eq.true))
