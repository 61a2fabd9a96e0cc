-- SPDX-License-Identifier: GPL-2.0-only
use Rattle.shr_charge.proofs.Common.{ap, sym, ◌∙◌, hierarchy_of, state_at}
use Rattle.shr_charge.proofs.States.{absent_made}
use Rattle.shr_charge.proofs.table.Charge.made_in.Goals as goal

pub returns-in-NotMade-clause-made : goal.returns-in-NotMade-clause-made
returns-in-NotMade-clause-made c = let h = hierarchy_of c.args.self.now.shape in let es = c.args.entries.now in let g = c.args.group in
    let is = ap (λ l. state_at h l g) (sym c.requires.journal) ∙ (sym c.state_in_hand.ensures.state ∙ c.in-NotMade.is) in sym (absent_made h es g is)
