-- SPDX-License-Identifier: GPL-2.0-only
use Rattle.std.proofs.Common.{ℕ, Bool, List, ap, ◌∙◌}
use Rattle.std.specs.Prelude.{Option}
use Rattle.std.specs.Option.{is_some}
use Rattle.shr_base.specs.declared.journals.TreeEntry.{TreeEntry}
use Rattle.shr_model.specs.TreeJournal.{begin_of}
use Rattle.shr_charge.proofs.Entries.{begin_new}
use Rattle.shr_offline.proofs.offlining.offline.Goals as goal

pub hand_over-requires-in-Begun-clause-begun : goal.hand_over-requires-in-Begun-clause-begun
hand_over-requires-in-Begun-clause-begun g c = let t = c.in-Begun.ensures.tells in
    ap {B = Bool} (λ (o : Option ℕ). is_some o) (ap (λ (l : List TreeEntry). begin_of l c.args.group) t.gains.whole ∙ begin_new t.before c.args.group t.may.once)
