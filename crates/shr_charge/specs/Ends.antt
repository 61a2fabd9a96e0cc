-- SPDX-License-Identifier: GPL-2.0-only
-- What is left of the table once all other seats were joined into the first.
use Rattle.std.specs.Prelude.{◌≡◌, ℕ, List, map, length, nat_lt, cond, All}
use Rattle.std.specs.List.{range_with_len}
use Rattle.shr_base.specs.declared.journals.UseStep.{UseStep}
use Rattle.shr_base.specs.declared.journals.TreeEntry.{TreeEntry}
use Rattle.shr_base.specs.declared.ends.ChargeEnd.{ChargeEnd}
use Rattle.shr_model.specs.Charges.{IsChargeHistory}
use Rattle.shr_model.specs.Groups.{Hierarchy}
use Rattle.shr_model.specs.TreeJournal.{IsTreeJournal}
use Rattle.shr_charge.specs.Views.{Uses, TreeView}
use Rattle.shr_charge.specs.Uses.{UseHistories, StandsInHistory, times_at, usage_word}
use Rattle.shr_charge.specs.Offlining.{IsTreeSeen, times_noted}

-- these operations are a history of each group, each operation once
pub record AreOperationsOf (history : UseHistories) (ops : List UseStep) : Type 0 where
  pub legal : (g : ℕ) → IsChargeHistory g (history g)
  pub there : All (StandsInHistory history) ops
  pub once : (g n : ℕ) → times_at g n ops ≡ cond (nat_lt n (length (history g))) 1 0

-- the entries that were made are the journal, each once, and what is known and was loaded is so of
-- it
pub record IsTreeJournalOf (h : Hierarchy) (journal : List TreeEntry) (t : TreeView) : Type 0 where
  pub legal : IsTreeJournal h journal
  pub seen : IsTreeSeen h journal t
  pub once : (n : ℕ) → times_noted n t.made ≡ cond (nat_lt n (length journal)) 1 0

-- the usage words count the operations of the view, and the journal is that of its entries
pub record IsEndOf (h : Hierarchy) (u : Uses) (t : TreeView) (end : ChargeEnd) : Type 0 where
  pub history : UseHistories
  pub operations : AreOperationsOf history u.ops
  pub usage : end.usage.items ≡ map (λ g. usage_word (history g)) (range_with_len 0 (length h.parents))
  pub tree : IsTreeJournalOf h end.tree.items t
