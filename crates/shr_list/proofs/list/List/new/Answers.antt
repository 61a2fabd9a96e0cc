-- SPDX-License-Identifier: GPL-2.0-only
use Rattle.std.proofs.Common.{arith, refl}
use Rattle.shr_model.proofs.ItemsLaws.{HasJournal_none}
use Rattle.shr_list.proofs.list.List.new.Goals as goal

pub invariant_of-result : goal.invariant_of-result
invariant_of-result c =
    rw c.new.ensures record {
      flag = refl;
      sound = record {
        journal = HasJournal_none;
        entries = omega arith;
        open_entries = λ _. omega arith;
        items = omega arith;
        items_limit = c.requires.items;
        entries_limit = c.requires.entries;
      };
    }
