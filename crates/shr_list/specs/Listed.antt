-- SPDX-License-Identifier: GPL-2.0-only
-- What a contract sees of a list.
use Rattle.std.specs.Prelude.{◌≡◌, ℕ, ◌+◌, ◌^◌, ◌≤◌, Bool, false, List, length}
use Rattle.shr_model.specs.Items.{HasJournal, is_closed}
use Rattle.shr_base.specs.declared.objects.Object.{Object}
use Rattle.shr_base.specs.declared.journals.Entry.{Entry}

-- the journal, the items from the head, the key under which each is kept, and the two limits
pub record Listed : Type 0 where
  pub entries : List Entry
  pub items : List Object
  pub keys : List ℕ
  pub most_items : ℕ
  pub most_entries : ℕ

-- the items are what the journal leaves, and the limits hold
pub record IsSound (l : Listed) : Type 0 where
  pub journal : HasJournal l.entries l.items
  -- only the entry that closes the list may be one above the limit
  pub entries : length l.entries ≤ l.most_entries + 1
  pub open_entries : is_closed l.entries ≡ false → length l.entries ≤ l.most_entries
  pub items : length l.items ≤ l.most_items
  pub items_limit : l.most_items ≤ 2 ^ 20
  pub entries_limit : l.most_entries ≤ 2 ^ 31

-- the flag that the list keeps says what its journal says
pub record IsKept (closed : Bool) (l : Listed) : Type 0 where
  pub flag : closed ≡ is_closed l.entries
  pub sound : IsSound l
