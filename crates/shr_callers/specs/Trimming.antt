-- SPDX-License-Identifier: GPL-2.0-only
-- What trimming a list gives.
use Rattle.std.specs.Prelude.{◌≡◌, ℕ, ◌+◌, ◌-◌, length, drop}
use Rattle.shr_base.specs.declared.journals.Entry.{Entry}
use Rattle.shr_base.specs.declared.objects.Policy.TheVariants.{Plain}
use Rattle.shr_list.specs.Answers.{RefusesClosed, RefusesWorn, LacksMemory, scan_entry}
use Rattle.shr_list.specs.Listed.{Listed}
use Rattle.shr_callers.specs.declared.recent.Trimmed.{Trimmed}
use Rattle.shr_callers.specs.declared.recent.Trimmed.TheVariants.{Freed, Closed, Worn, Memory}

-- how many objects stand above `most`
abbrev pub surplus : Listed → ℕ → ℕ
surplus l most = length l.items - most

-- the entry of a scan of the surplus
abbrev pub trim_entry : Listed → ℕ → Entry
trim_entry l most = scan_entry l 0 0 Plain (surplus l most)

-- the surplus is gone from the head, the rest stays in order, and the journal has one entry more
pub record FreesSurplus (old new : Listed) (most objects : ℕ) : Type 0 where
  pub number : objects ≡ surplus old most
  pub rest : new.items ≡ drop objects old.items
  pub entries : length new.entries ≡ length old.entries + 1

-- what `trim_to` answers
abbrev pub TrimGives : Listed → ℕ → Trimmed → Listed → Type 0
TrimGives old most (Freed objects) new = FreesSurplus old new most objects
TrimGives old most Closed new = RefusesClosed old new
TrimGives old most (Worn entries items) new = RefusesWorn old new (trim_entry old most) entries items
TrimGives old most Memory new = LacksMemory old new (trim_entry old most)
