-- SPDX-License-Identifier: GPL-2.0-only
-- What a verdict asks, by values.
use Rattle.shr_audit.proofs.Common.{◌≡◌, [], None, refl, arith, Script, IsFault, Report, AreRepliesLawful, kept, nothing_read, Lawful, BadScript, BadReport, IsTightScript, IsFirstBroken, HoldsOf}
use Rattle.shr_model.specs.Pieces.{cut, pieces, joined}
use Rattle.shr_base.specs.declared.scripts.Code.TheVariants.{NoEnd}
use Rattle.shr_script.specs.Script.{spell_lines, state_after_lines, AreLines}
use Rattle.shr_script.specs.Faults.{verdict}
use Rattle.shr_audit.specs.declared.verdict.Law.TheVariants as laws
use Rattle.shr_audit.specs.declared.given.Given.TheVariants.{Both, Bad}
use Rattle.shr_audit.specs.Given.{IsGiven}
use Rattle.shr_audit.proofs.Order.{no_less}
use Rattle.shr_audit.proofs.OneVerdict.{no_fault}

-- a script of one node and one id
abbrev small : Script
small = record {
  version = 1;
  nodes = 1;
  ids = 1;
  groups = kept [];
  caches = kept [];
  pools = kept [];
  workers = kept [];
  sweep = None;
}

small_tight : IsTightScript small
small_tight = record { groups = refl; caches = refl; pools = refl; workers = refl; commands = tt }

-- one of which a list has room
roomy : IsTightScript (record small { groups = record { items = []; spare = 1 } }) → ⊥
roomy h = absurd (let e : 1 ≡ 0 = h.groups in omega (arith, e))

-- a report of another version breaks the law on replies, the first
other_version : AreRepliesLawful small nothing_read → ⊥
other_version h = absurd (let e : 0 ≡ 1 = h.version in omega (arith, e))

replies_first : IsFirstBroken laws.Replies small nothing_read
replies_first = record { before = λ other lt. absurd (no_less other lt); broken = λ h. other_version h.0 }

-- whatever else it breaks, that isn't the first
journals_not_first : IsFirstBroken laws.Journals small nothing_read → ⊥
journals_not_first h = other_version (h.before laws.Replies (omega arith)).0

-- no bytes are a script that ends at once
none_end : IsFault [] 1 NoEnd
unfolding pieces cut joined spell_lines state_after_lines verdict AreLines
none_end = record { good = []; part = []; others = []; are_good = tt; bytes_are = refl; parted = refl; line_is = refl; bad = refl }

none_bad : HoldsOf [] [] (BadScript 1 NoEnd)
none_bad = none_end

-- so they are no lawful report either
not_lawful : HoldsOf [] [] Lawful → ⊥
not_lawful h = no_fault [] h.0 1 NoEnd h.1.1.0.script none_end

none_given : IsGiven [] [] (Bad (BadScript 1 NoEnd))
none_given = none_end

-- they aren't both, whatever the script and the report
not_both : (r : Report) → IsGiven [] [] (Both small r) → ⊥
not_both r h = no_fault [] small 1 NoEnd h.script none_end

-- and nothing is said of the report
not_bad_report : HoldsOf [] [] BadReport → ⊥
not_bad_report h = no_fault [] h.0.0 1 NoEnd h.0.1 none_end
