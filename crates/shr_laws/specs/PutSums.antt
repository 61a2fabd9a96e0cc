-- SPDX-License-Identifier: GPL-2.0-only
-- How many objects were added, by the puts of a script.
use Rattle.std.specs.Prelude.{◌≡◌, ℕ, List, slice_get, Some}
use Rattle.shr_base.specs.declared.places.At.{At}
use Rattle.shr_base.specs.declared.places.Target.{Target}
use Rattle.shr_base.specs.declared.replies.Answered.{Answered}
use Rattle.shr_base.specs.declared.replies.Reply.TheVariants.{Added}
use Rattle.shr_base.specs.declared.scripts.Command.TheVariants.{Put}
use Rattle.shr_base.specs.declared.scripts.Script.{Script}
use Rattle.shr_laws.specs.declared.report.Report.{Report}
use Rattle.shr_laws.specs.Parts.{puts_of, commands_of, answers_of}

-- each put was answered that its object was added
abbrev pub IsEachAdded : Script → Report → Type 0
IsEachAdded s r = (worker k : ℕ) (at : Target) (key value : List ℕ) (a : Answered) → slice_get (commands_of s worker) k ≡ Some (Put at key value) → slice_get (answers_of r worker) k ≡ Some a
    → (c : At) × (a.reply ≡ Added c)

-- where each put was, as many objects were added as the script has puts
abbrev pub DoPutsAddUp : Script → Report → Type 0
DoPutsAddUp s r = IsEachAdded s r → r.added ≡ puts_of s
