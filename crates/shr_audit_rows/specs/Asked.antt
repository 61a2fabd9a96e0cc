-- SPDX-License-Identifier: GPL-2.0-only
-- What replies say of a declaration after so many entries of the journal of registrations.
use Rattle.std.specs.Prelude.{ℕ, ◌↔◌, List, Option, Some, None, option_and_then}
use Rattle.std.specs.Option.{IsSomeAnd}
use Rattle.shr_base.specs.declared.replies.Reply.{Reply}
use Rattle.shr_base.specs.declared.replies.Reply.TheVariants as reply
use Rattle.shr_base.specs.declared.scripts.Command.{Command}
use Rattle.shr_base.specs.declared.scripts.Script.{Script}
use Rattle.shr_audit_formed.specs.Each.{EachItem}
use Rattle.shr_model.specs.Commands.{decl_named}
use Rattle.shr_laws.specs.declared.report.Report.{Report}
use Rattle.shr_laws.specs.Causes.{IsCached, IsFull, IsUncached}
use Rattle.shr_laws.specs.Parts.{command_at, reply_at, serial_of}
use Rattle.shr_audit_rows.specs.declared.asked.Asked.{Asked}
use Rattle.shr_audit_rows.specs.declared.asked.Said.{Said}
use Rattle.shr_audit_rows.specs.declared.asked.Said.TheVariants.{Uncached, Cached, Full}

-- what a reply to a command that names this declaration says, if it does
abbrev pub asked_in : Option ℕ → Reply → Option Asked
asked_in decl (reply.NoCache entry) = Some (record { entry = entry; decl = decl; said = Uncached })
asked_in decl (reply.AlreadyRegistered entry) = Some (record { entry = entry; decl = decl; said = Cached })
asked_in decl (reply.NoId entry) = Some (record { entry = entry; decl = decl; said = Full })
asked_in decl x = None

-- the same of the command with this number
abbrev pub asked_at : Script → Report → ℕ → ℕ → Option Asked
asked_at s r worker k = option_and_then (λ (c : Command). option_and_then (asked_in (decl_named c)) (reply_at r (serial_of worker k))) (command_at s (serial_of worker k))

-- what is said of a declaration is so
abbrev pub IsSaid : Script → Report → Said → ℕ → ℕ → Type 0
IsSaid s r Uncached decl entry = IsUncached s r decl entry
IsSaid s r Cached decl entry = IsCached s r decl entry
IsSaid s r Full decl entry = IsFull s r decl entry

-- there is a declaration, and what is said of it is so
abbrev pub IsAskedRight : Script → Report → Asked → Type 0
IsAskedRight s r a = IsSomeAnd a.decl (λ decl. IsSaid s r a.said decl a.entry)

-- the same, if something is said
abbrev pub IsSoIfAsked : Script → Report → Option Asked → Type 0
IsSoIfAsked s r None = Unit {0}
IsSoIfAsked s r (Some a) = IsAskedRight s r a

-- all that is said is so exactly where what was said before is, and this is
abbrev pub AddsSo : Script → Report → List Asked → List Asked → Type 0 → Type 0
AddsSo s r old new more = EachItem (IsAskedRight s r) new ↔ (EachItem (IsAskedRight s r) old × more)

-- what an answer says of a declaration is so
abbrev pub IsAskedSo : Script → Report → Type 0
IsAskedSo s r = (worker k : ℕ) → IsSoIfAsked s r (asked_at s r worker k)

-- this is all that answers say
abbrev pub AreAllSo : Script → Report → List Asked → Type 0
AreAllSo s r asked = EachItem (IsAskedRight s r) asked ↔ IsAskedSo s r
