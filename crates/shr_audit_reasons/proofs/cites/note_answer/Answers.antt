-- SPDX-License-Identifier: GPL-2.0-only
use Rattle.shr_audit_reasons.proofs.Common.{◌≡◌, ℕ, List, Option, Some, subst, sym, ◌↔◌, command_at, serial_of, Cited, CitesNow, NotesAnswer}
use Rattle.shr_base.specs.declared.scripts.Command.{Command}
use Rattle.shr_audit_reasons.proofs.Noting.{none_noted, told_noted}
use Rattle.shr_audit_reasons.proofs.cites.note_answer.Goals as goal

pub returns-in_default : goal.returns-in_default
returns-in_default c = none_noted c.args.script.now c.args.report.now c.args.what c.args.worker c.args.number c.args.table.now.items (sym c.in_default.ensures)

pub returns : goal.returns
returns c =
    let s = c.args.script.now in
    let r = c.args.report.now in
    let told = c.told-cited.result in
    let a = c.in-Some.answer.now in
    let old = c.args.table.now.items in
    let tells : (n : ℕ) → CitesNow r c.args.what (command_at s (serial_of c.args.worker c.args.number)) a.reply n ↔ (told ≡ Some n) = subst (λ (o : Option Command). (n : ℕ) → CitesNow r c.args.what o a.reply n ↔ (told ≡ Some n)) c.command_of.ensures c.told-cited.ensures in
    subst (λ (table : List Cited). NotesAnswer s r c.args.what c.args.worker c.args.number old table) (sym c.note.ensures) (told_noted s r c.args.what c.args.worker c.args.number a told old c.in-Some.ensures tells)
