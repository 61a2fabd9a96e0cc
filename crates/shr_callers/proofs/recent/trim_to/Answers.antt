-- SPDX-License-Identifier: GPL-2.0-only
use Rattle.std.proofs.Common.{arith, ap, sym, ◌∙◌, ◌-◌, length, ℕ, length-append}
use Rattle.std.specs.Prelude.{drop}
use Rattle.shr_callers.proofs.PlainScans.{trimmed, rest}
use Rattle.shr_callers.proofs.recent.trim_to.Goals as goal

-- src/recent.rt:32:22
pub overflow_cast-result : goal.overflow_cast-result
overflow_cast-result c =
    let items = c.args.list.now.items in
    let count = trimmed c.saturating_sub-asked.result c.args.most items c.in-Scanned.freed.items (c.saturating_sub-asked.ensures ∙ ap (λ k. k - c.args.most) c.len.ensures) c.in-Scanned.ensures.answer.0.removed in
    omega (arith, c.len-in-Scanned.ensures, count, c.len.ensures, c.len.type_inv)

-- src/recent.rt:26:1
pub returns-in-Scanned : goal.returns-in-Scanned
returns-in-Scanned c =
    let items = c.args.list.now.items in
    let takes = c.in-Scanned.ensures.answer.1 in
    let budget = c.saturating_sub-asked.ensures ∙ ap (λ k. k - c.args.most) c.len.ensures in
    let count = c.len-in-Scanned.ensures ∙ trimmed c.saturating_sub-asked.result c.args.most items c.in-Scanned.freed.items budget c.in-Scanned.ensures.answer.0.removed in
    record {
      answer = record {
        number = count;
        rest = rest c.saturating_sub-asked.result c.args.most items c.scan.new.self.items budget takes.gains.items ∙ ap (λ (k : ℕ). drop k items) (sym count);
        entries = ap (λ es. length es) takes.gains.entries ∙ length-append c.args.list.now.entries _;
      };
    }
