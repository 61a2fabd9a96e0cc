-- SPDX-License-Identifier: GPL-2.0-only
use Rattle.shr_list.proofs.Common.{rules, length, ap, Scanned}
use Rattle.shr_list.proofs.Scans.{scan_none}
use Rattle.shr_list.proofs.contents.Contents.count_freed.Goals as goal

pub returns-in-None : goal.returns-in-None
returns-in-None c =
    let none = ap (λ (s : Scanned). length s.freed) (scan_none c.args.policy c.args.asked) in
    search rules
