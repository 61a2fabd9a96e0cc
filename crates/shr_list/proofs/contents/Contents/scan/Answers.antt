-- SPDX-License-Identifier: GPL-2.0-only
use Rattle.std.proofs.Common.{rules}
use Rattle.shr_list.proofs.Scans.{scan_none}
use Rattle.shr_list.proofs.contents.Contents.scan.Goals as goal
use Rattle.shr_list.proofs.contents.Contents.scan.Goals.{in-None, in-Some}

pub returns-clause-scanned : goal.returns-clause-scanned
returns-clause-scanned c =
    elim c.match-self.branch [
      | in-None w ↦ let none = scan_none c.args.policy c.args.asked in search rules
      | in-Some w ↦ search rules
    ]
