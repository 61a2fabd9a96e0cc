-- SPDX-License-Identifier: GPL-2.0-only
-- The Scan entries of a report by their passes.
use Rattle.std.specs.List.Sorted.{IsNonDecreasingBy}
use Rattle.shr_laws.specs.declared.report.Report.{Report}
use Rattle.shr_audit_walks.specs.declared.scan_table.Scans.{Scans}
use Rattle.shr_audit_walks.specs.Keys.{row_key}
use Rattle.shr_audit_walks.specs.ScanRows.{AreRowsOf}

-- those of one pass stand together
abbrev pub AreSorted : Scans → Type 0
AreSorted t = IsNonDecreasingBy row_key t.rows.items

-- they are those of the report
abbrev pub AreScansIn : Report → Scans → Type 0
AreScansIn r t = AreRowsOf r.places.items t.rows.items
