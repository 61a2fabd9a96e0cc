-- SPDX-License-Identifier: GPL-2.0-only
-- The law on causes, and its fields but that on replies.
use Rattle.shr_base.specs.declared.scripts.Script.{Script}
use Rattle.shr_laws.specs.declared.report.Report.{Report}
use Rattle.shr_laws.specs.CausesLawful.{AreCausesLawful}
use Rattle.shr_audit_rows.specs.Law.{AreCausesLawfulButReplies}
use Rattle.shr_audit_causes.specs.Rows.{AreRowsCaused}

pub whole_of : (s : Script) (r : Report) → AreRowsCaused s r → AreCausesLawfulButReplies s r → AreCausesLawful s r
whole_of s r rows h = record {
  rows = rows;
  walks = h.walks.walks;
  attempts = h.walks.attempts;
  passes = h.walks.passes;
  plain = h.walks.plain;
  begins = h.entries.begins;
  dones = h.entries.dones;
  mades = h.entries.mades;
  pool = h.entries.pool;
  drained = h.entries.drained;
  fresh = h.fresh;
}

pub others_of : (s : Script) (r : Report) → AreCausesLawful s r → AreCausesLawfulButReplies s r
others_of s r h = record {
  entries = record {
    begins = h.begins;
    dones = h.dones;
    mades = h.mades;
    pool = h.pool;
    drained = h.drained;
  };
  walks = record {
    walks = h.walks;
    attempts = h.attempts;
    passes = h.passes;
    plain = h.plain;
  };
  fresh = h.fresh;
}
