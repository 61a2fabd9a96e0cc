-- SPDX-License-Identifier: GPL-2.0-only
-- The law on replies, from what is tested of it and back.
use Rattle.shr_audit_replies.proofs.Common.{Script, Report, AreValuesLent, AreRepliesLawfulButValues}
use Rattle.shr_laws.specs.Replies.{AreRepliesLawful}
use Rattle.shr_audit_replies.proofs.Answering.{answers_whole, answers_without, values_of}

-- the law holds if and only if it does whatever values hits lend, and these are the right ones
pub lawful_of : (s : Script) (r : Report) → AreRepliesLawfulButValues s r → AreValuesLent s r → AreRepliesLawful s r
lawful_of s r h values = record {
  version = h.heads.sizes.version;
  nodes = h.heads.sizes.nodes;
  ids = h.heads.sizes.ids;
  paths = h.heads.paths;
  names = h.heads.names;
  pools = h.heads.pools;
  counts = h.counts;
  last = h.last;
  answered = answers_whole s r h.answered values;
  cited = h.cited;
  rise = h.rise;
}

-- what it says whatever values hits lend
pub but_values : (s : Script) (r : Report) → AreRepliesLawful s r → AreRepliesLawfulButValues s r
but_values s r h = record {
  heads = record { sizes = record { version = h.version; nodes = h.nodes; ids = h.ids }; paths = h.paths; names = h.names; pools = h.pools };
  counts = h.counts;
  last = h.last;
  answered = answers_without s r h.answered;
  cited = h.cited;
  rise = h.rise;
}

-- and the values that hits lend are the right ones where the law holds
pub values_lent : (s : Script) (r : Report) → AreRepliesLawful s r → AreValuesLent s r
values_lent s r h = values_of s r h.counts h.last h.answered
