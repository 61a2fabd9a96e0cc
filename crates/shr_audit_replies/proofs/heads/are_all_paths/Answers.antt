-- SPDX-License-Identifier: GPL-2.0-only
use Rattle.shr_audit_replies.proofs.Common.{map, GroupDecl}
use Rattle.shr_audit_replies.proofs.Mapped.{rooted}
use Rattle.shr_audit_replies.proofs.heads.are_all_paths.Goals as goal

pub returns : goal.returns
returns c = rooted c.are_paths-all.result c.root-item.result c.args.paths.now (map (λ (g : GroupDecl). g.path) c.args.groups.now) c.in-len1-up.len_at_least c.root-item.is (c.is_root.ensures.0 c.if-not-is_root.false) c.are_paths-all.ensures
