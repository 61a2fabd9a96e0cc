-- SPDX-License-Identifier: GPL-2.0-only
use Rattle.shr_audit_replies.proofs.Common.{fails, HasNames, HasPaths, HasSizes, HasHeads}
use Rattle.shr_audit_replies.proofs.law.has_heads.Goals as goal

pub returns-then-not-has_sizes : goal.returns-then-not-has_sizes
returns-then-not-has_sizes c = fails (HasSizes c.args.script.now c.args.report.now) (HasHeads c.args.script.now c.args.report.now) c.has_sizes.result c.has_sizes.ensures c.if-not-has_sizes.true (λ h. h.sizes)

pub returns-then-not-has_paths : goal.returns-then-not-has_paths
returns-then-not-has_paths c = fails (HasPaths c.args.script.now c.args.report.now) (HasHeads c.args.script.now c.args.report.now) c.has_paths.result c.has_paths.ensures c.if-not-has_paths.true (λ h. h.paths)

pub returns-then-not-has_names : goal.returns-then-not-has_names
returns-then-not-has_names c = fails (HasNames c.args.script.now c.args.report.now) (HasHeads c.args.script.now c.args.report.now) c.has_names.result c.has_names.ensures c.if-not-has_names.true (λ h. h.names)

pub returns : goal.returns
returns c = (
  λ t. record {
    sizes = c.has_sizes.ensures.0 c.if-not-has_sizes.false;
    paths = c.has_paths.ensures.0 c.if-not-has_paths.false;
    names = c.has_names.ensures.0 c.if-not-has_names.false;
    pools = c.has_pool_names-pools.ensures.0 t;
  },
  λ h. c.has_pool_names-pools.ensures.1 h.pools,
)
