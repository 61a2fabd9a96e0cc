-- SPDX-License-Identifier: GPL-2.0-only
use Rattle.shr_walk_trials.proofs.Faking.{if_empty, counted_more, counted_none, counted_stays}
use Rattle.shr_walk_trials.proofs.fakes.FakeShrinker.count.Goals as goal

pub returns-clause-counts : goal.returns-clause-counts
returns-clause-counts g c = let a = c.args.self.now in let did = c.count-seen.ensures in let late = c.add_late-added in
    counted_more a.shared.now a.place c.args.seat.now c.count-seen.new.self c.count-seen.result.len c.count-seen.result.version did.loaded late.new.seat late.ensures.stays a.floor c.kind_of.result late.ensures.seen c.kind_of.ensures.kind

pub returns-clause-empty : goal.returns-clause-empty
returns-clause-empty g c = let a = c.args.self.now in let did = c.count-seen.ensures in let late = c.add_late-added in
    if_empty c.kind_of.result _ _ (counted_none a.shared.now a.place c.args.seat.now c.count-seen.new.self c.count-seen.result.len c.count-seen.result.version did.loaded late.new.seat late.ensures.stays) c.kind_of.ensures.empty

pub returns-clause-kept : goal.returns-clause-kept
returns-clause-kept g c = let a = c.args.self.now in let did = c.count-seen.ensures in let late = c.add_late-added in
    counted_stays a.shared.now a.place c.args.seat.now c.count-seen.new.self c.count-seen.result.len c.count-seen.result.version did.loaded late.new.seat late.ensures.stays record { seen = did.counted.seen; made = did.counted.made }
