-- SPDX-License-Identifier: GPL-2.0-only
use Rattle.shr_plain.proofs.Common.{◌≡◌, ℕ, sym, subst, ◌∙◌, List, Place, MatchPass, Scans, asks_due, ScanAnswer, ScanSeen, TellsUnits, scans_of, part_of, setting_of, home_place, room_of, PassGives, Setting, ActsPlain, plain_seated}
use Rattle.shr_plain.proofs.Passing.{pass_gives}
use Rattle.shr_plain.proofs.SeatLaws.{at_row}
use Rattle.shr_plain.proofs.table.PlainSeat.pass.Goals as goal

pub returns-clause-passed : goal.returns-clause-passed
returns-clause-passed g c = let did = c.shrink_once.ensures in let pools = c.self.inside.pools.now in let s = c.self.inside.units in let t = c.shrink_once.new.seat in let d = c.self.inside.deferred in let e = c.shrink_once.new.dseat in let walks = c.self.inside.walks in let place = c.place-place.result in let row : ℕ = c.row.result in let answer = c.shrink_once.result in
    let setting : Setting = setting_of c.as_slice.result.now c.args.pool in rw (← c.self.view_is)
    (subst (λ (l : List Setting). ActsPlain (PassGives (setting_of l c.args.pool) (home_place pools.settings.items c.args.pool c.args.walk.node) (room_of pools.settings.items pools.sizes c.args.pool c.args.walk.node) c.args.walk.by.worker c.args.walk.number c.args.walk.priority answer) (plain_seated pools s d walks) (plain_seated pools t e walks)) c.as_slice.ensures
    (at_row (λ (p : Place) (i : ℕ). ActsPlain (PassGives setting p i c.args.walk.by.worker c.args.walk.number c.args.walk.priority answer) (plain_seated pools s d walks) (plain_seated pools t e walks)) pools.sizes _ _ _ c.row.ensures.row c.place-place.ensures.place
    (pass_gives setting place row c.args.walk.by.worker c.args.walk.number c.args.walk.priority s t did.kept _ _ answer pools d e walks
    (sym (did.same.counts t) ∙ did.counts)
    did.record
    (subst (λ (l : List ScanSeen). MatchPass answer (l ≡ scans_of c.args.walk.by.worker c.args.walk.number (part_of s.me.0 row).made) (λ p. Scans (λ (a : ScanAnswer). TellsUnits place a (part_of t.me.0 row)) (scans_of c.args.walk.by.worker c.args.walk.number (part_of s.me.0 row).made) l (asks_due c.args.walk.priority setting.seeks setting.batch p) p.asks p.closed p.freed)) (did.same.scans t) did.scans)
    did.ending
    did.between
    did.deferred)))
