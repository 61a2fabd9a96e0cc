-- SPDX-License-Identifier: GPL-2.0-only
use Rattle.shr_worker.proofs.Common.{◌<◌, List, length, ap, sym, subst, ◌∙◌, arith, Place, Setting, home_place, room_of, content_of, Sizes, Acting, unfound, release_reply}
use Rattle.shr_plain.specs.Answers.{ReleaseGives}
use Rattle.shr_worker.specs.Plain.{worker_units_place}
use Rattle.shr_worker.proofs.Pooled.{of_script, pool_there, release_there}
use Rattle.shr_worker.proofs.pools.release.Goals as goal

pub units_place-place-requires : goal.units_place-place-requires
units_place-place-requires g c = let t = release_there (content_of c.args.worker.now.shared.script) c.args.node c.args.pool c.args.units c.requires.within in
    subst (λ (w : Acting). c.args.pool < length w.shared.script.pools.items) (sym c.worker.view_is) t.0.in_pool

pub release-answer-requires-clause-pool : goal.release-answer-requires-clause-pool
release-answer-requires-clause-pool g c = let t = release_there (content_of c.args.worker.now.shared.script) c.args.node c.args.pool c.args.units c.requires.within in pool_there c.args.worker.now.shared.script c.args.plain.now.pools c.requires.pools c.args.pool c.args.node t.0.in_pool t.0.on_node

pub release-answer-requires-clause-units : goal.release-answer-requires-clause-units
release-answer-requires-clause-units g c = let t = release_there (content_of c.args.worker.now.shared.script) c.args.node c.args.pool c.args.units c.requires.within in (t.1, t.2)

pub release_reply-requires : goal.release_reply-requires
release_reply-requires g c = let t = release_there (content_of c.args.worker.now.shared.script) c.args.node c.args.pool c.args.units c.requires.within in
    let there = (pool_there c.args.worker.now.shared.script c.args.plain.now.pools c.requires.pools c.args.pool c.args.node t.0.in_pool t.0.on_node).pool in
    let same = ap (λ (x : Place). x.id) c.units_place-place.ensures in let low = c.args.plain.now.pools.pools in let few = c.args.plain.now.pools.ids.1 in omega (arith, there, same, low, few)

pub returns : goal.returns
returns g c = let s = c.args.worker.now.shared.script in let old = c.args.plain.now in let p = old.pools in let pool = c.args.pool in let node = c.args.node in let did = c.release-answer.ensures.released in let new = c.release-answer.new.self in record {
  releases = record {
    did = record {
      answer = c.release-answer.result;
      told = c.unfound.ensures ∙ ap unfound (c.release_reply.ensures ∙ ap (λ (x : Place). release_reply x c.release-answer.result) (c.units_place-place.ensures ∙ ap (λ (w : Acting). worker_units_place w.shared.script pool node) c.worker.view_is));
      released = of_script s p c.requires.pools (λ (l : List Setting) (z : Sizes). ReleaseGives (home_place l pool node) (room_of l z pool node) c.args.worker.now.by c.args.units c.release-answer.result old.state new.state)
          (subst (λ (w : Acting). ReleaseGives (home_place p.settings.items pool node) (room_of p.settings.items p.sizes pool node) w.by c.args.units c.release-answer.result old.state new.state) c.worker.view_is did.did);
    };
    rest = did.rest;
  };
}
